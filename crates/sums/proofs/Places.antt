-- The sums of a standing line, over the states of its items' places.
use Rattle.std.proofs.Common.{◌≡◌, ℕ, ◌<◌, ◌≤◌, true, is_some, ap}
use Rattle.rules.specs.History.{given, standing}
use Rattle.rules.specs.Trees.{items, tree_of, type_in}
use Rattle.rules.proofs.Sound.{sound, some_low, some_positive}
use Rattle.sums.specs.Semiring.{Meaning, Semiring}
use Rattle.sums.specs.Members.{◌∈◌}
use Rattle.sums.specs.Places.{rising_in, PlacesStand}
use Rattle.sums.proofs.Order.{order_stands_lem}
use Rattle.sums.proofs.Rising.{rising_stands_lem}
use Rattle.sums.proofs.Forest.{tree_stands, tree_once, item_stands}

pub places_stand_lem : {F : Type 0} {m : Meaning F} → Semiring m → PlacesStand m
places_stand_lem laws h l n e =
    let stands : (i : ℕ) → i ∈ items (tree_of h n) → is_some (standing h i) ≡ true = λ i m. ap is_some (item_stands h (tree_of h n) n (tree_stands h l n e) i m).1 in
    let within : (i : ℕ) → i ∈ items (tree_of h n) → (0 < i) × (i ≤ given h) = λ i m.
    (some_positive (standing h) (given h) (sound h l) i (stands i m), some_low (standing h) (given h) (sound h l) i (stands i m)) in
    let r = rising_stands_lem (given h) (items (tree_of h n)) in
    record {
      rising = r.rising;
      alike = r.alike within;
      working = (order_stands_lem laws).working (type_in h) (tree_of h n) (tree_once h l n e) (rising_in h n) r.distinct (r.alike within);
      failing = (order_stands_lem laws).failing (type_in h) (tree_of h n) (tree_once h l n e) (rising_in h n) r.distinct (r.alike within);
    }
