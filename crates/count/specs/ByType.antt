-- The places of a plan, sorted by type.
use Rattle.std.specs.Prelude.{◌≡◌, ◌<◌, ◌≤◌, Result, MatchResult}
use Rattle.rules.specs.ByType.{of_type}
use Rattle.rules.specs.declared.by_type.ByType.{ByType}
use Rattle.rules.specs.declared.item_type.ItemType.{ItemType}
use Rattle.rules.specs.declared.refusal.Refusal.{Refusal}
use Rattle.rules.specs.declared.refusal.Refusal.TheVariants.{TooManyPlaces}
use Rattle.rules.specs.Trees.{State}
use Rattle.plan.specs.Plans.{Structure}
use Rattle.place_set.specs.declared.PlaceSet.{PlaceSet}
use Rattle.place_set.specs.Sets.{members, either}
use Rattle.count.specs.Counts.{is_of_type, places_of}

-- the places of the type, where there are at most 7, and a refusal where there are more
abbrev pub FewOfType : Structure → ItemType → Result PlaceSet Refusal → Type 0
FewOfType p t r = MatchResult r (λ places. (places_of p t ≤ 7) × (members places ≡ is_of_type p t)) (λ e. (7 < places_of p t) × (e ≡ TooManyPlaces))

-- each set has the places of its type
abbrev pub Sorted : Structure → ByType PlaceSet → Type 0
Sorted p places = (t : ItemType) → members (of_type places t) ≡ is_of_type p t

-- the places of any type
abbrev pub some_type : ByType PlaceSet → State
some_type places = either (either (members places.one) (members places.two)) (members places.three)
