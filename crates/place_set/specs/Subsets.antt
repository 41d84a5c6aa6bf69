-- The subsets of a set of places, in falling order of their masks.
use Rattle.std.specs.Prelude.{ℕ, zero, suc, Bool, List, [], ◌∷◌, Some, None, Option, bit_and, ◌==◌}
use Rattle.sums.specs.States.{keep}
use Rattle.place_set.specs.declared.PlaceSet.{PlaceSet}
use Rattle.place_set.specs.declared.Subsets.{Subsets}

-- the sets whose masks are below n
abbrev pub sets_below : ℕ → List PlaceSet
sets_below zero = []
sets_below (suc n) = record { mask = n } ∷ sets_below n

-- whether every place of t is in the set
abbrev pub is_subset : PlaceSet → PlaceSet → Bool
is_subset set t = bit_and t.mask set.mask == t.mask

-- the subsets of the set, each once
unfoldable pub subsets_of : PlaceSet → List PlaceSet
subsets_of set = keep (is_subset set) (sets_below 65536)

-- the subsets of the set from the next one on
abbrev pub subsets_from : PlaceSet → Option PlaceSet → List PlaceSet
subsets_from set None = []
subsets_from set (Some next) = keep (is_subset set) (sets_below (suc next.mask))

-- the subsets that are still to come
abbrev pub subsets_left : Subsets → List PlaceSet
subsets_left s = subsets_from s.whole s.next
