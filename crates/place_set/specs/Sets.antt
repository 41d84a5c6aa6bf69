-- A set of places as a state: what is in the set works.
use Rattle.std.specs.Prelude.{◌≡◌, ℕ, ◌/◌, ◌%◌, ◌^◌, ◌<◌, ◌≤◌, Bool, true, not, ◌&&◌, ◌||◌, ◌==◌, nat_lt}
use Rattle.rules.specs.Trees.{State}
use Rattle.sums.specs.States.{range, count}
use Rattle.place_set.specs.declared.PlaceSet.{PlaceSet}

-- bit i of the mask
abbrev pub bit : ℕ → State
bit mask i = mask / 2 ^ i % 2 == 1

-- whether the place i is in the set
abbrev pub members : PlaceSet → State
members set = bit set.mask

-- the places 0 to 15
abbrev pub is_place : ℕ → Bool
is_place i = nat_lt i 16

-- the places of s and the place i, if there is one
abbrev pub adding : ℕ → State → State
adding i s n = (i == n && is_place n) || s n

-- the places of s, of t, or of both
abbrev pub either : State → State → State
either s t n = s n || t n

-- the places of both
abbrev pub both : State → State → State
both s t n = s n && t n

-- the places of s that are not in t
abbrev pub less : State → State → State
less s t n = s n && not (t n)

-- the places that are not in s
abbrev pub others : State → State
others s n = is_place n && not (s n)

-- how many places are in the set
unfoldable pub size : State → ℕ
size s = count s (range 0 16)

-- every place of s is in t: where s is a state, t works wherever s does
abbrev pub Within : State → State → Type 0
Within s t = (i : ℕ) → s i ≡ true → t i ≡ true

-- by their masks, t is the next subset of the set below s
pub record NextBelow (set s t : PlaceSet) : Type 0 where
  pub subset : Within (members t) (members set)
  pub lower : t.mask < s.mask
  pub highest : (u : PlaceSet) → Within (members u) (members set) → u.mask < s.mask → u.mask ≤ t.mask
