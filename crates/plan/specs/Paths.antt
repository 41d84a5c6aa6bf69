-- Path lists: which are refused, and in which states one works.
use Rattle.std.specs.Prelude.{◌≡◌, ℕ, zero, suc, ◌<◌, ◌≤◌, Bool, true, false, not, ◌&&◌, ◌||◌, List, [], ◌∷◌, ◌++◌, length, map, is_some, None, Option, Result, MatchResult, slice_index, slice_index_or}
use Rattle.std.specs.List.{list_any, list_all}
use Rattle.rules.specs.declared.item_type.ItemType.{ItemType}
use Rattle.rules.specs.declared.refusal.Refusal.{Refusal}
use Rattle.rules.specs.declared.refusal.Refusal.TheVariants.{UnknownType, NoPath, EmptyPath, EmptyPlace, TooManyPaths}
use Rattle.rules.specs.Rules.{Rule, ◌when◌}
use Rattle.rules.specs.Trees.{State}
use Rattle.rules.specs.Types.{type_numbered}
use Rattle.place_set.specs.declared.PlaceSet.{PlaceSet}
use Rattle.place_set.specs.Sets.{members}
use Rattle.plan.specs.Plans.{Structure}

-- the answer where the number n is to be a place's, which is 0 if the place is empty
abbrev pub PlaceTyped : ℕ → Result (Option ItemType) Refusal → Type 0
PlaceTyped n r = MatchResult r (λ t. (n ≤ 3) × (t ≡ type_numbered n)) (λ e. (3 < n) × (e ≡ UnknownType))

-- the types of the places with these numbers
abbrev pub types_of : List ℕ → List (Option ItemType)
types_of numbers = map type_numbered numbers

-- the type at the place i, if it has one
abbrev pub type_at : List (Option ItemType) → ℕ → Option ItemType
type_at types i = slice_index_or types i None

-- each number below n passes the test
abbrev pub all_below : ℕ → (ℕ → Bool) → Bool
all_below zero p = true
all_below (suc n) p = all_below n p && p n

-- each place that the path names is in s
abbrev pub covers : State → PlaceSet → Bool
covers s path = all_below 16 (λ i. not (members path i) || s i)

-- the plan of a path list: some path has all its places working
abbrev pub plan_of_paths : List (Option ItemType) → List PlaceSet → Structure
plan_of_paths types paths = record { types = type_at types; works = λ s. list_any (covers s) paths }

-- no path names an empty place
abbrev pub all_filled : List (Option ItemType) → List PlaceSet → Bool
all_filled types paths = list_all (covers (λ i. is_some (type_at types i))) paths

-- why the numbers of the places' types are refused
abbrev pub type_rules : List ℕ → List Rule
type_rules numbers = UnknownType when ((i : ℕ) × (i < 16) × (3 < slice_index numbers i)) ∷ []

-- why a path is refused
abbrev pub path_rules : List (Option ItemType) → PlaceSet → List Rule
path_rules types path =
    EmptyPath when ((i : ℕ) → members path i ≡ false)
    ∷ EmptyPlace when ((i : ℕ) × (members path i ≡ true) × (type_at types i ≡ None))
    ∷ []

-- path by path: the first path with a fault decides
abbrev pub each_path : List (Option ItemType) → List PlaceSet → List Rule
each_path types [] = []
each_path types (path ∷ paths) = path_rules types path ++ each_path types paths

-- why a path list is refused, from the numbers of its places' types
abbrev pub path_list_rules : List ℕ → List PlaceSet → List Rule
path_list_rules numbers paths =
    type_rules numbers
    ++ NoPath when (length paths ≡ 0)
    ∷ TooManyPaths when (64 < length paths)
    ∷ each_path (types_of numbers) paths
