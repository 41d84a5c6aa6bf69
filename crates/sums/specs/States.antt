-- All states of some items, and sums over lists.
use Rattle.std.specs.Prelude.{ℕ, zero, suc, ◌+◌, Bool, true, false, cond, List, [], ◌∷◌, ◌++◌, ◌==◌}
use Rattle.rules.specs.Trees.{State}

-- the state in which nothing works
abbrev pub all_failed : State
all_failed n = false

-- the state s, but for the item i, which is as v says
abbrev pub put : ℕ → Bool → State → State
put i v s n = cond (i == n) v (s n)

-- every state of the items is, one by one; all else is as in s
abbrev pub states : List ℕ → State → List State
states [] s = s ∷ []
states (i ∷ is) s = states is (put i true s) ++ states is (put i false s)

-- f of each element of the list, put together by op
abbrev pub total : {A F : Type 0} → F → (F → F → F) → (A → F) → List A → F
total start op f [] = start
total start op f (x ∷ xs) = op (f x) (total start op f xs)

-- the n numbers from k on
abbrev pub range : ℕ → ℕ → List ℕ
range k zero = []
range k (suc n) = k ∷ range (suc k) n

-- the elements that pass the test
abbrev pub keep : {A : Type 0} → (A → Bool) → List A → List A
keep p [] = []
keep p (x ∷ xs) = cond (p x) (x ∷ keep p xs) (keep p xs)

-- how many elements of the list pass the test
abbrev pub count : {A : Type 0} → (A → Bool) → List A → ℕ
count p [] = 0
count p (x ∷ xs) = cond (p x) 1 0 + count p xs

-- how many states of the items pass the test
abbrev pub states_passing : List ℕ → (State → Bool) → ℕ
states_passing is p = count p (states is all_failed)
