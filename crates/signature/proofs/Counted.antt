-- The signature's sums over states count states: each state's weight is a product of variables.
use Rattle.std.proofs.Common.{◌≡◌, ℕ, suc, ◌+◌, ◌-◌, ◌*◌, ◌%◌, ◌<◌, ◌≤◌, Bool, true, false, cond, not, ◌&&◌, eqb, ◌⊎◌, List, [], ◌∷◌, Some, None, Option, sym, refl, ap, ◌∙◌, ap₂, inl, inr, one-mul, zero-add, zero-mul, arith}
use mathlib.Core.Path.{fun_ext}
use Rattle.std.proofs.lemmas.Bool.{cases_lt}
use Rattle.std.proofs.lemmas.Bool.Decides.{nat_tests}
use Rattle.rules.specs.declared.item_type.ItemType.{ItemType}
use Rattle.rules.specs.declared.item_type.ItemType.TheVariants.{One, Two, Three}
use Rattle.rules.specs.Trees.{State, items, works}
use Rattle.sums.specs.States.{all_failed, states, total, keep, count, states_passing}
use Rattle.sums.specs.ByType.{is_type, working_of, numbers_work}
use Rattle.sums.specs.Sums.{figure, weight, sum_over}
use Rattle.cells.specs.declared.table.CellTable.{CellTable}
use Rattle.cells.specs.Tables.{table_of, at}
use Rattle.cells.proofs.Tables.{cell_of}
use Rattle.signature.specs.Polynomials.{Polynomial, sum_to, one_at, sum_of, product_of, polynomials}
use Rattle.signature.specs.Signature.{signature}
use Rattle.signature.specs.Counted.{SignatureStands}
use Rattle.signature.proofs.Sums.{all_zero, only_at, sum_whole}
use Rattle.signature.proofs.Adds.{at_cell_here, at_cell_elsewhere}
use Rattle.signature.specs.Laws.{table_of_sum, table_of_product}

-- sums to a number with one term at most
sum_to_only : (n m : ℕ) (f : ℕ → ℕ) → m ≤ n → ((i : ℕ) → i ≤ n → (i ≡ m → ⊥) → f i ≡ 0) → sum_to n f ≡ f m
sum_to_only n m f le rest = sym (sum_whole n f) ∙ only_at (suc n) m f (omega arith) (λ i lt ne. rest i (omega arith) ne)

sum_to_zero : (n : ℕ) (f : ℕ → ℕ) → ((i : ℕ) → i ≤ n → f i ≡ 0) → sum_to n f ≡ 0
sum_to_zero n f all = sym (sum_whole n f) ∙ all_zero (suc n) f (λ i lt. all i (omega arith))

-- the product of two products of variables
module _ (i j k i' j' k' a b c : ℕ) where
  no_term : (l m n : ℕ) → (i ≡ l → j ≡ m → k ≡ n → ⊥) → one_at i j k l m n * one_at i' j' k' (a - l) (b - m) (c - n) ≡ 0
  no_term l m n apart =
      ap (λ x. x * one_at i' j' k' (a - l) (b - m) (c - n)) (at_cell_elsewhere i j k 1 l m n apart) ∙ zero-mul (one_at i' j' k' (a - l) (b - m) (c - n))

  within : ((i ≤ a) × (j ≤ b) × (k ≤ c)) ⊎ (i ≤ a → j ≤ b → k ≤ c → ⊥)
  within = elim (cases_lt a i) [
    | inl lt ↦ inr (λ ia jb kc. omega arith)
    | inr ia ↦ elim (cases_lt b j) [
      | inl lt ↦ inr (λ ia jb kc. omega arith)
      | inr jb ↦ elim (cases_lt c k) [ inl lt ↦ inr (λ ia jb kc. omega arith) | inr kc ↦ inl (ia, jb, kc) ]
    ]
  ]

  shifted : i ≤ a → j ≤ b → k ≤ c → one_at i' j' k' (a - i) (b - j) (c - k) ≡ one_at (i + i') (j + j') (k + k') a b c
  shifted ia jb kc =
      let ea : eqb i' (a - i) ≡ eqb (i + i') a = grind (arith, nat_tests) in
      let eb : eqb j' (b - j) ≡ eqb (j + j') b = grind (arith, nat_tests) in
      let ec : eqb k' (c - k) ≡ eqb (k + k') c = grind (arith, nat_tests) in
      rw (ea, eb, ec) refl

  one_times_one : product_of (one_at i j k) (one_at i' j' k') a b c ≡ one_at (i + i') (j + j') (k + k') a b c
  one_times_one = elim within [
    | inl here ↦
        sum_to_only a i _ here.0 (λ l le ne. sum_to_zero b _ (λ m ml. sum_to_zero c _ (λ n nl. no_term l m n (λ el em en. ne (sym el)))))
        ∙ sum_to_only b j _ here.1 (λ m le ne. sum_to_zero c _ (λ n nl. no_term i m n (λ el em en. ne (sym em))))
        ∙ sum_to_only c k _ here.2 (λ n le ne. no_term i j n (λ el em en. ne (sym en)))
        ∙ ap (λ x. x * one_at i' j' k' (a - i) (b - j) (c - k)) (at_cell_here i j k 1 i j k refl refl refl)
        ∙ one-mul (one_at i' j' k' (a - i) (b - j) (c - k))
        ∙ shifted here.0 here.1 here.2
    | inr out ↦
        sum_to_zero a _ (λ l ll. sum_to_zero b _ (λ m ml. sum_to_zero c _ (λ n nl. no_term l m n (λ el em en. out (omega arith) (omega arith) (omega arith)))))
        ∙ sym (at_cell_elsewhere (i + i') (j + j') (k + k') 1 a b c (λ ea eb ec. out (omega arith) (omega arith) (omega arith)))
  ]

-- 1 for a working item of the type t, and 0 for every other
abbrev one_if : ItemType → Option ItemType → Bool → ℕ
one_if t o v = cond (is_type t o && v) 1 0

figure_one : (o : Option ItemType) (v : Bool) → figure polynomials o v ≡ one_at (one_if One o v) (one_if Two o v) (one_if Three o v)
figure_one None v = refl
figure_one (Some One) true = refl
figure_one (Some Two) true = refl
figure_one (Some Three) true = refl
figure_one (Some One) false = refl
figure_one (Some Two) false = refl
figure_one (Some Three) false = refl

module _ (types : ℕ → Option ItemType) where
  -- a state's weight has 1 at the numbers of working items
  weight_one : (is : List ℕ) (s : State) → weight polynomials types is s ≡ one_at (working_of types is One s) (working_of types is Two s) (working_of types is Three s)
  weight_one [] s = refl
  weight_one (i ∷ is) s =
      ap₂ product_of (figure_one (types i) (s i)) (weight_one is s)
      ∙ fun_ext (λ a. fun_ext (λ b. fun_ext (λ c.
      one_times_one (one_if One (types i) (s i)) (one_if Two (types i) (s i)) (one_if Three (types i) (s i))
      (working_of types is One s) (working_of types is Two s) (working_of types is Three s) a b c)))

  -- a sum of weights counts states
  total_counts : (is : List ℕ) (p : State → Bool) (a b c : ℕ) (ss : List State)
      → total polynomials.none polynomials.plus (weight polynomials types is) (keep p ss) a b c ≡ count (λ s. p s && numbers_work types is a b c s) ss
  total_counts is p a b c [] = refl
  total_counts is p a b c (s ∷ ss) = by (p s) (total_counts is p a b c ss)
    where
      by : (v : Bool) → total polynomials.none polynomials.plus (weight polynomials types is) (keep p ss) a b c ≡ count (λ s. p s && numbers_work types is a b c s) ss
          → total polynomials.none polynomials.plus (weight polynomials types is) (cond v (s ∷ keep p ss) (keep p ss)) a b c
          ≡ cond (v && numbers_work types is a b c s) 1 0 + count (λ s. p s && numbers_work types is a b c s) ss
      by true rest = ap₂ ◌+◌ (ap (λ f. f a b c) (weight_one is s)) rest
      by false rest = rest ∙ sym (zero-add _)

-- tables of sums are sums of tables
total_table : {A : Type 0} (start : Polynomial) (op : Polynomial → Polynomial → Polynomial) (op' : CellTable → CellTable → CellTable)
    → ((f g : Polynomial) → op' (table_of f) (table_of g) ≡ table_of (op f g)) → (f' : A → CellTable) (f : A → Polynomial) → ((x : A) → f' x ≡ table_of (f x))
    → (xs : List A) → total (table_of start) op' f' xs ≡ table_of (total start op f xs)
total_table start op op' same f' f each [] = refl
total_table start op op' same f' f each (x ∷ xs) = ap₂ op' (each x) (total_table start op op' same f' f each xs) ∙ same (f x) (total start op f xs)

module _ (types : ℕ → Option ItemType) (is : List ℕ) where
  figure_table : (o : Option ItemType) (v : Bool) → figure signature o v ≡ table_of (figure polynomials o v)
  figure_table None v = refl
  figure_table (Some t) true = refl
  figure_table (Some t) false = refl

  weight_table : (s : State) → weight signature types is s ≡ table_of (weight polynomials types is s)
  weight_table s = total_table polynomials.unit product_of signature.times table_of_product _ (λ i. figure polynomials (types i) (s i)) (λ i. figure_table (types i) (s i)) is

  -- a sum over states, cell by cell
  pub sum_counts : (p : State → Bool) (a b c : ℕ) → a < 8 → b < 8 → c < 8
      → at (sum_over signature types is p) a b c ≡ states_passing is (λ s. p s && numbers_work types is a b c s) % 65536
  sum_counts p a b c al bl cl =
      ap (λ x. at x a b c) (total_table polynomials.none sum_of signature.plus table_of_sum _ (weight polynomials types is) weight_table (keep p (states is all_failed)))
      ∙ cell_of (sum_over polynomials types is p) a b c al bl cl
      ∙ ap (λ n. n % 65536) (total_counts types is p a b c (states is all_failed))

pub signature_stands_lem : SignatureStands
signature_stands_lem types x a b c al bl cl =
    (sum_counts types (items x) (works x) a b c al bl cl, sum_counts types (items x) (λ s. not (works x s)) a b c al bl cl)
