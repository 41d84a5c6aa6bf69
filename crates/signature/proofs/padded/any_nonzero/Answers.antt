use Rattle.std.proofs.Common.{◌≡◌, ℕ, zero, suc, ◌<◌, false, not, eqb, List, [], ◌∷◌, length, get_or, fold, sym, refl, ap, ◌∙◌, arith, rules}
use lib.Bits.{bit_or, or_add_and}
use Rattle.std.proofs.lemmas.Bool.Decides.{nat_tests}
use Rattle.std.proofs.lemmas.Nat.{and_le_l, and_le_r}
use Rattle.signature.proofs.padded.any_nonzero.Goals as goal

zero_or : (x y : ℕ) → bit_or x y ≡ 0 → (x ≡ 0) × (y ≡ 0)
zero_or x y e =
    let sum = or_add_and x y in
    let left = and_le_l x y in
    let right = and_le_r x y in
    (omega arith, omega arith)

-- the bits of all the numbers together
all_zero : (xs : List ℕ) (a : ℕ) → fold bit_or a xs ≡ 0 → (a ≡ 0) × ((k d : ℕ) → k < length xs → get_or xs k d ≡ 0)
all_zero [] a e = (e, λ k d lt. absurd (omega arith))
all_zero (x ∷ xs) a e =
    let rest = all_zero xs (bit_or a x) e in
    let here = zero_or a x rest.0 in
    (here.0, each here.1 rest.1)
  where
    each : x ≡ 0 → ((k d : ℕ) → k < length xs → get_or xs k d ≡ 0) → (k d : ℕ) → k < length (x ∷ xs) → get_or (x ∷ xs) k d ≡ 0
    each here rest zero d lt = here
    each here rest (suc k) d lt = rest k d (omega arith)

zero_all : (xs : List ℕ) (a : ℕ) → a ≡ 0 → ((k d : ℕ) → k < length xs → get_or xs k d ≡ 0) → fold bit_or a xs ≡ 0
zero_all [] a e each = e
zero_all (x ∷ xs) a e each =
    let first : x ≡ 0 = each 0 0 (omega arith) in
    zero_all xs (bit_or a x) (ap (λ n. bit_or n x) e ∙ ap (bit_or 0) first) (λ k d lt. each (suc k) d (omega arith))

is_zero : (n : ℕ) → not (eqb n 0) ≡ false → n ≡ 0
is_zero n none = grind (arith, nat_tests)

pub returns : goal.returns
returns c =
    let row = c.args.row.now in
    let e : c.fold.result ≡ fold bit_or 0 row = search rules in (
      λ none. (all_zero row 0 (sym e ∙ is_zero c.fold.result none)).1,
      λ all. ap (λ n. not (eqb n 0)) (e ∙ zero_all row 0 refl all),
    )
