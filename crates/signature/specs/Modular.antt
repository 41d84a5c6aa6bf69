-- Numbers that are the same modulo 65,536.
use Rattle.std.specs.Prelude.{ℕ, zero, suc, ◌+◌, ◌*◌, ◌%◌, ◌≤◌}
use Rattle.std.proofs.Common.{sym, ap₂, ◌∙◌, arith}
use Rattle.std.proofs.Math.Nat.{add-mod}
use Rattle.std.proofs.lemmas.Nat.{mul-mod}
use Rattle.signature.specs.Polynomials.{sum_to}
use Rattle.signature.specs.Steps.{Same}

pub same_plus : (x x' y y' : ℕ) → Same x x' → Same y y' → Same (x + y) (x' + y')
same_plus x x' y y' p q = add-mod x y 65536 ∙ ap₂ (λ a b. (a + b) % 65536) p q ∙ sym (add-mod x' y' 65536)

pub same_times : (x x' y y' : ℕ) → Same x x' → Same y y' → Same (x * y) (x' * y')
same_times x x' y y' p q = mul-mod x y 65536 ∙ ap₂ (λ a b. a * b % 65536) p q ∙ sym (mul-mod x' y' 65536)

pub same_sum : (n : ℕ) (f g : ℕ → ℕ) → ((i : ℕ) → i ≤ n → Same (f i) (g i)) → Same (sum_to n f) (sum_to n g)
same_sum zero f g h = h 0 (omega arith)
same_sum (suc n) f g h = same_plus (sum_to n f) (sum_to n g) (f (suc n)) (g (suc n)) (same_sum n f g (λ i le. h i (omega arith))) (h (suc n) (omega arith))
