-- What rounding keeps of two bounds, over any S.
use Rattle.std.proofs.Common.{◌≡◌, ℕ, suc, ◌+◌, ◌-◌, ◌*◌, ◌/◌, ◌<◌, ◌≤◌, sym, refl, ap, ◌∙◌, ap₂, le_trans, mul-le-mul_right, add-mul, mul-le-mul, lt_of_mul-lt-mul_right, mul-le-mul_left, sub-add_cancel, div-mul-le_self, le_of_mul-le-mul_right, arith}
use native.Mathlib.Nat.{lt-div-mul-add}

module _ (S : ℕ) (pos : 0 < S) where
  -- of a line with the power p of S: its bounds l and u, at most j apart, and its working and failing sums w and f
  pub record Bounded (p l u w f j : ℕ) : Type 0 where
    pub order : l ≤ u
    pub top : u ≤ S
    pub below : l * p ≤ w
    pub above : w ≤ u * p
    pub all : w + f ≡ S * p
    pub near : u ≤ l + j

  abbrev pub up : ℕ → ℕ
  up x = (x + (S - 1)) / S

  up_above : (x : ℕ) → x ≤ up x * S
  up_above x = omega (arith, lt-div-mul-add {a = x + (S - 1)} pos)

  up_near : (x : ℕ) → up x * S < x + S
  up_near x = omega (arith, div-mul-le_self (x + (S - 1)) S)

  le_of_mul_lt : (a b : ℕ) → a * S < (b + 1) * S → a ≤ b
  le_of_mul_lt a b h = let k : a < b + 1 = lt_of_mul-lt-mul_right S h in omega arith

  -- working and failing change places
  pub dual : {p l u w f j : ℕ} → Bounded p l u w f j → Bounded p (S - u) (S - l) f w j
  dual {p} {l} {u} {w} {f} {j} x =
      let a : (S - u) * p + u * p ≡ S * p = sym (add-mul (S - u) u p) ∙ ap (λ n. n * p) (sub-add_cancel x.top) in
      let b : (S - l) * p + l * p ≡ S * p = sym (add-mul (S - l) l p) ∙ ap (λ n. n * p) (sub-add_cancel (le_trans x.order x.top)) in
      record {
        order = omega (arith, x.order);
        top = omega arith;
        below = omega (arith, x.above, x.all);
        above = omega (arith, x.below, x.all);
        all = omega (arith, x.all);
        near = omega (arith, x.near, x.top, x.order);
      }

  -- the products of the bounds, the low rounded down and the high rounded up, are bounds again
  pub bounded_series : {p l u w f j p' l' u' w' f' j' : ℕ} → Bounded p l u w f j → Bounded p' l' u' w' f' j'
      → Bounded (S * (p * p')) (l * l' / S) (up (u * u')) (w * w') (w * f' + f * (w' + f')) (suc (j + j'))
  bounded_series {p} {l} {u} {w} {f} {j} {p'} {l'} {u'} {w'} {f'} {j'} x y =
      let q : ℕ = l * l' / S in
      let c : ℕ = up (u * u') in
      let qs : q * S ≤ l * l' = div-mul-le_self (l * l') S in
      let qn : l * l' < q * S + S = lt-div-mul-add pos in
      let cs : u * u' ≤ c * S = up_above (u * u') in
      let cn : c * S < u * u' + S = up_near (u * u') in
      let lu : l * l' ≤ u * u' = mul-le-mul x.order y.order in
      record {
        order = le_of_mul-le-mul_right (le_trans qs (le_trans lu cs)) pos;
        top = le_of_mul_lt c S (omega (arith, mul-le-mul x.top y.top));
        below = le_trans (omega (arith, mul-le-mul_right (p * p') qs)) (mul-le-mul x.below y.below);
        above = le_trans (mul-le-mul x.above y.above) (omega (arith, mul-le-mul_right (p * p') cs));
        all = omega (arith, ap₂ ◌*◌ x.all y.all);
        near = le_of_mul_lt c (q + suc (j + j')) (omega (arith, mul-le-mul_left u y.near, mul-le-mul_right l' x.near, mul-le-mul_right j' x.top, mul-le-mul_left j (le_trans y.order y.top)));
      }

  -- the same sums and the same power, written in another way
  pub moved : {p l u w f j p' w' f' : ℕ} → p ≡ p' → w ≡ w' → f ≡ f' → Bounded p' l u w' f' j → Bounded p l u w f j
  moved e g k x = rw (e, g, k) x

  -- a parallel block fails as a series block works
  pub bounded_parallel : {p l u w f j p' l' u' w' f' j' : ℕ} → Bounded p l u w f j → Bounded p' l' u' w' f' j'
      → Bounded (S * (p * p')) (S - up ((S - l) * (S - l'))) (S - (S - u) * (S - u') / S) (w * (w' + f') + f * w') (f * f') (suc (j + j'))
  bounded_parallel {p} {l} {u} {w} {f} {j} {p'} {l'} {u'} {w'} {f'} {j'} x y =
      moved refl (omega arith) refl (dual (bounded_series (dual x) (dual y)))
