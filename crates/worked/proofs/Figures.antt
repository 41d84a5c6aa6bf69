-- The cheapest loss and the survival of the example's lines.
use Rattle.std.proofs.Common.{◌≡◌, ℕ, ◌+◌, ◌*◌, ◌≤◌, Bool, true, false, ◌&&◌, ◌||◌, is_some, Some, Option, sym, refl, ap, subst, inl, inr, ⊎_elim, arith, lit≤}
use Rattle.std.proofs.lemmas.Bool.{true≢false, cases_lt}
use Rattle.rules.specs.declared.by_type.ByType.{ByType}
use Rattle.rules.specs.declared.item_type.ItemType.{ItemType}
use Rattle.rules.specs.declared.item_type.ItemType.TheVariants.{One, Two, Three}
use Rattle.rules.specs.ByType.{of_type}
use Rattle.rules.specs.History.{standing}
use Rattle.rules.specs.Rules.{Allowed}
use Rattle.rules.specs.Ruled.{naming}
use Rattle.rules.specs.Trees.{Tree, tree_of, type_in}
use Rattle.sums.specs.States.{put, all_failed}
use Rattle.tally.specs.declared.prices.Prices.{Prices}
use Rattle.tally.specs.Pricing.{price_of, prices}
use Rattle.tally.specs.Losses.{item_loss, CheapestLoss}
use Rattle.tally.proofs.Losses.{cheapest_loss_stands_lem}
use Rattle.plan.specs.Deciding.{allowed_append}
use Rattle.survey.specs.Surveys.{sums_of}
use Rattle.survival.specs.LowHigh.{S, down, up, low, high, Encloses}
use Rattle.survival.specs.Ruled.{share_rules, survival_rules, SurvivalOf}
use Rattle.survival.proofs.Enclosing.{encloses}
use Rattle.worked.specs.Worked.{example, half_shares}
use Rattle.worked.proofs.Deciding.{name_allowed, lawful}

module _ (p : Prices) (one : price_of p One ≡ 40) (two : price_of p Two ≡ 25) where
  -- line 5 stops where 3 fails, and 1 or 2
  least : (x y z : Bool) → ((x && y) || z) ≡ false → 65 ≤ item_loss p (Some One) x + (item_loss p (Some One) y + (item_loss p (Some Two) z + 0))
  least true true z e = absurd (true≢false e)
  least true false true e = absurd (true≢false e)
  least true false false e = omega (arith, one, two)
  least false y true e = absurd (true≢false e)
  least false true false e = omega (arith, one, two)
  least false false false e = omega (arith, one, two)

  pub cheapest : CheapestLoss p (type_in example) (tree_of example 5) 65
  cheapest = record {
    reached = (put 2 true all_failed, refl, omega (arith, one, two));
    least = λ s e. least (s 1) (s 2) (s 3) e;
  }

-- there is one cheapest loss
pub only_cheapest : (p : Prices) (types : ℕ → Option ItemType) (x : Tree) (c d : ℕ) → CheapestLoss p types x c → CheapestLoss p types x d → c ≡ d
only_cheapest p types x c d k l =
    let (s, s-off, s-is) = k.reached in
    let (t, t-off, t-is) = l.reached in
    omega (arith, s-is, t-is, k.least t t-off, l.least s s-off)

pub failing_65 : (p : Prices) → price_of p One ≡ 40 → price_of p Two ≡ 25 → (sums_of (prices p) example 5).failing.value ≡ 65
failing_65 p one two =
    only_cheapest p (type_in example) (tree_of example 5) (sums_of (prices p) example 5).failing.value 65
    (cheapest_loss_stands_lem p (type_in example) (tree_of example 5) (lit≤ tt)) (cheapest p one two)

-- shares that may be used
share_limited : (s : ByType ℕ) → Allowed (share_rules s) → (t : ItemType) → of_type s t ≤ S
share_limited s a One = ⊎_elim (λ high. absurd (a.0 (inl high))) (λ e. e) (cases_lt S s.one)
share_limited s a Two = ⊎_elim (λ high. absurd (a.0 (inr (inl high)))) (λ e. e) (cases_lt S s.two)
share_limited s a Three = ⊎_elim (λ high. absurd (a.0 (inr (inr high)))) (λ e. e) (cases_lt S s.three)

survives : (s : ByType ℕ) → Allowed (share_rules s) → (n : ℕ) → is_some (standing example n) ≡ true → (l u : ℕ)
    → l ≡ low (of_type s) (type_in example) (tree_of example n) → u ≡ high (of_type s) (type_in example) (tree_of example n) → SurvivalOf example n s l u
survives s a n on l u low_is high_is =
    let types = type_in example in
    let x = tree_of example n in
    record {
      low_is = low_is;
      high_is = high_is;
      encloses =
          subst (λ (i : ℕ). Encloses (of_type s) types x i u) (sym low_is)
          (subst (λ (i : ℕ). Encloses (of_type s) types x (low (of_type s) types x) i) (sym high_is)
          (encloses (of_type s) (share_limited s a) example (lawful example refl) n on));
    }

halves : Allowed (share_rules half_shares)
halves = (⊎_elim (λ over. omega (arith, over)) (⊎_elim (λ over. omega (arith, over)) (λ over. omega (arith, over))), tt)

pub survival_of_5 : Allowed (survival_rules example 5 half_shares) × SurvivalOf example 5 half_shares 671088640 671088640
survival_of_5 = (
  allowed_append (naming example 5) (share_rules half_shares) (name_allowed example 5 refl) halves,
  survives half_shares halves 5 refl 671088640 671088640 refl refl,
)

pub survival_of_4 : (s : ByType ℕ) → Allowed (survival_rules example 4 s) → s.one ≡ 1 → SurvivalOf example 4 s 0 1
survival_of_4 s a e = survives s a.1.1 4 refl 0 1 (sym (ap (λ n. down (n * n)) e)) (sym (ap (λ n. up (n * n)) e))
