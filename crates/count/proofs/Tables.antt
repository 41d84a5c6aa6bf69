-- What holds of a table, from what holds of the counts.
use Rattle.std.proofs.Common.{ℕ, ◌+◌, ◌≤◌, List, sym, ◌∙◌, arith}
use Rattle.rules.specs.declared.item_type.ItemType.{ItemType}
use Rattle.rules.specs.declared.item_type.ItemType.TheVariants.{One, Two, Three}
use Rattle.rules.specs.Rules.{Allowed}
use Rattle.plan.specs.Plans.{Structure, LawfulPlan}
use Rattle.cells.specs.Cells.{cell}
use Rattle.count.specs.Counts.{places_of, working_states, count_rules}
use Rattle.count.specs.Laws.{Holds, AtMost, StepUp, choices, LongCounted, Totalled}
use Rattle.count.proofs.Choosing.{total_choices, choices_bounded, working_bounded}
use Rattle.count.proofs.Counting.{few_from}
use Rattle.count.proofs.Steps.{step_up}

held_bounded : (n : ℕ) (cells : List ℕ) (f : ℕ → ℕ → ℕ → ℕ) → Holds cells f → ((a b c : ℕ) → f a b c ≤ n) → AtMost n cells
held_bounded n cells f holds most a b c la lb lc = rw (holds a b c la lb lc) (most a b c)

-- the numbers of a plan that is counted stay inside the table
held_steps : (p : Structure) → ((t : ItemType) → places_of p t ≤ 7) → (cells : List ℕ) (f : ℕ → ℕ → ℕ → ℕ) → Holds cells f → StepUp p f → StepUp p (cell cells)
held_steps p few cells f holds up =
    let one = few One in
    let two = few Two in
    let three = few Three in
    record {
      one = λ a b c la lb lc. rw (holds a b c (omega arith) (omega arith) (omega arith), holds (a + 1) b c (omega arith) (omega arith) (omega arith)) (up.one a b c la lb lc);
      two = λ a b c la lb lc. rw (holds a b c (omega arith) (omega arith) (omega arith), holds a (b + 1) c (omega arith) (omega arith) (omega arith)) (up.two a b c la lb lc);
      three = λ a b c la lb lc. rw (holds a b c (omega arith) (omega arith) (omega arith), holds a b (c + 1) (omega arith) (omega arith) (omega arith)) (up.three a b c la lb lc);
    }

pub long_counted : (p : Structure) → LawfulPlan p → Allowed (count_rules p) → (cells : List ℕ) → Holds cells (working_states p) → LongCounted p cells
long_counted p laws allowed cells holds = record {
  counts = holds;
  bounded = held_bounded 2450 cells (working_states p) holds (working_bounded p (few_from p allowed));
  steps_up = held_steps p (few_from p allowed) cells (working_states p) holds (step_up p laws);
}

pub totalled : (p : Structure) → ((t : ItemType) → places_of p t ≤ 7) → (cells : List ℕ) → Holds cells (choices p) → Totalled p cells
totalled p few cells products = record {
  counts = λ a b c la lb lc. products a b c la lb lc ∙ sym (total_choices p a b c);
  bounded = held_bounded 2450 cells (choices p) products (choices_bounded p few);
  products = products;
}
