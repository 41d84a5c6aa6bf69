-- What any value of the type of a line's plan means, by the lines of its book and its own items.
use Rattle.std.specs.Prelude.{ℕ, Bool, List, [], ◌∷◌, Ok, Err, vec_items, Result}
use Rattle.rules.specs.declared.line.Line.{Line}
use Rattle.rules.specs.declared.line.Part.{Part}
use Rattle.rules.specs.declared.line.Part.TheVariants.{Item, Block}
use Rattle.rules.specs.declared.refusal.Refusal.{Refusal}
use Rattle.rules.specs.Kinds.{block_works}
use Rattle.rules.specs.Trees.{State}
use Rattle.sums.specs.States.{all_failed, put}
use Rattle.plan.specs.Plans.{Structure}
use Rattle.line_plan.specs.declared.LinePlan.{LinePlan}
use Rattle.line_plan.specs.declared.item_list.TypedItem.{TypedItem}
use Rattle.line_plan.specs.Items.{listed, types_of, state_of}

-- whether the line n of this part works, where s says it of the items, and w of the lines before it
abbrev pub part_works : State → State → ℕ → Part → Bool
part_works s w n (Item t) = s n
part_works s w n (Block k a b) = block_works k (w a.value) (w b.value)

-- which lines work, where s says it of the items, and w of the lines before these: one line after
-- another, in rising number
abbrev pub lines_work : State → State → List Line → State
lines_work s w [] = w
lines_work s w (l ∷ ls) = lines_work s (put l.number.value (part_works s w l.number.value l.part) w) ls

-- the plan of the line n of these lines, with these items at the places from 0 on; where no line has
-- the number n, it never works
abbrev pub plan_over : List Line → ℕ → List TypedItem → Structure
plan_over lines n is = record {
  types = types_of is;
  works = λ q. lines_work (state_of is q) all_failed lines n;
}

abbrev pub plan_meant : LinePlan → Structure
plan_meant p = plan_over (vec_items p.book.now.table.lines) p.number.value (listed p.items)

-- the answer to a question for a line's plan, by what the plan means
abbrev pub plan_answer : Result LinePlan Refusal → Result Structure Refusal
plan_answer (Ok p) = Ok (plan_meant p)
plan_answer (Err e) = Err e
