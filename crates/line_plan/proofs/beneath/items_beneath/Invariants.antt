use Rattle.std.proofs.Common.{◌≡◌, ◌++◌, drop}
use Rattle.rules.specs.History.{History, lines_of}
use Rattle.rules.specs.Trees.{items, tree_of}
use Rattle.book.specs.Keeps.{Keeps}
use Rattle.line_plan.specs.Items.{listed}
use Rattle.line_plan.proofs.Picking.{picked}
use Rattle.line_plan.proofs.beneath.items_beneath.Given as goal

abbrev pub invariant-loop-place : goal.invariant-loop-place
invariant-loop-place l = (h : History) → Keeps h l.book
    → listed l.items ++ picked (items (tree_of h l.fn.number.value)) (drop l.place l.line-items) ≡ picked (items (tree_of h l.fn.number.value)) (lines_of h)
