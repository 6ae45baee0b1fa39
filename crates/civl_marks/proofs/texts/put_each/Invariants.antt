use Rattle.std.proofs.Common.{◌≡◌, ◌++◌, drop}
use Rattle.std.specs.Prelude.{codes}
use Rattle.civl_marks.specs.Marks.{marks_text}
use Rattle.civl_marks.proofs.texts.put_each.Given as goal

abbrev pub invariant-loop-at : goal.invariant-loop-at
invariant-loop-at l =
    l.out.items ++ marks_text l.lead (drop l.at l.variables) (drop l.at l.marks)
    ≡ l.fn.out.items ++ marks_text (codes "  violated too with ") l.variables l.marks
