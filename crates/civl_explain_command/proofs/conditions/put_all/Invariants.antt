use Rattle.std.proofs.Common.{◌≡◌, ◌++◌, drop}
use Rattle.civl_verdicts.specs.reports.Values.{beside}
use Rattle.civl_explain_command.specs.Stories.{found_story}
use Rattle.civl_explain_command.proofs.conditions.put_all.Given as goal

abbrev pub invariant-loop-at : goal.invariant-loop-at
invariant-loop-at l =
    l.out.items ++ beside (found_story l.written.manner l.written.text.now.bytes.now l.written.text.now.tokens.now l.told.src.now) (drop l.at l.list) (drop l.at l.findings)
    ≡ l.initial.out.items ++ beside (found_story l.written.manner l.written.text.now.bytes.now l.written.text.now.tokens.now l.told.src.now) l.list l.findings
