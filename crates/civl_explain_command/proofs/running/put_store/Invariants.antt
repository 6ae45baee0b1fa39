use Rattle.std.proofs.Common.{◌≡◌, ◌++◌, drop}
use Rattle.civl_command.specs.Report.{store_lines}
use Rattle.civl_explain_command.proofs.running.put_store.Given as goal

abbrev pub invariant-loop-at : goal.invariant-loop-at
invariant-loop-at l = l.out.items ++ store_lines (drop l.at l.globals) (drop l.at l.values) ≡ l.initial.out.items ++ store_lines l.globals l.values
