use Rattle.std.proofs.Common.{◌≡◌, ◌++◌, drop}
use Rattle.civl_firing.specs.Names.{names_of}
use Rattle.civl_explain_command.specs.Runs.{changes_text}
use Rattle.civl_explain_command.proofs.moves.put_changes.Given as goal

abbrev pub invariant-loop-change : goal.invariant-loop-change
invariant-loop-change l =
    l.out.items ++ changes_text (names_of l.names) (drop l.change-index l.changes) ≡ l.fn.out.items ++ changes_text (names_of l.names) l.changes
