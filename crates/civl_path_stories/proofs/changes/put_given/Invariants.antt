use Rattle.std.proofs.Common.{◌≡◌, ◌++◌, drop}
use Rattle.civl_firing.specs.Names.{names_of}
use Rattle.civl_path_stories.specs.Paths.{given_text}
use Rattle.civl_path_stories.proofs.changes.put_given.Given as goal

abbrev pub invariant-loop-change : goal.invariant-loop-change
invariant-loop-change l =
    l.out.items ++ given_text (names_of l.names) (drop l.change-index l.changes) ≡ l.fn.out.items ++ given_text (names_of l.names) l.changes
