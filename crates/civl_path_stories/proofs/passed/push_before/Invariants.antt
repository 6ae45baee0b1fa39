use Rattle.std.proofs.Common.{◌≡◌, ◌++◌, drop}
use Rattle.civl_path_stories.specs.Paths.{before_statement, passage_lines}
use Rattle.civl_path_stories.specs.inner.Routes.{told}
use Rattle.civl_path_stories.proofs.passed.push_before.Given as goal

abbrev pub invariant-loop-passage : goal.invariant-loop-passage
invariant-loop-passage l =
    l.lines.items ++ passage_lines (told l.route) (before_statement l.statement (drop l.passage-index l.passed))
    ≡ l.fn.lines.items ++ passage_lines (told l.route) (before_statement l.statement l.passed)
