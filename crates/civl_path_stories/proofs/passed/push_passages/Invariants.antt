use Rattle.std.proofs.Common.{◌≡◌, ◌++◌, drop, map}
use Rattle.civl_path_stories.specs.Paths.{passage_line}
use Rattle.civl_path_stories.specs.inner.Routes.{told}
use Rattle.civl_path_stories.proofs.passed.push_passages.Given as goal

abbrev pub invariant-loop-passage : goal.invariant-loop-passage
invariant-loop-passage l =
    l.lines.items ++ map (passage_line (told l.route)) (drop l.passage-index l.passed) ≡ l.fn.lines.items ++ map (passage_line (told l.route)) l.passed
