use Rattle.std.proofs.Common.{◌≡◌, ◌++◌, drop, map}
use Rattle.civl_path_stories.specs.Paths.{around_line}
use Rattle.civl_path_stories.specs.inner.Routes.{told}
use Rattle.civl_path_stories.proofs.begin.push_around_each.Given as goal

abbrev pub invariant-loop-around : goal.invariant-loop-around
invariant-loop-around l =
    l.lines.items ++ map (around_line (told l.route)) (drop l.around-index l.found) ≡ l.fn.lines.items ++ map (around_line (told l.route)) l.found
