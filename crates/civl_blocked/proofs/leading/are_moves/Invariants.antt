use Rattle.std.proofs.Common.{ℕ, ◌<◌, get_or}
use Rattle.civl_meaning.specs.declared.config.Move.{Move}
use Rattle.civl_meaning.specs.Failing.{IsMove}
use Rattle.civl_blocked.proofs.leading.are_moves.Given as goal

abbrev pub invariant-loop-chosen : goal.invariant-loop-chosen
invariant-loop-chosen l = (k : ℕ) (d : Move) → k < l.chosen-index → IsMove (get_or l.moves k d)
