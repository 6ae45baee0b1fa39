use Rattle.std.specs.Prelude.{◌≡◌, drop}
use Rattle.civl_tree.specs.rules.Names.{names_in_proc}
use Rattle.civl_moves.specs.Calls.{with_outs_of}
use Rattle.civl_moves.proofs.calls.take_outs.Given as goal

abbrev pub invariant-loop-at : goal.invariant-loop-at
invariant-loop-at l = with_outs_of (names_in_proc l.proc) l.locals (drop l.at l.results) (drop l.at l.outs) ≡ with_outs_of (names_in_proc l.proc) l.initial.locals l.results l.outs
