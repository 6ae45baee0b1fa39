use Rattle.std.specs.Prelude.{take}
use Rattle.civl_movers.proofs.interfere.Gathering.{ArgsSo}
use Rattle.civl_movers.proofs.interfere.threads.argument_terms.Given as goal

abbrev pub invariant-loop-arg : goal.invariant-loop-arg
invariant-loop-arg l = ArgsSo l.fn.terms l.program l.globals (take l.arg-index l.args) l.terms l.ids.items
