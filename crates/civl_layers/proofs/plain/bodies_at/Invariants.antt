use Rattle.std.proofs.Common.{◌≡◌, map, take}
use Rattle.civl_meaning.specs.Layers.{means_body}
use Rattle.civl_layers.proofs.plain.bodies_at.Given as goal

abbrev pub invariant-loop-proc : goal.invariant-loop-proc
invariant-loop-proc l = l.bodies ≡ map (λ proc. means_body l.k proc.refines) (take l.proc-index l.procs)
