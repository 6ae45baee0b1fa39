use Rattle.std.proofs.Common.{◌≡◌, ◌++◌, drop, map}
use Rattle.civl_tree.specs.Numbering.{sizes_of}
use Rattle.civl_goals.proofs.rules.statement_counts.Given as goal

abbrev pub invariant-loop-proc : goal.invariant-loop-proc
invariant-loop-proc l = l.counts.items ++ map (λ proc. sizes_of proc.body) (drop l.proc-index l.proc-items) ≡ map (λ proc. sizes_of proc.body) l.fn.program.procs
