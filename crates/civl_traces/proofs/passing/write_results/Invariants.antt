use Rattle.std.proofs.Common.{◌≡◌, ◌≤◌, drop, length}
use Rattle.civl_firing.specs.Names.{names_of}
use Rattle.civl_meaning.specs.Change.{with_results}
use Rattle.civl_traces.proofs.passing.write_results.Given as goal

abbrev pub invariant-loop-result : goal.invariant-loop-result
invariant-loop-result l = (l.at ≡ l.result-index) × (l.at ≤ length l.outs) × (with_results (names_of l.names) l.locals.items (drop l.at l.results) (drop l.at l.outs) ≡ with_results (names_of l.names) l.initial.locals.items l.results l.outs)
