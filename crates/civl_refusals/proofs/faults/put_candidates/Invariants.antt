use Rattle.std.proofs.Common.{◌≡◌, ◌++◌, drop}
use Rattle.civl_refusals.specs.Refusals.{candidates_text}
use Rattle.civl_refusals.proofs.faults.put_candidates.Given as goal

abbrev pub invariant-loop-candidate : goal.invariant-loop-candidate
invariant-loop-candidate l =
    l.out.items ++ candidates_text (drop l.candidate-index l.candidates) ≡ l.fn.out.items ++ candidates_text l.candidates
