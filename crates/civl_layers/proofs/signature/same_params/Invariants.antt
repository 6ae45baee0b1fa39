use Rattle.std.proofs.Common.{◌≡◌, drop, length}
use Rattle.civl_tree.specs.rules.Signature.{same_params}
use Rattle.civl_layers.proofs.signature.same_params.Given as goal

abbrev pub invariant-loop-at : goal.invariant-loop-at
invariant-loop-at l =
    (same_params (drop l.at l.first) (drop l.at l.second) ≡ same_params l.fn.first l.fn.second) × (length l.first ≡ length l.second)
