use Rattle.std.proofs.Common.{◌≡◌, drop}
use Rattle.std.specs.Prelude.{not}
use Rattle.std.specs.List.{find}
use Rattle.civl_tree.specs.rules.Names.{has_name, param_names, targets_of}
use Rattle.civl_subjects.proofs.counts.without_update.Given as goal

abbrev pub invariant-loop-out : goal.invariant-loop-out
invariant-loop-out l =
    find (λ out. not (has_name (targets_of l.action) out)) (param_names (drop l.out-index l.outs))
    ≡ find (λ out. not (has_name (targets_of l.fn.action) out)) (param_names l.fn.outs)
