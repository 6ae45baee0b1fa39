use Rattle.std.proofs.Common.{◌∙◌, List, ap, sym}
use Rattle.std.specs.Prelude.{nat_eq, count_by}
use Rattle.civl_tree.specs.declared.program.Invariant.{Invariant}
use Rattle.civl_conditions.proofs.Pushing.{invariants_counted}
use Rattle.civl_conditions.proofs.steps.invariant_count.Goals as goal

pub returns : goal.returns
returns c =
    c.count_at.ensures ∙ ap (λ (invariants : List Invariant). count_by (λ i. nat_eq i.step c.args.step) invariants) c.as_slice.ensures ∙ sym (invariants_counted c.args.program.now c.args.step)
