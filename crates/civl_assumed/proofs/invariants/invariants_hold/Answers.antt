use Rattle.std.proofs.Common.{List, ◌∙◌, sym, ap, nat_eq}
use Rattle.std.specs.List.{list_all}
use Rattle.civl_tree.specs.declared.program.Invariant.{Invariant}
use Rattle.civl_assumed.specs.inner.Kept.{keeps_invariant}
use Rattle.civl_conditions.specs.Invariants.{holds_of_globals}
use Rattle.civl_assumed.proofs.Filtered.{all_filtered}
use Rattle.civl_assumed.proofs.invariants.invariants_hold.Goals as goal

pub returns : goal.returns
returns c =
    c.keeps_all.ensures
    ∙ ap (λ (is : List Invariant). list_all (keeps_invariant c.args.program.now c.args.step c.args.store.now) is) c.as_slice.ensures
    ∙ sym (all_filtered (holds_of_globals c.args.program.now c.args.store.now) (λ i. i.expr) (λ i. nat_eq i.step c.args.step) c.args.program.now.invariants)
