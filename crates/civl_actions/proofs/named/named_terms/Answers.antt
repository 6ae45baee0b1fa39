use Rattle.std.proofs.Common.{List, sym, subst}
use Rattle.std.specs.Prelude.{All, IsTrue}
use Rattle.civl_tree.specs.declared.action.Param.{Param}
use Rattle.civl_firing.specs.values.Values.{is_sort}
use Rattle.civl_actions.specs.inner.Steps.{AreZeros}
use Rattle.civl_actions.proofs.Making.{named_is}
use Rattle.civl_actions.proofs.named.named_terms.Goals as goal

pub zeros-requires : goal.zeros-requires
zeros-requires c = subst (λ (os : List Param). All (λ (q : Param). IsTrue (is_sort q.sort)) os) (sym c.as_slice.ensures) c.requires

pub returns-clause-named : goal.returns-clause-named
returns-clause-named c =
    let z = subst (λ (os : List Param). AreZeros c.constant.new.self c.zeros.new.terms os c.in_ok-zeros.zeros.items) c.as_slice.ensures c.in_ok-zeros.ensures.zeros in
    named_is c.args.terms.now c.constant.new.self c.zeros.new.terms c.args.outs.now c.args.globals.now c.args.inputs.now c.args.choices.now _
    (rw c.as_slice-2.ensures.value at c.in_ok-values.ensures) c.in_ok-no.ensures.built c.in_ok-zeros.ensures.grows z
