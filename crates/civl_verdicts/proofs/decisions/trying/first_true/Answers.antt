use Rattle.std.specs.Prelude.{◌≡◌, false, List}
use Rattle.std.proofs.Common.{◌<◌, ◌∙◌, sym, subst, arith}
use Rattle.civl_bits.specs.declared.value.Value.{Value}
use Rattle.civl_firing.specs.values.Values.{HaveSorts, is_true}
use Rattle.civl_terms.specs.Graphs.{listed, value_at}
use Rattle.civl_verdicts.proofs.decisions.Numbers.{values_have_sorts, each_is_numbered}
use Rattle.civl_verdicts.proofs.decisions.trying.first_true.Goals as goal

pub returns-then-branch-clause-some : goal.returns-then-branch-clause-some
returns-then-branch-clause-some c = (
  subst (λ (vs : List Value). HaveSorts vs c.args.sorts.now) (sym c.in_ok-values.ensures) (values_have_sorts c.args.sorts.now c.loop-number.number c.requires.limits),
  sym c.in_ok-is_true_at.ensures ∙ c.if-branch.true,
)

pub returns-clause-none : goal.returns-clause-none
returns-clause-none c = λ values h.
    let n = each_is_numbered c.args.sorts.now values h in
    let below : n.0 < c.loop-number.number = omega (arith, n.1, c.requires.count) in
    subst (λ (vs : List Value). is_true (value_at (listed vs) c.args.terms.now c.args.id) ≡ false) n.2 (c.loop-number.invariant n.0 below)
