use Rattle.std.proofs.Common.{◌∙◌, sym, ap, arith}
use Rattle.civl_terms.specs.Graphs.{value_at, listed}
use Rattle.civl_terms.proofs.Nodes.{values_none, value_step, value_read}
use Rattle.civl_terms.proofs.terms.value.Goals as goal

pub loop-at-init : goal.loop-at-init
loop-at-init c = c.new-values.ensures.items ∙ sym (values_none (listed c.as_slice-given.result.now) c.args.terms.now)

pub loop-at-preserved : goal.loop-at-preserved
loop-at-preserved c = value_step _ _ _ _ _ _ _ _ c.loop-at.invariant c.as_slice.ensures.value c.node.ensures.is c.node_value-value.ensures c.in_ok-push.ensures.items

pub returns : goal.returns
returns c =
    c.value_in-value.ensures ∙ value_read _ _ _ _ _ (c.as_slice-2.ensures.value ∙ c.loop-at.invariant) (omega arith) (omega (arith, c.requires))
    ∙ ap (λ vs. value_at (listed vs) c.args.terms.now c.args.id) c.as_slice-given.ensures
