use Rattle.std.proofs.Common.{◌∙◌, List, sym, ap, subst, arith, inl, inr}
use Rattle.civl_bits.specs.declared.value.Value.{Value}
use Rattle.civl_reduction.specs.simulation.Refined.{with_values}
use Rattle.civl_followed.specs.inner.Along.{Does}
use Rattle.civl_followed.proofs.Codes.{next_not}
use Rattle.civl_followed.proofs.choosing.choose.Goals as goal

pub returns-then-branch : goal.returns-then-branch
returns-then-branch c procedure place =
    let done = c.args.done.now in
    inl (subst (λ (vs : List Value). Does done.program.now done.layer (done.proc.now, record { procedure = procedure; place = place; locals = done.locals.now }) done.before.now done.after.now vs) (sym c.in_ok-chosen.ensures)
    (c.in_ok-does.ensures.yes c.if-branch.true procedure place))

pub loop-at-preserved : goal.loop-at-preserved
loop-at-preserved c k d l procedure place =
    let done = c.args.done.now in
    next_not (λ vs. Does done.program.now done.layer (done.proc.now, record { procedure = procedure; place = place; locals = done.locals.now }) done.before.now done.after.now vs) c.args.offered.now c.loop-at.at c.index-offered-at.result (omega arith) c.index-offered-at.is
    (λ i e h. c.loop-at.invariant i e h procedure place)
    (subst (λ (vs : List Value). Does done.program.now done.layer (done.proc.now, record { procedure = procedure; place = place; locals = done.locals.now }) done.before.now done.after.now vs → ⊥) c.as_slice-chosen.ensures (c.in_ok-does.ensures.no c.if-branch.false procedure place))
    k d l

pub returns : goal.returns
returns c procedure place =
    let done = c.args.done.now in
    inr (
      c.in_ok-found.ensures ∙ ap (λ (vs : List Value). with_values done.program.now done.proc.now (record { values = vs }) done.locals.now) c.as_slice-values.ensures,
      λ others h does.
          let low = h.1 in
          c.loop-at.invariant h.0 others (omega (arith, low)) procedure place
          (subst (λ (vs : List Value). Does done.program.now done.layer (done.proc.now, record { procedure = procedure; place = place; locals = done.locals.now }) done.before.now done.after.now vs) (sym h.2) does),
    )
