use Rattle.std.proofs.Common.{arith, ◌<◌, ◌≤◌, length, subst}
use Rattle.civl_portfolio.specs.inner.Heard.{HeardSays}
use Rattle.civl_portfolio.proofs.Rounds.{started, next, passed, removed, ended, cut_at, housed, cut_behind, on_err}
use Rattle.civl_portfolio.proofs.asking.ask.Goals as goal

pub loop-at-init : goal.loop-at-init
loop-at-init g c = started _ _ _ _

pub returns-in_err-outcome-clause-err : goal.returns-in_err-outcome-clause-err
returns-in_err-outcome-clause-err g c =
    let below : c.loop-at.at < length c.loop-at.provers.items = omega arith in
    on_err _ _ (cut_at _ _ _ _ _ _ _ _ _ (next _ _ _ _ _ _ _ _ c.loop-at.invariant below c.index_mut.ensures.value) c.in_err-outcome.ensures.err)

pub returns-in-Certified-clause-round : goal.returns-in-Certified-clause-round
returns-in-Certified-clause-round g c =
    let below : c.loop-at.at < length c.loop-at.provers.items = omega arith in
    ended _ _ _ _ _ _ _ _ _ _ (next _ _ _ _ _ _ _ _ c.loop-at.invariant below c.index_mut.ensures.value) (subst (HeardSays _ _ _ _ _) c.in-Certified.is c.in_ok-outcome.ensures.ok)

pub loop-at-preserved-in-Nothing : goal.loop-at-preserved-in-Nothing
loop-at-preserved-in-Nothing g c =
    let below : c.loop-at.at < length c.loop-at.provers.items = omega arith in
    passed _ _ _ _ _ _ _ _ _ (next _ _ _ _ _ _ _ _ c.loop-at.invariant below c.index_mut.ensures.value) (subst (HeardSays _ _ _ _ _) c.in-Nothing.is c.in_ok-outcome.ensures.ok)

pub loop-at-preserved : goal.loop-at-preserved
loop-at-preserved g c =
    let below : c.loop-at.at < length c.loop-at.provers.items = omega arith in
    rw c.remove-liar.ensures.items (removed _ _ _ _ _ _ _ _ _ (next _ _ _ _ _ _ _ _ c.loop-at.invariant below c.index_mut.ensures.value) (subst (HeardSays _ _ _ _ _) c.in-Lied.is c.in_ok-outcome.ensures.ok))

pub returns-in_err-outcome-2-clause-err : goal.returns-in_err-outcome-2-clause-err
returns-in_err-outcome-2-clause-err g c =
    let above : length c.loop-at.provers.items ≤ c.loop-at.at = omega arith in
    on_err _ _ (cut_behind _ _ _ _ _ _ _ c.loop-at.invariant above)

pub returns-clause-round : goal.returns-clause-round
returns-clause-round g c =
    let above : length c.loop-at.provers.items ≤ c.loop-at.at = omega arith in
    housed _ _ _ _ _ _ _ _ c.loop-at.invariant above
