use Rattle.std.proofs.Common.{sym, ◌∙◌}
use Rattle.civl_tree.proofs.Lists.{drop_is}
use Rattle.civl_names.proofs.walks.Finding.{next_seen, none_seen, none_noted}
use Rattle.civl_yields.proofs.Listings.{calls_next, calls_noteless, calls_none, call_added, none_added}
use Rattle.civl_yields.proofs.listing.before_calls.Goals as goal
use Rattle.civl_yields.proofs.listing.before_calls.Goals.{then-is_call+in_ok-push-in-Some, else-is_call}

pub returns-in-None : goal.returns-in-None
returns-in-None c =
    calls_noteless c.loop-number.left _ _ _ _ (next_seen (λ stmt. stmt.now) c.args.flat.now c.loop-number.number c.index-flat-number.result c.loop-number-test.true c.index-flat-number.is)
    (none_noted c.args.phases.now c.loop-number.number c.in-None.ensures.lookup.3)
    ∙ c.loop-number.invariant

pub loop-number-preserved : goal.loop-number-preserved
loop-number-preserved c =
    calls_next c.loop-number.left c.if-is_call.left _ _ _ _ _ _ (next_seen (λ stmt. stmt.now) c.args.flat.now c.loop-number.number c.index-flat-number.result c.loop-number-test.true c.index-flat-number.is)
    (drop_is c.args.phases.now c.loop-number.number c.in-Some.phase.now c.in-Some.ensures.lookup.3.0 c.in-Some.ensures.lookup.1)
    (elim c.if-is_call.branch [ then-is_call+in_ok-push-in-Some w ↦ call_added _ _ _ _ (sym w.if-is_call.ensures) (w.left-is ∙ w.in_ok-push-in-Some.ensures.ok) | else-is_call w ↦ none_added _ _ _ _ (sym w.if-is_call.ensures) w.left-is ])
    ∙ c.loop-number.invariant

pub returns : goal.returns
returns c =
    calls_none c.loop-number.left _ _ (none_seen (λ stmt. stmt.now) c.args.flat.now c.loop-number.number c.loop-number-test.false)
    ∙ c.loop-number.invariant
