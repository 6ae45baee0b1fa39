use Rattle.std.proofs.Common.{sym, subst}
use Rattle.std.proofs.lemmas.Bool.{both_ways}
use Rattle.civl_reduction.specs.interleavings.Runs.{SystemRuns, Opens}
use Rattle.civl_reduction.specs.gathering.Gathered.{own, others}
use Rattle.civl_reduction.specs.gathered.Laws.{by_thread}
use Rattle.civl_blocked.specs.inner.Segments.{over}
use Rattle.civl_blocked.proofs.Fronts.{not_last, not_rest, whole}
use Rattle.civl_blocked.proofs.gathering.gathers.Goals as goal

pub returns-then-not-branch-2 : goal.returns-then-not-branch-2
returns-then-not-branch-2 c =
    let S = over c.args.ground.now in
    let s = c.args.segment.now in
    let opens = subst (λ l. Opens S c.args.thread (own by_thread c.args.thread l) c.args.from.now c.runs_own.new.config) c.as_slice-moves.ensures.value
    (subst (λ z. Opens S c.args.thread (own by_thread c.args.thread c.as_slice-moves.result.now) z c.runs_own.new.config) c.in_ok-config.ensures (c.in_ok-runs_own.ensures.made c.if-not-branch.false)) in
    not_last S c.args.thread s.moves.items s.last c.args.from.now s.end c.runs_own.new.config opens (c.in_ok-moved.ensures.not (both_ways c.in_ok-moved.field-0 c.if-not-branch-2.true))

pub returns-then-not-branch-3 : goal.returns-then-not-branch-3
returns-then-not-branch-3 c =
    let S = over c.args.ground.now in
    let s = c.args.segment.now in
    let opens = subst (λ l. Opens S c.args.thread (own by_thread c.args.thread l) c.args.from.now c.runs_own.new.config) c.as_slice-moves.ensures.value
    (subst (λ z. Opens S c.args.thread (own by_thread c.args.thread c.as_slice-moves.result.now) z c.runs_own.new.config) c.in_ok-config.ensures (c.in_ok-runs_own.ensures.made c.if-not-branch.false)) in
    not_rest S c.args.thread s.moves.items s.last c.args.from.now s.end c.runs_own.new.config opens c.moved.new.config (c.in_ok-moved.ensures.made c.if-not-branch-2.false)
    (λ z r. c.in_ok-runs_others.ensures.not (both_ways c.in_ok-runs_others.field-0 c.if-not-branch-3.true) z (subst (λ l. SystemRuns S.steps (others by_thread c.args.thread l) c.moved.new.config z) (sym c.as_slice-moves.ensures.value) r))

pub returns : goal.returns
returns c =
    let S = over c.args.ground.now in
    let s = c.args.segment.now in
    let opens = subst (λ l. Opens S c.args.thread (own by_thread c.args.thread l) c.args.from.now c.runs_own.new.config) c.as_slice-moves.ensures.value
    (subst (λ z. Opens S c.args.thread (own by_thread c.args.thread c.as_slice-moves.result.now) z c.runs_own.new.config) c.in_ok-config.ensures (c.in_ok-runs_own.ensures.made c.if-not-branch.false)) in
    let rest = subst (λ l. SystemRuns S.steps (others by_thread c.args.thread l) c.moved.new.config c.runs_others.new.config) c.as_slice-moves.ensures.value (c.in_ok-runs_others.ensures.made c.if-not-branch-3.false) in
    whole S c.args.thread s.moves.items s.last c.args.from.now s.end c.runs_own.new.config opens c.moved.new.config (c.in_ok-moved.ensures.made c.if-not-branch-2.false) c.runs_others.new.config c.same.result rest c.same.ensures
