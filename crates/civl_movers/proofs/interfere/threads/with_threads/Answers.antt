use Rattle.std.specs.Prelude.{take, slice_get}
use Rattle.std.proofs.Common.{◌≡◌, ◌∙◌, ◌++◌, ◌∷◌, [], ◌+◌, List, Some, refl, sym, ap, subst, arith}
use Rattle.std.proofs.lemmas.List.{take_more, take_all}
use Rattle.std.proofs.lemmas.Option.{slice_get_read}
use Rattle.civl_tree.specs.declared.program.Thread.{Thread}
use Rattle.civl_terms.proofs.Growing.{grows_trans}
use Rattle.civl_states.proofs.formula_parts.Listing.{sorts_stay}
use Rattle.civl_movers.proofs.interfere.Gathering.{ThreadsSo, threads_more}
use Rattle.civl_movers.proofs.interfere.threads.with_threads.Goals as goal

pub with_thread-requires-clause-globals : goal.with_thread-requires-clause-globals
with_thread-requires-clause-globals c = sorts_stay _ _ _ _ c.loop-thread.invariant.0 c.requires.globals

pub with_thread-requires-clause-thread : goal.with_thread-requires-clause-thread
with_thread-requires-clause-thread c = (
  c.loop-thread.thread-index,
  subst (λ (ts : List Thread). slice_get ts c.loop-thread.thread-index ≡ Some c.thread-item.result) c.as_slice-thread-items.ensures
      (slice_get_read c.as_slice-thread-items.result.now _ c.loop-thread.thread-index c.thread-item.result refl (omega arith) c.thread-item.is),
)

pub returns-in_err-more-clause-grows : goal.returns-in_err-more-clause-grows
returns-in_err-more-clause-grows c = grows_trans _ _ _ c.loop-thread.invariant.0 c.in_err-more.ensures.grows

pub loop-thread-preserved : goal.loop-thread-preserved
loop-thread-preserved c =
    let p = c.args.program.now in
    let ts = c.as_slice-thread-items.result.now in
    let k = c.loop-thread.thread-index in
    let t = c.thread-item.result in
    let more : take (k + 1) ts ≡ take k ts ++ t ∷ [] = take_more ts k t (omega arith) ∙ ap (λ (d : Thread). take k ts ++ d ∷ []) (sym c.thread-item.is) in
    subst (λ (ds : List Thread). ThreadsSo c.args.terms.now p c.args.globals.now c.args.carried ds c.with_thread.new.terms c.in_ok-more.more) (sym more)
    (threads_more c.args.terms.now c.loop-thread.terms c.with_thread.new.terms p c.args.globals.now c.args.carried c.loop-thread.more c.in_ok-more.more (take k ts) t c.loop-thread.invariant
    c.in_ok-more.ensures.grows c.in_ok-more.ensures.sorted c.in_ok-more.ensures.carried c.in_ok-more.ensures.number c.in_ok-more.ensures.weighs)

pub returns-clause-carried : goal.returns-clause-carried
returns-clause-carried c = λ f g h s.
    let all = take_all c.loop-thread.thread-index c.as_slice-thread-items.result.now (omega arith) ∙ c.as_slice-thread-items.ensures in
    (subst (λ (ts : List Thread). ThreadsSo c.args.terms.now c.args.program.now c.args.globals.now c.args.carried ts c.loop-thread.terms c.loop-thread.more) all c.loop-thread.invariant).2 f g h s
