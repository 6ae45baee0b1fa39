use Rattle.std.proofs.Common.{◌∙◌, refl, sym, subst, arith}
use Rattle.std.specs.Prelude.{slice_index_or, IsTrue}
use Rattle.std.proofs.lemmas.List.Elements.{All-get_or}
use Rattle.civl_tree.specs.declared.program.Global.{Global}
use Rattle.civl_firing.specs.values.Values.{is_sort}
use Rattle.civl_terms.proofs.Growing.{grows_trans, grows_same}
use Rattle.civl_states.specs.Existing.{passes}
use Rattle.civl_states.proofs.Spreading.{spread_zero, spread_given, spread_end, zero_sorted}
use Rattle.civl_states.proofs.stores.spread.Goals.{then-passes+in_ok-push, else-passes+in_ok-id+in_ok-push-2}
use Rattle.civl_states.proofs.stores.spread.Goals as goal

pub returns-in_err-push-2-clause-grows : goal.returns-in_err-push-2-clause-grows
returns-in_err-push-2-clause-grows c = grows_trans _ _ _ c.loop-global.invariant.0 c.in_ok-id.ensures.grows

pub loop-global-preserved : goal.loop-global-preserved
loop-global-preserved c =
    let o = c.args.terms.now in
    let m = c.loop-global.terms in
    let test = passes c.args.which in
    let gs = c.args.globals.now in
    let vs = c.args.given.now in
    let i = c.loop-global.global-index in
    let at = c.loop-global.at in
    let g = c.global-item.result in
    let inv = c.loop-global.invariant in
    elim c.if-passes.branch [
      | then-passes+in_ok-push w ↦
          rw (w.terms-is, w.at-is, w.ids-is) (
            inv.0,
            inv.1,
            spread_given o test gs vs m m i at c.loop-global.ids.items w.push.new.self.items (slice_index_or vs at 0) g (omega arith) c.global-item.is inv.2 (grows_same m) w.in_ok-push.ensures.items
                (sym c.passes.ensures ∙ w.if-passes.true) refl inv.0,
          )
      | else-passes+in_ok-id+in_ok-push-2 w ↦
          let n = w.constant.new.self in
          let limit = subst (λ (q : Global). IsTrue (is_sort q.sort)) (sym c.global-item.is) (All-get_or (λ (q : Global). IsTrue (is_sort q.sort)) gs i g (omega arith) c.requires.limits) in
          let z = zero_sorted m n g w.zero.result w.in_ok-id.id limit w.zero.ensures w.in_ok-id.ensures.built in
          rw (w.terms-is, w.at-is, w.ids-is) (
            grows_trans _ _ _ inv.0 w.in_ok-id.ensures.grows,
            omega (arith, inv.1, w.in_ok-id.ensures.built.weighs),
            spread_zero o test gs vs m n i at c.loop-global.ids.items w.push-else-passes.new.self.items w.in_ok-id.id g (omega arith) c.global-item.is inv.2 w.in_ok-id.ensures.grows w.in_ok-push-2.ensures.items
                (sym c.passes.ensures ∙ w.if-passes.false) z.0 z.1,
          )
    ]

pub returns-clause-spread : goal.returns-clause-spread
returns-clause-spread c = spread_end c.args.terms.now (passes c.args.which) c.args.globals.now c.args.given.now c.loop-global.terms c.loop-global.global-index c.loop-global.at c.loop-global.ids.items (omega arith) c.loop-global.invariant.2
