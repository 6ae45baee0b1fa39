use Rattle.std.specs.Prelude.{Bool, ◌&&◌}
use Rattle.std.proofs.Common.{arith}
use Rattle.civl_tree.specs.declared.expr.Sort.TheVariants.{Bool as Truth}
use Rattle.civl_firing.specs.Fired.{guard_holds, store_after, outs_after}
use Rattle.civl_meaning.specs.Change.{outs_in}
use Rattle.civl_terms.proofs.Growing.{grows_trans}
use Rattle.civl_conditions.specs.footprints.Agreement.{exists_at}
use Rattle.civl_conditions.specs.Assumed.{inputs_of}
use Rattle.civl_conditions.specs.Values.{same_values, same_stores}
use Rattle.civl_states.specs.formula_parts.Said.{Env}
use Rattle.civl_states.proofs.formula_parts.Saying.{sort_stays, test_stays}
use Rattle.civl_states.proofs.formula_parts.Listing.{sorts_stay, said_stay}
use Rattle.civl_states.proofs.Limits.{proc_out_sorts_are}
use Rattle.civl_refine.proofs.Judging.{outs_weigh, globals_weigh}
use Rattle.civl_refine.proofs.performing.is_performed.Goals as goal

pub same_outs-requires-clause-locals : goal.same_outs-requires-clause-locals
same_outs-requires-clause-locals c = sorts_stay _ _ _ _ c.in_ok-stores.ensures.grows c.requires.ends.locals

pub same_outs-requires-clause-outs : goal.same_outs-requires-clause-outs
same_outs-requires-clause-outs c = sorts_stay _ _ _ _ c.in_ok-stores.ensures.grows c.requires.outs

pub returns-in_err-outs-clause-grows : goal.returns-in_err-outs-clause-grows
returns-in_err-outs-clause-grows c = grows_trans _ _ _ c.in_ok-stores.ensures.grows c.in_err-outs.ensures.grows

pub both-requires-clause-a : goal.both-requires-clause-a
both-requires-clause-a c = sort_stays _ _ _ Truth c.in_ok-outs.ensures.grows c.in_ok-stores.ensures.sorted

pub returns-in_err-same-clause-grows : goal.returns-in_err-same-clause-grows
returns-in_err-same-clause-grows c = grows_trans _ _ _ c.in_ok-stores.ensures.grows (grows_trans _ _ _ c.in_ok-outs.ensures.grows c.in_err-same.ensures.grows)

pub both-requires-2-clause-a : goal.both-requires-2-clause-a
both-requires-2-clause-a c = sort_stays _ _ _ Truth (grows_trans _ _ _ c.in_ok-stores.ensures.grows (grows_trans _ _ _ c.in_ok-outs.ensures.grows c.in_ok-same.ensures.grows)) c.requires.guard

pub returns-in_err-id-clause-grows : goal.returns-in_err-id-clause-grows
returns-in_err-id-clause-grows c = grows_trans _ _ _ c.in_ok-stores.ensures.grows (grows_trans _ _ _ c.in_ok-outs.ensures.grows (grows_trans _ _ _ c.in_ok-same.ensures.grows c.in_err-id.ensures.grows))

pub returns-clause-test : goal.returns-clause-test
returns-clause-test c = λ a b e p d at.
    let s = c.args.start.now in
    let gs = s.program.now.globals in
    let q = s.proc.now in
    let one = c.in_ok-stores.ensures.grows in
    let three = grows_trans _ _ _ one (grows_trans _ _ _ c.in_ok-outs.ensures.grows c.in_ok-same.ensures.grows) in
    let g : Env → Bool = λ env. guard_holds gs (b env).old a (inputs_of q (b env).locals) (e env) in
    let x : Env → Bool = λ env. same_stores (exists_at s.step) s.program.now (p env).store (store_after gs (b env).old a (inputs_of q (b env).locals) (e env)) in
    let y : Env → Bool = λ env. same_values (outs_in q (p env).locals) (outs_after gs (b env).old a (inputs_of q (b env).locals) (e env)) in
    let stores = c.in_ok-stores.ensures.tells (λ env. (p env).store) (λ env. store_after gs (b env).old a (inputs_of q (b env).locals) (e env)) at.globals d.globals in
    let outs = c.in_ok-outs.ensures.test (λ env. (p env).locals) (λ env. outs_after gs (b env).old a (inputs_of q (b env).locals) (e env)) (said_stay _ _ _ _ _ one at.locals) (said_stay _ _ _ _ _ one d.outs) in
    c.in_ok-id.ensures.test g (λ env. x env && y env) (test_stays _ _ _ g three d.guard) (c.in_ok-same.ensures.test x y (test_stays _ _ _ x c.in_ok-outs.ensures.grows stores) outs)

pub returns-clause-grows : goal.returns-clause-grows
returns-clause-grows c = grows_trans _ _ _ c.in_ok-stores.ensures.grows (grows_trans _ _ _ c.in_ok-outs.ensures.grows (grows_trans _ _ _ c.in_ok-same.ensures.grows c.in_ok-id.ensures.grows))

pub returns-clause-weighs : goal.returns-clause-weighs
returns-clause-weighs c =
    let s = c.args.start.now in
    let there = c.requires.start.proc in
    let are = proc_out_sorts_are s.program.now c.requires.start.rules there.0 s.proc.now there.1 in
    omega (arith, c.in_ok-stores.ensures.weighs, c.in_ok-outs.ensures.weighs, c.in_ok-same.ensures.weighs, c.in_ok-id.ensures.weighs, globals_weigh s.program.now c.requires.start.rules s.step, outs_weigh s.proc.now.outs are)
