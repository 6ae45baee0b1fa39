use Rattle.std.specs.Prelude.{Bool, ◌||◌}
use Rattle.std.proofs.Common.{arith}
use Rattle.civl_tree.specs.declared.expr.Sort.TheVariants.{Bool as Truth}
use Rattle.civl_terms.proofs.Growing.{grows_trans}
use Rattle.civl_states.specs.formula_parts.Said.{Env}
use Rattle.civl_states.proofs.formula_parts.Saying.{sort_stays, test_stays}
use Rattle.civl_refine.specs.Judging.{comes_to, with_values}
use Rattle.civl_refine.proofs.Assuming.{begin_stays, begun_stays}
use Rattle.civl_refine.proofs.Judging.{end_stays, at_stays}
use Rattle.civl_refine.proofs.performing.perform_kept.Goals as goal

pub perform-requires-clause-begins : goal.perform-requires-clause-begins
perform-requires-clause-begins c = begin_stays _ _ _ _ _ _ _ c.in_ok-choices.ensures.grows c.requires.begins

pub returns-in_err-performed-clause-grows : goal.returns-in_err-performed-clause-grows
returns-in_err-performed-clause-grows c = grows_trans _ _ _ c.in_ok-choices.ensures.grows c.in_err-performed.ensures.grows

pub is_performed-requires-clause-ends : goal.is_performed-requires-clause-ends
is_performed-requires-clause-ends c = end_stays _ _ _ _ _ (grows_trans _ _ _ c.in_ok-choices.ensures.grows c.in_ok-performed.ensures.grows) c.requires.ends

pub returns-in_err-same-clause-grows : goal.returns-in_err-same-clause-grows
returns-in_err-same-clause-grows c = grows_trans _ _ _ c.in_ok-choices.ensures.grows (grows_trans _ _ _ c.in_ok-performed.ensures.grows c.in_err-same.ensures.grows)

pub either-requires-clause-a : goal.either-requires-clause-a
either-requires-clause-a c = sort_stays _ _ _ Truth (grows_trans _ _ _ c.in_ok-choices.ensures.grows (grows_trans _ _ _ c.in_ok-performed.ensures.grows c.in_ok-same.ensures.grows)) c.requires.begins.old_done

pub returns-in_err-free-clause-grows : goal.returns-in_err-free-clause-grows
returns-in_err-free-clause-grows c = grows_trans _ _ _ c.in_ok-choices.ensures.grows (grows_trans _ _ _ c.in_ok-performed.ensures.grows (grows_trans _ _ _ c.in_ok-same.ensures.grows c.in_err-free.ensures.grows))

pub implied-requires-clause-a : goal.implied-requires-clause-a
implied-requires-clause-a c =
    sort_stays _ _ _ Truth (grows_trans _ _ _ c.in_ok-choices.ensures.grows (grows_trans _ _ _ c.in_ok-performed.ensures.grows (grows_trans _ _ _ c.in_ok-same.ensures.grows c.in_ok-free.ensures.grows))) c.requires.ends.done

pub returns-in_err-id-clause-grows : goal.returns-in_err-id-clause-grows
returns-in_err-id-clause-grows c =
    grows_trans _ _ _ c.in_ok-choices.ensures.grows (grows_trans _ _ _ c.in_ok-performed.ensures.grows (grows_trans _ _ _ c.in_ok-same.ensures.grows (grows_trans _ _ _ c.in_ok-free.ensures.grows c.in_err-id.ensures.grows)))

pub returns-clause-test : goal.returns-clause-test
returns-clause-test c = λ a b p is begun at.
    let s = c.args.start.now in
    let one = c.in_ok-choices.ensures.grows in
    let two = grows_trans _ _ _ one c.in_ok-performed.ensures.grows in
    let three = grows_trans _ _ _ two c.in_ok-same.ensures.grows in
    let four = grows_trans _ _ _ three c.in_ok-free.ensures.grows in
    let f : Env → Bool = λ env. comes_to s.program.now s.step s.proc.now a (b env) (with_values s.program.now s.proc.now (p env)) (p env) in
    let chosen = c.in_ok-choices.ensures.said a p is at in
    let performs = c.in_ok-performed.ensures.performs a b (λ env. with_values s.program.now s.proc.now (p env)) is (begun_stays _ _ _ _ _ _ _ b one begun) chosen in
    let same = c.in_ok-same.ensures.test a b (λ env. with_values s.program.now s.proc.now (p env)) p performs (at_stays _ _ _ _ _ p two at) in
    let free = c.in_ok-free.ensures.test (λ env. (b env).old_done) f (test_stays _ _ _ _ three begun.old_done) same in
    c.in_ok-id.ensures.test (λ env. (p env).done) (λ env. (b env).old_done || f env) (test_stays _ _ _ _ four at.done) free

pub returns-clause-grows : goal.returns-clause-grows
returns-clause-grows c =
    grows_trans _ _ _ c.in_ok-choices.ensures.grows (grows_trans _ _ _ c.in_ok-performed.ensures.grows (grows_trans _ _ _ c.in_ok-same.ensures.grows (grows_trans _ _ _ c.in_ok-free.ensures.grows c.in_ok-id.ensures.grows)))

pub returns-clause-weighs : goal.returns-clause-weighs
returns-clause-weighs c = λ a is. omega (arith, c.in_ok-choices.ensures.weighs, c.in_ok-performed.ensures.weighs a is, c.in_ok-same.ensures.weighs, c.in_ok-free.ensures.weighs, c.in_ok-id.ensures.weighs)
