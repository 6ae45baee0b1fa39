use Rattle.std.proofs.Common.{true, false}
use Rattle.civl_terms.proofs.Growing.{grows_trans}
use Rattle.civl_states.proofs.formula_parts.Saying.{constant_test, test_stays}
use Rattle.civl_goal_terms.proofs.Stepping.{begin_can, begin_says}
use Rattle.civl_goal_terms.proofs.steps.begin.Goals as goal

pub returns-clause-can : goal.returns-clause-can
returns-clause-can c =
    let o = c.args.terms.now in
    let m = c.constant.new.self in
    let n = c.constant-2.new.self in
    let sure = test_stays m n _ _ c.in_ok-no.ensures.grows (constant_test o m _ true c.in_ok-yes.ensures.built) in
    let never = constant_test m n _ false c.in_ok-no.ensures.built in
    begin_can o n c.args.program.now c.args.at.now c.args.setting.now (grows_trans o m n c.in_ok-yes.ensures.grows c.in_ok-no.ensures.grows) c.in_ok-yes.yes c.in_ok-no.no sure never c.in_ok-globals.globals c.in_ok-locals.locals _ c.in_ok-globals.ensures c.in_ok-locals.ensures c.new.ensures c.requires.can

pub returns-clause-says : goal.returns-clause-says
returns-clause-says c =
    let o = c.args.terms.now in
    let m = c.constant.new.self in
    let n = c.constant-2.new.self in
    let sure = test_stays m n _ _ c.in_ok-no.ensures.grows (constant_test o m _ true c.in_ok-yes.ensures.built) in
    let never = constant_test m n _ false c.in_ok-no.ensures.built in
    begin_says o n c.args.program.now c.args.at.now c.args.setting.now (grows_trans o m n c.in_ok-yes.ensures.grows c.in_ok-no.ensures.grows) c.in_ok-yes.yes c.in_ok-no.no sure never c.in_ok-globals.globals c.in_ok-locals.locals _ c.in_ok-globals.ensures c.in_ok-locals.ensures c.new.ensures

pub returns-in_err-globals-clause-grows : goal.returns-in_err-globals-clause-grows
returns-in_err-globals-clause-grows c = grows_trans _ _ _ c.in_ok-yes.ensures.grows c.in_ok-no.ensures.grows

pub returns-in_err-locals-clause-grows : goal.returns-in_err-locals-clause-grows
returns-in_err-locals-clause-grows c = grows_trans _ _ _ c.in_ok-yes.ensures.grows c.in_ok-no.ensures.grows

pub returns-clause-grows : goal.returns-clause-grows
returns-clause-grows c = grows_trans _ _ _ c.in_ok-yes.ensures.grows c.in_ok-no.ensures.grows
