use Rattle.std.proofs.Common.{◌∙◌, ap, refl, arith}
use Rattle.civl_actions.specs.Actions.{values_at}
use Rattle.civl_actions.proofs.Staying.{are_stay}
use Rattle.civl_terms.proofs.Growing.{grows_trans}
use Rattle.civl_states.proofs.formula_parts.Listing.{said_stay}
use Rattle.civl_goal_terms.specs.inner.Steps.{moved_at, swept_by}
use Rattle.civl_goal_terms.proofs.Stepping.{says_swept}
use Rattle.civl_goal_terms.proofs.steps.passed.Goals as goal

pub pass-requires-clause-choices : goal.pass-requires-clause-choices
pass-requires-clause-choices c = are_stay _ _ _ _ c.requires.can.choices c.in_ok-sweep.ensures.grows

pub returns-clause-can : goal.returns-clause-can
returns-clause-can c =
    let m = c.begin.new.terms in
    let choices = c.args.setting.now.choices in
    (c.in_ok-pass.ensures.moves (λ env. values_at env m choices) (record { sorted = are_stay _ _ _ _ c.requires.can.choices c.in_ok-sweep.ensures.grows; are = λ env fits. refl })).can

pub returns-in_err-pass-clause-grows : goal.returns-in_err-pass-clause-grows
returns-in_err-pass-clause-grows c = grows_trans _ _ _ c.in_ok-sweep.ensures.grows c.in_err-pass.ensures.grows

pub returns-clause-grows : goal.returns-clause-grows
returns-clause-grows c = grows_trans _ _ _ c.in_ok-sweep.ensures.grows c.in_ok-pass.ensures.grows

pub returns-clause-weighs : goal.returns-clause-weighs
returns-clause-weighs c = omega (arith, c.in_ok-sweep.ensures.weighs, c.in_ok-pass.ensures.weighs)

pub returns-clause-says : goal.returns-clause-says
returns-clause-says c = λ h s.
    let p = c.args.program.now in
    let a = c.args.at.now in
    let w = c.in_ok-sweep.ensures.grows in
    let moves = c.in_ok-pass.ensures.moves (λ env. (h env).chosen) (said_stay _ _ _ _ _ w s.choices) in
    says_swept c.pass.new.terms p a.proc.now c.pass.new.sweep (λ env. swept_by p a (h env)) moves.can
    (λ env fits. moves.is env fits ∙ ap (moved_at p a (h env).chosen) (c.in_ok-sweep.ensures.says h s env (c.in_ok-pass.ensures.grows.fits env fits)))
