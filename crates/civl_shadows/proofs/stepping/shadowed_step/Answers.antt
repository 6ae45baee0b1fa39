use Rattle.std.proofs.Common.{◌∙◌, sym, ap}
use Rattle.civl_meaning.specs.declared.config.Stepped.{Stepped}
use Rattle.civl_shadows.proofs.Effects.{moved_so}
use Rattle.civl_shadows.proofs.stepping.shadowed_step.Goals as goal

pub returns-then-eq-clause-moved : goal.returns-then-eq-clause-moved
returns-then-eq-clause-moved c e s shows =
    let made = ap (λ (a : Stepped). (a, c.step.new.config)) (sym e) ∙ c.in_ok-answer.ensures.ok in
    moved_so c.args.plain.now c.args.layer c.args.chosen.now c.args.shadowed.now c.move_on.new.shadowed c.step.new.config s c.in_ok-effect.effect c.as_slice-threads.result.now c.frame_at-before.result c.is_some-framed.result c.requires.layer shows
    c.in_ok-move_on.ensures.config made c.in_ok-move_on.ensures.one_each (c.in_ok-effect.ensures s.shadow shows.shadow) c.as_slice-threads.ensures c.frame_at-before.ensures c.is_some-framed.ensures (c.in_ok-move_on.ensures.shadow s.shadow shows.shadow)
