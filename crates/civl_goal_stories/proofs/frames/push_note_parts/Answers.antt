use Rattle.std.proofs.Common.{sym, ap, ◌∙◌, arith}
use Rattle.std.specs.Option.{option_map}
use Rattle.civl_reasons.specs.inner.Told.{subformula}
use Rattle.civl_goal_stories.proofs.Fitting.{noted_fits}
use Rattle.civl_goal_stories.proofs.frames.push_note_parts.Goals as goal

pub push_parts-requires : goal.push_parts-requires
push_parts-requires c =
    let there = sym c.note_before.ensures ∙ ap (option_map subformula) c.in-Some.is in
    let fits = noted_fits c.args.outline.now c.args.frame.now.procedure c.args.frame.now.place (subformula c.in-Some.part) there in
    omega (arith, fits, c.requires.short)
