use Rattle.std.proofs.Common.{◌≡◌, ◌+◌, ◌∙◌, List, ap, subst}
use Rattle.civl_meaning.specs.declared.config.Running.{Running}
use Rattle.civl_reduction.specs.blocks.Cuts.{frame_at}
use Rattle.civl_reduction.specs.blocks.Shadow.{after_frame}
use Rattle.civl_shadows.specs.Frames.{framed_of}
use Rattle.civl_shadows.specs.Shadows.{IsShadow}
use Rattle.civl_shadows.specs.inner.Stepping.{with_effect, begun_by}
use Rattle.civl_shadows.proofs.stepping.move_on.Goals as goal

pub returns-clause-shadow : goal.returns-clause-shadow
returns-clause-shadow c s h =
    let before = c.in_ok-grow.ensures.kept (begun_by c.args.number c.args.framed (with_effect c.args.number c.args.effect s)) (c.begin.ensures.begun (with_effect c.args.number c.args.effect s) (c.keep.ensures.kept s h)) in
    let begun = begun_by c.args.number c.args.framed (with_effect c.args.number c.args.effect s) in
    let after = c.in_ok-behind.ensures begun before in
    let frames : framed_of c.frame_at-now.result ≡ frame_at c.args.program.now (c.args.layer + 1) c.args.shadowed.now.config.threads c.args.number =
    c.frame_at-now.ensures ∙ ap (λ (ts : List Running). frame_at c.args.program.now (c.args.layer + 1) ts c.args.number) c.as_slice-threads.ensures in
    subst (IsShadow c.keep-2.new.shadow) (after ∙ ap (after_frame c.args.program.now c.args.layer c.args.number c.args.shadowed.now.config.store begun) frames) (c.keep-2.ensures.kept begun before)
