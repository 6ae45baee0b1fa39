-- The shadow beside one more move.
use Rattle.std.proofs.Common.{◌≡◌, List, [], ◌∷◌, ◌++◌, Some, refl, sym, ap, subst, ◌∙◌}
use Rattle.std.proofs.lemmas.Option.{none-some}
use Rattle.civl_meaning.specs.declared.config.Move.{Move}
use Rattle.civl_meaning.specs.declared.config.Plain.{Plain}
use Rattle.civl_meaning.specs.declared.config.Config.{Config}
use Rattle.civl_meaning.specs.declared.config.Stepped.{Stepped}
use Rattle.civl_meaning.specs.declared.config.Stepped.TheVariants as answer
use Rattle.civl_meaning.specs.Step.{step_of}
use Rattle.civl_meaning.specs.Layers.{program_at}
use Rattle.civl_reduction.specs.blocks.Shadow.{Shadowed, shadowed_step, shadowed_start, shadowed}
use Rattle.civl_shadows.specs.Shadows.{Shows}
use Rattle.civl_shadows.specs.declared.shadow.Shadowed as kept
use Rattle.civl_reduction.specs.gathered.System.{made}
use Rattle.civl_reduction.proofs.simulation.Followed.Shadows.{shadowed_more}
use Rattle.civl_blocked.specs.declared.ground.Ground.{Ground}
use Rattle.civl_blocked.specs.inner.Segments.{IsGround, over, program_of}
use Rattle.civl_blocked.specs.inner.Turning.{IsBeside}

made_moved : (x : Stepped × Config) (d : Config) → made x ≡ Some d → x.0 ≡ answer.Moved
made_moved (answer.Moved, e) d h = refl
made_moved (answer.Blocked, e) d h = absurd (none-some d h)
made_moved (answer.NoThread, e) d h = absurd (none-some d h)
made_moved (answer.Ended, e) d h = absurd (none-some d h)
made_moved (answer.Failing, e) d h = absurd (none-some d h)
made_moved (answer.BadChoices, e) d h = absurd (none-some d h)

pub beside_more : (g : Ground) (ms items : List Move) (m : Move) (old new : kept.Shadowed) (a : Stepped) → IsGround g → (d : Config) × ((over g).step old.config m ≡ Some d)
    → a ≡ (step_of g.plain.now old.config m).0 → (a ≡ answer.Moved → (s : Shadowed) → Shows old s → Shows new (shadowed_step (program_of g) g.layer s m))
    → IsBeside g ms old → items ≡ ms ++ m ∷ [] → IsBeside g items new
beside_more g ms items m old new a ground runs is moved beside list =
    let there : (step_of g.plain.now old.config m).0 ≡ answer.Moved =
    ap (λ (p : Plain). (step_of p old.config m).0) ground.layer.is ∙ made_moved (step_of (program_at (program_of g) g.layer) old.config m) runs.0 runs.1 in
    subst (Shows new) (sym (ap (shadowed (program_of g) g.layer g.store.now) list ∙ shadowed_more (program_of g) g.layer ms m (shadowed_start (program_of g) g.layer g.store.now)))
    (moved (is ∙ there) (shadowed (program_of g) g.layer g.store.now ms) beside)
