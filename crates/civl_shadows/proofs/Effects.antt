-- What takes effect before and behind a step, as the code has it.
use Rattle.std.proofs.Common.{◌≡◌, ℕ, ◌+◌, Bool, true, false, List, length, refl, sym, ap, ◌∙◌, subst, Option, Some, None}
use Rattle.std.specs.Prelude.{is_some, if◌then◌else◌}
use Rattle.civl_bits.specs.declared.value.Value.{Value}
use Rattle.civl_tree.specs.declared.program.Proc.{Proc}
use Rattle.civl_tree.specs.declared.program.Program.{Program}
use Rattle.civl_firing.specs.declared.store.Store.{Store}
use Rattle.civl_meaning.specs.declared.config.Activation.{Activation}
use Rattle.civl_meaning.specs.declared.config.Config.{Config}
use Rattle.civl_meaning.specs.declared.config.Move.{Move}
use Rattle.civl_meaning.specs.declared.config.Plain.{Plain}
use Rattle.civl_meaning.specs.declared.config.Stepped.{Stepped}
use Rattle.civl_meaning.specs.declared.config.Stepped.TheVariants.{Moved}
use Rattle.civl_meaning.specs.Layers.{program_at}
use Rattle.civl_meaning.specs.Rest.{Rest}
use Rattle.civl_meaning.specs.Step.{step_of}
use Rattle.civl_conditions.specs.paths.Paths.{Course}
use Rattle.civl_conditions.specs.paths.Runs.{led}
use Rattle.civl_reduction.specs.blocks.Blocks as blocks
use Rattle.civl_reduction.specs.blocks.Cuts.{frame_at, settled}
use Rattle.civl_reduction.specs.blocks.Shadow.{Shadow, Shadowed, merged, course_of, glided, progress_in, shadow_with, before_frame, before_step, begun_with, after_frame, after_step, shadowed_step}
use Rattle.civl_shadows.specs.declared.notes.Noting.{Noting}
use Rattle.civl_shadows.specs.declared.notes.Progress as code
use Rattle.civl_shadows.specs.declared.shadow.Shadow as kept
use Rattle.civl_shadows.specs.declared.shadow.Shadowed as given
use Rattle.civl_meaning.specs.declared.config.Running.{Running}
use Rattle.civl_shadows.specs.declared.frames.Framed.{Framed}
use Rattle.civl_shadows.specs.Frames.{framed_of}
use Rattle.civl_shadows.specs.Notes.{noted, progress_of}
use Rattle.civl_shadows.specs.Shadows.{IsShadow, IsLayerOf, Shows}
use Rattle.civl_shadows.specs.inner.Stepping.{with_effect, begun_by, IsProgressIn}

-- ---- what takes effect

pub starts_so : (program : Program) (layer number : ℕ) (store : Store) (old : kept.Shadow) (s : Shadow) (p : code.Progress) (noting : Noting) (frame : Activation) → noting.locals.now ≡ frame.locals → IsProgressIn program layer number store old p → IsShadow old s
    → progress_of noting p ≡ progress_in program layer number store s frame
starts_so program layer number store old s p noting frame locals is shows =
    ap (λ (vs : List Value). record { store = record { values = vs }; locals = noting.locals.now; done = p.done; again = p.again }) (is.values ∙ ap (λ (g : Store). (merged program layer store g).values) shows.store)
    ∙ (ap (λ (ls : List Value). record { store = merged program layer store s.store; locals = ls; done = p.done; again = p.again }) locals
    ∙ (ap (λ (b : Bool). record { store = merged program layer store s.store; locals = frame.locals; done = b; again = p.again }) (is.done ∙ shows.done number)
    ∙ ap (λ (b : Bool). record { store = merged program layer store s.store; locals = frame.locals; done = s.done number; again = b }) is.again))

module _ (program : Program) (layer number : ℕ) (store : Store) (s : Shadow) (proc : Proc) (frame : Activation) (noting : Noting) (first p : code.Progress) (starts : progress_of noting first ≡ progress_in program layer number store s frame)
    (rest : Rest) (is : rest ≡ blocks.rest_of (proc, frame)) where
  pub after_so : noted noting ≡ course_of program layer proc → progress_of noting p ≡ led (noted noting) rest (progress_of noting first) → with_effect number (Some p) s ≡ after_frame program layer number store s (Some (proc, frame))
  after_so c e =
      ap (shadow_with s number)
      (e ∙ (ap (λ (x : Course). led x rest (progress_of noting first)) c ∙ (ap (λ (r : Rest). led (course_of program layer proc) r (progress_of noting first)) is ∙ ap (led (course_of program layer proc) (blocks.rest_of (proc, frame))) starts)))

  pub before_so : noted noting ≡ course_of program layer proc → (settles : Rest) → settles ≡ settled rest → progress_of noting p ≡ glided (noted noting) settles (progress_of noting first) → blocks.at_yield rest ≡ true
      → with_effect number (Some p) s ≡ before_frame program layer number store s (Some (proc, frame))
  before_so c settles q e yields =
      ap (shadow_with s number)
      (e ∙ (ap (λ (x : Course). glided x settles (progress_of noting first)) c ∙ (ap (λ (r : Rest). glided (course_of program layer proc) r (progress_of noting first)) (q ∙ ap settled is) ∙ ap (glided (course_of program layer proc) (settled (blocks.rest_of (proc, frame)))) starts)))
      ∙ ap (λ (b : Bool). if b then shadow_with s number (glided (course_of program layer proc) (settled (blocks.rest_of (proc, frame))) (progress_in program layer number store s frame)) else s) (sym yields ∙ ap blocks.at_yield is)

pub before_not : (program : Program) (layer number : ℕ) (store : Store) (s : Shadow) (proc : Proc) (frame : Activation) (rest : Rest) → rest ≡ blocks.rest_of (proc, frame) → blocks.at_yield rest ≡ false → s ≡ before_frame program layer number store s (Some (proc, frame))
before_not program layer number store s proc frame rest is yields =
    ap (λ (b : Bool). if b then shadow_with s number (glided (course_of program layer proc) (settled (blocks.rest_of (proc, frame))) (progress_in program layer number store s frame)) else s) (sym yields ∙ ap blocks.at_yield is)

-- ---- a step

pub begun_so : (t : ℕ) (o : Option (Proc × Activation)) (s : Shadow) → begun_by t (is_some o) s ≡ begun_with t o s
begun_so t None s = refl
begun_so t (Some f) s = refl

pub stepped_so : (plain : Plain) (layer : ℕ) (m : Move) (old new : given.Shadowed) (s : Shadowed) (effect : Option code.Progress) (framed : Bool) → IsLayerOf plain layer → Shows old s
    → (Moved, new.config) ≡ step_of plain old.config m → length new.shadow.done.items ≡ length new.config.threads
    → with_effect m.thread effect s.shadow ≡ before_step plain.program layer m.thread s.config s.shadow
    → framed ≡ is_some (frame_at plain.program (layer + 1) old.config.threads m.thread)
    → IsShadow new.shadow (after_frame plain.program layer m.thread new.config.store (begun_by m.thread framed (with_effect m.thread effect s.shadow)) (frame_at plain.program (layer + 1) new.config.threads m.thread))
    → Shows new (shadowed_step plain.program layer s m)
stepped_so plain layer m old new s effect framed l shows made one before frames after =
    record { config = next; shadow = subst (IsShadow new.shadow) shadow after; one_each = one }
  where
    next : new.config ≡ (step_of (program_at plain.program layer) s.config m).1
    next = ap (λ (z : Stepped × Config). z.1) made ∙ (ap (λ (p : Plain). (step_of p old.config m).1) l.is ∙ ap (λ (c : Config). (step_of (program_at plain.program layer) c m).1) shows.config)

    begun : begun_by m.thread framed (with_effect m.thread effect s.shadow) ≡ begun_with m.thread (frame_at plain.program (layer + 1) s.config.threads m.thread) (before_step plain.program layer m.thread s.config s.shadow)
    begun =
        ap (λ (x : Shadow). begun_by m.thread framed x) before
        ∙ (ap (λ (b : Bool). begun_by m.thread b (before_step plain.program layer m.thread s.config s.shadow)) (frames ∙ ap (λ (c : Config). is_some (frame_at plain.program (layer + 1) c.threads m.thread)) shows.config)
        ∙ begun_so m.thread (frame_at plain.program (layer + 1) s.config.threads m.thread) (before_step plain.program layer m.thread s.config s.shadow))

    shadow : after_frame plain.program layer m.thread new.config.store (begun_by m.thread framed (with_effect m.thread effect s.shadow)) (frame_at plain.program (layer + 1) new.config.threads m.thread)
        ≡ after_step plain.program layer m.thread s.config (step_of (program_at plain.program layer) s.config m).1 (before_step plain.program layer m.thread s.config s.shadow)
    shadow =
        ap (λ (x : Shadow). after_frame plain.program layer m.thread new.config.store x (frame_at plain.program (layer + 1) new.config.threads m.thread)) begun
        ∙ ap (λ (c : Config). after_frame plain.program layer m.thread c.store (begun_with m.thread (frame_at plain.program (layer + 1) s.config.threads m.thread) (before_step plain.program layer m.thread s.config s.shadow)) (frame_at plain.program (layer + 1) c.threads m.thread)) next

some_framed : (before : Option Framed) → is_some before ≡ is_some (framed_of before)
some_framed None = refl
some_framed (Some f) = refl

-- the same from what the code's calls say
pub moved_so : (plain : Plain) (layer : ℕ) (m : Move) (old new : given.Shadowed) (stepped : Config) (s : Shadowed) (effect : Option code.Progress) (threads : List Running) (before : Option Framed) (framed : Bool) → IsLayerOf plain layer → Shows old s
    → new.config ≡ stepped → (Moved, stepped) ≡ step_of plain old.config m → length new.shadow.done.items ≡ length new.config.threads
    → with_effect m.thread effect s.shadow ≡ before_frame plain.program layer m.thread old.config.store s.shadow (framed_of before)
    → threads ≡ old.config.threads → framed_of before ≡ frame_at plain.program (layer + 1) threads m.thread → framed ≡ is_some before
    → IsShadow new.shadow (after_frame plain.program layer m.thread stepped.store (begun_by m.thread framed (with_effect m.thread effect s.shadow)) (frame_at plain.program (layer + 1) stepped.threads m.thread))
    → Shows new (shadowed_step plain.program layer s m)
moved_so plain layer m old new stepped s effect threads before framed l shows config made one effects same frames some after =
    stepped_so plain layer m old new s effect framed l shows (ap (λ (c : Config). (Moved, c)) config ∙ made) one
    (effects ∙ (ap (before_frame plain.program layer m.thread old.config.store s.shadow) (frames ∙ ap (λ (ts : List Running). frame_at plain.program (layer + 1) ts m.thread) same)
    ∙ ap (λ (c : Config). before_frame plain.program layer m.thread c.store s.shadow (frame_at plain.program (layer + 1) c.threads m.thread)) shows.config))
    (some ∙ (some_framed before ∙ ap is_some (frames ∙ ap (λ (ts : List Running). frame_at plain.program (layer + 1) ts m.thread) same)))
    (subst (λ (c : Config). IsShadow new.shadow (after_frame plain.program layer m.thread c.store (begun_by m.thread framed (with_effect m.thread effect s.shadow)) (frame_at plain.program (layer + 1) c.threads m.thread))) (sym config) after)
