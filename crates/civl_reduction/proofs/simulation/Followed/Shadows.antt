-- The shadow behind one more move.
use Rattle.std.proofs.Common.{◌≡◌, ◌≢◌, ℕ, ◌+◌, Bool, true, false, List, [], ◌∷◌, ◌++◌, refl, ap, ◌∙◌, Option, None, Some}
use Rattle.std.specs.Prelude.{if◌then◌else◌}
use Rattle.std.proofs.lemmas.Bool.{ne_eqb}
use Rattle.civl_tree.specs.declared.program.Proc.{Proc}
use Rattle.civl_tree.specs.declared.program.Program.{Program}
use Rattle.civl_firing.specs.declared.store.Store.{Store}
use Rattle.civl_meaning.specs.declared.config.Activation.{Activation}
use Rattle.civl_meaning.specs.declared.config.Move.{Move}
use Rattle.civl_meaning.specs.Layers.{program_at}
use Rattle.civl_meaning.specs.Step.{step_of}
use Rattle.civl_conditions.specs.paths.Paths.{Progress}
use Rattle.civl_conditions.specs.paths.Runs.{led}
use Rattle.civl_reduction.specs.blocks.Blocks.{at_yield, rest_of}
use Rattle.civl_reduction.specs.blocks.Cuts.{frame_at, settled}
use Rattle.civl_reduction.specs.blocks.Shadow.{Shadow, Shadowed, with_done, shadow_with, glided, course_of, progress_in, before_frame, before_step, begun_with, after_frame, shadowed_step, shadowed_from}

pub shadowed_more : (program : Program) (layer : ℕ) (ms : List Move) (m : Move) (s : Shadowed) → shadowed_from program layer (ms ++ m ∷ []) s ≡ shadowed_step program layer (shadowed_from program layer ms s) m
shadowed_more program layer [] m s = refl
shadowed_more program layer (n ∷ ms) m s = shadowed_more program layer ms m (shadowed_step program layer s n)

pub shadowed_append : (program : Program) (layer : ℕ) (ms ns : List Move) (s : Shadowed) → shadowed_from program layer (ms ++ ns) s ≡ shadowed_from program layer ns (shadowed_from program layer ms s)
shadowed_append program layer [] ns s = refl
shadowed_append program layer (m ∷ ms) ns s = shadowed_append program layer ms ns (shadowed_step program layer s m)

module _ (program : Program) (layer : ℕ) (t u : ℕ) (other : u ≢ t) where
  with_other : (done : ℕ → Bool) (value : Bool) → with_done done t value u ≡ done u
  with_other done value = ap (λ (b : Bool). if b then value else done u) (ne_eqb u t other)

  before_other : (store : Store) (shadow : Shadow) (o : Option (Proc × Activation)) → (before_frame program layer t store shadow o).done u ≡ shadow.done u
  before_other store shadow None = refl
  before_other store shadow (Some f) = go (at_yield (rest_of f)) (glided (course_of program layer f.0) (settled (rest_of f)) (progress_in program layer t store shadow f.1))
    where
      go : (b : Bool) (p : Progress) → (if b then shadow_with shadow t p else shadow).done u ≡ shadow.done u
      go true p = with_other shadow.done p.done
      go false p = refl

  begun_other : (shadow : Shadow) (o : Option (Proc × Activation)) → (begun_with t o shadow).done u ≡ shadow.done u
  begun_other shadow None = with_other shadow.done false
  begun_other shadow (Some f) = refl

  after_other : (store : Store) (shadow : Shadow) (o : Option (Proc × Activation)) → (after_frame program layer t store shadow o).done u ≡ shadow.done u
  after_other store shadow None = refl
  after_other store shadow (Some f) = with_other shadow.done (led (course_of program layer f.0) (rest_of f) (progress_in program layer t store shadow f.1)).done

-- the other frames have passed a commit where they had
pub done_other : (program : Program) (layer : ℕ) (s : Shadowed) (m : Move) (u : ℕ) → u ≢ m.thread → (shadowed_step program layer s m).shadow.done u ≡ s.shadow.done u
done_other program layer s m u other =
    let before = before_step program layer m.thread s.config s.shadow in
    let next = (step_of (program_at program layer) s.config m).1 in
    after_other program layer m.thread u other next.store (begun_with m.thread (frame_at program (layer + 1) s.config.threads m.thread) before) (frame_at program (layer + 1) next.threads m.thread)
    ∙ (begun_other program layer m.thread u other before (frame_at program (layer + 1) s.config.threads m.thread)
    ∙ before_other program layer m.thread u other s.config.store s.shadow (frame_at program (layer + 1) s.config.threads m.thread))

-- a step outside the layer's procedures leaves the values of introduced globals
pub outside_shadow : (program : Program) (layer : ℕ) (s : Shadowed) (m : Move) → frame_at program (layer + 1) s.config.threads m.thread ≡ None → frame_at program (layer + 1) (step_of (program_at program layer) s.config m).1.threads m.thread ≡ None
    → (shadowed_step program layer s m).shadow.store ≡ s.shadow.store
outside_shadow program layer s m e f =
    ap (λ (o : Option (Proc × Activation)). (after_frame program layer m.thread (step_of (program_at program layer) s.config m).1.store (begun_with m.thread (frame_at program (layer + 1) s.config.threads m.thread) (before_step program layer m.thread s.config s.shadow)) o).store) f
    ∙ ap (λ (o : Option (Proc × Activation)). (begun_with m.thread o (before_frame program layer m.thread s.config.store s.shadow o)).store) e
