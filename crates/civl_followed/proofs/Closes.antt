-- The end of a block, from what the code's calls say.
use Rattle.std.proofs.Common.{◌≡◌, ℕ, ◌+◌, List, [], ◌∷◌, ◌++◌, refl, sym, ap, ◌∙◌, subst, Option, Some, None, slice_get}
use Rattle.civl_bits.specs.declared.value.Value.{Value}
use Rattle.civl_tree.specs.declared.program.Proc.{Proc}
use Rattle.civl_tree.specs.declared.program.Program.{Program}
use Rattle.civl_firing.specs.declared.store.Store.{Store}
use Rattle.civl_meaning.specs.declared.config.Activation.{Activation}
use Rattle.civl_meaning.specs.declared.config.Config.{Config}
use Rattle.civl_meaning.specs.declared.config.Move.{Move}
use Rattle.civl_meaning.specs.declared.config.Plain.{Plain}
use Rattle.civl_meaning.specs.declared.config.Running.{Running}
use Rattle.civl_meaning.specs.declared.config.Stepped.TheVariants.{Moved}
use Rattle.civl_meaning.specs.Layers.{program_at}
use Rattle.civl_meaning.specs.Step.{step_of}
use Rattle.civl_reduction.specs.blocks.Cuts.{frame_at}
use Rattle.civl_reduction.specs.blocks.Shadow.{merged}
use Rattle.civl_reduction.specs.simulation.Refined.{last_frame}
use Rattle.civl_shadows.specs.declared.shadow.Shadowed as given
use Rattle.civl_shadows.specs.Shadows.{done_in}
use Rattle.civl_followed.specs.declared.walk.Opening.{Opening}
use Rattle.civl_followed.specs.declared.walk.Walk.{Walk}
use Rattle.civl_followed.specs.inner.Frames.{IsKept}
use Rattle.civl_followed.specs.inner.Along.{AlongAt, IsChosen, Closes}
use Rattle.civl_followed.proofs.Stepping.{same_move, no_move, one_merged}

module _ (program : Program) (layer : ℕ) (old : Walk) (b : Opening) (m : Move) (before now : Option Activation) (threads : List Running) (threads_are : threads ≡ old.lower.config.threads) (now_is : IsKept program now (frame_at program (layer + 1) threads m.thread)) where
  abbrev Lasts : Option Activation → Type 0
  Lasts frame = (first second : Option (Proc × Activation)) → IsKept program now first → IsKept program before second → IsKept program frame (last_frame first second)

  -- the frame in which the block ended
  ended : (frame : Option Activation) → Lasts frame → (kept : given.Shadowed) → IsKept program before (frame_at program (layer + 1) kept.config.threads m.thread)
      → IsKept program frame (last_frame (frame_at program (layer + 1) old.lower.config.threads m.thread) (frame_at program (layer + 1) kept.config.threads m.thread))
  ended frame lasts kept is =
      lasts (frame_at program (layer + 1) old.lower.config.threads m.thread) (frame_at program (layer + 1) kept.config.threads m.thread)
      (subst (λ (ts : List Running). IsKept program now (frame_at program (layer + 1) ts m.thread)) threads_are now_is) is

  -- one move more
  made_so : (store : Store) (moves rest : List Move) (new : Walk) (upper : Plain) (n one : Move) → upper ≡ program_at program (layer + 1) → n ≡ one → new.lower ≡ old.lower
      → ((y : Config) → step_of upper old.upper n ≡ (Moved, y) → new.upper ≡ y) → new.followed.items ≡ old.followed.items ++ n ∷ []
      → ((y : Config) × (step_of (program_at program (layer + 1)) old.upper one ≡ (Moved, y)) × AlongAt program layer store moves old.lower y (old.followed.items ++ one ∷ []) rest)
      → AlongAt program layer store moves new.lower new.upper new.followed.items rest
  made_so store moves rest new upper n one u same lower steps followed made =
      let there = steps made.0 (ap (λ (p : Plain). step_of p old.upper n) u ∙ (ap (step_of (program_at program (layer + 1)) old.upper) same ∙ made.1)) in
      subst (λ (k : given.Shadowed). AlongAt program layer store moves k new.upper new.followed.items rest) (sym lower)
      (subst (λ (x : Config). AlongAt program layer store moves old.lower x new.followed.items rest) (sym there)
      (subst (λ (ns : List Move). AlongAt program layer store moves old.lower made.0 ns rest) (sym (followed ∙ ap (λ (l : Move). old.followed.items ++ l ∷ []) same)) made.2))

  pub closes_outside : (new : Walk) (upper : Plain) (n : Move) → Lasts None → upper ≡ program_at program (layer + 1) → n ≡ m → new.lower ≡ old.lower → ((y : Config) → step_of upper old.upper n ≡ (Moved, y) → new.upper ≡ y)
      → new.followed.items ≡ old.followed.items ++ n ∷ [] → Closes program layer old new b before m
  closes_outside new upper n lasts u same lower steps followed store moves rest kept g r shows inside is =
      made_so store moves rest new upper n m u same lower steps followed (same_move program layer store moves g b m kept old.upper old.followed.items rest r old.lower shows inside (ended None lasts kept is))

  pub closes_quietly : (frame : Activation) → Lasts (Some frame) → done_in old.lower.shadow.done.items m.thread ≡ b.done → Closes program layer old old b before m
  closes_quietly frame lasts same store moves rest kept g r shows inside is =
      let there = ended (Some frame) lasts kept is in
      no_move program layer store moves g b m kept old.upper old.followed.items rest r old.lower shows inside (there.0, frame) there.2 same

  pub closes_by : (new : Walk) (upper : Plain) (frame : Activation) (choices : List Value) → Lasts (Some frame) → (done_in old.lower.shadow.done.items m.thread ≡ b.done → ⊥)
      → ((proc : Proc) → slice_get program.procs frame.procedure ≡ Some proc → IsChosen program layer (proc, frame) b (merged program layer old.lower.config.store old.lower.shadow.store) choices)
      → upper ≡ program_at program (layer + 1) → new.lower ≡ old.lower → ((y : Config) → step_of upper old.upper (record { thread = m.thread; choices = choices }) ≡ (Moved, y) → new.upper ≡ y)
      → new.followed.items ≡ old.followed.items ++ (record { thread = m.thread; choices = choices }) ∷ [] → Closes program layer old new b before m
  closes_by new upper frame choices lasts other chosen u lower steps followed store moves rest kept g r shows inside is =
      let there = ended (Some frame) lasts kept is in
      made_so store moves rest new upper (record { thread = m.thread; choices = choices }) (record { thread = m.thread; choices = choices }) u refl lower steps followed
      (one_merged program layer store moves g b m kept old.upper old.followed.items rest r old.lower shows inside (there.0, frame) there.2 other choices (chosen there.0 there.1))
