-- A block run is followed block by block: what the code's calls say, put together.
use Rattle.std.proofs.Common.{◌≡◌, ℕ, ◌+◌, ◌<◌, ◌≤◌, false, List, ◌∷◌, drop, length, get_or, sym, ap, ◌∙◌, subst, arith, inl, inr, ◌⊎◌}
use Rattle.std.proofs.lemmas.List.{drop_all, get_or_default}
use Rattle.civl_tree.specs.declared.program.Program.{Program}
use Rattle.civl_tree.proofs.Lists.{drop_is}
use Rattle.civl_firing.specs.declared.store.Store.{Store}
use Rattle.civl_meaning.specs.declared.config.Move.{Move}
use Rattle.civl_meaning.specs.declared.config.Plain.{Plain}
use Rattle.civl_meaning.specs.declared.config.Stepped.{Stepped}
use Rattle.civl_meaning.specs.declared.config.Stepped.TheVariants.{Moved}
use Rattle.civl_meaning.specs.Step.{step_of}
use Rattle.civl_reduction.specs.blocks.Challenged.{is_challenged}
use Rattle.civl_reduction.specs.blocks.Shadow.{Shadowed, shadowed_step}
use Rattle.civl_shadows.specs.declared.shadow.Shadowed as given
use Rattle.civl_shadows.specs.Shadows.{IsLayerOf, Shows}
use Rattle.civl_followed.specs.declared.walk.Opening.{Opening}
use Rattle.civl_followed.specs.declared.walk.Walk.{Walk}
use Rattle.civl_followed.specs.inner.Along.{Grounds, BeginsAs, AlongAt, AlongIn, IsReady}
use Rattle.civl_followed.proofs.Walking.{ready_at, ready_in, none_open}
use Rattle.civl_followed.proofs.Stepping.{moves_on}

module _ (program : Program) (layer : ℕ) (store : Store) (moves : List Move) (g : Grounds program layer store) (b : Opening) where
  -- nothing has been done since the block began, or it is open
  abbrev pub Waiting : Walk → Walk → ℕ → ℕ → Type 0
  Waiting old walk from at = ((at ≡ from) × (walk ≡ old)) ⊎ AlongIn program layer store moves b walk.lower walk.upper walk.followed.items (drop at moves)

  pub ready_so : (old walk : Walk) (from at : ℕ) (first one : Move) → at < length moves → one ≡ get_or moves at one → from < length moves → first ≡ get_or moves from first → b.thread ≡ first.thread
      → ((s : Shadowed) → Shows old.lower s → BeginsAs program layer s b) → AlongAt program layer store moves old.lower old.upper old.followed.items (drop from moves) → ((s : Shadowed) → Shows old.lower s → is_challenged program layer s ≡ false)
      → Waiting old walk from at → IsReady program layer store moves b one walk.lower walk.upper walk.followed.items (drop (at + 1) moves)
  ready_so old walk from at first one h is low first_is thread begins along not_so (inl w) =
      let here : drop from moves ≡ one ∷ drop (at + 1) moves = ap (λ (i : ℕ). drop i moves) (sym w.0) ∙ drop_is moves at one h is in
      let same : first ≡ one = first_is ∙ (get_or_default moves from first one low ∙ (ap (λ (i : ℕ). get_or moves i one) (sym w.0) ∙ sym is)) in
      subst (λ (z : Walk). IsReady program layer store moves b one z.lower z.upper z.followed.items (drop (at + 1) moves)) (sym w.1)
      (ready_at program layer store moves g b one old.lower old.upper old.followed.items (drop (at + 1) moves)
      (subst (AlongAt program layer store moves old.lower old.upper old.followed.items) here along) not_so (thread ∙ ap (λ (m : Move). m.thread) same) begins)
  ready_so old walk from at first one h is low first_is thread begins along not_so (inr a) =
      ready_in program layer store moves g b one walk.lower walk.upper walk.followed.items (drop (at + 1) moves)
      (subst (AlongIn program layer store moves b walk.lower walk.upper walk.followed.items) (drop_is moves at one h is) a)

  -- no block is open at the end
  pub none_waits : (old walk : Walk) (from at : ℕ) → from < length moves → length moves ≤ at → Waiting old walk from at → ⊥
  none_waits old walk from at low high (inl w) = let same = w.0 in omega (arith, low, high, same)
  none_waits old walk from at low high (inr a) =
      none_open program layer store moves g b walk.lower walk.upper walk.followed.items (subst (AlongIn program layer store moves b walk.lower walk.upper walk.followed.items) (drop_all at moves high) a)

-- the step is made, and the shadow goes with it
pub shows_so : (plain : Plain) (layer : ℕ) (store : Store) (moves : List Move) → IsLayerOf plain layer → (g : Grounds plain.program layer store) (b : Opening) (m : Move) (kept new : given.Shadowed) (x : Walk) (rest : List Move) (a : Stepped)
    → a ≡ (step_of plain kept.config m).0 → (a ≡ Moved → (s : Shadowed) → Shows kept s → Shows new (shadowed_step plain.program layer s m)) → IsReady plain.program layer store moves b m kept x.upper x.followed.items rest
    → (s : Shadowed) → Shows kept s → Shows new (shadowed_step plain.program layer s m)
shows_so plain layer store moves l g b m kept new x rest a is moved r =
    moved (is ∙ (ap (λ (p : Plain). (step_of p kept.config m).0) l.is ∙ moves_on plain.program layer store moves g b m kept x.upper x.followed.items rest r))
