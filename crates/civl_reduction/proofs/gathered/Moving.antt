-- Steps of a layer's program, by moves with values for their choices, are those of the system that reduces.
use Rattle.std.proofs.Common.{ℕ, ◌≡◌, true, List, Option, Some, None, refl, slice_get, ap, sym, ◌∙◌, inl, inr}
use Rattle.std.proofs.lemmas.Bool.{false≢true}
use Rattle.std.proofs.lemmas.Option.{same_Some, none-some}
use Rattle.civl_bits.specs.declared.value.Value.{Value}
use Rattle.civl_tree.specs.declared.program.Program.{Program}
use Rattle.civl_firing.specs.declared.store.Store.{Store}
use Rattle.civl_meaning.specs.declared.config.Move.{Move}
use Rattle.civl_meaning.specs.declared.config.Plain.{Plain}
use Rattle.civl_meaning.specs.declared.config.Running.{Running}
use Rattle.civl_meaning.specs.declared.config.Config.{Config}
use Rattle.civl_meaning.specs.declared.config.Stepped.{Stepped}
use Rattle.civl_meaning.specs.declared.config.Stepped.TheVariants as answer
use Rattle.civl_meaning.specs.Step.{step_of}
use Rattle.civl_meaning.specs.Failing.{IsMove}
use Rattle.civl_meaning.specs.Layers.{program_at}
use Rattle.civl_reduction.specs.interleavings.Systems.{Failing, System}
use Rattle.civl_reduction.specs.interleavings.Runs.{Staged, begun, goes, ends}
use Rattle.civl_reduction.specs.interleavings.Reduction.{Exchanged, IsReducible}
use Rattle.civl_reduction.specs.interleavings.Threads.{Threads, system_of, inside_in, fails_in, place_in}
use Rattle.civl_reduction.specs.interleavings.Threads as threads
use Rattle.civl_reduction.proofs.interleavings.Threading.{threads_are_reducible}
use Rattle.civl_reduction.specs.exchanges.Interleavings.{Chosen, Call, as_config, as_move, told}
use Rattle.civl_reduction.proofs.exchanges.Agreeing.{steps_agree, fails_agree}
use Rattle.civl_reduction.proofs.exchanges.Exchanging.{config_of, steps_back}
use Rattle.civl_reduction.proofs.mover_laws.Instance.{Right, Left, Met, Apart}
use Rattle.civl_reduction.specs.checked.Checked.{SpawnsAreInRoots, ActionsKeepPermissions, ActionsAreMovers, IsChecked}
use Rattle.civl_reduction.specs.blocks.Blocks.{inside}
use Rattle.civl_reduction.specs.blocks.Stands.{stands}
use Rattle.civl_reduction.specs.blocks.Reduces.{layer_threads}
use Rattle.civl_reduction.proofs.staged.Stages.Reducing.{Held, movers, phases, parted}
use Rattle.civl_reduction.proofs.gathering.Places.{AreMovers}
use Rattle.civl_reduction.specs.gathered.System.{made, there_fails, there_inside, layer_run, place_at}

told_made : (x : Stepped × Config) (d : Config) → made x ≡ Some d → told x ≡ Some (as_config d)
told_made (answer.Moved, e) d h = ap (λ (c : Config). Some (as_config c)) (same_Some e d h)
told_made (answer.Blocked, e) d h = absurd (none-some d h)
told_made (answer.NoThread, e) d h = absurd (none-some d h)
told_made (answer.Ended, e) d h = absurd (none-some d h)
told_made (answer.Failing, e) d h = absurd (none-some d h)
told_made (answer.BadChoices, e) d h = absurd (none-some d h)

module _ (program : Program) (layer : ℕ) (store : Store) where
  abbrev pub plain : Plain
  plain = program_at program layer

  abbrev pub Q : Threads Store Running Call Chosen (List Value)
  Q = layer_threads program layer store

  abbrev pub L : System Config Move
  L = layer_run program layer store

  pub step_up : (c d : Config) (m : Move) (v : IsMove m) → L.step c m ≡ Some d → threads.step_of Q (as_config c) (as_move m v) ≡ Some (as_config d)
  step_up c d m v s = steps_agree plain store (inside program layer) c m v ∙ told_made (step_of plain c m) d s

  pub step_down : (c : Config) (m : Move) (v : IsMove m) (y : threads.Config Store Running) → threads.step_of Q (as_config c) (as_move m v) ≡ Some y → L.step c m ≡ Some (config_of y)
  step_down c m v y s = ap made (steps_back plain store (inside program layer) c m v y s)

  pub inside_same : (o : Option Running) → there_inside program layer o ≡ inside_in Q o
  inside_same None = refl
  inside_same (Some r) = refl

  pub fails_same : (g : Store) (o : Option Running) → there_fails plain g o ≡ fails_in Q g o
  fails_same g None = refl
  fails_same g (Some r) = fails_agree plain store (inside program layer) g r

  fails_down : (y : threads.Config Store Running) → Failing (threads.stepping_of Q) y → Failing L.steps (config_of y)
  fails_down y f = (f.0, fails_same y.store (slice_get y.threads f.0) ∙ f.1)

  exchanged_down : (c e : Config) (m n : Move) (v : IsMove m) (u : IsMove n) → Exchanged (threads.stepping_of Q) (as_config c) (as_move m v) (as_move n u) (as_config e) → Exchanged L.steps c m n e
  exchanged_down c e m n v u (inl x) = inl (config_of x.0, step_down c n u x.0 x.1, step_down (config_of x.0) m v (as_config e) x.2)
  exchanged_down c e m n v u (inr (inl f)) = inr (inl (fails_down (as_config c) f))
  exchanged_down c e m n v u (inr (inr f)) = inr (inr (config_of f.0, step_down c n u f.0 f.1, fails_down f.0 f.2))

module _ (r : SpawnsAreInRoots) (p : ActionsKeepPermissions) (a : ActionsAreMovers) (program : Program) (layer : ℕ) (store : Store) (k : IsChecked program layer store) where
  abbrev S : System (threads.Config Store Running) (threads.Move Chosen)
  S = system_of (layer_threads program layer store) (λ moves. true)

  -- where every block run is challenged, no block is ever open behind one
  none_staged : {ms : List (threads.Move Chosen)} {o : Option ℕ} {c : threads.Config Store Running} → Staged S ms o c → ⊥
  none_staged (begun e) = false≢true (sym e)
  none_staged (goes m d g may s i) = none_staged g
  none_staged (ends m d g may s i e) = none_staged g

  pub reducible : IsReducible (threads.Config Store Running) (threads.Move Chosen) S (place_in (stands program layer)) (Held r p a program layer store k)
  reducible =
      threads_are_reducible (layer_threads program layer store) (stands program layer) Right Left (Met program layer) (Apart program layer) (Held r p a program layer store k)
      (movers r p a program layer store k) (phases r p a program layer store k) (parted r p a program layer store k) (λ moves. true) (λ ms t c g. absurd (none_staged g)) (λ ms t c g l. absurd (none_staged g))

  -- what holds in every configuration that is reached
  abbrev pub Kept : Config → Type 0
  Kept c = Held r p a program layer store k (as_config c)

  abbrev up : (c d : Config) (m : Move) (v : IsMove m) → (layer_run program layer store).step c m ≡ Some d → threads.step_of (layer_threads program layer store) (as_config c) (as_move m v) ≡ Some (as_config d)
  up = step_up program layer store

  fails_up : (c : Config) (t : ℕ) → there_fails (program_at program layer) c.store (slice_get c.threads t) ≡ true → fails_in (layer_threads program layer store) c.store (slice_get c.threads t) ≡ true
  fails_up c t f = sym (fails_same program layer store c.store (slice_get c.threads t)) ∙ f

  fails_back : (c : Config) (t : ℕ) → fails_in (layer_threads program layer store) c.store (slice_get c.threads t) ≡ true → there_fails (program_at program layer) c.store (slice_get c.threads t) ≡ true
  fails_back c t f = fails_same program layer store c.store (slice_get c.threads t) ∙ f

  pub are_movers : AreMovers Config Move (layer_run program layer store) (place_at program layer) Kept IsMove
  are_movers = record {
    inside_is = λ c t. inside_same program layer store (slice_get c.threads t) ∙ reducible.inside_is (as_config c) t;
    holds_on = λ c d m v h s. reducible.holds_on (as_config c) (as_config d) (as_move m v) h (up c d m v s);
    others_stay = λ c d m t v h s w. reducible.others_stay (as_config c) (as_config d) (as_move m v) t h (up c d m v s) w;
    late_stays = λ c d m v h s q. reducible.late_stays (as_config c) (as_config d) (as_move m v) h (up c d m v s) q;
    goes_behind = λ c d e m n v u h s q w l. exchanged_down program layer store c e m n v u (reducible.goes_behind (as_config c) (as_config d) (as_config e) (as_move m v) (as_move n u) h (up c d m v s) (up d e n u q) w l);
    failed_before = λ c d m t v h s w l f. fails_back c t (reducible.failed_before (as_config c) (as_config d) (as_move m v) t h (up c d m v s) w l (fails_up d t f));
    goes_before = λ c d e m n v u h s q w l. exchanged_down program layer store c e m n v u (reducible.goes_before (as_config c) (as_config d) (as_config e) (as_move m v) (as_move n u) h (up c d m v s) (up d e n u q) w l);
    late_failed_before = λ c d m t v h s w l f. fails_back c t (reducible.late_failed_before (as_config c) (as_config d) (as_move m v) t h (up c d m v s) w l (fails_up d t f));
    fails_on = λ c d m t v h s w l f. fails_back d t (reducible.fails_on (as_config c) (as_config d) (as_move m v) t h (up c d m v s) w l (fails_up c t f));
  }

  pub starts : Kept ((layer_run program layer store).start)
  starts = reducible.holds_first
