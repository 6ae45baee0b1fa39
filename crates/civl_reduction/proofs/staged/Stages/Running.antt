-- Block runs with the first steps of a block behind them.
use Rattle.std.proofs.Common.{◌≡◌, ◌≢◌, ℕ, zero, suc, Bool, true, false, List, [], ◌∷◌, ◌++◌, map, refl, sym, ap, ◌∙◌, subst, Option, None, Some, slice_get, inl, inr}
use Rattle.std.specs.Prelude.{All}
use Rattle.std.proofs.lemmas.Bool.{false≢true, cases_eq}
use Rattle.std.proofs.lemmas.Option.{none-some, same_Some}
use Rattle.std.proofs.lemmas.List.{map-append}
use Rattle.std.proofs.lemmas.List.Elements.{All-nil, All-push}
use Rattle.civl_tree.specs.declared.program.Thread.{Thread}
use Rattle.civl_tree.specs.declared.program.Program.{Program}
use Rattle.civl_firing.specs.declared.store.Store.{Store}
use Rattle.civl_meaning.specs.declared.config.Move.{Move}
use Rattle.civl_meaning.specs.declared.config.Plain.{Plain}
use Rattle.civl_meaning.specs.declared.config.Running.{Running}
use Rattle.civl_meaning.specs.declared.config.Config.{Config}
use Rattle.civl_meaning.specs.declared.config.Stepped.TheVariants.{Moved}
use Rattle.civl_meaning.specs.Step.{begun as thread_begun, start, step_of}
use Rattle.civl_meaning.specs.Run.{RunsTo}
use Rattle.civl_meaning.specs.Failing.{IsMove}
use Rattle.civl_meaning.specs.Layers.{program_at}
use Rattle.civl_reduction.specs.interleavings.Systems.{System}
use Rattle.civl_reduction.specs.interleavings.Runs.{MayStep, Staged, begun, goes, ends}
use Rattle.civl_reduction.specs.interleavings.Reduction.{is_inside, IsReducible}
use Rattle.civl_reduction.specs.interleavings.Threads.{system_of, place_in}
use Rattle.civl_reduction.specs.interleavings.Threads as threads
use Rattle.civl_reduction.proofs.interleavings.Threading.{threads_are_reducible}
use Rattle.civl_reduction.specs.exchanges.Interleavings.{Chosen}
use Rattle.civl_reduction.proofs.exchanges.Exchanging.{steps_back}
use Rattle.civl_reduction.proofs.mover_laws.Instance.{Right, Left, Met, Apart}
use Rattle.civl_reduction.specs.checked.Checked.{SpawnsAreInRoots, ActionsKeepPermissions, ActionsAreMovers, IsChecked}
use Rattle.civl_reduction.specs.blocks.Blocks.{inside}
use Rattle.civl_reduction.specs.blocks.Stands.{stands}
use Rattle.civl_reduction.specs.blocks.Reduces.{Challenged, plain_move, plain_config, layer_threads, layer_system}
use Rattle.civl_reduction.specs.staged.Stages.{OneIsInside, StagesAreRuns}
use Rattle.civl_reduction.proofs.staged.Stages.Reducing.{Held, movers, phases, parted}

-- one more step of a run
run_more : (plain : Plain) (ms : List Move) (c d e : Config) (m : Move) → RunsTo plain ms c d → step_of plain d m ≡ (Moved, e) → RunsTo plain (ms ++ m ∷ []) c e
run_more plain [] c d e m r s = (e, subst (λ (x : Config). step_of plain x m ≡ (Moved, e)) (sym r) s, refl)
run_more plain (n ∷ ms) c d e m r s = (r.0, r.1, run_more plain ms r.0 d e m r.2 s)

module _ (program : Program) (layer : ℕ) where
  -- as the system tells it
  abbrev tells : Option Running → Bool
  tells None = false
  tells (Some thread) = inside program layer thread

  there_inside : (o : Option Running) → tells o ≡ true → (thread : Running) × (o ≡ Some thread) × (inside program layer thread ≡ true)
  there_inside None e = absurd (false≢true e)
  there_inside (Some thread) e = (thread, refl, e)

  all_begun : (store : Store) (ts : List Thread) (u : ℕ) → tells (slice_get (map (thread_begun program store) ts) u) ≡ false
  all_begun store [] u = refl
  all_begun store (t ∷ ts) zero = refl
  all_begun store (t ∷ ts) (suc u) = all_begun store ts u

module _ (r : SpawnsAreInRoots) (p : ActionsKeepPermissions) (a : ActionsAreMovers) (program : Program) (layer : ℕ) (store : Store) (k : IsChecked program layer store) where
  abbrev Configs : Type 0
  Configs = threads.Config Store Running

  abbrev Moves : Type 0
  Moves = threads.Move Chosen

  -- where every block run is challenged, no block is ever open behind one
  none_staged : {ms : List Moves} {o : Option ℕ} {c : Configs} → Staged (system_of (layer_threads program layer store) (λ moves. true)) ms o c → ⊥
  none_staged (begun e) = false≢true (sym e)
  none_staged (goes m d g may s i) = none_staged g
  none_staged (ends m d g may s i e) = none_staged g

  reducible : IsReducible Configs Moves (system_of (layer_threads program layer store) (λ moves. true)) (place_in (stands program layer)) (Held r p a program layer store k)
  reducible =
      threads_are_reducible (layer_threads program layer store) (stands program layer) Right Left (Met program layer) (Apart program layer) (Held r p a program layer store k)
      (movers r p a program layer store k) (phases r p a program layer store k) (parted r p a program layer store k) (λ moves. true) (λ ms t c g. absurd (none_staged g)) (λ ms t c g l. absurd (none_staged g))

  module _ (challenged : Challenged) where
    abbrev S : System Configs Moves
    S = layer_system program layer store challenged

    held : {ms : List Moves} {o : Option ℕ} {c : Configs} → Staged S ms o c → Held r p a program layer store k c
    held (begun e) = reducible.holds_first
    held (goes {c = c} m d g may s i) = reducible.holds_on c d m (held g) s
    held (ends {c = c} m d g may s i e) = reducible.holds_on c d m (held g) s

    others_inside : (c d : Configs) (m : Moves) (t : ℕ) → Held r p a program layer store k c → S.step c m ≡ Some d → m.thread ≢ t → S.inside d t ≡ S.inside c t
    others_inside c d m t h s w = reducible.inside_is d t ∙ (ap is_inside (reducible.others_stay c d m t h s w) ∙ sym (reducible.inside_is c t))

    other_open : (m : Moves) (t : ℕ) (o : Option ℕ) → MayStep o m.thread → m.thread ≢ t → o ≢ Some t
    other_open m t None may w v = absurd cc
    other_open m t (Some u) may w v = w (may ∙ same_Some u t v)

    outside : {ms : List Moves} {o : Option ℕ} {c : Configs} → Staged S ms o c → (t : ℕ) → o ≢ Some t → S.inside c t ≡ false
    outside (begun e) t q = all_begun program layer store program.threads t
    outside (goes {o = o} {c = c} m d g may s i) t q = elim (cases_eq m.thread t) [ inl w ↦ absurd (q (ap (λ (n : ℕ). Some n) w)) | inr w ↦ others_inside c d m t (held g) s w ∙ outside g t (other_open m t o may w) ]
    outside (ends {o = o} {c = c} m d g may s i e) t q = elim (cases_eq m.thread t) [ inl w ↦ subst (λ (u : ℕ). S.inside d u ≡ false) w i | inr w ↦ others_inside c d m t (held g) s w ∙ outside g t (other_open m t o may w) ]

    open_inside : {ms : List Moves} {o : Option ℕ} {c : Configs} → Staged S ms o c → (t : ℕ) → o ≡ Some t → S.inside c t ≡ true
    open_inside (begun e) t q = absurd (none-some t q)
    open_inside (goes m d g may s i) t q = subst (λ (u : ℕ). S.inside d u ≡ true) (same_Some m.thread t q) i
    open_inside (ends m d g may s i e) t q = absurd (none-some t q)

    one_inside : {ms : List Moves} {c : Configs} (o : Option ℕ) → Staged S ms o c → OneIsInside program layer c o
    one_inside {c = c} None g = λ u thread there. sym (ap (tells program layer) there) ∙ outside g u (λ e. none-some u e)
    one_inside {c = c} (Some t) g =
        let i = there_inside program layer (slice_get c.threads t) (open_inside g t refl) in
        (record { thread = i.0; there = i.1; inside_one = i.2 }, λ u w thread there. sym (ap (tells program layer) there) ∙ outside g u (λ e. w (sym (same_Some t u e))))

    moves_so : {ms : List Moves} {o : Option ℕ} {c : Configs} → Staged S ms o c → All IsMove (map plain_move ms)
    moves_so (begun e) = All-nil IsMove
    moves_so (goes {ms = ms} m d g may s i) = subst (All IsMove) (sym (map-append plain_move ms (m ∷ []))) (All-push IsMove (map plain_move ms) (plain_move m) (moves_so g) m.chosen.1)
    moves_so (ends {ms = ms} m d g may s i e) = subst (All IsMove) (sym (map-append plain_move ms (m ∷ []))) (All-push IsMove (map plain_move ms) (plain_move m) (moves_so g) m.chosen.1)

    one_more : (ms : List Moves) (c d : Configs) (m : Moves) → RunsTo (program_at program layer) (map plain_move ms) (start (program_at program layer) store) (plain_config c) → S.step c m ≡ Some d
        → RunsTo (program_at program layer) (map plain_move (ms ++ m ∷ [])) (start (program_at program layer) store) (plain_config d)
    one_more ms c d m run s =
        subst (λ (l : List Move). RunsTo (program_at program layer) l (start (program_at program layer) store) (plain_config d)) (sym (map-append plain_move ms (m ∷ [])))
        (run_more (program_at program layer) (map plain_move ms) (start (program_at program layer) store) (plain_config c) (plain_config d) (plain_move m) run
        (steps_back (program_at program layer) store (inside program layer) (plain_config c) (plain_move m) m.chosen.1 d s))

    runs_so : {ms : List Moves} {o : Option ℕ} {c : Configs} → Staged S ms o c → RunsTo (program_at program layer) (map plain_move ms) (start (program_at program layer) store) (plain_config c)
    runs_so (begun e) = refl
    runs_so (goes {ms = ms} {c = c} m d g may s i) = one_more ms c d m (runs_so g) s
    runs_so (ends {ms = ms} {c = c} m d g may s i e) = one_more ms c d m (runs_so g) s

pub stages_are_runs : SpawnsAreInRoots → ActionsKeepPermissions → ActionsAreMovers → StagesAreRuns
stages_are_runs r p a program layer store challenged moves o config k g =
    let h = held r p a program layer store k challenged g in
    record { are_moves = moves_so r p a program layer store k challenged g; runs = runs_so r p a program layer store k challenged g; of_program = h.of_plain; parted = h.parted; standing = one_inside r p a program layer store k challenged o g }
