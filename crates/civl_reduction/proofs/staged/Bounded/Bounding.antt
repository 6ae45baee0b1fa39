-- The steps of an open block come to an end.
use Rattle.std.proofs.Common.{◌≡◌, ℕ, zero, suc, ◌+◌, ◌-◌, Bool, true, false, List, [], ◌∷◌, ◌++◌, Option, None, Some, refl, sym, ap, ◌∙◌, subst, arith}
use Rattle.std.specs.Prelude.{option_map, slice_get, is_some, All, if◌then◌else◌}
use Rattle.std.proofs.lemmas.Bool.{true≢false, false≢true}
use Rattle.std.proofs.lemmas.Option.{same_Some}
use Rattle.civl_bits.specs.declared.value.Value.{Value}
use Rattle.civl_tree.specs.declared.name.Name.{Name}
use Rattle.civl_tree.specs.declared.expr.Expr.{Expr}
use Rattle.civl_tree.specs.declared.program.Refines.{Refines}
use Rattle.civl_tree.specs.declared.program.Proc.{Proc}
use Rattle.civl_tree.specs.declared.program.Program.{Program}
use Rattle.civl_tree.specs.declared.stmt.Stmt.{out-Stmt}
use Rattle.civl_tree.specs.declared.stmt.Stmt.TheOpen as stmt
use Rattle.civl_tree.proofs.Kept.{statement_kept}
use Rattle.civl_tree.proofs.Lists.{get_same}
use Rattle.civl_firing.specs.declared.store.Store.{Store}
use Rattle.civl_meaning.specs.declared.config.Plain.{Plain}
use Rattle.civl_meaning.specs.declared.config.Activation.{Activation}
use Rattle.civl_meaning.specs.declared.config.State.{State}
use Rattle.civl_meaning.specs.declared.config.Running.{Running}
use Rattle.civl_meaning.specs.declared.config.Config as meaning
use Rattle.civl_meaning.specs.Meaning.{Runs, called}
use Rattle.civl_bits.specs.Value.{IsValue}
use Rattle.civl_meaning.specs.declared.config.Stepped.TheVariants as answer
use Rattle.civl_meaning.specs.declared.config.Stepped.{Stepped}
use Rattle.civl_meaning.specs.declared.config.Change.{Change}
use Rattle.civl_meaning.specs.declared.config.Change.TheVariants.{Stays, Goes, Acts, Enters, Leaves, Spawns}
use Rattle.civl_meaning.specs.Places.{Spot, spot_at}
use Rattle.civl_meaning.specs.Rest.{Rest}
use Rattle.civl_meaning.specs.Change.{done_by, returned, outs_in, caller_of, spot_doing, proc_doing, state_doing, change_of}
use Rattle.civl_meaning.specs.Step.{goes_on, left, thread_after, config_after, step_with, step_in}
use Rattle.civl_meaning.specs.Config.{Waits, StateIsStacked, ThreadIsSorted, IsStacked, IsOf, moved_frame}
use Rattle.civl_meaning.specs.Layers.{program_at}
use Rattle.civl_yields.specs.Places.{form_misplaced, stmt_misplaced}
use Rattle.civl_yields.specs.YieldRules.{commit_rule, yield_rules}
use Rattle.civl_soundness.proofs.Fitting.{all_at}
use Rattle.civl_conditions.specs.Steps.{has_layer}
use Rattle.civl_conditions.proofs.Layered.{has_its_layer}
use Rattle.civl_reduction.specs.permissions.Owned.{IsParted}
use Rattle.civl_reduction.specs.interleavings.Systems.{System}
use Rattle.civl_reduction.specs.interleavings.Runs.{Staged, goes}
use Rattle.civl_reduction.specs.interleavings.Reduction.{Place, Between, Late, Within}
use Rattle.civl_reduction.specs.interleavings.Threads.{inside_in, stands_in, place_in}
use Rattle.civl_reduction.specs.interleavings.Threads as threads
use Rattle.civl_reduction.specs.exchanges.Interleavings.{Chosen}
use Rattle.civl_reduction.proofs.exchanges.Exchanging.{steps_back}
use Rattle.civl_reduction.specs.checked.Checked.{IsChecked}
use Rattle.civl_reduction.specs.blocks.Blocks.{at_yield, framed_in, framed_state, frame_of_layer, rest_of, block_in, block_rest, inside}
use Rattle.civl_reduction.specs.blocks.Stands.{place_of_rest, stands}
use Rattle.civl_reduction.specs.blocks.Reduces.{Challenged, plain_move, plain_config, layer_threads, layer_system}
use Rattle.civl_reduction.proofs.blocks.Standing.Threads.{calls_run_no_bodies}
use Rattle.civl_reduction.specs.staged.Stages.{IsStage, StagesAreRuns}
use Rattle.civl_reduction.proofs.staged.Pausing.Cutting.{Topmost, topmost}
use Rattle.civl_reduction.specs.open_blocks.Following.{frame_does}
use Rattle.civl_reduction.specs.open_blocks.Open.{IsSound, IsTopmost}
use Rattle.civl_reduction.proofs.open_blocks.Open.Going.{spot_stands, thread_does}
use Rattle.civl_reduction.specs.staged.Measures.{IsNear, IsNearer}
use Rattle.civl_reduction.proofs.staged.Measures.Nearing.{comes_nearer}
use Rattle.civl_reduction.specs.staged.Bounded.{OpenInside, OpenBlocksAreBounded}
use Rattle.civl_reduction.proofs.staged.Opened.Forms.{last_waits}
use Rattle.civl_reduction.proofs.staged.Bounded.Changes.{Ordinary, ordinary, waits_elsewhere, returned_same}
use Rattle.civl_reduction.proofs.staged.Bounded.Held.{held_is_apart}

-- ---- lists and places

between_late : Between ≡ Late → ⊥
between_late e = cc

moved_not : (a : Stepped) → (a ≡ answer.Moved → ⊥) → (c d : meaning.Config) → ◌≡◌ {A = Stepped × meaning.Config} (a, c) (answer.Moved, d) → ⊥
moved_not a h c d e = h (ap (λ (z : Stepped × meaning.Config). z.0) e)

-- ---- blocks

ended_not : (b : Bool) (rest : Rest) → is_some (if◌then◌else◌ {A = Option Rest} b None (Some rest)) ≡ true → b ≡ false
ended_not true rest e = absurd (false≢true e)
ended_not false rest e = refl

module _ (program : Program) (layer : ℕ) where
  late_some : (o : Option Rest) → place_of_rest program o ≡ Late → is_some o ≡ true
  late_some None e = absurd (between_late e)
  late_some (Some rest) e = refl

  late_inside : (store : Store) (o : Option Running) → stands_in (stands program layer) o ≡ Late → inside_in (layer_threads program layer store) o ≡ true
  late_inside store None e = absurd (between_late e)
  late_inside store (Some r) e = late_some (block_rest program (layer + 1) r) e

  framed_some : (o : Option (Proc × Activation)) → is_some (block_in o) ≡ true → (f : Proc × Activation) × (o ≡ Some f)
  framed_some None e = absurd (false≢true e)
  framed_some (Some f) e = (f, refl)

  pub no_yield_there : (thread : Running) (f : Proc × Activation) → frame_of_layer program (layer + 1) thread ≡ Some f → inside program layer thread ≡ true → at_yield (rest_of f) ≡ false
  no_yield_there thread f framed e = ended_not (at_yield (rest_of f)) (rest_of f) (sym (ap (λ (o : Option (Proc × Activation)). is_some (block_in o)) framed) ∙ e)

-- the thread with this number is in an open block with a measure below n
record NearAt (program : Program) (layer : ℕ) (c : meaning.Config) (t n : ℕ) : Type 0 where
  thread : Running
  there : slice_get c.threads t ≡ Some thread
  f : Proc × Activation
  framed : frame_of_layer program (layer + 1) thread ≡ Some f
  near : IsNear program (layer + 1) f.1.procedure f.0 c.store f.1 n

-- ---- a step

module _ (program : Program) (layer : ℕ) (store : Store) (k : IsChecked program layer store) (c : meaning.Config) (t n : ℕ) (of_plain : IsOf (program_at program layer) c) (parted : IsParted program c) (at : NearAt program layer c t (suc n))
    (open_block : at_yield (rest_of at.f) ≡ false) (values : List Value) (are : All IsValue values) (d : meaning.Config) where
  low : layer + 1 - 1 ≡ layer
  low = omega arith

  abbrev lower : Plain
  lower = program_at program (layer + 1 - 1)

  abbrev f : Proc × Activation
  f = at.f

  sound : IsSound program
  sound = record { layered = k.layered; linear = k.linear; yields = k.yields; hold = k.hold }

  top : Topmost program (layer + 1) at.thread.state at.f
  top = topmost program (layer + 1) at.thread.state at.f at.framed

  its_top : IsTopmost program (layer + 1) at.f.1.procedure at.thread at.f.1
  its_top = record {
    below = top.below;
    inside = top.is;
    procedure = refl;
    sorted = subst (λ (n : ℕ). ThreadIsSorted (program_at program n) at.thread) (sym low) (all_at (ThreadIsSorted (program_at program layer)) c.threads t at.thread at.there of_plain.sorted);
    stacked = subst (λ (n : ℕ). IsStacked (program_at program n) at.thread) (sym low) (all_at (IsStacked (program_at program layer)) c.threads t at.thread at.there of_plain.stacked);
  }

  abbrev change : Change
  change = change_of lower c.store values at.thread

  -- a step that is made
  abbrev Made : Change → Type 0
  Made x = step_with c t at.thread x ≡ (answer.Moved, d)

  -- ---- on in the frame

  framed_on : (locals : List Value) (place : ℕ) → framed_state program (layer + 1) (goes_on at.thread.state locals place) ≡ Some (at.f.0, moved_frame at.f.1 locals place)
  framed_on locals place =
      ap (λ (s : State). framed_state program (layer + 1) (goes_on s locals place)) top.is
      ∙ ap (framed_in (layer + 1) (moved_frame at.f.1 locals place)) top.of.there
      ∙ ap (λ (b : Bool). if◌then◌else◌ {A = Option (Proc × Activation)} b (Some (at.f.0, moved_frame at.f.1 locals place)) None) (has_its_layer program at.f.1.procedure (layer + 1) at.f.0 top.of)

  goes_near : (locals : List Value) (place : ℕ) → IsNear program (layer + 1) at.f.1.procedure at.f.0 c.store (moved_frame at.f.1 locals place) n → Made (Goes locals place) → NearAt program layer d t n
  goes_near locals place near e =
      subst (λ (d : meaning.Config). NearAt program layer d t n) (ap (λ (z : Stepped × meaning.Config). z.1) e)
      (record { thread = thread_after at.thread (Goes locals place); there = get_same c.threads t (thread_after at.thread (Goes locals place)) at.thread at.there; f = (at.f.0, moved_frame at.f.1 locals place); framed = framed_on locals place; near = near })

  acts_near : (after : Store) (locals : List Value) (place : ℕ) → IsNear program (layer + 1) at.f.1.procedure at.f.0 after (moved_frame at.f.1 locals place) n → Made (Acts after locals place) → NearAt program layer d t n
  acts_near after locals place near e =
      subst (λ (d : meaning.Config). NearAt program layer d t n) (ap (λ (z : Stepped × meaning.Config). z.1) e)
      (record { thread = thread_after at.thread (Acts after locals place); there = get_same c.threads t (thread_after at.thread (Acts after locals place)) at.thread at.there; f = (at.f.0, moved_frame at.f.1 locals place); framed = framed_on locals place; near = near })

  -- ---- out of it

  abbrev IsLate : Type 0
  IsLate = stands_in (stands program layer) (slice_get d.threads t) ≡ Late

  abbrev state_late : State → Place
  state_late s = place_of_rest program (block_in (framed_state program (layer + 1) s))

  left_late : (o : Option Activation) → IsLate → Made (Leaves o) → state_late (left at.thread.state o) ≡ Late
  left_late o late e =
      let same : config_after c t at.thread (Leaves o) ≡ d = ap (λ (z : Stepped × meaning.Config). z.1) e in
      let there = ap (λ (d : meaning.Config). slice_get d.threads t) (sym same) ∙ get_same c.threads t (thread_after at.thread (Leaves o)) at.thread at.there in
      sym (ap (stands_in (stands program layer)) there) ∙ late

  outside_not_late : (frame : Activation) (o : Option Proc) → ((proc : Proc) → o ≡ Some proc → has_layer (layer + 1) proc ≡ true → ⊥) → place_of_rest program (block_in (framed_in (layer + 1) frame o)) ≡ Late → ⊥
  outside_not_late frame None h e = between_late e
  outside_not_late frame (Some proc) h e = by_layer (has_layer (layer + 1) proc) (h proc refl) e
    where
      by_layer : (b : Bool) → (b ≡ true → ⊥) → place_of_rest program (block_in (if◌then◌else◌ {A = Option (Proc × Activation)} b (Some (proc, frame)) None)) ≡ Late → ⊥
      by_layer true h e = h refl
      by_layer false h e = between_late e

  leaves_not : (outs : List Value) (o : Option Activation) → caller_of top.below ≡ o → IsLate → Made (Leaves (option_map (returned lower outs) o)) → ⊥
  leaves_not outs None e late made =
      between_late (sym (ap (λ (s : State). state_late (left s None)) top.is) ∙ left_late None late made)
  leaves_not outs (Some g) e late made =
      let back : Activation = returned lower outs g in
      let stacked = subst (StateIsStacked lower at.thread.callee) top.is its_top.stacked in
      let waits : Waits (program_at program layer) at.f.1.procedure g = subst (λ (n : ℕ). Waits (program_at program n) at.f.1.procedure g) low (last_waits lower top.below at.f.1 g stacked.waiting e) in
      let same : back.procedure ≡ g.procedure = subst (λ (n : ℕ). (returned (program_at program n) outs g).procedure ≡ g.procedure) (sym low) (returned_same program layer k.layered outs g) in
      outside_not_late back (slice_get program.procs back.procedure)
      (λ proc there l. waits_elsewhere program layer k.layered at.f.1.procedure g proc (sym (ap (slice_get program.procs) same) ∙ there) l waits)
      (sym (ap (λ (s : State). state_late (left s (Some back))) top.is) ∙ left_late (Some back) late made)

  exit_not : spot_at at.f.0.body at.f.1.place ≡ None → IsLate → Made change → ⊥
  exit_not none late made =
      let does : change ≡ Leaves (option_map (returned lower (outs_in at.f.0 at.f.1.locals)) (caller_of top.below)) =
      ap (λ (x : State). done_by lower c.store values (state_doing lower at.thread x)) top.is
      ∙ ap (λ (x : Option Proc). done_by lower c.store values (proc_doing lower (caller_of top.below) at.f.1 x)) top.of.there
      ∙ ap (λ (x : Option Spot). done_by lower c.store values (spot_doing lower (caller_of top.below) at.f.1 at.f.0 x)) none in
      leaves_not (outs_in at.f.0 at.f.1.locals) (caller_of top.below) refl late (subst Made does made)

  -- ---- by what it does

  module _ (s : Spot) (there : spot_at at.f.0.body at.f.1.place ≡ Some s) where
    nearer : IsNearer program (layer + 1) at.f.1.procedure at.f.0 c.store at.f.1 n change
    nearer =
        comes_nearer program (layer + 1) at.f.1.procedure at.f.0 c.store at.f.1 at.thread values s n sound at.near its_top are
        (held_is_apart program layer at.f.1.procedure at.f.0 c k.layered k.linear of_plain parted t at.thread top.below at.f.1 at.there top.is top.of refl open_block) open_block there

    does : change ≡ frame_does program (layer + 1) at.f.0 c.store values at.f.1 s
    does = thread_does program (layer + 1) at.f.1.procedure at.f.0 at.thread at.f.1 top.of.there its_top c.store values s there

    forms : Ordinary lower (out-Stmt s.stmt) change
    forms = subst (Ordinary lower (out-Stmt s.stmt)) (sym does) (ordinary lower c.store values at.f.0 at.f.1.locals s.number s.next (out-Stmt s.stmt))

    no_spawn : (g : Name) (es : List Expr) → out-Stmt s.stmt ≡ stmt.Spawn g es → ⊥
    no_spawn g es form =
        let kept = statement_kept yield_rules program k.yields commit_rule (2, omega arith, refl) (stmt_misplaced at.f.0) at.f.1.procedure at.f.0 top.of.there refl s.number s.stmt (spot_stands at.f.0.body at.f.1.place s there) in
        let layered : form_misplaced true (out-Stmt s.stmt) ≡ false = sym (ap (λ (o : Option Refines). form_misplaced (is_some o) (out-Stmt s.stmt)) top.of.refined) ∙ kept in
        true≢false (sym (ap (form_misplaced true) form) ∙ layered)

    no_body : (g : Name) (es : List Expr) (rs : List Name) (m : ℕ) (p : Proc) → out-Stmt s.stmt ≡ stmt.Call g es rs → called lower g ≡ Runs m p → ⊥
    no_body g es rs m p form runs =
        calls_run_no_bodies program layer at.f.1.procedure s.number at.f.0 s.stmt g es rs k.layered top.of.there (has_its_layer program at.f.1.procedure (layer + 1) at.f.0 top.of) (spot_stands at.f.0.body at.f.1.place s there) form m p
        (subst (λ (n : ℕ). called (program_at program n) g ≡ Runs m p) low runs)

    by_change : (x : Change) → IsNearer program (layer + 1) at.f.1.procedure at.f.0 c.store at.f.1 n x → Ordinary lower (out-Stmt s.stmt) x → Made x → NearAt program layer d t n
    by_change (Goes locals place) h o e = goes_near locals place h e
    by_change (Acts after locals place) h o e = acts_near after locals place h e
    by_change (Stays answer.Moved) h o e = absurd o
    by_change (Stays answer.Blocked) h o e = absurd (moved_not answer.Blocked (λ q. cc) c d e)
    by_change (Stays answer.NoThread) h o e = absurd (moved_not answer.NoThread (λ q. cc) c d e)
    by_change (Stays answer.Ended) h o e = absurd (moved_not answer.Ended (λ q. cc) c d e)
    by_change (Stays answer.Failing) h o e = absurd (moved_not answer.Failing (λ q. cc) c d e)
    by_change (Stays answer.BadChoices) h o e = absurd (moved_not answer.BadChoices (λ q. cc) c d e)
    by_change (Enters frame place) h o e = absurd (no_body o.0 o.1 o.2 o.3 o.4 o.5 o.6)
    by_change (Leaves frame) h o e = absurd o
    by_change (Spawns thread place) h o e = absurd (no_spawn o.0 o.1 o.2)

  by_spot : (o : Option Spot) → spot_at at.f.0.body at.f.1.place ≡ o → IsLate → Made change → NearAt program layer d t n
  by_spot None e late made = absurd (exit_not e late made)
  by_spot (Some s) e late made = by_change s e change (nearer s e) (forms s e) made

  next_near : IsLate → step_with c t at.thread (change_of (program_at program layer) c.store values at.thread) ≡ (answer.Moved, d) → NearAt program layer d t n
  next_near late made =
      by_spot (spot_at at.f.0.body at.f.1.place) refl late
      (subst (λ (n : ℕ). step_with c t at.thread (change_of (program_at program n) c.store values at.thread) ≡ (answer.Moved, d)) (sym low) made)

-- ---- the steps of an open block

module _ (stages_are_runs : StagesAreRuns) (program : Program) (layer : ℕ) (store : Store) (challenged : Challenged) (k : IsChecked program layer store) where
  abbrev Configs : Type 0
  Configs = threads.Config Store Running

  abbrev Moves : Type 0
  Moves = threads.Move Chosen

  abbrev S : System Configs Moves
  S = layer_system program layer store challenged

  stage : (ms : List Moves) (t : ℕ) (c : Configs) → Staged S ms (Some t) c → IsStage program layer store ms (Some t) c
  stage ms t c g = stages_are_runs program layer store challenged ms (Some t) c k g

  next : (ms : List Moves) (t n : ℕ) (c : Configs) → Staged S ms (Some t) c → NearAt program layer (plain_config c) t (suc n) → (m : Moves) (d : Configs) → m.thread ≡ t → S.step c m ≡ Some d → place_in (stands program layer) d t ≡ Late → NearAt program layer (plain_config d) t n
  next ms t n c g at m d w s late =
      let here = stage ms t c g in
      let inside_one = here.standing.0 in
      let same : inside_one.thread ≡ at.thread = same_Some inside_one.thread at.thread (sym inside_one.there ∙ at.there) in
      let stands_inside : inside program layer at.thread ≡ true = subst (λ (r : Running). inside program layer r ≡ true) same inside_one.inside_one in
      let moved = steps_back (program_at program layer) store (inside program layer) (plain_config c) (plain_move m) m.chosen.1 d s in
      let made = subst (λ (u : ℕ). step_in (program_at program layer) (plain_config c) (record { thread = u; choices = m.chosen.0 }) (slice_get c.threads u) ≡ (answer.Moved, plain_config d)) w moved in
      next_near program layer store k (plain_config c) t n here.of_program here.parted at (no_yield_there program layer at.thread at.f at.framed stands_inside) m.chosen.0 m.chosen.1 (plain_config d) late
      (sym (ap (step_in (program_at program layer) (plain_config c) (record { thread = t; choices = m.chosen.0 })) at.there) ∙ made)

  within : (n : ℕ) (ms : List Moves) (t : ℕ) (c : Configs) → Staged S ms (Some t) c → NearAt program layer (plain_config c) t n → Within S (place_in (stands program layer)) t n c
  within zero ms t c g at = λ m d w s late. (let none = at.near.near in absurd (omega (arith, none)))
  within (suc n) ms t c g at = λ m d w s late.
      let there = late_inside program layer store (slice_get d.threads t) late in
      let inside_then : S.inside d m.thread ≡ true = subst (λ (u : ℕ). S.inside d u ≡ true) (sym w) there in
      let staged = subst (λ (u : ℕ). Staged S (ms ++ m ∷ []) (Some u) d) w (goes m d g w s inside_then) in
      within n (ms ++ m ∷ []) t d staged (next ms t n c g at m d w s late)

  pub bounded : OpenInside program layer store challenged → (ms : List Moves) (t : ℕ) (c : Configs) → Staged S ms (Some t) c → (n : ℕ) × Within S (place_in (stands program layer)) t n c
  bounded opens ms t c g =
      let here = (stage ms t c g).standing.0 in
      let framed = framed_some program layer (frame_of_layer program (layer + 1) here.thread) here.inside_one in
      let near = opens ms t c here.thread framed.0 g here.there framed.1 in
      (near.0, within near.0 ms t c g (record { thread = here.thread; there = here.there; f = framed.0; framed = framed.1; near = near.1 }))

pub open_blocks_are_bounded : StagesAreRuns → OpenBlocksAreBounded
open_blocks_are_bounded stages program layer store challenged k opens ms t c g late = bounded stages program layer store challenged k opens ms t c g
