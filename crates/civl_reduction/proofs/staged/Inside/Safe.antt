-- The thread of an open block doesn't fail.
use Rattle.std.proofs.Common.{◌≡◌, ℕ, ◌+◌, ◌-◌, false, [], map, Option, None, Some, slice_get, refl, sym, ap, ◌∙◌, subst}
use Rattle.std.specs.Option.{option_map_or}
use Rattle.std.proofs.lemmas.Option.{same_Some, none-some}
use Rattle.std.proofs.lemmas.List.Elements.{All-nil}
use Rattle.civl_bits.specs.Value.{IsValue}
use Rattle.civl_tree.specs.declared.program.Program.{Program}
use Rattle.civl_tree.specs.declared.stmt.Stmt.{Stmt, out-Stmt}
use Rattle.civl_tree.specs.declared.stmt.Stmt.TheOpen as stmt
use Rattle.civl_firing.specs.declared.store.Store.{Store}
use Rattle.civl_meaning.specs.declared.config.Activation.{Activation}
use Rattle.civl_meaning.specs.declared.config.Config as meaning
use Rattle.civl_meaning.specs.declared.config.Plain.{Plain}
use Rattle.civl_meaning.specs.declared.config.Stepped.TheVariants as answer
use Rattle.civl_meaning.specs.declared.config.State.{State}
use Rattle.civl_meaning.specs.declared.config.Change.{Change}
use Rattle.civl_meaning.specs.declared.config.Change.TheVariants as change
use Rattle.civl_meaning.specs.Places.{Spot, spot_at}
use Rattle.civl_meaning.specs.Rest.{rest_at}
use Rattle.civl_meaning.specs.Change.{change_of, done_by, state_doing, proc_doing, spot_doing, statement_doing, caller_of}
use Rattle.civl_meaning.specs.Failing.{thread_fails, answers_failing}
use Rattle.civl_meaning.specs.Layers.{program_at}
use Rattle.civl_meaning.specs.Config.{ThreadIsSorted, IsStacked}
use Rattle.civl_meaning.proofs.Failures.{failing_is_answered}
use Rattle.civl_soundness.proofs.Fitting.{all_at}
use Rattle.civl_reduction.specs.interleavings.Threads.{fails_in}
use Rattle.civl_reduction.proofs.exchanges.Agreeing.{fails_agree}
use Rattle.civl_reduction.proofs.permissions.Staying.{IsKept}
use Rattle.civl_reduction.specs.checked.Checked.{ActionsKeepPermissions}
use Rattle.civl_reduction.specs.blocks.Blocks.{at_yield, frame_of_layer, rest_of, inside}
use Rattle.civl_reduction.specs.blocks.Reduces.{plain_move, layer_threads}
use Rattle.civl_reduction.specs.staged.Stages.{IsStage, StagesAreRuns}
use Rattle.civl_reduction.specs.open_blocks.Following.{layer_head, head_there, cut_ahead}
use Rattle.civl_reduction.specs.open_blocks.Open.{IsTopmost, StepStaysOpen}
use Rattle.civl_reduction.proofs.open_blocks.Open.Going.{thread_does, open_blocks_go_on}
use Rattle.civl_conditions.specs.paths.Runs.{yield_before}
use Rattle.civl_reduction.specs.blocks.Shadow.{Shadowed, shadowed}
use Rattle.civl_reduction.specs.blocks.Challenged.{challenged}
use Rattle.civl_reduction.proofs.staged.Pausing.Cutting.{Topmost, topmost}
use Rattle.civl_reduction.proofs.staged.Pausing.Apart.{run_is_kept}
use Rattle.civl_reduction.specs.staged.Opened.{BlockIsOpen, IsReached}
use Rattle.civl_reduction.proofs.staged.Opened.Concluding.{sound}
use Rattle.civl_reduction.proofs.staged.Opened.Stepping.{same_layer}
use Rattle.civl_tree.specs.declared.program.Proc.{Proc}
use Rattle.civl_meaning.specs.Step.{start}
use Rattle.civl_meaning.specs.Run.{RunsTo}
use Rattle.civl_reduction.proofs.staged.Opened.Forms.{no_yield}
use Rattle.civl_reduction.specs.staged.Inside.{StageIsBeside, StagesAreBeside, CheckedAreSafeInside}
use Rattle.civl_reduction.proofs.staged.Inside.Beside.{inside_frame}

module _ (keep : ActionsKeepPermissions) (program : Program) (layer : ℕ) (store : Store) (s : Shadowed) (t : ℕ) (r : IsReached program layer store s.config) (o : BlockIsOpen program layer s t) where
  top : Topmost program (layer + 1) o.thread.state o.f
  top = topmost program (layer + 1) o.thread.state o.f o.framed

  s_kept : IsKept (program_at program layer) s.config
  s_kept = run_is_kept keep program layer store r.checked r.moves s.config r.are r.runs

  is_top : IsTopmost program (layer + 1) o.f.1.procedure o.thread o.f.1
  is_top = record {
    below = top.below;
    inside = top.is;
    procedure = refl;
    sorted = subst (λ (k : ℕ). ThreadIsSorted (program_at program k) o.thread) (sym (same_layer layer)) (all_at (ThreadIsSorted (program_at program layer)) s.config.threads t o.thread o.there s_kept.of_plain.sorted);
    stacked = subst (λ (k : ℕ). IsStacked (program_at program k) o.thread) (sym (same_layer layer)) (all_at (IsStacked (program_at program layer)) s.config.threads t o.thread o.there s_kept.of_plain.stacked);
  }

  abbrev plain : Plain
  plain = program_at program (layer + 1 - 1)

  -- at the exit
  at_exit : spot_at o.f.0.body o.f.1.place ≡ None → answers_failing (change_of plain s.config.store [] o.thread) ≡ false
  at_exit spot =
      ap (λ (g : Change). answers_failing g)
      (ap (λ (x : State). done_by plain s.config.store [] (state_doing plain o.thread x)) top.is
      ∙ (ap (λ (x : Option Proc). done_by plain s.config.store [] (proc_doing plain (caller_of top.below) o.f.1 x)) top.of.there
      ∙ ap (λ (x : Option Spot). done_by plain s.config.store [] (spot_doing plain (caller_of top.below) o.f.1 o.f.0 x)) spot))

  -- before a loop
  in_loop : (sp : Spot) (n : ℕ) (d : stmt.Stmt-F Stmt) → layer_head sp.number d ≡ Some n → answers_failing (done_by plain s.config.store [] (statement_doing plain o.f.0 o.f.1.locals sp.number sp.next d)) ≡ false
  in_loop sp n (stmt.YieldLoop t i a) e = refl
  in_loop sp n (stmt.RankLoop t v i a) e = refl
  in_loop sp n (stmt.Assign v x) e = refl
  in_loop sp n (stmt.Assert x) e = absurd (none-some n e)
  in_loop sp n (stmt.If t a b) e = refl
  in_loop sp n (stmt.While t a) e = refl
  in_loop sp n (stmt.Call v es rs) e = absurd (none-some n e)
  in_loop sp n (stmt.Spawn v es) e = refl
  in_loop sp n (stmt.Yield i) e = refl
  in_loop sp n stmt.Commit e = refl
  in_loop sp n (stmt.Intro v x) e = refl

  before_loop : (n : ℕ) (sp : Spot) → spot_at o.f.0.body o.f.1.place ≡ Some sp → layer_head sp.number (out-Stmt sp.stmt) ≡ Some n → answers_failing (change_of plain s.config.store [] o.thread) ≡ false
  before_loop n sp spot e = ap answers_failing (thread_does program (layer + 1) o.f.1.procedure o.f.0 o.thread o.f.1 top.of.there is_top s.config.store [] sp spot) ∙ in_loop sp n (out-Stmt sp.stmt) e

  -- before no cut
  stays_not : (sp : Spot) (g : Change) → StepStaysOpen program (layer + 1) o.f.1.procedure o.c o.f.0 o.cut o.b o.bound o.here s.config.store o.f.1 sp [] g → answers_failing g ≡ false
  stays_not sp (change.Goes ls place) h = refl
  stays_not sp (change.Acts g ls place) h = refl
  stays_not sp (change.Enters f place) h = refl
  stays_not sp (change.Leaves f) h = refl
  stays_not sp (change.Spawns x place) h = refl
  stays_not sp (change.Stays answer.Failing) h = absurd h
  stays_not sp (change.Stays answer.Moved) h = refl
  stays_not sp (change.Stays answer.Blocked) h = refl
  stays_not sp (change.Stays answer.NoThread) h = refl
  stays_not sp (change.Stays answer.Ended) h = refl
  stays_not sp (change.Stays answer.BadChoices) h = refl

  away_from : cut_ahead o.f.0.body o.here.place ≡ None → (sp : Spot) → spot_at o.f.0.body o.f.1.place ≡ Some sp → answers_failing (change_of plain s.config.store [] o.thread) ≡ false
  away_from away sp spot =
      stays_not sp (change_of plain s.config.store [] o.thread)
      (open_blocks_go_on program (layer + 1) o.f.1.procedure o.c o.f.0 o.cut o.b o.bound o.here s.config.store o.f.1 o.thread [] sp (sound program layer store r.checked) o.opened is_top (All-nil IsValue) away spot)

  not_failing : yield_before (rest_at o.f.0.body o.here.place) ≡ None → answers_failing (change_of plain s.config.store [] o.thread) ≡ false
  not_failing none = by_spot (spot_at o.f.0.body o.f.1.place) refl
    where
      same : spot_at o.f.0.body o.here.place ≡ spot_at o.f.0.body o.f.1.place
      same = o.opened.follows.alike.spot

      ahead_is : cut_ahead o.f.0.body o.here.place ≡ head_there (spot_at o.f.0.body o.f.1.place)
      ahead_is = ap (λ (y : Option ℕ). option_map_or (λ (z : ℕ). Some z) y (head_there (spot_at o.f.0.body o.here.place))) none ∙ ap head_there same

      by_head : (sp : Spot) → spot_at o.f.0.body o.f.1.place ≡ Some sp → (x : Option ℕ) → layer_head sp.number (out-Stmt sp.stmt) ≡ x → answers_failing (change_of plain s.config.store [] o.thread) ≡ false
      by_head sp q None k = away_from (ahead_is ∙ (ap head_there q ∙ k)) sp q
      by_head sp q (Some n) k = before_loop n sp q k

      by_spot : (x : Option Spot) → spot_at o.f.0.body o.f.1.place ≡ x → answers_failing (change_of plain s.config.store [] o.thread) ≡ false
      by_spot None q = at_exit q
      by_spot (Some sp) q = by_head sp q (layer_head sp.number (out-Stmt sp.stmt)) refl

  pub thread_safe : yield_before (rest_at o.f.0.body o.here.place) ≡ None → thread_fails (program_at program layer) s.config.store o.thread ≡ false
  thread_safe none =
      sym (failing_is_answered (program_at program layer) s.config.store [] o.thread)
      ∙ subst (λ (k : ℕ). answers_failing (change_of (program_at program k) s.config.store [] o.thread) ≡ false) (same_layer layer) (not_failing none)

pub checked_are_safe_inside : ActionsKeepPermissions → StagesAreRuns → StagesAreBeside → CheckedAreSafeInside
checked_are_safe_inside keep stages_are_runs beside program layer store checked moves t config staged =
    ap (fails_in (layer_threads program layer store) config.store) there_now
    ∙ (sym (fails_agree (program_at program layer) store (inside program layer) config.store o.thread)
    ∙ subst (λ (g : Store). thread_fails (program_at program layer) g o.thread ≡ false) (ap (λ (x : meaning.Config). x.store) stage.config_is) (thread_safe keep program layer store s t reached o none_before))
  where
    stage : StageIsBeside program layer store moves (Some t) config
    stage = beside program layer store moves (Some t) config checked staged

    run : IsStage program layer store moves (Some t) config
    run = stages_are_runs program layer store (challenged program layer store) moves (Some t) config checked staged

    s : Shadowed
    s = shadowed program layer store (map plain_move moves)

    o : BlockIsOpen program layer (shadowed program layer store (map plain_move moves)) t
    o = stage.beside.0

    there_now : slice_get config.threads t ≡ Some o.thread
    there_now = sym (ap (λ (x : meaning.Config). slice_get x.threads t) stage.config_is) ∙ o.there

    reached : IsReached program layer store (shadowed program layer store (map plain_move moves)).config
    reached = record {
      checked = checked;
      moves = map plain_move moves;
      are = run.are_moves;
      runs = subst (RunsTo (program_at program layer) (map plain_move moves) (start (program_at program layer) store)) (sym stage.config_is) run.runs;
    }

    -- the thread is inside its block
    inside_is : at_yield (rest_of o.f) ≡ false
    inside_is =
        let within = run.standing.0 in
        let frame = inside_frame program layer (frame_of_layer program (layer + 1) within.thread) within.inside_one in
        let same : within.thread ≡ o.thread = same_Some within.thread o.thread (sym within.there ∙ there_now) in
        let its : frame.0 ≡ o.f = same_Some frame.0 o.f (sym frame.1 ∙ (ap (frame_of_layer program (layer + 1)) same ∙ o.framed)) in
        ap (λ (x : Proc × Activation). at_yield (rest_of x)) (sym its) ∙ frame.2

    none_before : yield_before (rest_at o.f.0.body o.here.place) ≡ None
    none_before = no_yield (rest_at o.f.0.body o.here.place) (ap (λ (x : ℕ). at_yield (rest_at o.f.0.body x)) stage.beside.1 ∙ inside_is)
