-- What a step of a thread does to what the thread owns.
use Rattle.std.proofs.Common.{◌≡◌, ℕ, ◌+◌, ◌-◌, ◌≤◌, Bool, true, false, List, [], ◌∷◌, ◌++◌, take, length, map, refl, sym, ap, ap₂, ◌∙◌, subst, arith, Option, None, Some, slice_get, inr}
use Rattle.std.specs.Prelude.{option_map, All, if◌then◌else◌}
use Rattle.std.proofs.lemmas.Option.{same_Some}
use Rattle.std.proofs.lemmas.List.{length-append, length-map}
use Rattle.civl_bits.specs.Value.{IsValue}
use Rattle.civl_bits.specs.declared.value.Value.{Value}
use Rattle.civl_firing.specs.values.Values.{HaveSorts}
use Rattle.civl_tree.specs.declared.action.Action.{Action}
use Rattle.civl_tree.specs.declared.stmt.Stmt.{out-Stmt}
use Rattle.civl_tree.specs.declared.program.Proc.{Proc}
use Rattle.civl_tree.specs.declared.program.Program.{Program}
use Rattle.civl_tree.specs.Numbering.{sizes_of}
use Rattle.civl_tree.specs.rules.Names.{param_names, names_in_proc, proc_signature}
use Rattle.civl_tree.specs.rules.Uses.{param_sorts}
use Rattle.civl_tree.specs.rules.Rules.{Keeps}
use Rattle.civl_firing.specs.declared.store.Store.{Store}
use Rattle.civl_firing.specs.declared.firing.Fired.{Fired}
use Rattle.civl_firing.specs.declared.firing.Fired.TheVariants as fire
use Rattle.civl_firing.specs.Stores.{IsStore}
use Rattle.civl_firing.specs.Scope.{zeros_of_params, zeros_of_locals}
use Rattle.civl_firing.specs.Fired.{gate_holds, choices_fit, fires, fired}
use Rattle.civl_firing.proofs.Having.{have_length}
use Rattle.civl_meaning.specs.declared.config.Plain.{Plain}
use Rattle.civl_meaning.specs.declared.config.Activation.{Activation}
use Rattle.civl_meaning.specs.declared.config.State.{State}
use Rattle.civl_meaning.specs.declared.config.State.TheVariants.{Before, Inside, After}
use Rattle.civl_meaning.specs.declared.config.Running.{Running}
use Rattle.civl_meaning.specs.declared.config.Stepped.TheVariants as answer
use Rattle.civl_meaning.specs.declared.config.Change.TheVariants.{Stays, Acts, Enters, Leaves}
use Rattle.civl_meaning.specs.Initial.{of_args}
use Rattle.civl_meaning.specs.Permissions.{of_params}
use Rattle.civl_meaning.specs.Places.{Spot, spot_at}
use Rattle.civl_meaning.specs.Meaning.{Meaning, Does, Runs, Missing, meaning_of}
use Rattle.civl_meaning.specs.Change.{new_frame, acted, action_change, done_by, call_doing, outs_in, spot_doing, proc_doing, caller_of, state_doing, change_of, returned}
use Rattle.civl_meaning.specs.Config.{IsPlain, IsPlaced, IsBegun, HasLocals, IsStack, StateIsSorted, StateIsStacked, ThreadIsSorted, IsStacked, frame_sorts}
use Rattle.civl_meaning.proofs.Stacking.{split_last, last_waits}
use Rattle.civl_linear.specs.Modes.{is_passed, is_lent}
use Rattle.civl_linear.specs.Held.{entry_held}
use Rattle.civl_linear.specs.LinearRules.{linear_rules}
use Rattle.civl_conditions.specs.Permissions.{of_modes}
use Rattle.civl_soundness.proofs.Called as sorts
use Rattle.civl_soundness.proofs.Fitting.{all_at}
use Rattle.civl_reduction.specs.permissions.Owned.{held_before}
use Rattle.civl_reduction.specs.permissions.Stay.{KeepsPermissions}
use Rattle.civl_reduction.proofs.permissions.Counting.{carriers}
use Rattle.civl_reduction.proofs.permissions.Flags.{within_less}
use Rattle.civl_reduction.proofs.permissions.Args.{params_passed}
use Rattle.civl_reduction.proofs.permissions.Frames.{entry_carries}
use Rattle.civl_reduction.proofs.permissions.Next.{steps}
use Rattle.civl_reduction.proofs.permissions.Standing.{entry_within}
use Rattle.civl_reduction.proofs.permissions.Meant.{Serves, number_serves, number_runs}
use Rattle.civl_reduction.proofs.permissions.Giving.{gives}
use Rattle.civl_reduction.proofs.permissions.Lending.{AreLent, StateIsLent}
use Rattle.civl_reduction.proofs.permissions.Changing.{Meant, AreWritable, Kept, inside_owns, moved_is, layer_kept}
use Rattle.civl_reduction.proofs.permissions.Leaving.{returned_kept}

-- ---- lists

pub locals_count : (proc : Proc) (locals : List Value) → HaveSorts locals (frame_sorts proc) → length locals ≡ length (names_in_proc proc)
locals_count proc locals h = have_length locals (frame_sorts proc) h ∙ (sorts_are ∙ sym names_are)
  where
    all : ℕ
    all = length proc.params + (length proc.outs + length proc.locals)

    sorts_are : length (frame_sorts proc) ≡ length proc.params + (length proc.outs + length proc.locals)
    sorts_are =
        length-append (param_sorts proc.params) (param_sorts proc.outs ++ map (λ l. l.sort) proc.locals)
        ∙ ap₂ (λ (m n : ℕ). m + n) (length-map proc.params (λ p. p.sort)) (length-append (param_sorts proc.outs) (map (λ l. l.sort) proc.locals) ∙ ap₂ (λ (m n : ℕ). m + n) (length-map proc.outs (λ p. p.sort)) (length-map proc.locals (λ l. l.sort)))

    names_are : length (names_in_proc proc) ≡ length proc.params + (length proc.outs + length proc.locals)
    names_are =
        length-append (param_names proc.params) (param_names proc.outs ++ map (λ l. l.name) proc.locals)
        ∙ ap₂ (λ (m n : ℕ). m + n) (length-map proc.params (λ p. p.name)) (length-append (param_names proc.outs) (map (λ l. l.name) proc.locals) ∙ ap₂ (λ (m n : ℕ). m + n) (length-map proc.outs (λ p. p.name)) (length-map proc.locals (λ l. l.name)))

-- ---- a thread

module _ (plain : Plain) (ok : IsPlain plain) (linear : Keeps linear_rules plain.program) (writable : AreWritable plain.program) (keeps : (action : Action) → Meant plain action → KeepsPermissions plain.program action)
    (store : Store) (fits : IsStore plain.program.globals store) (chosen : List Value) (chosen_fit : All IsValue chosen) (thread : Running) where
  abbrev program : Program
  program = plain.program

  pub placed_in : (frame : Activation) (proc : Proc) → slice_get program.procs frame.procedure ≡ Some proc → IsPlaced plain frame → frame.place ≤ sizes_of proc.body
  placed_in frame proc at h = subst (λ (p : Proc). frame.place ≤ sizes_of p.body) (same_Some h.proc proc (sym h.there ∙ at)) h.place

  -- a thread's first call
  pub begun_owns : (b : IsBegun plain thread) (p : ℕ) → carriers p (of_args (slice_get program.procs thread.callee) thread.args) ≡ carriers p (of_modes is_passed b.proc.params thread.args)
  begun_owns b p =
      ap (λ (o : Option Proc). carriers p (of_args o thread.args)) b.there
      ∙ ap (carriers p) (params_passed b.proc.params thread.args (writable.1 thread.callee b.proc b.there))

  first_acts : (b : IsBegun plain thread) (action : Action) → meaning_of plain thread.callee ≡ Does action → Kept program store thread Before (action_change plain store chosen [] [] [] 0 action thread.args)
  first_acts b action does = by_gate (gate_holds program.globals store action thread.args) (choices_fit action chosen) refl refl (fired program.globals store action thread.args chosen) refl
    where
      serves : Serves program (proc_signature b.proc) action
      serves = number_serves program ok.signatures plain refl thread.callee b.proc b.there action does

      inputs_fit : HaveSorts thread.args (param_sorts action.params)
      inputs_fit = subst (HaveSorts thread.args) (sym (subst (sorts.Serves program (param_sorts b.proc.params) (param_sorts b.proc.outs)) does (sorts.number_serves plain ok thread.callee b.proc b.there)).2) b.args

      acts : (after : Store) (outs : List Value) → gate_holds program.globals store action thread.args ≡ true → choices_fit action chosen ≡ true → fires program.globals store action thread.args chosen ≡ Some (after, outs) → Kept program store thread Before (Acts after [] 0)
      acts after outs gate c fired_so = (
        (
          (λ p. 0),
          of_params action.params thread.args,
          of_modes is_lent action.params thread.args ++ of_params action.outs outs,
          (λ p.
              let one = begun_owns b p in
              let two : carriers p (of_params action.params thread.args) ≡ carriers p (of_modes is_passed b.proc.params thread.args) =
              ap (carriers p) (params_passed action.params thread.args (writable.0 serves.place action serves.there) ∙ sym (serves.params.carry is_passed thread.args)) in
              omega (arith, one, two)),
          (λ p. omega arith),
          (λ apart. gives program action store after thread.args chosen outs (keeps action (inr (thread.callee, does))) fits inputs_fit (record { fit = chosen_fit; are = c }) gate fired_so apart),
        ),
        tt,
      )

      by_gate : (a c : Bool) → gate_holds program.globals store action thread.args ≡ a → choices_fit action chosen ≡ c → (f : Fired) → fired program.globals store action thread.args chosen ≡ f → Kept program store thread Before (if a then (if c then acted [] [] [] 0 f else Stays answer.BadChoices) else Stays answer.Failing)
      by_gate false c e g f h = (tt, tt)
      by_gate true false e g f h = (tt, tt)
      by_gate true true e g fire.GateFalse h = (tt, tt)
      by_gate true true e g fire.Blocked h = (tt, tt)
      by_gate true true e g (fire.Moved after outs) h = acts after outs e g (moved_is program store after action thread.args chosen outs e h)

  first_enters : (b : IsBegun plain thread) (number : ℕ) (proc : Proc) → meaning_of plain thread.callee ≡ Runs number proc → Kept program store thread Before (Enters (new_frame number proc thread.args) 0)
  first_enters b number proc runs =
      let r = number_runs plain ok thread.callee number proc runs in
      let there : slice_get program.procs number ≡ Some proc = ap (slice_get program.procs) (sym r.0) ∙ r.1 in
      let is : b.proc ≡ proc = same_Some b.proc proc (sym b.there ∙ r.1) in
      let count : length thread.args ≡ length proc.params = have_length thread.args (param_sorts b.proc.params) b.args ∙ (length-map b.proc.params (λ p. p.sort) ∙ ap (λ (q : Proc). length q.params) is) in (
        (λ p.
            let one = begun_owns b p in
            let two = inside_owns program thread [] (new_frame number proc thread.args) proc there p in
            let three = within_less p (held_before program proc 0) (entry_held proc) (new_frame number proc thread.args).locals (entry_within program ok.rules linear number proc there) in
            let four = entry_carries p proc thread.args (zeros_of_params proc.outs ++ zeros_of_locals proc.locals) count in
            let five : carriers p (of_modes is_passed b.proc.params thread.args) ≡ carriers p (of_modes is_passed proc.params thread.args) = ap (λ (q : Proc). carriers p (of_modes is_passed q.params thread.args)) is in
            omega (arith, one, two, three, four, five)),
        tt,
      )

  first_kept : IsBegun plain thread → Kept program store thread Before (done_by plain store chosen (call_doing [] [] [] 0 0 (meaning_of plain thread.callee) thread.args))
  first_kept b = by_meaning (meaning_of plain thread.callee) refl
    where
      by_meaning : (m : Meaning) → meaning_of plain thread.callee ≡ m → Kept program store thread Before (done_by plain store chosen (call_doing [] [] [] 0 0 m thread.args))
      by_meaning (Does action) e = first_acts b action e
      by_meaning (Runs number proc) e = first_enters b number proc e
      by_meaning Missing e = (tt, tt)

  -- a thread in a body
  leaving_kept : (below : List Activation) (top : Activation) (proc : Proc) → slice_get program.procs top.procedure ≡ Some proc → length top.locals ≡ length (names_in_proc proc) → All (HasLocals plain) below → IsStack plain thread.callee below top → AreLent program below top
      → spot_at proc.body top.place ≡ None → (o : Option Activation) → caller_of below ≡ o → Kept program store thread (Inside below top) (Leaves (option_map (returned plain (outs_in proc top.locals)) o))
  leaving_kept below top proc at same all stack lent ends None e = ((λ p. omega arith), tt)
  leaving_kept below top proc at same all stack lent ends (Some frame) e =
      let h = all_at (HasLocals plain) below (length below - 1) frame e all in
      let k = all_at (IsPlaced plain) below (length below - 1) frame e stack.placed in
      let front = take (length below - 1) below in
      let whole : front ++ frame ∷ [] ≡ below = split_last below frame e in
      returned_kept plain ok linear writable keeps store fits chosen chosen_fit thread front frame h.proc h.there h.locals (locals_count h.proc frame.locals h.locals) (placed_in frame h.proc h.there k)
      top proc at (placed_in top proc at stack.topmost) ends same (subst (λ (l : List Activation). AreLent program l top) (sym whole) lent) (last_waits plain below top frame e stack.waiting) below (sym whole) refl

  inside_kept : (below : List Activation) (top : Activation) → All (HasLocals plain) below → HasLocals plain top → IsStack plain thread.callee below top → AreLent program below top
      → Kept program store thread (Inside below top) (done_by plain store chosen (proc_doing plain (caller_of below) top (slice_get program.procs top.procedure)))
  inside_kept below top all h stack lent =
      subst (λ (o : Option Proc). Kept program store thread (Inside below top) (done_by plain store chosen (proc_doing plain (caller_of below) top o))) (sym h.there) (by_spot (spot_at h.proc.body top.place) refl)
    where
      same : length top.locals ≡ length (names_in_proc h.proc)
      same = locals_count h.proc top.locals h.locals

      by_spot : (o : Option Spot) → spot_at h.proc.body top.place ≡ o → Kept program store thread (Inside below top) (done_by plain store chosen (spot_doing plain (caller_of below) top h.proc o))
      by_spot None e = leaving_kept below top h.proc h.there same all stack lent e (caller_of below) refl
      by_spot (Some s) e =
          layer_kept plain ok linear writable keeps store fits chosen chosen_fit thread below top h.proc h.there h.locals same lent
          s (steps program ok.rules linear top.procedure h.proc h.there top.place (placed_in top h.proc h.there stack.topmost) s e) (out-Stmt s.stmt) refl

  pub thread_kept : ThreadIsSorted plain thread → IsStacked plain thread → StateIsLent program thread.state → Kept program store thread thread.state (change_of plain store chosen thread)
  thread_kept = by_state thread.state
    where
      by_state : (state : State) → StateIsSorted plain thread state → StateIsStacked plain thread.callee state → StateIsLent program state → Kept program store thread state (done_by plain store chosen (state_doing plain thread state))
      by_state Before b s l = first_kept b
      by_state (Inside below top) b s l = inside_kept below top b.1 b.2 s l
      by_state After b s l = (tt, tt)
