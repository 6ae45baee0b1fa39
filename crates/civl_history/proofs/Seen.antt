-- What a step did is seen from what lay ahead of its thread, and from where this is behind it.
use Rattle.std.proofs.Common.{ℕ, ◌≡◌, ◌<◌, Bool, true, false, List, [], ◌∷◌, ◌++◌, length, Option, Some, None, refl, sym, ap, ◌∙◌, subst, arith}
use Rattle.std.specs.Prelude.{option_map, slice_get, slice_set, nat_lt, if◌then◌else◌, IfSome}
use Rattle.std.proofs.lemmas.Bool.{lt-ltb, le-ltb}
use Rattle.std.proofs.lemmas.List.{length-append}
use Rattle.civl_bits.specs.declared.value.Value.{Value}
use Rattle.civl_tree.specs.declared.action.Action.{Action}
use Rattle.civl_tree.specs.declared.expr.Expr.{Expr}
use Rattle.civl_tree.specs.declared.name.Name.{Name}
use Rattle.civl_tree.specs.declared.program.Proc.{Proc}
use Rattle.civl_tree.specs.declared.stmt.Stmt.{Stmt, out-Stmt}
use Rattle.civl_tree.specs.declared.stmt.Stmt.TheOpen as stmt
use Rattle.civl_tree.proofs.Lists.{get_there, get_front, get_same}
use Rattle.civl_firing.specs.declared.store.Store.{Store}
use Rattle.civl_firing.specs.declared.firing.Fired.{Fired}
use Rattle.civl_firing.specs.declared.firing.Fired.TheVariants as fire
use Rattle.civl_firing.specs.Fired.{gate_holds, choices_fit, fired}
use Rattle.civl_firing.specs.Eval.{values_of}
use Rattle.civl_firing.specs.Scope.{frame_values}
use Rattle.civl_tree.specs.rules.Names.{names_in_proc}
use Rattle.civl_meaning.specs.declared.config.Activation.{Activation}
use Rattle.civl_meaning.specs.declared.config.Change.{Change}
use Rattle.civl_meaning.specs.declared.config.Change.TheVariants as change
use Rattle.civl_meaning.specs.declared.config.Config.{Config}
use Rattle.civl_meaning.specs.declared.config.Move.{Move}
use Rattle.civl_meaning.specs.declared.config.Plain.{Plain}
use Rattle.civl_meaning.specs.declared.config.Running.{Running}
use Rattle.civl_meaning.specs.declared.config.State.{State}
use Rattle.civl_meaning.specs.declared.config.State.TheVariants.{Before, Inside, After}
use Rattle.civl_meaning.specs.declared.config.Stepped.{Stepped}
use Rattle.civl_meaning.specs.declared.config.Stepped.TheVariants as answer
use Rattle.civl_meaning.specs.Change.{acted, action_change, done_by, call_doing, statement_doing, outs_in, returned, is_true_in, spot_doing, proc_doing, caller_of, change_of}
use Rattle.civl_meaning.specs.Change as does
use Rattle.civl_meaning.specs.Meaning.{Meaning, Does, Runs, Missing, called, meaning_of}
use Rattle.civl_meaning.specs.Places.{Spot, spot_at}
use Rattle.civl_meaning.specs.Step.{state_after, thread_after, config_after, step_with, step_in, step_of}
use Rattle.civl_meaning.specs.Run.{has_moved}
use Rattle.civl_history.specs.declared.changes.Changed.{Changed}
use Rattle.civl_history.specs.declared.moves.MadeMove.{MadeMove}
use Rattle.civl_history.specs.declared.moves.StepKind.{StepKind}
use Rattle.civl_history.specs.declared.moves.StepKind.TheVariants as kind
use Rattle.civl_history.specs.Stands.{stands, state_stands, frame_stands, spot_in_proc, spot_of_frame}
use Rattle.civl_history.specs.declared.stand.Stand.{Stand}
use Rattle.civl_history.specs.declared.kept.Kept.{Kept}
use Rattle.civl_history.specs.History.{kind_of, locals_of, local_changes, changes, told_change, told_in, told}
use Rattle.civl_history.specs.inner.Spots.{numbered_spot}
use Rattle.civl_history.specs.inner.Ahead.{Next, frame_next, state_next, next_of, stand_before, below_of, frame_kept, locals_kept, call_kind, first_kind, exit_kind, kind_seen, form_kind, locals_seen, said, IsKept, told_kept}

-- a return into a frame is one into a frame that is there
abbrev pub HasCaller : Change → State → Type 0
HasCaller (change.Leaves (Some caller)) (Inside below top) = (waiting : Activation) × (caller_of below ≡ Some waiting)
HasCaller _ _ = Unit

-- a change is of the kind that is seen, by where its thread is behind it, and so are the locals that it changes
pub record IsSeen (threads : ℕ) (state : State) (seen : State → StepKind) (kept : List Value) (made : Change) : Type 0 where
  pub kind : kind_of threads made ≡ Some (seen (state_after state made))
  pub locals : local_changes state made ≡ locals_seen (seen (state_after state made)) kept (state_after state made)
  pub caller : HasCaller made state

-- one that isn't made says so
abbrev pub Seen : ℕ → State → (State → StepKind) → List Value → Change → Type 0
Seen threads state seen kept (change.Stays stepped) = has_moved stepped ≡ false
Seen threads state seen kept made = IsSeen threads state seen kept made

-- ---- calls of actions

module _ (threads : ℕ) (state : State) (seen : State → StepKind) (kept : List Value) (acts : (store : Store) (locals : List Value) (place : ℕ) → IsSeen threads state seen kept (change.Acts store locals place)) where
  acted_seen : (names : List Name) (locals : List Value) (results : List Name) (place : ℕ) (f : Fired) → Seen threads state seen kept (acted names locals results place f)
  acted_seen names locals results place fire.GateFalse = refl
  acted_seen names locals results place fire.Blocked = refl
  acted_seen names locals results place (fire.Moved store outs) = acts store _ place

  tested_seen : (gate fit : Bool) (names : List Name) (locals : List Value) (results : List Name) (place : ℕ) (f : Fired) → Seen threads state seen kept (if gate then (if fit then acted names locals results place f else change.Stays answer.BadChoices) else change.Stays answer.Failing)
  tested_seen true true names locals results place f = acted_seen names locals results place f
  tested_seen true false names locals results place f = refl
  tested_seen false fit names locals results place f = refl

  action_seen : (plain : Plain) (store : Store) (chosen : List Value) (names : List Name) (locals : List Value) (results : List Name) (place : ℕ) (action : Action) (args : List Value) → Seen threads state seen kept (action_change plain store chosen names locals results place action args)
  action_seen plain store chosen names locals results place action args =
      tested_seen (gate_holds plain.program.globals store action args) (choices_fit action chosen) names locals results place (fired plain.program.globals store action args chosen)

module _ (threads : ℕ) (plain : Plain) (store : Store) (chosen : List Value) where
  abbrev Done : State → (State → StepKind) → List Value → does.Doing → Type 0
  Done state seen kept next = Seen threads state seen kept (done_by plain store chosen next)

  -- a thread's first call
  first_seen : (args : List Value) (m : Meaning) → Done Before first_kind [] (call_doing [] [] [] 0 0 m args)
  first_seen args (Does action) = action_seen threads Before first_kind [] (λ after locals place. record { kind = refl; locals = refl; caller = tt }) plain store chosen [] [] [] 0 action args
  first_seen args (Runs number proc) = record { kind = refl; locals = refl; caller = tt }
  first_seen args Missing = refl

  module _ (below : List Activation) (top : Activation) where
    -- the end of a body
    left_seen : (f : Activation → Activation) (caller : Option Activation) → caller_of below ≡ caller → Seen threads (Inside below top) exit_kind (locals_of (caller_of below)) (change.Leaves (option_map f caller))
    left_seen f None e = record { kind = refl; locals = refl; caller = tt }
    left_seen f (Some frame) e = record { kind = refl; locals = refl; caller = (frame, e) }

    -- a call
    abbrev Form : stmt.Stmt-F Stmt → does.Doing → Type 0
    Form form next = Done (Inside below top) (λ behind. form_kind threads (length below) form behind) top.locals next

    no_deeper : (procedure : ℕ) → (if nat_lt (length below) (length below) then kind.Enters procedure else kind.Acts) ≡ kind.Acts
    no_deeper procedure = rw (le-ltb (length below) (length below) (omega arith)) refl

    deeper : (frame : Activation) (procedure : ℕ) → (if nat_lt (length below) (length (below ++ frame ∷ [])) then kind.Enters procedure else kind.Acts) ≡ kind.Enters procedure
    deeper frame procedure = rw (lt-ltb (length below) (length (below ++ frame ∷ [])) (omega (arith, length-append below (frame ∷ [])))) refl

    call_seen : (names : List Name) (results : List Name) (at next : ℕ) (args : List Value) (m : Meaning) → Done (Inside below top) (λ behind. call_kind (length below) behind) top.locals (call_doing names top.locals results at next m args)
    call_seen names results at next args (Does action) =
        action_seen threads (Inside below top) (λ behind. call_kind (length below) behind) top.locals
        (λ after locals place. record {
          kind = ap (λ (k : StepKind). Some k) (sym (no_deeper top.procedure));
          locals = ap (λ (k : StepKind). locals_seen k top.locals (Inside below (record { procedure = top.procedure; place = place; locals = locals }))) (sym (no_deeper top.procedure));
          caller = tt;
        }) plain store chosen names top.locals results next action args
    call_seen names results at next args (Runs number proc) =
        let frame : Activation = record { procedure = top.procedure; place = at; locals = top.locals } in
        record {
          kind = ap (λ (k : StepKind). Some k) (sym (deeper frame number));
          locals = ap (λ (k : StepKind). locals_seen k top.locals (Inside (below ++ frame ∷ []) (does.new_frame number proc args))) (sym (deeper frame number));
          caller = tt;
        }
    call_seen names results at next args Missing = refl

    -- a statement
    assert_seen : (e : Expr) (holds : Bool) (next : ℕ) → Form (stmt.Assert e) (if holds then does.Goes top.locals next else does.Fails)
    assert_seen e true next = record { kind = refl; locals = refl; caller = tt }
    assert_seen e false next = refl

    statement_seen : (proc : Proc) (at next : ℕ) (form : stmt.Stmt-F Stmt) → Form form (statement_doing plain proc top.locals at next form)
    statement_seen proc at next (stmt.Assign x e) = record { kind = refl; locals = refl; caller = tt }
    statement_seen proc at next (stmt.Assert e) = assert_seen e (is_true_in plain proc top.locals e) next
    statement_seen proc at next (stmt.If e a b) = record { kind = refl; locals = refl; caller = tt }
    statement_seen proc at next (stmt.While e a) = record { kind = refl; locals = refl; caller = tt }
    statement_seen proc at next (stmt.YieldLoop e i a) = record { kind = refl; locals = refl; caller = tt }
    statement_seen proc at next (stmt.RankLoop e r i a) = record { kind = refl; locals = refl; caller = tt }
    statement_seen proc at next (stmt.Call f es rs) = call_seen (names_in_proc proc) rs at next (values_of (frame_values plain.program.globals proc top.locals) es) (called plain f)
    statement_seen proc at next (stmt.Spawn f es) = record { kind = refl; locals = refl; caller = tt }
    statement_seen proc at next (stmt.Yield e) = refl
    statement_seen proc at next stmt.Commit = refl
    statement_seen proc at next (stmt.Intro x e) = refl

    -- what the table says of a frame
    abbrev Frame : Next → does.Doing → Type 0
    Frame ahead next = Done (Inside below top) (λ behind. kind_seen threads (length below) ahead behind) (frame_kept below top ahead) next

    spot_seen : (proc : Proc) (spot : Option Spot) → Frame (frame_next top.procedure (numbered_spot spot)) (spot_doing plain (caller_of below) top proc spot)
    spot_seen proc None = left_seen (returned plain (outs_in proc top.locals)) (caller_of below) refl
    spot_seen proc (Some spot) = statement_seen proc spot.number spot.next (out-Stmt spot.stmt)

    proc_seen : (proc : Option Proc) → Frame (frame_next top.procedure (numbered_spot (spot_in_proc proc top.place))) (proc_doing plain (caller_of below) top proc)
    proc_seen None = refl
    proc_seen (Some proc) = spot_seen proc (spot_at proc.body top.place)

  -- whatever a thread does
  pub thread_seen : (thread : Running) (state : State) →
      Done state (λ behind. kind_seen threads (below_of state) (state_next plain thread.callee state) behind) (locals_kept state (state_next plain thread.callee state)) (does.state_doing plain thread state)
  thread_seen thread Before = first_seen thread.args (meaning_of plain thread.callee)
  thread_seen thread (Inside below top) = proc_seen below top (slice_get plain.program.procs top.procedure)
  thread_seen thread After = refl

-- ---- a move

-- where the thread is behind its change
pub thread_there : (config : Config) (t : ℕ) (thread : Running) (made : Change) → slice_get config.threads t ≡ Some thread → slice_get (config_after config t thread made).threads t ≡ Some (thread_after thread made)
thread_there config t thread (change.Spawns spawned place) e =
    get_front (slice_set config.threads t (thread_after thread (change.Spawns spawned place))) (spawned ∷ []) t _ (get_same config.threads t _ thread e)
thread_there config t thread (change.Stays stepped) e = get_same config.threads t _ thread e
thread_there config t thread (change.Goes locals place) e = get_same config.threads t _ thread e
thread_there config t thread (change.Acts store locals place) e = get_same config.threads t _ thread e
thread_there config t thread (change.Enters frame place) e = get_same config.threads t _ thread e
thread_there config t thread (change.Leaves frame) e = get_same config.threads t _ thread e

frame_stood : (procedure : ℕ) (spot : Option Spot) → frame_stands procedure spot ≡ stand_before (frame_next procedure (numbered_spot spot))
frame_stood procedure None = refl
frame_stood procedure (Some spot) = refl

state_stood : (plain : Plain) (callee : ℕ) (state : State) → state_stands plain callee state ≡ stand_before (state_next plain callee state)
state_stood plain callee Before = refl
state_stood plain callee (Inside below top) = frame_stood top.procedure (spot_of_frame plain top)
state_stood plain callee After = refl

-- where a thread stands is said by what lies ahead of it
pub stood_before : (plain : Plain) (thread : Running) → stands plain thread ≡ stand_before (next_of plain thread)
stood_before plain thread = state_stood plain thread.callee thread.state

-- a move by its parts
abbrev entry : ℕ → Stand → StepKind → List Changed → List Changed → MadeMove
entry t stood k globals locals = record { thread = t; stood = stood; kind = k; globals = globals; locals = locals }

same_entry : (t : ℕ) (s0 s1 : Stand) (k0 k1 : StepKind) (g0 g1 l0 l1 : List Changed) → s0 ≡ s1 → k0 ≡ k1 → g0 ≡ g1 → l0 ≡ l1 → Some (entry t s0 k0 g0 l0) ≡ Some (entry t s1 k1 g1 l1)
same_entry t s0 s1 k0 k1 g0 g1 l0 l1 a b c d = rw (a, b, c, d) refl

same_kind : (m0 m1 b0 b1 : ℕ) (n0 n1 : Next) (s : State) → m0 ≡ m1 → b0 ≡ b1 → n0 ≡ n1 → kind_seen m0 b0 n0 s ≡ kind_seen m1 b1 n1 s
same_kind m0 m1 b0 b1 n0 n1 s a b c = rw (a, b, c) refl

same_locals : (k0 k1 : StepKind) (v0 v1 : List Value) (s : State) → k0 ≡ k1 → v0 ≡ v1 → locals_seen k0 v0 s ≡ locals_seen k1 v1 s
same_locals k0 k1 v0 v1 s a b = rw (a, b) refl

module _ (plain : Plain) (config : Config) (move : Move) (thread : Running) (kept : Kept) (next : Config) (made : MadeMove) (is : IsKept plain config thread kept) (at : slice_get config.threads move.thread ≡ Some thread)
    (step : step_of plain config move ≡ (answer.Moved, next)) (tells : IfSome (slice_get next.threads move.thread) (λ behind. made ≡ told_kept move.thread kept next behind.state)) where
  abbrev Ahead : Next
  Ahead = next_of plain thread

  abbrev IsTold : Change → Type 0
  IsTold by = told_change plain config move thread by ≡ Some made

  was_made : (by : Change) → IsSeen (length config.threads) thread.state (λ b. kind_seen (length config.threads) (below_of thread.state) Ahead b) (locals_kept thread.state Ahead) by → config_after config move.thread thread by ≡ next → IsTold by
  was_made by h e =
      let after = state_after thread.state by in
      let k0 = kind_seen (length config.threads) (below_of thread.state) Ahead after in
      let k1 = kind_seen kept.threads kept.below (said kept.ahead) after in
      let there : slice_get next.threads move.thread ≡ Some (thread_after thread by) = sym (ap (λ (c : Config). slice_get c.threads move.thread) e) ∙ thread_there config move.thread thread by at in
      let entry_is : made ≡ told_kept move.thread kept next after = subst (λ (o : Option Running). IfSome o (λ behind. made ≡ told_kept move.thread kept next behind.state)) there tells in
      let kind : k0 ≡ k1 = same_kind _ _ _ _ _ _ after (sym is.threads) (sym is.below) (sym is.ahead) in
      let globals : changes config.store.values (step_of plain config move).1.store.values ≡ changes kept.store next.store.values
      = ap (λ (s : Stepped × Config). changes config.store.values s.1.store.values) step ∙ ap (λ (vs : List Value). changes vs next.store.values) (sym is.store) in
      let locals : local_changes thread.state by ≡ locals_seen k1 kept.locals after = h.locals ∙ same_locals _ _ _ _ after kind (sym is.locals) in
      let stood : stands plain thread ≡ stand_before (said kept.ahead) = stood_before plain thread ∙ ap stand_before (sym is.ahead) in
      ap (option_map (λ (k : StepKind). entry move.thread (stands plain thread) k (changes config.store.values (step_of plain config move).1.store.values) (local_changes thread.state by))) h.kind
      ∙ same_entry move.thread _ _ _ _ _ _ _ _ stood kind globals locals
      ∙ ap (λ (m : MadeMove). Some m) (sym entry_is)

  by_change : (by : Change) → Seen (length config.threads) thread.state (λ b. kind_seen (length config.threads) (below_of thread.state) Ahead b) (locals_kept thread.state Ahead) by → step_with config move.thread thread by ≡ (answer.Moved, next) → IsTold by
  by_change (change.Stays stepped) h e = absurd (not_made stepped h (ap (λ (s : Stepped × Config). s.0) e))
    where
      not_made : (stepped : Stepped) → has_moved stepped ≡ false → stepped ≡ answer.Moved → ⊥
      not_made stepped h e = let t : has_moved stepped ≡ true = ap has_moved e in absurd (cc)
  by_change (change.Goes locals place) h e = was_made (change.Goes locals place) h (ap (λ (s : Stepped × Config). s.1) e)
  by_change (change.Acts store locals place) h e = was_made (change.Acts store locals place) h (ap (λ (s : Stepped × Config). s.1) e)
  by_change (change.Enters frame place) h e = was_made (change.Enters frame place) h (ap (λ (s : Stepped × Config). s.1) e)
  by_change (change.Leaves caller) h e = was_made (change.Leaves caller) h (ap (λ (s : Stepped × Config). s.1) e)
  by_change (change.Spawns spawned place) h e = was_made (change.Spawns spawned place) h (ap (λ (s : Stepped × Config). s.1) e)

  telling : told plain config move ≡ Some made
  telling =
      ap (told_in plain config move) at
      ∙ by_change (change_of plain config.store move.choices thread) (thread_seen (length config.threads) plain config.store move.choices thread thread.state) (sym (ap (step_in plain config move) at) ∙ step)

-- what is told of a move that was made is what is told by what was kept before it, and by where its thread is behind it
pub move_told : (plain : Plain) (config : Config) (move : Move) (kept : Kept) (next : Config) (made : MadeMove) → move.thread < length config.threads → IfSome (slice_get config.threads move.thread) (λ thread. IsKept plain config thread kept) →
    step_of plain config move ≡ (answer.Moved, next) → IfSome (slice_get next.threads move.thread) (λ behind. made ≡ told_kept move.thread kept next behind.state) → told plain config move ≡ Some made
move_told plain config move kept next made within is step tells =
    let there = get_there config.threads move.thread within in
    telling plain config move there.0 kept next made (subst (λ (o : Option Running). IfSome o (λ thread. IsKept plain config thread kept)) there.1 is) there.1 step tells

-- a move that isn't made isn't told
refused_change : (plain : Plain) (config : Config) (move : Move) (thread : Running) (made : Change) → has_moved (step_with config move.thread thread made).0 ≡ false → told_change plain config move thread made ≡ None
refused_change plain config move thread (change.Stays stepped) h = refl
refused_change plain config move thread (change.Goes locals place) h = absurd (cc)
refused_change plain config move thread (change.Acts store locals place) h = absurd (cc)
refused_change plain config move thread (change.Enters frame place) h = absurd (cc)
refused_change plain config move thread (change.Leaves caller) h = absurd (cc)
refused_change plain config move thread (change.Spawns spawned place) h = absurd (cc)

refused_in : (plain : Plain) (config : Config) (move : Move) (thread : Option Running) → has_moved (step_in plain config move thread).0 ≡ false → told_in plain config move thread ≡ None
refused_in plain config move None h = refl
refused_in plain config move (Some thread) h = refused_change plain config move thread (change_of plain config.store move.choices thread) h

pub refused_told : (plain : Plain) (config : Config) (move : Move) → has_moved (step_of plain config move).0 ≡ false → told plain config move ≡ None
refused_told plain config move h = refused_in plain config move (slice_get config.threads move.thread) h
