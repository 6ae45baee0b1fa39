-- A step keeps the frames of its thread stacked.
use Rattle.std.proofs.Common.{◌≡◌, ℕ, zero, suc, ◌+◌, ◌-◌, ◌≤◌, Bool, true, false, List, [], ◌∷◌, ◌++◌, take, length, refl, sym, ap, ◌∙◌, subst, Option, None, Some, slice_get, slice_set, arith}
use Rattle.std.specs.Prelude.{All, option_map, if◌then◌else◌}
use Rattle.std.proofs.lemmas.List.Elements.{All-nil, All-cons, All-head, All-tail, All-set, All-push}
use Rattle.std.proofs.lemmas.Option.{none-some, same_Some}
use Rattle.civl_bits.specs.declared.value.Value.{Value}
use Rattle.civl_tree.specs.declared.action.Action.{Action}
use Rattle.civl_tree.specs.declared.name.Name.{Name}
use Rattle.civl_tree.specs.declared.program.Proc.{Proc}
use Rattle.civl_tree.specs.declared.program.Refines.{Refines}
use Rattle.civl_tree.specs.declared.program.Program.{Program}
use Rattle.civl_tree.specs.declared.stmt.Stmt.{Stmt, out-Stmt, map-Stmt}
use Rattle.civl_tree.specs.declared.stmt.Stmt.TheOpen.{Stmt-F, Assign, Assert, If, While, YieldLoop, RankLoop, Call, Yield, Commit, Intro, Spawn}
use Rattle.civl_firing.specs.declared.store.Store.{Store}
use Rattle.civl_meaning.specs.declared.config.Move.{Move}
use Rattle.civl_meaning.specs.declared.config.Plain.{Plain}
use Rattle.civl_meaning.specs.declared.config.Activation.{Activation}
use Rattle.civl_meaning.specs.declared.config.State.{State}
use Rattle.civl_meaning.specs.declared.config.State.TheVariants.{Before, Inside, After}
use Rattle.civl_meaning.specs.declared.config.Running.{Running}
use Rattle.civl_meaning.specs.declared.config.Config.{Config}
use Rattle.civl_meaning.specs.declared.config.Stepped.{Stepped}
use Rattle.civl_meaning.specs.declared.config.Stepped.TheVariants as answer
use Rattle.civl_firing.specs.declared.firing.Fired.{Fired}
use Rattle.civl_firing.specs.declared.firing.Fired.TheVariants as fire
use Rattle.civl_meaning.specs.declared.config.Change.{Change}
use Rattle.civl_meaning.specs.declared.config.Change.TheVariants.{Stays, Goes, Acts, Enters, Leaves, Spawns}
use Rattle.civl_firing.specs.Eval.{values_of}
use Rattle.civl_firing.specs.Scope.{frame_values}
use Rattle.civl_tree.specs.rules.Names.{names_in_proc, action_named}
use Rattle.civl_firing.specs.Fired.{gate_holds, choices_fit, fired}
use Rattle.civl_meaning.specs.Places.{Spot, spot_at}
use Rattle.civl_tree.specs.Numbering.{size_step, size_of, sizes_of}
use Rattle.civl_tree.proofs.Sizes.{size_is}
use Rattle.civl_meaning.specs.Meaning.{Meaning, Does, Runs, Missing, meaning_of_action, refined, meaning_by, meaning_of, meaning_else, called, proc_number}
use Rattle.civl_meaning.specs.Change.{new_frame, acted, action_change, done_by, call_doing, statement_doing, returned_at, returned_in, returned, outs_in, is_true_in, spot_doing, proc_doing, caller_of, state_doing, change_of}
use Rattle.civl_meaning.specs.Change as does
use Rattle.civl_meaning.specs.Step.{thread_after, state_after, step_with, step_in}
use Rattle.civl_meaning.specs.Config.{IsPlaced, IsBodyOf, LayerCalls, SpotCalls, ProcCalls, Waits, next_procedure, AreWaiting, IsStack, StateIsStacked, IsStacked, StepKeepsStacks, RunKeepsStacks}
use Rattle.civl_meaning.proofs.Spots.{start_below, Stands, spot_stands}

-- ---- what is called

action_runs_not : (o : Option Action) (n : ℕ) (p : Proc) → meaning_of_action o ≡ Runs n p → ⊥
action_runs_not None n p e = cc
action_runs_not (Some a) n p e = cc

pub refined_runs_not : (program : Program) (o : Option Refines) (n : ℕ) (p : Proc) → refined program o ≡ Runs n p → ⊥
refined_runs_not program None n p e = cc
refined_runs_not program (Some r) n p e = action_runs_not (action_named program r.action) n p e

runs_by : (program : Program) (body : Option Bool) (k : ℕ) (o : Option Proc) (n : ℕ) (p : Proc) → meaning_by program body k o ≡ Runs n p → (k ≡ n) × (o ≡ Some p)
runs_by program body k None n p e = absurd (cc)
runs_by program (Some true) k (Some q) n p e = (cc, cc)
runs_by program (Some false) k (Some q) n p e = absurd (refined_runs_not program q.refines n p e)
runs_by program None k (Some q) n p e = absurd (cc)

-- a meaning that is a body is the body of a procedure
runs_proc : (plain : Plain) (k n : ℕ) (p : Proc) → meaning_of plain k ≡ Runs n p → slice_get plain.program.procs n ≡ Some p
runs_proc plain k n p e =
    let h = runs_by plain.program (slice_get plain.bodies k) k (slice_get plain.program.procs k) n p e in
    ap (slice_get plain.program.procs) (sym h.0) ∙ h.1

called_proc : (plain : Plain) (f : Name) (n : ℕ) (p : Proc) → called plain f ≡ Runs n p → slice_get plain.program.procs n ≡ Some p
called_proc plain f n p e = by_action (action_named plain.program f) e
  where
    by_action : (o : Option Action) → meaning_else plain f o ≡ Runs n p → slice_get plain.program.procs n ≡ Some p
    by_action None q = runs_proc plain (proc_number plain.program f) n p q
    by_action (Some a) q = absurd (cc)

-- ---- stacks

new_is_placed : (plain : Plain) (n : ℕ) (p : Proc) (args : List Value) → slice_get plain.program.procs n ≡ Some p → IsPlaced plain (new_frame n p args)
new_is_placed plain n p args e = record { proc = p; there = e; place = omega arith }

same_top : (plain : Plain) (frames : List Activation) (top other : Activation) → top.procedure ≡ other.procedure → AreWaiting plain frames top → AreWaiting plain frames other
same_top plain [] top other e w = tt
same_top plain (f ∷ []) top other e w = (subst (λ (n : ℕ). Waits plain n f) e w.0, tt)
same_top plain (f ∷ (g ∷ fs)) top other e w = (w.0, same_top plain (g ∷ fs) top other e w.1)

next_same : (frames : List Activation) (top other : Activation) → top.procedure ≡ other.procedure → next_procedure frames top ≡ next_procedure frames other
next_same [] top other e = e
next_same (f ∷ fs) top other e = refl

next_front : (frames : List Activation) (f top : Activation) → next_procedure (frames ++ f ∷ []) top ≡ next_procedure frames f
next_front [] f top = refl
next_front (g ∷ gs) f top = refl

-- the frames below the last one
waiting_front : (plain : Plain) (frames : List Activation) (f top : Activation) → AreWaiting plain (frames ++ f ∷ []) top → AreWaiting plain frames f
waiting_front plain [] f top w = tt
waiting_front plain (g ∷ gs) f top w = (subst (λ (n : ℕ). Waits plain n g) (next_front gs f top) w.0, waiting_front plain gs f top w.1)

-- one more
waiting_more : (plain : Plain) (frames : List Activation) (f top : Activation) → AreWaiting plain frames f → Waits plain top.procedure f → AreWaiting plain (frames ++ f ∷ []) top
waiting_more plain [] f top w h = (h, tt)
waiting_more plain (g ∷ gs) f top w h = (subst (λ (n : ℕ). Waits plain n g) (sym (next_front gs f top)) w.0, waiting_more plain gs f top w.1 h)

-- the topmost frame at another place
stack_goes : (plain : Plain) (callee : ℕ) (below : List Activation) (top : Activation) (locals : List Value) (place : ℕ) (p : Proc) → slice_get plain.program.procs top.procedure ≡ Some p → place ≤ sizes_of p.body → IsStack plain callee below top →
    IsStack plain callee below (record { procedure = top.procedure; place = place; locals = locals })
stack_goes plain callee below top locals place p e l h =
    let other : Activation = record { procedure = top.procedure; place = place; locals = locals } in
    record {
      placed = h.placed;
      topmost = record { proc = p; there = e; place = l };
      first = subst (λ (n : ℕ). IsBodyOf n (meaning_of plain callee)) (next_same below top other refl) h.first;
      waiting = same_top plain below top other refl h.waiting;
    }

-- a frame on top
stack_enters : (plain : Plain) (callee : ℕ) (below : List Activation) (top waiting new : Activation) → waiting.procedure ≡ top.procedure → IsPlaced plain waiting → IsPlaced plain new → Waits plain new.procedure waiting → IsStack plain callee below top →
    IsStack plain callee (below ++ waiting ∷ []) new
stack_enters plain callee below top waiting new e pw pn w h = record {
  placed = All-push (IsPlaced plain) below waiting h.placed pw;
  topmost = pn;
  first = subst (λ (n : ℕ). IsBodyOf n (meaning_of plain callee)) (next_same below top waiting (sym e) ∙ sym (next_front below waiting new)) h.first;
  waiting = waiting_more plain below waiting new (same_top plain below top waiting (sym e) h.waiting) w;
}

pub split_last : (below : List Activation) (f : Activation) → slice_get below (length below - 1) ≡ Some f → take (length below - 1) below ++ f ∷ [] ≡ below
split_last [] f e = absurd (cc)
split_last (g ∷ []) f e = let q : g ≡ f = cc in ap (λ (x : Activation). x ∷ []) (sym q)
split_last (g ∷ (h ∷ fs)) f e =
    let n : length (g ∷ (h ∷ fs)) - 1 ≡ suc (length (h ∷ fs) - 1) = omega arith in
    let q : slice_get (h ∷ fs) (length (h ∷ fs) - 1) ≡ Some f = ap (slice_get (g ∷ (h ∷ fs))) (sym n) ∙ e in
    ap (λ (k : ℕ). take k (g ∷ (h ∷ fs)) ++ f ∷ []) n ∙ ap (λ (r : List Activation). g ∷ r) (split_last (h ∷ fs) f q)

-- without the topmost
stack_leaves : (plain : Plain) (callee : ℕ) (front : List Activation) (f top other : Activation) → f.procedure ≡ other.procedure → IsPlaced plain other → IsStack plain callee (front ++ f ∷ []) top → IsStack plain callee front other
stack_leaves plain callee front f top other e p h =
    record {
      placed = front_placed front h.placed;
      topmost = p;
      first = subst (λ (n : ℕ). IsBodyOf n (meaning_of plain callee)) (next_front front f top ∙ next_same front f other e) h.first;
      waiting = same_top plain front f other e (waiting_front plain front f top h.waiting);
    }
  where
    front_placed : (xs : List Activation) → All (IsPlaced plain) (xs ++ f ∷ []) → All (IsPlaced plain) xs
    front_placed [] a = All-nil (IsPlaced plain)
    front_placed (x ∷ xs) a = All-cons (IsPlaced plain) x xs (All-head (IsPlaced plain) x (xs ++ f ∷ []) a) (front_placed xs (All-tail (IsPlaced plain) x (xs ++ f ∷ []) a))

last_placed : (plain : Plain) (front : List Activation) (f : Activation) → All (IsPlaced plain) (front ++ f ∷ []) → IsPlaced plain f
last_placed plain [] f a = All-head (IsPlaced plain) f [] a
last_placed plain (x ∷ xs) f a = last_placed plain xs f (All-tail (IsPlaced plain) x (xs ++ f ∷ []) a)

-- ---- what a frame is after the call in which it waits

returned_is_placed : (plain : Plain) (outs : List Value) (f : Activation) → IsPlaced plain f → IsPlaced plain (returned plain outs f) × (f.procedure ≡ (returned plain outs f).procedure)
returned_is_placed plain outs f h = by_proc (slice_get plain.program.procs f.procedure) refl
  where
    by_spot : (p : Proc) (o : Option Spot) → slice_get plain.program.procs f.procedure ≡ Some p → spot_at p.body f.place ≡ o → IsPlaced plain (returned_at f outs p o) × (f.procedure ≡ (returned_at f outs p o).procedure)
    by_spot p None e q = (h, refl)
    by_spot p (Some s) e q = (record { proc = p; there = e; place = (spot_stands p.body f.place s q).next }, refl)

    by_proc : (o : Option Proc) → slice_get plain.program.procs f.procedure ≡ o → IsPlaced plain (returned_in f outs o) × (f.procedure ≡ (returned_in f outs o).procedure)
    by_proc None e = (h, refl)
    by_proc (Some p) e = by_spot p (spot_at p.body f.place) e refl

-- ---- what a change leaves

abbrev Kept : Plain → ℕ → State → Change → Type 0
Kept plain callee state change = StateIsStacked plain callee (state_after state change)

-- a call of an action
action_keeps : (plain : Plain) (callee : ℕ) (state : State) (store : Store) (chosen : List Value) (names : List Name) (locals : List Value) (results : List Name) (next : ℕ) (action : Action) (args : List Value) → StateIsStacked plain callee state →
    ((vs : List Value) → StateIsStacked plain callee (state_after state (Goes vs next))) → Kept plain callee state (action_change plain store chosen names locals results next action args)
action_keeps plain callee state store chosen names locals results next action args h g =
    by_gate (gate_holds plain.program.globals store action args) (choices_fit action chosen) (fired plain.program.globals store action args chosen)
  where
    by_gate : (a b : Bool) (f : Fired) → Kept plain callee state (if a then (if b then acted names locals results next f else Stays answer.BadChoices) else Stays answer.Failing)
    by_gate false b f = h
    by_gate true false f = h
    by_gate true true fire.GateFalse = h
    by_gate true true fire.Blocked = h
    by_gate true true (fire.Moved s outs) = g _

-- the call with which a thread begins
first_keeps : (plain : Plain) (callee : ℕ) (store : Store) (chosen args : List Value) (m : Meaning) → meaning_of plain callee ≡ m → Kept plain callee Before (done_by plain store chosen (call_doing [] [] [] 0 0 m args))
first_keeps plain callee store chosen args (Does action) e = action_keeps plain callee Before store chosen [] [] [] 0 action args tt (λ vs. tt)
first_keeps plain callee store chosen args (Runs n p) e = record {
  placed = All-nil (IsPlaced plain);
  topmost = new_is_placed plain n p args (runs_proc plain callee n p e);
  first = subst (IsBodyOf n) (sym e) refl;
  waiting = tt;
}
first_keeps plain callee store chosen args Missing e = tt

-- a call in a frame
call_keeps : (plain : Plain) (callee : ℕ) (below : List Activation) (top : Activation) (proc : Proc) (store : Store) (chosen : List Value) (names : List Name) (locals : List Value) (results : List Name) (s : Spot) (f : Name) (es : List _) (rs : List Name) (args : List Value) →
    slice_get plain.program.procs top.procedure ≡ Some proc → Stands proc.body s → out-Stmt s.stmt ≡ Call f es rs → IsStack plain callee below top → (m : Meaning) → called plain f ≡ m →
    Kept plain callee (Inside below top) (done_by plain store chosen (call_doing names locals results s.number s.next m args))
call_keeps plain callee below top proc store chosen names locals results s f es rs args e st c h (Does action) q =
    action_keeps plain callee (Inside below top) store chosen names locals results s.next action args h (λ vs. stack_goes plain callee below top vs s.next proc e st.next h)
call_keeps plain callee below top proc store chosen names locals results s f es rs args e st c h (Runs n p) q =
    let waiting : Activation = record { procedure = top.procedure; place = s.number; locals = top.locals } in
    let inside = st.inside in
    let calls : LayerCalls plain n (out-Stmt s.stmt) = subst (LayerCalls plain n) (sym c) (subst (IsBodyOf n) (sym q) refl) in
    let spot : SpotCalls plain n s.number (spot_at proc.body s.number) = subst (SpotCalls plain n s.number) (sym st.again) (refl, calls) in
    let waits : Waits plain n waiting = subst (ProcCalls plain n s.number) (sym e) spot in
    stack_enters plain callee below top waiting (new_frame n p args) refl (record { proc = proc; there = e; place = omega arith }) (new_is_placed plain n p args (called_proc plain f n p q)) waits h
call_keeps plain callee below top proc store chosen names locals results s f es rs args e st c h Missing q = h

if_place : (b : Bool) (x y m : ℕ) → x ≤ m → y ≤ m → (if b then x else y) ≤ m
if_place true x y m h k = h
if_place false x y m h k = k

-- a statement
layer_keeps : (plain : Plain) (callee : ℕ) (below : List Activation) (top : Activation) (proc : Proc) (store : Store) (chosen : List Value) (s : Spot) (d : Stmt-F Stmt) →
    slice_get plain.program.procs top.procedure ≡ Some proc → Stands proc.body s → out-Stmt s.stmt ≡ d → s.number + size_step (map-Stmt Stmt ℕ size_of d) ≤ sizes_of proc.body → IsStack plain callee below top →
    Kept plain callee (Inside below top) (done_by plain store chosen (statement_doing plain proc top.locals s.number s.next d))
layer_keeps plain callee below top proc store chosen s (Assign x e) t st q l h = stack_goes plain callee below top _ s.next proc t st.next h
layer_keeps plain callee below top proc store chosen s (Assert e) t st q l h = by_truth (is_true_in plain proc top.locals e)
  where
    by_truth : (b : Bool) → Kept plain callee (Inside below top) (done_by plain store chosen (if b then does.Goes top.locals s.next else does.Fails))
    by_truth true = stack_goes plain callee below top top.locals s.next proc t st.next h
    by_truth false = h
layer_keeps plain callee below top proc store chosen s (If e a b) t st q l h =
    let n = st.next in
    let first = start_below a (s.number + 1) s.next (sizes_of proc.body) (omega arith) n in
    let second = start_below b (s.number + 1 + sizes_of a) s.next (sizes_of proc.body) (omega arith) n in
    stack_goes plain callee below top _ _ proc t (if_place _ _ _ _ first second) h
layer_keeps plain callee below top proc store chosen s (While e a) t st q l h =
    stack_goes plain callee below top _ _ proc t (if_place _ _ _ _ (start_below a (s.number + 1) s.number (sizes_of proc.body) (omega arith) (omega arith)) st.next) h
layer_keeps plain callee below top proc store chosen s (YieldLoop e i a) t st q l h =
    stack_goes plain callee below top _ _ proc t (if_place _ _ _ _ (start_below a (s.number + 1) s.number (sizes_of proc.body) (omega arith) (omega arith)) st.next) h
layer_keeps plain callee below top proc store chosen s (RankLoop e r i a) t st q l h =
    stack_goes plain callee below top _ _ proc t (if_place _ _ _ _ (start_below a (s.number + 1) s.number (sizes_of proc.body) (omega arith) (omega arith)) st.next) h
layer_keeps plain callee below top proc store chosen s (Call f es rs) t st q l h =
    call_keeps plain callee below top proc store chosen (names_in_proc proc) top.locals rs s f es rs (values_of (frame_values plain.program.globals proc top.locals) es) t st q h (called plain f) refl
layer_keeps plain callee below top proc store chosen s (Spawn f es) t st q l h = stack_goes plain callee below top top.locals s.next proc t st.next h
layer_keeps plain callee below top proc store chosen s (Yield e) t st q l h = h
layer_keeps plain callee below top proc store chosen s Commit t st q l h = h
layer_keeps plain callee below top proc store chosen s (Intro x e) t st q l h = h

-- the end of the topmost frame
leaves_keeps : (plain : Plain) (callee : ℕ) (below : List Activation) (top : Activation) (outs : List Value) (o : Option Activation) → caller_of below ≡ o → IsStack plain callee below top → Kept plain callee (Inside below top) (Leaves (option_map (returned plain outs) o))
leaves_keeps plain callee below top outs None e h = tt
leaves_keeps plain callee below top outs (Some f) e h =
    let front = take (length below - 1) below in
    let q = split_last below f e in
    let k : IsStack plain callee (front ++ f ∷ []) top = subst (λ (fs : List Activation). IsStack plain callee fs top) (sym q) h in
    let r = returned_is_placed plain outs f (last_placed plain front f k.placed) in
    stack_leaves plain callee front f top (returned plain outs f) r.1 r.0 k

-- a frame
spot_keeps : (plain : Plain) (callee : ℕ) (below : List Activation) (top : Activation) (proc : Proc) (store : Store) (chosen : List Value) → slice_get plain.program.procs top.procedure ≡ Some proc → IsStack plain callee below top → (o : Option Spot) → spot_at proc.body top.place ≡ o →
    Kept plain callee (Inside below top) (done_by plain store chosen (spot_doing plain (caller_of below) top proc o))
spot_keeps plain callee below top proc store chosen t h None e = leaves_keeps plain callee below top (outs_in proc top.locals) (caller_of below) refl h
spot_keeps plain callee below top proc store chosen t h (Some s) e =
    let st = spot_stands proc.body top.place s e in
    let inside = st.inside in
    let size = size_is s.stmt in
    layer_keeps plain callee below top proc store chosen s (out-Stmt s.stmt) t st refl (omega arith) h

proc_keeps : (plain : Plain) (callee : ℕ) (below : List Activation) (top : Activation) (store : Store) (chosen : List Value) → IsStack plain callee below top → (o : Option Proc) → slice_get plain.program.procs top.procedure ≡ o →
    Kept plain callee (Inside below top) (done_by plain store chosen (proc_doing plain (caller_of below) top o))
proc_keeps plain callee below top store chosen h None e = h
proc_keeps plain callee below top store chosen h (Some proc) e = spot_keeps plain callee below top proc store chosen e h (spot_at proc.body top.place) refl

-- a thread
state_keeps : (plain : Plain) (store : Store) (chosen : List Value) (thread : Running) (state : State) → StateIsStacked plain thread.callee state → Kept plain thread.callee state (done_by plain store chosen (state_doing plain thread state))
state_keeps plain store chosen thread Before h = first_keeps plain thread.callee store chosen thread.args (meaning_of plain thread.callee) refl
state_keeps plain store chosen thread (Inside below top) h = proc_keeps plain thread.callee below top store chosen h (slice_get plain.program.procs top.procedure) refl
state_keeps plain store chosen thread After h = tt

-- ---- the configuration

all_get : (plain : Plain) (threads : List Running) (i : ℕ) (thread : Running) → slice_get threads i ≡ Some thread → All (IsStacked plain) threads → IsStacked plain thread
all_get plain [] i thread e a = absurd (cc)
all_get plain (x ∷ xs) zero thread e a = let q : x ≡ thread = cc in subst (IsStacked plain) q (All-head (IsStacked plain) x xs a)
all_get plain (x ∷ xs) (suc i) thread e a = all_get plain xs i thread e (All-tail (IsStacked plain) x xs a)

-- what a spawn makes has its call before it
abbrev SpawnsBefore : Change → Type 0
SpawnsBefore (Spawns thread place) = thread.state ≡ Before
SpawnsBefore (Stays a) = Unit {0}
SpawnsBefore (Goes locals place) = Unit {0}
SpawnsBefore (Acts store locals place) = Unit {0}
SpawnsBefore (Enters frame place) = Unit {0}
SpawnsBefore (Leaves frame) = Unit {0}

with_keeps : (plain : Plain) (config : Config) (t : ℕ) (thread : Running) (change : Change) → All (IsStacked plain) config.threads → Kept plain thread.callee thread.state change → SpawnsBefore change → All (IsStacked plain) (step_with config t thread change).1.threads
with_keeps plain config t thread (Stays a) h k b = h
with_keeps plain config t thread (Goes locals place) h k b = All-set (IsStacked plain) config.threads t (thread_after thread (Goes locals place)) k h
with_keeps plain config t thread (Acts store locals place) h k b = All-set (IsStacked plain) config.threads t (thread_after thread (Acts store locals place)) k h
with_keeps plain config t thread (Enters frame place) h k b = All-set (IsStacked plain) config.threads t (thread_after thread (Enters frame place)) k h
with_keeps plain config t thread (Leaves frame) h k b = All-set (IsStacked plain) config.threads t (thread_after thread (Leaves frame)) k h
with_keeps plain config t thread (Spawns other place) h k b =
    All-push (IsStacked plain) (slice_set config.threads t (thread_after thread (Spawns other place))) other (All-set (IsStacked plain) config.threads t (thread_after thread (Spawns other place)) k h) (subst (StateIsStacked plain other.callee) (sym b) tt)

action_spawns : (plain : Plain) (store : Store) (chosen : List Value) (names : List Name) (locals : List Value) (results : List Name) (next : ℕ) (action : Action) (args : List Value) → SpawnsBefore (action_change plain store chosen names locals results next action args)
action_spawns plain store chosen names locals results next action args =
    by_gate (gate_holds plain.program.globals store action args) (choices_fit action chosen) (fired plain.program.globals store action args chosen)
  where
    by_gate : (a b : Bool) (f : Fired) → SpawnsBefore (if a then (if b then acted names locals results next f else Stays answer.BadChoices) else Stays answer.Failing)
    by_gate false b f = tt
    by_gate true false f = tt
    by_gate true true fire.GateFalse = tt
    by_gate true true fire.Blocked = tt
    by_gate true true (fire.Moved s outs) = tt

call_spawns : (plain : Plain) (store : Store) (chosen : List Value) (names : List Name) (locals : List Value) (results : List Name) (at next : ℕ) (m : Meaning) (args : List Value) → SpawnsBefore (done_by plain store chosen (call_doing names locals results at next m args))
call_spawns plain store chosen names locals results at next (Does action) args = action_spawns plain store chosen names locals results next action args
call_spawns plain store chosen names locals results at next (Runs n p) args = tt
call_spawns plain store chosen names locals results at next Missing args = tt

layer_spawns : (plain : Plain) (store : Store) (chosen : List Value) (proc : Proc) (locals : List Value) (at next : ℕ) (d : Stmt-F Stmt) → SpawnsBefore (done_by plain store chosen (statement_doing plain proc locals at next d))
layer_spawns plain store chosen proc locals at next (Assign x e) = tt
layer_spawns plain store chosen proc locals at next (Assert e) = by_truth (is_true_in plain proc locals e)
  where
    by_truth : (b : Bool) → SpawnsBefore (done_by plain store chosen (if b then does.Goes locals next else does.Fails))
    by_truth true = tt
    by_truth false = tt
layer_spawns plain store chosen proc locals at next (If e a b) = tt
layer_spawns plain store chosen proc locals at next (While e a) = tt
layer_spawns plain store chosen proc locals at next (YieldLoop e i a) = tt
layer_spawns plain store chosen proc locals at next (RankLoop e r i a) = tt
layer_spawns plain store chosen proc locals at next (Call f es rs) = call_spawns plain store chosen (names_in_proc proc) locals rs at next (called plain f) (values_of (frame_values plain.program.globals proc locals) es)
layer_spawns plain store chosen proc locals at next (Spawn f es) = refl
layer_spawns plain store chosen proc locals at next (Yield e) = tt
layer_spawns plain store chosen proc locals at next Commit = tt
layer_spawns plain store chosen proc locals at next (Intro x e) = tt

spot_spawns : (plain : Plain) (store : Store) (chosen : List Value) (caller : Option Activation) (top : Activation) (proc : Proc) (o : Option Spot) → SpawnsBefore (done_by plain store chosen (spot_doing plain caller top proc o))
spot_spawns plain store chosen caller top proc None = tt
spot_spawns plain store chosen caller top proc (Some s) = layer_spawns plain store chosen proc top.locals s.number s.next (out-Stmt s.stmt)

state_spawns : (plain : Plain) (store : Store) (chosen : List Value) (thread : Running) (state : State) → SpawnsBefore (done_by plain store chosen (state_doing plain thread state))
state_spawns plain store chosen thread Before = call_spawns plain store chosen [] [] [] 0 0 (meaning_of plain thread.callee) thread.args
state_spawns plain store chosen thread (Inside below top) = by_proc (slice_get plain.program.procs top.procedure)
  where
    by_proc : (o : Option Proc) → SpawnsBefore (done_by plain store chosen (proc_doing plain (caller_of below) top o))
    by_proc None = tt
    by_proc (Some proc) = spot_spawns plain store chosen (caller_of below) top proc (spot_at proc.body top.place)
state_spawns plain store chosen thread After = tt

in_keeps : (plain : Plain) (config : Config) (move : Move) → All (IsStacked plain) config.threads → (o : Option Running) → slice_get config.threads move.thread ≡ o → All (IsStacked plain) (step_in plain config move o).1.threads
in_keeps plain config move h None e = h
in_keeps plain config move h (Some thread) e =
    with_keeps plain config move.thread thread (change_of plain config.store move.choices thread) h (state_keeps plain config.store move.choices thread thread.state (all_get plain config.threads move.thread thread e h)) (state_spawns plain config.store move.choices thread thread.state)

pub step_keeps_stacks : StepKeepsStacks
step_keeps_stacks plain config move h = in_keeps plain config move h (slice_get config.threads move.thread) refl

pub run_keeps_stacks : RunKeepsStacks
run_keeps_stacks plain [] from to r h = subst (λ (c : Config). All (IsStacked plain) c.threads) r h
run_keeps_stacks plain (m ∷ ms) from to r h =
    let k : All (IsStacked plain) r.0.threads = subst (λ (s : Stepped × Config). All (IsStacked plain) s.1.threads) r.1 (step_keeps_stacks plain from m h) in
    run_keeps_stacks plain ms r.0 to r.2 k

-- the last of the frames below waits for the one above
pub last_waits : (plain : Plain) (below : List Activation) (top frame : Activation) → caller_of below ≡ Some frame → AreWaiting plain below top → Waits plain top.procedure frame
last_waits plain [] top frame e w = absurd (none-some frame e)
last_waits plain (g ∷ []) top frame e w = subst (Waits plain top.procedure) (same_Some g frame e) w.0
last_waits plain (g ∷ (f ∷ fs)) top frame e w =
    let n : length (g ∷ (f ∷ fs)) - 1 ≡ suc (length (f ∷ fs) - 1) = omega arith in
    last_waits plain (f ∷ fs) top frame (ap (slice_get (g ∷ (f ∷ fs))) (sym n) ∙ e) w.1
