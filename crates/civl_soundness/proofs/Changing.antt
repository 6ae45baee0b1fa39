-- What a step of a thread does has its sorts.
use Rattle.std.proofs.Common.{◌≡◌, ℕ, ◌-◌, Bool, true, false, not, List, [], ◌∷◌, ◌++◌, map, length, drop, refl, sym, ap, ◌∙◌, subst, Option, None, Some, slice_get, slice_set}
use Rattle.std.specs.Prelude.{option_map, All, is_none, nat_eq, IsTrue, if◌then◌else◌}
use Rattle.std.specs.List.{list_any}
use Rattle.std.proofs.lemmas.Bool.{false≢true, not-false, or_parts, eqb-true, eq-eqb, or_right}
use Rattle.std.proofs.lemmas.List.{length-map}
use Rattle.std.proofs.lemmas.Map.Keys.{any_passes_from_place}
use Rattle.civl_bits.specs.Value.{IsValue}
use Rattle.civl_bits.specs.declared.value.Value.{Value}
use Rattle.civl_tree.specs.declared.name.Name.{Name}
use Rattle.civl_tree.specs.declared.expr.Expr.{Expr}
use Rattle.civl_tree.specs.declared.expr.Sort.{Sort}
use Rattle.civl_tree.specs.declared.action.Action.{Action}
use Rattle.civl_tree.specs.declared.action.Param.{Param}
use Rattle.civl_tree.specs.declared.program.Proc.{Proc}
use Rattle.civl_tree.specs.declared.program.Program.{Program}
use Rattle.civl_tree.specs.declared.program.Thread.{Thread}
use Rattle.civl_tree.specs.declared.stmt.Stmt.{Stmt, out-Stmt}
use Rattle.civl_tree.specs.declared.stmt.Stmt.TheOpen.{Stmt-F, Assign, Assert, If, While, YieldLoop, RankLoop, Call, Yield, Commit, Intro, Spawn}
use Rattle.civl_tree.specs.Numbering.{statements_of}
use Rattle.civl_tree.specs.rules.Names.{Signature, callee_signature, proc_named, proc_signature_of, names_in_proc}
use Rattle.civl_tree.specs.rules.Scopes.{Scope as Sorts, bind_proc, body_scope}
use Rattle.civl_tree.specs.rules.Uses.{Only, serves, param_sorts, taken_sorts, given_sorts, place_sort, argument_uses, form_uses, stmt_uses}
use Rattle.civl_tree.specs.rules.Sorted.{any_missorted, results_missorted, form_missorted, stmt_missorted}
use Rattle.civl_tree.specs.rules.Width.{any_width}
use Rattle.civl_tree.specs.rules.Index.{any_index}
use Rattle.civl_tree.specs.rules.Unknown.{any_unknown, place_unknown, form_unknown, stmt_unknown}
use Rattle.civl_tree.specs.rules.Arity.{call_arity, thread_arity, form_arity, stmt_arity}
use Rattle.civl_tree.specs.rules.Typing.{typing_rules, unknown_rule, width_rule, sort_rule, index_rule, arity_rule}
use Rattle.civl_tree.proofs.Kept.{statement_kept, unknown_among, width_among, sort_among, index_among, arity_among}
use Rattle.civl_tree.proofs.Options.{some_of}
use Rattle.civl_firing.specs.values.Values.{is_true, HasSort, HaveSorts}
use Rattle.civl_firing.specs.declared.store.Store.{Store}
use Rattle.civl_meaning.specs.declared.config.Plain.{Plain}
use Rattle.civl_meaning.specs.declared.config.Activation.{Activation}
use Rattle.civl_meaning.specs.declared.config.State.{State}
use Rattle.civl_meaning.specs.declared.config.State.TheVariants.{Before, Inside, After}
use Rattle.civl_meaning.specs.declared.config.Running.{Running}
use Rattle.civl_meaning.specs.declared.config.Stepped.TheVariants as answer
use Rattle.civl_firing.specs.declared.firing.Fired.{Fired}
use Rattle.civl_firing.specs.declared.firing.Fired.TheVariants as fire
use Rattle.civl_meaning.specs.declared.config.Change.TheVariants.{Stays, Goes, Leaves}
use Rattle.civl_firing.specs.declared.scope.Scope.{Scope}
use Rattle.civl_firing.specs.Truth.{place_of}
use Rattle.civl_firing.specs.Eval.{value_of, values_of}
use Rattle.civl_firing.specs.Stores.{IsStore}
use Rattle.civl_firing.specs.Sorts.{IsSorted}
use Rattle.civl_firing.specs.Scope.{frame_values}
use Rattle.civl_firing.specs.Fired.{gate_holds, choices_fit, fired}
use Rattle.civl_meaning.specs.Places.{Spot, spot_at}
use Rattle.civl_meaning.specs.Meaning.{Meaning, Does, Runs, Missing, called, meaning_of, proc_number}
use Rattle.civl_meaning.specs.Change.{with_results, new_frame, acted, action_change, done_by, call_doing, statement_doing, returned_layer, returned_at, returned_in, returned, outs_in, spot_doing, proc_doing, caller_of, state_doing, change_of}
use Rattle.civl_meaning.specs.Change as does
use Rattle.civl_meaning.specs.Config.{IsPlain, layer_spawns, spawns, begins_threads, frame_sorts, HasLocals, IsBodyOf, LayerCalls, SpotCalls, ProcCalls, Waits, AreWaiting, StateIsStacked, StateIsSorted, ThreadIsSorted, IsStacked}
use Rattle.civl_firing.proofs.Having.{first_sort, rest_sorts, args_have_sorts}
use Rattle.civl_firing.proofs.Serving.{served_only}
use Rattle.civl_meaning.proofs.Begun.{proc_is}
use Rattle.civl_meaning.proofs.Bindings.{sorts_of, proc_names, proc_sorts}
use Rattle.civl_meaning.proofs.Stacking.{last_waits}
use Rattle.civl_soundness.proofs.Sorted.{first_values, rest_values, set_fits}
use Rattle.civl_soundness.proofs.Scopes.{new_locals, frame_sorted}
use Rattle.civl_soundness.proofs.Firing.{first_fits, fired_is_sorted}
use Rattle.civl_soundness.proofs.Among.{Among, spot_is_among}
use Rattle.civl_soundness.proofs.Called.{Serves, number_serves, called_serves}
use Rattle.civl_soundness.proofs.Fitting.{all_at, LocalsFit, Fits}

-- ---- locals

in_frame : (proc : Proc) (locals : List Value) → HaveSorts locals (frame_sorts proc) → HaveSorts locals (sorts_of (bind_proc proc))
in_frame proc locals h = subst (HaveSorts locals) (sym (proc_sorts proc)) h

-- a local is set
local_set : (proc : Proc) (locals : List Value) (name : Name) (v : Value) → HaveSorts locals (frame_sorts proc) → ((s : Sort) → place_sort proc name ≡ Some s → HasSort v s) → HaveSorts (slice_set locals (place_of (names_in_proc proc) name) v) (frame_sorts proc)
local_set proc locals name v h f =
    let k = set_fits (bind_proc proc) locals name v (in_frame proc locals h) f in
    let n = subst (λ (ns : List Name). HaveSorts (slice_set locals (place_of ns name) v) (sorts_of (bind_proc proc))) (proc_names proc) k in
    subst (HaveSorts (slice_set locals (place_of (names_in_proc proc) name) v)) (proc_sorts proc) n

-- the results of a call are set
results_set : (proc : Proc) (results : List Name) (given : List Sort) (outs locals : List Value) → results_missorted proc results given ≡ false → HaveSorts outs given → HaveSorts locals (frame_sorts proc) → HaveSorts (with_results (names_in_proc proc) locals results outs) (frame_sorts proc)
results_set proc [] given outs locals m k h = h
results_set proc (r ∷ rs) given [] locals m k h = h
results_set proc (r ∷ rs) [] (v ∷ vs) locals m k h = absurd (false≢true k.are)
results_set proc (r ∷ rs) (t ∷ ts) (v ∷ vs) locals m k h =
    let p = or_parts (not (serves (place_sort proc r) (Only t))) (results_missorted proc rs ts) m in
    let here = served_only (place_sort proc r) t (not-false (serves (place_sort proc r) (Only t)) p.0) in
    let fits = λ (s : Sort) (e : place_sort proc r ≡ Some s). (let q : t ≡ s = (let c = sym here ∙ e in cc) in subst (HasSort v) q (first_sort v t vs ts k)) in
    results_set proc rs ts vs (slice_set locals (place_of (names_in_proc proc) r) v) p.1 (rest_sorts v t vs ts k) (local_set proc locals r v h fits)

-- the outputs among a frame's locals
outs_have : (proc : Proc) (locals : List Value) → HaveSorts locals (frame_sorts proc) → HaveSorts (outs_in proc locals) (param_sorts proc.outs)
outs_have proc locals h =
    let others = map (λ l. l.sort) proc.locals in
    first_values (λ (p : Param). p.sort) proc.outs others (drop (length proc.params) locals) (rest_values (λ (p : Param). p.sort) proc.params (param_sorts proc.outs ++ others) locals h)

-- ---- arguments

args_fit : (scope : Scope) (sorts : Sorts) → IsSorted scope sorts → (args : List Expr) (params : List Param) →
    any_missorted (argument_uses sorts args (param_sorts params)) ≡ false → any_width (argument_uses sorts args (param_sorts params)) ≡ false → any_index (argument_uses sorts args (param_sorts params)) ≡ false →
    nat_eq (length args) (length params) ≡ true → HaveSorts (values_of scope args) (param_sorts params)
args_fit scope sorts fit args params m w i n =
    args_have_sorts scope sorts fit args (param_sorts params) m w i (eqb-true (length args) (length params) n ∙ sym (length-map params (λ p. p.sort)))

call_args : (scope : Scope) (sorts : Sorts) → IsSorted scope sorts → (args : List Expr) (results : List Name) (o : Option Signature) (signature : Signature) → o ≡ Some signature →
    any_missorted (argument_uses sorts args (taken_sorts o)) ≡ false → any_width (argument_uses sorts args (taken_sorts o)) ≡ false → any_index (argument_uses sorts args (taken_sorts o)) ≡ false →
    call_arity args results o ≡ false → HaveSorts (values_of scope args) (param_sorts signature.params)
call_args scope sorts fit args results None signature e m w i n = absurd (cc)
call_args scope sorts fit args results (Some t) signature e m w i n =
    let q : t ≡ signature = cc in
    subst (λ (x : Signature). HaveSorts (values_of scope args) (param_sorts x.params)) q (args_fit scope sorts fit args t.params m w i (not-false _ (or_parts _ _ n).0))

spawn_args : (scope : Scope) (sorts : Sorts) → IsSorted scope sorts → (args : List Expr) (o : Option Proc) (proc : Proc) → o ≡ Some proc →
    any_missorted (argument_uses sorts args (taken_sorts (proc_signature_of o))) ≡ false → any_width (argument_uses sorts args (taken_sorts (proc_signature_of o))) ≡ false → any_index (argument_uses sorts args (taken_sorts (proc_signature_of o))) ≡ false →
    thread_arity args o ≡ false → HaveSorts (values_of scope args) (param_sorts proc.params)
spawn_args scope sorts fit args None proc e m w i n = absurd (cc)
spawn_args scope sorts fit args (Some t) proc e m w i n =
    let q : t ≡ proc = cc in
    subst (λ (x : Proc). HaveSorts (values_of scope args) (param_sorts x.params)) q (args_fit scope sorts fit args t.params m w i (not-false _ (or_parts _ _ n).0))

-- ---- statements

-- a statement that keeps the static rules
pub record Keeps (program : Program) (proc : Proc) (d : Stmt-F Stmt) : Type 0 where
  pub known : form_unknown program proc d ≡ false
  sorted : any_missorted (form_uses program proc d) ≡ false
  results : form_missorted program proc d ≡ false
  narrow : any_width (form_uses program proc d) ≡ false
  low : any_index (form_uses program proc d) ≡ false
  arity : form_arity program d ≡ false

module _ (plain : Plain) (ok : IsPlain plain) where
  abbrev program : Program
  program = plain.program

  pub statement_keeps : (i : ℕ) (proc : Proc) → slice_get program.procs i ≡ Some proc → (s : Stmt) → Among (statements_of proc.body) s → Keeps program proc (out-Stmt s)
  statement_keeps i proc at s a =
      let u = statement_kept typing_rules program ok.rules unknown_rule unknown_among (stmt_unknown program proc) i proc at refl a.0 s a.1 in
      let m = or_parts (any_missorted (form_uses program proc (out-Stmt s))) (form_missorted program proc (out-Stmt s)) (statement_kept typing_rules program ok.rules sort_rule sort_among (stmt_missorted program proc) i proc at refl a.0 s a.1) in
      record {
        known = (or_parts (form_unknown program proc (out-Stmt s)) (any_unknown (form_uses program proc (out-Stmt s))) u).0;
        sorted = m.0;
        results = m.1;
        narrow = statement_kept typing_rules program ok.rules width_rule width_among (λ stmt. any_width (stmt_uses program proc stmt)) i proc at refl a.0 s a.1;
        low = statement_kept typing_rules program ok.rules index_rule index_among (λ stmt. any_index (stmt_uses program proc stmt)) i proc at refl a.0 s a.1;
        arity = statement_kept typing_rules program ok.rules arity_rule arity_among (stmt_arity program) i proc at refl a.0 s a.1;
      }

  -- a spawn in a body begins threads
  spawn_begins : (i : ℕ) (proc : Proc) → slice_get program.procs i ≡ Some proc → (s : Stmt) → Among (statements_of proc.body) s → (number : ℕ) → IsTrue (layer_spawns program number (out-Stmt s)) → IsTrue (begins_threads program number)
  spawn_begins i proc at s a number h =
      let inside = any_passes_from_place (spawns program number) (statements_of proc.body) a.0 s a.1 h in
      or_right (list_any (λ (t : Thread). nat_eq (proc_number program t.callee) number) program.threads) _ (any_passes_from_place (λ (p : Proc). list_any (spawns program number) (statements_of p.body)) program.procs i proc at inside)

  -- ---- calls

  module _ (store : Store) (hs : IsStore program.globals store) (chosen : List Value) (hv : All IsValue chosen) where
    action_fits : (state : State) (names : List Name) (locals : List Value) (results : List Name) (next place : ℕ) (action : Action) (args : List Value) → slice_get program.actions place ≡ Some action → HaveSorts args (param_sorts action.params) →
        ((outs : List Value) → HaveSorts outs (param_sorts action.outs) → LocalsFit plain state (with_results names locals results outs)) → Fits plain state (action_change plain store chosen names locals results next action args)
    action_fits state names locals results next place action args at h g =
        by_gate (gate_holds program.globals store action args) (choices_fit action chosen) refl (fired program.globals store action args chosen) refl
      where
        by_gate : (a b : Bool) → choices_fit action chosen ≡ b → (f : Fired) → fired program.globals store action args chosen ≡ f → Fits plain state (if a then (if b then acted names locals results next f else Stays answer.BadChoices) else Stays answer.Failing)
        by_gate false b c f e = tt
        by_gate true false c f e = tt
        by_gate true true c fire.GateFalse e = tt
        by_gate true true c fire.Blocked e = tt
        by_gate true true c (fire.Moved after outs) e =
            let k = fired_is_sorted program action store after args chosen outs (record { rules = ok.rules; place = place; there = at; store_fits = hs; inputs_fit = h }) (record { fit = hv; are = c }) e in
            (k.0, g outs k.1)

    new_fits : (n : ℕ) (p : Proc) (args : List Value) → slice_get program.procs n ≡ Some p → HaveSorts args (param_sorts p.params) → HasLocals plain (new_frame n p args)
    new_fits n p args at h = record { proc = p; there = at; locals = new_locals program ok.rules n p at args h }

    -- a call of what takes and gives values of these sorts
    call_fits : (state : State) (names : List Name) (locals : List Value) (results : List Name) (number next : ℕ) (taken given : List Sort) (m : Meaning) (args : List Value) → Serves program taken given m → HaveSorts args taken →
        ((outs : List Value) → HaveSorts outs given → LocalsFit plain state (with_results names locals results outs)) → Fits plain state (done_by plain store chosen (call_doing names locals results number next m args))
    call_fits state names locals results number next taken given (Does action) args s h g =
        action_fits state names locals results next s.0 action args s.1 (subst (HaveSorts args) (sym s.2) h) (λ outs k. g outs (subst (HaveSorts outs) s.3 k))
    call_fits state names locals results number next taken given (Runs n p) args s h g = new_fits n p args s.0 (subst (HaveSorts args) (sym s.1) h)
    call_fits state names locals results number next taken given Missing args s h g = tt

    -- ---- a frame

    module _ (below : List Activation) (top : Activation) (proc : Proc) (at : slice_get program.procs top.procedure ≡ Some proc) (h : HaveSorts top.locals (frame_sorts proc)) where
      abbrev scope : Scope
      scope = frame_values program.globals proc top.locals

      fit : IsSorted scope (body_scope program proc)
      fit = frame_sorted program ok.rules top.procedure proc at top.locals h

      stays : LocalsFit plain (Inside below top) top.locals
      stays = (proc, at, h)

      call_in_frame : (f : Name) (es : List Expr) (rs : List Name) (number next : ℕ) → Keeps program proc (Call f es rs) →
          Fits plain (Inside below top) (done_by plain store chosen (call_doing (names_in_proc proc) top.locals rs number next (called plain f) (values_of scope es)))
      call_in_frame f es rs number next k =
          let found = some_of (callee_signature program f) (or_parts (is_none (callee_signature program f)) (list_any (place_unknown proc) rs) k.known).0 in
          let signature = found.0 in
          let args = call_args scope (body_scope program proc) fit es rs (callee_signature program f) signature found.1 k.sorted k.narrow k.low k.arity in
          let results = subst (λ (o : Option Signature). results_missorted proc rs (given_sorts o) ≡ false) found.1 k.results in
          call_fits (Inside below top) (names_in_proc proc) top.locals rs number next (param_sorts signature.params) (param_sorts signature.outs) (called plain f) (values_of scope es) (called_serves plain ok f signature found.1) args
          (λ outs g. (proc, at, results_set proc rs (param_sorts signature.outs) outs top.locals results g h))

      spawn_in_frame : (f : Name) (es : List Expr) → Keeps program proc (Spawn f es) → IsTrue (begins_threads program (proc_number program f)) → ThreadIsSorted plain (record { callee = proc_number program f; args = values_of scope es; state = Before })
      spawn_in_frame f es k b =
          let found = some_of (proc_named program f) k.known in
          record {
            proc = found.0;
            there = proc_is program f ∙ found.1;
            args = spawn_args scope (body_scope program proc) fit es (proc_named program f) found.0 found.1 k.sorted k.narrow k.low k.arity;
            begins = b;
          }

      layer_fits : (number next : ℕ) (d : Stmt-F Stmt) → Keeps program proc d → ((n : ℕ) → IsTrue (layer_spawns program n d) → IsTrue (begins_threads program n)) → Fits plain (Inside below top) (done_by plain store chosen (statement_doing plain proc top.locals number next d))
      layer_fits number next (Assign x e) k b =
          (proc, at, local_set proc top.locals x (value_of scope e) h (λ s q. first_fits scope (body_scope program proc) fit e (place_sort proc x) [] k.sorted k.narrow k.low s q))
      layer_fits number next (Assert e) k b = by_truth (is_true (value_of scope e))
        where
          by_truth : (t : Bool) → Fits plain (Inside below top) (done_by plain store chosen (if t then does.Goes top.locals next else does.Fails))
          by_truth true = stays
          by_truth false = tt
      layer_fits number next (If e xs ys) k b = stays
      layer_fits number next (While e xs) k b = stays
      layer_fits number next (YieldLoop e i xs) k b = stays
      layer_fits number next (RankLoop e r i xs) k b = stays
      layer_fits number next (Call f es rs) k b = call_in_frame f es rs number next k
      layer_fits number next (Spawn f es) k b = spawn_in_frame f es k (b (proc_number program f) (eq-eqb (proc_number program f) (proc_number program f) refl))
      layer_fits number next (Yield e) k b = tt
      layer_fits number next Commit k b = tt
      layer_fits number next (Intro x e) k b = tt

  -- ---- the end of a frame

  -- what waits for a body takes its outputs
  body_gives : (n : ℕ) (proc : Proc) → slice_get program.procs n ≡ Some proc → (taken given : List Sort) (m : Meaning) → Serves program taken given m → IsBodyOf n m → param_sorts proc.outs ≡ given
  body_gives n proc at taken given (Runs k p) s w =
      let e : Some proc ≡ Some p = sym at ∙ ap (slice_get program.procs) (sym w) ∙ s.0 in
      let q : proc ≡ p = cc in
      ap (λ (x : Proc). param_sorts x.outs) q ∙ s.2
  body_gives n proc at taken given (Does action) s w = absurd w
  body_gives n proc at taken given Missing s w = absurd w

  layer_returned : (n : ℕ) (proc : Proc) → slice_get program.procs n ≡ Some proc → (outs : List Value) → HaveSorts outs (param_sorts proc.outs) → (caller : Proc) (locals : List Value) → HaveSorts locals (frame_sorts caller) → (d : Stmt-F Stmt) → Keeps program caller d → LayerCalls plain n d →
      HaveSorts (returned_layer caller locals outs d) (frame_sorts caller)
  layer_returned n proc at outs ho caller locals h (Call f es rs) k w =
      let found = some_of (callee_signature program f) (or_parts (is_none (callee_signature program f)) (list_any (place_unknown caller) rs) k.known).0 in
      let signature = found.0 in
      let results = subst (λ (o : Option Signature). results_missorted caller rs (given_sorts o) ≡ false) found.1 k.results in
      let same = body_gives n proc at (param_sorts signature.params) (param_sorts signature.outs) (called plain f) (called_serves plain ok f signature found.1) w in
      results_set caller rs (param_sorts signature.outs) outs locals results (subst (HaveSorts outs) same ho) h
  layer_returned n proc at outs ho caller locals h _ k w = h

  -- a frame that waits in the call of this body, with its outputs
  returned_has : (n : ℕ) (proc : Proc) → slice_get program.procs n ≡ Some proc → (outs : List Value) → HaveSorts outs (param_sorts proc.outs) → (frame : Activation) → HasLocals plain frame → Waits plain n frame → HasLocals plain (returned plain outs frame)
  returned_has n proc at outs ho frame h w =
      subst (λ (o : Option Proc). HasLocals plain (returned_in frame outs o)) (sym h.there) (by_spot (spot_at h.proc.body frame.place) refl (subst (ProcCalls plain n frame.place) h.there w))
    where
      by_spot : (o : Option Spot) → spot_at h.proc.body frame.place ≡ o → SpotCalls plain n frame.place o → HasLocals plain (returned_at frame outs h.proc o)
      by_spot None e c = h
      by_spot (Some s) e c =
          let keeps = statement_keeps frame.procedure h.proc h.there s.stmt (spot_is_among h.proc.body frame.place s e) in
          record { proc = h.proc; there = h.there; locals = layer_returned n proc at outs ho h.proc frame.locals h.locals (out-Stmt s.stmt) keeps c.1 }

  leaves_fit : (below : List Activation) (top : Activation) (proc : Proc) → slice_get program.procs top.procedure ≡ Some proc → HaveSorts top.locals (frame_sorts proc) → All (HasLocals plain) below → AreWaiting plain below top → (o : Option Activation) → caller_of below ≡ o →
      Fits plain (Inside below top) (Leaves (option_map (returned plain (outs_in proc top.locals)) o))
  leaves_fit below top proc at h all w None e = tt
  leaves_fit below top proc at h all w (Some frame) e =
      returned_has top.procedure proc at (outs_in proc top.locals) (outs_have proc top.locals h) frame (all_at (HasLocals plain) below (length below - 1) frame e all) (last_waits plain below top frame e w)

  -- ---- a thread

  frame_fits : (store : Store) → IsStore program.globals store → (chosen : List Value) → All IsValue chosen → (below : List Activation) (top : Activation) → All (HasLocals plain) below → HasLocals plain top → AreWaiting plain below top →
      Fits plain (Inside below top) (done_by plain store chosen (proc_doing plain (caller_of below) top (slice_get program.procs top.procedure)))
  frame_fits store hs chosen hv below top all h w =
      subst (λ (o : Option Proc). Fits plain (Inside below top) (done_by plain store chosen (proc_doing plain (caller_of below) top o))) (sym h.there) (by_spot (spot_at h.proc.body top.place) refl)
    where
      by_spot : (o : Option Spot) → spot_at h.proc.body top.place ≡ o → Fits plain (Inside below top) (done_by plain store chosen (spot_doing plain (caller_of below) top h.proc o))
      by_spot None e = leaves_fit below top h.proc h.there h.locals all w (caller_of below) refl
      by_spot (Some s) e =
          let a = spot_is_among h.proc.body top.place s e in
          layer_fits store hs chosen hv below top h.proc h.there h.locals s.number s.next (out-Stmt s.stmt) (statement_keeps top.procedure h.proc h.there s.stmt a) (spawn_begins top.procedure h.proc h.there s.stmt a)

  pub change_fits : (store : Store) → IsStore program.globals store → (chosen : List Value) → All IsValue chosen → (thread : Running) → ThreadIsSorted plain thread → IsStacked plain thread → Fits plain thread.state (change_of plain store chosen thread)
  change_fits store hs chosen hv thread h k = by_state thread.state h k
    where
      by_state : (state : State) → StateIsSorted plain thread state → StateIsStacked plain thread.callee state → Fits plain state (done_by plain store chosen (state_doing plain thread state))
      by_state Before b s =
          call_fits store hs chosen hv Before [] [] [] 0 0 (param_sorts b.proc.params) (param_sorts b.proc.outs) (meaning_of plain thread.callee) thread.args (number_serves plain ok thread.callee b.proc b.there) b.args (λ outs g. tt)
      by_state (Inside below top) b s = frame_fits store hs chosen hv below top b.1 b.2 s.waiting
      by_state After b s = tt
