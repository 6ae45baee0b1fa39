-- What the statements of a procedure of a layer do in the program of the layer below: they run no bodies and spawn nothing.
use Rattle.std.proofs.Common.{◌≡◌, ℕ, suc, ◌+◌, ◌-◌, Bool, true, false, List, [], ◌∷◌, length, Option, None, Some, slice_get, refl, sym, ap, ◌∙◌, subst, arith}
use Rattle.std.specs.Prelude.{if◌then◌else◌}
use Rattle.std.proofs.lemmas.Bool.{false≢true}
use Rattle.std.proofs.lemmas.Option.{same_Some, none-some}
use Rattle.civl_bits.specs.declared.value.Value.{Value}
use Rattle.civl_firing.specs.values.Values.{is_true}
use Rattle.civl_tree.specs.declared.name.Name.{Name}
use Rattle.civl_tree.specs.declared.program.Proc.{Proc}
use Rattle.civl_tree.specs.declared.program.Program.{Program}
use Rattle.civl_tree.specs.declared.stmt.Stmt.{Stmt, out-Stmt}
use Rattle.civl_tree.specs.declared.stmt.Stmt.TheOpen as stmt
use Rattle.civl_tree.specs.Numbering.{statement_at}
use Rattle.civl_tree.specs.rules.Names.{names_in_proc}
use Rattle.civl_firing.specs.declared.store.Store.{Store}
use Rattle.civl_firing.specs.declared.firing.Fired.{Fired}
use Rattle.civl_firing.specs.declared.firing.Fired.TheVariants as fire
use Rattle.civl_firing.specs.Eval.{value_of, values_of}
use Rattle.civl_firing.specs.Scope.{frame_values}
use Rattle.civl_firing.specs.Fired.{gate_holds, choices_fit, fired}
use Rattle.civl_meaning.specs.declared.config.Plain.{Plain}
use Rattle.civl_meaning.specs.declared.config.Activation.{Activation}
use Rattle.civl_meaning.specs.declared.config.Stepped.TheVariants as answer
use Rattle.civl_meaning.specs.declared.config.Change.{Change}
use Rattle.civl_meaning.specs.declared.config.Change.TheVariants as change
use Rattle.civl_meaning.specs.Places.{Spot, is_skipped, skip_layer, spot_at}
use Rattle.civl_meaning.specs.Rest.{Rest, place_in, head_of}
use Rattle.civl_meaning.specs.Meaning.{Meaning, Does, Runs, Missing, called}
use Rattle.civl_meaning.specs.Layers.{program_at}
use Rattle.civl_meaning.specs.Change.{acted, done_by, statement_doing, call_doing, returned, returned_in, returned_at}
use Rattle.civl_meaning.specs.Change as does
use Rattle.civl_meaning.specs.Config.{IsBodyOf, LayerCalls, SpotCalls, ProcCalls, Waits, AreWaiting}
use Rattle.civl_meaning.proofs.Safe.{bad_choices}
use Rattle.civl_layers.specs.Layered.{IsLayered}
use Rattle.civl_conditions.specs.paths.Seen.{IsProcOf}
use Rattle.civl_conditions.specs.paths.Runs.{layer_yields, layer_leads, yield_before}
use Rattle.civl_conditions.specs.Steps.{has_layer}
use Rattle.civl_conditions.proofs.Layered.{has_its_layer}
use Rattle.civl_reduction.specs.permissions.Apart.{SpawnsStandInRoots}
use Rattle.civl_reduction.specs.blocks.Blocks.{layer_at_yield, at_yield, framed_in}
use Rattle.civl_reduction.proofs.blocks.Standing.Threads.{calls_run_no_bodies}
use Rattle.civl_reduction.proofs.open_blocks.Open.Going.{spot_stands}
use Rattle.civl_reduction.proofs.staged.Pausing.Holding.{Skips, stays, passes}

-- ---- what statements do

-- a step that stays in its frame, or isn't made
abbrev pub IsOwn : Change → Type 0
IsOwn (change.Goes locals place) = Unit {0}
IsOwn (change.Acts store locals place) = Unit {0}
IsOwn (change.Stays a) = a ≡ answer.Moved → ⊥
IsOwn (change.Enters frame place) = ⊥
IsOwn (change.Leaves frame) = ⊥
IsOwn (change.Spawns thread place) = ⊥

failing_not : answer.Failing ≡ answer.Moved → ⊥
failing_not e = cc

blocked_not : answer.Blocked ≡ answer.Moved → ⊥
blocked_not e = cc

module _ (program : Program) (layer : ℕ) (layered : IsLayered program) (roots : SpawnsStandInRoots program) (number : ℕ) (proc : Proc) (of : IsProcOf program number (layer + 1) proc) where
  abbrev plain : Plain
  plain = program_at program layer

  by_assert : (g : Store) (values : List Value) (b : Bool) (ls : List Value) (next : ℕ) → IsOwn (done_by (program_at program layer) g values (if b then does.Goes ls next else does.Fails))
  by_assert g values true ls next = tt
  by_assert g values false ls next = failing_not

  by_action : (b c : Bool) (x : Fired) (ns : List Name) (ls : List Value) (rs : List Name) (next : ℕ) → IsOwn (if b then (if c then acted ns ls rs next x else change.Stays answer.BadChoices) else change.Stays answer.Failing)
  by_action true true fire.GateFalse ns ls rs next = failing_not
  by_action true true fire.Blocked ns ls rs next = blocked_not
  by_action true true (fire.Moved g outs) ns ls rs next = tt
  by_action true false x ns ls rs next = bad_choices
  by_action false c x ns ls rs next = failing_not

  by_call : (g : Store) (values : List Value) (ns : List Name) (ls : List Value) (rs : List Name) (at next : ℕ) (f : Name) (vs : List Value) → ((n : ℕ) (body : Proc) → called (program_at program layer) f ≡ Runs n body → ⊥) → (m : Meaning) → called (program_at program layer) f ≡ m
      → IsOwn (done_by (program_at program layer) g values (call_doing ns ls rs at next m vs))
  by_call g values ns ls rs at next f vs none (Does a) e = by_action (gate_holds program.globals g a vs) (choices_fit a values) (fired program.globals g a vs values) ns ls rs next
  by_call g values ns ls rs at next f vs none (Runs n body) e = none n body e
  by_call g values ns ls rs at next f vs none Missing e = blocked_not

  own_form : (g : Store) (values ls : List Value) (at next : ℕ) (s : Stmt) → statement_at proc.body at ≡ Some s → (d : stmt.Stmt-F Stmt) → out-Stmt s ≡ d → IsOwn (done_by (program_at program layer) g values (statement_doing (program_at program layer) proc ls at next d))
  own_form g values ls at next s here (stmt.Assign x v) e = tt
  own_form g values ls at next s here (stmt.Assert v) e = by_assert g values (is_true (value_of (frame_values program.globals proc ls) v)) ls next
  own_form g values ls at next s here (stmt.If v a b) e = tt
  own_form g values ls at next s here (stmt.While v a) e = tt
  own_form g values ls at next s here (stmt.YieldLoop v i a) e = tt
  own_form g values ls at next s here (stmt.RankLoop v w i a) e = tt
  own_form g values ls at next s here (stmt.Call f es rs) e =
      by_call g values (names_in_proc proc) ls rs at next f (values_of (frame_values program.globals proc ls) es)
      (calls_run_no_bodies program layer number at proc s f es rs layered of.there (has_its_layer program number (layer + 1) proc of) here e) (called (program_at program layer) f) refl
  own_form g values ls at next s here (stmt.Spawn f es) e = none-some of.refines (sym (roots number proc of.there at s here f es e) ∙ of.refined)
  own_form g values ls at next s here (stmt.Yield i) e = blocked_not
  own_form g values ls at next s here stmt.Commit e = blocked_not
  own_form g values ls at next s here (stmt.Intro x v) e = blocked_not

  pub own_step : (g : Store) (values ls : List Value) (place : ℕ) (s : Spot) → spot_at proc.body place ≡ Some s → IsOwn (done_by (program_at program layer) g values (statement_doing (program_at program layer) proc ls s.number s.next (out-Stmt s.stmt)))
  own_step g values ls place s e = own_form g values ls s.number s.next s.stmt (spot_stands proc.body place s e) (out-Stmt s.stmt) refl

-- ---- frames that wait

pub last_waits : (plain : Plain) (below : List Activation) (top f : Activation) → AreWaiting plain below top → slice_get below (length below - 1) ≡ Some f → Waits plain top.procedure f
last_waits plain [] top f w e = absurd (none-some f e)
last_waits plain (g ∷ []) top f w e = subst (Waits plain top.procedure) (same_Some g f e) w.0
last_waits plain (g ∷ h ∷ fs) top f w e = last_waits plain (h ∷ fs) top f w.1 (sym (ap (slice_get (g ∷ h ∷ fs)) one) ∙ e)
  where
    one : length (g ∷ h ∷ fs) - 1 ≡ suc (length (h ∷ fs) - 1)
    one = omega arith

module _ (program : Program) (layer : ℕ) (layered : IsLayered program) where
  -- a frame that waits in a call that runs a body is of no procedure of the layer above
  waits_outside : (n : ℕ) (f : Activation) → Waits (program_at program layer) n f → (proc : Proc) → slice_get program.procs f.procedure ≡ Some proc → has_layer (layer + 1) proc ≡ true → ⊥
  waits_outside n f w proc there l = by_spot (spot_at proc.body f.place) refl (subst (ProcCalls (program_at program layer) n f.place) there w)
    where
      by_meaning : (m : Meaning) → IsBodyOf n m → (number : ℕ) × (p : Proc) × (m ≡ Runs number p)
      by_meaning (Does a) b = absurd b
      by_meaning (Runs number p) b = (number, p, refl)
      by_meaning Missing b = absurd b

      by_form : (s : Spot) → spot_at proc.body f.place ≡ Some s → (d : stmt.Stmt-F Stmt) → out-Stmt s.stmt ≡ d → LayerCalls (program_at program layer) n d → ⊥
      by_form s at (stmt.Call g es rs) form c =
          let m = by_meaning (called (program_at program layer) g) c in
          calls_run_no_bodies program layer f.procedure s.number proc s.stmt g es rs layered there l (spot_stands proc.body f.place s at) form m.0 m.1 m.2
      by_form s at _ form c = c

      by_spot : (o : Option Spot) → spot_at proc.body f.place ≡ o → SpotCalls (program_at program layer) n f.place o → ⊥
      by_spot None at c = c
      by_spot (Some s) at c = by_form s at (out-Stmt s.stmt) refl c.1

  framed_not : (f : Activation) → ((proc : Proc) → slice_get program.procs f.procedure ≡ Some proc → has_layer (layer + 1) proc ≡ true → ⊥) → framed_in (layer + 1) f (slice_get program.procs f.procedure) ≡ None
  framed_not f none = by_proc (slice_get program.procs f.procedure) refl
    where
      by_test : (proc : Proc) → slice_get program.procs f.procedure ≡ Some proc → (b : Bool) → has_layer (layer + 1) proc ≡ b → if◌then◌else◌ {A = Option (Proc × Activation)} b (Some (proc, f)) None ≡ None
      by_test proc at true e = absurd (none proc at e)
      by_test proc at false e = refl

      by_proc : (o : Option Proc) → slice_get program.procs f.procedure ≡ o → framed_in (layer + 1) f o ≡ None
      by_proc None at = refl
      by_proc (Some proc) at = by_test proc at (has_layer (layer + 1) proc) refl

  -- the frame to which a thread comes back
  pub back_outside : (below : List Activation) (top f : Activation) → AreWaiting (program_at program layer) below top → slice_get below (length below - 1) ≡ Some f → (outs : List Value) → framed_in (layer + 1) (returned (program_at program layer) outs f) (slice_get program.procs (returned (program_at program layer) outs f).procedure) ≡ None
  back_outside below top f w e outs =
      framed_not (returned (program_at program layer) outs f) (λ proc at l. waits_outside top.procedure f (last_waits (program_at program layer) below top f w e) proc (sym (ap (slice_get program.procs) same) ∙ at) l)
    where
      by_spot : (proc : Proc) (o : Option Spot) → (returned_at f outs proc o).procedure ≡ f.procedure
      by_spot proc None = refl
      by_spot proc (Some s) = refl

      by_proc : (o : Option Proc) → (returned_in f outs o).procedure ≡ f.procedure
      by_proc None = refl
      by_proc (Some proc) = by_spot proc (spot_at proc.body f.place)

      same : (returned (program_at program layer) outs f).procedure ≡ f.procedure
      same = by_proc (slice_get program.procs f.procedure)

-- ---- what comes next, where no yield does

-- no yield stands before it, and it is no yield loop
pub no_yield : (r : Rest) → at_yield r ≡ false → yield_before r ≡ None
no_yield [] h = refl
no_yield (q ∷ k) h = by_layer (out-Stmt q.1) h (no_yield k)
  where
    by_layer : (d : stmt.Stmt-F Stmt) → layer_at_yield d (at_yield k) ≡ false → (at_yield k ≡ false → yield_before k ≡ None) → if◌then◌else◌ {A = Option ℕ} (layer_yields d) (Some q.0) (if layer_leads d then yield_before k else None) ≡ None
    by_layer (stmt.Yield i) g ih = absurd (false≢true (sym g))
    by_layer stmt.Commit g ih = ih g
    by_layer (stmt.Intro x v) g ih = ih g
    by_layer _ g ih = refl

-- it is reached past commits, intros and yields
pub head_skips : (end : ℕ) (r : Rest) (s : Spot) → head_of end r ≡ Some s → (k : Rest) × Skips r ((s.number, s.stmt) ∷ k)
head_skips end [] s e = absurd (none-some s e)
head_skips end (q ∷ k) s e = by_test (is_skipped q.1) refl e (head_skips end k s)
  where
    by_test : (b : Bool) → is_skipped q.1 ≡ b → if◌then◌else◌ {A = Option Spot} b (head_of end k) (Some (record { number = q.0; stmt = q.1; next = place_in end k })) ≡ Some s
        → (head_of end k ≡ Some s → (j : Rest) × Skips k ((s.number, s.stmt) ∷ j)) → (j : Rest) × Skips (q ∷ k) ((s.number, s.stmt) ∷ j)
    by_test true p h ih = let later = ih h in (later.0, passes p later.1)
    by_test false p h ih = (k, subst (λ (x : Spot). Skips (q ∷ k) ((x.number, x.stmt) ∷ k)) (same_Some _ s h) stays)

-- and it is no yield loop
pub not_yield_loop : (end : ℕ) (r : Rest) (s : Spot) → at_yield r ≡ false → head_of end r ≡ Some s → layer_at_yield (out-Stmt s.stmt) false ≡ false
not_yield_loop end [] s h e = absurd (none-some s e)
not_yield_loop end (q ∷ k) s h e = by_layer (out-Stmt q.1) refl h e (not_yield_loop end k s)
  where
    by_layer : (d : stmt.Stmt-F Stmt) → out-Stmt q.1 ≡ d → layer_at_yield d (at_yield k) ≡ false → if◌then◌else◌ {A = Option Spot} (skip_layer (out-Stmt q.1)) (head_of end k) (Some (record { number = q.0; stmt = q.1; next = place_in end k })) ≡ Some s
        → (at_yield k ≡ false → head_of end k ≡ Some s → layer_at_yield (out-Stmt s.stmt) false ≡ false) → layer_at_yield (out-Stmt s.stmt) false ≡ false
    by_layer d p g h ih = go d p g (subst (λ (x : stmt.Stmt-F Stmt). if◌then◌else◌ {A = Option Spot} (skip_layer x) (head_of end k) (Some (record { number = q.0; stmt = q.1; next = place_in end k })) ≡ Some s) p h)
      where
        is_here : (x : stmt.Stmt-F Stmt) → out-Stmt q.1 ≡ x → layer_at_yield x false ≡ false → ◌≡◌ {A = Option Spot} (Some (record { number = q.0; stmt = q.1; next = place_in end k })) (Some s) → layer_at_yield (out-Stmt s.stmt) false ≡ false
        is_here x w z y = subst (λ (sp : Spot). layer_at_yield (out-Stmt sp.stmt) false ≡ false) (same_Some _ s y) (ap (λ (f : stmt.Stmt-F Stmt). layer_at_yield f false) w ∙ z)

        go : (x : stmt.Stmt-F Stmt) → out-Stmt q.1 ≡ x → layer_at_yield x (at_yield k) ≡ false → if◌then◌else◌ {A = Option Spot} (skip_layer x) (head_of end k) (Some (record { number = q.0; stmt = q.1; next = place_in end k })) ≡ Some s → layer_at_yield (out-Stmt s.stmt) false ≡ false
        go (stmt.Yield i) w g y = absurd (false≢true (sym g))
        go (stmt.YieldLoop t i a) w g y = absurd (false≢true (sym g))
        go stmt.Commit w g y = ih g y
        go (stmt.Intro v u) w g y = ih g y
        go (stmt.Assign v u) w g y = is_here (stmt.Assign v u) w refl y
        go (stmt.Assert u) w g y = is_here (stmt.Assert u) w refl y
        go (stmt.If t a b) w g y = is_here (stmt.If t a b) w refl y
        go (stmt.While t a) w g y = is_here (stmt.While t a) w refl y
        go (stmt.RankLoop t u i a) w g y = is_here (stmt.RankLoop t u i a) w refl y
        go (stmt.Call v es rs) w g y = is_here (stmt.Call v es rs) w refl y
        go (stmt.Spawn v es) w g y = is_here (stmt.Spawn v es) w refl y
