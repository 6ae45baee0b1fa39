-- What a thread does next in the programs of two layers, one above the other.
use Rattle.std.proofs.Common.{◌≡◌, ℕ, ◌+◌, Bool, true, false, List, [], refl, sym, ap, ◌∙◌, subst, arith, Option, None, Some, slice_get, inl, inr, ◌⊎◌}
use Rattle.std.specs.Prelude.{option_map}
use Rattle.std.proofs.lemmas.Bool.{false≢true, ltb-true, ltb-false, eq-eqb, or_parts}
use Rattle.std.proofs.lemmas.Option.{slice_get-map}
use Rattle.civl_bits.specs.declared.value.Value.{Value}
use Rattle.civl_tree.specs.declared.name.Name.{Name}
use Rattle.civl_tree.specs.declared.action.Action.{Action}
use Rattle.civl_tree.specs.declared.program.Proc.{Proc}
use Rattle.civl_tree.specs.declared.program.Refines.{Refines}
use Rattle.civl_tree.specs.declared.program.Program.{Program}
use Rattle.civl_tree.specs.declared.stmt.Stmt.{Stmt, out-Stmt}
use Rattle.civl_tree.specs.declared.stmt.Stmt.TheOpen as stmt
use Rattle.civl_tree.specs.rules.Names.{action_named, names_in_proc}
use Rattle.civl_tree.specs.rules.Uses.{with_uses}
use Rattle.civl_tree.specs.rules.Unknown.{any_unknown, refined_unknown}
use Rattle.civl_tree.specs.rules.Typing.{typing_rules, unknown_rule}
use Rattle.civl_tree.proofs.Kept.{proc_kept, unknown_among}
use Rattle.civl_tree.proofs.Options.{some_of}
use Rattle.civl_firing.specs.Eval.{values_of}
use Rattle.civl_firing.specs.Scope.{frame_values}
use Rattle.civl_meaning.specs.declared.config.Plain.{Plain}
use Rattle.civl_meaning.specs.declared.config.Activation.{Activation}
use Rattle.civl_meaning.specs.declared.config.State.{State}
use Rattle.civl_meaning.specs.declared.config.State.TheVariants.{Before, Inside, After}
use Rattle.civl_meaning.specs.declared.config.Running.{Running}
use Rattle.civl_meaning.specs.Places.{Spot, spot_at}
use Rattle.civl_meaning.specs.Meaning.{Meaning, Does, Runs, proc_number, meaning_of_action, refined, meaning_by, meaning_of, meaning_else, called}
use Rattle.civl_meaning.specs.Change.{caller_of, outs_in, Doing, call_doing, statement_doing, leaving, spot_doing, proc_doing, state_doing}
use Rattle.civl_meaning.specs.Layers.{means_body, program_at}
use Rattle.civl_layers.specs.Layered.{IsLayered}
use Rattle.civl_conditions.specs.Steps.{has_layer, refines_at}
use Rattle.civl_conditions.specs.Assumed.{refined_action}
use Rattle.civl_conditions.specs.paths.Choices.{action_meant}
use Rattle.civl_reduction.specs.simulation.Alike.{CallsInstead, ThreadsDoAlike}

module _ (program : Program) (layer : ℕ) (src : IsLayered program) where
  abbrev lower : Plain
  lower = program_at program layer

  abbrev upper : Plain
  upper = program_at program (layer + 1)

  -- ---- what a procedure means

  -- the procedure with this number is of the upper layer
  record MeansInstead (up low : Meaning) : Type 0 where
    number : ℕ
    proc : Proc
    there : slice_get program.procs number ≡ Some proc
    layered : has_layer (layer + 1) proc ≡ true
    action : Action
    refined : refined_action program proc ≡ Some action
    runs : low ≡ Runs number proc
    does : up ≡ Does action

  abbrev MeanAlike : Meaning → Meaning → Type 0
  MeanAlike up low = (up ≡ low) ⊎ MeansInstead up low

  bodies_at : (k j : ℕ) (proc : Proc) → slice_get program.procs j ≡ Some proc → slice_get (program_at program k).bodies j ≡ Some (means_body k proc.refines)
  bodies_at k j proc at = slice_get-map (λ (q : Proc). means_body k q.refines) program.procs j ∙ ap (option_map (λ (q : Proc). means_body k q.refines)) at

  -- the refined action is one of the program
  action_known : (j : ℕ) (proc : Proc) → slice_get program.procs j ≡ Some proc → (r : Refines) → proc.refines ≡ Some r → (action : Action) × (action_named program r.action ≡ Some action)
  action_known j proc at r is =
      some_of (action_named program r.action)
      (subst (λ (o : Option Refines). refined_unknown program o ≡ false) is
      (or_parts (refined_unknown program proc.refines) (any_unknown (with_uses program proc proc.refines)) (proc_kept typing_rules program src.rules unknown_rule unknown_among j proc at)).0)

  means_at : (k j : ℕ) (proc : Proc) → slice_get program.procs j ≡ Some proc → meaning_of (program_at program k) j ≡ meaning_by program (Some (means_body k proc.refines)) j (Some proc)
  means_at k j proc at = ap (λ (b : Option Bool). meaning_by program b j (slice_get program.procs j)) (bodies_at k j proc at) ∙ ap (meaning_by program (Some (means_body k proc.refines)) j) at

  number_alike : (j : ℕ) → MeanAlike (meaning_of upper j) (meaning_of lower j)
  number_alike j = by_proc (slice_get program.procs j) refl
    where
      by_refines : (proc : Proc) → slice_get program.procs j ≡ Some proc → (o : Option Refines) → proc.refines ≡ o → (high low : Bool) → means_body (layer + 1) o ≡ high → means_body layer o ≡ low → MeanAlike (meaning_of upper j) (meaning_of lower j)
      by_refines proc at o is true true e f = inl (means_at (layer + 1) j proc at ∙ (ap (λ (p : Option Refines). meaning_by program (Some (means_body (layer + 1) p)) j (Some proc)) is ∙ (ap (λ (b : Bool). meaning_by program (Some b) j (Some proc)) (e ∙ sym f) ∙ sym (means_at layer j proc at ∙ ap (λ (p : Option Refines). meaning_by program (Some (means_body layer p)) j (Some proc)) is))))
      by_refines proc at o is false false e f = inl (means_at (layer + 1) j proc at ∙ (ap (λ (p : Option Refines). meaning_by program (Some (means_body (layer + 1) p)) j (Some proc)) is ∙ (ap (λ (b : Bool). meaning_by program (Some b) j (Some proc)) (e ∙ sym f) ∙ sym (means_at layer j proc at ∙ ap (λ (p : Option Refines). meaning_by program (Some (means_body layer p)) j (Some proc)) is))))
      by_refines proc at None is true false e f = absurd (false≢true (sym f))
      by_refines proc at (Some r) is true false e f = let h = ltb-true (layer + 1) r.layer e in let l = ltb-false layer r.layer f in absurd (omega (arith, h, l))
      by_refines proc at None is false true e f = absurd (false≢true (sym e))
      by_refines proc at (Some r) is false true e f =
          let h = ltb-false (layer + 1) r.layer e in
          let l = ltb-true layer r.layer f in
          let same : r.layer ≡ layer + 1 = omega (arith, h, l) in
          let a = action_known j proc at r is in
          let to : refined program proc.refines ≡ Does a.0 = ap (refined program) is ∙ ap meaning_of_action a.1 in
          inr (record {
            number = j;
            proc = proc;
            there = at;
            layered = ap (refines_at (layer + 1)) is ∙ eq-eqb r.layer (layer + 1) same;
            action = a.0;
            refined = ap action_meant to;
            runs = means_at layer j proc at ∙ ap (λ (p : Option Refines). meaning_by program (Some (means_body layer p)) j (Some proc)) is ∙ ap (λ (b : Bool). meaning_by program (Some b) j (Some proc)) f;
            does = means_at (layer + 1) j proc at ∙ (ap (λ (p : Option Refines). meaning_by program (Some (means_body (layer + 1) p)) j (Some proc)) is ∙ (ap (λ (b : Bool). meaning_by program (Some b) j (Some proc)) e ∙ to));
          })

      by_proc : (o : Option Proc) → slice_get program.procs j ≡ o → MeanAlike (meaning_of upper j) (meaning_of lower j)
      by_proc None at = inl (ap (meaning_by program (slice_get upper.bodies j) j) at ∙ sym (ap (meaning_by program (slice_get lower.bodies j) j) at))
      by_proc (Some proc) at = by_refines proc at proc.refines refl (means_body (layer + 1) proc.refines) (means_body layer proc.refines) refl refl

  name_alike : (name : Name) → MeanAlike (called upper name) (called lower name)
  name_alike name = go (action_named program name)
    where
      go : (o : Option Action) → MeanAlike (meaning_else upper name o) (meaning_else lower name o)
      go None = number_alike (proc_number program name)
      go (Some action) = inl refl

  -- ---- what a thread does

  abbrev DoAlike : Doing → Doing → Type 0
  DoAlike up low = (up ≡ low) ⊎ CallsInstead program (layer + 1) up low

  call_alike : (names : List Name) (locals : List Value) (results : List Name) (at next : ℕ) (up low : Meaning) (args : List Value) → MeanAlike up low → DoAlike (call_doing names locals results at next up args) (call_doing names locals results at next low args)
  call_alike names locals results at next up low args (inl e) = inl (ap (λ (m : Meaning). call_doing names locals results at next m args) e)
  call_alike names locals results at next up low args (inr h) =
      inr (record {
        number = h.number;
        proc = h.proc;
        there = h.there;
        layered = h.layered;
        action = h.action;
        refined = h.refined;
        args = args;
        place = at;
        enters = ap (λ (m : Meaning). call_doing names locals results at next m args) h.runs;
        names = names;
        locals = locals;
        results = results;
        next = next;
        calls = ap (λ (m : Meaning). call_doing names locals results at next m args) h.does;
      })

  layer_alike : (proc : Proc) (locals : List Value) (at next : ℕ) (d : stmt.Stmt-F Stmt) → DoAlike (statement_doing upper proc locals at next d) (statement_doing lower proc locals at next d)
  layer_alike proc locals at next (stmt.Call f es rs) = call_alike (names_in_proc proc) locals rs at next (called upper f) (called lower f) (values_of (frame_values program.globals proc locals) es) (name_alike f)
  layer_alike proc locals at next _ = inl refl

  leaving_alike : (outs : List Value) (o : Option Activation) → DoAlike (leaving upper outs o) (leaving lower outs o)
  leaving_alike outs None = inl refl
  leaving_alike outs (Some f) = inl refl

  spot_alike : (below : Option Activation) (frame : Activation) (proc : Proc) (o : Option Spot) → DoAlike (spot_doing upper below frame proc o) (spot_doing lower below frame proc o)
  spot_alike below frame proc None = leaving_alike (outs_in proc frame.locals) below
  spot_alike below frame proc (Some s) = layer_alike proc frame.locals s.number s.next (out-Stmt s.stmt)

  proc_alike : (below : Option Activation) (frame : Activation) (o : Option Proc) → DoAlike (proc_doing upper below frame o) (proc_doing lower below frame o)
  proc_alike below frame None = inl refl
  proc_alike below frame (Some proc) = spot_alike below frame proc (spot_at proc.body frame.place)

  state_alike : (thread : Running) (state : State) → DoAlike (state_doing upper thread state) (state_doing lower thread state)
  state_alike thread Before = call_alike [] [] [] 0 0 (meaning_of upper thread.callee) (meaning_of lower thread.callee) thread.args (number_alike thread.callee)
  state_alike thread (Inside below frame) = proc_alike (caller_of below) frame (slice_get program.procs frame.procedure)
  state_alike thread After = inl refl

pub threads_do_alike : ThreadsDoAlike
threads_do_alike program layer thread src = state_alike program layer src thread thread.state
