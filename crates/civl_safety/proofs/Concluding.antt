-- What the goals on a statement conclude of a state in which what they assume holds.
use Rattle.std.proofs.Common.{◌≡◌, ℕ, Bool, true, false, not, ◌&&◌, List, [], ◌++◌, map, Option, Some, None, refl, sym, ap, ◌∙◌, subst, inl, arith, append-nil}
use Rattle.std.specs.Prelude.{slice_get, nat_le}
use Rattle.std.proofs.lemmas.Bool.{and_from, not-false, le-leb}
use Rattle.civl_bits.specs.declared.value.Value.{Value}
use Rattle.civl_firing.specs.values.Values.{HaveSorts}
use Rattle.civl_tree.specs.declared.name.Name.{Name}
use Rattle.civl_tree.specs.declared.expr.Expr.{Expr}
use Rattle.civl_tree.specs.declared.stmt.Stmt.{Stmt, out-Stmt}
use Rattle.civl_tree.specs.declared.stmt.Stmt.TheOpen.{Stmt-F, Call}
use Rattle.civl_tree.specs.declared.program.Proc.{Proc}
use Rattle.civl_tree.specs.declared.program.Program.{Program}
use Rattle.civl_tree.specs.Numbering.{statement_at}
use Rattle.civl_tree.proofs.Kept.{global_kept}
use Rattle.civl_tree.proofs.Bools.{not_second}
use Rattle.civl_outlines.specs.declared.outline.Outline.{Outline}
use Rattle.civl_firing.specs.declared.store.Store.{Store}
use Rattle.civl_firing.specs.Stores.{IsStore}
use Rattle.civl_meaning.specs.declared.config.Plain.{Plain}
use Rattle.civl_meaning.specs.declared.config.Activation.{Activation}
use Rattle.civl_meaning.specs.declared.config.Change.{Change}
use Rattle.civl_meaning.specs.Permissions.{pairwise_disjoint}
use Rattle.civl_meaning.specs.Places.{Spot, spot_at}
use Rattle.civl_meaning.specs.Meaning.{Meaning, Does, Runs, Missing, called}
use Rattle.civl_meaning.specs.Layers.{topmost}
use Rattle.civl_meaning.specs.Change.{done_by, spot_doing, proc_doing, statement_doing}
use Rattle.civl_meaning.specs.Config.{frame_sorts}
use Rattle.civl_layers.specs.Ranges.{exists_through}
use Rattle.civl_layers.specs.Names.{global_range}
use Rattle.civl_layers.specs.LayerRules.{layer_rules, introduced_rule}
use Rattle.civl_layers.specs.Layered.{IsLayered}
use Rattle.civl_layers.proofs.PlainPrograms.{layered_is_plain}
use Rattle.civl_conditions.specs.footprints.Agreement.{StoresAgree}
use Rattle.civl_conditions.proofs.footprints.Existing.{through_in, uses_what_exists}
use Rattle.civl_conditions.specs.paths.Seen.{ChangesAgree}
use Rattle.civl_conditions.proofs.paths.Seeing.{MeansSeen, CallSeen, step_alike}
use Rattle.civl_conditions.specs.Permissions.{in_store}
use Rattle.civl_condition_laws.proofs.Gathering.{Fit}
use Rattle.civl_condition_laws.proofs.Carrying.{LinearPass, same_linear}
use Rattle.civl_reduction.proofs.permissions.Lasting.{call_exists}
use Rattle.civl_reduction.proofs.permissions.Reaching.{meant_begins}
use Rattle.civl_goals.specs.Outlines.{exists_on_top, invariant_holds, note_holds}
use Rattle.civl_goals.specs.Variables.{choices_at, of_statement}
use Rattle.civl_goals.specs.Listed.{is_root}
use Rattle.civl_goals.specs.Failed.{owned_in, assumed, does, store_in, chosen_of, step_fails}
use Rattle.civl_safety.specs.Outlined.{IsOutlined}
use Rattle.civl_safety.proofs.Agreeing.{invariant_same, note_same}
use Rattle.civl_safety.proofs.Gathering.{values, values_fit, store_agrees, frame_there, chosen_there}
use Rattle.civl_safety.proofs.Rooting.{root_refines}

-- linear globals exist on top
pub linear_on_top : (program : Program) → IsLayered program → LinearPass (exists_on_top program) program.globals
linear_on_top program layered place g there is =
    through_in program.layers (record { first = 0; last = program.layers }) (global_range g)
    (and_from (nat_le 0 program.layers) (nat_le program.layers program.layers) (le-leb 0 program.layers (omega arith)) (le-leb program.layers program.layers (omega arith)))
    (not-false (exists_through 0 program.layers (global_range g)) (not_second g.linear (not (exists_through 0 program.layers (global_range g))) is (global_kept layer_rules program layered.layers introduced_rule (5, omega arith, refl) place g there)))

module _ (program : Program) (layered : IsLayered program) (outline : Outline) (o : IsOutlined program outline)
    (r : ℕ) (proc : Proc) (at : slice_get program.procs r ≡ Some proc) (root : is_root proc ≡ true) (s : ℕ) (spot : Spot) (found : spot_at proc.body s ≡ Some spot) (stood : statement_at proc.body s ≡ Some spot.stmt)
    (g : Store) (fit : IsStore program.globals g) (locals : List Value) (sorted : HaveSorts locals (frame_sorts proc)) where
  abbrev plain : Plain
  plain = topmost program

  abbrev pub frame : Activation
  frame = record { procedure = r; place = s; locals = locals }

  -- what it does, by its statement
  pub does_is : (h : Store) (chosen : List Value) → does program h frame chosen ≡ done_by plain h chosen (statement_doing plain proc locals spot.number spot.next (out-Stmt spot.stmt))
  does_is h chosen = ap (λ (x : Option Proc). done_by plain h chosen (proc_doing plain None frame x)) at ∙ ap (λ (x : Option Spot). done_by plain h chosen (spot_doing plain None frame proc x)) found

  means_seen : (m : Meaning) (f : Name) (es : List Expr) (rs : List Name) → out-Stmt spot.stmt ≡ Call f es rs → called plain f ≡ m → MeansSeen (exists_on_top program) plain m
  means_seen (Does action) f es rs q e =
      let m = meant_begins program layered program.layers action (inl (r, s, proc, spot.stmt, f, es, rs, at, stood, q, e)) in
      let body = (layered_is_plain program layered program.layers).roots r proc at (root_refines proc root) in
      uses_what_exists program m.0 program.layers action layered m.1 (call_exists program layered program.layers (omega arith) r proc at body s spot.stmt f es rs stood q action e)
  means_seen (Runs number p) f es rs q e = tt
  means_seen Missing f es rs q e = tt

  call_seen : (d : Stmt-F Stmt) → out-Stmt spot.stmt ≡ d → CallSeen (exists_on_top program) plain d
  call_seen (Call f es rs) q = means_seen (called plain f) f es rs q refl
  call_seen _ q = tt

  -- it does alike in stores that agree on the topmost program's globals
  pub does_alike : (h k : Store) → StoresAgree (exists_on_top program) program.globals h k → (chosen : List Value) → ChangesAgree (exists_on_top program) program.globals (does program h frame chosen) (does program k frame chosen)
  does_alike h k agree chosen =
      subst (λ (c : Change). ChangesAgree (exists_on_top program) program.globals c (does program k frame chosen)) (sym (does_is h chosen))
      (subst (λ (c : Change). ChangesAgree (exists_on_top program) program.globals (done_by plain h chosen (statement_doing plain proc locals spot.number spot.next (out-Stmt spot.stmt))) c) (sym (does_is k chosen))
      (step_alike (exists_on_top program) plain h k agree chosen proc locals spot.number spot.next (out-Stmt spot.stmt) (call_seen (out-Stmt spot.stmt) refl)))

  -- what is assumed of the state
  pub record IsAssumed : Type 0 where
    pub invariant : invariant_holds program outline g ≡ true
    pub note : note_holds program outline g frame ≡ true
    pub apart : pairwise_disjoint (in_store program g ++ owned_in program frame) ≡ true

  module _ (is : IsAssumed) (chosen : List Value) (choices : HaveSorts chosen (map (λ c. c.sort) (choices_at program r s))) where
    abbrev pub given : List Value → List Value
    given rest = values program g fit r proc at locals sorted s chosen choices ++ rest

    abbrev pub store_given : List Value → Store
    store_given rest = store_in program (given rest)

    pub agrees : (rest : List Value) → StoresAgree (exists_on_top program) program.globals g (store_given rest)
    agrees rest = store_agrees program g fit r proc at locals sorted s chosen choices rest

    assumed_there : (rest : List Value) → assumed program outline (store_given rest) frame ≡ true
    assumed_there rest =
        and_from _ _ (sym (invariant_same program layered outline o.fits g (store_given rest) (agrees rest)) ∙ is.invariant)
        (and_from _ _ (sym (note_same program layered outline o.fits g (store_given rest) (agrees rest) frame) ∙ is.note)
        (ap (λ (ps : List (List ℕ)). pairwise_disjoint (ps ++ owned_in program frame)) (sym (same_linear (exists_on_top program) program.globals g.values (store_given rest).values (linear_on_top program layered) (agrees rest))) ∙ is.apart))

    -- what a test of the step says in that store
    pub concluded : (rest : List Value) (fails : Store → Activation → Change → Bool) → step_fails program outline (given rest) r s fails ≡ false → fails (store_given rest) frame (does program (store_given rest) frame chosen) ≡ false
    concluded rest fails h =
        not_second (assumed program outline (store_given rest) frame) _ (assumed_there rest)
        (subst (λ (c : List Value). (assumed program outline (store_given rest) frame && fails (store_given rest) frame (does program (store_given rest) frame c)) ≡ false) (chosen_there program g fit r proc at locals sorted s chosen choices rest)
        (subst (λ (f : Activation). (assumed program outline (store_given rest) f && fails (store_given rest) f (does program (store_given rest) f (chosen_of program (given rest) r s))) ≡ false) (frame_there program g fit r proc at locals sorted s chosen choices rest) h))

    pub given_fit : Fit (given []) (of_statement program r s)
    given_fit =
        subst (λ (vs : List Value). Fit vs (of_statement program r s)) (sym (append-nil (values program g fit r proc at locals sorted s chosen choices)))
        (values_fit program g fit r proc at locals sorted s chosen choices)
