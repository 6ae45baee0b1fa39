-- What an outline says is the same in stores that agree on the globals of the topmost program.
use Rattle.std.proofs.Common.{◌≡◌, ℕ, zero, suc, Bool, true, false, List, [], ◌∷◌, ◌++◌, Option, Some, None, refl, ap, subst, append-nil}
use Rattle.std.specs.Prelude.{slice_get}
use Rattle.std.specs.List.{list_all}
use Rattle.std.specs.Option.{option_map_or}
use Rattle.std.proofs.lemmas.Bool.{and_parts}
use Rattle.civl_bits.specs.declared.value.Value.{Value}
use Rattle.civl_firing.specs.values.Values.{is_true}
use Rattle.civl_tree.specs.declared.name.Name.{Name}
use Rattle.civl_tree.specs.declared.expr.Expr.{Expr}
use Rattle.civl_tree.specs.declared.program.Proc.{Proc}
use Rattle.civl_tree.specs.declared.program.Program.{Program}
use Rattle.civl_tree.specs.rules.Names.{global_names, names_in_proc}
use Rattle.civl_tree.specs.rules.Exprs.{names_known}
use Rattle.civl_outlines.specs.declared.outline.Note.{Note}
use Rattle.civl_outlines.specs.declared.outline.Outline.{Outline}
use Rattle.civl_firing.specs.declared.store.Store.{Store}
use Rattle.civl_firing.specs.Scope.{present_values, global_values}
use Rattle.civl_meaning.specs.declared.config.Activation.{Activation}
use Rattle.civl_layers.specs.Layered.{IsLayered}
use Rattle.civl_layers.specs.Names.{uses}
use Rattle.civl_conditions.specs.footprints.Agreement.{AgreeBut, StoresAgree, names_other}
use Rattle.civl_conditions.proofs.footprints.Seeing.{one_value_in}
use Rattle.civl_conditions.proofs.footprints.Acting.{present_agree}
use Rattle.civl_conditions.specs.paths.NoteValues.{plain_note_values}
use Rattle.civl_conditions.specs.Invariants.{holds_in, holds_of_globals}
use Rattle.civl_condition_laws.proofs.Carrying.{same_and}
use Rattle.civl_goals.specs.Outlines.{exists_on_top, invariant_holds, written_before, note_holds}
use Rattle.civl_goals.specs.Rules.{says_of, hold_scope, outline_scope, unfit}
use Rattle.civl_safety.proofs.Seeing.{globals_seen, note_seen}
use Rattle.civl_safety.proofs.Fitting.{hold_says, written}

module _ (program : Program) (layered : IsLayered program) (outline : Outline) (fits : unfit program outline ≡ []) where
  -- on the globals of the topmost program
  abbrev pub OnTop : Store → Store → Type 0
  OnTop s t = StoresAgree (exists_on_top program) program.globals s t

  module _ (s t : Store) (agree : OnTop s t) where
    hold_same : (e : Expr) → says_of (hold_scope program) e ≡ true → holds_of_globals program s e ≡ holds_of_globals program t e
    hold_same e says = ap is_true (one_value_in (names_other (exists_on_top program) program.globals) (global_values program.globals s) (global_values program.globals t) scopes e seen)
      where
        seen : uses (names_other (exists_on_top program) program.globals) e ≡ false
        seen = globals_seen program layered.rules (exists_on_top program) e (and_parts (names_known (hold_scope program) e) _ says).0

        scopes : AgreeBut (names_other (exists_on_top program) program.globals) (global_values program.globals s) (global_values program.globals t)
        scopes =
            subst (λ (ns : List Name). AgreeBut (names_other (exists_on_top program) program.globals) (present_values ns s.values) (present_values ns t.values)) (append-nil (global_names program.globals))
            (subst (λ (vs : List Value). AgreeBut (names_other (exists_on_top program) program.globals) (present_values (global_names program.globals ++ []) vs) (present_values (global_names program.globals ++ []) t.values)) (append-nil s.values)
            (subst (λ (vs : List Value). AgreeBut (names_other (exists_on_top program) program.globals) (present_values (global_names program.globals ++ []) (s.values ++ [])) (present_values (global_names program.globals ++ []) vs)) (append-nil t.values)
            (present_agree (exists_on_top program) program.globals s.values t.values [] [] agree)))

    all_same : (es : List Expr) → ((i : ℕ) (e : Expr) → slice_get es i ≡ Some e → says_of (hold_scope program) e ≡ true) → list_all (holds_of_globals program s) es ≡ list_all (holds_of_globals program t) es
    all_same [] h = refl
    all_same (e ∷ es) h = same_and _ _ _ _ (hold_same e (h zero e refl)) (all_same es (λ i x at. h (suc i) x at))

    -- the invariant
    pub invariant_same : invariant_holds program outline s ≡ invariant_holds program outline t
    invariant_same = all_same outline.holds (hold_says program outline fits)

    -- a note, where one is written
    abbrev said : Activation → Store → Proc → Option Note → Bool
    said frame g proc o = option_map_or (λ note. holds_in (plain_note_values program.globals proc g frame.locals) note.expr) o true

    pub note_same : (frame : Activation) → note_holds program outline s frame ≡ note_holds program outline t frame
    note_same frame = by_proc (slice_get program.procs frame.procedure) refl
      where
        by_note : (proc : Proc) → slice_get program.procs frame.procedure ≡ Some proc → (o : Option Note) → written_before program outline frame.procedure frame.place ≡ o → said frame s proc o ≡ said frame t proc o
        by_note proc at None e = refl
        by_note proc at (Some note) e =
            let w = written program outline fits frame.procedure frame.place proc at note e in
            ap is_true (one_value_in (names_other (exists_on_top program) program.globals) (plain_note_values program.globals proc s frame.locals) (plain_note_values program.globals proc t frame.locals)
            (present_agree (exists_on_top program) program.globals s.values t.values (names_in_proc proc) frame.locals agree) note.expr
            (note_seen program layered.rules (exists_on_top program) frame.procedure proc at note.expr (and_parts (names_known (outline_scope program proc) note.expr) _ w.says).0))

        by_proc : (o : Option Proc) → slice_get program.procs frame.procedure ≡ o →
            option_map_or (λ proc. said frame s proc (written_before program outline frame.procedure frame.place)) o true ≡ option_map_or (λ proc. said frame t proc (written_before program outline frame.procedure frame.place)) o true
        by_proc None at = refl
        by_proc (Some proc) at = by_note proc at (written_before program outline frame.procedure frame.place) refl
