-- What a path has to do sees the globals of the two programs of the step, and the choices of the statements that some path passes.
use Rattle.std.proofs.Common.{◌≡◌, ℕ, ◌-◌, Bool, true, false, not, ◌&&◌, ◌||◌, List, ◌++◌, drop, Option, Some, None, refl, sym, ap, ◌∙◌, subst}
use Rattle.std.specs.Prelude.{slice_get, nat_eq, if◌then◌else◌}
use Rattle.civl_bits.specs.declared.value.Value.{Value}
use Rattle.civl_firing.specs.values.Operators.{two_value}
use Rattle.civl_firing.specs.values.Values.{is_true}
use Rattle.civl_tree.specs.declared.expr.Expr.{Expr}
use Rattle.civl_tree.specs.declared.expr.Two.TheVariants.{Lt}
use Rattle.civl_tree.specs.declared.stmt.Stmt.{Stmt, out-Stmt}
use Rattle.civl_tree.specs.declared.action.Action.{Action}
use Rattle.civl_tree.specs.declared.program.Proc.{Proc}
use Rattle.civl_tree.specs.declared.program.Program.{Program}
use Rattle.civl_tree.proofs.Pairs.{contains_map, contains_at}
use Rattle.civl_firing.specs.declared.store.Store.{Store}
use Rattle.civl_firing.specs.Eval.{value_of, values_of}
use Rattle.civl_firing.specs.Fired.{fires}
use Rattle.civl_meaning.specs.Change.{outs_in}
use Rattle.civl_meaning.specs.Layers.{program_at}
use Rattle.civl_meaning.specs.Permissions.{pairwise_disjoint}
use Rattle.civl_layers.specs.declared.cut.Cut.{Cut}
use Rattle.civl_layers.specs.Cuts.{proc_cuts}
use Rattle.civl_layers.specs.Layered.{IsLayered}
use Rattle.civl_conditions.specs.paths.NoteValues.{plain_note_values, note_values, steady_note_values}
use Rattle.civl_conditions.specs.paths.Paths.{Progress, Outcome, Past, Comes, Fails, Stops, progress_of, has_failed}
use Rattle.civl_conditions.specs.paths.Flows.{flow_from}
use Rattle.civl_conditions.specs.paths.Ends.{is_exit, exit_of, cut_number, ends_block, arrived}
use Rattle.civl_conditions.specs.paths.Seen.{StatesAgree, OutcomesAgree, exists_near}
use Rattle.civl_conditions.proofs.paths.Layering.{paths_see_their_globals}
use Rattle.civl_conditions.proofs.paths.Choosing.{paths_read_their_choices}
use Rattle.civl_conditions.specs.footprints.Agreement.{exists_at}
use Rattle.civl_conditions.specs.declared.condition.Part.{Part}
use Rattle.civl_conditions.specs.declared.condition.Part.TheVariants.{Gate, Invariant, Once, Stutter, Perform, Rank}
use Rattle.civl_conditions.specs.declared.condition.Target.{Target}
use Rattle.civl_conditions.specs.Variables.{layer_choices}
use Rattle.civl_conditions.specs.Values.{Begun, same_bool, same_values, same_stores}
use Rattle.civl_conditions.specs.Movers.{on_some}
use Rattle.civl_conditions.specs.Assumed.{layer_invariant, layer_rank, cut_invariant, cut_rank, note_holds, refined_action, with_of, inputs_of, owned, assumed}
use Rattle.civl_conditions.specs.Parts.{outcome_of, at_end, at_block_end, end_values, invariant_fails, once_fails, stutter_fails, perform_fails, rank_fails, part_fails, path_fails}
use Rattle.civl_conditions.specs.Targets.{target_owned, target_lost, block_fails}
use Rattle.civl_condition_laws.specs.States.{IsCutOf}
use Rattle.civl_condition_laws.proofs.Carrying.{same_and, same_in_same}
use Rattle.civl_condition_laws.proofs.Nearby.{agree_less, above_near, Near, plain_same, plain_all_same, note_holds_same, invariant_shown, rank_shown, said_shown, NoteShown, with_shown}
use Rattle.civl_condition_laws.proofs.Losing.{IsTarget, lost_alike, owned_there, lost_there}
use Rattle.civl_condition_laws.proofs.Lasting.{some_alike}
use Rattle.civl_condition_laws.proofs.Assuming.{moved, BegunAlike, moved_is, ActionNear, refined_near, refined_acts, owned_same, assumed_same}

-- the same is found in both, where there is something
found_same : {A : Type 0} (o : Option A) (f h : A → Bool) → ((x : A) → f x ≡ h x) → on_some o f ≡ on_some o h
found_same None f h each = refl
found_same (Some x) f h each = each x

module _ (program : Program) (layered : IsLayered program) (step number c : ℕ) (proc : Proc) (cut : Cut) (is : IsCutOf program step number c proc cut) where
  abbrev Close : Store → Store → Type 0
  Close s t = Near program layered step s t

  -- ---- where paths end

  -- with another store
  abbrev in_store_of : Store → Progress → Progress
  in_store_of s p = record { store = s; locals = p.locals; done = p.done; again = p.again }

  stored_is : (p q : Progress) → StatesAgree (exists_near step) program.globals p q → p ≡ in_store_of p.store q
  stored_is p q h =
      ap (λ (vs : List Value). record { store = p.store; locals = vs; done = p.done; again = p.again }) h.locals
      ∙ (ap (λ (d : Bool). record { store = p.store; locals = q.locals; done = d; again = p.again }) h.done
      ∙ ap (λ (a : Bool). record { store = p.store; locals = q.locals; done = q.done; again = a }) h.again)

  abbrev Ends : Outcome → Outcome → Type 0
  Ends o u = OutcomesAgree (exists_near step) program.globals o u

  outcomes_alike : (b d : Begun) → BegunAlike program layered step proc cut b d → Ends (outcome_of program step proc cut b) (outcome_of program step proc cut d)
  outcomes_alike b d alike =
      subst (λ (o : Outcome). Ends o (outcome_of program step proc cut d))
      (sym (paths_read_their_choices (program_at program (step - 1)) proc cut b.chosen d.chosen start (λ q a among e.
      alike.chosen (q.0, layer_choices (program_at program (step - 1)) (out-Stmt q.1))
      (contains_map (λ (q : ℕ × Stmt). (q.0, layer_choices (program_at program (step - 1)) (out-Stmt q.1))) (flow_from proc cut).passed q among))))
      (paths_see_their_globals program number step proc cut d.chosen start (record { store = d.store; locals = d.locals; done = d.done; again = false }) layered is.of_proc (contains_at (proc_cuts proc) c cut is.there)
      (record { stores = alike.store; locals = alike.locals; done = alike.done; again = refl }))
    where
      start : Progress
      start = record { store = b.store; locals = b.locals; done = b.done; again = false }

  end_same : (o u : Outcome) (f h : ℕ → Progress → Bool) → Ends o u → ((end : ℕ) (s : Store) (q : Progress) → Close s q.store → f end (in_store_of s q) ≡ h end q) → at_end proc o f ≡ at_end proc u h
  end_same (Past p) (Past q) f h a each = ap (f (exit_of proc)) (stored_is p q a) ∙ each (exit_of proc) p.store q a.stores
  end_same (Comes m p) (Comes n q) f h a each =
      ap (f (cut_number proc m)) (stored_is p q a.1) ∙ (each (cut_number proc m) p.store q a.1.stores ∙ ap (λ (k : ℕ). h (cut_number proc k) q) a.0)
  end_same (Fails p) (Fails q) f h a each = refl
  end_same (Stops p) (Stops q) f h a each = refl
  end_same _ _ f h a each = absurd a

  block_end_same : (o u : Outcome) (f h : Progress → Bool) → Ends o u → ((s : Store) (q : Progress) → Close s q.store → f (in_store_of s q) ≡ h q) → at_block_end proc o f ≡ at_block_end proc u h
  block_end_same o u f h a each = end_same o u (λ end p. ends_block proc end && f p) (λ end p. ends_block proc end && h p) a (λ end s q near. ap (λ (x : Bool). ends_block proc end && x) (each s q near))

  -- ---- the parts

  gate_same : (o u : Outcome) → Ends o u → has_failed o ≡ has_failed u
  gate_same (Past p) (Past q) a = refl
  gate_same (Comes m p) (Comes n q) a = refl
  gate_same (Fails p) (Fails q) a = refl
  gate_same (Stops p) (Stops q) a = refl
  gate_same _ _ a = absurd a

  again_same : (o u : Outcome) → Ends o u → (progress_of o).again ≡ (progress_of u).again
  again_same (Past p) (Past q) a = a.again
  again_same (Comes m p) (Comes n q) a = a.1.again
  again_same (Fails p) (Fails q) a = a.again
  again_same (Stops p) (Stops q) a = a.again
  again_same _ _ a = absurd a

  once_same : (o u : Outcome) → Ends o u → once_fails proc o ≡ once_fails proc u
  once_same o u a =
      ap (λ (x : Bool). x || at_end proc o (λ end p. is_exit proc end && not p.done)) (again_same o u a)
      ∙ ap (λ (x : Bool). (progress_of u).again || x) (end_same o u (λ end p. is_exit proc end && not p.done) (λ end p. is_exit proc end && not p.done) a (λ end s q near. refl))

  upper : (s t : Store) → Close s t → (v w : Store) → Close v w → same_stores (exists_at step) program s v ≡ same_stores (exists_at step) program t w
  upper s t near v w far =
      same_in_same (exists_at step) program.globals s.values v.values t.values w.values
      (agree_less (exists_near step) (exists_at step) (above_near step) program.globals s.values t.values near) (agree_less (exists_near step) (exists_at step) (above_near step) program.globals v.values w.values far)

  -- beginnings that differ in their stores and choices
  module _ (b : Begun) (s t v w : Store) (f h : ℕ → List Value) (near : Close s t) (far : Close v w) where
    abbrev one : Begun
    one = moved b s v f

    abbrev two : Begun
    two = moved b t w h

    note_at_end : (end : ℕ) (x : Store) (q : Progress) → Close x q.store → (o : Option Expr) → NoteShown program layered step o →
        note_holds (end_values program proc one end (in_store_of x q)) o ≡ note_holds (end_values program proc two end q) o
    note_at_end end x q by o shown = by_block (ends_block proc end)
      where
        by_block : (e : Bool) →
            note_holds (if e then steady_note_values program.globals proc x q.locals q.done else note_values program.globals proc x q.locals q.done v b.old_outs b.old_done) o
            ≡ note_holds (if e then steady_note_values program.globals proc q.store q.locals q.done else note_values program.globals proc q.store q.locals q.done w b.old_outs b.old_done) o
        by_block true = note_holds_same program layered step proc x q.store q.locals q.done x q.store (outs_in proc q.locals) q.done o shown by by
        by_block false = note_holds_same program layered step proc x q.store q.locals q.done v w b.old_outs b.old_done o shown by far

    invariant_part : (o u : Outcome) → Ends o u → invariant_fails program proc one o ≡ invariant_fails program proc two u
    invariant_part o u a =
        end_same o u
        (λ end p. on_some (slice_get (proc_cuts proc) end) (λ k. not (note_holds (end_values program proc one end p) (cut_invariant proc k))))
        (λ end p. on_some (slice_get (proc_cuts proc) end) (λ k. not (note_holds (end_values program proc two end p) (cut_invariant proc k)))) a (λ end x q by.
        found_same (slice_get (proc_cuts proc) end)
        (λ k. not (note_holds (end_values program proc one end (in_store_of x q)) (cut_invariant proc k)))
        (λ k. not (note_holds (end_values program proc two end q) (cut_invariant proc k))) (λ k.
        ap not (note_at_end end x q by (cut_invariant proc k) (said_shown program layered step number proc is.of_proc layer_invariant (invariant_shown program layered step) k.statement k.kind))))

    abbrev stutters : Begun → Progress → Bool
    stutters d p = same_bool p.done d.old_done && (not (same_stores (exists_at step) program p.store d.old) || (d.old_done && not (same_values (outs_in proc p.locals) d.old_outs)))

    stutter_part : (o u : Outcome) → Ends o u → stutter_fails program step proc one o ≡ stutter_fails program step proc two u
    stutter_part o u a =
        block_end_same o u (stutters one) (stutters two) a (λ x q by.
        ap (λ (e : Bool). same_bool q.done b.old_done && (not e || (b.old_done && not (same_values (outs_in proc q.locals) b.old_outs)))) (upper x q.store by v w far))

    -- an action from the old globals, with these choices, to the present
    abbrev reaches : Begun → Progress → List Value → Action → Bool
    reaches d p chosen a = on_some (fires program.globals d.old a (inputs_of proc d.locals) chosen) (λ e. same_stores (exists_at step) program p.store e.0 && same_values (outs_in proc p.locals) e.1)

    reaches_same : (x : Store) (q : Progress) → Close x q.store → (chosen : List Value) (a : Action) → ActionNear program layered step number proc is.of_proc (Some a) → reaches one (in_store_of x q) chosen a ≡ reaches two q chosen a
    reaches_same x q by chosen a shown =
        some_alike program layered step _ _ _ _ ((refined_acts program layered step number proc is.of_proc a shown v w far (inputs_of proc b.locals)).fired chosen) (λ d e close same.
        same_and _ _ _ _ (upper x q.store by d.0 e.0 close) (ap (same_values (outs_in proc q.locals)) same))

    abbrev behind_with : Store → Progress → List Value
    behind_with x q = values_of (plain_note_values program.globals proc x q.locals) (with_of proc.refines)

    action_same : (x : Store) (q : Progress) → Close x q.store → (o : Option Action) → ActionNear program layered step number proc is.of_proc o →
        on_some o (λ a. not (reaches one (in_store_of x q) (behind_with x q) a)) ≡ on_some o (λ a. not (reaches two q (behind_with q.store q) a))
    action_same x q by None shown = refl
    action_same x q by (Some a) shown =
        ap (λ (vs : List Value). not (reaches one (in_store_of x q) vs a)) (plain_all_same program layered step proc x q.store q.locals (with_of proc.refines) (with_shown program layered step number proc is.of_proc) by)
        ∙ ap not (reaches_same x q by (behind_with q.store q) a shown)

    abbrev performs : Begun → Progress → Bool
    performs d p = p.done && (not d.old_done && on_some (refined_action program proc) (λ a. not (reaches d p (behind_with p.store p) a)))

    perform_part : (o u : Outcome) → Ends o u → perform_fails program step proc one o ≡ perform_fails program step proc two u
    perform_part o u a =
        block_end_same o u (performs one) (performs two) a (λ x q by.
        ap (λ (e : Bool). q.done && (not b.old_done && e)) (action_same x q by (refined_action program proc) (refined_near program layered step number proc is.of_proc)))

    rank_same : (x : Store) (q : Progress) → Close x q.store → (o : Option Expr) → NoteShown program layered step o →
        on_some o (λ r. not (is_true (two_value Lt (value_of (plain_note_values program.globals proc x q.locals) r) (value_of (plain_note_values program.globals proc s b.locals) r))))
        ≡ on_some o (λ r. not (is_true (two_value Lt (value_of (plain_note_values program.globals proc q.store q.locals) r) (value_of (plain_note_values program.globals proc t b.locals) r))))
    rank_same x q by None shown = refl
    rank_same x q by (Some r) shown =
        ap (λ (n : Value). not (is_true (two_value Lt n (value_of (plain_note_values program.globals proc s b.locals) r)))) (plain_same program layered step proc x q.store q.locals r shown by)
        ∙ ap (λ (n : Value). not (is_true (two_value Lt (value_of (plain_note_values program.globals proc q.store q.locals) r) n))) (plain_same program layered step proc s t b.locals r shown near)

    -- back at the loop the rank is no smaller number
    abbrev falls : Begun → ℕ → Progress → Bool
    falls d end p =
        nat_eq end c
        && on_some (cut_rank proc cut) (λ r.
        not (is_true (two_value Lt (value_of (plain_note_values program.globals proc p.store p.locals) r) (value_of (plain_note_values program.globals proc d.store d.locals) r))))

    rank_part : (o u : Outcome) → Ends o u → rank_fails program proc c cut one o ≡ rank_fails program proc c cut two u
    rank_part o u a =
        end_same o u (falls one) (falls two) a (λ end x q by.
        ap (λ (e : Bool). nat_eq end c && e) (rank_same x q by (cut_rank proc cut) (said_shown program layered step number proc is.of_proc layer_rank (rank_shown program layered step) cut.statement cut.kind)))

    part_same : (part : Part) (o u : Outcome) → Ends o u → part_fails program step proc c cut one o part ≡ part_fails program step proc c cut two u part
    part_same Gate o u a = gate_same o u a
    part_same Invariant o u a = invariant_part o u a
    part_same Once o u a = once_same o u a
    part_same Stutter o u a = stutter_part o u a
    part_same Perform o u a = perform_part o u a
    part_same Rank o u a = rank_part o u a

  -- ---- the whole

  pub path_same : (part : Part) (b d : Begun) → BegunAlike program layered step proc cut b d → path_fails program step part proc c cut b ≡ path_fails program step part proc c cut d
  path_same part b d alike =
      same_and _ _ _ _ (assumed_same program layered step number proc is.of_proc c cut b d alike)
      (ap (λ (x : Begun). part_fails program step proc c cut x (outcome_of program step proc cut b) part) (moved_is program layered step proc cut b d alike)
      ∙ part_same d b.store d.store b.old d.old b.chosen d.chosen alike.store alike.old part (outcome_of program step proc cut b) (outcome_of program step proc cut d) (outcomes_alike b d alike))

  pub block_same : (t : Target) → IsTarget program step t → (values : List Value) (at : ℕ) (b d : Begun) → BegunAlike program layered step proc cut b d →
      block_fails program step proc c cut b t values at ≡ block_fails program step proc c cut d t values at
  block_same t target values at b d alike =
      same_and _ _ _ _ (assumed_same program layered step number proc is.of_proc c cut b d alike)
      (same_and _ _ _ _
      (ap (λ (x : Begun). pairwise_disjoint (owned program proc c x ++ target_owned program t values at)) (moved_is program layered step proc cut b d alike)
      ∙ ap (λ (ps : List (List ℕ)). pairwise_disjoint (ps ++ target_owned program t values at)) (owned_same program layered step number proc is.of_proc c d b.store d.store b.old d.old b.chosen d.chosen alike.store))
      (block_end_same (outcome_of program step proc cut b) (outcome_of program step proc cut d) (λ p. target_lost program step t values at b.old p.store) (λ p. target_lost program step t values at d.old p.store) (outcomes_alike b d alike) (λ x q by. lost_alike program layered step t target values at b.old x d.old q.store alike.old by)))

  pub block_there : (t : Target) (values others : List Value) (at : ℕ) → drop at values ≡ others → (b : Begun) → block_fails program step proc c cut b t values at ≡ block_fails program step proc c cut b t others 0
  block_there t values others at behind b =
      ap (λ (e : Bool). assumed program step proc c cut b && e)
      (same_and _ _ _ _ (ap (λ (ps : List (List ℕ)). pairwise_disjoint (owned program proc c b ++ ps)) (owned_there program step values others at behind t))
      (found_same (arrived proc (outcome_of program step proc cut b))
      (λ end. ends_block proc end && target_lost program step t values at b.old (progress_of (outcome_of program step proc cut b)).store)
      (λ end. ends_block proc end && target_lost program step t others 0 b.old (progress_of (outcome_of program step proc cut b)).store) (λ end. ap (λ (e : Bool). ends_block proc end && e) (lost_there program step values others at behind t b.old (progress_of (outcome_of program step proc cut b)).store))))
