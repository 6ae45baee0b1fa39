-- When values violate a condition on the paths of a procedure: it refines its action block by block (refinement by blocks
-- between yields: Hawblitzel, Petrank, Qadeer, Tasiran, CAV 2015; Kragl, Qadeer, CAV 2018. Ranks: Floyd, 1967).
use Rattle.std.specs.Prelude.{ℕ, ◌-◌, Bool, false, not, ◌&&◌, ◌||◌, nat_eq, slice_get}
use Rattle.civl_firing.specs.values.Operators.{two_value}
use Rattle.civl_firing.specs.values.Values.{is_true}
use Rattle.civl_tree.specs.declared.expr.Two.TheVariants.{Lt}
use Rattle.civl_tree.specs.declared.program.Proc.{Proc}
use Rattle.civl_tree.specs.declared.program.Program.{Program}
use Rattle.civl_firing.specs.declared.scope.Scope.{Scope}
use Rattle.civl_firing.specs.Eval.{value_of, values_of}
use Rattle.civl_firing.specs.Fired.{fires}
use Rattle.civl_meaning.specs.Change.{outs_in}
use Rattle.civl_meaning.specs.Layers.{program_at}
use Rattle.civl_layers.specs.declared.cut.Cut.{Cut}
use Rattle.civl_layers.specs.Cuts.{proc_cuts}
use Rattle.civl_conditions.specs.paths.NoteValues.{plain_note_values, note_values, steady_note_values}
use Rattle.civl_conditions.specs.paths.Paths.{Progress, Outcome, path_from, progress_of, has_failed}
use Rattle.civl_conditions.specs.paths.Ends.{is_exit, ends_block, arrived}
use Rattle.civl_conditions.specs.footprints.Agreement.{exists_at}
use Rattle.civl_conditions.specs.declared.condition.Part.{Part}
use Rattle.civl_conditions.specs.declared.condition.Part.TheVariants.{Gate, Invariant, Once, Stutter, Perform, Rank}
use Rattle.civl_conditions.specs.Values.{Begun, same_bool, same_values, same_stores}
use Rattle.civl_conditions.specs.Movers.{on_some}
use Rattle.civl_conditions.specs.Assumed.{cut_invariant, cut_rank, note_holds, refined_action, with_of, inputs_of, assumed}
use Rattle.std.specs.Prelude.{if◌then◌else◌}

-- what the path from a cut comes to, in the lower program
abbrev pub outcome_of : Program → ℕ → Proc → Cut → Begun → Outcome
outcome_of program step proc cut b =
    path_from (record { plain = program_at program (step - 1); proc = proc; chosen = b.chosen }) cut
    (record { store = b.store; locals = b.locals; done = b.done; again = false })

-- the path ends, and there this is so, of the end's number and of the state
abbrev pub at_end : Proc → Outcome → (ℕ → Progress → Bool) → Bool
at_end proc o test = on_some (arrived proc o) (λ end. test end (progress_of o))

-- the path ends a block, and there this is so
abbrev pub at_block_end : Proc → Outcome → (Progress → Bool) → Bool
at_block_end proc o test = at_end proc o (λ end p. ends_block proc end && test p)

-- the values for an invariant where a path ends: behind a block's end old means the present
abbrev pub end_values : Program → Proc → Begun → ℕ → Progress → Scope
end_values program proc b end p =
    if ends_block proc end
    then steady_note_values program.globals proc p.store p.locals p.done
    else note_values program.globals proc p.store p.locals p.done b.old b.old_outs b.old_done

-- gate: a gate or an assert is false where it is reached
abbrev pub gate_fails : Outcome → Bool
gate_fails o = has_failed o

-- invariant: at a cut, its invariant doesn't hold
abbrev pub invariant_fails : Program → Proc → Begun → Outcome → Bool
invariant_fails program proc b o =
    at_end proc o (λ end p. on_some (slice_get (proc_cuts proc) end) (λ cut. not (note_holds (end_values program proc b end p) (cut_invariant proc cut))))

-- once: a commit is passed where `done` is true, or the exit is reached with `done` false
abbrev pub once_fails : Proc → Outcome → Bool
once_fails proc o = (progress_of o).again || at_end proc o (λ end p. is_exit proc end && not p.done)

-- stutter: a block with `done` as in old changes a global of the upper program; or, where old `done` is true, an output
abbrev pub stutter_fails : Program → ℕ → Proc → Begun → Outcome → Bool
stutter_fails program step proc b o =
    at_block_end proc o (λ p.
    same_bool p.done b.old_done
    && (not (same_stores (exists_at step) program p.store b.old) || (b.old_done && not (same_values (outs_in proc p.locals) b.old_outs))))

-- perform: a block with a new commit isn't one step of the refined action from the old globals, with the present values behind
-- `with` for its choices: its guard is false, or it gives another value to a global of the upper program or to an output
abbrev pub perform_fails : Program → ℕ → Proc → Begun → Outcome → Bool
perform_fails program step proc b o =
    at_block_end proc o (λ p.
    p.done
    && (not b.old_done
    && on_some (refined_action program proc) (λ a.
    not (on_some (fires program.globals b.old a (inputs_of proc b.locals) (values_of (plain_note_values program.globals proc p.store p.locals) (with_of proc.refines))) (λ d.
    same_stores (exists_at step) program p.store d.0 && same_values (outs_in proc p.locals) d.1)))))

-- rank: back at the same loop, the rank isn't a smaller number
abbrev pub rank_fails : Program → Proc → ℕ → Cut → Begun → Outcome → Bool
rank_fails program proc c cut b o =
    at_end proc o (λ end p.
    nat_eq end c
    && on_some (cut_rank proc cut) (λ r.
    not (is_true (two_value Lt (value_of (plain_note_values program.globals proc p.store p.locals) r) (value_of (plain_note_values program.globals proc b.store b.locals) r)))))

abbrev pub part_fails : Program → ℕ → Proc → ℕ → Cut → Begun → Outcome → Part → Bool
part_fails program step proc c cut b o Gate = gate_fails o
part_fails program step proc c cut b o Invariant = invariant_fails program proc b o
part_fails program step proc c cut b o Once = once_fails proc o
part_fails program step proc c cut b o Stutter = stutter_fails program step proc b o
part_fails program step proc c cut b o Perform = perform_fails program step proc b o
part_fails program step proc c cut b o Rank = rank_fails program proc c cut b o

-- K9
abbrev pub path_fails : Program → ℕ → Part → Proc → ℕ → Cut → Begun → Bool
path_fails program step part proc c cut b = assumed program step proc c cut b && part_fails program step proc c cut b (outcome_of program step proc cut b) part
