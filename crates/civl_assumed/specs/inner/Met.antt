-- What is assumed at a cut, but for permissions.
use Rattle.std.specs.Prelude.{ℕ, Bool, ◌&&◌, if◌then◌else◌}
use Rattle.civl_tree.specs.declared.program.Proc.{Proc}
use Rattle.civl_tree.specs.declared.program.Program.{Program}
use Rattle.civl_firing.specs.declared.scope.Scope.{Scope}
use Rattle.civl_layers.specs.declared.cut.Cut.{Cut}
use Rattle.civl_conditions.specs.paths.NoteValues.{note_values}
use Rattle.civl_conditions.specs.Invariants.{invariants_hold}
use Rattle.civl_conditions.specs.Values.{Begun}
use Rattle.civl_conditions.specs.Assumed.{cut_invariant, note_holds, refined_gate}

-- what the names in the note of a cut stand for, where a path begins there
abbrev pub scope_begun : Program → Proc → Begun → Scope
scope_begun program proc b = note_values program.globals proc b.store b.locals b.done b.old b.old_outs b.old_done

-- where old `done` is true, `done` is; and else the gate of the refined action holds
abbrev pub may_begin : Program → Proc → Begun → Bool
may_begin program proc b = if b.old_done then b.done else refined_gate program proc b

abbrev pub values_meet : Program → ℕ → Proc → Cut → Begun → Bool
values_meet program step proc cut b =
    invariants_hold program step b.old && (note_holds (scope_begun program proc b) (cut_invariant proc cut) && may_begin program proc b)
