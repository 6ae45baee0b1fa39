-- The values of the names in notes: what a procedure says of the store beside its own names, in the invariants of its
-- yields and loops, in ranks, in the values of intros and after `with`. (Invariants of yields and cooperation with them:
-- Kragl, Qadeer, CAV 2018; the values of an old state: Hoare logic's auxiliary variables.)
use Rattle.std.specs.Prelude.{◌+◌, Bool, List, ◌++◌, length, take, drop}
use Rattle.civl_bits.specs.declared.value.Value.{Value}
use Rattle.civl_tree.specs.declared.name.Name.{Name}
use Rattle.civl_tree.specs.declared.program.Global.{Global}
use Rattle.civl_tree.specs.declared.program.Proc.{Proc}
use Rattle.civl_tree.specs.rules.Names.{global_names, names_in_proc}
use Rattle.civl_firing.specs.declared.store.Store.{Store}
use Rattle.civl_firing.specs.declared.scope.Scope.{Scope}
use Rattle.civl_firing.specs.Scope.{present_values}
use Rattle.civl_meaning.specs.Change.{outs_in}

-- the globals, and the parameters, outputs and locals of a procedure
abbrev pub note_names : List Global → Proc → List Name
note_names globals proc = global_names globals ++ names_in_proc proc

-- ranks, intros and `with`, which say nothing of `done` and of old values
abbrev pub plain_note_values : List Global → Proc → Store → List Value → Scope
plain_note_values globals proc store locals = present_values (note_names globals proc) (store.values ++ locals)

-- the values of a frame, with these in the place of its outputs
abbrev pub with_outs : Proc → List Value → List Value → List Value
with_outs proc locals outs = take (length proc.params) locals ++ (outs ++ drop (length proc.params + length proc.outs) locals)

-- an invariant, with the old values of the globals, of the outputs and of `done`
abbrev pub note_values : List Global → Proc → Store → List Value → Bool → Store → List Value → Bool → Scope
note_values globals proc store locals done old old_outs old_done = record {
  names = note_names globals proc;
  values = store.values ++ locals;
  old = old.values ++ with_outs proc locals old_outs;
  done = done;
  old_done = old_done;
}

-- an invariant where old means the present: at a block's beginning, and behind its end
abbrev pub steady_note_values : List Global → Proc → Store → List Value → Bool → Scope
steady_note_values globals proc store locals done = note_values globals proc store locals done store (outs_in proc locals) done
