use Rattle.std.proofs.Common.{◌∙◌, refl}
use Rattle.civl_tree.specs.rules.Scopes.{note_scope}
use Rattle.civl_actions.specs.declared.scope.Scope.{Scope}
use Rattle.civl_states.proofs.Noting.{note_fits, note_meant, said_of, test_of}
use Rattle.civl_states.proofs.notes.note.Goals as goal

pub term-requires : goal.term-requires
term-requires c =
    let p = c.args.program.now in
    let q = c.args.proc.now in
    let v = c.args.view.now in
    let fits = note_fits c.args.terms.now p q v c.requires.view c.requires.rules c.requires.proc
    (record { names = c.note_names.result; values = c.as_slice.result; old = c.as_slice-2.result; done = v.done; old_done = v.old_done }) c.note_names.ensures
    (c.as_slice.ensures.value ∙ c.in_ok-values.ensures) (c.as_slice-2.ensures.value ∙ c.in_ok-old.ensures) refl refl in
    (note_scope p q, fits, c.requires.typed)

pub returns-clause-note : goal.returns-clause-note
returns-clause-note c =
    let p = c.args.program.now in
    let q = c.args.proc.now in
    let v = c.args.view.now in
    let o = c.args.terms.now in
    let n = c.term.new.terms in
    let sc : Scope = record { names = c.note_names.result; values = c.as_slice.result; old = c.as_slice-2.result; done = v.done; old_done = v.old_done } in
    let present = c.as_slice.ensures.value ∙ c.in_ok-values.ensures in
    let olds = c.as_slice-2.ensures.value ∙ c.in_ok-old.ensures in
    let fits = note_fits o p q v c.requires.view c.requires.rules c.requires.proc sc c.note_names.ensures present olds refl refl in
    let meant = note_meant o p q v c.requires.view c.requires.rules c.requires.proc sc c.note_names.ensures present olds refl refl in
    record {
      said = λ sort s sorted seen. said_of o n sc (note_scope p q) c.args.expr.now c.in_ok-id.id sort _ c.in_ok-id.ensures.grows fits (meant s seen) c.requires.typed sorted c.in_ok-id.ensures.built;
      holds = λ s sorted seen. test_of o n sc (note_scope p q) c.args.expr.now c.in_ok-id.id _ c.len-count.ensures.graph c.in_ok-id.ensures.grows fits (meant s seen) c.requires.typed sorted c.in_ok-id.ensures.built;
    }

pub returns-clause-sorted : goal.returns-clause-sorted
returns-clause-sorted c =
    let v = c.args.view.now in
    let fits = note_fits c.args.terms.now c.args.program.now c.args.proc.now v c.requires.view c.requires.rules c.requires.proc
    (record { names = c.note_names.result; values = c.as_slice.result; old = c.as_slice-2.result; done = v.done; old_done = v.old_done }) c.note_names.ensures
    (c.as_slice.ensures.value ∙ c.in_ok-values.ensures) (c.as_slice-2.ensures.value ∙ c.in_ok-old.ensures) refl refl in
    c.in_ok-id.ensures.built.sorted (note_scope c.args.program.now c.args.proc.now) fits c.requires.typed

pub returns-clause-weighs : goal.returns-clause-weighs
returns-clause-weighs c =
    let v = c.args.view.now in
    let fits = note_fits c.args.terms.now c.args.program.now c.args.proc.now v c.requires.view c.requires.rules c.requires.proc
    (record { names = c.note_names.result; values = c.as_slice.result; old = c.as_slice-2.result; done = v.done; old_done = v.old_done }) c.note_names.ensures
    (c.as_slice.ensures.value ∙ c.in_ok-values.ensures) (c.as_slice-2.ensures.value ∙ c.in_ok-old.ensures) refl refl in
    c.in_ok-id.ensures.built.weighs (note_scope c.args.program.now c.args.proc.now) fits c.requires.typed
