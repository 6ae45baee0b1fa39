use Rattle.std.proofs.Common.{ℕ, List, sym, subst}
use Rattle.civl_moves.specs.Expressions.{IsNoteTerm}
use Rattle.civl_goal_terms.proofs.Noting.{written_told}
use Rattle.civl_goal_terms.proofs.notes.note_at.Goals as goal

pub note_term-requires-clause-proc : goal.note_term-requires-clause-proc
note_term-requires-clause-proc c = (c.args.number, c.requires.proc)

pub note_term-requires-clause-typed : goal.note_term-requires-clause-typed
note_term-requires-clause-typed c = (c.requires.outlined.notes c.args.number c.args.statement c.args.proc.now c.in-Some.note.now c.requires.proc (sym c.in-Some.ensures)).typed

pub returns-in_ok-id-in-Some-clause-tells : goal.returns-in_ok-id-in-Some-clause-tells
returns-in_ok-id-in-Some-clause-tells c =
    let p = c.args.program.now in
    let o = c.args.terms.now in
    let n = c.note_term.new.terms in
    let q = c.args.proc.now in
    let note = c.in-Some.note.now in
    let id = c.in_ok-id-in-Some.id in
    let typed = c.requires.outlined.notes c.args.number c.args.statement q note c.requires.proc (sym c.in-Some.ensures) in
    let said = subst (λ (gs : List ℕ). IsNoteTerm o n p q gs c.args.locals.now note.expr id) c.as_slice-globals.ensures
    (subst (λ (ls : List ℕ). IsNoteTerm o n p q c.as_slice-globals.result.now ls note.expr id) c.as_slice-locals.ensures c.in_ok-id-in-Some.ensures.term) in
    written_told p c.args.outline.now c.args.number c.args.statement q c.requires.proc o n c.args.globals.now c.args.locals.now note id c.in-Some.ensures c.in_ok-id-in-Some.ensures.grows (said.test typed.sorted)
