use Rattle.std.proofs.Common.{◌∙◌, ap, subst, List, ℕ}
use Rattle.std.specs.Prelude.{slice_set}
use Rattle.civl_moves.specs.Expressions.{IsNoteTerm}
use Rattle.civl_moves.proofs.Moving.{globals_written}
use Rattle.civl_moves.proofs.Leaving.{one_written}
use Rattle.civl_moves.proofs.plain.pass_intro.Goals as goal

pub returns-clause-moves : goal.returns-clause-moves
returns-clause-moves c =
    let s = c.args.sweep.now in
    let o = c.args.terms.now in
    let n = c.note_term.new.terms in
    let p = c.args.program.now in
    let q = c.args.proc.now in
    let e = c.args.expr.now in
    let first = subst (λ (is : List ℕ). IsNoteTerm o n p q is c.as_slice-2.result.now e c.in_ok-id.id) c.as_slice.ensures c.in_ok-id.ensures.term in
    let t = subst (λ (is : List ℕ). IsNoteTerm o n p q s.globals is e c.in_ok-id.id) c.as_slice-2.ensures first in
    globals_written c.args.terms.now c.note_term.new.terms c.args.program.now c.args.proc.now s c.in_ok-id.ensures.grows c.requires.can c.args.target.now c.args.expr.now c.in_ok-id.id c.requires.suits t c.put.new.list
    (c.put.ensures ∙ ap (λ (k : ℕ). slice_set s.globals k c.in_ok-id.id) c.global_place.ensures)

pub returns-clause-others : goal.returns-clause-others
returns-clause-others c =
    let s = c.args.sweep.now in
    one_written _ s.globals c.put.new.list c.args.target.now c.in_ok-id.id (c.put.ensures ∙ ap (λ (k : ℕ). slice_set s.globals k c.in_ok-id.id) c.global_place.ensures)
