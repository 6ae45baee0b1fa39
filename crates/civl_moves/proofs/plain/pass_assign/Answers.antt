use Rattle.std.proofs.Common.{◌∙◌, ap, subst, List, ℕ}
use Rattle.std.specs.Prelude.{slice_set}
use Rattle.civl_moves.specs.Expressions.{IsBodyTerm}
use Rattle.civl_moves.proofs.Moving.{locals_written}
use Rattle.civl_moves.proofs.Leaving.{one_written}
use Rattle.civl_moves.proofs.plain.pass_assign.Goals as goal

pub returns-clause-moves : goal.returns-clause-moves
returns-clause-moves c =
    let o = c.args.terms.now in
    let n = c.body_term.new.terms in
    let s = c.args.sweep.now in
    let p = c.args.program.now in
    let q = c.args.proc.now in
    let can = c.requires.can in
    let t = subst (λ (is : List ℕ). IsBodyTerm o n p q is c.args.expr.now c.in_ok-id.id) c.as_slice.ensures c.in_ok-id.ensures.term in
    locals_written o n p q s c.in_ok-id.ensures.grows can c.args.target.now c.args.expr.now c.in_ok-id.id c.requires.suits t c.put.new.list (c.put.ensures ∙ ap (λ (k : ℕ). slice_set s.locals k c.in_ok-id.id) c.frame_place.ensures)

pub returns-clause-others : goal.returns-clause-others
returns-clause-others c =
    let s = c.args.sweep.now in
    one_written _ s.locals c.put.new.list c.args.target.now c.in_ok-id.id (c.put.ensures ∙ ap (λ (k : ℕ). slice_set s.locals k c.in_ok-id.id) c.frame_place.ensures)
