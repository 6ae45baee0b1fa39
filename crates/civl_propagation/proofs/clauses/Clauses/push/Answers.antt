use Rattle.std.proofs.Common.{◌∙◌, ◌++◌, ◌∷◌, [], List, ap, arith}
use Rattle.civl_cnf.specs.Literal.{Literal}
use Rattle.civl_propagation.proofs.Spans.{parts_push}
use Rattle.civl_propagation.proofs.clauses.Clauses.push.Goals as goal

pub returns : goal.returns
returns c =
    parts_push c.self.inside.lits.items c.extend_from_slice.new.self.items c.args.clause.now c.self.inside.spans.items c.push.new.self.items (record { start = c.in_ok-start.start; len = c.in_ok-len.len }) c.self.invariant c.in_ok-extend_from_slice.ensures.items c.in_ok-push.ensures.items (omega (arith, c.len.ensures, c.in_ok-start.ensures)) (omega (arith, c.in_ok-len.ensures))
    ∙ ap (λ (xs : List (List Literal)). xs ++ c.args.clause.now ∷ []) c.self.view_is
