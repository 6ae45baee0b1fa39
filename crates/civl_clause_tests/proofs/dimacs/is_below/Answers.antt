use Rattle.std.proofs.Common.{◌≡◌, ◌<◌, ◌∙◌, ap, get_or, subst, arith}
use Rattle.std.proofs.lemmas.List.{take_all}
use Rattle.std.proofs.lemmas.List.Elements.{All-more}
use Rattle.civl_cnf.specs.Literal.{Literal}
use Rattle.civl_cnf.specs.ClauseSet.{IsBelow}
use Rattle.civl_clause_tests.proofs.dimacs.is_below.Goals as goal

pub loop-lit-preserved : goal.loop-lit-preserved
loop-lit-preserved c =
    let lits = c.args.lits.now in
    let at = c.loop-lit.lit-index in
    let is : c.variable.result ≡ (get_or lits at c.lit-item.result).variable = c.variable.ensures.is ∙ ap (λ (l : Literal). l.variable) c.lit-item.is in
    All-more (λ (l : Literal). l.variable < c.args.variables) lits at c.lit-item.result c.loop-lit-test.true c.loop-lit.invariant (omega arith)

pub returns : goal.returns
returns c = λ t. subst (IsBelow c.args.variables) (take_all c.loop-lit.lit-index c.args.lits.now c.loop-lit-test.false) c.loop-lit.invariant
