use Rattle.std.proofs.Common.{◌≡◌, length, ◌∙◌, sym, ap, true, get_or}
use Rattle.std.specs.Prelude.{is_some, None}
use Rattle.civl_cnf.specs.Literal.{Literal}
use Rattle.civl_units.proofs.Assumed.{assumed_all, stands_twice}
use Rattle.civl_units.proofs.propagation.assume.Goals as goal

pub returns-then-is_some-clause-within : goal.returns-then-is_some-clause-within
returns-then-is_some-clause-within c =
    let marks = c.loop-lit.marks.values in
    let marked : is_some (get_or marks (get_or c.args.clause.now c.loop-lit.lit-index c.lit-item.result).variable None) ≡ true
    = ap (λ v. is_some (get_or marks v None)) (sym (c.variable-variable.ensures.is ∙ ap (λ (l : Literal). l.variable) c.lit-item.is)) ∙ ap is_some (sym c.get.ensures) ∙ sym c.is_some.ensures ∙ c.if-is_some.true in
    (λ t. cc, λ both. absurd (stands_twice marks (length c.args.marks.now.values) c.args.clause.now c.loop-lit.lit-index c.lit-item.result c.loop-lit-test.true c.loop-lit.invariant marked both.1))

pub returns-clause-yes : goal.returns-clause-yes
returns-clause-yes c = λ t. assumed_all c.loop-lit.marks.values (length c.args.marks.now.values) c.args.clause.now c.loop-lit.lit-index c.loop-lit-test.false c.loop-lit.auto.lit-index-end c.loop-lit.invariant
