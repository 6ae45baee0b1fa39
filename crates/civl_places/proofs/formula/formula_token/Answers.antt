use Rattle.std.proofs.Common.{sym, ap, ◌∙◌}
use Rattle.std.specs.Option.{option_map}
use Rattle.civl_reasons.specs.inner.Told.{subformula}
use Rattle.civl_places.proofs.Places.{formula_within}
use Rattle.civl_places.proofs.formula.formula_token.Goals as goal

pub returns-in-Some-clause-within : goal.returns-in-Some-clause-within
returns-in-Some-clause-within c =
    formula_within c.args.program.now c.args.formula.now (subformula c.in-Some.part) (sym c.formula_at.ensures ∙ ap (option_map subformula) c.in-Some.is)
