use Rattle.std.proofs.Common.{ap, ◌∙◌}
use Rattle.civl_types.specs.Views.{scope_of}
use Rattle.civl_types.specs.declared.exprs.Judged.{Judged}
use Rattle.civl_types.proofs.Widths.{judge_is}
use Rattle.civl_types.proofs.exprs.widths_fit.Goals as goal

pub returns : goal.returns
returns c = ap (λ (j : Judged). j.fits) (c.judge.ensures ∙ judge_is (scope_of c.args.view.now) c.args.expr.now)
