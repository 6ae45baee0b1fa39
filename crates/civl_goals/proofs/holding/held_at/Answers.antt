use Rattle.std.proofs.Common.{[], ◌∙◌}
use Rattle.civl_linear.proofs.Limits.{names_fit}
use Rattle.civl_goals.specs.Failed.{held_before}
use Rattle.civl_goals.proofs.Unheld.{of_some, of_none}
use Rattle.civl_goals.proofs.holding.held_at.Goals as goal

pub held_in-requires : goal.held_in-requires
held_in-requires c = names_fit c.args.program.now c.requires.rules c.as_slice.result.now c.as_slice.ensures c.args.number c.in-Some.proc.now c.in-Some.ensures.lookup.3.0 c.in-Some.ensures.lookup.1

pub returns-in_ok-numbers-in-Some : goal.returns-in_ok-numbers-in-Some
returns-in_ok-numbers-in-Some c =
    c.in_ok-numbers-in-Some.ensures
    ∙ of_some (λ proc. held_before c.args.program.now proc c.args.statement) [] c.args.program.now c.as_slice.result.now c.args.number c.in-Some.proc.now c.as_slice.ensures c.in-Some.ensures.lookup.3.0 c.in-Some.ensures.lookup.1

pub returns-in-None : goal.returns-in-None
returns-in-None c =
    c.new.ensures ∙ of_none (λ proc. held_before c.args.program.now proc c.args.statement) [] c.args.program.now c.as_slice.result.now c.args.number c.as_slice.ensures c.in-None.ensures.lookup.3
