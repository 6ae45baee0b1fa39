use Rattle.std.proofs.Common.{ℕ, [], ◌∙◌, sym, ap₂, subst}
use Rattle.civl_tree.specs.declared.program.Program.{Program}
use Rattle.civl_tree.specs.rules.Rules.{Keeps}
use Rattle.civl_yields.specs.YieldRules.{yield_rules}
use Rattle.civl_conditions.specs.Steps.{of_proc}
use Rattle.civl_goals.specs.Failed.{held_before}
use Rattle.civl_goal_terms.specs.inner.There.{HasStatement}
use Rattle.civl_goal_terms.proofs.OthersBeside.{held_there}
use Rattle.civl_goal_terms.proofs.others.other_fails.Goals as goal

pub find-requires-clause-yields : goal.find-requires-clause-yields
find-requires-clause-yields c = subst (λ (p : Program). Keeps yield_rules p) (sym c.program-program.ensures.same) c.requires.yields

pub find-requires-clause-there : goal.find-requires-clause-there
find-requires-clause-there c = subst (λ (p : Program). HasStatement p c.args.root c.args.number) (sym c.program-program.ensures.same) c.requires.there.0.0

pub other_over-requires-clause-held : goal.other_over-requires-clause-held
other_over-requires-clause-held c =
    let src = c.args.src.now in
    let at = c.in_ok-at.at in
    held_there c.program-program.result.now src at.root at.number at.proc.now c.as_slice.result.now c.program-program.ensures.same c.in_ok-at.ensures.is.proc
    (c.as_slice.ensures ∙ (c.in_ok-held.ensures ∙ ap₂ (λ (r s : ℕ). of_proc src r [] (λ q. held_before src q s)) (sym c.in_ok-at.ensures.root) (sym c.in_ok-at.ensures.number)))
