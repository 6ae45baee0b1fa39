use Rattle.std.proofs.Common.{◌≡◌, ◌++◌, ◌∙◌, ℕ, List, ap, subst}
use Rattle.std.specs.Prelude.{OnOk}
use Rattle.civl_conditions.specs.Permissions.{of_held}
use Rattle.civl_goals.specs.Failed.{held_before}
use Rattle.civl_goal_losses.proofs.Owned.{owned_there}
use Rattle.civl_goal_losses.proofs.assuming.push_owned.Goals as goal

pub returns : goal.returns
returns c =
    let stand = c.args.stand.now in
    let same = ap (λ (ns : List ℕ). of_held ns stand.locals.now) (c.as_slice.ensures ∙ c.in_ok-numbers.ensures)
    ∙ owned_there (λ proc. held_before c.args.src.now proc stand.statement) c.args.src.now stand.root stand.locals.now in
    subst (λ (xs : List (List ℕ)). OnOk c.push_held.result (c.push_held.new.lists.items ≡ c.args.lists.now.items ++ xs)) same c.push_held.ensures
