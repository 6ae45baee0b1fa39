use Rattle.std.proofs.Common.{◌++◌, ◌∙◌, ℕ, List, ap}
use Rattle.civl_conditions.specs.Targets.{target_owned}
use Rattle.civl_losses.proofs.Owning.{owned_on}
use Rattle.civl_losses.proofs.blocks.owned_by_both.Goals as goal

pub returns : goal.returns
returns c =
    let src = c.args.src.now in
    c.in_ok-push_target_owned.ensures
    ∙ ap (λ (pss : List (List ℕ)). pss ++ target_owned src c.args.target c.args.values.now 0)
    (owned_on c.args.route.now c.place.result c.begun.result src c.in_ok-lists.lists.items c.place.ensures c.begun.ensures c.requires.program c.in_ok-lists.ensures)
