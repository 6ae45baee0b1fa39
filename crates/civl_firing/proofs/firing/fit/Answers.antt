use Rattle.std.proofs.Common.{◌≡◌, ◌∙◌, List, [], drop, map, sym, ap, arith}
use Rattle.std.proofs.lemmas.List.{drop_all}
use Rattle.civl_tree.specs.declared.action.Choice.{Choice}
use Rattle.civl_firing.specs.values.Values.{are_of}
use Rattle.civl_firing.proofs.Fitting.{fits_past}
use Rattle.civl_firing.proofs.firing.fit.Goals as goal

pub returns-then-at-chosen-2 : goal.returns-then-at-chosen-2
returns-then-at-chosen-2 c =
    let none : drop c.loop-choice.at c.args.choices.now ≡ [] = drop_all c.loop-choice.at c.args.choices.now (omega arith) in
    sym (fits_past c.args.chosen.now c.loop-choice.at (omega arith)) ∙ ap (λ (cs : List Choice). are_of (drop c.loop-choice.at c.args.chosen.now) (map (λ c. c.sort) cs)) (sym none) ∙ c.loop-choice.invariant.2
