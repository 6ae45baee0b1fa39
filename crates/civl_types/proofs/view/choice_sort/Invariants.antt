use Rattle.std.proofs.Common.{◌≡◌, drop}
use Rattle.civl_tree.specs.rules.Scopes.{sort_in, bind_choices}
use Rattle.civl_types.proofs.view.choice_sort.Given as goal

abbrev pub invariant-loop-choice : goal.invariant-loop-choice
invariant-loop-choice l = sort_in (bind_choices (drop l.choice-index l.choices)) l.name ≡ sort_in (bind_choices l.fn.choices) l.fn.name
