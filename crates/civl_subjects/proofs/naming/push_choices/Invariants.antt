use Rattle.std.proofs.Common.{◌≡◌, ◌++◌, map, take}
use Rattle.civl_subjects.proofs.naming.push_choices.Given as goal

abbrev pub invariant-loop-choice : goal.invariant-loop-choice
invariant-loop-choice l =
    map (λ name. name.now) l.names.items ≡ map (λ name. name.now) l.fn.names.items
    ++ map (λ choice. choice.name) (take l.choice-index l.choices)
