use Rattle.std.proofs.Common.{◌≡◌, ◌++◌, drop}
use Rattle.std.specs.Prelude.{codes}
use Rattle.std.specs.List.{flat_map}
use Rattle.civl_action_stories.proofs.texts.put_others.Given as goal

abbrev pub invariant-loop-text : goal.invariant-loop-text
invariant-loop-text l =
    l.out.items ++ flat_map (λ text. codes ", " ++ text) (drop l.text-index l.texts)
    ≡ l.fn.out.items ++ flat_map (λ text. codes ", " ++ text) l.texts
