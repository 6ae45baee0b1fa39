use Rattle.std.proofs.Common.{◌≡◌, ◌++◌, drop, flat_map, codes}
use Rattle.civl_firing.specs.Names.{names_of}
use Rattle.civl_path_stories.specs.Paths.{change_texts}
use Rattle.civl_path_stories.proofs.changes.put_more_changes.Given as goal

abbrev pub invariant-loop-change : goal.invariant-loop-change
invariant-loop-change l =
    l.out.items ++ flat_map (λ text. codes ", " ++ text) (change_texts (names_of l.names) (drop l.change-index l.changes))
    ≡ l.fn.out.items ++ flat_map (λ text. codes ", " ++ text) (change_texts (names_of l.names) l.changes)
