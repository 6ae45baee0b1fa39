-- Part of the claim: docs/CLAIM.md.
-- Stores: one value for each global.
use Rattle.std.specs.Prelude.{List, map}
use Rattle.civl_tree.specs.declared.program.Global.{Global}
use Rattle.civl_firing.specs.declared.store.Store.{Store}
use Rattle.civl_firing.specs.values.Values.{HaveSorts}

-- a store has one value of the right sort for every global
abbrev pub IsStore : List Global → Store → Type 0
IsStore globals store = HaveSorts store.values (map (λ g. g.sort) globals)
