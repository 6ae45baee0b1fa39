-- Terms for a store: one for each global, in the order of the text.
use Rattle.std.specs.Prelude.{ℕ, List, map}
use Rattle.civl_tree.specs.declared.expr.Sort.{Sort}
use Rattle.civl_tree.specs.declared.program.Program.{Program}
use Rattle.civl_firing.specs.declared.store.Store.{Store}
use Rattle.civl_terms.specs.declared.node.Node.{Node}
use Rattle.civl_actions.specs.Scopes.{AreOf}
use Rattle.civl_states.specs.formula_parts.Said.{Env}
use Rattle.civl_states.specs.formula_parts.Lists.{AreSaid}

abbrev pub global_sorts : Program → List Sort
global_sorts program = map (λ g. g.sort) program.globals

-- terms of the globals' sorts
abbrev pub AreGlobals : List Node → Program → List ℕ → Type 0
AreGlobals ns program ids = AreOf ns ids (global_sorts program)

-- terms for the globals that say this store
abbrev pub AreStore : List Node → Program → List ℕ → (Env → Store) → Type 0
AreStore ns program ids g = AreSaid ns ids (global_sorts program) (λ env. (g env).values)
