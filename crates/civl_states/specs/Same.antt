-- Whether two stores agree on the globals of a layer, as a term, and what that weighs.
use Rattle.std.specs.Prelude.{ℕ, ◌+◌, List, length, map, filter}
use Rattle.civl_tree.specs.declared.expr.Sort.{Sort}
use Rattle.civl_tree.specs.declared.program.Program.{Program}
use Rattle.civl_firing.specs.declared.store.Store.{Store}
use Rattle.civl_terms.specs.declared.node.Node.{Node}
use Rattle.civl_conditions.specs.footprints.Agreement.{exists_at}
use Rattle.civl_conditions.specs.Values.{same_stores}
use Rattle.civl_states.specs.formula_parts.Said.{Env, IsTest}
use Rattle.civl_states.specs.formula_parts.Given.{bits_of_sorts}
use Rattle.civl_states.specs.Stores.{AreStore}

-- the sorts of the globals of a layer
abbrev pub layer_sorts : Program → ℕ → List Sort
layer_sorts program layer = map (λ g. g.sort) (filter (exists_at layer) program.globals)

-- what it weighs to compare values of these sorts: their bits, and 1 for each
abbrev pub same_weight : List Sort → ℕ
same_weight sorts = bits_of_sorts sorts + length sorts

-- the term says whether two stores agree on the globals of a layer
abbrev pub TellsSame : List Node → List Node → Program → ℕ → List ℕ → List ℕ → ℕ → Type 0
TellsSame old new program layer there back id =
    (g h : Env → Store) → AreStore old program there g → AreStore old program back h → IsTest new id (λ env. same_stores (exists_at layer) program (g env) (h env))
