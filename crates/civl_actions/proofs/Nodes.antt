-- Lists of nodes and their sorts: as long as each other, and one behind the other.
use Rattle.std.proofs.Common.{◌≡◌, ◌∙◌, ℕ, List, length, sym, ap, Some, ◌++◌, ap₂, Option}
use Rattle.std.proofs.lemmas.List.{length-map, map-append}
use Rattle.civl_tree.specs.declared.expr.Sort.{Sort}
use Rattle.civl_terms.specs.declared.node.Node.{Node}
use Rattle.civl_terms.specs.Graphs.{sort_at}
use Rattle.civl_actions.specs.Scopes.{AreOf}

pub are_long : (ns : List Node) (ids : List ℕ) (ss : List Sort) → AreOf ns ids ss → length ids ≡ length ss
are_long ns ids ss h = sym (length-map ids (sort_at ns)) ∙ ap length h ∙ length-map ss (λ (s : Sort). Some s)

pub are_joined : (ns : List Node) (xs ys : List ℕ) (ss ts : List Sort) → AreOf ns xs ss → AreOf ns ys ts → AreOf ns (xs ++ ys) (ss ++ ts)
are_joined ns xs ys ss ts p q = map-append (sort_at ns) xs ys ∙ ap₂ (λ (os ps : List (Option Sort)). os ++ ps) p q ∙ sym (map-append (λ (s : Sort). Some s) ss ts)
