-- Words beside an action: their terms keep their values while the graph grows.
use Rattle.std.specs.Prelude.{All, map}
use Rattle.std.proofs.Common.{◌≡◌, ℕ, List, [], ◌∷◌, ◌++◌, refl, ap, ap₂, Some}
use Rattle.std.proofs.lemmas.List.Elements.{All-nil, All-cons, All-head, All-tail}
use Rattle.civl_bits.specs.declared.value.Value.{Value}
use Rattle.civl_tree.specs.declared.expr.Sort.{Sort}
use Rattle.civl_tree.specs.declared.program.Program.{Program}
use Rattle.civl_meaning.specs.Permissions.{pairwise_disjoint, permissions_of_word}
use Rattle.civl_terms.specs.declared.node.Node.{Node}
use Rattle.civl_terms.specs.Graphs.{sort_at}
use Rattle.civl_terms.specs.Building.{Grows}
use Rattle.civl_actions.specs.Actions.{values_at}
use Rattle.civl_actions.proofs.Staying.{sorted_within}
use Rattle.civl_states.specs.formula_parts.Said.{Env}
use Rattle.civl_states.proofs.formula_parts.Saying.{sort_stays, test_stays, test_where}
use Rattle.civl_states.proofs.formula_parts.Listing.{said_stay}
use Rattle.civl_states.specs.declared.invoked.Invoked.{Invoked}
use Rattle.civl_states.specs.Items.{comes_in}
use Rattle.civl_states.proofs.Runs.{invoked_stays}
use Rattle.civl_movers.specs.interfere.Acting.{TellsApart}

module _ (old new : List Node) (s : Sort) (w : Grows old new) where
  abbrev IsOld : ℕ → Type 0
  IsOld i = sort_at old i ≡ Some s

  pub words_stay : (ids : List ℕ) → All IsOld ids → All (λ i. sort_at new i ≡ Some s) ids
  words_stay [] h = All-nil (λ i. sort_at new i ≡ Some s)
  words_stay (i ∷ ids) h = All-cons (λ i. sort_at new i ≡ Some s) i ids (sort_stays old new i s w (All-head IsOld i ids h)) (words_stay ids (All-tail IsOld i ids h))

  pub words_same : (env : Env) (ids : List ℕ) → All IsOld ids → values_at env new ids ≡ values_at env old ids
  words_same env [] h = refl
  words_same env (i ∷ ids) h = ap₂ (λ (v : Value) (vs : List Value). v ∷ vs) (w.values env i (sorted_within old i s (All-head IsOld i ids h))) (words_same env ids (All-tail IsOld i ids h))

-- it is told of the graph before, and stays told
pub apart_told : (old mid now new : List Node) (program : Program) (globals : List ℕ) (x : Invoked) (owned : List ℕ) (s : Sort) (id : ℕ) → Grows old mid → Grows mid now → Grows now new → All (λ i. sort_at old i ≡ Some s) owned
    → TellsApart mid now program globals x owned id → TellsApart old new program globals x owned id
apart_told old mid now new program globals x owned s id u v w h t = λ a g i c st inv.
    test_stays now new id (λ env. pairwise_disjoint (comes_in program a (g env) (i env) ++ map permissions_of_word (values_at env old owned))) w
    (test_where now id (λ env. pairwise_disjoint (comes_in program a (g env) (i env) ++ map permissions_of_word (values_at env mid owned))) (λ env. pairwise_disjoint (comes_in program a (g env) (i env) ++ map permissions_of_word (values_at env old owned)))
    (λ env fits. ap (λ (vs : List Value). pairwise_disjoint (comes_in program a (g env) (i env) ++ map permissions_of_word vs)) (words_same old mid s u env owned h))
    (t a g i c (said_stay old mid globals _ _ u st) (invoked_stays old mid program x a i c u inv)))
