-- Variables of a formula, one more and so many.
use Rattle.std.specs.Prelude.{slice_get}
use Rattle.std.proofs.Common.{◌≡◌, ◌∙◌, ℕ, ◌+◌, List, [], ◌∷◌, ◌++◌, inl, inr, sym, ap, subst, arith, Some}
use Rattle.std.proofs.lemmas.Option.{same_Some}
use Rattle.civl_tree.specs.declared.expr.Sort.{Sort}
use Rattle.civl_terms.specs.declared.node.Node.{Node}
use Rattle.civl_terms.specs.declared.node.Node.TheVariants.{Variable}
use Rattle.civl_terms.specs.Graphs.{IsFree}
use Rattle.civl_terms.specs.Building.{Grows, Numbers}
use Rattle.civl_terms.proofs.Places.{slice_either}
use Rattle.civl_states.specs.formula_parts.Given.{bits_of_sorts, AreVariablesOf}

-- the number has the list's sort in the graph
pub free_in : (ns : List Node) (sorts : List Sort) (k : ℕ) (s : Sort) → AreVariablesOf ns sorts → slice_get sorts k ≡ Some s → IsFree ns k s
free_in ns sorts k s v e i t h = same_Some t s (sym (v i k t h) ∙ e)

same_variable : (k l : ℕ) (s t : Sort) → Some (Variable k s) ≡ Some (Variable l t) → (k ≡ l) × (s ≡ t)
same_variable k l s t e = (cc, cc)

-- with one more variable
pub variables_stay : (old new : List Node) (sorts : List Sort) (k id : ℕ) (s : Sort) → AreVariablesOf old sorts → slice_get sorts k ≡ Some s → Numbers old new (Variable k s) id → AreVariablesOf new sorts
variables_stay old new sorts k id s v e n = elim n.adds [
  | inl q ↦ subst (λ ns. AreVariablesOf ns sorts) (sym q) v
  | inr q ↦ subst (λ ns. AreVariablesOf ns sorts) (sym q) added
]
  where
    added : AreVariablesOf (old ++ Variable k s ∷ []) sorts
    added i l t h = elim (slice_either old (Variable k s) (Variable l t) i h) [
      | inl p ↦ v i l t p
      | inr p ↦
          let r = same_variable k l s t (ap (λ (m : Node). Some m) p.1) in
          subst (λ (j : ℕ). slice_get sorts j ≡ Some t) r.0 (e ∙ ap (λ (u : Sort). Some u) r.1)
    ]

-- in a graph that grows the variables are those of before
pub variables_kept : (old new : List Node) (sorts : List Sort) → Grows old new → AreVariablesOf old sorts → AreVariablesOf new sorts
variables_kept old new sorts g v i k s e = v i k s (g.variables i k s e)

-- the bits of joined lists of sorts
pub bits-append : (ss ts : List Sort) → bits_of_sorts (ss ++ ts) ≡ bits_of_sorts ss + bits_of_sorts ts
bits-append [] ts = omega arith
bits-append (s ∷ ss) ts = omega (arith, bits-append ss ts)

-- an empty graph has no variables
pub no_variables : (ns : List Node) (sorts : List Sort) → ns ≡ [] → AreVariablesOf ns sorts
no_variables ns sorts e i k s at = let none : slice_get [] i ≡ Some (Variable k s) = ap (λ (ms : List Node). slice_get ms i) (sym e) ∙ at in absurd (cc)
