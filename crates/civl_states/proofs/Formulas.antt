-- A term that says something of all variables' values is the term of a formula.
use Rattle.std.specs.Prelude.{slice_get, get_or, All, IsTrue}
use Rattle.std.proofs.Common.{◌≡◌, ◌∙◌, ℕ, zero, suc, Bool, List, [], ◌∷◌, length, refl, sym, ap, subst, Some}
use Rattle.std.proofs.lemmas.Bool.{false≢true, and_parts}
use Rattle.std.proofs.lemmas.List.Elements.{All-head, All-tail}
use Rattle.civl_bits.specs.declared.value.Value.{Value}
use Rattle.civl_bits.specs.declared.value.Value.TheVariants as value
use Rattle.civl_bits.specs.Value.{IsValue}
use Rattle.civl_tree.specs.declared.expr.Sort.{Sort}
use Rattle.civl_firing.specs.values.Operators.{nothing}
use Rattle.civl_firing.specs.values.Values.{HasSort, HaveSorts, is_of, are_of}
use Rattle.civl_terms.specs.declared.node.Node.{Node}
use Rattle.civl_terms.specs.Graphs.{Fits, listed}
use Rattle.civl_states.specs.formula_parts.Said.{IsTest}
use Rattle.civl_states.specs.formula_parts.Given.{given, AreVariablesOf}
use Rattle.civl_states.specs.Formulas.{IsFormula}
use Rattle.civl_states.proofs.Given.{given_listed}

have_at : (vs : List Value) (ss : List Sort) (k : ℕ) (s : Sort) → All IsValue vs → IsTrue (are_of vs ss) → slice_get ss k ≡ Some s → HasSort (get_or vs k nothing) s
have_at [] [] k s p q e = absurd (cc)
have_at [] (t ∷ ss) k s p q e = absurd (false≢true q)
have_at (v ∷ vs) [] k s p q e = absurd (false≢true q)
have_at (v ∷ vs) (t ∷ ss) zero s p q e =
    let same : t ≡ s = cc in
    (All-head IsValue v vs p, subst (λ u. IsTrue (is_of v u)) same (and_parts _ _ q).0)
have_at (v ∷ vs) (t ∷ ss) (suc k) s p q e = have_at vs ss k s (All-tail IsValue v vs p) (and_parts _ _ q).1 e

pub have_long : (vs : List Value) (ss : List Sort) → IsTrue (are_of vs ss) → length vs ≡ length ss
have_long [] [] q = refl
have_long [] (t ∷ ss) q = absurd (false≢true q)
have_long (v ∷ vs) [] q = absurd (false≢true q)
have_long (v ∷ vs) (t ∷ ss) q = ap suc (have_long vs ss (and_parts _ _ q).1)

-- values of the variables' sorts fit the graph
pub listed_fits : (ns : List Node) (sorts : List Sort) (values : List Value) → AreVariablesOf ns sorts → HaveSorts values sorts → Fits (listed values) ns
listed_fits ns sorts values variables have i k s e = have_at values sorts k s have.fit have.are (variables i k s e)

pub formula_of : (ns : List Node) (id : ℕ) (sorts : List Sort) (truth : List Value → Bool) → AreVariablesOf ns sorts → IsTest ns id (λ env. truth (given env 0 (length sorts))) → IsFormula ns id sorts truth
formula_of ns id sorts truth variables t = record {
  sorted = t.sorted;
  variables = variables;
  is = λ values have.
      let all : given (listed values) 0 (length sorts) ≡ values = ap (given (listed values) 0) (sym (have_long values sorts have.are)) ∙ given_listed values in
      t.is (listed values) (listed_fits ns sorts values variables have) ∙ ap (λ vs. value.Bool (truth vs)) all;
}
