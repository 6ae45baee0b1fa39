-- The invariants of a step, one after another.
use Rattle.std.specs.Prelude.{map, filter, take, nat_eq, if◌then◌else◌}
use Rattle.std.specs.List.{list_all}
use Rattle.std.proofs.Common.{◌≡◌, ◌∙◌, ℕ, ◌+◌, ◌*◌, ◌≤◌, ◌<◌, Bool, true, false, ◌&&◌, List, [], ◌∷◌, ◌++◌, length, get_or, Some, sym, ap, arith}
use Rattle.std.proofs.lemmas.List.{take_more, map-append, append-nil}
use Rattle.std.proofs.lemmas.List.Elements.{filter-append}
use Rattle.std.proofs.Math.Bool.{and-true, and_assoc}
use Rattle.civl_tree.specs.declared.expr.Expr.{Expr}
use Rattle.civl_tree.specs.declared.program.Invariant.{Invariant}
use Rattle.civl_tree.specs.declared.program.Program.{Program}
use Rattle.civl_firing.specs.declared.store.Store.{Store}
use Rattle.civl_conditions.specs.Weights.{weights_of, global_weight}
use Rattle.civl_conditions.specs.Invariants.{holds_of_globals}
use Rattle.civl_tree.specs.declared.expr.Sort.TheVariants.{Bool as Truth}
use Rattle.civl_terms.specs.declared.node.Node.{Node}
use Rattle.civl_terms.specs.Graphs.{sort_at}
use Rattle.civl_terms.specs.Building.{Grows}
use Rattle.civl_terms.specs.Weights.{graph_weight}
use Rattle.civl_terms.proofs.Growing.{grows_trans}
use Rattle.civl_states.specs.formula_parts.Said.{Env, IsTest}
use Rattle.civl_states.proofs.formula_parts.Saying.{test_as}
use Rattle.civl_states.proofs.formula_parts.Listing.{said_stay}
use Rattle.civl_states.specs.Stores.{AreStore}

-- those of the step among these
abbrev pub of_step : ℕ → List Invariant → List Expr
of_step step is = map (λ i. i.expr) (filter (λ i. nat_eq i.step step) is)

one_more : (step : ℕ) (is : List Invariant) (i : Invariant) → of_step step (is ++ i ∷ []) ≡ of_step step is ++ of_step step (i ∷ [])
one_more step is i = ap (map (λ (j : Invariant). j.expr)) (filter-append (λ (j : Invariant). nat_eq j.step step) is (i ∷ [])) ∙ map-append (λ (j : Invariant). j.expr) (filter (λ j. nat_eq j.step step) is) (filter (λ j. nat_eq j.step step) (i ∷ []))

kept_one : (step : ℕ) (i : Invariant) (b : Bool) → nat_eq i.step step ≡ b → of_step step (i ∷ []) ≡ (if b then i.expr ∷ [] else [])
kept_one step i true e = ap (λ b. map (λ (j : Invariant). j.expr) (if b then i ∷ [] else [])) e
kept_one step i false e = ap (λ b. map (λ (j : Invariant). j.expr) (if b then i ∷ [] else [])) e

module _ (step : ℕ) (is : List Invariant) (k : ℕ) (i : Invariant) (below : k < length is) (here : i ≡ get_or is k i) where
  pub step_more : nat_eq i.step step ≡ true → of_step step (take (k + 1) is) ≡ of_step step (take k is) ++ i.expr ∷ []
  step_more e =
      ap (of_step step) (take_more is k i below ∙ ap (λ (j : Invariant). take k is ++ j ∷ []) (sym here))
      ∙ one_more step (take k is) i ∙ ap (λ es. of_step step (take k is) ++ es) (kept_one step i true e)

  pub step_same : nat_eq i.step step ≡ false → of_step step (take (k + 1) is) ≡ of_step step (take k is)
  step_same e =
      ap (of_step step) (take_more is k i below ∙ ap (λ (j : Invariant). take k is ++ j ∷ []) (sym here))
      ∙ one_more step (take k is) i ∙ ap (λ es. of_step step (take k is) ++ es) (kept_one step i false e) ∙ append-nil (of_step step (take k is))

pub all_last : {A : Type 0} (p : A → Bool) (xs : List A) (x : A) → (list_all p xs && p x) ≡ list_all p (xs ++ x ∷ [])
all_last p [] x = sym (and-true (p x))
all_last p (y ∷ ys) x = and_assoc (p y) (list_all p ys) (p x) ∙ ap (λ b. p y && b) (all_last p ys x)

pub weights_last : (f : Expr → ℕ) (es : List Expr) (e : Expr) → weights_of f (es ++ e ∷ []) ≡ weights_of f es + f e
weights_last f [] e = omega arith
weights_last f (d ∷ es) e = omega (arith, weights_last f es e)

-- ---- as a term

-- the term says that these invariants hold
abbrev pub HoldSo : List Node → Program → List ℕ → List Expr → List Node → ℕ → Type 0
HoldSo old program globals es ns id =
    Grows old ns × (sort_at ns id ≡ Some Truth) × ((g : Env → Store) → AreStore old program globals g → IsTest ns id (λ env. list_all (holds_of_globals program (g env)) es))
    × (graph_weight ns ≤ graph_weight old + 2 * weights_of (global_weight program) es)

-- and one more
pub hold_more : (old now new : List Node) (program : Program) (globals : List ℕ) (es : List Expr) (e : Expr) (id next : ℕ) → HoldSo old program globals es now id → Grows now new → sort_at new next ≡ Some Truth
    → ((f : Env → Bool) (g : Env → Store) → IsTest now id f → AreStore now program globals g → IsTest new next (λ env. f env && holds_of_globals program (g env) e))
    → graph_weight new ≤ graph_weight now + 2 * global_weight program e → HoldSo old program globals (es ++ e ∷ []) new next
hold_more old now new program globals es e id next h w sorted step weighs = (
  grows_trans old now new h.0 w,
  sorted,
  λ g s. test_as new next (λ env. list_all (holds_of_globals program (g env)) es && holds_of_globals program (g env) e) (λ env. list_all (holds_of_globals program (g env)) (es ++ e ∷ [])) (λ env. all_last (holds_of_globals program (g env)) es e)
      (step (λ env. list_all (holds_of_globals program (g env)) es) g (h.2 g s) (said_stay old now globals _ _ h.0 s)),
  omega (arith, h.3, weighs, weights_last (global_weight program) es e),
)
