-- The truth of an expression of bools is its value.
use Rattle.std.proofs.Common.{◌≡◌, ℕ, zero, suc, Bool, true, false, ◌&&◌, List, [], ◌∷◌, map, refl, sym, ap, ◌∙◌}
use Rattle.std.specs.Prelude.{slice_index_or, IsTrue}
use Rattle.std.proofs.lemmas.Bool.{false≢true, and_parts}
use Rattle.civl_bits.specs.declared.value.Value.{Value}
use Rattle.civl_bits.specs.declared.value.Value.TheVariants as value
use Rattle.civl_tree.specs.declared.name.Name.{Name}
use Rattle.civl_tree.specs.declared.expr.One.{One}
use Rattle.civl_tree.specs.declared.expr.One.TheVariants.{Not, Flip, Minus}
use Rattle.civl_tree.specs.declared.expr.Two.{Two}
use Rattle.civl_tree.specs.declared.expr.Two.TheVariants.{And, Or}
use Rattle.civl_tree.specs.declared.expr.Expr.{Expr, map-Expr}
use Rattle.civl_tree.specs.declared.expr.Expr.TheFolds.{fold-roll-Expr, ind-Expr}
use Rattle.civl_tree.specs.declared.expr.Expr.TheOpen as expr
use Rattle.civl_firing.specs.Truth.{place_of, truth_of, truth_step, one_truth, two_truth}
use Rattle.civl_firing.specs.values.Operators.{nothing, one_value, two_value}
use Rattle.civl_firing.specs.Eval.{value_of, value_step}
use Rattle.civl_firing.specs.Scope.{present_values}
use Rattle.civl_firing.specs.Agreement.{is_negation, is_and_or, logical_step, is_logical, Agrees, TruthIsValue}

-- a name's value in the one list and in the other
look_same : (store : List Bool) (i : ℕ) → slice_index_or (map (λ b. value.Bool b) store) i nothing ≡ value.Bool (slice_index_or store i false)
look_same [] zero = refl
look_same [] (suc i) = refl
look_same (b ∷ bs) zero = refl
look_same (b ∷ bs) (suc i) = look_same bs i

one_agrees : (op : One) (logical : Bool) (v : Value) (t : Bool) → (is_negation op && logical) ≡ true → (logical ≡ true → v ≡ value.Bool t) → one_value op v ≡ value.Bool (one_truth op t)
one_agrees Not logical v t p h = ap (one_value Not) (h p)
one_agrees Flip logical v t p h = absurd (false≢true p)
one_agrees Minus logical v t p h = absurd (false≢true p)

two_agree : (op : Two) (la lb : Bool) (v w : Value) (t u : Bool) → (is_and_or op && (la && lb)) ≡ true → (la ≡ true → v ≡ value.Bool t) → (lb ≡ true → w ≡ value.Bool u) → two_value op v w ≡ value.Bool (two_truth op t u)
two_agree And la lb v w t u p h k =
    let q = and_parts la lb p in ap (λ (x : Value). two_value And x w) (h q.0) ∙ ap (λ (x : Value). two_value And (value.Bool t) x) (k q.1)
two_agree Or la lb v w t u p h k =
    let q = and_parts la lb p in ap (λ (x : Value). two_value Or x w) (h q.0) ∙ ap (λ (x : Value). two_value Or (value.Bool t) x) (k q.1)
two_agree _ la lb v w t u p h k = absurd (false≢true p)

layer_agrees : {S : Type 0} (names : List Name) (store : List Bool) (y : expr.Expr-F S) (v : S → Expr) → ((x : S) → Agrees names store (v x)) →
    IsTrue (logical_step (map-Expr Expr Bool is_logical (map-Expr S Expr v y))) →
    value_step (present_values names (map (λ b. value.Bool b) store)) (map-Expr Expr Value (value_of (present_values names (map (λ b. value.Bool b) store))) (map-Expr S Expr v y)) ≡ value.Bool (truth_step names store (map-Expr Expr Bool (truth_of names store) (map-Expr S Expr v y)))
layer_agrees names store (expr.Name n) v h p = look_same store (place_of names n)
layer_agrees names store expr.True v h p = refl
layer_agrees names store expr.False v h p = refl
layer_agrees names store (expr.One op a) v h p = one_agrees op _ _ _ p (h a)
layer_agrees names store (expr.Two op a b) v h p = two_agree op _ _ _ _ _ _ p (h a) (h b)
layer_agrees names store _ v h p = absurd (false≢true p)

pub truth_is_value : TruthIsValue
truth_is_value names store e =
    ind-Expr (Agrees names store) (λ x y q p.
    let scope = present_values names (map (λ b. value.Bool b) store) in
    let values = λ (d : expr.Expr-F Expr). value_step scope (map-Expr Expr Value (value_of scope) d) in
    let truths = λ (d : expr.Expr-F Expr). value.Bool (truth_step names store (map-Expr Expr Bool (truth_of names store) d)) in
    let logical = sym (fold-roll-Expr Bool logical_step x) ∙ p in
    fold-roll-Expr Value (value_step scope) x
    ∙ ap values (sym q)
    ∙ layer_agrees names store y (λ z. z.0) (λ z. z.1) (ap (λ (d : expr.Expr-F Expr). logical_step (map-Expr Expr Bool is_logical d)) q ∙ logical)
    ∙ ap truths q
    ∙ ap (λ b. value.Bool b) (sym (fold-roll-Expr Bool (truth_step names store) x))) e
