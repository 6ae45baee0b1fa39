-- The parts of an expression, by its form.
use Rattle.std.proofs.Common.{◌≡◌, ℕ, ◌+◌, Bool, true, false, inl, inr, if◌then◌else◌, List, [], ◌∷◌, ◌++◌, length, refl, sym, ap, ◌∙◌, subst}
use Rattle.std.proofs.lemmas.Bool.{cases_Bool}
use Rattle.civl_tree.specs.declared.expr.Two.{Two}
use Rattle.civl_tree.specs.declared.expr.Expr.{Expr, roll-Expr, out-Expr, roll-out-Expr, map-Expr}
use Rattle.civl_tree.specs.declared.expr.Expr as tree
use Rattle.civl_tree.specs.declared.expr.Expr.TheFolds.{para-roll-Expr, fold-roll-Expr, ind-Expr}
use Rattle.civl_tree.specs.declared.expr.Expr.TheOpen as expr
use Rattle.civl_tree.specs.Spelling.{spell_expr}
use Rattle.civl_firing.specs.declared.scope.Scope.{Scope}
use Rattle.civl_firing.specs.Eval.{value_of}
use Rattle.civl_firing.specs.values.Values.{is_true}
use Rattle.civl_reasons.specs.Reasons.{Subformula, joins, is_joint, joint_step, parts_step, parts_from}

module _ (scope : Scope) where
  abbrev own : Expr → ℕ → List Subformula
  own e at = record { token = at; expr = e } ∷ []

  abbrev pub with_parts : Expr → Expr × (ℕ → List Subformula)
  with_parts e = (e, parts_from scope e)

  layer_parts : (d : expr.Expr-F Expr) (at : ℕ) → parts_from scope (roll-Expr d) at ≡ parts_step scope (map-Expr Expr (Expr × (ℕ → List Subformula)) with_parts d) at
  layer_parts d at = ap (λ (f : ℕ → List Subformula). f at) (para-roll-Expr (ℕ → List Subformula) (parts_step scope) d)

  -- an operation
  pub two_parts : (op : Two) (a b : Expr) (at : ℕ) → parts_from scope (tree.Two op a b) at
      ≡ (if is_true (value_of scope (tree.Two op a b)) then []
      else (if joins op then parts_from scope a (at + 1) ++ parts_from scope b (at + length (spell_expr a) + 2) else own (tree.Two op a b) at))
  unfolding roll-Expr denote.Hole.Carrier.roll
  two_parts op a b at = layer_parts (expr.Two op a b) at

  -- an expression by its layer
  abbrev pub parts_layer : Expr → expr.Expr-F Expr → ℕ → List Subformula
  parts_layer e (expr.Two op a b) at =
      if is_true (value_of scope e) then [] else (if joins op then parts_from scope a (at + 1) ++ parts_from scope b (at + length (spell_expr a) + 2) else own e at)
  parts_layer e _ at = if is_true (value_of scope e) then [] else own e at

  step_is : (d : expr.Expr-F Expr) (at : ℕ) → parts_step scope (map-Expr Expr (Expr × (ℕ → List Subformula)) with_parts d) at ≡ parts_layer (roll-Expr d) d at
  step_is (expr.Two op a b) at = refl
  step_is (expr.One op a) at = refl
  step_is (expr.Pick c a b) at = refl
  step_is (expr.Get a b) at = refl
  step_is (expr.Set a b c) at = refl
  step_is (expr.Fill i a) at = refl
  step_is (expr.Slice a i j) at = refl
  step_is (expr.Widen a w) at = refl
  step_is (expr.Join a b) at = refl
  step_is _ at = refl

  pub parts_is : (e : Expr) (at : ℕ) → parts_from scope e at ≡ parts_layer e (out-Expr e) at
  parts_is e at =
      ap (λ (x : Expr). parts_from scope x at) (sym (roll-out-Expr e)) ∙ layer_parts (out-Expr e) at ∙ step_is (out-Expr e) at
      ∙ ap (λ (x : Expr). parts_layer x (out-Expr e) at) (roll-out-Expr e)

  -- an expression of another form
  leaf_layer : (d : expr.Expr-F Expr) (e : Expr) (at : ℕ) → joint_step (map-Expr Expr Bool is_joint d) ≡ false
      → parts_layer e d at ≡ (if is_true (value_of scope e) then [] else own e at)
  leaf_layer (expr.Two op a b) e at h = rw h refl
  leaf_layer (expr.One op a) e at h = refl
  leaf_layer (expr.Pick c a b) e at h = refl
  leaf_layer (expr.Get a b) e at h = refl
  leaf_layer (expr.Set a b c) e at h = refl
  leaf_layer (expr.Fill i a) e at h = refl
  leaf_layer (expr.Slice a i j) e at h = refl
  leaf_layer (expr.Widen a w) e at h = refl
  leaf_layer (expr.Join a b) e at h = refl
  leaf_layer _ e at h = refl

  pub leaf_parts : (e : Expr) (at : ℕ) → is_joint e ≡ false → parts_from scope e at ≡ (if is_true (value_of scope e) then [] else own e at)
  leaf_parts e at h =
      parts_is e at ∙ leaf_layer (out-Expr e) e at (sym (fold-roll-Expr Bool joint_step (out-Expr e)) ∙ ap is_joint (roll-out-Expr e) ∙ h)

-- ---- forms

two_roll : (op : Two) (a b : Expr) → roll-Expr (expr.Two op a b) ≡ tree.Two op a b
unfolding roll-Expr denote.Hole.Carrier.roll
two_roll op a b = refl

other_layer : (d : expr.Expr-F Expr) → ((op : Two) (a b : Expr) → roll-Expr d ≡ tree.Two op a b → ⊥) → joint_step (map-Expr Expr Bool is_joint d) ≡ false
other_layer (expr.Two op a b) none = absurd (none op a b (two_roll op a b))
other_layer (expr.One op a) none = refl
other_layer (expr.Pick c a b) none = refl
other_layer (expr.Get a b) none = refl
other_layer (expr.Set a b c) none = refl
other_layer (expr.Fill i a) none = refl
other_layer (expr.Slice a i j) none = refl
other_layer (expr.Widen a w) none = refl
other_layer (expr.Join a b) none = refl
other_layer _ none = refl

-- what is no operation of two is none of the three
pub not_two : (e : Expr) → ((op : Two) (a b : Expr) → e ≡ tree.Two op a b → ⊥) → is_joint e ≡ false
not_two e =
    subst (λ (x : Expr). ((op : Two) (a b : Expr) → x ≡ tree.Two op a b → ⊥) → is_joint x ≡ false) (roll-out-Expr e)
    (λ none. fold-roll-Expr Bool joint_step (out-Expr e) ∙ other_layer (out-Expr e) none)

-- ---- induction

-- what holds of each expression that is none of the three operations, and of each of these where it holds of its sides,
-- holds of all
form_holds : {A : Type 0} (P : Expr → Type 0) (leaf : (e : Expr) → is_joint e ≡ false → P e)
    (joint : (op : Two) (a b : Expr) → joins op ≡ true → P a → P b → P (tree.Two op a b))
    (d : expr.Expr-F A) (v : A → Expr) → ((x : A) → P (v x)) → P (roll-Expr (map-Expr A Expr v d))
form_holds P leaf joint (expr.Two op a b) v h = elim (cases_Bool (joins op)) [
  | inl is ↦ subst P (sym (two_roll op (v a) (v b))) (joint op (v a) (v b) is (h a) (h b))
  | inr other ↦ leaf (roll-Expr (expr.Two op (v a) (v b))) (fold-roll-Expr Bool joint_step (expr.Two op (v a) (v b)) ∙ other)
]
form_holds P leaf joint (expr.One op a) v h = leaf _ (fold-roll-Expr Bool joint_step (expr.One op (v a)))
form_holds P leaf joint (expr.Pick c a b) v h = leaf _ (fold-roll-Expr Bool joint_step (expr.Pick (v c) (v a) (v b)))
form_holds P leaf joint (expr.Get a b) v h = leaf _ (fold-roll-Expr Bool joint_step (expr.Get (v a) (v b)))
form_holds P leaf joint (expr.Set a b c) v h = leaf _ (fold-roll-Expr Bool joint_step (expr.Set (v a) (v b) (v c)))
form_holds P leaf joint (expr.Fill i a) v h = leaf _ (fold-roll-Expr Bool joint_step (expr.Fill i (v a)))
form_holds P leaf joint (expr.Slice a i j) v h = leaf _ (fold-roll-Expr Bool joint_step (expr.Slice (v a) i j))
form_holds P leaf joint (expr.Widen a w) v h = leaf _ (fold-roll-Expr Bool joint_step (expr.Widen (v a) w))
form_holds P leaf joint (expr.Join a b) v h = leaf _ (fold-roll-Expr Bool joint_step (expr.Join (v a) (v b)))
form_holds P leaf joint _ v h = leaf _ (fold-roll-Expr Bool joint_step _)

pub by_sides : (P : Expr → Type 0) (leaf : (e : Expr) → is_joint e ≡ false → P e)
    (joint : (op : Two) (a b : Expr) → joins op ≡ true → P a → P b → P (tree.Two op a b)) (e : Expr) → P e
by_sides P leaf joint e =
    ind-Expr P (λ x y q. subst (λ (d : expr.Expr-F Expr). P (roll-Expr d)) q (form_holds P leaf joint y (λ z. z.0) (λ z. z.1))) e
