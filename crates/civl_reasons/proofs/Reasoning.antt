-- Parts are reasons, and there is one exactly where a formula isn't true.
use Rattle.std.proofs.Common.{◌≡◌, ℕ, ◌+◌, ◌<◌, Bool, true, false, inl, inr, ◌⊎◌, List, [], ◌∷◌, ◌++◌, length, length-append, refl, sym, ap, ◌∙◌, subst, arith}
use Rattle.std.specs.List.{AllByRecursion}
use Rattle.std.proofs.lemmas.Bool.{cases_Bool, false≢true}
use Rattle.civl_bits.specs.declared.value.Value.{Value}
use Rattle.civl_bits.specs.declared.value.Value.TheVariants as value
use Rattle.civl_tree.specs.declared.expr.Two.{Two}
use Rattle.civl_tree.specs.declared.expr.Two.TheVariants.{And, Or, Implies}
use Rattle.civl_tree.specs.declared.expr.Expr.{Expr}
use Rattle.civl_tree.specs.declared.expr.Expr as tree
use Rattle.civl_tree.specs.Spelling.{spell_expr}
use Rattle.civl_firing.specs.declared.scope.Scope.{Scope}
use Rattle.civl_firing.specs.Eval.{value_of}
use Rattle.civl_firing.specs.values.Operators.{two_value}
use Rattle.civl_firing.specs.values.Values.{is_true}
use Rattle.civl_reasons.specs.Reasons.{Subformula, joins, is_joint, parts_from}
use Rattle.civl_reasons.specs.Laws.{IsReason, PartsTellTruth, PartsAreReasons, ImpliedParts}
use Rattle.civl_reasons.proofs.Parts.{two_parts, leaf_parts, by_sides}
use Rattle.civl_reasons.proofs.Adding.{two_is}

-- an operation of two true sides is true
sides_true : (op : Two) (v w : Value) → joins op ≡ true → is_true v ≡ true → is_true w ≡ true → is_true (two_value op v w) ≡ true
sides_true And (value.Bool true) (value.Bool true) j p q = refl
sides_true Or (value.Bool true) (value.Bool true) j p q = refl
sides_true Implies (value.Bool true) (value.Bool true) j p q = refl
sides_true And (value.Bool false) w j p q = absurd (false≢true p)
sides_true Or (value.Bool false) w j p q = absurd (false≢true p)
sides_true Implies (value.Bool false) w j p q = absurd (false≢true p)
sides_true And (value.Bool true) (value.Bool false) j p q = absurd (false≢true q)
sides_true Or (value.Bool true) (value.Bool false) j p q = absurd (false≢true q)
sides_true Implies (value.Bool true) (value.Bool false) j p q = absurd (false≢true q)
sides_true op (value.Word a) w j p q = absurd (false≢true p)
sides_true op (value.Row a) w j p q = absurd (false≢true p)
sides_true op v (value.Word b) j p q = absurd (false≢true q)
sides_true op v (value.Row b) j p q = absurd (false≢true q)
sides_true _ v w j p q = absurd (false≢true j)

pub both_hold : {X : Type 0} (P : X → Type 0) (xs ys : List X) → AllByRecursion P xs → AllByRecursion P ys → AllByRecursion P (xs ++ ys)
both_hold P [] ys h k = k
both_hold P (x ∷ xs) ys h k = (h.0, both_hold P xs ys h.1 k)

module _ (scope : Scope) where
  -- the parts of an operation, by its truth
  pub where_true : (op : Two) (a b : Expr) (at : ℕ) → is_true (value_of scope (tree.Two op a b)) ≡ true → parts_from scope (tree.Two op a b) at ≡ []
  where_true op a b at h = two_parts scope op a b at ∙ rw h refl

  pub where_false : (op : Two) (a b : Expr) (at : ℕ) → joins op ≡ true → is_true (value_of scope (tree.Two op a b)) ≡ false
      → parts_from scope (tree.Two op a b) at ≡ parts_from scope a (at + 1) ++ parts_from scope b (at + length (spell_expr a) + 2)
  where_false op a b at j h = two_parts scope op a b at ∙ rw (h, j) refl

  pub leaf_true : (e : Expr) (at : ℕ) → is_joint e ≡ false → is_true (value_of scope e) ≡ true → parts_from scope e at ≡ []
  leaf_true e at other h = leaf_parts scope e at other ∙ rw h refl

  pub leaf_false : (e : Expr) (at : ℕ) → is_joint e ≡ false → is_true (value_of scope e) ≡ false → parts_from scope e at ≡ record { token = at; expr = e } ∷ []
  leaf_false e at other h = leaf_parts scope e at other ∙ rw h refl

  -- ---- reasons

  abbrev Reasons : Expr → Type 0
  Reasons e = (at : ℕ) → AllByRecursion (IsReason scope) (parts_from scope e at)

  reasons_leaf : (e : Expr) → is_joint e ≡ false → Reasons e
  reasons_leaf e other at = elim (cases_Bool (is_true (value_of scope e))) [
    | inl y ↦ subst (AllByRecursion (IsReason scope)) (sym (leaf_true e at other y)) tt
    | inr n ↦ subst (AllByRecursion (IsReason scope)) (sym (leaf_false e at other n)) ((n, other), tt)
  ]

  reasons_two : (op : Two) (a b : Expr) → joins op ≡ true → Reasons a → Reasons b → Reasons (tree.Two op a b)
  reasons_two op a b j h k at = elim (cases_Bool (is_true (value_of scope (tree.Two op a b)))) [
    | inl y ↦ subst (AllByRecursion (IsReason scope)) (sym (where_true op a b at y)) tt
    | inr n ↦ subst (AllByRecursion (IsReason scope)) (sym (where_false op a b at j n)) (both_hold (IsReason scope) _ _ (h (at + 1)) (k (at + length (spell_expr a) + 2)))
  ]

  all_reasons : (e : Expr) → Reasons e
  all_reasons e = by_sides Reasons reasons_leaf reasons_two e

  -- ---- no part exactly where it is true

  abbrev Tells : Expr → Type 0
  Tells e = (at : ℕ) → (is_true (value_of scope e) ≡ true → parts_from scope e at ≡ []) × (is_true (value_of scope e) ≡ false → 0 < length (parts_from scope e at))

  tells_leaf : (e : Expr) → is_joint e ≡ false → Tells e
  tells_leaf e other at = (leaf_true e at other, λ n. rw (leaf_false e at other n) (omega arith))

  some_side : (op : Two) (a b : Expr) → joins op ≡ true → is_true (value_of scope (tree.Two op a b)) ≡ false
      → (is_true (value_of scope a) ≡ false) ⊎ (is_true (value_of scope b) ≡ false)
  some_side op a b j n = elim (cases_Bool (is_true (value_of scope a))) [
    | inr p ↦ inl p
    | inl p ↦ elim (cases_Bool (is_true (value_of scope b))) [
      | inr q ↦ inr q
      | inl q ↦ absurd (false≢true (sym n ∙ ap is_true (two_is scope op a b) ∙ sides_true op (value_of scope a) (value_of scope b) j p q))
    ]
  ]

  tells_two : (op : Two) (a b : Expr) → joins op ≡ true → Tells a → Tells b → Tells (tree.Two op a b)
  tells_two op a b j h k at =
      let left = parts_from scope a (at + 1) in
      let right = parts_from scope b (at + length (spell_expr a) + 2) in (
        where_true op a b at,
        λ n. rw (where_false op a b at j n) (elim (some_side op a b j n) [
          | inl p ↦ omega (arith, length-append left right, (h (at + 1)).1 p)
          | inr q ↦ omega (arith, length-append left right, (k (at + length (spell_expr a) + 2)).1 q)
        ]),
      )

  all_tell : (e : Expr) → Tells e
  all_tell e = by_sides Tells tells_leaf tells_two e

  none_true : (e : Expr) → parts_from scope e 0 ≡ [] → is_true (value_of scope e) ≡ true
  none_true e h = elim (cases_Bool (is_true (value_of scope e))) [
    | inl y ↦ y
    | inr n ↦ absurd (omega (arith, (all_tell e 0).1 n, ap length h))
  ]

pub parts_are_reasons : PartsAreReasons
parts_are_reasons scope e = all_reasons scope e 0

pub parts_tell_truth : PartsTellTruth
parts_tell_truth scope e = ((all_tell scope e 0).0, none_true scope e)

-- ---- implications

implied : (v w : Value) (x y : Bool) → v ≡ value.Bool x → w ≡ value.Bool y → is_true (two_value Implies v w) ≡ false → x ≡ true
implied v w true y p q h = refl
implied v w false y p q h = absurd (false≢true (sym h ∙ ap (λ (z : Value). is_true (two_value Implies z w)) p ∙ ap (λ (z : Value). is_true (two_value Implies (value.Bool false) z)) q))

pub implied_parts : ImpliedParts
implied_parts scope a b x y at p q h =
    let is = implied (value_of scope a) (value_of scope b) x y p q (sym (ap is_true (two_is scope Implies a b)) ∙ h) in
    let none = (all_tell scope a (at + 1)).0 (ap is_true p ∙ is) in
    (is, where_false scope Implies a b at refl h ∙ ap (λ (l : List Subformula). l ++ parts_from scope b (at + length (spell_expr a) + 2)) none)
