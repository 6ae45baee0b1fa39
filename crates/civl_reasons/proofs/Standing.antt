-- Where parts stand in the spelling of a formula.
use Rattle.std.proofs.Common.{◌≡◌, ℕ, ◌+◌, ◌≤◌, true, false, inl, inr, List, [], ◌∷◌, ◌++◌, length, length-append, append_assoc, refl, sym, ap, ◌∙◌, subst, arith}
use Rattle.std.specs.List.{AllByRecursion}
use Rattle.std.proofs.lemmas.Bool.{cases_Bool}
use Rattle.std.proofs.lemmas.List.{append-nil}
use Rattle.civl_tree.specs.declared.expr.Two.{Two}
use Rattle.civl_tree.specs.declared.expr.Expr.{Expr, the_lemmas as of_expr}
use Rattle.civl_tree.specs.declared.expr.Expr as tree
use Rattle.civl_tree.specs.Token.{Token}
use Rattle.civl_tree.specs.Spelling.{open_paren, close_paren, op_token, spell_expr}
use Rattle.civl_firing.specs.declared.scope.Scope.{Scope}
use Rattle.civl_firing.specs.Eval.{value_of}
use Rattle.civl_firing.specs.values.Values.{is_true}
use Rattle.civl_reasons.specs.Reasons.{Subformula, joins, is_joint, parts_from}
use Rattle.civl_reasons.specs.Stands.{StandAt}
use Rattle.civl_reasons.specs.Laws.{AreApart, PartsStand, PartsAreApart}
use Rattle.civl_reasons.proofs.Parts.{by_sides}
use Rattle.civl_reasons.proofs.Reasoning.{both_hold, where_true, where_false, leaf_true, leaf_false}

spell_two : (op : Two) (a b : Expr) → spell_expr (tree.Two op a b) ≡ open_paren ∷ spell_expr a ++ (op_token op ∷ spell_expr b ++ close_paren ∷ [])
spell_two op a b = simp of_expr

length_two : (op : Two) (a b : Expr) → length (spell_expr (tree.Two op a b)) ≡ length (spell_expr a) + length (spell_expr b) + 3
length_two op a b =
    omega (
      arith,
      ap length (spell_two op a b),
      length-append (spell_expr a) (op_token op ∷ spell_expr b ++ close_paren ∷ []),
      length-append (spell_expr b) (close_paren ∷ []),
    )

cut_left : (pre A B post : List Token) (x o z : Token) → pre ++ ((x ∷ A ++ (o ∷ B ++ z ∷ [])) ++ post) ≡ (pre ++ x ∷ []) ++ (A ++ (o ∷ B ++ (z ∷ post)))
cut_left pre A B post x o z = simp append_assoc

cut_right : (pre A B post : List Token) (x o z : Token) → pre ++ ((x ∷ A ++ (o ∷ B ++ z ∷ [])) ++ post) ≡ (pre ++ (x ∷ A ++ o ∷ [])) ++ (B ++ (z ∷ post))
cut_right pre A B post x o z = simp append_assoc

module _ (scope : Scope) where
  abbrev Stands : List Token → Subformula → Type 0
  Stands all part = StandAt (spell_expr part.expr) all part.token

  -- wherever an expression stands, its parts stand at their tokens
  abbrev Stand : Expr → Type 0
  Stand e = (all pre post : List Token) (at : ℕ) → all ≡ pre ++ (spell_expr e ++ post) → length pre ≡ at → AllByRecursion (Stands all) (parts_from scope e at)

  stand_leaf : (e : Expr) → is_joint e ≡ false → Stand e
  stand_leaf e other all pre post at o k = elim (cases_Bool (is_true (value_of scope e))) [
    | inl y ↦ subst (AllByRecursion (Stands all)) (sym (leaf_true scope e at other y)) tt
    | inr n ↦ subst (AllByRecursion (Stands all)) (sym (leaf_false scope e at other n)) (record { before = pre; after = post; parts = o; place_is = k }, tt)
  ]

  stand_two : (op : Two) (a b : Expr) → joins op ≡ true → Stand a → Stand b → Stand (tree.Two op a b)
  stand_two op a b j h k all pre post at o place = elim (cases_Bool (is_true (value_of scope (tree.Two op a b)))) [
    | inl y ↦ subst (AllByRecursion (Stands all)) (sym (where_true scope op a b at y)) tt
    | inr n ↦
        let whole = o ∙ ap (λ (l : List Token). pre ++ (l ++ post)) (spell_two op a b) in
        let first = pre ++ open_paren ∷ [] in
        let second = pre ++ (open_paren ∷ spell_expr a ++ op_token op ∷ []) in
        let one : length first ≡ at + 1 = omega (arith, length-append pre (open_paren ∷ [])) in
        let two : length second ≡ at + length (spell_expr a) + 2
        = omega (arith, length-append pre (open_paren ∷ spell_expr a ++ op_token op ∷ []), length-append (spell_expr a) (op_token op ∷ [])) in
        subst (AllByRecursion (Stands all)) (sym (where_false scope op a b at j n)) (both_hold (Stands all) _ _
        (h all first (op_token op ∷ spell_expr b ++ (close_paren ∷ post)) (at + 1) (whole ∙ cut_left pre (spell_expr a) (spell_expr b) post open_paren (op_token op) close_paren) one)
        (k all second (close_paren ∷ post) (at + length (spell_expr a) + 2) (whole ∙ cut_right pre (spell_expr a) (spell_expr b) post open_paren (op_token op) close_paren) two))
  ]

  all_stand : (e : Expr) → Stand e
  all_stand e = by_sides Stand stand_leaf stand_two e

  -- ---- in order

  lower : (low at : ℕ) (parts : List Subformula) (high : ℕ) → low ≤ at → AreApart at parts high → AreApart low parts high
  lower low at [] high h k = omega arith
  lower low at (part ∷ parts) high h k = (omega (arith, k.0), k.1)

  joined : (low : ℕ) (firsts : List Subformula) (mid from : ℕ) (seconds : List Subformula) (high : ℕ) → AreApart low firsts mid → mid ≤ from → AreApart from seconds high
      → AreApart low (firsts ++ seconds) high
  joined low [] mid from seconds high h m k = lower low from seconds high (omega arith) k
  joined low (part ∷ parts) mid from seconds high h m k = (h.0, joined (part.token + length (spell_expr part.expr)) parts mid from seconds high h.1 m k)

  higher : (low : ℕ) (parts : List Subformula) (mid high : ℕ) → AreApart low parts mid → mid ≤ high → AreApart low parts high
  higher low [] mid high h m = omega arith
  higher low (part ∷ parts) mid high h m = (h.0, higher (part.token + length (spell_expr part.expr)) parts mid high h.1 m)

  abbrev Apart : Expr → Type 0
  Apart e = (at : ℕ) → AreApart at (parts_from scope e at) (at + length (spell_expr e))

  apart_leaf : (e : Expr) → is_joint e ≡ false → Apart e
  apart_leaf e other at = elim (cases_Bool (is_true (value_of scope e))) [
    | inl y ↦ subst (λ (l : List Subformula). AreApart at l (at + length (spell_expr e))) (sym (leaf_true scope e at other y)) (omega arith)
    | inr n ↦ subst (λ (l : List Subformula). AreApart at l (at + length (spell_expr e))) (sym (leaf_false scope e at other n)) (omega arith, omega arith)
  ]

  apart_two : (op : Two) (a b : Expr) → joins op ≡ true → Apart a → Apart b → Apart (tree.Two op a b)
  apart_two op a b j h k at = elim (cases_Bool (is_true (value_of scope (tree.Two op a b)))) [
    | inl y ↦ subst (λ (l : List Subformula). AreApart at l (at + length (spell_expr (tree.Two op a b)))) (sym (where_true scope op a b at y)) (omega arith)
    | inr n ↦
        let end : at + length (spell_expr a) + 2 + length (spell_expr b) ≤ at + length (spell_expr (tree.Two op a b)) = omega (arith, length_two op a b) in
        let sides = joined at (parts_from scope a (at + 1)) (at + 1 + length (spell_expr a)) (at + length (spell_expr a) + 2)
        (parts_from scope b (at + length (spell_expr a) + 2)) (at + length (spell_expr a) + 2 + length (spell_expr b))
        (lower at (at + 1) (parts_from scope a (at + 1)) (at + 1 + length (spell_expr a)) (omega arith) (h (at + 1))) (omega arith) (k (at + length (spell_expr a) + 2)) in
        subst (λ (l : List Subformula). AreApart at l (at + length (spell_expr (tree.Two op a b)))) (sym (where_false scope op a b at j n))
        (higher at _ (at + length (spell_expr a) + 2 + length (spell_expr b)) _ sides end)
  ]

  all_apart : (e : Expr) → Apart e
  all_apart e = by_sides Apart apart_leaf apart_two e

pub parts_stand : PartsStand
parts_stand scope e = all_stand scope e (spell_expr e) [] [] 0 (sym (append-nil (spell_expr e))) refl

pub parts_are_apart : PartsAreApart
parts_are_apart scope e =
    let size : 0 + length (spell_expr e) ≡ length (spell_expr e) = omega arith in
    subst (λ (n : ℕ). AreApart 0 (parts_from scope e 0) n) size (all_apart scope e 0)
