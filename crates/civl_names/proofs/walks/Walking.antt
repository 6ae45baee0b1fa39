-- Walks over statements, part by part.
use Rattle.std.proofs.Common.{◌≡◌, ℕ, suc, ◌+◌, ◌<◌, ◌≤◌, Bool, true, false, List, [], ◌∷◌, ◌++◌, drop, length, get_or, None, Some, refl, sym, ap, ◌∙◌, arith}
use Rattle.std.specs.Prelude.{Option, if◌then◌else◌}
use Rattle.std.proofs.lemmas.List.{append_assoc, length-append, drop_more, drop_all}
use Rattle.civl_tree.specs.declared.expr.Expr.{Expr}
use Rattle.civl_tree.specs.declared.stmt.Stmt.{Stmt}
use Rattle.civl_tree.specs.declared.stmt.Stmt as tree
use Rattle.civl_tree.specs.Numbering.{statements_of, inner_of}
use Rattle.civl_tree.specs.rules.Rules.{numbers_where, first_of}
use Rattle.civl_tree.proofs.Preorder.{preorder, inner_is, inner_layer}
use Rattle.civl_tree.proofs.Sizes.{if_out, while_out, yield_loop_out, rank_loop_out}

-- the first of two answers
abbrev pub or_first : {A : Type 0} → Option A → Option A → Option A
or_first None second = second
or_first (Some value) second = Some value

pub first_append : {A : Type 0} (xs ys : List A) → first_of (xs ++ ys) ≡ or_first (first_of xs) (first_of ys)
first_append [] ys = refl
first_append (x ∷ xs) ys = refl

module _ (breaks : Stmt → Bool) where
  pub numbers_none : (number : ℕ) → numbers_where breaks number [] ≡ []
  unfolding numbers_where
  numbers_none number = refl

  pub numbers_append : (number : ℕ) (xs ys : List Stmt) → numbers_where breaks number (xs ++ ys) ≡ numbers_where breaks number xs ++ numbers_where breaks (number + length xs) ys
  unfolding numbers_where
  numbers_append number [] ys = ap (λ (n : ℕ). numbers_where breaks n ys) (omega arith)
  numbers_append number (x ∷ xs) ys =
      let next : number + 1 + length xs ≡ number + suc (length xs) = omega arith in
      ap (λ (ns : List ℕ). (if breaks x then number ∷ [] else []) ++ ns) (numbers_append (number + 1) xs ys ∙ ap (λ (n : ℕ). numbers_where breaks (number + 1) xs ++ numbers_where breaks n ys) next)
      ∙ sym (append_assoc (if breaks x then number ∷ [] else []) (numbers_where breaks (number + 1) xs) (numbers_where breaks (number + suc (length xs)) ys))

-- where nothing is asked, nothing is told
pub none_asked : (number : ℕ) (stmts : List Stmt) → numbers_where (λ stmt. false) number stmts ≡ []
unfolding numbers_where
none_asked number [] = refl
none_asked number (stmt ∷ stmts) = none_asked (number + 1) stmts

-- the statement at this place, those in it, and those behind
split : (items : List Stmt) (i : ℕ) (stmt : Stmt) → i < length items → stmt ≡ get_or items i stmt
    → statements_of (drop i items) ≡ stmt ∷ (inner_of stmt ++ statements_of (drop (i + 1) items))
split items i stmt l e = ap statements_of (drop_more items i stmt l ∙ ap (λ (s : Stmt). s ∷ drop (i + 1) items) (sym e))

module _ (breaks : Stmt → Bool) where
  numbers_broken : (number : ℕ) (stmt : Stmt) (stmts : List Stmt) → breaks stmt ≡ true → first_of (numbers_where breaks number (stmt ∷ stmts)) ≡ Some number
  unfolding numbers_where
  numbers_broken number stmt stmts h = ap (λ (b : Bool). first_of ((if b then number ∷ [] else []) ++ numbers_where breaks (number + 1) stmts)) h

  numbers_kept : (number : ℕ) (stmt : Stmt) (stmts : List Stmt) → breaks stmt ≡ false → numbers_where breaks number (stmt ∷ stmts) ≡ numbers_where breaks (number + 1) stmts
  unfolding numbers_where
  numbers_kept number stmt stmts h = ap (λ (b : Bool). (if b then number ∷ [] else []) ++ numbers_where breaks (number + 1) stmts) h

  module _ (items : List Stmt) (i : ℕ) (stmt : Stmt) (l : i < length items) (e : stmt ≡ get_or items i stmt) (here : ℕ) where
    abbrev from_here : List ℕ
    from_here = numbers_where breaks here (statements_of (drop i items))

    pub found_here : breaks stmt ≡ true → first_of from_here ≡ Some here
    found_here h = ap (λ (ss : List Stmt). first_of (numbers_where breaks here ss)) (split items i stmt l e) ∙ numbers_broken here stmt _ h

    past : breaks stmt ≡ false → from_here ≡ numbers_where breaks (here + 1) (inner_of stmt) ++ numbers_where breaks (here + 1 + length (inner_of stmt)) (statements_of (drop (i + 1) items))
    past h =
        ap (λ (ss : List Stmt). numbers_where breaks here ss) (split items i stmt l e) ∙ numbers_kept here stmt _ h
        ∙ numbers_append breaks (here + 1) (inner_of stmt) (statements_of (drop (i + 1) items))

    pub found_inside : (found : ℕ) → breaks stmt ≡ false → first_of (numbers_where breaks (here + 1) (inner_of stmt)) ≡ Some found → first_of from_here ≡ Some found
    found_inside found h k =
        ap first_of (past h) ∙ first_append (numbers_where breaks (here + 1) (inner_of stmt)) _
        ∙ ap (λ (o : Option ℕ). or_first o (first_of (numbers_where breaks (here + 1 + length (inner_of stmt)) (statements_of (drop (i + 1) items))))) k

    pub found_later : (next : ℕ) → breaks stmt ≡ false → numbers_where breaks (here + 1) (inner_of stmt) ≡ [] → next ≡ here + 1 + length (inner_of stmt)
        → numbers_where breaks next (statements_of (drop (i + 1) items)) ≡ from_here
    found_later next h k n =
        sym (past h ∙ ap (λ (ns : List ℕ). ns ++ numbers_where breaks (here + 1 + length (inner_of stmt)) (statements_of (drop (i + 1) items))) k
        ∙ ap (λ (m : ℕ). numbers_where breaks m (statements_of (drop (i + 1) items))) (sym n))

    pub counted_later : (next : ℕ) → next ≡ here + 1 + length (inner_of stmt) → next + length (statements_of (drop (i + 1) items)) ≡ here + length (statements_of (drop i items))
    counted_later next n =
        omega (arith, n, ap (length {A = Stmt}) (split items i stmt l e), length-append (inner_of stmt) (statements_of (drop (i + 1) items)))

-- nothing is left at the end
pub none_left : (items : List Stmt) (i : ℕ) → length items ≤ i → statements_of (drop i items) ≡ []
none_left items i h = ap statements_of (drop_all i items h)

pub lengths : (xs ys : List Stmt) → length (xs ++ ys) ≡ length xs + length ys
lengths xs ys = length-append xs ys

-- ---- how many statements stand in a statement

pub if_parts : (stmt : Stmt) (test : Expr) (first second : List Stmt) → stmt ≡ tree.If test first second → length (inner_of stmt) ≡ length (statements_of first) + length (statements_of second)
if_parts stmt test first second e = ap (λ s. length (inner_of s)) e ∙ ap (length {A = Stmt}) (inner_is (tree.If test first second)) ∙ ap (λ layer. length (inner_layer layer)) (if_out test first second) ∙ length-append (statements_of first) (statements_of second)

pub while_parts : (stmt : Stmt) (test : Expr) (body : List Stmt) → stmt ≡ tree.While test body → length (inner_of stmt) ≡ length (statements_of body)
while_parts stmt test body e = ap (λ s. length (inner_of s)) e ∙ ap (length {A = Stmt}) (inner_is (tree.While test body)) ∙ ap (λ layer. length (inner_layer layer)) (while_out test body)

pub yield_loop_parts : (stmt : Stmt) (test inv : Expr) (body : List Stmt) → stmt ≡ tree.YieldLoop test inv body → length (inner_of stmt) ≡ length (statements_of body)
yield_loop_parts stmt test inv body e = ap (λ s. length (inner_of s)) e ∙ ap (length {A = Stmt}) (inner_is (tree.YieldLoop test inv body)) ∙ ap (λ layer. length (inner_layer layer)) (yield_loop_out test inv body)

pub rank_loop_parts : (stmt : Stmt) (test rank inv : Expr) (body : List Stmt) → stmt ≡ tree.RankLoop test rank inv body → length (inner_of stmt) ≡ length (statements_of body)
rank_loop_parts stmt test rank inv body e = ap (λ s. length (inner_of s)) e ∙ ap (length {A = Stmt}) (inner_is (tree.RankLoop test rank inv body)) ∙ ap (λ layer. length (inner_layer layer)) (rank_loop_out test rank inv body)

-- a statement at this place, with those in it, are some of all
pub item_parts : (items : List Stmt) (i : ℕ) (stmt : Stmt) → i < length items → stmt ≡ get_or items i stmt → length (inner_of stmt) + 1 + length (statements_of (drop (i + 1) items)) ≡ length (statements_of (drop i items))
item_parts items i stmt l e = omega (arith, ap (length {A = Stmt}) (split items i stmt l e), length-append (inner_of stmt) (statements_of (drop (i + 1) items)))

pub ruleset walking = (preorder, numbers_none, numbers_append, first_append, lengths)
