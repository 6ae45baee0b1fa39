-- The number of a statement is its place in text order.
use Rattle.std.proofs.Common.{◌≡◌, ℕ, zero, suc, ◌+◌, ◌⊎◌, inl, inr, List, [], ◌∷◌, ◌++◌, map, length, Option, None, Some, refl, sym, ap, ◌∙◌, subst, arith, append-nil}
use Rattle.std.proofs.lemmas.List.{append_assoc, length-append}
use Rattle.std.proofs.lemmas.List.Sums.{sum_by-cons}
use Rattle.std.proofs.lemmas.Option.{none-some}
use Rattle.std.specs.Prelude.{slice_get}
use Rattle.std.specs.List.{AllByRecursion}
use Rattle.civl_tree.specs.declared.expr.Expr.{Expr}
use Rattle.civl_tree.specs.declared.stmt.Stmt.{Stmt, roll-Stmt, out-roll-Stmt, map-Stmt}
use Rattle.civl_tree.specs.declared.stmt.Stmt as whole
use Rattle.civl_tree.specs.declared.stmt.Stmt.TheOpen.{Stmt-F, Assign, Assert, If, While, YieldLoop, RankLoop, Call, Yield, Commit, Intro, Spawn}
use Rattle.civl_tree.specs.declared.stmt.Stmt.TheFolds.{fold-roll-Stmt, ind-Stmt}
use Rattle.civl_tree.specs.Numbering.{size_step, size_of, sizes_of, inner_of, statements_of, numbered}
use Rattle.civl_tree.specs.SpellingLaws.{BodyIsNumbered, BranchesAreNumbered, LoopsAreNumbered}
use Rattle.civl_tree.proofs.Preorder.{inner_layer, inner_is, preorder}

-- ---- counts

abbrev Counted : Stmt → Type 0
Counted s = length (inner_of s) + 1 ≡ size_of s

add_counts : (xs ys : List Stmt) (m n : ℕ) → length xs ≡ m → length ys ≡ n → length (xs ++ ys) ≡ m + n
add_counts xs ys m n h k = length-append xs ys ∙ omega (arith, h, k)

pub sizes_more : (s : Stmt) (ss : List Stmt) → sizes_of (s ∷ ss) ≡ size_of s + sizes_of ss
sizes_more s ss = sum_by-cons (λ (n : ℕ). n) (size_of s) (map size_of ss)

counts : {S : Type 0} (ys : List S) (v : S → Stmt) → ((s : S) → Counted (v s)) → length (statements_of (map v ys)) ≡ sizes_of (map v ys)
counts [] v h = refl
counts (y ∷ ys) v h = add_counts (v y ∷ inner_of (v y)) (statements_of (map v ys)) (size_of (v y)) (sizes_of (map v ys)) (omega (arith, h y)) (counts ys v h) ∙ sym (sizes_more (v y) (map v ys))

layer_counted : {S : Type 0} (layer : Stmt-F S) (v : S → Stmt) → ((s : S) → Counted (v s)) → length (inner_layer (map-Stmt S Stmt v layer)) + 1 ≡ size_step (map-Stmt Stmt ℕ size_of (map-Stmt S Stmt v layer))
layer_counted (Assign x e) v h = refl
layer_counted (Assert e) v h = refl
layer_counted (If e a b) v h = omega (arith, add_counts (statements_of (map v a)) (statements_of (map v b)) _ _ (counts a v h) (counts b v h))
layer_counted (While e a) v h = omega (arith, counts a v h)
layer_counted (YieldLoop e i a) v h = omega (arith, counts a v h)
layer_counted (RankLoop e r i a) v h = omega (arith, counts a v h)
layer_counted (Call f es xs) v h = refl
layer_counted (Yield e) v h = refl
layer_counted Commit v h = refl
layer_counted (Intro x e) v h = refl
layer_counted (Spawn f es) v h = refl

counted : (s : Stmt) → Counted s
counted s =
    ind-Stmt Counted (λ x y q.
    let here = subst (λ (layer : Stmt-F Stmt). length (inner_layer layer) + 1 ≡ size_step (map-Stmt Stmt ℕ size_of layer)) q (layer_counted y (λ z. z.0) (λ z. z.1)) in
    ap (λ (stmts : List Stmt). length stmts + 1) (inner_is (roll-Stmt x) ∙ ap inner_layer (out-roll-Stmt x)) ∙ here ∙ sym (fold-roll-Stmt ℕ size_step x)) s

pub sizes_are_counts : (body : List Stmt) → length (statements_of body) ≡ sizes_of body
sizes_are_counts [] = refl
sizes_are_counts (s ∷ ss) = add_counts (s ∷ inner_of s) (statements_of ss) (size_of s) (sizes_of ss) (omega (arith, counted s)) (sizes_are_counts ss) ∙ sym (sizes_more s ss)

-- ---- what stands at a place

-- the statement and those in it stand together, from this place on
record Part (all : List Stmt) (n : ℕ) (s : Stmt) : Type 0 where
  before : List Stmt
  after : List Stmt
  parts : all ≡ before ++ ((s ∷ inner_of s) ++ after)
  place : length before ≡ n

abbrev Stands : List Stmt → Type 0
Stands all = (n : ℕ) (s : Stmt) → slice_get all n ≡ Some s → Part all n s

in_left : (xs ys : List Stmt) (n : ℕ) (s : Stmt) → Part xs n s → Part (xs ++ ys) n s
in_left xs ys n s h = record {
  before = h.before;
  after = h.after ++ ys;
  parts = ap (λ (l : List Stmt). l ++ ys) h.parts ∙ append_assoc h.before ((s ∷ inner_of s) ++ h.after) ys ∙ ap (λ (l : List Stmt). h.before ++ l) (append_assoc (s ∷ inner_of s) h.after ys);
  place = h.place;
}

in_right : (xs ys : List Stmt) (m n : ℕ) (s : Stmt) → length xs + m ≡ n → Part ys m s → Part (xs ++ ys) n s
in_right xs ys m n s e h = record {
  before = xs ++ h.before;
  after = h.after;
  parts = ap (λ (l : List Stmt). xs ++ l) h.parts ∙ sym (append_assoc xs h.before ((s ∷ inner_of s) ++ h.after));
  place = add_counts xs h.before (length xs) m refl h.place ∙ e;
}

-- an element of two lists is one of the first or of the second
found : (xs ys : List Stmt) (n : ℕ) (s : Stmt) → slice_get (xs ++ ys) n ≡ Some s → (slice_get xs n ≡ Some s) ⊎ ((m : ℕ) × (slice_get ys m ≡ Some s) × (length xs + m ≡ n))
found [] ys n s h = inr (n, h, omega arith)
found (x ∷ xs) ys zero s h = inl h
found (x ∷ xs) ys (suc n) s h = elim (found xs ys n s h) [ inl e ↦ inl e | inr t ↦ inr (t.0, t.1, omega (arith, t.2)) ]

joined_stand : (xs ys : List Stmt) → Stands xs → Stands ys → Stands (xs ++ ys)
joined_stand xs ys first second n s h = elim (found xs ys n s h) [ inl e ↦ in_left xs ys n s (first n s e) | inr t ↦ in_right xs ys t.0 n s t.2 (second t.0 s t.1) ]

none_stand : Stands []
none_stand n s h = absurd (none-some s h)

-- what an option holds, or else this
abbrev content : Stmt → Option Stmt → Stmt
content other None = other
content other (Some s) = s

-- a statement and those in it, where in those each stands with those in it
one_stands : (t : Stmt) → Stands (inner_of t) → Stands (t ∷ inner_of t)
one_stands t inner zero s h =
    let same : t ≡ s = ap (content t) h in
    record { before = []; after = []; parts = ap (λ (s : Stmt). s ∷ inner_of s) same ∙ sym (append-nil (s ∷ inner_of s)); place = refl }
one_stands t inner (suc n) s h =
    let part = inner n s h in
    record { before = t ∷ part.before; after = part.after; parts = ap (λ (l : List Stmt). t ∷ l) part.parts; place = omega (arith, part.place) }

all_stand : {S : Type 0} (ys : List S) (v : S → Stmt) → ((s : S) → Stands (inner_of (v s))) → Stands (statements_of (map v ys))
all_stand [] v h = none_stand
all_stand (y ∷ ys) v h = joined_stand (v y ∷ inner_of (v y)) (statements_of (map v ys)) (one_stands (v y) (h y)) (all_stand ys v h)

layer_stands : {S : Type 0} (layer : Stmt-F S) (v : S → Stmt) → ((s : S) → Stands (inner_of (v s))) → Stands (inner_layer (map-Stmt S Stmt v layer))
layer_stands (Assign x e) v h = none_stand
layer_stands (Assert e) v h = none_stand
layer_stands (If e a b) v h = joined_stand (statements_of (map v a)) (statements_of (map v b)) (all_stand a v h) (all_stand b v h)
layer_stands (While e a) v h = all_stand a v h
layer_stands (YieldLoop e i a) v h = all_stand a v h
layer_stands (RankLoop e r i a) v h = all_stand a v h
layer_stands (Call f es xs) v h = none_stand
layer_stands (Yield e) v h = none_stand
layer_stands Commit v h = none_stand
layer_stands (Intro x e) v h = none_stand
layer_stands (Spawn f es) v h = none_stand

stands : (s : Stmt) → Stands (inner_of s)
stands s =
    ind-Stmt (λ (t : Stmt). Stands (inner_of t)) (λ x y q.
    let here = subst (λ (layer : Stmt-F Stmt). Stands (inner_layer layer)) q (layer_stands y (λ z. z.0) (λ z. z.1)) in
    subst Stands (sym (inner_is (roll-Stmt x) ∙ ap inner_layer (out-roll-Stmt x))) here) s

body_stands : (body : List Stmt) → Stands (statements_of body)
body_stands [] = none_stand
body_stands (s ∷ ss) = joined_stand (s ∷ inner_of s) (statements_of ss) (one_stands s (stands s)) (body_stands ss)

-- ---- the numbers of statements that stand one behind the other

-- the element behind these
seam : (xs : List Stmt) (s : Stmt) (ys : List Stmt) → slice_get (xs ++ s ∷ ys) (length xs) ≡ Some s
seam [] s ys = refl
seam (x ∷ xs) s ys = seam xs s ys

abbrev NumberedIn : List Stmt → ℕ → List Stmt → Type 0
NumberedIn all at ss = AllByRecursion (λ (q : ℕ × Stmt). slice_get all q.0 ≡ Some q.1) (numbered at ss)

numbers_from : (all ss before after : List Stmt) (at : ℕ) → all ≡ before ++ (statements_of ss ++ after) → length before ≡ at → NumberedIn all at ss
numbers_from all [] before after at e k = tt
numbers_from all (s ∷ ss) before after at e k = (
  ap (λ (n : ℕ). slice_get all n) (sym k) ∙ ap (λ (l : List Stmt). slice_get l (length before)) e ∙ seam before s ((inner_of s ++ statements_of ss) ++ after),
  numbers_from all ss (before ++ s ∷ inner_of s) after (at + size_of s)
      (e ∙ ap (λ (l : List Stmt). before ++ l) (append_assoc (s ∷ inner_of s) (statements_of ss) after) ∙ sym (append_assoc before (s ∷ inner_of s) (statements_of ss ++ after)))
      (add_counts before (s ∷ inner_of s) at (size_of s) k (omega (arith, counted s))),
)

pub body_is_numbered : (body : List Stmt) → NumberedIn (statements_of body) 0 body
body_is_numbered body = numbers_from (statements_of body) body [] [] 0 (sym (append-nil (statements_of body))) refl

-- statements that stand in a statement, behind so many others in it
abbrev Inner : Stmt → ℕ → List Stmt → Type 0
Inner s skip ss = (x : List Stmt) × (y : List Stmt) × (inner_of s ≡ x ++ (statements_of ss ++ y)) × (length x ≡ skip)

pub inner_numbered : (body : List Stmt) (number : ℕ) (s : Stmt) (skip : ℕ) (ss : List Stmt) → slice_get (statements_of body) number ≡ Some s → Inner s skip ss → NumberedIn (statements_of body) (number + 1 + skip) ss
inner_numbered body number s skip ss h inner =
    let part = body_stands body number s h in
    let within : inner_of s ++ part.after ≡ inner.0 ++ (statements_of ss ++ (inner.1 ++ part.after))
    = ap (λ (l : List Stmt). l ++ part.after) inner.2 ∙ append_assoc inner.0 (statements_of ss ++ inner.1) part.after ∙ ap (λ (l : List Stmt). inner.0 ++ l) (append_assoc (statements_of ss) inner.1 part.after) in
    numbers_from (statements_of body) ss (part.before ++ s ∷ inner.0) (inner.1 ++ part.after) (number + 1 + skip)
    (part.parts ∙ ap (λ (l : List Stmt). part.before ++ s ∷ l) within ∙ sym (append_assoc part.before (s ∷ inner.0) (statements_of ss ++ (inner.1 ++ part.after))))
    (add_counts part.before (s ∷ inner.0) number (1 + skip) part.place (omega (arith, inner.3)) ∙ omega arith)

-- ---- the parts of each form

inner_if : (e : Expr) (a b : List Stmt) → inner_of (whole.If e a b) ≡ statements_of a ++ statements_of b
inner_if e a b = inner_is (whole.If e a b) ∙ simp (preorder)

inner_while : (e : Expr) (a : List Stmt) → inner_of (whole.While e a) ≡ statements_of a
inner_while e a = inner_is (whole.While e a) ∙ simp (preorder)

inner_yield : (e i : Expr) (a : List Stmt) → inner_of (whole.YieldLoop e i a) ≡ statements_of a
inner_yield e i a = inner_is (whole.YieldLoop e i a) ∙ simp (preorder)

inner_rank : (e r i : Expr) (a : List Stmt) → inner_of (whole.RankLoop e r i a) ≡ statements_of a
inner_rank e r i a = inner_is (whole.RankLoop e r i a) ∙ simp (preorder)

first_inner : (s : Stmt) (a b : List Stmt) → inner_of s ≡ statements_of a ++ statements_of b → Inner s 0 a
first_inner s a b e = ([], statements_of b, e, refl)

second_inner : (s : Stmt) (a b : List Stmt) → inner_of s ≡ statements_of a ++ statements_of b → Inner s (sizes_of a) b
second_inner s a b e = (statements_of a, [], e ∙ ap (λ (l : List Stmt). statements_of a ++ l) (sym (append-nil (statements_of b))), sizes_are_counts a)

body_inner : (s : Stmt) (a : List Stmt) → inner_of s ≡ statements_of a → Inner s 0 a
body_inner s a e = first_inner s a [] (e ∙ sym (append-nil (statements_of a)))

-- a number and nothing
plus_none : (n : ℕ) → n + 0 ≡ n
plus_none n = omega arith

pub body_statements_numbered : BodyIsNumbered
body_statements_numbered = body_is_numbered

pub branches_are_numbered : BranchesAreNumbered
branches_are_numbered body number e a b h = (
  subst (λ (n : ℕ). NumberedIn (statements_of body) n a) (plus_none (number + 1)) (inner_numbered body number (whole.If e a b) 0 a h (first_inner _ a b (inner_if e a b))),
  inner_numbered body number (whole.If e a b) (sizes_of a) b h (second_inner _ a b (inner_if e a b)),
)

loop_numbered : (body : List Stmt) (number : ℕ) (s : Stmt) (a : List Stmt) → inner_of s ≡ statements_of a → slice_get (statements_of body) number ≡ Some s → NumberedIn (statements_of body) (number + 1) a
loop_numbered body number s a e h = subst (λ (n : ℕ). NumberedIn (statements_of body) n a) (plus_none (number + 1)) (inner_numbered body number s 0 a h (body_inner s a e))

pub loops_are_numbered : LoopsAreNumbered
loops_are_numbered body number a = (
  λ e. loop_numbered body number (whole.While e a) a (inner_while e a),
  λ e i. loop_numbered body number (whole.YieldLoop e i a) a (inner_yield e i a),
  λ e r i. loop_numbered body number (whole.RankLoop e r i a) a (inner_rank e r i a),
)
