-- What is still to run from the number of a statement begins with it.
use Rattle.std.proofs.Common.{◌≡◌, ℕ, zero, suc, ◌+◌, ◌<◌, List, [], ◌∷◌, ◌++◌, map, length, sym, ap, ◌∙◌, subst, arith, Some, ◌⊎◌, inl, inr, append-nil, map-id}
use Rattle.std.proofs.lemmas.Bool.{lt-ltb, le-ltb}
use Rattle.std.proofs.lemmas.Option.{none-some}
use Rattle.std.specs.Prelude.{slice_get}
use Rattle.civl_tree.specs.declared.stmt.Stmt.{Stmt, roll-Stmt, out-roll-Stmt, map-Stmt}
use Rattle.civl_tree.specs.declared.stmt.Stmt.TheOpen.{Stmt-F, If, While, YieldLoop, RankLoop}
use Rattle.civl_tree.specs.declared.stmt.Stmt.TheFolds.{ind-Stmt}
use Rattle.civl_tree.specs.Numbering.{size_of, sizes_of, numbered, inner_of, statements_of}
use Rattle.civl_tree.proofs.Numbers.{sizes_more, sizes_are_counts}
use Rattle.civl_tree.proofs.Preorder.{inner_layer, inner_is}
use Rattle.civl_meaning.specs.Rest.{Rest, rest_inside, rest_among, rest_at}
use Rattle.civl_meaning.proofs.Rests.{rest_layer, rest_is}
use Rattle.civl_conditions.proofs.paths.Belonging.{at_first, in_first, past_first}

-- this statement with this number, and others
abbrev pub Begins : Rest → ℕ → Stmt → Type 0
Begins r n s = (others : Rest) × (r ≡ (n, s) ∷ others)

begins_by : (r t : Rest) (n : ℕ) (s : Stmt) → r ≡ t → Begins t n s → Begins r n s
begins_by r t n s e h = (h.0, e ∙ h.1)

-- an element of two lists is one of the first or of the second
found : (xs ys : List Stmt) (j : ℕ) (s : Stmt) → slice_get (xs ++ ys) j ≡ Some s → ((slice_get xs j ≡ Some s) × (j < length xs)) ⊎ ((i : ℕ) × (slice_get ys i ≡ Some s) × (length xs + i ≡ j))
found [] ys j s h = inr (j, h, omega arith)
found (x ∷ xs) ys zero s h = inl (h, omega arith)
found (x ∷ xs) ys (suc j) s h = elim (found xs ys j s h) [ inl e ↦ inl (e.0, omega (arith, e.1)) | inr t ↦ inr (t.0, t.1, omega (arith, t.2)) ]

pub counted : (s : Stmt) → size_of s ≡ 1 + length (inner_of s)
counted s =
    let alone : length (s ∷ inner_of s) ≡ sizes_of (s ∷ []) = ap (length {A = Stmt}) (sym (append-nil (s ∷ inner_of s))) ∙ sizes_are_counts (s ∷ []) in
    omega (arith, sizes_more s [])

-- what is to be shown of a statement
abbrev Heads : Stmt → Type 0
Heads s = (at : ℕ) (k : Rest) (j n : ℕ) (u : Stmt) → n ≡ at + 1 + j → slice_get (inner_of s) j ≡ Some u → Begins (rest_inside s s at k n) n u

among_heads : {S : Type 0} (ys : List S) (v : S → Stmt) → ((x : S) → Heads (v x)) → (at : ℕ) (k : Rest) (j n : ℕ) (u : Stmt) → n ≡ at + j → slice_get (statements_of (map v ys)) j ≡ Some u → Begins (rest_among (map v ys) at k n) n u
among_heads [] v h at k j n u e g = absurd (none-some u g)
among_heads (y ∷ ys) v h at k zero n u e g =
    let here : n ≡ at = omega arith in
    let same : v y ≡ u = cc in
    (_, at_first (v y) (map v ys) at k n here ∙ ap (λ (q : ℕ × Stmt). q ∷ (numbered (at + size_of (v y)) (map v ys) ++ k)) (ap (λ (i : ℕ). (i, v y)) (sym here) ∙ ap (λ (s : Stmt). (n, s)) same))
among_heads (y ∷ ys) v h at k (suc j) n u e g =
    let size = counted (v y) in
    elim (found (inner_of (v y)) (statements_of (map v ys)) j u g) [
      | inl t ↦
          let low = t.1 in
          begins_by _ _ n u (in_first (v y) (map v ys) at k n (omega arith) (omega arith)) (h y at (numbered (at + size_of (v y)) (map v ys) ++ k) j n u (omega arith) t.0)
      | inr t ↦
          let place = t.2 in
          begins_by _ _ n u (past_first (v y) (map v ys) at k n (omega arith)) (among_heads ys v h (at + size_of (v y)) k t.0 n u (omega arith) t.1)
    ]

layer_heads : {S : Type 0} (d : Stmt-F S) (v : S → Stmt) → ((x : S) → Heads (v x)) → (s : Stmt) (at : ℕ) (k : Rest) (j n : ℕ) (u : Stmt) → n ≡ at + 1 + j → slice_get (inner_layer (map-Stmt S Stmt v d)) j ≡ Some u → Begins (rest_layer (map-Stmt S Stmt v d) s at k n) n u
layer_heads (If e a b) v h s at k j n u g f =
    let size = sizes_are_counts (map v a) in
    elim (found (statements_of (map v a)) (statements_of (map v b)) j u f) [
      | inl t ↦
          let low = t.1 in
          let below : n < at + 1 + sizes_of (map v a) = omega arith in
          rw (lt-ltb n (at + 1 + sizes_of (map v a)) below) (among_heads a v h (at + 1) k j n u g t.0)
      | inr t ↦
          let place = t.2 in
          rw (le-ltb n (at + 1 + sizes_of (map v a)) (omega arith)) (among_heads b v h (at + 1 + sizes_of (map v a)) k t.0 n u (omega arith) t.1)
    ]
layer_heads (While e a) v h s at k j n u g f = among_heads a v h (at + 1) ((at, s) ∷ k) j n u g f
layer_heads (YieldLoop e i a) v h s at k j n u g f = among_heads a v h (at + 1) ((at, s) ∷ k) j n u g f
layer_heads (RankLoop e r i a) v h s at k j n u g f = among_heads a v h (at + 1) ((at, s) ∷ k) j n u g f
layer_heads _ v h s at k j n u g f = absurd (none-some u f)

heads : (s : Stmt) → Heads s
heads s =
    ind-Stmt Heads (λ x y e at k j n u g f.
    let r = roll-Stmt x in
    let q = out-roll-Stmt x ∙ sym e in
    begins_by _ _ n u (rest_is r r at k n ∙ ap (λ (d : Stmt-F Stmt). rest_layer d r at k n) q)
    (layer_heads y (λ z. z.0) (λ z. z.1) r at k j n u g (ap (λ (l : List Stmt). slice_get l j) (sym (inner_is r ∙ ap inner_layer q)) ∙ f))) s

pub number_begins : (body : List Stmt) (n : ℕ) (s : Stmt) → slice_get (statements_of body) n ≡ Some s → Begins (rest_at body n) n s
number_begins body n s =
    subst (λ (ss : List Stmt). slice_get (statements_of ss) n ≡ Some s → Begins (rest_among ss 0 [] n) n s) (map-id body)
    (among_heads body (λ (s : Stmt). s) heads 0 [] n n s (omega arith))
