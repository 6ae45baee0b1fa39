-- What is still to run from a cut, with numbers: in front of what comes behind it, and one layer or one statement at a time.
use Rattle.std.proofs.Common.{◌≡◌, ℕ, ◌+◌, ◌<◌, Bool, true, false, List, [], ◌∷◌, ◌++◌, map, drop, length, get_or, refl, sym, ap, ◌∙◌, subst, append_assoc, map-id}
use Rattle.std.proofs.lemmas.Bool.{lt-ltb, eq-eqb, ne_eqb}
use Rattle.std.proofs.lemmas.List.{append-nil}
use Rattle.std.specs.Prelude.{nat_lt, nat_eq, if◌then◌else◌}
use Rattle.civl_tree.specs.declared.stmt.Stmt.{Stmt, out-Stmt, roll-Stmt, out-roll-Stmt, map-Stmt, the_lemmas as of_stmt}
use Rattle.civl_tree.specs.declared.stmt.Stmt.TheOpen.{Stmt-F, If, While, YieldLoop, RankLoop}
use Rattle.civl_tree.specs.declared.stmt.Stmt.TheFolds.{ind-Stmt}
use Rattle.civl_tree.specs.Numbering.{size_of, sizes_of, numbered}
use Rattle.civl_tree.proofs.Lists.{drop_is}
use Rattle.civl_meaning.specs.Rest.{Rest, rest_inside, rest_among}
use Rattle.civl_meaning.proofs.Rests.{rest_layer, rest_is, among_rest, rest_none}

behind : (x y k : Rest) → x ++ (y ++ k) ≡ (x ++ (y ++ [])) ++ k
behind x y k = rw (append-nil y, append_assoc) refl

-- what is to be shown of a statement
abbrev Splits : Stmt → Type 0
Splits s = (t : Stmt) (at : ℕ) (k : Rest) (wanted : ℕ) → rest_inside s t at k wanted ≡ rest_inside s t at [] wanted ++ k

choice : (b c : Bool) (x y z u v w k : Rest) → x ≡ u ++ k → y ≡ v ++ k → z ≡ w ++ k → (if b then (if c then x else y) else z) ≡ (if b then (if c then u else v) else w) ++ k
choice true true x y z u v w k p q r = p
choice true false x y z u v w k p q r = q
choice false c x y z u v w k p q r = r

choice2 : (b : Bool) (x z u w k : Rest) → x ≡ u ++ k → z ≡ w ++ k → (if b then x else z) ≡ (if b then u else w) ++ k
choice2 true x z u w k p r = p
choice2 false x z u w k p r = r

-- a statement with others behind it
with_others : (s : Stmt) (others : Rest) (h : Splits s) (at : ℕ) (k : Rest) (wanted : ℕ) → rest_inside s s at (others ++ k) wanted ≡ rest_inside s s at (others ++ []) wanted ++ k
with_others s others h at k wanted =
    h s at (others ++ k) wanted ∙ behind (rest_inside s s at [] wanted) others k ∙ ap (λ (r : Rest). r ++ k) (sym (h s at (others ++ []) wanted))

all_split : {S : Type 0} (ys : List S) (v : S → Stmt) (h : (x : S) → Splits (v x)) (at : ℕ) (k : Rest) (wanted : ℕ) → rest_among (map v ys) at k wanted ≡ rest_among (map v ys) at [] wanted ++ k
all_split [] v h at k wanted = rest_none at k wanted ∙ ap (λ (r : Rest). r ++ k) (sym (rest_none at [] wanted))
all_split (y ∷ ys) v h at k wanted =
    among_rest (v y) (map v ys) at k wanted
    ∙ choice (nat_lt wanted (at + size_of (v y))) (nat_eq wanted at) _ _ _ _ _ _ k (behind [] (numbered at (v y ∷ map v ys)) k) (with_others (v y) (numbered (at + size_of (v y)) (map v ys)) (h y) at k wanted) (all_split ys v h (at + size_of (v y)) k wanted)
    ∙ ap (λ (r : Rest). r ++ k) (sym (among_rest (v y) (map v ys) at [] wanted))

loop_split : {S : Type 0} (a : List S) (v : S → Stmt) (h : (x : S) → Splits (v x)) (t : Stmt) (at : ℕ) (k : Rest) (wanted : ℕ) → rest_among (map v a) (at + 1) ((at, t) ∷ k) wanted ≡ rest_among (map v a) (at + 1) ((at, t) ∷ []) wanted ++ k
loop_split a v h t at k wanted =
    all_split a v h (at + 1) ((at, t) ∷ k) wanted
    ∙ sym (append_assoc (rest_among (map v a) (at + 1) [] wanted) ((at, t) ∷ []) k)
    ∙ ap (λ (r : Rest). r ++ k) (sym (all_split a v h (at + 1) ((at, t) ∷ []) wanted))

layer_splits : {S : Type 0} (y : Stmt-F S) (v : S → Stmt) (h : (x : S) → Splits (v x)) (t : Stmt) (at : ℕ) (k : Rest) (wanted : ℕ) → rest_layer (map-Stmt S Stmt v y) t at k wanted ≡ rest_layer (map-Stmt S Stmt v y) t at [] wanted ++ k
layer_splits (If e a b) v h t at k wanted =
    choice2 (nat_lt wanted (at + 1 + sizes_of (map v a))) _ _ _ _ k (all_split a v h (at + 1) k wanted) (all_split b v h (at + 1 + sizes_of (map v a)) k wanted)
layer_splits (While e a) v h t at k wanted = loop_split a v h t at k wanted
layer_splits (YieldLoop e i a) v h t at k wanted = loop_split a v h t at k wanted
layer_splits (RankLoop e r i a) v h t at k wanted = loop_split a v h t at k wanted
layer_splits _ v h t at k wanted = refl

pub splits : (s : Stmt) → Splits s
splits s =
    ind-Stmt Splits (λ x y e t at k wanted.
    let r = roll-Stmt x in
    let q = out-roll-Stmt x ∙ sym e in
    rest_is r t at k wanted
    ∙ ap (λ (d : Stmt-F Stmt). rest_layer d t at k wanted) q
    ∙ layer_splits y (λ z. z.0) (λ z. z.1) t at k wanted
    ∙ ap (λ (d : Stmt-F Stmt). rest_layer d t at [] wanted ++ k) (sym q)
    ∙ ap (λ (l : Rest). l ++ k) (sym (rest_is r t at [] wanted))) s

-- what is still to run among statements stands before what comes behind them
pub all_split_of : (ss : List Stmt) (at : ℕ) (k : Rest) (wanted : ℕ) → rest_among ss at k wanted ≡ rest_among ss at [] wanted ++ k
all_split_of ss at k wanted =
    subst (λ (r : List Stmt). rest_among r at k wanted ≡ rest_among r at [] wanted ++ k) (map-id ss) (all_split ss (λ (s : Stmt). s) splits at k wanted)

-- ---- one layer, and one statement

abbrev pub left_layer : Stmt-F Stmt → Stmt → ℕ → ℕ → Rest
left_layer (If e a b) s at wanted = if nat_lt wanted (at + 1 + sizes_of a) then rest_among a (at + 1) [] wanted else rest_among b (at + 1 + sizes_of a) [] wanted
left_layer (While e a) s at wanted = rest_among a (at + 1) [] wanted ++ (at, s) ∷ []
left_layer (YieldLoop e i a) s at wanted = rest_among a (at + 1) [] wanted ++ (at, s) ∷ []
left_layer (RankLoop e r i a) s at wanted = rest_among a (at + 1) [] wanted ++ (at, s) ∷ []
left_layer _ s at wanted = []

left_layer_is : (d : Stmt-F Stmt) (s : Stmt) (at wanted : ℕ) → rest_layer d s at [] wanted ≡ left_layer d s at wanted
left_layer_is (If e a b) s at wanted = refl
left_layer_is (While e a) s at wanted = all_split_of a (at + 1) ((at, s) ∷ []) wanted
left_layer_is (YieldLoop e i a) s at wanted = all_split_of a (at + 1) ((at, s) ∷ []) wanted
left_layer_is (RankLoop e r i a) s at wanted = all_split_of a (at + 1) ((at, s) ∷ []) wanted
left_layer_is _ s at wanted = refl

pub inside_left_is : (s t : Stmt) (at wanted : ℕ) → rest_inside s t at [] wanted ≡ left_layer (out-Stmt s) t at wanted
inside_left_is s t at wanted = rest_is s t at [] wanted ∙ left_layer_is (out-Stmt s) t at wanted

-- at the number of the first statement
left_here : (s : Stmt) (ss : List Stmt) (at wanted : ℕ) → wanted < at + size_of s → wanted ≡ at → rest_among (s ∷ ss) at [] wanted ≡ numbered at (s ∷ ss)
left_here s ss at wanted h e =
    let q : rest_among (s ∷ ss) at [] wanted ≡ numbered at (s ∷ ss) ++ [] = among_rest s ss at [] wanted ∙ rw (lt-ltb wanted (at + size_of s) h, eq-eqb wanted at e) refl in
    q ∙ append-nil (numbered at (s ∷ ss))

-- inside it
left_inside : (s : Stmt) (ss : List Stmt) (at wanted : ℕ) → wanted < at + size_of s → (wanted ≡ at → ⊥) → rest_among (s ∷ ss) at [] wanted ≡ rest_inside s s at [] wanted ++ numbered (at + size_of s) ss
left_inside s ss at wanted h e =
    let k = numbered (at + size_of s) ss in
    let q : rest_among (s ∷ ss) at [] wanted ≡ rest_inside s s at (k ++ []) wanted = among_rest s ss at [] wanted ∙ rw (lt-ltb wanted (at + size_of s) h, ne_eqb wanted at e) refl in
    q ∙ ap (λ (r : Rest). rest_inside s s at r wanted) (append-nil k) ∙ splits s s at k wanted

pub left_none : (at wanted : ℕ) → rest_among [] at [] wanted ≡ []
left_none at wanted = rest_none at [] wanted

-- past it
left_past : (s : Stmt) (ss : List Stmt) (at wanted : ℕ) → nat_lt wanted (at + size_of s) ≡ false → rest_among (s ∷ ss) at [] wanted ≡ rest_among ss (at + size_of s) [] wanted
left_past s ss at wanted h = among_rest s ss at [] wanted ∙ rw h refl

pub here_left : (ss : List Stmt) (i : ℕ) (s : Stmt) (at wanted : ℕ) → i < length ss → s ≡ get_or ss i s → wanted < at + size_of s → wanted ≡ at → rest_among (drop i ss) at [] wanted ≡ numbered at (drop i ss)
here_left ss i s at wanted h e l q =
    ap (λ (r : List Stmt). rest_among r at [] wanted) (drop_is ss i s h e) ∙ left_here s (drop (i + 1) ss) at wanted l q ∙ ap (numbered at) (sym (drop_is ss i s h e))

pub within_left : (ss : List Stmt) (i : ℕ) (s : Stmt) (at wanted : ℕ) → i < length ss → s ≡ get_or ss i s → wanted < at + size_of s → (wanted ≡ at → ⊥) → rest_among (drop i ss) at [] wanted ≡ rest_inside s s at [] wanted ++ numbered (at + size_of s) (drop (i + 1) ss)
within_left ss i s at wanted h e l q =
    ap (λ (r : List Stmt). rest_among r at [] wanted) (drop_is ss i s h e) ∙ left_inside s (drop (i + 1) ss) at wanted l q

pub past_left : (ss : List Stmt) (i : ℕ) (s : Stmt) (at wanted : ℕ) → i < length ss → s ≡ get_or ss i s → nat_lt wanted (at + size_of s) ≡ false → rest_among (drop i ss) at [] wanted ≡ rest_among (drop (i + 1) ss) (at + size_of s) [] wanted
past_left ss i s at wanted h e l =
    ap (λ (r : List Stmt). rest_among r at [] wanted) (drop_is ss i s h e) ∙ left_past s (drop (i + 1) ss) at wanted l

pub ruleset resting = (inside_left_is, of_stmt, append-nil, append_assoc)
