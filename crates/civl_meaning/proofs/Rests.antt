-- A spot is the first of a rest.
use Rattle.std.proofs.Common.{◌≡◌, ℕ, ◌+◌, Bool, true, false, List, [], ◌∷◌, ◌++◌, map, refl, sym, ap, ◌∙◌, subst, Option, None, map-id}
use Rattle.std.specs.Prelude.{nat_lt, nat_eq, if◌then◌else◌}
use Rattle.civl_tree.specs.declared.stmt.Stmt.{Stmt, out-Stmt, roll-Stmt, roll-out-Stmt, out-roll-Stmt, map-Stmt}
use Rattle.civl_tree.specs.declared.stmt.Stmt.TheOpen.{Stmt-F, If, While, YieldLoop, RankLoop}
use Rattle.civl_tree.specs.declared.stmt.Stmt.TheFolds.{para-roll-Stmt, ind-Stmt}
use Rattle.civl_meaning.specs.Places.{Spot, is_skipped, skip_layer, start_of, first_in, spot_among, inside_of, loop_spot, spot_at}
use Rattle.civl_tree.specs.Numbering.{size_of, sizes_of, numbered}
use Rattle.civl_tree.specs.declared.program.Proc.{Proc}
use Rattle.civl_meaning.proofs.Placing.{inside_is, inside_layer}
use Rattle.civl_meaning.proofs.Finding.{among_is}
use Rattle.civl_meaning.specs.inner.Left.{stmt_of}
use Rattle.civl_meaning.specs.Rest.{Rest, Inner, firsts, rest_step, rest_inside, with_rest, rest_among, place_in, head_of, SpotOfRest, rest_at}

firsts_with : (ss : List Stmt) → firsts (map with_rest ss) ≡ ss
unfolding with_rest
firsts_with [] = refl
firsts_with (s ∷ ss) = ap (λ (r : List Stmt). s ∷ r) (firsts_with ss)

abbrev pub rest_layer : Stmt-F Stmt → Stmt → ℕ → Rest → ℕ → Rest
rest_layer (If e a b) s at k wanted =
    if nat_lt wanted (at + 1 + sizes_of a) then rest_among a (at + 1) k wanted else rest_among b (at + 1 + sizes_of a) k wanted
rest_layer (While e a) s at k wanted = rest_among a (at + 1) ((at, s) ∷ k) wanted
rest_layer (YieldLoop e i a) s at k wanted = rest_among a (at + 1) ((at, s) ∷ k) wanted
rest_layer (RankLoop e r i a) s at k wanted = rest_among a (at + 1) ((at, s) ∷ k) wanted
rest_layer _ s at k wanted = k

rest_step_is : (d : Stmt-F Stmt) (s : Stmt) (at : ℕ) (k : Rest) (wanted : ℕ) → rest_step (map-Stmt Stmt (Stmt × Inner) with_rest d) s at k wanted ≡ rest_layer d s at k wanted
unfolding rest_among with_rest rest_inside
rest_step_is (If e a b) s at k wanted =
    ap (λ (r : List Stmt). if nat_lt wanted (at + 1 + sizes_of r) then rest_among a (at + 1) k wanted else rest_among b (at + 1 + sizes_of r) k wanted) (firsts_with a)
rest_step_is _ s at k wanted = refl

pub rest_is : (s t : Stmt) (at : ℕ) (k : Rest) (wanted : ℕ) → rest_inside s t at k wanted ≡ rest_layer (out-Stmt s) t at k wanted
unfolding rest_inside with_rest
rest_is s t at k wanted =
    let e : rest_inside s ≡ rest_step (map-Stmt Stmt (Stmt × Inner) with_rest (out-Stmt s)) = ap rest_inside (sym (roll-out-Stmt s)) ∙ para-roll-Stmt Inner rest_step (out-Stmt s) in
    ap (λ (f : Inner). f t at k wanted) e ∙ rest_step_is (out-Stmt s) t at k wanted

pub among_rest : (s : Stmt) (ss : List Stmt) (at : ℕ) (k : Rest) (wanted : ℕ) → rest_among (s ∷ ss) at k wanted ≡ (if nat_lt wanted (at + size_of s) then (if nat_eq wanted at then numbered at (s ∷ ss) ++ k else rest_inside s s at (numbered (at + size_of s) ss ++ k) wanted) else rest_among ss (at + size_of s) k wanted)
unfolding rest_among with_rest rest_inside
among_rest s ss at k wanted =
    ap (λ (r : List Stmt). if nat_lt wanted (at + size_of s) then (if nat_eq wanted at then numbered at (s ∷ r) ++ k else rest_inside s s at (numbered (at + size_of s) r ++ k) wanted) else rest_among ss (at + size_of s) k wanted) (firsts_with ss)

start_is : (end : ℕ) (ss : List Stmt) (at : ℕ) (k : Rest) → start_of ss at (place_in end k) ≡ place_in end (numbered at ss ++ k)
start_is end [] at k = refl
start_is end (s ∷ ss) at k = refl

first_is : (end : ℕ) (ss : List Stmt) (at : ℕ) (k : Rest) → first_in ss at (place_in end k) (head_of end k) ≡ head_of end (numbered at ss ++ k)
first_is end [] at k = refl
first_is end (s ∷ ss) at k = rw (first_is end ss (at + size_of s) k, start_is end ss (at + size_of s) k) refl

pub rest_none : (at : ℕ) (k : Rest) (wanted : ℕ) → rest_among [] at k wanted ≡ k
unfolding rest_among
rest_none at k wanted = refl

-- what is to be shown of a statement
abbrev Agrees : Stmt → Type 0
Agrees s = (end at : ℕ) (k : Rest) (wanted : ℕ) → inside_of s s at (place_in end k) (head_of end k) wanted ≡ head_of end (rest_inside s s at k wanted)

choice : (b c : Bool) (end : ℕ) (x y z : Option Spot) (u v w : Rest) → x ≡ head_of end u → y ≡ head_of end v → z ≡ head_of end w → (if b then (if c then x else y) else z) ≡ head_of end (if b then (if c then u else v) else w)
choice true true end x y z u v w p q r = p
choice true false end x y z u v w p q r = q
choice false c end x y z u v w p q r = r

choice2 : (b : Bool) (end : ℕ) (x z : Option Spot) (u w : Rest) → x ≡ head_of end u → z ≡ head_of end w → (if b then x else z) ≡ head_of end (if b then u else w)
choice2 true end x z u w p r = p
choice2 false end x z u w p r = r

-- a statement with others behind it
with_others : (s : Stmt) (ss : List Stmt) (h : Agrees s) (end at : ℕ) (k : Rest) (wanted : ℕ) → inside_of s s at (start_of ss (at + size_of s) (place_in end k)) (first_in ss (at + size_of s) (place_in end k) (head_of end k)) wanted ≡ head_of end (rest_inside s s at (numbered (at + size_of s) ss ++ k) wanted)
with_others s ss h end at k wanted =
    ap (λ (n : ℕ). inside_of s s at n (first_in ss (at + size_of s) (place_in end k) (head_of end k)) wanted) (start_is end ss (at + size_of s) k)
    ∙ ap (λ (o : Option Spot). inside_of s s at (place_in end (numbered (at + size_of s) ss ++ k)) o wanted) (first_is end ss (at + size_of s) k)
    ∙ h end at (numbered (at + size_of s) ss ++ k) wanted

-- statements each of which agrees
all_agree : {S : Type 0} (ys : List S) (v : S → Stmt) (h : (x : S) → Agrees (v x)) (end at : ℕ) (k : Rest) (wanted : ℕ) → spot_among (map v ys) at (place_in end k) (head_of end k) wanted ≡ head_of end (rest_among (map v ys) at k wanted)
all_agree [] v h end at k wanted = ap (head_of end) (sym (rest_none at k wanted))
all_agree (y ∷ ys) v h end at k wanted =
    among_is (v y) (map v ys) at (place_in end k) (head_of end k) wanted
    ∙ choice (nat_lt wanted (at + size_of (v y))) (nat_eq wanted at) end _ _ _ _ _ _ (first_is end (v y ∷ map v ys) at k) (with_others (v y) (map v ys) (h y) end at k wanted) (all_agree ys v h end (at + size_of (v y)) k wanted)
    ∙ ap (head_of end) (sym (among_rest (v y) (map v ys) at k wanted))

-- a loop's head is the first of itself and what comes after
loop_head : (end : ℕ) (t : Stmt) (at : ℕ) (k : Rest) → is_skipped t ≡ false → loop_spot t at (place_in end k) ≡ head_of end ((at, t) ∷ k)
loop_head end t at k sk = rw sk refl

loop_agrees : {S : Type 0} (a : List S) (v : S → Stmt) (h : (x : S) → Agrees (v x)) (t : Stmt) → is_skipped t ≡ false → (end at : ℕ) (k : Rest) (wanted : ℕ) → spot_among (map v a) (at + 1) at (loop_spot t at (place_in end k)) wanted ≡ head_of end (rest_among (map v a) (at + 1) ((at, t) ∷ k) wanted)
loop_agrees a v h t sk end at k wanted =
    ap (λ (o : Option Spot). spot_among (map v a) (at + 1) at o wanted) (loop_head end t at k sk) ∙ all_agree a v h end (at + 1) ((at, t) ∷ k) wanted

layer_agrees : {S : Type 0} (y : Stmt-F S) (v : S → Stmt) (h : (x : S) → Agrees (v x)) (t : Stmt) → is_skipped t ≡ skip_layer (map-Stmt S Stmt v y) → (end at : ℕ) (k : Rest) (wanted : ℕ) → inside_layer (map-Stmt S Stmt v y) t at (place_in end k) (head_of end k) wanted ≡ head_of end (rest_layer (map-Stmt S Stmt v y) t at k wanted)
layer_agrees (If e a b) v h t sk end at k wanted =
    choice2 (nat_lt wanted (at + 1 + sizes_of (map v a))) end _ _ _ _ (all_agree a v h end (at + 1) k wanted) (all_agree b v h end (at + 1 + sizes_of (map v a)) k wanted)
layer_agrees (While e a) v h t sk end at k wanted = loop_agrees a v h t sk end at k wanted
layer_agrees (YieldLoop e i a) v h t sk end at k wanted = loop_agrees a v h t sk end at k wanted
layer_agrees (RankLoop e r i a) v h t sk end at k wanted = loop_agrees a v h t sk end at k wanted
layer_agrees _ v h t sk end at k wanted = refl

agrees : (s : Stmt) → Agrees s
agrees s =
    ind-Stmt Agrees (λ x y e end at k wanted.
    let r = roll-Stmt x in
    let q = out-roll-Stmt x ∙ sym e in
    inside_is r r at (place_in end k) (head_of end k) wanted
    ∙ ap (λ (d : Stmt-F Stmt). inside_layer d r at (place_in end k) (head_of end k) wanted) q
    ∙ layer_agrees y (λ z. z.0) (λ z. z.1) r (ap skip_layer q) end at k wanted
    ∙ ap (λ (d : Stmt-F Stmt). head_of end (rest_layer d r at k wanted)) (sym q)
    ∙ ap (head_of end) (sym (rest_is r r at k wanted))) s

pub spot_of_rest : SpotOfRest
spot_of_rest body wanted =
    subst (λ (ss : List Stmt). spot_among ss 0 (sizes_of body) None wanted ≡ head_of (sizes_of body) (rest_among ss 0 [] wanted)) (map-id body) (all_agree body (λ (s : Stmt). s) agrees (sizes_of body) 0 [] wanted)

-- the statement at a place is the first one of what is still to run
pub head_at : (proc : Proc) (place : ℕ) (k : Rest) (o : Option Stmt) → k ≡ rest_at proc.body place → ((end : ℕ) → o ≡ stmt_of (head_of end k)) → stmt_of (spot_at proc.body place) ≡ o
head_at proc place k o e h = ap stmt_of (spot_of_rest proc.body place) ∙ (ap (λ (r : Rest). stmt_of (head_of (sizes_of proc.body) r)) (sym e) ∙ sym (h (sizes_of proc.body)))
