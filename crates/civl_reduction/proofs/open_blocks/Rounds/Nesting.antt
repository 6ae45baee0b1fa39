-- No rank loop stands around a loop: where a loop is what is still to run, each loop behind it that is an outer one is no rank loop.
use Rattle.std.proofs.Common.{◌≡◌, ℕ, zero, suc, ◌+◌, ◌<◌, ◌≤◌, Bool, true, false, ◌&&◌, List, [], ◌∷◌, ◌++◌, map, length, ◌⊎◌, inl, inr, Some, refl, sym, ap, ◌∙◌, subst, append-nil, arith, map-id}
use Rattle.std.specs.Prelude.{slice_get}
use Rattle.std.proofs.lemmas.Bool.{true≢false, false≢true, lt-ltb, le-ltb, false_from_ne_true}
use Rattle.std.proofs.lemmas.Option.{none-some, same_Some}
use Rattle.civl_tree.specs.declared.program.Proc.{Proc}
use Rattle.civl_tree.specs.declared.program.Program.{Program}
use Rattle.civl_tree.specs.declared.stmt.Stmt.{Stmt, out-Stmt, roll-Stmt, out-roll-Stmt, map-Stmt}
use Rattle.civl_tree.specs.declared.stmt.Stmt.TheOpen as stmt
use Rattle.civl_tree.specs.declared.stmt.Stmt.TheFolds.{ind-Stmt}
use Rattle.civl_tree.specs.Numbering.{size_of, sizes_of, numbered, inner_of, statements_of, statement_at, proc_item}
use Rattle.civl_tree.specs.rules.Rules.{Keeps}
use Rattle.civl_tree.specs.rules.Broken.{InStatement}
use Rattle.civl_tree.proofs.Kept.{unbroken}
use Rattle.civl_tree.proofs.Numbers.{sizes_are_counts}
use Rattle.civl_names.proofs.walks.Judging.{each_is_judged}
use Rattle.civl_meaning.specs.Rest.{Rest, rest_inside, rest_among, rest_at}
use Rattle.civl_meaning.proofs.Rests.{rest_layer, rest_is}
use Rattle.civl_yields.specs.Places.{insides, insides_all, form_pauses, stmt_nested}
use Rattle.civl_yields.specs.YieldRules.{yield_rules, rank_loop_rule}
use Rattle.civl_yields.proofs.Examples.{inside_form, insides_is}
use Rattle.civl_yields.proofs.Beside.{each_is_inside}
use Rattle.civl_conditions.proofs.paths.Belonging.{at_first, in_first, past_first}
use Rattle.civl_conditions.proofs.paths.Heading.{counted}
use Rattle.civl_reduction.specs.open_blocks.Following.{form_loops}
use Rattle.civl_reduction.specs.open_blocks.Rounds.{form_ranked}

-- ---- lists

-- an element of two lists is one of the first or of the second
split_at : {A : Type 0} (xs ys : List A) (j : ℕ) (x : A) → slice_get (xs ++ ys) j ≡ Some x → ((slice_get xs j ≡ Some x) × (j < length xs)) ⊎ ((i : ℕ) × (slice_get ys i ≡ Some x) × (length xs + i ≡ j))
split_at [] ys j x h = inr (j, h, omega arith)
split_at (z ∷ xs) ys zero x h = inl (h, omega arith)
split_at (z ∷ xs) ys (suc j) x h = elim (split_at xs ys j x h) [ inl e ↦ inl (e.0, omega (arith, e.1)) | inr t ↦ inr (t.0, t.1, omega (arith, t.2)) ]

-- each of these is true
abbrev AllTrue : List Bool → Type 0
AllTrue [] = Unit {0}
AllTrue (b ∷ bs) = (b ≡ true) × AllTrue bs

true_joined : (xs ys : List Bool) → AllTrue xs → AllTrue ys → AllTrue (xs ++ ys)
true_joined [] ys h k = k
true_joined (x ∷ xs) ys h k = (h.0, true_joined xs ys h.1 k)

true_at : (xs : List Bool) (j : ℕ) (b : Bool) → AllTrue xs → slice_get xs j ≡ Some b → b ≡ true
true_at [] j b h e = absurd (none-some b e)
true_at (x ∷ xs) zero b h e = sym (same_Some x b e) ∙ h.0
true_at (x ∷ xs) (suc j) b h e = true_at xs j b h.1 e

-- ---- inside a rank loop

abbrev Told : Stmt → Type 0
Told s = AllTrue (insides s true)

all_told : {S : Type 0} (ys : List S) (v : S → Stmt) → ((x : S) → Told (v x)) → AllTrue (insides_all (map v ys) true)
all_told [] v h = tt
all_told (y ∷ ys) v h = true_joined (insides (v y) true) (insides_all (map v ys) true) (h y) (all_told ys v h)

layer_told : {S : Type 0} (d : stmt.Stmt-F S) (v : S → Stmt) → ((x : S) → Told (v x)) → AllTrue (inside_form (map-Stmt S Stmt v d) true)
layer_told (stmt.If e a b) v h = (refl, true_joined (insides_all (map v a) true) (insides_all (map v b) true) (all_told a v h) (all_told b v h))
layer_told (stmt.While e a) v h = (refl, all_told a v h)
layer_told (stmt.YieldLoop e i a) v h = (refl, all_told a v h)
layer_told (stmt.RankLoop e r i a) v h = (refl, all_told a v h)
layer_told _ v h = (refl, tt)

told : (s : Stmt) → Told s
told s =
    ind-Stmt Told (λ x y e.
    let r = roll-Stmt x in
    let q = out-roll-Stmt x ∙ sym e in
    subst AllTrue (sym (insides_is r true ∙ ap (λ (d : stmt.Stmt-F Stmt). inside_form d true) q)) (layer_told y (λ z. z.0) (λ z. z.1))) s

map_told : (ss : List Stmt) → AllTrue (insides_all ss true)
map_told [] = tt
map_told (s ∷ ss) = true_joined (insides s true) (insides_all ss true) (told s) (map_told ss)

-- ---- around a statement

-- this has the number w or a later one, or is a loop but no rank loop
abbrev pub IsOuter : ℕ → ℕ × Stmt → Type 0
IsOuter w q = (w ≤ q.0) ⊎ ((form_loops (out-Stmt q.1) ≡ true) × (form_ranked (out-Stmt q.1) ≡ false))

abbrev pub AreOuter : ℕ → Rest → Type 0
AreOuter w [] = Unit {0}
AreOuter w (q ∷ k) = IsOuter w q × AreOuter w k

outer_joined : (w : ℕ) (ss : List Stmt) (at : ℕ) (k : Rest) → w ≤ at → AreOuter w k → AreOuter w (numbered at ss ++ k)
outer_joined w [] at k l h = h
outer_joined w (s ∷ ss) at k l h = (inl l, outer_joined w ss (at + size_of s) k (omega (arith, l)) h)

-- the flags of a statement's inside
abbrev tail_of : List Bool → List Bool
tail_of [] = []
tail_of (b ∷ bs) = bs

-- what is to be shown of a statement
abbrev Shows : Stmt → Type 0
Shows s = (at : ℕ) (k : Rest) (j w : ℕ) (i : Bool) → w ≡ at + 1 + j → slice_get (insides s i) (suc j) ≡ Some false → AreOuter w k → AreOuter w (rest_inside s s at k w)

-- a statement is told first
own_told : (s : Stmt) (i : Bool) → (flags : List Bool) × (insides s i ≡ i ∷ flags)
own_told s i = by_form (out-Stmt s) (insides_is s i)
  where
    by_form : (d : stmt.Stmt-F Stmt) → insides s i ≡ inside_form d i → (flags : List Bool) × (insides s i ≡ i ∷ flags)
    by_form (stmt.If e a b) q = (_, q)
    by_form (stmt.While e a) q = (_, q)
    by_form (stmt.YieldLoop e v a) q = (_, q)
    by_form (stmt.RankLoop e r v a) q = (_, q)
    by_form (stmt.Assign x e) q = (_, q)
    by_form (stmt.Assert e) q = (_, q)
    by_form (stmt.Call f es rs) q = (_, q)
    by_form (stmt.Yield v) q = (_, q)
    by_form stmt.Commit q = (_, q)
    by_form (stmt.Intro x e) q = (_, q)
    by_form (stmt.Spawn f es) q = (_, q)

one_long : (s : Stmt) (i : Bool) → length (insides s i) ≡ size_of s
one_long s i =
    let all = each_is_inside (s ∷ []) i in
    let own = counted s in
    let alone : length (insides s i ++ []) ≡ length (insides s i) = ap (length {A = Bool}) (append-nil (insides s i)) in
    let inner : length (s ∷ (inner_of s ++ [])) ≡ suc (length (inner_of s)) = ap (λ (ss : List Stmt). suc (length ss)) (append-nil (inner_of s)) in
    omega (arith, all, own, alone, inner)

among_shows : {S : Type 0} (ys : List S) (v : S → Stmt) → ((x : S) → Shows (v x)) → (at : ℕ) (k : Rest) (j w : ℕ) (i : Bool) → w ≡ at + j → slice_get (insides_all (map v ys) i) j ≡ Some false → AreOuter w k → AreOuter w (rest_among (map v ys) at k w)
among_shows [] v h at k j w i e g o = absurd (none-some false g)
among_shows (y ∷ ys) v h at k zero w i e g o =
    let here : w ≡ at = omega (arith, e) in
    subst (AreOuter w) (sym (at_first (v y) (map v ys) at k w here)) (outer_joined w (map v (y ∷ ys)) at k (omega (arith, here)) o)
among_shows (y ∷ ys) v h at k (suc j) w i e g o =
    let size = one_long (v y) i in
    elim (split_at (insides (v y) i) (insides_all (map v ys) i) (suc j) false g) [
      | inl t ↦
          let low = t.1 in
          subst (AreOuter w) (sym (in_first (v y) (map v ys) at k w (omega (arith, e)) (omega (arith, e, low, size))))
          (h y at (numbered (at + size_of (v y)) (map v ys) ++ k) j w i (omega (arith, e)) t.0 (outer_joined w (map v ys) (at + size_of (v y)) k (omega (arith, e, low, size)) o))
      | inr t ↦
          let place = t.2 in
          subst (AreOuter w) (sym (past_first (v y) (map v ys) at k w (omega (arith, e, place, size))))
          (among_shows ys v h (at + size_of (v y)) k t.0 w i (omega (arith, e, place, size)) t.1 o)
    ]

layer_shows : {S : Type 0} (d : stmt.Stmt-F S) (v : S → Stmt) → ((x : S) → Shows (v x)) → (s : Stmt) → out-Stmt s ≡ map-Stmt S Stmt v d → (at : ℕ) (k : Rest) (j w : ℕ) (i : Bool) → w ≡ at + 1 + j → slice_get (inside_form (map-Stmt S Stmt v d) i) (suc j) ≡ Some false → AreOuter w k
    → AreOuter w (rest_layer (map-Stmt S Stmt v d) s at k w)
layer_shows (stmt.If t a b) v h s q at k j w i e g o =
    let first = each_is_inside (map v a) i in
    let count = sizes_are_counts (map v a) in
    elim (split_at (insides_all (map v a) i) (insides_all (map v b) i) j false g) [
      | inl x ↦
          let low = x.1 in
          let below : w < at + 1 + sizes_of (map v a) = omega (arith, e, low, first, count) in
          rw (lt-ltb w (at + 1 + sizes_of (map v a)) below) (among_shows a v h (at + 1) k j w i e x.0 o)
      | inr x ↦
          let place = x.2 in
          rw (le-ltb w (at + 1 + sizes_of (map v a)) (omega (arith, e, place, first, count))) (among_shows b v h (at + 1 + sizes_of (map v a)) k x.0 w i (omega (arith, e, place, first, count)) x.1 o)
    ]
layer_shows (stmt.While t a) v h s q at k j w i e g o = among_shows a v h (at + 1) ((at, s) ∷ k) j w i e g (inr (ap form_loops q, ap form_ranked q), o)
layer_shows (stmt.YieldLoop t u a) v h s q at k j w i e g o = among_shows a v h (at + 1) ((at, s) ∷ k) j w i e g (inr (ap form_loops q, ap form_ranked q), o)
layer_shows (stmt.RankLoop t r u a) v h s q at k j w i e g o = absurd (false≢true (true_at (insides_all (map v a) true) j false (map_told (map v a)) g))
layer_shows _ v h s q at k j w i e g o = absurd (none-some false g)

shows : (s : Stmt) → Shows s
shows s =
    ind-Stmt Shows (λ x y e at k j w i p g o.
    let r = roll-Stmt x in
    let q = out-roll-Stmt x ∙ sym e in
    subst (AreOuter w) (sym (rest_is r r at k w ∙ ap (λ (d : stmt.Stmt-F Stmt). rest_layer d r at k w) q))
    (layer_shows y (λ z. z.0) (λ z. z.1) r q at k j w i p (ap (λ (l : List Bool). slice_get l (suc j)) (sym (insides_is r i ∙ ap (λ (d : stmt.Stmt-F Stmt). inside_form d i) q)) ∙ g) o)) s

-- from a statement that is in no rank loop
outer_at : (body : List Stmt) (w : ℕ) → slice_get (insides_all body false) w ≡ Some false → AreOuter w (rest_at body w)
outer_at body w =
    subst (λ (ss : List Stmt). slice_get (insides_all ss false) w ≡ Some false → AreOuter w (rest_among ss 0 [] w)) (map-id body)
    (λ g. among_shows body (λ (s : Stmt). s) shows 0 [] w w false (omega arith) g tt)

-- ---- E51

not_nested : (b c : Bool) → (b && c) ≡ false → c ≡ true → b ≡ false
not_nested true c h e = absurd (true≢false (sym e ∙ h))
not_nested false c h e = refl

-- what is still to run from a loop in a procedure that keeps the rule
pub loop_outer : (program : Program) (q : ℕ) (proc : Proc) → Keeps yield_rules program → slice_get program.procs q ≡ Some proc → (w : ℕ) (s : Stmt) → statement_at proc.body w ≡ Some s → form_pauses (out-Stmt s) ≡ true → AreOuter w (rest_at proc.body w)
loop_outer program q proc yields there w s at pauses =
    let judged = each_is_judged stmt_nested (statements_of proc.body) (insides_all proc.body false) (each_is_inside proc.body false) w s at in
    let kept : stmt_nested s judged.0 ≡ false = false_from_ne_true (stmt_nested s judged.0) (λ b.
    unbroken yield_rules program yields rank_loop_rule (1, omega arith, refl) (proc_item program q) w (InStatement q proc there refl (judged.2.0 b))) in
    let flag : judged.0 ≡ false = not_nested judged.0 (form_pauses (out-Stmt s)) kept pauses in
    outer_at proc.body w (judged.1 ∙ ap (λ (b : Bool). Some b) flag)
