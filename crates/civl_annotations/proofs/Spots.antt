-- What stands at a place of a body stands there without annotations too.
use Rattle.std.proofs.Common.{◌≡◌, ℕ, ◌+◌, Bool, true, false, List, [], ◌∷◌, map, refl, sym, ap, ◌∙◌, subst, map-id, Option, None, Some}
use Rattle.std.specs.Prelude.{nat_lt, nat_eq, if◌then◌else◌, option_map}
use Rattle.civl_tree.specs.declared.stmt.Stmt.{Stmt, out-Stmt, roll-Stmt, out-roll-Stmt, map-Stmt}
use Rattle.civl_tree.specs.declared.stmt.Stmt.TheOpen.{Stmt-F, Assign, Assert, If, While, YieldLoop, RankLoop, Call, Yield, Commit, Intro, Spawn}
use Rattle.civl_tree.specs.declared.stmt.Stmt.TheFolds.{ind-Stmt}
use Rattle.civl_tree.specs.Numbering.{size_of, sizes_of}
use Rattle.civl_meaning.specs.Places.{Spot, is_skipped, start_of, first_in, inside_of, loop_spot, spot_among, spot_at}
use Rattle.civl_meaning.proofs.Placing.{inside_is, inside_layer}
use Rattle.civl_meaning.proofs.Finding.{among_is}
use Rattle.civl_annotations.specs.Bare.{bare_stmt}
use Rattle.civl_annotations.proofs.Baring.{bare_layer, bare_by, skipped_same, size_same, sizes_same}

abbrev pub bare_spot : Spot → Spot
bare_spot s = record { number = s.number; stmt = bare_stmt s.stmt; next = s.next }

abbrev pub bare_there : Option Spot → Option Spot
bare_there = option_map bare_spot

either_there : (b : Bool) (x y u w : Option Spot) → u ≡ bare_there x → w ≡ bare_there y → (if b then u else w) ≡ bare_there (if b then x else y)
either_there true x y u w p q = p
either_there false x y u w p q = q

pub start_same : (ss : List Stmt) (at next : ℕ) → start_of (map bare_stmt ss) at next ≡ start_of ss at next
start_same [] at next = refl
start_same (s ∷ ss) at next = refl

-- this statement, before this place
abbrev spot_then : ℕ → Stmt → ℕ → Option Spot
spot_then at s next = Some (record { number = at; stmt = s; next = next })

-- the first of statements, where the first one has this many in it
abbrev first_more : Bool → ℕ → Stmt → List Stmt → ℕ → ℕ → Option Spot → Option Spot
first_more skipped n s ss at next after = if skipped then first_in ss (at + n) next after else Some (record { number = at; stmt = s; next = start_of ss (at + n) next })

first_there : (ss : List Stmt) (at next : ℕ) (after : Option Spot) → first_in (map bare_stmt ss) at next (bare_there after) ≡ bare_there (first_in ss at next after)
first_there [] at next after = refl
first_there (s ∷ ss) at next after =
    let n = size_of s in
    let k = start_same ss (at + n) next in
    ap (λ (b : Bool). first_more b (size_of (bare_stmt s)) (bare_stmt s) (map bare_stmt ss) at next (bare_there after)) (skipped_same s)
    ∙ ap (λ (m : ℕ). first_more (is_skipped s) m (bare_stmt s) (map bare_stmt ss) at next (bare_there after)) (size_same s)
    ∙ either_there (is_skipped s) (first_in ss (at + n) next after) (Some (record { number = at; stmt = s; next = start_of ss (at + n) next })) _ _
    (first_there ss (at + n) next after)
    (ap (spot_then at (bare_stmt s)) k)

-- what stands among statements, where the first one has this many in it
abbrev more : ℕ → Stmt → List Stmt → ℕ → ℕ → Option Spot → ℕ → Option Spot
more n s ss at next after wanted =
    if nat_lt wanted (at + n)
    then (if nat_eq wanted at
    then first_in (s ∷ ss) at next after
    else inside_of s s at (start_of ss (at + n) next) (first_in ss (at + n) next after) wanted)
    else spot_among ss (at + n) next after wanted

abbrev Stays : Stmt → Type 0
Stays s = (at next : ℕ) (after : Option Spot) (wanted : ℕ) → inside_of (bare_stmt s) (bare_stmt s) at next (bare_there after) wanted ≡ bare_there (inside_of s s at next after wanted)

all_stay : {S : Type 0} (ys : List S) (v : S → Stmt) → ((x : S) → Stays (v x)) → (at next : ℕ) (after : Option Spot) (wanted : ℕ) → spot_among (map bare_stmt (map v ys)) at next (bare_there after) wanted ≡ bare_there (spot_among (map v ys) at next after wanted)
all_stay [] v h at next after wanted = refl
all_stay (y ∷ ys) v h at next after wanted =
    let s = v y in
    let ss = map v ys in
    let n = size_of s in
    let inner = λ (place : ℕ) (o : Option Spot). inside_of (bare_stmt s) (bare_stmt s) at place o wanted in
    let inside = ap (λ (place : ℕ). inner place (first_in (map bare_stmt ss) (at + n) next (bare_there after))) (start_same ss (at + n) next)
    ∙ ap (inner (start_of ss (at + n) next)) (first_there ss (at + n) next after)
    ∙ h y at (start_of ss (at + n) next) (first_in ss (at + n) next after) wanted in
    among_is (bare_stmt s) (map bare_stmt ss) at next (bare_there after) wanted
    ∙ ap (λ (m : ℕ). more m (bare_stmt s) (map bare_stmt ss) at next (bare_there after) wanted) (size_same s)
    ∙ either_there (nat_lt wanted (at + n)) _ (spot_among ss (at + n) next after wanted) _ _
    (either_there (nat_eq wanted at) (first_in (s ∷ ss) at next after) (inside_of s s at (start_of ss (at + n) next) (first_in ss (at + n) next after) wanted) _ _ (first_there (s ∷ ss) at next after) inside)
    (all_stay ys v h (at + n) next after wanted)
    ∙ ap bare_there (sym (among_is s ss at next after wanted))

layer_stays : {S : Type 0} (y : Stmt-F S) (v : S → Stmt) → ((x : S) → Stays (v x)) → (t : Stmt) (at next : ℕ) (after : Option Spot) (wanted : ℕ) →
    inside_layer (bare_layer (map-Stmt S Stmt v y)) (bare_stmt t) at next (bare_there after) wanted ≡ bare_there (inside_layer (map-Stmt S Stmt v y) t at next after wanted)
layer_stays (If e a b) v h t at next after wanted =
    let n = sizes_of (map v a) in
    ap (λ (m : ℕ). if nat_lt wanted (at + 1 + m) then spot_among (map bare_stmt (map v a)) (at + 1) next (bare_there after) wanted else spot_among (map bare_stmt (map v b)) (at + 1 + m) next (bare_there after) wanted) (sizes_same (map v a))
    ∙ either_there (nat_lt wanted (at + 1 + n)) (spot_among (map v a) (at + 1) next after wanted) (spot_among (map v b) (at + 1 + n) next after wanted) _ _ (all_stay a v h (at + 1) next after wanted) (all_stay b v h (at + 1 + n) next after wanted)
layer_stays (While e a) v h t at next after wanted = all_stay a v h (at + 1) at (loop_spot t at next) wanted
layer_stays (YieldLoop e i a) v h t at next after wanted = all_stay a v h (at + 1) at (loop_spot t at next) wanted
layer_stays (RankLoop e r i a) v h t at next after wanted = all_stay a v h (at + 1) at (loop_spot t at next) wanted
layer_stays (Assign x e) v h t at next after wanted = refl
layer_stays (Assert e) v h t at next after wanted = refl
layer_stays (Call f es rs) v h t at next after wanted = refl
layer_stays (Yield i) v h t at next after wanted = refl
layer_stays Commit v h t at next after wanted = refl
layer_stays (Intro x e) v h t at next after wanted = refl
layer_stays (Spawn f es) v h t at next after wanted = refl

stays : (s : Stmt) → Stays s
stays s =
    ind-Stmt Stays (λ x y e at next after wanted.
    let t = roll-Stmt x in
    let q = out-roll-Stmt x ∙ sym e in
    inside_is (bare_stmt t) (bare_stmt t) at next (bare_there after) wanted
    ∙ ap (λ (d : Stmt-F Stmt). inside_layer d (bare_stmt t) at next (bare_there after) wanted) (bare_by t _ q)
    ∙ layer_stays y (λ z. z.0) (λ z. z.1) t at next after wanted
    ∙ ap bare_there (sym (inside_is t t at next after wanted ∙ ap (λ (d : Stmt-F Stmt). inside_layer d t at next after wanted) q))) s

among_stays : (ss : List Stmt) (at next : ℕ) (after : Option Spot) (wanted : ℕ) → spot_among (map bare_stmt ss) at next (bare_there after) wanted ≡ bare_there (spot_among ss at next after wanted)
among_stays ss at next after wanted =
    subst (λ (r : List Stmt). spot_among (map bare_stmt r) at next (bare_there after) wanted ≡ bare_there (spot_among r at next after wanted)) (map-id ss) (all_stay ss (λ (s : Stmt). s) stays at next after wanted)

pub spot_stays : (body : List Stmt) (wanted : ℕ) → spot_at (map bare_stmt body) wanted ≡ bare_there (spot_at body wanted)
spot_stays body wanted = ap (λ (n : ℕ). spot_among (map bare_stmt body) 0 n None wanted) (sizes_same body) ∙ among_stays body 0 (sizes_of body) None wanted
