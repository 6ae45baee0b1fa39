-- The cuts among statements are as many as the cut points in them.
use Rattle.std.proofs.Common.{◌≡◌, ℕ, suc, ◌+◌, List, [], ◌∷◌, ◌++◌, map, sum, take, length, None, Some, refl, sym, ap, ap₂, ◌∙◌, subst, arith, zero, ◌≤◌}
use Rattle.std.specs.Prelude.{Option, slice_get}
use Rattle.std.specs.List.{flat_map}
use Rattle.std.proofs.lemmas.List.{length-append}
use Rattle.std.proofs.lemmas.List.Sums.{sum_by-cons}
use Rattle.std.proofs.lemmas.Option.{none-some, same_Some}
use Rattle.civl_tree.specs.declared.stmt.Stmt.{Stmt, roll-Stmt, out-roll-Stmt, map-Stmt}
use Rattle.civl_tree.specs.declared.stmt.Stmt.TheOpen.{Stmt-F, If, While, YieldLoop, RankLoop, Yield}
use Rattle.civl_tree.specs.declared.stmt.Stmt.TheFolds.{fold-Stmt, fold-roll-Stmt, ind-Stmt}
use Rattle.civl_tree.specs.declared.program.Refines.{Refines}
use Rattle.civl_tree.specs.declared.program.Proc.{Proc}
use Rattle.civl_tree.specs.Numbering.{inner_of, statements_of}
use Rattle.civl_tree.specs.rules.Count.{cut_step, cuts_in, cuts_under, cuts_of}
use Rattle.civl_tree.proofs.Preorder.{inner_layer, inner_is}
use Rattle.civl_layers.specs.declared.cut.Cut.{Cut}
use Rattle.civl_layers.specs.Cuts.{form_cut, cut_at, cuts_among, cuts_below, proc_cuts}
use Rattle.civl_layers.specs.CutCounts.{CutsAreCounted, CutsBeforeAreCounted}
use Rattle.civl_layers.proofs.Cutting.{cuts_none, cuts_append}

-- the cut points in a statement
abbrev points : Stmt → ℕ
points = fold-Stmt ℕ cut_step

abbrev Counted : Stmt → Type 0
Counted stmt = (number : ℕ) → length (cuts_among number (stmt ∷ inner_of stmt)) ≡ points stmt

none_counted : (number : ℕ) → length (cuts_among number []) ≡ 0
none_counted number = ap (length {A = Cut}) (cuts_none number)

add_counted : (number : ℕ) (xs ys : List Stmt) (m n : ℕ) → length (cuts_among number xs) ≡ m → ((k : ℕ) → length (cuts_among k ys) ≡ n) → length (cuts_among number (xs ++ ys)) ≡ m + n
add_counted number xs ys m n h k =
    ap (length {A = Cut}) (cuts_append number xs ys) ∙ length-append (cuts_among number xs) (cuts_among (number + length xs) ys) ∙ omega (arith, h, k (number + length xs))

points_more : (stmt : Stmt) (stmts : List Stmt) → cuts_in (stmt ∷ stmts) ≡ points stmt + cuts_in stmts
points_more stmt stmts = sum_by-cons (λ (n : ℕ). n) (points stmt) (map points stmts)

parts_counted : {S : Type 0} (ys : List S) (v : S → Stmt) → ((s : S) → Counted (v s)) → (number : ℕ) → length (cuts_among number (statements_of (map v ys))) ≡ cuts_in (map v ys)
parts_counted [] v h number = none_counted number
parts_counted (y ∷ ys) v h number =
    add_counted number (v y ∷ inner_of (v y)) (statements_of (map v ys)) (points (v y)) (cuts_in (map v ys)) (h y number) (parts_counted ys v h) ∙ sym (points_more (v y) (map v ys))

-- the cuts of a statement and of those in it, where it has this number
abbrev cuts_from : ℕ → Stmt-F Stmt → List Cut
cuts_from number form = cut_at number (form_cut form) ++ cuts_among (number + 1) (inner_layer form)

form_counted : {S : Type 0} (form : Stmt-F S) (v : S → Stmt) → ((s : S) → Counted (v s)) → (number : ℕ) → length (cuts_from number (map-Stmt S Stmt v form)) ≡ cut_step (map-Stmt Stmt ℕ points (map-Stmt S Stmt v form))
form_counted (If test first second) v h number =
    add_counted (number + 1) (statements_of (map v first)) (statements_of (map v second)) _ _ (parts_counted first v h (number + 1)) (parts_counted second v h)
form_counted (While test body) v h number = parts_counted body v h (number + 1)
form_counted (YieldLoop test inv body) v h number = omega (arith, parts_counted body v h (number + 1))
form_counted (RankLoop test rank inv body) v h number = omega (arith, parts_counted body v h (number + 1))
form_counted (Yield inv) v h number = ap suc (none_counted (number + 1))
form_counted _ v h number = none_counted (number + 1)

counted : (stmt : Stmt) → Counted stmt
unfolding cuts_among
counted stmt =
    ind-Stmt Counted (λ x y q number.
    let here = subst (λ (form : Stmt-F Stmt). length (cuts_from number form) ≡ cut_step (map-Stmt Stmt ℕ points form)) q (form_counted y (λ z. z.0) (λ z. z.1) number) in
    let own = ap (λ (form : Stmt-F Stmt). length (cut_at number (form_cut form) ++ cuts_among (number + 1) (inner_of (roll-Stmt x)))) (out-roll-Stmt x) in
    let inside = ap (λ (stmts : List Stmt). length (cut_at number (form_cut x) ++ cuts_among (number + 1) stmts)) (inner_is (roll-Stmt x) ∙ ap inner_layer (out-roll-Stmt x)) in
    own ∙ inside ∙ here ∙ sym (fold-roll-Stmt ℕ cut_step x)) stmt

-- the cuts among the statements of a body, wherever they are numbered from
pub body_counted : (body : List Stmt) (number : ℕ) → length (cuts_among number (statements_of body)) ≡ cuts_in body
body_counted [] number = none_counted number
body_counted (stmt ∷ stmts) number =
    add_counted number (stmt ∷ inner_of stmt) (statements_of stmts) (points stmt) (cuts_in stmts) (counted stmt number) (body_counted stmts) ∙ sym (points_more stmt stmts)

below_counted : (refines : Option Refines) (body : List Stmt) → length (cuts_below refines body) ≡ cuts_under refines body
below_counted None body = refl
below_counted (Some refines) body = omega (arith, body_counted body 0)

pub cuts_are_counted : CutsAreCounted
cuts_are_counted proc = below_counted proc.refines proc.body

-- the cuts of these procedures
pub all_counted : (procs : List Proc) → length (flat_map proc_cuts procs) ≡ sum (map cuts_of procs)
all_counted [] = refl
all_counted (proc ∷ procs) =
    length-append (proc_cuts proc) (flat_map proc_cuts procs) ∙ ap₂ (λ (m n : ℕ). m + n) (cuts_are_counted proc) (all_counted procs)
    ∙ sym (sum_by-cons (λ (n : ℕ). n) (cuts_of proc) (map cuts_of procs))

pub cuts_before_are_counted : CutsBeforeAreCounted
cuts_before_are_counted program place = all_counted (take place program.procs)

pub within_all : (procs : List Proc) (number : ℕ) (proc : Proc) → slice_get procs number ≡ Some proc → length (proc_cuts proc) ≤ length (flat_map proc_cuts procs)
within_all [] number proc e = absurd (none-some proc e)
within_all (p ∷ ps) zero proc e = subst (λ (q : Proc). length (proc_cuts q) ≤ length (proc_cuts p ++ flat_map proc_cuts ps)) (same_Some p proc e) (omega (arith, length-append (proc_cuts p) (flat_map proc_cuts ps)))
within_all (p ∷ ps) (suc number) proc e = omega (arith, length-append (proc_cuts p) (flat_map proc_cuts ps), within_all ps number proc e)
