-- The ends by their numbers are those that are found from what is met.
use Rattle.std.proofs.Common.{◌≡◌, ℕ, zero, suc, ◌+◌, ◌<◌, ◌≤◌, Bool, true, false, List, [], ◌∷◌, ◌++◌, map, drop, take, length, refl, sym, ap, ap₂, ◌∙◌, append_assoc, Option, None, Some, arith}
use Rattle.std.proofs.lemmas.Bool.{lt-ltb, le-ltb, ne_eqb}
use Rattle.std.proofs.lemmas.List.{length-append}
use Rattle.std.specs.List.{list_any}
use Rattle.std.specs.Prelude.{if◌then◌else◌, ◌||◌, ◌&&◌, nat_eq}
use Rattle.civl_tree.specs.declared.stmt.Stmt.{Stmt, out-Stmt}
use Rattle.civl_tree.specs.declared.stmt.Stmt.TheOpen.{Stmt-F, YieldLoop, RankLoop, Yield}
use Rattle.civl_tree.specs.declared.program.Refines.{Refines}
use Rattle.civl_tree.specs.declared.program.Proc.{Proc}
use Rattle.civl_tree.specs.Numbering.{statements_of}
use Rattle.civl_layers.specs.declared.cut.Cut.{Cut}
use Rattle.civl_layers.specs.declared.cut.CutKind.{CutKind}
use Rattle.civl_layers.specs.Cuts.{form_cut, cut_kind, cut_at, cuts_among, cuts_below, proc_cuts}
use Rattle.civl_conditions.specs.declared.paths.met.Met.{Met}
use Rattle.civl_conditions.specs.paths.Ends.{is_entry, ends_among, reaches}
use Rattle.civl_conditions.specs.paths.EndsMet.{cuts_before, number_among, is_reached, ends_by, AreEnds}
use Rattle.civl_conditions.specs.paths.Flows.{Flow, flow_from}
use Rattle.civl_conditions.proofs.paths.Flowing.{among_same}

-- ---- one number more

abbrev one : (ℕ → Bool) → ℕ → List ℕ
one test at = if test at then at ∷ [] else []

among_next : (test : ℕ → Bool) (at i : ℕ) (cuts : List Cut) → i < length cuts → ends_among test at (drop i cuts) ≡ one test at ++ ends_among test (at + 1) (drop (suc i) cuts)
among_next test at i [] h = absurd (omega arith)
among_next test at zero (cut ∷ cuts) h = refl
among_next test at (suc i) (cut ∷ cuts) h = among_next test at i cuts (omega arith)

pub one_more : (test : ℕ → Bool) (i : ℕ) (cuts : List Cut) (ends new all : List ℕ) → i < length cuts → new ≡ ends ++ one test i → ends ++ ends_among test i (drop i cuts) ≡ all → new ++ ends_among test (i + 1) (drop (i + 1) cuts) ≡ all
one_more test i cuts ends new all h n k =
    let next : i + 1 ≡ suc i = omega arith in
    ap₂ (λ (xs : List ℕ) (m : ℕ). xs ++ ends_among test (i + 1) (drop m cuts)) n next
    ∙ append_assoc ends (one test i) (ends_among test (i + 1) (drop (suc i) cuts))
    ∙ ap (λ (xs : List ℕ). ends ++ xs) (sym (among_next test i i cuts h)) ∙ k

-- ---- the number of a cut

abbrev IsNoEntry : Option CutKind → Type 0
IsNoEntry None = true ≡ true
IsNoEntry (Some kind) = is_entry kind ≡ false

no_entry : (form : Stmt-F Stmt) → IsNoEntry (form_cut form)
no_entry (YieldLoop e i a) = refl
no_entry (RankLoop e r i a) = refl
no_entry (Yield i) = refl
no_entry _ = refl

one_before : (kind : Option CutKind) → IsNoEntry kind → (number at : ℕ) (cuts : List Cut) → at < number → cuts_before number (cut_at at kind ++ cuts) ≡ length (cut_at at kind) + cuts_before number cuts
one_before None h number at cuts l = omega arith
one_before (Some kind) h number at cuts l = rw (h, lt-ltb at number l) refl

not_before : (kind : Option CutKind) → IsNoEntry kind → (number at : ℕ) (cuts : List Cut) → number ≤ at → cuts_before number (cut_at at kind ++ cuts) ≡ cuts_before number cuts
not_before None h number at cuts l = refl
not_before (Some kind) h number at cuts l = let e : 0 + cuts_before number cuts ≡ cuts_before number cuts = omega arith in rw (h, le-ltb at number l) e

none_before : (number at : ℕ) (stmts : List Stmt) → number ≤ at → cuts_before number (cuts_among at stmts) ≡ 0
unfolding cuts_among
none_before number at [] l = refl
none_before number at (stmt ∷ stmts) l = not_before (cut_kind stmt) (no_entry (out-Stmt stmt)) number at (cuts_among (at + 1) stmts) l ∙ none_before number (at + 1) stmts (omega arith)

before_is : (number at n : ℕ) (stmts : List Stmt) → number ≡ at + n → cuts_before number (cuts_among at stmts) ≡ length (cuts_among at (take n stmts))
unfolding cuts_among
before_is number at zero [] e = refl
before_is number at (suc n) [] e = refl
before_is number at zero (stmt ∷ stmts) e = none_before number at (stmt ∷ stmts) (omega arith)
before_is number at (suc n) (stmt ∷ stmts) e =
    one_before (cut_kind stmt) (no_entry (out-Stmt stmt)) number at (cuts_among (at + 1) stmts) (omega arith)
    ∙ ap (λ (m : ℕ). length (cut_at at (cut_kind stmt)) + m) (before_is number (at + 1) n stmts (omega arith))
    ∙ sym (length-append (cut_at at (cut_kind stmt)) (cuts_among (at + 1) (take n stmts)))

-- ---- the ends

any_same : (f g : ℕ → ℕ) (end : ℕ) → ((n : ℕ) → nat_eq end (f n) ≡ nat_eq end (g n)) → (ns : List ℕ) → list_any (λ n. nat_eq end n) (map f ns) ≡ list_any (λ n. nat_eq end (g n)) ns
any_same f g end h [] = refl
any_same f g end h (n ∷ ns) = ap₂ (λ (a b : Bool). a || b) (h n) (any_same f g end h ns)

-- the number of a cut by what stands before it
abbrev counted : List Stmt → ℕ → ℕ
counted body number = 1 + length (cuts_among 0 (take number (statements_of body)))

abbrev reached_by : Bool → ℕ → (ℕ → ℕ) → List ℕ → ℕ → Bool
reached_by onward exit f ends end = (onward && nat_eq end exit) || list_any (λ number. nat_eq end (f number)) ends

ends_same : (refines : Option Refines) (body : List Stmt) (onward : Bool) (ends : List ℕ)
    → ends_by onward (cuts_below refines body) (map (number_among (cuts_below refines body)) ends) ≡ ends_among (reached_by onward (length (cuts_below refines body)) (counted body) ends) 0 (cuts_below refines body)
ends_same None body onward ends =
    let same = any_same (number_among []) (counted body) 0 (λ n. ne_eqb 0 (number_among [] n) (λ e. absurd (omega arith)) ∙ sym (ne_eqb 0 (counted body n) (λ e. absurd (omega arith)))) ends in
    ap (λ (b : Bool). if (onward && nat_eq 0 0) || b then 0 ∷ [] else []) same
ends_same (Some refines) body onward ends =
    let cuts = cuts_below (Some refines) body in
    let same : (n : ℕ) → number_among cuts n ≡ counted body n = λ n. omega (arith, before_is n 0 n (statements_of body) (omega arith)) in
    among_same (is_reached onward (length cuts) (map (number_among cuts) ends)) (reached_by onward (length cuts) (counted body) ends)
    (λ end. ap (λ (b : Bool). (onward && nat_eq end (length cuts)) || b) (any_same (number_among cuts) (counted body) end (λ n. ap (nat_eq end) (same n)) ends)) 0 cuts

ends_are : (proc : Proc) (f : Flow) → ends_by f.onward (proc_cuts proc) (map (number_among (proc_cuts proc)) f.ends) ≡ ends_among (reaches proc f) 0 (proc_cuts proc)
ends_are proc f = ends_same proc.refines proc.body f.onward f.ends

-- what is found from what is met
pub found_ends : (cuts : List Cut) (met : Met) (numbers ends : List ℕ) → numbers ≡ map (number_among cuts) met.ends → ends ≡ ends_by met.onward cuts numbers → AreEnds cuts met ends
found_ends cuts met numbers ends n e proc cut c m =
    e ∙ ap (ends_by met.onward cuts) n
    ∙ ap₂ (λ (cs : List Cut) (x : Met). ends_by x.onward cs (map (number_among cs) x.ends)) c m
    ∙ ends_are proc (flow_from proc cut)
