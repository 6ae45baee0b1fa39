-- What is counted of what the paths from a cut meet.
use Rattle.std.proofs.Common.{◌≡◌, ℕ, suc, ◌+◌, ◌*◌, List, [], ◌∷◌, map, length, get_or, refl, sym, ap, ◌∙◌, arith, Option, Some}
use Rattle.std.specs.Prelude.{slice_get}
use Rattle.std.specs.Option.{option_map_or}
use Rattle.civl_tree.specs.declared.stmt.Stmt.{Stmt}
use Rattle.civl_tree.specs.declared.program.Proc.{Proc}
use Rattle.civl_tree.specs.Numbering.{statements_of, statement_at}
use Rattle.civl_layers.specs.declared.cut.Cut.{Cut}
use Rattle.civl_conditions.specs.paths.Flows.{flow_from}
use Rattle.civl_conditions.specs.Weights.{summed}
use native.Mathlib.Nat.{zero-mul, suc-mul}
use Rattle.civl_weighing.proofs.Listing.{mapped_at}

pub same_sums : {A : Type 0} (f g : A → ℕ) → ((x : A) → f x ≡ g x) → (xs : List A) → summed (map f xs) ≡ summed (map g xs)
same_sums f g h [] = refl
same_sums f g h (x ∷ xs) = ap (λ (n : ℕ). n + summed (map f xs)) (h x) ∙ ap (λ (n : ℕ). g x + n) (same_sums f g h xs)

-- of what is found by numbers
by_numbers : (f : Stmt → ℕ) (stmts : List Stmt) (numbers : List ℕ) (qs : List (ℕ × Stmt)) → map (slice_get stmts) numbers ≡ map (λ q. Some q.1) qs → summed (map (λ n. option_map_or f (slice_get stmts n) 0) numbers) ≡ summed (map (λ q. f q.1) qs)
by_numbers f stmts [] [] h = refl
by_numbers f stmts [] (q ∷ qs) h = absurd (nil_cons h)
  where
    nil_cons : {x : Option Stmt} {xs : List (Option Stmt)} → [] ≡ x ∷ xs → ⊥
    nil_cons e = cc
by_numbers f stmts (n ∷ ns) [] h = absurd (cons_nil h)
  where
    cons_nil : {x : Option Stmt} {xs : List (Option Stmt)} → x ∷ xs ≡ [] → ⊥
    cons_nil e = cc
by_numbers f stmts (n ∷ ns) (q ∷ qs) h =
    ap (λ (o : Option Stmt). option_map_or f o 0 + summed (map (λ n. option_map_or f (slice_get stmts n) 0) ns)) (head_same h) ∙ ap (λ (m : ℕ). f q.1 + m) (by_numbers f stmts ns qs (tail_same h))
  where
    head_same : {x y : Option Stmt} {xs ys : List (Option Stmt)} → x ∷ xs ≡ y ∷ ys → x ≡ y
    head_same e = cc

    tail_same : {x y : Option Stmt} {xs ys : List (Option Stmt)} → x ∷ xs ≡ y ∷ ys → xs ≡ ys
    tail_same e = cc

pub passed_sum : (f : Stmt → ℕ) (proc : Proc) (cut : Cut) (numbers : List ℕ) → map (statement_at proc.body) numbers ≡ map (λ q. Some q.1) (flow_from proc cut).passed
    → summed (map (λ at. get_or (map f (statements_of proc.body)) at 0) numbers) ≡ summed (map (λ q. f q.1) (flow_from proc cut).passed)
passed_sum f proc cut numbers h =
    same_sums _ _ (λ at. mapped_at f (statements_of proc.body) at) numbers ∙ by_numbers f (statements_of proc.body) numbers (flow_from proc cut).passed h

pub cuts_sum : (f : Cut → ℕ) (cuts : List Cut) (ends : List ℕ) → summed (map (λ at. get_or (map f cuts) at 0) ends) ≡ summed (map (λ end. option_map_or f (slice_get cuts end) 0) ends)
cuts_sum f cuts ends = same_sums _ _ (λ at. mapped_at f cuts at) ends

-- ---- sums over ends

one_more_time : (k n : ℕ) → n + k * n ≡ suc k * n
one_more_time k n = rw (suc-mul k n) (omega arith)

pub each_same : (n : ℕ) (ends : List ℕ) → summed (map (λ end. n) ends) ≡ length ends * n
each_same n [] = sym (zero-mul n)
each_same n (end ∷ ends) = ap (λ (m : ℕ). n + m) (each_same n ends) ∙ one_more_time (length ends) n

pub each_plus : (f : ℕ → ℕ) (ends : List ℕ) → length ends + summed (map f ends) ≡ summed (map (λ end. 1 + f end) ends)
each_plus f [] = omega arith
each_plus f (end ∷ ends) = omega (arith, each_plus f ends)

pub each_one : (ends : List ℕ) → length ends ≡ summed (map (λ end. 1) ends)
each_one [] = refl
each_one (end ∷ ends) = omega (arith, each_one ends)
