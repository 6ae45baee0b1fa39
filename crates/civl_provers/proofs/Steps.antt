-- The steps of splitting, and how many nodes are left.
use Rattle.std.proofs.Common.{◌≡◌, ℕ, suc, zero, ◌+◌, ◌<◌, ◌≤◌, List, [], ◌∷◌, ◌++◌, length, refl, sym, ◌∙◌, ap, subst, arith, Bool, true, false, not, length-append}
use Rattle.std.proofs.lemmas.List.{length_push}
use Rattle.std.specs.Prelude.{if◌then◌else◌}
use Rattle.civl_cnf.specs.Literal.{Literal, opposite}
use Rattle.civl_provers.specs.Splitter.{nodes, left, FewerLeft}

nodes_some : (n : ℕ) → 1 ≤ nodes n
nodes_some zero = omega arith
nodes_some (suc n) = omega arith

left_some : (n : ℕ) (falses : List Literal) → 1 ≤ left n falses
left_some n [] = nodes_some n
left_some zero (l ∷ falses) = omega arith
left_some (suc n) (l ∷ falses) = let rest = left_some n falses in omega arith

if_true : (b : Bool) (x : ℕ) → b ≡ true → (if b then x else 0) ≡ x
if_true true x e = refl
if_true false x e = cc

if_not_true : (b : Bool) (x : ℕ) → b ≡ true → (if not b then x else 0) ≡ 0
if_not_true true x e = refl
if_not_true false x e = cc

-- one choice more leaves fewer
pub choice_fewer : (n : ℕ) (falses : List Literal) (l : Literal) → l.positive ≡ true → length falses < n → left n (falses ++ l ∷ []) < left n falses
choice_fewer zero falses l e low = absurd (omega arith)
choice_fewer (suc n) [] l e low = let here = if_true l.positive (nodes n) e in omega arith
choice_fewer (suc n) (x ∷ falses) l e low = let rest = choice_fewer n falses l e (omega arith) in omega arith

-- and so does turning one, whatever stood behind it
pub turn_fewer : (n : ℕ) (rest : List Literal) (l : Literal) (tail : List Literal) → l.positive ≡ true → length (rest ++ l ∷ tail) ≤ n → left n (rest ++ opposite l ∷ []) < left n (rest ++ l ∷ tail)
turn_fewer zero [] l tail e low = absurd (omega arith)
turn_fewer (suc n) [] l tail e low =
    let old = if_true l.positive (nodes n) e in
    let new = if_not_true l.positive (nodes n) e in
    let some = left_some n tail in
    omega arith
turn_fewer zero (x ∷ rest) l tail e low = absurd (omega arith)
turn_fewer (suc n) (x ∷ rest) l tail e low = let more = turn_fewer n rest l tail e (omega arith) in omega arith

pub fewer_left : (old rest tail : List Literal) (l : Literal) → old ≡ rest ++ l ∷ tail → l.positive ≡ true → FewerLeft old (rest ++ opposite l ∷ [])
fewer_left old rest tail l is e n fits =
    let longer : length old ≡ length rest + suc (length tail) = ap length is ∙ length-append rest (l ∷ tail) in
    let size = length_push rest (opposite l) in
    let within : length (rest ++ l ∷ tail) ≤ n = subst (λ (x : List Literal). length x ≤ n) is fits in
    (omega arith, subst (λ (x : List Literal). left n (rest ++ opposite l ∷ []) < left n x) (sym is) (turn_fewer n rest l tail e within))
