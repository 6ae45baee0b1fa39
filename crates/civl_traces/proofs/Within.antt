-- The numbers behind the statements of a rest are numbers.
use Rattle.std.proofs.Common.{◌≡◌, ℕ, zero, suc, ◌+◌, ◌<◌, ◌≤◌, ◌^◌, List, [], ◌∷◌, length, refl, ap, ◌∙◌, subst, arith, Some}
use Rattle.std.specs.Prelude.{slice_get}
use Rattle.civl_tree.specs.declared.stmt.Stmt.{Stmt}
use Rattle.civl_tree.specs.Numbering.{size_of, sizes_of, inner_of, statements_of}
use Rattle.civl_tree.proofs.Numbers.{sizes_are_counts}
use Rattle.civl_tree.proofs.Lists.{get_there}
use Rattle.civl_meaning.specs.Rest.{Rest, rest_at}
use Rattle.civl_conditions.proofs.paths.Heading.{counted}
use Rattle.civl_conditions.proofs.paths.Each.{Each, EachIn, rest_each}
use Rattle.civl_traces.specs.inner.Walking.{AreWithin}

pub within_next : (r : Rest) (n : ℕ) (s : Stmt) (k : Rest) → r ≡ (n, s) ∷ k → AreWithin r → (n + size_of s < 2 ^ 64) × AreWithin k
within_next r n s k e h = subst AreWithin e h

-- ---- from a place of a body

-- this statement stands there in the body
abbrev pub Stands : List Stmt → ℕ → Stmt → Type 0
Stands body n s = slice_get (statements_of body) n ≡ Some s

pub body_stands : (body : List Stmt) → Each (Stands body) 0 (statements_of body)
body_stands body j n s e g = ap (slice_get (statements_of body)) (omega arith) ∙ g

get_low : (ss : List Stmt) (n : ℕ) (s : Stmt) → slice_get ss n ≡ Some s → n < length ss
get_low [] n s e = cc
get_low (t ∷ ss) zero s e = omega arith
get_low (t ∷ ss) (suc n) s e = omega (arith, get_low ss n s e)

-- a statement that stands in a body with those in it ends there
pub ends_within : (body : List Stmt) (n : ℕ) (s : Stmt) → Each (Stands body) n (s ∷ inner_of s) → n + size_of s ≤ sizes_of body
ends_within body n s h =
    let size = counted s in
    let last = get_there (s ∷ inner_of s) (length (inner_of s)) (omega arith) in
    let low = get_low (statements_of body) (n + length (inner_of s)) last.0 (h (length (inner_of s)) (n + length (inner_of s)) last.0 refl last.1) in
    omega (arith, sizes_are_counts body)

all_within : (body : List Stmt) (r : Rest) → sizes_of body < 2 ^ 64 → EachIn (Stands body) r → AreWithin r
all_within body [] h e = tt
all_within body (q ∷ k) h e = (omega (arith, ends_within body q.0 q.1 e.0), all_within body k h e.1)

pub rest_within : (body : List Stmt) (n : ℕ) → sizes_of body < 2 ^ 64 → AreWithin (rest_at body n)
rest_within body n h = all_within body (rest_at body n) h (rest_each (Stands body) body n (body_stands body))
