-- Positions of a text are in the order of its offsets.
use Rattle.std.proofs.Common.{◌≡◌, ℕ, zero, suc, ◌+◌, ◌<◌, ◌≤◌, ◌⊎◌, inl, inr, false, List, length, get_or, refl, sym, ◌-◌, arith}
use Rattle.std.proofs.lemmas.Bool.{cases_Bool, cases_order}
use Rattle.civl_places.specs.Lines.{is_feed, line_of, column_of}
use Rattle.civl_places.specs.Laws.{IsBefore}
use Rattle.civl_places.proofs.Feeds.{line_feed, line_other, behind_other, column_is}

-- an earlier position, or the same
abbrev IsNotBehind : List ℕ → ℕ → ℕ → Type 0
IsNotBehind bytes p q =
    (line_of bytes p < line_of bytes q) ⊎ ((line_of bytes p ≡ line_of bytes q) × (column_of bytes p ≤ column_of bytes q))

line_of_step : (bytes : List ℕ) (p q : ℕ) → IsNotBehind bytes p q → line_of bytes p ≤ line_of bytes q
line_of_step bytes p q (inl less) = omega arith
line_of_step bytes p q (inr (same, _)) = omega arith

column_other : (bytes : List ℕ) (q : ℕ) → q < length bytes → is_feed (get_or bytes q 0) ≡ false → column_of bytes (q + 1) ≡ column_of bytes q + 1
column_other bytes q inside other =
    omega (arith, column_is bytes q, column_is bytes (q + 1), behind_other bytes q inside other)

other_on : (bytes : List ℕ) (p q : ℕ) → q < length bytes → is_feed (get_or bytes q 0) ≡ false → IsNotBehind bytes p q → IsBefore bytes p (q + 1)
other_on bytes p q inside other (inl less) = inl (omega (arith, line_other bytes q inside other))
other_on bytes p q inside other (inr (same, below)) =
    inr (omega (arith, line_other bytes q inside other), omega (arith, column_other bytes q inside other))

one_on : (bytes : List ℕ) (p q : ℕ) → q < length bytes → IsNotBehind bytes p q → IsBefore bytes p (q + 1)
one_on bytes p q inside known = elim (cases_Bool (is_feed (get_or bytes q 0))) [
  | inl feed ↦ inl (omega (arith, line_feed bytes q inside feed, line_of_step bytes p q known))
  | inr other ↦ other_on bytes p q inside other known
]

weaker : (bytes : List ℕ) (p q : ℕ) → IsBefore bytes p q → IsNotBehind bytes p q
weaker bytes p q (inl less) = inl less
weaker bytes p q (inr (same, below)) = inr (same, omega arith)

not_behind : (bytes : List ℕ) (p k : ℕ) → p + k ≤ length bytes → IsNotBehind bytes p (p + k)
not_behind bytes p zero inside = let none : p + 0 ≡ p = omega arith in rw none (inr (refl, omega arith))
not_behind bytes p (suc k) inside =
    let next : p + suc k ≡ p + k + 1 = omega arith in
    rw next (weaker bytes p (p + k + 1) (one_on bytes p (p + k) (omega arith) (not_behind bytes p k (omega arith))))

pub in_order : (bytes : List ℕ) (p q : ℕ) → p < q → q ≤ length bytes → IsBefore bytes p q
in_order bytes p q less inside =
    let last : p + (q - p - 1) + 1 ≡ q = omega arith in
    let found = one_on bytes p (p + (q - p - 1)) (omega arith) (not_behind bytes p (q - p - 1) (omega arith)) in
    rw last at found

apart : (bytes : List ℕ) (p q : ℕ) → IsBefore bytes p q → line_of bytes p ≡ line_of bytes q → column_of bytes p ≡ column_of bytes q → ⊥
apart bytes p q (inl less) line column = omega arith
apart bytes p q (inr (same, below)) line column = omega arith

pub one_offset : (bytes : List ℕ) (p q : ℕ) → p ≤ length bytes → q ≤ length bytes
    → line_of bytes p ≡ line_of bytes q → column_of bytes p ≡ column_of bytes q → p ≡ q
one_offset bytes p q first second line column = elim (cases_order p q) [
  | inl same ↦ same
  | inr (inl less) ↦ absurd (apart bytes p q (in_order bytes p q less second) line column)
  | inr (inr more) ↦ absurd (apart bytes q p (in_order bytes q p more first) (sym line) (sym column))
]
