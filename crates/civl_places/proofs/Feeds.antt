-- Line feeds before an offset.
use Rattle.std.proofs.Common.{◌≡◌, ℕ, zero, suc, ◌+◌, ◌-◌, ◌<◌, ◌≤◌, Bool, true, false, not, List, [], ◌∷◌, ◌++◌, length, get_or, take, drop, Some, refl, ap, ◌∙◌, arith, length-drop}
use Rattle.std.specs.Prelude.{slice_get}
use Rattle.std.specs.List.{position_or_len, before_first, after_last}
use Rattle.std.proofs.lemmas.Bool.{ne_eqb}
use Rattle.std.proofs.lemmas.List.{length-take-le, drop-take, drop-drop}
use Rattle.std.proofs.Math.Seq.{take-add}
use Rattle.std.proofs.lemmas.List.Sums.{count_by_more_yes, count_by_more_no, suffix_len-take_yes, suffix_len-take_no, suffix_len-le-length, prefix_len-le-length}
use Rattle.civl_places.specs.Lines.{is_feed, line_of, column_of, line_at}
use Rattle.civl_places.specs.Laws.{ByteIsInLine}
use Rattle.civl_places.specs.inner.Begin.{behind_feed, begin_of}

-- a byte that ends no line
abbrev stays : ℕ → Bool
stays byte = not (is_feed byte)

back_one : (at : ℕ) → at + 1 - 1 ≡ at
back_one at = omega arith

-- ---- one byte on

pub line_feed : (bytes : List ℕ) (at : ℕ) → at < length bytes → is_feed (get_or bytes at 0) ≡ true → line_of bytes (at + 1) ≡ line_of bytes at + 1
line_feed bytes at inside feed = omega (arith, count_by_more_yes is_feed bytes at 0 inside feed)

pub line_other : (bytes : List ℕ) (at : ℕ) → at < length bytes → is_feed (get_or bytes at 0) ≡ false → line_of bytes (at + 1) ≡ line_of bytes at
line_other bytes at inside other = omega (arith, count_by_more_no is_feed bytes at 0 inside other)

pub behind_the_feed : (bytes : List ℕ) (at : ℕ) → at < length bytes → is_feed (get_or bytes at 0) ≡ true → behind_feed bytes (at + 1) ≡ 0
behind_the_feed bytes at inside feed =
    suffix_len-take_no stays bytes (at + 1) 0 (omega arith) (omega arith) (rw (back_one at) (ap not feed))

pub behind_other : (bytes : List ℕ) (at : ℕ) → at < length bytes → is_feed (get_or bytes at 0) ≡ false → behind_feed bytes (at + 1) ≡ 1 + behind_feed bytes at
behind_other bytes at inside other =
    let step = suffix_len-take_yes stays bytes (at + 1) 0 (omega arith) (omega arith) (rw (back_one at) (ap not other)) in
    rw (back_one at) at step

-- ---- columns

pub behind_within : (bytes : List ℕ) (at : ℕ) → at ≤ length bytes → behind_feed bytes at ≤ at
behind_within bytes at inside = omega (arith, suffix_len-le-length stays (take at bytes), length-take-le at bytes inside)

pub column_is : (bytes : List ℕ) (at : ℕ) → column_of bytes at ≡ 1 + behind_feed bytes at
column_is bytes at =
    omega (arith, suffix_len-le-length stays (take at bytes), length-drop (length (take at bytes) - behind_feed bytes at) (take at bytes))

-- ---- loops

-- what is known of the bytes before `at`
pub record AreRead (bytes : List ℕ) (at line start : ℕ) : Type 0 where
  pub lines : line ≡ line_of bytes at
  pub small : line ≤ at + 1
  pub begins : start + behind_feed bytes at ≡ at

-- No line feed stands between the start and the offset.
pub record IsBehind (bytes : List ℕ) (offset start : ℕ) : Type 0 where
  pub within : start ≤ offset
  pub same : behind_feed bytes offset ≡ (offset - start) + behind_feed bytes start

-- ---- the line

cut : (xs : List ℕ) (s k n : ℕ) → take (k + n) (drop s xs) ≡ drop s (take (s + k) xs) ++ take n (drop (s + k) xs)
cut xs s k n = rw (take-add k n (drop s xs), drop-take s k xs, drop-drop k s xs) refl

cut_at : (xs : List ℕ) (s o n : ℕ) → s ≤ o → take (o + n - s) (drop s xs) ≡ drop s (take o xs) ++ take n (drop o xs)
cut_at xs s o n within =
    let back : s + (o - s) ≡ o = omega arith in
    let len : o + n - s ≡ (o - s) + n = omega arith in
    let parts = cut xs s (o - s) n in
    let whole = rw back at parts in
    rw len whole

-- from where the line begins, as far as the next line feed
pub line_is : (bytes : List ℕ) (offset start n : ℕ) → offset ≤ length bytes → start ≤ offset → start ≡ begin_of bytes offset
    → n ≡ position_or_len is_feed (drop offset bytes) → take (offset + n - start) (drop start bytes) ≡ line_at bytes offset
line_is bytes offset start n inside within begins ends =
    let begin : length (take offset bytes) - behind_feed bytes offset ≡ start = omega (arith, length-take-le offset bytes inside) in
    rw begin (rw (← ends) (cut_at bytes start offset n within))

pub line_fits : (bytes : List ℕ) (offset n : ℕ) → offset ≤ length bytes → n ≡ position_or_len is_feed (drop offset bytes) → offset + n ≤ length bytes
line_fits bytes offset n inside ends =
    omega (arith, prefix_len-le-length stays (drop offset bytes), length-drop offset bytes)

-- ---- a byte in its line

behind_all : {A : Type 0} (xs ys : List A) → slice_get (xs ++ ys) (length xs) ≡ slice_get ys 0
behind_all [] ys = refl
behind_all (x ∷ xs) ys = behind_all xs ys

from_here : {A : Type 0} (xs : List A) (n : ℕ) (x : A) → slice_get xs n ≡ Some x → drop n xs ≡ x ∷ drop (suc n) xs
from_here [] n x h = absurd (let none = h in cc)
from_here (y ∷ ys) zero x h = let same : y ≡ x = cc in ap (λ z. z ∷ ys) same
from_here (y ∷ ys) (suc n) x h = from_here ys n x h

front_byte : (byte : ℕ) (rest : List ℕ) → is_feed byte ≡ false → slice_get (before_first is_feed (byte ∷ rest)) 0 ≡ Some byte
front_byte byte rest other =
    let one : 1 + position_or_len is_feed rest ≡ suc (position_or_len is_feed rest) = omega arith in
    rw (other, one) refl

pub byte_is_in_line : ByteIsInLine
byte_is_in_line bytes offset byte here other =
    let before = after_last is_feed (take offset bytes) in
    let at : column_of bytes offset - 1 ≡ length (after_last is_feed (take offset bytes)) = omega arith in
    ap (λ (n : ℕ). slice_get (line_at bytes offset) n) at
    ∙ behind_all before (before_first is_feed (drop offset bytes))
    ∙ ap (λ (l : List ℕ). slice_get (before_first is_feed l) 0) (from_here bytes offset byte here)
    ∙ front_byte byte (drop (suc offset) bytes) (ne_eqb byte 10 other)
