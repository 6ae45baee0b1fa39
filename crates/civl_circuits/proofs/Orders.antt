-- The orders of words.
use Rattle.std.specs.Prelude.{nat_lt, nat_eq, int_lt, if◌then◌else◌}
use Rattle.std.proofs.Common.{◌≡◌, ℕ, ◌+◌, ◌*◌, ◌-◌, ◌^◌, ◌<◌, ◌≤◌, List, [], ◌∷◌, ◌++◌, length, get_or, take, sym, ◌∙◌, ap, ap₂, arith, Bool, true, false, not, ltb, length-append}
use Rattle.std.proofs.lemmas.List.{length-take-le, get_or_default}
use Rattle.std.proofs.lemmas.List.Elements.{All-get_or, All-push, All-take}
use Rattle.std.proofs.lemmas.Bool.{lt-ltb, le-ltb}
use Rattle.civl_bits.specs.Word.{signed_at, complement_at}
use Rattle.civl_bits.proofs.SignedOrder.{signed_order-by_top_bits}
use Rattle.civl_cnf.specs.Literal.{Literal, truth_of, opposite}
use Rattle.civl_cnf.specs.ClauseSet.{ClauseSet, IsBelow}
use Rattle.civl_cnf.specs.Gates.{bit}
use Rattle.civl_cnf.proofs.Extending.{extends_keeps, truth_of-opposite}
use Rattle.civl_circuits.specs.Circuits.{number, blank, IsOne, MakesWord, MakesBit}
use Rattle.civl_circuits.proofs.Numbers.{number-lt, number-low, number-top, number-push}
use Rattle.civl_circuits.proofs.Words.{bit_as}
use Rattle.civl_circuits.proofs.BitByBit.{bit_at-number}

no_borrow : (t : Bool) (p n a b f : ℕ) → n < p → a < p → b < p → f ≡ p - 1 - b → n + p * bit t ≡ a + f + 1 → not t ≡ ltb a b
no_borrow true p n a b f hn ha hb e h = sym (le-ltb a b (omega arith))
no_borrow false p n a b f hn ha hb e h = sym (lt-ltb a b (omega arith))

less_is : (v : ℕ → Bool) (a b s flipped : List Literal) (top : Literal) (one : Bool) → top ≡ get_or s (length a) top → one ≡ true → length a ≡ length b → length s ≡ length a + 1 → number v flipped ≡ complement_at (length b) (number v b) → number v s ≡ number v a + number v flipped + bit one → truth_of v (opposite top) ≡ ltb (number v a) (number v b)
less_is v a b s flipped top one et e same size turned sum =
    let low : number v (take (length a) s) < 2 ^ length a = number-low v (length a) s (omega arith) in
    let whole = number-top v (length a) s top size et in
    let one_is : bit one ≡ 1 = ap bit e in
    let powers : 2 ^ length a ≡ 2 ^ length b = ap (λ n. 2 ^ n) same in
    truth_of-opposite v top
    ∙ no_borrow (truth_of v top) (2 ^ length a) (number v (take (length a) s)) (number v a) (number v b) (number v flipped) low (number-lt v a) (omega (arith, number-lt v b, powers)) (turned ∙ ap (λ p. p - 1 - number v b) (sym powers)) (omega (arith, whole, sum, one_is))

pub less_bit : {f g : ClauseSet} {s : List Literal} (a b flipped : List Literal) (one top r : Literal) → MakesWord f g s (length a + 1) (2 * length a) (λ v. number v a + number v flipped + bit (truth_of v one)) → ((v : ℕ → Bool) → number v flipped ≡ complement_at (length b) (number v b)) → IsOne f one → length a ≡ length b → top ≡ get_or s (length a) top → r ≡ opposite top → MakesBit f g r (2 * length a) (λ v. ltb (number v a) (number v b))
less_bit {f} {g} {s} a b flipped one top r c ef o size et er = record {
  extends = c.extends;
  variables = c.variables;
  below = omega (arith, ap (λ (l : Literal). l.variable) er, ap (λ (l : Literal). l.variable) et, All-get_or (λ l. l.variable < g.variables) s (length a) top (omega (arith, c.size)) c.below);
  value = λ v h. ap (truth_of v) er ∙ less_is v a b s flipped top (truth_of v one) et (o.always v (extends_keeps c.extends v h)) size c.size (ef v) (c.value v h);
}

-- the order by top bits t and s, where the bits below are m and n
flipped_order : (t s : Bool) (p m n : ℕ) → m < p → n < p → (if nat_eq (bit t) (bit s) then nat_lt (m + p * bit t) (n + p * bit s) else nat_lt (bit s) (bit t)) ≡ nat_lt (m + p * bit (not t)) (n + p * bit (not s))
flipped_order true true p m n h l = moved_up m n p where
  moved_up : (m n p : ℕ) → nat_lt (m + p * 1) (n + p * 1) ≡ nat_lt (m + p * 0) (n + p * 0)
  moved_up m n p = grind arith
flipped_order true false p m n h l = sym (lt-ltb (m + p * 0) (n + p * 1) (omega arith))
flipped_order false true p m n h l = sym (le-ltb (m + p * 1) (n + p * 0) (omega arith))
flipped_order false false p m n h l = moved_down m n p where
  moved_down : (m n p : ℕ) → nat_lt (m + p * 0) (n + p * 0) ≡ nat_lt (m + p * 1) (n + p * 1)
  moved_down m n p = grind arith

abbrev pub top_flipped : List Literal → List Literal
top_flipped a = take (length a - 1) a ++ opposite (get_or a (length a - 1) blank) ∷ []

pub length-top_flipped : (a : List Literal) → 1 ≤ length a → length (top_flipped a) ≡ length a
length-top_flipped a h = length-append (take (length a - 1) a) (opposite (get_or a (length a - 1) blank) ∷ []) ∙ ap (λ n. n + 1) (length-take-le (length a - 1) a (omega arith)) ∙ omega arith

pub IsBelow-top_flipped : (n : ℕ) (a : List Literal) → 1 ≤ length a → IsBelow n a → IsBelow n (top_flipped a)
IsBelow-top_flipped n a h below =
    let top : (get_or a (length a - 1) blank).variable < n = All-get_or (λ l. l.variable < n) a (length a - 1) blank (omega arith) below in
    All-push (λ l. l.variable < n) (take (length a - 1) a) (opposite (get_or a (length a - 1) blank)) (All-take (λ l. l.variable < n) (length a - 1) a below) top

number-top_flipped : (v : ℕ → Bool) (a : List Literal) (k : ℕ) → length a ≡ k + 1 → number v (top_flipped a) ≡ number v (take k a) + 2 ^ k * bit (not (truth_of v (get_or a k blank)))
number-top_flipped v a k e =
    let same : length a - 1 ≡ k = omega arith in
    ap (λ n. number v (take n a ++ opposite (get_or a n blank) ∷ [])) same
    ∙ number-push v (take k a) (opposite (get_or a k blank))
    ∙ ap₂ (λ n b. number v (take k a) + 2 ^ n * bit b) (length-take-le k a (omega arith)) (truth_of-opposite v (get_or a k blank))

pub signed_order-flipped : (v : ℕ → Bool) (a b : List Literal) → 1 ≤ length a → length a ≡ length b → nat_lt (number v (top_flipped a)) (number v (top_flipped b)) ≡ int_lt (signed_at (length a) (number v a)) (signed_at (length a) (number v b))
signed_order-flipped v a b h e =
    let k : ℕ = length a - 1 in
    let one : length a ≡ k + 1 = omega arith in
    let other : length b ≡ k + 1 = omega arith in
    let powers : 2 ^ length b ≡ 2 ^ length a = ap (λ n. 2 ^ n) (sym e) in
    let same_a = get_or_default a k blank (get_or a k blank) (omega arith) in
    let same_b = get_or_default b k blank (get_or b k blank) (omega arith) in
    let t : Bool = truth_of v (get_or a k blank) in
    let s : Bool = truth_of v (get_or b k blank) in
    ap₂ nat_lt (number-top_flipped v a k one) (number-top_flipped v b k other)
    ∙ sym (flipped_order t s (2 ^ k) (number v (take k a)) (number v (take k b)) (number-low v k a (omega arith)) (number-low v k b (omega arith)))
    ∙ sym (ap₂ (λ x y. if nat_eq (bit t) (bit s) then nat_lt x y else nat_lt (bit s) (bit t)) (number-top v k a (get_or a k blank) one same_a) (number-top v k b (get_or b k blank) other same_b))
    ∙ sym (ap₂ (λ x y. if nat_eq x y then nat_lt (number v a) (number v b) else nat_lt y x) (bit_at-number v a k blank (omega arith)) (bit_at-number v b k blank (omega arith)))
    ∙ sym (signed_order-by_top_bits (length a) (number v a) (number v b) h (number-lt v a) (omega (arith, number-lt v b, powers)))

pub signed_bit : {f g : ClauseSet} {r : Literal} (a b first second : List Literal) → MakesBit f g r (2 * length first) (λ v. nat_lt (number v first) (number v second)) → first ≡ top_flipped a → second ≡ top_flipped b → 1 ≤ length a → length a ≡ length b → MakesBit f g r (2 * length a) (λ v. int_lt (signed_at (length a) (number v a)) (signed_at (length a) (number v b)))
signed_bit a b first second t ef es h e =
    let same : length first ≡ length a = ap length ef ∙ length-top_flipped a h in
    bit_as (2 * length a) _ t (omega (arith, same)) (λ v y. ap₂ (λ xs ys. nat_lt (number v xs) (number v ys)) ef es ∙ signed_order-flipped v a b h e)
