-- Masks: what the bits of words say of permissions.
use Rattle.std.specs.Prelude.{nat_eq, nat_le, flat_map, All, min, max}
use Rattle.std.specs.Int.{bit_at}
use Rattle.std.specs.List.{list_all, list_any}
use Rattle.std.proofs.Common.{◌≡◌, ◌≢◌, ◌∙◌, ℕ, zero, suc, ◌*◌, ◌%◌, ◌^◌, ◌<◌, ◌≤◌, Bool, true, false, not, ◌&&◌, ◌||◌, List, [], ◌∷◌, ◌++◌, if◌then◌else◌, refl, sym, ap, subst, arith, inl, inr, append-nil}
use Rattle.std.proofs.lemmas.Bool.{false≢true, and_parts, and_from, or_left, or_right, or_cases, cases_lt, cases_eq, not_from_false, eq-eqb, eqb-true, ne_eqb, le-leb, false_from_ne_true}
use Rattle.std.proofs.lemmas.Nat.{pow_pos, pow_below, one_shl}
use Rattle.std.proofs.Math.Nat.{pow-suc}
use Rattle.std.proofs.Math.Pow.{pow_mono}
use Rattle.std.proofs.lemmas.Nat.Bits.{bit_at-lt, bit_at-zero, bit_at-pow_same, bit_at-pow_other, same_from_bits_below}
use Rattle.std.proofs.lemmas.List.Elements.{All-nil, All-cons, All-head, All-tail, All-append, All-weaker}
use Rattle.std.proofs.lemmas.List.Folds.{list_all-append, list_any-append}
use Rattle.std.proofs.lemmas.List.Concat.{flat_map-append}
use Rattle.std.proofs.Math.Bool.{or-false}
use Rattle.civl_bits.specs.declared.value.Value.{Value}
use Rattle.civl_bits.specs.declared.value.Value.TheVariants as value
use Rattle.civl_bits.specs.Word.{bitwise_and_at, bitwise_or_at, left_shift_at}
use Rattle.civl_bits.proofs.Bits.{bitwise_and-lt, bitwise_or-lt, bit_at-bitwise_and, bit_at-bitwise_or}
use Rattle.civl_tree.specs.declared.expr.Sort.TheVariants.{Word}
use Rattle.civl_tree.specs.declared.expr.Two.TheVariants.{BitAnd, BitOr, Shl, Eq}
use Rattle.civl_tree.specs.rules.Sorts.{widen_fits}
use Rattle.civl_tree.proofs.Bools.{same_truth}
use Rattle.civl_firing.specs.values.Operators.{nothing, two_value, widen_value}
use Rattle.civl_firing.specs.values.Values.{HasSort}
use Rattle.civl_firing.proofs.values.Sorting.{word_of, words_are}
use Rattle.civl_meaning.specs.Permissions.{set_bits, permissions_of_word, permissions_of_global, disjoint, pairwise_disjoint}
use Rattle.civl_states.specs.formula_parts.Masks.{IsMask}

-- ---- permissions in a list

-- what each passes passes each that is there
each_passes : (test : ℕ → Bool) (ps : List ℕ) → list_all test ps ≡ true → (q : ℕ) → list_any (nat_eq q) ps ≡ true → test q ≡ true
each_passes test [] h q e = absurd (false≢true e)
each_passes test (p ∷ ps) h q e =
    let both = and_parts (test p) (list_all test ps) h in
    elim (or_cases (nat_eq q p) (list_any (nat_eq q) ps) e) [
      | inl same ↦ ap test (eqb-true q p same) ∙ both.0
      | inr rest ↦ each_passes test ps both.1 q rest
    ]

all_pass : (test : ℕ → Bool) (ps : List ℕ) → ((q : ℕ) → list_any (nat_eq q) ps ≡ true → test q ≡ true) → list_all test ps ≡ true
all_pass test [] h = refl
all_pass test (p ∷ ps) h =
    and_from (test p) (list_all test ps) (h p (or_left (nat_eq p p) (list_any (nat_eq p) ps) (eq-eqb p p refl)))
    (all_pass test ps (λ q e. h q (or_right (nat_eq q p) (list_any (nat_eq q) ps) e)))

each_below : (n : ℕ) (ps : List ℕ) → All (λ q. q < n) ps → (q : ℕ) → list_any (nat_eq q) ps ≡ true → q < n
each_below n [] h q e = absurd (false≢true e)
each_below n (p ∷ ps) h q e = elim (or_cases (nat_eq q p) (list_any (nat_eq q) ps) e) [
  | inl same ↦ let one : q ≡ p = eqb-true q p same in let l : p < n = All-head (λ q. q < n) p ps h in omega arith
  | inr rest ↦ each_below n ps (All-tail (λ q. q < n) p ps h) q rest
]

-- ---- masks of single items

-- so many bits, and one more
one_bit : (t : Bool) (w q : ℕ) → list_any (nat_eq q) (if t then w ∷ [] else []) ≡ (t && nat_eq q w)
one_bit true w q = or-false (nat_eq q w)
one_bit false w q = refl

bits_more : (w a q : ℕ) → list_any (nat_eq q) (set_bits (suc w) a) ≡ (list_any (nat_eq q) (set_bits w a) || (nat_eq (bit_at a w) 1 && nat_eq q w))
bits_more w a q =
    list_any-append (nat_eq q) (set_bits w a) (if nat_eq (bit_at a w) 1 then w ∷ [] else [])
    ∙ ap (λ t. list_any (nat_eq q) (set_bits w a) || t) (one_bit (nat_eq (bit_at a w) 1) w q)

one_below : (t : Bool) (w : ℕ) → All (λ q. q < suc w) (if t then w ∷ [] else [])
one_below true w = All-cons (λ q. q < suc w) w [] (omega arith) (All-nil (λ q. q < suc w))
one_below false w = All-nil (λ q. q < suc w)

bits_below : (w a : ℕ) → All (λ q. q < w) (set_bits w a)
bits_below zero a = All-nil (λ q. q < 0)
bits_below (suc w) a =
    All-append (λ q. q < suc w) (set_bits w a) (if nat_eq (bit_at a w) 1 then w ∷ [] else [])
    (All-weaker (λ q. q < w) (λ q. q < suc w) (λ q l. omega arith) (set_bits w a) (bits_below w a)) (one_below (nat_eq (bit_at a w) 1) w)

bits_each : (w a q : ℕ) → q < w → nat_eq (bit_at a q) 1 ≡ list_any (nat_eq q) (set_bits w a)
bits_each zero a q l = absurd (omega arith)
bits_each (suc w) a q l = elim (cases_lt q w) [
  | inl below ↦
      let other : nat_eq q w ≡ false = ne_eqb q w (λ e. absurd (omega arith)) in
      bits_each w a q below ∙ sym (bits_more w a q ∙ old (list_any (nat_eq q) (set_bits w a)) (nat_eq (bit_at a w) 1) (nat_eq q w) other)
  | inr above ↦
      let same : q ≡ w = omega arith in
      let absent : list_any (nat_eq q) (set_bits w a) ≡ false = false_from_ne_true (list_any (nat_eq q) (set_bits w a)) (λ e. let l : q < w = each_below w (set_bits w a) (bits_below w a) q e in absurd (omega arith)) in
      ap (λ n. nat_eq (bit_at a n) 1) same ∙ sym (bits_more w a q ∙ new (list_any (nat_eq q) (set_bits w a)) (nat_eq (bit_at a w) 1) (nat_eq q w) absent (eq-eqb q w same))
]
  where
    old : (a t b : Bool) → b ≡ false → (a || (t && b)) ≡ a
    old true t b e = refl
    old false true b e = e
    old false false b e = refl

    new : (a t b : Bool) → a ≡ false → b ≡ true → (a || (t && b)) ≡ t
    new true t b e f = absurd (false≢true (sym e))
    new false true b e f = f
    new false false b e f = refl

pub global_mask : (bits : ℕ) (v : Value) → HasSort v (Word bits) → IsMask bits v (permissions_of_global v)
global_mask bits v h =
    let w = word_of v bits h in
    subst (λ u. IsMask bits u (permissions_of_global u)) (sym w.1) (record {
      number = w.0;
      is = refl;
      fits = w.2.fits;
      each = λ q l. bits_each bits w.0 q l;
      within = bits_below bits w.0;
    })

-- one shifted left
shifted : (w n : ℕ) → n < w → left_shift_at w 1 n ≡ 2 ^ n
shifted w n l = let small : min n w ≡ n = omega arith in ap (λ k. 1 * 2 ^ k % 2 ^ w) small ∙ one_shl n w l

power_each : (n q : ℕ) → nat_eq (bit_at (2 ^ n) q) 1 ≡ list_any (nat_eq q) (n ∷ [])
power_each n q = elim (cases_eq q n) [
  | inl e ↦ ap (λ k. nat_eq (bit_at (2 ^ n) k) 1) e ∙ ap (λ b. nat_eq b 1) (bit_at-pow_same n) ∙ sym (ap (λ t. t || false) (eq-eqb q n e))
  | inr ne ↦ ap (λ b. nat_eq b 1) (bit_at-pow_other n q ne) ∙ sym (ap (λ t. t || false) (ne_eqb q n ne))
]

-- 1 shifted left by a word, in as many bits as the word has numbers
abbrev pub mask_of : ℕ → Value → Value
mask_of permissions v = two_value Shl (value.Word (2 ^ permissions, 1)) (widen_value v (2 ^ permissions))

below_power : (n : ℕ) → n < 2 ^ n
below_power zero = omega arith
below_power (suc n) = omega (arith, pow-suc 2 n, below_power n)

-- there are 1 to 32 of them
pub few_bits : (permissions : ℕ) → permissions ≤ 5 → (1 ≤ 2 ^ permissions) × (2 ^ permissions ≤ 32)
few_bits permissions small = (pow_pos permissions, omega (arith, pow_mono {i = permissions} {j = 5} small))

pub word_widens : (permissions : ℕ) → permissions ≤ 5 → widen_fits permissions (2 ^ permissions) ≡ true
word_widens permissions small =
    and_from (nat_le permissions (2 ^ permissions)) (nat_le (2 ^ permissions) 32)
    (le-leb permissions (2 ^ permissions) (omega (arith, below_power permissions))) (le-leb (2 ^ permissions) 32 (few_bits permissions small).1)

widened : (permissions n : ℕ) → permissions ≤ 5 → widen_value (value.Word (permissions, n)) (2 ^ permissions) ≡ value.Word (2 ^ permissions, n)
widened permissions n small = ap (λ t. if t then value.Word (2 ^ permissions, n) else nothing) (word_widens permissions small)

pub word_mask : (permissions : ℕ) (v : Value) → permissions ≤ 5 → HasSort v (Word permissions) → IsMask (2 ^ permissions) (mask_of permissions v) (permissions_of_word v)
word_mask permissions v small h =
    let w = word_of v permissions h in
    subst (λ u. IsMask (2 ^ permissions) (mask_of permissions u) (permissions_of_word u)) (sym w.1) (record {
      number = 2 ^ w.0;
      is = ap (two_value Shl (value.Word (2 ^ permissions, 1))) (widened permissions w.0 small)
          ∙ words_are left_shift_at (2 ^ permissions) 1 w.0
          ∙ ap (λ n. value.Word (2 ^ permissions, n)) (shifted (2 ^ permissions) w.0 w.2.fits);
      fits = pow_below w.0 (2 ^ permissions) w.2.fits;
      each = λ q l. power_each w.0 q;
      within = All-cons (λ q. q < 2 ^ permissions) w.0 [] w.2.fits (All-nil (λ q. q < 2 ^ permissions));
    })

-- ---- two masks

-- each bit below w is 1 exactly at these permissions
abbrev IsAt : ℕ → ℕ → List ℕ → Type 0
IsAt w a ps = (q : ℕ) → q < w → nat_eq (bit_at a q) 1 ≡ list_any (nat_eq q) ps

bit_one : (w a : ℕ) (ps : List ℕ) → IsAt w a ps → (q : ℕ) → q < w → list_any (nat_eq q) ps ≡ true → bit_at a q ≡ 1
bit_one w a ps at q l e = eqb-true (bit_at a q) 1 (at q l ∙ e)

bit_there : (w a : ℕ) (ps : List ℕ) → IsAt w a ps → (q : ℕ) → q < w → bit_at a q ≡ 1 → list_any (nat_eq q) ps ≡ true
bit_there w a ps at q l e = sym (at q l) ∙ eq-eqb (bit_at a q) 1 e

bit_absent : (w a : ℕ) (ps : List ℕ) → IsAt w a ps → (q : ℕ) → q < w → bit_at a q ≢ 1 → list_any (nat_eq q) ps ≡ false
bit_absent w a ps at q l e = sym (at q l) ∙ ne_eqb (bit_at a q) 1 e

module _ (w a b : ℕ) (ps qs : List ℕ) (first : IsAt w a ps) (second : IsAt w b qs) (within : All (λ q. q < w) ps) (fits : a < 2 ^ w) where
  both_at : (q : ℕ) → q < w → bit_at (bitwise_and_at w a b) q ≡ min (bit_at a q) (bit_at b q)
  both_at q l = bit_at-bitwise_and w a b q l

  none_shared : nat_eq (bitwise_and_at w a b) 0 ≡ disjoint ps qs
  none_shared = same_truth (nat_eq (bitwise_and_at w a b) 0) (disjoint ps qs)
      (λ e. all_pass (λ p. not (list_any (nat_eq p) qs)) ps (λ q at.
      let l : q < w = each_below w ps within q at in
      let none : min (bit_at a q) (bit_at b q) ≡ 0 = sym (both_at q l) ∙ ap (λ n. bit_at n q) (eqb-true (bitwise_and_at w a b) 0 e) ∙ bit_at-zero q in
      let one : bit_at a q ≡ 1 = bit_one w a ps first q l at in
      not_from_false (list_any (nat_eq q) qs) (bit_absent w b qs second q l (λ f. absurd (omega arith)))))
      (λ e. eq-eqb (bitwise_and_at w a b) 0 (same_from_bits_below w (bitwise_and_at w a b) 0 (bitwise_and-lt w a b) (pow_pos w) (λ q l. both_at q l ∙ apart e q l ∙ sym (bit_at-zero q))))
    where
      apart : disjoint ps qs ≡ true → (q : ℕ) → q < w → min (bit_at a q) (bit_at b q) ≡ 0
      apart e q l = elim (cases_eq (bit_at a q) 1) [
        | inl one ↦
            let absent = each_passes (λ p. not (list_any (nat_eq p) qs)) ps e q (bit_there w a ps first q l one) in
            let zero_there : bit_at b q ≢ 1 = λ f. false≢true (sym (ap not (bit_there w b qs second q l f)) ∙ absent) in
            omega (arith, bit_at-lt b q, zero_there)
        | inr ne ↦ omega (arith, bit_at-lt a q, ne)
      ]

  all_shared : nat_eq (bitwise_and_at w a b) a ≡ list_all (λ p. list_any (nat_eq p) qs) ps
  all_shared = same_truth (nat_eq (bitwise_and_at w a b) a) (list_all (λ p. list_any (nat_eq p) qs) ps)
      (λ e. all_pass (λ p. list_any (nat_eq p) qs) ps (λ q at.
      let l : q < w = each_below w ps within q at in
      let same : min (bit_at a q) (bit_at b q) ≡ bit_at a q = sym (both_at q l) ∙ ap (λ n. bit_at n q) (eqb-true (bitwise_and_at w a b) a e) in
      let one : bit_at a q ≡ 1 = bit_one w a ps first q l at in
      bit_there w b qs second q l (omega (arith, bit_at-lt b q))))
      (λ e. eq-eqb (bitwise_and_at w a b) a (same_from_bits_below w (bitwise_and_at w a b) a (bitwise_and-lt w a b) fits (λ q l. both_at q l ∙ covered e q l)))
    where
      covered : list_all (λ p. list_any (nat_eq p) qs) ps ≡ true → (q : ℕ) → q < w → min (bit_at a q) (bit_at b q) ≡ bit_at a q
      covered e q l = elim (cases_eq (bit_at a q) 1) [
        | inl one ↦
            let there : bit_at b q ≡ 1 = bit_one w b qs second q l (each_passes (λ p. list_any (nat_eq p) qs) ps e q (bit_there w a ps first q l one)) in
            omega arith
        | inr ne ↦ omega (arith, bit_at-lt a q, ne)
      ]

  each_either : IsAt w (bitwise_or_at w a b) (ps ++ qs)
  each_either q l =
      ap (λ n. nat_eq n 1) (bit_at-bitwise_or w a b q l)
      ∙ one_of (bit_at a q) (bit_at b q) (bit_at-lt a q) (bit_at-lt b q)
      ∙ ap (λ t. t || nat_eq (bit_at b q) 1) (first q l)
      ∙ ap (λ t. list_any (nat_eq q) ps || t) (second q l)
      ∙ sym (list_any-append (nat_eq q) ps qs)
    where
      one_of : (m n : ℕ) → m < 2 → n < 2 → nat_eq (max m n) 1 ≡ (nat_eq m 1 || nat_eq n 1)
      one_of zero zero h l = refl
      one_of zero (suc zero) h l = refl
      one_of (suc zero) zero h l = refl
      one_of (suc zero) (suc zero) h l = refl
      one_of m (suc (suc n)) h l = absurd (omega arith)
      one_of (suc (suc m)) n h l = absurd (omega arith)

-- ---- values

both_words : (w a b : ℕ) → two_value BitAnd (value.Word (w, a)) (value.Word (w, b)) ≡ value.Word (w, bitwise_and_at w a b)
both_words w a b = words_are bitwise_and_at w a b

same_words : (w a b : ℕ) → two_value Eq (value.Word (w, a)) (value.Word (w, b)) ≡ value.Bool (nat_eq a b)
same_words w a b = ap (λ t. value.Bool (t && nat_eq a b)) (eq-eqb w w refl)

-- two values are two words
with_words : (P : Value → Value → Type 0) (bits : ℕ) (v u : Value) (ps qs : List ℕ) (m : IsMask bits v ps) (n : IsMask bits u qs) → P (value.Word (bits, m.number)) (value.Word (bits, n.number)) → P v u
with_words P bits v u ps qs m n h = subst (λ x. P x u) (sym m.is) (subst (P (value.Word (bits, m.number))) (sym n.is) h)

-- no permission is in both where no bit is
pub disjoint_masks : (bits : ℕ) (v u : Value) (ps qs : List ℕ) → IsMask bits v ps → IsMask bits u qs → two_value Eq (two_value BitAnd v u) (value.Word (bits, 0)) ≡ value.Bool (disjoint ps qs)
disjoint_masks bits v u ps qs m n =
    with_words (λ x y. two_value Eq (two_value BitAnd x y) (value.Word (bits, 0)) ≡ value.Bool (disjoint ps qs)) bits v u ps qs m n
    (ap (λ x. two_value Eq x (value.Word (bits, 0))) (both_words bits m.number n.number)
    ∙ same_words bits (bitwise_and_at bits m.number n.number) 0
    ∙ ap value.Bool (none_shared bits m.number n.number ps qs m.each n.each m.within m.fits))

-- each permission of the first is one of the second where what both have is the first
abbrev pub all_within : List ℕ → List ℕ → Bool
all_within ps qs = list_all (λ p. list_any (nat_eq p) qs) ps

pub included_masks : (bits : ℕ) (v u : Value) (ps qs : List ℕ) → IsMask bits v ps → IsMask bits u qs → two_value Eq (two_value BitAnd v u) v ≡ value.Bool (all_within ps qs)
included_masks bits v u ps qs m n =
    with_words (λ x y. two_value Eq (two_value BitAnd x y) x ≡ value.Bool (all_within ps qs)) bits v u ps qs m n
    (ap (λ x. two_value Eq x (value.Word (bits, m.number))) (both_words bits m.number n.number)
    ∙ same_words bits (bitwise_and_at bits m.number n.number) m.number
    ∙ ap value.Bool (all_shared bits m.number n.number ps qs m.each n.each m.within m.fits))

-- no items carry no permission
pub no_mask : (bits : ℕ) → IsMask bits (value.Word (bits, 0)) []
no_mask bits = record {
  number = 0;
  is = refl;
  fits = pow_pos bits;
  each = λ q l. ap (λ n. nat_eq n 1) (bit_at-zero q);
  within = All-nil (λ q. q < bits);
}

-- either word's bits are the permissions of both
pub union_mask : (bits : ℕ) (v u : Value) (ps qs : List ℕ) → IsMask bits v ps → IsMask bits u qs → IsMask bits (two_value BitOr v u) (ps ++ qs)
union_mask bits v u ps qs m n = record {
  number = bitwise_or_at bits m.number n.number;
  is = with_words (λ x y. two_value BitOr x y ≡ value.Word (bits, bitwise_or_at bits m.number n.number)) bits v u ps qs m n (words_are bitwise_or_at bits m.number n.number);
  fits = bitwise_or-lt bits m.number n.number;
  each = each_either bits m.number n.number ps qs m.each n.each m.within m.fits;
  within = All-append (λ q. q < bits) ps qs m.within n.within;
}

-- ---- several items

both_pairs : (a b c d : Bool) → ((a && (b && true)) && (c && d)) ≡ ((a && c) && (b && d))
both_pairs false b c d = refl
both_pairs true b false d = and_false b
  where
    and_false : (b : Bool) → ((b && true) && false) ≡ false
    and_false true = refl
    and_false false = refl
both_pairs true true true d = refl
both_pairs true false true d = refl

-- one more item: no permission of it is one of those before
pub pairwise_more : (fs : List (List ℕ)) (ps : List ℕ) → pairwise_disjoint (fs ++ ps ∷ []) ≡ (pairwise_disjoint fs && disjoint (flat_map (λ qs. qs) fs) ps)
pairwise_more [] ps = refl
pairwise_more (f ∷ fs) ps =
    ap (λ t. t && pairwise_disjoint (fs ++ ps ∷ [])) (list_all-append (disjoint f) fs (ps ∷ []))
    ∙ ap (λ t. (list_all (disjoint f) fs && (disjoint f ps && true)) && t) (pairwise_more fs ps)
    ∙ both_pairs (list_all (disjoint f) fs) (disjoint f ps) (pairwise_disjoint fs) (disjoint (flat_map (λ qs. qs) fs) ps)
    ∙ ap (λ t. (list_all (disjoint f) fs && pairwise_disjoint fs) && t) (sym (list_all-append (λ p. not (list_any (nat_eq p) ps)) f (flat_map (λ qs. qs) fs)))

pub flat_more : (fs : List (List ℕ)) (ps : List ℕ) → flat_map (λ qs. qs) (fs ++ ps ∷ []) ≡ flat_map (λ qs. qs) fs ++ ps
flat_more fs ps = flat_map-append (λ qs. qs) fs (ps ∷ []) ∙ ap (λ qs. flat_map (λ rs. rs) fs ++ qs) (append-nil ps)
