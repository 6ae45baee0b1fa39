-- Choices and equality of words.
use Rattle.std.proofs.Common.{◌≡◌, ℕ, ◌+◌, ◌*◌, ◌^◌, ◌<◌, List, length, get_or, take, refl, sym, ◌∙◌, ap, ap₂, arith, inl, inr, Bool, true, false, not, ◌&&◌, cond, eqb}
use Rattle.std.proofs.lemmas.Bool.{cases_eq, cases_Bool, eq-eqb, ne_eqb, and_from, and_left, and_right}
use Rattle.std.proofs.lemmas.Nat.{pow_pos}
use Rattle.civl_cnf.specs.Literal.{Literal, truth_of, opposite}
use Rattle.civl_cnf.specs.ClauseSet.{ClauseSet}
use Rattle.civl_cnf.specs.Gates.{bit, xor}
use Rattle.civl_cnf.proofs.Extending.{extends_trans, extends_keeps, truth_of-opposite}
use Rattle.civl_circuits.specs.Circuits.{number, MakesBit}
use Rattle.civl_circuits.proofs.Numbers.{number-next, number-low}
use Rattle.civl_circuits.proofs.Words.{bit_then}

chosen : (c x y : Bool) (p a b : ℕ) → cond c a b + p * bit (cond c x y) ≡ cond c (a + p * bit x) (b + p * bit y)
chosen true x y p a b = refl
chosen false x y p a b = refl

pub chosen_more : (v : ℕ → Bool) (c : Bool) (a b : List Literal) (i : ℕ) (x y : Literal) → i < length a → i < length b → x ≡ get_or a i x → y ≡ get_or b i y → cond c (number v (take i a)) (number v (take i b)) + 2 ^ i * bit (cond c (truth_of v x) (truth_of v y)) ≡ cond c (number v (take (i + 1) a)) (number v (take (i + 1) b))
chosen_more v c a b i x y ha hb ex ey =
    chosen c (truth_of v x) (truth_of v y) (2 ^ i) (number v (take i a)) (number v (take i b))
    ∙ ap₂ (cond c) (sym (number-next v a i x ha ex)) (sym (number-next v b i y hb ey))

equal_by : (a b n m : ℕ) (t : Bool) → (a ≡ b → (n ≡ m) × (t ≡ true)) → (n ≡ m → t ≡ true → a ≡ b) → eqb a b ≡ (eqb n m && t)
equal_by a b n m t to from = elim (cases_eq a b) [
  | inl e ↦ eq-eqb a b e ∙ sym (and_from (eqb n m) t (eq-eqb n m (to e).0) (to e).1)
  | inr ne ↦ ne_eqb a b ne ∙ sym (elim (cases_Bool t) [
    | inl on ↦ and_left (eqb n m) t (ne_eqb n m (λ f. ne (from f on)))
    | inr off ↦ and_right (eqb n m) t off
  ])
]

same_bits : (x y : Bool) (p n m : ℕ) → n < p → m < p → eqb (n + p * bit x) (m + p * bit y) ≡ (eqb n m && not (xor x y))
same_bits true true p n m hn hm = equal_by (n + p * 1) (m + p * 1) n m true (λ e. (omega arith, refl)) (λ e t. omega arith)
same_bits true false p n m hn hm = equal_by (n + p * 1) (m + p * 0) n m false (λ e. absurd (omega arith)) (λ e t. absurd cc)
same_bits false true p n m hn hm = equal_by (n + p * 0) (m + p * 1) n m false (λ e. absurd (omega arith)) (λ e t. absurd cc)
same_bits false false p n m hn hm = equal_by (n + p * 0) (m + p * 0) n m true (λ e. (omega arith, refl)) (λ e t. omega arith)

pub equal_more : {f g m h : ClauseSet} {r d s : Literal} (a b : List Literal) (i : ℕ) (x y e : Literal) → MakesBit f g r (2 * i) (λ v. eqb (number v (take i a)) (number v (take i b))) → i < length a → i < length b → x ≡ get_or a i x → y ≡ get_or b i y → MakesBit g m d 1 (λ v. xor (truth_of v x) (truth_of v y)) → e ≡ opposite d → MakesBit m h s 1 (λ v. truth_of v r && truth_of v e) → MakesBit f h s (2 * (i + 1)) (λ v. eqb (number v (take (i + 1) a)) (number v (take (i + 1) b)))
equal_more {f} {g} {m} {h} {r} {d} {s} a b i x y e t ha hb ex ey differs ee k = record {
  extends = extends_trans t.extends (extends_trans differs.extends k.extends);
  variables = omega (arith, t.variables, differs.variables, k.variables);
  below = k.below;
  value = λ v true_now.
      let p : Bool = truth_of v x in
      let q : Bool = truth_of v y in
      let differ : truth_of v e ≡ not (xor p q) = ap (truth_of v) ee ∙ truth_of-opposite v d ∙ ap not (differs.value v (extends_keeps k.extends v true_now)) in
      k.value v true_now
      ∙ ap₂ ◌&&◌ (t.value v (extends_keeps differs.extends v (extends_keeps k.extends v true_now))) differ
      ∙ sym (same_bits p q (2 ^ i) (number v (take i a)) (number v (take i b)) (number-low v i a (omega arith)) (number-low v i b (omega arith)))
      ∙ ap₂ eqb (sym (number-next v a i x ha ex)) (sym (number-next v b i y hb ey));
}

pub zero_more : {f g h : ClauseSet} {r s : Literal} (a : List Literal) (i : ℕ) (x e : Literal) → MakesBit f g r i (λ v. eqb (number v (take i a)) 0) → i < length a → x ≡ get_or a i x → e ≡ opposite x → MakesBit g h s 1 (λ v. truth_of v r && truth_of v e) → MakesBit f h s (i + 1) (λ v. eqb (number v (take (i + 1) a)) 0)
zero_more {f} {g} {h} {r} {s} a i x e t ha ex ee k =
    bit_then (λ v. eqb (number v (take (i + 1) a)) 0) t k (λ v old.
    let p : Bool = truth_of v x in
    let flipped : truth_of v e ≡ not (xor p false) = ap (truth_of v) ee ∙ truth_of-opposite v x ∙ plain p in
    ap₂ ◌&&◌ old flipped
    ∙ sym (same_bits p false (2 ^ i) (number v (take i a)) 0 (number-low v i a (omega arith)) (pow_pos i))
    ∙ ap₂ eqb (sym (number-next v a i x ha ex)) (nothing (2 ^ i))) where
      plain : (p : Bool) → not p ≡ not (xor p false)
      plain true = refl
      plain false = refl

      nothing : (p : ℕ) → 0 + p * 0 ≡ 0
      nothing p = omega arith
