-- Constants and variables.
use Rattle.std.specs.Prelude.{IsTrue}
use Rattle.std.specs.Int.{bit_at}
use Rattle.std.proofs.Common.{◌≡◌, ℕ, ◌+◌, ◌^◌, ◌%◌, ◌<◌, ◌≤◌, List, [], ◌∷◌, ◌++◌, length, get_or, refl, sym, ◌∙◌, ap, ap₂, subst, inl, inr, arith, Bool, true, length-append}
use Rattle.std.proofs.Math.Nat.{mod-eq_of_lt}
use Rattle.std.proofs.Math.ListN.{get_or-append}
use Rattle.std.proofs.Math.Seq.{get_or-append_seam}
use Rattle.std.proofs.lemmas.Bool.{cases_lt, eqb-true}
use Rattle.std.proofs.lemmas.List.Elements.{All-nil, All-push}
use Rattle.std.proofs.lemmas.Nat.Bits.{same_from_bits_below}
use Rattle.civl_bits.specs.Word.{IsWord}
use Rattle.civl_bits.specs.declared.value.Value.{Value}
use Rattle.civl_bits.specs.declared.value.Value.TheVariants as value
use Rattle.civl_tree.specs.declared.expr.Sort.{Sort}
use Rattle.civl_tree.specs.declared.expr.Sort.TheVariants as sort
use Rattle.civl_tree.specs.rules.Exprs.{is_width}
use Rattle.civl_firing.specs.values.Values.{is_sort, sort_of_value, HasSort}
use Rattle.civl_cnf.specs.Literal.{Literal, truth_of}
use Rattle.civl_cnf.specs.ClauseSet.{IsBelow}
use Rattle.civl_cnf.specs.Gates.{bit}
use Rattle.civl_circuits.specs.Circuits.{number, IsConstantWord, blank}
use Rattle.civl_circuits.proofs.Numbers.{number-lt}
use Rattle.civl_circuits.proofs.BitByBit.{bit_at-number}
use Rattle.civl_symbolic.specs.declared.symbolic.Symbolic.TheVariants as symbolic
use Rattle.civl_symbolic.specs.Symbolic.{value_under, IsConstant, IsVariable, Shows}
use Rattle.civl_symbolic.proofs.Widths.{width_from}

pub constant_word : (one : Literal) (word : List Literal) (w : ℕ × ℕ) (width number_of : ℕ) (lits : List Literal) (c : Value) → c ≡ value.Word w → IsWord w.0 w.1 → width ≡ w.0 → number_of ≡ w.1 → IsConstantWord one word width (number_of % 2 ^ width) → lits ≡ word → IsConstant one (symbolic.Word lits) c
constant_word one word w width number_of lits c ec is ew en k el =
    let size : length lits ≡ w.0 = ap length el ∙ k.size ∙ ew in
    record {
      below = λ n h. let P : List Literal → Type 0 = λ ls. IsBelow n ls in subst P (sym el) (k.below n h);
      limits = subst (λ (n : ℕ). IsTrue (is_width n)) (sym size) (width_from w.0 is.narrow is.wide);
      sorted = ap (λ (n : ℕ). sort.Word n) size ∙ sym (ap sort_of_value ec);
      is = λ v h.
          let whole : number v lits ≡ w.1 = ap (number v) el ∙ k.number_is v h ∙ ap₂ (λ x p. x % 2 ^ p) en ew ∙ mod-eq_of_lt is.fits in
          ap₂ (λ (n x : ℕ). value.Word (n, x)) size whole ∙ sym ec;
    }

-- so many variables in a row
pub record IsRun (first count : ℕ) (word : List Literal) : Type 0 where
  pub size : length word ≡ count
  pub below : (n : ℕ) → first + count ≤ n → IsBelow n word
  pub places : (j : ℕ) → j < count → get_or word j blank ≡ record { variable = first + j; positive = true }

pub run_none : (first : ℕ) → IsRun first 0 []
run_none first = record {
  size = refl;
  below = λ n h. All-nil (λ l. l.variable < n);
  places = λ j h. absurd (omega arith);
}

pub run_more : (first count : ℕ) (word : List Literal) (l : Literal) → IsRun first count word → l ≡ record { variable = first + count; positive = true } → IsRun first (count + 1) (word ++ l ∷ [])
run_more first count word l r e = record {
  size = length-append word (l ∷ []) ∙ ap (λ n. n + 1) r.size;
  below = λ n h. All-push (λ m. m.variable < n) word l (r.below n (omega arith)) (omega (arith, ap (λ (m : Literal). m.variable) e));
  places = λ j h. elim (cases_lt j count) [
    | inl low ↦ get_or-append word (l ∷ []) blank j (omega (arith, r.size)) ∙ r.places j low
    | inr high ↦
        let last : j ≡ length word = omega (arith, r.size) in
        let here : count ≡ j = omega arith in
        ap (λ k. get_or (word ++ l ∷ []) k blank) last ∙ get_or-append_seam word l [] blank ∙ e ∙ ap (λ (k : ℕ). record { variable = first + k; positive = true }) here
  ];
}

-- a row of variables that shows a word has its number
run_number : (v : ℕ → Bool) (first : ℕ) (w : ℕ × ℕ) (word : List Literal) → IsRun first w.0 word → w.1 < 2 ^ w.0 → ((j : ℕ) → j < w.0 → bit (v (first + j)) ≡ bit_at w.1 j) → number v word ≡ w.1
run_number v first w word r fits shows =
    same_from_bits_below w.0 (number v word) w.1 (omega (arith, number-lt v word, ap (λ n. 2 ^ n) r.size)) fits
    (λ j h. bit_at-number v word j blank (omega (arith, r.size)) ∙ ap (λ l. bit (truth_of v l)) (r.places j h) ∙ shows j h)

pub variable_word : (first width : ℕ) (word lits : List Literal) (s : Sort) → s ≡ sort.Word width → IsTrue (is_sort s) → IsRun first width word → lits ≡ word → IsVariable first (symbolic.Word lits) s
variable_word first width word lits s es limits r el =
    let size : length lits ≡ width = ap length el ∙ r.size in
    let P : Sort → Type 0 = λ t. IsTrue (is_sort t) → IsVariable first (symbolic.Word lits) t in
    subst P (sym es) (λ fine. record {
      below = λ n h. let Q : List Literal → Type 0 = λ ls. IsBelow n ls in subst Q (sym el) (r.below n h);
      limits = subst (λ (n : ℕ). IsTrue (is_width n)) (sym size) fine;
      sorted = ap (λ (n : ℕ). sort.Word n) size;
      is = λ v shown has shows. shown_word v first width lits (subst (λ (ls : List Literal). IsRun first width ls) (sym el) r) shown has shows;
    }) limits
  where
    shown_word : (v : ℕ → Bool) (first width : ℕ) (lits : List Literal) → IsRun first width lits → (shown : Value) → HasSort shown (sort.Word width) → Shows v first shown → value_under v (symbolic.Word lits) ≡ shown
    shown_word v first width lits r (value.Bool b) has shows = absurd cc
    shown_word v first width lits r (value.Word w) has shows =
        let same : w.0 ≡ width = eqb-true w.0 width has.1 in
        let run : IsRun first w.0 lits = subst (λ (n : ℕ). IsRun first n lits) (sym same) r in
        ap₂ (λ (n x : ℕ). value.Word (n, x)) run.size (run_number v first w lits run has.0.fits shows)
    shown_word v first width lits r (value.Row c) has shows = absurd cc
