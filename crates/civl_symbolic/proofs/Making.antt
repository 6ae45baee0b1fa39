-- Symbolic values from circuits.
use Rattle.std.specs.Prelude.{nat_eq, IsTrue, IfOk, Option, None, Some, Result, Ok, Err}
use Rattle.std.specs.Result.{result_map_both}
use Rattle.std.proofs.Common.{◌≡◌, ℕ, ◌+◌, ◌*◌, ◌^◌, ◌<◌, ◌≤◌, List, length, refl, sym, ◌∙◌, ap, ap₂, subst, arith, Bool, not, ◌&&◌, cond}
use Rattle.std.proofs.lemmas.Bool.{eq-eqb}
use Rattle.std.proofs.lemmas.Nat.{mul-le}
use Rattle.civl_bits.specs.declared.value.Value.{Value}
use Rattle.civl_bits.specs.declared.value.Value.TheVariants as value
use Rattle.civl_tree.specs.declared.expr.Sort.{Sort}
use Rattle.civl_tree.specs.declared.expr.Sort.TheVariants as sort
use Rattle.civl_tree.specs.rules.Sorts.{word_sort, words_sort, truth_over, common_sort}
use Rattle.civl_firing.specs.values.Operators.{nothing, on_words, test_words}
use Rattle.civl_tree.specs.rules.Exprs.{is_width}
use Rattle.civl_cnf.specs.Literal.{Literal, truth_of, opposite}
use Rattle.civl_cnf.specs.ClauseSet.{ClauseSet, IsBelow}
use Rattle.civl_cnf.proofs.Extending.{extends_same, extends_trans, truth_of-opposite}
use Rattle.civl_circuits.specs.Circuits.{number, MakesWord, MakesBit}
use Rattle.civl_symbolic.specs.declared.symbolic.Symbolic.TheVariants as symbolic
use Rattle.civl_symbolic.specs.Symbolic.{Makes}

pub ruleset extending = (extends_trans, extends_same)

-- a word from its circuit
pub word_makes : {f g : ClauseSet} {word : List Literal} {k n : ℕ} {old : (ℕ → Bool) → ℕ} (kind : Option Sort) (cost : ℕ) (new : (ℕ → Bool) → Value) → MakesWord f g word n k old → k ≤ cost → IsTrue (is_width n) → kind ≡ Some (sort.Word n) → ((v : ℕ → Bool) → value.Word (n, old v) ≡ new v) → Makes f g (symbolic.Word word) kind cost new
word_makes {f} {g} {word} {k} {n} kind cost new w e width ek so = record {
  extends = w.extends;
  variables = omega (arith, w.variables);
  inside = record { below = w.below; limits = subst (λ (m : ℕ). IsTrue (is_width m)) (sym w.size) width };
  sorted = ek ∙ ap (λ (m : ℕ). Some (sort.Word m)) (sym w.size);
  is = λ v y. ap₂ (λ (m x : ℕ). value.Word (m, x)) w.size (w.value v y) ∙ so v;
}

-- a bool from its circuit
pub bit_makes : {f g : ClauseSet} {output : Literal} {k : ℕ} {old : (ℕ → Bool) → Bool} (kind : Option Sort) (cost : ℕ) (new : (ℕ → Bool) → Value) → MakesBit f g output k old → k ≤ cost → kind ≡ Some sort.Bool → ((v : ℕ → Bool) → value.Bool (old v) ≡ new v) → Makes f g (symbolic.Bool output) kind cost new
bit_makes kind cost new w e ek so = record {
  extends = w.extends;
  variables = omega (arith, w.variables);
  inside = record { below = w.below; limits = refl };
  sorted = ek;
  is = λ v y. ap (λ (b : Bool). value.Bool b) (w.value v y) ∙ so v;
}

-- literals that are there already
pub word_kept : (f : ClauseSet) (word : List Literal) (kind : Option Sort) (cost n : ℕ) (new : (ℕ → Bool) → Value) → length word ≡ n → IsTrue (is_width n) → IsBelow f.variables word → kind ≡ Some (sort.Word n) → ((v : ℕ → Bool) → value.Word (n, number v word) ≡ new v) → Makes f f (symbolic.Word word) kind cost new
word_kept f word kind cost n new size width below ek so = record {
  extends = extends_same f;
  variables = omega arith;
  inside = record { below = below; limits = subst (λ (m : ℕ). IsTrue (is_width m)) (sym size) width };
  sorted = ek ∙ ap (λ (m : ℕ). Some (sort.Word m)) (sym size);
  is = λ v y. ap (λ (m : ℕ). value.Word (m, number v word)) size ∙ so v;
}

pub bit_kept : (f : ClauseSet) (output : Literal) (kind : Option Sort) (cost : ℕ) (new : (ℕ → Bool) → Value) → output.variable < f.variables → kind ≡ Some sort.Bool → ((v : ℕ → Bool) → value.Bool (truth_of v output) ≡ new v) → Makes f f (symbolic.Bool output) kind cost new
bit_kept f output kind cost new below ek so = record {
  extends = extends_same f;
  variables = omega arith;
  inside = record { below = below; limits = refl };
  sorted = ek;
  is = λ v y. so v;
}

-- ---- operations on two words of one width
one_width : (n m : ℕ) → n ≡ m → words_sort (Some (sort.Word n)) (Some (sort.Word m)) ≡ Some (sort.Word n)
one_width n m e = ap (λ (b : Bool). word_sort (cond b (Some (sort.Word n)) None)) (eq-eqb n m e)

on_one_width : (F : ℕ → ℕ → ℕ → ℕ) (n m x y : ℕ) → n ≡ m → value.Word (n, F n x y) ≡ on_words F (value.Word (n, x)) (value.Word (m, y))
on_one_width F n m x y e = sym (ap (λ (b : Bool). cond b (value.Word (n, F n x y)) nothing) (eq-eqb n m e))

test_one_width : (F : ℕ → ℕ → ℕ → Bool) (n m x y : ℕ) → n ≡ m → value.Bool (F n x y) ≡ test_words F (value.Word (n, x)) (value.Word (m, y))
test_one_width F n m x y e = sym (ap (λ (b : Bool). cond b (value.Bool (F n x y)) nothing) (eq-eqb n m e))

pub words_make : {f g : ClauseSet} {word : List Literal} {k : ℕ} (F : ℕ → ℕ → ℕ → ℕ) (a b : List Literal) (cost : ℕ) → MakesWord f g word (length a) k (λ v. F (length a) (number v a) (number v b)) → k ≤ cost → length a ≡ length b → IsTrue (is_width (length a)) → Makes f g (symbolic.Word word) (words_sort (Some (sort.Word (length a))) (Some (sort.Word (length b)))) cost (λ v. on_words F (value.Word (length a, number v a)) (value.Word (length b, number v b)))
words_make F a b cost w e same width = word_makes _ cost _ w e width (one_width (length a) (length b) same) (λ v. on_one_width F (length a) (length b) (number v a) (number v b) same)

pub test_makes : {f g : ClauseSet} {output : Literal} {k : ℕ} (F : ℕ → ℕ → ℕ → Bool) (a b : List Literal) (cost : ℕ) → MakesBit f g output k (λ v. F (length a) (number v a) (number v b)) → k ≤ cost → length a ≡ length b → Makes f g (symbolic.Bool output) (truth_over (words_sort (Some (sort.Word (length a))) (Some (sort.Word (length b))))) cost (λ v. test_words F (value.Word (length a, number v a)) (value.Word (length b, number v b)))
test_makes F a b cost w e same = bit_makes _ cost _ w e (ap truth_over (one_width (length a) (length b) same)) (λ v. test_one_width F (length a) (length b) (number v a) (number v b) same)

one_sort_of_words : (n m : ℕ) → n ≡ m → truth_over (common_sort (Some (sort.Word n)) (Some (sort.Word m))) ≡ Some sort.Bool
one_sort_of_words n m e = ap (λ (b : Bool). truth_over (cond b (Some (sort.Word n)) None)) (eq-eqb n m e)

same_words : (n m : ℕ) (t : Bool) → n ≡ m → t ≡ (nat_eq n m && t)
same_words n m t e = sym (ap (λ (b : Bool). b && t) (eq-eqb n m e))

pub equal_makes : {f g : ClauseSet} {output : Literal} {k : ℕ} (a b : List Literal) (cost : ℕ) → MakesBit f g output k (λ v. nat_eq (number v a) (number v b)) → k ≤ cost → length a ≡ length b → Makes f g (symbolic.Bool output) (truth_over (common_sort (Some (sort.Word (length a))) (Some (sort.Word (length b))))) cost (λ v. value.Bool (nat_eq (length a) (length b) && nat_eq (number v a) (number v b)))
equal_makes a b cost w e same = bit_makes _ cost _ w e (one_sort_of_words (length a) (length b) same) (λ v. ap (λ (t : Bool). value.Bool t) (same_words (length a) (length b) (nat_eq (number v a) (number v b)) same))

pub differ_makes : {f g : ClauseSet} {same_bit : Literal} {k : ℕ} (a b : List Literal) (cost : ℕ) (output : Literal) → MakesBit f g same_bit k (λ v. nat_eq (number v a) (number v b)) → output ≡ opposite same_bit → k ≤ cost → length a ≡ length b → Makes f g (symbolic.Bool output) (truth_over (common_sort (Some (sort.Word (length a))) (Some (sort.Word (length b))))) cost (λ v. value.Bool (not (nat_eq (length a) (length b) && nat_eq (number v a) (number v b))))
differ_makes {f} {g} {same_bit} a b cost output w eo e same =
    let turned : MakesBit f g output cost (λ v. not (nat_eq (number v a) (number v b))) = record {
      extends = w.extends;
      variables = omega (arith, w.variables);
      below = omega (arith, w.below, ap (λ (l : Literal). l.variable) eo);
      value = λ v y. ap (truth_of v) eo ∙ truth_of-opposite v same_bit ∙ ap not (w.value v y);
    } in
    bit_makes _ cost _ turned (omega arith) (one_sort_of_words (length a) (length b) same) (λ v. ap (λ (t : Bool). value.Bool (not t)) (same_words (length a) (length b) (nat_eq (number v a) (number v b)) same))

-- ---- where memory may want
pub if_ok : {A B E : Type 0} (h : A → B) (P : B → Type 0) (Q : A → Type 0) (before : Result A E) (after : Result B E) → after ≡ result_map_both h (λ e. e) before → IfOk before Q → ((x : A) → Q x → P (h x)) → IfOk after P
if_ok h P Q (Ok x) after e q so = subst (λ r. IfOk r P) (sym e) (so x q)
if_ok h P Q (Err x) after e q so = subst (λ r. IfOk r P) (sym e) tt

-- ---- room for the two circuits whose size is a square
pub square_room : (n s : ℕ) → n ≤ 32 → s ≤ 2 ^ 29 → s + 3 * n * n ≤ 2 ^ 30
square_room n s h l = omega (arith, mul-le (3 * n) n 96 32 (omega arith) h)

pub division_room : (n s : ℕ) → n ≤ 32 → s ≤ 2 ^ 29 → s + (3 * n + 2) * n ≤ 2 ^ 30
division_room n s h l = omega (arith, mul-le (3 * n + 2) n 98 32 (omega arith) h)

pub product_cost : (n : ℕ) → 3 * n * n ≤ 2 * (2 * n * n)
product_cost n = grind arith

pub division_cost : (n : ℕ) → 1 ≤ n → (3 * n + 2) * n ≤ 2 * (4 * n * n)
division_cost n h = let a : (3 * n + 2) * n ≤ 5 * n * n = mul-le (3 * n + 2) n (5 * n) n (omega arith) (omega arith) in let b : 5 * n * n ≤ 8 * n * n = mul-le (5 * n) n (8 * n) n (omega arith) (omega arith) in let c : 8 * n * n ≡ 2 * (4 * n * n) = grind arith in omega arith
