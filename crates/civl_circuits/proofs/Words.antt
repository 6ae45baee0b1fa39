-- Circuits one after another.
use Rattle.std.proofs.Common.{◌≡◌, ℕ, ◌+◌, ◌*◌, ◌^◌, ◌<◌, ◌≤◌, List, [], ◌∷◌, ◌++◌, length, map, replicate, get_or, take, refl, ◌∙◌, ap, ap₂, subst, arith, Bool, true, false, not, length-append}
use Rattle.std.proofs.lemmas.List.Elements.{All-nil, All-get_or, All-weaker, All-push, All-take, All-map, All-replicate, All-append}
use Rattle.civl_cnf.specs.Literal.{Literal, truth_of, opposite}
use Rattle.civl_cnf.specs.ClauseSet.{ClauseSet, IsBelow, Satisfies}
use Rattle.civl_cnf.specs.Gates.{Extends, bit}
use Rattle.civl_cnf.proofs.Extending.{extends_same, extends_trans, extends_keeps, truth_of-opposite}
use Rattle.civl_circuits.specs.Circuits.{number, IsOne, MakesWord, MakesBit}
use Rattle.civl_circuits.proofs.Numbers.{number-push}

-- for the error paths of what adds several gates
pub ruleset extending = (extends_trans, extends_same)

pub IsBelow-more : (m n : ℕ) (ls : List Literal) → m ≤ n → IsBelow m ls → IsBelow n ls
IsBelow-more m n ls h a = All-weaker (λ l. l.variable < m) (λ l. l.variable < n) (λ l k. omega arith) ls a

pub IsBelow-flipped : (n : ℕ) (ls : List Literal) → IsBelow n ls → IsBelow n (map opposite ls)
IsBelow-flipped n ls a = All-map (λ l. l.variable < n) opposite ls a

pub IsBelow-replicate : (n count : ℕ) (l : Literal) → l.variable < n → IsBelow n (replicate count l)
IsBelow-replicate n count l h = All-replicate (λ m. m.variable < n) count l h

pub IsBelow-append : (n : ℕ) (xs ys : List Literal) → IsBelow n xs → IsBelow n ys → IsBelow n (xs ++ ys)
IsBelow-append n xs ys a b = All-append (λ l. l.variable < n) xs ys a b

pub IsBelow-take : (n k : ℕ) (ls : List Literal) → IsBelow n ls → IsBelow n (take k ls)
IsBelow-take n k ls a = All-take (λ l. l.variable < n) k ls a

-- an element of a word, also later
pub below_at : {f g : ClauseSet} (ls : List Literal) (i : ℕ) {l : Literal} → IsBelow f.variables ls → Extends f g → i < length ls → l ≡ get_or ls i l → l.variable < g.variables
below_at {f} {g} ls i {l} all e inside is =
    let here : (get_or ls i l).variable < f.variables = All-get_or (λ m. m.variable < f.variables) ls i l inside all in
    let same : l.variable ≡ (get_or ls i l).variable = ap (λ (m : Literal). m.variable) is in
    omega (arith, here, same, e.variables)

pub one_later : {f g : ClauseSet} {one : Literal} → Extends f g → IsOne f one → IsOne g one
one_later {f} {g} {one} p o = record { below = omega (arith, o.below, p.variables); always = λ v h. o.always v (extends_keeps p v h) }

pub zero_is : {f : ClauseSet} {one : Literal} → IsOne f one → (v : ℕ → Bool) → Satisfies v f.clauses → truth_of v (opposite one) ≡ false
zero_is {f} {one} o v h = truth_of-opposite v one ∙ ap not (o.always v h)

pub zero_below : {f : ClauseSet} {one z : Literal} → IsOne f one → z ≡ opposite one → z.variable < f.variables
zero_below o e = omega (arith, o.below, ap (λ (l : Literal). l.variable) e)

-- a word of no bits
pub word_none : (f : ClauseSet) (value : (ℕ → Bool) → ℕ) → ((v : ℕ → Bool) → 0 ≡ value v) → MakesWord f f [] 0 0 value
word_none f value none = record {
  extends = extends_same f;
  variables = omega arith;
  size = refl;
  below = All-nil (λ l. l.variable < f.variables);
  value = λ v h. none v;
}

-- one bit more, as the next
pub word_push : {f g h : ClauseSet} {word : List Literal} {s : Literal} {n k : ℕ} {fn : (ℕ → Bool) → Bool} {old : (ℕ → Bool) → ℕ} (new : (ℕ → Bool) → ℕ) → MakesWord f g word n k old → MakesBit g h s 1 fn → ((v : ℕ → Bool) → old v + 2 ^ n * bit (fn v) ≡ new v) → MakesWord f h (word ++ s ∷ []) (n + 1) (k + 1) new
word_push {f} {g} {h} {word} {s} {n} {k} {fn} {old} new w t so = record {
  extends = extends_trans w.extends t.extends;
  variables = omega (arith, w.variables, t.variables);
  size = length-append word (s ∷ []) ∙ ap (λ z. z + 1) w.size;
  below = All-push (λ l. l.variable < h.variables) word s (IsBelow-more g.variables h.variables word (omega (arith, t.variables)) w.below) t.below;
  value = λ v y.
      number-push v word s
      ∙ ap (λ z. number v word + 2 ^ z * bit (truth_of v s)) w.size
      ∙ ap₂ (λ x b. x + 2 ^ n * bit b) (w.value v (extends_keeps t.extends v y)) (t.value v y)
      ∙ so v;
}

-- the second circuit's word, with what both say
pub word_then : {f g h : ClauseSet} {r s : List Literal} {n m k j : ℕ} {p q : (ℕ → Bool) → ℕ} (new : (ℕ → Bool) → ℕ) (cost : ℕ) → MakesWord f g r n k p → MakesWord g h s m j q → k + j ≤ cost → ((v : ℕ → Bool) → Satisfies v h.clauses → number v r ≡ p v → q v ≡ new v) → MakesWord f h s m cost new
word_then new cost a b e so = record {
  extends = extends_trans a.extends b.extends;
  variables = omega (arith, a.variables, b.variables);
  size = b.size;
  below = b.below;
  value = λ v y. b.value v y ∙ so v y (a.value v (extends_keeps b.extends v y));
}

-- a word made of a circuit's answer, with no gate
pub word_as : {f g : ClauseSet} {r : List Literal} {n k : ℕ} {old : (ℕ → Bool) → ℕ} (word : List Literal) (width cost : ℕ) (new : (ℕ → Bool) → ℕ) → MakesWord f g r n k old → length word ≡ width → k ≤ cost → IsBelow g.variables word → ((v : ℕ → Bool) → Satisfies v g.clauses → number v r ≡ old v → number v word ≡ new v) → MakesWord f g word width cost new
word_as word width cost new w size e below so = record {
  extends = w.extends;
  variables = omega (arith, w.variables);
  size = size;
  below = below;
  value = λ v y. so v y (w.value v y);
}

-- a word that is there already
pub word_there : (f : ClauseSet) (word : List Literal) (width : ℕ) (value : (ℕ → Bool) → ℕ) → length word ≡ width → IsBelow f.variables word → ((v : ℕ → Bool) → Satisfies v f.clauses → number v word ≡ value v) → MakesWord f f word width 0 value
word_there f word width value size below is = record {
  extends = extends_same f;
  variables = omega arith;
  size = size;
  below = below;
  value = is;
}

pub bit_there : (f : ClauseSet) (one : Literal) (value : (ℕ → Bool) → Bool) → IsOne f one → ((v : ℕ → Bool) → true ≡ value v) → MakesBit f f one 0 value
bit_there f one value o all = record {
  extends = extends_same f;
  variables = omega arith;
  below = o.below;
  value = λ v y. o.always v y ∙ all v;
}

-- one more, which is then the bit
pub bit_then : {f g h : ClauseSet} {r s : Literal} {n : ℕ} {old fn : (ℕ → Bool) → Bool} (new : (ℕ → Bool) → Bool) → MakesBit f g r n old → MakesBit g h s 1 fn → ((v : ℕ → Bool) → truth_of v r ≡ old v → fn v ≡ new v) → MakesBit f h s (n + 1) new
bit_then new t k so = record {
  extends = extends_trans t.extends k.extends;
  variables = omega (arith, t.variables, k.variables);
  below = k.below;
  value = λ v y. k.value v y ∙ so v (t.value v (extends_keeps k.extends v y));
}

pub bit_as : {f g : ClauseSet} {r : Literal} {n : ℕ} {old : (ℕ → Bool) → Bool} (cost : ℕ) (new : (ℕ → Bool) → Bool) → MakesBit f g r n old → n ≤ cost → ((v : ℕ → Bool) → Satisfies v g.clauses → old v ≡ new v) → MakesBit f g r cost new
bit_as cost new t e so = record { extends = t.extends; variables = omega (arith, t.variables); below = t.below; value = λ v y. t.value v y ∙ so v y }

-- a bit turned, with no gate
pub bit_turned : {f g : ClauseSet} {s : Literal} {n : ℕ} {old : (ℕ → Bool) → Bool} (r : Literal) (cost : ℕ) (new : (ℕ → Bool) → Bool) → MakesBit f g s n old → r ≡ opposite s → n ≤ cost → ((v : ℕ → Bool) → not (old v) ≡ new v) → MakesBit f g r cost new
bit_turned {f} {g} {s} r cost new t e few so = record {
  extends = t.extends;
  variables = omega (arith, t.variables);
  below = omega (arith, t.below, ap (λ (l : Literal). l.variable) e);
  value = λ v y. ap (truth_of v) e ∙ truth_of-opposite v s ∙ ap not (t.value v y) ∙ so v;
}

-- a word that was made up to its end
pub word_whole : {f g : ClauseSet} {word : List Literal} {i : ℕ} (n : ℕ) (value : ℕ → (ℕ → Bool) → ℕ) → MakesWord f g word i i (value i) → i ≡ n → MakesWord f g word n n (value n)
word_whole {f} {g} {word} {i} n value w e = let P : ℕ → Type 0 = λ m. MakesWord f g word m m (value m) in subst P e w
