-- The clauses of each gate define its variable.
use Rattle.std.proofs.Common.{◌≡◌, ℕ, ◌+◌, ◌*◌, ◌<◌, List, [], ◌∷◌, refl, sym, ◌∙◌, ap, ap₂, subst, arith, Bool, true, false, not, ◌&&◌, ◌||◌, cond}
use mathlib.Core.Bool.{beq}
use Rattle.civl_cnf.specs.Literal.{Literal, opposite, truth_of}
use Rattle.civl_cnf.specs.ClauseSet.{ClauseSet, AreBelow}
use Rattle.civl_cnf.specs.Gates.{IsGate, IsAdder, bit, xor, majority, with_variable}
use Rattle.civl_cnf.proofs.Extending.{Defines, definition_extends, definition_value, truth_of-opposite, truth_of-same, extends_trans, extends_keeps}

-- a gate from its definition
made : (f g : ClauseSet) (r : Literal) (cs : List (List Literal)) (h : (ℕ → Bool) → Bool) → r ≡ record { variable = f.variables; positive = true } → g ≡ with_variable f cs → Defines f cs h → IsGate f g r h
made f g r cs h er eg d =
    let n : Literal = record { variable = f.variables; positive = true } in
    let built : IsGate f (with_variable f cs) n h = record {
      extends = definition_extends f cs h d;
      variables = refl;
      below = omega arith;
      value = definition_value f cs h d;
    } in
    let P : Literal → Type 0 = λ s. IsGate f g s h in
    let Q : ClauseSet → Type 0 = λ k. IsGate f k n h in
    subst P (sym er) (subst Q (sym eg) built)

abbrev pub and_clauses : Literal → Literal → Literal → List (List Literal)
and_clauses o a b = (opposite o ∷ a ∷ []) ∷ (opposite o ∷ b ∷ []) ∷ (o ∷ opposite a ∷ opposite b ∷ []) ∷ []

and_table : (o a b : Bool) → ((not o || (a || false)) && ((not o || (b || false)) && ((o || (not a || (not b || false))) && true))) ≡ beq o (a && b)
and_table true true true = refl
and_table true true false = refl
and_table true false true = refl
and_table true false false = refl
and_table false true true = refl
and_table false true false = refl
and_table false false true = refl
and_table false false false = refl

pub and_gate : (f g : ClauseSet) (r a b : Literal) → AreBelow f.variables f.clauses → a.variable < f.variables → b.variable < f.variables → r ≡ record { variable = f.variables; positive = true } → g ≡ with_variable f (and_clauses r a b) → IsGate f g r (λ v. (truth_of v a) && (truth_of v b))
and_gate f g r a b w ha hb er eg =
    let n : Literal = record { variable = f.variables; positive = true } in
    let e : g ≡ with_variable f (and_clauses n a b) = eg ∙ ap (λ (m : Literal). with_variable f (and_clauses m a b)) er in
    made f g r (and_clauses n a b) (λ v. (truth_of v a) && (truth_of v b)) er e (record {
      below = w;
      few = omega arith;
      table = λ v. simp truth_of-opposite (and_table (v f.variables) (truth_of v a) (truth_of v b));
      local = λ v u k. ap (λ (z : Bool). z && (truth_of v b)) (truth_of-same f.variables v u a ha k) ∙ ap (λ (z : Bool). (truth_of u a) && z) (truth_of-same f.variables v u b hb k);
    })

abbrev pub xor_clauses : Literal → Literal → Literal → List (List Literal)
xor_clauses o a b = (opposite o ∷ a ∷ b ∷ []) ∷ (opposite o ∷ opposite a ∷ opposite b ∷ []) ∷ (o ∷ opposite a ∷ b ∷ []) ∷ (o ∷ a ∷ opposite b ∷ []) ∷ []

xor_table : (o a b : Bool) → ((not o || (a || (b || false))) && ((not o || (not a || (not b || false))) && ((o || (not a || (b || false))) && ((o || (a || (not b || false))) && true)))) ≡ beq o (xor a b)
xor_table true true true = refl
xor_table true true false = refl
xor_table true false true = refl
xor_table true false false = refl
xor_table false true true = refl
xor_table false true false = refl
xor_table false false true = refl
xor_table false false false = refl

pub xor_gate : (f g : ClauseSet) (r a b : Literal) → AreBelow f.variables f.clauses → a.variable < f.variables → b.variable < f.variables → r ≡ record { variable = f.variables; positive = true } → g ≡ with_variable f (xor_clauses r a b) → IsGate f g r (λ v. xor (truth_of v a) (truth_of v b))
xor_gate f g r a b w ha hb er eg =
    let n : Literal = record { variable = f.variables; positive = true } in
    let e : g ≡ with_variable f (xor_clauses n a b) = eg ∙ ap (λ (m : Literal). with_variable f (xor_clauses m a b)) er in
    made f g r (xor_clauses n a b) (λ v. xor (truth_of v a) (truth_of v b)) er e (record {
      below = w;
      few = omega arith;
      table = λ v. simp truth_of-opposite (xor_table (v f.variables) (truth_of v a) (truth_of v b));
      local = λ v u k. ap (λ (z : Bool). xor z (truth_of v b)) (truth_of-same f.variables v u a ha k) ∙ ap (λ (z : Bool). xor (truth_of u a) z) (truth_of-same f.variables v u b hb k);
    })

abbrev pub ite_clauses : Literal → Literal → Literal → Literal → List (List Literal)
ite_clauses o c a b = (opposite o ∷ opposite c ∷ a ∷ []) ∷ (o ∷ opposite c ∷ opposite a ∷ []) ∷ (opposite o ∷ c ∷ b ∷ []) ∷ (o ∷ c ∷ opposite b ∷ []) ∷ []

ite_table : (o c a b : Bool) → ((not o || (not c || (a || false))) && ((o || (not c || (not a || false))) && ((not o || (c || (b || false))) && ((o || (c || (not b || false))) && true)))) ≡ beq o (cond c a b)
ite_table true true true true = refl
ite_table true true true false = refl
ite_table true true false true = refl
ite_table true true false false = refl
ite_table true false true true = refl
ite_table true false true false = refl
ite_table true false false true = refl
ite_table true false false false = refl
ite_table false true true true = refl
ite_table false true true false = refl
ite_table false true false true = refl
ite_table false true false false = refl
ite_table false false true true = refl
ite_table false false true false = refl
ite_table false false false true = refl
ite_table false false false false = refl

pub ite_gate : (f g : ClauseSet) (r c a b : Literal) → AreBelow f.variables f.clauses → c.variable < f.variables → a.variable < f.variables → b.variable < f.variables → r ≡ record { variable = f.variables; positive = true } → g ≡ with_variable f (ite_clauses r c a b) → IsGate f g r (λ v. cond (truth_of v c) (truth_of v a) (truth_of v b))
ite_gate f g r c a b w hc ha hb er eg =
    let n : Literal = record { variable = f.variables; positive = true } in
    let e : g ≡ with_variable f (ite_clauses n c a b) = eg ∙ ap (λ (m : Literal). with_variable f (ite_clauses m c a b)) er in
    made f g r (ite_clauses n c a b) (λ v. cond (truth_of v c) (truth_of v a) (truth_of v b)) er e (record {
      below = w;
      few = omega arith;
      table = λ v. simp truth_of-opposite (ite_table (v f.variables) (truth_of v c) (truth_of v a) (truth_of v b));
      local = λ v u k. ap (λ (z : Bool). cond z (truth_of v a) (truth_of v b)) (truth_of-same f.variables v u c hc k) ∙ ap (λ (z : Bool). cond (truth_of u c) z (truth_of v b)) (truth_of-same f.variables v u a ha k) ∙ ap (λ (z : Bool). cond (truth_of u c) (truth_of u a) z) (truth_of-same f.variables v u b hb k);
    })

abbrev pub odd_clauses : Literal → Literal → Literal → Literal → List (List Literal)
odd_clauses o a b c = (opposite o ∷ a ∷ b ∷ c ∷ []) ∷ (opposite o ∷ opposite a ∷ opposite b ∷ c ∷ []) ∷ (opposite o ∷ opposite a ∷ b ∷ opposite c ∷ []) ∷ (opposite o ∷ a ∷ opposite b ∷ opposite c ∷ []) ∷ (o ∷ opposite a ∷ b ∷ c ∷ []) ∷ (o ∷ a ∷ opposite b ∷ c ∷ []) ∷ (o ∷ a ∷ b ∷ opposite c ∷ []) ∷ (o ∷ opposite a ∷ opposite b ∷ opposite c ∷ []) ∷ []

odd_table : (o a b c : Bool) → ((not o || (a || (b || (c || false)))) && ((not o || (not a || (not b || (c || false)))) && ((not o || (not a || (b || (not c || false)))) && ((not o || (a || (not b || (not c || false)))) && ((o || (not a || (b || (c || false)))) && ((o || (a || (not b || (c || false)))) && ((o || (a || (b || (not c || false)))) && ((o || (not a || (not b || (not c || false)))) && true)))))))) ≡ beq o (xor a (xor b c))
odd_table true true true true = refl
odd_table true true true false = refl
odd_table true true false true = refl
odd_table true true false false = refl
odd_table true false true true = refl
odd_table true false true false = refl
odd_table true false false true = refl
odd_table true false false false = refl
odd_table false true true true = refl
odd_table false true true false = refl
odd_table false true false true = refl
odd_table false true false false = refl
odd_table false false true true = refl
odd_table false false true false = refl
odd_table false false false true = refl
odd_table false false false false = refl

pub odd_gate : (f g : ClauseSet) (r a b c : Literal) → AreBelow f.variables f.clauses → a.variable < f.variables → b.variable < f.variables → c.variable < f.variables → r ≡ record { variable = f.variables; positive = true } → g ≡ with_variable f (odd_clauses r a b c) → IsGate f g r (λ v. xor (truth_of v a) (xor (truth_of v b) (truth_of v c)))
odd_gate f g r a b c w ha hb hc er eg =
    let n : Literal = record { variable = f.variables; positive = true } in
    let e : g ≡ with_variable f (odd_clauses n a b c) = eg ∙ ap (λ (m : Literal). with_variable f (odd_clauses m a b c)) er in
    made f g r (odd_clauses n a b c) (λ v. xor (truth_of v a) (xor (truth_of v b) (truth_of v c))) er e (record {
      below = w;
      few = omega arith;
      table = λ v. simp truth_of-opposite (odd_table (v f.variables) (truth_of v a) (truth_of v b) (truth_of v c));
      local = λ v u k. ap (λ (z : Bool). xor z (xor (truth_of v b) (truth_of v c))) (truth_of-same f.variables v u a ha k) ∙ ap (λ (z : Bool). xor (truth_of u a) (xor z (truth_of v c))) (truth_of-same f.variables v u b hb k) ∙ ap (λ (z : Bool). xor (truth_of u a) (xor (truth_of u b) z)) (truth_of-same f.variables v u c hc k);
    })

abbrev pub most_clauses : Literal → Literal → Literal → Literal → List (List Literal)
most_clauses o a b c = (o ∷ opposite a ∷ opposite b ∷ []) ∷ (o ∷ opposite a ∷ opposite c ∷ []) ∷ (o ∷ opposite b ∷ opposite c ∷ []) ∷ (opposite o ∷ a ∷ b ∷ []) ∷ (opposite o ∷ a ∷ c ∷ []) ∷ (opposite o ∷ b ∷ c ∷ []) ∷ []

most_table : (o a b c : Bool) → ((o || (not a || (not b || false))) && ((o || (not a || (not c || false))) && ((o || (not b || (not c || false))) && ((not o || (a || (b || false))) && ((not o || (a || (c || false))) && ((not o || (b || (c || false))) && true)))))) ≡ beq o (majority a b c)
most_table true true true true = refl
most_table true true true false = refl
most_table true true false true = refl
most_table true true false false = refl
most_table true false true true = refl
most_table true false true false = refl
most_table true false false true = refl
most_table true false false false = refl
most_table false true true true = refl
most_table false true true false = refl
most_table false true false true = refl
most_table false true false false = refl
most_table false false true true = refl
most_table false false true false = refl
most_table false false false true = refl
most_table false false false false = refl

pub most_gate : (f g : ClauseSet) (r a b c : Literal) → AreBelow f.variables f.clauses → a.variable < f.variables → b.variable < f.variables → c.variable < f.variables → r ≡ record { variable = f.variables; positive = true } → g ≡ with_variable f (most_clauses r a b c) → IsGate f g r (λ v. majority (truth_of v a) (truth_of v b) (truth_of v c))
most_gate f g r a b c w ha hb hc er eg =
    let n : Literal = record { variable = f.variables; positive = true } in
    let e : g ≡ with_variable f (most_clauses n a b c) = eg ∙ ap (λ (m : Literal). with_variable f (most_clauses m a b c)) er in
    made f g r (most_clauses n a b c) (λ v. majority (truth_of v a) (truth_of v b) (truth_of v c)) er e (record {
      below = w;
      few = omega arith;
      table = λ v. simp truth_of-opposite (most_table (v f.variables) (truth_of v a) (truth_of v b) (truth_of v c));
      local = λ v u k. ap (λ (z : Bool). majority z (truth_of v b) (truth_of v c)) (truth_of-same f.variables v u a ha k) ∙ ap (λ (z : Bool). majority (truth_of u a) z (truth_of v c)) (truth_of-same f.variables v u b hb k) ∙ ap (λ (z : Bool). majority (truth_of u a) (truth_of u b) z) (truth_of-same f.variables v u c hc k);
    })

count_table : (a b c : Bool) → bit (xor a (xor b c)) + 2 * bit (majority a b c) ≡ bit a + bit b + bit c
count_table true true true = refl
count_table true true false = refl
count_table true false true = refl
count_table true false false = refl
count_table false true true = refl
count_table false true false = refl
count_table false false true = refl
count_table false false false = refl

-- a full adder from its two gates
pub adder_made : {f g h : ClauseSet} (a b c sum carry : Literal) → IsGate f g sum (λ v. xor (truth_of v a) (xor (truth_of v b) (truth_of v c))) → IsGate g h carry (λ v. majority (truth_of v a) (truth_of v b) (truth_of v c)) → IsAdder f h a b c sum carry
adder_made {f} {g} {h} a b c sum carry p q = record {
  extends = extends_trans p.extends q.extends;
  variables = omega (arith, p.variables, q.variables);
  sum_below = omega (arith, p.below, q.extends.variables);
  carry_below = q.below;
  count = λ v s.
      let first = p.value v (extends_keeps q.extends v s) in
      let second = q.value v s in
      ap₂ (λ (x y : Bool). bit x + 2 * bit y) first second ∙ count_table (truth_of v a) (truth_of v b) (truth_of v c);
}
