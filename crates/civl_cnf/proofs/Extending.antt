-- Clause sets that grow by definitions.
use Rattle.std.proofs.Common.{◌≡◌, ℕ, ◌+◌, ◌<◌, ◌≤◌, List, [], ◌∷◌, ◌++◌, length, refl, sym, ◌∙◌, ap, ap₂, subst, inl, inr, arith, Bool, true, false, not, ◌&&◌, ◌||◌, cond, eqb, length-append, append_assoc, append-nil}
use mathlib.Core.Bool.{beq}
use Rattle.std.specs.List.{list_any}
use Rattle.std.proofs.lemmas.Bool.{eq-eqb, ne_eqb, and_parts, and_from, cases_eq, cond-true, cond-false}
use Rattle.std.proofs.lemmas.List.Elements.{All-head, All-tail}
use Rattle.std.proofs.lemmas.List.Folds.{list_all-append}
use Rattle.civl_cnf.specs.Literal.{Literal, opposite, truth_of}
use Rattle.civl_cnf.specs.ClauseSet.{ClauseSet, IsBelow, AreBelow, Satisfies}
use Rattle.civl_cnf.specs.Gates.{Agree, Extends, with_variable}
use Rattle.civl_cnf.proofs.Satisfying.{all_true, Satisfies-from_all_true, all_true-from_Satisfies}

pub truth_of-opposite : (v : ℕ → Bool) (l : Literal) → truth_of v (opposite l) ≡ not (truth_of v l)
truth_of-opposite v l = sign (v l.variable) l.positive where
  sign : (b p : Bool) → cond (not p) b (not b) ≡ not (cond p b (not b))
  sign true true = refl
  sign true false = refl
  sign false true = refl
  sign false false = refl

pub truth_of-same : (n : ℕ) (v w : ℕ → Bool) (l : Literal) → l.variable < n → Agree n v w → truth_of v l ≡ truth_of w l
truth_of-same n v w l h a = ap (λ b. cond l.positive b (not b)) (a l.variable h)

some_same : (n : ℕ) (v w : ℕ → Bool) (ls : List Literal) → IsBelow n ls → Agree n v w → list_any (truth_of v) ls ≡ list_any (truth_of w) ls
some_same n v w [] h a = refl
some_same n v w (l ∷ ls) h a = ap₂ ◌||◌ (truth_of-same n v w l (All-head (λ m. m.variable < n) l ls h) a) (some_same n v w ls (All-tail (λ m. m.variable < n) l ls h) a)

-- clauses see their own variables alone
pub all_same : (n : ℕ) (v w : ℕ → Bool) (cs : List (List Literal)) → AreBelow n cs → Agree n v w → all_true v cs ≡ all_true w cs
all_same n v w [] h a = refl
all_same n v w (c ∷ cs) h a = ap₂ ◌&&◌ (some_same n v w c (All-head (IsBelow n) c cs h) a) (all_same n v w cs (All-tail (IsBelow n) c cs h) a)

pub all_true-append : (v : ℕ → Bool) (xs ys : List (List Literal)) → all_true v (xs ++ ys) ≡ (all_true v xs && all_true v ys)
all_true-append v xs ys = list_all-append (list_any (truth_of v)) xs ys

-- the parts of what satisfies both
pub Satisfies-parts : (v : ℕ → Bool) (xs ys : List (List Literal)) → Satisfies v (xs ++ ys) → Satisfies v xs × Satisfies v ys
Satisfies-parts v xs ys h =
    let parts = and_parts (all_true v xs) (all_true v ys) (sym (all_true-append v xs ys) ∙ all_true-from_Satisfies v (xs ++ ys) h) in
    (Satisfies-from_all_true v xs parts.0, Satisfies-from_all_true v ys parts.1)

-- an assignment that satisfies the new clauses satisfies the old ones
pub extends_keeps : {old new : ClauseSet} → Extends old new → (v : ℕ → Bool) → Satisfies v new.clauses → Satisfies v old.clauses
extends_keeps {old} {new} e v h = (Satisfies-parts v old.clauses e.added (subst (Satisfies v) e.clauses h)).0

pub extends_same : (f : ClauseSet) → Extends f f
extends_same f = record {
  added = [];
  clauses = simp append-nil;
  variables = omega arith;
  few = omega arith;
  some = λ v h. (v, λ i low. refl, h);
  one = λ v w h k a. a;
}

pub extends_kept : {f g : ClauseSet} → g ≡ f → Extends f g
extends_kept {f} {g} e = let P : ClauseSet → Type 0 = λ h. Extends f h in subst P (sym e) (extends_same f)

Agree-fewer : (m n : ℕ) (v w : ℕ → Bool) → m ≤ n → Agree n v w → Agree m v w
Agree-fewer m n v w l a = λ i h. a i (omega arith)

Agree-trans : (n : ℕ) (u v w : ℕ → Bool) → Agree n u v → Agree n v w → Agree n u w
Agree-trans n u v w a b = λ i h. a i h ∙ b i h

pub extends_trans : {a b c : ClauseSet} → Extends a b → Extends b c → Extends a c
extends_trans {a} {b} {c} p q = record {
  added = p.added ++ q.added;
  clauses = q.clauses ∙ ap (λ xs. xs ++ q.added) p.clauses ∙ append_assoc a.clauses p.added q.added;
  variables = omega (arith, p.variables, q.variables);
  few = omega (arith, p.few, q.few, length-append p.added q.added);
  some = λ v h.
      let mid = p.some v h in
      let end = q.some mid.0 mid.2 in
      (end.0, Agree-trans a.variables v mid.0 end.0 mid.1 (Agree-fewer a.variables b.variables mid.0 end.0 p.variables end.1), end.2);
  one = λ v w h k e. q.one v w h k (p.one v w (extends_keeps q v h) (extends_keeps q w k) e);
}

-- for the error paths of what adds several gates
pub ruleset extending = (extends_trans, extends_same)

beq_self : (b : Bool) → beq b b ≡ true
beq_self true = refl
beq_self false = refl

pub beq_equal : (a b : Bool) → beq a b ≡ true → a ≡ b
beq_equal true true e = refl
beq_equal true false e = cc
beq_equal false true e = cc
beq_equal false false e = refl

-- the assignment with one variable changed
abbrev put : (ℕ → Bool) → ℕ → Bool → ℕ → Bool
put v n b i = cond (eqb i n) b (v i)

put_at : (v : ℕ → Bool) (n : ℕ) (b : Bool) → put v n b n ≡ b
put_at v n b = cond-true (eqb n n) b (v n) (eq-eqb n n refl)

put_below : (v : ℕ → Bool) (n : ℕ) (b : Bool) → Agree n v (put v n b)
put_below v n b = λ i h. sym (cond-false (eqb i n) b (v i) (ne_eqb i n (λ e. absurd (omega arith))))

-- What makes clauses a definition of the next variable: they are true exactly where it has the value of `g`.
pub record Defines (f : ClauseSet) (cs : List (List Literal)) (g : (ℕ → Bool) → Bool) : Type 0 where
  pub below : AreBelow f.variables f.clauses
  pub few : length cs ≤ 8
  pub table : (v : ℕ → Bool) → all_true v cs ≡ beq (v f.variables) (g v)
  pub local : (v w : ℕ → Bool) → Agree f.variables v w → g v ≡ g w

pub definition_value : (f : ClauseSet) (cs : List (List Literal)) (g : (ℕ → Bool) → Bool) → Defines f cs g → (v : ℕ → Bool) → Satisfies v (f.clauses ++ cs) → v f.variables ≡ g v
definition_value f cs g d v h =
    let new = (Satisfies-parts v f.clauses cs h).1 in
    beq_equal (v f.variables) (g v) (sym (d.table v) ∙ all_true-from_Satisfies v cs new)

definition_one : (f : ClauseSet) (cs : List (List Literal)) (g : (ℕ → Bool) → Bool) → Defines f cs g → (v w : ℕ → Bool) → Satisfies v (f.clauses ++ cs) → Satisfies w (f.clauses ++ cs) → Agree f.variables v w → Agree (f.variables + 1) v w
definition_one f cs g d v w h k a = λ i l. elim (cases_eq i f.variables) [
  | inl e ↦ ap v e ∙ definition_value f cs g d v h ∙ d.local v w a ∙ sym (definition_value f cs g d w k) ∙ ap w (sym e)
  | inr ne ↦ a i (omega arith)
]

definition_some : (f : ClauseSet) (cs : List (List Literal)) (g : (ℕ → Bool) → Bool) → Defines f cs g → (v : ℕ → Bool) → Satisfies v f.clauses → (w : ℕ → Bool) × Agree f.variables v w × Satisfies w (f.clauses ++ cs)
definition_some f cs g d v h =
    let w : ℕ → Bool = put v f.variables (g v) in
    let a : Agree f.variables v w = put_below v f.variables (g v) in
    let old : all_true w f.clauses ≡ true = sym (all_same f.variables v w f.clauses d.below a) ∙ all_true-from_Satisfies v f.clauses h in
    let here : w f.variables ≡ g w = put_at v f.variables (g v) ∙ d.local v w a in
    let new : all_true w cs ≡ true = d.table w ∙ ap (λ b. beq b (g w)) here ∙ beq_self (g w) in
    let both : all_true w (f.clauses ++ cs) ≡ true = all_true-append w f.clauses cs ∙ and_from (all_true w f.clauses) (all_true w cs) old new in
    (w, a, Satisfies-from_all_true w (f.clauses ++ cs) both)

pub definition_extends : (f : ClauseSet) (cs : List (List Literal)) (g : (ℕ → Bool) → Bool) → Defines f cs g → Extends f (with_variable f cs)
definition_extends f cs g d = record {
  added = cs;
  clauses = refl;
  variables = omega arith;
  few = omega (arith, d.few);
  some = definition_some f cs g d;
  one = definition_one f cs g d;
}
