-- The search from its beginning to its outcome.
use Rattle.std.proofs.Common.{◌≡◌, ◌⊎◌, ℕ, ◌<◌, ◌≤◌, List, [], ◌∷◌, ◌++◌, length, get_or, take, append_assoc, append-nil, refl, sym, ◌∙◌, ap, subst, inl, inr, arith, Bool, true, false, not, unwrap_or, ltb, cond}
use Rattle.std.specs.Prelude.{All, Contains, Option, None, Some}
use Rattle.std.proofs.lemmas.Bool.{ltb-false, cases_Bool}
use Rattle.std.proofs.lemmas.List.{take-append-le, take_all, get_or_append_left, get_or_push, length_push, length-append}
use Rattle.std.proofs.lemmas.List.Elements.{All-nil, All-cons, Contains-append_right, Contains-push}
use Rattle.civl_cnf.specs.Literal.{Literal, truth_of}
use Rattle.civl_cnf.specs.ClauseSet.{ClauseSet, IsBelow, AreBelow, SatisfiesClause, Satisfies, assignment}
use Rattle.civl_units.specs.Propagation.{GivesConflict}
use Rattle.civl_rup.specs.Rup.{HasRup, Refutes}
use Rattle.civl_units.specs.Marks.{is_marked, marked, IsQuiet}
use Rattle.civl_units.proofs.MarkLemmas.{lt_or_eq}
use Rattle.civl_units.proofs.Propagating.{all_left}
use Rattle.civl_propagation.specs.Engine.{EngineState}
use Rattle.civl_cdcl.specs.inner.Propagation.{ChoiceSays}
use Rattle.civl_cdcl.specs.Outcome.{IsModel, IsLearned, HaveLearned, RefutesWithin, SpendsWhole}
use Rattle.civl_cdcl.specs.Turn.{AreBits, IsMarked, IsFull}

-- a clause has a true literal, or all are false
some_or_none : (v : ℕ → Bool) (clause : List Literal) → SatisfiesClause v clause ⊎ All (λ l. truth_of v l ≡ false) clause
some_or_none v [] = inr (All-nil (λ l. truth_of v l ≡ false))
some_or_none v (l ∷ clause) = elim (cases_Bool (truth_of v l)) [
  | inl holds ↦ inl (0, l, omega arith, refl, holds)
  | inr fails ↦ elim (some_or_none v clause) [
    | inl some ↦
        let there = Contains-append_right (l ∷ []) clause some.1 (some.0, some.2, some.3) in
        inl (there.0, some.1, there.1, there.2, some.4)
    | inr none ↦ inr (All-cons (λ m. truth_of v m ≡ false) l clause fails none)
  ]
]

-- a literal that is false under the bits is false by the values
false_by : (m : Option Bool) (value positive : Bool) → (m ≡ None → ⊥) → value ≡ unwrap_or m false → cond positive value (not value) ≡ false → is_marked m (not positive) ≡ true
false_by None value positive known is e = absurd (known refl)
false_by (Some true) true true known is e = cc
false_by (Some true) true false known is e = refl
false_by (Some true) false positive known is e = cc
false_by (Some false) true positive known is e = cc
false_by (Some false) false true known is e = refl
false_by (Some false) false false known is e = cc

-- where all variables have a value and no clause is falsified, the values as bits make the clauses true
pub satisfied : (marks : List (Option Bool)) (bits : List Bool) (formula log : List (List Literal)) → AreBits marks bits → AreBelow (length marks) formula → All (IsQuiet (marked marks)) (formula ++ log) → ChoiceSays marks None → Satisfies (assignment bits) formula
satisfied marks bits formula log are below quiet known k d low =
    let clause = get_or formula k d in
    let size = length-append formula log in
    let one : IsQuiet (marked marks) clause = subst (IsQuiet (marked marks)) (get_or_append_left formula log d k low) (quiet k d (omega arith)) in
    elim (some_or_none (assignment bits) clause) [
      | inl some ↦ some
      | inr none ↦ absurd (one.1 (λ j e inside.
          let l = get_or clause j e in
          let fits : l.variable < length marks = below k d low j e inside in
          false_by (get_or marks l.variable None) (assignment bits l.variable) l.positive (known l.variable fits) (are.value l.variable fits) (none j e inside)))
    ]

pub model_by : (set : ClauseSet) (log : List (List Literal)) (old new : EngineState) (bits : List Bool) → length old.trail.marks ≡ set.variables → old.clauses ≡ set.clauses ++ log → AreBelow set.variables set.clauses → IsMarked old new → AreBits new.trail.marks bits → IsModel set bits
model_by set log old new bits size is below says are =
    let marks = new.trail.marks in
    let count : length marks ≡ set.variables = says.size ∙ size in
    let quiet : All (IsQuiet (marked marks)) (set.clauses ++ log) = subst (All (IsQuiet (marked marks))) is says.quiet in
    record {
      size = are.size ∙ count;
      truth = satisfied marks bits set.clauses log are (subst (λ (n : ℕ). AreBelow n set.clauses) (sym count) below) quiet says.whole;
    }

-- a claim on each clause of a log and those before it, for one more clause
pub log_push : (P : List (List Literal) → List Literal → Type 0) (formula log : List (List Literal)) (clause : List Literal) → ((i : ℕ) → i < length log → P (formula ++ take i log) (get_or log i [])) → P (formula ++ log) clause → (i : ℕ) → i < length (log ++ clause ∷ []) → P (formula ++ take i (log ++ clause ∷ [])) (get_or (log ++ clause ∷ []) i [])
log_push P formula log clause have last i low =
    let longer = length_push log clause in
    elim (lt_or_eq i (length log) (omega arith)) [
      | inl less ↦
          subst (λ x. P (formula ++ x) (get_or (log ++ clause ∷ []) i [])) (sym (take-append-le i log (clause ∷ []) (omega arith)))
          (subst (P (formula ++ take i log)) (sym (get_or_append_left log (clause ∷ []) [] i less)) (have i less))
      | inr is ↦
          let whole : take i log ≡ log = take_all i log (omega arith) in
          subst (λ x. P (formula ++ x) (get_or (log ++ clause ∷ []) i [])) (sym (take-append-le i log (clause ∷ []) (omega arith) ∙ whole))
          (subst (P (formula ++ log)) (sym (get_or_push log clause [] i (sym is))) last)
    ]

pub learned_push : (set : ClauseSet) (log new : List (List Literal)) (clause : List Literal) → new ≡ log ++ clause ∷ [] → HaveLearned set log (length log) → IsLearned set.variables (set.clauses ++ log) clause → HaveLearned set new (length new)
learned_push set log new clause is have last =
    subst (λ (x : List (List Literal)). HaveLearned set x (length x)) (sym is) (log_push (IsLearned set.variables) set.clauses log clause have last)

pub refutes_by : (set : ClauseSet) (budget : ℕ) (log new : List (List Literal)) → new ≡ log ++ [] ∷ [] → length log ≤ budget → HaveLearned set log (length log) → HasRup set.variables (set.clauses ++ log) [] → RefutesWithin set budget new
refutes_by set budget log new is few have rup = record {
  refutes = subst (Refutes set) (sym is) (record {
    rup = log_push (HasRup set.variables) set.clauses log [] (λ i low. (have i low).rup) rup;
    empty = Contains-push log [];
  });
  earlier = log;
  last = is;
  few = few;
  learned = have;
}

none_empty : (set : ClauseSet) (log : List (List Literal)) → HaveLearned set log (length log) → Contains log [] → ⊥
none_empty set log have there = (have there.0 there.1).some there.2

pub spends_by : (set : ClauseSet) (budget len : ℕ) (log : List (List Literal)) → len ≡ length log → length log ≤ budget → HaveLearned set log (length log) → IsFull (ltb len budget) set.variables (set.clauses ++ log) → SpendsWhole set budget log
spends_by set budget len log is few have full =
    let above : budget ≤ len = ltb-false len budget full.limit in
    record {
      spends = record {
        size = omega arith;
        none = none_empty set log have;
        rup = λ i low. (have i low).rup;
        fresh = λ i low. (have i low).fresh;
        unrefuted = full.unrefuted;
      };
      clause = full.clause;
      more = full.more;
    }

-- the clauses behind one more
pub behind : (formula log new : List (List Literal)) (clause : List Literal) → new ≡ log ++ clause ∷ [] → (formula ++ log) ++ clause ∷ [] ≡ formula ++ new
behind formula log new clause is = append_assoc formula log (clause ∷ []) ∙ ap (λ (x : List (List Literal)). formula ++ x) (sym is)

-- the clauses of the set are of its variables, where those of the engine are
pub below_first : (n variables : ℕ) (formula log clauses : List (List Literal)) → n ≡ variables → clauses ≡ formula ++ log → AreBelow n clauses → AreBelow variables formula
below_first n variables formula log clauses size is below =
    subst (λ (k : ℕ). AreBelow k formula) size (all_left (IsBelow n) formula log (subst (AreBelow n) is below))

pub learned_over : (n variables : ℕ) (clauses others : List (List Literal)) (clause : List Literal) → n ≡ variables → clauses ≡ others → IsLearned n clauses clause → IsLearned variables others clause
learned_over n variables clauses others clause size is learned =
    subst (λ (cs : List (List Literal)). IsLearned variables cs clause) is (subst (λ (k : ℕ). IsLearned k clauses clause) size learned)

pub rup_over : (n variables : ℕ) (clauses others : List (List Literal)) → n ≡ variables → clauses ≡ others → HasRup n clauses [] → HasRup variables others []
rup_over n variables clauses others size is rup =
    subst (λ (cs : List (List Literal)). HasRup variables cs []) is (subst (λ (k : ℕ). HasRup k clauses []) size rup)

pub full_over : (may : Bool) (n variables : ℕ) (clauses others : List (List Literal)) → n ≡ variables → clauses ≡ others → IsFull may n clauses → IsFull may variables others
full_over may n variables clauses others size is full =
    subst (λ (cs : List (List Literal)). IsFull may variables cs) is (subst (λ (k : ℕ). IsFull may k clauses) size full)

-- where propagation refutes the clauses, the empty clause alone does
pub refutes_at_once : (set : ClauseSet) (budget : ℕ) (log : List (List Literal)) → log ≡ [] ∷ [] → GivesConflict set.clauses [] → RefutesWithin set budget log
refutes_at_once set budget log is conflict =
    let none : set.clauses ++ [] ≡ set.clauses = append-nil set.clauses in
    refutes_by set budget [] log is (omega arith) (λ i low. absurd (omega arith))
    (subst (λ (cs : List (List Literal)). HasRup set.variables cs []) (sym none) (record {
      below = λ k d low. absurd (omega arith);
      once = λ i j d less low. absurd (omega arith);
      conflict = conflict;
    }))
