-- What marks say of a branch.
use Rattle.std.proofs.Common.{◌≡◌, ℕ, ◌<◌, List, [], length, get_or, refl, sym, ◌∙◌, subst, arith, append-nil, Bool, true, false, not, cond, unwrap_or}
use Rattle.std.specs.Prelude.{All, Any, Option, None, Some}
use Rattle.std.specs.List.{list_any, list_all}
use Rattle.std.proofs.lemmas.List.Folds.{Any-from_list_any, list_any-from_Any}
use Rattle.std.proofs.lemmas.List.Sums.{AllPass-from_list_all, list_all-from_AllPass}
use Rattle.civl_cnf.specs.Literal.{Literal}
use Rattle.civl_cnf.specs.ClauseSet.{ClauseSet, AreBelow, assignment}
use Rattle.civl_units.specs.Propagation.{Holds, IsClosed}
use Rattle.civl_units.specs.Marks.{is_marked, marked, IsQuiet}
use Rattle.civl_units.proofs.MarkLemmas.{mark_absent}
use Rattle.civl_cdcl.specs.Turn.{AreBits}
use Rattle.civl_cdcl.specs.inner.Propagation.{ChoiceSays}
use Rattle.civl_cdcl.proofs.Outcomes.{satisfied}
use Rattle.civl_cdcl.proofs.Analysing.{quiet_unfalsified}
use Rattle.civl_portfolio.specs.Attempt.{MakesTrue}
use Rattle.civl_provers.specs.inner.Node.{IsPropagated, JudgeSays, NodeSays}
use Rattle.civl_provers.specs.declared.looking.Node.{Node}
use Rattle.civl_provers.specs.declared.looking.Node.TheVariants.{True, Open, Stuck}

-- whether each clause has a true literal
abbrev pub all_marked : List (Option Bool) → List (List Literal) → Bool
all_marked marks clauses = list_all (list_any (λ l. marked marks l.variable l.positive)) clauses

pub all_hold_to : (marks : List (Option Bool)) (clauses : List (List Literal)) → all_marked marks clauses ≡ true → All (λ clause. Any (Holds (marked marks)) clause) clauses
all_hold_to marks clauses e k d low =
    Any-from_list_any (λ (l : Literal). marked marks l.variable l.positive) (get_or clauses k d) (AllPass-from_list_all (list_any (λ (l : Literal). marked marks l.variable l.positive)) clauses e k d low)

pub all_hold_from : (marks : List (Option Bool)) (clauses : List (List Literal)) → All (λ clause. Any (Holds (marked marks)) clause) clauses → all_marked marks clauses ≡ true
all_hold_from marks clauses h =
    list_all-from_AllPass (list_any (λ (l : Literal). marked marks l.variable l.positive)) clauses (λ k d low. list_any-from_Any (λ (l : Literal). marked marks l.variable l.positive) (get_or clauses k d) (h k d low))

-- a literal that is true by the values is true under the bits
true_by : (m : Option Bool) (value positive : Bool) → is_marked m positive ≡ true → value ≡ unwrap_or m false → cond positive value (not value) ≡ true
true_by None value positive held is = cc
true_by (Some true) true true held is = refl
true_by (Some true) true false held is = cc
true_by (Some true) false positive held is = cc
true_by (Some false) true positive held is = cc
true_by (Some false) false true held is = cc
true_by (Some false) false false held is = refl

-- where each clause has a true literal, the values as bits make the clause set true
pub bits_hold : (marks : List (Option Bool)) (set : ClauseSet) (bits : List Bool) → length marks ≡ set.variables → AreBelow set.variables set.clauses → AreBits marks bits → all_marked marks set.clauses ≡ true → MakesTrue set bits
bits_hold marks set bits size below are e =
    let count = are.size in
    record {
      enough = omega arith;
      truth = λ k d low.
          let some = all_hold_to marks set.clauses e k d low in
          let l = some.1 in
          let inside : l.variable < set.variables = subst (λ (m : Literal). m.variable < set.variables) some.3 (below k d low some.0 l some.2) in
          (some.0, l, some.2, some.3, true_by (get_or marks l.variable None) (assignment bits l.variable) l.positive some.4 (are.value l.variable (omega arith)));
    }

-- and where each variable has a value
pub bits_whole : (marks : List (Option Bool)) (set : ClauseSet) (bits : List Bool) → length marks ≡ set.variables → AreBelow set.variables set.clauses → AreBits marks bits → All (IsQuiet (marked marks)) set.clauses → ChoiceSays marks None → MakesTrue set bits
bits_whole marks set bits size below are quiet whole =
    let count = are.size in
    record {
      enough = omega arith;
      truth = satisfied marks bits set.clauses [] are (subst (λ (n : ℕ). AreBelow n set.clauses) (sym size) below) (subst (All (IsQuiet (marked marks))) (sym (append-nil set.clauses)) quiet) whole;
    }

true_false : true ≡ false → ⊥
true_false e = cc

pub not_all : (marks : List (Option Bool)) (clauses : List (List Literal)) → all_marked marks clauses ≡ false → All (λ clause. Any (Holds (marked marks)) clause) clauses → ⊥
not_all marks clauses e h = true_false (sym (all_hold_from marks clauses h) ∙ e)

-- what the marks say is so of the branch, since they are the least closed set
pub node_by : (marks : List (Option Bool)) (set : ClauseSet) (falses : List Literal) (may : Bool) (node : Node) → IsPropagated marks set falses → JudgeSays marks set may node → NodeSays set falses node
node_by marks set falses may (True bits) p says = says
node_by marks set falses may (Open v) p says =
    let closed : IsClosed (marked marks) set.clauses = λ k d low. (p.quiet k d low).0 in
    let size = p.size in
    let low = says.1.0 in
    (omega arith, λ b implied. mark_absent (get_or marks v None) b says.1.1 (implied (marked marks) p.fails closed))
node_by marks set falses may Stuck p says =
    let closed : IsClosed (marked marks) set.clauses = λ k d low. (p.quiet k d low).0 in
    record {
      unrefuted = λ conflict. quiet_unfalsified (marked marks) set.clauses p.quiet (conflict (marked marks) p.fails closed);
      untrue = λ all. says.1 (λ k d low.
          let some = all k d low in
          (some.0, some.1, some.2, some.3, some.4 (marked marks) p.fails closed));
    }
