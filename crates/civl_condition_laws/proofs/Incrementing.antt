-- The entry of the increment under the spinlock.
use Rattle.std.proofs.Common.{◌≡◌, ℕ, Bool, [], ◌∷◌, ◌&&◌, true, false, refl, ap, ◌∙◌}
use Rattle.std.specs.Prelude.{codes}
use Rattle.civl_tree.specs.declared.expr.Expr.{Expr, the_lemmas as of_expr}
use Rattle.civl_tree.specs.declared.expr.Expr as expr
use Rattle.civl_tree.specs.declared.expr.Two.TheVariants.{Add}
use Rattle.civl_tree.specs.declared.expr.Sort.TheVariants as sort
use Rattle.civl_tree.specs.declared.action.Mode.TheVariants.{Lend}
use Rattle.civl_tree.specs.declared.stmt.Stmt.{Stmt, the_lemmas as of_stmt}
use Rattle.civl_tree.specs.declared.stmt.Stmt as stmt
use Rattle.civl_tree.specs.declared.program.Proc.{Proc}
use Rattle.civl_tree.specs.Numbering.{numbered}
use Rattle.civl_meaning.specs.Layers.{program_at}
use Rattle.civl_meaning.specs.Rest.{Rest}
use Rattle.civl_firing.specs.Fired.{gate_holds, fires, fired}
use Rattle.civl_layers.specs.Cuts.{entry_cut}
use Rattle.civl_firing.specs.examples.Written.{word, bool, named, name, lit, param, local, refines, proc, call, holding}
use Rattle.civl_conditions.specs.paths.Paths.{Course, Progress, Outcome, Past, after, pass, pass_all, path_from}
use Rattle.civl_conditions.specs.paths.Flows.{Flow, flow_from}
use Rattle.civl_conditions.proofs.paths.Passing.{pass_none, pass_more}
use Rattle.civl_conditions.specs.declared.condition.Condition.TheVariants.{Path}
use Rattle.civl_conditions.specs.declared.condition.Part.TheVariants.{Perform}
use Rattle.civl_conditions.specs.Values.{Begun}
use Rattle.civl_conditions.specs.Parts.{outcome_of, part_fails}
use Rattle.civl_conditions.specs.Violated.{violated}
use Rattle.civl_condition_laws.specs.examples.Spinlock.{adding, increment_row}
use Rattle.civl_condition_laws.proofs.Going.{pass_call, pass_commit, flows}
use Rattle.civl_condition_laws.proofs.Forms.{sizes}
use Rattle.civl_condition_laws.proofs.Facts.{IsCut, choices_in, begun_by, assumed_by, path_at}

abbrev t : Expr
t = name (codes "t")

abbrev acquires : Stmt
acquires = call (codes "Acquire") (t ∷ []) []

abbrev reads : Stmt
reads = call (codes "Read") (t ∷ []) (named (codes "v") ∷ [])

abbrev writes : Stmt
writes = call (codes "Write") (t ∷ expr.Two Add (name (codes "v")) (lit 1 8) ∷ []) []

abbrev releases : Stmt
releases = call (codes "Release") (t ∷ []) []

abbrev pub increment : Proc
increment = proc (codes "Incr") (param Lend (codes "t") (sort.Word 2) ∷ []) [] (refines (codes "AtomIncr") 2) (local (codes "v") (sort.Word 8) ∷ []) (acquires ∷ reads ∷ writes ∷ releases ∷ stmt.Commit ∷ [])

abbrev pub paths : Flow
paths = record { passed = (0, acquires) ∷ (1, reads) ∷ (2, writes) ∷ (3, releases) ∷ (4, stmt.Commit) ∷ []; ends = []; onward = true }

entry_flow : flow_from increment entry_cut ≡ paths
unfolding flow_from
entry_flow = simp (flows, sizes)

pub is_entry : (n : ℕ) → IsCut (adding n) 4 0 increment entry_cut paths (0 ∷ [])
is_entry n = record { proc_is = refl; cut_is = refl; paths_are = entry_flow; held_are = refl }

-- ---- the path, where the lock is free and thread 1 begins with 0

abbrev pub begins : ℕ → Begun
begins n = begun_by (adding n) 2 increment entry_cut (choices_in (adding n) 2 paths.passed) (increment_row 0 0 1)

abbrev course : ℕ → Course
course n = record { plain = program_at (adding n) 1; proc = increment; chosen = (begins n).chosen }

-- lock, x and v on the way
abbrev pub there : ℕ → ℕ → ℕ → Bool → Progress
there lock x v done = record { store = holding (bool false ∷ word 2 lock ∷ word 8 x ∷ []); locals = word 2 1 ∷ word 8 v ∷ []; done = done; again = false }

going_on : (c : Course) (number : ℕ) (s : Stmt) (rest : Rest) (p q : Progress) (o : Outcome) → pass c s number p ≡ Past q → pass_all c rest q ≡ o → pass_all c ((number, s) ∷ rest) p ≡ o
going_on c number s rest p q o h k = pass_more c number s rest p ∙ ap (λ (x : Outcome). after x (pass_all c rest)) h ∙ k

numbers : numbered 0 increment.body ≡ (0, acquires) ∷ (1, reads) ∷ (2, writes) ∷ (3, releases) ∷ (4, stmt.Commit) ∷ []
numbers = simp sizes

module _ (n : ℕ) where
  first : pass (course n) acquires 0 (there 0 0 0 false) ≡ Past (there 1 0 0 false)
  unfolding gate_holds fires fired
  first = simp (of_expr, of_stmt, pass_call)

  second : pass (course n) reads 1 (there 1 0 0 false) ≡ Past (there 1 0 0 false)
  unfolding gate_holds fires fired
  second = simp (of_expr, of_stmt, pass_call)

  third : pass (course n) writes 2 (there 1 0 0 false) ≡ Past (there 1 1 0 false)
  unfolding gate_holds fires fired
  third = simp (of_expr, of_stmt, pass_call)

  fourth : pass (course n) releases 3 (there 1 1 0 false) ≡ Past (there 0 1 0 false)
  unfolding gate_holds fires fired
  fourth = simp (of_expr, of_stmt, pass_call)

  pub comes_out : outcome_of (adding n) 2 increment entry_cut (begins n) ≡ Past (there 0 1 0 true)
  unfolding path_from
  comes_out =
      ap (λ (k : Rest). pass_all (course n) k (there 0 0 0 false)) numbers
      ∙ going_on (course n) 0 acquires _ _ _ _ first (
      going_on (course n) 1 reads _ _ _ _ second (
      going_on (course n) 2 writes _ _ _ _ third (
      going_on (course n) 3 releases _ _ _ _ fourth (going_on (course n) 4 stmt.Commit [] _ (there 0 1 0 true) _ (pass_commit (course n) 4 (there 0 1 0 false)) (pass_none (course n) (there 0 1 0 true)))
      )
      )
      )

  pub sum_row : violated (adding n) (Path Perform 2 4 0) (increment_row 0 0 1) ≡ (assumed_by (adding n) 2 increment (0 ∷ []) entry_cut (begins n) && part_fails (adding n) 2 increment 0 entry_cut (begins n) (Past (there 0 1 0 true)) Perform)
  sum_row =
      path_at (adding n) 2 4 0 increment entry_cut paths (0 ∷ []) (is_entry n) Perform (increment_row 0 0 1)
      ∙ ap (λ (o : Outcome). assumed_by (adding n) 2 increment (0 ∷ []) entry_cut (begins n) && part_fails (adding n) 2 increment 0 entry_cut (begins n) o Perform) comes_out
