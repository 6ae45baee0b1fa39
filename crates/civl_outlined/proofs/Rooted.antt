-- The statements that goals name are of roots.
use Rattle.std.proofs.Common.{◌≡◌, ℕ, Bool, true, false, List, [], ◌∷◌, ◌++◌, map, refl, sym, ◌∙◌, subst, arith, Some}
use Rattle.std.specs.Prelude.{slice_get, is_some, nat_eq, ◌&&◌, if◌then◌else◌, All}
use Rattle.std.proofs.lemmas.List.Elements.{All-nil, All-cons, All-append, All-head, All-tail, All-map}
use Rattle.std.proofs.lemmas.Option.{slice_get_within}
use Rattle.civl_tree.specs.declared.stmt.Stmt.{Stmt, out-Stmt}
use Rattle.civl_tree.specs.declared.stmt.Stmt.TheOpen.{Stmt-F, Assert, Call, Spawn}
use Rattle.civl_tree.specs.declared.program.Proc.{Proc}
use Rattle.civl_tree.specs.declared.program.Program.{Program}
use Rattle.civl_tree.specs.Numbering.{statements_of}
use Rattle.civl_tree.proofs.Numbers.{sizes_are_counts}
use Rattle.civl_outlines.specs.declared.outline.Outline.{Outline}
use Rattle.civl_conditions.proofs.Everywhere.{all_each, one_or_none}
use Rattle.civl_goals.specs.declared.goal.Goal.{Goal}
use Rattle.civl_goals.specs.declared.goal.Goal.TheVariants as goal
use Rattle.civl_goals.specs.Outlines.{written_before}
use Rattle.civl_goals.specs.Listed.{begins, moves_permissions, thread_goal, thread_goals, linear_goal, linear_goals, is_root, noted_at, noted_in, noted_of, noted, form_goals, stmt_goals, root_goals, proc_goals, statement_goals, goals}
use Rattle.civl_outlined.specs.inner.Sums.{IsOfRoot, NamesRoots}

-- ---- goals

module _ (program : Program) (outline : Outline) where
  abbrev Named : Goal → Type 0
  Named = NamesRoots program

  abbrev Placed : ℕ × ℕ → Type 0
  Placed q = IsOfRoot program q.0 q.1

  of_root : (r s : ℕ) (proc : Proc) (stmt : Stmt) → slice_get program.procs r ≡ Some proc → is_root proc ≡ true → slice_get (statements_of proc.body) s ≡ Some stmt → IsOfRoot program r s
  of_root r s proc stmt there root at =
      let within = slice_get_within (statements_of proc.body) s stmt at in
      (proc, there, root, omega (arith, within, sizes_are_counts proc.body))

  -- statements with a note
  noted_proc : (r : ℕ) (proc : Proc) → slice_get program.procs r ≡ Some proc → (b : Bool) → is_root proc ≡ b → All Placed (if b then noted_in program outline r proc else [])
  noted_proc r proc there true root = all_each Placed (noted_at program outline r) (statements_of proc.body) (λ s stmt at. one_or_none Placed (is_some (written_before program outline r s)) (r, s) (of_root r s proc stmt there root at))
  noted_proc r proc there false root = All-nil Placed

  noted_are : All Placed (noted program outline)
  noted_are = all_each Placed (noted_of program outline) program.procs (λ r proc there. noted_proc r proc there (is_root proc) refl)

  -- those of a statement
  form_named : (others : List (ℕ × ℕ)) → All Placed others → (r s : ℕ) → IsOfRoot program r s → (d : Stmt-F Stmt) → All Named (form_goals program others r s d)
  form_named others all r s at (Call callee args results) =
      All-cons Named (goal.Safe r s) (goal.Keep r s ∷ goal.Next r s ∷ map (λ q. goal.Other r s q.0 q.1) others) at
      (All-cons Named (goal.Keep r s) (goal.Next r s ∷ map (λ q. goal.Other r s q.0 q.1) others) at (All-cons Named (goal.Next r s) (map (λ q. goal.Other r s q.0 q.1) others) at
      (All-map Named (λ q. goal.Other r s q.0 q.1) others (beside others all))))
    where
      beside : (qs : List (ℕ × ℕ)) → All Placed qs → All (λ q. Named (goal.Other r s q.0 q.1)) qs
      beside [] h = All-nil (λ q. Named (goal.Other r s q.0 q.1))
      beside (q ∷ qs) h = All-cons (λ q. Named (goal.Other r s q.0 q.1)) q qs (at, All-head Placed q qs h) (beside qs (All-tail Placed q qs h))
  form_named others all r s at (Assert fact) = All-cons Named (goal.Safe r s) (goal.Next r s ∷ []) at (All-cons Named (goal.Next r s) [] at (All-nil Named))
  form_named others all r s at (Spawn callee args) =
      All-append Named (if begins program callee then goal.Spawn r s ∷ [] else []) (goal.Next r s ∷ []) (one_or_none Named (begins program callee) (goal.Spawn r s) at) (All-cons Named (goal.Next r s) [] at (All-nil Named))
  form_named others all r s at _ = All-cons Named (goal.Next r s) [] at (All-nil Named)

  proc_named : (others : List (ℕ × ℕ)) → All Placed others → (r : ℕ) (proc : Proc) → slice_get program.procs r ≡ Some proc → (b : Bool) → is_root proc ≡ b → All Named (if b then root_goals program others r proc else [])
  proc_named others all r proc there true root = all_each Named (stmt_goals program others r) (statements_of proc.body) (λ s stmt at. form_named others all r s (of_root r s proc stmt there root at) (out-Stmt stmt))
  proc_named others all r proc there false root = All-nil Named

  statements_named : All Named (statement_goals program outline)
  statements_named = all_each Named (proc_goals program (noted program outline)) program.procs (λ r proc there. proc_named (noted program outline) noted_are r proc there (is_root proc) refl)

  threads_named : All Named (thread_goals program)
  threads_named = all_each Named (thread_goal program) program.threads (λ i t e. one_or_none Named (begins program t.callee) (goal.Thread i) tt)

  linears_named : All Named (linear_goals program)
  linears_named = all_each Named (linear_goal program) program.actions (λ i a e. one_or_none Named (nat_eq a.first program.layers && moves_permissions program a) (goal.Linear i) tt)

  pub goals_name_roots : All Named (goals program outline)
  unfolding goals
  goals_name_roots =
      All-cons Named goal.Invariant (thread_goals program ++ (linear_goals program ++ statement_goals program outline)) tt
      (All-append Named (thread_goals program) (linear_goals program ++ statement_goals program outline) threads_named (All-append Named (linear_goals program) (statement_goals program outline) linears_named statements_named))

pub listed_name_roots : (program other : Program) (outline : Outline) (list shown : List Goal) → list ≡ goals program outline → shown ≡ list → other ≡ program → All (NamesRoots other) shown
listed_name_roots program other outline list shown e s p =
    subst (λ (l : List Goal). All (NamesRoots other) l) (sym (s ∙ e)) (subst (λ (q : Program). All (NamesRoots q) (goals program outline)) (sym p) (goals_name_roots program outline))
