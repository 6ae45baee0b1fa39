-- What the goals of an outline's list speak of is there.
use Rattle.std.proofs.Common.{◌≡◌, ℕ, Bool, true, false, List, [], ◌∷◌, ◌++◌, map, refl, sym, subst, Some}
use Rattle.std.specs.Prelude.{slice_get, is_some, nat_eq, ◌&&◌, if◌then◌else◌, All}
use Rattle.std.specs.List.{Contains}
use Rattle.std.proofs.lemmas.List.Elements.{All-nil, All-cons, All-append, All-head, All-tail, All-contains, All-map}
use Rattle.std.proofs.lemmas.Option.{slice_get_within}
use Rattle.civl_tree.specs.declared.stmt.Stmt.{Stmt, out-Stmt}
use Rattle.civl_tree.specs.declared.stmt.Stmt.TheOpen.{Stmt-F, Assert, Call, Spawn}
use Rattle.civl_tree.specs.declared.program.Proc.{Proc}
use Rattle.civl_tree.specs.declared.program.Program.{Program}
use Rattle.civl_tree.specs.Numbering.{statements_of}
use Rattle.civl_outlines.specs.declared.outline.Outline.{Outline}
use Rattle.civl_conditions.proofs.Everywhere.{all_each, one_or_none}
use Rattle.civl_goals.specs.declared.goal.Goal.{Goal}
use Rattle.civl_goals.specs.declared.goal.Goal.TheVariants as goal
use Rattle.civl_goals.specs.Outlines.{written_before}
use Rattle.civl_goals.specs.Listed.{begins, moves_permissions, thread_goal, thread_goals, linear_goal, linear_goals, is_root, noted_at, noted_in, noted_of, noted, form_goals, stmt_goals, root_goals, proc_goals, statement_goals, goals}
use Rattle.civl_goal_terms.specs.inner.There.{HasStatement, IsCall, IsSpawn, IsThere}

-- ---- goals

module _ (program : Program) (outline : Outline) where
  abbrev There : Goal → Type 0
  There = IsThere program

  abbrev Placed : ℕ × ℕ → Type 0
  Placed q = HasStatement program q.0 q.1

  -- statements with a note
  noted_proc : (r : ℕ) (proc : Proc) → slice_get program.procs r ≡ Some proc → (b : Bool) → is_root proc ≡ b → All Placed (if b then noted_in program outline r proc else [])
  noted_proc r proc there true root =
      all_each Placed (noted_at program outline r) (statements_of proc.body) (λ s stmt at. one_or_none Placed (is_some (written_before program outline r s)) (r, s) (record { proc = proc; stmt = stmt; there = there; root = root; is = at }))
  noted_proc r proc there false root = All-nil Placed

  noted_are : All Placed (noted program outline)
  noted_are = all_each Placed (noted_of program outline) program.procs (λ r proc there. noted_proc r proc there (is_root proc) refl)

  -- those of a statement
  module _ (others : List (ℕ × ℕ)) (all : All Placed others) (r s : ℕ) (proc : Proc) (stmt : Stmt) (there : slice_get program.procs r ≡ Some proc) (root : is_root proc ≡ true) (at : slice_get (statements_of proc.body) s ≡ Some stmt) where
    abbrev own : HasStatement program r s
    own = record { proc = proc; stmt = stmt; there = there; root = root; is = at }

    form_there : (d : Stmt-F Stmt) → out-Stmt stmt ≡ d → All There (form_goals program others r s d)
    form_there (Call callee args results) e =
        let call : IsCall (out-Stmt stmt) = subst IsCall (sym e) tt in
        All-cons There (goal.Safe r s) (goal.Keep r s ∷ goal.Next r s ∷ map (λ q. goal.Other r s q.0 q.1) others) own
        (All-cons There (goal.Keep r s) (goal.Next r s ∷ map (λ q. goal.Other r s q.0 q.1) others) (own, call) (All-cons There (goal.Next r s) (map (λ q. goal.Other r s q.0 q.1) others) own
        (All-map There (λ q. goal.Other r s q.0 q.1) others (beside call others all))))
      where
        beside : IsCall (out-Stmt stmt) → (qs : List (ℕ × ℕ)) → All Placed qs → All (λ q. There (goal.Other r s q.0 q.1)) qs
        beside call [] h = All-nil (λ q. There (goal.Other r s q.0 q.1))
        beside call (q ∷ qs) h = All-cons (λ q. There (goal.Other r s q.0 q.1)) q qs ((own, call), All-head Placed q qs h) (beside call qs (All-tail Placed q qs h))
    form_there (Assert fact) e = All-cons There (goal.Safe r s) (goal.Next r s ∷ []) own (All-cons There (goal.Next r s) [] own (All-nil There))
    form_there (Spawn callee args) e =
        All-append There (if begins program callee then goal.Spawn r s ∷ [] else []) (goal.Next r s ∷ []) (one_or_none There (begins program callee) (goal.Spawn r s) (own, subst IsSpawn (sym e) tt)) (All-cons There (goal.Next r s) [] own (All-nil There))
    form_there _ e = All-cons There (goal.Next r s) [] own (All-nil There)

  proc_there : (r : ℕ) (proc : Proc) → slice_get program.procs r ≡ Some proc → (b : Bool) → is_root proc ≡ b → All There (if b then root_goals program (noted program outline) r proc else [])
  proc_there r proc there true root =
      all_each There (stmt_goals program (noted program outline) r) (statements_of proc.body) (λ s stmt at. form_there (noted program outline) noted_are r s proc stmt there root at (out-Stmt stmt) refl)
  proc_there r proc there false root = All-nil There

  statements_there : All There (statement_goals program outline)
  statements_there = all_each There (proc_goals program (noted program outline)) program.procs (λ r proc there. proc_there r proc there (is_root proc) refl)

  threads_there : All There (thread_goals program)
  threads_there = all_each There (thread_goal program) program.threads (λ i t e. one_or_none There (begins program t.callee) (goal.Thread i) (slice_get_within program.threads i t e))

  linears_there : All There (linear_goals program)
  linears_there = all_each There (linear_goal program) program.actions (λ i a e. one_or_none There (nat_eq a.first program.layers && moves_permissions program a) (goal.Linear i) (slice_get_within program.actions i a e))

  goals_there : All There (goals program outline)
  unfolding goals
  goals_there =
      All-cons There goal.Invariant (thread_goals program ++ (linear_goals program ++ statement_goals program outline)) tt
      (All-append There (thread_goals program) (linear_goals program ++ statement_goals program outline) threads_there (All-append There (linear_goals program) (statement_goals program outline) linears_there statements_there))

  pub listed_there : (g : Goal) → Contains (goals program outline) g → IsThere program g
  listed_there g h = All-contains There (goals program outline) g goals_there h
