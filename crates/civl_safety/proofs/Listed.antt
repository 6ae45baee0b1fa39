-- Which goals are listed.
use Rattle.std.proofs.Common.{◌≡◌, ℕ, true, ◌&&◌, List, [], ◌∷◌, ◌++◌, map, Some, refl, sym, subst, arith}
use Rattle.std.specs.Prelude.{slice_get, is_some, nat_eq, if◌then◌else◌}
use Rattle.std.specs.List.{Contains}
use Rattle.std.proofs.lemmas.Bool.{and_from}
use Rattle.std.proofs.lemmas.List.Elements.{Contains-append_left, Contains-append_right}
use Rattle.civl_tree.specs.declared.stmt.Stmt.{Stmt, out-Stmt}
use Rattle.civl_tree.specs.declared.stmt.Stmt.TheOpen.{Stmt-F, Assert, Call, Spawn}
use Rattle.civl_tree.specs.declared.action.Action.{Action}
use Rattle.civl_tree.specs.declared.program.Proc.{Proc}
use Rattle.civl_tree.specs.declared.program.Program.{Program}
use Rattle.civl_tree.specs.declared.program.Thread.{Thread}
use Rattle.civl_tree.specs.declared.name.Name.{Name}
use Rattle.civl_tree.specs.declared.expr.Expr.{Expr}
use Rattle.civl_tree.specs.Numbering.{statement_at, statements_of}
use Rattle.civl_tree.proofs.Pairs.{contains_here, contains_there, contains_map}
use Rattle.civl_conditions.proofs.Contained.{shown, in_each}
use Rattle.civl_outlines.specs.declared.outline.Outline.{Outline}
use Rattle.civl_goals.specs.declared.goal.Goal.{Goal}
use Rattle.civl_goals.specs.declared.goal.Goal.TheVariants as goal
use Rattle.civl_goals.specs.Outlines.{written_before}
use Rattle.civl_goals.specs.Listed.{begins, thread_goal, thread_goals, moves_permissions, linear_goal, linear_goals, is_root, noted_at, noted_in, noted_of, noted, form_goals, stmt_goals, root_goals, proc_goals, statement_goals, goals}

module _ (program : Program) (outline : Outline) where
  pub invariant_listed : Contains (goals program outline) goal.Invariant
  unfolding goals
  invariant_listed = contains_here goal.Invariant (thread_goals program ++ (linear_goals program ++ statement_goals program outline))

  of_threads : (x : Goal) → Contains (thread_goals program) x → Contains (goals program outline) x
  unfolding goals
  of_threads x h = contains_there goal.Invariant (thread_goals program ++ (linear_goals program ++ statement_goals program outline)) x (Contains-append_left (thread_goals program) (linear_goals program ++ statement_goals program outline) x h)

  of_others : (x : Goal) → Contains (linear_goals program ++ statement_goals program outline) x → Contains (goals program outline) x
  unfolding goals
  of_others x h = contains_there goal.Invariant (thread_goals program ++ (linear_goals program ++ statement_goals program outline)) x (Contains-append_right (thread_goals program) (linear_goals program ++ statement_goals program outline) x h)

  pub thread_listed : (i : ℕ) (thread : Thread) → slice_get program.threads i ≡ Some thread → begins program thread.callee ≡ true → Contains (goals program outline) (goal.Thread i)
  thread_listed i thread at b =
      of_threads (goal.Thread i) (in_each (thread_goal program) 0 program.threads i i thread (goal.Thread i) at (omega arith) (shown (begins program thread.callee) (goal.Thread i) (goal.Thread i ∷ []) b (contains_here (goal.Thread i) [])))

  pub linear_listed : (x : ℕ) (a : Action) → slice_get program.actions x ≡ Some a → nat_eq a.first program.layers ≡ true → moves_permissions program a ≡ true → Contains (goals program outline) (goal.Linear x)
  linear_listed x a at top moves =
      of_others (goal.Linear x) (Contains-append_left (linear_goals program) (statement_goals program outline) (goal.Linear x)
      (in_each (linear_goal program) 0 program.actions x x a (goal.Linear x) at (omega arith) (shown (nat_eq a.first program.layers && moves_permissions program a) (goal.Linear x) (goal.Linear x ∷ []) (and_from _ _ top moves) (contains_here (goal.Linear x) []))))

  -- ---- a statement of a root

  module _ (r : ℕ) (proc : Proc) (at : slice_get program.procs r ≡ Some proc) (root : is_root proc ≡ true) (s : ℕ) (stmt : Stmt) (here : statement_at proc.body s ≡ Some stmt) where
    abbrev others : List (ℕ × ℕ)
    others = noted program outline

    of_statement : (x : Goal) → Contains (form_goals program others r s (out-Stmt stmt)) x → Contains (goals program outline) x
    of_statement x h =
        of_others x (Contains-append_right (linear_goals program) (statement_goals program outline) x
        (in_each (proc_goals program others) 0 program.procs r r proc x at (omega arith)
        (shown (is_root proc) x (root_goals program others r proc) root (in_each (stmt_goals program others r) 0 (statements_of proc.body) s s stmt x here (omega arith) h))))

    next_form : (d : Stmt-F Stmt) → Contains (form_goals program others r s d) (goal.Next r s)
    next_form (Call f es rs) = (2, omega arith, refl)
    next_form (Assert e) = (1, omega arith, refl)
    next_form (Spawn f es) = Contains-append_right (if begins program f then goal.Spawn r s ∷ [] else []) (goal.Next r s ∷ []) (goal.Next r s) (contains_here (goal.Next r s) [])
    next_form _ = (0, omega arith, refl)

    pub next_listed : Contains (goals program outline) (goal.Next r s)
    next_listed = of_statement (goal.Next r s) (next_form (out-Stmt stmt))

    -- of a goal of its form
    of_form : (d : Stmt-F Stmt) → out-Stmt stmt ≡ d → (x : Goal) → Contains (form_goals program others r s d) x → Contains (goals program outline) x
    of_form d e x h = of_statement x (subst (λ (f : Stmt-F Stmt). Contains (form_goals program others r s f) x) (sym e) h)

    pub assert_listed : (e : Expr) → out-Stmt stmt ≡ Assert e → Contains (goals program outline) (goal.Safe r s)
    assert_listed e q = of_form (Assert e) q (goal.Safe r s) (0, omega arith, refl)

    module _ (f : Name) (es : List Expr) (rs : List Name) (q : out-Stmt stmt ≡ Call f es rs) where
      pub safe_listed : Contains (goals program outline) (goal.Safe r s)
      safe_listed = of_form (Call f es rs) q (goal.Safe r s) (0, omega arith, refl)

      pub keep_listed : Contains (goals program outline) (goal.Keep r s)
      keep_listed = of_form (Call f es rs) q (goal.Keep r s) (1, omega arith, refl)

      pub other_listed : (k t : ℕ) → Contains (noted program outline) (k, t) → Contains (goals program outline) (goal.Other r s k t)
      other_listed k t h =
          let all : List Goal = map (λ (p : ℕ × ℕ). goal.Other r s p.0 p.1) (noted program outline) in
          let among = contains_map (λ (p : ℕ × ℕ). goal.Other r s p.0 p.1) (noted program outline) (k, t) h in
          of_form (Call f es rs) q (goal.Other r s k t)
          (contains_there (goal.Safe r s) (goal.Keep r s ∷ goal.Next r s ∷ all) (goal.Other r s k t) (contains_there (goal.Keep r s) (goal.Next r s ∷ all) (goal.Other r s k t) (contains_there (goal.Next r s) all (goal.Other r s k t) among)))

    pub spawn_listed : (f : Name) (es : List Expr) → out-Stmt stmt ≡ Spawn f es → begins program f ≡ true → Contains (goals program outline) (goal.Spawn r s)
    spawn_listed f es q b =
        of_form (Spawn f es) q (goal.Spawn r s)
        (Contains-append_left (if begins program f then goal.Spawn r s ∷ [] else []) (goal.Next r s ∷ []) (goal.Spawn r s) (shown (begins program f) (goal.Spawn r s) (goal.Spawn r s ∷ []) b (contains_here (goal.Spawn r s) [])))

    -- a note that is written before it
    pub noted_listed : is_some (written_before program outline r s) ≡ true → Contains (noted program outline) (r, s)
    noted_listed w =
        in_each (noted_of program outline) 0 program.procs r r proc (r, s) at (omega arith)
        (shown (is_root proc) (r, s) (noted_in program outline r proc) root
        (in_each (noted_at program outline r) 0 (statements_of proc.body) s s stmt (r, s) here (omega arith) (shown (is_some (written_before program outline r s)) (r, s) ((r, s) ∷ []) w (contains_here (r, s) []))))
