-- Serves private functions: what the goals of a list speak of: threads, actions, roots, and their statements.
use Rattle.std.specs.Prelude.{◌≡◌, ⊤, ℕ, ◌<◌, true, length, slice_get, Some}
use Rattle.civl_tree.specs.declared.stmt.Stmt.{Stmt, out-Stmt}
use Rattle.civl_tree.specs.declared.stmt.Stmt.TheOpen.{Stmt-F, Call, Spawn}
use Rattle.civl_tree.specs.declared.program.Proc.{Proc}
use Rattle.civl_tree.specs.declared.program.Program.{Program}
use Rattle.civl_tree.specs.Numbering.{statement_at}
use Rattle.civl_goals.specs.declared.goal.Goal.{Goal}
use Rattle.civl_goals.specs.declared.goal.Goal.TheVariants as goal
use Rattle.civl_goals.specs.Listed.{is_root}

-- the procedure with this number is a root, and has a statement with that number
pub record HasStatement (program : Program) (r s : ℕ) : Type 0 where
  pub proc : Proc
  pub stmt : Stmt
  pub there : slice_get program.procs r ≡ Some proc
  pub root : is_root proc ≡ true
  pub is : statement_at proc.body s ≡ Some stmt

abbrev pub IsCall : Stmt-F Stmt → Type 0
IsCall (Call callee args results) = ⊤
IsCall _ = ⊥

abbrev pub IsSpawn : Stmt-F Stmt → Type 0
IsSpawn (Spawn callee args) = ⊤
IsSpawn _ = ⊥

abbrev pub IsThere : Program → Goal → Type 0
IsThere program goal.Invariant = ⊤
IsThere program (goal.Thread i) = i < length program.threads
IsThere program (goal.Linear x) = x < length program.actions
IsThere program (goal.Safe r s) = HasStatement program r s
IsThere program (goal.Keep r s) = (h : HasStatement program r s) × IsCall (out-Stmt h.stmt)
IsThere program (goal.Spawn r s) = (h : HasStatement program r s) × IsSpawn (out-Stmt h.stmt)
IsThere program (goal.Next r s) = HasStatement program r s
IsThere program (goal.Other r s q t) = ((h : HasStatement program r s) × IsCall (out-Stmt h.stmt)) × HasStatement program q t
