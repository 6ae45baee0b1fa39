-- Serves private functions: a statement of a root, with the place behind it, and where an `if` or a loop leads.
use Rattle.std.specs.Prelude.{◌≡◌, ℕ, ◌+◌, ◌<◌, ◌^◌, false, Option, None, Some, slice_get}
use Rattle.civl_tree.specs.declared.expr.Expr.{Expr}
use Rattle.civl_tree.specs.declared.stmt.Stmt.{Stmt}
use Rattle.civl_tree.specs.declared.stmt.Stmt.TheOpen.{Stmt-F, If, While, YieldLoop, RankLoop}
use Rattle.civl_tree.specs.declared.program.Program.{Program}
use Rattle.civl_tree.specs.Numbering.{sizes_of, statement_at}
use Rattle.civl_meaning.specs.Places.{is_skipped, start_of, spot_at}
use Rattle.civl_goal_terms.specs.declared.places.At.{At}
use Rattle.civl_goal_terms.specs.declared.places.Fork.{Fork}

-- the statement with this number of the procedure with that number, which stands at its own place
pub record IsAt (program : Program) (at : At) : Type 0 where
  pub proc : slice_get program.procs at.root ≡ Some at.proc.now
  pub stmt : statement_at at.proc.now.body at.number ≡ Some at.stmt.now
  pub spot : spot_at at.proc.now.body at.number ≡ Some (record { number = at.number; stmt = at.stmt.now; next = at.next })
  pub plain : is_skipped at.stmt.now ≡ false
  pub small : sizes_of at.proc.now.body < 2 ^ 32

-- the condition of an `if` or a loop, and the places that are reached where it is true and where it is false
abbrev pub fork_in : ℕ → ℕ → Stmt-F Stmt → Option (Expr × (ℕ × ℕ))
fork_in at next (If e a b) = Some (e, (start_of a (at + 1) next, start_of b (at + 1 + sizes_of a) next))
fork_in at next (While e a) = Some (e, (start_of a (at + 1) at, next))
fork_in at next (YieldLoop e i a) = Some (e, (start_of a (at + 1) at, next))
fork_in at next (RankLoop e r i a) = Some (e, (start_of a (at + 1) at, next))
fork_in at next _ = None

abbrev pub told : Option Fork → Option (Expr × (ℕ × ℕ))
told None = None
told (Some fork) = Some (fork.condition.now, (fork.yes, fork.no))
