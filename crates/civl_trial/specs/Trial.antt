-- The trial program: a spinlock and a counter, so many times beside each other, and two threads that increment each of
-- the counters.
use Rattle.std.specs.Prelude.{ℕ, zero, suc, ◌-◌, ◌≤◌, None, List, [], ◌∷◌, ◌++◌}
use Rattle.civl_tree.specs.declared.expr.Sort.TheVariants.{Word}
use Rattle.civl_tree.specs.declared.expr.Expr.{Expr, Literal}
use Rattle.civl_tree.specs.declared.stmt.Stmt.{Stmt, Call}
use Rattle.civl_tree.specs.declared.program.Proc.{Proc}
use Rattle.civl_tree.specs.declared.program.Thread.{Thread}
use Rattle.civl_tree.specs.declared.program.Program.{Program}
use Rattle.civl_trial.specs.Phrases.{named, of_copy, local, both, lend}
use Rattle.civl_trial.specs.Copies.{starts, globals_of, invariants_of, actions_of, procs_of}

-- how many copies a trial program may have
abbrev pub IsTrialNumber : ℕ → Type 0
IsTrialNumber n = (1 ≤ n) × (n ≤ 8)

-- what the copies 0 to n - 1 have, one behind the other
abbrev pub copies : {X : Type 0} → (ℕ → List X) → ℕ → List X
copies parts zero = []
copies parts (suc n) = copies parts n ++ parts n

-- what `init` asks of the copies 0 to `last`
abbrev pub starts_to : ℕ → Expr
starts_to zero = starts 0
starts_to (suc last) = both (starts_to last) (starts (suc last))

-- call Incr(t) -> () ;
abbrev pub increment : ℕ → List Stmt
increment copy = Call (of_copy "Incr" copy) (local "t" ∷ []) [] ∷ []

-- proc Main(lend t : word(2)) -> () root { .. }, which increments the counter of each copy
abbrev pub main : ℕ → Proc
main n = record { name = named "Main"; params = lend "t" (Word 2) ∷ []; outs = []; refines = None; locals = []; body = copies increment n }

-- thread Main( permission:2 ) ;
abbrev pub main_thread : ℕ → Thread
main_thread permission = record { callee = named "Main"; args = Literal permission 2 ∷ [] }

-- the trial program of n copies
abbrev pub trial : ℕ → Program
trial n = record {
  version = 1;
  layers = 2;
  permissions = 2;
  globals = copies globals_of n;
  init = starts_to (n - 1);
  invariants = copies invariants_of n;
  actions = copies actions_of n;
  procs = copies procs_of n ++ main n ∷ [];
  threads = main_thread 1 ∷ main_thread 2 ∷ [];
}
