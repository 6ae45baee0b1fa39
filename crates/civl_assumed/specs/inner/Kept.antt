-- An invariant of one step, among those of all.
use Rattle.std.specs.Prelude.{ℕ, Bool, ◌||◌, not, nat_eq}
use Rattle.civl_tree.specs.declared.program.Invariant.{Invariant}
use Rattle.civl_tree.specs.declared.program.Program.{Program}
use Rattle.civl_firing.specs.declared.store.Store.{Store}
use Rattle.civl_conditions.specs.Invariants.{holds_of_globals}

-- it holds, if it is one of the step
abbrev pub keeps_invariant : Program → ℕ → Store → Invariant → Bool
keeps_invariant program step store invariant = not (nat_eq invariant.step step) || holds_of_globals program store invariant.expr
