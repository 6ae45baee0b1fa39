use Rattle.std.proofs.Common.{◌≡◌, [], ◌∷◌, drop}
use Rattle.std.specs.Prelude.{if◌then◌else◌}
use Rattle.civl_tree.specs.rules.Rules.{first_of}
use Rattle.civl_conditions.specs.Steps.{each_at}
use Rattle.civl_goals.specs.Rules.{says_of, hold_scope, unfit_holds}
use Rattle.civl_goals.proofs.rules.first_hold.Given as goal

abbrev pub invariant-loop-number : goal.invariant-loop-number
invariant-loop-number l =
    first_of (each_at (λ number e. if says_of (hold_scope l.program) e then [] else number ∷ []) l.number (drop l.number l.holds)) ≡ first_of (unfit_holds l.fn.program l.fn.holds)
