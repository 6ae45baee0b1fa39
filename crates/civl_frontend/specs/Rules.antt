-- What the static rules and the limit on weights say of a program.
use Rattle.std.specs.Prelude.{◌≡◌, Option, None}
use Rattle.civl_tree.specs.declared.program.Program.{Program}
use Rattle.civl_tree.specs.declared.refusal.Refusal.{Refusal}
use Rattle.civl_tree.specs.rules.Rules.{refusal_by, Keeps}
use Rattle.civl_conditions.specs.Weights.{heavy}
use Rattle.civl_yields.specs.verify.Admitted.{static_rules}

-- the first static rule that a program breaks, with its place
abbrev pub static_refusal : Program → Option Refusal
static_refusal program = refusal_by static_rules program

-- no static rule is broken
abbrev pub IsLawful : Program → Type 0
IsLawful program = Keeps static_rules program

-- The program breaks no static rule, and no formula of it weighs too much: its conditions are decided.
pub record IsTaken (program : Program) : Type 0 where
  pub rules : IsLawful program
  pub light : heavy program ≡ None
