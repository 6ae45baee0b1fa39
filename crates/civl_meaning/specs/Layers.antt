-- Part of the claim: docs/CLAIM.md.
-- The plain programs of a layered one (Kragl, Qadeer, CAV 2018): in the program of layer k each procedure of layer k or
-- less is replaced by the action that it refines.
use Rattle.std.specs.Prelude.{ℕ, Bool, true, nat_lt, map, Option, None, Some}
use Rattle.civl_tree.specs.declared.program.Refines.{Refines}
use Rattle.civl_tree.specs.declared.program.Program.{Program}
use Rattle.civl_meaning.specs.declared.config.Plain.{Plain}

-- whether a procedure means its body in the program of layer k: one without `refines` always does
abbrev pub means_body : ℕ → Option Refines → Bool
means_body k None = true
means_body k (Some r) = nat_lt k r.layer

-- the program of layer k
abbrev pub program_at : Program → ℕ → Plain
program_at program k = record { program = program; bodies = map (λ p. means_body k p.refines) program.procs }

abbrev pub lowest : Program → Plain
lowest program = program_at program 0

abbrev pub topmost : Program → Plain
topmost program = program_at program program.layers
