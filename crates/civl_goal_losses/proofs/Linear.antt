-- K2 by the lower layer of its step.
use Rattle.std.proofs.Common.{◌≡◌, ◌+◌, ◌-◌, ℕ, List, ap, arith}
use Rattle.std.specs.Prelude.{None}
use Rattle.civl_bits.specs.declared.value.Value.{Value}
use Rattle.civl_tree.specs.declared.program.Program.{Program}
use Rattle.civl_conditions.specs.footprints.Agreement.{exists_at}
use Rattle.civl_conditions.specs.Steps.{of_action}
use Rattle.civl_conditions.specs.Values.{invoked, store_of, count_of}
use Rattle.civl_conditions.specs.declared.condition.Condition.TheVariants.{Keep}
use Rattle.civl_clashes.specs.Told.{keep_violation, violation}

pub by_layer : (program : Program) (x : ℕ) (values : List Value)
    → of_action program x None (λ a. keep_violation program (store_of (exists_at program.layers) program values) x (invoked values (count_of (exists_at program.layers) program) a))
    ≡ violation program (Keep (program.layers + 1) x) values
unfolding violation
by_layer program x values =
    let same : program.layers ≡ program.layers + 1 - 1 = omega arith in
    ap (λ (layer : ℕ). of_action program x None (λ a. keep_violation program (store_of (exists_at layer) program values) x (invoked values (count_of (exists_at layer) program) a))) same
