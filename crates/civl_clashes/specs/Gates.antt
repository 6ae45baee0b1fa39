-- What one action does to the gate of another, and an action that waits at its offered choices (movers: Lipton 1975; gated
-- atomic actions: CAV 2015).
use Rattle.std.specs.Prelude.{not, ◌&&◌, if◌then◌else◌, Option, None, Some, option_and_then}
use Rattle.civl_tree.specs.declared.program.Program.{Program}
use Rattle.civl_firing.specs.declared.store.Store.{Store}
use Rattle.civl_firing.specs.Fired.{guard_holds, offers}
use Rattle.civl_conditions.specs.Values.{Invoked}
use Rattle.civl_conditions.specs.Movers.{gate_of}
use Rattle.civl_clashes.specs.declared.violations.Effect.{Effect}
use Rattle.civl_clashes.specs.Effects.{effect_of}

abbrev pub gate_false_in : Program → Invoked → Effect → Option Effect
gate_false_in program y a = if gate_of program a.store y then None else Some a

abbrev pub gate_true_in : Program → Invoked → Effect → Option Effect
gate_true_in program y a = if gate_of program a.store y then Some a else None

-- both gates are true; but y's is false in what x leaves
abbrev pub spoil_of : Program → Store → Invoked → Invoked → Option Effect
spoil_of program g x y =
    if gate_of program g x && gate_of program g y then option_and_then (gate_false_in program y) (effect_of program g x) else None

-- x's gate is true and y's false; but y's is true in what x leaves
abbrev pub reveal_of : Program → Store → Invoked → Invoked → Option Effect
reveal_of program g x y =
    if gate_of program g x && not (gate_of program g y) then option_and_then (gate_true_in program y) (effect_of program g x) else None

-- an action with the choices that it offers
abbrev pub offered : Program → Store → Invoked → Invoked
offered program g x = record { action = x.action; inputs = x.inputs; chosen = offers program.globals g x.action x.inputs }

-- x with the choices that it offers, where its gate is true; but its guard is false there
abbrev pub wait_of : Program → Store → Invoked → Option Invoked
wait_of program g x =
    if gate_of program g x && not (guard_holds program.globals g x.action x.inputs (offers program.globals g x.action x.inputs))
    then Some (offered program g x)
    else None
