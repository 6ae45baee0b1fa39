-- Why two actions can't be exchanged (movers: Lipton 1975; gated atomic actions: CAV 2015).
use Rattle.std.specs.Prelude.{ℕ, ◌-◌, Bool, ◌&&◌, if◌then◌else◌, List, [], ◌∷◌, Option, None, Some, option_map, option_and_then}
use Rattle.civl_tree.specs.declared.program.Global.{Global}
use Rattle.civl_tree.specs.declared.program.Program.{Program}
use Rattle.civl_firing.specs.declared.store.Store.{Store}
use Rattle.civl_conditions.specs.footprints.Agreement.{exists_at}
use Rattle.civl_conditions.specs.Values.{Invoked}
use Rattle.civl_conditions.specs.Movers.{gate_of}
use Rattle.civl_clashes.specs.declared.violations.Effect.{Effect}
use Rattle.civl_clashes.specs.declared.violations.Order.{Order}
use Rattle.civl_clashes.specs.declared.violations.Difference.{Difference}
use Rattle.civl_clashes.specs.declared.violations.Exchanged.{Exchanged}
use Rattle.civl_clashes.specs.declared.violations.Exchanged.TheVariants as exchanged
use Rattle.civl_clashes.specs.declared.violations.Clash.{Clash}
use Rattle.civl_clashes.specs.Effects.{effect_of, order, order_of}
use Rattle.civl_clashes.specs.Differences.{differences}

-- an exchanged order that is made, where it differs at some place
abbrev pub ends : Order → List Difference → Option Exchanged
ends made [] = None
ends made (d ∷ ds) = Some (exchanged.Ends made (d ∷ ds))

-- y was made first, and x leaves this behind it, or waits
abbrev pub exchanged_behind : (Global → Bool) → Program → Order → Effect → Option Effect → Option Exchanged
exchanged_behind test program kept c None = Some (exchanged.WaitsBehind c)
exchanged_behind test program kept c (Some d) = ends (order c d) (differences test program kept (order c d))

-- y leaves this, or waits
abbrev pub exchanged_from : (Global → Bool) → Program → Invoked → Order → Option Effect → Option Exchanged
exchanged_from test program x kept None = Some exchanged.WaitsAtOnce
exchanged_from test program x kept (Some c) = exchanged_behind test program kept c (effect_of program c.store x)

-- what comes of y and then x, where it isn't what came of x and then y
abbrev pub exchanged_of : (Global → Bool) → Program → Store → Invoked → Invoked → Order → Option Exchanged
exchanged_of test program g x y kept = exchanged_from test program x kept (effect_of program g y)

abbrev pub clash_beside : (Global → Bool) → Program → Store → Invoked → Invoked → Order → Option Clash
clash_beside test program g x y kept = option_map (λ e. record { kept = kept; exchanged = e }) (exchanged_of test program g x y kept)

-- both gates are true, x is made and then y with a true gate; but y and then x doesn't come to the same
abbrev pub clash_of : Program → ℕ → Store → Invoked → Invoked → Option Clash
clash_of program step g x y =
    if gate_of program g x && gate_of program g y
    then option_and_then (clash_beside (exists_at (step - 1)) program g x y) (order_of program g x y)
    else None
