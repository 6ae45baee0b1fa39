-- The globals and the outputs in which two orders of two actions differ.
use Rattle.std.specs.Prelude.{ℕ, ◌+◌, Bool, if◌then◌else◌, List, [], ◌∷◌, ◌++◌}
use Rattle.civl_bits.specs.Value.{same_value}
use Rattle.civl_bits.specs.declared.value.Value.{Value}
use Rattle.civl_tree.specs.declared.program.Global.{Global}
use Rattle.civl_tree.specs.declared.program.Program.{Program}
use Rattle.civl_clashes.specs.declared.violations.Which.{Which}
use Rattle.civl_clashes.specs.declared.violations.Which.TheVariants.{First, Second}
use Rattle.civl_clashes.specs.declared.violations.Place.{Place}
use Rattle.civl_clashes.specs.declared.violations.Place.TheVariants as place
use Rattle.civl_clashes.specs.declared.violations.Difference.{Difference}
use Rattle.civl_clashes.specs.declared.violations.Order.{Order}

-- these two values of a place, if they differ
abbrev pub difference : Place → Value → Value → List Difference
difference p v w = if same_value v w then [] else record { place = p; kept = v; exchanged = w } ∷ []

-- the globals that pass the test and have two values; the first of these globals has this number
abbrev pub globals_differ : (Global → Bool) → ℕ → List Global → List Value → List Value → List Difference
globals_differ test at [] vs ws = []
globals_differ test at (g ∷ gs) [] ws = []
globals_differ test at (g ∷ gs) (v ∷ vs) [] = []
globals_differ test at (g ∷ gs) (v ∷ vs) (w ∷ ws) = (if test g then difference (place.Global at) v w else [])
    ++ globals_differ test (at + 1) gs vs ws

-- the outputs that have two values; the first of these outputs has this place
abbrev pub outs_differ : Which → ℕ → List Value → List Value → List Difference
outs_differ which at [] ws = []
outs_differ which at (v ∷ vs) [] = []
outs_differ which at (v ∷ vs) (w ∷ ws) = difference (place.Output which at) v w ++ outs_differ which (at + 1) vs ws

-- where the end of the first and then the second action differs from that of the second and then the first: at the globals that
-- pass the test, the first one's outputs, and the second one's
abbrev pub differences : (Global → Bool) → Program → Order → Order → List Difference
differences test program kept exchanged =
    globals_differ test 0 program.globals kept.second.store.values exchanged.second.store.values
    ++ (outs_differ First 0 kept.first.outs exchanged.second.outs ++ outs_differ Second 0 kept.second.outs exchanged.first.outs)
