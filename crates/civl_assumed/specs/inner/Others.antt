-- Another thread's frame, as the code has it, and whether the invariant of its yield is lost.
use Rattle.std.specs.Prelude.{ℕ, Bool, false, not, ◌&&◌, List}
use Rattle.civl_bits.specs.declared.value.Value.{Value}
use Rattle.civl_tree.specs.declared.program.Proc.{Proc}
use Rattle.civl_tree.specs.declared.program.Program.{Program}
use Rattle.civl_firing.specs.declared.store.Store.{Store}
use Rattle.civl_layers.specs.declared.cut.Cut.{Cut}
use Rattle.civl_conditions.specs.Steps.{of_cut}
use Rattle.civl_conditions.specs.Targets.{Other as Frame, other_of, yield_holds}
use Rattle.civl_assumed.specs.declared.targets.Other.{Other}

abbrev pub meant : Other → Frame
meant other = record { locals = other.locals.now; done = other.done }

-- it held before, of the frame whose values stand from this place on, and doesn't after
abbrev pub yield_lost_at : Program → List Value → ℕ → Store → Store → Proc → Cut → Bool
yield_lost_at program values at before after proc cut =
    yield_holds program proc cut (other_of proc values at) before && not (yield_holds program proc cut (other_of proc values at) after)

abbrev pub yield_lost : Program → ℕ → ℕ → List Value → ℕ → Store → Store → Bool
yield_lost program number cut values at before after = of_cut program number cut false (yield_lost_at program values at before after)
