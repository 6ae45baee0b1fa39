-- When values violate a condition on actions (movers: Lipton 1975; gated atomic actions: CAV 2015; linear permissions: CAV 2018).
use Rattle.std.specs.Prelude.{ℕ, ◌-◌, Bool, false, not, ◌&&◌, nat_eq, if◌then◌else◌, List, ◌++◌, Option}
use Rattle.std.specs.Option.{option_map_or}
use Rattle.civl_bits.specs.declared.value.Value.{Value}
use Rattle.civl_tree.specs.declared.program.Program.{Program}
use Rattle.civl_firing.specs.declared.store.Store.{Store}
use Rattle.civl_firing.specs.Fired.{gate_holds, guard_holds, fires, offers}
use Rattle.civl_meaning.specs.Permissions.{pairwise_disjoint, of_params}
use Rattle.civl_linear.specs.Modes.{is_lent}
use Rattle.civl_conditions.specs.footprints.Agreement.{exists_at}
use Rattle.civl_conditions.specs.Values.{Invoked, same_values, same_stores}
use Rattle.civl_conditions.specs.Permissions.{in_store, of_inputs, of_modes, included}

-- there is a value, and it passes the test
abbrev pub on_some : {A : Type 0} → Option A → (A → Bool) → Bool
on_some o test = option_map_or test o false

abbrev pub gate_of : Program → Store → Invoked → Bool
gate_of program g x = gate_holds program.globals g x.action x.inputs

-- the store and the outputs, where the guard holds
abbrev pub fires_of : Program → Store → Invoked → Option (Store × List Value)
fires_of program g x = fires program.globals g x.action x.inputs x.chosen

-- the linear inputs of both and the linear globals are pairwise disjoint
abbrev pub apart : Program → Store → Invoked → Invoked → Bool
apart program g x y = pairwise_disjoint (in_store program g ++ (of_inputs x ++ of_inputs y))

-- K2: what goes in is disjoint, the gate holds and x fires; but what comes out isn't disjoint, or wasn't all among what went in
abbrev pub loses : Program → Store → Invoked → Bool
loses program g x =
    pairwise_disjoint (in_store program g ++ of_inputs x)
    && (gate_of program g x
    && on_some (fires_of program g x) (λ a.
    let outgoing = in_store program a.0 ++ (of_modes is_lent x.action.params x.inputs ++ of_params x.action.outs a.1) in
    not (pairwise_disjoint outgoing && included outgoing (in_store program g ++ of_inputs x))))

-- K3 and K5: both gates are true, x fires and then y with a true gate; but y and then x, with the same choices, don't come to the
-- same end and the same outputs
abbrev pub clashes : Program → ℕ → Store → Invoked → Invoked → Bool
clashes program step g x y =
    gate_of program g x
    && (gate_of program g y
    && on_some (fires_of program g x) (λ a.
    gate_of program a.0 y
    && on_some (fires_of program a.0 y) (λ b.
    not (on_some (fires_of program g y) (λ c.
    on_some (fires_of program c.0 x) (λ d.
    same_stores (exists_at (step - 1)) program b.0 d.0 && (same_values a.1 d.1 && same_values b.1 c.1)))))))

-- K4 and K6: both gates are true and x fires; but then y's gate is false
abbrev pub spoils : Program → Store → Invoked → Invoked → Bool
spoils program g x y = gate_of program g x && (gate_of program g y && on_some (fires_of program g x) (λ a. not (gate_of program a.0 y)))

-- K7: x's gate is true, y's is false and x fires; but then y's gate is true
abbrev pub reveals : Program → Store → Invoked → Invoked → Bool
reveals program g x y = gate_of program g x && (not (gate_of program g y) && on_some (fires_of program g x) (λ a. gate_of program a.0 y))

-- K8: the gate holds, but with the offered choices the guard doesn't
abbrev pub waits : Program → Store → Invoked → Bool
waits program g x = gate_of program g x && not (guard_holds program.globals g x.action x.inputs (offers program.globals g x.action x.inputs))

-- K3 to K7 by their numbers
abbrev pub pair_fails : Program → ℕ → ℕ → Store → Invoked → Invoked → Bool
pair_fails program number step g x y =
    apart program g x y
    && (if nat_eq number 3 then clashes program step g x y
    else if nat_eq number 4 then spoils program g x y
    else if nat_eq number 5 then clashes program step g y x
    else if nat_eq number 6 then spoils program g y x
    else nat_eq number 7 && reveals program g x y)
