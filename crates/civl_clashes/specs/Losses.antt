-- The permission that an action doubles or makes (linear permissions: Kragl, Qadeer, CAV 2018).
use Rattle.std.specs.Prelude.{ℕ, ◌+◌, ◌&&◌, nat_eq, if◌then◌else◌, List, [], ◌∷◌}
use Rattle.std.specs.Prelude.{◌++◌, flat_map, Option, None, Some, option_map, option_and_then}
use Rattle.std.specs.List.{list_any}
use Rattle.std.specs.Option.{option_or}
use Rattle.civl_bits.specs.declared.value.Value.{Value}
use Rattle.civl_tree.specs.declared.action.Param.{Param}
use Rattle.civl_tree.specs.declared.program.Global.{Global}
use Rattle.civl_tree.specs.declared.program.Program.{Program}
use Rattle.civl_tree.specs.rules.Width.{is_linear}
use Rattle.civl_firing.specs.declared.store.Store.{Store}
use Rattle.civl_meaning.specs.Permissions.{permissions_of_word, permissions_of_global, pairwise_disjoint}
use Rattle.civl_linear.specs.Modes.{is_lent}
use Rattle.civl_conditions.specs.Values.{Invoked}
use Rattle.civl_conditions.specs.Permissions.{in_store, of_inputs}
use Rattle.civl_conditions.specs.Movers.{gate_of}
use Rattle.civl_clashes.specs.declared.violations.Carrier.{Carrier}
use Rattle.civl_clashes.specs.declared.violations.Carrier.TheVariants as carrier
use Rattle.civl_clashes.specs.declared.violations.Carried.{Carried}
use Rattle.civl_clashes.specs.declared.violations.Loss.{Loss}
use Rattle.civl_clashes.specs.declared.violations.Loss.TheVariants.{Twice, Nowhere}
use Rattle.civl_clashes.specs.declared.violations.Effect.{Effect}
use Rattle.civl_clashes.specs.Effects.{effect_of}

-- ---- what comes out

-- what each linear global carries; the first of these globals has this number
abbrev pub by_globals : ℕ → List Global → List Value → List Carried
by_globals at [] values = []
by_globals at (g ∷ gs) [] = []
by_globals at (g ∷ gs) (v ∷ vs) =
    (if g.linear then record { carrier = carrier.Global at; permissions = permissions_of_global v } ∷ [] else [])
    ++ by_globals (at + 1) gs vs

-- what each lent parameter carries; the first of these parameters has this place
abbrev pub by_params : ℕ → List Param → List Value → List Carried
by_params at [] values = []
by_params at (p ∷ ps) [] = []
by_params at (p ∷ ps) (v ∷ vs) =
    (if is_lent p.mode then record { carrier = carrier.Param at; permissions = permissions_of_word v } ∷ [] else [])
    ++ by_params (at + 1) ps vs

-- what each linear output carries; the first of these outputs has this place
abbrev pub by_outs : ℕ → List Param → List Value → List Carried
by_outs at [] values = []
by_outs at (p ∷ ps) [] = []
by_outs at (p ∷ ps) (v ∷ vs) =
    (if is_linear p.mode then record { carrier = carrier.Out at; permissions = permissions_of_word v } ∷ [] else [])
    ++ by_outs (at + 1) ps vs

-- what comes out of an action that leaves this
abbrev pub carried_out : Program → Invoked → Effect → List Carried
carried_out program x a = by_globals 0 program.globals a.store.values
    ++ (by_params 0 x.action.params x.inputs ++ by_outs 0 x.action.outs a.outs)

-- ---- a permission that comes out twice

-- the first of these carriers that carries the permission
abbrev pub carrier_of : ℕ → List Carried → Option Carrier
carrier_of p [] = None
carrier_of p (c ∷ cs) = if list_any (nat_eq p) c.permissions then Some c.carrier else carrier_of p cs

-- the first of these permissions of a carrier that one of those carries too
abbrev pub shared : Carrier → List ℕ → List Carried → Option Loss
shared carrier [] cs = None
shared carrier (p ∷ ps) cs = option_or (option_map (Twice p carrier) (carrier_of p cs)) (shared carrier ps cs)

-- the first permission that two of these carry
abbrev pub twice : List Carried → Option Loss
twice [] = None
twice (c ∷ cs) = option_or (shared c.carrier c.permissions cs) (twice cs)

-- ---- a permission from nowhere

-- the first of these permissions of a carrier that isn't among those that go in
abbrev pub made : Carrier → List ℕ → List ℕ → Option Loss
made carrier [] incoming = None
made carrier (p ∷ ps) incoming = if list_any (nat_eq p) incoming then made carrier ps incoming else Some (Nowhere p carrier)

-- the first permission of these that isn't among those that go in
abbrev pub nowhere : List Carried → List ℕ → Option Loss
nowhere [] incoming = None
nowhere (c ∷ cs) incoming = option_or (made c.carrier c.permissions incoming) (nowhere cs incoming)

-- ---- K2

-- the first permission that comes out twice; where none does, the first that didn't go in
abbrev pub loss_among : List Carried → List ℕ → Option Loss
loss_among out incoming = option_or (twice out) (nowhere out incoming)

-- in what an action leaves, where these permissions went in
abbrev pub loss_in : Program → Invoked → List (List ℕ) → Effect → Option (Effect × Loss)
loss_in program x incoming a = option_map (λ l. (a, l)) (loss_among (carried_out program x a) (flat_map (λ ps. ps) incoming))

-- what goes in is disjoint, the gate is true and x is made; but a permission comes out twice or from nowhere
abbrev pub loss_of : Program → Store → Invoked → Option (Effect × Loss)
loss_of program g x =
    if gate_of program g x && pairwise_disjoint (in_store program g ++ of_inputs x)
    then option_and_then (loss_in program x (in_store program g ++ of_inputs x)) (effect_of program g x)
    else None
