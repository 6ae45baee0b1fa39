-- The actions of a layer are movers of the program's threads, as the reduction asks.
use Rattle.std.proofs.Common.{◌≡◌, ℕ, Bool, true, List, [], map, Some, slice_get}
use Rattle.std.specs.Prelude.{IsTrue}
use Rattle.std.proofs.lemmas.List.Elements.{All-nil}
use Rattle.civl_bits.specs.Value.{IsValue}
use Rattle.civl_bits.specs.declared.value.Value.{Value}
use Rattle.civl_firing.specs.values.Values.{HaveSorts}
use Rattle.civl_tree.specs.declared.program.Program.{Program}
use Rattle.civl_tree.specs.rules.Uses.{param_sorts}
use Rattle.civl_firing.specs.declared.store.Store.{Store}
use Rattle.civl_firing.specs.Stores.{IsStore}
use Rattle.civl_firing.specs.Fired.{choices_fit, offers}
use Rattle.civl_meaning.specs.declared.config.Plain.{Plain}
use Rattle.civl_meaning.specs.declared.config.Running.{Running}
use Rattle.civl_layers.specs.Ranges.{exists_in}
use Rattle.civl_layers.specs.Names.{action_range}
use Rattle.civl_layers.specs.Layered.{IsLayered}
use Rattle.civl_soundness.proofs.Firing.{offers_are_sorted}
use Rattle.civl_layers.specs.Movers.{is_left, is_right}
use Rattle.civl_conditions.specs.Values.{Invoked}
use Rattle.civl_conditions.specs.Movers.{apart}
use Rattle.civl_reduction.specs.interleavings.Threads.{Movers}
use Rattle.civl_reduction.specs.exchanges.Interleavings.{Chosen, Call, program_threads}
use Rattle.civl_reduction.specs.mover_laws.Movers.{MoversHold, IsAt, Meet}
use Rattle.civl_reduction.proofs.mover_laws.Moving.{right_movers_move, left_movers_move, left_movers_fire}

-- the call is of a right mover, or of a left one
abbrev pub Right : Call → Type 0
Right x = IsTrue (is_right x.0.mover)

abbrev pub Left : Call → Type 0
Left x = IsTrue (is_left x.0.mover)

-- a call of an action of this layer with inputs of its sorts, in a store of the program
pub record Met (program : Program) (layer : ℕ) (store : Store) (x : Call) : Type 0 where
  pub sorted : IsStore program.globals store
  pub number : ℕ
  pub action : slice_get program.actions number ≡ Some x.0
  pub exists : IsTrue (exists_in layer (action_range x.0))
  pub inputs : HaveSorts x.1 (param_sorts x.0.params)

-- with any choices
abbrev pub invoked : Call → List Value → Invoked
invoked x chosen = record { action = x.0; inputs = x.1; chosen = chosen }

-- two such, whose linear inputs and the linear globals carry no permission twice
pub record Apart (program : Program) (layer : ℕ) (store : Store) (x y : Call) : Type 0 where
  pub one : Met program layer store x
  pub other : Met program layer store y
  pub disjoint : IsTrue (apart program store (invoked x []) (invoked y []))

module _ (plain : Plain) (layer : ℕ) (src : IsLayered plain.program) (h : MoversHold plain.program layer) (store : Store) (inside : Running → Bool) where
  abbrev program : Program
  program = plain.program

  at : (g : Store) (x : Call) (k : Chosen) → Met program layer g x → choices_fit x.0 k.0 ≡ true → IsAt program layer (invoked x k.0)
  at g x k m e = record { number = m.number; invoked = record { action = m.action; inputs = m.inputs; chosen = record { fit = k.1; are = e } }; exists = m.exists }

  pub meet : (g : Store) (x y : Call) (k j : Chosen) → Apart program layer g x y → choices_fit x.0 k.0 ≡ true → choices_fit y.0 j.0 ≡ true → Meet program layer g (invoked x k.0) (invoked y j.0)
  meet g x y k j a e f = record { sorted = a.one.sorted; first = at g x k a.one e; second = at g y j a.other f; disjoint = a.disjoint }

  -- the choices of an action that is offered some
  offered : (g : Store) (x : Call) → Met program layer g x → HaveSorts (offers program.globals g x.0 x.1) (map (λ c. c.sort) x.0.choices)
  offered g x m = offers_are_sorted program x.0 g x.1 (record { rules = src.rules; place = m.number; there = m.action; store_fits = m.sorted; inputs_fit = m.inputs })

  offered_to : (g : Store) (x : Call) → Met program layer g x → Chosen
  offered_to g x m = (offers program.globals g x.0 x.1, (offered g x m).fit)

  fits_offered : (g : Store) (x : Call) (m : Met program layer g x) → choices_fit x.0 (offered_to g x m).0 ≡ true
  unfolding offered_to
  fits_offered g x m = (offered g x m).are

  -- they stand for all that the reduction asks of actions
  pub are_movers : Movers Store Running Call Chosen (List Value) (program_threads plain store inside) Right Left (Met program layer) (Apart program layer)
  unfolding offered_to
  are_movers = record {
    idle = ([], All-nil IsValue);
    right_swaps = λ g x y k j r a m e o q gx gy fx fy first gate second. (right_movers_move program layer g (invoked x k.0) (invoked y j.0) src h (meet g x y k j a fx fy) r).swaps m e o q gx gy fx fy first gate second;
    right_keeps = λ g n x y k o r a gx gy fx first. (right_movers_move program layer g (invoked x k.0) (invoked y (offered_to g y a.other).0) src h (meet g x y k (offered_to g y a.other) a fx (fits_offered g y a.other)) r).keeps n o gx gy first;
    left_swaps = λ g x y k j l a m e o q gy gx fy fx first gate second. (left_movers_move program layer g (invoked x k.0) (invoked y j.0) src h (meet g x y k j a fx fy) l).swaps m e o q gy gx fy fx first gate second;
    left_kept = λ g n x y j o l a gx gy fy first. (left_movers_move program layer g (invoked x (offered_to g x a.one).0) (invoked y j.0) src h (meet g x y (offered_to g x a.one) j a (fits_offered g x a.one) fy) l).kept n o gy gx first;
    left_breaks = λ g n x y k o l a gx gy fx first. (left_movers_move program layer g (invoked x k.0) (invoked y (offered_to g y a.other).0) src h (meet g x y k (offered_to g y a.other) a fx (fits_offered g y a.other)) l).breaks n o gx gy first;
    left_fires = λ g x l m gate.
        let chosen = offered_to g x m in
        let f = left_movers_fire program layer g (invoked x chosen.0) src h m.sorted (record { number = m.number; invoked = record { action = m.action; inputs = m.inputs; chosen = offered g x m }; exists = m.exists }) l gate in
        (chosen, f.1, f.2, f.0, f.3);
  }
