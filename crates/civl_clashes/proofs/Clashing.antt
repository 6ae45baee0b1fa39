-- A clash, a spoiled gate, one that becomes true, and a wait are told exactly where values violate their conditions.
use Rattle.std.proofs.Common.{◌≡◌, ◌∙◌, ◌-◌, Bool, true, false, not, ◌&&◌, List, refl, ap}
use Rattle.std.specs.Prelude.{Option, None, Some, is_some, option_map, option_and_then, if◌then◌else◌}
use Rattle.civl_bits.specs.declared.value.Value.{Value}
use Rattle.civl_tree.specs.declared.program.Global.{Global}
use Rattle.civl_tree.specs.declared.program.Program.{Program}
use Rattle.civl_firing.specs.declared.store.Store.{Store}
use Rattle.civl_conditions.specs.footprints.Agreement.{exists_at}
use Rattle.civl_conditions.specs.Values.{Invoked, same_values, same_stores}
use Rattle.civl_conditions.specs.Movers.{on_some, gate_of, fires_of, waits}
use Rattle.civl_clashes.specs.declared.violations.Effect.{Effect}
use Rattle.civl_clashes.specs.declared.violations.Order.{Order}
use Rattle.civl_clashes.specs.Differences.{differences}
use Rattle.civl_clashes.specs.Effects.{effect, order, order_behind}
use Rattle.civl_clashes.specs.Clashes.{exchanged_behind, exchanged_from, exchanged_of, clash_beside}
use Rattle.civl_clashes.specs.Gates.{gate_false_in, gate_true_in, offered}
use Rattle.civl_clashes.specs.Laws.{ClashesAreTold, SpoilsAreTold, RevealsAreTold, WaitsAreTold}
use Rattle.civl_clashes.proofs.Lengths.{same_length}
use Rattle.civl_clashes.proofs.Telling.{all_same, ends_told}

pub some_mapped : {A B : Type 0} (f : A → B) (o : Option A) → is_some (option_map f o) ≡ is_some o
some_mapped f None = refl
some_mapped f (Some a) = refl

-- a value under two tests
both_then : {A : Type 0} (s t : Bool) (o : Option A) (b : Bool) → is_some o ≡ b → is_some (if◌then◌else◌ {A = Option A} (s && t) o None) ≡ s && (t && b)
both_then true true o b e = e
both_then true false o b e = refl
both_then false t o b e = refl

-- ---- K3 and K5

module _ (test : Global → Bool) (program : Program) (g : Store) (x y : Invoked) where
  abbrev same_ends : Store × List Value → Store × List Value → Store × List Value → Store × List Value → Bool
  same_ends a b c d = same_stores test program b.0 d.0 && (same_values a.1 d.1 && same_values b.1 c.1)

  module _ (a b : Store × List Value) (ea : fires_of program g x ≡ Some a) (eb : fires_of program a.0 y ≡ Some b) where
    abbrev kept : Order
    kept = order (effect a) (effect b)

    behind_told : (c : Store × List Value) → fires_of program g y ≡ Some c → (o : Option (Store × List Value)) → fires_of program c.0 x ≡ o
        → is_some (exchanged_behind test program kept (effect c) (option_map effect o)) ≡ not (on_some o (λ d. same_ends a b c d))
    behind_told c ec None ed = refl
    behind_told c ec (Some d) ed =
        ends_told (order (effect c) (effect d)) (differences test program kept (order (effect c) (effect d)))
        ∙ ap not (all_same test program a b c d (same_length program g c.0 x a d ea ed) (same_length program a.0 g y b c eb ec))

    from_told : (o : Option (Store × List Value)) → fires_of program g y ≡ o
        → is_some (exchanged_from test program x kept (option_map effect o)) ≡ not (on_some o (λ c. on_some (fires_of program c.0 x) (λ d. same_ends a b c d)))
    from_told None ec = refl
    from_told (Some c) ec = behind_told c ec (fires_of program c.0 x) refl

    beside_told : is_some (clash_beside test program g x y kept) ≡ not (on_some (fires_of program g y) (λ c. on_some (fires_of program c.0 x) (λ d. same_ends a b c d)))
    beside_told = some_mapped _ (exchanged_of test program g x y kept) ∙ from_told (fires_of program g y) refl

  abbrev exchanged_fails : Store × List Value → Store × List Value → Bool
  exchanged_fails a b = not (on_some (fires_of program g y) (λ c. on_some (fires_of program c.0 x) (λ d. same_ends a b c d)))

  second_told : (a : Store × List Value) → fires_of program g x ≡ Some a → (gate : Bool) (o : Option (Store × List Value)) → fires_of program a.0 y ≡ o
      → is_some (option_and_then (clash_beside test program g x y) (if◌then◌else◌ {A = Option Order} gate (option_map (order (effect a)) (option_map effect o)) None)) ≡ gate && on_some o (λ b. exchanged_fails a b)
  second_told a ea false o eb = refl
  second_told a ea true None eb = refl
  second_told a ea true (Some b) eb = beside_told a b ea eb

  first_told : (o : Option (Store × List Value)) → fires_of program g x ≡ o
      → is_some (option_and_then (clash_beside test program g x y) (option_and_then (order_behind program y) (option_map effect o)))
      ≡ on_some o (λ a. gate_of program a.0 y && on_some (fires_of program a.0 y) (λ b. exchanged_fails a b))
  first_told None ea = refl
  first_told (Some a) ea = second_told a ea (gate_of program a.0 y) (fires_of program a.0 y) refl

pub clashes_told : ClashesAreTold
clashes_told program step g x y =
    both_then (gate_of program g x) (gate_of program g y) _ _ (first_told (exists_at (step - 1)) program g x y (fires_of program g x) refl)

-- ---- K4 and K6, K7

module _ (program : Program) (y : Invoked) where
  false_told : (gate : Bool) (a : Effect) → is_some (if◌then◌else◌ {A = Option Effect} gate None (Some a)) ≡ not gate
  false_told true a = refl
  false_told false a = refl

  true_told : (gate : Bool) (a : Effect) → is_some (if◌then◌else◌ {A = Option Effect} gate (Some a) None) ≡ gate
  true_told true a = refl
  true_told false a = refl

  spoil_told : (o : Option (Store × List Value)) → is_some (option_and_then (gate_false_in program y) (option_map effect o)) ≡ on_some o (λ a. not (gate_of program a.0 y))
  spoil_told None = refl
  spoil_told (Some a) = false_told (gate_of program a.0 y) (effect a)

  reveal_told : (o : Option (Store × List Value)) → is_some (option_and_then (gate_true_in program y) (option_map effect o)) ≡ on_some o (λ a. gate_of program a.0 y)
  reveal_told None = refl
  reveal_told (Some a) = true_told (gate_of program a.0 y) (effect a)

pub spoils_told : SpoilsAreTold
spoils_told program g x y = both_then (gate_of program g x) (gate_of program g y) _ _ (spoil_told program y (fires_of program g x))

pub reveals_told : RevealsAreTold
reveals_told program g x y = both_then (gate_of program g x) (not (gate_of program g y)) _ _ (reveal_told program y (fires_of program g x))

-- ---- K8

one_then : {A : Type 0} (b : Bool) (a : A) → is_some (if◌then◌else◌ {A = Option A} b (Some a) None) ≡ b
one_then true a = refl
one_then false a = refl

pub waits_told : WaitsAreTold
waits_told program g x = one_then (waits program g x) (offered program g x)
