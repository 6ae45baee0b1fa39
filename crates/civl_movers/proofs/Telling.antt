-- What conditions on actions come to, as tests that are all true.
use Rattle.std.proofs.Common.{◌≡◌, ◌∙◌, ℕ, ◌-◌, Bool, true, ◌&&◌, not, List, sym, ap}
use Rattle.std.proofs.Math.Bool.{and-true}
use Rattle.civl_bits.specs.declared.value.Value.{Value}
use Rattle.civl_tree.specs.declared.action.Action.{Action}
use Rattle.civl_tree.specs.declared.program.Program.{Program}
use Rattle.civl_firing.specs.declared.store.Store.{Store}
use Rattle.civl_firing.specs.Fired.{gate_holds, guard_holds, store_after, outs_after, fires}
use Rattle.civl_conditions.specs.Movers.{on_some, spoils, reveals, clashes}
use Rattle.civl_conditions.specs.Values.{same_values, same_stores}
use Rattle.civl_conditions.specs.footprints.Agreement.{exists_at}
use Rattle.civl_states.proofs.Firing.{fires_is}
use Rattle.civl_movers.specs.Runs.{invoke}
use Rattle.civl_movers.specs.inner.Ends.{end_alike}

pub spoils_is : (program : Program) (g : Store) (a b : Action) (i c j d : List Value)
    → (gate_holds program.globals g a i && (gate_holds program.globals g b j && (guard_holds program.globals g a i c && (not (gate_holds program.globals (store_after program.globals g a i c) b j) && true))))
    ≡ spoils program g (invoke a i c) (invoke b j d)
spoils_is program g a b i c j d =
    ap (λ (t : Bool). gate_holds program.globals g a i && (gate_holds program.globals g b j && t))
    (ap (λ (t : Bool). guard_holds program.globals g a i c && t) (and-true (not (gate_holds program.globals (store_after program.globals g a i c) b j)))
    ∙ sym (fires_is program g a i c (λ s. not (gate_holds program.globals s.0 b j))))

pub reveals_is : (program : Program) (g : Store) (a b : Action) (i c j d : List Value)
    → (gate_holds program.globals g a i && (not (gate_holds program.globals g b j) && (guard_holds program.globals g a i c && (gate_holds program.globals (store_after program.globals g a i c) b j && true))))
    ≡ reveals program g (invoke a i c) (invoke b j d)
reveals_is program g a b i c j d =
    ap (λ (t : Bool). gate_holds program.globals g a i && (not (gate_holds program.globals g b j) && t))
    (ap (λ (t : Bool). guard_holds program.globals g a i c && t) (and-true (gate_holds program.globals (store_after program.globals g a i c) b j))
    ∙ sym (fires_is program g a i c (λ s. gate_holds program.globals s.0 b j)))

pub clashes_is : (program : Program) (step : ℕ) (g : Store) (a b : Action) (i c j d : List Value)
    → (gate_holds program.globals g a i && (gate_holds program.globals g b j && (guard_holds program.globals g a i c
    && (gate_holds program.globals (store_after program.globals g a i c) b j && (guard_holds program.globals (store_after program.globals g a i c) b j d
    && (not (end_alike program (step - 1) g a i c b j d) && true))))))
    ≡ clashes program step g (invoke a i c) (invoke b j d)
clashes_is program step g a b i c j d =
    let gs = program.globals in
    let s = store_after gs g a i c in
    let t = store_after gs g b j d in
    let same = same_stores (exists_at (step - 1)) program (store_after gs s b j d) (store_after gs t a i c) && (same_values (outs_after gs g a i c) (outs_after gs t a i c) && same_values (outs_after gs s b j d) (outs_after gs g b j d)) in
    let alike : on_some (fires gs g b j d) (λ z. on_some (fires gs z.0 a i c) (λ w. same_stores (exists_at (step - 1)) program (store_after gs s b j d) w.0 && (same_values (outs_after gs g a i c) w.1 && same_values (outs_after gs s b j d) z.1))) ≡ end_alike program (step - 1) g a i c b j d =
    fires_is program g b j d (λ z. on_some (fires gs z.0 a i c) (λ w. same_stores (exists_at (step - 1)) program (store_after gs s b j d) w.0 && (same_values (outs_after gs g a i c) w.1 && same_values (outs_after gs s b j d) z.1)))
    ∙ ap (λ (x : Bool). guard_holds gs g b j d && x) (fires_is program t a i c (λ w. same_stores (exists_at (step - 1)) program (store_after gs s b j d) w.0 && (same_values (outs_after gs g a i c) w.1 && same_values (outs_after gs s b j d) (outs_after gs g b j d)))) in
    ap (λ (x : Bool). gate_holds gs g a i && (gate_holds gs g b j && x))
    (ap (λ (x : Bool). guard_holds gs g a i c && (gate_holds gs s b j && (guard_holds gs s b j d && x))) (and-true (not (end_alike program (step - 1) g a i c b j d)) ∙ ap not (sym alike))
    ∙ sym (fires_is program g a i c (λ y. gate_holds gs y.0 b j && on_some (fires gs y.0 b j d) (λ u. not (on_some (fires gs g b j d) (λ z. on_some (fires gs z.0 a i c) (λ w. same_stores (exists_at (step - 1)) program u.0 w.0 && (same_values y.1 w.1 && same_values u.1 z.1)))))) ∙ ap (λ (x : Bool). guard_holds gs g a i c && (gate_holds gs s b j && x)) (fires_is program s b j d (λ u. not (on_some (fires gs g b j d) (λ z. on_some (fires gs z.0 a i c) (λ w. same_stores (exists_at (step - 1)) program u.0 w.0 && (same_values (outs_after gs g a i c) w.1 && same_values u.1 z.1))))))))
