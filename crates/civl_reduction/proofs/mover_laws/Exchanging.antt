-- Two neighbouring steps of a layer's program, the other way round.
use Rattle.std.proofs.Common.{◌≡◌, ℕ, Bool, true, false, List, sym, ap, subst, Some, inl, inr, ◌⊎◌}
use Rattle.civl_bits.specs.declared.value.Value.{Value}
use Rattle.civl_tree.specs.declared.name.Name.{Name}
use Rattle.civl_tree.specs.declared.action.Action.{Action}
use Rattle.civl_tree.specs.declared.action.Mover.{Mover}
use Rattle.civl_firing.specs.declared.store.Store.{Store}
use Rattle.civl_firing.specs.Fired.{fires}
use Rattle.civl_meaning.specs.declared.config.Plain.{Plain}
use Rattle.civl_meaning.specs.declared.config.Running.{Running}
use Rattle.civl_meaning.specs.Step.{start}
use Rattle.civl_meaning.specs.Layers.{program_at}
use Rattle.civl_layers.proofs.PlainPrograms.{layered_is_plain}
use Rattle.civl_layers.specs.Movers.{is_left, is_right}
use Rattle.civl_reduction.specs.interleavings.Threads as threads
use Rattle.civl_meaning.specs.Change.{Doing, Calls, doing}
use Rattle.civl_reduction.specs.exchanges.Exchange.{CallsSwap, SpawnsNone}
use Rattle.civl_reduction.specs.exchanges.Interleavings.{Call, whole, as_config}
use Rattle.civl_reduction.proofs.exchanges.Exchanging.{steps_exchange}
use Rattle.civl_reduction.proofs.permissions.Staying.{run_kept}
use Rattle.civl_reduction.proofs.permissions.Reaching.{are_writable, start_kept}
use Rattle.civl_reduction.specs.mover_laws.Movers.{Meet}
use Rattle.civl_reduction.specs.mover_laws.Neighbours.{MovesAs, NeighboursExchange}
use Rattle.civl_reduction.proofs.mover_laws.Moving.{right_movers_move, left_movers_move}
use Rattle.civl_reduction.proofs.mover_laws.Instance.{Apart, meet, invoked}
use Rattle.civl_reduction.proofs.mover_laws.Configurations.{Holds, kept, are_parted}

no_spawn : (test : Mover → Bool) (D : Doing) → MovesAs test D → SpawnsNone D
no_spawn test D h thread place e = subst (MovesAs test) e h

mover_is : (test : Mover → Bool) (D : Doing) (names : List Name) (locals : List Value) (results : List Name) (next : ℕ) (action : Action) (args : List Value) → MovesAs test D → D ≡ Calls names locals results next action args → test action.mover ≡ true
mover_is test D names locals results next action args h e = subst (MovesAs test) e h

pub neighbours_exchange : NeighboursExchange
neighbours_exchange program layer store moves c d e m n r q sound fit runs mv nv w there also moving a b =
    steps_exchange plain c d e m n r q mv nv w there also calls (quiet moving) a b
  where
    plain : Plain
    plain = program_at program layer

    nowhere : Running → Bool
    nowhere x = false

    quiet : MovesAs is_right (doing (program_at program layer) r) ⊎ MovesAs is_left (doing (program_at program layer) q) → SpawnsNone (doing (program_at program layer) r) ⊎ SpawnsNone (doing (program_at program layer) q)
    quiet (inl h) = inl (no_spawn is_right (doing (program_at program layer) r) h)
    quiet (inr h) = inr (no_spawn is_left (doing (program_at program layer) q) h)

    held : Holds program layer sound.written sound.layered sound.linear sound.roots sound.within sound.permissions store sound.initial (λ x. false) (as_config c)
    held =
        run_kept (program_at program layer) (layered_is_plain program sound.layered layer) sound.linear (are_writable program sound.written)
        (kept program layer sound.written sound.layered sound.linear sound.roots sound.within sound.permissions store sound.initial (λ x. false))
        moves (start (program_at program layer) store) c fit runs (start_kept program layer store sound.layered sound.initial)

    stand_apart : (x y : Call) (f g : List Value → Running) → whole r (doing (program_at program layer) r) ≡ threads.Calls x f → whole q (doing (program_at program layer) q) ≡ threads.Calls y g → Apart program layer c.store x y
    stand_apart x y f g i j = (are_parted program layer sound.written sound.layered sound.linear sound.roots sound.within sound.permissions store sound.initial (λ x. false)).apart (as_config c) m.thread n.thread r q x y f g held w there also i j

    calls : CallsSwap (program_at program layer) c.store (doing (program_at program layer) r) m.choices (doing (program_at program layer) q) n.choices
    calls names others locals values results targets next after x y ins args i j middle end outs gives gx gy fx fy first gate second =
        by_side moving
      where
        apart_so : Apart program layer c.store (x, ins) (y, args)
        apart_so = stand_apart (x, ins) (y, args) _ _ (ap (whole r) i) (ap (whole q) j)

        met : Meet program layer c.store (invoked (x, ins) m.choices) (invoked (y, args) n.choices)
        met = meet (program_at program layer) layer sound.layered sound.movers store (λ z. false) c.store (x, ins) (y, args) (m.choices, mv) (n.choices, nv) apart_so fx fy

        by_side : MovesAs is_right (doing (program_at program layer) r) ⊎ MovesAs is_left (doing (program_at program layer) q) → (begun : Store) × (fires program.globals c.store y args n.choices ≡ Some (begun, gives)) × (fires program.globals begun x ins m.choices ≡ Some (end, outs))
        by_side (inl h) = (right_movers_move program layer c.store (invoked (x, ins) m.choices) (invoked (y, args) n.choices) sound.layered sound.movers met (mover_is is_right (doing (program_at program layer) r) names locals results next x ins h i)).swaps middle end outs gives gx gy fx fy first gate second
        by_side (inr h) = (left_movers_move program layer c.store (invoked (y, args) n.choices) (invoked (x, ins) m.choices) sound.layered sound.movers turned (mover_is is_left (doing (program_at program layer) q) others values targets after y args h j)).swaps middle end outs gives gx gy fx fy first gate second
          where
            turned : Meet program layer c.store (invoked (y, args) n.choices) (invoked (x, ins) m.choices)
            turned = meet (program_at program layer) layer sound.layered sound.movers store (λ z. false) c.store (y, args) (x, ins) (n.choices, nv) (m.choices, mv) back fy fx
              where
                back : Apart program layer c.store (y, args) (x, ins)
                back = (are_parted program layer sound.written sound.layered sound.linear sound.roots sound.within sound.permissions store sound.initial (λ z. false)).apart (as_config c) n.thread m.thread q r (y, args) (x, ins) _ _ held (λ v. w (sym v)) also there (ap (whole q) j) (ap (whole r) i)
