-- A step of an open block's thread: at the head of a rank loop a path begins anew, and at the exit the block has ended.
use Rattle.std.proofs.Common.{◌≡◌, ◌≢◌, ℕ, ◌+◌, ◌≤◌, Bool, true, false, not, List, [], ◌++◌, length, Option, None, Some, slice_get, refl, sym, ap, ◌∙◌, subst, arith, inl, inr, ◌⊎◌}
use Rattle.std.specs.Prelude.{option_map, IsTrue, flat_map}
use Rattle.std.specs.Option.{option_map_or}
use Rattle.std.proofs.lemmas.Bool.{false≢true}
use Rattle.std.proofs.lemmas.Option.{same_Some, none-some, slice_get_past}
use Rattle.civl_bits.specs.declared.value.Value.{Value}
use Rattle.civl_tree.specs.declared.program.Proc.{Proc}
use Rattle.civl_tree.specs.declared.program.Program.{Program}
use Rattle.civl_tree.specs.declared.stmt.Stmt.{Stmt, out-Stmt}
use Rattle.civl_tree.specs.declared.stmt.Stmt.TheOpen as stmt
use Rattle.civl_tree.specs.Numbering.{sizes_of}
use Rattle.civl_tree.specs.rules.Names.{names_in_proc}
use Rattle.civl_firing.specs.declared.store.Store.{Store}
use Rattle.civl_meaning.specs.declared.config.Activation.{Activation}
use Rattle.civl_meaning.specs.declared.config.Move.{Move}
use Rattle.civl_meaning.specs.declared.config.State.{State}
use Rattle.civl_meaning.specs.declared.config.State.TheVariants.{Inside}
use Rattle.civl_meaning.specs.declared.config.Running.{Running}
use Rattle.civl_meaning.specs.declared.config.Config.{Config}
use Rattle.civl_meaning.specs.declared.config.Stepped.{Stepped}
use Rattle.civl_meaning.specs.declared.config.Stepped.TheVariants as answer
use Rattle.civl_meaning.specs.declared.config.Change.{Change}
use Rattle.civl_meaning.specs.declared.config.Change.TheVariants as change
use Rattle.civl_meaning.specs.Permissions.{pairwise_disjoint, of_globals}
use Rattle.civl_meaning.specs.Places.{Spot, spot_at}
use Rattle.civl_meaning.specs.Rest.{rest_at}
use Rattle.civl_meaning.specs.Change.{change_of, done_by, state_doing, proc_doing, spot_doing, caller_of, outs_in, returned}
use Rattle.civl_meaning.specs.Step.{thread_after, state_after, config_after, step_with, step_of}
use Rattle.civl_meaning.specs.Failing.{IsMove}
use Rattle.civl_meaning.specs.Layers.{program_at}
use Rattle.civl_meaning.specs.Config.{IsStack, StateIsStacked, moved_frame}
use Rattle.civl_meaning.proofs.Rests.{spot_of_rest}
use Rattle.civl_layers.specs.declared.cut.Cut.{Cut}
use Rattle.civl_layers.specs.declared.cut.CutKind.TheVariants as kind
use Rattle.civl_layers.specs.Cuts.{form_cut, cut_kind, proc_cuts}
use Rattle.civl_conditions.specs.paths.Paths.{Progress}
use Rattle.civl_conditions.specs.paths.Runs.{yield_before}
use Rattle.civl_conditions.specs.paths.Seen.{lower_course}
use Rattle.civl_conditions.specs.paths.Ends.{exit_of, cut_number, ends_block, is_rank_loop}
use Rattle.civl_conditions.specs.Permissions.{in_store, held_at, of_held}
use Rattle.civl_conditions.specs.Assumed.{owned}
use Rattle.civl_reduction.specs.permissions.Owned as permission
use Rattle.civl_reduction.proofs.permissions.Counting.{carriers, carriers_joined, counts_of, disjoint_by}
use Rattle.civl_reduction.proofs.permissions.Changing.{owns}
use Rattle.civl_reduction.proofs.permissions.Threads.{locals_count}
use Rattle.civl_reduction.proofs.permissions.Staying.{IsKept, one_own}
use Rattle.civl_reduction.specs.checked.Checked.{ActionsKeepPermissions, SpawnsAreInRoots}
use Rattle.civl_reduction.specs.blocks.Blocks.{layer_at_yield, framed_state}
use Rattle.civl_reduction.specs.open_blocks.Ends.{IsAssumed, Concludes}
use Rattle.civl_reduction.specs.open_blocks.Following.{layer_head, head_there, cut_ahead, led_here}
use Rattle.civl_reduction.proofs.open_blocks.Following.Leading.{led_stays}
use Rattle.civl_reduction.specs.open_blocks.Open.{IsTopmost, IsOpen, OpensInLoop, beginning, begun_again}
use Rattle.civl_conditions.specs.Invariants.{invariants_hold}
use Rattle.civl_reduction.proofs.open_blocks.Open.Going.{spot_stands, frame_sorted}
use Rattle.civl_reduction.proofs.open_blocks.Open.Opening.{blocks_open_in_loops}
use Rattle.civl_reduction.proofs.open_blocks.Open.Ending.{open_blocks_conclude, open_blocks_go_round}
use Rattle.civl_reduction.specs.blocks.Cuts.{frame_in, frame_at}
use Rattle.civl_reduction.specs.blocks.Shadow.{Shadowed, merged, seen, begun_with, after_frame}
use Rattle.civl_reduction.specs.staged.Pausing.{StandsAt}
use Rattle.civl_reduction.proofs.staged.Pausing.Cutting.{topmost, cut_there}
use Rattle.civl_reduction.proofs.staged.Pausing.Holding.{cut_owned}
use Rattle.civl_reduction.proofs.staged.Pausing.Apart.{known, frame_owned, pause_owned, apart_of_two}
use Rattle.civl_reduction.proofs.blocks.Merged.Merging.{merged_carry}
use Rattle.civl_reduction.specs.staged.Calm.{FrameIsCalm, AllIsCalm}
use Rattle.civl_reduction.proofs.staged.Calm.Stepping.{Leaves}
use Rattle.civl_reduction.proofs.staged.Calm.Stepping as stepping
use Rattle.civl_reduction.proofs.staged.Calm.Outside.{thread_of, cases_of}
use Rattle.civl_reduction.specs.blocks.Steady.{IsSteady}
use Rattle.civl_reduction.specs.staged.Opened.{BlockIsOpen, GoesOn, stepped, IsReached, OpenBlocksStep}
use Rattle.civl_conditions.specs.Assumed.{inputs_of}
use Rattle.civl_reduction.proofs.staged.Opened.Beginning.{BegunSo, BeganSo, HasEnded, LeavesSo, nothing_said, leaves_it}
use Rattle.civl_reduction.proofs.staged.Opened.Noting.{locals_stay}
use Rattle.civl_reduction.proofs.staged.Opened.Concluding.{sound, concluded_steady, others_hold, other_calm}
use Rattle.civl_reduction.proofs.staged.Opened.Forms.{no_yield, not_yield_loop, head_skips, back_outside}
use Rattle.civl_reduction.proofs.staged.Opened.Stepping.{same_layer, set_same, top, h, stacked, is_topmost, changed, now, goes_open, step_away}

-- what the frame of one thread holds, with the linear globals
pub one_apart : (program : Program) (layer : ℕ) (config : Config) → IsKept (program_at program layer) config → (t : ℕ) (one : Running) → slice_get config.threads t ≡ Some one → (first : List (List ℕ)) → ((p : ℕ) → carriers p first ≤ owns program one one.state p)
    → pairwise_disjoint (of_globals program.globals config.store.values ++ first) ≡ true
one_apart program layer config k t one at first low = disjoint_by (of_globals program.globals config.store.values ++ first) (λ p.
    let all = counts_of (of_globals program.globals config.store.values ++ flat_map (permission.owned program) config.threads) k.parted p in
    let a = carriers_joined p (of_globals program.globals config.store.values) (flat_map (permission.owned program) config.threads) in
    let c = carriers_joined p (of_globals program.globals config.store.values) first in
    let d = low p in
    let z = one_own program config.threads t one at p in
    omega (arith, all, a, c, d, z))

-- the exit ends a block
pub exit_ends : (proc : Proc) → ends_block proc (exit_of proc) ≡ true
exit_ends proc = ap (λ (o : Option Cut). option_map_or (λ cut. not (is_rank_loop cut.kind)) o true) (slice_get_past (proc_cuts proc) (length (proc_cuts proc)) (omega arith))

module _ (keep : ActionsKeepPermissions) (in_roots : SpawnsAreInRoots) (program : Program) (layer : ℕ) (store : Store) (s : Shadowed) (m : Move) (d : Config) (r : IsReached program layer store s.config) (mv : IsMove m) (e : step_of (program_at program layer) s.config m ≡ (answer.Moved, d)) (o : BlockIsOpen program layer s m.thread) where
  abbrev H : Progress
  H = led_here program (layer + 1) o.f.0 o.here

  its_top : IsTopmost program (layer + 1) o.f.1.procedure o.thread o.f.1
  its_top = is_topmost keep in_roots program layer store s m d r mv e o

  config_kept : IsKept (program_at program layer) s.config
  config_kept = h keep in_roots program layer store s m d r mv e o

  same_locals : H.locals ≡ o.f.1.locals
  same_locals = locals_stay (lower_course program (layer + 1) o.f.0 (λ number. [])) (rest_at o.f.0.body o.here.place) o.here.state ∙ o.opened.follows.alike.locals

  inputs_same : inputs_of o.f.0 H.locals ≡ inputs_of o.f.0 o.b.locals
  inputs_same = ap (inputs_of o.f.0) (locals_stay (lower_course program (layer + 1) o.f.0 (λ number. [])) (rest_at o.f.0.body o.here.place) o.here.state) ∙ o.opened.inputs

  same_spot : spot_at o.f.0.body o.here.place ≡ spot_at o.f.0.body o.f.1.place
  same_spot = o.opened.follows.alike.spot

  -- ---- at the head of a rank loop

  module _ (n : ℕ) (ahead : cut_ahead o.f.0.body o.here.place ≡ Some n) (sp : Spot) (spot : spot_at o.f.0.body o.f.1.place ≡ Some sp) (number : sp.number ≡ n) (form : cut_kind sp.stmt ≡ Some kind.RankLoop) (head : layer_head sp.number (out-Stmt sp.stmt) ≡ Some n) where
    abbrev there : Cut
    there = record { statement = n; kind = kind.RankLoop }

    abbrev end : ℕ
    end = cut_number o.f.0 n

    stands : slice_get (proc_cuts o.f.0) end ≡ Some there
    stands =
        subst (λ (k : ℕ). slice_get (proc_cuts o.f.0) (cut_number o.f.0 k) ≡ Some (record { statement = k; kind = kind.RankLoop })) number
        (cut_there program o.f.1.procedure (layer + 1) o.f.0 o.opened.assumed.of_cut.of_proc sp.number sp.stmt kind.RankLoop (spot_stands o.f.0.body o.f.1.place sp spot) form)

    -- what is held there its thread owns
    held_owned : (p : ℕ) → carriers p (of_held (held_at program o.f.0 end) H.locals) ≤ owns program o.thread o.thread.state p
    held_owned p =
        let c = r.checked in
        let tp = topmost program (layer + 1) o.thread.state o.f o.framed in
        let k = known program layer s.config c.layered c.linear config_kept m.thread o.thread tp.below o.f o.there tp.is tp.of.there in
        let count = subst (λ (q : Proc). length_is q) k.proc (locals_count k.locals.proc o.f.1.locals k.locals.locals) in
        let placed = subst (λ (q : Proc). o.f.1.place ≤ sizes_of q.body) (same_Some k.stack.topmost.proc o.f.0 (sym k.stack.topmost.there ∙ tp.of.there)) k.stack.topmost.place in
        let skips = head_skips (sizes_of o.f.0.body) (rest_at o.f.0.body o.f.1.place) sp (sym (spot_of_rest o.f.0.body o.f.1.place) ∙ spot) in
        let one = cut_owned program c.layered.rules c.linear (layer + 1) o.f.1.procedure o.f.0 tp.of o.f.1.place placed o.f.1.locals count sp.number sp.stmt kind.RankLoop skips.0 skips.1 form p in
        let two = frame_owned program layer s.config c.layered c.linear config_kept o.thread tp.below o.f tp.is tp.of.there p in
        let same : carriers p (of_held (held_at program o.f.0 end) H.locals) ≡ carriers p (of_held (held_at program o.f.0 (cut_number o.f.0 sp.number)) o.f.1.locals) =
        ap (λ (k : ℕ). carriers p (of_held (held_at program o.f.0 (cut_number o.f.0 k)) H.locals)) (sym number) ∙ ap (λ (ls : List Value). carriers p (of_held (held_at program o.f.0 (cut_number o.f.0 sp.number)) ls)) same_locals in
        omega (arith, one, two, same)
      where
        length_is : Proc → Type 0
        length_is q = length o.f.1.locals ≡ length (names_in_proc q)

    carried : in_store program H.store ≡ in_store program s.config.store
    carried = let c = r.checked in let b = c.below in ap (in_store program) o.store ∙ merged_carry program layer s.config.store s.shadow.store c.layered (omega (arith, b)) config_kept.of_plain.store o.fits

    disjoint : pairwise_disjoint (owned program o.f.0 end (begun_again o.b H o.b.chosen)) ≡ true
    disjoint =
        subst (λ (ps : List (List ℕ)). pairwise_disjoint (ps ++ of_held (held_at program o.f.0 end) H.locals) ≡ true) (sym carried)
        (one_apart program layer s.config config_kept m.thread o.thread o.there (of_held (held_at program o.f.0 end) H.locals) held_owned)

    again : (chosen : ℕ → List Value) × IsAssumed program (layer + 1) o.f.1.procedure end o.f.0 there (begun_again o.b H chosen)
    again =
        open_blocks_go_round program (layer + 1) o.f.1.procedure o.c o.f.0 o.cut o.b o.bound o.here s.config.store o.f.1 n there (sound program layer store r.checked) o.opened
        (frame_sorted program (layer + 1) o.f.1.procedure o.f.0 o.thread o.f.1 o.opened.assumed.of_cut.of_proc.there its_top) ahead stands refl disjoint

    apart : (u : ℕ) (q : Proc × Activation) (y : ℕ) (other : Cut) → u ≢ m.thread → frame_at program (layer + 1) s.config.threads u ≡ Some q → StandsAt program (layer + 1) q y other
        → pairwise_disjoint (owned program o.f.0 end (begun_again o.b H again.0) ++ of_held (held_at program q.0 y) q.1.locals) ≡ true
    apart u q y other ne is at =
        let c = r.checked in
        let z = thread_of program (layer + 1) s.config.threads u q is in
        subst (λ (ps : List (List ℕ)). pairwise_disjoint ((ps ++ of_held (held_at program o.f.0 end) H.locals) ++ of_held (held_at program q.0 y) q.1.locals) ≡ true) (sym carried)
        (apart_of_two program layer s.config config_kept m.thread u o.thread z.0 (λ x. ne (sym x)) o.there z.1 (of_held (held_at program o.f.0 end) H.locals) (of_held (held_at program q.0 y) q.1.locals) held_owned
        (pause_owned program layer s.config c.layered c.linear config_kept u z.0 q y other z.1 z.2 at))

    in_loop : OpensInLoop program (layer + 1) o.f.1.procedure end o.f.0 there (begun_again o.b H again.0) s.config.store o.f.1 (change_of (program_at program layer) s.config.store m.choices o.thread)
    in_loop =
        subst (λ (k : ℕ). OpensInLoop program (layer + 1) o.f.1.procedure end o.f.0 there (begun_again o.b H again.0) s.config.store o.f.1 (change_of (program_at program k) s.config.store m.choices o.thread)) (same_layer layer)
        (blocks_open_in_loops program (layer + 1) o.f.1.procedure end o.f.0 there (begun_again o.b H again.0) s.config.store o.f.1 o.thread m.choices sp again.1 (inr refl) its_top spot head same_locals
        (let c = r.checked in (led_stays program o.f.1.procedure (layer + 1) o.f.0 c.layered o.opened.assumed.of_cut.of_proc s.config.store (λ number. []) o.here.place o.here.state o.opened.follows.alike.stores).stores))

    -- it began where it did, with the same inputs
    began_so : (says : Proc → List Value → Store → Bool → List Value → Type 0) → BeganSo says o → BegunSo says o.f.0 (begun_again o.b H again.0)
    began_so says so = subst (λ (is : List Value). says o.f.0 is o.b.old o.b.old_done o.b.old_outs) (sym inputs_same) so

    pub step_round : (says : Proc → List Value → Store → Bool → List Value → Type 0) → BeganSo says o → LeavesSo says program layer s.config (stepped program layer s m d) m.thread
    step_round says so =
        let place = in_loop.0 in
        let x = sym (ap (λ (g : Change). step_with s.config m.thread o.thread g) in_loop.1) ∙ changed keep in_roots program layer store s m d r mv e o in
        let same : d ≡ config_after s.config m.thread o.thread (change.Goes o.f.1.locals in_loop.0) = sym (ap (λ (z : Stepped × Config). z.1) x) in
        let stays : d.store ≡ s.config.store = ap (λ (c : Config). c.store) same in
        goes_open keep in_roots program layer store s m d r mv e o o.f.1.locals in_loop.0 (change.Goes o.f.1.locals in_loop.0)
        (ap (λ (z : State). record { callee = o.thread.callee; args = o.thread.args; state = state_after z (change.Goes o.f.1.locals in_loop.0) }) (top keep in_roots program layer store s m d r mv e o).is) (ap (λ (c : Config). c.threads) same)
        end there (begun_again o.b H again.0) (n + 1) (record { place = in_loop.0; state = beginning (begun_again o.b H again.0) })
        (subst (λ (z : Store). IsOpen program (layer + 1) o.f.1.procedure end o.f.0 there (begun_again o.b H again.0) (n + 1) (record { place = in_loop.0; state = beginning (begun_again o.b H again.0) }) z (moved_frame o.f.1 o.f.1.locals in_loop.0)) (sym stays) in_loop.2)
        refl
        (ap (λ (z : Store). record { store = z; locals = H.locals; done = H.done; again = false }) (o.store ∙ ap (λ (z : Store). merged program layer z s.shadow.store) (sym stays))
        ∙ (ap (λ (ls : List Value). record { store = merged program layer d.store s.shadow.store; locals = ls; done = H.done; again = false }) same_locals
        ∙ ap (λ (b : Bool). record { store = merged program layer d.store s.shadow.store; locals = o.f.1.locals; done = b; again = false }) o.done))
        refl apart says (began_so says so)

  -- ---- at the exit

  module _ (away : cut_ahead o.f.0.body o.here.place ≡ None) (spot : spot_at o.f.0.body o.f.1.place ≡ None) where
    concludes : Concludes program (layer + 1) o.c o.f.0 o.cut o.b (exit_of o.f.0) H
    concludes = (open_blocks_conclude program (layer + 1) o.f.1.procedure o.c o.f.0 o.cut o.b o.bound o.here s.config.store o.f.1 (sound program layer store r.checked) o.opened).1 away (same_spot ∙ spot)

    steady : IsSteady program (layer + 1) (owned program o.f.0 o.c o.b) o.b.old (seen program layer s)
    steady = concluded_steady keep program layer store s m.thread r o (exit_of o.f.0) (exit_ends o.f.0) concludes

    behind : stepping.Leaves (program_at program layer) s.config m d
    behind = stepping.leaves (program_at program layer) s.config m d e

    abbrev tp_below : List Activation
    tp_below = (top keep in_roots program layer store s m d r mv e o).below

    -- the frame is removed
    does : change_of (program_at program layer) s.config.store m.choices o.thread ≡ change.Leaves (option_map (returned (program_at program layer) (outs_in o.f.0 o.f.1.locals)) (caller_of tp_below))
    does =
        ap (λ (x : State). done_by (program_at program layer) s.config.store m.choices (state_doing (program_at program layer) o.thread x)) (top keep in_roots program layer store s m d r mv e o).is
        ∙ (ap (λ (x : Option Proc). done_by (program_at program layer) s.config.store m.choices (proc_doing (program_at program layer) (caller_of tp_below) o.f.1 x)) (top keep in_roots program layer store s m d r mv e o).of.there
        ∙ ap (λ (x : Option Spot). done_by (program_at program layer) s.config.store m.choices (spot_doing (program_at program layer) (caller_of tp_below) o.f.1 o.f.0 x)) spot)

    stack : IsStack (program_at program layer) o.thread.callee tp_below o.f.1
    stack = subst (StateIsStacked (program_at program layer) o.thread.callee) (top keep in_roots program layer store s m d r mv e o).is (stacked keep in_roots program layer store s m d r mv e o)

    -- no frame of the layer is there behind it
    none_there : (k : Option Activation) → caller_of tp_below ≡ k → framed_state program (layer + 1) (state_after (Inside tp_below o.f.1) (change.Leaves (option_map (returned (program_at program layer) (outs_in o.f.0 o.f.1.locals)) k))) ≡ None
    none_there None q = refl
    none_there (Some f) q = back_outside program layer (let c = r.checked in c.layered) tp_below o.f.1 f stack.waiting q (outs_in o.f.0 o.f.1.locals)

    by_caller : (k : Option Activation) → caller_of tp_below ≡ k → step_with s.config m.thread o.thread (change.Leaves (option_map (returned (program_at program layer) (outs_in o.f.0 o.f.1.locals)) k)) ≡ (answer.Moved, d) → (frame_at program (layer + 1) d.threads m.thread ≡ None) × (d.store ≡ s.config.store)
    by_caller None q x =
        let same : d ≡ config_after s.config m.thread o.thread (change.Leaves None) = sym (ap (λ (z : Stepped × Config). z.1) x) in (
          ap (λ (c : Config). frame_at program (layer + 1) c.threads m.thread) same
              ∙ (ap (frame_in program (layer + 1)) (set_same s.config.threads m.thread o.thread (thread_after o.thread (change.Leaves None)) o.there)
              ∙ (ap (λ (z : State). framed_state program (layer + 1) (state_after z (change.Leaves None))) (top keep in_roots program layer store s m d r mv e o).is ∙ none_there None q)),
          ap (λ (c : Config). c.store) same,
        )
    by_caller (Some f) q x =
        let g = change.Leaves (Some (returned (program_at program layer) (outs_in o.f.0 o.f.1.locals) f)) in
        let same : d ≡ config_after s.config m.thread o.thread (change.Leaves (Some (returned (program_at program layer) (outs_in o.f.0 o.f.1.locals) f))) = sym (ap (λ (z : Stepped × Config). z.1) x) in (
          ap (λ (c : Config). frame_at program (layer + 1) c.threads m.thread) same
              ∙ (ap (frame_in program (layer + 1)) (set_same s.config.threads m.thread o.thread (thread_after o.thread (change.Leaves (Some (returned (program_at program layer) (outs_in o.f.0 o.f.1.locals) f)))) o.there)
              ∙ (ap (λ (z : State). framed_state program (layer + 1) (state_after z (change.Leaves (Some (returned (program_at program layer) (outs_in o.f.0 o.f.1.locals) f))))) (top keep in_roots program layer store s m d r mv e o).is ∙ none_there (Some f) q)),
          ap (λ (c : Config). c.store) same,
        )

    left_so : (frame_at program (layer + 1) d.threads m.thread ≡ None) × (d.store ≡ s.config.store)
    left_so = by_caller (caller_of tp_below) refl (sym (ap (λ (g : Change). step_with s.config m.thread o.thread g) does) ∙ changed keep in_roots program layer store s m d r mv e o)

    same_shadow : stepped program layer s m d ≡ record { config = d; shadow = s.shadow }
    same_shadow =
        ap (λ (x : Option (Proc × Activation)). end_with x (frame_at program (layer + 1) d.threads m.thread)) (now keep in_roots program layer store s m d r mv e o)
        ∙ ap (end_with (Some o.f)) left_so.0
      where
        end_with : Option (Proc × Activation) → Option (Proc × Activation) → Shadowed
        end_with x y = record { config = d; shadow = after_frame program layer m.thread d.store (begun_with m.thread x s.shadow) y }

    next_store : merged program layer d.store s.shadow.store ≡ seen program layer s
    next_store = ap (λ (z : Store). merged program layer z s.shadow.store) left_so.1

    calm : AllIsCalm program layer (record { config = d; shadow = s.shadow })
    calm = record {
      fits = o.fits;
      calm = record {
        invariants = subst (λ (z : Store). IsTrue (invariants_hold program (layer + 1) z)) (sym next_store) (others_hold keep program layer store s m.thread r o (seen program layer s) steady);
        frames = λ u q. by_thread u (cases_of u m.thread);
      };
    }
      where
        by_thread : (u : ℕ) → (u ≡ m.thread) ⊎ (u ≢ m.thread) → FrameIsCalm program (layer + 1) (merged program layer d.store s.shadow.store) (s.shadow.done u) (frame_at program (layer + 1) d.threads u)
        by_thread u (inl same) = subst (FrameIsCalm program (layer + 1) (merged program layer d.store s.shadow.store) (s.shadow.done u)) (sym (ap (frame_at program (layer + 1) d.threads) same ∙ left_so.0)) tt
        by_thread u (inr n) =
            subst (λ (z : Store). FrameIsCalm program (layer + 1) z (s.shadow.done u) (frame_at program (layer + 1) d.threads u)) (sym next_store)
            (subst (FrameIsCalm program (layer + 1) (seen program layer s) (s.shadow.done u)) (sym (behind.others (layer + 1) u n)) (other_calm keep program layer store s m.thread r o (seen program layer s) steady u n))

    -- so the block has ended
    ended : (says : Proc → List Value → Store → Bool → List Value → Type 0) → BeganSo says o → HasEnded says program layer s.config (record { config = d; shadow = s.shadow }) m.thread
    ended says so = record { before = s; config = refl; block = o; began = so; concludes = concludes; store = next_store; done = refl }

    pub step_out : (says : Proc → List Value → Store → Bool → List Value → Type 0) → BeganSo says o → LeavesSo says program layer s.config (stepped program layer s m d) m.thread
    step_out says so = subst (λ (z : Shadowed). LeavesSo says program layer s.config z m.thread) (sym same_shadow) (inr (calm, left_so.0, ended says so))

-- what is said of where the block began stays along its steps
pub open_blocks_leave : ActionsKeepPermissions → SpawnsAreInRoots → (program : Program) (layer : ℕ) (store : Store) (s : Shadowed) (m : Move) (d : Config) → IsReached program layer store s.config → IsMove m → step_of (program_at program layer) s.config m ≡ (answer.Moved, d)
    → (o : BlockIsOpen program layer s m.thread) → GoesOn o → (says : Proc → List Value → Store → Bool → List Value → Type 0) → BeganSo says o → LeavesSo says program layer s.config (stepped program layer s m d) m.thread
open_blocks_leave keep in_roots program layer store s m d r mv e o goes says so = by_ahead (cut_ahead o.f.0.body o.here.place) refl
  where
    same : spot_at o.f.0.body o.here.place ≡ spot_at o.f.0.body o.f.1.place
    same = o.opened.follows.alike.spot

    none_before : yield_before (rest_at o.f.0.body o.here.place) ≡ None
    none_before = no_yield (rest_at o.f.0.body o.here.place) goes

    by_form : (n : ℕ) → cut_ahead o.f.0.body o.here.place ≡ Some n → (sp : Spot) → spot_at o.f.0.body o.f.1.place ≡ Some sp → (f : stmt.Stmt-F Stmt) → out-Stmt sp.stmt ≡ f → layer_head sp.number f ≡ Some n → layer_at_yield f false ≡ false → LeavesSo says program layer s.config (stepped program layer s m d) m.thread
    by_form n ahead sp spot (stmt.RankLoop t w i a) is q nt =
        step_round keep in_roots program layer store s m d r mv e o n ahead sp spot (same_Some sp.number n q) (ap form_cut is) (ap (layer_head sp.number) is ∙ q) says so
    by_form n ahead sp spot (stmt.YieldLoop t i a) is q nt = absurd (false≢true (sym nt))
    by_form n ahead sp spot (stmt.Assign v w) is q nt = absurd (none-some n q)
    by_form n ahead sp spot (stmt.Assert w) is q nt = absurd (none-some n q)
    by_form n ahead sp spot (stmt.If t a b) is q nt = absurd (none-some n q)
    by_form n ahead sp spot (stmt.While t a) is q nt = absurd (none-some n q)
    by_form n ahead sp spot (stmt.Call f es rs) is q nt = absurd (none-some n q)
    by_form n ahead sp spot (stmt.Spawn f es) is q nt = absurd (none-some n q)
    by_form n ahead sp spot (stmt.Yield i) is q nt = absurd (none-some n q)
    by_form n ahead sp spot stmt.Commit is q nt = absurd (none-some n q)
    by_form n ahead sp spot (stmt.Intro v w) is q nt = absurd (none-some n q)

    by_spot : (n : ℕ) → cut_ahead o.f.0.body o.here.place ≡ Some n → (x : Option Spot) → spot_at o.f.0.body o.here.place ≡ x → head_there x ≡ Some n → LeavesSo says program layer s.config (stepped program layer s m d) m.thread
    by_spot n ahead None q k = absurd (none-some n k)
    by_spot n ahead (Some sp) q k =
        by_form n ahead sp (sym same ∙ q) (out-Stmt sp.stmt) refl k (not_yield_loop (sizes_of o.f.0.body) (rest_at o.f.0.body o.here.place) sp goes (sym (spot_of_rest o.f.0.body o.here.place) ∙ q))

    no_spot : (x : Option Spot) → spot_at o.f.0.body o.f.1.place ≡ x → cut_ahead o.f.0.body o.here.place ≡ None → LeavesSo says program layer s.config (stepped program layer s m d) m.thread
    no_spot None q away = step_out keep in_roots program layer store s m d r mv e o away q says so
    no_spot (Some sp) q away = step_away keep in_roots program layer store s m d r mv e o away sp q says so

    by_ahead : (x : Option ℕ) → cut_ahead o.f.0.body o.here.place ≡ x → LeavesSo says program layer s.config (stepped program layer s m d) m.thread
    by_ahead None q = no_spot (spot_at o.f.0.body o.f.1.place) refl q
    by_ahead (Some n) q =
        by_spot n q (spot_at o.f.0.body o.here.place) refl
        (sym (ap (λ (y : Option ℕ). option_map_or (λ (z : ℕ). Some z) y (head_there (spot_at o.f.0.body o.here.place))) none_before) ∙ q)

pub open_blocks_step : ActionsKeepPermissions → SpawnsAreInRoots → OpenBlocksStep
open_blocks_step keep in_roots program layer store s m d r mv e o goes =
    leaves_it program layer s.config (stepped program layer s m d) m.thread (open_blocks_leave keep in_roots program layer store s m d r mv e o goes nothing_said tt)
