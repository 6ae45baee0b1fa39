-- An open block that ends: what other threads rely on is kept.
use Rattle.std.proofs.Common.{◌≡◌, ◌≢◌, ℕ, ◌+◌, Bool, true, not, List, [], Option, None, Some, refl, sym, ap, ◌∙◌, subst, inl, inr, ◌⊎◌}
use Rattle.std.specs.Prelude.{IsTrue, if◌then◌else◌}
use Rattle.std.specs.Option.{option_map_or}
use Rattle.std.proofs.lemmas.Bool.{and_parts}
use Rattle.std.proofs.lemmas.Option.{same_Some}
use Rattle.civl_bits.specs.declared.value.Value.{Value}
use Rattle.civl_firing.specs.values.Values.{HaveSorts}
use Rattle.civl_tree.specs.declared.program.Proc.{Proc}
use Rattle.civl_tree.specs.declared.program.Program.{Program}
use Rattle.civl_firing.specs.declared.store.Store.{Store}
use Rattle.civl_meaning.specs.declared.config.Activation.{Activation}
use Rattle.civl_meaning.specs.Permissions.{pairwise_disjoint}
use Rattle.civl_layers.specs.declared.cut.Cut.{Cut}
use Rattle.civl_conditions.specs.paths.Seen.{lower_course}
use Rattle.civl_firing.specs.declared.scope.Scope.{Scope}
use Rattle.civl_meaning.specs.Rest.{rest_at}
use Rattle.civl_conditions.specs.paths.NoteValues.{note_values, steady_note_values}
use Rattle.civl_conditions.specs.paths.Ends.{is_rank_loop, ends_block}
use Rattle.civl_conditions.specs.Values.{Begun}
use Rattle.civl_conditions.specs.Invariants.{invariants_hold}
use Rattle.civl_conditions.specs.Assumed.{cut_invariant, note_holds, owned, assumed}
use Rattle.civl_conditions.specs.Parts.{end_values}
use Rattle.civl_conditions.specs.Targets.{yield_holds}
use Rattle.civl_conditions.proofs.CutKinds.{yield_unranked}
use Rattle.civl_condition_laws.specs.States.{frame_sorts}
use Rattle.civl_reduction.specs.checked.Checked.{IsChecked, ActionsKeepPermissions}
use Rattle.civl_reduction.specs.open_blocks.Ends.{Concludes}
use Rattle.civl_reduction.specs.open_blocks.Following.{cut_ahead, led_here}
use Rattle.civl_reduction.specs.open_blocks.Open.{IsSound}
use Rattle.civl_reduction.proofs.open_blocks.Open.Ending.{open_blocks_conclude}
use Rattle.civl_reduction.specs.blocks.Cuts.{frame_in, frame_at}
use Rattle.civl_reduction.specs.blocks.Shadow.{Shadowed, seen}
use Rattle.civl_reduction.specs.blocks.Steady.{IsSteady}
use Rattle.civl_reduction.proofs.blocks.Steady.Losing.{is_steady}
use Rattle.civl_reduction.specs.staged.Pausing.{StandsAt}
use Rattle.civl_reduction.proofs.staged.Pausing.Cutting.{topmost, frames_stand_at_cuts}
use Rattle.civl_reduction.proofs.staged.Pausing.Apart.{run_is_kept, known}
use Rattle.civl_reduction.specs.staged.Calm.{FrameIsCalm}
use Rattle.civl_reduction.proofs.staged.Calm.Outside.{thread_of, cases_of}
use Rattle.civl_reduction.specs.staged.Opened.{BlockIsOpen, StandsThere, IsReached, OpenBlocksEnd}
use Rattle.civl_reduction.proofs.staged.Opened.Ahead.{yield_ahead}
use Rattle.civl_reduction.proofs.staged.Opened.Noting.{locals_stay}

pub sound : (program : Program) (layer : ℕ) (store : Store) → IsChecked program layer store → IsSound program
sound program layer store c = record { layered = c.layered; linear = c.linear; yields = c.yields; hold = c.hold }

-- what is owned where a path begins is disjoint
pub owned_apart : (program : Program) (step : ℕ) (proc : Proc) (c : ℕ) (cut : Cut) (b : Begun) → assumed program step proc c cut b ≡ true → pairwise_disjoint (owned program proc c b) ≡ true
owned_apart program step proc c cut b e =
    let one = and_parts (invariants_hold program step b.old) _ e in
    let two = and_parts (note_holds (note_values program.globals proc b.store b.locals b.done b.old b.old_outs b.old_done) (cut_invariant proc cut)) _ one.1 in
    let three = and_parts _ _ two.1 in
    (and_parts _ _ three.1).1

module _ (keep : ActionsKeepPermissions) (program : Program) (layer : ℕ) (store : Store) (s : Shadowed) (t : ℕ) (r : IsReached program layer store s.config) (o : BlockIsOpen program layer s t) where
  abbrev step : ℕ
  step = layer + 1

  module _ (next : Store) (steady : IsSteady program (layer + 1) (owned program o.f.0 o.c o.b) o.b.old next) where
    pub others_hold : IsTrue (invariants_hold program (layer + 1) next)
    others_hold = steady.invariants (owned_apart program (layer + 1) o.f.0 o.c o.cut o.b o.opened.assumed.holds)

    other_kept : (u : ℕ) → u ≢ t → (g : Proc × Activation) → frame_at program (layer + 1) s.config.threads u ≡ Some g → FrameIsCalm program (layer + 1) next (s.shadow.done u) (Some g)
    other_kept u n g is y cut stands =
        let q = thread_of program (layer + 1) s.config.threads u g is in
        let top = topmost program (layer + 1) q.0.state g q.2 in
        let c = r.checked in
        let h = run_is_kept keep program layer store c r.moves s.config r.are r.runs in
        let k = known program layer s.config c.layered c.linear h u q.0 top.below g q.1 top.is top.of.there in
        let sorts = subst (λ (p : Proc). HaveSorts g.1.locals (frame_sorts p)) k.proc k.locals.locals in
        steady.yields g.1.procedure y g.0 cut (record { locals = g.1.locals; done = s.shadow.done u }) (record { at = stands.at; yields = stands.yields; locals = sorts })
        (o.apart u g y cut n is stands)
        (subst (λ (p : Option (Proc × Activation)). FrameIsCalm program (layer + 1) o.b.old (s.shadow.done u) p) is (o.calm.frames u (λ e. n (sym (same_Some t u e)))) y cut stands)

    pub other_calm : (u : ℕ) → u ≢ t → FrameIsCalm program (layer + 1) next (s.shadow.done u) (frame_at program (layer + 1) s.config.threads u)
    other_calm u n = by_frame (frame_at program (layer + 1) s.config.threads u) refl
      where
        by_frame : (p : Option (Proc × Activation)) → frame_at program (layer + 1) s.config.threads u ≡ p → FrameIsCalm program (layer + 1) next (s.shadow.done u) p
        by_frame None is = tt
        by_frame (Some g) is = other_kept u n g is

  -- where the block ends, from what is concluded there
  pub concluded_steady : (end : ℕ) → ends_block o.f.0 end ≡ true → Concludes program (layer + 1) o.c o.f.0 o.cut o.b end (led_here program (layer + 1) o.f.0 o.here)
      → IsSteady program (layer + 1) (owned program o.f.0 o.c o.b) o.b.old (seen program layer s)
  concluded_steady end ends c =
      subst (IsSteady program (layer + 1) (owned program o.f.0 o.c o.b) o.b.old) o.store
      (is_steady program (layer + 1) (owned program o.f.0 o.c o.b) o.b.old (led_here program (layer + 1) o.f.0 o.here).store (λ target others among of apart. c.keeps target others among of ends apart))

  -- ---- at a yield

  module _ (there : StandsThere o) (y : ℕ) (cut : Cut) (stands : StandsAt program (layer + 1) o.f y cut) where
    ends : ends_block o.f.0 y ≡ true
    ends = ap (λ (p : Option Cut). option_map_or (λ (k : Cut). not (is_rank_loop k.kind)) p true) stands.at.there ∙ yield_unranked cut.kind stands.yields

    ahead : cut_ahead o.f.0.body o.here.place ≡ Some cut.statement
    ahead = subst (λ (p : ℕ). cut_ahead o.f.0.body p ≡ Some cut.statement) (sym there) (yield_ahead o.f.0.body o.f.1.place cut.statement stands.stmt stands.behind cut.kind stands.here stands.kind stands.yields)

    pub concludes : Concludes program (layer + 1) o.c o.f.0 o.cut o.b y (led_here program (layer + 1) o.f.0 o.here)
    concludes =
        subst (λ (n : ℕ). Concludes program (layer + 1) o.c o.f.0 o.cut o.b n (led_here program (layer + 1) o.f.0 o.here)) (sym stands.number)
        ((open_blocks_conclude program (layer + 1) o.f.1.procedure o.c o.f.0 o.cut o.b o.bound o.here s.config.store o.f.1 (sound program layer store r.checked) o.opened).0 cut.statement ahead)

    pub yield_steady : IsSteady program (layer + 1) (owned program o.f.0 o.c o.b) o.b.old (seen program layer s)
    yield_steady = concluded_steady y ends concludes

    -- the frame's own invariant
    same_locals : (led_here program (layer + 1) o.f.0 o.here).locals ≡ o.f.1.locals
    same_locals = locals_stay (lower_course program (layer + 1) o.f.0 (λ number. [])) (rest_at o.f.0.body o.here.place) o.here.state ∙ o.opened.follows.alike.locals

    pub own_holds : IsTrue (yield_holds program o.f.0 cut (record { locals = o.f.1.locals; done = s.shadow.done t }) (seen program layer s))
    own_holds =
        let p = led_here program (layer + 1) o.f.0 o.here in
        let says = concludes.invariant cut stands.at.there in
        let steadily : end_values program o.f.0 o.b y p ≡ steady_note_values program.globals o.f.0 p.store p.locals p.done =
        ap (λ (z : Bool). if z then steady_note_values program.globals o.f.0 p.store p.locals p.done else note_values program.globals o.f.0 p.store p.locals p.done o.b.old o.b.old_outs o.b.old_done) ends in
        let one : note_holds (steady_note_values program.globals o.f.0 p.store p.locals p.done) (cut_invariant o.f.0 cut) ≡ true = subst (λ (z : Scope). note_holds z (cut_invariant o.f.0 cut) ≡ true) steadily says in
        let two : note_holds (steady_note_values program.globals o.f.0 (seen program layer s) p.locals p.done) (cut_invariant o.f.0 cut) ≡ true = subst (λ (z : Store). note_holds (steady_note_values program.globals o.f.0 z p.locals p.done) (cut_invariant o.f.0 cut) ≡ true) o.store one in
        let three : note_holds (steady_note_values program.globals o.f.0 (seen program layer s) o.f.1.locals p.done) (cut_invariant o.f.0 cut) ≡ true = subst (λ (z : List Value). note_holds (steady_note_values program.globals o.f.0 (seen program layer s) z p.done) (cut_invariant o.f.0 cut) ≡ true) same_locals two in
        subst (λ (z : Bool). note_holds (steady_note_values program.globals o.f.0 (seen program layer s) o.f.1.locals z) (cut_invariant o.f.0 cut) ≡ true) o.done three

pub open_blocks_end : ActionsKeepPermissions → OpenBlocksEnd
open_blocks_end keep program layer store s t r o there yields = record {
  fits = o.fits;
  calm = record {
    invariants = others_hold keep program layer store s t r o (seen program layer s) steady;
    frames = λ u q. by_thread u (cases_of u t);
  };
}
  where
    first : (y : ℕ) × (cut : Cut) × StandsAt program (layer + 1) o.f y cut
    first = frames_stand_at_cuts program (layer + 1) o.thread o.f o.framed yields

    steady : IsSteady program (layer + 1) (owned program o.f.0 o.c o.b) o.b.old (seen program layer s)
    steady = yield_steady keep program layer store s t r o there first.0 first.1 first.2

    own : FrameIsCalm program (layer + 1) (seen program layer s) (s.shadow.done t) (Some o.f)
    own y cut stands = own_holds keep program layer store s t r o there y cut stands

    by_thread : (u : ℕ) → (u ≡ t) ⊎ (u ≢ t) → FrameIsCalm program (layer + 1) (seen program layer s) (s.shadow.done u) (frame_at program (layer + 1) s.config.threads u)
    by_thread u (inl same) =
        subst (λ (v : ℕ). FrameIsCalm program (layer + 1) (seen program layer s) (s.shadow.done v) (frame_at program (layer + 1) s.config.threads v)) (sym same)
        (subst (FrameIsCalm program (layer + 1) (seen program layer s) (s.shadow.done t)) (sym (ap (frame_in program (layer + 1)) o.there ∙ o.framed)) own)
    by_thread u (inr n) = other_calm keep program layer store s t r o (seen program layer s) steady u n
