-- Where an open block ends it is refined from its beginning.
use Rattle.std.proofs.Common.{◌≡◌, ℕ, ◌+◌, Bool, true, not, List, [], Option, Some, refl, sym, ap, ◌∙◌, subst, inl, inr, ◌⊎◌}
use Rattle.std.specs.Prelude.{IsTrue}
use Rattle.std.specs.Option.{option_map_or}
use Rattle.civl_bits.specs.declared.value.Value.{Value}
use Rattle.civl_firing.specs.values.Values.{HaveSorts}
use Rattle.civl_tree.specs.declared.program.Proc.{Proc}
use Rattle.civl_tree.specs.declared.program.Program.{Program}
use Rattle.civl_firing.specs.declared.store.Store.{Store}
use Rattle.civl_layers.specs.declared.cut.Cut.{Cut}
use Rattle.civl_conditions.specs.paths.Seen.{lower_course}
use Rattle.civl_meaning.specs.Rest.{rest_at}
use Rattle.civl_conditions.specs.paths.Ends.{is_rank_loop, ends_block}
use Rattle.civl_condition_laws.specs.States.{frame_sorts}
use Rattle.civl_reduction.specs.checked.Checked.{ActionsKeepPermissions}
use Rattle.civl_reduction.specs.open_blocks.Ends.{Concludes}
use Rattle.civl_reduction.specs.open_blocks.Following.{cut_ahead, led_here}
use Rattle.civl_reduction.proofs.open_blocks.Open.Ending.{open_blocks_conclude}
use Rattle.civl_reduction.specs.blocks.Shadow.{Shadowed, seen}
use Rattle.civl_reduction.specs.staged.Pausing.{StandsAt}
use Rattle.civl_reduction.proofs.staged.Pausing.Cutting.{topmost, frames_stand_at_cuts}
use Rattle.civl_reduction.proofs.staged.Pausing.Apart.{run_is_kept, known}
use Rattle.civl_reduction.specs.staged.Opened.{BlockIsOpen, StandsThere, IsReached}
use Rattle.civl_reduction.proofs.staged.Opened.Ahead.{yield_ahead}
use Rattle.civl_reduction.proofs.staged.Opened.Noting.{locals_stay}
use Rattle.civl_tree.specs.declared.program.Proc.{Proc}
use Rattle.civl_firing.specs.Stores.{IsStore}
use Rattle.civl_meaning.specs.Change.{outs_in}
use Rattle.civl_conditions.specs.Assumed.{inputs_of}
use Rattle.civl_reduction.proofs.open_blocks.Open.Introducing.{led_sorted}
use Rattle.civl_reduction.proofs.staged.Opened.Concluding.{sound}
use Rattle.civl_conditions.specs.paths.Ends.{exit_of, is_exit}
use Rattle.civl_reduction.proofs.open_blocks.Following.Leading.{led_stays}
use Rattle.civl_conditions.specs.paths.Paths.{Progress}
use Rattle.civl_conditions.specs.paths.Seen.{IsProcOf}
use Rattle.civl_conditions.proofs.CutKinds.{yield_unranked}
use Rattle.civl_layers.specs.Layered.{IsLayered}
use Rattle.civl_reduction.specs.blocks.Blocks.{at_yield, rest_of}
use Rattle.std.proofs.lemmas.Bool.{eq-eqb}
use Rattle.civl_reduction.specs.simulation.Refined.{Sight, IsRefined, with_values, sight}
use Rattle.civl_reduction.specs.simulation.Joined.{ConclusionsRefine, sight_old, sight_at}
use Rattle.civl_reduction.specs.simulation.Carried.{IsCarried}
use Rattle.civl_reduction.proofs.simulation.Refined.Joining.{JoinAnyhow, refined_weaker}

pub exit_is_exit : (proc : Proc) → is_exit proc (exit_of proc) ≡ true
exit_is_exit proc = eq-eqb (exit_of proc) (exit_of proc) refl

module _ (conclude : ConclusionsRefine) (join : JoinAnyhow) (keep : ActionsKeepPermissions) (program : Program) (layer : ℕ) (store : Store) (s : Shadowed) (t : ℕ) (r : IsReached program layer store s.config) (o : BlockIsOpen program layer s t) (picked : List Value → Type 0) (began : Sight) (carried : IsCarried picked began o) where
  abbrev H : Progress
  H = led_here program (layer + 1) o.f.0 o.here

  of : IsProcOf program o.f.1.procedure (layer + 1) o.f.0
  of = o.opened.assumed.of_cut.of_proc

  layered : IsLayered program
  layered = let c = r.checked in c.layered

  same_locals : H.locals ≡ o.f.1.locals
  same_locals = locals_stay (lower_course program (layer + 1) o.f.0 (λ number. [])) (rest_at o.f.0.body o.here.place) o.here.state ∙ o.opened.follows.alike.locals

  frame_sorted : HaveSorts o.f.1.locals (frame_sorts o.f.0)
  frame_sorted =
      let top = topmost program (layer + 1) o.thread.state o.f o.framed in
      let c = r.checked in
      let h = run_is_kept keep program layer store c r.moves s.config r.are r.runs in
      let k = known program layer s.config c.layered c.linear h t o.thread top.below o.f o.there top.is top.of.there in
      subst (λ (p : Proc). HaveSorts o.f.1.locals (frame_sorts p)) k.proc k.locals.locals

  H_fits : IsStore program.globals H.store
  H_fits = led_sorted program (layer + 1) o.f.1.procedure o.f.0 layered of.there o.here o.opened.fits
      (subst (λ (ls : List Value). HaveSorts ls (frame_sorts o.f.0)) (sym o.opened.follows.alike.locals) frame_sorted)

  stays_done : o.b.done ≡ true → H.done ≡ true
  stays_done q = (led_stays program o.f.1.procedure (layer + 1) o.f.0 layered of s.config.store (λ number. []) o.here.place o.here.state o.opened.follows.alike.stores).done (o.opened.done q)

  inputs_same : inputs_of o.f.0 o.b.locals ≡ inputs_of o.f.0 o.f.1.locals
  inputs_same = sym (ap (inputs_of o.f.0) (sym o.opened.follows.alike.locals) ∙ o.opened.inputs)

  sight_is : sight_at o.f.0 H ≡ sight program layer s t o.f
  sight_is =
      ap (λ (z : Store). record { store = z; done = H.done; outs = outs_in o.f.0 H.locals }) o.store
      ∙ (ap (λ (z : Bool). record { store = seen program layer s; done = z; outs = outs_in o.f.0 H.locals }) o.done
      ∙ ap (λ (ls : List Value). record { store = seen program layer s; done = s.shadow.done t; outs = outs_in o.f.0 ls }) same_locals)

  -- with choices that are picked at this end or as before
  abbrev pub Ends : List Value → Type 0
  Ends chosen = (chosen ≡ with_values program o.f.0 (seen program layer s) o.f.1.locals) ⊎ picked chosen

  picked_here : (chosen : List Value) → chosen ≡ with_values program o.f.0 H.store H.locals → Ends chosen
  picked_here chosen e = inl (e ∙ (ap (λ (z : Store). with_values program o.f.0 z H.locals) o.store ∙ ap (λ (ls : List Value). with_values program o.f.0 (seen program layer s) ls) same_locals))

  pub block_refined : (end : ℕ) → ends_block o.f.0 end ≡ true → Concludes program (layer + 1) o.c o.f.0 o.cut o.b end H → IsRefined Ends program (layer + 1) o.f.0 (inputs_of o.f.0 o.f.1.locals) began (sight program layer s t o.f)
  block_refined end ends k =
      subst (λ (is : List Value). IsRefined Ends program (layer + 1) o.f.0 is began (sight program layer s t o.f)) inputs_same
      (join Ends program o.f.1.procedure (layer + 1) o.f.0 (inputs_of o.f.0 o.b.locals) began (sight_old o.b) (sight program layer s t o.f) layered of
      (refined_weaker picked Ends (λ chosen p. inr p) program (layer + 1) o.f.0 (inputs_of o.f.0 o.b.locals) began (sight_old o.b) carried)
      (subst (IsRefined Ends program (layer + 1) o.f.0 (inputs_of o.f.0 o.b.locals) (sight_old o.b)) sight_is
      (refined_weaker (λ chosen. chosen ≡ with_values program o.f.0 H.store H.locals) Ends picked_here program (layer + 1) o.f.0 (inputs_of o.f.0 o.b.locals) (sight_old o.b) (sight_at o.f.0 H)
      (conclude program (layer + 1) o.f.1.procedure o.c o.f.0 o.cut o.b end H layered o.opened.assumed k ends stays_done H_fits (subst (λ (ls : List Value). HaveSorts ls (frame_sorts o.f.0)) (sym same_locals) frame_sorted)))))

  -- ---- at a yield

  module _ (there : StandsThere o) (y : ℕ) (cut : Cut) (stands : StandsAt program (layer + 1) o.f y cut) where
    ends : ends_block o.f.0 y ≡ true
    ends = ap (λ (p : Option Cut). option_map_or (λ (k : Cut). not (is_rank_loop k.kind)) p true) stands.at.there ∙ yield_unranked cut.kind stands.yields

    ahead : cut_ahead o.f.0.body o.here.place ≡ Some cut.statement
    ahead = subst (λ (p : ℕ). cut_ahead o.f.0.body p ≡ Some cut.statement) (sym there) (yield_ahead o.f.0.body o.f.1.place cut.statement stands.stmt stands.behind cut.kind stands.here stands.kind stands.yields)

    concludes : Concludes program (layer + 1) o.c o.f.0 o.cut o.b y (led_here program (layer + 1) o.f.0 o.here)
    concludes =
        subst (λ (n : ℕ). Concludes program (layer + 1) o.c o.f.0 o.cut o.b n (led_here program (layer + 1) o.f.0 o.here)) (sym stands.number)
        ((open_blocks_conclude program (layer + 1) o.f.1.procedure o.c o.f.0 o.cut o.b o.bound o.here s.config.store o.f.1 (sound program layer store r.checked) o.opened).0 cut.statement ahead)

    at_yield_refined : IsRefined Ends program (layer + 1) o.f.0 (inputs_of o.f.0 o.f.1.locals) began (sight program layer s t o.f)
    at_yield_refined = block_refined y ends concludes

  pub yield_refined : StandsThere o → IsTrue (at_yield (rest_of o.f)) → IsRefined Ends program (layer + 1) o.f.0 (inputs_of o.f.0 o.f.1.locals) began (sight program layer s t o.f)
  yield_refined there yields =
      let first = frames_stand_at_cuts program (layer + 1) o.thread o.f o.framed yields in
      at_yield_refined there first.0 first.1 first.2
