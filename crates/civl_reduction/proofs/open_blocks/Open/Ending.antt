-- What holds where an open block comes to a cut or to the exit; at a rank loop a path begins anew.
use Rattle.std.proofs.Common.{◌≡◌, ℕ, Bool, true, false, not, ◌||◌, List, [], Option, None, Some, refl, sym, ap, ◌∙◌, subst}
use Rattle.std.specs.Prelude.{slice_get, if◌then◌else◌}
use Rattle.std.specs.Option.{option_map_or}
use Rattle.std.proofs.lemmas.Bool.{false≢true, and_parts, and_from}
use Rattle.civl_bits.specs.declared.value.Value.{Value}
use Rattle.civl_tree.specs.declared.program.Proc.{Proc}
use Rattle.civl_tree.specs.declared.program.Program.{Program}
use Rattle.civl_firing.specs.values.Values.{HaveSorts}
use Rattle.civl_firing.specs.declared.store.Store.{Store}
use Rattle.civl_firing.specs.Fired.{gate_holds}
use Rattle.civl_meaning.specs.declared.config.Activation.{Activation}
use Rattle.civl_meaning.specs.Permissions.{pairwise_disjoint}
use Rattle.civl_meaning.specs.Places.{spot_at}
use Rattle.civl_meaning.specs.Config.{frame_sorts}
use Rattle.civl_layers.specs.declared.cut.Cut.{Cut}
use Rattle.civl_layers.specs.declared.cut.CutKind.{CutKind}
use Rattle.civl_layers.specs.declared.cut.CutKind.TheVariants as kind
use Rattle.civl_layers.specs.Cuts.{proc_cuts}
use Rattle.civl_conditions.specs.paths.NoteValues.{note_values, steady_note_values}
use Rattle.civl_conditions.specs.paths.Paths.{Progress, Outcome, Past, Comes, progress_of}
use Rattle.civl_conditions.specs.paths.Runs.{Standing}
use Rattle.civl_conditions.specs.paths.Seen.{IsProcOf}
use Rattle.civl_conditions.specs.paths.Ends.{is_rank_loop, exit_of, cut_number, ends_block, arrived}
use Rattle.civl_conditions.specs.Values.{Begun}
use Rattle.civl_conditions.specs.Invariants.{invariants_hold}
use Rattle.civl_conditions.specs.Assumed.{cut_invariant, note_holds, refined_action, inputs_of, refined_gate, owned, assumed}
use Rattle.civl_conditions.specs.Parts.{outcome_of}
use Rattle.civl_condition_laws.specs.States.{BeginsAs}
use Rattle.civl_reduction.specs.open_blocks.Ends.{IsAssumed, Concludes}
use Rattle.civl_reduction.proofs.open_blocks.Ends.Concluding.{paths_conclude}
use Rattle.civl_reduction.specs.open_blocks.Following.{cut_ahead, led_here}
use Rattle.civl_reduction.proofs.open_blocks.Following.Leading.{led_stays}
use Rattle.civl_reduction.proofs.open_blocks.Following.Frames.{frames_arrive}
use Rattle.civl_reduction.specs.open_blocks.Open.{IsSound, beginning, begun_again, IsOpen, OpenBlocksConclude, OpenBlocksGoRound}
use Rattle.civl_reduction.proofs.open_blocks.Open.Introducing.{led_sorted}
use Rattle.civl_reduction.proofs.open_blocks.Open.Choices.{zero_choices, zeros_fit_all}

module _ (program : Program) (step q c : ℕ) (proc : Proc) (cut : Cut) (b : Begun) (bound : ℕ) (here : Standing) (store : Store) (frame : Activation) (sound : IsSound program) (opened : IsOpen program step q c proc cut b bound here store frame) where
  abbrev state : Progress
  state = led_here program step proc here

  abbrev outcome : Outcome
  outcome = outcome_of program step proc cut b

  concludes : (end : ℕ) (o : Outcome) → outcome ≡ o → arrived proc o ≡ Some end → progress_of o ≡ state → Concludes program step c proc cut b end state
  concludes end o e at is =
      paths_conclude program step q c proc cut b end state sound.layered sound.hold opened.assumed (record { arrived_at = ap (arrived proc) e ∙ at; state = ap progress_of e ∙ is })

  pub at_cut : (number : ℕ) → cut_ahead proc.body here.place ≡ Some number → Concludes program step c proc cut b (cut_number proc number) state
  at_cut number e = concludes (cut_number proc number) (Comes number state) ((frames_arrive program step proc cut (beginning b) b.chosen bound here opened.follows.on_path).0 number e) refl refl

  pub at_exit : cut_ahead proc.body here.place ≡ None → spot_at proc.body here.place ≡ None → Concludes program step c proc cut b (exit_of proc) state
  at_exit e none = concludes (exit_of proc) (Past state) ((frames_arrive program step proc cut (beginning b) b.chosen bound here opened.follows.on_path).1 e none) refl refl

pub open_blocks_conclude : OpenBlocksConclude
open_blocks_conclude program step q c proc cut b bound here store frame sound opened =
    (at_cut program step q c proc cut b bound here store frame sound opened, at_exit program step q c proc cut b bound here store frame sound opened)

-- ---- at a rank loop

begins_anew : (proc : Proc) (k : CutKind) (b : Begun) → is_rank_loop k ≡ true → BeginsAs proc k b
begins_anew proc kind.RankLoop b e = tt
begins_anew proc kind.Entry b e = absurd (false≢true e)
begins_anew proc kind.Yield b e = absurd (false≢true e)
begins_anew proc kind.YieldLoop b e = absurd (false≢true e)

either_kept : (a x y : Bool) → (a || x) ≡ true → x ≡ y → (a || y) ≡ true
either_kept true x y e h = refl
either_kept false x y e h = sym h ∙ e

implied : (a x y : Bool) → (not a || x) ≡ true → (x ≡ true → y ≡ true) → (not a || y) ≡ true
implied true x y e h = h e
implied false x y e h = refl

module _ (program : Program) (step q c : ℕ) (proc : Proc) (cut : Cut) (b : Begun) (bound : ℕ) (here : Standing) (store : Store) (frame : Activation) (number : ℕ) (there : Cut) (sound : IsSound program) (opened : IsOpen program step q c proc cut b bound here store frame)
    (sorted : HaveSorts frame.locals (frame_sorts proc)) (ahead : cut_ahead proc.body here.place ≡ Some number) (is_there : slice_get (proc_cuts proc) (cut_number proc number) ≡ Some there) (ranked : is_rank_loop there.kind ≡ true)
    (apart : pairwise_disjoint (owned program proc (cut_number proc number) (begun_again b (led_here program step proc here) b.chosen)) ≡ true) where
  abbrev end : ℕ
  end = cut_number proc number

  abbrev p : Progress
  p = led_here program step proc here

  of : IsProcOf program q step proc
  of = opened.assumed.of_cut.of_proc

  here_sorted : HaveSorts here.state.locals (frame_sorts proc)
  here_sorted = subst (λ (ls : List Value). HaveSorts ls (frame_sorts proc)) (sym opened.follows.alike.locals) sorted

  locals_same : p.locals ≡ here.state.locals
  locals_same = (led_stays program q step proc sound.layered of store (λ n. []) here.place here.state opened.follows.alike.stores).locals

  done_kept : b.done ≡ true → p.done ≡ true
  done_kept d = (led_stays program q step proc sound.layered of store (λ n. []) here.place here.state opened.follows.alike.stores).done (opened.done d)

  -- the loop's head doesn't end the block
  no_end : ends_block proc end ≡ false
  no_end = ap (λ (o : Option Cut). option_map_or (λ cut. not (is_rank_loop cut.kind)) o true) is_there ∙ ap not ranked

  invariant : note_holds (note_values program.globals proc p.store p.locals p.done b.old b.old_outs b.old_done) (cut_invariant proc there) ≡ true
  invariant =
      sym (ap (λ (ends : Bool). note_holds (if ends then steady_note_values program.globals proc p.store p.locals p.done else note_values program.globals proc p.store p.locals p.done b.old b.old_outs b.old_done) (cut_invariant proc there)) no_end)
      ∙ (at_cut program step q c proc cut b bound here store frame sound opened number ahead).invariant there is_there

  gate_same : refined_gate program proc b ≡ refined_gate program proc (begun_again b p b.chosen)
  gate_same =
      ap (λ (inputs : List Value). option_map_or (λ a. gate_holds program.globals b.old a inputs) (refined_action program proc) false) (sym (ap (inputs_of proc) locals_same ∙ opened.inputs))

  abbrev again : Begun
  again = begun_again b p (zero_choices program sound.layered step q proc of.there)

  assumed_again : assumed program step proc end there again ≡ true
  assumed_again =
      let one = and_parts (invariants_hold program step b.old) _ opened.assumed.holds in
      let two = and_parts (note_holds (note_values program.globals proc b.store b.locals b.done b.old b.old_outs b.old_done) (cut_invariant proc cut)) _ one.1 in
      let three = and_parts (b.old_done || refined_gate program proc b) _ two.1 in
      let four = and_parts (not b.old_done || b.done) _ three.1 in
      and_from (invariants_hold program step b.old) _ one.0
      (and_from (note_holds (note_values program.globals proc p.store p.locals p.done b.old b.old_outs b.old_done) (cut_invariant proc there)) _ invariant
      (and_from (b.old_done || refined_gate program proc (begun_again b p b.chosen)) _ (either_kept b.old_done _ _ three.0 gate_same)
      (and_from (not b.old_done || p.done) _ (implied b.old_done b.done p.done four.0 done_kept) apart)))

  pub goes_round : (chosen : ℕ → List Value) × IsAssumed program step q end proc there (begun_again b p chosen)
  goes_round = (
    zero_choices program sound.layered step q proc of.there,
    record {
      of_cut = record { of_proc = of; there = is_there };
      begun = record {
        store = led_sorted program step q proc sound.layered of.there here opened.fits here_sorted;
        locals = subst (λ (ls : List Value). HaveSorts ls (frame_sorts proc)) (sym locals_same) here_sorted;
        old = opened.assumed.begun.old;
        old_outs = opened.assumed.begun.old_outs;
        chosen = zeros_fit_all program sound.layered step q proc of.there there;
        begins = begins_anew proc there.kind again ranked;
      };
      holds = assumed_again;
    },
  )

pub open_blocks_go_round : OpenBlocksGoRound
open_blocks_go_round program step q c proc cut b bound here store frame number there sound opened sorted ahead is_there ranked apart =
    goes_round program step q c proc cut b bound here store frame number there sound opened sorted ahead is_there ranked apart
