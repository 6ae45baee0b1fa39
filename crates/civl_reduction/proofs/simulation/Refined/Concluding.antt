-- What the conditions on paths conclude of a block says that it is refined.
use Rattle.std.proofs.Common.{◌≡◌, ℕ, Bool, true, false, not, ◌||◌, List, [], ◌∷◌, map, refl, sym, ap, ◌∙◌, Option, None, Some}
use Rattle.std.specs.Option.{option_map_or}
use Rattle.std.proofs.lemmas.Bool.{false≢true, and_parts}
use Rattle.std.proofs.lemmas.Option.{none-some, same_Some}
use Rattle.civl_bits.specs.Value.{same_value}
use Rattle.civl_bits.specs.declared.value.Value.{Value}
use Rattle.civl_firing.specs.values.Values.{HaveSorts}
use Rattle.civl_tree.specs.declared.action.Action.{Action}
use Rattle.civl_tree.specs.declared.program.Global.{Global}
use Rattle.civl_tree.specs.declared.program.Proc.{Proc}
use Rattle.civl_tree.specs.declared.program.Refines.{Refines}
use Rattle.civl_tree.specs.declared.program.Program.{Program}
use Rattle.civl_tree.specs.rules.Names.{action_named}
use Rattle.civl_firing.specs.declared.store.Store.{Store}
use Rattle.civl_firing.specs.Eval.{values_of}
use Rattle.civl_firing.specs.Fired.{gate_holds}
use Rattle.civl_firing.specs.Stores.{IsStore}
use Rattle.civl_firing.proofs.Having.{rest_sorts}
use Rattle.civl_meaning.specs.Change.{outs_in}
use Rattle.civl_meaning.specs.Meaning.{meaning_of_action, refined}
use Rattle.civl_meaning.specs.Permissions.{pairwise_disjoint}
use Rattle.civl_layers.specs.declared.cut.Cut.{Cut}
use Rattle.civl_layers.specs.Layered.{IsLayered}
use Rattle.civl_conditions.specs.footprints.Agreement.{AgreeOn, StoresAgree, exists_at}
use Rattle.civl_conditions.proofs.footprints.Existing.{uses_what_exists}
use Rattle.civl_conditions.proofs.footprints.Keeping.{agree_back, leaves_others}
use Rattle.civl_conditions.specs.paths.Choices.{action_meant}
use Rattle.civl_conditions.specs.paths.Ends.{ends_block}
use Rattle.civl_conditions.specs.paths.NoteValues.{plain_note_values, note_values}
use Rattle.civl_conditions.specs.paths.Paths.{Progress}
use Rattle.civl_conditions.specs.paths.Seen.{IsProcOf}
use Rattle.civl_conditions.specs.Assumed.{cut_invariant, note_holds, refined_action, with_of, inputs_of, refined_gate, owned}
use Rattle.civl_conditions.specs.Invariants.{invariants_hold}
use Rattle.civl_conditions.specs.Values.{Begun, same_in, same_stores}
use Rattle.civl_condition_laws.specs.States.{frame_sorts}
use Rattle.civl_reduction.specs.open_blocks.Ends.{IsAssumed, Performs, Concludes}
use Rattle.civl_reduction.specs.simulation.Refined.{Acts, IsRefined, with_values}
use Rattle.civl_reduction.specs.simulation.Joined.{sight_old, sight_at, ConclusionsRefine}
use Rattle.civl_reduction.proofs.simulation.Refined.Joining.{in_layer}
use Rattle.civl_reduction.proofs.simulation.Refined.Withs.{withs_sorted}
use Rattle.civl_reduction.proofs.mover_laws.Moving.{same_is_equality, values_are}

-- lists of one value for each global that are the same on some
same_agree : (test other : Global → Bool) (gs : List Global) (us vs ws : List Value) → HaveSorts vs (map (λ g. g.sort) gs) → AgreeOn other gs us ws → same_in test gs vs ws ≡ true → AgreeOn test gs vs ws
same_agree test other [] [] [] [] h a e = tt
same_agree test other [] us (v ∷ vs) ws h a e = absurd (false≢true h.are)
same_agree test other [] [] [] (w ∷ ws) h a e = absurd a
same_agree test other [] (u ∷ us) [] ws h a e = absurd a
same_agree test other (g ∷ gs) us [] ws h a e = absurd (false≢true h.are)
same_agree test other (g ∷ gs) [] (v ∷ vs) ws h a e = absurd a
same_agree test other (g ∷ gs) (u ∷ us) (v ∷ vs) [] h a e = absurd a
same_agree test other (g ∷ gs) (u ∷ us) (v ∷ vs) (w ∷ ws) h a e =
    let p = and_parts (not (test g) || same_value v w) (same_in test gs vs ws) e in
    (λ t. (same_is_equality v w).0 (so (test g) t p.0), same_agree test other gs us vs ws (rest_sorts v g.sort vs (map (λ g. g.sort) gs) h) a.1 p.1)
  where
    so : (b : Bool) → b ≡ true → (not b || same_value v w) ≡ true → same_value v w ≡ true
    so true t q = q
    so false t q = absurd (false≢true t)

-- a list agrees with itself, in what it has
one_each : (gs : List Global) (vs : List Value) → HaveSorts vs (map (λ g. g.sort) gs) → AgreeOn (λ g. true) gs vs vs
one_each [] [] h = tt
one_each [] (v ∷ vs) h = absurd (false≢true h.are)
one_each (g ∷ gs) [] h = absurd (false≢true h.are)
one_each (g ∷ gs) (v ∷ vs) h = ((λ t. refl), one_each gs vs (rest_sorts v g.sort vs (map (λ g. g.sort) gs) h))

other_holds : (a b : Bool) → (a || b) ≡ true → a ≡ false → b ≡ true
other_holds true b e f = absurd (false≢true (sym f))
other_holds false b e f = e

implied : (a b : Bool) → (not a || b) ≡ true → a ≡ true → b ≡ true
implied true b e f = e
implied false b e f = absurd (false≢true f)

module _ (program : Program) (step q c : ℕ) (proc : Proc) (cut : Cut) (b : Begun) (end : ℕ) (p : Progress) (layered : IsLayered program) (a : IsAssumed program step q c proc cut b) (k : Concludes program step c proc cut b end p) (ends : ends_block proc end ≡ true)
    (kept : b.done ≡ true → p.done ≡ true) (fits : IsStore program.globals p.store) (locals_fit : HaveSorts p.locals (frame_sorts proc)) where
  abbrev of : IsProcOf program q step proc
  of = a.of_cut.of_proc

  -- what is assumed of the old values
  record Old : Type 0 where
    gate : (b.old_done || refined_gate program proc b) ≡ true
    done : (not b.old_done || b.done) ≡ true

  old : Old
  old =
      let one = and_parts (invariants_hold program step b.old) _ a.holds in
      let two = and_parts (note_holds (note_values program.globals proc b.store b.locals b.done b.old b.old_outs b.old_done) (cut_invariant proc cut)) _ one.1 in
      let three = and_parts (b.old_done || refined_gate program proc b) _ two.1 in
      let four = and_parts (not b.old_done || b.done) (pairwise_disjoint (owned program proc c b)) three.1 in
      record { gate = three.0; done = four.0 }

  stays : b.old_done ≡ true → p.done ≡ true
  stays e = kept (implied b.old_done b.done old.done e)

  agree_old : (other : Store) → StoresAgree (λ g. true) program.globals other b.old → same_stores (exists_at step) program p.store b.old ≡ true → StoresAgree (exists_at step) program.globals b.old p.store
  agree_old other u e = agree_back (exists_at step) program.globals p.store.values b.old.values (same_agree (exists_at step) (λ g. true) program.globals other.values p.store.values b.old.values fits u e)

  -- the action that is refined
  refined_there : (o : Option Action) → refined_action program proc ≡ o → option_map_or (λ x. gate_holds program.globals b.old x (inputs_of proc b.locals)) o false ≡ true
      → (action : Action) × (refined_action program proc ≡ Some action) × (gate_holds program.globals b.old action (inputs_of proc b.locals) ≡ true)
  refined_there None e g = absurd (false≢true g)
  refined_there (Some action) e g = (action, e, g)

  named : (action : Action) → refined_action program proc ≡ Some action → action_named program of.refines.action ≡ Some action
  named action e = go (action_named program a.of_cut.of_proc.refines.action) refl (sym (ap (λ (o : Option Refines). action_meant (refined program o)) a.of_cut.of_proc.refined) ∙ e)
    where
      go : (o : Option Action) → action_named program a.of_cut.of_proc.refines.action ≡ o → action_meant (meaning_of_action o) ≡ Some action → action_named program a.of_cut.of_proc.refines.action ≡ Some action
      go None n h = absurd (none-some action h)
      go (Some x) n h = n ∙ ap (λ (y : Action). Some y) (same_Some x action h)

  acts : b.old_done ≡ false → p.done ≡ true → Acts (λ chosen. chosen ≡ with_values program proc p.store p.locals) program step proc (inputs_of proc b.locals) (sight_old b) (sight_at proc p)
  acts e f =
      let r = refined_there (refined_action program proc) refl (other_holds b.old_done (refined_gate program proc b) old.gate e) in
      let d : Performs program step proc b p r.0 = k.perform r.0 ends f e r.1 in
      let withs = withs_sorted program q step proc layered a.of_cut.of_proc r.0 (named r.0 r.1) p.store p.locals fits locals_fit in
      let l = in_layer program q step proc r.0 layered a.of_cut.of_proc r.1 in
      let left = leaves_others (exists_at step) program.globals b.old r.0 (inputs_of proc b.locals) (values_of (plain_note_values program.globals proc p.store p.locals) (with_of proc.refines)) d.after a.begun.old (uses_what_exists program l.number step r.0 layered l.at l.exists) d.fires in
      record {
        action = r.0;
        refined = r.1;
        gate = r.2;
        chosen = values_of (plain_note_values program.globals proc p.store p.locals) (with_of proc.refines);
        picks = refl;
        values = withs.fit;
        fit = withs.are;
        to = d.after.0;
        fires = d.fires ∙ ap (λ (os : List Value). Some (d.after.0, os)) (sym (values_are (outs_in proc p.locals) d.after.1 d.outs));
        globals = agree_back (exists_at step) program.globals p.store.values d.after.0.values (same_agree (exists_at step) (λ g. not (exists_at step g)) program.globals b.old.values p.store.values d.after.0.values fits left d.globals);
      }

  pub refines_so : IsRefined (λ chosen. chosen ≡ with_values program proc p.store p.locals) program step proc (inputs_of proc b.locals) (sight_old b) (sight_at proc p)
  refines_so = record {
    stays = stays;
    same = λ e. agree_old b.old (one_each program.globals b.old.values a.begun.old) (k.stutter ends e);
    outs = λ e. values_are (outs_in proc p.locals) b.old_outs (k.outs ends (stays e ∙ sym e) e);
    acts = acts;
  }

pub conclusions_refine : ConclusionsRefine
conclusions_refine program step q c proc cut b end p layered a k ends kept fits locals_fit = refines_so program step q c proc cut b end p layered a k ends kept fits locals_fit
