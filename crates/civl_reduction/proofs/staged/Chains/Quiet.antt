-- A frame that waits at a yield: where no yield comes behind it before the step, the block from there is open; where one comes, the
-- block has no step, and the frame waits at its end.
use Rattle.std.proofs.Common.{◌≡◌, ◌≢◌, ℕ, ◌+◌, ◌≤◌, Bool, true, false, not, ◌||◌, List, [], ◌∷◌, length, drop, Option, None, Some, slice_get, refl, sym, ap, ◌∙◌, subst, arith}
use Rattle.std.specs.Prelude.{IsTrue, if◌then◌else◌}
use Rattle.std.specs.Option.{option_map_or}
use Rattle.std.proofs.lemmas.Bool.{false≢true}
use Rattle.std.proofs.lemmas.Option.{same_Some}
use Rattle.civl_bits.specs.declared.value.Value.{Value}
use Rattle.civl_firing.specs.values.Values.{HaveSorts}
use Rattle.civl_tree.specs.declared.program.Proc.{Proc}
use Rattle.civl_tree.specs.declared.program.Program.{Program}
use Rattle.civl_tree.specs.declared.stmt.Stmt.{Stmt}
use Rattle.civl_tree.specs.Numbering.{sizes_of}
use Rattle.civl_firing.specs.declared.store.Store.{Store}
use Rattle.civl_firing.specs.declared.scope.Scope.{Scope}
use Rattle.civl_firing.specs.Stores.{IsStore}
use Rattle.civl_meaning.specs.declared.config.Activation.{Activation}
use Rattle.civl_meaning.specs.declared.config.Running.{Running}
use Rattle.civl_meaning.specs.Rest.{Rest, rest_at, place_in, head_of}
use Rattle.civl_meaning.specs.Change.{outs_in}
use Rattle.civl_meaning.proofs.Rests.{spot_of_rest}
use Rattle.civl_layers.specs.declared.cut.Cut.{Cut}
use Rattle.civl_layers.specs.declared.cut.CutKind.{CutKind}
use Rattle.civl_layers.specs.Cuts.{proc_cuts}
use Rattle.civl_conditions.specs.footprints.Agreement.{AgreeOn}
use Rattle.civl_conditions.specs.paths.NoteValues.{note_values, steady_note_values}
use Rattle.civl_conditions.specs.paths.Paths.{Progress}
use Rattle.civl_conditions.specs.paths.Runs.{Standing, begins_by, led}
use Rattle.civl_conditions.proofs.paths.Standing.{begins_stands}
use Rattle.civl_layers.specs.Layered.{IsLayered}
use Rattle.civl_conditions.specs.paths.Ends.{is_rank_loop, cut_number, ends_block}
use Rattle.civl_conditions.specs.paths.Seen.{IsProcOf, lower_course}
use Rattle.civl_conditions.proofs.paths.Belonging.{Belongs, own_place}
use Rattle.civl_conditions.proofs.CutKinds.{yield_unranked}
use Rattle.civl_conditions.specs.Values.{Begun}
use Rattle.civl_conditions.specs.Assumed.{cut_invariant, note_holds, owned, inputs_of}
use Rattle.civl_condition_laws.specs.States.{frame_sorts}
use Rattle.civl_reduction.specs.checked.Checked.{ActionsKeepPermissions}
use Rattle.civl_reduction.specs.blocks.Blocks.{at_yield, frame_of_layer, rest_of}
use Rattle.civl_reduction.specs.open_blocks.Ends.{IsAssumed, Concludes}
use Rattle.civl_reduction.specs.open_blocks.Following.{cut_ahead, led_here, StandsAlike}
use Rattle.civl_reduction.proofs.open_blocks.Following.Leading.{led_stays}
use Rattle.civl_reduction.specs.open_blocks.Open.{IsOpen, beginning}
use Rattle.civl_reduction.proofs.open_blocks.Open.Introducing.{led_sorted}
use Rattle.civl_reduction.proofs.open_blocks.Open.Opening.{blocks_open_behind_yields}
use Rattle.civl_reduction.proofs.open_blocks.Open.Ending.{open_blocks_conclude}
use Rattle.civl_reduction.specs.blocks.Steady.{IsSteady}
use Rattle.civl_reduction.proofs.blocks.Steady.Losing.{is_steady}
use Rattle.civl_reduction.specs.blocks.Cuts.{frame_at, settled}
use Rattle.civl_reduction.specs.blocks.Shadow.{Shadowed, course_of, glided, progress_in, shadow_with}
use Rattle.civl_reduction.specs.blocks.Challenged.{allows}
use Rattle.civl_reduction.proofs.staged.Pausing.Cutting.{Head, topmost, cut_there}
use Rattle.civl_reduction.proofs.staged.Pausing.Holding.{Skips, stays, passes, settled_skips}
use Rattle.civl_reduction.proofs.staged.Pausing.Apart.{run_is_kept, known}
use Rattle.civl_reduction.specs.staged.Stops.{StopsAt}
use Rattle.civl_reduction.specs.staged.Calm.{FrameIsCalm}
use Rattle.civl_reduction.proofs.staged.Calm.Outside.{thread_of, done_other}
use Rattle.civl_reduction.specs.staged.Opened.{BlockIsOpen, IsReached}
use Rattle.civl_reduction.proofs.staged.Opened.Ahead.{yield_ahead}
use Rattle.civl_reduction.proofs.staged.Opened.Noting.{bare, locals_stay, led_alike}
use Rattle.civl_reduction.proofs.staged.Opened.Concluding.{sound, owned_apart}
use Rattle.civl_reduction.proofs.staged.Opened.Old.{is_old, led_old, merged_itself}
use Rattle.civl_reduction.proofs.staged.Opened.Next.{done_own}
use Rattle.civl_reduction.proofs.staged.Chains.Gates.{gates_stay}
use Rattle.civl_reduction.proofs.staged.Chains.Gliding.{stops_led, stops_alike, stops_here, glided_led, glided_stops, glided_alike, settled_belongs, skips_head, skips_then, settled_length}
use Rattle.civl_reduction.proofs.staged.Chains.Waiting.{WaitsAt, WaitsAtYield, cut, b, sorts, assumes, apart, layer_agrees}

-- what is said of a block's beginning is said of its end too, for each block of the procedure that ends in such a store, with such
-- locals
abbrev pub BlocksKeep : (Store → List Value → Type 0) → (Proc → List Value → Store → Bool → List Value → Type 0) → Program → ℕ → ℕ → Proc → Type 0
BlocksKeep stops says program layer q proc =
    (c : ℕ) (cut : Cut) (b : Begun) (end : ℕ) (p : Progress) → IsAssumed program (layer + 1) q c proc cut b → Concludes program (layer + 1) c proc cut b end p → IsTrue (ends_block proc end) → (b.done ≡ true → p.done ≡ true)
    → IsStore program.globals p.store → HaveSorts p.locals (frame_sorts proc) → stops p.store p.locals → says proc (inputs_of proc b.locals) b.old b.old_done b.old_outs → says proc (inputs_of proc b.locals) p.store p.done (outs_in proc p.locals)

module _ (keep : ActionsKeepPermissions) (program : Program) (layer : ℕ) (store : Store) (s : Shadowed) (t : ℕ) (f : Proc × Activation) (r : IsReached program layer store s.config)
    (thread : Running) (there : slice_get s.config.threads t ≡ Some thread) (framed : frame_of_layer program (layer + 1) thread ≡ Some f)
    (n : ℕ) (st : Stmt) (k : Rest) (p : Progress) (begins : WaitsAtYield program layer s t f n st k p) where
  -- what takes effect in all before the step
  abbrev all : Progress
  all = glided (course_of program layer f.0) (settled (rest_of f)) (progress_in program layer t s.config.store s.shadow f.1)

  -- the shadow before the step
  abbrev g : Shadowed
  g = record { config = s.config; shadow = shadow_with s.shadow t (glided (course_of program layer f.0) (settled (rest_of f)) (progress_in program layer t s.config.store s.shadow f.1)) }

  of : IsProcOf program f.1.procedure (layer + 1) f.0
  of = (topmost program (layer + 1) thread.state f framed).of

  abbrev pub K : Cut
  K = cut keep program layer store s t f r thread there framed n st k p begins.waits

  abbrev pub B : Begun
  B = b keep program layer store s t f r thread there framed n st k p begins.waits

  abbrev pub here : Standing
  here = record { place = place_in (sizes_of f.0.body) (drop 1 (rest_at f.0.body n)); state = beginning B }

  pub rest_is : rest_at f.0.body here.place ≡ k
  rest_is =
      ap (λ (x : Rest). rest_at f.0.body (place_in (sizes_of f.0.body) (drop 1 x))) begins.waits.place ∙ own_place f.0.body k begins.belongs.1

  alike : StandsAlike program (layer + 1) f.0 here s.config.store f.1
  alike = record {
    spot = spot_of_rest f.0.body here.place ∙ (ap (head_of (sizes_of f.0.body)) rest_is ∙ (sym (skips_head (sizes_of f.0.body) (rest_of f) k (skips_then (rest_of f) ((n, st) ∷ k) k begins.waits.skips (passes begins.skipped stays))) ∙ sym (spot_of_rest f.0.body f.1.place)));
    locals = begins.waits.locals;
    stores = layer_agrees keep program layer store s t f r thread there framed n st k p begins.waits;
  }

  pub opened : IsOpen program (layer + 1) f.1.procedure (cut_number f.0 n) f.0 K B 0 here s.config.store f.1
  opened =
      blocks_open_behind_yields program (layer + 1) f.1.procedure (cut_number f.0 n) f.0 K B here s.config.store f.1
      (assumes keep program layer store s t f r thread there framed n st k p begins.waits) begins.form
      (ap (λ (x : CutKind). begins_by (lower_course program (layer + 1) f.0 B.chosen) n x (beginning B)) begins.form) alike

  abbrev pub H : Progress
  H = led_here program (layer + 1) f.0 here

  -- the same by the shadow's own words
  led_is : bare H ≡ bare (led (course_of program layer f.0) k p)
  led_is =
      ap (λ (x : Rest). bare (led (lower_course program (layer + 1) f.0 (λ number. [])) x (beginning B))) rest_is
      ∙ led_alike program (layer + 1) layer f.0 (λ number. []) k (beginning B) p refl

  layered : IsLayered program
  layered = let q = r.checked in q.layered

  pub H_fits : IsStore program.globals H.store
  H_fits = led_sorted program (layer + 1) f.1.procedure f.0 layered of.there here begins.waits.fits (subst (λ (ls : List Value). HaveSorts ls (frame_sorts f.0)) (sym begins.waits.locals) (sorts keep program layer store s t f r thread there framed n st k p begins.waits))

  pub H_old : AgreeOn (is_old (layer + 1)) program.globals H.store.values s.config.store.values
  H_old = led_old program f.1.procedure (layer + 1) f.0 layered of s.config.store.values here.place (beginning B) begins.waits.old

  pub H_locals : H.locals ≡ f.1.locals
  H_locals = locals_stay (lower_course program (layer + 1) f.0 (λ number. [])) (rest_at f.0.body here.place) (beginning B) ∙ begins.waits.locals

  -- ---- where no yield comes then, the block is open

  module _ (away : at_yield k ≡ false) where
    pub all_is : bare all ≡ bare H
    all_is =
        sym begins.waits.glides
        ∙ (ap bare (begins.glide p ∙ glided_stops (course_of program layer f.0) k p away) ∙ sym led_is)

    pub store_is : all.store ≡ H.store
    store_is = ap (λ (x : Progress). x.store) all_is

    abbrev pub block : BlockIsOpen program layer g t
    block = record {
      thread = thread;
      there = there;
      f = f;
      framed = framed;
      c = cut_number f.0 n;
      cut = K;
      b = B;
      bound = 0;
      here = here;
      opened = opened;
      store = sym (merged_itself program layer s.config.store all.store (subst (λ (x : Store). AgreeOn (is_old (layer + 1)) program.globals x.values s.config.store.values) (sym store_is) H_old) ∙ store_is);
      done = sym (done_own s.shadow.done t all.done ∙ ap (λ (x : Progress). x.done) all_is);
      fits = subst (IsStore program.globals) (sym store_is) H_fits;
      calm = record {
        invariants = begins.waits.calm.invariants;
        frames = λ u q.
            subst (λ (z : Bool). FrameIsCalm program (layer + 1) p.store z (frame_at program (layer + 1) s.config.threads u)) (sym (done_other s.shadow.done t all.done u (λ x. q (ap Some (sym x))))) (begins.waits.calm.frames u q);
      };
      apart = apart keep program layer store s t f r thread there framed n st k p begins.waits;
    }

  -- ---- where one comes, the block has no step, and the frame waits there

  module _ (later : Head k) where
    abbrev j : ℕ
    j = later.number

    abbrev end : ℕ
    end = cut_number f.0 later.number

    ahead : cut_ahead f.0.body here.place ≡ Some j
    ahead = yield_ahead f.0.body here.place later.number later.stmt later.behind later.kind (ap settled rest_is ∙ later.is) later.cut later.yields

    concludes : Concludes program (layer + 1) (cut_number f.0 n) f.0 K B end H
    concludes = (open_blocks_conclude program (layer + 1) f.1.procedure (cut_number f.0 n) f.0 K B 0 here s.config.store f.1 (sound program layer store r.checked) opened).0 later.number ahead

    pub later_belongs : Belongs f.0.body ((later.number, later.stmt) ∷ later.behind)
    later_belongs = subst (Belongs f.0.body) later.is (settled_belongs f.0.body k begins.belongs.1)

    later_place : rest_at f.0.body later.number ≡ (later.number, later.stmt) ∷ later.behind
    later_place = own_place f.0.body ((later.number, later.stmt) ∷ later.behind) later_belongs

    stands : slice_get (proc_cuts f.0) end ≡ Some (record { statement = later.number; kind = later.kind })
    stands = cut_there program f.1.procedure (layer + 1) f.0 of later.number later.stmt later.kind (begins_stands f.0.body later.number later.stmt later.behind later_place) later.cut

    ends : ends_block f.0 end ≡ true
    ends = ap (λ (x : Option Cut). option_map_or (λ (y : Cut). not (is_rank_loop y.kind)) x true) stands ∙ yield_unranked later.kind later.yields

    steady : IsSteady program (layer + 1) (owned program f.0 (cut_number f.0 n) B) p.store H.store
    steady = is_steady program (layer + 1) (owned program f.0 (cut_number f.0 n) B) p.store H.store (λ target others among of_it apart_so. concludes.keeps target others among of_it ends apart_so)

    other_calm : (u : ℕ) → u ≢ t → (x : Option (Proc × Activation)) → frame_at program (layer + 1) s.config.threads u ≡ x → FrameIsCalm program (layer + 1) H.store (s.shadow.done u) x
    other_calm u ne None is = tt
    other_calm u ne (Some q) is = λ y other at.
        let z = thread_of program (layer + 1) s.config.threads u q is in
        let tp = topmost program (layer + 1) z.0.state q z.2 in
        let ch = r.checked in
        let hk = run_is_kept keep program layer store ch r.moves s.config r.are r.runs in
        let kn = known program layer s.config ch.layered ch.linear hk u z.0 tp.below q z.1 tp.is tp.of.there in
        let so = subst (λ (x : Proc). HaveSorts q.1.locals (frame_sorts x)) kn.proc kn.locals.locals in
        steady.yields q.1.procedure y q.0 other (record { locals = q.1.locals; done = s.shadow.done u }) (record { at = at.at; yields = at.yields; locals = so })
        (apart keep program layer store s t f r thread there framed n st k p begins.waits u q y other ne is at)
        (subst (λ (x : Option (Proc × Activation)). FrameIsCalm program (layer + 1) p.store (s.shadow.done u) x) is (begins.waits.calm.frames u (λ x. ne (sym (same_Some t u x)))) y other at)

    own : note_holds (steady_note_values program.globals f.0 H.store H.locals H.done) (cut_invariant f.0 (record { statement = later.number; kind = later.kind })) ≡ true
    own =
        subst (λ (z : Scope). note_holds z (cut_invariant f.0 (record { statement = later.number; kind = later.kind })) ≡ true)
        (ap (λ (z : Bool). if z then steady_note_values program.globals f.0 H.store H.locals H.done else note_values program.globals f.0 H.store H.locals H.done B.old B.old_outs B.old_done) ends)
        (concludes.invariant (record { statement = later.number; kind = later.kind }) stands)

    stays_done : p.done ≡ true → H.done ≡ true
    stays_done q = (led_stays program f.1.procedure (layer + 1) f.0 layered of s.config.store (λ number. []) here.place (beginning B) alike.stores).done q

    -- the gate, by stutter
    gate : (H.done || allows program H.store f.0 H.locals) ≡ true
    gate = by_done H.done refl
      where
        before_not : H.done ≡ false → p.done ≡ false
        before_not q = go p.done refl
          where
            go : (x : Bool) → p.done ≡ x → p.done ≡ false
            go true y = absurd (false≢true (sym q ∙ stays_done y))
            go false y = y

        allowed_before : p.done ≡ false → allows program p.store f.0 p.locals ≡ true
        allowed_before q = ap (λ (x : Bool). x || allows program p.store f.0 p.locals) (sym q) ∙ begins.waits.gate

        by_done : (x : Bool) → H.done ≡ x → (H.done || allows program H.store f.0 H.locals) ≡ true
        by_done true q = ap (λ (x : Bool). x || allows program H.store f.0 H.locals) q
        by_done false q =
            let was = before_not q in
            let same = concludes.stutter ends (q ∙ sym was) in
            ap (λ (x : Bool). x || allows program H.store f.0 H.locals) q
            ∙ (ap (allows program H.store f.0) (H_locals ∙ sym begins.waits.locals)
            ∙ (gates_stay program f.1.procedure (layer + 1) f.0 p.store H.store p.locals layered of begins.waits.fits H_fits same ∙ allowed_before was))

    -- it stops there
    stops_so : (x : Store) → StopsAt (course_of program layer f.0) ((later.number, later.stmt) ∷ later.behind) H x → StopsAt (course_of program layer f.0) (settled (rest_of f)) (progress_in program layer t s.config.store s.shadow f.1) x
    stops_so x h =
        begins.waits.stops x (begins.passes p x (stops_led (course_of program layer f.0) k p x
        (subst (λ (l : Rest). StopsAt (course_of program layer f.0) l (led (course_of program layer f.0) k p) x) (sym later.is)
        (stops_alike program layer f.0 ((later.number, later.stmt) ∷ later.behind) H (led (course_of program layer f.0) k p) x led_is h))))

    pub waits_later : WaitsAt program layer s t f later.number later.stmt later.behind H
    waits_later = record {
      place = later_place;
      skips = skips_then (rest_of f) k ((later.number, later.stmt) ∷ later.behind) (skips_then (rest_of f) ((n, st) ∷ k) k begins.waits.skips (passes begins.skipped stays)) (subst (Skips k) later.is (settled_skips k));
      kind = later.kind;
      cut = later.cut;
      yields = later.yields;
      fits = H_fits;
      old = H_old;
      locals = H_locals;
      calm = record {
        invariants = steady.invariants (owned_apart program (layer + 1) f.0 (cut_number f.0 n) K B (let a = assumes keep program layer store s t f r thread there framed n st k p begins.waits in a.holds));
        frames = λ u q. other_calm u (λ x. q (ap Some (sym x))) (frame_at program (layer + 1) s.config.threads u) refl;
      };
      own = own;
      gate = gate;
      glides =
          glided_alike program layer f.0 ((later.number, later.stmt) ∷ later.behind) H (led (course_of program layer f.0) k p) led_is
          ∙ (ap bare (ap (λ (x : Rest). glided (course_of program layer f.0) x (led (course_of program layer f.0) k p)) (sym later.is) ∙ (sym (glided_led (course_of program layer f.0) k p) ∙ sym (begins.glide p))) ∙ begins.waits.glides);
      stops = stops_so;
    }

    pub later_shorter : length ((later.number, later.stmt) ∷ later.behind) ≤ length k
    later_shorter =
        let a = settled_length k in
        let q : length (settled k) ≡ length ((later.number, later.stmt) ∷ later.behind) = ap length later.is in
        omega (arith, a, q)

    -- what is said of the yield is said of the next one, where blocks keep it
    pub later_so : (stops : Store → List Value → Type 0) → ((x : Store) → StopsAt (course_of program layer f.0) (settled (rest_of f)) (progress_in program layer t s.config.store s.shadow f.1) x → stops x f.1.locals)
        → (says : Proc → List Value → Store → Bool → List Value → Type 0) → BlocksKeep stops says program layer f.1.procedure f.0
        → says f.0 (inputs_of f.0 f.1.locals) p.store p.done (outs_in f.0 p.locals) → says f.0 (inputs_of f.0 f.1.locals) H.store H.done (outs_in f.0 H.locals)
    later_so stops all says keeps so =
        subst (λ (is : List Value). says f.0 is H.store H.done (outs_in f.0 H.locals)) (ap (inputs_of f.0) begins.waits.locals)
        (keeps (cut_number f.0 n) K B end H (assumes keep program layer store s t f r thread there framed n st k p begins.waits) concludes ends stays_done H_fits
        (subst (λ (ls : List Value). HaveSorts ls (frame_sorts f.0)) (sym H_locals) (sorts keep program layer store s t f r thread there framed n st k p begins.waits))
        (subst (stops H.store) (sym H_locals) (all H.store (stops_so H.store (stops_here (course_of program layer f.0) later.number later.stmt later.behind H later.kind later.cut later.yields))))
        (subst (λ (is : List Value). says f.0 is p.store p.done (outs_in f.0 p.locals)) (sym (ap (inputs_of f.0) begins.waits.locals)) so))
