-- A step of a block that is followed: the block goes on, or it ends and is followed by no move or by one.
use Rattle.std.proofs.Common.{◌≡◌, ℕ, ◌+◌, ◌≤◌, Bool, true, false, List, [], ◌∷◌, ◌++◌, length, map, refl, sym, ap, ◌∙◌, subst, arith, append_assoc, Option, None, Some, slice_get, inl, inr}
use Rattle.std.specs.Prelude.{All, IsTrue}
use Rattle.std.proofs.lemmas.Bool.{false≢true}
use Rattle.std.proofs.lemmas.List.{append-nil, length-append}
use Rattle.std.proofs.lemmas.Option.{none-some, same_Some}
use Rattle.civl_bits.specs.declared.value.Value.{Value}
use Rattle.civl_tree.specs.declared.program.Proc.{Proc}
use Rattle.civl_tree.specs.declared.program.Program.{Program}
use Rattle.civl_firing.specs.declared.store.Store.{Store}
use Rattle.civl_firing.specs.Fired.{gate_holds, fires}
use Rattle.civl_meaning.specs.declared.config.Activation.{Activation}
use Rattle.civl_meaning.specs.declared.config.Config as meaning
use Rattle.civl_meaning.specs.declared.config.Move as plain
use Rattle.civl_meaning.specs.declared.config.Plain.{Plain}
use Rattle.civl_meaning.specs.declared.config.Running.{Running}
use Rattle.civl_meaning.specs.declared.config.Stepped.{Stepped}
use Rattle.civl_meaning.specs.declared.config.Stepped.TheVariants as answer
use Rattle.civl_meaning.specs.Failing.{IsMove}
use Rattle.civl_meaning.specs.Layers.{program_at}
use Rattle.civl_meaning.specs.Run as run
use Rattle.civl_meaning.specs.Step as step
use Rattle.civl_conditions.specs.footprints.Agreement.{StoresAgree, exists_at}
use Rattle.civl_conditions.specs.Assumed.{inputs_of}
use Rattle.civl_reduction.specs.interleavings.Systems.{System}
use Rattle.civl_reduction.specs.interleavings.Runs.{SystemRuns, BlocksTo, Staged, ends, Opens, opened}
use Rattle.civl_reduction.specs.interleavings.Threads.{Threads, Config, Move, inside_in, stepping_of, step_of}
use Rattle.civl_reduction.specs.exchanges.Interleavings.{Chosen, Call, as_config}
use Rattle.civl_reduction.proofs.exchanges.Exchanging.{steps_back}
use Rattle.civl_reduction.specs.blocks.Blocks.{inside}
use Rattle.civl_reduction.specs.blocks.Reduces.{plain_move, plain_config, layer_threads, layer_system}
use Rattle.civl_reduction.specs.blocks.Cuts.{frame_at}
use Rattle.civl_reduction.specs.blocks.Shadow.{Shadowed, merged, seen, shadowed_step, shadowed_from, shadowed}
use Rattle.civl_reduction.specs.blocks.Challenged.{challenged}
use Rattle.civl_reduction.specs.simulation.Meets.{MeetsBeside}
use Rattle.civl_reduction.specs.simulation.Refined.{Sight, Acts, IsRefined, IsPickedBefore, IsPicked, with_values, sight, sight_before, last_frame, BlockIsRefinedBy, BlockIsRefined}
use Rattle.civl_reduction.proofs.simulation.Followed.Blocks.{leads_opens}
use Rattle.civl_reduction.proofs.simulation.Followed.Ending.{HowFollowed}
use Rattle.civl_reduction.proofs.simulation.Followed.Following.{all_follow, block_shadows, last_shadow}
use Rattle.civl_shadows.specs.declared.shadow.Shadowed as given
use Rattle.civl_shadows.specs.Shadows.{done_in, Shows}
use Rattle.civl_followed.specs.declared.walk.Opening.{Opening}
use Rattle.civl_followed.specs.Followed.{inside_at, ended, block_count}
use Rattle.civl_followed.specs.inner.Along.{Grounds, AlongAt, AlongIn, IsReady, Does, IsChosen}
use Rattle.civl_followed.proofs.Walking.{roots, made, inside_is, count_more, opens_more, stage, runs_more, all_more}

length_more : (ns : List plain.Move) (n : plain.Move) → length (ns ++ n ∷ []) ≡ length ns + 1
length_more ns n = length-append ns (n ∷ [])

module _ (program : Program) (layer : ℕ) (store : Store) (moves : List plain.Move) (g : Grounds program layer store) (b : Opening) (m : plain.Move) (kept : given.Shadowed) (x : meaning.Config) (ns rest : List plain.Move)
    (r : IsReady program layer store moves b m kept x ns rest) where
  abbrev lower : Plain
  lower = program_at program layer

  abbrev upper : Plain
  upper = program_at program (layer + 1)

  abbrev P : Threads Store Running Call Chosen (List Value)
  P = layer_threads program layer store

  abbrev Q : Threads Store Running Call Chosen (List Value)
  Q = layer_threads program (layer + 1) store

  abbrev S : System (Config Store Running) (Move Chosen)
  S = layer_system program layer store (challenged program layer store)

  abbrev at : List (Move Chosen) → Shadowed
  at ps = shadowed program layer store (map plain_move ps)

  -- just before the step
  abbrev from : Shadowed
  from = at r.ps

  abbrev last : Shadowed
  last = shadowed_from program layer (map plain_move r.ms) (at r.ps)

  -- behind it
  abbrev to : Shadowed
  to = shadowed_step program layer (shadowed_from program layer (map plain_move r.ms) (at r.ps)) (plain_move r.one)

  own : Opens S r.one.thread r.ms r.c r.e
  own = subst (λ (t : ℕ). Opens S t r.ms r.c r.e) (sym r.thread_is) r.opens

  last_leads : last.config ≡ plain_config r.e
  last_leads = leads_opens program layer store g.checked (roots program layer store moves g) (challenged program layer store) r.ms r.one.thread (at r.ps) r.c r.e r.following.meets.leads own

  made_so : step.step_of lower last.config (plain_move r.one) ≡ (answer.Moved, plain_config r.d)
  made_so = ap (λ (c : meaning.Config). step.step_of lower c (plain_move r.one)) last_leads ∙ made program layer store moves g r.e r.d r.one r.step

  to_leads : to.config ≡ plain_config r.d
  to_leads = ap (λ (z : Stepped × meaning.Config). z.1) made_so

  -- the step is made
  pub moves_on : (step.step_of lower kept.config m).0 ≡ answer.Moved
  moves_on =
      ap (λ (c : meaning.Config). (step.step_of lower c m).0) r.shows.config
      ∙ (ap (λ (n : plain.Move). (step.step_of lower last.config n).0) (sym r.one_is) ∙ ap (λ (z : Stepped × meaning.Config). z.0) made_so)

  -- ---- behind it

  module _ (new : given.Shadowed) (shows : (s : Shadowed) → Shows kept s → Shows new (shadowed_step program layer s m)) where
    shown : Shows new to
    shown = subst (λ (n : plain.Move). Shows new (shadowed_step program layer last n)) (sym r.one_is) (shows last r.shows)

    now : new.config ≡ plain_config r.d
    now = shown.config ∙ to_leads

    thread : m.thread ≡ r.one.thread
    thread = ap (λ (n : plain.Move). n.thread) (sym r.one_is)

    inside_so : (i : Bool) → inside_at program layer new.config m.thread ≡ i → inside_in P (slice_get r.d.threads r.one.thread) ≡ i
    inside_so i h =
        sym (inside_is program layer store moves g r.d r.one.thread)
        ∙ (sym (ap (λ (c : meaning.Config). inside_at program layer c r.one.thread) now) ∙ (ap (inside_at program layer new.config) (sym thread) ∙ h))

    counts : (i : Bool) → inside_in P (slice_get r.d.threads r.one.thread) ≡ i → length ns + (ended i + block_count program layer rest (plain_config r.d)) ≤ block_count program layer moves (step.start lower store)
    counts i h =
        let few = r.few in
        let is : block_count program layer (m ∷ rest) (plain_config r.e) ≡ ended i + block_count program layer rest (plain_config r.d) =
        ap (λ (n : plain.Move). block_count program layer (n ∷ rest) (plain_config r.e)) (sym r.one_is)
        ∙ (count_more program layer store moves g r.e r.d r.one rest r.step ∙ ap (λ (z : Bool). ended z + block_count program layer rest (plain_config r.d)) h) in
        omega (arith, few, is)

    -- the block goes on
    pub goes_on : inside_at program layer new.config m.thread ≡ true → AlongIn program layer store moves b new x ns rest
    goes_on i =
        let inner = inside_so true i in
        let few = counts true inner in
        record {
          ps = r.ps;
          ms = r.ms ++ r.one ∷ [];
          later = r.later;
          c = r.c;
          e = r.d;
          end = r.end;
          following = r.following;
          all = ap (λ (l : List (Move Chosen)). map plain_move (r.ps ++ l)) (append_assoc r.ms (r.one ∷ []) r.later) ∙ r.all;
          rest_is = r.rest_is;
          staged = r.staged;
          begins = r.begins;
          opens = opens_more program layer store moves g r.ms b.thread r.one r.c r.e r.d r.opens r.thread_is r.step (ap (λ (t : ℕ). inside_in P (slice_get r.d.threads t)) (sym r.thread_is) ∙ inner);
          shows = subst (Shows new) (sym (last_shadow program layer r.ms r.one (at r.ps))) shown;
          blocks =
              subst (λ (o : Option ℕ). BlocksTo S o r.later r.d None r.end) (ap (λ (z : Bool). opened z r.one.thread) inner ∙ ap (λ (t : ℕ). Some t) r.thread_is) r.blocks;
          few = omega (arith, few);
        }

    -- ---- it ends

    module _ (i : inside_at program layer new.config m.thread ≡ false) where
      outer : inside_in P (slice_get r.d.threads r.one.thread) ≡ false
      outer = inside_so false i

      abbrev gone : List (Move Chosen)
      gone = r.ps ++ (r.ms ++ r.one ∷ [])

      shadow_is : at gone ≡ to
      shadow_is = block_shadows program layer store r.ps (r.ms ++ r.one ∷ []) ∙ last_shadow program layer r.ms r.one (at r.ps)

      staged_so : challenged program layer store (map plain_move gone) ≡ false → Staged S gone None r.d
      staged_so h =
          let s = stage program layer store moves g r.ms r.ps None r.one.thread r.c r.e r.staged tt own in
          subst (λ (l : List (Move Chosen)). Staged S l None r.d) (append_assoc r.ps r.ms (r.one ∷ []))
          (ends r.one r.d s.1 s.2 r.step outer (ap (λ (l : List (Move Chosen)). challenged program layer store (map plain_move l)) (append_assoc r.ps r.ms (r.one ∷ [])) ∙ h))

      default : BlockIsRefinedBy (IsPicked program layer from to r.one.thread) program layer from last to r.one.thread
      default =
          subst (λ (q : Shadowed). BlockIsRefined program layer from last q r.one.thread) shadow_is
          (subst (λ (q : Shadowed). BlockIsRefined program layer from q (at gone) r.one.thread) (block_shadows program layer store r.ps r.ms)
          (let z = g.sound in z.refined r.ps r.ms r.one r.c r.e r.d r.staged own r.step outer))

      -- by moves of the upper program
      along : (more : List plain.Move) (y : Config Store Running) → MeetsBeside program layer to (plain_config y) → run.RunsTo upper (ns ++ more) (step.start upper store) (plain_config y) → (length (ns ++ more) ≤ length ns + 1) → All IsMove (ns ++ more)
          → AlongAt program layer store moves new (plain_config y) (ns ++ more) rest
      along more y meets runs few are =
          let all = counts false outer in
          record {
            ps = gone;
            later = r.later;
            c = r.d;
            end = r.end;
            following = record {
              meets = record { leads = ap (λ (q : Shadowed). q.config) shadow_is ∙ to_leads; meets = subst (λ (q : Shadowed). MeetsBeside program layer q (plain_config y)) (sym shadow_is) meets };
              fails = r.following.fails;
              runs = runs;
              are = are;
            };
            all = ap (map plain_move) (append_assoc r.ps (r.ms ++ r.one ∷ []) r.later ∙ ap (λ (l : List (Move Chosen)). r.ps ++ l) (append_assoc r.ms (r.one ∷ []) r.later)) ∙ r.all;
            rest_is = r.rest_is;
            staged = staged_so;
            shows = subst (Shows new) (sym shadow_is) shown;
            blocks = subst (λ (o : Option ℕ). BlocksTo S o r.later r.d None r.end) (ap (λ (z : Bool). opened z r.one.thread) outer) r.blocks;
            few = omega (arith, few, all);
          }

      -- ---- how it is followed

      abbrev Followed : (Proc × Activation → List Value → Type 0) → Type 0
      Followed picked =
          (more : List (Move Chosen)) × (y : Config Store Running) × SystemRuns (stepping_of Q) more (as_config x) y × MeetsBeside program layer to (plain_config y)
          × HowFollowed program layer store g.checked (roots program layer store moves g) picked from last to r.one more

      follows : (picked : Proc × Activation → List Value → Type 0) → BlockIsRefinedBy picked program layer from last to r.one.thread → Followed picked
      follows picked refined =
          all_follow program layer store g.checked (roots program layer store moves g) (challenged program layer store) (at r.ps) x r.following.meets.meets r.one r.c r.d r.following.meets.leads picked r.ms r.e own r.step refined

      abbrev Makes : plain.Move → Type 0
      Makes n = (y : meaning.Config) × (step.step_of upper x n ≡ (answer.Moved, y)) × AlongAt program layer store moves new y (ns ++ n ∷ []) rest

      -- by one move
      by_one : (n : plain.Move) (own_move : Move Chosen) (more : List (Move Chosen)) (y : Config Store Running) → more ≡ own_move ∷ [] → SystemRuns (stepping_of Q) more (as_config x) y → MeetsBeside program layer to (plain_config y)
          → plain_move own_move ≡ n → Makes n
      by_one n own_move more y is runs meets same =
          let h = subst (λ (l : List (Move Chosen)). SystemRuns (stepping_of Q) l (as_config x) y) is runs in
          let one_step : step_of Q (as_config x) own_move ≡ Some y = h.1 ∙ ap (λ (z : Config Store Running). Some z) h.2 in
          let plain_step : step.step_of upper x n ≡ (answer.Moved, plain_config y) =
          ap (step.step_of upper x) (sym same) ∙ steps_back upper store (inside program (layer + 1)) x (plain_move own_move) own_move.chosen.1 y one_step in
          let is_move : IsMove n = subst IsMove same own_move.chosen.1 in
          let long : length (ns ++ n ∷ []) ≡ length ns + 1 = length_more ns n in (
            plain_config y,
            plain_step,
            along (n ∷ []) y meets (runs_more upper ns n (step.start upper store) x (plain_config y) r.following.runs plain_step) (omega (arith, long)) (all_more ns n r.following.are is_move),
          )

      -- the frames as the code has them
      frames_are : last_frame (frame_at program (layer + 1) new.config.threads m.thread) (frame_at program (layer + 1) kept.config.threads m.thread)
          ≡ last_frame (frame_at program (layer + 1) to.config.threads r.one.thread) (frame_at program (layer + 1) last.config.threads r.one.thread)
      frames_are =
          ap (λ (t : ℕ). last_frame (frame_at program (layer + 1) new.config.threads t) (frame_at program (layer + 1) kept.config.threads t)) thread
          ∙ (ap (λ (c : meaning.Config). last_frame (frame_at program (layer + 1) c.threads r.one.thread) (frame_at program (layer + 1) kept.config.threads r.one.thread)) shown.config
          ∙ ap (λ (c : meaning.Config). last_frame (frame_at program (layer + 1) to.config.threads r.one.thread) (frame_at program (layer + 1) c.threads r.one.thread)) r.shows.config)

      abbrev Ended : Option (Proc × Activation)
      Ended = last_frame (frame_at program (layer + 1) new.config.threads m.thread) (frame_at program (layer + 1) kept.config.threads m.thread)

      done_now : done_in new.shadow.done.items m.thread ≡ to.shadow.done r.one.thread
      done_now = shown.shadow.done m.thread ∙ ap (λ (t : ℕ). to.shadow.done t) thread

      done_then : b.done ≡ (sight_before program layer from r.one.thread (frame_at program (layer + 1) from.config.threads r.one.thread)).done
      done_then = r.begins.done ∙ ap (λ (t : ℕ). (sight_before program layer from t (frame_at program (layer + 1) from.config.threads t)).done) (sym r.thread_is)

      -- a step outside the layer's procedures, by itself
      pub same_move : Ended ≡ None → Makes m
      same_move none = go (follows (IsPicked program layer from to r.one.thread) default)
        where
          go : Followed (IsPicked program layer from to r.one.thread) → Makes m
          go f = elim f.4 [
            | inl q ↦ by_one m r.one f.0 f.1 q.1 f.2 f.3 r.one_is
            | inr q ↦ absurd (none-some q.0 (sym (sym frames_are ∙ none) ∙ q.1))
          ]

      -- a block without a new commit, by no move
      pub no_move : (h : Proc × Activation) → Ended ≡ Some h → done_in new.shadow.done.items m.thread ≡ b.done → AlongAt program layer store moves new x ns rest
      no_move h is same = go (follows (IsPicked program layer from to r.one.thread) default)
        where
          go : Followed (IsPicked program layer from to r.one.thread) → AlongAt program layer store moves new x ns rest
          go f = elim f.4 [
            | inl q ↦ absurd (none-some h (sym q.0 ∙ (sym frames_are ∙ is)))
            | inr q ↦ elim q.2 [
              | inl z ↦
                  let here : as_config x ≡ f.1 = subst (λ (l : List (Move Chosen)). SystemRuns (stepping_of Q) l (as_config x) f.1) z.1 f.2 in
                  let there : plain_config f.1 ≡ x = ap plain_config (sym here) in
                  let none : length (ns ++ []) ≡ length ns = ap length (append-nil ns) in
                  let result = along [] f.1 f.3 (subst (λ (l : List plain.Move). run.RunsTo upper l (step.start upper store) (plain_config f.1)) (sym (append-nil ns)) (subst (run.RunsTo upper ns (step.start upper store)) (sym there) r.following.runs))
                  (omega (arith, none)) (subst (All IsMove) (sym (append-nil ns)) r.following.are) in
                  subst (λ (c : meaning.Config). AlongAt program layer store moves new c ns rest) there (subst (λ (l : List plain.Move). AlongAt program layer store moves new (plain_config f.1) l rest) (append-nil ns) result)
              | inr z ↦ absurd (false≢true (sym z.0 ∙ (sym done_then ∙ (sym same ∙ (done_now ∙ z.1)))))
            ]
          ]

      -- ---- a block with a new commit, by one move of its thread

      module _ (h : Proc × Activation) (is : Ended ≡ Some h) (fresh : b.done ≡ false) (done : done_in new.shadow.done.items m.thread ≡ true) (after : Store) (after_is : after ≡ seen program layer to) where
        there : last_frame (frame_at program (layer + 1) to.config.threads r.one.thread) (frame_at program (layer + 1) last.config.threads r.one.thread) ≡ Some h
        there = sym frames_are ∙ is

        abbrev Began : Sight
        Began = sight_before program layer (at r.ps) r.one.thread (frame_at program (layer + 1) (at r.ps).config.threads r.one.thread)

        store_then : b.store ≡ Began.store
        store_then = r.begins.store ∙ sight_store (frame_at program (layer + 1) from.config.threads r.one.thread)
          where
            sight_store : (o : Option (Proc × Activation)) → seen program layer from ≡ (sight_before program layer from r.one.thread o).store
            sight_store None = refl
            sight_store (Some f) = refl

        before_false : Began.done ≡ false
        before_false = sym done_then ∙ fresh

        after_true : to.shadow.done r.one.thread ≡ true
        after_true = sym done_now ∙ done

        -- what the law's action does, for the code
        does_so : (a : Acts (IsPicked program layer from to r.one.thread h) program (layer + 1) h.0 (inputs_of h.0 h.1.locals) Began (sight program layer to r.one.thread h)) → Does program layer h b.store after a.chosen
        does_so a = record {
          action = a.action;
          refined = a.refined;
          gate = subst (λ (z : Store). IsTrue (gate_holds program.globals z a.action (inputs_of h.0 h.1.locals))) (sym store_then) a.gate;
          chosen = a.chosen;
          picks = refl;
          values = a.values;
          fit = a.fit;
          to = a.to;
          fires = ap (λ (z : Store). fires program.globals z a.action (inputs_of h.0 h.1.locals) a.chosen) store_then ∙ a.fires;
          globals = subst (λ (z : Store). StoresAgree (exists_at (layer + 1)) program.globals a.to z) (sym after_is) a.globals;
        }

        -- and back
        acts_so : (v : List Value) → Does program layer h b.store after v → Acts (λ w. w ≡ v) program (layer + 1) h.0 (inputs_of h.0 h.1.locals) Began (sight program layer to r.one.thread h)
        acts_so v a = record {
          action = a.action;
          refined = a.refined;
          gate = subst (λ (z : Store). IsTrue (gate_holds program.globals z a.action (inputs_of h.0 h.1.locals))) store_then a.gate;
          chosen = a.chosen;
          picks = a.picks;
          values = a.values;
          fit = a.fit;
          to = a.to;
          fires = ap (λ (z : Store). fires program.globals z a.action (inputs_of h.0 h.1.locals) a.chosen) (sym store_then) ∙ a.fires;
          globals = subst (λ (z : Store). StoresAgree (exists_at (layer + 1)) program.globals a.to z) after_is a.globals;
        }

        chosen_does : (v : List Value) → IsChosen program layer h b after v → Does program layer h b.store after v
        chosen_does v (inl d) = d
        chosen_does v (inr z) =
            let a = (default.refined h there).acts before_false after_true in
            elim a.picks [
              | inl q ↦ subst (Does program layer h b.store after) (q ∙ (ap (λ (s : Store). with_values program h.0 s h.1.locals) (sym after_is) ∙ sym z.0)) (does_so a)
              | inr q ↦
                  absurd (z.1 a.chosen (r.begins.offered a.chosen (subst (λ (t : ℕ). IsPickedBefore program layer from t (frame_at program (layer + 1) from.config.threads t) a.chosen) r.thread_is q)) (does_so a))
            ]

        chosen_refined : (v : List Value) → Does program layer h b.store after v → BlockIsRefinedBy (λ f w. w ≡ v) program layer from last to r.one.thread
        chosen_refined v d = record {
          fits = default.fits;
          refined = λ f q. by_frame f (same_Some h f (sym there ∙ q)) (default.refined f q);
          exit = default.exit;
        }
          where
            by_frame : (f : Proc × Activation) → h ≡ f → IsRefined (IsPicked program layer from to r.one.thread f) program (layer + 1) f.0 (inputs_of f.0 f.1.locals) Began (sight program layer to r.one.thread f)
                → IsRefined (λ w. w ≡ v) program (layer + 1) f.0 (inputs_of f.0 f.1.locals) Began (sight program layer to r.one.thread f)
            by_frame f same k = record {
              stays = k.stays;
              same = k.same;
              outs = k.outs;
              acts = λ e z. subst (λ (p : Proc × Activation). Acts (λ w. w ≡ v) program (layer + 1) p.0 (inputs_of p.0 p.1.locals) Began (sight program layer to r.one.thread p)) same (acts_so v d);
            }

        pub one_move : (v : List Value) → IsChosen program layer h b after v → Makes (record { thread = m.thread; choices = v })
        one_move v chosen = go (follows (λ f w. w ≡ v) (chosen_refined v (chosen_does v chosen)))
          where
            go : Followed (λ f w. w ≡ v) → Makes (record { thread = m.thread; choices = v })
            go f = elim f.4 [
              | inl q ↦ absurd (none-some h (sym q.0 ∙ there))
              | inr q ↦ elim q.2 [
                | inl z ↦ absurd (false≢true (sym before_false ∙ (sym z.0 ∙ after_true)))
                | inr z ↦
                    by_one (record { thread = m.thread; choices = v }) (record { thread = r.one.thread; chosen = z.2 }) f.0 f.1 z.4 f.2 f.3
                    (ap (λ (t : ℕ). record { thread = t; choices = z.2.0 }) (sym thread) ∙ ap (λ (vs : List Value). record { thread = m.thread; choices = vs }) z.3)
              ]
            ]

      -- where `done` differs, a commit was passed in the block
      pub differs : (h : Proc × Activation) → Ended ≡ Some h → (done_in new.shadow.done.items m.thread ≡ b.done → ⊥) → (b.done ≡ false) × (done_in new.shadow.done.items m.thread ≡ true)
      differs h is other = go (follows (IsPicked program layer from to r.one.thread) default)
        where
          go : Followed (IsPicked program layer from to r.one.thread) → (b.done ≡ false) × (done_in new.shadow.done.items m.thread ≡ true)
          go f = elim f.4 [
            | inl q ↦ absurd (none-some h (sym q.0 ∙ (sym frames_are ∙ is)))
            | inr q ↦ elim q.2 [ inl z ↦ absurd (other (done_now ∙ (z.0 ∙ sym done_then))) | inr z ↦ (done_then ∙ z.0, done_now ∙ z.1) ]
          ]

      merged_is : merged program layer new.config.store new.shadow.store ≡ seen program layer to
      merged_is = ap (λ (c : meaning.Config). merged program layer c.store new.shadow.store) shown.config ∙ ap (λ (z : Store). merged program layer to.config.store z) shown.shadow.store

      pub one_merged : (h : Proc × Activation) → Ended ≡ Some h → (done_in new.shadow.done.items m.thread ≡ b.done → ⊥) → (v : List Value) → IsChosen program layer h b (merged program layer new.config.store new.shadow.store) v
          → Makes (record { thread = m.thread; choices = v })
      one_merged h is other v chosen =
          let d = differs h is other in
          one_move h is d.0 d.1 (merged program layer new.config.store new.shadow.store) merged_is v chosen
