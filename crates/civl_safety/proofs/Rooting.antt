-- The topmost program runs roots, which call actions.
use Rattle.std.proofs.Common.{◌≡◌, ℕ, ◌<◌, ◌≤◌, Bool, true, false, not, ◌&&◌, ◌||◌, [], ◌∷◌, length, Option, Some, None, refl, sym, ap, ◌∙◌, subst, inl, inr, ◌⊎◌, arith}
use Rattle.std.specs.Prelude.{slice_get, nat_eq, is_none, is_some, IsTrue, if◌then◌else◌}
use Rattle.std.specs.List.{list_any}
use Rattle.std.specs.Option.{option_map_or}
use Rattle.std.proofs.lemmas.Bool.{false≢true, eqb-true, cases_lt, le-ltb, not-false}
use Rattle.std.proofs.lemmas.Option.{same_Some, none-some}
use Rattle.civl_tree.specs.declared.name.Name.{Name}
use Rattle.civl_tree.specs.declared.action.Action.{Action}
use Rattle.civl_tree.specs.declared.stmt.Stmt.{Stmt, out-Stmt}
use Rattle.civl_tree.specs.declared.stmt.Stmt.TheOpen.{Stmt-F, Spawn, Yield, Commit, Intro}
use Rattle.civl_tree.specs.declared.program.Proc.{Proc}
use Rattle.civl_tree.specs.declared.program.Refines.{Refines}
use Rattle.civl_tree.specs.declared.program.Thread.{Thread}
use Rattle.civl_tree.specs.declared.program.Program.{Program}
use Rattle.civl_tree.specs.Numbering.{proc_item, sizes_of, statements_of, statement_at}
use Rattle.civl_tree.specs.rules.Names.{action_named, proc_named}
use Rattle.civl_tree.specs.rules.Rules.{Keeps, statements_where, each_place}
use Rattle.civl_tree.proofs.Numbers.{sizes_are_counts}
use Rattle.civl_tree.proofs.Kept.{statement_kept}
use Rattle.civl_tree.proofs.Lists.{any_place, get_there, none_left, none_right}
use Rattle.civl_meaning.specs.declared.config.Plain.{Plain}
use Rattle.civl_meaning.specs.Meaning.{Runs, proc_number, refined, meaning_by, meaning_of, meaning_else, called}
use Rattle.civl_meaning.specs.Layers.{means_body, topmost}
use Rattle.civl_meaning.specs.Places.{Spot, is_skipped, skip_layer, spot_at}
use Rattle.civl_meaning.specs.Rest.{Rest, place_in, head_of}
use Rattle.civl_meaning.specs.Config.{begins_threads, spawns, layer_spawns}
use Rattle.civl_meaning.proofs.Begun.{proc_is}
use Rattle.civl_meaning.proofs.Rests.{spot_of_rest}
use Rattle.civl_meaning.proofs.Stacking.{refined_runs_not}
use Rattle.civl_meaning.proofs.Bodies.{bodies_at}
use Rattle.civl_layers.specs.Layered.{IsLayered}
use Rattle.civl_layers.proofs.PlainPrograms.{layered_is_plain}
use Rattle.civl_conditions.proofs.paths.Belonging.{exit_is}
use Rattle.civl_conditions.proofs.paths.Heading.{number_begins}
use Rattle.civl_yields.specs.Places.{form_misplaced, stmt_misplaced}
use Rattle.civl_yields.specs.YieldRules.{commit_rule, yield_rules}
use Rattle.civl_condition_laws.proofs.Nearby.{layer_within}
use Rattle.civl_reduction.specs.permissions.Apart.{SpawnsStandInRoots}
use Rattle.civl_goals.specs.Listed.{is_root}
use Rattle.civl_goals.specs.Rules.{names_layered, names_root, form_descends, descending_in, descending_thread, descending}
use Rattle.civl_safety.proofs.Listing.{none_shown, places_none, numbers_none, statements_none}

pub root_refines : (proc : Proc) → is_root proc ≡ true → proc.refines ≡ None
root_refines proc = go proc.refines
  where
    go : (o : Option Refines) → option_map_or (λ r. false) o true ≡ true → o ≡ None
    go None e = refl
    go (Some r) e = absurd (false≢true e)

pub refines_root : (proc : Proc) → proc.refines ≡ None → is_root proc ≡ true
refines_root proc e = ap (λ (o : Option Refines). option_map_or (λ r. false) o true) e

not_root : (proc : Proc) → is_root proc ≡ false → (r : Refines) × (proc.refines ≡ Some r)
not_root proc = go proc.refines
  where
    go : (o : Option Refines) → option_map_or (λ r. false) o true ≡ false → (r : Refines) × (o ≡ Some r)
    go None e = absurd (false≢true (sym e))
    go (Some r) e = (r, refl)

module _ (program : Program) (layered : IsLayered program) where
  abbrev plain : Plain
  plain = topmost program

  -- a root means its body
  pub root_runs : (k : ℕ) (proc : Proc) → slice_get program.procs k ≡ Some proc → is_root proc ≡ true → meaning_of plain k ≡ Runs k proc
  root_runs k proc at root =
      ap (λ (b : Option Bool). meaning_by program b k (slice_get program.procs k)) ((layered_is_plain program layered program.layers).roots k proc at (root_refines proc root)) ∙ ap (λ (o : Option Proc). meaning_by program (Some true) k o) at

  -- and any other procedure means an action
  other_acts : (k : ℕ) (proc : Proc) → slice_get program.procs k ≡ Some proc → is_root proc ≡ false → (n : ℕ) (p : Proc) → meaning_of plain k ≡ Runs n p → ⊥
  other_acts k proc at other n p e =
      let r = not_root proc other in
      let within = (layer_within program layered r.0.layer k proc (record { there = at; refines = r.0; refined = r.1; layered = refl })).1 in
      let body : slice_get plain.bodies k ≡ Some false = bodies_at program.layers program.procs k proc at ∙ ap Some (ap (means_body program.layers) r.1 ∙ le-ltb program.layers r.0.layer within) in
      refined_runs_not program proc.refines n p
      (sym (ap (λ (b : Option Bool). meaning_by program b k (slice_get program.procs k)) body ∙ ap (λ (o : Option Proc). meaning_by program (Some false) k o) at) ∙ e)

  module _ (yields : Keeps yield_rules program) where
    -- a root has no statement that is passed over
    stays : (s : Stmt) → form_misplaced false (out-Stmt s) ≡ false → is_skipped s ≡ false
    stays s = go (out-Stmt s)
      where
        go : (d : Stmt-F Stmt) → form_misplaced false d ≡ false → skip_layer d ≡ false
        go (Yield e) h = absurd (false≢true (sym h))
        go Commit h = absurd (false≢true (sym h))
        go (Intro x e) h = absurd (false≢true (sym h))
        go _ h = refl

    module _ (r : ℕ) (proc : Proc) (at : slice_get program.procs r ≡ Some proc) (root : is_root proc ≡ true) where
      not_skipped : (n : ℕ) (s : Stmt) → statement_at proc.body n ≡ Some s → is_skipped s ≡ false
      not_skipped n s here =
          stays s (sym (ap (λ (o : Option Refines). form_misplaced (is_some o) (out-Stmt s)) (root_refines proc root))
          ∙ statement_kept yield_rules program yields commit_rule (2, omega arith, refl) (stmt_misplaced proc) r proc at refl n s here)

      -- so what stands at a place is the statement with this number
      pub root_spot : (w : ℕ) → w ≤ sizes_of proc.body → (spot : Spot) → spot_at proc.body w ≡ Some spot → (spot.number ≡ w) × (statement_at proc.body w ≡ Some spot.stmt)
      root_spot w h spot e = go (cases_lt w (sizes_of proc.body))
        where
          counts : length (statements_of proc.body) ≡ sizes_of proc.body
          counts = sizes_are_counts proc.body

          first : (s : Stmt) (k : Rest) → is_skipped s ≡ false → statement_at proc.body w ≡ Some s → head_of (sizes_of proc.body) ((w, s) ∷ k) ≡ Some spot → (spot.number ≡ w) × (statement_at proc.body w ≡ Some spot.stmt)
          first s k q here f =
              let same : record { number = w; stmt = s; next = place_in (sizes_of proc.body) k } ≡ spot =
              same_Some _ spot (sym (ap (λ (b : Bool). if b then head_of (sizes_of proc.body) k else Some (record { number = w; stmt = s; next = place_in (sizes_of proc.body) k })) q) ∙ f) in
              (sym (ap (λ (x : Spot). x.number) same), here ∙ ap (λ (x : Spot). Some x.stmt) same)

          go : (w < sizes_of proc.body) ⊎ (sizes_of proc.body ≤ w) → (spot.number ≡ w) × (statement_at proc.body w ≡ Some spot.stmt)
          go (inl l) =
              let s = get_there (statements_of proc.body) w (omega (arith, counts, l)) in
              let b = number_begins proc.body w s.0 s.1 in
              first s.0 b.0 (not_skipped w s.0 s.1) s.1 (ap (head_of (sizes_of proc.body)) (sym b.1) ∙ (sym (spot_of_rest proc.body w) ∙ e))
          go (inr g) =
              let same : sizes_of proc.body ≡ w = omega (arith, g, h) in
              absurd (none-some spot (sym (subst (λ (n : ℕ). spot_at proc.body n ≡ None) same (spot_of_rest proc.body (sizes_of proc.body) ∙ ap (head_of (sizes_of proc.body)) (exit_is proc.body))) ∙ e))

  module _ (flat : descending program ≡ []) where
    thread_descends : (i : ℕ) (t : Thread) → slice_get program.threads i ≡ Some t → names_layered program t.callee ≡ false
    thread_descends i t at =
        none_shown (names_layered program t.callee) _ []
        (places_none (descending_thread program) 0 program.threads i i t at (omega arith) (none_right (each_place (descending_in program) 0 program.procs) (each_place (descending_thread program) 0 program.threads) flat))

    pub statement_descends : (r : ℕ) (proc : Proc) → slice_get program.procs r ≡ Some proc → is_root proc ≡ true → (s : ℕ) (stmt : Stmt) → statement_at proc.body s ≡ Some stmt → form_descends program (out-Stmt stmt) ≡ false
    statement_descends r proc at root s stmt here =
        numbers_none (λ stmt. form_descends program (out-Stmt stmt)) 0 (statements_of proc.body) s stmt here
        (sym (ap (λ (b : Bool). if b then statements_where (λ stmt. form_descends program (out-Stmt stmt)) proc else []) root)
        ∙ statements_none (proc_item program r) _
        (places_none (descending_in program) 0 program.procs r r proc at (omega arith) (none_left (each_place (descending_in program) 0 program.procs) (each_place (descending_thread program) 0 program.threads) flat)))

    -- what isn't a procedure that refines an action is a root
    pub named_root : (name : Name) (proc : Proc) → names_layered program name ≡ false → slice_get program.procs (proc_number program name) ≡ Some proc → is_root proc ≡ true
    named_root name proc h at =
        not-false (is_root proc) (sym (ap (λ (o : Option Proc). option_map_or (λ p. not (is_root p)) o false) (sym (proc_is program name) ∙ at)) ∙ h)

    -- threads run roots
    pub callee_root : SpawnsStandInRoots program → (k : ℕ) → IsTrue (begins_threads program k) → (proc : Proc) → slice_get program.procs k ≡ Some proc → is_root proc ≡ true
    callee_root roots k begins proc at = by_cases (list_any (λ (t : Thread). nat_eq (proc_number program t.callee) k) program.threads) refl begins
      where
        by_form : (i : ℕ) (caller : Proc) → slice_get program.procs i ≡ Some caller → (n : ℕ) (stmt : Stmt) → statement_at caller.body n ≡ Some stmt → (d : Stmt-F Stmt) → out-Stmt stmt ≡ d → layer_spawns program k d ≡ true → is_root proc ≡ true
        by_form i caller there n stmt here (Spawn f es) q h =
            let number : proc_number program f ≡ k = eqb-true (proc_number program f) k h in
            let root = refines_root caller (roots i caller there n stmt here f es q) in
            let flat_here = subst (λ (d : Stmt-F Stmt). form_descends program d ≡ false) q (statement_descends i caller there root n stmt here) in
            named_root f proc flat_here (ap (slice_get program.procs) number ∙ at)
        by_form i caller there n stmt here _ q h = absurd (false≢true h)

        by_cases : (b : Bool) → list_any (λ (t : Thread). nat_eq (proc_number program t.callee) k) program.threads ≡ b → (b || list_any (λ (p : Proc). list_any (spawns program k) (statements_of p.body)) program.procs) ≡ true → is_root proc ≡ true
        by_cases true e h =
            let t = any_place (λ (t : Thread). nat_eq (proc_number program t.callee) k) program.threads e in
            let number : proc_number program t.1.callee ≡ k = eqb-true (proc_number program t.1.callee) k t.3 in
            named_root t.1.callee proc (thread_descends t.0 t.1 t.2) (ap (slice_get program.procs) number ∙ at)
        by_cases false e h =
            let p = any_place (λ (p : Proc). list_any (spawns program k) (statements_of p.body)) program.procs h in
            let s = any_place (spawns program k) (statements_of p.1.body) p.3 in
            by_form p.0 p.1 p.2 s.0 s.1 s.2 (out-Stmt s.1) refl s.3

    -- and a root's call isn't one of a body
    pub call_acts : (f : Name) → names_root program f ≡ false → (n : ℕ) (p : Proc) → called plain f ≡ Runs n p → ⊥
    call_acts f h n p e = by_action (action_named program f) refl e
      where
        by_proc : (o : Option Proc) → proc_named program f ≡ o → option_map_or is_root o false ≡ false → meaning_of plain (proc_number program f) ≡ Runs n p → ⊥
        by_proc None q k m =
            let none : slice_get program.procs (proc_number program f) ≡ None = proc_is program f ∙ q in
            missing (slice_get plain.bodies (proc_number program f)) (sym (ap (λ (o : Option Proc). meaning_by program (slice_get plain.bodies (proc_number program f)) (proc_number program f) o) none) ∙ m)
          where
            missing : (b : Option Bool) → meaning_by program b (proc_number program f) None ≡ Runs n p → ⊥
            missing b w = cc
        by_proc (Some proc) q k m = other_acts (proc_number program f) proc (proc_is program f ∙ q) k n p m

        by_action : (o : Option Action) → action_named program f ≡ o → meaning_else plain f o ≡ Runs n p → ⊥
        by_action (Some a) q m = cc
        by_action None q m = by_proc (proc_named program f) refl (sym (ap (λ (o : Option Action). is_none o && option_map_or is_root (proc_named program f) false) q) ∙ h) m
