-- What the ways of a sweep say of the path that it draws.
use Rattle.std.specs.Prelude.{slice_get, if◌then◌else◌, not, ◌&&◌, nat_eq, All}
use Rattle.std.specs.List.{Contains, list_any}
use Rattle.std.specs.Option.{option_map}
use Rattle.std.proofs.lemmas.List.Elements.{Contains-append_right}
use Rattle.std.proofs.Common.{◌≡◌, ◌∙◌, ◌⊎◌, inl, inr, ℕ, zero, suc, ◌<◌, ◌≤◌, Bool, true, false, ◌||◌, List, [], ◌∷◌, map, refl, sym, ap, subst, arith, Some}
use Rattle.std.proofs.lemmas.Bool.{false≢true, eq-eqb, ne_eqb, eqb-true, and_parts, and_right}
use Rattle.std.proofs.lemmas.Option.{none-some, slice_get_within, slice_get-map}
use Rattle.civl_bits.specs.declared.value.Value.TheVariants as value
use Rattle.civl_tree.specs.declared.program.Proc.{Proc}
use Rattle.civl_tree.specs.declared.program.Program.{Program}
use Rattle.civl_tree.specs.declared.program.Refines.{Refines}
use Rattle.civl_tree.proofs.Bools.{same_truth}
use Rattle.civl_tree.proofs.Pairs.{contains_at}
use Rattle.civl_tree.proofs.Lists.{all_at}
use Rattle.civl_layers.specs.declared.cut.Cut.{Cut}
use Rattle.civl_layers.specs.Cuts.{proc_cuts}
use Rattle.civl_firing.specs.declared.store.Store.{Store}
use Rattle.civl_terms.specs.declared.node.Node.{Node}
use Rattle.civl_terms.specs.Graphs.{Fits}
use Rattle.civl_conditions.specs.paths.Paths.{Progress, Outcome, Past, Comes, Fails, Stops, progress_of, has_failed}
use Rattle.civl_conditions.specs.paths.Flows.{Flow, flow_from}
use Rattle.civl_conditions.specs.paths.Ends.{exit_of, is_exit, cut_number, reaches, ends_from}
use Rattle.civl_moves.specs.sweeps.Sweeps.{Swept, standing}
use Rattle.civl_moves.specs.sweeps.Sweeps.{Stop as Stopped}
use Rattle.civl_moves.specs.sweeps.Draws.{is_past, is_before, IsThere, IsStop, AreStops, takes, Draws}
use Rattle.civl_moves.specs.sweeps.Flowing.{numbers_of, times, is_statement}
use Rattle.civl_moves.proofs.sweeps.Once.{ends_come_once}
use Rattle.civl_moves.proofs.sweeps.AtCuts.{ends_are_cuts}
use Rattle.civl_states.specs.formula_parts.Said.{Env}
use Rattle.civl_moves.specs.declared.sweep.Stop.{Stop}
use Rattle.civl_moves.specs.declared.sweep.Sweep.{Sweep}
use Rattle.civl_moves.specs.States.{bool_at, stop_at, swept_at, CanStop, CanSweep}
use Rattle.civl_body.specs.declared.way.Way.{Way}
use Rattle.civl_body.specs.Walks.{ends_at, IsWay, IsWalk, CanTake}
use Rattle.civl_body.specs.inner.Ways.{way_from, exit_way, ways_from}
use Rattle.civl_body.proofs.Listing.{any_where, any_none, numbers, stops_at, ways_ends, each_way}

-- ---- stops that are taken

abbrev one_if : Bool → ℕ
one_if b = if b then 1 else 0

found_times : (n : ℕ) (ds : List Stopped) (k : ℕ) (d : Stopped) → slice_get ds k ≡ Some d → d.number ≡ n → 1 ≤ times n (numbers_of ds)
found_times n [] k d e s = absurd (none-some d e)
found_times n (x ∷ ds) zero d e s =
    let same : x ≡ d = cc in
    let hit = ap one_if (eq-eqb n x.number (sym (ap (λ (y : Stopped). y.number) same ∙ s))) in
    omega (arith, hit)
found_times n (x ∷ ds) (suc k) d e s = let h = found_times n ds k d e s in omega (arith, h)

taken_times : (n : ℕ) (ds : List Stopped) → takes n ds ≡ true → 1 ≤ times n (numbers_of ds)
taken_times n [] h = absurd (false≢true h)
taken_times n (x ∷ ds) h = by (nat_eq n x.number) (x.taken) refl h (taken_times n ds)
  where
    by : (b t : Bool) → nat_eq n x.number ≡ b → ((b && t) || takes n ds) ≡ true → (takes n ds ≡ true → 1 ≤ times n (numbers_of ds)) → 1 ≤ times n (numbers_of (x ∷ ds))
    by true t e h f = let hit = ap one_if e in omega (arith, hit)
    by false t e h f = let r = f h in omega (arith, r)

-- where one stop alone has this number, it is the one that is taken
only_taken : (n : ℕ) (ds : List Stopped) (k : ℕ) (d : Stopped) → slice_get ds k ≡ Some d → d.number ≡ n → times n (numbers_of ds) ≤ 1 → takes n ds ≡ true → d.taken ≡ true
only_taken n [] k d e s o h = absurd (none-some d e)
only_taken n (x ∷ ds) zero d e s o h =
    let same : x ≡ d = cc in
    let number : nat_eq n x.number ≡ true = eq-eqb n x.number (sym (ap (λ (y : Stopped). y.number) same ∙ s)) in
    let hit = ap one_if number in
    ap (λ (y : Stopped). y.taken) (sym same) ∙ by x.taken refl hit (ap (λ (b : Bool). (b && x.taken) || takes n ds) (sym number) ∙ h)
  where
    by : (t : Bool) → x.taken ≡ t → one_if (nat_eq n x.number) ≡ 1 → (t || takes n ds) ≡ true → x.taken ≡ true
    by true p hit q = p
    by false p hit q = let r = taken_times n ds q in absurd (omega (arith, hit, r, o))
only_taken n (x ∷ ds) (suc k) d e s o h =
    let here = found_times n ds k d e s in
    by (nat_eq n x.number) x.taken refl here h (only_taken n ds k d e s (omega (arith, o)))
  where
    by : (b t : Bool) → nat_eq n x.number ≡ b → 1 ≤ times n (numbers_of ds) → ((b && t) || takes n ds) ≡ true → (takes n ds ≡ true → d.taken ≡ true) → d.taken ≡ true
    by true t p here q f = let hit = ap one_if p in absurd (omega (arith, hit, here, o))
    by false t p here q f = f q

taken_among : (n : ℕ) (ds : List Stopped) → takes n ds ≡ true → Contains (numbers_of ds) n
taken_among n [] h = absurd (false≢true h)
taken_among n (x ∷ ds) h = by (nat_eq n x.number) x.taken refl h (taken_among n ds)
  where
    by : (b t : Bool) → nat_eq n x.number ≡ b → ((b && t) || takes n ds) ≡ true → (takes n ds ≡ true → Contains (numbers_of ds) n) → Contains (numbers_of (x ∷ ds)) n
    by true t e q f = contains_at (numbers_of (x ∷ ds)) 0 n (ap (λ (k : ℕ). Some k) (sym (eqb-true n x.number e)))
    by false t e q f = Contains-append_right (x.number ∷ []) (numbers_of ds) n (f q)

stop_nth : (o : Outcome) (ds : List Stopped) (k : ℕ) (d : Stopped) → AreStops o ds → slice_get ds k ≡ Some d → IsStop o d
stop_nth o [] k d h e = absurd (none-some d e)
stop_nth o (x ∷ ds) zero d h e = subst (IsStop o) (same x d e) h.0
  where
    same : (a b : Stopped) → Some a ≡ Some b → a ≡ b
    same a b q = cc
stop_nth o (x ∷ ds) (suc k) d h e = stop_nth o ds k d h.1 e

-- ---- where a path ends

before_ends : (proc : Proc) (o : Outcome) (n : ℕ) → is_before n o ≡ true → ends_at proc o (cut_number proc n) ≡ true
before_ends proc (Past p) n h = absurd (false≢true h)
before_ends proc (Comes m p) n h = eq-eqb (cut_number proc n) (cut_number proc m) (ap (cut_number proc) (eqb-true n m h))
before_ends proc (Fails p) n h = absurd (false≢true h)
before_ends proc (Stops p) n h = absurd (false≢true h)

past_ends : (proc : Proc) (o : Outcome) → is_past o ≡ true → ends_at proc o (exit_of proc) ≡ true
past_ends proc (Past p) h = eq-eqb (exit_of proc) (exit_of proc) refl
past_ends proc (Comes m p) h = absurd (false≢true h)
past_ends proc (Fails p) h = absurd (false≢true h)
past_ends proc (Stops p) h = absurd (false≢true h)

-- past all statements, at the exit; or before a cut, at its number
ended_by : (proc : Proc) (o : Outcome) (end : ℕ) → ends_at proc o end ≡ true → ((is_past o ≡ true) × (end ≡ exit_of proc)) ⊎ ((m : ℕ) × (is_before m o ≡ true) × (end ≡ cut_number proc m))
ended_by proc (Past p) end h = inl (refl, eqb-true end (exit_of proc) h)
ended_by proc (Comes m p) end h = inr (m, eq-eqb m m refl, eqb-true end (cut_number proc m) h)
ended_by proc (Fails p) end h = absurd (false≢true h)
ended_by proc (Stops p) end h = absurd (false≢true h)

statement_is : (n : ℕ) (cut : Cut) → is_statement n cut ≡ true → n ≡ cut.statement
statement_is n cut h = eqb-true n cut.statement (and_parts _ (nat_eq n cut.statement) h).1

not_not : (a b : Bool) → not a ≡ b → a ≡ not b
not_not true b e = ap not e
not_not false b e = ap not e

and_true : (a b : Bool) → b ≡ true → (a && b) ≡ a
and_true true b e = e
and_true false b e = refl

or_false : (a b : Bool) → b ≡ false → (a || b) ≡ a
or_false true b e = refl
or_false false b e = e

pub numbers_same : (env : Env) (ns : List Node) (stops : List Stop) → numbers_of (map (stop_at env ns) stops) ≡ numbers stops
numbers_same env ns [] = refl
numbers_same env ns (s ∷ ss) = ap (λ (ks : List ℕ). s.number ∷ ks) (numbers_same env ns ss)

-- ---- a sweep that stopped where the flow ends

module _ (ns : List Node) (program : Program) (proc : Proc) (cut : Cut) (s : Sweep) (can : CanSweep ns program proc s) (refines : Refines) (some : proc.refines ≡ Some refines)
    (stops_are : numbers s.stops ≡ (flow_from proc cut).ends) (onward_is : s.onward ≡ (flow_from proc cut).onward) where
  abbrev flows : Flow
  flows = flow_from proc cut

  before_exit : (n : ℕ) → Contains flows.ends n → cut_number proc n < exit_of proc
  before_exit n c = (ends_are_cuts proc refines cut n some c).0

  at_cut : (n : ℕ) → Contains flows.ends n → (i : ℕ) (k : Cut) → slice_get (proc_cuts proc) i ≡ Some k → is_statement n k ≡ nat_eq i (cut_number proc n)
  at_cut n c = (ends_are_cuts proc refines cut n some c).1

  reaches_cut : (i : ℕ) (k : Cut) → slice_get (proc_cuts proc) i ≡ Some k → stops_at k s.stops ≡ reaches proc flows i
  reaches_cut i k e =
      let no_exit : nat_eq i (exit_of proc) ≡ false = ne_eqb i (exit_of proc) (λ q. let l = slice_get_within (proc_cuts proc) i k e in absurd (omega (arith, l, q))) in
      ap (list_any (λ (n : ℕ). is_statement n k)) stops_are
      ∙ any_where (λ n. is_statement n k) (λ n. nat_eq i (cut_number proc n)) flows.ends (λ n c. at_cut n c i k e)
      ∙ ap (λ (b : Bool). b || list_any (λ (n : ℕ). nat_eq i (cut_number proc n)) flows.ends) (sym (and_right flows.onward (is_exit proc i) no_exit))

  reaches_exit : s.onward ≡ reaches proc flows (exit_of proc)
  reaches_exit =
      let none = any_where (λ n. nat_eq (exit_of proc) (cut_number proc n)) (λ n. false) flows.ends (λ n c. ne_eqb (exit_of proc) (cut_number proc n) (λ q. let l = before_exit n c in absurd (omega (arith, l, q)))) ∙ any_none flows.ends in
      onward_is ∙ sym (and_true flows.onward (is_exit proc (exit_of proc)) (eq-eqb (exit_of proc) (exit_of proc) refl)) ∙ sym (or_false (flows.onward && is_exit proc (exit_of proc)) _ none)

  pub ends_are : map (λ (w : Way). w.end) (ways_from 0 (proc_cuts proc) s) ≡ ends_from proc cut
  ends_are = ways_ends 0 (proc_cuts proc) s (reaches proc flows) (λ i k e. reaches_cut i k e ∙ ap (reaches proc flows) (omega arith)) (reaches_exit ∙ ap (reaches proc flows) (omega arith))

  stop_can : (k : ℕ) (t : Stop) → slice_get s.stops k ≡ Some t → CanStop ns program proc t
  stop_can k t e = all_at (CanStop ns program proc) s.stops k t can.stops e

  pub ways_can : All (CanTake ns program proc) (ways_from 0 (proc_cuts proc) s)
  ways_can =
      each_way (CanTake ns program proc) 0 (proc_cuts proc) s
      (λ i k c t e h m. let q = stop_can k t h in record { taken = q.taken.sorted; ends = record { globals = q.globals; locals = q.locals; done = q.done.sorted } })
      (λ o. record { taken = can.live.sorted; ends = record { globals = can.globals; locals = can.locals; done = can.done.sorted } })

  -- ---- where it draws the path

  module _ (o : Env → Outcome) (drawn : (env : Env) → Fits env ns → Draws (o env) (swept_at env ns s)) where
    module _ (env : Env) (fits : Fits env ns) where
      abbrev d : Swept
      d = swept_at env ns s

      draws : Draws (o env) d
      draws = drawn env fits

      stops_end : (n : ℕ) → is_before n (o env) ≡ true → Contains flows.ends n
      stops_end n h = subst (λ (ks : List ℕ). Contains ks n) (numbers_same env ns s.stops ∙ stops_are) (taken_among n d.stops (draws.all n h))

      module _ (i k : ℕ) (c : Cut) (t : Stop) (at : slice_get (proc_cuts proc) i ≡ Some c) (there : slice_get s.stops k ≡ Some t) (is : is_statement t.number c ≡ true) where
        an_end : Contains flows.ends t.number
        an_end = subst (λ (ks : List ℕ). Contains ks t.number) stops_are (contains_at (numbers s.stops) k t.number (slice_get-map (λ (q : Stop). q.number) s.stops k ∙ ap (λ q. option_map (λ (q : Stop). q.number) q) there))

        number : i ≡ cut_number proc t.number
        number = eqb-true i (cut_number proc t.number) (sym (at_cut t.number an_end i c at) ∙ is)

        stopped : slice_get d.stops k ≡ Some (stop_at env ns t)
        stopped = slice_get-map (stop_at env ns) s.stops k ∙ ap (λ q. option_map (stop_at env ns) q) there

        a_stop : IsStop (o env) (stop_at env ns t)
        a_stop = stop_nth (o env) d.stops k (stop_at env ns t) draws.stops stopped

        once : times t.number (numbers_of d.stops) ≤ 1
        once = subst (λ (ks : List ℕ). times t.number ks ≤ 1) (sym (numbers_same env ns s.stops ∙ stops_are)) (ends_come_once proc cut t.number)

        taken_ends : bool_at env ns t.taken ≡ true → ends_at proc (o env) i ≡ true
        taken_ends h = ap (ends_at proc (o env)) number ∙ before_ends proc (o env) t.number (a_stop.before h)

        pub ends_taken : ends_at proc (o env) i ≡ true → bool_at env ns t.taken ≡ true
        ends_taken h = elim (ended_by proc (o env) i h) [
          | inl past ↦ let l = slice_get_within (proc_cuts proc) i c at in let e = past.1 in absurd (omega (arith, l, e))
          | inr before ↦ let m = before.0 in
              let end = stops_end m before.1 in
              let same : m ≡ t.number = statement_is m c (at_cut m end i c at ∙ eq-eqb i (cut_number proc m) before.2) ∙ sym (statement_is t.number c is) in
              only_taken t.number d.stops k (stop_at env ns t) stopped refl once (draws.all t.number (subst (λ (n : ℕ). is_before n (o env) ≡ true) same before.1))
        ]

        pub stop_taken : bool_at env ns t.taken ≡ ends_at proc (o env) i
        stop_taken = same_truth _ _ taken_ends ends_taken

        pub stop_there : ends_at proc (o env) i ≡ true → IsThere (progress_of (o env)) (stop_at env ns t)
        stop_there h = a_stop.there (ends_taken h)

      ends_live : ends_at proc (o env) (exit_of proc) ≡ true → d.live ≡ true
      ends_live h = elim (ended_by proc (o env) (exit_of proc) h) [
        | inl past ↦ draws.live ∙ past.0
        | inr before ↦ let l = before_exit before.0 (stops_end before.0 before.1) in let e = before.2 in absurd (omega (arith, l, e))
      ]

      pub exit_taken : bool_at env ns s.live ≡ ends_at proc (o env) (exit_of proc)
      exit_taken = same_truth _ _ (λ h. past_ends proc (o env) (sym draws.live ∙ h)) ends_live

      pub exit_there : ends_at proc (o env) (exit_of proc) ≡ true → progress_of (o env) ≡ standing d
      exit_there h = draws.here (ends_live h)

    stop_way : (i k : ℕ) (c : Cut) (t : Stop) → slice_get (proc_cuts proc) i ≡ Some c → slice_get s.stops k ≡ Some t → is_statement t.number c ≡ true → IsWay ns program proc o (way_from i t)
    stop_way i k c t at there is =
        let q = stop_can k t there in
        record {
          taken = record { sorted = q.taken.sorted; is = λ env f. q.taken.is env f ∙ ap value.Bool (stop_taken env f i k c t at there is) };
          globals_sorted = q.globals;
          locals_sorted = q.locals;
          done_sorted = q.done.sorted;
          globals = λ env f h. sym (ap (λ (g : Store). g.values) (stop_there env f i k c t at there is h).store);
          locals = λ env f h. sym (stop_there env f i k c t at there is h).locals;
          done = λ env f h. q.done.is env f ∙ ap value.Bool (sym (stop_there env f i k c t at there is h).done);
        }

    out_way : IsWay ns program proc o (exit_way (exit_of proc) s)
    out_way = record {
      taken = record { sorted = can.live.sorted; is = λ env f. can.live.is env f ∙ ap value.Bool (exit_taken env f) };
      globals_sorted = can.globals;
      locals_sorted = can.locals;
      done_sorted = can.done.sorted;
      globals = λ env f h. ap (λ (p : Progress). p.store.values) (sym (exit_there env f h));
      locals = λ env f h. ap (λ (p : Progress). p.locals) (sym (exit_there env f h));
      done = λ env f h. can.done.is env f ∙ ap (λ (p : Progress). value.Bool p.done) (sym (exit_there env f h));
    }

    pub is_walk : (ways : List Way) → ways ≡ ways_from 0 (proc_cuts proc) s → IsWalk ns program proc cut o (record { safe = s.safe; once = s.once; ways = ways })
    is_walk ways e = record {
      safe = record { sorted = can.safe.sorted; is = λ env f. can.safe.is env f ∙ ap value.Bool (not_not (bool_at env ns s.safe) (has_failed (o env)) (draws env f).broken) };
      once = record { sorted = can.once.sorted; is = λ env f. can.once.is env f ∙ ap value.Bool (not_not (bool_at env ns s.once) (progress_of (o env)).again (draws env f).again) };
      ends = ap (map (λ (w : Way). w.end)) e ∙ ends_are;
      ways = subst (All (IsWay ns program proc o)) (sym e)
          (each_way (IsWay ns program proc o) 0 (proc_cuts proc) s
          (λ i k c t at there is. subst (λ (n : ℕ). IsWay ns program proc o (way_from n t)) (omega arith) (stop_way i k c t at there is))
          (λ on. subst (λ (n : ℕ). IsWay ns program proc o (exit_way n s)) (omega arith) out_way));
    }
