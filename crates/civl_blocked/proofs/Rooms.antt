-- Room for blocks, and where a run stands.
use Rattle.std.proofs.Common.{ℕ, ◌+◌, ◌≤◌, ◌≡◌, ◌≢◌, true, false, List, [], ◌∷◌, ◌++◌, length, Option, None, Some, refl, sym, ap, subst, ◌∙◌, arith, inl, inr, ◌⊎◌, slice_get, length-append, Result, Ok, Err}
use Rattle.std.specs.Prelude.{All, IsTrue, IfOk}
use Rattle.std.proofs.lemmas.List.{append-nil}
use Rattle.std.proofs.lemmas.Bool.{false≢true}
use Rattle.std.proofs.lemmas.Option.{same_Some, none-some}
use Rattle.std.proofs.lemmas.Map.Keys.{any_passes_from_place}
use Rattle.std.proofs.lemmas.List.Elements.{All-append}
use Rattle.civl_meaning.specs.declared.config.Move.{Move}
use Rattle.civl_meaning.specs.declared.config.Config.{Config}
use Rattle.civl_meaning.specs.declared.config.Stepped.{Stepped}
use Rattle.civl_meaning.specs.declared.config.Stepped.TheVariants as answer
use Rattle.civl_meaning.specs.Step.{step_of}
use Rattle.civl_meaning.specs.Run as meaning
use Rattle.civl_meaning.specs.Failing.{IsMove, thread_fails, is_failing}
use Rattle.civl_meaning.specs.Layers.{program_at}
use Rattle.civl_reduction.specs.interleavings.Systems.{Failing, System}
use Rattle.civl_reduction.specs.interleavings.Runs.{SystemRuns}
use Rattle.civl_reduction.specs.interleavings.Reduction.{Place, Between, Early, Late, is_inside}
use Rattle.civl_reduction.proofs.interleavings.Staging.{staged_runs}
use Rattle.civl_shadows.specs.declared.shadow.Shadowed as kept
use Rattle.civl_reduction.specs.gathering.Gathered.{others, counted, AllPass}
use Rattle.civl_reduction.proofs.gathering.Gathering.{others_mine}
use Rattle.civl_reduction.proofs.gathering.Counting.{others_more, counted_behind, counted_last}
use Rattle.civl_reduction.specs.gathered.System.{made, there_fails}
use Rattle.civl_reduction.specs.gathered.Laws.{IsReached, PlacesAreInside, by_thread}
use Rattle.civl_blocked.specs.declared.ground.Ground.{Ground}
use Rattle.civl_blocked.specs.inner.Segments.{IsGround, over, place_on, program_of}
use Rattle.civl_blocked.specs.inner.Turning.{Standing, Room, ended, left_of, measure_of}
use Rattle.civl_blocked.specs.inner.Completed.{OfferedOn}
use Rattle.civl_blocked.proofs.Strides.{runs_join}
use Rattle.civl_blocked.proofs.Joinings.{blocks_run}

pub ok_map : {A E : Type 0} (P Q : A → Type 0) (r : Result A E) → ((x : A) → P x → Q x) → IfOk r P → IfOk r Q
ok_map P Q (Ok x) f h = f x h
ok_map P Q (Err e) f h = tt

pub others_last : (u : ℕ) (ms : List Move) (m : Move) → m.thread ≡ u → others by_thread u (ms ++ m ∷ []) ≡ others by_thread u ms
others_last u ms m e = others_more by_thread u ms (m ∷ []) ∙ (ap (λ l. others by_thread u ms ++ l) (others_mine by_thread u m [] e) ∙ append-nil (others by_thread u ms))

module _ (g : Ground) (bound before : ℕ) (done : List Move) (o : Option ℕ) where
  pub room_less : (whole part less fewer : ℕ) → Room g bound before done o whole part → less ≤ whole → fewer ≤ part → Room g bound before done o less fewer
  room_less whole part less fewer r h k = record {
    none = λ e. (let x = r.none e in let a = x.0 in let b = x.1 in (omega (arith, a, h), omega (arith, b, h)));
    some = λ v e. (let x = r.some v e in let a = x.0 in let b = x.1 in (omega (arith, a, k), omega (arith, b, k)));
  }

  -- where a block is open the others alone matter
  pub room_open : (u whole part more same : ℕ) → o ≡ Some u → Room g bound before done o whole part → same ≡ part → Room g bound before done o more same
  room_open u whole part more same is r e = record {
    none = λ n. absurd (none-some u (sym n ∙ is));
    some = λ v q. (let x = r.some v q in let a = x.0 in let b = x.1 in (omega (arith, a, e), omega (arith, b, e)));
  }

  pub room_of : (u : ℕ) (ms : List Move) (m : Move) (rest items : List Move) → items ≡ ms ++ m ∷ [] → m.thread ≡ u
      → Room g bound before done o (length ms + 1 + length rest) (length (others by_thread u ms) + length rest) → Room g bound before done o (length items) (length (others by_thread u items))
  room_of u ms m rest items e mine r =
      let a = ap length e ∙ length-append ms (m ∷ []) in
      let b = ap length (ap (others by_thread u) e ∙ others_last u ms m mine) in
      room_less (length ms + 1 + length rest) (length (others by_thread u ms) + length rest) (length items) (length (others by_thread u items)) r (omega (arith, a)) (omega (arith, b))

-- ---- runs

pub pass_runs : {C M : Type 0} (S : System C M) (t : ℕ) (ms : List M) (c e : C) → AllPass S t ms c e → SystemRuns S.steps ms c e
pass_runs S t [] c e a = a
pass_runs S t (m ∷ ms) c e a = (a.0, a.1.0, pass_runs S t ms a.0 e a.2)

pub pass_join : {C M : Type 0} (S : System C M) (t : ℕ) (ms ns : List M) (c d e : C) → AllPass S t ms c d → AllPass S t ns d e → AllPass S t (ms ++ ns) c e
pass_join S t [] ns c d e a b = subst (λ x. AllPass S t ns x e) (sym a) b
pass_join S t (m ∷ ms) ns c d e a b = (a.0, a.1, pass_join S t ms ns a.0 d e a.2 b)

module _ (g : Ground) where
  pub offered_passes : (t : ℕ) (os : List Move) (c d : Config) → OfferedOn g t os c d → AllPass (over g) t os c d
  offered_passes t [] c d a = a
  offered_passes t (m ∷ os) c d a = (a.0, (a.2, λ w. a.3), offered_passes t os a.0 d a.4)

  pub offered_others : (t : ℕ) (os : List Move) (c d : Config) → OfferedOn g t os c d → others by_thread t os ≡ []
  offered_others t [] c d a = refl
  offered_others t (m ∷ os) c d a = others_mine by_thread t m os (ap (λ (x : Move). x.thread) a.1) ∙ offered_others t os a.0 d a.4

  pub others_same : (t : ℕ) (ms os : List Move) (c d : Config) → OfferedOn g t os c d → others by_thread t (ms ++ os) ≡ others by_thread t ms
  others_same t ms os c d a = others_more by_thread t ms os ∙ (ap (λ l. others by_thread t ms ++ l) (offered_others t os c d a) ∙ append-nil (others by_thread t ms))

  pub standing_reached : (done : List Move) (o : Option ℕ) (beside : kept.Shadowed) → Standing g done o beside → IsReached (program_of g) g.layer g.store.now beside.config
  standing_reached done o beside s = record { moves = done; are_moves = s.done_moves; runs = blocks_run (over g) done None o (over g).start beside.config (staged_runs (over g) s.staged) }

  pub end_reached : (done : List Move) (o : Option ℕ) (beside : kept.Shadowed) (t : ℕ) (ms : List Move) (e : Config) → Standing g done o beside → All IsMove ms → AllPass (over g) t ms beside.config e → IsReached (program_of g) g.layer g.store.now e
  end_reached done o beside t ms e s v a =
      record { moves = done ++ ms; are_moves = All-append IsMove done ms s.done_moves v; runs = runs_join (over g) done ms (over g).start beside.config e (blocks_run (over g) done None o (over g).start beside.config (staged_runs (over g) s.staged)) (pass_runs (over g) t ms beside.config e a) }

  -- ---- as the program has it

  moved_is : (x : Stepped × Config) (d : Config) → made x ≡ Some d → x ≡ (answer.Moved, d)
  moved_is (answer.Moved, e) d h = ap (λ (c : Config). (answer.Moved, c)) (same_Some e d h)
  moved_is (answer.Blocked, e) d h = absurd (none-some d h)
  moved_is (answer.NoThread, e) d h = absurd (none-some d h)
  moved_is (answer.Ended, e) d h = absurd (none-some d h)
  moved_is (answer.Failing, e) d h = absurd (none-some d h)
  moved_is (answer.BadChoices, e) d h = absurd (none-some d h)

  pub plain_runs : (ms : List Move) (c e : Config) → SystemRuns (over g).steps ms c e → meaning.RunsTo (program_at (program_of g) g.layer) ms c e
  plain_runs [] c e r = r
  plain_runs (m ∷ ms) c e r = (r.0, moved_is (step_of (program_at (program_of g) g.layer) c m) r.0 r.1, plain_runs ms r.0 e r.2)

  pub plain_fails : (e : Config) → Failing (over g).steps e → IsTrue (is_failing (program_at (program_of g) g.layer) e)
  plain_fails e f = go (slice_get e.threads f.0) refl f.1
    where
      go : (o : Option _) → slice_get e.threads f.0 ≡ o → there_fails (program_at (program_of g) g.layer) e.store o ≡ true → IsTrue (is_failing (program_at (program_of g) g.layer) e)
      go None q h = absurd (false≢true h)
      go (Some x) q h = any_passes_from_place (thread_fails (program_at (program_of g) g.layer) e.store) e.threads f.0 x q h

  -- ---- places

  between_is : (p : Place) → is_inside p ≡ false → p ≡ Between
  between_is Between e = refl
  between_is Early e = absurd (false≢true (sym e))
  between_is Late e = absurd (false≢true (sym e))

  pub stands_between : IsGround g → PlacesAreInside → (c : Config) (t : ℕ) → (over g).inside c t ≡ false → place_on g c t ≡ Between
  stands_between ground law c t e = between_is (place_on g c t) (sym (law (program_of g) g.layer g.store.now c t ground.checked) ∙ e)

  pub late_or_between : (p : Place) → p ≢ Early → (p ≡ Between) ⊎ (p ≡ Late)
  late_or_between Between n = inl refl
  late_or_between Early n = absurd (n refl)
  late_or_between Late n = inr refl

  -- ---- counting

  pub counted_end : (t : ℕ) (all ms rest : List Move) (m : Move) (c d e : Config) → all ≡ ms ++ m ∷ rest → AllPass (over g) t ms c d → m.thread ≡ t → (over g).step d m ≡ Some e → (over g).inside e t ≡ false
      → counted (over g) t all c ≡ length (others by_thread t ms) + length rest
  counted_end t all ms rest m c d e is a w s i =
      let x = ap (λ l. counted (over g) t l c) is in
      let y = counted_behind (over g) t ms (m ∷ rest) c d a in
      let z = counted_last (over g) t m rest d e s w i in
      omega (arith, x, y, z)

  pub counted_whole : (t : ℕ) (all ms : List Move) (c d : Config) → all ≡ ms → AllPass (over g) t ms c d → counted (over g) t all c ≡ length (others by_thread t ms)
  counted_whole t all ms c d is a =
      let x = ap (λ l. counted (over g) t l c) (is ∙ sym (append-nil ms)) in
      let y = counted_behind (over g) t ms [] c d a in
      omega (arith, x, y)

  pub room_from : (bound : ℕ) (done : List Move) (o : Option ℕ) (u : ℕ) (rest : List Move) (c : Config) (whole part : ℕ) → o ≡ Some u → counted (over g) u rest c ≡ part
      → ended g done + left_of g o rest c ≤ bound → Room g bound (measure_of g o rest c) done o whole part
  room_from bound done o u rest c whole part is e few = subst (λ q. Room g bound (measure_of g q rest c) done o whole part) (sym is) (record {
    none = λ n. absurd (none-some u (sym n ∙ is));
    some = λ v q. (let f : ended g done + (counted (over g) u rest c + 1) ≤ bound = subst (λ z. ended g done + left_of g z rest c ≤ bound) is few in (omega (arith, f, e), omega (arith, e)));
  })
