-- The reduction: where some run ends failing, some block run ends failing or challenged.
use Rattle.std.proofs.Common.{ℕ, zero, suc, ◌<◌, ◌≡◌, Bool, true, false, List, [], ◌∷◌, ◌++◌, length, Option, None, Some, refl, sym, ap, subst, ◌∙◌, arith, inl, inr, ◌⊎◌}
use Rattle.std.proofs.lemmas.Bool.{both_ways}
use Rattle.civl_reduction.specs.interleavings.Systems.{System}
use Rattle.civl_reduction.specs.interleavings.Runs.{SystemCanFail, MayStep, BlocksFail, Staged, begun}
use Rattle.civl_reduction.specs.interleavings.Reduction.{Place, Between, Early, Late, is_inside, Within, IsReducible}
use Rattle.civl_reduction.proofs.interleavings.Doomed.{Doomed, doomed_by}
use Rattle.civl_reduction.proofs.interleavings.Early.{Turns, Begins, Sorted, sorted}
use Rattle.civl_reduction.proofs.interleavings.Late.{Rest, First, Fewer, Fronted, fronted, completed, completed_first, rest_of}
use Rattle.civl_reduction.proofs.interleavings.Staging.{staged_runs, holds_staged, inside_more, ends_more, begins_opens, inside_begun, inside_any}

-- with no open block, from a block run and a rest of n moves
abbrev pub FromBlocks : {C M : Type 0} → System C M → ℕ → Type 0
FromBlocks {C} {M} S n = (ps : List M) (c : C) → Staged S ps None c → Doomed S n c → BlocksFail S

-- with an open block that is late, and a rest with n moves of others
abbrev pub FromStage : {C M : Type 0} → System C M → (C → ℕ → Place) → ℕ → Type 0
FromStage {C} {M} S place n = (ps : List M) (t : ℕ) (c : C) → Staged S ps (Some t) c → place c t ≡ Late → Rest S place t n c → BlocksFail S

module _ {C M : Type 0} (S : System C M) (place : C → ℕ → Place) (Holds : C → Type 0) (l : IsReducible C M S place Holds) where
  -- what the place says of being inside
  inside_then : (c : C) (t : ℕ) (p : Place) → place c t ≡ p → S.inside c t ≡ is_inside p
  inside_then c t p e = l.inside_is c t ∙ ap is_inside e

  -- for all of which the bound is smaller
  Smaller : ℕ → ℕ → Type 0
  Smaller n r = (ps : List M) (t : ℕ) (c : C) → Staged S ps (Some t) c → place c t ≡ Late → Within S place t r c → Rest S place t n c → BlocksFail S

  -- the open block's next step, brought to the front, ends it
  ended_by : (n : ℕ) (ps : List M) (t : ℕ) (c : C) → FromBlocks S n → Staged S ps (Some t) c → (m : M) (d : C) → S.mover m ≡ t → S.step c m ≡ Some d → place d t ≡ Between → Doomed S n d → BlocksFail S
  ended_by n ps t c none g m d w e p f = go (ends_more S ps (Some t) t c d m g refl w e (inside_then d t Between p))
    where
      go : Staged S (ps ++ m ∷ []) None d ⊎ BlocksFail S → BlocksFail S
      go (inl x) = none (ps ++ m ∷ []) d x f
      go (inr x) = x

  -- or joins it
  joined : (n r : ℕ) (ps : List M) (t : ℕ) (c : C) → FromBlocks S n → Smaller n r
      → Staged S ps (Some t) c → Within S place t (suc r) c → First S place t n c → BlocksFail S
  unfolding Smaller
  joined n r ps t c none ih g b f = go f.4
    where
      go : (((place f.1 t ≡ Late) × Rest S place t n f.1) ⊎ ((place f.1 t ≡ Between) × Doomed S n f.1)) → BlocksFail S
      go (inl x) = ih (ps ++ f.0 ∷ []) t f.1 (inside_more S ps (Some t) t c f.1 f.0 g refl f.2 f.3 (inside_then f.1 t Late x.0)) x.0 (b f.0 f.1 f.2 f.3 x.0) x.1
      go (inr x) = ended_by n ps t c none g f.0 f.1 f.2 f.3 x.0 x.1

  joined_last : (n : ℕ) (ps : List M) (t : ℕ) (c : C) → FromBlocks S n → Staged S ps (Some t) c → Within S place t zero c → First S place t n c → BlocksFail S
  joined_last n ps t c none g b f = go f.4
    where
      go : (((place f.1 t ≡ Late) × Rest S place t n f.1) ⊎ ((place f.1 t ≡ Between) × Doomed S n f.1)) → BlocksFail S
      go (inl x) = absurd (b f.0 f.1 f.2 f.3 x.0)
      go (inr x) = ended_by n ps t c none g f.0 f.1 f.2 f.3 x.0 x.1

  -- the block's next step is brought to the front, or there are fewer moves of others
  by_front : (n : ℕ) → ((k : ℕ) → k < n → FromStage S place k) → (ps : List M) (t : ℕ) (c : C) → Staged S ps (Some t) c → place c t ≡ Late → Rest S place t n c
      → (First S place t n c → BlocksFail S) → BlocksFail S
  by_front n below ps t c g p f first = go (fronted S place Holds l t h p f)
    where
      h : Holds c
      h = holds_staged S place Holds l g

      step : First S place t n c ⊎ Fewer S place t n c → BlocksFail S
      step (inl x) = first x
      step (inr x) = below x.0 x.1 ps t c g p x.2

      go : Fronted S place Holds l t n c → BlocksFail S
      go (inl x) = first x
      go (inr (inl x)) = step (inr x)
      go (inr (inr x)) = step (completed_first S place Holds l t n c h p (completed S place Holds l t n c h p (l.safe_inside ps t c g) x))

  from_stage_by : (n : ℕ) → ((k : ℕ) → k < n → FromStage S place k) → FromBlocks S n → (r : ℕ) → Smaller n r
  unfolding Smaller
  from_stage_by n below none zero = λ ps t c g p b f. by_front n below ps t c g p f (joined_last n ps t c none g b)
  from_stage_by n below none (suc r) = by_smaller (from_stage_by n below none r)
    where
      by_smaller : Smaller n r → Smaller n (suc r)
      by_smaller ih = λ ps t c g p b f. by_front n below ps t c g p f (joined n r ps t c none ih g b)

  from_blocks_by : (n : ℕ) → ((k : ℕ) → k < n → FromBlocks S k × FromStage S place k) → FromBlocks S n
  from_blocks_by n below ps c g f = go (sorted S place Holds l n c h f)
    where
      h : Holds c
      h = holds_staged S place Holds l g

      late : (r : Turns C M S place n c) (o : Option ℕ) → MayStep o r.thread → Staged S (ps ++ r.moves) o r.middle → place r.after r.thread ≡ Late → BlocksFail S
      late r o may x p =
          let y = inside_more S (ps ++ r.moves) o r.thread r.middle r.after r.turn x may r.turns r.stepped (inside_then r.after r.thread Late p) in
          let k = rest_of S place Holds l r.thread r.rest r.after (holds_staged S place Holds l y) p r.doomed in
          (below k.0 (omega (arith, k.1, r.fewer))).1 ((ps ++ r.moves) ++ r.turn ∷ []) r.thread r.after y p k.2

      ended : (r : Turns C M S place n c) → Staged S ((ps ++ r.moves) ++ r.turn ∷ []) None r.after ⊎ BlocksFail S → BlocksFail S
      ended r (inl y) = (below r.rest (omega (arith, r.fewer))).0 ((ps ++ r.moves) ++ r.turn ∷ []) r.after y r.doomed
      ended r (inr y) = y

      turned : (r : Turns C M S place n c) (o : Option ℕ) → MayStep o r.thread → Staged S (ps ++ r.moves) o r.middle → (p : Place) → place r.after r.thread ≡ p → BlocksFail S
      turned r o may x Late p = late r o may x p
      turned r o may x Between p = ended r (ends_more S (ps ++ r.moves) o r.thread r.middle r.after r.turn x may r.turns r.stepped (inside_then r.after r.thread Between p))
      turned r o may x Early p = absurd (r.turned p)

      stopped : (t : ℕ) (ms : List M) (x : C) → Begins S place t ms c x → S.fails x t ≡ true → BlocksFail S
      stopped t [] x b e = (ps, c, staged_runs S g, inl (t, subst (λ z. S.fails z t ≡ true) (sym b) e))
      stopped t (m ∷ ms) x b e = absurd (both_ways (S.fails x t) (l.safe_inside (ps ++ m ∷ ms) t x (inside_begun S ps ms m t c x g (begins_opens S place Holds l t (m ∷ ms) c x b))) e)

      go : Sorted S place Holds l n c → BlocksFail S
      go (inl r) = let x = inside_any S ps r.moves r.thread c r.middle g (begins_opens S place Holds l r.thread r.moves c r.middle r.begins) in turned r x.0 x.1 x.2 (place r.after r.thread) refl
      go (inr (inl r)) = stopped r.thread r.moves r.end r.begins r.fails
      go (inr (inr r)) = (below r.0 r.1).0 ps c g r.2

  by_bound : (n : ℕ) → ((k : ℕ) → k < n → FromStage S place k) → FromBlocks S n
      → (r : ℕ) (ps : List M) (t : ℕ) (c : C) → Staged S ps (Some t) c → place c t ≡ Late → Within S place t r c → Rest S place t n c → BlocksFail S
  unfolding Smaller
  by_bound n below none r = from_stage_by n below none r

  both_at : (n : ℕ) → ((k : ℕ) → k < n → FromBlocks S k × FromStage S place k) → FromBlocks S n × FromStage S place n
  both_at n below =
      let none = from_blocks_by n below in
      (none, λ ps t c g p f. let b = l.ends_inside ps t c g p in by_bound n (λ k i. (below k i).1) none b.0 ps t c g p b.1 f)

  both : (b n : ℕ) → n < b → FromBlocks S n × FromStage S place n
  both zero n h = absurd (omega (arith, h))
  both (suc b) n h = both_at n (λ k i. both b k (omega (arith, h, i)))

  pub reduced : SystemCanFail S.steps → BlocksFail S
  reduced r = go (S.challenged []) refl
    where
      f : Doomed S (length r.0) S.start
      f = doomed_by S r.0 S.start r.1 r.2 r.3

      go : (b : Bool) → S.challenged [] ≡ b → BlocksFail S
      go true e = ([], S.start, (refl, refl), inr e)
      go false e = (both (suc (length r.0)) (length r.0) (omega arith)).0 [] S.start (begun e) f
