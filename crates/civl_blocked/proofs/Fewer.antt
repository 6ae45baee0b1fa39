-- Shorter lists of moves that fail.
use Rattle.std.proofs.Common.{ℕ, ◌+◌, ◌<◌, ◌≤◌, ◌≡◌, ◌≢◌, true, false, List, [], ◌∷◌, ◌++◌, length, take, drop, get_or, Option, None, Some, sym, ap, subst, ◌∙◌, arith, inl, inr, ◌⊎◌, length-append, take-append-drop}
use Rattle.std.specs.Prelude.{All, IfSome, IfNone, is_some}
use Rattle.std.proofs.lemmas.Bool.{false≢true}
use Rattle.std.proofs.lemmas.List.{get_or_default}
use Rattle.std.proofs.lemmas.List.Elements.{All-nil, All-cons, All-tail, All-append}
use Rattle.civl_tree.proofs.Lists.{all_left, drop_is}
use Rattle.civl_meaning.specs.declared.config.Move.{Move}
use Rattle.civl_meaning.specs.declared.config.Config.{Config}
use Rattle.civl_meaning.specs.Failing.{IsMove}
use Rattle.civl_reduction.specs.interleavings.Systems.{Failing, System}
use Rattle.civl_reduction.specs.interleavings.Runs.{Opens}
use Rattle.civl_reduction.specs.gathering.Gathered.{others, Passes, FailsBehind, FailsSooner, AllPass}
use Rattle.civl_reduction.proofs.gathering.Gathering.{others_other}
use Rattle.civl_reduction.proofs.gathering.Counting.{others_more, counted_behind, counted_opens_then}
use Rattle.civl_reduction.proofs.gathering.Standing.{opens_run}
use Rattle.civl_blocked.specs.declared.ground.Ground.{Ground}
use Rattle.civl_blocked.specs.inner.Segments.{over, IsShortened}
use Rattle.civl_blocked.specs.inner.Shortened.{IsFront, FailsBehindOther}
use Rattle.civl_blocked.proofs.Strides.{same_end, run_more, runs_join}
use Rattle.civl_blocked.proofs.Picking.{all_item}
use Rattle.civl_blocked.proofs.Rooms.{pass_runs}

pub all_right : {A : Type 0} (V : A → Type 0) (xs ys : List A) → All V (xs ++ ys) → All V ys
all_right V [] ys v = v
all_right V (x ∷ xs) ys v = all_right V xs ys (All-tail V x (xs ++ ys) v)

module _ (g : Ground) (t : ℕ) where
  abbrev S : System Config Move
  S = over g

  -- a thread that was found to fail, or none
  pub failing_from : (y : Config) (o : Option ℕ) → IfSome o (λ u. S.fails y u ≡ true) → is_some o ≡ true → Failing S.steps y
  failing_from y None h e = absurd (false≢true e)
  failing_from y (Some u) h e = (u, h)

  pub not_failing : (y : Config) (o : Option ℕ) → IfNone o (Failing S.steps y → ⊥) → is_some o ≡ false → Failing S.steps y → ⊥
  not_failing y None h e f = h f
  not_failing y (Some u) h e f = false≢true (sym e)

  pub front_so : (ms front : List Move) (i : ℕ) (m : Move) (from x y : Config) → i < length ms → m ≡ get_or ms i m → Opens S t front from x → S.mover m ≡ t → S.step x m ≡ Some y → Failing S.steps y
      → length front ≤ i → (All IsMove ms → All IsMove front) → IsFront S t ms from (front ++ m ∷ [])
  front_so ms front i m from x y h e o w s f short valid = record {
    fails = (y, run_more S front m from x y (opens_run S t front from x o) s, f);
    short = (let n = length-append front (m ∷ []) in omega (arith, n, short, h));
    own = counted_opens_then S t front m from x y o w s;
    are_moves = λ v. All-append IsMove front (m ∷ []) (valid v) (All-cons IsMove m [] (all_item IsMove ms i m h e v) (All-nil IsMove));
  }

  pub behind_on : (m : Move) (ms : List Move) (c x : Config) → S.step c m ≡ Some x → (Failing S.steps x → ⊥) → FailsBehind S t (m ∷ ms) c → (S.inside x t ≡ true) × FailsBehind S t ms x
  behind_on m ms c x s n f = go f.2
    where
      d_is : f.0 ≡ x
      d_is = same_end S c f.0 x m f.1 s

      go : Failing S.steps f.0 ⊎ ((S.inside f.0 t ≡ true) × FailsBehind S t ms f.0) → (S.inside x t ≡ true) × FailsBehind S t ms x
      go (inl k) = absurd (n (subst (Failing S.steps) d_is k))
      go (inr k) = subst (λ z. (S.inside z t ≡ true) × FailsBehind S t ms z) d_is k

  -- ---- along all moves

  module _ (ms : List Move) (i : ℕ) (m : Move) (h : i < length ms) (e : m ≡ get_or ms i m) where
    pub sooner_on : (c : Config) → FailsSooner S t (drop i ms) c → (FailsBehindOther S t ms i c → ⊥) → (d : Config) × Passes S t m c d × FailsSooner S t (drop (i + 1) ms) d
    sooner_on c f n = go (subst (λ l. FailsSooner S t l c) (drop_is ms i m h e) f)
      where
        go : FailsSooner S t (m ∷ drop (i + 1) ms) c → (d : Config) × Passes S t m c d × FailsSooner S t (drop (i + 1) ms) d
        go (inl x) = absurd (n (λ q k w. x.0 (ap (λ (z : Move). z.thread) (same_item q k) ∙ w), x.1))
          where
            same_item : (q : Move) → q ≡ get_or ms i q → m ≡ q
            same_item q k = e ∙ (get_or_default ms i m q h ∙ sym k)
        go (inr x) = x

    parts : ms ≡ take i ms ++ m ∷ drop (i + 1) ms
    parts = sym (take-append-drop i ms) ∙ ap (λ l. take i ms ++ l) (drop_is ms i m h e)

    pub shortened_so : (kept front : List Move) (from c : Config) → S.mover m ≢ t → kept ≡ take i ms → AllPass S t (take i ms) from c → IsFront S t (drop (i + 1) ms) c front → IsShortened S t ms from (kept ++ front)
    shortened_so kept front from c w k a f = subst (λ l. IsShortened S t ms from (l ++ front)) (sym k) (record {
      fails = (f.fails.0, runs_join S (take i ms) front from c f.fails.0 (pass_runs S t (take i ms) from c a) f.fails.1, f.fails.2);
      fewer = (let n = length-append (take i ms) front in let q = ap length parts ∙ length-append (take i ms) (m ∷ drop (i + 1) ms) in let s = f.short in omega (arith, n, q, s));
      fewer_others = (let n = counted_behind S t (take i ms) front from c a in let z = f.own in
          let q = ap (λ l. length (others S.mover t l)) parts ∙ (ap length (others_more S.mover t (take i ms) (m ∷ drop (i + 1) ms)) ∙ length-append (others S.mover t (take i ms)) (others S.mover t (m ∷ drop (i + 1) ms))) in
          let p = ap length (others_other S.mover t m (drop (i + 1) ms) w) in omega (arith, n, z, q, p));
      are_moves = λ v. (let u = subst (All IsMove) parts v in All-append IsMove (take i ms) front (all_left IsMove (take i ms) (m ∷ drop (i + 1) ms) u) (f.are_moves (All-tail IsMove m (drop (i + 1) ms) (all_right IsMove (take i ms) (m ∷ drop (i + 1) ms) u))));
    })
