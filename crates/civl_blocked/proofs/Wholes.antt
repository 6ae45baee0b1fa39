-- Whole blocks that are joined to a block run.
use Rattle.std.proofs.Common.{ℕ, ◌+◌, ◌<◌, ◌≤◌, ◌≡◌, Bool, true, false, List, [], ◌∷◌, ◌++◌, length, take, drop, Option, None, Some, refl, sym, ap, subst, ◌∙◌, arith, inr, length-append, get_or, take-append-drop}
use Rattle.std.specs.Prelude.{All}
use Rattle.std.proofs.lemmas.List.{append-nil, length-drop}
use Rattle.std.proofs.lemmas.List.Elements.{All-nil, All-cons, All-append}
use Rattle.std.proofs.lemmas.Option.{none-some}
use Rattle.civl_tree.proofs.Lists.{drop_is}
use Rattle.civl_meaning.specs.declared.config.Move.{Move}
use Rattle.civl_meaning.specs.declared.config.Config.{Config}
use Rattle.civl_meaning.specs.Failing.{IsMove}
use Rattle.civl_reduction.specs.interleavings.Systems.{System}
use Rattle.civl_reduction.specs.interleavings.Runs.{SystemRuns, MayStep, opened, BlocksTo, Staged, goes, ends}
use Rattle.civl_reduction.proofs.interleavings.Staging.{staged_runs, blocks_more}
use Rattle.civl_reduction.specs.gathering.Gathered.{blocks}
use Rattle.civl_reduction.proofs.gathering.Counting as counting
use Rattle.civl_shadows.specs.declared.shadow.Shadowed as kept
use Rattle.civl_blocked.specs.declared.ground.Ground.{Ground}
use Rattle.civl_blocked.specs.declared.arranging.Arranged.{Arranged}
use Rattle.civl_blocked.specs.inner.Arranged.{IsArranged, IsJoining, IsCalm, IsHard, IsLonger, count_of}
use Rattle.civl_blocked.specs.Blocked.{IsTurned}
use Rattle.civl_blocked.specs.inner.Segments.{over, program_of, FailsTo}
use Rattle.civl_blocked.specs.inner.Turning.{IsBeside, Standing, Going, Bounded, ended, measure_of}
use Rattle.civl_blocked.proofs.Joinings.{blocks_run}
use Rattle.civl_blocked.proofs.Strides.{same_end, runs_join}

pub joins_none : (g : Ground) (done : List Move) (beside : kept.Shadowed) (blocks : List Move) → Standing g done None beside → (e : Config) × BlocksTo (over g) None blocks beside.config None e
    → IsJoining g done beside.config [] blocks done beside
joins_none g done beside blocks s r = record {
  owner = None;
  end = r.0;
  staged = s.staged;
  done_moves = s.done_moves;
  beside_it = s.beside_it;
  joined_blocks = (refl, refl);
  left_blocks = r.1;
  few = omega arith;
}

module _ (g : Ground) (before : List Move) (from : Config) (joined left done : List Move) (beside : kept.Shadowed) where
  abbrev S : System Config Move
  S = over g

  pub next_runs : (m : Move) → IsJoining g before from joined (m ∷ left) done beside → (d : Config) × (S.step beside.config m ≡ Some d)
  next_runs m j = (j.left_blocks.0, j.left_blocks.1)

  module _ (m : Move) (done2 : List Move) (new : kept.Shadowed) (j : IsJoining g before from joined (m ∷ left) done beside) (step : S.step beside.config m ≡ Some new.config) (done_is : done2 ≡ done ++ m ∷ [])
      (besides : IsBeside g done2 new) (one : IsMove m) where
    leads_there : j.left_blocks.0 ≡ new.config
    leads_there = same_end S beside.config j.left_blocks.0 new.config m j.left_blocks.1 step

    may : MayStep j.owner m.thread
    may = j.left_blocks.2

    run : SystemRuns S.steps done S.start beside.config
    run = blocks_run S done None j.owner S.start beside.config (staged_runs S j.staged)

    all_done : All IsMove done2
    all_done = subst (All IsMove) (sym done_is) (All-append IsMove done (m ∷ []) j.done_moves (All-cons IsMove m [] one (All-nil IsMove)))

    at_most_one : (b : Bool) → counting.block_end S b ≤ 1
    at_most_one true = omega arith
    at_most_one false = omega arith

    few : ended g done2 ≤ ended g before + length (joined ++ m ∷ [])
    few =
        let e1 = ap (λ l. blocks S l S.start) done_is in
        let e2 = counting.blocks_more S done (m ∷ []) S.start beside.config run in
        let e3 = counting.blocks_step S m [] beside.config new.config step in
        let e4 = at_most_one (S.inside new.config m.thread) in
        let e5 = length-append joined (m ∷ []) in
        let e6 = j.few in
        omega (arith, e1, e2, e3, e4, e5, e6)

    joined_so : BlocksTo S None (joined ++ m ∷ []) from (opened (S.inside new.config m.thread) m.thread) new.config
    joined_so = blocks_more S joined None j.owner from beside.config m new.config j.joined_blocks may step

    left_so : BlocksTo S (opened (S.inside new.config m.thread) m.thread) left new.config None j.end
    left_so = subst (λ x. BlocksTo S (opened (S.inside x m.thread) m.thread) left x None j.end) leads_there j.left_blocks.3

    pub joins_one : IsCalm g new.config m.thread done2 → IsJoining g before from (joined ++ m ∷ []) left done2 new
    joins_one calm = go (S.inside new.config m.thread) refl
      where
        go : (b : Bool) → S.inside new.config m.thread ≡ b → IsJoining g before from (joined ++ m ∷ []) left done2 new
        go true e = record {
          owner = Some m.thread;
          end = j.end;
          staged = subst (λ l. Staged S l (Some m.thread) new.config) (sym done_is) (goes m new.config j.staged may step e);
          done_moves = all_done;
          beside_it = besides;
          joined_blocks = subst (λ i. BlocksTo S None (joined ++ m ∷ []) from (opened i m.thread) new.config) e joined_so;
          left_blocks = subst (λ i. BlocksTo S (opened i m.thread) left new.config None j.end) e left_so;
          few = few;
        }
        go false e = record {
          owner = None;
          end = j.end;
          staged = subst (λ l. Staged S l None new.config) (sym done_is) (ends m new.config j.staged may step e (ap S.challenged (sym done_is) ∙ calm e));
          done_moves = all_done;
          beside_it = besides;
          joined_blocks = subst (λ i. BlocksTo S None (joined ++ m ∷ []) from (opened i m.thread) new.config) e joined_so;
          left_blocks = subst (λ i. BlocksTo S (opened i m.thread) left new.config None j.end) e left_so;
          few = few;
        }

    pub joins_last : IsHard g new.config m.thread done2 → (given : List Move) → ended g before + length (joined ++ m ∷ left) ≤ length given → IsTurned (program_of g) g.layer g.store.now given done2
    joins_last hard given small = record {
      end = new.config;
      are_moves = all_done;
      runs = subst (λ l. BlocksTo S None l S.start None new.config) (sym done_is) (subst (λ i. BlocksTo S None (done ++ m ∷ []) S.start (opened i m.thread) new.config) hard.0
          (blocks_more S done None j.owner S.start beside.config m new.config (staged_runs S j.staged) may step));
      fails = inr hard.1;
      few = (let n = few in let a = length-append joined (m ∷ left) in let b = length-append joined (m ∷ []) in omega (arith, n, a, b, small));
    }

-- all of them
pub joins_all : (g : Ground) (before blocks done : List Move) (old new : kept.Shadowed) → IsJoining g before old.config blocks [] done new → IsLonger g before done old new blocks
joins_all g before blocks done old new j = record {
  standing = record {
    staged = subst (λ o. Staged (over g) done o new.config) j.left_blocks.0 j.staged;
    done_moves = j.done_moves;
    beside_it = j.beside_it;
    late = λ u e. absurd (none-some u e);
  };
  runs = subst (λ o. BlocksTo (over g) None blocks old.config o new.config) j.left_blocks.0 j.joined_blocks;
  few = j.few;
}

-- ---- what comes of it

one_middle : (g : Ground) (ms : List Move) (o p q : Option ℕ) (c d e : Config) → BlocksTo (over g) o ms c p d → BlocksTo (over g) o ms c q e → d ≡ e
one_middle g [] o p q c d e a b = sym a.1 ∙ b.1
one_middle g (m ∷ ms) o p q c d e a b =
    one_middle g ms _ p q a.0 d e a.3 (subst (λ x. BlocksTo (over g) (opened ((over g).inside x m.thread) m.thread) ms x q e) (same_end (over g) c b.0 a.0 m b.1 a.1) b.3)

module _ (g : Ground) (before done : List Move) (old new : kept.Shadowed) (rest rest2 : List Move) (a : Arranged) (is : IsArranged g old.config rest a) (longer : IsLonger g before done old new a.blocks.items)
    (rest_moves : All IsMove rest) (rest_is : rest2 ≡ a.others.items ++ drop (count_of a) rest) (left_moves : All IsMove (drop (count_of a) rest)) where
  fails_so : FailsTo (over g) (a.others.items ++ drop (count_of a) rest) new.config
  fails_so = (
    is.fails.0,
    runs_join (over g) a.others.items (drop (count_of a) rest) new.config is.end is.fails.0
        (subst (λ x. SystemRuns (over g).steps a.others.items x is.end) (one_middle g a.blocks.items None None None old.config is.leads.middle new.config is.leads.blocks longer.runs) is.leads.others) is.fails.1,
    is.fails.2,
  )

  pub wholes_go : Going g done None new rest2
  wholes_go = record {
    standing = longer.standing;
    rest_moves = subst (All IsMove) (sym rest_is) (All-append IsMove a.others.items (drop (count_of a) rest) is.other_moves left_moves);
    fails = subst (λ l. FailsTo (over g) l new.config) (sym rest_is) fails_so;
  }

  pub wholes_bounded : length (drop (count_of a) rest) + count_of a ≡ length rest → (bound : ℕ) → Bounded g bound before None old rest → Bounded g bound done None new rest2 × (measure_of g None rest2 new.config < measure_of g None rest old.config)
  wholes_bounded len bound few =
      let n = ap length rest_is ∙ length-append a.others.items (drop (count_of a) rest) in
      let s = is.some in
      let f = longer.few in
      (omega (arith, n, len, s, f, few), omega (arith, n, len, s))

  pub wholes_next : (o : Option ℕ) → o ≡ None → length (drop (count_of a) rest) + count_of a ≡ length rest → (bound : ℕ) → Bounded g bound before o old rest
      → Going g done o new rest2 × Bounded g bound done o new rest2 × (measure_of g o rest2 new.config < measure_of g o rest old.config)
  wholes_next None e len bound room = let b = wholes_bounded len bound room in (wholes_go, b.0, b.1)
  wholes_next (Some v) e len bound room = absurd (none-some v (sym e))

-- ---- lists

pub joined_whole : {A : Type 0} (xs : List A) (i : ℕ) (x : A) → i < length xs → x ≡ get_or xs i x → length (take i xs ++ x ∷ drop (i + 1) xs) ≡ length xs
joined_whole xs i x h e = ap (λ l. length (take i xs ++ l)) (sym (drop_is xs i x h e)) ∙ ap length (take-append-drop i xs)

pub whole_taken : {A : Type 0} (xs : List A) (i : ℕ) → drop i xs ≡ [] → take i xs ≡ xs
whole_taken xs i e = sym (append-nil (take i xs)) ∙ (ap (λ l. take i xs ++ l) (sym e) ∙ take-append-drop i xs)

pub part_length : {A : Type 0} (xs : List A) (n : ℕ) → n ≤ length xs → length (drop n xs) + n ≡ length xs
part_length xs n h = let e = length-drop n xs in omega (arith, e, h)
