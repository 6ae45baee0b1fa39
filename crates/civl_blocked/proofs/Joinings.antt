-- A segment whose moves of one thread are joined to the block run.
use Rattle.std.proofs.Common.{ℕ, ◌+◌, ◌<◌, ◌≤◌, ◌≡◌, Bool, true, false, List, [], ◌∷◌, ◌++◌, length, Option, None, Some, refl, sym, ap, subst, ◌∙◌, arith, inr, length-append}
use Rattle.std.specs.Prelude.{All, if◌then◌else◌}
use Rattle.std.proofs.lemmas.Option.{same_Some, none-some}
use Rattle.std.proofs.lemmas.List.Elements.{All-nil, All-cons, All-append}
use Rattle.civl_meaning.specs.declared.config.Move.{Move}
use Rattle.civl_meaning.specs.declared.config.Config.{Config}
use Rattle.civl_meaning.specs.Failing.{IsMove}
use Rattle.civl_reduction.specs.interleavings.Systems.{System}
use Rattle.civl_reduction.specs.interleavings.Runs.{SystemRuns, MayStep, BlocksTo, IsBlockRun, Staged, Opens}
use Rattle.civl_reduction.specs.interleavings.Reduction.{Between, Late, is_inside}
use Rattle.civl_reduction.proofs.interleavings.Staging.{staged_runs, inside_more, ends_run, ends_staged}
use Rattle.civl_reduction.specs.blocks.Challenged.{challenged}
use Rattle.civl_shadows.specs.declared.shadow.Shadowed as kept
use Rattle.civl_reduction.specs.gathering.Gathered.{own, others, blocks}
use Rattle.civl_reduction.proofs.gathering.Gathering.{own_all, others_all}
use Rattle.civl_reduction.proofs.gathering.Counting.{split_length, counted_few, blocks_more, blocks_opens, blocks_step}
use Rattle.civl_reduction.proofs.gathering.Standing.{staged_joined}
use Rattle.civl_reduction.specs.gathered.Laws.{IsReached, PlacesAreInside, OthersLeave, by_thread}
use Rattle.civl_blocked.specs.declared.ground.Ground.{Ground}
use Rattle.civl_blocked.specs.inner.Segments.{IsGround, over, place_on, program_of, FailsTo, Gathered}
use Rattle.civl_blocked.specs.declared.segment.Segment.{Segment}
use Rattle.civl_blocked.specs.declared.turning.Turning.{Turning}
use Rattle.civl_blocked.specs.inner.Turning.{Standing, Going, Bounded, Room, OnlyMay, IsBeside, IsGathering, measure_of, ended}
use Rattle.civl_blocked.specs.Blocked.{IsTurned}
use Rattle.civl_blocked.proofs.Strides.{runs_join, run_more, one_opened, same_end}

pub blocks_run : {C M : Type 0} (S : System C M) (ms : List M) (o p : Option ℕ) (c d : C) → BlocksTo S o ms c p d → SystemRuns S.steps ms c d
blocks_run S [] o p c d b = b.1
blocks_run S (m ∷ ms) o p c d b = (b.0, b.1, blocks_run S ms _ p b.0 d b.3)

pub may_step : (o : Option ℕ) (u : ℕ) → OnlyMay o u → MayStep o u
may_step None u f = tt
may_step (Some v) u f = sym (f v refl)

-- what is known of the segment, and of what the code made of it
pub record IsJoined (g : Ground) (done done2 : List Move) (o : Option ℕ) (beside new : kept.Shadowed) (u : ℕ) (ms : List Move) (m : Move) (e : Config) (rest rest2 : List Move) : Type 0 where
  pub standing : Standing g done o beside
  pub may : OnlyMay o u
  pub moves : All IsMove ms
  pub last : IsMove m
  pub mine : m.thread ≡ u
  pub rest_moves : All IsMove rest
  pub fails : FailsTo (over g) rest e
  pub middle : Config
  pub opens : Opens (over g) u (own by_thread u ms) beside.config middle
  pub step : (over g).step middle m ≡ Some new.config
  pub run : SystemRuns (over g).steps (others by_thread u ms) new.config e
  pub done_is : done2 ≡ (done ++ own by_thread u ms) ++ m ∷ []
  pub beside_it : IsBeside g done2 new
  pub rest_is : rest2 ≡ others by_thread u ms ++ rest

-- as the code finds it
module _ (g : Ground) (t : Turning) (u : ℕ) (s : Segment) (slice d1 : List Move) (mid : kept.Shadowed) (r : IsGathering g t u s t.rest.items) (gathered : Gathered g t.beside.config u s) (slice_is : slice ≡ s.moves.items)
    (opens : Opens (over g) u (own by_thread u slice) t.beside.config mid.config) where
  opens_so : Opens (over g) u (own by_thread u s.moves.items) t.beside.config mid.config
  opens_so = subst (λ l. Opens (over g) u (own by_thread u l) t.beside.config mid.config) slice_is opens

  pub last_runs : (x : Config) × ((over g).step mid.config s.last ≡ Some x)
  last_runs = (gathered.after, subst (λ z. (over g).step z s.last ≡ Some gathered.after) (one_opened (over g) u (own by_thread u s.moves.items) t.beside.config gathered.middle mid.config gathered.opens opens_so) gathered.last)

  pub taken : (done2 : List Move) (new : kept.Shadowed) (rest2 : List Move) → d1 ≡ t.done.items ++ own by_thread u slice → done2 ≡ d1 ++ s.last ∷ [] → (over g).step mid.config s.last ≡ Some new.config → IsBeside g done2 new
      → rest2 ≡ others by_thread u slice ++ t.rest.items → IsJoined g t.done.items done2 t.open t.beside new u s.moves.items s.last s.end t.rest.items rest2
  unfolding last_runs
  taken done2 new rest2 e1 e2 step besides e3 = record {
    standing = r.standing;
    may = r.may_go;
    moves = r.moves;
    last = r.last;
    mine = r.mine;
    rest_moves = r.rest_moves;
    fails = r.fails;
    middle = mid.config;
    opens = opens_so;
    step = step;
    run = subst (λ z. SystemRuns (over g).steps (others by_thread u s.moves.items) z s.end) (same_end (over g) mid.config gathered.after new.config s.last last_runs.1 step) gathered.rest;
    done_is = e2 ∙ ap (λ l. l ++ s.last ∷ []) (e1 ∙ ap (λ l. t.done.items ++ own by_thread u l) slice_is);
    beside_it = besides;
    rest_is = e3 ∙ ap (λ l. others by_thread u l ++ t.rest.items) slice_is;
  }

pub between_late : Between ≡ Late → ⊥
between_late e = cc

module _ (g : Ground) (ground : IsGround g) (inside_law : PlacesAreInside) (leave_law : OthersLeave)
    (done done2 : List Move) (o : Option ℕ) (beside new : kept.Shadowed) (u : ℕ) (ms : List Move) (m : Move) (e : Config) (rest rest2 : List Move) (j : IsJoined g done done2 o beside new u ms m e rest rest2) where
  abbrev S : System Config Move
  S = over g

  joined : (q : Option ℕ) × MayStep q u × Staged S (done ++ own by_thread u ms) q j.middle
  joined = staged_joined S done (own by_thread u ms) o u beside.config j.middle j.standing.staged (may_step o u j.may) j.opens

  middle_run : SystemRuns S.steps (done ++ own by_thread u ms) S.start j.middle
  middle_run = blocks_run S (done ++ own by_thread u ms) None joined.0 S.start j.middle (staged_runs S joined.2)

  all_done : All IsMove done2
  all_done = subst (All IsMove) (sym j.done_is) (All-append IsMove (done ++ own by_thread u ms) (m ∷ []) (All-append IsMove done (own by_thread u ms) j.standing.done_moves (own_all IsMove by_thread u ms j.moves)) (All-cons IsMove m [] j.last (All-nil IsMove)))

  reached : IsReached (program_of g) g.layer g.store.now new.config
  reached = record { moves = done2; are_moves = all_done; runs = subst (λ l. SystemRuns S.steps l S.start new.config) (sym j.done_is) (run_more S (done ++ own by_thread u ms) m S.start j.middle new.config middle_run j.step) }

  -- the thread stands where it stood at the segment's end
  pub same_place : place_on g new.config u ≡ place_on g e u
  same_place = sym (leave_law (program_of g) g.layer g.store.now new.config e u ms ground.checked reached j.moves j.run)

  inside_is : S.inside new.config u ≡ is_inside (place_on g new.config u)
  inside_is = inside_law (program_of g) g.layer g.store.now new.config u ground.checked

  rest_fails : FailsTo S rest2 new.config
  rest_fails = subst (λ l. FailsTo S l new.config) (sym j.rest_is) (j.fails.0, runs_join S (others by_thread u ms) rest new.config e j.fails.0 j.run j.fails.1, j.fails.2)

  rest_all : All IsMove rest2
  rest_all = subst (All IsMove) (sym j.rest_is) (All-append IsMove (others by_thread u ms) rest (others_all IsMove by_thread u ms j.moves) j.rest_moves)

  -- how many blocks
  before_runs : SystemRuns S.steps done S.start beside.config
  before_runs = blocks_run S done None o S.start beside.config (staged_runs S j.standing.staged)

  abbrev one_block : Bool → ℕ
  one_block b = if b then 0 else 1

  ended_by : (b : Bool) → S.inside new.config u ≡ b → ended g done2 ≡ ended g done + one_block b
  ended_by b i =
      let e1 = ap (λ l. blocks S l S.start) j.done_is in
      let e2 = blocks_more S (done ++ own by_thread u ms) (m ∷ []) S.start j.middle middle_run in
      let e3 = blocks_more S done (own by_thread u ms) S.start beside.config before_runs in
      let e4 = blocks_opens S u (own by_thread u ms) beside.config j.middle j.opens in
      let e5 = blocks_step S m [] j.middle new.config j.step in
      let e6 = ap one_block (subst (λ t. S.inside new.config t ≡ b) (sym j.mine) i) in
      omega (arith, e1, e2, e3, e4, e5, e6)

  rest_long : length rest2 ≡ length (others by_thread u ms) + length rest
  rest_long = ap length j.rest_is ∙ length-append (others by_thread u ms) rest

  -- ---- a block that is open behind it

  module _ (l : place_on g e u ≡ Late) where
    stays_inside : S.inside new.config u ≡ true
    stays_inside = inside_is ∙ ap is_inside (same_place ∙ l)

    pub late_goes : Going g done2 (Some u) new rest2
    late_goes = record {
      standing = record {
        staged = subst (λ k. Staged S k (Some u) new.config) (sym j.done_is) (inside_more S (done ++ own by_thread u ms) joined.0 u j.middle new.config m joined.2 joined.1 j.mine j.step stays_inside);
        done_moves = all_done;
        beside_it = j.beside_it;
        late = λ v q. subst (λ w. place_on g new.config w ≡ Late) (same_Some u v q) (same_place ∙ l);
      };
      rest_moves = rest_all;
      fails = rest_fails;
    }

    pub late_bounded : o ≡ None → (bound before : ℕ) → Room g bound before done o (length ms + 1 + length rest) (length (others by_thread u ms) + length rest) → Bounded g bound done2 (Some u) new rest2 × (measure_of g (Some u) rest2 new.config < before)
    late_bounded none bound before room =
        let r = room.none none in
        let a = r.0 in
        let b = r.1 in
        let n = rest_long in
        let q = split_length by_thread u ms in
        let z = ended_by true stays_inside in
        let k = counted_few S u rest2 new.config in
        (omega (arith, a, n, q, z, k), omega (arith, b, n, q, k))

  -- ---- a block that has ended

  module _ (l : place_on g e u ≡ Between) where
    is_out : S.inside new.config u ≡ false
    is_out = inside_is ∙ ap is_inside (same_place ∙ l)

    pub between_goes : challenged (program_of g) g.layer g.store.now done2 ≡ false → Going g done2 None new rest2
    between_goes calm = record {
      standing = record {
        staged = subst (λ k. Staged S k None new.config) (sym j.done_is) (ends_staged S (done ++ own by_thread u ms) joined.0 u j.middle new.config m joined.2 joined.1 j.mine j.step is_out (ap (challenged (program_of g) g.layer g.store.now) (sym j.done_is) ∙ calm));
        done_moves = all_done;
        beside_it = j.beside_it;
        late = λ v q. absurd (none-some v q);
      };
      rest_moves = rest_all;
      fails = rest_fails;
    }

    pub between_bounded : (bound before : ℕ) → Room g bound before done o (length ms + 1 + length rest) (length (others by_thread u ms) + length rest) → Bounded g bound done2 None new rest2 × (measure_of g None rest2 new.config < before)
    between_bounded bound before room = go o refl
      where
        n : length rest2 ≡ length (others by_thread u ms) + length rest
        n = rest_long

        k : length (own by_thread u ms) + length (others by_thread u ms) ≡ length ms
        k = split_length by_thread u ms

        z : ended g done2 ≡ ended g done + 1
        z = ended_by false is_out

        go : (q : Option ℕ) → o ≡ q → Bounded g bound done2 None new rest2 × (measure_of g None rest2 new.config < before)
        go None e = let r = room.none e in let a = r.0 in let b = r.1 in (omega (arith, a, n, k, z), omega (arith, b, n, k))
        go (Some v) e = let r = room.some v e in let a = r.0 in let b = r.1 in (omega (arith, a, n, z), omega (arith, b, n))

    pub between_done : challenged (program_of g) g.layer g.store.now done2 ≡ true → (bound before : ℕ) → Room g bound before done o (length ms + 1 + length rest) (length (others by_thread u ms) + length rest)
        → (given : List Move) → bound ≤ length given → IsTurned (program_of g) g.layer g.store.now given done2
    between_done hard bound before room given small = record {
      end = new.config;
      are_moves = all_done;
      runs = subst (λ k. IsBlockRun S k new.config) (sym j.done_is) (ends_run S (done ++ own by_thread u ms) joined.0 u j.middle new.config m joined.2 joined.1 j.mine j.step is_out);
      fails = inr hard;
      few = (let x = between_bounded bound before room in let y = x.0 in omega (arith, y, small));
    }
