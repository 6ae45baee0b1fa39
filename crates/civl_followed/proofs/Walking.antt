-- A block run is followed, move by move: what is known of how far this has come.
use Rattle.std.proofs.Common.{◌≡◌, ℕ, ◌+◌, ◌≤◌, Bool, true, false, List, [], ◌∷◌, ◌++◌, length, map, refl, sym, ap, ◌∙◌, subst, arith, append_assoc, Option, None, Some, slice_get, inl, inr}
use Rattle.std.specs.Prelude.{All}
use Rattle.std.specs.Option.{option_map_or}
use Rattle.std.proofs.lemmas.Bool.{false≢true, true≢false}
use Rattle.std.proofs.lemmas.List.{append-nil}
use Rattle.std.proofs.lemmas.List.Elements.{All-nil, All-cons, All-append}
use Rattle.std.proofs.lemmas.Option.{none-some}
use Rattle.civl_bits.specs.declared.value.Value.{Value}
use Rattle.civl_tree.specs.declared.program.Program.{Program}
use Rattle.civl_firing.specs.declared.store.Store.{Store}
use Rattle.civl_meaning.specs.declared.config.Config as meaning
use Rattle.civl_meaning.specs.declared.config.Move as plain
use Rattle.civl_meaning.specs.declared.config.Plain.{Plain}
use Rattle.civl_meaning.specs.declared.config.Running.{Running}
use Rattle.civl_meaning.specs.declared.config.Stepped.{Stepped}
use Rattle.civl_meaning.specs.declared.config.Stepped.TheVariants as answer
use Rattle.civl_meaning.specs.Failing.{IsMove}
use Rattle.civl_meaning.specs.Layers.{program_at}
use Rattle.civl_meaning.specs.Run as run
use Rattle.civl_meaning.specs.Step as step
use Rattle.civl_reduction.specs.interleavings.Systems.{System, Failing}
use Rattle.civl_reduction.specs.interleavings.Runs.{BlocksTo, MayStep, Staged, begun, goes, Opens}
use Rattle.civl_reduction.specs.interleavings.Threads.{Threads, Config, Move, inside_in, stepping_of, step_of}
use Rattle.civl_reduction.specs.exchanges.Interleavings.{Chosen, Call, as_config}
use Rattle.civl_reduction.proofs.exchanges.Exchanging.{steps_back, fails_back}
use Rattle.civl_reduction.specs.permissions.Apart.{SpawnsStandInRoots}
use Rattle.civl_reduction.specs.blocks.Blocks.{inside}
use Rattle.civl_reduction.specs.blocks.Reduces.{plain_move, plain_config, layer_threads, layer_system}
use Rattle.civl_reduction.specs.blocks.Shadow.{Shadowed, shadowed_start, shadowed}
use Rattle.civl_reduction.specs.blocks.Challenged.{challenged, is_challenged}
use Rattle.civl_reduction.proofs.simulation.Followed.Failing.{challenged_fail}
use Rattle.civl_reduction.proofs.simulation.Followed.Simulating.{starts_meet, failing}
use Rattle.civl_shadows.specs.declared.shadow.Shadowed as given
use Rattle.civl_shadows.specs.Shadows.{Shows}
use Rattle.civl_followed.specs.declared.walk.Opening.{Opening}
use Rattle.civl_followed.specs.Followed.{inside_at, ended, block_count, FailsInBlocks, FollowsBlocks}
use Rattle.civl_followed.specs.inner.Along.{Grounds, BeginsAs, IsFollowing, AlongAt, AlongIn, IsReady}

-- ---- lists

abbrev head : plain.Move → List plain.Move → plain.Move
head m [] = m
head m (n ∷ ns) = n

abbrev tail : List plain.Move → List plain.Move
tail [] = []
tail (n ∷ ns) = ns

no_cons : {m : plain.Move} {ms : List plain.Move} → ◌≡◌ {A = List plain.Move} [] (m ∷ ms) → ⊥
no_cons e = false≢true (ap is_cons e)
  where
    is_cons : List plain.Move → Bool
    is_cons [] = false
    is_cons (n ∷ ns) = true

-- a run, and one step more
pub runs_more : (p : Plain) (ms : List plain.Move) (m : plain.Move) (c d e : meaning.Config) → run.RunsTo p ms c d → step.step_of p d m ≡ (answer.Moved, e) → run.RunsTo p (ms ++ m ∷ []) c e
runs_more p [] m c d e h s = (e, subst (λ (x : meaning.Config). step.step_of p x m ≡ (answer.Moved, e)) (sym h) s, refl)
runs_more p (n ∷ ms) m c d e h s = (h.0, h.1, runs_more p ms m h.0 d e h.2 s)

pub all_more : (ms : List plain.Move) (m : plain.Move) → All IsMove ms → IsMove m → All IsMove (ms ++ m ∷ [])
all_more ms m h i = All-append IsMove ms (m ∷ []) h (All-cons IsMove m [] i (All-nil IsMove))

module _ (program : Program) (layer : ℕ) (store : Store) (moves : List plain.Move) (g : Grounds program layer store) where
  abbrev lower : Plain
  lower = program_at program layer

  abbrev upper : Plain
  upper = program_at program (layer + 1)

  abbrev P : Threads Store Running Call Chosen (List Value)
  P = layer_threads program layer store

  abbrev S : System (Config Store Running) (Move Chosen)
  S = layer_system program layer store (challenged program layer store)

  abbrev at : List (Move Chosen) → Shadowed
  at ps = shadowed program layer store (map plain_move ps)

  pub roots : SpawnsStandInRoots program
  roots = let k = g.checked in g.in_roots program k.yields

  -- ---- steps and places

  pub made : (e d : Config Store Running) (m : Move Chosen) → step_of P e m ≡ Some d → step.step_of lower (plain_config e) (plain_move m) ≡ (answer.Moved, plain_config d)
  made e d m h = steps_back lower store (inside program layer) (plain_config e) (plain_move m) m.chosen.1 d h

  pub inside_is : (x : Config Store Running) (t : ℕ) → inside_at program layer (plain_config x) t ≡ inside_in P (slice_get x.threads t)
  inside_is x t = go (slice_get x.threads t)
    where
      go : (o : Option Running) → option_map_or (inside program layer) o false ≡ inside_in P o
      go None = refl
      go (Some r) = refl

  -- how many blocks the moves have from one on
  pub count_more : (e d : Config Store Running) (m : Move Chosen) (rest : List plain.Move) → step_of P e m ≡ Some d
      → block_count program layer (plain_move m ∷ rest) (plain_config e) ≡ ended (inside_in P (slice_get d.threads m.thread)) + block_count program layer rest (plain_config d)
  count_more e d m rest h =
      ap (λ (z : Stepped × meaning.Config). ended (inside_at program layer z.1 m.thread) + block_count program layer rest z.1) (made e d m h)
      ∙ ap (λ (b : Bool). ended b + block_count program layer rest (plain_config d)) (inside_is d m.thread)

  -- ---- the first steps of a block

  pub opens_more : (ms : List (Move Chosen)) (t : ℕ) (m : Move Chosen) (c e d : Config Store Running) → Opens S t ms c e → m.thread ≡ t → step_of P e m ≡ Some d → inside_in P (slice_get d.threads t) ≡ true → Opens S t (ms ++ m ∷ []) c d
  opens_more [] t m c e d o same h i = (d, same, subst (λ (x : Config Store Running). step_of P x m ≡ Some d) (sym o) h, i, refl)
  opens_more (n ∷ ms) t m c e d o same h i = (o.0, o.1, o.2, o.3, opens_more ms t m o.0 e d o.4 same h i)

  pub stage : (ms ps : List (Move Chosen)) (o : Option ℕ) (t : ℕ) (c e : Config Store Running) → Staged S ps o c → MayStep o t → Opens S t ms c e → (p : Option ℕ) × Staged S (ps ++ ms) p e × MayStep p t
  stage [] ps o t c e st may h = (o, subst (λ (l : List (Move Chosen)). Staged S l o e) (sym (append-nil ps)) (subst (Staged S ps o) h st), may)
  stage (m ∷ ms) ps o t c e st may h =
      let may_m : MayStep o m.thread = subst (MayStep o) (sym h.1) may in
      let in_m : S.inside h.0 m.thread ≡ true = ap (λ (u : ℕ). S.inside h.0 u) h.1 ∙ h.3 in
      let r = stage ms (ps ++ m ∷ []) (Some m.thread) t h.0 e (goes m h.0 st may_m h.2 in_m) (sym h.1) h.4 in
      (r.0, subst (λ (l : List (Move Chosen)). Staged S l r.0 e) (append_assoc ps (m ∷ []) ms) r.1, r.2)

  -- ---- where it begins

  pub begins_along : (kept : given.Shadowed) → FailsInBlocks program layer store moves → Shows kept (shadowed_start program layer store) → AlongAt program layer store moves kept (step.start upper store) [] moves
  begins_along kept f shows = record {
    ps = [];
    later = f.chosen;
    c = as_config (step.start lower store);
    end = f.end;
    following = record { meets = starts_meet g.in_roots program layer store g.checked g.sound; fails = f.fails; runs = refl; are = All-nil IsMove };
    all = f.moves_are;
    rest_is = f.moves_are;
    staged = λ h. begun h;
    shows = shows;
    blocks = f.run;
    few = omega arith;
  }

  -- ---- where it ends

  fails_so : (x : meaning.Config) (ns : List plain.Move) (ps : List (Move Chosen)) (c end : Config Store Running) → IsFollowing program layer store moves x ns ps c end → length ns ≤ block_count program layer moves (step.start lower store)
      → Failing (stepping_of (layer_threads program (layer + 1) store)) (as_config x) → FollowsBlocks program layer store moves ns
  fails_so x ns ps c end f few h = record { are_moves = f.are; end = x; runs = f.runs; fails = fails_back upper store (inside program (layer + 1)) x h; few = few }

  pub challenged_along : (kept : given.Shadowed) (x : meaning.Config) (ns rest : List plain.Move) → AlongAt program layer store moves kept x ns rest → ((s : Shadowed) → Shows kept s → is_challenged program layer s ≡ true) → FollowsBlocks program layer store moves ns
  challenged_along kept x ns rest a h =
      let few = a.few in
      fails_so x ns a.ps a.c a.end a.following (omega (arith, few))
      (challenged_fail program layer store g.checked roots (at a.ps) x a.following.meets.meets (h (at a.ps) a.shows))

  pub ends_along : (kept : given.Shadowed) (x : meaning.Config) (ns : List plain.Move) → AlongAt program layer store moves kept x ns [] → FollowsBlocks program layer store moves ns
  ends_along kept x ns a = by_later a.later a.rest_is a.all a.blocks
    where
      by_fails : a.c ≡ a.end → map plain_move a.ps ≡ moves → (b : Bool) → challenged program layer store (map plain_move a.ps) ≡ b → FollowsBlocks program layer store moves ns
      by_fails here are true h =
          let few = a.few in
          fails_so x ns a.ps a.c a.end a.following (omega (arith, few)) (challenged_fail program layer store g.checked roots (at a.ps) x a.following.meets.meets h)
      by_fails here are false h =
          let few = a.few in
          let f = a.following in
          fails_so x ns a.ps a.c a.end a.following (omega (arith, few)) (elim f.fails [
            | inl q ↦ failing g.in_roots program layer store g.checked g.sound a.ps a.c (as_config x) (a.staged h) f.meets (subst (Failing S.steps) (sym here) q)
            | inr q ↦ absurd (true≢false (sym q ∙ (ap (challenged program layer store) (sym are) ∙ h)))
          ])

      by_later : (later : List (Move Chosen)) → map plain_move later ≡ [] → map plain_move (a.ps ++ later) ≡ moves → BlocksTo S None later a.c None a.end → FollowsBlocks program layer store moves ns
      by_later [] r all b = by_fails b.1 (ap (map plain_move) (sym (append-nil a.ps)) ∙ all) (challenged program layer store (map plain_move a.ps)) refl
      by_later (m ∷ later) r all b = absurd (no_cons (sym r))

  pub none_open : (b : Opening) (kept : given.Shadowed) (x : meaning.Config) (ns : List plain.Move) → AlongIn program layer store moves b kept x ns [] → ⊥
  none_open b kept x ns a = by_later a.later a.rest_is a.blocks
    where
      by_later : (later : List (Move Chosen)) → map plain_move later ≡ [] → BlocksTo S (Some b.thread) later a.e None a.end → ⊥
      by_later [] r h = none-some b.thread (sym h.0)
      by_later (m ∷ later) r h = no_cons (sym r)

  -- ---- the next step

  pub ready_at : (b : Opening) (m : plain.Move) (kept : given.Shadowed) (x : meaning.Config) (ns rest : List plain.Move) → AlongAt program layer store moves kept x ns (m ∷ rest) → ((s : Shadowed) → Shows kept s → is_challenged program layer s ≡ false)
      → b.thread ≡ m.thread → ((s : Shadowed) → Shows kept s → BeginsAs program layer s b) → IsReady program layer store moves b m kept x ns rest
  ready_at b m kept x ns rest a not_so thread begins = by_later a.later a.rest_is a.all a.blocks
    where
      by_later : (later : List (Move Chosen)) → map plain_move later ≡ m ∷ rest → map plain_move (a.ps ++ later) ≡ moves → BlocksTo S None later a.c None a.end → IsReady program layer store moves b m kept x ns rest
      by_later [] r all h = absurd (no_cons r)
      by_later (one ∷ later) r all h = record {
        ps = a.ps;
        ms = [];
        one = one;
        later = later;
        c = a.c;
        e = a.c;
        d = h.0;
        end = a.end;
        following = a.following;
        all = all;
        one_is = ap (head m) r;
        thread_is = ap (λ (l : List plain.Move). (head m l).thread) r ∙ sym thread;
        rest_is = ap tail r;
        staged = a.staged (not_so (at a.ps) a.shows);
        begins = begins (at a.ps) a.shows;
        opens = refl;
        shows = a.shows;
        step = h.1;
        blocks = h.3;
        few = a.few;
      }

  pub ready_in : (b : Opening) (m : plain.Move) (kept : given.Shadowed) (x : meaning.Config) (ns rest : List plain.Move) → AlongIn program layer store moves b kept x ns (m ∷ rest) → IsReady program layer store moves b m kept x ns rest
  ready_in b m kept x ns rest a = by_later a.later a.rest_is a.all a.blocks
    where
      by_later : (later : List (Move Chosen)) → map plain_move later ≡ m ∷ rest → map plain_move (a.ps ++ (a.ms ++ later)) ≡ moves → BlocksTo S (Some b.thread) later a.e None a.end → IsReady program layer store moves b m kept x ns rest
      by_later [] r all h = absurd (no_cons r)
      by_later (one ∷ later) r all h = record {
        ps = a.ps;
        ms = a.ms;
        one = one;
        later = later;
        c = a.c;
        e = a.e;
        d = h.0;
        end = a.end;
        following = a.following;
        all = all;
        one_is = ap (head m) r;
        thread_is = h.2;
        rest_is = ap tail r;
        staged = a.staged;
        begins = a.begins;
        opens = a.opens;
        shows = a.shows;
        step = h.1;
        blocks = h.3;
        few = a.few;
      }
