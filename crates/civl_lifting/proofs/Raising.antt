-- From a failing interleaving of a layer's program to one of the program of the next layer.
use Rattle.std.proofs.Common.{ℕ, ◌+◌, ◌≤◌, ◌≡◌, Bool, true, false, List, [], ◌∷◌, length, Option, None, Some, refl, sym, ap, ◌∙◌, slice_get, arith, inl, inr}
use Rattle.std.specs.Prelude.{IsTrue, ◌⊎◌, if◌then◌else◌}
use Rattle.std.specs.Option.{option_map_or}
use Rattle.std.proofs.lemmas.Option.{same_Some, none-some}
use Rattle.civl_tree.specs.declared.program.Program.{Program}
use Rattle.civl_firing.specs.declared.store.Store.{Store}
use Rattle.civl_meaning.specs.declared.config.Move.{Move}
use Rattle.civl_meaning.specs.declared.config.Plain.{Plain}
use Rattle.civl_meaning.specs.declared.config.Running.{Running}
use Rattle.civl_meaning.specs.declared.config.Config.{Config}
use Rattle.civl_meaning.specs.declared.config.Stepped.{Stepped}
use Rattle.civl_meaning.specs.declared.config.Stepped.TheVariants as answer
use Rattle.civl_meaning.specs.Failing.{is_failing}
use Rattle.civl_meaning.specs.Layers.{program_at}
use Rattle.civl_meaning.specs.Step.{start, step_of}
use Rattle.civl_reduction.specs.interleavings.Systems.{Failing, System}
use Rattle.civl_reduction.specs.interleavings.Runs.{BlocksTo, opened}
use Rattle.civl_reduction.specs.interleavings.Threads.{stepping_of}
use Rattle.civl_reduction.specs.exchanges.Interleavings.{as_config}
use Rattle.civl_reduction.specs.blocks.Blocks.{inside}
use Rattle.civl_reduction.specs.blocks.Challenged.{challenged}
use Rattle.civl_reduction.specs.blocks.Reduces.{layer_threads}
use Rattle.civl_reduction.specs.gathering.Gathered.{blocks}
use Rattle.civl_reduction.proofs.gathering.Counting.{blocks_step}
use Rattle.civl_reduction.specs.gathered.System.{made, there_inside, layer_run}
use Rattle.civl_reduction.proofs.gathered.Moving.{fails_same}
use Rattle.civl_reduction.proofs.gathered.Stages.{blocks_raised}
use Rattle.civl_blocked.specs.Blocked.{IsTurned}
use Rattle.civl_blocked.proofs.Failures.{any_fails}
use Rattle.civl_followed.specs.Followed.{inside_at, ended, block_count, FailsInBlocks, FollowsBlocks}
use Rattle.civl_lifting.specs.Lifted.{FailsBy}

-- ---- a step that is made

made_step : (x : Stepped × Config) (d : Config) → made x ≡ Some d → x.1 ≡ d
made_step (answer.Moved, e) d h = same_Some e d h
made_step (answer.Blocked, e) d h = absurd (none-some d h)
made_step (answer.NoThread, e) d h = absurd (none-some d h)
made_step (answer.Ended, e) d h = absurd (none-some d h)
made_step (answer.Failing, e) d h = absurd (none-some d h)
made_step (answer.BadChoices, e) d h = absurd (none-some d h)

module _ (program : Program) (layer : ℕ) (store : Store) where
  abbrev plain : Plain
  plain = program_at program layer

  abbrev L : System Config Move
  L = layer_run program layer store

  ends_same : (o : Option Running) → ended (option_map_or (inside program layer) o false) ≡ (if there_inside program layer o then 0 else 1)
  ends_same None = refl
  ends_same (Some r) = by (inside program layer r)
    where
      by : (b : Bool) → ended b ≡ (if b then 0 else 1)
      by true = refl
      by false = refl

  -- the blocks are counted alike
  counts_same : (ms : List Move) (o p : Option ℕ) (c d : Config) → BlocksTo L o ms c p d → block_count program layer ms c ≡ blocks L ms c
  counts_same [] o p c d b = refl
  counts_same (m ∷ ms) o p c d b =
      let a = ap (λ (x : Config). ended (inside_at program layer x m.thread) + block_count program layer ms x) (made_step (step_of plain c m) b.0 b.1) in
      let e = ends_same (slice_get b.0.threads m.thread) in
      let f = counts_same ms (opened (L.inside b.0 m.thread) m.thread) p b.0 d b.3 in
      let g = blocks_step L m ms c b.0 b.1 in
      omega (arith, a, e, f, g)

  fails_up : (c : Config) → is_failing plain c ≡ true → Failing (stepping_of (layer_threads program layer store)) (as_config c)
  fails_up c f = let r = any_fails plain c f in (r.0, sym (fails_same program layer store c.store (slice_get c.threads r.0)) ∙ r.1)

  -- what was turned into a block run can be followed
  pub turned_fails : (given moves : List Move) → IsTurned program layer store given moves → FailsInBlocks program layer store moves
  turned_fails given moves t =
      let up = blocks_raised program layer store moves None None (start plain store) t.end t.are_moves t.runs in
      record { chosen = up.0; moves_are = up.1; end = as_config t.end; run = up.2; fails = either t.fails }
    where
      either : IsTrue (is_failing plain t.end) ⊎ (challenged program layer store moves ≡ true) → Failing (stepping_of (layer_threads program layer store)) (as_config t.end) ⊎ (challenged program layer store moves ≡ true)
      either (inl f) = inl (fails_up t.end f)
      either (inr h) = inr h

  -- what follows is as short
  pub followed_few : (given moves followed : List Move) → IsTurned program layer store given moves → FollowsBlocks program layer store moves followed → length followed ≤ length given
  followed_few given moves followed t f =
      let a = f.few in
      let b = t.few in
      let e = counts_same moves None None (start plain store) t.end t.runs in
      omega (arith, a, b, e)

-- and fails in the program of the next layer
pub followed_fails : (program : Program) (layer : ℕ) (store : Store) (moves followed : List Move) → FollowsBlocks program layer store moves followed → FailsBy (program_at program (layer + 1)) store followed
followed_fails program layer store moves followed f = record { are_moves = f.are_moves; end = f.end; runs = f.runs; fails = f.fails }
