-- Serves private functions: where a block run is followed, how far this has come.
use Rattle.std.specs.Prelude.{ℕ, ◌+◌, ◌≤◌, ◌≡◌, Bool, true, false, List, [], ◌∷◌, ◌++◌, length, map, Option, None, Some, slice_get, drop, All, Contains, ◌⊎◌}
use Rattle.civl_bits.specs.declared.value.Value.{Value}
use Rattle.civl_tree.specs.declared.program.Proc.{Proc}
use Rattle.civl_tree.specs.declared.program.Program.{Program}
use Rattle.civl_firing.specs.declared.store.Store.{Store}
use Rattle.civl_meaning.specs.declared.config.Activation.{Activation}
use Rattle.civl_meaning.specs.declared.config.Config as meaning
use Rattle.civl_meaning.specs.declared.config.Move.{Move}
use Rattle.civl_meaning.specs.declared.config.Running.{Running}
use Rattle.civl_meaning.specs.Change.{outs_in}
use Rattle.civl_meaning.specs.Failing.{IsMove}
use Rattle.civl_meaning.specs.Layers.{program_at}
use Rattle.civl_meaning.specs.Run.{RunsTo}
use Rattle.civl_meaning.specs.Step.{start}
use Rattle.civl_conditions.specs.Assumed.{inputs_of}
use Rattle.civl_reduction.specs.interleavings.Systems.{Failing}
use Rattle.civl_reduction.specs.interleavings.Runs.{BlocksTo, Staged, Opens, opened}
use Rattle.civl_reduction.specs.interleavings.Threads.{Config, stepping_of, inside_in, step_of}
use Rattle.civl_reduction.specs.interleavings.Threads as threads
use Rattle.civl_reduction.specs.exchanges.Interleavings.{Chosen}
use Rattle.civl_reduction.specs.checked.Checked.{IsChecked, SpawnsAreInRoots}
use Rattle.civl_reduction.specs.blocks.Blocks.{rest_of}
use Rattle.civl_reduction.specs.staged.Stops.{StopsAt}
use Rattle.civl_reduction.specs.blocks.Reduces.{plain_move, plain_config, layer_threads, layer_system}
use Rattle.civl_reduction.specs.blocks.Cuts.{frame_at, settled}
use Rattle.civl_reduction.specs.blocks.Shadow.{Shadowed, seen, course_of, shadowed, shadowed_from, shadowed_step}
use Rattle.civl_reduction.specs.blocks.Challenged.{challenged, is_challenged}
use Rattle.civl_reduction.specs.simulation.Refined.{Acts, with_values, sight_before, IsPickedBefore}
use Rattle.civl_reduction.specs.simulation.Meets.{Meets}
use Rattle.civl_reduction.specs.simulation.Sound.{BlocksAreSound}
use Rattle.civl_shadows.specs.declared.shadow.Shadowed as given
use Rattle.civl_shadows.specs.Shadows.{done_in, Shows}
use Rattle.civl_conditions.specs.footprints.Agreement.{StoresAgree, exists_at}
use Rattle.civl_followed.specs.declared.acting.Done.{Done}
use Rattle.civl_followed.specs.declared.walk.Opening.{Opening}
use Rattle.civl_followed.specs.declared.walk.Walk.{Walk}
use Rattle.civl_followed.specs.inner.Frames.{IsKept}
use Rattle.civl_followed.specs.Followed.{inside_at, block_count, FollowsBlocks}

-- what following rests on
pub record Grounds (program : Program) (layer : ℕ) (store : Store) : Type 0 where
  pub checked : IsChecked program layer store
  pub in_roots : SpawnsAreInRoots
  pub sound : BlocksAreSound program layer store

-- a block of its thread begins here
pub record BeginsAs (program : Program) (layer : ℕ) (s : Shadowed) (b : Opening) : Type 0 where
  pub store : b.store ≡ seen program layer s
  pub done : b.done ≡ (sight_before program layer s b.thread (frame_at program (layer + 1) s.config.threads b.thread)).done
  pub offered : (chosen : List Value) → IsPickedBefore program layer s b.thread (frame_at program (layer + 1) s.config.threads b.thread) chosen → Contains b.offered.items chosen

-- what is known of all moves, of which the first blocks have been followed by these, which have led to x
pub record IsFollowing (program : Program) (layer : ℕ) (store : Store) (moves : List Move) (x : meaning.Config) (followed : List Move) (ps : List (threads.Move Chosen)) (c end : Config Store Running) : Type 0 where
  pub meets : Meets program layer store (map plain_move ps) (plain_config c) x
  pub fails : Failing (stepping_of (layer_threads program layer store)) end ⊎ (challenged program layer store moves ≡ true)
  pub runs : RunsTo (program_at program (layer + 1)) followed (start (program_at program (layer + 1)) store) x
  pub are : All IsMove followed

-- between two blocks, with these moves still to come
pub record AlongAt (program : Program) (layer : ℕ) (store : Store) (moves : List Move) (kept : given.Shadowed) (x : meaning.Config) (followed rest : List Move) : Type 0 where
  pub ps : List (threads.Move Chosen)
  pub later : List (threads.Move Chosen)
  pub c : Config Store Running
  pub end : Config Store Running
  pub following : IsFollowing program layer store moves x followed ps c end
  pub all : map plain_move (ps ++ later) ≡ moves
  pub rest_is : map plain_move later ≡ rest
  pub staged : challenged program layer store (map plain_move ps) ≡ false → Staged (layer_system program layer store (challenged program layer store)) ps None c
  pub shows : Shows kept (shadowed program layer store (map plain_move ps))
  pub blocks : BlocksTo (layer_system program layer store (challenged program layer store)) None later c None end
  pub few : length followed + block_count program layer rest (plain_config c) ≤ block_count program layer moves (start (program_at program layer) store)

-- inside a block that began so
pub record AlongIn (program : Program) (layer : ℕ) (store : Store) (moves : List Move) (b : Opening) (kept : given.Shadowed) (x : meaning.Config) (followed rest : List Move) : Type 0 where
  pub ps : List (threads.Move Chosen)
  pub ms : List (threads.Move Chosen)
  pub later : List (threads.Move Chosen)
  pub c : Config Store Running
  pub e : Config Store Running
  pub end : Config Store Running
  pub following : IsFollowing program layer store moves x followed ps c end
  pub all : map plain_move (ps ++ (ms ++ later)) ≡ moves
  pub rest_is : map plain_move later ≡ rest
  pub staged : Staged (layer_system program layer store (challenged program layer store)) ps None c
  pub begins : BeginsAs program layer (shadowed program layer store (map plain_move ps)) b
  pub opens : Opens (layer_system program layer store (challenged program layer store)) b.thread ms c e
  pub shows : Shows kept (shadowed_from program layer (map plain_move ms) (shadowed program layer store (map plain_move ps)))
  pub blocks : BlocksTo (layer_system program layer store (challenged program layer store)) (Some b.thread) later e None end
  pub few : length followed + block_count program layer rest (plain_config e) ≤ block_count program layer moves (start (program_at program layer) store)

-- just before a step of a block that began so
pub record IsReady (program : Program) (layer : ℕ) (store : Store) (moves : List Move) (b : Opening) (m : Move) (kept : given.Shadowed) (x : meaning.Config) (followed rest : List Move) : Type 0 where
  pub ps : List (threads.Move Chosen)
  pub ms : List (threads.Move Chosen)
  pub one : threads.Move Chosen
  pub later : List (threads.Move Chosen)
  pub c : Config Store Running
  pub e : Config Store Running
  pub d : Config Store Running
  pub end : Config Store Running
  pub following : IsFollowing program layer store moves x followed ps c end
  pub all : map plain_move (ps ++ (ms ++ one ∷ later)) ≡ moves
  pub one_is : plain_move one ≡ m
  pub thread_is : one.thread ≡ b.thread
  pub rest_is : map plain_move later ≡ rest
  pub staged : Staged (layer_system program layer store (challenged program layer store)) ps None c
  pub begins : BeginsAs program layer (shadowed program layer store (map plain_move ps)) b
  pub opens : Opens (layer_system program layer store (challenged program layer store)) b.thread ms c e
  pub shows : Shows kept (shadowed_from program layer (map plain_move ms) (shadowed program layer store (map plain_move ps)))
  pub step : step_of (layer_threads program layer store) e one ≡ Some d
  pub blocks : BlocksTo (layer_system program layer store (challenged program layer store)) (opened (inside_in (layer_threads program layer store) (slice_get d.threads one.thread)) one.thread) later d None end
  pub few : length followed + block_count program layer (m ∷ rest) (plain_config e) ≤ block_count program layer moves (start (program_at program layer) store)

-- with these choices the refined action does what the block did, from this store to that one, with the outputs of the frame
abbrev pub Does : Program → ℕ → Proc × Activation → Store → Store → List Value → Type 0
Does program layer f before after chosen =
    Acts (λ others. others ≡ chosen) program (layer + 1) f.0 (inputs_of f.0 f.1.locals) (record { store = before; done = false; outs = [] }) (record { store = after; done = true; outs = outs_in f.0 f.1.locals })

-- it does so, or no choices that were offered do, and these are those at the end
abbrev pub IsChosenOf : Program → ℕ → Proc × Activation → Store → List (List Value) → Store → List Value → Type 0
IsChosenOf program layer f before offered after chosen =
    Does program layer f before after chosen
    ⊎ ((chosen ≡ with_values program f.0 after f.1.locals) × ((others : List Value) → Contains offered others → Does program layer f before after others → ⊥))

abbrev pub IsChosen : Program → ℕ → Proc × Activation → Opening → Store → List Value → Type 0
IsChosen program layer f b after chosen = IsChosenOf program layer f b.store b.offered.items after chosen

-- what the action left
pub record IsAfter (done : Done) (to : Store) (outs : List Value) : Type 0 where
  pub outs_are : outs ≡ outs_in done.proc.now done.locals.now
  pub globals : StoresAgree (exists_at (done.layer + 1)) done.program.now.globals to done.after.now

-- whether a commit had been passed, of a thread with this topmost frame
abbrev pub done_by : Option (Proc × Activation) → List Bool → ℕ → Bool
done_by None done t = false
done_by (Some f) done t = done_in done t

-- the values behind `with` at the end of a block without a step, of a frame in this store
abbrev pub IsOffered : Program → ℕ → Store → Bool → Option (Proc × Activation) → List Value → Type 0
IsOffered program layer here done None chosen = ⊥
IsOffered program layer here done (Some f) chosen =
    (store : Store) × StopsAt (course_of program layer f.0) (settled (rest_of f)) (record { store = here; locals = f.1.locals; done = done; again = false }) store
    × (chosen ≡ with_values program f.0 store f.1.locals)

-- a block that began so, and whose last step this move was, is followed
abbrev pub Closes : Program → ℕ → Walk → Walk → Opening → Option Activation → Move → Type 0
Closes program layer old new b before m =
    (store : Store) (moves rest : List Move) (kept : given.Shadowed) → Grounds program layer store → IsReady program layer store moves b m kept old.upper old.followed.items rest
    → ((s : Shadowed) → Shows kept s → Shows old.lower (shadowed_step program layer s m)) → inside_at program layer old.lower.config m.thread ≡ false
    → IsKept program before (frame_at program (layer + 1) kept.config.threads m.thread) → AlongAt program layer store moves new.lower new.upper new.followed.items rest

-- the block from this place to that one is followed, behind a run that isn't challenged
abbrev pub FollowsOne : Program → ℕ → List Move → Walk → Walk → ℕ → ℕ → Type 0
FollowsOne program layer moves old new from next =
    (store : Store) → Grounds program layer store → AlongAt program layer store moves old.lower old.upper old.followed.items (drop from moves) → ((s : Shadowed) → Shows old.lower s → is_challenged program layer s ≡ false)
    → AlongAt program layer store moves new.lower new.upper new.followed.items (drop next moves)

-- all are followed, up to the first place where the run is challenged
abbrev pub FollowsAll : Program → ℕ → List Move → Walk → Walk → Type 0
FollowsAll program layer moves old new =
    (store : Store) → Grounds program layer store → AlongAt program layer store moves old.lower old.upper old.followed.items moves → FollowsBlocks program layer store moves new.followed.items

-- in a block that began at the first place nothing has been done, or it is open
abbrev pub Waits : Program → ℕ → List Move → Opening → Walk → Walk → ℕ → ℕ → Type 0
Waits program layer moves b old new from at =
    (store : Store) → Grounds program layer store → AlongAt program layer store moves old.lower old.upper old.followed.items (drop from moves) → ((s : Shadowed) → Shows old.lower s → is_challenged program layer s ≡ false)
    → ((at ≡ from) × (new ≡ old)) ⊎ AlongIn program layer store moves b new.lower new.upper new.followed.items (drop at moves)
