-- The shadow of block runs of one thread, with this body:
--
--   civl 1; layers 1; permissions 1;
--   global f : bool layers 0 to 1;
--   global s : bool layers 1 to 1;
--   init true;
--   action Set() -> () choose () layers 0 to 0 atomic gate true guard true { f := true; }
--   action Do() -> () choose () layers 1 to 1 atomic gate s guard true { f := true; }
--   proc Q() -> () refines Do with () layer 1 { BODY }
--   thread Q();
use Rattle.std.specs.Prelude.{ℕ, ◌≡◌, Bool, true, false, List, [], ◌∷◌, codes}
use Rattle.civl_tree.specs.declared.expr.Expr.{Expr}
use Rattle.civl_tree.specs.declared.expr.Expr as expr
use Rattle.civl_tree.specs.declared.expr.Sort.TheVariants as sort
use Rattle.civl_tree.specs.declared.program.Program.{Program}
use Rattle.civl_tree.specs.declared.stmt.Stmt.{Stmt}
use Rattle.civl_tree.specs.declared.stmt.Stmt as stmt
use Rattle.civl_firing.specs.declared.store.Store.{Store}
use Rattle.civl_firing.specs.examples.Written.{bool, named, name, global, update, action, refines, proc, thread, call, holding}
use Rattle.civl_meaning.specs.examples.Moves.{moves_of}
use Rattle.civl_reduction.specs.blocks.Shadow.{Shadowed, shadowed, seen}
use Rattle.civl_reduction.specs.blocks.Challenged.{is_challenged}

abbrev pub f : Expr
f = name (codes "f")

-- `call Set() -> ();`, `yield true;` and `intro s := f;`
abbrev pub set : Stmt
set = call (codes "Set") [] []

abbrev pub pause : Stmt
pause = stmt.Yield expr.True

abbrev pub copy : Stmt
copy = stmt.Intro (named (codes "s")) f

abbrev pub program_with : List Stmt → Program
program_with body = record {
  version = 1;
  layers = 1;
  permissions = 1;
  globals = global (codes "f") sort.Bool 0 1 ∷ global (codes "s") sort.Bool 1 1 ∷ [];
  init = expr.True;
  invariants = [];
  actions =
      action (codes "Set") [] [] [] 0 0 expr.True expr.True (update (codes "f") expr.True ∷ [])
      ∷ action (codes "Do") [] [] [] 1 1 (name (codes "s")) expr.True (update (codes "f") expr.True ∷ [])
      ∷ [];
  procs = proc (codes "Q") [] [] (refines (codes "Do") 1) [] body ∷ [];
  threads = thread (codes "Q") [] ∷ [];
}

abbrev pub with : Bool → Bool → Store
with f s = holding (bool f ∷ bool s ∷ [])

-- from these f and s, behind so many moves of the thread
abbrev pub here : List Stmt → Bool × Bool → List ℕ → Shadowed
here body first moves = shadowed (program_with body) 0 (with first.0 first.1) (moves_of moves)

-- there stand f and the shadow's s, `done`, and whether this is challenged
abbrev pub Beside : List Stmt → Bool × Bool → List ℕ → Bool × Bool × Bool × Bool → Type 0
Beside body first moves last =
    (seen (program_with body) 0 (here body first moves) ≡ with last.0 last.1)
    × ((here body first moves).shadow.done 0 ≡ last.2)
    × (is_challenged (program_with body) 0 (here body first moves) ≡ last.3)

-- the call that makes the frame, the call of Set, and the step that removes the frame
abbrev entered : List ℕ
entered = 0 ∷ []

abbrev acted : List ℕ
acted = 0 ∷ 0 ∷ []

abbrev left : List ℕ
left = 0 ∷ 0 ∷ 0 ∷ []

-- an intro takes effect with the statement before it
abbrev pub AnIntro : Type 0
AnIntro =
    Beside (set ∷ copy ∷ []) (false, false) entered (false, false, false, false)
    × Beside (set ∷ copy ∷ []) (false, false) acted (true, true, false, false)
    × Beside (set ∷ copy ∷ []) (false, false) left (true, true, false, false)

-- or with the call, where it comes first
abbrev pub AnIntroAtTheEntry : Type 0
AnIntroAtTheEntry = Beside (copy ∷ set ∷ []) (true, false) [] (true, false, false, true) × Beside (copy ∷ set ∷ []) (true, false) entered (true, true, false, false)

-- a commit does as an intro does
abbrev pub ACommit : Type 0
ACommit =
    Beside (stmt.Commit ∷ set ∷ []) (false, true) entered (false, true, true, false)
    × Beside (set ∷ stmt.Commit ∷ []) (false, true) entered (false, true, false, false)
    × Beside (set ∷ stmt.Commit ∷ []) (false, true) acted (true, true, true, false)

-- the block from the first yield has no step, and takes effect with the thread's next step
abbrev pub ABlockWithoutAStep : Type 0
ABlockWithoutAStep =
    Beside (pause ∷ copy ∷ pause ∷ set ∷ []) (false, true) entered (false, true, false, false)
    × Beside (pause ∷ copy ∷ pause ∷ set ∷ []) (false, true) acted (true, false, false, false)

-- two of them, in their order, and what stands before the step
abbrev pub TwoInARow : Type 0
TwoInARow =
    Beside (pause ∷ stmt.Commit ∷ pause ∷ copy ∷ pause ∷ set ∷ copy ∷ []) (false, true) entered (false, true, false, false)
    × Beside (pause ∷ stmt.Commit ∷ pause ∷ copy ∷ pause ∷ set ∷ []) (false, true) acted (true, false, true, false)
    × Beside (pause ∷ stmt.Commit ∷ pause ∷ copy ∷ pause ∷ set ∷ copy ∷ []) (false, true) acted (true, true, true, false)

-- where the gate of Do is false before the call of Q, this is challenged, and where it is true it isn't
abbrev pub ChallengedBeforeTheCall : Type 0
ChallengedBeforeTheCall = Beside (set ∷ []) (true, false) [] (true, false, false, true) × Beside (set ∷ []) (true, true) [] (true, true, false, false)

-- the same at the beginning of a block, where no commit was passed; inside a block it doesn't matter
abbrev pub ChallengedAtABlock : Type 0
ChallengedAtABlock =
    Beside (pause ∷ set ∷ []) (true, false) entered (true, false, false, true)
    × Beside (pause ∷ set ∷ []) (true, true) entered (true, true, false, false)
    × Beside (stmt.Commit ∷ pause ∷ set ∷ []) (true, false) entered (true, false, true, false)
    × Beside (set ∷ pause ∷ []) (true, false) entered (true, false, false, false)
    × Beside (set ∷ pause ∷ []) (true, false) acted (true, false, false, true)

-- it is the shadow's value that tells, which an intro set, and not the configuration's
abbrev pub ChallengedByTheShadow : Type 0
ChallengedByTheShadow = Beside (copy ∷ pause ∷ set ∷ []) (true, false) entered (true, true, false, false) × Beside (copy ∷ pause ∷ set ∷ []) (false, true) entered (false, false, false, true)
