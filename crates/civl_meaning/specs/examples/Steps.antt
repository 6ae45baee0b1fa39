-- One step of each kind, and each answer:
--
--   global x : word(8) layers 0 to 0;
--   global y : word(8) layers 0 to 0;
--   action Swap(val v : word(8)) -> (val o : word(8)) choose (c : word(8) = 0:8) layers 0 to 0 atomic
--     gate (v != 0:8) guard (c < 10:8) { x := y; y := x; o := ((x + v) + c); }
--   proc Twice(val n : word(8)) -> (val m : word(8)) root { m := (n + n); }
--   proc Work() -> () root {
--     var a : word(8); var b : bool;
--     0  a := (a + 1:8);
--     1  assert (a == 5:8);
--     2  if b { 3  b := false; } else { }
--     4  while b { 5  a := 0:8; 6  b := false; }
--     7  yield true;
--     8  call Twice(a) -> (a);
--     9  call Swap(a) -> (a);
--     10 spawn Work();
--     11 yield true;
--   }
--   proc Loops() -> () root {
--     var b : bool;
--     0  while yield b inv true { 1  yield true; 2  b := false; }
--     3  while rank b by 0:8 inv true { 4  b := false; }
--     5  if b { 6  b := true; 7  b := false; } else { 8  b := true; }
--   }
--   thread Work();
use Rattle.std.specs.Prelude.{ℕ, ◌≡◌, Bool, true, false, List, [], ◌∷◌, codes}
use Rattle.civl_bits.specs.declared.value.Value.{Value}
use Rattle.civl_tree.specs.declared.expr.Expr as expr
use Rattle.civl_tree.specs.declared.expr.Two.TheVariants.{Add, Lt, Eq, Ne}
use Rattle.civl_tree.specs.declared.expr.Sort.{Sort}
use Rattle.civl_tree.specs.declared.expr.Sort.TheVariants as sort
use Rattle.civl_tree.specs.declared.action.Mode.TheVariants.{Val}
use Rattle.civl_tree.specs.declared.program.Program.{Program}
use Rattle.civl_tree.specs.declared.stmt.Stmt as stmt
use Rattle.civl_meaning.specs.declared.config.Activation.{Activation}
use Rattle.civl_meaning.specs.declared.config.State.{State}
use Rattle.civl_meaning.specs.declared.config.State.TheVariants.{Before, Inside, After}
use Rattle.civl_meaning.specs.declared.config.Running.{Running}
use Rattle.civl_meaning.specs.declared.config.Config.{Config}
use Rattle.civl_meaning.specs.declared.config.Move.{Move}
use Rattle.civl_meaning.specs.declared.config.Plain.{Plain}
use Rattle.civl_meaning.specs.declared.config.Stepped.{Stepped}
use Rattle.civl_meaning.specs.declared.config.Stepped.TheVariants.{Moved, Blocked, NoThread, Ended, Failing, BadChoices}
use Rattle.civl_meaning.specs.Step.{step_of}
use Rattle.civl_meaning.specs.Layers.{lowest}
use Rattle.civl_firing.specs.examples.Written.{word, bool, named, name, lit, global, param, choice, local, update, action, root, proc, thread, call, holding}
use Rattle.civl_meaning.specs.examples.Moves.{by}

abbrev byte : Sort
byte = sort.Word 8

abbrev pub worked : Program
worked = record {
  version = 2;
  layers = 1;
  permissions = 1;
  globals = global (codes "x") byte 0 0 ∷ global (codes "y") byte 0 0 ∷ [];
  init = expr.True;
  invariants = [];
  actions =
      action (codes "Swap") (param Val (codes "v") byte ∷ []) (param Val (codes "o") byte ∷ []) (choice (codes "c") byte (lit 0 8) ∷ []) 0 0
      (expr.Two Ne (name (codes "v")) (lit 0 8)) (expr.Two Lt (name (codes "c")) (lit 10 8)) (
      update (codes "x") (name (codes "y"))
      ∷ update (codes "y") (name (codes "x"))
      ∷ update (codes "o") (expr.Two Add (expr.Two Add (name (codes "x")) (name (codes "v"))) (name (codes "c")))
      ∷ []
      )
      ∷ [];
  procs =
      proc (codes "Twice") (param Val (codes "n") byte ∷ []) (param Val (codes "m") byte ∷ []) root [] (
      stmt.Assign (named (codes "m")) (expr.Two Add (name (codes "n")) (name (codes "n"))) ∷ []
      )
      ∷ proc (codes "Work") [] [] root (local (codes "a") byte ∷ local (codes "b") sort.Bool ∷ []) (
      stmt.Assign (named (codes "a")) (expr.Two Add (name (codes "a")) (lit 1 8))
      ∷ stmt.Assert (expr.Two Eq (name (codes "a")) (lit 5 8))
      ∷ stmt.If (name (codes "b")) (stmt.Assign (named (codes "b")) expr.False ∷ []) []
      ∷ stmt.While (name (codes "b")) (stmt.Assign (named (codes "a")) (lit 0 8) ∷ stmt.Assign (named (codes "b")) expr.False ∷ [])
      ∷ stmt.Yield expr.True
      ∷ call (codes "Twice") (name (codes "a") ∷ []) (named (codes "a") ∷ [])
      ∷ call (codes "Swap") (name (codes "a") ∷ []) (named (codes "a") ∷ [])
      ∷ stmt.Spawn (named (codes "Work")) []
      ∷ stmt.Yield expr.True
      ∷ []
      )
      ∷ proc (codes "Loops") [] [] root (local (codes "b") sort.Bool ∷ []) (
      stmt.YieldLoop (name (codes "b")) expr.True (stmt.Yield expr.True ∷ stmt.Assign (named (codes "b")) expr.False ∷ [])
      ∷ stmt.RankLoop (name (codes "b")) (lit 0 8) expr.True (stmt.Assign (named (codes "b")) expr.False ∷ [])
      ∷ stmt.If (name (codes "b")) (stmt.Assign (named (codes "b")) expr.True ∷ stmt.Assign (named (codes "b")) expr.False ∷ []) (stmt.Assign (named (codes "b")) expr.True ∷ [])
      ∷ []
      )
      ∷ [];
  threads = thread (codes "Work") [] ∷ [];
}

abbrev plain : Plain
plain = lowest worked

-- Work at a place, with a and b
abbrev work : ℕ → ℕ → Bool → Activation
work place a b = record { procedure = 1; place = place; locals = word 8 a ∷ bool b ∷ [] }

-- Twice at a place, with n and m
abbrev twice : ℕ → ℕ → ℕ → Activation
twice place n m = record { procedure = 0; place = place; locals = word 8 n ∷ word 8 m ∷ [] }

abbrev running : State → Running
running state = record { callee = 1; args = []; state = state }

-- one thread, x = 1 and y = 2
abbrev one : State → Config
one state = record { store = holding (word 8 1 ∷ word 8 2 ∷ []); threads = running state ∷ [] }

abbrev inside : Activation → Config
inside frame = one (Inside [] frame)

-- a step of the one thread that is made
abbrev Moves : Config → Config → Type 0
Moves from to = step_of plain from (by 0) ≡ (Moved, to)

-- a move that is refused, which leaves the configuration
abbrev Refused : Config → Move → Stepped → Type 0
Refused config move a = step_of plain config move ≡ (a, config)

abbrev pub NoThreadThere : Type 0
NoThreadThere = Refused (one Before) (by 1) NoThread

abbrev pub ThreadEnded : Type 0
ThreadEnded = Refused (one After) (by 0) Ended

abbrev pub CallOfThread : Type 0
CallOfThread = Moves (one Before) (inside (work 0 0 false))

abbrev pub FirstFrameReturns : Type 0
FirstFrameReturns = Moves (inside (work 11 7 true)) (one After)

abbrev pub OutputsAreReturned : Type 0
OutputsAreReturned = Moves (one (Inside (work 8 4 true ∷ []) (twice 1 4 9))) (inside (work 9 9 true))

-- a frame between others stays as it is
abbrev pub DeepReturn : Type 0
DeepReturn = Moves (one (Inside (work 8 1 true ∷ work 8 2 true ∷ []) (twice 1 4 9))) (one (Inside (work 8 1 true ∷ []) (work 9 9 true)))

abbrev pub Assigns : Type 0
Assigns = Moves (inside (work 0 4 true)) (inside (work 1 5 true))

abbrev pub FirstBranch : Type 0
FirstBranch = Moves (inside (work 2 5 true)) (inside (work 3 5 true))

abbrev pub BranchEnds : Type 0
BranchEnds = Moves (inside (work 3 5 true)) (inside (work 4 5 false))

abbrev pub SecondBranch : Type 0
SecondBranch = Moves (inside (work 2 5 false)) (inside (work 4 5 false))

abbrev pub LoopBegins : Type 0
LoopBegins = Moves (inside (work 4 5 true)) (inside (work 5 5 true))

abbrev pub LoopGoesRound : Type 0
LoopGoesRound = Moves (inside (work 6 0 true)) (inside (work 4 0 false))

abbrev pub LoopEnds : Type 0
LoopEnds = Moves (inside (work 4 0 false)) (inside (work 7 0 false))

-- Loops at a place, with b
abbrev pub loops : ℕ → Bool → Activation
loops place b = record { procedure = 2; place = place; locals = bool b ∷ [] }

-- the three forms of loops are one
abbrev pub YieldLoopBegins : Type 0
YieldLoopBegins = Moves (inside (loops 0 true)) (inside (loops 1 true))

abbrev pub YieldLoopGoesRound : Type 0
YieldLoopGoesRound = Moves (inside (loops 1 true)) (inside (loops 0 false))

abbrev pub YieldLoopEnds : Type 0
YieldLoopEnds = Moves (inside (loops 0 false)) (inside (loops 3 false))

abbrev pub RankLoopBegins : Type 0
RankLoopBegins = Moves (inside (loops 3 true)) (inside (loops 4 true))

abbrev pub RankLoopGoesRound : Type 0
RankLoopGoesRound = Moves (inside (loops 4 true)) (inside (loops 3 false))

abbrev pub RankLoopEnds : Type 0
RankLoopEnds = Moves (inside (loops 3 false)) (inside (loops 5 false))

-- the second branch begins behind the first, which ends behind both
abbrev pub BranchBehindBranch : Type 0
BranchBehindBranch = Moves (inside (loops 5 false)) (inside (loops 8 false))

abbrev pub FirstOfTwoEnds : Type 0
FirstOfTwoEnds = Moves (inside (loops 7 true)) (inside (loops 9 false))

abbrev pub AssertHolds : Type 0
AssertHolds = Moves (inside (work 1 5 true)) (inside (work 2 5 true))

abbrev pub AssertFails : Type 0
AssertFails = Refused (inside (work 1 4 true)) (by 0) Failing

-- the yield before the call is passed over; the frame waits at the call
abbrev pub CallOfBody : Type 0
CallOfBody = Moves (inside (work 7 6 true)) (one (Inside (work 8 6 true ∷ []) (twice 0 6 0)))

abbrev chosen : List Value → Move
chosen values = record { thread = 0; choices = values }

abbrev pub GateIsFalse : Type 0
GateIsFalse = Refused (inside (work 9 0 true)) (chosen (word 8 3 ∷ [])) Failing

-- the gate is asked before the choices, and these before the guard
abbrev pub GateBeforeChoices : Type 0
GateBeforeChoices = Refused (inside (work 9 0 true)) (chosen []) Failing

abbrev pub TooFewChoices : Type 0
TooFewChoices = Refused (inside (work 9 4 true)) (chosen []) BadChoices

abbrev pub TooManyChoices : Type 0
TooManyChoices = Refused (inside (work 9 4 true)) (chosen (word 8 3 ∷ word 8 3 ∷ [])) BadChoices

abbrev pub ChoiceOfOtherSort : Type 0
ChoiceOfOtherSort = Refused (inside (work 9 4 true)) (chosen (word 9 30 ∷ [])) BadChoices

abbrev pub GuardIsFalse : Type 0
GuardIsFalse = Refused (inside (work 9 4 true)) (chosen (word 8 10 ∷ [])) Blocked

-- all updates are made at once, from the old store: x and y change places, and o is the old x plus 4 plus 3
abbrev pub ActionFires : Type 0
ActionFires =
    step_of plain (inside (work 9 4 true)) (chosen (word 8 3 ∷ []))
    ≡ (Moved, record { store = holding (word 8 2 ∷ word 8 1 ∷ []); threads = running (Inside [] (work 10 8 true)) ∷ [] })

-- choices count only at an action call
abbrev pub ChoicesElsewhere : Type 0
ChoicesElsewhere = step_of plain (inside (work 0 4 true)) (chosen (bool true ∷ [])) ≡ (Moved, inside (work 1 5 true))

-- the new thread stands behind all others
abbrev pub SpawnedBehind : Type 0
SpawnedBehind =
    step_of plain (record { store = holding (word 8 1 ∷ word 8 2 ∷ []); threads = running (Inside [] (work 10 8 true)) ∷ running After ∷ [] }) (by 0)
    ≡ (Moved, record { store = holding (word 8 1 ∷ word 8 2 ∷ []); threads = running (Inside [] (work 11 8 true)) ∷ running After ∷ running Before ∷ [] })
