-- A program that puts what is chosen into a global, for which a configuration is kept only by moves whose choices are
-- values; and others, which break the rules on sorts and on names, whose configurations aren't kept, or whose threads are
-- stuck.
--
--   civl 1; layers 1; permissions 1;
--   global x : word(8) layers 0 to 1;
--   init true;
--   action Put() -> () choose (c : word(8) = 0:8) layers 0 to 1 atomic gate true guard true { x := c; }
--   proc Main() -> () root { call Put() -> (); }
--   thread Main();
use Rattle.std.specs.Prelude.{ℕ, ◌≡◌, List, [], ◌∷◌, codes}
use Rattle.civl_tree.specs.declared.expr.Expr.{Expr}
use Rattle.civl_tree.specs.declared.expr.Expr as expr
use Rattle.civl_tree.specs.declared.expr.Sort.TheVariants as sort
use Rattle.civl_tree.specs.declared.program.Program.{Program}
use Rattle.civl_meaning.specs.declared.config.Config.{Config}
use Rattle.civl_meaning.specs.declared.config.Move.{Move}
use Rattle.civl_meaning.specs.declared.config.State.TheVariants.{Inside}
use Rattle.civl_meaning.specs.declared.config.Stepped.TheVariants.{Blocked, BadChoices}
use Rattle.civl_meaning.specs.Layers.{lowest}
use Rattle.civl_meaning.specs.Step.{step_of}
use Rattle.civl_meaning.specs.Config.{IsPlain, IsOf}
use Rattle.civl_firing.specs.examples.Written.{word, name, lit, global, choice, update, action, root, proc, thread, call, holding}
use Rattle.civl_meaning.specs.examples.Moves.{by}
use Rattle.civl_meaning.specs.examples.Flag.{bare, running}
use Rattle.civl_soundness.specs.Stepped.{Cause}

-- the program that puts this expression into x, where Main calls this name
abbrev pub calling : List ℕ → Expr → Program
calling callee e = record {
  version = 1;
  layers = 1;
  permissions = 1;
  globals = global (codes "x") (sort.Word 8) 0 1 ∷ [];
  init = expr.True;
  invariants = [];
  actions =
      action (codes "Put") [] [] (choice (codes "c") (sort.Word 8) (lit 0 8) ∷ []) 0 1 expr.True expr.True (update (codes "x") e ∷ []) ∷ [];
  procs = proc (codes "Main") [] [] root [] (call callee [] [] ∷ []) ∷ [];
  threads = thread (codes "Main") [] ∷ [];
}

abbrev pub putting : Expr → Program
putting e = calling (codes "Put") e

-- the choice, and what isn't a word
abbrev pub put_choice : Program
put_choice = putting (name (codes "c"))

abbrev pub put_true : Program
put_true = putting expr.True

-- nothing has the name that is called
abbrev pub put_nothing : Program
put_nothing = calling (codes "Lost") (name (codes "c"))

-- x is 0, and the thread stands before the call
abbrev pub before : Config
before = record { store = holding (word 8 0 ∷ []); threads = running 0 (Inside [] (bare 0 0)) ∷ [] }

-- a move of it, by which c is this number, written in 8 bits
abbrev pub choosing : ℕ → Move
choosing n = record { thread = 0; choices = word 8 n ∷ [] }

abbrev pub ChoiceIsPlain : Type 0
ChoiceIsPlain = IsPlain (lowest put_choice)

abbrev pub BeforeIsOf : Type 0
BeforeIsOf = IsOf (lowest put_choice) before

-- 7 is put into x
abbrev pub SevenIsPut : Type 0
SevenIsPut = IsOf (lowest put_choice) (step_of (lowest put_choice) before (choosing 7)).1

-- 300 isn't a word of 8 bits, and afterwards x isn't one either
abbrev pub NoWordIsPut : Type 0
NoWordIsPut = IsOf (lowest put_choice) (step_of (lowest put_choice) before (choosing 300)).1 → ⊥

-- the same configuration is one of the other program too, but it doesn't keep its configurations
abbrev pub BeforeIsOfOther : Type 0
BeforeIsOfOther = IsOf (lowest put_true) before

abbrev pub TrueIsPut : Type 0
TrueIsPut = IsOf (lowest put_true) (step_of (lowest put_true) before (choosing 7)).1 → ⊥

-- ---- answers

-- a move without a choice isn't made, and this is the cause
abbrev pub ChoiceIsWanting : Type 0
ChoiceIsWanting = Cause (lowest put_choice) before (by 0) BadChoices

abbrev pub WithoutChoice : Type 0
WithoutChoice = step_of (lowest put_choice) before (by 0) ≡ (BadChoices, before)

-- where nothing has the called name the thread is stuck, and no guard is the cause of it
abbrev pub ThreadIsStuck : Type 0
ThreadIsStuck = (step_of (lowest put_nothing) before (choosing 7) ≡ (Blocked, before)) × (Cause (lowest put_nothing) before (choosing 7) Blocked → ⊥)
