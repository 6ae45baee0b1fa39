-- What is told of single moves of the program of civl_meaning's example of steps, and of a few in a row. Its procedure 0 is
-- `Twice(val n) -> (val m)` with the statement `m := (n + n);`. Procedure 1 has the locals a and b, and the statements
-- `0 a := (a + 1:8); .. 4 while b { 5 a := 0:8; 6 b := false; } 7 yield true; 8 call Twice(a) -> (a); 9 call Swap(a) -> (a);`.
-- The action Swap has a choice, changes both globals, and gives an output.
use Rattle.std.specs.Prelude.{◌≡◌, ℕ, Bool, true, false, List, [], ◌∷◌, ◌++◌, Some}
use Rattle.civl_meaning.specs.declared.config.Activation.{Activation}
use Rattle.civl_meaning.specs.declared.config.Config.{Config}
use Rattle.civl_meaning.specs.declared.config.State.TheVariants.{Inside}
use Rattle.civl_meaning.specs.Layers.{lowest}
use Rattle.civl_firing.specs.examples.Written.{word, bool, holding}
use Rattle.civl_meaning.specs.examples.Moves.{by, moves_of}
use Rattle.civl_meaning.specs.examples.Steps.{worked}
use Rattle.civl_history.specs.declared.changes.Changed.{Changed}
use Rattle.civl_history.specs.declared.moves.MadeMove.{MadeMove}
use Rattle.civl_history.specs.declared.moves.StepKind.{StepKind}
use Rattle.civl_history.specs.declared.moves.StepKind.TheVariants.{Goes, Acts, Enters, Returns}
use Rattle.civl_history.specs.declared.stand.Stand.{Stand}
use Rattle.civl_history.specs.declared.stand.Stand.TheVariants.{Before, Leaves}
use Rattle.civl_history.specs.History.{told, history}

-- procedure 1 at a place, with a and b
abbrev pub work : ℕ → ℕ → Bool → Activation
work place a b = record { procedure = 1; place = place; locals = word 8 a ∷ bool b ∷ [] }

-- procedure 0 at a place, with n and m
abbrev pub twice : ℕ → ℕ → ℕ → Activation
twice place n m = record { procedure = 0; place = place; locals = word 8 n ∷ word 8 m ∷ [] }

-- one thread, x = 1 and y = 2
abbrev pub one : List Activation → Activation → Config
one below top = record {
  store = holding (word 8 1 ∷ word 8 2 ∷ []);
  threads = (record { callee = 1; args = []; state = Inside below top }) ∷ [];
}

abbrev pub changed : ℕ → ℕ → ℕ → Changed
changed place n m = record { place = place; before = word 8 n; after = word 8 m }

-- a move of the thread that left the globals
abbrev pub did : Stand → StepKind → List Changed → MadeMove
did stood kind locals = record { thread = 0; stood = stood; kind = kind; globals = []; locals = locals }

-- the output 9 went to a, in the frame below, which waited in statement 8
abbrev pub OutputReturned : Type 0
OutputReturned =
    told (lowest worked) (one (work 8 1 true ∷ work 8 2 true ∷ []) (twice 1 4 9)) (by 0)
    ≡ Some (did (Leaves 0) (Returns 1) (changed 0 2 9 ∷ []))

-- both globals and a local in one call of an action
abbrev pub swapped : MadeMove
swapped = record {
  thread = 0;
  stood = Before 1 9;
  kind = Acts;
  globals = changed 0 1 2 ∷ changed 1 2 1 ∷ [];
  locals = changed 0 4 8 ∷ [];
}

abbrev pub ActionSwaps : Type 0
ActionSwaps = told (lowest worked) (one [] (work 9 4 true)) (record { thread = 0; choices = word 8 3 ∷ [] }) ≡ Some swapped

-- into the loop's body, of which b is the condition
abbrev pub entering : List MadeMove
entering = did (Before 1 4) Goes [] ∷ did (Before 1 5) Goes (changed 0 5 0 ∷ []) ∷ []

-- behind the body the loop comes again, and b is false
abbrev pub leaving : List MadeMove
leaving = did (Before 1 6) Goes ((record { place = 1; before = bool true; after = bool false }) ∷ []) ∷ did (Before 1 4) Goes [] ∷ []

-- the `yield` is passed over; the call waits with its locals unchanged
abbrev pub calling : List MadeMove
calling = did (Before 1 8) (Enters 0) [] ∷ did (Before 0 0) Goes [] ∷ []

-- 0 goes to where 0 was; the next move isn't made, as Swap's gate is false of 0
abbrev pub returning : List MadeMove
returning = did (Leaves 0) (Returns 1) [] ∷ []

abbrev pub AroundALoop : Type 0
AroundALoop =
    history (lowest worked) (one [] (work 4 5 true)) (moves_of (0 ∷ 0 ∷ 0 ∷ 0 ∷ 0 ∷ 0 ∷ 0 ∷ 0 ∷ []))
    ≡ entering ++ (leaving ++ (calling ++ returning))
