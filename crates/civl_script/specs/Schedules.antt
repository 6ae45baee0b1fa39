-- What a script says: the store that its entries write, its moves, and where they first don't fit.
use Rattle.std.specs.Prelude.{ℕ, ◌≡◌, ◌+◌, List, [], ◌∷◌, ◌⊎◌, length, take, IsTrue, ⊤, Option, None, Some}
use Rattle.civl_bits.specs.declared.value.Value.{Value}
use Rattle.civl_tree.specs.declared.program.Global.{Global}
use Rattle.civl_tree.specs.declared.script.Entry.{Entry}
use Rattle.civl_tree.specs.declared.script.Told.{Told}
use Rattle.civl_firing.specs.values.Values.{is_of}
use Rattle.civl_meaning.specs.declared.config.Move.{Move}
use Rattle.civl_script.specs.Values.{IsValueOf}
use Rattle.civl_script.specs.declared.schedule.Schedule.{Schedule}
use Rattle.civl_script.specs.declared.schedule.Schedule.TheVariants.{Fits, Wrong}
use Rattle.civl_script.specs.declared.schedule.Found.{Found}
use Rattle.civl_script.specs.declared.schedule.Found.TheVariants.{All, Wrong as WrongAt}

-- the entry names the global, and writes a value of its sort
pub record IsEntryOf (global : Global) (entry : Entry) (value : Value) : Type 0 where
  pub named : entry.name ≡ global.name
  pub written : IsValueOf entry value
  pub sorted : IsTrue (is_of value global.sort)

-- the entries name the globals, each once and in their order, and write these values of their sorts
abbrev pub AreEntriesOf : List Global → List Entry → List Value → Type 0
AreEntriesOf [] [] [] = ⊤
AreEntriesOf (global ∷ globals) (entry ∷ entries) (value ∷ values) = IsEntryOf global entry value × AreEntriesOf globals entries values
AreEntriesOf _ _ _ = ⊥

-- the choices write these values
abbrev pub AreValuesOf : List Entry → List Value → Type 0
AreValuesOf [] [] = ⊤
AreValuesOf (entry ∷ entries) (value ∷ values) = IsValueOf entry value × AreValuesOf entries values
AreValuesOf _ _ = ⊥

-- a step of a script is this move
pub record IsMoveOf (told : Told) (move : Move) : Type 0 where
  pub thread : move.thread ≡ told.thread
  pub choices : AreValuesOf told.choices move.choices

abbrev pub AreMovesOf : List Told → List Move → Type 0
AreMovesOf [] [] = ⊤
AreMovesOf (told ∷ tolds) (move ∷ moves) = IsMoveOf told move × AreMovesOf tolds moves
AreMovesOf _ _ = ⊥

-- Up to this place the entries are those of the globals, and with the next one they aren't: that one is wrong, or there is
-- none though a global is left.
pub record IsWrongEntry (globals : List Global) (entries : List Entry) (at : ℕ) : Type 0 where
  pub before : (values : List Value) × AreEntriesOf (take at globals) (take at entries) values
  pub wrong : (values : List Value) → AreEntriesOf (take (at + 1) globals) (take (at + 1) entries) values → ⊥

-- Up to this place the steps are moves, and the next one isn't.
pub record IsWrongMove (tolds : List Told) (at : ℕ) : Type 0 where
  pub before : (moves : List Move) × AreMovesOf (take at tolds) moves
  pub wrong : (moves : List Move) → AreMovesOf (take (at + 1) tolds) moves → ⊥

-- All fits, and this is the store and these are the moves. Or something doesn't fit: the number is that of the first wrong
-- entry, or, where all entries fit, the number of globals and that of the first wrong move together.
abbrev pub IsSchedule : List Global → List Entry → List Told → Schedule → Type 0
IsSchedule globals entries tolds (Fits store moves) = AreEntriesOf globals entries store.values × AreMovesOf tolds moves
IsSchedule globals entries tolds (Wrong number) =
    IsWrongEntry globals entries number
    ⊎ ((values : List Value) × AreEntriesOf globals entries values × (at : ℕ) × (number ≡ length globals + at) × IsWrongMove tolds at)

-- ---- the parts of this, as the code goes over them

abbrev pub IsStoreFound : List Global → List Entry → Found Value → Type 0
IsStoreFound globals entries (All values) = AreEntriesOf globals entries values
IsStoreFound globals entries (WrongAt at) = IsWrongEntry globals entries at

abbrev pub AreValuesFound : List Entry → Option (List Value) → Type 0
AreValuesFound entries (Some values) = AreValuesOf entries values
AreValuesFound entries None = (values : List Value) → AreValuesOf entries values → ⊥

abbrev pub AreMovesFound : List Told → Found Move → Type 0
AreMovesFound tolds (All moves) = AreMovesOf tolds moves
AreMovesFound tolds (WrongAt at) = IsWrongMove tolds at
