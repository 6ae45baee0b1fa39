-- Laws of the trial program. Each copy is the text of a spinlock and a counter (civl_tree, SpellingPrograms) with the
-- copy's number behind the names of its globals, actions and procedures.
use Rattle.std.specs.Prelude.{◌≡◌, ℕ, ◌+◌, ◌*◌, if◌then◌else◌, List, [], ◌∷◌, ◌++◌, map, take, length, codes, decimal}
use Rattle.std.specs.List.{AllByRecursion, list_any}
use Rattle.std.specs.Str.{bytes_eq}
use Rattle.civl_tree.specs.Token.{Token, Named, Reserved, Sign, Number, IsToken}
use Rattle.civl_tree.specs.Spelling.{joined}
use Rattle.civl_tree.specs.SpellingProgram.{spell_global, spell_init, spell_invariant, spell_action, spell_proc, spell_program}
use Rattle.civl_tree.specs.SpellingDomain.{HasSpelling, IsSpelledBy}
use Rattle.civl_tree.specs.Numbered.{IsNumbered}
use Rattle.civl_tree.specs.Raised.{raised}
use Rattle.civl_tree.specs.examples.SpellingPrograms.{spinlock, spinlock_tokens}
use Rattle.civl_trial.specs.Copies.{starts, globals_of, invariants_of, actions_of, procs_of}
use Rattle.civl_trial.specs.Trial.{IsTrialNumber, main, trial}

-- the names of the globals, the actions and the procedures of a spinlock and a counter, but for `Main`
abbrev pub copied_names : List (List ℕ)
copied_names =
    codes "b" ∷ codes "lock" ∷ codes "x"
    ∷ codes "Cas" ∷ codes "Reset" ∷ codes "Load" ∷ codes "Store"
    ∷ codes "AtomAcquire" ∷ codes "AtomRelease" ∷ codes "AtomRead" ∷ codes "AtomWrite" ∷ codes "AtomIncr"
    ∷ codes "Acquire" ∷ codes "Release" ∷ codes "Read" ∷ codes "Write" ∷ codes "Incr"
    ∷ []

-- one of these names with `_` and the copy's number behind it; any other name as it is
abbrev pub name_in_copy : ℕ → List ℕ → List ℕ
name_in_copy copy bytes = if list_any (bytes_eq bytes) copied_names then bytes ++ codes "_" ++ decimal copy else bytes

-- the tokens with their names so
abbrev pub token_in_copy : ℕ → Token → Token
token_in_copy copy (Named bytes) = Named (name_in_copy copy bytes)
token_in_copy copy (Reserved bytes) = Reserved bytes
token_in_copy copy (Sign bytes) = Sign bytes
token_in_copy copy (Number value) = Number value

abbrev pub in_copy : ℕ → List Token → List Token
in_copy copy = map (token_in_copy copy)

-- Section by section a copy is spelled as the spinlock and the counter are, with its number behind the names.
abbrev pub CopiesAreSpelled : Type 0
CopiesAreSpelled =
    (copy : ℕ)
    → (joined (map spell_global (globals_of copy)) ≡ in_copy copy (joined (map spell_global spinlock.globals)))
    × (spell_init (starts copy) ≡ in_copy copy (spell_init spinlock.init))
    × (joined (map spell_invariant (invariants_of copy)) ≡ in_copy copy (joined (map spell_invariant spinlock.invariants)))
    × (joined (map spell_action (actions_of copy)) ≡ in_copy copy (joined (map spell_action spinlock.actions)))
    × (joined (map spell_proc (procs_of copy)) ≡ in_copy copy (joined (map spell_proc (take 5 spinlock.procs))))

-- The trial program of one copy has a spelling: all tokens of the spinlock and the counter, with 0 behind the names.
abbrev pub OneCopyIsSpelled : Type 0
OneCopyIsSpelled = IsSpelledBy (in_copy 0 spinlock_tokens) (trial 1)

-- How many declarations of each kind there are.
abbrev pub DeclarationsAreCounted : Type 0
DeclarationsAreCounted =
    (n : ℕ)
    → (length (trial n).globals ≡ n * 3)
    × (length (trial n).invariants ≡ n)
    × (length (trial n).actions ≡ n * 9)
    × (length (trial n).procs ≡ n * 5 + 1)
    × (length (main n).body ≡ n)

-- Each trial program has a spelling.
abbrev pub TrialsHaveSpelling : Type 0
TrialsHaveSpelling = (n : ℕ) → IsTrialNumber n → HasSpelling (trial n)

-- Each token of a trial program, and of the program that is printed for it, may stand in a text.
abbrev pub TrialTokensMayStand : Type 0
TrialTokensMayStand =
    (n : ℕ) → IsTrialNumber n → AllByRecursion IsToken (spell_program (trial n)) × AllByRecursion IsToken (spell_program (raised (trial n)))

-- The items of a trial program, and the statements in each of its procedures, have numbers of 32 bits.
abbrev pub TrialsAreNumbered : Type 0
TrialsAreNumbered = (n : ℕ) → IsTrialNumber n → IsNumbered (trial n)
