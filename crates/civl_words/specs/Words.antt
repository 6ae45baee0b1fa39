-- The words of a command line, after the program's name, and the command that they are those of.
use Rattle.std.specs.Prelude.{◌≡◌, ℕ, ◌≤◌, ⊤, List, codes, Option, None, Some, is_some, if◌then◌else◌, option_map, option_and_then, unwrap_or}
use Rattle.std.specs.Str.{bytes_eq}
use Rattle.std.specs.Str.Parse.{digits_value, without_leading_plus}
use Rattle.clap.specs.Walk.{Text, Row, first_of, one_of, is_empty}
use Rattle.clap.specs.ValueTests.{is_unsigned_in}
use Rattle.clap.specs.Simple.{subcommand_of}
use Rattle.clap.specs.Faults.{fault_of}
use Rattle.civl_words.specs.Line.{command_line}
use Rattle.civl_words.specs.declared.words.Command.{Command}
use Rattle.civl_words.specs.declared.words.Command.TheVariants.{Check, Conditions, Fmt, RunLow, RunTop, Trial, Prove, ProofMake, ProofReplay}

-- how many clauses a search may learn, where the words don't say so many
abbrev pub usual_budget : ℕ
usual_budget = 200000

-- the most clauses that a search may be allowed to learn
abbrev pub most_budget : ℕ
most_budget = 10000000

-- ---- the values of a subcommand

-- the number that a text writes in decimal, where it lies between these two
abbrev pub number_between : ℕ → ℕ → Text → Option ℕ
number_between least most text = if is_unsigned_in least most text then Some (digits_value 10 (without_leading_plus text)) else None

-- the number that an argument has, where it lies between these two
abbrev pub number_of : ℕ → ℕ → Text → List Row → Option ℕ
number_of least most id rows = option_and_then (number_between least most) (one_of id rows)

abbrev pub budget_among : List Row → Option ℕ
budget_among = number_of 0 most_budget (codes "budget")

abbrev pub place_among : List Row → Option ℕ
place_among = number_of 0 4294967295 (codes "at")

-- ---- the command that a subcommand and its values are

abbrev pub run_of : Text → Option Command
run_of end =
    if bytes_eq end (codes "low") then Some RunLow
    else if bytes_eq end (codes "top") then Some RunTop
    else None

abbrev pub run_among : List Row → Option Command
run_among rows = option_and_then run_of (first_of (codes "end") rows)

-- `proof make`, of place 0 and with the usual budget where the words don't say
abbrev pub making_of : List Row → Command
making_of rows = ProofMake (unwrap_or (place_among rows) 0) (unwrap_or (budget_among rows) usual_budget)

-- `proof replay`, which takes no option
abbrev pub replaying_of : List Row → Option Command
replaying_of rows =
    if is_some (first_of (codes "at") rows) then None
    else if is_some (first_of (codes "budget") rows) then None
    else Some ProofReplay

abbrev pub proof_of : List Row → Text → Option Command
proof_of rows act =
    if bytes_eq act (codes "make") then Some (making_of rows)
    else if bytes_eq act (codes "replay") then replaying_of rows
    else None

abbrev pub proof_among : List Row → Option Command
proof_among rows = option_and_then (proof_of rows) (first_of (codes "act") rows)

abbrev pub numbered : Text → List Row → Option Command
numbered name rows =
    if bytes_eq name (codes "check") then option_map (λ budget. Check budget) (budget_among rows)
    else if bytes_eq name (codes "conditions") then option_map (λ budget. Conditions budget) (budget_among rows)
    else if bytes_eq name (codes "prove") then option_map (λ budget. Prove budget) (budget_among rows)
    else if bytes_eq name (codes "trial") then option_map (λ number. Trial number) (number_of 1 8 (codes "number") rows)
    else None

abbrev pub called : Text → List Row → Option Command
called name rows =
    if bytes_eq name (codes "fmt") then Some Fmt
    else if bytes_eq name (codes "run") then run_among rows
    else if bytes_eq name (codes "proof") then proof_among rows
    else numbered name rows

-- ---- the command that a list of words is

-- `clap` has no fault to find with the words, and they name this subcommand with these values
unfoldable pub command_of : List Text → Option Command
command_of words =
    if is_empty (fault_of command_line words) then option_and_then (λ p. called p.0 p.1) (subcommand_of command_line words)
    else None

-- the words are those of a command
abbrev pub AreWordsOf : Command → List Text → Type 0
AreWordsOf command words = command_of words ≡ Some command

-- ---- laws

-- a trial has a number from 1 to 8, and a budget is at most 10,000,000
abbrev pub HasFitNumbers : Command → Type 0
HasFitNumbers (Check budget) = budget ≤ most_budget
HasFitNumbers (Conditions budget) = budget ≤ most_budget
HasFitNumbers (Trial number) = (1 ≤ number) × (number ≤ 8)
HasFitNumbers (Prove budget) = budget ≤ most_budget
HasFitNumbers (ProofMake place budget) = budget ≤ most_budget
HasFitNumbers _ = ⊤

-- the numbers of each command that words call are so
abbrev pub NumbersFit : Type 0
NumbersFit = (words : List Text) (command : Command) → AreWordsOf command words → HasFitNumbers command

-- no list of words is that of two commands
abbrev pub OneCommand : Type 0
OneCommand = (words : List Text) (first second : Command) → AreWordsOf first words → AreWordsOf second words → first ≡ second
