-- The words of a command line, after the program's name, and the command that they are those of.
use Rattle.std.specs.Prelude.{◌≡◌, ℕ, ◌≤◌, ⊤, Bool, true, false, List, codes, Option, None, Some, if◌then◌else◌, option_map, option_and_then}
use Rattle.std.specs.Option.{option_map_or}
use Rattle.std.specs.Str.{bytes_eq}
use Rattle.std.specs.Str.Parse.{digits_value, without_leading_plus}
use Rattle.clap.specs.Walk.{Text, Row, first_of, one_of, is_empty}
use Rattle.clap.specs.ValueTests.{is_unsigned_in}
use Rattle.clap.specs.Simple.{subcommand_of}
use Rattle.clap.specs.Faults.{fault_of}
use Rattle.civl_explain_words.specs.Line.{command_line}
use Rattle.civl_explain_words.specs.declared.words.Command.{Command}
use Rattle.civl_explain_words.specs.declared.words.Command.TheVariants.{Check, Conditions, RunLow, RunTop, Prove}
use Rattle.civl_explain_words.specs.declared.words.Request.{Request}

-- how many clauses a search may learn, where the words don't say so many
abbrev pub usual_budget : ℕ
usual_budget = 200000

-- the most clauses that a search may be allowed to learn
abbrev pub most_budget : ℕ
most_budget = 10000000

-- ---- the values of a subcommand

-- the number that a text writes in decimal, where it lies between these two
abbrev pub number_between : ℕ → ℕ → Text → Option ℕ
number_between least most text = if is_unsigned_in least most text then Some (digits_value 10 (without_leading_plus text)) else None

-- the number that an argument has, where it lies between these two
abbrev pub number_of : ℕ → ℕ → Text → List Row → Option ℕ
number_of least most id rows = option_and_then (number_between least most) (one_of id rows)

abbrev pub budget_among : List Row → Option ℕ
budget_among = number_of 0 most_budget (codes "budget")

-- whether a flag with this name is among the words
abbrev pub is_flagged : Text → List Row → Bool
is_flagged id rows = option_map_or (λ text. bytes_eq text (codes "true")) (first_of id rows) false

-- whether `--lines` is
abbrev pub lines_among : List Row → Bool
lines_among = is_flagged (codes "lines")

-- whether `--assumed` is
abbrev pub assumed_among : List Row → Bool
assumed_among = is_flagged (codes "assumed")

-- ---- the command that a subcommand and its values are

abbrev pub run_of : Text → Option Command
run_of end =
    if bytes_eq end (codes "low") then Some RunLow
    else if bytes_eq end (codes "top") then Some RunTop
    else None

abbrev pub run_among : List Row → Option Command
run_among rows = option_and_then run_of (first_of (codes "end") rows)

abbrev pub numbered : Text → List Row → Option Command
numbered name rows =
    if bytes_eq name (codes "check") then option_map (λ budget. Check budget) (budget_among rows)
    else if bytes_eq name (codes "conditions") then option_map (λ budget. Conditions budget) (budget_among rows)
    else if bytes_eq name (codes "prove") then option_map (λ budget. Prove budget) (budget_among rows)
    else None

abbrev pub called : Text → List Row → Option Command
called name rows = if bytes_eq name (codes "run") then run_among rows else numbered name rows

-- the same, whether it is asked for by lines, and whether with what is assumed
abbrev pub asked : Text → List Row → Option Request
asked name rows =
    option_map (λ command. record { command = command; by_lines = lines_among rows; assumed = assumed_among rows }) (called name rows)

-- ---- the command that a list of words is

-- `clap` has no fault to find with the words, and they name this subcommand with these values
unfoldable pub asked_of : List Text → Option Request
asked_of words =
    if is_empty (fault_of command_line words) then option_and_then (λ p. asked p.0 p.1) (subcommand_of command_line words)
    else None

-- the words are those of a command, asked for so
abbrev pub AreWordsOf : Request → List Text → Type 0
AreWordsOf asked words = asked_of words ≡ Some asked

-- ---- laws

-- a budget is at most 10,000,000
abbrev pub HasFitNumbers : Command → Type 0
HasFitNumbers (Check budget) = budget ≤ most_budget
HasFitNumbers (Conditions budget) = budget ≤ most_budget
HasFitNumbers (Prove budget) = budget ≤ most_budget
HasFitNumbers _ = ⊤

-- the numbers of each command that words call are so
abbrev pub NumbersFit : Type 0
NumbersFit = (words : List Text) (asked : Request) → AreWordsOf asked words → HasFitNumbers asked.command

-- no list of words asks for two things
abbrev pub OneCommand : Type 0
OneCommand = (words : List Text) (first second : Request) → AreWordsOf first words → AreWordsOf second words → first ≡ second
