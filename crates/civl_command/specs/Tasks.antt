-- The words of the commands that are built.
use Rattle.std.specs.Prelude.{ℕ, ◌⊎◌, ⊤, List}
use Rattle.civl_words.specs.Words.{AreWordsOf}
use Rattle.civl_words.specs.declared.words.Command.{Command}
use Rattle.civl_words.specs.declared.words.Command.TheVariants as word
use Rattle.civl_command.specs.declared.task.Task.{Task}
use Rattle.civl_command.specs.declared.task.Task.TheVariants.{Check, Conditions, Fmt, RunLow, RunTop, Prove, Make, Replay}

-- the command by whose words a task is asked for
abbrev pub command_for : Task → Command
command_for (Check budget) = word.Check budget
command_for (Conditions budget) = word.Conditions budget
command_for Fmt = word.Fmt
command_for RunLow = word.RunLow
command_for RunTop = word.RunTop
command_for (Prove budget) = word.Prove budget
command_for (Make at budget) = word.ProofMake at budget
command_for Replay = word.ProofReplay

-- the words ask for this task
abbrev pub AskFor : Task → List (List ℕ) → Type 0
AskFor task words = AreWordsOf (command_for task) words

-- the words ask for a task, so an input is read
abbrev pub AskForSome : List (List ℕ) → Type 0
AskForSome words = (task : Task) × AskFor task words

-- the words ask for the trial of so many copies
abbrev pub AskForTrial : ℕ → List (List ℕ) → Type 0
AskForTrial number words = AreWordsOf (word.Trial number) words

-- the words are those of a command that is built
abbrev pub AreTaken : List (List ℕ) → Type 0
AreTaken words = AskForSome words ⊎ ((number : ℕ) × AskForTrial number words)

-- the provers are asked under these commands alone
abbrev pub AsksProvers : Command → Type 0
AsksProvers (word.Check budget) = ⊤
AsksProvers (word.Conditions budget) = ⊤
AsksProvers (word.Trial number) = ⊤
AsksProvers (word.Prove budget) = ⊤
AsksProvers (word.ProofMake at budget) = ⊤
AsksProvers _ = ⊥

-- the words are those of such a command
abbrev pub AskProvers : List (List ℕ) → Type 0
AskProvers words = (command : Command) × AreWordsOf command words × AsksProvers command
