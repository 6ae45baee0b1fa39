-- The words ask for one thing.
use Rattle.std.proofs.Common.{◌≡◌, ◌∙◌, ℕ, inl, inr, List, None, refl, sym, ap}
use Rattle.civl_words.specs.Words.{command_of}
use Rattle.civl_words.specs.declared.words.Command.{Command}
use Rattle.civl_words.specs.declared.words.Command.TheVariants as word
use Rattle.civl_words.proofs.Once.{one_command}
use Rattle.civl_command.specs.Tasks.{command_for, AskFor, AskForTrial, AreTaken}
use Rattle.civl_command.specs.declared.task.Task.{Task}
use Rattle.civl_command.specs.declared.task.Task.TheVariants.{Check, Conditions, Fmt, RunLow, RunTop, Prove, Make, Replay}

-- the task of a command, or this one
abbrev task_or : Task → Command → Task
task_or task (word.Check budget) = Check budget
task_or task (word.Conditions budget) = Conditions budget
task_or task word.Fmt = Fmt
task_or task word.RunLow = RunLow
task_or task word.RunTop = RunTop
task_or task (word.Trial number) = task
task_or task (word.Prove budget) = Prove budget
task_or task (word.ProofMake at budget) = Make at budget
task_or task word.ProofReplay = Replay

back : (other task : Task) → task_or other (command_for task) ≡ task
back other (Check budget) = refl
back other (Conditions budget) = refl
back other Fmt = refl
back other RunLow = refl
back other RunTop = refl
back other (Prove budget) = refl
back other (Make at budget) = refl
back other Replay = refl

pub same_task : (words : List (List ℕ)) (first second : Task) → AskFor first words → AskFor second words → first ≡ second
same_task words first second a b =
    sym (back first first) ∙ ap (task_or first) (one_command words (command_for first) (command_for second) a b) ∙ back first second

abbrev number_or : ℕ → Command → ℕ
number_or other (word.Trial number) = number
number_or other _ = other

pub same_trial : (words : List (List ℕ)) (first second : ℕ) → AskForTrial first words → AskForTrial second words → first ≡ second
same_trial words first second a b = ap (number_or first) (one_command words (word.Trial first) (word.Trial second) a b)

not_trial : (task : Task) (number : ℕ) → command_for task ≡ word.Trial number → ⊥
not_trial (Check budget) number is = cc
not_trial (Conditions budget) number is = cc
not_trial Fmt number is = cc
not_trial RunLow number is = cc
not_trial RunTop number is = cc
not_trial (Prove budget) number is = cc
not_trial (Make at budget) number is = cc
not_trial Replay number is = cc

pub task_or_trial : (words : List (List ℕ)) (task : Task) (number : ℕ) → AskFor task words → AskForTrial number words → ⊥
task_or_trial words task number a b = not_trial task number (one_command words (command_for task) (word.Trial number) a b)

-- ---- words of no command that is built

pub none_untaken : (words : List (List ℕ)) → command_of words ≡ None → AreTaken words → ⊥
none_untaken words none (inl (task, ask)) = let bad = sym none ∙ ask in cc
none_untaken words none (inr (number, trial)) = let bad = sym none ∙ trial in cc
