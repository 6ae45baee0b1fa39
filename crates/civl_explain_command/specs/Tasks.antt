-- What the words ask for.
use Rattle.std.specs.Prelude.{ℕ, ⊤, if◌then◌else◌, List}
use Rattle.civl_explain_words.specs.Words.{AreWordsOf}
use Rattle.civl_explain_words.specs.declared.words.Command.{Command}
use Rattle.civl_explain_words.specs.declared.words.Command.TheVariants as word
use Rattle.civl_explain_words.specs.declared.words.Request.{Request}
use Rattle.civl_expected.specs.declared.kind.TextKind.{TextKind}
use Rattle.civl_expected.specs.declared.kind.TextKind.TheVariants as text
use Rattle.civl_explain_command.specs.declared.manner.Manner.{Manner}
use Rattle.civl_lines.specs.declared.render.Form.TheVariants.{Story, Findings}

-- what its input is: a program, a script or an outline
abbrev pub kind_of : Command → TextKind
kind_of word.RunLow = text.Script
kind_of word.RunTop = text.Script
kind_of (word.Prove budget) = text.Outline
kind_of _ = text.Program

-- how stories are told
abbrev pub manner_of : Request → Manner
manner_of request = record { form = if request.by_lines then Findings else Story; assumed = request.assumed }

-- the words ask for something
abbrev pub AskForSome : List (List ℕ) → Type 0
AskForSome words = (request : Request) × AreWordsOf request words

-- the provers are asked under these commands alone
abbrev pub AsksProvers : Command → Type 0
AsksProvers word.RunLow = ⊥
AsksProvers word.RunTop = ⊥
AsksProvers _ = ⊤

-- the words are those of such a command
abbrev pub AskProvers : List (List ℕ) → Type 0
AskProvers words = (request : Request) × AreWordsOf request words × AsksProvers request.command
