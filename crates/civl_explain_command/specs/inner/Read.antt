-- What the code knows of what was read.
use Rattle.std.specs.Prelude.{◌≡◌, ℕ, ◌≤◌, ⊤, List, ◌++◌, length, Some}
use Rattle.civl_lex.specs.declared.token.Token.{Token as Placed}
use Rattle.civl_lines.specs.Tokens.{AreTokens}
use Rattle.civl_frontend.specs.declared.reader.Fault.{Fault}
use Rattle.civl_frontend.specs.declared.reader.Fault.TheVariants.{NoToken}
use Rattle.civl_meaning.specs.Layers.{lowest, topmost}
use Rattle.civl_meaning.specs.declared.config.Plain.{Plain}
use Rattle.civl_tree.specs.declared.program.Program.{Program}
use Rattle.civl_tree.specs.declared.refusal.Refusal.{Refusal}
use Rattle.civl_frontend.specs.Rules.{static_refusal}
use Rattle.civl_prove.specs.declared.outline_reports.proving.Proving.{Proving}
use Rattle.civl_prove.specs.declared.outline_reports.proving.Proving.TheVariants as proving
use Rattle.civl_explain_command.specs.Outcome.{Outcome, Broken}
use Rattle.civl_explain_command.specs.declared.run.End.{End}
use Rattle.civl_explain_command.specs.declared.run.End.TheVariants.{Low, Top}

-- a byte that is no token's lies within the text
abbrev pub IsWithin : List ℕ → Fault → Type 0
IsWithin bytes (NoToken place) = place ≤ length bytes
IsWithin bytes _ = ⊤

-- the plain program at an end of the chain of layers
abbrev pub plain_for : End → Program → Plain
plain_for Low = lowest
plain_for Top = topmost

-- the program breaks a static rule, and this is the first
abbrev pub IsBroken : Program → Outcome → Type 0
IsBroken program outcome = (refusal : Refusal) × (static_refusal program ≡ Some refusal) × (outcome ≡ Broken program refusal)

-- an outline breaks a rule of outlines, or a formula weighs too much
abbrev pub IsRefused : Proving → Type 0
IsRefused (proving.Judged verdict) = ⊥
IsRefused (proving.Decided count proved) = ⊥
IsRefused _ = ⊤

-- the text of these tokens' story stands behind what was there, where the bytes have tokens
abbrev pub TellsBehind : List ℕ → List ℕ → List ℕ → (List Placed → List ℕ) → Type 0
TellsBehind bytes before after story = (tokens : List Placed) × AreTokens bytes tokens × (after ≡ before ++ story tokens)
