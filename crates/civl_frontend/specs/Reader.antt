-- What reading a text gives, as `read_program`, `read_script` and `read_outline` cite it.
use Rattle.std.specs.Prelude.{ℕ, List, ⊤, Ok, Err}
use Rattle.civl_tree.specs.Token.{Token}
use Rattle.civl_tree.specs.SpellingDomain.{HasSpelling, ScriptHasSpelling}
use Rattle.civl_tree.specs.SpellingProgram.{spell_program}
use Rattle.civl_tree.specs.SpellingScript.{spell_script}
use Rattle.civl_tree.specs.declared.program.Program.{Program}
use Rattle.civl_tree.specs.declared.script.Script.{Script}
use Rattle.civl_outlines.specs.declared.outline.Outline.{Outline}
use Rattle.civl_outlines.specs.SpellingOutline.{spell_outline, OutlineHasSpelling}
use Rattle.civl_frontend.specs.Texts.{IsReadAs}
use Rattle.civl_frontend.specs.declared.reader.Text.{Text}
use Rattle.civl_frontend.specs.declared.reader.Text.TheVariants.{Spelled, Unread, Memory}

-- the value that the bytes spell, or the first fault in them
abbrev pub Tells : {A : Type 0} → (A → List Token) → (A → Type 0) → List ℕ → Text A → Type 0
Tells spell fits bytes (Spelled value) = IsReadAs spell fits bytes (Ok value)
Tells spell fits bytes (Unread fault) = IsReadAs spell fits bytes (Err fault)
Tells spell fits bytes Memory = ⊤

abbrev pub TellsProgram : List ℕ → Text Program → Type 0
TellsProgram bytes text = Tells spell_program HasSpelling bytes text

abbrev pub TellsScript : List ℕ → Text Script → Type 0
TellsScript bytes text = Tells spell_script ScriptHasSpelling bytes text

abbrev pub TellsOutline : List ℕ → Text Outline → Type 0
TellsOutline bytes text = Tells spell_outline OutlineHasSpelling bytes text
