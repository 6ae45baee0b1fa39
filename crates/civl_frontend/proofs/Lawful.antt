-- What a lawful program is, and that a text spells a program whose parts have numbers.
use Rattle.std.proofs.Common.{ℕ, ◌+◌, ◌<◌, ◌≤◌, ◌^◌, List, ◌++◌, length, arith}
use Rattle.std.specs.Prelude.{Option, IsTrue}
use Rattle.civl_tree.specs.SpellingDomain.{allows_program}
use Rattle.civl_tree.specs.declared.program.Program.{Program}
use Rattle.civl_tree.specs.declared.refusal.Refusal.{Refusal}
use Rattle.civl_tree.specs.declared.refusal.Refused.{Refused}
use Rattle.civl_tree.specs.declared.refusal.Refused.TheVariants.{At, Memory}
use Rattle.civl_tree.specs.declared.script.Script.{Script}
use Rattle.civl_tree.specs.Numbered.{IsNumbered}
use Rattle.civl_tree.specs.rules.Rules.{refusal_by, Keeps}
use Rattle.civl_tree.specs.rules.Typing.{typing_rules}
use Rattle.civl_types.specs.Checked.{IsCause}
use Rattle.civl_layers.specs.LayerRules.{layer_rules}
use Rattle.civl_layers.specs.Layered.{IsAt}
use Rattle.civl_yields.specs.verify.Admitted.{admission_rules}
use Rattle.civl_yields.proofs.verify.Admitting.{keeps_both, cause_of_first, cause_of_second}
use Rattle.civl_frontend.specs.Rules.{static_refusal, IsLawful}
use Rattle.civl_script.proofs.Counting.{text_numbers, script_numbers, script_counts}
use Rattle.civl_frontend.specs.Texts.{SpellsProgram, SpellsScript, limit}

pub text_numbered : (bytes : List ℕ) (program : Program) → SpellsProgram bytes program → length bytes ≤ limit → IsNumbered program
text_numbered bytes program h short = text_numbers bytes h.spells.tokens program h.spells.has h.spells.spelled short

-- a program that a text spells is one that a text can spell
pub text_written : (bytes : List ℕ) (program : Program) → SpellsProgram bytes program → IsTrue (allows_program program)
text_written bytes program h = h.spells.spelled.0

pub script_numbered : (bytes : List ℕ) (script : Script) → SpellsScript bytes script → length bytes ≤ limit → IsNumbered script.program
script_numbered bytes script h short = script_numbers bytes h.spells.tokens script h.spells.has h.spells.spelled short

-- the threads and the moves of a script are few
pub script_few : (bytes : List ℕ) (script : Script) → SpellsScript bytes script → length bytes ≤ limit → length script.program.threads + length script.moves + 1 < 2 ^ 32
script_few bytes script h short = omega (arith, script_counts bytes h.spells.tokens script h.spells.has h.spells.spelled, short)

-- a program that keeps the rules of each stage keeps all
pub lawful : (program : Program) → Keeps typing_rules program → Keeps layer_rules program → Keeps admission_rules program → IsLawful program
lawful program types layers admission = keeps_both typing_rules (layer_rules ++ admission_rules) program types (keeps_both layer_rules admission_rules program layers admission)

-- ---- a program that isn't lawful, stage by stage

cause_at : (wanted : Option Refusal) (refused : Refused) → IsAt wanted refused → IsCause wanted refused
cause_at wanted (At refusal) e = e
cause_at wanted Memory e = absurd e

pub by_types : (program : Program) (refused : Refused) → IsCause (refusal_by typing_rules program) refused → IsCause (static_refusal program) refused
by_types program refused e = cause_of_first typing_rules (layer_rules ++ admission_rules) program refused e

pub by_layers : (program : Program) (refused : Refused) → Keeps typing_rules program → IsAt (refusal_by layer_rules program) refused → IsCause (static_refusal program) refused
by_layers program refused types e =
    cause_of_second typing_rules (layer_rules ++ admission_rules) program refused types
    (cause_of_first layer_rules admission_rules program refused (cause_at (refusal_by layer_rules program) refused e))

pub by_admission : (program : Program) (refused : Refused) → Keeps typing_rules program → Keeps layer_rules program → IsCause (refusal_by admission_rules program) refused → IsCause (static_refusal program) refused
by_admission program refused types layers e =
    cause_of_second typing_rules (layer_rules ++ admission_rules) program refused types
    (cause_of_second layer_rules admission_rules program refused layers e)
