-- A program that is taken and all of whose conditions hold preserves failures.
use Rattle.std.specs.Prelude.{IsTrue}
use Rattle.std.proofs.Common.{ℕ, ◌≤◌, List, ◌++◌, length}
use Rattle.civl_tree.specs.SpellingDomain.{allows_program}
use Rattle.civl_tree.specs.Numbered.{IsNumbered}
use Rattle.civl_tree.specs.declared.program.Program.{Program}
use Rattle.civl_tree.specs.rules.Rules.{Keeps}
use Rattle.civl_tree.specs.rules.Typing.{typing_rules}
use Rattle.civl_meaning.specs.Preserves.{Preserves}
use Rattle.civl_layers.specs.LayerRules.{layer_rules}
use Rattle.civl_linear.specs.LinearRules.{linear_rules}
use Rattle.civl_yields.specs.YieldRules.{yield_rules}
use Rattle.civl_yields.specs.verify.Admitted.{admission_rules}
use Rattle.civl_yields.proofs.verify.Admitting.{keeps_first, keeps_second}
use Rattle.civl_conditions.specs.Violated.{AllHold}
use Rattle.civl_verdicts.specs.Verdicts.{HasInitial}
use Rattle.civl_reduction.specs.simulation.Followed.{IsAccepted}
use Rattle.civl_reduction.specs.simulation.Preserved.{AcceptedProgramsPreserve}
use Rattle.civl_frontend.specs.Rules.{IsLawful}
use Rattle.civl_frontend.specs.Texts.{SpellsProgram, limit}
use Rattle.civl_frontend.proofs.Lawful.{text_numbered, text_written}

-- what a lawful program is of which a text can spell each part, and all of whose conditions hold
pub accepted_by : (program : Program) → IsTrue (allows_program program) → IsNumbered program → IsLawful program → AllHold program → IsAccepted program
accepted_by program written numbered rules hold =
    let later = keeps_second typing_rules (layer_rules ++ admission_rules) program rules in
    let admission : Keeps admission_rules program = keeps_second layer_rules admission_rules program later in
    record {
      written = written;
      layered = record {
        rules = keeps_first typing_rules (layer_rules ++ admission_rules) program rules;
        layers = keeps_first layer_rules admission_rules program later;
        numbered = numbered;
      };
      linear = keeps_first linear_rules yield_rules program admission;
      yields = keeps_second linear_rules yield_rules program admission;
      hold = hold;
    }

pub preserved : AcceptedProgramsPreserve → (input : List ℕ) (program : Program) → length input ≤ limit → SpellsProgram input program → IsLawful program → AllHold program → HasInitial program → Preserves program
preserved law input program short spells rules hold initial =
    law program (accepted_by program (text_written input program spells) (text_numbered input program spells short) rules hold) initial
