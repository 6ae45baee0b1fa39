-- Serves private functions: the rules on layers as the code names them, and what they ask of statements.
use Rattle.std.specs.Prelude.{Bool, false, List}
use Rattle.civl_tree.specs.declared.program.Proc.{Proc}
use Rattle.civl_tree.specs.declared.program.Program.{Program}
use Rattle.civl_tree.specs.declared.stmt.Stmt.{Stmt, out-Stmt}
use Rattle.civl_tree.specs.rules.Rules.{Rule}
use Rattle.civl_tree.specs.rules.Typing.{signature_rule}
use Rattle.civl_layers.specs.Hidden.{stmt_hidden}
use Rattle.civl_layers.specs.NotBelow.{form_not_below}
use Rattle.civl_layers.specs.NotThere.{stmt_missing}
use Rattle.civl_layers.specs.Introduced.{stmt_introduced}
use Rattle.civl_layers.specs.LayerRules.{range_rule, hidden_rule, not_below_rule, not_there_rule, introduced_rule}
use Rattle.civl_layers.specs.declared.rule.LayerRule.{LayerRule}
use Rattle.civl_layers.specs.declared.rule.LayerRule.TheVariants.{Range, Hidden, NotBelow, NotThere, Signature, Introduced}

-- the rule that is meant
abbrev pub rule_of : LayerRule → Rule
rule_of Range = range_rule
rule_of Hidden = hidden_rule
rule_of NotBelow = not_below_rule
rule_of NotThere = not_there_rule
rule_of Signature = signature_rule
rule_of Introduced = introduced_rule

-- a statement of this procedure, which stands behind these, breaks it
abbrev pub stmt_breaks : LayerRule → Program → List Proc → Proc → Stmt → Bool
stmt_breaks Range program earlier proc stmt = false
stmt_breaks Hidden program earlier proc stmt = stmt_hidden program proc.refines stmt
stmt_breaks NotBelow program earlier proc stmt = form_not_below program earlier proc.refines (out-Stmt stmt)
stmt_breaks NotThere program earlier proc stmt = stmt_missing program proc stmt
stmt_breaks Signature program earlier proc stmt = false
stmt_breaks Introduced program earlier proc stmt = stmt_introduced program proc.refines stmt
