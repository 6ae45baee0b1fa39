-- The statements that a rule tells are those that it asks by themselves.
use Rattle.std.proofs.Common.{◌≡◌, ℕ, refl, take}
use Rattle.civl_tree.specs.declared.program.Proc.{Proc}
use Rattle.civl_tree.specs.declared.program.Program.{Program}
use Rattle.civl_tree.specs.Numbering.{statements_of}
use Rattle.civl_tree.specs.rules.Rules.{numbers_where}
use Rattle.civl_layers.specs.declared.rule.LayerRule.{LayerRule}
use Rattle.civl_layers.specs.declared.rule.LayerRule.TheVariants.{Range, Hidden, NotBelow, NotThere, Signature, Introduced}
use Rattle.civl_layers.specs.inner.Asked.{rule_of, stmt_breaks}
use Rattle.civl_names.proofs.walks.Walking.{none_asked}

pub statements_told : (rule : LayerRule) (program : Program) (place : ℕ) (proc : Proc) → numbers_where (stmt_breaks rule program (take place program.procs) proc) 0 (statements_of proc.body) ≡ (rule_of rule).statements program place proc
statements_told Range program place proc = none_asked 0 (statements_of proc.body)
statements_told Hidden program place proc = refl
statements_told NotBelow program place proc = refl
statements_told NotThere program place proc = refl
statements_told Signature program place proc = none_asked 0 (statements_of proc.body)
statements_told Introduced program place proc = refl
