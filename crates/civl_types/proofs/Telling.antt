-- The statements that a rule tells are those that it asks by themselves.
use Rattle.std.proofs.Common.{◌≡◌, ℕ, refl}
use Rattle.civl_tree.specs.declared.program.Proc.{Proc}
use Rattle.civl_tree.specs.declared.program.Program.{Program}
use Rattle.civl_tree.specs.Numbering.{statements_of}
use Rattle.civl_tree.specs.rules.Rules.{numbers_where}
use Rattle.civl_types.specs.declared.rule.TypingRule.{TypingRule}
use Rattle.civl_types.specs.declared.rule.TypingRule.TheVariants.{Count, Width, Sorts, Index, Arity, StoreSize}
use Rattle.civl_types.specs.inner.Rules.{rule_of, stmt_breaks}
use Rattle.civl_names.proofs.walks.Walking.{none_asked}

pub statements_told : (rule : TypingRule) (program : Program) (place : ℕ) (proc : Proc) → numbers_where (stmt_breaks rule program proc) 0 (statements_of proc.body) ≡ (rule_of rule).statements program place proc
statements_told Count program place proc = none_asked 0 (statements_of proc.body)
statements_told Width program place proc = refl
statements_told Sorts program place proc = refl
statements_told Index program place proc = refl
statements_told Arity program place proc = refl
statements_told StoreSize program place proc = none_asked 0 (statements_of proc.body)
