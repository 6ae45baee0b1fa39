-- The rules on layers in their order, and the first of them.
use Rattle.std.proofs.Common.{◌≡◌, sym, subst, arith}
use Rattle.std.specs.Prelude.{Option}
use Rattle.civl_tree.specs.declared.program.Program.{Program}
use Rattle.civl_tree.specs.declared.refusal.Refusal.{Refusal}
use Rattle.civl_tree.specs.Numbering.{statements_of}
use Rattle.civl_tree.specs.rules.Rules.{refusal_by}
use Rattle.civl_tree.specs.rules.Broken.{AreInOrder, IsRefusal}
use Rattle.civl_tree.proofs.Ordered.{where_in_order}
use Rattle.civl_tree.proofs.First.{in_order, no_statements, first_is_answer}
use Rattle.civl_layers.specs.Hidden.{stmt_hidden}
use Rattle.civl_layers.specs.NotBelow.{stmt_not_below}
use Rattle.civl_layers.specs.NotThere.{stmt_missing}
use Rattle.civl_layers.specs.Introduced.{stmt_introduced}
use Rattle.civl_layers.specs.LayerRules.{layer_rules}

pub layers_in_order : AreInOrder layer_rules
layers_in_order =
    in_order layer_rules
    (omega arith, (omega arith, (omega arith, (omega arith, (omega arith, (omega arith, tt)))))) (
      λ program place proc. no_statements,
      (
        λ program place proc. where_in_order (stmt_hidden program proc.refines) 0 (statements_of proc.body),
        (
          λ program place proc. where_in_order (stmt_not_below program place proc) 0 (statements_of proc.body),
          (
            λ program place proc. where_in_order (stmt_missing program proc) 0 (statements_of proc.body),
            (λ program place proc. no_statements, (λ program place proc. where_in_order (stmt_introduced program proc.refines) 0 (statements_of proc.body), tt)),
          ),
        ),
      ),
    )

pub is_answer : (program : Program) (refusal : Option Refusal) → refusal ≡ refusal_by layer_rules program → IsRefusal layer_rules program refusal
is_answer program refusal e = subst (IsRefusal layer_rules program) (sym e) (first_is_answer layer_rules program layers_in_order)

pub ruleset layers_are_answered = (is_answer)
