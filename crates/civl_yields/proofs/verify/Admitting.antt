-- The static rules in their parts, and their order.
use Rattle.std.proofs.Common.{◌≡◌, List, [], ◌∷◌, ◌++◌, Some, refl, sym, ap, ap₂, ◌∙◌, subst, arith}
use Rattle.std.specs.Prelude.{Option}
use Rattle.std.proofs.lemmas.Grind.{flat_map-append}
use Rattle.std.proofs.lemmas.List.Elements.{All-append}
use Rattle.civl_tree.specs.declared.program.Program.{Program}
use Rattle.civl_tree.specs.declared.refusal.Refusal.{Refusal}
use Rattle.civl_tree.specs.declared.refusal.Refused.{Refused}
use Rattle.civl_tree.specs.declared.refusal.Refused.TheVariants.{At, Memory}
use Rattle.civl_tree.specs.rules.Rules.{Rule, refusals_of, refusals_by, refusal_by, first_of, Keeps}
use Rattle.civl_tree.specs.rules.Typing.{typing_rules}
use Rattle.civl_tree.specs.rules.Broken.{AreInOrder, TellsInOrder, IsRefusal}
use Rattle.civl_tree.proofs.Ordered.{sorted}
use Rattle.civl_tree.proofs.First.{codes_rise, typing_in_order, first_is_answer}
use Rattle.civl_types.specs.Checked.{IsCause, IsFirstCause}
use Rattle.civl_layers.specs.LayerRules.{layer_rules}
use Rattle.civl_layers.proofs.Answering.{layers_in_order}
use Rattle.civl_linear.specs.LinearRules.{linear_rules}
use Rattle.civl_linear.proofs.Answering.{linear_in_order}
use Rattle.civl_yields.specs.YieldRules.{yield_rules}
use Rattle.civl_yields.proofs.Answering.{yields_in_order}
use Rattle.civl_names.proofs.walks.Walking.{or_first, first_append}
use Rattle.civl_yields.specs.verify.Admitted.{admission_rules, static_rules, StaticRulesAreInOrder}

-- ---- two lists of rules

told_apart : (first second : List Rule) (program : Program) → refusals_by (first ++ second) program ≡ refusals_by first program ++ refusals_by second program
told_apart first second program = flat_map-append (λ rule. refusals_of rule program) first second

-- what keeps both keeps all
pub keeps_both : (first second : List Rule) (program : Program) → Keeps first program → Keeps second program → Keeps (first ++ second) program
keeps_both first second program k l = told_apart first second program ∙ ap₂ (λ (rs qs : List Refusal). rs ++ qs) k l

pub keeps_first : (first second : List Rule) (program : Program) → Keeps (first ++ second) program → Keeps first program
keeps_first first second program k = none_left _ _ (sym (told_apart first second program) ∙ k)
  where
    none_left : (rs qs : List Refusal) → rs ++ qs ≡ [] → rs ≡ []
    none_left [] qs h = refl
    none_left (r ∷ rs) qs h = cc

pub keeps_second : (first second : List Rule) (program : Program) → Keeps (first ++ second) program → Keeps second program
keeps_second first second program k = none_right _ _ (sym (told_apart first second program) ∙ k)
  where
    none_right : (rs qs : List Refusal) → rs ++ qs ≡ [] → qs ≡ []
    none_right [] qs h = h
    none_right (r ∷ rs) qs h = cc

-- where the first are kept, the first of all is the first of the second
pub first_of_second : (first second : List Rule) (program : Program) → Keeps first program → refusal_by (first ++ second) program ≡ refusal_by second program
first_of_second first second program k = ap first_of (told_apart first second program ∙ ap (λ (rs : List Refusal). rs ++ refusals_by second program) k)

-- where one of the first is broken, the first of all is the first of these
pub first_of_first : (first second : List Rule) (program : Program) (refusal : Refusal) → refusal_by first program ≡ Some refusal → refusal_by (first ++ second) program ≡ Some refusal
first_of_first first second program refusal e =
    ap first_of (told_apart first second program) ∙ first_append (refusals_by first program) (refusals_by second program)
    ∙ ap (λ (o : Option Refusal). or_first o (refusal_by second program)) e

-- causes of the parts are causes of the whole
pub cause_of_first : (first second : List Rule) (program : Program) (refused : Refused) → IsCause (refusal_by first program) refused → IsCause (refusal_by (first ++ second) program) refused
cause_of_first first second program (At refusal) e = first_of_first first second program refusal e
cause_of_first first second program Memory e = tt

pub cause_of_second : (first second : List Rule) (program : Program) (refused : Refused) → Keeps first program → IsCause (refusal_by second program) refused → IsCause (refusal_by (first ++ second) program) refused
cause_of_second first second program (At refusal) k e = first_of_second first second program k ∙ e
cause_of_second first second program Memory k e = tt

-- ---- their order

rules_in_order : AreInOrder static_rules
rules_in_order = record {
  codes = codes_rise 0 static_rules (omega arith, (omega arith, (omega arith, (omega arith, (omega arith, (omega arith, (omega arith, (omega arith, (omega arith, (omega arith, (omega arith, (omega arith, (omega arith, (omega arith, (omega arith, (omega arith, (omega arith, (omega arith, (omega arith, (omega arith, (omega arith, (omega arith, tt))))))))))))))))))))));
  statements =
      All-append TellsInOrder typing_rules (layer_rules ++ (linear_rules ++ yield_rules)) typing_in_order.statements
      (All-append TellsInOrder layer_rules (linear_rules ++ yield_rules) layers_in_order.statements
      (All-append TellsInOrder linear_rules yield_rules linear_in_order.statements yields_in_order.statements));
}

pub static_in_order : StaticRulesAreInOrder
static_in_order = record { in_order = rules_in_order; sorted = λ program. sorted program static_rules rules_in_order.codes rules_in_order.statements }

admission_in_order : AreInOrder admission_rules
admission_in_order = record {
  codes = codes_rise 0 admission_rules (omega arith, (omega arith, (omega arith, (omega arith, (omega arith, (omega arith, (omega arith, (omega arith, tt))))))));
  statements = All-append TellsInOrder linear_rules yield_rules linear_in_order.statements yields_in_order.statements;
}

pub first_cause : (program : Program) (refused : Refused) → IsCause (refusal_by admission_rules program) refused → IsFirstCause admission_rules program refused
first_cause program (At refusal) e = subst (IsRefusal admission_rules program) e (first_is_answer admission_rules program admission_in_order)
first_cause program Memory e = tt

pub first_static : (program : Program) (refused : Refused) → IsCause (refusal_by static_rules program) refused → IsFirstCause static_rules program refused
first_static program (At refusal) e = subst (IsRefusal static_rules program) e (first_is_answer static_rules program rules_in_order)
first_static program Memory e = tt
