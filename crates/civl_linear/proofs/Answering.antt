-- The rules on linear locals in their order, and the first of them.
use Rattle.std.proofs.Common.{◌≡◌, ◌≤◌, [], ◌∷◌, map, refl, sym, ap, ap₂, ◌∙◌, subst, arith}
use Rattle.std.specs.Prelude.{Option}
use Rattle.std.specs.List.{AllPairs}
use Rattle.civl_tree.specs.declared.program.Proc.{Proc}
use Rattle.civl_tree.specs.declared.program.Program.{Program}
use Rattle.civl_tree.specs.declared.refusal.Refusal.{Refusal}
use Rattle.civl_tree.specs.Numbering.{statements_of, exit_number}
use Rattle.civl_tree.specs.rules.Names.{names_in_proc}
use Rattle.civl_tree.specs.rules.Rules.{Rule, each_place, proc_places, refusal_at, refusal_by, first_of}
use Rattle.civl_tree.specs.rules.Broken.{AreInOrder, IsRefusal}
use Rattle.civl_tree.proofs.Numbers.{sizes_are_counts}
use Rattle.civl_tree.proofs.Ordered.{where_in_order}
use Rattle.civl_tree.proofs.First.{in_order, first_is_answer}
use Rattle.civl_names.proofs.walks.Finding.{with_in_order, with_last_in_order}
use Rattle.civl_names.proofs.walks.Walking.{or_first}
use Rattle.civl_names.proofs.walks.Placing.{AsksProcs, told_of_procs, or_nothing, rule_first}
use Rattle.civl_linear.specs.Held.{traced_proc}
use Rattle.civl_linear.specs.Places.{stmt_not_held, stmt_held_twice, stmt_assigned, not_returned}
use Rattle.civl_linear.specs.LinearRules.{is_lost, lost_numbers, not_held_rule, held_twice_rule, lost_rule, assigned_rule, linear_rules}

-- ---- the first, rule by rule

abbrev found : Rule → Program → Option Refusal
found rule program = first_of (map (refusal_at rule.code) (each_place (proc_places rule program) 0 program.procs))

not_held_asks : AsksProcs not_held_rule
not_held_asks = record { header = λ p. refl; global = λ p n g. refl; init = λ p. refl; invariant = λ p n i. refl; action = λ p n a. refl; thread = λ p n t. refl }

held_twice_asks : AsksProcs held_twice_rule
held_twice_asks = record { header = λ p. refl; global = λ p n g. refl; init = λ p. refl; invariant = λ p n i. refl; action = λ p n a. refl; thread = λ p n t. refl }

lost_asks : AsksProcs lost_rule
lost_asks = record { header = λ p. refl; global = λ p n g. refl; init = λ p. refl; invariant = λ p n i. refl; action = λ p n a. refl; thread = λ p n t. refl }

assigned_asks : AsksProcs assigned_rule
assigned_asks = record { header = λ p. refl; global = λ p n g. refl; init = λ p. refl; invariant = λ p n i. refl; action = λ p n a. refl; thread = λ p n t. refl }

pub linear_in_parts : (program : Program) → refusal_by linear_rules program ≡ or_first (found not_held_rule program) (or_first (found held_twice_rule program) (or_first (found lost_rule program) (found assigned_rule program)))
linear_in_parts program =
    rule_first not_held_rule (held_twice_rule ∷ lost_rule ∷ assigned_rule ∷ []) program
    ∙ ap₂ or_first (ap first_of (told_of_procs not_held_rule not_held_asks program))
    (rule_first held_twice_rule (lost_rule ∷ assigned_rule ∷ []) program
    ∙ ap₂ or_first (ap first_of (told_of_procs held_twice_rule held_twice_asks program))
    (rule_first lost_rule (assigned_rule ∷ []) program
    ∙ ap₂ or_first (ap first_of (told_of_procs lost_rule lost_asks program))
    (rule_first assigned_rule [] program ∙ or_nothing _ ∙ ap first_of (told_of_procs assigned_rule assigned_asks program))))

-- ---- their order

lost_in_order : (program : Program) (proc : Proc) → AllPairs (λ first second. first ≤ second) (lost_numbers program proc)
lost_in_order program proc =
    let counted = sizes_are_counts proc.body in
    with_last_in_order is_lost (statements_of proc.body) (traced_proc program proc).losses (not_returned proc (traced_proc program proc).after) (exit_number proc.body) (omega (arith, counted))

pub linear_in_order : AreInOrder linear_rules
linear_in_order =
    in_order linear_rules
    (omega arith, (omega arith, (omega arith, (omega arith, tt)))) (
      λ program place proc. with_in_order (stmt_not_held program proc (names_in_proc proc)) 0 (statements_of proc.body) (traced_proc program proc).befores,
      (
        λ program place proc. with_in_order (stmt_held_twice program (names_in_proc proc)) 0 (statements_of proc.body) (traced_proc program proc).befores,
        (
          λ program place proc. lost_in_order program proc,
          (λ program place proc. where_in_order (stmt_assigned program proc) 0 (statements_of proc.body), tt),
        ),
      ),
    )

pub is_answer : (program : Program) (refusal : Option Refusal) → refusal ≡ refusal_by linear_rules program → IsRefusal linear_rules program refusal
is_answer program refusal e = subst (IsRefusal linear_rules program) (sym e) (first_is_answer linear_rules program linear_in_order)
