-- The rules on yields and movers in their order, and the first of them.
use Rattle.std.proofs.Common.{◌≡◌, ◌≤◌, false, List, [], ◌∷◌, map, None, Some, refl, sym, ap, ap₂, ◌∙◌, subst, arith}
use Rattle.std.specs.Prelude.{Option}
use Rattle.std.specs.List.{AllPairs}
use Rattle.civl_tree.specs.declared.stmt.Stmt.{Stmt}
use Rattle.civl_tree.specs.declared.program.Refines.{Refines}
use Rattle.civl_tree.specs.declared.program.Program.{Program}
use Rattle.civl_tree.specs.declared.refusal.Refusal.{Refusal}
use Rattle.civl_tree.specs.Numbering.{statements_of}
use Rattle.civl_tree.specs.rules.Rules.{Rule, each_place, proc_places, refusal_at, refusals_of, refusal_by, first_of}
use Rattle.civl_tree.specs.rules.Broken.{AreInOrder, IsRefusal}
use Rattle.civl_tree.proofs.Ordered.{where_in_order}
use Rattle.civl_tree.proofs.First.{in_order, no_statements, first_is_answer}
use Rattle.civl_names.proofs.walks.Finding.{with_in_order}
use Rattle.civl_names.proofs.walks.Walking.{or_first}
use Rattle.civl_names.proofs.walks.Placing.{AsksProcs, told_of_procs, or_nothing, rule_first}
use Rattle.civl_yields.specs.Phases.{phases_before}
use Rattle.civl_yields.specs.Places.{stmt_late, stmt_nested, insides_all, stmt_misplaced, stmt_stray}
use Rattle.civl_yields.specs.YieldRules.{late_under, phase_rule, rank_loop_rule, commit_rule, done_rule, yield_rules}

-- ---- the first, rule by rule

abbrev found : Rule → Program → Option Refusal
found rule program = first_of (map (refusal_at rule.code) (each_place (proc_places rule program) 0 program.procs))

phase_asks : AsksProcs phase_rule
phase_asks = record { header = λ p. refl; global = λ p n g. refl; init = λ p. refl; invariant = λ p n i. refl; action = λ p n a. refl; thread = λ p n t. refl }

rank_loop_asks : AsksProcs rank_loop_rule
rank_loop_asks = record { header = λ p. refl; global = λ p n g. refl; init = λ p. refl; invariant = λ p n i. refl; action = λ p n a. refl; thread = λ p n t. refl }

commit_asks : AsksProcs commit_rule
commit_asks = record { header = λ p. refl; global = λ p n g. refl; init = λ p. refl; invariant = λ p n i. refl; action = λ p n a. refl; thread = λ p n t. refl }

pub yields_in_parts : (program : Program) → refusal_by yield_rules program ≡ or_first (found phase_rule program) (or_first (found rank_loop_rule program) (or_first (found commit_rule program) (first_of (refusals_of done_rule program))))
yields_in_parts program =
    rule_first phase_rule (rank_loop_rule ∷ commit_rule ∷ done_rule ∷ []) program
    ∙ ap₂ or_first (ap first_of (told_of_procs phase_rule phase_asks program))
    (rule_first rank_loop_rule (commit_rule ∷ done_rule ∷ []) program
    ∙ ap₂ or_first (ap first_of (told_of_procs rank_loop_rule rank_loop_asks program))
    (rule_first commit_rule (done_rule ∷ []) program
    ∙ ap₂ or_first (ap first_of (told_of_procs commit_rule commit_asks program))
    (rule_first done_rule [] program ∙ or_nothing _)))

-- ---- their order

late_in_order : (program : Program) (refines : Option Refines) (body : List Stmt) → AllPairs (λ first second. first ≤ second) (late_under program refines body)
late_in_order program None body = no_statements
late_in_order program (Some refines) body = with_in_order (stmt_late program) 0 (statements_of body) (phases_before program body)

pub yields_in_order : AreInOrder yield_rules
yields_in_order =
    in_order yield_rules
    (omega arith, (omega arith, (omega arith, (omega arith, tt)))) (
      λ program place proc. late_in_order program proc.refines proc.body,
      (
        λ program place proc. with_in_order stmt_nested 0 (statements_of proc.body) (insides_all proc.body false),
        (
          λ program place proc. where_in_order (stmt_misplaced proc) 0 (statements_of proc.body),
          (λ program place proc. where_in_order (stmt_stray proc) 0 (statements_of proc.body), tt),
        ),
      ),
    )

pub is_answer : (program : Program) (refusal : Option Refusal) → refusal ≡ refusal_by yield_rules program → IsRefusal yield_rules program refusal
is_answer program refusal e = subst (IsRefusal yield_rules program) (sym e) (first_is_answer yield_rules program yields_in_order)
