use Rattle.std.specs.Prelude.{length, map, List, [], if◌then◌else◌}
use Rattle.std.proofs.Common.{◌∙◌, ℕ, ◌+◌, ◌*◌, ◌≤◌, sym, ap, subst, arith}
use Rattle.std.proofs.lemmas.List.{append-nil}
use Rattle.civl_terms.proofs.Growing.{lengthens_trans, lengthened}
use Rattle.civl_terms.specs.Weights.{graph_weight}
use Rattle.civl_conditions.specs.paths.Ends.{is_rank_loop}
use Rattle.civl_conditions.specs.Parts.{path_fails}
use Rattle.civl_conditions.specs.Values.{Begun, begun}
use Rattle.civl_states.specs.formula_parts.Said.{Env}
use Rattle.civl_conditions.specs.Weights.{base_weight, part_weight, summed}
use Rattle.civl_states.specs.formula_parts.Given.{given, AreVariablesOf}
use Rattle.civl_states.proofs.formula_parts.Giving.{variables_kept}
use Rattle.civl_states.proofs.Formulas.{formula_of}
use Rattle.civl_states.proofs.Given.{stand_first}
use Rattle.civl_states.proofs.Limits.{AreSorts}
use Rattle.civl_refine.specs.Walked.{sorts_from, outcome_from}
use Rattle.civl_refine.proofs.Begun.{begins_at}
use Rattle.civl_refine.proofs.Cutting.{refines_some, some_is}
use Rattle.civl_refine.proofs.Placing.{paths_long, paths_are, rank_some}
use Rattle.civl_refine.proofs.Violating.{arrives_among, weighs_path}
use Rattle.civl_refine.proofs.violations.path_at.Goals as goal

pub walk_from-requires-clause-stand : goal.walk_from-requires-clause-stand
walk_from-requires-clause-stand c = stand_first c.args.sorts.now (sorts_from c.args.start.now) [] (c.requires.sorts ∙ sym (append-nil (sorts_from c.args.start.now)))

pub walk_from-requires-clause-limits : goal.walk_from-requires-clause-limits
walk_from-requires-clause-limits c =
    let s = c.args.start.now in
    subst AreSorts (sym c.requires.sorts) (paths_are s.program.now c.requires.start.rules s.step s.proc.now c.requires.start.proc s.cut)

pub returns-in_err-id-clause-lengthens : goal.returns-in_err-id-clause-lengthens
returns-in_err-id-clause-lengthens c = lengthens_trans _ _ _ c.in_ok-walked.ensures.lengthens (lengthened _ _ c.in_err-id.ensures.grows)

pub returns-clause-lengthens : goal.returns-clause-lengthens
returns-clause-lengthens c = lengthens_trans _ _ _ c.in_ok-walked.ensures.lengthens (lengthened _ _ c.in_ok-id.ensures.grows)

pub returns-clause-says : goal.returns-clause-says
returns-clause-says c =
    let s = c.args.start.now in
    let sorts = sorts_from s in
    let n = length sorts in
    let b : Env → Begun = λ env. begun s.program.now s.step s.proc.now s.cut (given env 0 n) in
    let w = c.in_ok-walked.ensures.walked n (omega (arith, paths_long s.program.now s.step s.proc.now s.cut)) in
    let of = some_is s.proc.now.refines (refines_some s.program.now s.proc.now s.refined c.requires.start.refined) in
    formula_of c.failing.new.terms c.in_ok-id.id sorts (λ values. path_fails s.program.now s.step c.args.part s.proc.now s.number s.cut (begun s.program.now s.step s.proc.now s.cut values))
    (variables_kept _ _ sorts c.in_ok-id.ensures.grows (subst (AreVariablesOf c.walk_from.new.terms) c.requires.sorts c.in_ok-walked.ensures.variables))
    (c.in_ok-id.ensures.test b (λ env. outcome_from s (b env)) (λ env. begins_at s.program.now s.step s.proc.now s.cut (given env 0 n)) w.begun w.before w.ways
    (λ env. arrives_among s (b env) of.0 of.1 (map (λ y. y.end) c.in_ok-walked.walked.walk.ways) c.in_ok-walked.ensures.can.ends))

pub returns-clause-weighs : goal.returns-clause-weighs
returns-clause-weighs c =
    let s = c.args.start.now in
    let ends = ap (λ (es : List ℕ). summed (map (part_weight s.program.now s.step s.proc.now s.cut c.args.part) es)) c.in_ok-walked.ensures.can.ends in
    let fails = subst (λ (w : ℕ). graph_weight c.failing.new.terms ≤ graph_weight c.walk_from.new.terms + 4 * base_weight s.program.now s.step s.proc.now s.number s.cut + 4 * w + (if is_rank_loop s.cut.kind then 2 else 0)) ends c.in_ok-id.ensures.weighs in
    weighs_path (is_rank_loop s.cut.kind) _ _ _ _ _ _ _ (rank_some s.program.now s.step s.proc.now s.cut) c.in_ok-walked.ensures.weighs fails
