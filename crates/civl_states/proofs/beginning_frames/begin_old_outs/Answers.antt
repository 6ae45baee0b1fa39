use Rattle.std.specs.Prelude.{length, List, ℕ, take, drop}
use Rattle.std.proofs.Common.{◌≡◌, ◌∙◌, ◌-◌, sym, ap, ap₂, subst, arith}
use Rattle.std.proofs.lemmas.List.{length-map}
use Rattle.civl_tree.specs.declared.expr.Sort.{Sort}
use Rattle.civl_tree.specs.rules.Uses.{param_sorts}
use Rattle.civl_tree.proofs.Parts.{part_to}
use Rattle.civl_conditions.specs.paths.Ends.{is_rank_loop}
use Rattle.civl_meaning.specs.Change.{outs_in}
use Rattle.civl_states.specs.formula_parts.Lists.{AreSaid}
use Rattle.civl_states.specs.formula_parts.Given.{given, bits_of_sorts}
use Rattle.civl_states.specs.Laying.{begun_locals, sorts_where}
use Rattle.civl_states.proofs.Given.{stand_within, stand_counted}
use Rattle.civl_states.proofs.Laying.{where_there, said_then, said_else, outs_said}
use Rattle.civl_states.proofs.beginning_frames.begin_old_outs.Goals as goal

pub variables-requires-clause-within : goal.variables-requires-clause-within
variables-requires-clause-within c =
    let q = c.args.proc.now in
    let e = sym c.is_rank_loop.ensures ∙ c.if-is_rank_loop.true in
    let st = where_there (is_rank_loop c.args.kind) c.args.sorts.now c.args.places.old_outs (param_sorts q.outs) e c.requires.stand in
    omega (arith, stand_within _ _ _ st, c.len-count.ensures, length-map q.outs (λ p. p.sort))

pub returns-then-is_rank_loop-clause-said : goal.returns-then-is_rank_loop-clause-said
returns-then-is_rank_loop-clause-said c =
    let q = c.args.proc.now in
    let n = c.variables.new.terms in
    let first = c.args.places.old_outs in
    let e = sym c.is_rank_loop.ensures ∙ c.if-is_rank_loop.true in
    let st = where_there (is_rank_loop c.args.kind) c.args.sorts.now first (param_sorts q.outs) e c.requires.stand in
    let group = stand_counted c.args.sorts.now first (param_sorts q.outs) _ (length-map q.outs (λ p. p.sort) ∙ sym c.len-count.ensures) st in
    let said = subst (λ (ss : List Sort). AreSaid n c.in_ok-ids.ids ss (λ env. given env first c.len-count.result)) group c.in_ok-ids.ensures.said in
    let all = subst (λ (k : ℕ). AreSaid n c.in_ok-ids.ids (param_sorts q.outs) (λ env. given env first k)) c.len-count.ensures said in
    said_then (is_rank_loop c.args.kind) n c.in_ok-ids.ids (param_sorts q.outs) (λ env. given env first (length q.outs)) (λ env. outs_in q (begun_locals q c.args.kind env c.args.places)) e all

pub returns-then-is_rank_loop-clause-weighs : goal.returns-then-is_rank_loop-clause-weighs
returns-then-is_rank_loop-clause-weighs c =
    let q = c.args.proc.now in
    let first = c.args.places.old_outs in
    let e = sym c.is_rank_loop.ensures ∙ c.if-is_rank_loop.true in
    let st = where_there (is_rank_loop c.args.kind) c.args.sorts.now first (param_sorts q.outs) e c.requires.stand in
    let group = stand_counted c.args.sorts.now first (param_sorts q.outs) _ (length-map q.outs (λ p. p.sort) ∙ sym c.len-count.ensures) st in
    omega (arith, c.in_ok-ids.ensures.weighs, ap bits_of_sorts group, ap (λ b. bits_of_sorts (sorts_where b (param_sorts q.outs))) e)

pub returns-clause-said : goal.returns-clause-said
returns-clause-said c =
    let q = c.args.proc.now in
    let o = c.args.terms.now in
    let e = sym c.is_rank_loop.ensures ∙ c.if-is_rank_loop.false in
    let ls = c.args.locals.now in
    let outs = outs_said o q ls (λ env. begun_locals q c.args.kind env c.args.places) c.requires.locals in
    let items : c.from_vec.result ≡ take (length q.outs) (drop (length q.params) ls) =
    c.from_vec.ensures ∙ c.in_ok-ids-2.ensures.items ∙ ap (λ (xs : List ℕ). take c.len-count.result (take (length xs - c.len-from.result) (drop c.len-from.result xs))) c.as_slice.ensures
    ∙ part_to c.len-count.result c.len-from.result ls ∙ ap₂ (λ (m n : ℕ). take m (drop n ls)) c.len-count.ensures c.len-from.ensures in
    said_else (is_rank_loop c.args.kind) o c.from_vec.result (param_sorts q.outs) (λ env. given env c.args.places.old_outs (length q.outs)) (λ env. outs_in q (begun_locals q c.args.kind env c.args.places)) e
    (subst (λ (xs : List ℕ). AreSaid o xs (param_sorts q.outs) (λ env. outs_in q (begun_locals q c.args.kind env c.args.places))) (sym items) outs)
