use Rattle.std.specs.Prelude.{not, length, List, ℕ, map}
use Rattle.std.proofs.Common.{◌≡◌, ◌∙◌, sym, ap, subst, arith, ◌+◌, ◌++◌}
use Rattle.civl_tree.specs.declared.expr.Sort.{Sort}
use Rattle.civl_firing.specs.values.Values.{zero_of}
use Rattle.civl_firing.specs.Scope.{zeros_of_params, zeros_of_locals}
use Rattle.civl_conditions.specs.paths.Ends.{is_entry}
use Rattle.civl_states.specs.formula_parts.Lists.{AreSaid}
use Rattle.civl_states.specs.formula_parts.Given.{given, bits_of_sorts}
use Rattle.civl_states.specs.Laying.{sorts_where, inner_sorts}
use Rattle.civl_states.proofs.Given.{stand_within, given_group, group_bits}
use Rattle.civl_states.proofs.Laying.{where_there, said_then, said_else, inner_zeros, inner_long}
use Rattle.civl_states.proofs.beginning_frames.begin_inner.Goals as goal

pub returns-then-is_entry-clause-said : goal.returns-then-is_entry-clause-said
returns-then-is_entry-clause-said c =
    let q = c.args.proc.now in
    let n = c.zeros.new.terms in
    let ids = c.in_ok-ids.ids in
    let first = c.args.first in
    let e = sym c.is_entry.ensures ∙ c.if-is_entry.true in
    let s0 = subst (λ (ss : List Sort). AreSaid n ids ss (λ env. map zero_of ss)) (c.as_slice-inner.ensures.value ∙ c.in_ok-inner.ensures) c.in_ok-ids.ensures.said in
    let s1 : AreSaid n ids (inner_sorts q) (λ env. zeros_of_params q.outs ++ zeros_of_locals q.locals) = record { sorted = s0.sorted; are = λ env f. s0.are env f ∙ inner_zeros q } in
    said_then (is_entry c.args.kind) n ids (inner_sorts q) (λ env. zeros_of_params q.outs ++ zeros_of_locals q.locals) (λ env. given env first (length q.outs + length q.locals)) e s1

pub variables-requires-clause-within : goal.variables-requires-clause-within
variables-requires-clause-within c =
    let q = c.args.proc.now in
    let e = ap not (sym c.is_entry.ensures ∙ c.if-is_entry.false) in
    let st = where_there (not (is_entry c.args.kind)) c.args.sorts.now c.args.first (inner_sorts q) e c.requires.stand in
    let l : length c.as_slice-inner.result.now ≡ length (inner_sorts q) = ap length (c.as_slice-inner.ensures.value ∙ c.in_ok-inner.ensures) in
    omega (arith, stand_within c.args.sorts.now c.args.first (inner_sorts q) st, l)

pub variables-requires-clause-small : goal.variables-requires-clause-small
variables-requires-clause-small c =
    let q = c.args.proc.now in
    let e = ap not (sym c.is_entry.ensures ∙ c.if-is_entry.false) in
    let st = where_there (not (is_entry c.args.kind)) c.args.sorts.now c.args.first (inner_sorts q) e c.requires.stand in
    let l : length c.as_slice-inner.result.now ≡ length (inner_sorts q) = ap length (c.as_slice-inner.ensures.value ∙ c.in_ok-inner.ensures) in
    omega (arith, stand_within c.args.sorts.now c.args.first (inner_sorts q) st, l, c.requires.small)

pub returns-clause-said : goal.returns-clause-said
returns-clause-said c =
    let q = c.args.proc.now in
    let n = c.variables.new.terms in
    let first = c.args.first in
    let ids = c.in_ok-ids-2.ids in
    let b = sym c.is_entry.ensures ∙ c.if-is_entry.false in
    let st = where_there (not (is_entry c.args.kind)) c.args.sorts.now first (inner_sorts q) (ap not b) c.requires.stand in
    let l : length (inner_sorts q) ≡ length c.as_slice-inner.result.now = sym (ap length (c.as_slice-inner.ensures.value ∙ c.in_ok-inner.ensures)) in
    let s0 = given_group n ids c.args.sorts.now first (inner_sorts q) (length c.as_slice-inner.result.now) l st c.in_ok-ids-2.ensures.said in
    let s1 = subst (λ (k : ℕ). AreSaid n ids (inner_sorts q) (λ env. given env first k)) (inner_long q) s0 in
    said_else (is_entry c.args.kind) n ids (inner_sorts q) (λ env. zeros_of_params q.outs ++ zeros_of_locals q.locals) (λ env. given env first (length q.outs + length q.locals)) b s1

pub returns-clause-weighs : goal.returns-clause-weighs
returns-clause-weighs c =
    let q = c.args.proc.now in
    let first = c.args.first in
    let e = ap not (sym c.is_entry.ensures ∙ c.if-is_entry.false) in
    let st = where_there (not (is_entry c.args.kind)) c.args.sorts.now first (inner_sorts q) e c.requires.stand in
    let l : length (inner_sorts q) ≡ length c.as_slice-inner.result.now = sym (ap length (c.as_slice-inner.ensures.value ∙ c.in_ok-inner.ensures)) in
    omega (arith, c.in_ok-ids-2.ensures.weighs, group_bits c.args.sorts.now first (inner_sorts q) (length c.as_slice-inner.result.now) l st, ap (λ b. bits_of_sorts (sorts_where b (inner_sorts q))) e)
