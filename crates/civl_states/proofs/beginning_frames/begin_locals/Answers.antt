use Rattle.std.specs.Prelude.{length, List, ℕ}
use Rattle.std.proofs.Common.{◌≡◌, ◌∙◌, sym, ap₂, subst, arith, ◌++◌}
use Rattle.std.proofs.lemmas.List.{length-map}
use Rattle.civl_tree.specs.rules.Uses.{param_sorts}
use Rattle.civl_meaning.specs.Config.{frame_sorts}
use Rattle.civl_terms.proofs.Growing.{lengthens_trans}
use Rattle.civl_states.specs.formula_parts.Lists.{AreSaid}
use Rattle.civl_states.specs.formula_parts.Given.{given}
use Rattle.civl_states.proofs.formula_parts.Listing.{said_more}
use Rattle.civl_states.specs.Laying.{inner_sorts, inner_values, begun_locals}
use Rattle.civl_states.proofs.Given.{stand_within, given_group, group_bits}
use Rattle.civl_states.proofs.beginning_frames.begin_locals.Goals as goal

pub overflow_cast-count : goal.overflow_cast-count
overflow_cast-count c =
    let q = c.args.proc.now in
    omega (arith, stand_within c.args.sorts.now c.args.places.params (param_sorts q.params) c.requires.params, c.len-count.ensures, length-map q.params (λ p. p.sort), c.requires.small)

pub variables-requires-clause-within : goal.variables-requires-clause-within
variables-requires-clause-within c =
    let q = c.args.proc.now in
    omega (arith, stand_within c.args.sorts.now c.args.places.params (param_sorts q.params) c.requires.params, c.len-count.ensures, length-map q.params (λ p. p.sort))

pub variables-requires-clause-small : goal.variables-requires-clause-small
variables-requires-clause-small c =
    let q = c.args.proc.now in
    omega (arith, stand_within c.args.sorts.now c.args.places.params (param_sorts q.params) c.requires.params, c.len-count.ensures, length-map q.params (λ p. p.sort), c.requires.small)

pub returns-in_err-inner-clause-lengthens : goal.returns-in_err-inner-clause-lengthens
returns-in_err-inner-clause-lengthens c = lengthens_trans _ _ _ c.in_ok-params.ensures.lengthens c.in_err-inner.ensures.lengthens

pub returns-in_err-extend_from_slice-clause-lengthens : goal.returns-in_err-extend_from_slice-clause-lengthens
returns-in_err-extend_from_slice-clause-lengthens c = lengthens_trans _ _ _ c.in_ok-params.ensures.lengthens c.in_ok-inner.ensures.lengthens

pub returns-clause-said : goal.returns-clause-said
returns-clause-said c =
    let q = c.args.proc.now in
    let m = c.variables.new.terms in
    let n = c.begin_inner.new.terms in
    let ps = c.args.places in
    let l : length (param_sorts q.params) ≡ c.len-count.result = length-map q.params (λ p. p.sort) ∙ sym c.len-count.ensures in
    let s0 = given_group m c.in_ok-params.params c.args.sorts.now ps.params (param_sorts q.params) c.len-count.result l c.requires.params c.in_ok-params.ensures.said in
    let s1 = subst (λ (k : ℕ). AreSaid m c.in_ok-params.params (param_sorts q.params) (λ env. given env ps.params k)) (length-map q.params (λ p. p.sort)) s0 in
    let both = said_more m n c.in_ok-params.params c.in_ok-inner.inner (param_sorts q.params) (inner_sorts q) (λ env. given env ps.params (length q.params)) (λ env. inner_values q c.args.kind env ps.rest) c.in_ok-inner.ensures.lengthens s1 c.in_ok-inner.ensures.said in
    let items : c.from_vec.result ≡ c.in_ok-params.params ++ c.in_ok-inner.inner =
    c.from_vec.ensures ∙ c.in_ok-extend_from_slice.ensures.items ∙ ap₂ (λ (xs ys : List ℕ). xs ++ ys) c.into_vec-ids.ensures c.as_slice.ensures in
    subst (λ (xs : List ℕ). AreSaid n xs (frame_sorts q) (λ env. begun_locals q c.args.kind env ps)) (sym items) both

pub returns-clause-lengthens : goal.returns-clause-lengthens
returns-clause-lengthens c = lengthens_trans _ _ _ c.in_ok-params.ensures.lengthens c.in_ok-inner.ensures.lengthens

pub returns-clause-weighs : goal.returns-clause-weighs
returns-clause-weighs c =
    let q = c.args.proc.now in
    let l : length (param_sorts q.params) ≡ c.len-count.result = length-map q.params (λ p. p.sort) ∙ sym c.len-count.ensures in
    omega (arith, c.in_ok-params.ensures.weighs, c.in_ok-inner.ensures.weighs, group_bits c.args.sorts.now c.args.places.params (param_sorts q.params) c.len-count.result l c.requires.params)
