use Rattle.std.proofs.Common.{◌≡◌, ◌∙◌, ◌++◌, ℕ, List, sym, ap₂, subst, refl}
use Rattle.civl_tree.specs.rules.Uses.{param_sorts}
use Rattle.civl_firing.specs.Scope.{zeros_of_params, zeros_of_locals}
use Rattle.civl_meaning.specs.Config.{frame_sorts}
use Rattle.civl_terms.proofs.Growing.{lengthened}
use Rattle.civl_actions.specs.Actions.{values_at}
use Rattle.civl_actions.specs.Scopes.{AreOf}
use Rattle.civl_states.specs.formula_parts.Lists.{AreSaid}
use Rattle.civl_states.proofs.formula_parts.Listing.{said_more}
use Rattle.civl_states.specs.Laying.{inner_sorts}
use Rattle.civl_states.proofs.Starting.{inner_limits}
use Rattle.civl_goal_terms.proofs.frames.first_frame.Goals as goal

pub inner_zeros-requires : goal.inner_zeros-requires
inner_zeros-requires c = inner_limits c.args.program.now c.requires.rules c.args.proc.now (c.args.number, c.requires.proc)

pub returns-clause-said : goal.returns-clause-said
returns-clause-said c = λ v h.
    let q = c.args.proc.now in
    let n = c.inner_zeros.new.terms in
    let inner = c.in_ok-inner.inner in
    let both = said_more c.args.terms.now n c.args.args inner (param_sorts q.params) (inner_sorts q) v (λ env. zeros_of_params q.outs ++ zeros_of_locals q.locals) (lengthened _ _ c.in_ok-inner.ensures.grows) h c.in_ok-inner.ensures.said in
    let items : c.from_vec.result ≡ c.args.args ++ inner = c.from_vec.ensures ∙ c.in_ok-extend_from_slice.ensures.items ∙ ap₂ (λ (xs ys : List ℕ). xs ++ ys) c.into_vec-ids.ensures c.as_slice.ensures in
    subst (λ (xs : List ℕ). AreSaid n xs (frame_sorts q) (λ env. v env ++ (zeros_of_params q.outs ++ zeros_of_locals q.locals))) (sym items) both

pub returns-clause-sorted : goal.returns-clause-sorted
returns-clause-sorted c =
    let q = c.args.proc.now in
    let o = c.args.terms.now in
    let n = c.inner_zeros.new.terms in
    let inner = c.in_ok-inner.inner in
    let own : AreSaid o c.args.args (param_sorts q.params) (λ env. values_at env o c.args.args) = record { sorted = c.requires.args; are = λ env f. refl } in
    let both = said_more o n c.args.args inner (param_sorts q.params) (inner_sorts q) (λ env. values_at env o c.args.args) (λ env. zeros_of_params q.outs ++ zeros_of_locals q.locals) (lengthened _ _ c.in_ok-inner.ensures.grows) own c.in_ok-inner.ensures.said in
    let items : c.from_vec.result ≡ c.args.args ++ inner = c.from_vec.ensures ∙ c.in_ok-extend_from_slice.ensures.items ∙ ap₂ (λ (xs ys : List ℕ). xs ++ ys) c.into_vec-ids.ensures c.as_slice.ensures in
    subst (λ (xs : List ℕ). AreOf n xs (frame_sorts q)) (sym items) both.sorted
