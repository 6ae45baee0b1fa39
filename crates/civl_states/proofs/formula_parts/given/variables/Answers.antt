use Rattle.std.proofs.Common.{◌≡◌, sym, ap, subst, arith, ℕ, List, [], ◌∷◌, ◌+◌, ◌≤◌, suc, get_or}
use Rattle.civl_terms.specs.Weights.{graph_weight}
use Rattle.civl_tree.specs.declared.expr.Sort.TheVariants.{Bool as Truth}
use Rattle.civl_terms.proofs.Growing.{lengthens_trans}
use Rattle.civl_states.specs.formula_parts.Lists.{AreSaid}
use Rattle.civl_states.specs.formula_parts.Given.{given, sorts_from, bits_of_sorts}
use Rattle.civl_states.proofs.formula_parts.Listing.{said_more}
use Rattle.civl_states.proofs.formula_parts.Giving.{bits-append}
use Rattle.civl_states.proofs.formula_parts.given.variables.Goals as goal

pub returns-in_err-id-clause-lengthens : goal.returns-in_err-id-clause-lengthens
returns-in_err-id-clause-lengthens c = lengthens_trans _ _ _ c.loop-at.invariant.2 c.in_err-id.ensures.lengthens

pub returns-in_err-push-clause-lengthens : goal.returns-in_err-push-clause-lengthens
returns-in_err-push-clause-lengthens c = lengthens_trans _ _ _ c.loop-at.invariant.2 c.in_ok-id.ensures.lengthens

pub loop-at-preserved : goal.loop-at-preserved
loop-at-preserved c =
    let o = c.loop-at.terms in
    let n = c.variable.new.terms in
    let s = c.args.sorts.now in
    let f = c.args.first in
    let a = c.loop-at.at in
    let here : f + a + 0 ≡ f + a = omega arith in
    let said = subst (λ (k : ℕ). AreSaid n (c.in_ok-id.id ∷ []) (get_or s k Truth ∷ []) (λ env. env k ∷ [])) here c.in_ok-id.ensures.said in
    let more = said_more o n c.loop-at.ids.items (c.in_ok-id.id ∷ []) (sorts_from s f a) (get_or s (f + a) Truth ∷ []) (λ env. given env f a) (λ env. env (f + a) ∷ []) c.in_ok-id.ensures.lengthens c.loop-at.invariant.0 said in
    let e : suc a ≡ a + 1 = omega arith in (
      subst (λ (m : ℕ). AreSaid n c.push.new.self.items (sorts_from s f m) (λ env. given env f m)) e
          (subst (λ (xs : List ℕ). AreSaid n xs (sorts_from s f (suc a)) (λ env. given env f (suc a))) (sym c.in_ok-push.ensures.items) more),
      c.in_ok-id.ensures.variables,
      lengthens_trans _ _ _ c.loop-at.invariant.2 c.in_ok-id.ensures.lengthens,
      subst (λ (m : ℕ). graph_weight n ≤ graph_weight c.args.terms.now + bits_of_sorts (sorts_from s f m)) e
          (omega (arith, c.loop-at.invariant.3, c.in_ok-id.ensures.weighs, bits-append (sorts_from s f a) (get_or s (f + a) Truth ∷ []), ap (λ (k : ℕ). bits_of_sorts (get_or s k Truth ∷ [])) here)),
    )
