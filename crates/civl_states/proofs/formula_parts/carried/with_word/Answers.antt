use Rattle.std.proofs.Common.{◌∷◌, [], ◌++◌, sym, subst}
use Rattle.civl_meaning.specs.Permissions.{permissions_of_word}
use Rattle.civl_states.specs.formula_parts.Masks.{Masks, AreCarried, CanCarry}
use Rattle.civl_states.proofs.formula_parts.Carrying.{carried_stays, can_carry_stays}
use Rattle.civl_states.proofs.formula_parts.carried.with_word.Goals as goal

pub with_item-requires-clause-carried : goal.with_item-requires-clause-carried
with_item-requires-clause-carried c = can_carry_stays c.in_ok-mask.ensures.grows (subst (λ n. CanCarry c.args.terms.now n c.args.carried) (sym c.bits_of-bits.ensures) c.requires.carried)

pub returns-clause-carried : goal.returns-clause-carried
returns-clause-carried c = λ f g a said.
    let e = c.bits_of-bits.ensures in
    subst (λ n. AreCarried c.with_item.new.terms n c.in_ok-more.more (λ env. f env ++ permissions_of_word (g env) ∷ [])) e
    (c.in_ok-more.ensures.carried f (λ env. permissions_of_word (g env))
    (carried_stays f c.in_ok-mask.ensures.grows (subst (λ n. AreCarried c.args.terms.now n c.args.carried f) (sym e) a)) (subst (λ n. Masks c.mask_of.new.terms n c.in_ok-mask.mask (λ env. permissions_of_word (g env))) (sym e) (c.in_ok-mask.ensures.masks g said)))
