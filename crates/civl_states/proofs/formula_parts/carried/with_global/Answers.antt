use Rattle.std.proofs.Common.{◌^◌, ◌∷◌, [], ◌++◌, sym, subst}
use Rattle.civl_tree.specs.declared.expr.Sort.TheVariants.{Word}
use Rattle.civl_meaning.specs.Permissions.{permissions_of_global}
use Rattle.civl_states.specs.formula_parts.Said.{IsSaid}
use Rattle.civl_states.specs.formula_parts.Masks.{AreCarried}
use Rattle.civl_states.proofs.formula_parts.Carrying.{width_of, few_permissions, global_masks}
use Rattle.civl_states.proofs.formula_parts.carried.with_global.Goals as goal

pub bits_of-bits-requires : goal.bits_of-bits-requires
bits_of-bits-requires c = few_permissions c.args.permissions (width_of c.args.terms.now c.args.id (2 ^ c.args.permissions) c.len-count.ensures.graph c.requires.item)

pub returns-clause-carried : goal.returns-clause-carried
returns-clause-carried c = λ f g a said.
    let e = c.bits_of-bits.ensures in
    subst (λ n. AreCarried c.with_item.new.terms n c.in_ok-more.more (λ env. f env ++ permissions_of_global (g env) ∷ [])) e
    (c.in_ok-more.ensures.carried f (λ env. permissions_of_global (g env)) (subst (λ n. AreCarried c.args.terms.now n c.args.carried f) (sym e) a)
    (global_masks g c.len-count.ensures.graph (subst (λ n. IsSaid c.args.terms.now c.args.id (Word n) g) (sym e) said)))
