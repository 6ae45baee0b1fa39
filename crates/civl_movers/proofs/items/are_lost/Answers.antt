use Rattle.std.proofs.Common.{◌^◌, ◌∙◌, ◌&&◌, not, ℕ, List, Option, sym, ap, subst}
use Rattle.civl_bits.specs.declared.value.Value.TheVariants as value
use Rattle.civl_meaning.specs.Permissions.{pairwise_disjoint}
use Rattle.civl_conditions.specs.Permissions.{included}
use Rattle.civl_states.specs.formula_parts.Masks.{MasksAll}
use Rattle.civl_movers.proofs.items.are_lost.Goals as goal

pub returns-in_ok-id-in-None-clause-test : goal.returns-in_ok-id-in-None-clause-test
returns-in_ok-id-in-None-clause-test c = λ f g h k.
    let none = subst (λ (m : Option ℕ). MasksAll c.args.terms.now (2 ^ c.args.permissions) m f) c.in-None.is h.mask in
    let w = c.in_ok-id-in-None.ensures.grows in
    record {
      sorted = c.in_ok-id-in-None.ensures.built.sorted;
      is = λ env fits. c.in_ok-id-in-None.ensures.built.is env fits ∙ ap (λ (ps : List (List ℕ)). value.Bool (not (pairwise_disjoint ps && included ps (g env)))) (sym (none env (w.fits env fits)));
    }
