use Rattle.std.proofs.lemmas.Nat.{pow_pos}
use Rattle.civl_states.proofs.formula_parts.Carrying.{literal_said, width_is, none_masks}
use Rattle.civl_states.proofs.formula_parts.carried.mask_or_none.Goals as goal

pub returns-in_ok-none-in-None-clause-masks : goal.returns-in_ok-none-in-None-clause-masks
returns-in_ok-none-in-None-clause-masks c = λ f a.
    none_masks f c.in-None.is c.in_ok-none-in-None.ensures.grows (literal_said (width_is c.args.bits c.requires.bits c.requires.few) (pow_pos c.args.bits) c.literal.ensures c.in_ok-none-in-None.ensures.built) a
