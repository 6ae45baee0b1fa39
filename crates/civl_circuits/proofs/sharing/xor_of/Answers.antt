use Rattle.civl_cnf.proofs.Extending.{extends_same}
use Rattle.civl_circuits.proofs.Hashing.{folded_bit, hashed_later, signed_xor}
use Rattle.civl_circuits.proofs.sharing.xor_of.Goals as goal

pub returns-in-Some-clause-ok : goal.returns-in-Some-clause-ok
returns-in-Some-clause-ok c = folded_bit c.requires.hashed.constant c.in-Some.ensures.folds c.requires.a c.requires.b

pub returns-in-Some-clause-extends : goal.returns-in-Some-clause-extends
returns-in-Some-clause-extends c = extends_same _

pub returns-clause-hashed : goal.returns-clause-hashed
returns-clause-hashed c = hashed_later _ _ c.requires.hashed c.share_xor.ensures.extends c.share_xor.ensures.outputs

pub returns-clause-ok : goal.returns-clause-ok
returns-clause-ok c = signed_xor _ _ c.ordered-first.ensures c.signed-left.ensures c.signed-right.ensures c.in_ok-output.ensures.ok c.signed-turned.ensures c.signed.ensures
