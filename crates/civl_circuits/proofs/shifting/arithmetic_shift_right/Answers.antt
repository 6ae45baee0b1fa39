use Rattle.civl_circuits.proofs.Words.{one_later}
use Rattle.civl_circuits.proofs.Moves.{arithmetic_made}
use Rattle.civl_cnf.proofs.Extending.{extends_trans}
use Rattle.civl_circuits.proofs.shifting.arithmetic_shift_right.Goals as goal

pub returns-clause-ok : goal.returns-clause-ok
returns-clause-ok c =
    arithmetic_made _ _ _ _ _ c.in_ok-turned.ensures.ok (rw c.as_slice.ensures.value at c.in_ok-moved.ensures.ok) (rw c.as_slice-2.ensures.value at c.in_ok-word.ensures.ok) c.requires.narrow c.index-a-a.is

pub shift_right-requires-clause-one : goal.shift_right-requires-clause-one
shift_right-requires-clause-one c = one_later c.in_ok-turned.ensures.extends c.requires.one

pub returns-in_err-moved-clause-extends : goal.returns-in_err-moved-clause-extends
returns-in_err-moved-clause-extends c = extends_trans c.in_ok-turned.ensures.extends c.in_err-moved.ensures.extends

pub returns-in_err-word-clause-extends : goal.returns-in_err-word-clause-extends
returns-in_err-word-clause-extends c = extends_trans c.in_ok-turned.ensures.extends (extends_trans c.in_ok-moved.ensures.extends c.in_err-word.ensures.extends)

pub returns-clause-extends : goal.returns-clause-extends
returns-clause-extends c = extends_trans c.in_ok-turned.ensures.extends (extends_trans c.in_ok-moved.ensures.extends c.in_ok-word.ensures.extends)
