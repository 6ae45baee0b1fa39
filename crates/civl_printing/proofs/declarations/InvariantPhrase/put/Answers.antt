use Rattle.civl_printing.proofs.Writing.{then_token, then_phrase, last_token}
use Rattle.civl_printing.proofs.declarations.InvariantPhrase.put.Goals as goal

pub returns : goal.returns
returns c =
    then_token _ _ _ _ _ c.in_ok-put_word.ensures (then_token _ _ _ _ _ c.in_ok-put_number.ensures (then_phrase _ _ _ _ _ c.in_ok-put_expr.ensures (last_token _ _ _ c.in_ok-put_sign.ensures)))
