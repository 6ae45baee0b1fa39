use Rattle.std.proofs.Common.{◌++◌, ap, ◌∙◌}
use Rattle.civl_printing.specs.Written.{written}
use Rattle.civl_printing.proofs.Joining.{global_tokens}
use Rattle.civl_printing.proofs.Writing.{then_token, then_phrase, last_token}
use Rattle.civl_printing.proofs.declarations.GlobalVarPhrase.put.Goals as goal

pub returns : goal.returns
returns c =
    then_token _ _ _ _ _ c.in_ok-put_word.ensures (then_phrase _ _ _ _ _ c.in_ok-put_linear.ensures (then_phrase _ _ _ _ _ c.in_ok-put_typed.ensures
    (then_phrase _ _ _ _ _ c.in_ok-put_layers.ensures (last_token _ _ _ c.in_ok-put_sign.ensures))))
    ∙ ap (λ ts. c.args.out.now.items ++ written ts) (global_tokens c.args.self.now)
