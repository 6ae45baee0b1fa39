use Rattle.std.proofs.Common.{◌++◌, ap, ◌∙◌}
use Rattle.civl_printing.specs.Written.{written}
use Rattle.civl_printing.proofs.Joining.{action_tokens}
use Rattle.civl_printing.proofs.Writing.{then_token, then_phrase}
use Rattle.civl_printing.proofs.actions.ActionPhrase.put.Goals as goal

pub returns : goal.returns
returns c =
    then_token _ _ _ _ _ c.in_ok-put_word.ensures (then_phrase _ _ _ _ _ c.in_ok-put_signature.ensures (then_phrase _ _ _ _ _ c.in_ok-put_choices.ensures (then_phrase _ _ _ _ _ c.in_ok-put_layers.ensures
    (then_token _ _ _ _ _ c.in_ok-put_mover.ensures (then_phrase _ _ _ _ _ c.in_ok-put_conditions.ensures c.in_ok-put_updates.ensures)))))
    ∙ ap (λ ts. c.args.out.now.items ++ written ts) (action_tokens c.args.self.now)
