use Rattle.std.proofs.Common.{◌++◌, ap, ◌∙◌}
use Rattle.civl_printing.specs.Written.{written}
use Rattle.civl_printing.proofs.Joining.{proc_tokens}
use Rattle.civl_printing.proofs.Writing.{then_token, then_phrase}
use Rattle.civl_printing.proofs.procedures.ProcPhrase.put.Goals as goal

pub returns : goal.returns
returns c =
    then_token _ _ _ _ _ c.in_ok-put_word.ensures (then_phrase _ _ _ _ _ c.in_ok-put_signature.ensures (then_phrase _ _ _ _ _ c.in_ok-put_rank_of.ensures c.in_ok-put_body.ensures))
    ∙ ap (λ ts. c.args.out.now.items ++ written ts) (proc_tokens c.args.self.now)
