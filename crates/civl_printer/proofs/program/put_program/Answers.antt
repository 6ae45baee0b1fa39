use Rattle.std.proofs.Common.{◌++◌, ap, ◌∙◌}
use Rattle.civl_printing.specs.Written.{written}
use Rattle.civl_printer.proofs.Joining.{program_tokens}
use Rattle.civl_printing.proofs.Writing.{then_phrase}
use Rattle.civl_printer.proofs.program.put_program.Goals as goal

pub returns : goal.returns
returns c = then_phrase _ _ _ _ _ c.in_ok-put_header.ensures c.in_ok-put_declarations.ensures ∙ ap (λ ts. c.args.out.now.items ++ written ts) (program_tokens c.args.program.now)
