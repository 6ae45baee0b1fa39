-- No list of words is that of two commands.
use Rattle.std.proofs.Common.{◌∙◌, sym, Option, ap}
use Rattle.std.specs.Prelude.{unwrap_or}
use Rattle.civl_words.specs.Words.{OneCommand}
use Rattle.civl_words.specs.declared.words.Command.{Command}

pub one_command : OneCommand
one_command words first second h k = ap (λ (o : Option Command). unwrap_or o first) (sym h ∙ k)
