-- No list of words asks for two thingss.
use Rattle.std.proofs.Common.{◌∙◌, sym, Option, ap}
use Rattle.std.specs.Prelude.{unwrap_or}
use Rattle.civl_explain_words.specs.Words.{OneCommand}
use Rattle.civl_explain_words.specs.declared.words.Request.{Request}

pub one_command : OneCommand
one_command words first second h k = ap (λ (o : Option Request). unwrap_or o first) (sym h ∙ k)
