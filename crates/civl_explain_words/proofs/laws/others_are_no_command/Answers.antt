use Rattle.std.proofs.Common.{refl}
use Rattle.clap.proofs.OnLiterals.{clap_on_literals}
use Rattle.civl_explain_words.specs.Words.{asked_of}
use Rattle.civl_explain_words.specs.examples.Lines.{OthersAreNoCommand}
use Rattle.civl_explain_words.proofs.laws.others_are_no_command.Goals as goal

shown : OthersAreNoCommand
unfolding clap_on_literals asked_of
shown = (refl, refl, refl, refl, refl, refl, refl, refl, refl, refl, refl, refl, refl, refl)

pub returns : goal.returns
returns c = shown
