use Rattle.std.proofs.Common.{string_bytes}
use Rattle.civl_lift_command.proofs.Asking.{is_text}
use Rattle.civl_lift_command.proofs.words.is_word.Goals as goal

pub returns : goal.returns
returns c = is_text string_bytes c.args.words.now.items c.args.at c.index.result.now c.requires c.index.ensures c.as_str.result.now c.args.word.now c.eq.result c.as_str.ensures.value c.eq.ensures
