use Rattle.std.proofs.Common.{◌≡◌, ◌∙◌, length, map, string_bytes, arith}
use Rattle.std.proofs.lemmas.List.{length-map}
use Rattle.civl_lift_command.proofs.Asking.{usually}
use Rattle.civl_lift_command.proofs.words.ask_usually.Goals as goal

pub returns-then-len-eq1 : goal.returns-then-len-eq1
returns-then-len-eq1 c =
    let size : length c.args.words.now.items ≡ 1 = omega arith in
    usually (map string_bytes c.args.words.now.items) c.is_word.result (length-map c.args.words.now.items string_bytes ∙ size) c.is_word.ensures
