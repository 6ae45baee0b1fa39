use Rattle.std.proofs.lemmas.Bool.{eqb-true}
use Rattle.std.proofs.Common.{◌≡◌, ◌∙◌, length, map, string_bytes, sym, arith}
use Rattle.std.proofs.lemmas.List.{length-map}
use Rattle.civl_lift_command.proofs.Asking.{with_budget}
use Rattle.civl_lift_command.proofs.words.ask_with_budget.Goals as goal
use Rattle.civl_lift_command.proofs.words.ask_with_budget.Goals.{then-len-eq3, else-len-eq3}

pub returns-then-is_word : goal.returns-then-is_word
returns-then-is_word c = elim c.if-len-eq3.branch [
  | then-len-eq3 w ↦
      let three = w.if-len-eq3.true in
      let size : length c.args.words.now.items ≡ 3 = omega (arith, three, c.len.ensures) in
      with_budget (map string_bytes c.args.words.now.items) c.is_word-then-is_word.result (length-map c.args.words.now.items string_bytes ∙ size)
      (w.is_word.ensures.0 (sym w.value-is ∙ c.if-is_word.true)) c.is_word-then-is_word.ensures
  | else-len-eq3 w ↦
      let three = eqb-true c.len.result 3 (sym w.value-is ∙ c.if-is_word.true) in
      let other = w.if-len-eq3.false in
      absurd (omega (arith, three, other))
]
