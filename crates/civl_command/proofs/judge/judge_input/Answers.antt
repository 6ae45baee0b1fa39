use Rattle.std.proofs.Common.{List, ℕ, length, refl, ap, subst, arith}
use Rattle.civl_command.specs.Outcome.{FindsBy}
use Rattle.civl_command.specs.Judge.{IsJudged}
use Rattle.civl_command.proofs.Judging.{long_judged, input_judged, input_failed, input_wanted}
use Rattle.civl_command.proofs.judge.judge_input.Goals as goal

pub returns-in-Bytes-clause-judges : goal.returns-in-Bytes-clause-judges
returns-in-Bytes-clause-judges g c = λ words ask.
    let bytes = c.in-Bytes.bytes.items in
    let whole = c.in-Bytes.ensures.bytes in
    let judged = subst (λ (w : List ℕ). IsJudged (FindsBy c.args.task w) c.judge_text.result) c.as_slice.ensures.value c.judge_text.ensures.judged in
    input_judged words c.args.task _ _ _ ask bytes c.judge_text.result.status (record { taken = whole.0; at_end = whole.1 }) judged

pub returns-in-Long-clause-judges : goal.returns-in-Long-clause-judges
returns-in-Long-clause-judges g c = λ words ask. long_judged words c.args.task _ _ _ ask _ _ c.limit_of-most.ensures c.in-Long.ensures.bytes c.too_long.ensures

pub returns-in-Failed-clause-judges : goal.returns-in-Failed-clause-judges
returns-in-Failed-clause-judges g c = λ words ask. input_failed words c.args.task _ _ _ ask (c.in-Failed.ensures.failed refl) refl

pub returns-in-Memory-clause-judges : goal.returns-in-Memory-clause-judges
returns-in-Memory-clause-judges g c = λ words ask. input_wanted words c.args.task _ _ _ ask c.wanting.result.status c.wanting.ensures

pub judge_text-requires : goal.judge_text-requires
judge_text-requires g c = omega (arith, c.in-Bytes.ensures.bytes.2, ap length c.as_slice.ensures.value, c.limit_of-most.ensures)
