use Rattle.std.proofs.Common.{List, [], ℕ, length, refl, ap, subst, arith}
use Rattle.civl_explain_command.specs.Outcome.{FindsBy}
use Rattle.civl_explain_command.specs.Tasks.{manner_of, kind_of}
use Rattle.civl_explain_command.specs.Judge.{IsJudged}
use Rattle.civl_explain_command.proofs.Judging.{long_judged, input_judged, input_failed, input_wanted}
use Rattle.civl_explain_command.proofs.judge.judge_input.Goals as goal

pub returns-in-Bytes-clause-judges : goal.returns-in-Bytes-clause-judges
returns-in-Bytes-clause-judges g c = λ words ask.
    let bytes = c.in-Bytes.bytes.items in
    let whole = c.in-Bytes.ensures.bytes in
    let request = c.args.request in
    let judged = subst (λ (w : List ℕ). IsJudged (kind_of request.command) (manner_of request) w (FindsBy request.command w) c.judge_bytes.result) c.as_slice.ensures.value c.judge_bytes.ensures.judged in
    input_judged words request _ _ c.judge_bytes.result ask bytes (record { taken = whole.0; at_end = whole.1 }) judged

pub returns-in-Failed-clause-judges : goal.returns-in-Failed-clause-judges
returns-in-Failed-clause-judges g c = λ words ask. input_failed words c.args.request _ _ _ ask (c.in-Failed.ensures.failed refl) refl

pub returns-in-Memory-clause-judges : goal.returns-in-Memory-clause-judges
returns-in-Memory-clause-judges g c = λ words ask. input_wanted words c.args.request _ _ c.wanting.result ask c.wanting.ensures

pub judge_bytes-requires : goal.judge_bytes-requires
judge_bytes-requires g c = omega (arith, c.in-Bytes.ensures.bytes.2, ap length c.as_slice.ensures.value)

pub returns-in-Long-clause-judges : goal.returns-in-Long-clause-judges
returns-in-Long-clause-judges g c = λ words ask.
    let judged = rw c.kind_of.ensures at rw c.manner_of.ensures at c.too_long.ensures [] in
    long_judged words c.args.request _ _ c.too_long.result ask [] c.in-Long.ensures.bytes judged
