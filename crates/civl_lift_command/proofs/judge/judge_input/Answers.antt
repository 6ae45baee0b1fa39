use Rattle.std.proofs.Common.{List, ℕ, length, refl, ap, subst, arith}
use Rattle.civl_frontend.specs.Told.{IsJudged}
use Rattle.civl_lift_command.specs.Outcome.{FindsBy, telling}
use Rattle.civl_lift_command.proofs.Judging.{long_judged, input_judged, input_failed, input_wanted}
use Rattle.civl_lift_command.proofs.judge.judge_input.Goals as goal

pub returns-in-Bytes : goal.returns-in-Bytes
returns-in-Bytes g c = λ words ask.
    let bytes = c.in-Bytes.bytes.items in
    let whole = c.in-Bytes.ensures.bytes in
    let judged = subst (λ (w : List ℕ). IsJudged telling (FindsBy c.args.budget w) c.judge_text.result) c.as_slice.ensures.value c.judge_text.ensures in
    input_judged words c.args.budget _ _ _ ask bytes c.judge_text.result.status (record { taken = whole.0; at_end = whole.1 }) judged

pub returns-in-Long : goal.returns-in-Long
returns-in-Long g c = λ words ask. long_judged words c.args.budget _ _ _ ask _ c.in-Long.ensures.bytes c.too_long.ensures

pub returns-in-Failed : goal.returns-in-Failed
returns-in-Failed g c = λ words ask. input_failed words c.args.budget _ _ _ ask (c.in-Failed.ensures.failed refl) refl

pub returns-in-Memory : goal.returns-in-Memory
returns-in-Memory g c = λ words ask. input_wanted words c.args.budget _ _ _ ask c.wanting.result.status c.wanting.ensures

pub judge_text-requires : goal.judge_text-requires
judge_text-requires g c = omega (arith, c.in-Bytes.ensures.bytes.2, ap length c.as_slice.ensures.value)
