use Rattle.std.specs.Prelude.{slice_get, length}
use Rattle.std.proofs.Common.{◌∙◌, List, ap, sym, arith}
use Rattle.civl_conditions.specs.declared.condition.Condition.{Condition}
use Rattle.civl_certify.specs.declared.certified.Certified.TheVariants.{NoInitial, Answer}
use Rattle.civl_certify.proofs.proof_reports.Leaning.{certified_here, refuting, shown_at, unshown_made}
use Rattle.civl_certify.proofs.proof_reports.making.make_proof.Goals as goal

pub beyond-requires-clause-past : goal.beyond-requires-clause-past
beyond-requires-clause-past g c = omega (arith, ap length c.in_ok-list.ensures)

pub certify-requires-clause-number : goal.certify-requires-clause-number
certify-requires-clause-number g c = omega (arith, ap length c.in_ok-list.ensures)

pub returns-in-Ok-NoInitial-clause-making : goal.returns-in-Ok-NoInitial-clause-making
returns-in-Ok-NoInitial-clause-making g c =
    let there = ap (λ (cs : List Condition). slice_get cs c.args.at) (sym c.in_ok-list.ensures) ∙ c.get-condition.ensures in
    record {
      light = c.in-Ok-NoInitial.ensures.light;
      there = there;
      is = certified_here c.args.src.now c.args.budget c.args.at _ NoInitial there (rw c.in-Ok-NoInitial.field-0-is at c.in-Ok-NoInitial.ensures.certified);
      lean = tt;
    }

pub returns-in-Ok-NoInitial-clause-searched : goal.returns-in-Ok-NoInitial-clause-searched
returns-in-Ok-NoInitial-clause-searched g c = rw c.in-Ok-NoInitial.field-0-is at c.in-Ok-NoInitial.ensures.searched

pub trimmed-requires : goal.trimmed-requires
trimmed-requires g c =
    let there = ap (λ (cs : List Condition). slice_get cs c.args.at) (sym c.in_ok-list.ensures) ∙ c.get-condition.ensures in
    refuting c.args.src.now c.args.budget c.get-condition.result.now c.in-Ok-Answer.initial c.in-Ok-Answer.shown (certified_here c.args.src.now c.args.budget c.args.at _ (Answer c.in-Ok-Answer.initial c.in-Ok-Answer.shown) there (rw c.in-Ok-Answer.field-0-is at c.in-Ok-Answer.ensures.certified))

pub returns-in-Ok-Answer-clause-making : goal.returns-in-Ok-Answer-clause-making
returns-in-Ok-Answer-clause-making g c =
    let there = ap (λ (cs : List Condition). slice_get cs c.args.at) (sym c.in_ok-list.ensures) ∙ c.get-condition.ensures in
    shown_at c.args.src.now c.args.budget c.args.at c.get-condition.result.now c.in-Ok-Answer.initial c.in-Ok-Answer.shown _ c.in-Ok-Answer.ensures.light there
    (certified_here c.args.src.now c.args.budget c.args.at _ (Answer c.in-Ok-Answer.initial c.in-Ok-Answer.shown) there (rw c.in-Ok-Answer.field-0-is at c.in-Ok-Answer.ensures.certified)) c.in_ok-lean-in-Ok-Answer.ensures

pub returns-in-Ok-Answer-clause-searched : goal.returns-in-Ok-Answer-clause-searched
returns-in-Ok-Answer-clause-searched g c = rw c.in-Ok-Answer.field-0-is at c.in-Ok-Answer.ensures.searched

pub returns-in-Err-Weight-clause-making : goal.returns-in-Err-Weight-clause-making
returns-in-Err-Weight-clause-making g c = rw c.in-Err-Weight.field-0-is (rw c.in-Err-Weight.field-0-is at c.in-Err-Weight.ensures.heavy)

pub returns-in-Err-Weight-clause-searched : goal.returns-in-Err-Weight-clause-searched
returns-in-Err-Weight-clause-searched g c = rw c.in-Err-Weight.field-0-is at c.in-Err-Weight.ensures.unasked

pub returns-then-at-len-clause-making : goal.returns-then-at-len-clause-making
returns-then-at-len-clause-making g c = c.in_ok-making.ensures.making c.args.budget

pub returns-then-at-len-clause-searched : goal.returns-then-at-len-clause-searched
returns-then-at-len-clause-searched g c = unshown_made _ _ c.args.budget _ c.in_ok-making.ensures.unshown
