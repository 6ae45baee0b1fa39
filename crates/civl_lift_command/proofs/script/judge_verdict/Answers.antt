use Rattle.std.proofs.Common.{refl, sym, subst}
use Rattle.civl_verdicts.specs.declared.verdict.Verdict.{Verdict}
use Rattle.civl_verdicts.specs.Verdicts.{IsVerdict}
use Rattle.civl_frontend.proofs.Telling.{of_one}
use Rattle.civl_lift_command.specs.Outcome.{Judged, IsNotAccepted, Lifts, telling}
use Rattle.civl_lift_command.proofs.Raising.{sound_by, accepted_of}
use Rattle.civl_lift_command.proofs.script.judge_verdict.Goals as goal

pub judge_accepted-requires-clause-accepted : goal.judge_accepted-requires-clause-accepted
judge_accepted-requires-clause-accepted c = accepted_of c.args.src.now c.args.budget _ c.requires.taken (subst (λ (v : Verdict). IsVerdict c.args.src.now c.args.budget v) c.in-Accepted.is c.requires.verdict)

pub judge_accepted-requires-clause-sound : goal.judge_accepted-requires-clause-sound
judge_accepted-requires-clause-sound c =
    sound_by c.args.src.now c.requires.written c.requires.numbered
    (accepted_of c.args.src.now c.args.budget _ c.requires.taken (subst (λ (v : Verdict). IsVerdict c.args.src.now c.args.budget v) c.in-Accepted.is c.requires.verdict))

pub returns-in-Rejected : goal.returns-in-Rejected
returns-in-Rejected c =
    of_one telling _ _ (Lifts c.args.budget (record { program = c.args.src.now; store = c.args.store.now; moves = c.args.moves.now })) (Judged c.args.src.now c.args.budget c.args.verdict.now)
    (refl, refl, c.requires.taken, c.requires.verdict, subst IsNotAccepted (sym c.in-Rejected.is) tt) c.decided.ensures

pub returns-in-Undecided : goal.returns-in-Undecided
returns-in-Undecided c =
    of_one telling _ _ (Lifts c.args.budget (record { program = c.args.src.now; store = c.args.store.now; moves = c.args.moves.now })) (Judged c.args.src.now c.args.budget c.args.verdict.now)
    (refl, refl, c.requires.taken, c.requires.verdict, subst IsNotAccepted (sym c.in-Undecided.is) tt) c.decided-in-Undecided.ensures

pub returns-in-NoInitial : goal.returns-in-NoInitial
returns-in-NoInitial c =
    of_one telling _ _ (Lifts c.args.budget (record { program = c.args.src.now; store = c.args.store.now; moves = c.args.moves.now })) (Judged c.args.src.now c.args.budget c.args.verdict.now)
    (refl, refl, c.requires.taken, c.requires.verdict, subst IsNotAccepted (sym c.in-NoInitial.is) tt) c.decided-in-NoInitial.ensures
