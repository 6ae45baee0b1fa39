-- What `prove` tells where it isn't refused.
use Rattle.std.specs.Prelude.{Contains}
use Rattle.std.proofs.Common.{◌≡◌, ◌∙◌, ℕ, ◌+◌, ◌≤◌, ◌⊎◌, inl, inr, List, length, refl, sym, ap, arith, Option}
use Rattle.std.proofs.lemmas.Option.{slice_get_read}
use Rattle.civl_bits.specs.declared.value.Value.{Value}
use Rattle.civl_cnf.specs.Literal.{Literal}
use Rattle.civl_tree.specs.declared.program.Program.{Program}
use Rattle.civl_conditions.specs.declared.condition.Condition.{Condition}
use Rattle.civl_verdicts.specs.declared.verdict.Counter.{Counter}
use Rattle.civl_verdicts.specs.declared.verdict.Verdict.{Verdict}
use Rattle.civl_verdicts.specs.declared.verdict.Verdict.TheVariants as verdict
use Rattle.civl_verdicts.specs.Verdicts.{IsVerdict}
use Rattle.civl_verdicts.specs.verdict_reports.Verdicts.{rejected_text, undecided_text}
use Rattle.civl_outlines.specs.declared.outline.Outline.{Outline}
use Rattle.civl_goals.specs.declared.goal.Goal.{Goal}
use Rattle.civl_goals.specs.Listed.{goals}
use Rattle.civl_goals.specs.GoalHolds.{GoalHolds}
use Rattle.civl_safety.specs.Outlined.{IsOutlined}
use Rattle.civl_safety.specs.Safe.{LowestIsSafe}
use Rattle.civl_prove.specs.declared.proved.Proved.TheVariants.{All, Fails, Undecided as LeftOpen}
use Rattle.civl_prove.specs.Proved.{HoldUpTo, Proves as ProvesGoals}
use Rattle.civl_prove.specs.declared.outline_reports.proving.Proving.{Proving}
use Rattle.civl_prove.specs.declared.outline_reports.proving.Proving.TheVariants.{Note, Roots, Heavy, HeavyGoal, Judged, Decided}
use Rattle.civl_prove.specs.outline_reports.Proving.{IsReady, IsNoAcceptance, IsProving}
use Rattle.civl_prove.specs.outline_reports.Reports.{safe_text, unproved_text, open_text}
use Rattle.civl_frontend.specs.Texts.{SpellsOutline, limit}
use Rattle.civl_frontend.specs.Status.{verdict_status}
use Rattle.civl_frontend.specs.declared.status.Status.TheVariants.{Done, Rejected, Undecided}
use Rattle.civl_frontend.proofs.Accepting.{accepted_by}
use Rattle.civl_command.specs.Outcome.{Outcome, Proven, proving_status, status_of, report_of}
use Rattle.civl_command.specs.Statuses.{SpellsReady, IsSafe, AcceptsOutlined, RejectsOutlined, Unproves, LeavesOpenOutlined, LeavesGoalOpen}
use Rattle.civl_command.proofs.Outlining.{outline_numbered, outline_written}
use Rattle.civl_command.proofs.Ways.{IsProven}

-- what is told on Done
pub record ShowsSafe (input : List ℕ) (outcome : Outcome) : Type 0 where
  pub outline : Outline
  pub count : ℕ
  pub safe : IsSafe input outline count
  pub report_is : report_of outcome ≡ safe_text count

-- on Rejected: of a condition, or of a goal
pub record ShowsRejected (input : List ℕ) (outcome : Outcome) : Type 0 where
  pub outline : Outline
  pub counter : Counter
  pub rejects : RejectsOutlined input outline counter
  pub report_is : report_of outcome ≡ rejected_text outline.program counter

pub record ShowsUnproved (input : List ℕ) (outcome : Outcome) : Type 0 where
  pub outline : Outline
  pub goal : Goal
  pub values : List Value
  pub unproves : Unproves input outline goal values
  pub report_is : report_of outcome ≡ unproved_text outline.program goal values

-- on Undecided: of a search for `check`, or of a goal
pub record ShowsUndecided (input : List ℕ) (budget : ℕ) (outcome : Outcome) : Type 0 where
  pub outline : Outline
  pub formula : Option Condition
  pub log : List (List Literal)
  pub leaves : LeavesOpenOutlined input budget outline formula log
  pub report_is : report_of outcome ≡ undecided_text outline.program formula budget

pub record ShowsOpen (input : List ℕ) (budget : ℕ) (outcome : Outcome) : Type 0 where
  pub outline : Outline
  pub goal : Goal
  pub log : List (List Literal)
  pub leaves : LeavesGoalOpen input budget outline goal log
  pub report_is : report_of outcome ≡ open_text outline.program goal budget

-- no verdict but acceptance is Done
never_done : (v : Verdict) → IsNoAcceptance v → Done ≡ verdict_status v → ⊥
never_done (verdict.Accepted count) not same = not
never_done (verdict.Rejected counter) not same = cc
never_done (verdict.Undecided formula log) not same = cc
never_done verdict.NoInitial not same = cc

all_hold : (program : Program) (outline : Outline) (count : ℕ) → count ≡ length (goals program outline) → HoldUpTo program outline count → (goal : Goal) → Contains (goals program outline) goal → GoalHolds program outline goal
all_hold program outline count counted hold goal listed =
    hold listed.0 goal (omega (arith, counted, listed.1)) (slice_get_read (goals program outline) (length (goals program outline)) listed.0 goal refl listed.1 (sym listed.2))

module _ (input : List ℕ) (budget : ℕ) (outcome : Outcome) (outline : Outline) (short : length input ≤ limit) (spells : SpellsOutline input outline) (p : IsProven budget outline outcome) where
  ready : IsReady outline.program outline → SpellsReady input outline
  ready is = record { spells = spells; rules = p.rules; ready = is }

  accepted : IsReady outline.program outline → (count : ℕ) → IsVerdict outline.program budget (verdict.Accepted count) → AcceptsOutlined input outline
  accepted is count right = record { spelled = ready is; initial = right.0; hold = right.1 }

  report_as : (f : Proving) → outcome ≡ Proven outline budget f → report_of outcome ≡ report_of (Proven outline budget f)
  report_as f is = ap report_of is

  -- ---- Done

  module _ (law : LowestIsSafe) where
    safe_so : (count number : ℕ) → IsReady outline.program outline → IsVerdict outline.program budget (verdict.Accepted count) → ProvesGoals outline.program outline budget (All number)
        → outcome ≡ Proven outline budget (Decided count (All number)) → ShowsSafe input outcome
    safe_so count number is right proves same =
        let accepts = accepted_by outline.program (outline_written input outline spells) (outline_numbered input outline spells short) p.rules right.1 in
        let outlined : IsOutlined outline.program outline = record { fits = is.fits.notes; flat = is.fits.roots; hold = all_hold outline.program outline number proves.0 proves.1 } in
        record {
          outline = outline;
          count = count + number;
          safe = record {
            spelled = ready is;
            initial = right.0;
            safe = λ store initial fails. law outline.program outline store accepts outlined initial fails;
            hold = right.1;
            outlined = outlined;
            count_is = omega (arith, right.2, proves.0);
          };
          report_is = report_as (Decided count (All number)) same;
        }

    safe_by : (f : Proving) → IsProving outline.program outline budget f → outcome ≡ Proven outline budget f → Done ≡ proving_status f → ShowsSafe input outcome
    safe_by (Note number) right is same = absurd cc
    safe_by (Roots item statement) right is same = absurd cc
    safe_by (Heavy first) right is same = absurd cc
    safe_by (HeavyGoal goal) right is same = absurd cc
    safe_by (Judged v) right is same = absurd (never_done v right.2 same)
    safe_by (Decided count (All number)) right is same = safe_so count number right.0 right.1 right.2 is
    safe_by (Decided count (Fails goal values)) right is same = absurd cc
    safe_by (Decided count (LeftOpen goal log)) right is same = absurd cc

    pub shown_safe : Done ≡ status_of outcome → ShowsSafe input outcome
    shown_safe done = safe_by p.found p.right p.is (done ∙ ap status_of p.is)

  -- ---- Rejected

  rejected_verdict : (v : Verdict) → IsReady outline.program outline → IsVerdict outline.program budget v → outcome ≡ Proven outline budget (Judged v) → Rejected ≡ verdict_status v → ShowsRejected input outcome
  rejected_verdict (verdict.Accepted count) is right same status = absurd cc
  rejected_verdict (verdict.Rejected counter) is right same status = record {
    outline = outline;
    counter = counter;
    rejects = record { spelled = ready is; place = right.0.0; reached = right.0.1; violates = right.1 };
    report_is = report_as (Judged (verdict.Rejected counter)) same;
  }
  rejected_verdict (verdict.Undecided formula log) is right same status = absurd cc
  rejected_verdict verdict.NoInitial is right same status = absurd cc

  rejected_by : (f : Proving) → IsProving outline.program outline budget f → outcome ≡ Proven outline budget f → Rejected ≡ proving_status f → ShowsRejected input outcome ⊎ ShowsUnproved input outcome
  rejected_by (Note number) right is same = absurd cc
  rejected_by (Roots item statement) right is same = absurd cc
  rejected_by (Heavy first) right is same = absurd cc
  rejected_by (HeavyGoal goal) right is same = absurd cc
  rejected_by (Judged v) right is same = inl (rejected_verdict v right.0 right.1 is same)
  rejected_by (Decided count (All number)) right is same = absurd cc
  rejected_by (Decided count (Fails goal values)) right is same = inr (record {
    outline = outline;
    goal = goal;
    values = values;
    unproves = record { accepted = accepted right.0 count right.1; place = right.2.0.0; reached = right.2.0.1; fails = right.2.1 };
    report_is = report_as (Decided count (Fails goal values)) is;
  })
  rejected_by (Decided count (LeftOpen goal log)) right is same = absurd cc

  pub shown_rejected : Rejected ≡ status_of outcome → ShowsRejected input outcome ⊎ ShowsUnproved input outcome
  shown_rejected status = rejected_by p.found p.right p.is (status ∙ ap status_of p.is)

  -- ---- Undecided

  undecided_verdict : (v : Verdict) → IsReady outline.program outline → IsVerdict outline.program budget v → outcome ≡ Proven outline budget (Judged v) → Undecided ≡ verdict_status v → ShowsUndecided input budget outcome
  undecided_verdict (verdict.Accepted count) is right same status = absurd cc
  undecided_verdict (verdict.Rejected counter) is right same status = absurd cc
  undecided_verdict (verdict.Undecided formula log) is right same status = record {
    outline = outline;
    formula = formula;
    log = log;
    leaves = record { spelled = ready is; undecided = right };
    report_is = report_as (Judged (verdict.Undecided formula log)) same;
  }
  undecided_verdict verdict.NoInitial is right same status = absurd cc

  undecided_by : (f : Proving) → IsProving outline.program outline budget f → outcome ≡ Proven outline budget f → Undecided ≡ proving_status f → ShowsUndecided input budget outcome ⊎ ShowsOpen input budget outcome
  undecided_by (Note number) right is same = absurd cc
  undecided_by (Roots item statement) right is same = absurd cc
  undecided_by (Heavy first) right is same = absurd cc
  undecided_by (HeavyGoal goal) right is same = absurd cc
  undecided_by (Judged v) right is same = inl (undecided_verdict v right.0 right.1 is same)
  undecided_by (Decided count (All number)) right is same = absurd cc
  undecided_by (Decided count (Fails goal values)) right is same = absurd cc
  undecided_by (Decided count (LeftOpen goal log)) right is same = inr (record {
    outline = outline;
    goal = goal;
    log = log;
    leaves = record { accepted = accepted right.0 count right.1; place = right.2.0.0; reached = right.2.0.1; spent = right.2.1 };
    report_is = report_as (Decided count (LeftOpen goal log)) is;
  })

  pub shown_undecided : Undecided ≡ status_of outcome → ShowsUndecided input budget outcome ⊎ ShowsOpen input budget outcome
  shown_undecided status = undecided_by p.found p.right p.is (status ∙ ap status_of p.is)
