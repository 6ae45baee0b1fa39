-- What `proof make` and `proof replay` tell where they are done.
use Rattle.std.specs.Prelude.{IsTrue}
use Rattle.std.proofs.Common.{◌≡◌, ◌∙◌, ℕ, List, refl, sym, ap, subst, Option}
use Rattle.civl_tree.specs.SpellingDomain.{allows_program}
use Rattle.civl_tree.specs.declared.program.Program.{Program}
use Rattle.civl_cnf.specs.Literal.{Literal}
use Rattle.civl_cnf.specs.ClauseSet.{ClauseSet}
use Rattle.civl_rup.specs.Rup.{IsUnsatisfiable}
use Rattle.civl_rup.specs.declared.answer.Replay.{Replay}
use Rattle.civl_rup.specs.declared.answer.Replay.TheVariants.{Refutes}
use Rattle.civl_conditions.specs.declared.condition.Condition.{Condition}
use Rattle.civl_certify.specs.declared.certified.Shown.{Shown as ShownOf}
use Rattle.civl_certify.specs.declared.certified.Shown.TheVariants.{Holds}
use Rattle.civl_certify.specs.declared.certified.Certified.TheVariants.{NoInitial, Answer}
use Rattle.civl_certify.specs.declared.proof_reports.making.Making.{Making}
use Rattle.civl_certify.specs.declared.proof_reports.making.Making.TheVariants.{Heavy, Beyond, Shown}
use Rattle.civl_certify.specs.declared.proof_reports.replaying.Replaying.{Replaying}
use Rattle.civl_certify.specs.declared.proof_reports.replaying.Replaying.TheVariants.{Unread, Read}
use Rattle.civl_certify.specs.proof_reports.Making.{IsMaking, IsShownAt}
use Rattle.civl_certify.specs.proof_reports.Replaying.{IsReplaying}
use Rattle.civl_certify.specs.proof_reports.Reports.{making_text}
use Rattle.civl_certify.specs.proof_reports.Laws.{StandsAlone}
use Rattle.civl_certify.proofs.proof_reports.Alone.{printed_stands_alone, refuted_is_unsatisfiable}
use Rattle.civl_frontend.specs.Texts.{SpellsProgram}
use Rattle.civl_frontend.specs.declared.status.Status.TheVariants.{Done, Refused}
use Rattle.civl_frontend.proofs.Lawful.{text_written}
use Rattle.civl_command.specs.Outcome.{Outcome, Asked, Replayed, FindsReplayed, making_status, replaying_status, report_of, status_of}
use Rattle.civl_command.specs.Statuses.{Certifies, IsReplayed}
use Rattle.civl_command.proofs.Ways.{IsAsked}

done_refused : Done ≡ Refused → ⊥
done_refused e = cc

-- ---- `proof make`

-- the report of a condition that holds stands alone
alone_at : (program : Program) (budget at : ℕ) (condition : Condition) (initial : Option (List (List Literal))) (shown : ShownOf) (set : ClauseSet) (log : List (List Literal)) → IsTrue (allows_program program)
    → IsShownAt program budget at condition (Answer initial shown) → shown ≡ Holds set log → StandsAlone program condition set log (making_text program budget at (Shown condition (Answer initial shown)))
alone_at program budget at condition initial shown set log written right e =
    subst (λ (s : ShownOf). IsShownAt program budget at condition (Answer initial s) → StandsAlone program condition set log (making_text program budget at (Shown condition (Answer initial s)))) (sym e)
    (λ h. printed_stands_alone program budget at condition initial set log written h) right

pub record IsCertifying (input : List ℕ) (at budget : ℕ) (outcome : Outcome) : Type 0 where
  pub program : Program
  pub condition : Condition
  pub initial : Option (List (List Literal))
  pub shown : ShownOf
  pub certifies : Certifies input at budget program condition initial shown (making_text program budget at (Shown condition (Answer initial shown)))
  pub report_is : report_of outcome ≡ making_text program budget at (Shown condition (Answer initial shown))

module _ (input : List ℕ) (at budget : ℕ) (outcome : Outcome) (program : Program) (spells : SpellsProgram input program) (asked : IsAsked at budget program outcome) where
  of_shown : (condition : Condition) (initial : Option (List (List Literal))) (shown : ShownOf) → IsShownAt program budget at condition (Answer initial shown)
      → outcome ≡ Asked program at budget (Shown condition (Answer initial shown)) → IsCertifying input at budget outcome
  of_shown condition initial shown right same =
      let written = text_written input program spells in
      record {
        program = program;
        condition = condition;
        initial = initial;
        shown = shown;
        certifies = record {
          spelled = record { spells = spells; taken = record { rules = asked.rules; light = right.light } };
          found = right;
          alone = λ set log e. alone_at program budget at condition initial shown set log written right e;
          refutes = λ set log e short.
              record { short = short; replaying_ = Read Refutes; is = (alone_at program budget at condition initial shown set log written right e).replayed; outcome_is = refl };
        };
        report_is = ap report_of same;
      }

  of_making : (m : Making) → IsMaking program budget at m → outcome ≡ Asked program at budget m → Done ≡ making_status m → IsCertifying input at budget outcome
  of_making (Heavy first) right same done = absurd (done_refused done)
  of_making (Beyond count) right same done = absurd (done_refused done)
  of_making (Shown condition NoInitial) right same done = absurd (done_refused done)
  of_making (Shown condition (Answer initial shown)) right same done = of_shown condition initial shown right same

  pub certifying : Done ≡ status_of outcome → IsCertifying input at budget outcome
  certifying done = of_making asked.making asked.right asked.is (done ∙ ap status_of asked.is)

-- ---- `proof replay`

pub record IsReplayedAs (input : List ℕ) (outcome : Outcome) : Type 0 where
  pub set : ClauseSet
  pub log : List (List Literal)
  pub found : Replay
  pub replayed : IsReplayed input set log found
  pub is : outcome ≡ Replayed (Read found)

sound_as : (input : List ℕ) (set : ClauseSet) (log : List (List Literal)) (found : Replay) (h : IsReplaying input (Read found)) → h.0 ≡ set → found ≡ Refutes → IsUnsatisfiable set.clauses
sound_as input set log found h same e =
    let whole : IsReplaying input (Read Refutes) = subst (λ (r : Replay). IsReplaying input (Read r)) e h in
    subst (λ (s : ClauseSet). IsUnsatisfiable s.clauses) same (refuted_is_unsatisfiable input h.0 h.1 whole h.2)

of_replaying : (input : List ℕ) (outcome : Outcome) (r : Replaying) → IsReplaying input r → outcome ≡ Replayed r → Done ≡ replaying_status r → IsReplayedAs input outcome
of_replaying input outcome (Unread place) h same done = absurd (done_refused done)
of_replaying input outcome (Read found) h same done = record {
  set = h.0;
  log = h.1;
  found = found;
  replayed = record { certificate = h.2; replay = h.3; sound = λ e. sound_as input h.0 h.1 found h refl e };
  is = same;
}

pub replayed_as : (input : List ℕ) (outcome : Outcome) → FindsReplayed input outcome → Done ≡ status_of outcome → IsReplayedAs input outcome
replayed_as input outcome f done = of_replaying input outcome f.replaying_ f.is f.outcome_is (done ∙ ap status_of f.outcome_is)
