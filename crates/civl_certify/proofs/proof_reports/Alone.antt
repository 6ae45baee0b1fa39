-- What is printed of a condition that holds is a certificate by itself.
use Rattle.std.specs.Prelude.{nat_eq, codes, IsTrue}
use Rattle.std.proofs.Common.{◌≡◌, ◌∙◌, ℕ, ◌+◌, ◌*◌, ◌≤◌, List, [], ◌∷◌, ◌++◌, length, refl, sym, ap, subst, arith, append_assoc, Some}
use Rattle.std.proofs.lemmas.List.{append-nil}
use Rattle.std.proofs.lemmas.List.Elements.{All-from_get_or}
use Rattle.civl_tree.specs.SpellingDomain.{allows_program}
use Rattle.civl_tree.specs.declared.program.Program.{Program}
use Rattle.civl_cnf.specs.Literal.{Literal}
use Rattle.civl_cnf.specs.ClauseSet.{ClauseSet, IsBelow, AreBelow}
use Rattle.civl_rup.specs.Rup.{Refutes, IsUnsatisfiable}
use Rattle.civl_rup.proofs.Replays.{refuted}
use Rattle.civl_proofs.specs.Text.{lines_of, canonical, IsCertificate, MayBeHeld}
use Rattle.civl_proofs.proofs.Words.{onto_parts}
use Rattle.civl_proofs.proofs.Canonical.{canonical_is_read}
use Rattle.civl_proofs.proofs.Outcomes.{one_reading}
use Rattle.civl_conditions.specs.declared.condition.Condition.{Condition}
use Rattle.civl_conditions.specs.Weights.{weight, weight_limit}
use Rattle.civl_verdicts.specs.Formulas.{violation_formula}
use Rattle.civl_verdicts.proofs.judging.Lightness.{conditions_are_light}
use Rattle.civl_verdicts.specs.reports.Findings.{formula_text}
use Rattle.civl_verdicts.proofs.reports.Scanning.{IsClean, clean_by, joined}
use Rattle.civl_verdicts.proofs.reports.Written.{name_named}
use Rattle.civl_certify.specs.Certified.{IsRefutation}
use Rattle.civl_certify.specs.proof_reports.Reports.{certificate_text}
use Rattle.civl_certify.specs.proof_reports.Laws.{PrintedStandsAlone, RefutedIsUnsatisfiable}

-- a comment line at the front of a text
line_first : (comment rest : List ℕ) → IsClean comment → lines_of (comment ++ 10 ∷ rest) ≡ comment ∷ lines_of rest
line_first comment rest h = onto_parts (λ byte. nat_eq byte 10) comment (10 ∷ rest) [] (lines_of rest) h.is refl ∙ ap (λ (xs : List ℕ). xs ∷ lines_of rest) (append-nil comment)

-- a certificate behind a comment line is one of the same
commented : (comment text : List ℕ) (set : ClauseSet) (log : List (List Literal)) → IsClean (99 ∷ comment) → IsCertificate text set log → IsCertificate (99 ∷ comment ++ 10 ∷ text) set log
commented comment text set log clean h = record {
  comments = (99 ∷ comment) ∷ h.comments;
  header = h.header;
  body = h.body;
  rest = h.rest;
  lines = line_first (99 ∷ comment) text clean ∙ ap (λ (ls : List (List ℕ)). (99 ∷ comment) ∷ ls) h.lines;
  only_comments = h.only_comments;
  is_header = h.is_header;
  clauses = h.clauses;
  logged = h.logged;
  held = h.held;
}

name_clean : (program : Program) (condition : Condition) → IsTrue (allows_program program) → IsClean (formula_text program (Some condition))
name_clean program condition written =
    let n = name_named program written condition in
    subst IsClean (sym n.is) (joined {xs = 75 ∷ []} {ys = n.rest} (clean_by (75 ∷ []) refl) n.clean)

-- the log's variables are the clause set's
log_below : (set : ClauseSet) (log : List (List Literal)) → Refutes set log → AreBelow set.variables log
log_below set log h = All-from_get_or (IsBelow set.variables) log [] (λ i l. (h.rup i l).below)

may_be_held : (program : Program) (condition : Condition) (set : ClauseSet) (log : List (List Literal)) → weight program condition ≤ weight_limit → IsRefutation (violation_formula program condition) set log → MayBeHeld set log
may_be_held program condition set log light h =
    let few : set.variables ≤ 16 * weight program condition + 2 = h.stands.few_variables in
    let low : length set.clauses ≤ 8 * set.variables + 2 = h.stands.few_clauses in
    record {
      few_variables = omega (arith, few, light);
      few_clauses = omega (arith, few, low, light);
      below = h.below;
      log_below = log_below set log h.refutes;
    }

printed : (program : Program) (condition : Condition) (set : ClauseSet) (log : List (List Literal)) → IsTrue (allows_program program) → MayBeHeld set log → IsCertificate (certificate_text program condition set log) set log
printed program condition set log written held =
    let name = formula_text program (Some condition) in
    let clean : IsClean (99 ∷ 32 ∷ name) = joined {xs = 99 ∷ 32 ∷ []} {ys = name} (clean_by (99 ∷ 32 ∷ []) refl) (name_clean program condition written) in
    let text : 99 ∷ ((32 ∷ name) ++ 10 ∷ canonical set log) ≡ certificate_text program condition set log = sym (append_assoc (codes "c " ++ name) (10 ∷ []) (canonical set log)) in
    subst (λ (t : List ℕ). IsCertificate t set log) text (commented (32 ∷ name) (canonical set log) set log clean (canonical_is_read set log held))

pub printed_stands_alone : PrintedStandsAlone
printed_stands_alone program budget at condition initial set log written h =
    let refutation : IsRefutation (violation_formula program condition) set log = h.is.1.1 in
    let light = conditions_are_light program h.light at condition h.there in
    let certificate = printed program condition set log written (may_be_held program condition set log light refutation) in
    record {
      certificate = certificate;
      stands = refutation.stands;
      lean = h.lean;
      holds = h.is.1.0;
      replayed = (set, log, certificate, refutation.refutes);
    }

pub refuted_is_unsatisfiable : RefutedIsUnsatisfiable
refuted_is_unsatisfiable text set log h certificate =
    let same = one_reading text h.0 set h.1 log h.2 certificate in
    subst (λ (s : ClauseSet). IsUnsatisfiable s.clauses) same.0 (refuted h.0 h.1 h.3)
