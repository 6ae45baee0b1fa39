-- No line of a survey's report begins with `accepted`.
use Rattle.std.specs.Prelude.{map, length, IsTrue, All, codes, decimal}
use Rattle.std.specs.List.{flat_map}
use Rattle.std.proofs.Common.{◌≡◌, ◌∙◌, ℕ, Bool, true, false, List, [], ◌∷◌, ◌++◌, refl, sym, ap, subst, append_assoc, Option, None, Some}
use Rattle.std.proofs.lemmas.List.Elements.{All-head, All-tail}
use Rattle.civl_bits.specs.declared.value.Value.{Value}
use Rattle.civl_bits.specs.declared.value.Value.TheVariants as value
use Rattle.civl_tree.specs.SpellingDomain.{allows_program}
use Rattle.civl_tree.specs.declared.program.Program.{Program}
use Rattle.civl_cnf.specs.Literal.{Literal}
use Rattle.civl_verdicts.specs.models.Text.{bool_text, word_text, listed, value_text}
use Rattle.civl_conditions.specs.declared.condition.Condition.{Condition}
use Rattle.civl_conditions.specs.declared.condition.Variable.{Variable}
use Rattle.civl_conditions.specs.Listed.{conditions}
use Rattle.civl_conditions.specs.Names.{name_text}
use Rattle.civl_conditions.specs.Variables.{variables}
use Rattle.civl_verdicts.specs.declared.survey.Found.{Found}
use Rattle.civl_verdicts.specs.declared.survey.Found.TheVariants.{Holds, Fails, Undecided}
use Rattle.civl_verdicts.specs.declared.survey.Survey.{Survey}
use Rattle.civl_verdicts.specs.declared.survey.Survey.TheVariants.{NoInitial, Findings}
use Rattle.civl_verdicts.specs.reports.Lines.{line}
use Rattle.civl_verdicts.specs.reports.Values.{value_line, value_lines}
use Rattle.civl_verdicts.specs.reports.Findings.{initial_line, found_lines, findings_lines, how_many, count_line, survey_text}
use Rattle.civl_verdicts.specs.reports.Laws.{NeverAccepts}
use Rattle.civl_verdicts.specs.declared.reports.counting.Kind.TheVariants as kind
use Rattle.civl_verdicts.proofs.reports.Scanning.{IsQuiet, quiet_none, quiet_append, quiet_line, quiet_counted, IsClean, clean_by, joined, decimal_mild, decimal_clean, no_such_line}
use Rattle.civl_verdicts.proofs.reports.Written.{IsNamed, name_named, variables_clean}

-- ---- values

bool_clean : (b : Bool) → IsClean (bool_text b)
bool_clean true = clean_by (codes "true") refl
bool_clean false = clean_by (codes "false") refl

word_clean : (width number : ℕ) → IsClean (word_text width number)
word_clean width number = joined (joined (decimal_clean number) (clean_by (codes ":") refl)) (decimal_clean width)

others_clean : (width : ℕ) (cells : List ℕ) → IsClean (flat_map (λ text. codes ", " ++ text) (map (word_text width) cells))
others_clean width [] = clean_by [] refl
others_clean width (c ∷ cs) = joined (joined (clean_by (codes ", ") refl) (word_clean width c)) (others_clean width cs)

cells_clean : (width : ℕ) (cells : List ℕ) → IsClean (listed (map (word_text width) cells))
cells_clean width [] = clean_by [] refl
cells_clean width (c ∷ cs) = joined (word_clean width c) (others_clean width cs)

value_clean : (v : Value) → IsClean (value_text v)
value_clean (value.Bool b) = bool_clean b
value_clean (value.Word w) = word_clean w.0 w.1
value_clean (value.Row r) = joined (joined (clean_by (codes "[") refl) (cells_clean r.width r.cells)) (clean_by (codes "]") refl)

-- ---- lines

value_quiet : (v : Variable) (x : Value) → IsClean v.name.bytes → IsQuiet (value_line (codes "  ") v.name x)
value_quiet v x h =
    quiet_line 32 (codes " " ++ v.name.bytes ++ codes " = " ++ value_text x) refl refl (joined (joined (joined (clean_by (codes " ") refl) h) (clean_by (codes " = ") refl)) (value_clean x))

values_quiet : (vs : List Variable) (xs : List Value) → All (λ (v : Variable). IsClean v.name.bytes) vs → IsQuiet (value_lines (codes "  ") vs xs)
values_quiet [] xs h = quiet_none
values_quiet (v ∷ vs) [] h = quiet_none
values_quiet (v ∷ vs) (x ∷ xs) h =
    let In : Variable → Type 0 = λ u. IsClean u.name.bytes in
    quiet_append (value_line (codes "  ") v.name x) (value_lines (codes "  ") vs xs) (value_quiet v x (All-head In v vs h)) (values_quiet vs xs (All-tail In v vs h))

-- a name, and what is said of it
named_quiet : (text end : List ℕ) → IsNamed text → IsClean end → IsQuiet (text ++ line end)
named_quiet text end n h =
    let line_is : 75 ∷ ((n.rest ++ end) ++ 10 ∷ []) ≡ text ++ line end = ap (λ (xs : List ℕ). 75 ∷ xs) (append_assoc n.rest end (10 ∷ [])) ∙ ap (λ (xs : List ℕ). xs ++ line end) (sym n.is) in
    subst IsQuiet line_is (quiet_line 75 (n.rest ++ end) refl refl (joined n.clean h))

undecided_clean : (budget : ℕ) → IsClean (codes ": undecided after " ++ decimal budget)
undecided_clean budget = joined (clean_by (codes ": undecided after ") refl) (decimal_clean budget)

initial_quiet : (budget : ℕ) (o : Option (List (List Literal))) → IsQuiet (initial_line budget o)
initial_quiet budget None = quiet_line 105 (codes "nitial: found") refl refl (clean_by (codes "nitial: found") refl)
initial_quiet budget (Some log) = quiet_line 105 (codes "nitial: undecided after " ++ decimal budget) refl refl (joined (clean_by (codes "nitial: undecided after ") refl) (decimal_clean budget))

count_quiet : (findings : List Found) → IsQuiet (count_line findings)
count_quiet findings =
    let fail = how_many kind.Fails findings in
    let open_ = how_many kind.Undecided findings in
    quiet_counted (how_many kind.Holds findings) (codes "hold, " ++ fail ++ codes " fail, " ++ open_ ++ codes " undecided") (decimal_mild _)
    (joined (joined (joined (joined (clean_by (codes "hold, ") refl) (decimal_clean _)) (clean_by (codes " fail, ") refl)) (decimal_clean _)) (clean_by (codes " undecided") refl))

module _ (program : Program) (budget : ℕ) (written : IsTrue (allows_program program)) where
  found_quiet : (c : Condition) (found : Found) → IsQuiet (found_lines program budget c found)
  found_quiet c Holds = named_quiet (name_text program c) (codes ": holds") (name_named program written c) (clean_by (codes ": holds") refl)
  found_quiet c (Fails counter) =
      let name = name_text program c in
      let values = value_lines (codes "  ") (variables program c) counter.values in
      subst IsQuiet (append_assoc name (line (codes ": fails")) values)
      (quiet_append (name ++ line (codes ": fails")) values (named_quiet name (codes ": fails") (name_named program written c) (clean_by (codes ": fails") refl)) (values_quiet (variables program c) counter.values (variables_clean program written c)))
  found_quiet c (Undecided log) = named_quiet (name_text program c) (codes ": undecided after " ++ decimal budget) (name_named program written c) (undecided_clean budget)

  findings_quiet : (cs : List Condition) (fs : List Found) → IsQuiet (findings_lines program budget cs fs)
  findings_quiet [] fs = quiet_none
  findings_quiet (c ∷ cs) [] = quiet_none
  findings_quiet (c ∷ cs) (f ∷ fs) = quiet_append (found_lines program budget c f) (findings_lines program budget cs fs) (found_quiet c f) (findings_quiet cs fs)

  survey_quiet : (survey : Survey) → IsQuiet (survey_text program budget survey)
  survey_quiet NoInitial = quiet_line 114 (codes "efused E70 at item " ++ decimal (length program.globals)) refl refl (joined (clean_by (codes "efused E70 at item ") refl) (decimal_clean _))
  survey_quiet (Findings initial findings) =
      quiet_append (initial_line budget initial) _ (initial_quiet budget initial) (quiet_append (findings_lines program budget (conditions program) findings) (count_line findings) (findings_quiet (conditions program) findings) (count_quiet findings))

pub never_accepts : NeverAccepts
never_accepts program budget survey written h = no_such_line (codes "ccepted") (survey_text program budget survey) (survey_quiet program budget written survey) h
