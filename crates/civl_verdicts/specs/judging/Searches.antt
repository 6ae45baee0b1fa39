-- How often the provers were asked on the way to a verdict: once for the initial store, and once for each condition up to the
-- verdict's.
use Rattle.std.specs.Prelude.{◌≡◌, ℕ, ◌+◌, List, None, Some, length, ⊤}
use Rattle.civl_tree.specs.declared.program.Program.{Program}
use Rattle.civl_portfolio.specs.Prover.{Meanings}
use Rattle.civl_verdicts.specs.decisions.Decided.{WereAsked}
use Rattle.civl_conditions.specs.declared.condition.Condition.{Condition}
use Rattle.civl_verdicts.specs.declared.verdict.Verdict.{Verdict}
use Rattle.civl_verdicts.specs.declared.verdict.Verdict.TheVariants.{Accepted, Rejected, Undecided, NoInitial}
use Rattle.civl_conditions.specs.Listed.{conditions}
use Rattle.civl_verdicts.specs.declared.survey.Survey.{Survey}
use Rattle.civl_verdicts.specs.declared.survey.Survey.TheVariants.{NoInitial as Nothing, Findings}
use Rattle.civl_verdicts.specs.Verdicts.{IsReached}
use Rattle.civl_weights.specs.declared.answer.TooMuch.{TooMuch}
use Rattle.civl_weights.specs.declared.answer.TooMuch.TheVariants.{Weight, Memory}

-- so many searches come up to this condition
abbrev pub SearchesTo : Program → Condition → ℕ → Type 0
SearchesTo program condition count = (place : ℕ) × IsReached program condition place × (count ≡ place + 2)

-- so many searches were made
abbrev pub SearchesFor : Program → Verdict → ℕ → Type 0
SearchesFor program (Accepted conditions) count = count ≡ conditions + 1
SearchesFor program (Rejected counter) count = SearchesTo program counter.condition count
SearchesFor program (Undecided None log) count = count ≡ 1
SearchesFor program (Undecided (Some condition) log) count = SearchesTo program condition count
SearchesFor program NoInitial count = count ≡ 1

-- the provers were asked in as many rounds as searches were made
abbrev pub Searched : {B : Type 0} → Program → Verdict → ℕ → List B → List B → Meanings B → Type 0
Searched program verdict budget before after m = (count : ℕ) × SearchesFor program verdict count × WereAsked before after count budget m

-- the same of the searches behind the one for the initial store
abbrev pub SearchedOn : {B : Type 0} → Program → Verdict → ℕ → List B → List B → Meanings B → Type 0
SearchedOn program verdict budget before after m = (count : ℕ) × SearchesFor program verdict (count + 1) × WereAsked before after count budget m

-- ---- a survey

-- one search for the initial store, and then one for each condition
abbrev pub SearchesOf : Program → Survey → ℕ → Type 0
SearchesOf program Nothing count = count ≡ 1
SearchesOf program (Findings initial findings) count = count ≡ length (conditions program) + 1

-- the provers were asked in as many rounds as searches were made
abbrev pub SurveyedBy : {B : Type 0} → Program → Survey → ℕ → List B → List B → Meanings B → Type 0
SurveyedBy program survey budget before after m = (count : ℕ) × SearchesOf program survey count × WereAsked before after count budget m

-- ---- refusals

-- where a formula weighs too much, which is found before any search, the provers are as they were
abbrev pub UnaskedWhereHeavy : {B : Type 0} → List B → List B → TooMuch → Type 0
UnaskedWhereHeavy before after (Weight first) = after ≡ before
UnaskedWhereHeavy before after Memory = ⊤
