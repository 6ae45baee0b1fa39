-- What follows from the definitions: each program has a survey, and its surveys agree.
use Rattle.std.specs.Prelude.{ℕ, IsTrue, All}
use Rattle.civl_tree.specs.declared.program.Program.{Program}
use Rattle.civl_tree.specs.rules.Rules.{Keeps}
use Rattle.civl_tree.specs.rules.Typing.{typing_rules}
use Rattle.civl_firing.specs.values.Values.{is_sort}
use Rattle.civl_conditions.specs.declared.condition.Condition.{Condition}
use Rattle.civl_states.specs.Formulas.{sorts_of}
use Rattle.civl_verdicts.specs.declared.survey.Survey.{Survey}
use Rattle.civl_verdicts.specs.Surveys.{IsSurvey}
use Rattle.civl_verdicts.specs.findings.Agreement.{SurveysAgree}

-- the variables of each condition have sorts within the limits
abbrev pub VariablesHaveSorts : Type 0
VariablesHaveSorts = (program : Program) (condition : Condition) → Keeps typing_rules program → All (λ s. IsTrue (is_sort s)) (sorts_of program condition)

abbrev pub EachProgramHasASurvey : Type 0
EachProgramHasASurvey = (program : Program) (budget : ℕ) → Keeps typing_rules program → (survey : Survey) × IsSurvey program budget survey

abbrev pub SurveysOfOneAgree : Type 0
SurveysOfOneAgree = (program : Program) (budget limit : ℕ) (first second : Survey) → IsSurvey program budget first → IsSurvey program limit second → SurveysAgree first second
