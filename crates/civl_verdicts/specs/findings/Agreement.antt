-- What two surveys of one program may say: nothing against each other. Where one leaves open what the search for an initial store or
-- for violating values comes to, the other may say anything.
use Rattle.std.specs.Prelude.{List, [], ◌∷◌, None, Some, ⊤}
use Rattle.civl_verdicts.specs.declared.survey.Found.{Found}
use Rattle.civl_verdicts.specs.declared.survey.Found.TheVariants.{Holds, Fails, Undecided}
use Rattle.civl_verdicts.specs.declared.survey.Survey.{Survey}
use Rattle.civl_verdicts.specs.declared.survey.Survey.TheVariants.{NoInitial, Findings}

-- not one that the condition holds, and the other that it fails
abbrev pub Agree : Found → Found → Type 0
Agree Holds Holds = ⊤
Agree Holds (Fails counter) = ⊥
Agree Holds (Undecided log) = ⊤
Agree (Fails counter) Holds = ⊥
Agree (Fails counter) (Fails other) = ⊤
Agree (Fails counter) (Undecided log) = ⊤
Agree (Undecided log) found = ⊤

-- in each place
abbrev pub AllAgree : List Found → List Found → Type 0
AllAgree [] [] = ⊤
AllAgree [] (found ∷ others) = ⊥
AllAgree (found ∷ others) [] = ⊥
AllAgree (found ∷ others) (other ∷ more) = Agree found other × AllAgree others more

-- not one that some store is initial, and the other that none is; and they agree on each condition
abbrev pub SurveysAgree : Survey → Survey → Type 0
SurveysAgree NoInitial NoInitial = ⊤
SurveysAgree NoInitial (Findings None findings) = ⊥
SurveysAgree NoInitial (Findings (Some log) findings) = ⊤
SurveysAgree (Findings None findings) NoInitial = ⊥
SurveysAgree (Findings (Some log) findings) NoInitial = ⊤
SurveysAgree (Findings initial findings) (Findings other found) = AllAgree findings found
