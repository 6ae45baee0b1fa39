-- What is found of a program and an outline of its topmost program, under a budget of learned clauses for each search.
use Rattle.std.specs.Prelude.{◌≡◌, ℕ, ◌+◌, List, None, Some, ⊤}
use Rattle.civl_tree.specs.declared.program.Program.{Program}
use Rattle.civl_outlines.specs.declared.outline.Outline.{Outline}
use Rattle.civl_conditions.specs.Weights.{heavy}
use Rattle.civl_verdicts.specs.declared.verdict.Verdict.{Verdict}
use Rattle.civl_verdicts.specs.declared.verdict.Verdict.TheVariants.{Accepted, Rejected, Undecided, NoInitial}
use Rattle.civl_verdicts.specs.Verdicts.{IsVerdict}
use Rattle.civl_goals.specs.Weights.{heavy as heavy_goal}
use Rattle.civl_outlined.specs.Outlined.{Fits, IsFault}
use Rattle.civl_outlined.specs.declared.answer.OutlineFault.TheVariants as fault
use Rattle.civl_prove.specs.Proved.{Proves}
use Rattle.civl_portfolio.specs.Prover.{Meanings}
use Rattle.civl_verdicts.specs.decisions.Decided.{WereAsked}
use Rattle.civl_verdicts.specs.judging.Searches.{Searched}
use Rattle.civl_prove.specs.Searches.{SearchesFor, Searched as SearchedGoals}
use Rattle.civl_prove.specs.declared.outline_reports.proving.Proving.{Proving}
use Rattle.civl_prove.specs.declared.outline_reports.proving.Proving.TheVariants.{Note, Roots, Heavy, HeavyGoal, Judged, Decided}

-- nothing refuses them before a search: the outline fits, and neither a formula of the program nor a goal weighs too much
pub record IsReady (program : Program) (outline : Outline) : Type 0 where
  pub fits : Fits program outline
  pub light : heavy program ≡ None
  pub light_goals : heavy_goal program outline ≡ None

-- any verdict but acceptance
abbrev pub IsNoAcceptance : Verdict → Type 0
IsNoAcceptance (Accepted count) = ⊥
IsNoAcceptance (Rejected counter) = ⊤
IsNoAcceptance (Undecided formula log) = ⊤
IsNoAcceptance NoInitial = ⊤

-- This hold or note is the first that doesn't fit; else this is the first place at which the topmost program calls a root or runs
-- another procedure; else this formula of the program is the first that weighs too much; else this goal is. Where nothing refuses
-- them, this is the verdict on the program, if it isn't accepted; and if it is, with so many conditions, this is found of the goals.
abbrev pub IsProving : Program → Outline → ℕ → Proving → Type 0
IsProving program outline budget (Note number) = IsFault program outline (fault.Note number)
IsProving program outline budget (Roots item statement) = IsFault program outline (fault.Roots item statement)
IsProving program outline budget (Heavy first) = Fits program outline × (heavy program ≡ Some first)
IsProving program outline budget (HeavyGoal goal) = (heavy program ≡ None) × IsFault program outline (fault.Heavy goal)
IsProving program outline budget (Judged verdict) = IsReady program outline × IsVerdict program budget verdict × IsNoAcceptance verdict
IsProving program outline budget (Decided count proved) = IsReady program outline × IsVerdict program budget (Accepted count) × Proves program outline budget proved

-- Where they are refused the provers are as they were. Else they were asked in as many rounds as searches were made: for the verdict,
-- and behind acceptance, which takes one search more than there are conditions, for the goals.
abbrev pub SearchedBy : {B : Type 0} → Program → Outline → Proving → ℕ → List B → List B → Meanings B → Type 0
SearchedBy program outline (Note number) budget before after m = after ≡ before
SearchedBy program outline (Roots item statement) budget before after m = after ≡ before
SearchedBy program outline (Heavy first) budget before after m = after ≡ before
SearchedBy program outline (HeavyGoal goal) budget before after m = after ≡ before
SearchedBy program outline (Judged verdict) budget before after m = Searched program verdict budget before after m
SearchedBy program outline (Decided count proved) budget before after m = (goals : ℕ) × SearchesFor program outline proved goals × WereAsked before after (count + 1 + goals) budget m

-- serves private functions: so many conditions hold, and the provers were asked about the goals
abbrev pub GoalsSearchedBy : {B : Type 0} → Program → Outline → ℕ → Proving → ℕ → List B → List B → Meanings B → Type 0
GoalsSearchedBy program outline count (Decided other proved) budget before after m = (other ≡ count) × SearchedGoals program outline proved budget before after m
GoalsSearchedBy program outline count _ budget before after m = ⊥

-- serves private functions: nothing is searched
abbrev pub IsRefusal : Proving → Type 0
IsRefusal (Judged verdict) = ⊥
IsRefusal (Decided count proved) = ⊥
IsRefusal _ = ⊤
