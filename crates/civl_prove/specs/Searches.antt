-- How often the provers were asked: once for each goal up to the last that was decided or tried.
use Rattle.std.specs.Prelude.{◌≡◌, ℕ, ◌+◌, List, ⊤}
use Rattle.civl_tree.specs.declared.program.Program.{Program}
use Rattle.civl_outlines.specs.declared.outline.Outline.{Outline}
use Rattle.civl_portfolio.specs.Prover.{Meanings}
use Rattle.civl_goals.specs.declared.goal.Goal.{Goal}
use Rattle.civl_verdicts.specs.decisions.Decided.{WereAsked}
use Rattle.civl_outlined.specs.declared.answer.OutlineFault.{OutlineFault}
use Rattle.civl_outlined.specs.declared.answer.OutlineFault.TheVariants.{Note, Roots, Heavy, Memory}
use Rattle.civl_prove.specs.declared.proved.Proved.{Proved}
use Rattle.civl_prove.specs.declared.proved.Proved.TheVariants.{All, Fails, Undecided}
use Rattle.civl_prove.specs.Proved.{IsReached}

-- so many searches come up to this goal
abbrev pub SearchesTo : Program → Outline → Goal → ℕ → Type 0
SearchesTo program outline goal count = (place : ℕ) × IsReached program outline goal place × (count ≡ place + 1)

-- so many searches were made
abbrev pub SearchesFor : Program → Outline → Proved → ℕ → Type 0
SearchesFor program outline (All goals) count = count ≡ goals
SearchesFor program outline (Fails goal values) count = SearchesTo program outline goal count
SearchesFor program outline (Undecided goal log) count = SearchesTo program outline goal count

-- the provers were asked in as many rounds as searches were made
abbrev pub Searched : {B : Type 0} → Program → Outline → Proved → ℕ → List B → List B → Meanings B → Type 0
Searched program outline proved budget before after m = (count : ℕ) × SearchesFor program outline proved count × WereAsked before after count budget m

-- what refuses an outline is found before any search: the provers are as they were, unless memory is wanting
abbrev pub UnaskedWhereRefused : {B : Type 0} → List B → List B → OutlineFault → Type 0
UnaskedWhereRefused before after (Note number) = after ≡ before
UnaskedWhereRefused before after (Roots item statement) = after ≡ before
UnaskedWhereRefused before after (Heavy goal) = after ≡ before
UnaskedWhereRefused before after Memory = ⊤
