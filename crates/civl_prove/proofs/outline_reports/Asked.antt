-- How often the provers were asked, over a verdict and the goals behind it.
use Rattle.std.specs.Prelude.{Option, None, Some, map}
use Rattle.std.proofs.Common.{◌≡◌, ◌∙◌, ℕ, ◌+◌, List, sym, ap, subst, arith}
use Rattle.civl_portfolio.specs.Prover.{Meanings}
use Rattle.civl_tree.specs.declared.program.Program.{Program}
use Rattle.civl_outlines.specs.declared.outline.Outline.{Outline}
use Rattle.civl_tree.specs.rules.Rules.{Place, first_of}
use Rattle.civl_verdicts.specs.declared.verdict.Verdict.TheVariants.{Accepted}
use Rattle.civl_verdicts.specs.decisions.Decided.{WereAsked}
use Rattle.civl_verdicts.proofs.decisions.Rounds.{asked_on}
use Rattle.civl_verdicts.specs.judging.Searches.{Searched}
use Rattle.civl_goals.specs.declared.goal.Goal.{Goal}
use Rattle.civl_goals.specs.Told.{told}
use Rattle.civl_goals.specs.Weights.{heavy}
use Rattle.civl_outlined.specs.Outlined.{Fits, IsFault}
use Rattle.civl_outlined.specs.declared.answer.OutlineFault.TheVariants as fault
use Rattle.civl_prove.specs.declared.outline_reports.proving.Proving.{Proving}
use Rattle.civl_prove.specs.declared.outline_reports.proving.Proving.TheVariants.{Note, Roots, Heavy, HeavyGoal, Judged, Decided}
use Rattle.civl_prove.specs.outline_reports.Proving.{SearchedBy, GoalsSearchedBy, IsRefusal}

module _ {B : Type 0} (meanings : Meanings B) (program : Program) (outline : Outline) (budget : ℕ) where
  pub searched_on : (count : ℕ) (proving : Proving) (olds mids news : List B) → Searched program (Accepted count) budget olds mids meanings → GoalsSearchedBy program outline count proving budget mids news meanings
      → SearchedBy program outline proving budget olds news meanings
  searched_on count (Note number) olds mids news s g = absurd g
  searched_on count (Roots item statement) olds mids news s g = absurd g
  searched_on count (Heavy first) olds mids news s g = absurd g
  searched_on count (HeavyGoal goal) olds mids news s g = absurd g
  searched_on count (Judged verdict) olds mids news s g = absurd g
  searched_on count (Decided other proved) olds mids news s g =
      let searches : s.0 ≡ other + 1 = omega (arith, s.1, g.0) in
      (g.1.0, g.1.1, asked_on meanings budget olds mids news (other + 1) g.1.0 (subst (λ (n : ℕ). WereAsked olds mids n budget meanings) searches s.2) g.1.2)

  -- where they are refused, nothing is searched
  pub unsearched : (proving : Proving) (olds news : List B) → IsRefusal proving → news ≡ olds → SearchedBy program outline proving budget olds news meanings
  unsearched (Note number) olds news r e = e
  unsearched (Roots item statement) olds news r e = e
  unsearched (Heavy first) olds news r e = e
  unsearched (HeavyGoal goal) olds news r e = e
  unsearched (Judged verdict) olds news r e = absurd r
  unsearched (Decided count proved) olds news r e = absurd r

-- an outline that fits isn't refused, and neither is one none of whose goals weighs too much
module _ (program : Program) (outline : Outline) where
  pub no_note : (number : ℕ) → Fits program outline → IsFault program outline (fault.Note number) → ⊥
  no_note number fits h = let e : None ≡ Some number = ap first_of (sym fits.notes) ∙ h in cc

  pub no_roots : (item statement : ℕ) → Fits program outline → IsFault program outline (fault.Roots item statement) → ⊥
  no_roots item statement fits h = let e : ◌≡◌ {A = Option (ℕ × ℕ)} None (Some (item, statement)) = ap (λ (ps : List Place). first_of (map told ps)) (sym fits.roots) ∙ h.1 in cc

  pub no_heavy : (goal : Goal) → heavy program outline ≡ None → IsFault program outline (fault.Heavy goal) → ⊥
  no_heavy goal light h = let e : None ≡ Some goal = sym light ∙ h.1 in cc
