-- What the paths from a cut begin with and what they come to, as terms.
use Rattle.std.specs.Prelude.{◌≡◌, ℕ, List, All, Some, map, slice_get}
use Rattle.civl_tree.specs.declared.expr.Sort.{Sort}
use Rattle.civl_tree.specs.declared.expr.Sort.TheVariants.{Bool as Truth}
use Rattle.civl_tree.specs.declared.program.Program.{Program}
use Rattle.civl_layers.specs.Cuts.{proc_cuts}
use Rattle.civl_conditions.specs.paths.Paths.{Outcome}
use Rattle.civl_conditions.specs.paths.Ends.{ends_from}
use Rattle.civl_terms.specs.declared.node.Node.{Node}
use Rattle.civl_terms.specs.Graphs.{sort_at}
use Rattle.civl_conditions.specs.Parts.{outcome_of}
use Rattle.civl_conditions.specs.Values.{Begun}
use Rattle.civl_conditions.specs.Variables.{path_variables}
use Rattle.civl_states.specs.formula_parts.Said.{Env}
use Rattle.civl_states.specs.Beginnings.{AreBegun, CanBegin}
use Rattle.civl_body.specs.Walks.{IsWay, CanTake}
use Rattle.civl_refine.specs.declared.start.Start.{Start}
use Rattle.civl_refine.specs.declared.walking.Walked.{Walked}
use Rattle.civl_refine.specs.Failing.{SaysBefore}

-- the start is this cut of this procedure, at this step
pub record StartsAt (program : Program) (step q c : ℕ) (start : Start) : Type 0 where
  pub of : start.program.now ≡ program
  pub at : start.step ≡ step
  pub place : start.number ≡ c
  pub proc : slice_get program.procs q ≡ Some start.proc.now
  pub cut : slice_get (proc_cuts start.proc.now) c ≡ Some start.cut

-- what the path from there comes to
abbrev pub outcome_from : Start → Begun → Outcome
outcome_from start b = outcome_of start.program.now start.step start.proc.now start.cut b

-- the sorts of the variables of the paths from there
abbrev pub sorts_from : Start → List Sort
sorts_from start = map (λ v. v.sort) (path_variables start.program.now start.step start.proc.now start.cut)

-- the terms say this beginning, and what the path from there comes to
pub record IsWalked (ns : List Node) (start : Start) (b : Env → Begun) (walked : Walked) : Type 0 where
  pub begun : AreBegun ns start.program.now start.step start.proc.now start.cut walked.beginning b
  pub before : SaysBefore ns walked.walk (λ env. outcome_from start (b env))
  pub ways : All (IsWay ns start.program.now start.proc.now (λ env. outcome_from start (b env))) walked.walk.ways

-- terms of the sorts that belong there, with one way for each end that some path reaches
pub record CanWalk (ns : List Node) (start : Start) (walked : Walked) : Type 0 where
  pub begins : CanBegin ns start.program.now start.step start.proc.now start.cut walked.beginning
  pub safe : sort_at ns walked.walk.safe ≡ Some Truth
  pub once : sort_at ns walked.walk.once ≡ Some Truth
  pub ways : All (CanTake ns start.program.now start.proc.now) walked.walk.ways
  pub ends : map (λ w. w.end) walked.walk.ways ≡ ends_from start.proc.now start.cut
