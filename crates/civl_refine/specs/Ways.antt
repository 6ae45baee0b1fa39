-- What a part of the condition on paths comes to at the ends of all ways.
use Rattle.std.specs.Prelude.{ℕ, Bool, not, ◌&&◌}
use Rattle.civl_conditions.specs.paths.Paths.{Outcome, progress_of}
use Rattle.civl_conditions.specs.declared.condition.Part.{Part}
use Rattle.civl_conditions.specs.Values.{Begun}
use Rattle.civl_body.specs.Walks.{ends_at}
use Rattle.civl_refine.specs.declared.start.Start.{Start}
use Rattle.civl_refine.specs.Judging.{fails_at}

-- where the path ends at this end, the part is kept there
abbrev pub kept_by : Start → Part → Begun → Outcome → ℕ → Bool
kept_by start part b o end = not (ends_at start.proc.now o end && fails_at start.program.now start.step start.proc.now start.number start.cut b part end (progress_of o))
