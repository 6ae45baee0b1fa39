use Rattle.std.proofs.Common.{◌≡◌, drop}
use Rattle.std.specs.Prelude.{false}
use Rattle.std.specs.Option.{option_map_or}
use Rattle.civl_goals.specs.Rules.{root_at, stands_in}
use Rattle.civl_goals.proofs.Misplacing.{root_from}
use Rattle.civl_goals.proofs.rules.stands.Given as goal

abbrev pub invariant-loop-place : goal.invariant-loop-place
invariant-loop-place l =
    option_map_or (stands_in l.program l.note) (root_from l.program l.note.item l.place (drop l.place l.procs)) false
    ≡ option_map_or (stands_in l.fn.program l.fn.note) (root_at l.fn.program l.fn.note.item) false
