use Rattle.std.specs.Prelude.{◌≡◌, drop}
use Rattle.civl_cnf.specs.ClauseSet.{assignment}
use Rattle.civl_verdicts.specs.inner.models.Zeros.{zeros_of}
use Rattle.civl_firing.specs.values.Values.{HaveSorts}
use Rattle.civl_verdicts.proofs.models.ReadingAll.{read_all}
use Rattle.civl_verdicts.proofs.models.reading.read_back.Given as goal

abbrev pub invariant-loop-place : goal.invariant-loop-place
invariant-loop-place l = HaveSorts l.values.items l.sorts × (read_all (assignment l.bits) (drop l.place-index l.places) l.values.items ≡ read_all (assignment l.bits) l.places (zeros_of l.sorts))
