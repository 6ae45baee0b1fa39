use Rattle.std.proofs.Common.{◌≡◌, drop, map}
use Rattle.civl_tree.specs.rules.Rules.{refusal_at, each_place, proc_places, first_of}
use Rattle.civl_names.proofs.walks.found.first_in_procs.Given as goal

abbrev pub invariant-loop-place : goal.invariant-loop-place
invariant-loop-place g l =
    first_of (map (refusal_at (g.F.Finder.rule l.finder).code) (each_place (proc_places (g.F.Finder.rule l.finder) l.program) l.place (drop l.place l.procs)))
    ≡ first_of (map (refusal_at (g.F.Finder.rule l.fn.finder).code) (each_place (proc_places (g.F.Finder.rule l.fn.finder) l.fn.program) 0 l.fn.program.procs))
