use Rattle.std.specs.Prelude.{◌≡◌, map, take}
use Rattle.civl_movers.proofs.interfere.initials.sorts_of_globals.Given as goal

abbrev pub invariant-loop-global : goal.invariant-loop-global
invariant-loop-global l = l.sorts.items ≡ map (λ g. g.sort) (take l.global-index l.global-items)
