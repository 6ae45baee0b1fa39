use Rattle.std.proofs.Common.{◌≡◌, drop, map}
use Rattle.civl_tree.specs.rules.Rules.{first_of}
use Rattle.civl_names.specs.walks.Walks.{numbers_with}
use Rattle.civl_names.proofs.walks.rule.first_with.Given as goal

abbrev pub invariant-loop-number : goal.invariant-loop-number
invariant-loop-number g l =
    first_of (numbers_with (g.R.NoteTest.breaks_with l.rule) l.number (drop l.number (map (λ stmt. stmt.now) l.flat)) (drop l.number l.notes))
    ≡ first_of (numbers_with (g.R.NoteTest.breaks_with l.fn.rule) 0 (map (λ stmt. stmt.now) l.fn.flat) l.fn.notes)
