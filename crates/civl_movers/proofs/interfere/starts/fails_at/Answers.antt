use Rattle.civl_terms.proofs.Growing.{grows_trans}
use Rattle.civl_conditions.specs.Invariants.{holds_of_globals}
use Rattle.civl_movers.proofs.interfere.starts.fails_at.Goals as goal

pub returns-in_err-id-clause-grows : goal.returns-in_err-id-clause-grows
returns-in_err-id-clause-grows c = grows_trans _ _ _ c.in_ok-holds.ensures.grows c.in_err-id.ensures.grows

pub returns-clause-grows : goal.returns-clause-grows
returns-clause-grows c = grows_trans _ _ _ c.in_ok-holds.ensures.grows c.in_ok-id.ensures.grows

pub returns-clause-tells : goal.returns-clause-tells
returns-clause-tells c = λ g s. c.in_ok-id.ensures.test (λ env. holds_of_globals c.args.program.now (g env) c.args.expr.now) (c.in_ok-holds.ensures.note.holds g c.requires.typed.sorted s)
