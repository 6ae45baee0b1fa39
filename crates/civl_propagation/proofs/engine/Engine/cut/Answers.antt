use Rattle.std.proofs.Common.{◌<◌, length, sym, subst}
use Rattle.civl_propagation.specs.Trail.{AreDecided}
use Rattle.civl_propagation.specs.Engine.{EngineState, IsEngine}
use Rattle.civl_propagation.proofs.Cutting.{cut_decided}
use Rattle.civl_propagation.proofs.Engines.{engine_cut}
use Rattle.civl_propagation.proofs.engine.Engine.cut.Goals as goal

pub cut-requires-clause-standing : goal.cut-requires-clause-standing
cut-requires-clause-standing c =
    let e = subst IsEngine (sym c.self.view_is) c.requires.engine in
    (c.self.inside.clauses, e.trail)

pub returns-clause-rest : goal.returns-clause-rest
returns-clause-rest c =
    let old : EngineState = record { trail = c.self.inside.trail; clauses = c.self.inside.clauses; watches = c.self.inside.watches } in
    engine_cut old c.cut.new.self c.args.levels (subst IsEngine (sym c.self.view_is) c.requires.engine)
    (subst (λ (x : EngineState). c.args.levels < length x.trail.starts) (sym c.self.view_is) c.requires.levels) c.cut.ensures

pub returns-clause-decided : goal.returns-clause-decided
returns-clause-decided c decisions d =
    cut_decided c.self.inside.trail c.cut.new.self c.args.levels decisions
    (subst (λ (x : EngineState). c.args.levels < length x.trail.starts) (sym c.self.view_is) c.requires.levels) c.cut.ensures
    (subst (λ (x : EngineState). AreDecided x.trail decisions) (sym c.self.view_is) d)
