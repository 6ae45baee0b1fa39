use Rattle.std.proofs.Common.{◌++◌, ◌∷◌, [], ◌<◌, length, sym, subst, arith}
use Rattle.civl_units.specs.Trail.{IsOpen, open_count}
use Rattle.civl_propagation.specs.Trail.{AreDecided, Deepens}
use Rattle.civl_propagation.specs.Engine.{EngineState, IsAtRest}
use Rattle.civl_propagation.proofs.Serving.{fewer_decide}
use Rattle.civl_propagation.proofs.Engines.{decided_grows, decided_more, deepens_by, grows_of, held_of, engine_decides, ends_by}
use Rattle.civl_propagation.proofs.engine.Engine.decide.Goals as goal

pub propagate-requires-clause-held : goal.propagate-requires-clause-held
propagate-requires-clause-held c =
    let e : EngineState = record { trail = c.self.inside.trail; clauses = c.self.inside.clauses; watches = c.self.inside.watches } in
    let rest = subst IsAtRest (sym c.self.view_is) c.requires.rest in
    let low = subst (λ (x : EngineState). c.args.lit.variable < length x.trail.marks) (sym c.self.view_is) c.requires.below in
    let free = subst (λ (x : EngineState). IsOpen x.trail.marks c.args.lit) (sym c.self.view_is) c.requires.open in
    let t = c.decide.new.self in
    let d = engine_decides e t c.args.lit c.len-from.result rest c.in_ok-decide.ensures low free c.len-from.ensures in
    (held_of (record { trail = t; clauses = e.clauses; watches = e.watches }) d.engine)

pub propagate-requires-clause-keeps : goal.propagate-requires-clause-keeps
propagate-requires-clause-keeps c =
    let e : EngineState = record { trail = c.self.inside.trail; clauses = c.self.inside.clauses; watches = c.self.inside.watches } in
    let rest = subst IsAtRest (sym c.self.view_is) c.requires.rest in
    let low = subst (λ (x : EngineState). c.args.lit.variable < length x.trail.marks) (sym c.self.view_is) c.requires.below in
    let free = subst (λ (x : EngineState). IsOpen x.trail.marks c.args.lit) (sym c.self.view_is) c.requires.open in
    let t = c.decide.new.self in
    let d = engine_decides e t c.args.lit c.len-from.result rest c.in_ok-decide.ensures low free c.len-from.ensures in
    d.keeps

pub returns-clause-decided : goal.returns-clause-decided
returns-clause-decided c decisions d =
    let t = c.decide.new.self in
    let grows = grows_of t c.propagate.new.trail c.self.inside.clauses c.propagate.new.watches c.in_ok-ended.ended c.in_ok-ended.ensures in
    decided_grows t c.propagate.new.trail (decisions ++ c.args.lit ∷ []) grows (decided_more c.self.inside.trail t decisions c.args.lit c.in_ok-decide.ensures
    (subst (λ (x : EngineState). AreDecided x.trail decisions) (sym c.self.view_is) d))

pub returns-clause-deeper : goal.returns-clause-deeper
returns-clause-deeper c =
    let rest = subst IsAtRest (sym c.self.view_is) c.requires.rest in
    let low = subst (λ (x : EngineState). c.args.lit.variable < length x.trail.marks) (sym c.self.view_is) c.requires.below in
    let free = subst (λ (x : EngineState). IsOpen x.trail.marks c.args.lit) (sym c.self.view_is) c.requires.open in
    let t = c.decide.new.self in
    let grows = grows_of t c.propagate.new.trail c.self.inside.clauses c.propagate.new.watches c.in_ok-ended.ended c.in_ok-ended.ensures in
    subst (λ (x : EngineState). Deepens x.trail c.propagate.new.trail) c.self.view_is
    (deepens_by c.self.inside.trail t c.propagate.new.trail c.args.lit rest.engine.trail.size c.in_ok-decide.ensures low free grows)

pub returns-clause-fewer : goal.returns-clause-fewer
returns-clause-fewer c =
    let low = subst (λ (x : EngineState). c.args.lit.variable < length x.trail.marks) (sym c.self.view_is) c.requires.below in
    let free = subst (λ (x : EngineState). IsOpen x.trail.marks c.args.lit) (sym c.self.view_is) c.requires.open in
    let t = c.decide.new.self in
    let grows = grows_of t c.propagate.new.trail c.self.inside.clauses c.propagate.new.watches c.in_ok-ended.ended c.in_ok-ended.ensures in
    let less = fewer_decide c.self.inside.trail t c.args.lit c.in_ok-decide.ensures low free in
    let total = grows.total in
    let longer = grows.longer in
    let less' : open_count c.propagate.new.trail.marks < open_count c.self.inside.trail.marks = omega arith in
    subst (λ (x : EngineState). open_count c.propagate.new.trail.marks < open_count x.trail.marks) c.self.view_is less'

pub returns-clause-ended : goal.returns-clause-ended
returns-clause-ended c =
    let e : EngineState = record { trail = c.self.inside.trail; clauses = c.self.inside.clauses; watches = c.self.inside.watches } in
    let rest = subst IsAtRest (sym c.self.view_is) c.requires.rest in
    let low = subst (λ (x : EngineState). c.args.lit.variable < length x.trail.marks) (sym c.self.view_is) c.requires.below in
    let free = subst (λ (x : EngineState). IsOpen x.trail.marks c.args.lit) (sym c.self.view_is) c.requires.open in
    let t = c.decide.new.self in
    let d = engine_decides e t c.args.lit c.len-from.result rest c.in_ok-decide.ensures low free c.len-from.ensures in
    let mid : EngineState = record { trail = t; clauses = e.clauses; watches = e.watches } in
    ends_by mid c.propagate.new.trail c.propagate.new.watches c.in_ok-ended.ended d.engine
    (c.in_ok-ended.ensures)
