use Rattle.std.proofs.Common.{◌≡◌, ◌∙◌, ◌++◌, ◌∷◌, [], List, length, get_or, sym, ap, subst, arith}
use Rattle.std.proofs.lemmas.List.{get_or_push, length_push}
use Rattle.civl_cnf.specs.Literal.{Literal}
use Rattle.civl_cnf.specs.ClauseSet.{IsBelow}
use Rattle.civl_units.specs.Marks.{marked, IsQuiet}
use Rattle.civl_propagation.specs.Propagation.{Grows, ServeSays}
use Rattle.civl_propagation.specs.Engine.{EngineState, IsAtRest, IsQuietBelow}
use Rattle.civl_propagation.proofs.Serving.{grows_trans}
use Rattle.civl_propagation.proofs.Choosing.{chosen_below, chosen_quiet}
use Rattle.civl_propagation.proofs.Engines.{adding_by, adding_served, adding_falsified, engine_held, grows_of, ends_by}
use Rattle.civl_propagation.proofs.engine.Engine.add.Goals as goal

pub serve-requires-clause-number : goal.serve-requires-clause-number
serve-requires-clause-number c =
    let e : EngineState = record { trail = c.self.inside.trail; clauses = c.self.inside.clauses; watches = c.self.inside.watches } in
    let is : c.push.new.self ≡ e.clauses ++ c.args.clause.now ∷ [] = c.in_ok-push.ensures in
    omega (arith, ap length is, length_push e.clauses c.args.clause.now, c.len-number.ensures)

pub serve-requires-clause-below : goal.serve-requires-clause-below
serve-requires-clause-below c =
    let e : EngineState = record { trail = c.self.inside.trail; clauses = c.self.inside.clauses; watches = c.self.inside.watches } in
    let is : c.push.new.self ≡ e.clauses ++ c.args.clause.now ∷ [] = c.in_ok-push.ensures in
    let a = adding_by e c.args.clause.now c.choose-pair.result c.push.new.self c.watch.new.self c.len-number.result c.len-from.result (subst IsAtRest (sym c.self.view_is) c.requires.rest) (subst (λ (x : EngineState). IsBelow (length x.trail.marks) c.args.clause.now) (sym c.self.view_is) c.requires.below) (subst (λ (x : EngineState). IsQuietBelow x.trail c.args.clause.now) (sym c.self.view_is) c.requires.levels) is c.in_ok-watch.ensures c.choose-pair.ensures (omega (arith, c.len-number.ensures)) c.len-from.ensures in
    a.engine.below

pub choose-pair-requires-clause-standing : goal.choose-pair-requires-clause-standing
choose-pair-requires-clause-standing c =
    let e : EngineState = record { trail = c.self.inside.trail; clauses = c.self.inside.clauses; watches = c.self.inside.watches } in
    let rest : IsAtRest e = subst IsAtRest (sym c.self.view_is) c.requires.rest in
    (e.clauses, rest.engine.trail)

pub is_free-quiet-requires : goal.is_free-quiet-requires
is_free-quiet-requires c =
    let e : EngineState = record { trail = c.self.inside.trail; clauses = c.self.inside.clauses; watches = c.self.inside.watches } in
    chosen_below (length e.trail.marks) e.trail c.args.clause.now c.choose-pair.result (subst (λ (x : EngineState). IsBelow (length x.trail.marks) c.args.clause.now) (sym c.self.view_is) c.requires.below) c.choose-pair.ensures

pub serve-requires-clause-known : goal.serve-requires-clause-known
serve-requires-clause-known c free =
    let e : EngineState = record { trail = c.self.inside.trail; clauses = c.self.inside.clauses; watches = c.self.inside.watches } in
    let clause = c.args.clause.now in
    let number = c.len-number.result in
    let is : c.push.new.self ≡ e.clauses ++ clause ∷ [] = c.in_ok-push.ensures in
    let at : length e.clauses ≡ number = omega (arith, c.len-number.ensures) in
    let here : get_or c.push.new.self number [] ≡ clause = ap (λ (cs : List (List Literal)). get_or cs number []) is ∙ get_or_push e.clauses clause [] number at in
    subst (IsQuiet (marked e.trail.marks)) (sym here) (chosen_quiet e.trail clause c.choose-pair.result c.choose-pair.ensures (c.is_free-quiet.ensures free))

pub serve-requires-clause-trail : goal.serve-requires-clause-trail
serve-requires-clause-trail c =
    let e : EngineState = record { trail = c.self.inside.trail; clauses = c.self.inside.clauses; watches = c.self.inside.watches } in
    let is : c.push.new.self ≡ e.clauses ++ c.args.clause.now ∷ [] = c.in_ok-push.ensures in
    let a = adding_by e c.args.clause.now c.choose-pair.result c.push.new.self c.watch.new.self c.len-number.result c.len-from.result (subst IsAtRest (sym c.self.view_is) c.requires.rest) (subst (λ (x : EngineState). IsBelow (length x.trail.marks) c.args.clause.now) (sym c.self.view_is) c.requires.below) (subst (λ (x : EngineState). IsQuietBelow x.trail c.args.clause.now) (sym c.self.view_is) c.requires.levels) is c.in_ok-watch.ensures c.choose-pair.ensures (omega (arith, c.len-number.ensures)) c.len-from.ensures in
    a.engine.trail

pub returns-in-Conflict-clause-ended : goal.returns-in-Conflict-clause-ended
returns-in-Conflict-clause-ended c =
    let e : EngineState = record { trail = c.self.inside.trail; clauses = c.self.inside.clauses; watches = c.self.inside.watches } in
    let is : c.push.new.self ≡ e.clauses ++ c.args.clause.now ∷ [] = c.in_ok-push.ensures in
    let a = adding_by e c.args.clause.now c.choose-pair.result c.push.new.self c.watch.new.self c.len-number.result c.len-from.result (subst IsAtRest (sym c.self.view_is) c.requires.rest) (subst (λ (x : EngineState). IsBelow (length x.trail.marks) c.args.clause.now) (sym c.self.view_is) c.requires.below) (subst (λ (x : EngineState). IsQuietBelow x.trail c.args.clause.now) (sym c.self.view_is) c.requires.levels) is c.in_ok-watch.ensures c.choose-pair.ensures (omega (arith, c.len-number.ensures)) c.len-from.ensures in
    let t = c.serve.new.trail in
    let says = c.in_ok-ended.ensures in
    adding_falsified e c.args.clause.now c.choose-pair.result c.push.new.self c.watch.new.self c.len-number.result c.len-from.result t c.in-Conflict.falsified a (subst (ServeSays e.trail t c.push.new.self c.len-number.result) c.in-Conflict.is says)

pub propagate-requires-clause-held : goal.propagate-requires-clause-held
propagate-requires-clause-held c =
    let e : EngineState = record { trail = c.self.inside.trail; clauses = c.self.inside.clauses; watches = c.self.inside.watches } in
    let is : c.push.new.self ≡ e.clauses ++ c.args.clause.now ∷ [] = c.in_ok-push.ensures in
    let a = adding_by e c.args.clause.now c.choose-pair.result c.push.new.self c.watch.new.self c.len-number.result c.len-from.result (subst IsAtRest (sym c.self.view_is) c.requires.rest) (subst (λ (x : EngineState). IsBelow (length x.trail.marks) c.args.clause.now) (sym c.self.view_is) c.requires.below) (subst (λ (x : EngineState). IsQuietBelow x.trail c.args.clause.now) (sym c.self.view_is) c.requires.levels) is c.in_ok-watch.ensures c.choose-pair.ensures (omega (arith, c.len-number.ensures)) c.len-from.ensures in
    let t = c.serve.new.trail in
    let says = c.in_ok-ended.ensures in
    let v = adding_served e c.args.clause.now c.choose-pair.result c.push.new.self c.watch.new.self c.len-number.result c.len-from.result t c.in_ok-ended.ended a says c.in-Quiet.is in
    v.held

pub propagate-requires-clause-keeps : goal.propagate-requires-clause-keeps
propagate-requires-clause-keeps c =
    let e : EngineState = record { trail = c.self.inside.trail; clauses = c.self.inside.clauses; watches = c.self.inside.watches } in
    let is : c.push.new.self ≡ e.clauses ++ c.args.clause.now ∷ [] = c.in_ok-push.ensures in
    let a = adding_by e c.args.clause.now c.choose-pair.result c.push.new.self c.watch.new.self c.len-number.result c.len-from.result (subst IsAtRest (sym c.self.view_is) c.requires.rest) (subst (λ (x : EngineState). IsBelow (length x.trail.marks) c.args.clause.now) (sym c.self.view_is) c.requires.below) (subst (λ (x : EngineState). IsQuietBelow x.trail c.args.clause.now) (sym c.self.view_is) c.requires.levels) is c.in_ok-watch.ensures c.choose-pair.ensures (omega (arith, c.len-number.ensures)) c.len-from.ensures in
    let t = c.serve.new.trail in
    let says = c.in_ok-ended.ensures in
    let v = adding_served e c.args.clause.now c.choose-pair.result c.push.new.self c.watch.new.self c.len-number.result c.len-from.result t c.in_ok-ended.ended a says c.in-Quiet.is in
    v.keeps

pub returns-in_ok-last-in-Quiet-clause-grows : goal.returns-in_ok-last-in-Quiet-clause-grows
returns-in_ok-last-in-Quiet-clause-grows c =
    let e : EngineState = record { trail = c.self.inside.trail; clauses = c.self.inside.clauses; watches = c.self.inside.watches } in
    let t = c.serve.new.trail in
    let says = subst (ServeSays e.trail t c.push.new.self c.len-number.result) c.in-Quiet.is c.in_ok-ended.ensures in
    subst (λ (x : EngineState). Grows x.trail c.propagate.new.trail) c.self.view_is
    (grows_trans e.trail t c.propagate.new.trail says.0.grows (grows_of t c.propagate.new.trail c.push.new.self c.propagate.new.watches c.in_ok-last-in-Quiet.last c.in_ok-last-in-Quiet.ensures))

pub returns-in_ok-last-in-Quiet-clause-ended : goal.returns-in_ok-last-in-Quiet-clause-ended
returns-in_ok-last-in-Quiet-clause-ended c =
    let e : EngineState = record { trail = c.self.inside.trail; clauses = c.self.inside.clauses; watches = c.self.inside.watches } in
    let is : c.push.new.self ≡ e.clauses ++ c.args.clause.now ∷ [] = c.in_ok-push.ensures in
    let a = adding_by e c.args.clause.now c.choose-pair.result c.push.new.self c.watch.new.self c.len-number.result c.len-from.result (subst IsAtRest (sym c.self.view_is) c.requires.rest) (subst (λ (x : EngineState). IsBelow (length x.trail.marks) c.args.clause.now) (sym c.self.view_is) c.requires.below) (subst (λ (x : EngineState). IsQuietBelow x.trail c.args.clause.now) (sym c.self.view_is) c.requires.levels) is c.in_ok-watch.ensures c.choose-pair.ensures (omega (arith, c.len-number.ensures)) c.len-from.ensures in
    let t = c.serve.new.trail in
    let mid : EngineState = record { trail = e.trail; clauses = c.push.new.self; watches = c.watch.new.self } in
    let now : EngineState = record { trail = t; clauses = c.push.new.self; watches = c.watch.new.self } in
    let says = c.in_ok-ended.ensures in
    let v = adding_served e c.args.clause.now c.choose-pair.result c.push.new.self c.watch.new.self c.len-number.result c.len-from.result t c.in_ok-ended.ended a says c.in-Quiet.is in
    ends_by now c.propagate.new.trail c.propagate.new.watches c.in_ok-last-in-Quiet.last (engine_held mid t c.watch.new.self a.engine v.grows v.held)
    (c.in_ok-last-in-Quiet.ensures)
