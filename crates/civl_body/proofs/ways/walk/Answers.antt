use Rattle.std.specs.Prelude.{All, IsSome, map}
use Rattle.std.proofs.Common.{◌≡◌, ◌∙◌, ◌<◌, ◌^◌, List, Option, Some, None, length, refl, sym, ap, subst, ℕ, ◌+◌, ◌*◌, ◌≤◌, arith}
use Rattle.std.proofs.lemmas.Bool.{false≢true}
use Rattle.civl_tree.specs.declared.program.Refines.{Refines}
use Rattle.civl_terms.proofs.Growing.{grows_trans}
use Rattle.civl_layers.specs.declared.cut.Cut.{Cut}
use Rattle.civl_layers.specs.Cuts.{proc_cuts}
use Rattle.civl_body.specs.declared.way.Way.{Way}
use Rattle.civl_body.specs.Walks.{CanTake}
use Rattle.civl_body.specs.inner.Ways.{ways_from}
use Rattle.civl_body.proofs.Few.{few_cuts}
use Rattle.civl_body.proofs.Drawn.{ends_are, ways_can, is_walk}
use Rattle.civl_body.proofs.Sweeping.{begins_ready, ends_can, stops_are, onward_is, drawn}
use Rattle.civl_terms.specs.Weights.{graph_weight}
use Rattle.civl_conditions.specs.paths.Flows.{flow_from}
use Rattle.civl_body.specs.Weights.{passed_weights}
use Rattle.civl_body.proofs.ways.walk.Goals as goal

some_of : (o : Option Refines) → IsSome o → (r : Refines) × (o ≡ Some r)
some_of None e = absurd (false≢true e)
some_of (Some r) e = (r, refl)

pub pass_from-requires-clause-ready : goal.pass_from-requires-clause-ready
pass_from-requires-clause-ready c =
    let b = c.in_ok-sweep.ensures in
    begins_ready c.args.program.now c.args.step c.args.proc.now c.args.cut c.args.beginning.now c.args.terms.now c.begins.new.terms b.grows c.len-began.ensures.graph c.requires.begins c.in_ok-sweep.sweep.live b.live
    c.requires.layered c.requires.proc c.in_ok-sweep.sweep b.begins c.layer_below.result c.layer_below.ensures

pub returns-in_err-pass_from-clause-grows : goal.returns-in_err-pass_from-clause-grows
returns-in_err-pass_from-clause-grows c = grows_trans _ _ _ c.in_ok-sweep.ensures.grows c.in_err-pass_from.ensures.grows

pub ways_of-requires : goal.ways_of-requires
ways_of-requires c = subst (λ (cs : List Cut). length cs < 2 ^ 32) (sym c.requires.cuts) (few_cuts c.args.program.now c.requires.layered c.args.proc.now c.requires.proc)

pub returns-in_err-ways-clause-grows : goal.returns-in_err-ways-clause-grows
returns-in_err-ways-clause-grows c = grows_trans _ _ _ c.in_ok-sweep.ensures.grows c.in_ok-pass_from.ensures.grows

pub returns-clause-grows : goal.returns-clause-grows
returns-clause-grows c = grows_trans _ _ _ c.in_ok-sweep.ensures.grows c.in_ok-pass_from.ensures.grows

pub returns-clause-walk : goal.returns-clause-walk
returns-clause-walk c = λ begun said.
    let p = c.args.program.now in
    let q = c.args.proc.now in
    let t = c.args.beginning.now in
    let o = c.args.terms.now in
    let m = c.begins.new.terms in
    let n = c.pass_from.new.terms in
    let s = c.in_ok-sweep.sweep in
    let u = c.pass_from.new.sweep in
    let sure = s.live in
    let b = c.in_ok-sweep.ensures in
    let can = ends_can p c.args.step q c.args.cut t o m b.grows c.len-began.ensures.graph c.requires.begins sure b.live n c.in_ok-pass_from.ensures.grows c.len-passed.ensures.graph s u b.begins c.layer_below.result c.layer_below.ensures c.in_ok-pass_from.ensures.passes in
    let stops = stops_are p c.args.step q c.args.cut t o m b.grows c.len-began.ensures.graph c.requires.begins sure b.live n c.in_ok-pass_from.ensures.grows c.len-passed.ensures.graph s u b.begins c.layer_below.result c.layer_below.ensures c.in_ok-pass_from.ensures.passes in
    let onward = onward_is p c.args.step q c.args.cut t o m b.grows c.len-began.ensures.graph c.requires.begins sure b.live n c.in_ok-pass_from.ensures.grows c.len-passed.ensures.graph s u b.begins c.layer_below.result c.layer_below.ensures c.in_ok-pass_from.ensures.passes in
    let refines = some_of q.refines c.requires.refines in
    let ways : c.in_ok-ways.ways ≡ ways_from 0 (proc_cuts q) u = c.in_ok-ways.ensures ∙ ap (λ (cs : List Cut). ways_from 0 cs u) c.requires.cuts in
    is_walk n p q c.args.cut u can refines.0 refines.1 stops onward _ (drawn p c.args.step q c.args.cut t o m b.grows c.len-began.ensures.graph c.requires.begins sure b.live n c.in_ok-pass_from.ensures.grows c.len-passed.ensures.graph s u b.begins c.layer_below.result c.layer_below.ensures c.in_ok-pass_from.ensures.passes begun said) c.in_ok-ways.ways ways

pub returns-clause-safe : goal.returns-clause-safe
returns-clause-safe c =
    let p = c.args.program.now in
    let q = c.args.proc.now in
    let t = c.args.beginning.now in
    let o = c.args.terms.now in
    let m = c.begins.new.terms in
    let n = c.pass_from.new.terms in
    let s = c.in_ok-sweep.sweep in
    let u = c.pass_from.new.sweep in
    let sure = s.live in
    let b = c.in_ok-sweep.ensures in
    (ends_can p c.args.step q c.args.cut t o m b.grows c.len-began.ensures.graph c.requires.begins sure b.live n c.in_ok-pass_from.ensures.grows c.len-passed.ensures.graph s u b.begins c.layer_below.result c.layer_below.ensures c.in_ok-pass_from.ensures.passes).safe.sorted

pub returns-clause-once : goal.returns-clause-once
returns-clause-once c =
    let p = c.args.program.now in
    let q = c.args.proc.now in
    let t = c.args.beginning.now in
    let o = c.args.terms.now in
    let m = c.begins.new.terms in
    let n = c.pass_from.new.terms in
    let s = c.in_ok-sweep.sweep in
    let u = c.pass_from.new.sweep in
    let sure = s.live in
    let b = c.in_ok-sweep.ensures in
    (ends_can p c.args.step q c.args.cut t o m b.grows c.len-began.ensures.graph c.requires.begins sure b.live n c.in_ok-pass_from.ensures.grows c.len-passed.ensures.graph s u b.begins c.layer_below.result c.layer_below.ensures c.in_ok-pass_from.ensures.passes).once.sorted

pub returns-clause-ways : goal.returns-clause-ways
returns-clause-ways c =
    let p = c.args.program.now in
    let q = c.args.proc.now in
    let t = c.args.beginning.now in
    let o = c.args.terms.now in
    let m = c.begins.new.terms in
    let n = c.pass_from.new.terms in
    let s = c.in_ok-sweep.sweep in
    let u = c.pass_from.new.sweep in
    let sure = s.live in
    let b = c.in_ok-sweep.ensures in
    let can = ends_can p c.args.step q c.args.cut t o m b.grows c.len-began.ensures.graph c.requires.begins sure b.live n c.in_ok-pass_from.ensures.grows c.len-passed.ensures.graph s u b.begins c.layer_below.result c.layer_below.ensures c.in_ok-pass_from.ensures.passes in
    let stops = stops_are p c.args.step q c.args.cut t o m b.grows c.len-began.ensures.graph c.requires.begins sure b.live n c.in_ok-pass_from.ensures.grows c.len-passed.ensures.graph s u b.begins c.layer_below.result c.layer_below.ensures c.in_ok-pass_from.ensures.passes in
    let onward = onward_is p c.args.step q c.args.cut t o m b.grows c.len-began.ensures.graph c.requires.begins sure b.live n c.in_ok-pass_from.ensures.grows c.len-passed.ensures.graph s u b.begins c.layer_below.result c.layer_below.ensures c.in_ok-pass_from.ensures.passes in
    let refines = some_of q.refines c.requires.refines in
    let ways : c.in_ok-ways.ways ≡ ways_from 0 (proc_cuts q) u = c.in_ok-ways.ensures ∙ ap (λ (cs : List Cut). ways_from 0 cs u) c.requires.cuts in
    subst (All (CanTake n p q)) (sym ways) (ways_can n p q c.args.cut u can refines.0 refines.1 stops onward)

pub returns-clause-ends : goal.returns-clause-ends
returns-clause-ends c =
    let p = c.args.program.now in
    let q = c.args.proc.now in
    let t = c.args.beginning.now in
    let o = c.args.terms.now in
    let m = c.begins.new.terms in
    let n = c.pass_from.new.terms in
    let s = c.in_ok-sweep.sweep in
    let u = c.pass_from.new.sweep in
    let sure = s.live in
    let b = c.in_ok-sweep.ensures in
    let can = ends_can p c.args.step q c.args.cut t o m b.grows c.len-began.ensures.graph c.requires.begins sure b.live n c.in_ok-pass_from.ensures.grows c.len-passed.ensures.graph s u b.begins c.layer_below.result c.layer_below.ensures c.in_ok-pass_from.ensures.passes in
    let stops = stops_are p c.args.step q c.args.cut t o m b.grows c.len-began.ensures.graph c.requires.begins sure b.live n c.in_ok-pass_from.ensures.grows c.len-passed.ensures.graph s u b.begins c.layer_below.result c.layer_below.ensures c.in_ok-pass_from.ensures.passes in
    let onward = onward_is p c.args.step q c.args.cut t o m b.grows c.len-began.ensures.graph c.requires.begins sure b.live n c.in_ok-pass_from.ensures.grows c.len-passed.ensures.graph s u b.begins c.layer_below.result c.layer_below.ensures c.in_ok-pass_from.ensures.passes in
    let refines = some_of q.refines c.requires.refines in
    let ways : c.in_ok-ways.ways ≡ ways_from 0 (proc_cuts q) u = c.in_ok-ways.ensures ∙ ap (λ (cs : List Cut). ways_from 0 cs u) c.requires.cuts in
    ap (map (λ (w : Way). w.end)) ways ∙ ends_are n p q c.args.cut u can refines.0 refines.1 stops onward

pub returns-clause-weighs : goal.returns-clause-weighs
returns-clause-weighs c = λ linear.
    let w = subst (λ (n : ℕ). graph_weight c.pass_from.new.terms ≤ graph_weight c.begins.new.terms + 4 * passed_weights c.args.program.now n c.args.proc.now (flow_from c.args.proc.now c.args.cut).passed) c.layer_below.ensures (c.in_ok-pass_from.ensures.weighs linear) in
    omega (arith, c.in_ok-sweep.ensures.weighs, w)
