use Rattle.std.proofs.Common.{◌≡◌, ◌+◌, List, subst}
use Rattle.std.specs.Prelude.{IfOk}
use Rattle.civl_bits.specs.declared.value.Value.{Value}
use Rattle.civl_tree.specs.rules.Names.{names_in_proc}
use Rattle.civl_firing.specs.Eval.{values_of}
use Rattle.civl_firing.specs.Scope.{frame_values}
use Rattle.civl_meaning.specs.Meaning.{Meaning, Does, called}
use Rattle.civl_meaning.specs.Change.{done_by, call_doing}
use Rattle.civl_conditions.specs.paths.Paths.{came}
use Rattle.civl_traces.specs.Told.{chosen_at, progress}
use Rattle.civl_traces.specs.inner.Walking.{outcome}
use Rattle.civl_traces.proofs.Calls.{does}
use Rattle.civl_traces.proofs.passing.call.Goals as goal

pub returns : goal.returns
returns c =
    let way = c.args.way.now in
    let p = c.args.moment.now in
    let n = c.args.number in
    let known = subst (λ (args : List Value). IfOk c.act.result (λ ending. outcome ending n c.act.new.moment ≡ came (progress p)
    (done_by way.plain.now p.store (chosen_at way.chosen.now n) (call_doing (names_in_proc way.proc.now) p.locals c.args.results.now n (n + 1) (Does c.in-Some.action.now) args))))
    c.in_ok-args.ensures c.act.ensures in
    subst (λ (m : Meaning). IfOk c.act.result (λ ending. outcome ending n c.act.new.moment ≡ came (progress p)
    (done_by way.plain.now p.store (chosen_at way.chosen.now n)
    (call_doing (names_in_proc way.proc.now) p.locals c.args.results.now n (n + 1) m (values_of (frame_values way.plain.now.program.globals way.proc.now p.locals) c.args.args.now)))))
    (does (called way.plain.now c.args.name.now) c.in-Some.action.now c.in-Some.ensures) known
