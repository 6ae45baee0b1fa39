use Rattle.std.proofs.Common.{ℕ, ◌∙◌, sym, ap, Some}
use Rattle.civl_tree.specs.declared.refusal.Refusal.{Refusal}
use Rattle.civl_tree.specs.Numbering.{proc_item}
use Rattle.civl_names.proofs.walks.Refusing.{proc_here, proc_later, proc_none}
use Rattle.civl_names.proofs.walks.found.first_in_procs.Goals as goal

pub returns-in-Some : goal.returns-in-Some
returns-in-Some g c =
    ap (λ (r : Refusal). Some r) c.refusal_at.ensures
    ∙ ap (λ (n : ℕ). Some (record { code = n; item = proc_item c.args.program.now c.loop-place.place; statement = c.in-Some.statement })) c.code.ensures
    ∙ sym (sym c.loop-place.invariant
    ∙ proc_here (g.F.Finder.rule c.args.finder.now) c.args.program.now c.loop-place.place c.as_slice-procs.result.now c.index-procs-place.result c.in-Some.statement c.loop-place-test.true c.index-procs-place.is (sym c.in-Some.is ∙ c.in_ok-statement.ensures))

pub loop-place-preserved : goal.loop-place-preserved
loop-place-preserved g c =
    proc_later (g.F.Finder.rule c.args.finder.now) c.args.program.now c.loop-place.place c.as_slice-procs.result.now c.index-procs-place.result c.loop-place-test.true c.index-procs-place.is (sym c.in_default.is ∙ c.in_ok-statement.ensures)
    ∙ c.loop-place.invariant

pub returns : goal.returns
returns g c =
    sym (sym c.loop-place.invariant
    ∙ proc_none (g.F.Finder.rule c.args.finder.now) c.args.program.now c.loop-place.place c.as_slice-procs.result.now c.loop-place-test.false)
