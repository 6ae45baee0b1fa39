use Rattle.std.proofs.Common.{ℕ, Some, None, ap, sym, ◌∙◌, subst}
use Rattle.civl_tree.specs.declared.program.Program.{Program}
use Rattle.civl_layers.specs.Cuts.{proc_cuts}
use Rattle.civl_weights.specs.sums.Sums.{OfCuts}
use Rattle.civl_weights.specs.sums.Tables.{OfProc}
use Rattle.civl_weights.proofs.sums.Acting.{zip_none}
use Rattle.civl_weighing.proofs.Listing.{got_of}
use Rattle.civl_weights.proofs.Finding.{proc_sums_at, cut_there, no_proc}
use Rattle.civl_weights.proofs.kinds.cut_found.Goals as goal

pub returns-then-sums-step : goal.returns-then-sums-step
returns-then-sums-step c =
    let own = (proc_sums_at c.args.src.now c.args.tables.now.procs c.args.number c.in-Some-get.sums.now c.in-Some.proc.now c.requires.tables.procs (got_of c.as_slice.result.now _ c.args.number (Some c.in-Some-get.sums) c.as_slice.ensures c.in-Some-get.ensures.lookup) (got_of c.as_slice-procs.result.now _ c.args.number (Some c.in-Some.proc) (c.as_slice-procs.ensures ∙ ap (λ (p : Program). p.procs) c.program.ensures.same) c.in-Some.ensures.lookup)) in
    cut_there c.args.src.now c.args.step.now.step c.args.number c.args.cut c.in-Some.proc.now c.in-Some-get.sums.now.cuts _ (got_of c.as_slice-procs.result.now _ c.args.number (Some c.in-Some.proc) (c.as_slice-procs.ensures ∙ ap (λ (p : Program). p.procs) c.program.ensures.same) c.in-Some.ensures.lookup) (subst (λ (n : ℕ). OfCuts c.args.src.now n c.in-Some.proc.now 0 (proc_cuts c.in-Some.proc.now) c.in-Some-get.sums.now.cuts) c.if-sums-step.true own.cuts)
    (c.copied.ensures ∙ sym (got_of c.as_slice-then-sums-step.result.now _ c.args.cut c.get-then-sums-step.result c.as_slice-then-sums-step.ensures c.get-then-sums-step.ensures.lookup))

pub cuts_at-requires-clause-found : goal.cuts_at-requires-clause-found
cuts_at-requires-clause-found c = got_of c.as_slice-procs.result.now _ c.args.number (Some c.in-Some.proc) (c.as_slice-procs.ensures ∙ ap (λ (p : Program). p.procs) c.program.ensures.same) c.in-Some.ensures.lookup

pub cuts_at-requires-clause-notes : goal.cuts_at-requires-clause-notes
cuts_at-requires-clause-notes c = (proc_sums_at c.args.src.now c.args.tables.now.procs c.args.number c.in-Some-get.sums.now c.in-Some.proc.now c.requires.tables.procs (got_of c.as_slice.result.now _ c.args.number (Some c.in-Some-get.sums) c.as_slice.ensures c.in-Some-get.ensures.lookup) (got_of c.as_slice-procs.result.now _ c.args.number (Some c.in-Some.proc) (c.as_slice-procs.ensures ∙ ap (λ (p : Program). p.procs) c.program.ensures.same) c.in-Some.ensures.lookup)).notes

pub returns-in_ok-cuts-in-Some-get : goal.returns-in_ok-cuts-in-Some-get
returns-in_ok-cuts-in-Some-get c =
    cut_there c.args.src.now c.args.step.now.step c.args.number c.args.cut c.in-Some.proc.now c.in_ok-cuts-in-Some-get.cuts _ (got_of c.as_slice-procs.result.now _ c.args.number (Some c.in-Some.proc) (c.as_slice-procs.ensures ∙ ap (λ (p : Program). p.procs) c.program.ensures.same) c.in-Some.ensures.lookup) c.in_ok-cuts-in-Some-get.ensures
    (c.copied-in-Some-get.ensures ∙ sym (got_of c.as_slice-in-Some-get.result.now _ c.args.cut c.get-in-Some-get.result c.as_slice-in-Some-get.ensures c.get-in-Some-get.ensures.lookup))

pub returns-in-None-get : goal.returns-in-None-get
returns-in-None-get c = no_proc c.args.src.now c.args.step.now.step c.args.number c.args.cut (zip_none (OfProc c.args.src.now) c.args.src.now.procs c.args.tables.now.procs c.args.number c.requires.tables.procs (got_of c.as_slice.result.now _ c.args.number None c.as_slice.ensures c.in-None-get.ensures.lookup))

pub returns-in-None : goal.returns-in-None
returns-in-None c = no_proc c.args.src.now c.args.step.now.step c.args.number c.args.cut (got_of c.as_slice-procs.result.now _ c.args.number None (c.as_slice-procs.ensures ∙ ap (λ (p : Program). p.procs) c.program.ensures.same) c.in-None.ensures.lookup)
