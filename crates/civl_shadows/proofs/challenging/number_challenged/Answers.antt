use Rattle.std.proofs.Common.{◌≡◌, ◌∙◌, List, Bool, true, not, Some, slice_get, length, refl, sym, ap, arith}
use Rattle.std.proofs.lemmas.Option.{slice_get_read}
use Rattle.civl_bits.specs.declared.value.Value.{Value}
use Rattle.civl_tree.specs.declared.program.Proc.{Proc}
use Rattle.civl_reduction.specs.blocks.Challenged.{allows}
use Rattle.civl_shadows.proofs.Calls.{runs_so}
use Rattle.civl_shadows.proofs.challenging.number_challenged.Goals as goal

pub returns : goal.returns
returns c =
    let plain = c.args.plain.now in
    let proc = c.index-procs-number.result in
    let procs = c.as_slice-procs.result.now in
    let there : slice_get plain.program.procs c.args.number ≡ Some proc =
    sym (ap (λ (l : List Proc). slice_get l c.args.number) c.as_slice-procs.ensures) ∙ slice_get_read procs (length procs) c.args.number proc refl (omega arith) c.index-procs-number.is in
    let body : slice_get plain.bodies c.args.number ≡ Some true = c.get.ensures ∙ ap (λ (b : Bool). Some b) c.if-not-get.false in
    let locals = c.deref.ensures.value ∙ c.in_ok-locals.ensures c.args.number in
    let allowed = ap not (c.allows.ensures ∙ ap (λ (vs : List Value). allows plain.program c.args.store.now proc vs) locals) in
    runs_so plain c.args.layer c.args.store.now c.args.number proc c.args.args.now body there (not c.allows.result) (sym c.has_layer.ensures ∙ c.if-not-has_layer.false) allowed
