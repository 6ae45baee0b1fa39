use Rattle.std.proofs.Common.{◌≡◌, ◌∙◌, ◌+◌, List, Some, slice_get, length, refl, sym, ap, arith}
use Rattle.std.proofs.lemmas.Option.{same_Some, slice_get_read}
use Rattle.civl_bits.specs.declared.value.Value.{Value}
use Rattle.civl_tree.specs.declared.program.Global.{Global}
use Rattle.civl_tree.specs.declared.program.Proc.{Proc}
use Rattle.civl_firing.specs.declared.store.Store.{Store}
use Rattle.civl_reduction.specs.blocks.Shadow.{merged_values, merged}
use Rattle.civl_followed.proofs.Codes.{chosen_so}
use Rattle.civl_followed.proofs.closing.choices_of.Goals as goal

pub returns : goal.returns
returns c proc there =
    let program = c.args.program.now in
    let frame = c.args.frame.now in
    let lower = c.args.walk.now.lower in
    let found = c.index-procs-frame.result in
    let procs = c.as_slice-procs.result.now in
    let at : slice_get program.procs frame.procedure ≡ Some found =
    sym (ap (λ (l : List Proc). slice_get l frame.procedure) c.as_slice-procs.ensures) ∙ slice_get_read procs (length procs) frame.procedure found refl (omega arith) c.index-procs-frame.is in
    let same = same_Some found proc (sym at ∙ there) in
    let after : ◌≡◌ {A = Store} (record { values = c.from_vec.result }) (merged program c.args.layer lower.config.store lower.shadow.store) =
    ap (λ (vs : List Value). record { values = vs }) (c.from_vec.ensures ∙ (c.in_ok-values.ensures ∙ ap (λ (gs : List Global). merged_values (c.args.layer + 1) gs lower.config.store.values lower.shadow.store.values) c.as_slice-globals.ensures)) in
    chosen_so program c.args.layer proc found frame c.as_slice.result.now c.args.opening.now.store c.args.opening.now.offered.items c.deref.result.now (merged program c.args.layer lower.config.store lower.shadow.store) (record { values = c.from_vec.result }) c.in_ok-chosen.chosen
    same c.as_slice.ensures c.deref.ensures.value after (c.in_ok-chosen.ensures frame.procedure frame.place)
