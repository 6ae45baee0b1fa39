use Rattle.std.specs.Prelude.{map, slice_get}
use Rattle.std.proofs.Common.{◌≡◌, ◌∙◌, List, Some, refl, sym, ap, subst, length, ◌<◌}
use Rattle.std.proofs.lemmas.Option.{slice_get_read}
use Rattle.civl_layers.specs.declared.cut.Cut.{Cut}
use Rattle.civl_layers.specs.Cuts.{proc_cuts}
use Rattle.civl_bodies.specs.Bodies.{ArePassed}
use Rattle.civl_states.specs.inner.Sorted.{cut_sorts}
use Rattle.civl_states.proofs.Calling.{passed_there}
use Rattle.civl_states.proofs.Grouping.{none_behind}
use Rattle.civl_states.proofs.sorts.push_from.Goals as goal

pub passed_from-requires : goal.passed_from-requires
passed_from-requires c =
    passed_there c.args.proc.now c.args.body.now c.args.number c.requires (subst (λ (cs : List Cut). c.args.number < length cs) (c.as_slice.ensures ∙ c.requires.cuts) c.in-Some.ensures.lookup.3.0)

pub push_path-requires-clause-flat : goal.push_path-requires-clause-flat
push_path-requires-clause-flat c = ap (map (λ s. s.now)) c.as_slice-in-Some.ensures.value ∙ c.requires.statements

pub push_path-requires-clause-passed : goal.push_path-requires-clause-passed
push_path-requires-clause-passed c =
    let cut = c.in-Some.cut.now in
    let shown = c.as_slice.result.now in
    let there : slice_get c.args.body.now.cuts c.args.number ≡ Some cut = subst (λ (cs : List Cut). slice_get cs c.args.number ≡ Some cut) c.as_slice.ensures (slice_get_read shown (length shown) c.args.number cut refl c.in-Some.ensures.lookup.3.0 c.in-Some.ensures.lookup.1) in
    subst (ArePassed c.args.proc.now cut) (sym c.as_slice-in-Some-2.ensures.value) (c.in_ok-passed-in-Some.ensures c.args.proc.now cut c.requires there)

pub returns-in-None : goal.returns-in-None
returns-in-None c =
    none_behind (cut_sorts c.args.program.now c.args.step c.args.proc.now) c.args.sorts.now.items _ (proc_cuts c.args.proc.now) c.args.number (c.as_slice.ensures ∙ c.requires.cuts) c.in-None.ensures.lookup.3
