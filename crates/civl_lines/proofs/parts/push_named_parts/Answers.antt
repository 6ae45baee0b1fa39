use Rattle.std.specs.Prelude.{slice_get, option_map}
use Rattle.std.proofs.Common.{◌≡◌, ◌∙◌, List, map, length, Some, refl, ap, arith, subst}
use Rattle.std.proofs.lemmas.Option.{slice_get-map, slice_get_read}
use Rattle.civl_tree.specs.Spelling.{spell_expr}
use Rattle.civl_reasons.specs.Reasons.{Subformula, false_parts}
use Rattle.civl_reasons.specs.declared.reasons.Part.{Part}
use Rattle.civl_reasons.specs.inner.Told.{subformula}
use Rattle.civl_reasons.proofs.Standing.{parts_are_apart}
use Rattle.civl_lines.proofs.Fitting.{apart_fits}
use Rattle.civl_lines.proofs.parts.push_named_parts.Goals as goal

pub part_line-requires : goal.part_line-requires
part_line-requires g c =
    let part = c.part-item.result in
    let items = c.as_slice-part-items.result.now in
    let scope = g.B.Bindings.scope c.args.bindings.now in
    let e = c.args.formula.now.expr.now in
    let met : slice_get items c.loop-part.part-index ≡ Some part =
    slice_get_read items (length items) c.loop-part.part-index part refl c.loop-part-test.true c.part-item.is in
    let told : map subformula items ≡ false_parts scope e =
    ap (λ (ps : List Part). map subformula ps) c.as_slice-part-items.ensures.value ∙ c.in_ok-parts.ensures in
    let there : slice_get (map subformula items) c.loop-part.part-index ≡ Some (subformula part) =
    slice_get-map subformula items c.loop-part.part-index ∙ ap (option_map subformula) met in
    let fits = apart_fits 0 (false_parts scope e) (length (spell_expr e)) c.loop-part.part-index (subformula part) (parts_are_apart scope e)
    (subst (λ (ps : List Subformula). slice_get ps c.loop-part.part-index ≡ Some (subformula part)) told there) in
    omega (arith, fits, c.requires)
