use Rattle.std.specs.Prelude.{map, length}
use Rattle.std.proofs.Common.{◌≡◌, ◌∙◌, ◌<◌, List, sym, ap, subst, arith}
use Rattle.std.proofs.lemmas.Option.{slice_get_within}
use Rattle.civl_tree.specs.declared.action.Action.{Action}
use Rattle.civl_firing.specs.Truth.{place_of}
use Rattle.civl_body.proofs.Calling.{few_actions}
use Rattle.civl_refine.specs.Assuming.{IsRefined}
use Rattle.civl_refine.proofs.Cutting.{is_refined}
use Rattle.civl_refine.proofs.finding.refined_number.Goals as goal

pub overflow_cast-result : goal.overflow_cast-result
overflow_cast-result c =
    let p = c.args.program.now in
    let r = is_refined p c.requires.layered c.args.proc.now c.requires.proc c.in-Some.refines c.in-Some.is in
    let same : c.action.result ≡ place_of (map (λ a. a.name) p.actions) c.in-Some.refines.action = c.action.ensures ∙ ap (λ (xs : List Action). place_of (map (λ a. a.name) xs) c.in-Some.refines.action) c.as_slice.ensures in
    let within : place_of (map (λ a. a.name) p.actions) c.in-Some.refines.action < length p.actions = slice_get_within p.actions _ r.action r.is in
    omega (arith, same, within, few_actions p c.requires.layered)

pub returns : goal.returns
returns c =
    let p = c.args.program.now in
    let r = is_refined p c.requires.layered c.args.proc.now c.requires.proc c.in-Some.refines c.in-Some.is in
    let same : c.action.result ≡ place_of (map (λ a. a.name) p.actions) c.in-Some.refines.action = c.action.ensures ∙ ap (λ (xs : List Action). place_of (map (λ a. a.name) xs) c.in-Some.refines.action) c.as_slice.ensures in
    subst (IsRefined p c.args.proc.now) (sym same) r
