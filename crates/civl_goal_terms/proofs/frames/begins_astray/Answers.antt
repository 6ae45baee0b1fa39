use Rattle.std.specs.Prelude.{slice_get}
use Rattle.std.proofs.Common.{◌≡◌, ◌∙◌, List, ap, sym, subst, refl, map, length, false, Some, None}
use Rattle.std.proofs.lemmas.Option.{slice_get_read, slice_get_past}
use Rattle.civl_tree.specs.declared.expr.Sort.{Sort}
use Rattle.civl_tree.specs.declared.program.Proc.{Proc}
use Rattle.civl_firing.specs.Truth.{place_of}
use Rattle.civl_states.specs.formula_parts.Lists.{AreSaid}
use Rattle.civl_states.proofs.formula_parts.Saying.{constant_test, test_as}
use Rattle.civl_meaning.specs.Meaning.{proc_number}
use Rattle.civl_goal_terms.proofs.Framing.{sorts_named, astray_there, astray_none}
use Rattle.civl_goal_terms.proofs.frames.begins_astray.Goals as goal

pub returns-in_ok-id-in-Some-clause-tells : goal.returns-in_ok-id-in-Some-clause-tells
returns-in_ok-id-in-Some-clause-tells c = λ g v st sa.
    let p = c.args.program.now in
    let q = c.in-Some.proc.now in
    let name = c.args.name.now in
    let number = c.proc-number.result in
    let shown = c.as_slice-procs.result.now in
    let same : number ≡ proc_number p name = c.proc-number.ensures ∙ ap (λ (ps : List Proc). place_of (map (λ r. r.name) ps) name) c.as_slice-procs.ensures in
    let at : slice_get p.procs number ≡ Some q = subst (λ (ps : List Proc). slice_get ps number ≡ Some q) c.as_slice-procs.ensures (slice_get_read shown (length shown) number q refl c.in-Some.ensures.lookup.3.0 c.in-Some.ensures.lookup.1) in
    test_as _ _ _ _ (λ env. astray_there p name number q same at c.args.outline.now (g env) (v env))
    (c.in_ok-id-in-Some.ensures.tells g v st (subst (λ (ss : List Sort). AreSaid c.args.terms.now c.args.args ss v) (sorts_named p name q (subst (λ n. slice_get p.procs n ≡ Some q) same at)) sa))

pub returns-in_ok-id-in-None-clause-tells : goal.returns-in_ok-id-in-None-clause-tells
returns-in_ok-id-in-None-clause-tells c = λ g v st sa.
    let p = c.args.program.now in
    let name = c.args.name.now in
    let number = c.proc-number.result in
    let shown = c.as_slice-procs.result.now in
    let same : number ≡ proc_number p name = c.proc-number.ensures ∙ ap (λ (ps : List Proc). place_of (map (λ r. r.name) ps) name) c.as_slice-procs.ensures in
    let at : slice_get p.procs number ≡ None = ap (λ (ps : List Proc). slice_get ps number) (sym c.as_slice-procs.ensures) ∙ slice_get_past shown number c.in-None.ensures.lookup.3 in
    test_as _ _ _ _ (λ env. astray_none p name number same at c.args.outline.now (g env) (v env)) (constant_test c.args.terms.now c.constant.new.self c.in_ok-id-in-None.id false c.in_ok-id-in-None.ensures.built)
