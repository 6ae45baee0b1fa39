use Rattle.std.proofs.Common.{◌≡◌, map, length, Some, refl, ap, ap₂, sym, ◌∙◌}
use Rattle.civl_tree.specs.Numbering.{statements_of, exit_number}
use Rattle.civl_names.specs.walks.Walks.{numbers_with}
use Rattle.civl_linear.specs.Held.{covers, exit_owed, traced_proc}
use Rattle.civl_linear.specs.LinearRules.{is_lost}
use Rattle.civl_linear.proofs.Judged.{noted_same, found_first, found_last, found_nothing}
use Rattle.civl_linear.proofs.finders.LostLocalsFinder.find.Goals as goal

pub returns-in-Some : goal.returns-in-Some
returns-in-Some c =
    let program = c.args.program.now in
    let proc = c.args.proc.now in
    sym (found_first (numbers_with is_lost 0 (statements_of proc.body) (traced_proc program proc).losses) _ c.in-Some.number
    (sym (noted_same is_lost is_lost _ _ _ _ refl (ap (map (λ stmt. stmt.now)) c.as_slice-all.ensures.value ∙ c.in_ok-flat.ensures.statements) (c.deref.ensures.value ∙ c.in_ok-traced.ensures.losses))
    ∙ sym c.first_with.ensures ∙ c.in-Some.is))

pub returns-then-covers : goal.returns-then-covers
returns-then-covers c =
    let program = c.args.program.now in
    let proc = c.args.proc.now in
    let kept : covers (exit_owed proc) (traced_proc program proc).after ≡ _ = sym (ap₂ covers c.in_ok-owed.ensures c.in_ok-traced.ensures.after) ∙ sym c.if-covers.ensures in
    sym (found_nothing (numbers_with is_lost 0 (statements_of proc.body) (traced_proc program proc).losses) _ (exit_number proc.body)
    (sym (noted_same is_lost is_lost _ _ _ _ refl (ap (map (λ stmt. stmt.now)) c.as_slice-all.ensures.value ∙ c.in_ok-flat.ensures.statements) (c.deref.ensures.value ∙ c.in_ok-traced.ensures.losses))
    ∙ sym c.first_with.ensures ∙ c.in_default.is) kept)

pub returns : goal.returns
returns c =
    let program = c.args.program.now in
    let proc = c.args.proc.now in
    let lost : covers (exit_owed proc) (traced_proc program proc).after ≡ _ = sym (ap₂ covers c.in_ok-owed.ensures c.in_ok-traced.ensures.after) ∙ sym c.if-covers.ensures in
    ap Some (ap length c.as_slice-all.ensures.value ∙ c.in_ok-flat.ensures.count)
    ∙ sym (found_last (numbers_with is_lost 0 (statements_of proc.body) (traced_proc program proc).losses) _ (exit_number proc.body)
    (sym (noted_same is_lost is_lost _ _ _ _ refl (ap (map (λ stmt. stmt.now)) c.as_slice-all.ensures.value ∙ c.in_ok-flat.ensures.statements) (c.deref.ensures.value ∙ c.in_ok-traced.ensures.losses))
    ∙ sym c.first_with.ensures ∙ c.in_default.is) lost)
