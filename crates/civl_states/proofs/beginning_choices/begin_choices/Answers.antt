use Rattle.std.specs.Prelude.{map, ℕ, List}
use Rattle.std.proofs.Common.{◌≡◌, ◌∙◌, sym, ap, subst, arith}
use Rattle.std.proofs.lemmas.Option.{slice_get_within}
use Rattle.std.specs.List.Sorted.{IsStrictlyIncreasing}
use Rattle.civl_tree.specs.declared.action.Choice.{Choice}
use Rattle.civl_tree.specs.Numbering.{statements_of}
use Rattle.civl_layers.specs.Cuts.{proc_cuts}
use Rattle.civl_bodies.specs.Bodies.{ArePassed}
use Rattle.civl_conditions.specs.Variables.{passed_choices}
use Rattle.civl_states.specs.formula_parts.Given.{bits_of_sorts}
use Rattle.civl_states.specs.declared.choices.Chosen.{Chosen}
use Rattle.civl_states.specs.Groups.{StandFrom}
use Rattle.civl_states.specs.Laying.{call_sorts, with_some, AreChosen}
use Rattle.civl_states.proofs.Calling.{calls_are, calls_rise, cut_there, passed_there}
use Rattle.civl_states.proofs.beginning_choices.begin_choices.Goals as goal

pub passed_from-requires : goal.passed_from-requires
passed_from-requires c = passed_there c.args.proc.now c.args.body.now c.args.number c.requires.body (slice_get_within (proc_cuts c.args.proc.now) c.args.number c.args.cut c.requires.there)

pub choices_from-requires-clause-stand : goal.choices_from-requires-clause-stand
choices_from-requires-clause-stand c =
    let ss : map (λ s. s.now) c.as_slice.result.now ≡ statements_of c.args.proc.now.body = ap (map (λ s. s.now)) c.as_slice.ensures.value ∙ c.requires.body.statements in
    let passed : ArePassed c.args.proc.now c.args.cut c.in_ok-passed.passed.items = c.in_ok-passed.ensures c.args.proc.now c.args.cut c.requires.body (cut_there c.args.proc.now c.args.body.now c.args.number c.args.cut c.requires.body c.requires.there) in
    let e = calls_are c.args.program.now c.args.step c.saturating_sub.result c.args.proc.now c.args.cut _ _ c.saturating_sub.ensures ss (c.as_slice-2.ensures.value ∙ passed.are) in
    subst (λ (qs : List (ℕ × List Choice)). StandFrom c.args.sorts.now c.args.first (call_sorts qs)) (sym e) c.requires.stand

pub returns-clause-chosen : goal.returns-clause-chosen
returns-clause-chosen c =
    let ss : map (λ s. s.now) c.as_slice.result.now ≡ statements_of c.args.proc.now.body = ap (map (λ s. s.now)) c.as_slice.ensures.value ∙ c.requires.body.statements in
    let passed : ArePassed c.args.proc.now c.args.cut c.in_ok-passed.passed.items = c.in_ok-passed.ensures c.args.proc.now c.args.cut c.requires.body (cut_there c.args.proc.now c.args.body.now c.args.number c.args.cut c.requires.body c.requires.there) in
    let e = calls_are c.args.program.now c.args.step c.saturating_sub.result c.args.proc.now c.args.cut _ _ c.saturating_sub.ensures ss (c.as_slice-2.ensures.value ∙ passed.are) in
    subst (λ (cs : List Chosen). AreChosen c.choices_from.new.terms cs (with_some (passed_choices c.args.program.now c.args.step c.args.proc.now c.args.cut)) c.args.first) (sym c.from_vec.ensures)
    (subst (λ (qs : List (ℕ × List Choice)). AreChosen c.choices_from.new.terms c.in_ok-calls.calls.items (with_some qs) c.args.first) e c.in_ok-calls.ensures.chosen)

pub returns-clause-weighs : goal.returns-clause-weighs
returns-clause-weighs c =
    let ss : map (λ s. s.now) c.as_slice.result.now ≡ statements_of c.args.proc.now.body = ap (map (λ s. s.now)) c.as_slice.ensures.value ∙ c.requires.body.statements in
    let passed : ArePassed c.args.proc.now c.args.cut c.in_ok-passed.passed.items = c.in_ok-passed.ensures c.args.proc.now c.args.cut c.requires.body (cut_there c.args.proc.now c.args.body.now c.args.number c.args.cut c.requires.body c.requires.there) in
    let e = calls_are c.args.program.now c.args.step c.saturating_sub.result c.args.proc.now c.args.cut _ _ c.saturating_sub.ensures ss (c.as_slice-2.ensures.value ∙ passed.are) in
    omega (arith, c.in_ok-calls.ensures.weighs, ap (λ (qs : List (ℕ × List Choice)). bits_of_sorts (call_sorts qs)) e)

pub from_vec-requires : goal.from_vec-requires
from_vec-requires c =
    let passed : ArePassed c.args.proc.now c.args.cut c.in_ok-passed.passed.items = c.in_ok-passed.ensures c.args.proc.now c.args.cut c.requires.body (cut_there c.args.proc.now c.args.body.now c.args.number c.args.cut c.requires.body c.requires.there) in
    calls_rise c.choices_from.new.terms c.in_ok-calls.calls.items c.args.program.now c.saturating_sub.result (map (λ s. s.now) c.as_slice.result.now) c.as_slice-2.result.now c.args.first c.in_ok-calls.ensures.chosen
    (subst IsStrictlyIncreasing (sym c.as_slice-2.ensures.value) passed.rise)
