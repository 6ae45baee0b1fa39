use Rattle.std.specs.Prelude.{IfSome, slice_get}
use Rattle.std.proofs.Common.{◌≡◌, ◌∙◌, ℕ, Option, Some, sym, subst, arith}
use Rattle.civl_tree.specs.declared.program.Proc.{Proc}
use Rattle.civl_tree.specs.declared.program.Program.{Program}
use Rattle.civl_layers.specs.Cuts.{proc_cuts}
use Rattle.civl_bodies.specs.Bodies.{IsBody}
use Rattle.civl_conditions.specs.declared.condition.Condition.TheVariants.{Path}
use Rattle.civl_conditions.specs.Violated.{violated}
use Rattle.civl_states.specs.Formulas.{sorts_of}
use Rattle.civl_refine.specs.Walked.{StartsAt, sorts_from}
use Rattle.civl_refine.proofs.Violating.{formula_as, path_from_same, path_is, path_weighs}
use Rattle.civl_refine.proofs.violations.path_fails.Goals as goal

pub path_at-requires-clause-there : goal.path_at-requires-clause-there
path_at-requires-clause-there c =
    let s = c.start_at-start.result in
    let at = c.start_at-start.ensures.at in
    subst (λ (n : ℕ). slice_get (proc_cuts s.proc.now) n ≡ Some s.cut) (sym at.place) at.cut

pub path_at-requires-clause-body : goal.path_at-requires-clause-body
path_at-requires-clause-body c =
    let s = c.start_at-start.result in
    let at = subst (λ (p : Program). StartsAt p c.args.step c.args.number c.args.place s) c.program-program.ensures.same c.start_at-start.ensures.at in
    subst (λ (o : Option Proc). IfSome o (λ q. IsBody q c.body_at-body.result.now)) at.proc c.body_at-body.ensures

pub path_at-requires-clause-sorts : goal.path_at-requires-clause-sorts
path_at-requires-clause-sorts c =
    let s = c.start_at-start.result in
    let at = subst (λ (p : Program). StartsAt p c.args.step c.args.number c.args.place s) c.program-program.ensures.same c.start_at-start.ensures.at in
    c.requires.sorts ∙ sym (path_from_same c.args.src.now c.args.step c.args.number c.args.place s at c.args.part)

pub returns-clause-says : goal.returns-clause-says
returns-clause-says c =
    let s = c.start_at-start.result in
    let p = c.args.src.now in
    let at = subst (λ (p : Program). StartsAt p c.args.step c.args.number c.args.place s) c.program-program.ensures.same c.start_at-start.ensures.at in
    formula_as c.path_at.new.terms c.in_ok-id.id (sorts_from s) (sorts_of p (Path c.args.part c.args.step c.args.number c.args.place)) _ (violated p (Path c.args.part c.args.step c.args.number c.args.place)) c.in_ok-id.ensures.says
    (path_from_same p c.args.step c.args.number c.args.place s at c.args.part) (path_is p c.args.step c.args.number c.args.place s at c.args.part)

pub returns-clause-weighs : goal.returns-clause-weighs
returns-clause-weighs c =
    let s = c.start_at-start.result in
    let at = subst (λ (p : Program). StartsAt p c.args.step c.args.number c.args.place s) c.program-program.ensures.same c.start_at-start.ensures.at in
    omega (arith, c.in_ok-id.ensures.weighs, path_weighs c.args.src.now c.args.step c.args.number c.args.place s at c.args.part)
