use Rattle.std.proofs.Common.{◌≡◌, List, map, ap, ◌∙◌}
use Rattle.civl_tree.specs.declared.name.Name.{Name}
use Rattle.civl_tree.specs.rules.Names.{names_in_proc}
use Rattle.civl_linear.specs.Places.{stmt_held_twice}
use Rattle.civl_linear.proofs.Judged.{noted_same}
use Rattle.civl_linear.proofs.finders.DoubledLocalsFinder.find.Goals as goal

pub returns : goal.returns
returns c =
    let program = c.args.program.now in
    let names : map (λ name. name.now) c.deref.result.now ≡ names_in_proc c.args.proc.now = ap (map (λ name. name.now)) c.deref.ensures.value ∙ c.in_ok-names.ensures in
    c.first_with.ensures
    ∙ noted_same (stmt_held_twice program (map (λ name. name.now) c.deref.result.now)) _ _ _ _ _
    (ap (λ (ns : List Name). stmt_held_twice program ns) names)
    (ap (map (λ stmt. stmt.now)) c.deref-2.ensures.value ∙ c.in_ok-flat.ensures.statements)
    (c.deref-3.ensures.value ∙ c.in_ok-traced.ensures.befores)
