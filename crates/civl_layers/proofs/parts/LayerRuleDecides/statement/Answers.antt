use Rattle.std.proofs.Common.{◌∙◌, List, ap, take}
use Rattle.civl_tree.specs.declared.program.Proc.{Proc}
use Rattle.civl_tree.specs.Numbering.{statements_of}
use Rattle.civl_tree.specs.rules.Rules.{numbers_where, first_of}
use Rattle.civl_layers.specs.inner.Asked.{stmt_breaks}
use Rattle.civl_layers.proofs.Telling.{statements_told}
use Rattle.civl_layers.proofs.parts.LayerRuleDecides.statement.Goals as goal

pub returns : goal.returns
returns c =
    let rule = c.args.self.now in
    let program = c.args.program.now in
    let proc = c.args.proc.now in
    c.first_in_body.ensures
    ∙ ap (λ (procs : List Proc). first_of (numbers_where (stmt_breaks rule program (take c.args.place procs) proc) 0 (statements_of proc.body))) c.as_slice.ensures
    ∙ ap first_of (statements_told rule program c.args.place proc)
