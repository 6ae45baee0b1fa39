use Rattle.std.proofs.Common.{◌≡◌, ◌++◌, map, length, ap, sym, ◌∙◌}
use Rattle.std.proofs.lemmas.List.{length-map}
use Rattle.civl_tree.specs.declared.stmt.Stmt.{Stmt}
use Rattle.civl_tree.specs.Numbering.{statements_of}
use Rattle.civl_tree.proofs.Numbers.{sizes_are_counts}
use Rattle.civl_names.proofs.walks.flat.statements.Goals as goal

pub returns-clause-count : goal.returns-clause-count
returns-clause-count c =
    let all : map (λ stmt. stmt.now) c.add_all.new.flat.items ≡ statements_of c.args.body.now =
    c.in_ok-add_all.ensures ∙ ap (λ xs. map (λ stmt. stmt.now) xs ++ statements_of c.args.body.now) c.new-flat.ensures.items in
    sym (length-map c.add_all.new.flat.items (λ stmt. stmt.now)) ∙ ap (length {A = Stmt}) all ∙ sizes_are_counts c.args.body.now
