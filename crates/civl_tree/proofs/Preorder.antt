-- The statements in a statement, one layer at a time.
use Rattle.std.proofs.Common.{◌≡◌, List, [], ◌++◌, map, refl, sym, ap, ◌∙◌}
use Rattle.std.specs.List.{flat_map}
use Rattle.std.proofs.lemmas.List.Folds.{flat_map-map}
use Rattle.civl_tree.specs.declared.stmt.Stmt.{Stmt, out-Stmt, roll-out-Stmt, map-Stmt}
use Rattle.civl_tree.specs.declared.stmt.Stmt.TheOpen.{Stmt-F, Assign, Assert, If, While, YieldLoop, RankLoop, Call, Yield, Commit, Intro, Spawn}
use Rattle.civl_tree.specs.declared.stmt.Stmt.TheFolds.{para-roll-Stmt}
use Rattle.civl_tree.specs.Numbering.{inner_step, inner_of, with_inner, statements_of}
use Rattle.civl_tree.proofs.Trees.{of_trees}

-- the statements in a statement, where each part is a statement
abbrev pub inner_layer : Stmt-F Stmt → List Stmt
inner_layer (Assign target value) = []
inner_layer (Assert fact) = []
inner_layer (If test first second) = statements_of first ++ statements_of second
inner_layer (While test body) = statements_of body
inner_layer (YieldLoop test inv body) = statements_of body
inner_layer (RankLoop test rank inv body) = statements_of body
inner_layer (Call callee args results) = []
inner_layer (Yield inv) = []
inner_layer Commit = []
inner_layer (Intro target value) = []
inner_layer (Spawn callee args) = []

abbrev with_own : Stmt → Stmt × List Stmt
with_own stmt = (stmt, inner_of stmt)

own_statements : (stmts : List Stmt) → flat_map with_inner (map with_own stmts) ≡ statements_of stmts
own_statements stmts = flat_map-map with_inner with_own stmts

inner_step_is : (layer : Stmt-F Stmt) → inner_step (map-Stmt Stmt (Stmt × List Stmt) with_own layer) ≡ inner_layer layer
inner_step_is (Assign target value) = refl
inner_step_is (Assert fact) = refl
inner_step_is (If test first second) = ap (λ (stmts : List Stmt). stmts ++ flat_map with_inner (map with_own second)) (own_statements first) ∙ ap (λ (stmts : List Stmt). statements_of first ++ stmts) (own_statements second)
inner_step_is (While test body) = own_statements body
inner_step_is (YieldLoop test inv body) = own_statements body
inner_step_is (RankLoop test rank inv body) = own_statements body
inner_step_is (Call callee args results) = refl
inner_step_is (Yield inv) = refl
inner_step_is Commit = refl
inner_step_is (Intro target value) = refl
inner_step_is (Spawn callee args) = refl

-- the statements in a statement are those of its layer
pub inner_is : (stmt : Stmt) → inner_of stmt ≡ inner_layer (out-Stmt stmt)
inner_is stmt = ap inner_of (sym (roll-out-Stmt stmt)) ∙ para-roll-Stmt (List Stmt) inner_step (out-Stmt stmt) ∙ inner_step_is (out-Stmt stmt)

pub ruleset preorder = (inner_is, of_trees)
