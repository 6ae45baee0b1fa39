-- A body has a statement where its list isn't empty.
use Rattle.std.proofs.Common.{◌≡◌, List, [], ◌∷◌, length, refl, sym, ◌∙◌, arith}
use Rattle.std.specs.Prelude.{nat_lt}
use Rattle.std.proofs.lemmas.Bool.{lt-ltb}
use Rattle.civl_tree.specs.declared.stmt.Stmt.{Stmt}
use Rattle.civl_tree.specs.Numbering.{sizes_of}
use Rattle.civl_tree.proofs.Numbers.{sizes_more}
use Rattle.civl_tree.proofs.Sizes.{size_is_some}

pub some_statement : (body : List Stmt) → nat_lt 0 (length body) ≡ nat_lt 0 (sizes_of body)
some_statement [] = refl
some_statement (stmt ∷ body) =
    let some = size_is_some stmt in
    lt-ltb 0 (length (stmt ∷ body)) (omega arith) ∙ sym (lt-ltb 0 (sizes_of (stmt ∷ body)) (omega (arith, sizes_more stmt body)))
