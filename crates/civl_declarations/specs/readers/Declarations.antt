-- Serves the parser: readers of declarations but actions and procedures. The number d says how many more brackets
-- may be open; `new` says that the version is 2.
use Rattle.std.specs.Prelude.{ℕ, Bool, List, codes}
use Rattle.civl_tree.specs.Token.{Token, Reserved}
use Rattle.civl_tree.specs.Spelling.{semicolon, colon}
use Rattle.civl_tree.specs.declared.name.Name.{Name}
use Rattle.civl_tree.specs.declared.expr.Sort.{Sort}
use Rattle.civl_tree.specs.declared.expr.Expr.{Expr}
use Rattle.civl_tree.specs.declared.program.Global.{Global}
use Rattle.civl_tree.specs.declared.program.Invariant.{Invariant}
use Rattle.civl_tree.specs.declared.program.Thread.{Thread}
use Rattle.civl_phrases.specs.Reader.{Reader, after, both, mapped, then_token, flagged}
use Rattle.civl_phrases.specs.Leaf.{a_number}
use Rattle.civl_expressions.specs.readers.Names.{name_at}
use Rattle.civl_expressions.specs.readers.Exprs.{sort_at, expr_at, args_at}
use Rattle.civl_declarations.specs.readers.Actions.{range_at}

-- ---- declarations

abbrev pub global_word : Token
global_word = Reserved (codes "global")

abbrev pub invariant_word : Token
invariant_word = Reserved (codes "invariant")

abbrev pub thread_word : Token
thread_word = Reserved (codes "thread")

abbrev pub make_global : Bool × (Name × (Sort × (ℕ × ℕ))) → Global
make_global p = record { linear = p.0; name = p.1.0; sort = p.1.1.0; first = p.1.1.1.0; last = p.1.1.1.1 }

unfoldable pub global_at : ℕ → Reader Global
global_at d =
    mapped make_global (after global_word (both (flagged (Reserved (codes "linear")))
    (λ _. both name_at (λ _. after colon (both (sort_at d) (λ _. then_token semicolon range_at))))))

unfoldable pub init_at : Bool → ℕ → Reader Expr
init_at new d = after (Reserved (codes "init")) (then_token semicolon (expr_at new d))

abbrev pub make_invariant : ℕ × Expr → Invariant
make_invariant p = record { step = p.0; expr = p.1 }

unfoldable pub invariant_at : Bool → ℕ → Reader Invariant
invariant_at new d = mapped make_invariant (after invariant_word (both a_number (λ _. then_token semicolon (expr_at new d))))

abbrev pub make_thread : Name × List Expr → Thread
make_thread p = record { callee = p.0; args = p.1 }

unfoldable pub thread_at : Bool → ℕ → Reader Thread
thread_at new d = mapped make_thread (after thread_word (both name_at (λ _. then_token semicolon (args_at new d))))
