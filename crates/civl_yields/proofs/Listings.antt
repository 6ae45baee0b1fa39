-- The phases before calls, statement by statement.
use Rattle.std.proofs.Common.{◌≡◌, Bool, true, false, List, [], ◌∷◌, ◌++◌, sym, ap, ap₂, ◌∙◌, append_assoc, append-nil}
use Rattle.std.specs.Prelude.{if◌then◌else◌}
use Rattle.civl_tree.specs.declared.stmt.Stmt.{Stmt}
use Rattle.civl_yields.specs.Phases.{before_calls, is_call}

pub calls_next : (old new : List Bool) (stmts : List Stmt) (phases : List Bool) (stmt : Stmt) (rest : List Stmt) (phase : Bool) (others : List Bool) → stmts ≡ stmt ∷ rest → phases ≡ phase ∷ others
    → new ≡ old ++ (if is_call stmt then phase ∷ [] else []) → new ++ before_calls rest others ≡ old ++ before_calls stmts phases
calls_next old new stmts phases stmt rest phase others e f n =
    ap (λ (bs : List Bool). bs ++ before_calls rest others) n ∙ append_assoc old (if is_call stmt then phase ∷ [] else []) (before_calls rest others)
    ∙ sym (ap₂ (λ (ss : List Stmt) (ps : List Bool). old ++ before_calls ss ps) e f)

pub calls_noteless : (old : List Bool) (stmts : List Stmt) (phases : List Bool) (stmt : Stmt) (rest : List Stmt) → stmts ≡ stmt ∷ rest → phases ≡ [] → old ≡ old ++ before_calls stmts phases
calls_noteless old stmts phases stmt rest e f = sym (ap₂ (λ (ss : List Stmt) (ps : List Bool). old ++ before_calls ss ps) e f ∙ append-nil old)

pub calls_none : (old : List Bool) (stmts : List Stmt) (phases : List Bool) → stmts ≡ [] → old ≡ old ++ before_calls stmts phases
calls_none old stmts phases e = sym (ap (λ (ss : List Stmt). old ++ before_calls ss phases) e ∙ append-nil old)

-- what is added for a statement
pub call_added : (old new : List Bool) (stmt : Stmt) (phase : Bool) → is_call stmt ≡ true → new ≡ old ++ phase ∷ [] → new ≡ old ++ (if is_call stmt then phase ∷ [] else [])
call_added old new stmt phase h n = n ∙ sym (ap (λ (b : Bool). old ++ (if b then phase ∷ [] else [])) h)

pub none_added : (old new : List Bool) (stmt : Stmt) (phase : Bool) → is_call stmt ≡ false → new ≡ old → new ≡ old ++ (if is_call stmt then phase ∷ [] else [])
none_added old new stmt phase h n = n ∙ sym (ap (λ (b : Bool). old ++ (if b then phase ∷ [] else [])) h ∙ append-nil old)
