-- Where statements begin, layer by layer, and walks over starts.
use Rattle.std.proofs.Common.{◌≡◌, ℕ, zero, suc, ◌+◌, ◌<◌, List, [], ◌∷◌, ◌++◌, map, length, get_or, drop, drop-cons, add-one, refl, sym, ap, ◌∙◌}
use Rattle.civl_tree.specs.declared.stmt.Stmt.{Stmt, out-Stmt, roll-out-Stmt, map-Stmt}
use Rattle.civl_tree.specs.declared.stmt.Stmt.TheOpen.{Stmt-F, Assign, Assert, If, While, YieldLoop, RankLoop, Call, Yield, Commit, Intro, Spawn}
use Rattle.civl_tree.specs.declared.stmt.Stmt.TheFolds.{para-roll-Stmt}
use Rattle.civl_tree.specs.Token.{Token}
use Rattle.civl_tree.specs.Spelling.{joined, spell_expr}
use Rattle.civl_tree.specs.SpellingStmt.{spell_stmt}
use Rattle.civl_places.specs.declared.walk.Walk.{Walk}
use Rattle.civl_places.specs.declared.walk.Walk.TheVariants.{Found, Left}
use Rattle.civl_places.specs.Starts.{starts_among, inner_step, inner_starts, starts_of}
use Rattle.civl_places.specs.inner.Walked.{walked, go_on}
use Rattle.civl_places.proofs.Counts.{counts}

-- ---- starts

abbrev with_own : Stmt → Stmt × (ℕ → List ℕ)
with_own stmt = (stmt, inner_starts stmt)

own_starts : (at : ℕ) (stmts : List Stmt) → starts_among at (map with_own stmts) ≡ starts_of at stmts
own_starts at [] = refl
own_starts at (stmt ∷ stmts) = ap (λ (l : List ℕ). (at ∷ inner_starts stmt at) ++ l) (own_starts (at + length (spell_stmt stmt)) stmts)

own_tokens : (stmts : List Stmt) → map (λ part. spell_stmt part.0) (map with_own stmts) ≡ map spell_stmt stmts
own_tokens [] = refl
own_tokens (stmt ∷ stmts) = ap (λ (l : List (List Token)). spell_stmt stmt ∷ l) (own_tokens stmts)

-- where the statements in a statement begin, where each part is a statement
abbrev pub starts_layer : Stmt-F Stmt → ℕ → List ℕ
starts_layer (Assign target value) at = []
starts_layer (Assert fact) at = []
starts_layer (If test first second) at =
    starts_of (at + length (spell_expr test) + 2) first
    ++ starts_of (at + length (spell_expr test) + 2 + length (joined (map spell_stmt first)) + 3) second
starts_layer (While test body) at = starts_of (at + length (spell_expr test) + 2) body
starts_layer (YieldLoop test inv body) at = starts_of (at + length (spell_expr test) + length (spell_expr inv) + 4) body
starts_layer (RankLoop test rank inv body) at =
    starts_of (at + length (spell_expr test) + length (spell_expr rank) + length (spell_expr inv) + 5) body
starts_layer (Call callee args results) at = []
starts_layer (Yield inv) at = []
starts_layer Commit at = []
starts_layer (Intro target value) at = []
starts_layer (Spawn callee args) at = []

step_is : (layer : Stmt-F Stmt) (at : ℕ) → inner_step (map-Stmt Stmt (Stmt × (ℕ → List ℕ)) with_own layer) at ≡ starts_layer layer at
step_is (Assign target value) at = refl
step_is (Assert fact) at = refl
step_is (If test first second) at = rw (own_tokens first, own_starts _ first, own_starts _ second) refl
step_is (While test body) at = own_starts _ body
step_is (YieldLoop test inv body) at = own_starts _ body
step_is (RankLoop test rank inv body) at = own_starts _ body
step_is (Call callee args results) at = refl
step_is (Yield inv) at = refl
step_is Commit at = refl
step_is (Intro target value) at = refl
step_is (Spawn callee args) at = refl

pub starts_is : (stmt : Stmt) (at : ℕ) → inner_starts stmt at ≡ starts_layer (out-Stmt stmt) at
starts_is stmt at =
    ap (λ (s : Stmt). inner_starts s at) (sym (roll-out-Stmt stmt))
    ∙ ap (λ (f : ℕ → List ℕ). f at) (para-roll-Stmt (ℕ → List ℕ) inner_step (out-Stmt stmt))
    ∙ step_is (out-Stmt stmt) at

-- ---- walks

pub walked_both : (xs ys : List ℕ) (number : ℕ) → walked (xs ++ ys) number ≡ go_on (walked xs number) ys
walked_both [] ys number = refl
walked_both (x ∷ xs) ys zero = refl
walked_both (x ∷ xs) ys (suc number) = walked_both xs ys number

pub starts_rest : (stmts : List Stmt) (i : ℕ) (s : Stmt) (at : ℕ) → i < length stmts → s ≡ get_or stmts i s
    → starts_of at (drop i stmts) ≡ (at ∷ inner_starts s at) ++ starts_of (at + length (spell_stmt s)) (drop (i + 1) stmts)
starts_rest stmts i s at h e = rw (add-one, drop-cons stmts i s, ← e) refl

-- the walk ends in the statement at this place, or goes on behind it
pub ends_here : (stmts : List Stmt) (i : ℕ) (s : Stmt) (at left token : ℕ) (w : Walk) → i < length stmts → s ≡ get_or stmts i s
    → w ≡ walked (at ∷ inner_starts s at) left → w ≡ Found token → walked (starts_of at (drop i stmts)) left ≡ Found token
ends_here stmts i s at left token w h e known is =
    ap (λ (l : List ℕ). walked l left) (starts_rest stmts i s at h e)
    ∙ walked_both (at ∷ inner_starts s at) (starts_of (at + length (spell_stmt s)) (drop (i + 1) stmts)) left
    ∙ ap (λ (x : Walk). go_on x (starts_of (at + length (spell_stmt s)) (drop (i + 1) stmts))) (sym known ∙ is)

pub goes_on : (stmts : List Stmt) (i : ℕ) (s : Stmt) (at left rest size : ℕ) (w : Walk) → i < length stmts → s ≡ get_or stmts i s
    → w ≡ walked (at ∷ inner_starts s at) left → w ≡ Left rest → size ≡ length (spell_stmt s)
    → walked (starts_of at (drop i stmts)) left ≡ walked (starts_of (at + size) (drop (i + 1) stmts)) rest
goes_on stmts i s at left rest size w h e known is sized =
    ap (λ (l : List ℕ). walked l left) (starts_rest stmts i s at h e)
    ∙ walked_both (at ∷ inner_starts s at) (starts_of (at + length (spell_stmt s)) (drop (i + 1) stmts)) left
    ∙ ap (λ (x : Walk). go_on x (starts_of (at + length (spell_stmt s)) (drop (i + 1) stmts))) (sym known ∙ is)
    ∙ ap (λ (n : ℕ). walked (starts_of (at + n) (drop (i + 1) stmts)) rest) (sym sized)

pub ruleset walking = (counts, starts_is, walked_both)
