-- Statements are read as they are spelled.
use Rattle.std.proofs.Common.{◌≡◌, ℕ, zero, suc, ◌-◌, ◌<◌, Bool, true, false, List, [], ◌∷◌, ◌++◌, map, Option, None, Some, refl, sym, ap, subst, ◌∙◌, arith, inl, inr, ◌⊎◌}
use Rattle.std.specs.Prelude.{codes, IsTrue, ◌&&◌}
use Rattle.std.specs.List.{AllByRecursion, list_all}
use Rattle.std.proofs.lemmas.Bool.{and_from}
use Rattle.civl_tree.specs.Token.{Token, Named, Reserved, Sign, Number}
use Rattle.civl_tree.specs.Spelling.{open_paren, close_paren, open_brace, close_brace, semicolon, becomes, arrow, name_token, enclosed, block, spell_expr}
use Rattle.civl_tree.specs.SpellingStmt.{spell_name, stmt_step, spell_stmt}
use Rattle.civl_tree.specs.SpellingDomain.{allows_name, allows_expr, all_hold, allows_stmt_step, allows_stmt}
use Rattle.civl_tree.specs.declared.name.Name.{Name}
use Rattle.civl_tree.specs.declared.expr.Expr.{Expr}
use Rattle.civl_tree.specs.declared.stmt.Stmt.{Stmt, roll-Stmt, out-Stmt, roll-out-Stmt}
use Rattle.civl_tree.specs.declared.stmt.Stmt.TheVariants as stmt
use Rattle.civl_tree.specs.declared.stmt.Stmt.TheVariants.{rolls-Assign, rolls-Assert, rolls-If, rolls-While, rolls-YieldLoop, rolls-RankLoop, rolls-Call, rolls-Yield, rolls-Commit, rolls-Intro, rolls-Spawn}
use Rattle.civl_tree.specs.declared.stmt.Stmt.TheOpen as layer
use Rattle.civl_tree.specs.declared.stmt.Stmt.TheFolds.{fold-roll-Stmt}
use Rattle.civl_phrases.specs.Reader.{Reader, begins, chosen}
use Rattle.civl_phrases.specs.Table.{is_form}
use Rattle.civl_phrases.specs.Phrase.{Any, IsReader, Heads, Image}
use Rattle.civl_phrases.proofs.Joins.{both_is, image_is, refit_is, chosen_is, by_form_is}
use Rattle.civl_phrases.proofs.Tokens.{after_is, then_is, done_is}
use Rattle.civl_phrases.proofs.Lists.{bracketed_is, braced_is}
use Rattle.civl_phrases.proofs.Heads.{heads_after, heads_leaf, heads_both, heads_image, heads_either, excludes}
use Rattle.civl_phrases.proofs.Tables.{and_parts, form_has}
use Rattle.civl_statements.specs.declared.forms.StmtForm.{StmtForm}
use Rattle.civl_statements.specs.declared.forms.StmtForm.TheVariants as forms
use Rattle.civl_expressions.specs.readers.Names.{FitsName}
use Rattle.civl_expressions.specs.readers.Exprs.{FitsExpr}
use Rattle.civl_statements.specs.readers.Stmts.{stmt_table, has_form, stmt_form, stmt_next, results_at, assign_at, assert_at, call_at, yield_at, commit_at, intro_at, spawn_at, block_at, if_at, Loop, Plain, Yields, Ranked, of_loop, plain_loop_at, inv_body_at, yield_loop_at, by_body_at, rank_loop_at, while_at, stmt_as, stmt_by, inner_stmt, stmt_at, FitsStmt}
use Rattle.civl_expressions.proofs.OfNames.{name_is}
use Rattle.civl_expressions.proofs.Lists.{all_from, all_to, held_from, held_to}
use Rattle.civl_expressions.proofs.OfExprs.{args_is, expr_is, expr_not}

-- ---- lists in parentheses

results_is : (d : ℕ) → IsReader d d Any (enclosed spell_name) (AllByRecursion FitsName) (results_at d)
unfolding results_at
results_is d = bracketed_is {s1 = spell_name} d open_paren close_paren refl refl refl refl refl (heads_leaf name_token (begins close_paren) false (λ n. refl)) (λ c e. name_is c)

-- ---- how each form is spelled, and when the grammar can write it

abbrev spell_block : List Stmt → List Token
spell_block body = block (map spell_stmt body)

spell_assign : (n : Name) (e : Expr) → spell_stmt (stmt.Assign n e) ≡ name_token n ∷ becomes ∷ spell_expr e ++ semicolon ∷ []
spell_assign n e = ap spell_stmt (sym (rolls-Assign n e)) ∙ fold-roll-Stmt (List Token) stmt_step (layer.Assign n e)

spell_assert : (e : Expr) → spell_stmt (stmt.Assert e) ≡ Reserved (codes "assert") ∷ spell_expr e ++ semicolon ∷ []
spell_assert e = ap spell_stmt (sym (rolls-Assert e)) ∙ fold-roll-Stmt (List Token) stmt_step (layer.Assert e)

spell_if : (e : Expr) (a : List Stmt) (b : List Stmt) → spell_stmt (stmt.If e a b) ≡ Reserved (codes "if") ∷ spell_expr e ++ (spell_block a ++ (Reserved (codes "else") ∷ spell_block b))
spell_if e a b = ap spell_stmt (sym (rolls-If e a b)) ∙ fold-roll-Stmt (List Token) stmt_step (layer.If e a b)

spell_while : (e : Expr) (a : List Stmt) → spell_stmt (stmt.While e a) ≡ Reserved (codes "while") ∷ spell_expr e ++ spell_block a
spell_while e a = ap spell_stmt (sym (rolls-While e a)) ∙ fold-roll-Stmt (List Token) stmt_step (layer.While e a)

spell_yieldloop : (e : Expr) (i : Expr) (a : List Stmt) → spell_stmt (stmt.YieldLoop e i a) ≡ Reserved (codes "while") ∷ Reserved (codes "yield") ∷ spell_expr e ++ (Reserved (codes "inv") ∷ spell_expr i ++ spell_block a)
spell_yieldloop e i a = ap spell_stmt (sym (rolls-YieldLoop e i a)) ∙ fold-roll-Stmt (List Token) stmt_step (layer.YieldLoop e i a)

spell_rankloop : (e : Expr) (r : Expr) (i : Expr) (a : List Stmt) → spell_stmt (stmt.RankLoop e r i a) ≡ Reserved (codes "while") ∷ Reserved (codes "rank") ∷ spell_expr e ++ (Reserved (codes "by") ∷ spell_expr r ++ (Reserved (codes "inv") ∷ spell_expr i ++ spell_block a))
spell_rankloop e r i a = ap spell_stmt (sym (rolls-RankLoop e r i a)) ∙ fold-roll-Stmt (List Token) stmt_step (layer.RankLoop e r i a)

spell_call : (n : Name) (xs : List Expr) (ns : List Name) → spell_stmt (stmt.Call n xs ns) ≡ Reserved (codes "call") ∷ name_token n ∷ enclosed spell_expr xs ++ (arrow ∷ enclosed spell_name ns ++ semicolon ∷ [])
spell_call n xs ns = ap spell_stmt (sym (rolls-Call n xs ns)) ∙ fold-roll-Stmt (List Token) stmt_step (layer.Call n xs ns)

spell_yield : (e : Expr) → spell_stmt (stmt.Yield e) ≡ Reserved (codes "yield") ∷ spell_expr e ++ semicolon ∷ []
spell_yield e = ap spell_stmt (sym (rolls-Yield e)) ∙ fold-roll-Stmt (List Token) stmt_step (layer.Yield e)

spell_commit : spell_stmt stmt.Commit ≡ Reserved (codes "commit") ∷ semicolon ∷ []
spell_commit = ap spell_stmt (sym rolls-Commit) ∙ fold-roll-Stmt (List Token) stmt_step layer.Commit

spell_intro : (n : Name) (e : Expr) → spell_stmt (stmt.Intro n e) ≡ Reserved (codes "intro") ∷ name_token n ∷ becomes ∷ spell_expr e ++ semicolon ∷ []
spell_intro n e = ap spell_stmt (sym (rolls-Intro n e)) ∙ fold-roll-Stmt (List Token) stmt_step (layer.Intro n e)

spell_spawn : (n : Name) (xs : List Expr) → spell_stmt (stmt.Spawn n xs) ≡ Reserved (codes "spawn") ∷ name_token n ∷ enclosed spell_expr xs ++ semicolon ∷ []
spell_spawn n xs = ap spell_stmt (sym (rolls-Spawn n xs)) ∙ fold-roll-Stmt (List Token) stmt_step (layer.Spawn n xs)

allows_assign : (new : Bool) (n : Name) (e : Expr) → allows_stmt new (stmt.Assign n e) ≡ (allows_name n && allows_expr new e)
allows_assign new n e = ap (allows_stmt new) (sym (rolls-Assign n e)) ∙ fold-roll-Stmt Bool (allows_stmt_step new) (layer.Assign n e)

allows_assert : (new : Bool) (e : Expr) → allows_stmt new (stmt.Assert e) ≡ allows_expr new e
allows_assert new e = ap (allows_stmt new) (sym (rolls-Assert e)) ∙ fold-roll-Stmt Bool (allows_stmt_step new) (layer.Assert e)

allows_if : (new : Bool) (e : Expr) (a : List Stmt) (b : List Stmt) → allows_stmt new (stmt.If e a b) ≡ (allows_expr new e && (all_hold (map (allows_stmt new) a) && all_hold (map (allows_stmt new) b)))
allows_if new e a b = ap (allows_stmt new) (sym (rolls-If e a b)) ∙ fold-roll-Stmt Bool (allows_stmt_step new) (layer.If e a b)

allows_while : (new : Bool) (e : Expr) (a : List Stmt) → allows_stmt new (stmt.While e a) ≡ (allows_expr new e && all_hold (map (allows_stmt new) a))
allows_while new e a = ap (allows_stmt new) (sym (rolls-While e a)) ∙ fold-roll-Stmt Bool (allows_stmt_step new) (layer.While e a)

allows_yieldloop : (new : Bool) (e : Expr) (i : Expr) (a : List Stmt) → allows_stmt new (stmt.YieldLoop e i a) ≡ (allows_expr new e && (allows_expr new i && all_hold (map (allows_stmt new) a)))
allows_yieldloop new e i a = ap (allows_stmt new) (sym (rolls-YieldLoop e i a)) ∙ fold-roll-Stmt Bool (allows_stmt_step new) (layer.YieldLoop e i a)

allows_rankloop : (new : Bool) (e : Expr) (r : Expr) (i : Expr) (a : List Stmt) → allows_stmt new (stmt.RankLoop e r i a) ≡ (allows_expr new e && (allows_expr new r && (allows_expr new i && all_hold (map (allows_stmt new) a))))
allows_rankloop new e r i a = ap (allows_stmt new) (sym (rolls-RankLoop e r i a)) ∙ fold-roll-Stmt Bool (allows_stmt_step new) (layer.RankLoop e r i a)

allows_call : (new : Bool) (n : Name) (xs : List Expr) (ns : List Name) → allows_stmt new (stmt.Call n xs ns) ≡ (allows_name n && (list_all (allows_expr new) xs && list_all allows_name ns))
allows_call new n xs ns = ap (allows_stmt new) (sym (rolls-Call n xs ns)) ∙ fold-roll-Stmt Bool (allows_stmt_step new) (layer.Call n xs ns)

allows_yield : (new : Bool) (e : Expr) → allows_stmt new (stmt.Yield e) ≡ allows_expr new e
allows_yield new e = ap (allows_stmt new) (sym (rolls-Yield e)) ∙ fold-roll-Stmt Bool (allows_stmt_step new) (layer.Yield e)

allows_commit : (new : Bool) → allows_stmt new stmt.Commit ≡ true
allows_commit new = ap (allows_stmt new) (sym rolls-Commit) ∙ fold-roll-Stmt Bool (allows_stmt_step new) layer.Commit

allows_intro : (new : Bool) (n : Name) (e : Expr) → allows_stmt new (stmt.Intro n e) ≡ (allows_name n && allows_expr new e)
allows_intro new n e = ap (allows_stmt new) (sym (rolls-Intro n e)) ∙ fold-roll-Stmt Bool (allows_stmt_step new) (layer.Intro n e)

allows_spawn : (new : Bool) (n : Name) (xs : List Expr) → allows_stmt new (stmt.Spawn n xs) ≡ (new && (allows_name n && list_all (allows_expr new) xs))
allows_spawn new n xs = ap (allows_stmt new) (sym (rolls-Spawn n xs)) ∙ fold-roll-Stmt Bool (allows_stmt_step new) (layer.Spawn n xs)

-- ---- the forms

abbrev FitBody : Bool → List Stmt → Type 0
FitBody new body = AllByRecursion (FitsStmt new) body

abbrev loop_spell : Loop → List Token
loop_spell (Plain e a) = spell_expr e ++ spell_block a
loop_spell (Yields e i a) = Reserved (codes "yield") ∷ spell_expr e ++ (Reserved (codes "inv") ∷ spell_expr i ++ spell_block a)
loop_spell (Ranked e r i a) = Reserved (codes "rank") ∷ spell_expr e ++ (Reserved (codes "by") ∷ spell_expr r ++ (Reserved (codes "inv") ∷ spell_expr i ++ spell_block a))

abbrev LoopFits : Bool → Loop → Type 0
LoopFits new (Plain e a) = FitsExpr new e × FitBody new a
LoopFits new (Yields e i a) = FitsExpr new e × (FitsExpr new i × FitBody new a)
LoopFits new (Ranked e r i a) = FitsExpr new e × (FitsExpr new r × (FitsExpr new i × FitBody new a))

spell_loop : (l : Loop) → spell_stmt (of_loop l) ≡ Reserved (codes "while") ∷ loop_spell l
spell_loop (Plain e a) = spell_while e a
spell_loop (Yields e i a) = spell_yieldloop e i a
spell_loop (Ranked e r i a) = spell_rankloop e r i a

loop_to : (new : Bool) (l : Loop) → LoopFits new l → FitsStmt new (of_loop l)
loop_to new (Plain e a) h = allows_while new e a ∙ and_from (allows_expr new e) _ h.0 (held_from (allows_stmt new) a h.1)
loop_to new (Yields e i a) h = allows_yieldloop new e i a ∙ and_from (allows_expr new e) _ h.0 (and_from (allows_expr new i) _ h.1.0 (held_from (allows_stmt new) a h.1.1))
loop_to new (Ranked e r i a) h =
    allows_rankloop new e r i a ∙ and_from (allows_expr new e) _ h.0 (and_from (allows_expr new r) _ h.1.0 (and_from (allows_expr new i) _ h.1.1.0 (held_from (allows_stmt new) a h.1.1.1)))

abbrev StmtFits : Bool → StmtForm → Stmt → Type 0
StmtFits new forms.Assign = Image (λ (p : Name × Expr). stmt.Assign p.0 p.1) (λ p. FitsName p.0 × FitsExpr new p.1)
StmtFits new forms.Assert = Image (λ (e : Expr). stmt.Assert e) (FitsExpr new)
StmtFits new forms.If = Image (λ (p : Expr × (List Stmt × List Stmt)). stmt.If p.0 p.1.0 p.1.1) (λ p. FitsExpr new p.0 × (FitBody new p.1.0 × FitBody new p.1.1))
StmtFits new forms.While = Image of_loop (LoopFits new)
StmtFits new forms.Call = Image (λ (p : Name × (List Expr × List Name)). stmt.Call p.0 p.1.0 p.1.1) (λ p. FitsName p.0 × (AllByRecursion (FitsExpr new) p.1.0 × AllByRecursion FitsName p.1.1))
StmtFits new forms.Yield = Image (λ (e : Expr). stmt.Yield e) (FitsExpr new)
StmtFits new forms.Commit = Image (λ (u : Unit {0}). stmt.Commit) (λ _. Unit {0})
StmtFits new forms.Intro = Image (λ (p : Name × Expr). stmt.Intro p.0 p.1) (λ p. FitsName p.0 × FitsExpr new p.1)
StmtFits new forms.Spawn = Image (λ (p : Name × List Expr). stmt.Spawn p.0 p.1) (λ p. IsTrue new × (FitsName p.0 × AllByRecursion (FitsExpr new) p.1))

stmt_to : (new : Bool) (s : Stmt) → (k : StmtForm) × StmtFits new k s → FitsStmt new s
stmt_to new s (forms.Assign, h) = subst (FitsStmt new) h.1 (allows_assign new h.0.0 h.0.1 ∙ and_from (allows_name h.0.0) (allows_expr new h.0.1) h.2.0 h.2.1)
stmt_to new s (forms.Assert, h) = subst (FitsStmt new) h.1 (allows_assert new h.0 ∙ h.2)
stmt_to new s (forms.If, h) = subst (FitsStmt new) h.1 (allows_if new h.0.0 h.0.1.0 h.0.1.1 ∙ and_from (allows_expr new h.0.0) _ h.2.0 (and_from (all_hold (map (allows_stmt new) h.0.1.0)) _ (held_from (allows_stmt new) h.0.1.0 h.2.1.0) (held_from (allows_stmt new) h.0.1.1 h.2.1.1)))
stmt_to new s (forms.While, h) = subst (FitsStmt new) h.1 (loop_to new h.0 h.2)
stmt_to new s (forms.Call, h) = subst (FitsStmt new) h.1 (allows_call new h.0.0 h.0.1.0 h.0.1.1 ∙ and_from (allows_name h.0.0) _ h.2.0 (and_from (list_all (allows_expr new) h.0.1.0) _ (all_from (allows_expr new) h.0.1.0 h.2.1.0) (all_from allows_name h.0.1.1 h.2.1.1)))
stmt_to new s (forms.Yield, h) = subst (FitsStmt new) h.1 (allows_yield new h.0 ∙ h.2)
stmt_to new s (forms.Commit, h) = subst (FitsStmt new) h.1 (allows_commit new)
stmt_to new s (forms.Intro, h) = subst (FitsStmt new) h.1 (allows_intro new h.0.0 h.0.1 ∙ and_from (allows_name h.0.0) (allows_expr new h.0.1) h.2.0 h.2.1)
stmt_to new s (forms.Spawn, h) = subst (FitsStmt new) h.1 (allows_spawn new h.0.0 h.0.1 ∙ and_from new _ h.2.0 (and_from (allows_name h.0.0) _ h.2.1.0 (all_from (allows_expr new) h.0.1 h.2.1.1)))

-- what the whole says of its layer
abbrev Layered : Bool → layer.Stmt-F Stmt → Type 0
Layered new l = allows_stmt new (roll-Stmt l) ≡ true → (k : StmtForm) × StmtFits new k (roll-Stmt l)

stmt_out : (new : Bool) (l : layer.Stmt-F Stmt) → Layered new l
stmt_out new (layer.Assign n e) h = (forms.Assign, ((n, e), sym (rolls-Assign n e), and_parts (allows_name n) (allows_expr new e) (sym (fold-roll-Stmt Bool (allows_stmt_step new) (layer.Assign n e)) ∙ h)))
stmt_out new (layer.Assert e) h = (forms.Assert, (e, sym (rolls-Assert e), sym (fold-roll-Stmt Bool (allows_stmt_step new) (layer.Assert e)) ∙ h))
stmt_out new (layer.If e a b) h =
    let k = and_parts (allows_expr new e) (all_hold (map (allows_stmt new) a) && all_hold (map (allows_stmt new) b)) (sym (fold-roll-Stmt Bool (allows_stmt_step new) (layer.If e a b)) ∙ h) in
    let m = and_parts (all_hold (map (allows_stmt new) a)) (all_hold (map (allows_stmt new) b)) k.1 in
    (forms.If, ((e, (a, b)), sym (rolls-If e a b), (k.0, (held_to (allows_stmt new) a m.0, held_to (allows_stmt new) b m.1))))
stmt_out new (layer.While e a) h =
    let k = and_parts (allows_expr new e) (all_hold (map (allows_stmt new) a)) (sym (fold-roll-Stmt Bool (allows_stmt_step new) (layer.While e a)) ∙ h) in
    (forms.While, (Plain e a, sym (rolls-While e a), (k.0, held_to (allows_stmt new) a k.1)))
stmt_out new (layer.YieldLoop e i a) h =
    let k = and_parts (allows_expr new e) (allows_expr new i && all_hold (map (allows_stmt new) a)) (sym (fold-roll-Stmt Bool (allows_stmt_step new) (layer.YieldLoop e i a)) ∙ h) in
    let m = and_parts (allows_expr new i) (all_hold (map (allows_stmt new) a)) k.1 in
    (forms.While, (Yields e i a, sym (rolls-YieldLoop e i a), (k.0, (m.0, held_to (allows_stmt new) a m.1))))
stmt_out new (layer.RankLoop e r i a) h =
    let k = and_parts (allows_expr new e) (allows_expr new r && (allows_expr new i && all_hold (map (allows_stmt new) a))) (sym (fold-roll-Stmt Bool (allows_stmt_step new) (layer.RankLoop e r i a)) ∙ h) in
    let m = and_parts (allows_expr new r) (allows_expr new i && all_hold (map (allows_stmt new) a)) k.1 in
    let n = and_parts (allows_expr new i) (all_hold (map (allows_stmt new) a)) m.1 in
    (forms.While, (Ranked e r i a, sym (rolls-RankLoop e r i a), (k.0, (m.0, (n.0, held_to (allows_stmt new) a n.1)))))
stmt_out new (layer.Call n xs ns) h =
    let k = and_parts (allows_name n) (list_all (allows_expr new) xs && list_all allows_name ns) (sym (fold-roll-Stmt Bool (allows_stmt_step new) (layer.Call n xs ns)) ∙ h) in
    let m = and_parts (list_all (allows_expr new) xs) (list_all allows_name ns) k.1 in
    (forms.Call, ((n, (xs, ns)), sym (rolls-Call n xs ns), (k.0, (all_to (allows_expr new) xs m.0, all_to allows_name ns m.1))))
stmt_out new (layer.Yield e) h = (forms.Yield, (e, sym (rolls-Yield e), sym (fold-roll-Stmt Bool (allows_stmt_step new) (layer.Yield e)) ∙ h))
stmt_out new layer.Commit h = (forms.Commit, (tt, sym rolls-Commit, tt))
stmt_out new (layer.Intro n e) h = (forms.Intro, ((n, e), sym (rolls-Intro n e), and_parts (allows_name n) (allows_expr new e) (sym (fold-roll-Stmt Bool (allows_stmt_step new) (layer.Intro n e)) ∙ h)))
stmt_out new (layer.Spawn n xs) h =
    let k = and_parts new (allows_name n && list_all (allows_expr new) xs) (sym (fold-roll-Stmt Bool (allows_stmt_step new) (layer.Spawn n xs)) ∙ h) in
    let m = and_parts (allows_name n) (list_all (allows_expr new) xs) k.1 in
    (forms.Spawn, ((n, xs), sym (rolls-Spawn n xs), (k.0, (m.0, all_to (allows_expr new) xs m.1))))

stmt_from : (new : Bool) (s : Stmt) → FitsStmt new s → (k : StmtForm) × StmtFits new k s
stmt_from new s h = subst (λ s. FitsStmt new s → (k : StmtForm) × StmtFits new k s) (roll-out-Stmt s) (stmt_out new (out-Stmt s)) h

stmt_heads : (new : Bool) (k : StmtForm) → Heads Any spell_stmt (StmtFits new k) (stmt_form new) (Some k)
stmt_heads new forms.Assign = heads_image (λ (p : Name × Expr). stmt.Assign p.0 p.1) spell_stmt (stmt_form new) (Some forms.Assign) (λ p. spell_assign p.0 p.1) (heads_both Any (λ _ e. becomes ∷ spell_expr e ++ semicolon ∷ []) (λ _ e. FitsExpr new e) (stmt_form new) (Some forms.Assign) (heads_leaf name_token (stmt_form new) (Some forms.Assign) (λ n. refl)))
stmt_heads new forms.Assert = heads_image (λ (e : Expr). stmt.Assert e) spell_stmt (stmt_form new) (Some forms.Assert) spell_assert (heads_after (Reserved (codes "assert")) (stmt_form new) (Some forms.Assert) refl)
stmt_heads new forms.If = heads_image (λ (p : Expr × (List Stmt × List Stmt)). stmt.If p.0 p.1.0 p.1.1) spell_stmt (stmt_form new) (Some forms.If) (λ p. spell_if p.0 p.1.0 p.1.1) (heads_after (Reserved (codes "if")) (stmt_form new) (Some forms.If) refl)
stmt_heads new forms.While = heads_image of_loop spell_stmt (stmt_form new) (Some forms.While) spell_loop (heads_after (Reserved (codes "while")) (stmt_form new) (Some forms.While) refl)
stmt_heads new forms.Call = heads_image (λ (p : Name × (List Expr × List Name)). stmt.Call p.0 p.1.0 p.1.1) spell_stmt (stmt_form new) (Some forms.Call) (λ p. spell_call p.0 p.1.0 p.1.1) (heads_after (Reserved (codes "call")) (stmt_form new) (Some forms.Call) refl)
stmt_heads new forms.Yield = heads_image (λ (e : Expr). stmt.Yield e) spell_stmt (stmt_form new) (Some forms.Yield) spell_yield (heads_after (Reserved (codes "yield")) (stmt_form new) (Some forms.Yield) refl)
stmt_heads new forms.Commit = heads_image (λ (u : Unit {0}). stmt.Commit) spell_stmt (stmt_form new) (Some forms.Commit) (λ u. spell_commit) (heads_after (Reserved (codes "commit")) (stmt_form new) (Some forms.Commit) refl)
stmt_heads new forms.Intro = heads_image (λ (p : Name × Expr). stmt.Intro p.0 p.1) spell_stmt (stmt_form new) (Some forms.Intro) (λ p. spell_intro p.0 p.1) (heads_after (Reserved (codes "intro")) (stmt_form new) (Some forms.Intro) refl)
stmt_heads true forms.Spawn = heads_image (λ (p : Name × List Expr). stmt.Spawn p.0 p.1) spell_stmt (stmt_form true) (Some forms.Spawn) (λ p. spell_spawn p.0 p.1) (heads_after (Reserved (codes "spawn")) (stmt_form true) (Some forms.Spawn) refl)
stmt_heads false forms.Spawn = record { next = λ s rest fits ends. absurd (no_spawn fits.2.0) }
  where
    no_spawn : IsTrue false → ⊥
    no_spawn h = cc

-- no statement begins with this word or sign
pub stmt_not : (new : Bool) (t : Token) → stmt_form new (Some t) ≡ None → Heads Any spell_stmt (FitsStmt new) (begins t) false
stmt_not new t none = record { next = λ s rest fits ends. let k = stmt_from new s fits in excludes (stmt_form new) t none _ k.0 ((stmt_heads new k.0).next s rest k.1 tt) }

pub stmt_is_next : (new : Bool) → Heads Any spell_stmt (FitsStmt new) (stmt_next new) true
stmt_is_next new = record { next = λ s rest fits ends. let k = stmt_from new s fits in ap is_form ((stmt_heads new k.0).next s rest k.1 tt) }

-- ---- readers

abbrev pub StmtReader : Bool → ℕ → Reader Stmt → Type 0
StmtReader new c S = IsReader c c Any spell_stmt (FitsStmt new) S

spawn_new : (new : Bool) (o : Option Token) → stmt_form new o ≡ Some forms.Spawn → IsTrue new
spawn_new new None e = absurd cc
spawn_new new (Some (Named b)) e = absurd cc
spawn_new new (Some (Number n)) e = absurd cc
spawn_new new (Some (Reserved b)) e = form_has (has_form new) stmt_table (Some (Reserved b)) forms.Spawn e
spawn_new new (Some (Sign b)) e = absurd cc

abbrev SpawnFits : Bool → Name × List Expr → Type 0
SpawnFits new p = FitsName p.0 × AllByRecursion (FitsExpr new) p.1

module _ (new : Bool) (d : ℕ) (S : Reader Stmt) (p : (c : ℕ) → d ≡ suc c → StmtReader new c S) where
  block_is : IsReader d d Any spell_block (FitBody new) (block_at new d S)
  unfolding block_at
  block_is = braced_is d (stmt_next new) open_brace close_brace refl refl refl refl refl refl (stmt_is_next new) p

  loop_back : (l : Loop) → LoopFits new l → Image (λ (q : Expr × (Expr × List Stmt)). Yields q.0 q.1.0 q.1.1) (λ q. FitsExpr new q.0 × (FitsExpr new q.1.0 × FitBody new q.1.1)) l
      ⊎ (Image (λ (q : Expr × (Expr × (Expr × List Stmt))). Ranked q.0 q.1.0 q.1.1.0 q.1.1.1) (λ q. FitsExpr new q.0 × (FitsExpr new q.1.0 × (FitsExpr new q.1.1.0 × FitBody new q.1.1.1))) l
      ⊎ Image (λ (q : Expr × List Stmt). Plain q.0 q.1) (λ q. FitsExpr new q.0 × FitBody new q.1) l)
  loop_back (Plain e a) h = inr (inr ((e, a), refl, h))
  loop_back (Yields e i a) h = inl ((e, (i, a)), refl, h)
  loop_back (Ranked e r i a) h = inr (inl ((e, (r, (i, a))), refl, h))

  loop_is : IsReader d d Any loop_spell (LoopFits new) (chosen (begins (Reserved (codes "yield"))) (yield_loop_at new d S) (chosen (begins (Reserved (codes "rank"))) (rank_loop_at new d S) (plain_loop_at new d S)))
  unfolding inv_body_at by_body_at yield_loop_at rank_loop_at plain_loop_at
  loop_is =
      let yields : Expr × (Expr × List Stmt) → Loop = λ q. Yields q.0 q.1.0 q.1.1 in
      let ranked : Expr × (Expr × (Expr × List Stmt)) → Loop = λ q. Ranked q.0 q.1.0 q.1.1.0 q.1.1.1 in
      let plain : Expr × List Stmt → Loop = λ q. Plain q.0 q.1 in
      let yield = begins (Reserved (codes "yield")) in
      let rank = begins (Reserved (codes "rank")) in
      refit_is (LoopFits new) (λ l h. elim h [ inl i ↦ subst (LoopFits new) i.1 i.2 | inr j ↦ elim j [ inl i ↦ subst (LoopFits new) i.1 i.2 | inr i ↦ subst (LoopFits new) i.1 i.2 ] ]) loop_back
      (chosen_is yield
      (heads_image yields loop_spell yield true (λ q. refl) (heads_after (Reserved (codes "yield")) yield true refl))
      (heads_either yield false
      (heads_image ranked loop_spell yield false (λ q. refl) (heads_after (Reserved (codes "rank")) yield false refl))
      (heads_image plain loop_spell yield false (λ q. refl) (heads_both Any (λ _. spell_block) (λ _. FitBody new) yield false (expr_not new (Reserved (codes "yield")) refl))))
      (image_is yields loop_spell (λ q. refl) (after_is d (Reserved (codes "yield")) refl refl (both_is (expr_is new d) (λ _. after_is d (Reserved (codes "inv")) refl refl (both_is (expr_is new d) (λ _. block_is))))))
      (chosen_is rank
      (heads_image ranked loop_spell rank true (λ q. refl) (heads_after (Reserved (codes "rank")) rank true refl))
      (heads_image plain loop_spell rank false (λ q. refl) (heads_both Any (λ _. spell_block) (λ _. FitBody new) rank false (expr_not new (Reserved (codes "rank")) refl)))
      (image_is ranked loop_spell (λ q. refl) (after_is d (Reserved (codes "rank")) refl refl (both_is (expr_is new d) (λ _. after_is d (Reserved (codes "by")) refl refl
      (both_is (expr_is new d) (λ _. after_is d (Reserved (codes "inv")) refl refl (both_is (expr_is new d) (λ _. block_is))))))))
      (image_is plain loop_spell (λ q. refl) (both_is (expr_is new d) (λ _. block_is)))))

  branch_is : (k : StmtForm) (o : Option Token) → stmt_form new o ≡ Some k → IsReader d d Any spell_stmt (StmtFits new k) (stmt_as new d S k)
  unfolding assign_at assert_at call_at yield_at commit_at intro_at spawn_at if_at while_at
  branch_is forms.Assign o h = image_is (λ (q : Name × Expr). stmt.Assign q.0 q.1) spell_stmt (λ q. spell_assign q.0 q.1) (both_is (name_is d) (λ _. after_is d becomes refl refl (then_is d semicolon refl refl (expr_is new d))))
  branch_is forms.Assert o h = image_is (λ (e : Expr). stmt.Assert e) spell_stmt spell_assert (after_is d (Reserved (codes "assert")) refl refl (then_is d semicolon refl refl (expr_is new d)))
  branch_is forms.If o h = image_is (λ (q : Expr × (List Stmt × List Stmt)). stmt.If q.0 q.1.0 q.1.1) spell_stmt (λ q. spell_if q.0 q.1.0 q.1.1)
      (after_is d (Reserved (codes "if")) refl refl (both_is (expr_is new d) (λ _. both_is block_is (λ _. after_is d (Reserved (codes "else")) refl refl block_is))))
  branch_is forms.While o h = image_is of_loop spell_stmt spell_loop (after_is d (Reserved (codes "while")) refl refl loop_is)
  branch_is forms.Call o h = image_is (λ (q : Name × (List Expr × List Name)). stmt.Call q.0 q.1.0 q.1.1) spell_stmt (λ q. spell_call q.0 q.1.0 q.1.1)
      (after_is d (Reserved (codes "call")) refl refl (both_is (name_is d) (λ _. both_is (args_is new d) (λ _. after_is d arrow refl refl (then_is d semicolon refl refl (results_is d))))))
  branch_is forms.Yield o h = image_is (λ (e : Expr). stmt.Yield e) spell_stmt spell_yield (after_is d (Reserved (codes "yield")) refl refl (then_is d semicolon refl refl (expr_is new d)))
  branch_is forms.Commit o h = image_is (λ (u : Unit {0}). stmt.Commit) spell_stmt (λ u. spell_commit) (after_is d (Reserved (codes "commit")) refl refl (after_is d semicolon refl refl (done_is d)))
  branch_is forms.Intro o h = image_is (λ (q : Name × Expr). stmt.Intro q.0 q.1) spell_stmt (λ q. spell_intro q.0 q.1)
      (after_is d (Reserved (codes "intro")) refl refl (both_is (name_is d) (λ _. after_is d becomes refl refl (then_is d semicolon refl refl (expr_is new d)))))
  branch_is forms.Spawn o h = image_is (λ (q : Name × List Expr). stmt.Spawn q.0 q.1) spell_stmt (λ q. spell_spawn q.0 q.1)
      (refit_is (λ q. IsTrue new × SpawnFits new q) (λ q g. (spawn_new new o h, g)) (λ q g. g.1)
      (after_is d (Reserved (codes "spawn")) refl refl (both_is (name_is d) (λ _. then_is d semicolon refl refl (args_is new d)))))

  stmt_by_is : StmtReader new d (stmt_by new d S)
  unfolding stmt_by
  stmt_by_is = refit_is (FitsStmt new) (stmt_to new) (stmt_from new) (by_form_is (stmt_form new) (Some (Reserved (codes "commit"))) forms.Commit refl (stmt_heads new) branch_is)

inner_stmt_is : (new : Bool) (d c : ℕ) → d ≡ suc c → StmtReader new c (inner_stmt new d)
unfolding inner_stmt
inner_stmt_is new zero c e = absurd (omega arith)
inner_stmt_is new (suc d) c e = let k : d ≡ c = omega arith in subst (λ n. StmtReader new n (stmt_by new d (inner_stmt new d))) k (stmt_by_is new d (inner_stmt new d) (λ m h. inner_stmt_is new d m h))

pub stmt_is : (new : Bool) (d : ℕ) → StmtReader new d (stmt_at new d)
unfolding stmt_at
stmt_is new d = stmt_by_is new d (inner_stmt new d) (λ c e. inner_stmt_is new d c e)

pub inner_stmt_at : (new : Bool) (d : ℕ) → 0 < d → inner_stmt new d ≡ stmt_at new (d - 1)
unfolding inner_stmt stmt_at
inner_stmt_at new zero h = absurd (omega arith)
inner_stmt_at new (suc d) h = let e : d ≡ suc d - 1 = omega arith in ap (λ n. stmt_by new n (inner_stmt new n)) e
