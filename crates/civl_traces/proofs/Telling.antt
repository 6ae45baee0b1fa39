-- Telling a statement, one layer at a time.
use Rattle.std.proofs.Common.{◌≡◌, ℕ, ◌+◌, List, [], ◌∷◌, map, refl, sym, ap, ◌∙◌}
use Rattle.std.specs.Prelude.{if◌then◌else◌, Bool, true, false, drop}
use Rattle.civl_tree.specs.declared.expr.Expr.{Expr}
use Rattle.civl_tree.specs.declared.stmt.Stmt.{Stmt, out-Stmt, roll-out-Stmt, map-Stmt, the_lemmas as of_stmt}
use Rattle.civl_tree.specs.declared.stmt.Stmt.TheOpen.{Stmt-F, Assign, Assert, If, While, YieldLoop, RankLoop, Call, Yield, Commit, Intro, Spawn}
use Rattle.civl_tree.specs.declared.stmt.Stmt.TheFolds.{para-roll-Stmt}
use Rattle.civl_tree.specs.Numbering.{size_of, sizes_of, numbered}
use Rattle.civl_meaning.specs.Rest.{Rest}
use Rattle.civl_conditions.specs.paths.Paths.{Course, Progress, tested, pass}
use Rattle.civl_traces.specs.Traces.{Trace, Onward, Telling, decided, then_told, told_by, stmts_told, told_in, tell_step, tell, tell_all, tell_loop, tell_layer}

abbrev with_telling : Course → Stmt → Stmt × Telling
with_telling c s = (s, tell c s)

stmts_with : (c : Course) (ss : List Stmt) → stmts_told (map (with_telling c) ss) ≡ ss
stmts_with c [] = refl
stmts_with c (s ∷ ss) = ap (λ (r : List Stmt). s ∷ r) (stmts_with c ss)

-- what is told of statements is told of them with their numbers
told_with : (c : Course) (ss : List Stmt) (at : ℕ) (onward : Onward) → told_in (map (with_telling c) ss) at onward ≡ tell_all c (numbered at ss) onward
unfolding tell_all
told_with c [] at onward = refl
told_with c (s ∷ ss) at onward =
    let first : Onward → Onward = λ f. tell c s s at f in
    ap first (told_with c ss (at + size_of s) onward)

-- the layer's telling
abbrev pub tells : Course → Stmt-F Stmt → Telling
tells c (If e a b) s at onward p =
    then_told (decided at (tested c e p) p)
    (if tested c e p then tell_all c (numbered (at + 1) a) onward p else tell_all c (numbered (at + 1 + sizes_of a) b) onward p)
tells c _ s at onward p = told_by at p (pass c s at p) onward

choose : (t : Bool) (x y u v : Trace) → x ≡ u → y ≡ v → (if t then x else y) ≡ (if t then u else v)
choose true x y u v e f = e
choose false x y u v e f = f

step_is : (c : Course) (d : Stmt-F Stmt) (s : Stmt) (at : ℕ) (onward : Onward) (p : Progress) → tell_step c (map-Stmt Stmt (Stmt × Telling) (with_telling c) d) s at onward p ≡ tells c d s at onward p
step_is c (If e a b) s at onward p =
    ap (then_told (decided at (tested c e p) p))
    (choose (tested c e p) _ _ _ _ (ap (λ (f : Onward). f p) (told_with c a (at + 1) onward))
    (ap (λ (ss : List Stmt). told_in (map (with_telling c) b) (at + 1 + sizes_of ss) onward p) (stmts_with c a) ∙ ap (λ (f : Onward). f p) (told_with c b (at + 1 + sizes_of a) onward)))
step_is c (While e a) s at onward p = refl
step_is c (YieldLoop e i a) s at onward p = refl
step_is c (RankLoop e r i a) s at onward p = refl
step_is c (Assign x e) s at onward p = refl
step_is c (Assert e) s at onward p = refl
step_is c (Call f xs rs) s at onward p = refl
step_is c (Yield e) s at onward p = refl
step_is c Commit s at onward p = refl
step_is c (Intro x e) s at onward p = refl
step_is c (Spawn f xs) s at onward p = refl

pub tell_is : (c : Course) (s t : Stmt) (at : ℕ) (onward : Onward) (p : Progress) → tell c s t at onward p ≡ tells c (out-Stmt s) t at onward p
unfolding tell
tell_is c s t at onward p =
    let e : tell c s ≡ tell_step c (map-Stmt Stmt (Stmt × Telling) (with_telling c) (out-Stmt s)) = ap (tell c) (sym (roll-out-Stmt s)) ∙ para-roll-Stmt Telling (tell_step c) (out-Stmt s) in
    ap (λ (f : Telling). f t at onward p) e ∙ step_is c (out-Stmt s) t at onward p

pub tell_none : (c : Course) (onward : Onward) (p : Progress) → tell_all c [] onward p ≡ onward p
unfolding tell_all
tell_none c onward p = refl

pub tell_more : (c : Course) (number : ℕ) (s : Stmt) (rest : Rest) (onward : Onward) (p : Progress) → tell_all c ((number, s) ∷ rest) onward p ≡ tell c s s number (tell_all c rest onward) p
unfolding tell_all
tell_more c number s rest onward p = refl

-- ---- from a cut

pub tell_yield_loop : (c : Course) (e i : Expr) (a : List Stmt) (rest : Rest) (onward : Onward) (p : Progress) → tell_layer c (YieldLoop e i a) rest onward p ≡ tell_loop c e a rest onward p
unfolding tell_layer
tell_yield_loop c e i a rest onward p = refl

pub tell_rank_loop : (c : Course) (e r i : Expr) (a : List Stmt) (rest : Rest) (onward : Onward) (p : Progress) → tell_layer c (RankLoop e r i a) rest onward p ≡ tell_loop c e a rest onward p
unfolding tell_layer
tell_rank_loop c e r i a rest onward p = refl

pub tell_yield : (c : Course) (i : Expr) (rest : Rest) (onward : Onward) (p : Progress) → tell_layer c (Yield i) rest onward p ≡ tell_all c (drop 1 rest) onward p
unfolding tell_layer
tell_yield c i rest onward p = refl

pub ruleset telling = (tell_is, tell_none, tell_more, tell_yield_loop, tell_rank_loop, tell_yield, of_stmt)
