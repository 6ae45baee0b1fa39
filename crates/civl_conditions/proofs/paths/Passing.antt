-- Going over a statement, one layer at a time.
use Rattle.std.proofs.Common.{◌≡◌, ℕ, ◌+◌, List, [], ◌∷◌, map, refl, sym, ap, ◌∙◌}
use Rattle.std.specs.Prelude.{if◌then◌else◌, Bool, true, false, drop}
use Rattle.civl_tree.specs.declared.expr.Expr.{Expr}
use Rattle.civl_tree.specs.declared.stmt.Stmt.{Stmt, out-Stmt, roll-out-Stmt, map-Stmt, the_lemmas as of_stmt}
use Rattle.civl_tree.specs.declared.stmt.Stmt.TheOpen.{Stmt-F, Assign, Assert, If, While, YieldLoop, RankLoop, Call, Yield, Commit, Intro, Spawn}
use Rattle.civl_tree.specs.declared.stmt.Stmt.TheFolds.{para-roll-Stmt}
use Rattle.civl_tree.specs.Numbering.{size_of, sizes_of, numbered}
use Rattle.civl_meaning.specs.Rest.{Rest}
use Rattle.civl_conditions.specs.paths.Paths.{Course, Progress, Outcome, Past, Comes, Fails, Stops, after, stepped, tested, committed, introduced, Passing, stmts_of, passed_in, pass_step, pass, pass_all, from_loop, from_layer}
use Rattle.civl_conditions.specs.paths.Flows.{Flow, Flowing, onward_flow, ended_flow, flow_then, flow_or, flow_with, stmts_in, flows_in, flow_step, flow, flow_all, flow_loop, flow_layer}

pub after_same : (o : Outcome) (f g : Progress → Outcome) → ((p : Progress) → f p ≡ g p) → after o f ≡ after o g
after_same (Past p) f g h = h p
after_same (Comes n p) f g h = refl
after_same (Fails p) f g h = refl
after_same (Stops p) f g h = refl

-- ---- paths

abbrev pub with_pass : Course → Stmt → Stmt × Passing
with_pass c s = (s, pass c s)

stmts_with : (c : Course) (ss : List Stmt) → stmts_of (map (with_pass c) ss) ≡ ss
stmts_with c [] = refl
stmts_with c (s ∷ ss) = ap (λ (r : List Stmt). s ∷ r) (stmts_with c ss)

pub passed_with : (c : Course) (ss : List Stmt) (at : ℕ) (p : Progress) → passed_in (map (with_pass c) ss) at p ≡ pass_all c (numbered at ss) p
unfolding pass_all
passed_with c [] at p = refl
passed_with c (s ∷ ss) at p = after_same (pass c s at p) (passed_in (map (with_pass c) ss) (at + size_of s)) (pass_all c (numbered (at + size_of s) ss)) (passed_with c ss (at + size_of s))

abbrev pub pass_layer : Course → Stmt-F Stmt → Passing
pass_layer c (Assign x e) at p = stepped c (Assign x e) at p
pass_layer c (Assert e) at p = stepped c (Assert e) at p
pass_layer c (If e a b) at p = if tested c e p then pass_all c (numbered (at + 1) a) p else pass_all c (numbered (at + 1 + sizes_of a) b) p
pass_layer c (While e a) at p = Stops p
pass_layer c (YieldLoop e i a) at p = Comes at p
pass_layer c (RankLoop e r i a) at p = Comes at p
pass_layer c (Call f es rs) at p = stepped c (Call f es rs) at p
pass_layer c (Yield i) at p = Comes at p
pass_layer c Commit at p = Past (committed p)
pass_layer c (Intro x e) at p = Past (introduced c x e p)
pass_layer c (Spawn f es) at p = Stops p

choose : (t : Bool) (x y u v : Outcome) → x ≡ u → y ≡ v → (if t then x else y) ≡ (if t then u else v)
choose true x y u v e f = e
choose false x y u v e f = f

pass_step_is : (c : Course) (d : Stmt-F Stmt) (at : ℕ) (p : Progress) → pass_step c (map-Stmt Stmt (Stmt × Passing) (with_pass c) d) at p ≡ pass_layer c d at p
pass_step_is c (If e a b) at p =
    choose (tested c e p) _ _ _ _ (passed_with c a (at + 1) p)
    (ap (λ (ss : List Stmt). passed_in (map (with_pass c) b) (at + 1 + sizes_of ss) p) (stmts_with c a) ∙ passed_with c b (at + 1 + sizes_of a) p)
pass_step_is c (While e a) at p = refl
pass_step_is c (YieldLoop e i a) at p = refl
pass_step_is c (RankLoop e r i a) at p = refl
pass_step_is c (Assign x e) at p = refl
pass_step_is c (Assert e) at p = refl
pass_step_is c (Call f xs rs) at p = refl
pass_step_is c (Yield e) at p = refl
pass_step_is c Commit at p = refl
pass_step_is c (Intro x e) at p = refl
pass_step_is c (Spawn f xs) at p = refl

pub pass_is : (c : Course) (s : Stmt) (at : ℕ) (p : Progress) → pass c s at p ≡ pass_layer c (out-Stmt s) at p
unfolding pass
pass_is c s at p =
    let e : pass c s ≡ pass_step c (map-Stmt Stmt (Stmt × Passing) (with_pass c) (out-Stmt s)) = ap (pass c) (sym (roll-out-Stmt s)) ∙ para-roll-Stmt Passing (pass_step c) (out-Stmt s) in
    ap (λ (f : Passing). f at p) e ∙ pass_step_is c (out-Stmt s) at p

pub pass_none : (c : Course) (p : Progress) → pass_all c [] p ≡ Past p
unfolding pass_all
pass_none c p = refl

pub pass_more : (c : Course) (number : ℕ) (s : Stmt) (rest : Rest) (p : Progress) → pass_all c ((number, s) ∷ rest) p ≡ after (pass c s number p) (pass_all c rest)
unfolding pass_all
pass_more c number s rest p = refl

-- ---- flows

abbrev pub with_flow : Stmt → Stmt × Flowing
with_flow s = (s, flow s)

stmts_flow : (ss : List Stmt) → stmts_in (map with_flow ss) ≡ ss
stmts_flow [] = refl
stmts_flow (s ∷ ss) = ap (λ (r : List Stmt). s ∷ r) (stmts_flow ss)

flows_with : (ss : List Stmt) (at : ℕ) → flows_in (map with_flow ss) at ≡ flow_all (numbered at ss)
unfolding flow_all
flows_with [] at = refl
flows_with (s ∷ ss) at = ap (flow_then (flow s s at)) (flows_with ss (at + size_of s))

abbrev pub flow_of_layer : Stmt-F Stmt → Flowing
flow_of_layer (If e a b) s at = flow_with (at, s) (flow_or (flow_all (numbered (at + 1) a)) (flow_all (numbered (at + 1 + sizes_of a) b)))
flow_of_layer (While e a) s at = ended_flow []
flow_of_layer (YieldLoop e i a) s at = ended_flow (at ∷ [])
flow_of_layer (RankLoop e r i a) s at = ended_flow (at ∷ [])
flow_of_layer (Yield i) s at = ended_flow (at ∷ [])
flow_of_layer (Spawn f es) s at = ended_flow []
flow_of_layer _ s at = onward_flow ((at, s) ∷ [])

flow_step_is : (d : Stmt-F Stmt) (s : Stmt) (at : ℕ) → flow_step (map-Stmt Stmt (Stmt × Flowing) with_flow d) s at ≡ flow_of_layer d s at
flow_step_is (If e a b) s at =
    ap (λ (f : Flow). flow_with (at, s) (flow_or f (flows_in (map with_flow b) (at + 1 + sizes_of (stmts_in (map with_flow a)))))) (flows_with a (at + 1))
    ∙ ap (λ (ss : List Stmt). flow_with (at, s) (flow_or (flow_all (numbered (at + 1) a)) (flows_in (map with_flow b) (at + 1 + sizes_of ss)))) (stmts_flow a)
    ∙ ap (λ (f : Flow). flow_with (at, s) (flow_or (flow_all (numbered (at + 1) a)) f)) (flows_with b (at + 1 + sizes_of a))
flow_step_is (While e a) s at = refl
flow_step_is (YieldLoop e i a) s at = refl
flow_step_is (RankLoop e r i a) s at = refl
flow_step_is (Assign x e) s at = refl
flow_step_is (Assert e) s at = refl
flow_step_is (Call f xs rs) s at = refl
flow_step_is (Yield e) s at = refl
flow_step_is Commit s at = refl
flow_step_is (Intro x e) s at = refl
flow_step_is (Spawn f xs) s at = refl

pub flow_is : (s t : Stmt) (at : ℕ) → flow s t at ≡ flow_of_layer (out-Stmt s) t at
unfolding flow
flow_is s t at =
    let e : flow s ≡ flow_step (map-Stmt Stmt (Stmt × Flowing) with_flow (out-Stmt s)) = ap flow (sym (roll-out-Stmt s)) ∙ para-roll-Stmt Flowing flow_step (out-Stmt s) in
    ap (λ (f : Flowing). f t at) e ∙ flow_step_is (out-Stmt s) t at

pub flow_none : flow_all [] ≡ onward_flow []
unfolding flow_all
flow_none = refl

pub flow_more : (number : ℕ) (s : Stmt) (rest : Rest) → flow_all ((number, s) ∷ rest) ≡ flow_then (flow s s number) (flow_all rest)
unfolding flow_all
flow_more number s rest = refl

-- ---- from a cut

pub from_yield_loop : (c : Course) (e i : Expr) (a : List Stmt) (rest : Rest) (p : Progress) → from_layer c (YieldLoop e i a) rest p ≡ from_loop c e a rest p
unfolding from_layer
from_yield_loop c e i a rest p = refl

pub from_rank_loop : (c : Course) (e r i : Expr) (a : List Stmt) (rest : Rest) (p : Progress) → from_layer c (RankLoop e r i a) rest p ≡ from_loop c e a rest p
unfolding from_layer
from_rank_loop c e r i a rest p = refl

pub from_yield : (c : Course) (i : Expr) (rest : Rest) (p : Progress) → from_layer c (Yield i) rest p ≡ pass_all c (drop 1 rest) p
unfolding from_layer
from_yield c i rest p = refl

pub flow_yield_loop : (e i : Expr) (a : List Stmt) (rest : Rest) → flow_layer (YieldLoop e i a) rest ≡ flow_loop a rest
unfolding flow_layer
flow_yield_loop e i a rest = refl

pub flow_rank_loop : (e r i : Expr) (a : List Stmt) (rest : Rest) → flow_layer (RankLoop e r i a) rest ≡ flow_loop a rest
unfolding flow_layer
flow_rank_loop e r i a rest = refl

pub flow_yield : (i : Expr) (rest : Rest) → flow_layer (Yield i) rest ≡ flow_all (drop 1 rest)
unfolding flow_layer
flow_yield i rest = refl

pub ruleset passing = (pass_is, pass_none, pass_more, flow_is, flow_none, flow_more, from_yield_loop, from_rank_loop, from_yield, flow_yield_loop, flow_rank_loop, flow_yield, of_stmt)
