-- What paths come to, from each kind of cut to each kind of end.
use Rattle.std.specs.Prelude.{ℕ, ◌≡◌, Bool, true, false, List, [], ◌∷◌, map, codes}
use Rattle.civl_tree.specs.declared.expr.Expr as expr
use Rattle.civl_tree.specs.declared.expr.Two.TheVariants.{Add, Sub, Ne}
use Rattle.civl_tree.specs.declared.stmt.Stmt.{Stmt}
use Rattle.civl_tree.specs.declared.stmt.Stmt as stmt
use Rattle.civl_firing.specs.examples.Written.{word, named, name, lit}
use Rattle.civl_layers.specs.declared.cut.Cut.{Cut}
use Rattle.civl_layers.specs.declared.cut.CutKind.TheVariants.{Yield, YieldLoop, RankLoop}
use Rattle.civl_layers.specs.Cuts.{entry_cut}
use Rattle.civl_conditions.specs.paths.Paths.{Past, Comes, Fails, Stops, path_from}
use Rattle.civl_conditions.specs.paths.Flows.{Flow, flow_from}
use Rattle.civl_conditions.specs.paths.Ends.{ends_from}
use Rattle.civl_conditions.specs.paths.examples.Courses.{proc_with, n, r, v, is, set_r, set_v, take_n, pick_v, choosing, course, cut, with, before}

-- 0 if (n == 0:8) { 1 v := 1:8; } else { 2 v := 2:8; }
-- 3 if (v == 1:8) { 4 r := v; } else { 5 commit; }
-- 6 yield true;
abbrev two_ifs : List Stmt
two_ifs =
    stmt.If (is n 0) (set_v (lit 1 8) ∷ []) (set_v (lit 2 8) ∷ [])
    ∷ stmt.If (is v 1) (set_r v ∷ []) (stmt.Commit ∷ [])
    ∷ stmt.Yield expr.True
    ∷ []

abbrev pub ThroughTwoIfs : Type 0
ThroughTwoIfs =
    map (λ n. path_from (course two_ifs) entry_cut (before (0, 0) (n, 0, 0))) (0 ∷ 7 ∷ [])
    ≡ Comes 6 (before (0, 0) (0, 1, 1)) ∷ Comes 6 (with (0, 0) (7, 0, 2) (true, false)) ∷ []

-- 0 call Take(n) -> (r); 1 assert (r != 4:8); 2 commit;
abbrev takes : List Stmt
takes = take_n ∷ stmt.Assert (expr.Two Ne r (lit 4 8)) ∷ stmt.Commit ∷ []

-- to the exit; before a gate, or an assert, that is false; and before a guard that is false
abbrev pub PastACall : Type 0
PastACall = path_from (course takes) entry_cut (before (0, 0) (5, 0, 0)) ≡ Past (with (5, 0) (5, 6, 0) (true, false))

abbrev pub GateFails : Type 0
GateFails = path_from (course takes) entry_cut (before (9, 0) (0, 0, 0)) ≡ Fails (before (9, 0) (0, 0, 0))

abbrev pub AssertFails : Type 0
AssertFails = path_from (course takes) entry_cut (before (0, 0) (3, 0, 0)) ≡ Fails (before (3, 0) (3, 4, 0))

abbrev pub GuardStops : Type 0
GuardStops = path_from (course takes) entry_cut (before (9, 0) (5, 0, 0)) ≡ Stops (before (9, 0) (5, 0, 0))

-- each call has choices of its own
abbrev pub ChoicesByNumber : Type 0
ChoicesByNumber =
    path_from (choosing (λ number. word 8 number ∷ []) (set_r n ∷ pick_v ∷ set_r v ∷ pick_v ∷ [])) entry_cut (before (0, 0) (0, 0, 0))
    ≡ Past (before (0, 0) (0, 1, 3))

-- a plain loop and a spawn, which no procedure has that refines an action
abbrev pub OthersStop : Type 0
OthersStop =
    map (λ s. path_from (course (s ∷ [])) entry_cut (before (0, 0) (1, 2, 3))) (stmt.While expr.False [] ∷ stmt.Spawn (named (codes "P")) (n ∷ []) ∷ [])
    ≡ Stops (before (0, 0) (1, 2, 3)) ∷ Stops (before (0, 0) (1, 2, 3)) ∷ []

-- ---- commits and intros

-- 0 call Take(n) -> (r); 1 commit; 2 yield true; 3 if (v == 1:8) { 4 commit; } else { }
abbrev blocks : List Stmt
blocks = take_n ∷ stmt.Commit ∷ stmt.Yield expr.True ∷ stmt.If (is v 1) (stmt.Commit ∷ []) [] ∷ []

-- the first block ends with a new commit; the next one ends without one, or with a second one
abbrev pub BlockCommits : Type 0
BlockCommits = path_from (course blocks) entry_cut (before (0, 0) (5, 0, 1)) ≡ Comes 2 (with (5, 0) (5, 6, 1) (true, false))

abbrev pub OnceOrTwice : Type 0
OnceOrTwice =
    map (λ v. path_from (course blocks) (cut 2 Yield) (with (5, 0) (5, 6, v) (true, false))) (0 ∷ 1 ∷ [])
    ≡ Past (with (5, 0) (5, 6, 0) (true, false)) ∷ Past (with (5, 0) (5, 6, 1) (true, true)) ∷ []

-- two commits on one path; what was passed twice stays so
abbrev pub TwoCommits : Type 0
TwoCommits =
    map (λ s. path_from (course (stmt.Commit ∷ s ∷ set_r n ∷ [])) entry_cut (before (0, 0) (1, 0, 0))) (stmt.Commit ∷ set_v n ∷ [])
    ≡ Past (with (0, 0) (1, 1, 0) (true, true)) ∷ Past (with (0, 0) (1, 1, 1) (true, false)) ∷ []

-- an intro reads globals and locals, and sets a global, where it stands
abbrev pub Introduces : Type 0
Introduces =
    path_from (course (take_n ∷ stmt.Intro (named (codes "seen")) (expr.Two Add (name (codes "x")) r) ∷ set_r (lit 0 8) ∷ [])) entry_cut (before (0, 0) (5, 0, 0))
    ≡ Past (before (5, 11) (5, 0, 0))

-- ---- loops

-- 0 while yield (v != 0:8) inv true {
-- 1   v := (v - 1:8);
-- 2   if (v == 1:8) { 3 yield true; } else { }
--   }
-- 4 r := n;
abbrev pub waits : List Stmt
waits =
    stmt.YieldLoop (expr.Two Ne v (lit 0 8)) expr.True (set_v (expr.Two Sub v (lit 1 8)) ∷ stmt.If (is v 1) (stmt.Yield expr.True ∷ []) [] ∷ [])
    ∷ set_r n
    ∷ []

-- from the entry to the loop, whether its test holds or not
abbrev pub ComesToLoop : Type 0
ComesToLoop =
    map (λ v. path_from (course waits) entry_cut (before (0, 0) (5, 0, v))) (0 ∷ 3 ∷ [])
    ≡ Comes 0 (before (0, 0) (5, 0, 0)) ∷ Comes 0 (before (0, 0) (5, 0, 3)) ∷ []

-- from the loop past it, round it, and to the yield in it
abbrev pub FromLoop : Type 0
FromLoop =
    map (λ v. path_from (course waits) (cut 0 YieldLoop) (before (0, 0) (5, 0, v))) (0 ∷ 1 ∷ 2 ∷ [])
    ≡ Past (before (0, 0) (5, 5, 0)) ∷ Comes 0 (before (0, 0) (5, 0, 0)) ∷ Comes 3 (before (0, 0) (5, 0, 1)) ∷ []

-- from the yield, behind the `if`, to the loop
abbrev pub FromInside : Type 0
FromInside = path_from (course waits) (cut 3 Yield) (before (0, 0) (5, 0, 1)) ≡ Comes 0 (before (0, 0) (5, 0, 1))

-- 0 while rank (v != 0:8) by v inv true { 1 v := (v - 1:8); 2 while yield false inv true { } }
-- (E51 refuses a loop in a rank loop; paths are defined all the same)
abbrev ranked : List Stmt
ranked = stmt.RankLoop (expr.Two Ne v (lit 0 8)) v expr.True (set_v (expr.Two Sub v (lit 1 8)) ∷ stmt.YieldLoop expr.False expr.True [] ∷ []) ∷ []

-- to the loop in it, and from there to it
abbrev pub RankLoops : Type 0
RankLoops =
    map (λ cut. path_from (course ranked) cut (before (0, 0) (5, 0, 2))) (entry_cut ∷ cut 0 RankLoop ∷ cut 2 YieldLoop ∷ [])
    ≡ Comes 0 (before (0, 0) (5, 0, 2)) ∷ Comes 2 (before (0, 0) (5, 0, 1)) ∷ Comes 0 (before (0, 0) (5, 0, 2)) ∷ []

-- ---- which statements paths pass, and where they end

abbrev numbers : Flow → List ℕ
numbers f = map (λ q. q.0) f.passed

abbrev flows : List Stmt → List Cut → List (List ℕ × List ℕ × Bool)
flows body cuts = map (λ cut. (numbers (flow_from (proc_with body) cut), (flow_from (proc_with body) cut).ends, (flow_from (proc_with body) cut).onward)) cuts

abbrev pub FlowsOfIfs : Type 0
FlowsOfIfs = flows two_ifs (entry_cut ∷ cut 6 Yield ∷ []) ≡ (0 ∷ 1 ∷ 2 ∷ 3 ∷ 4 ∷ 5 ∷ [], 6 ∷ [], false) ∷ ([], [], true) ∷ []

abbrev pub FlowsOfLoop : Type 0
FlowsOfLoop =
    flows waits (entry_cut ∷ cut 0 YieldLoop ∷ cut 3 Yield ∷ [])
    ≡ ([], 0 ∷ [], false) ∷ (0 ∷ 1 ∷ 2 ∷ 4 ∷ [], 3 ∷ 0 ∷ [], true) ∷ ([], 0 ∷ [], false) ∷ []

-- the ends by their numbers: the cuts 1 and 2, and the exit, which is 3
abbrev pub EndsOfLoop : Type 0
EndsOfLoop =
    (ends_from (proc_with waits) entry_cut ≡ 1 ∷ [])
    × (ends_from (proc_with waits) (cut 0 YieldLoop) ≡ 1 ∷ 2 ∷ 3 ∷ [])
    × (ends_from (proc_with waits) (cut 3 Yield) ≡ 1 ∷ [])
