-- Traces from the inside out: a trace is put together of others once these are known, so that worked paths compute.
use Rattle.std.proofs.Common.{◌≡◌, ℕ, ◌+◌, Bool, true, false, List, ◌∷◌, ◌++◌, map, refl, sym, ap, ◌∙◌}
use Rattle.std.specs.Prelude.{if◌then◌else◌}
use Rattle.civl_tree.specs.declared.expr.Expr.{Expr}
use Rattle.civl_tree.specs.declared.stmt.Stmt.{Stmt, out-Stmt, the_lemmas as of_stmt}
use Rattle.civl_tree.specs.declared.stmt.Stmt.TheOpen as stmt
use Rattle.civl_tree.specs.Numbering.{sizes_of, numbered}
use Rattle.civl_meaning.specs.Rest.{Rest}
use Rattle.civl_conditions.specs.paths.Paths.{Course, Progress, Outcome, Past, Comes, Fails, Stops, tested, pass, progress_of}
use Rattle.civl_traces.specs.declared.walked.Walked.{Walked}
use Rattle.civl_traces.specs.Traces.{Passed, Trace, Onward, Telling, ends_at, then_told, moved, decided, told_by, tell, tell_all, tell_layer}
use Rattle.civl_traces.specs.Told.{moment, passage, ending_of, told}
use Rattle.civl_traces.proofs.Telling.{tells, tell_is, tell_none, tell_more, tell_rank_loop}

abbrev pub the_trace : List Passed → Outcome → ℕ → Trace
the_trace passed outcome at = record { passed = passed; outcome = outcome; at = at }

unfoldable pub then_known : Passed → Trace → Trace
then_known q t = then_told q t

unfoldable pub known_by : ℕ → Progress → Outcome → Onward → Trace
known_by n p o onward = told_by n p o onward

unfoldable pub branch_known : Bool → Rest → Rest → Rest
branch_known t x y = if t then x else y

pub first_is : (x y : Rest) → branch_known true x y ≡ x
unfolding branch_known
first_is x y = refl

pub second_is : (x y : Rest) → branch_known false x y ≡ y
unfolding branch_known
second_is x y = refl

branch_is : (c : Course) (t : Bool) (x y : Rest) (onward : Onward) (p : Progress) → (if t then tell_all c x onward p else tell_all c y onward p) ≡ tell_all c (branch_known t x y) onward p
branch_is c true x y onward p = ap (λ (r : Rest). tell_all c r onward p) (sym (first_is x y))
branch_is c false x y onward p = ap (λ (r : Rest). tell_all c r onward p) (sym (second_is x y))

unfoldable pub told_known : Trace → Walked
told_known t = told t

pub then_is : (q : Passed) (ps : List Passed) (o : Outcome) (n : ℕ) → then_known q (the_trace ps o n) ≡ the_trace (q ∷ ps) o n
unfolding then_known
then_is q ps o n = refl

pub past_is : (n : ℕ) (p b : Progress) (onward : Onward) → known_by n p (Past b) onward ≡ then_known (moved n p b) (onward b)
unfolding then_known known_by
past_is n p b onward = refl

pub comes_is : (n m : ℕ) (p b : Progress) (onward : Onward) → known_by n p (Comes m b) onward ≡ ends_at n (Comes m b)
unfolding known_by
comes_is n m p b onward = refl

pub fails_is : (n : ℕ) (p b : Progress) (onward : Onward) → known_by n p (Fails b) onward ≡ ends_at n (Fails b)
unfolding known_by
fails_is n p b onward = refl

pub stops_is : (n : ℕ) (p b : Progress) (onward : Onward) → known_by n p (Stops b) onward ≡ ends_at n (Stops b)
unfolding known_by
stops_is n p b onward = refl

pub told_is : (ps : List Passed) (o : Outcome) (n : ℕ) → told_known (the_trace ps o n) ≡ record { passed = map passage ps; ending = ending_of o; at = n; end = moment (progress_of o) }
unfolding told_known
told_is ps o n = refl

pub as_known : (t : Trace) (w : Walked) → told_known t ≡ w → told t ≡ w
unfolding told_known
as_known t w e = e

abbrev knows : Course → stmt.Stmt-F Stmt → Telling
knows c (stmt.If e a b) s at onward p =
    then_known (decided at (tested c e p) p) (tell_all c (branch_known (tested c e p) (numbered (at + 1) a) (numbered (at + 1 + sizes_of a) b)) onward p)
knows c _ s at onward p = known_by at p (pass c s at p) onward

knows_layer : (c : Course) (d : stmt.Stmt-F Stmt) (s : Stmt) (at : ℕ) (onward : Onward) (p : Progress) → tells c d s at onward p ≡ knows c d s at onward p
unfolding then_known known_by
knows_layer c (stmt.If e a b) s at onward p =
    ap (then_told (decided at (tested c e p) p)) (branch_is c (tested c e p) (numbered (at + 1) a) (numbered (at + 1 + sizes_of a) b) onward p)
knows_layer c (stmt.While e a) s at onward p = refl
knows_layer c (stmt.YieldLoop e i a) s at onward p = refl
knows_layer c (stmt.RankLoop e r i a) s at onward p = refl
knows_layer c (stmt.Assign x e) s at onward p = refl
knows_layer c (stmt.Assert e) s at onward p = refl
knows_layer c (stmt.Call f xs rs) s at onward p = refl
knows_layer c (stmt.Yield e) s at onward p = refl
knows_layer c stmt.Commit s at onward p = refl
knows_layer c (stmt.Intro x e) s at onward p = refl
knows_layer c (stmt.Spawn f xs) s at onward p = refl

pub knows_is : (c : Course) (s t : Stmt) (at : ℕ) (onward : Onward) (p : Progress) → tell c s t at onward p ≡ knows c (out-Stmt s) t at onward p
knows_is c s t at onward p = tell_is c s t at onward p ∙ knows_layer c (out-Stmt s) t at onward p

pub knows_rank_loop : (c : Course) (e r i : Expr) (a : List Stmt) (n : ℕ) (s : Stmt) (k : Rest) (onward : Onward) (p : Progress) →
    tell_layer c (stmt.RankLoop e r i a) ((n, s) ∷ k) onward p ≡ then_known (decided n (tested c e p) p) (tell_all c (branch_known (tested c e p) (numbered (n + 1) a ++ (n, s) ∷ k) k) onward p)
unfolding then_known
knows_rank_loop c e r i a n s k onward p =
    tell_rank_loop c e r i a ((n, s) ∷ k) onward p
    ∙ ap (then_told (decided n (tested c e p) p)) (branch_is c (tested c e p) (numbered (n + 1) a ++ (n, s) ∷ k) k onward p)

pub ruleset knowing = (first_is, second_is, then_is, past_is, comes_is, fails_is, stops_is, told_is, knows_is, knows_rank_loop, tell_none, tell_more, of_stmt)
