-- Flows one behind the other, and their numbers; where no path begins in statements, the walk over them does what the flow says.
use Rattle.std.proofs.Common.{◌≡◌, ℕ, ◌+◌, ◌<◌, ◌≤◌, Bool, true, false, List, [], ◌∷◌, ◌++◌, map, refl, sym, ap, ◌∙◌, subst, append_assoc, Option, arith, map-id}
use Rattle.std.proofs.lemmas.List.{append-nil, map-append}
use Rattle.std.specs.Prelude.{if◌then◌else◌, ◌||◌}
use Rattle.civl_tree.specs.declared.stmt.Stmt.{Stmt, roll-Stmt, out-roll-Stmt, map-Stmt}
use Rattle.civl_tree.specs.declared.stmt.Stmt.TheOpen.{Stmt-F, If, While, YieldLoop, RankLoop, Yield, Spawn}
use Rattle.civl_tree.specs.declared.stmt.Stmt.TheFolds.{ind-Stmt}
use Rattle.civl_tree.specs.Numbering.{size_step, size_of, sizes_of, numbered}
use Rattle.civl_tree.proofs.Numbers.{sizes_more}
use Rattle.civl_tree.proofs.Sizes.{size_is, size_is_some}
use Rattle.civl_meaning.specs.Rest.{Rest}
use Rattle.civl_conditions.specs.declared.paths.met.Met.{Met}
use Rattle.civl_conditions.specs.paths.Flows.{Flow, ended_flow, flow_then, flow_or, flow_with, flow, flow_all}
use Rattle.civl_conditions.specs.paths.Meets.{numbers_met, is_from, with_onward, met_passing, met_ending, met_entering, met_behind, met_either, walk, walk_all}
use Rattle.civl_conditions.proofs.paths.Passing.{flow_of_layer, flow_is, flow_none, flow_more}
use Rattle.civl_conditions.proofs.paths.Walked.{walk_layer, walk_is, walk_none, walk_more}

-- ---- one behind the other

abbrev flow_made : Rest → List ℕ → Bool → Flow
flow_made passed ends onward = record { passed = passed; ends = ends; onward = onward }

assoc_cases : (p q : Rest) (e f : List ℕ) (x y : Bool) (c : Flow) → flow_then (flow_then (flow_made p e x) (flow_made q f y)) c ≡ flow_then (flow_made p e x) (flow_then (flow_made q f y) c)
assoc_cases p q e f false y c = refl
assoc_cases p q e f true false c = refl
assoc_cases p q e f true true c = rw (append_assoc p q c.passed, append_assoc e f c.ends) refl

pub flow_assoc : (a b c : Flow) → flow_then (flow_then a b) c ≡ flow_then a (flow_then b c)
flow_assoc a b c = assoc_cases a.passed b.passed a.ends b.ends a.onward b.onward c

pub flow_append : (a b : Rest) → flow_all (a ++ b) ≡ flow_then (flow_all a) (flow_all b)
flow_append [] b = ap (λ (f : Flow). flow_then f (flow_all b)) (sym flow_none)
flow_append (q ∷ a) b =
    flow_more q.0 q.1 (a ++ b) ∙ ap (flow_then (flow q.1 q.1 q.0)) (flow_append a b)
    ∙ sym (flow_assoc (flow q.1 q.1 q.0) (flow_all a) (flow_all b))
    ∙ ap (λ (f : Flow). flow_then f (flow_all b)) (sym (flow_more q.0 q.1 a))

-- ---- what is met, one behind the other

abbrev pub met_then : Met → Met → Met
met_then a b = if a.onward then record { passed = a.passed ++ b.passed; ends = a.ends ++ b.ends; onward = b.onward } else a

abbrev met_made : List ℕ → List ℕ → Bool → Met
met_made passed ends onward = record { passed = passed; ends = ends; onward = onward }

then_assoc_cases : (p q e f : List ℕ) (x y : Bool) (c : Met) → met_then (met_then (met_made p e x) (met_made q f y)) c ≡ met_then (met_made p e x) (met_then (met_made q f y) c)
then_assoc_cases p q e f false y c = refl
then_assoc_cases p q e f true false c = refl
then_assoc_cases p q e f true true c = rw (append_assoc p q c.passed, append_assoc e f c.ends) refl

pub then_assoc : (a b c : Met) → met_then (met_then a b) c ≡ met_then a (met_then b c)
then_assoc a b c = then_assoc_cases a.passed b.passed a.ends b.ends a.onward b.onward c

nothing_cases : (p e : List ℕ) (x : Bool) → met_then (met_made p e x) (met_made [] [] true) ≡ met_made p e x
nothing_cases p e false = refl
nothing_cases p e true = rw (append-nil p, append-nil e) refl

pub then_nothing : (m : Met) → met_then m (met_made [] [] true) ≡ m
then_nothing m = nothing_cases m.passed m.ends m.onward

numbers_cases : (p : Rest) (e : List ℕ) (x : Bool) (b : Flow) → numbers_met (flow_then (flow_made p e x) b) ≡ met_then (numbers_met (flow_made p e x)) (numbers_met b)
numbers_cases p e false b = refl
numbers_cases p e true b = rw (map-append (λ (q : ℕ × Stmt). q.0) p b.passed) refl

pub numbers_then : (a b : Flow) → numbers_met (flow_then a b) ≡ met_then (numbers_met a) (numbers_met b)
numbers_then a b = numbers_cases a.passed a.ends a.onward b

-- ---- each form of statement

pass_cases : (number : ℕ) (p e : List ℕ) (x : Bool) → met_passing number (met_made p e x) ≡ met_then (met_made p e x) (met_made (number ∷ []) [] true)
pass_cases number p e false = refl
pass_cases number p e true = rw (append-nil e) refl

pass_is : (number : ℕ) (m : Met) → met_passing number m ≡ met_then m (met_made (number ∷ []) [] true)
pass_is number m = pass_cases number m.passed m.ends m.onward

end_cases : (number : ℕ) (p e : List ℕ) (x : Bool) → met_ending number (met_made p e x) ≡ met_then (met_made p e x) (met_made [] (number ∷ []) false)
end_cases number p e false = refl
end_cases number p e true = rw (append-nil p) refl

pub end_is : (number : ℕ) (m : Met) → met_ending number m ≡ met_then m (met_made [] (number ∷ []) false)
end_is number m = end_cases number m.passed m.ends m.onward

stop_cases : (p e : List ℕ) (x : Bool) → with_onward false (met_made p e x) ≡ met_then (met_made p e x) (met_made [] [] false)
stop_cases p e false = refl
stop_cases p e true = rw (append-nil p, append-nil e) refl

pub stop_is : (m : Met) → with_onward false m ≡ met_then m (met_made [] [] false)
stop_is m = stop_cases m.passed m.ends m.onward

-- where paths have ended, a body adds nothing, and none end again
loop_cases : (number : ℕ) (p e : List ℕ) (x : Bool) (body : Met) → met_ending number (met_then (met_ending number (met_made p e x)) body) ≡ met_ending number (met_made p e x)
loop_cases number p e false body = refl
loop_cases number p e true body = refl

loop_is : (number : ℕ) (m body : Met) → met_ending number (met_then (met_ending number m) body) ≡ met_ending number m
loop_is number m body = loop_cases number m.passed m.ends m.onward body

abbrev met_branches : ℕ → Met → Met → Met
met_branches number a b = record { passed = number ∷ (a.passed ++ b.passed); ends = a.ends ++ b.ends; onward = a.onward || b.onward }

numbers_branches : (number : ℕ) (t : Stmt) (a b : Flow) → numbers_met (flow_with (number, t) (flow_or a b)) ≡ met_branches number (numbers_met a) (numbers_met b)
numbers_branches number t a b = rw (map-append (λ (q : ℕ × Stmt). q.0) a.passed b.passed) refl

joined : (number : ℕ) (p a b : List ℕ) → ((p ++ number ∷ []) ++ a) ++ b ≡ p ++ number ∷ (a ++ b)
joined number p a b = append_assoc (p ++ number ∷ []) a b ∙ append_assoc p (number ∷ []) (a ++ b)

branch_cases : (number : ℕ) (p e : List ℕ) (x : Bool) (a b : Met)
    → met_either (met_passing number (met_made p e x)).onward (met_then (met_passing number (met_made p e x)) a) (λ (m : Met). met_then m b) ≡ met_then (met_made p e x) (met_branches number a b)
branch_cases number p e false a b = refl
branch_cases number p e true a b = rw (joined number p a.passed b.passed, append_assoc e a.ends b.ends) refl

branch_is : (number : ℕ) (m a b : Met)
    → met_either (met_passing number m).onward (met_then (met_passing number m) a) (λ (m : Met). met_then m b) ≡ met_then m (met_branches number a b)
branch_is number m a b = branch_cases number m.passed m.ends m.onward a b

-- ---- statements in which no path begins

-- none of so many numbers from this one on is that from which the paths begin
abbrev pub IsApart : Option ℕ → ℕ → ℕ → Type 0
IsApart from at size = (n : ℕ) → at ≤ n → n < at + size → is_from from n ≡ false

-- what is to be shown of a statement
abbrev Follows : Stmt → Type 0
Follows s = (t : Stmt) (from : Option ℕ) (at : ℕ) (m : Met) → IsApart from at (size_of s) → walk from s at m ≡ met_then m (numbers_met (flow s t at))

pub behind_apart : (from : Option ℕ) (at : ℕ) (m : Met) → is_from from at ≡ false → met_behind from at m ≡ m
behind_apart from at m e = rw e refl

entering_apart : (from : Option ℕ) (at : ℕ) (m : Met) → is_from from at ≡ false → met_entering from at m ≡ met_ending at m
entering_apart from at m e = rw e refl

all_follow : {S : Type 0} (ys : List S) (v : S → Stmt) (h : (x : S) → Follows (v x)) (from : Option ℕ) (at : ℕ) (m : Met) → IsApart from at (sizes_of (map v ys)) → walk_all from (map v ys) at m ≡ met_then m (numbers_met (flow_all (numbered at (map v ys))))
all_follow [] v h from at m apart = walk_none from at m ∙ sym (ap (λ (f : Flow). met_then m (numbers_met f)) flow_none ∙ then_nothing m)
all_follow (y ∷ ys) v h from at m apart =
    let s = v y in
    let more = sizes_more s (map v ys) in
    let some = size_is_some s in
    let own = flow s s at in
    let others = flow_all (numbered (at + size_of s) (map v ys)) in
    walk_more from s (map v ys) at m
    ∙ ap (walk_all from (map v ys) (at + size_of s)) (behind_apart from at (walk from s at m) (apart at (omega arith) (omega arith)) ∙ h y s from at m (λ n l u. apart n l (omega arith)))
    ∙ all_follow ys v h from (at + size_of s) (met_then m (numbers_met own)) (λ n l u. apart n (omega arith) (omega arith))
    ∙ then_assoc m (numbers_met own) (numbers_met others)
    ∙ ap (met_then m) (sym (numbers_then own others))
    ∙ ap (λ (f : Flow). met_then m (numbers_met f)) (sym (flow_more at s (numbered (at + size_of s) (map v ys))))

loop_follows : {S : Type 0} (a : List S) (v : S → Stmt) (h : (x : S) → Follows (v x)) (from : Option ℕ) (at : ℕ) (m : Met) → IsApart from at (1 + sizes_of (map v a))
    → met_ending at (walk_all from (map v a) (at + 1) (met_entering from at m)) ≡ met_then m (numbers_met (ended_flow (at ∷ [])))
loop_follows a v h from at m apart =
    ap (met_ending at) (ap (walk_all from (map v a) (at + 1)) (entering_apart from at m (apart at (omega arith) (omega arith))) ∙ all_follow a v h from (at + 1) (met_ending at m) (λ n l u. apart n (omega arith) (omega arith)))
    ∙ loop_is at m (numbers_met (flow_all (numbered (at + 1) (map v a)))) ∙ end_is at m

layer_follows : {S : Type 0} (y : Stmt-F S) (v : S → Stmt) (h : (x : S) → Follows (v x)) (t : Stmt) (from : Option ℕ) (at : ℕ) (m : Met) → IsApart from at (size_step (map-Stmt Stmt ℕ size_of (map-Stmt S Stmt v y)))
    → walk_layer from (map-Stmt S Stmt v y) at m ≡ met_then m (numbers_met (flow_of_layer (map-Stmt S Stmt v y) t at))
layer_follows (If e a b) v h t from at m apart =
    let fa = flow_all (numbered (at + 1) (map v a)) in
    let fb = flow_all (numbered (at + 1 + sizes_of (map v a)) (map v b)) in
    ap (λ (x : Met). met_either (met_passing at m).onward x (walk_all from (map v b) (at + 1 + sizes_of (map v a)))) (all_follow a v h from (at + 1) (met_passing at m) (λ n l u. apart n (omega arith) (omega arith)))
    ∙ ap (λ (x : Met). with_onward ((met_then (met_passing at m) (numbers_met fa)).onward || x.onward) x) (all_follow b v h from (at + 1 + sizes_of (map v a)) (with_onward (met_passing at m).onward (met_then (met_passing at m) (numbers_met fa))) (λ n l u. apart n (omega arith) (omega arith)))
    ∙ branch_is at m (numbers_met fa) (numbers_met fb)
    ∙ ap (met_then m) (sym (numbers_branches at t fa fb))
layer_follows (While e a) v h t from at m apart =
    ap (with_onward false) (all_follow a v h from (at + 1) (with_onward false m) (λ n l u. apart n (omega arith) (omega arith))) ∙ stop_is m
layer_follows (YieldLoop e i a) v h t from at m apart = loop_follows a v h from at m apart
layer_follows (RankLoop e r i a) v h t from at m apart = loop_follows a v h from at m apart
layer_follows (Yield i) v h t from at m apart = end_is at m
layer_follows (Spawn f es) v h t from at m apart = stop_is m
layer_follows _ v h t from at m apart = pass_is at m

follows : (s : Stmt) → Follows s
follows s =
    ind-Stmt Follows (λ x y e t from at m apart.
    let r = roll-Stmt x in
    let q = out-roll-Stmt x ∙ sym e in
    walk_is from r at m
    ∙ ap (λ (d : Stmt-F Stmt). walk_layer from d at m) q
    ∙ layer_follows y (λ z. z.0) (λ z. z.1) t from at m (subst (IsApart from at) (size_is r ∙ ap (λ (d : Stmt-F Stmt). size_step (map-Stmt Stmt ℕ size_of d)) q) apart)
    ∙ ap (λ (d : Stmt-F Stmt). met_then m (numbers_met (flow_of_layer d t at))) (sym q)
    ∙ ap (λ (f : Flow). met_then m (numbers_met f)) (sym (flow_is r t at))) s

-- the walk over statements in which no path begins
pub walk_apart : (from : Option ℕ) (ss : List Stmt) (at : ℕ) (m : Met) → IsApart from at (sizes_of ss) → walk_all from ss at m ≡ met_then m (numbers_met (flow_all (numbered at ss)))
walk_apart from ss at m apart =
    subst (λ (r : List Stmt). IsApart from at (sizes_of r) → walk_all from r at m ≡ met_then m (numbers_met (flow_all (numbered at r)))) (map-id ss) (all_follow ss (λ (s : Stmt). s) follows from at m) apart

-- and over one
pub one_apart : (from : Option ℕ) (s : Stmt) (at : ℕ) (m : Met) → IsApart from at (size_of s) → walk from s at m ≡ met_then m (numbers_met (flow s s at))
one_apart from s at m apart = follows s s from at m apart
