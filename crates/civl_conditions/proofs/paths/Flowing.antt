-- Flows from the inside out: a flow is put together of others once these are known, so that long bodies compute.
use Rattle.std.proofs.Common.{◌≡◌, ℕ, ◌+◌, Bool, true, false, ◌&&◌, ◌||◌, List, [], ◌∷◌, ◌++◌, map, length, refl, ap, ◌∙◌}
use Rattle.std.specs.Prelude.{nat_eq, if◌then◌else◌}
use Rattle.std.specs.List.{list_any}
use Rattle.civl_tree.specs.declared.expr.Expr.{Expr}
use Rattle.civl_tree.specs.declared.stmt.Stmt.{Stmt, out-Stmt, the_lemmas as of_stmt}
use Rattle.civl_tree.specs.declared.stmt.Stmt.TheOpen.{Stmt-F, If, While, YieldLoop, RankLoop, Yield, Spawn}
use Rattle.civl_tree.specs.declared.program.Proc.{Proc}
use Rattle.civl_tree.specs.Numbering.{sizes_of, numbered}
use Rattle.civl_meaning.specs.Rest.{Rest}
use Rattle.civl_layers.specs.declared.cut.Cut.{Cut}
use Rattle.civl_layers.specs.Cuts.{proc_cuts}
use Rattle.civl_conditions.specs.paths.Flows.{Flow, onward_flow, ended_flow, flow_then, flow_or, flow_with, flow, flow_all, flow_layer, flow_from}
use Rattle.civl_conditions.specs.paths.Ends.{cut_number, reaches, ends_among, ends_from}
use Rattle.civl_conditions.proofs.paths.Passing.{flow_of_layer, flow_is, flow_none, flow_more, flow_yield_loop, flow_rank_loop, flow_yield}

unfoldable pub then_flow : Flow → Flow → Flow
then_flow a b = flow_then a b

unfoldable pub or_flow : Flow → Flow → Flow
or_flow a b = flow_or a b

unfoldable pub with_flow : ℕ × Stmt → Flow → Flow
with_flow q a = flow_with q a

-- what some path passes, where some path ends, and whether some path goes on
abbrev pub the_flow : List (ℕ × Stmt) → List ℕ → Bool → Flow
the_flow passed ends onward = record { passed = passed; ends = ends; onward = onward }

pub then_onward : (p q : List (ℕ × Stmt)) (e f : List ℕ) → then_flow (the_flow p e true) (the_flow q f true) ≡ the_flow (p ++ q) (e ++ f) true
unfolding then_flow
then_onward p q e f = refl

pub then_ended : (p q : List (ℕ × Stmt)) (e f : List ℕ) → then_flow (the_flow p e true) (the_flow q f false) ≡ the_flow (p ++ q) (e ++ f) false
unfolding then_flow
then_ended p q e f = refl

pub ended_then : (p : List (ℕ × Stmt)) (e : List ℕ) (b : Flow) → then_flow (the_flow p e false) b ≡ the_flow p e false
unfolding then_flow
ended_then p e b = refl

pub both_onward : (p q : List (ℕ × Stmt)) (e f : List ℕ) → or_flow (the_flow p e true) (the_flow q f true) ≡ the_flow (p ++ q) (e ++ f) true
unfolding or_flow
both_onward p q e f = refl

pub first_onward : (p q : List (ℕ × Stmt)) (e f : List ℕ) → or_flow (the_flow p e true) (the_flow q f false) ≡ the_flow (p ++ q) (e ++ f) true
unfolding or_flow
first_onward p q e f = refl

pub second_onward : (p q : List (ℕ × Stmt)) (e f : List ℕ) → or_flow (the_flow p e false) (the_flow q f true) ≡ the_flow (p ++ q) (e ++ f) true
unfolding or_flow
second_onward p q e f = refl

pub both_ended : (p q : List (ℕ × Stmt)) (e f : List ℕ) → or_flow (the_flow p e false) (the_flow q f false) ≡ the_flow (p ++ q) (e ++ f) false
unfolding or_flow
both_ended p q e f = refl

pub with_onward : (q : ℕ × Stmt) (p : List (ℕ × Stmt)) (e : List ℕ) → with_flow q (the_flow p e true) ≡ the_flow (q ∷ p) e true
unfolding with_flow
with_onward q p e = refl

pub with_ended : (q : ℕ × Stmt) (p : List (ℕ × Stmt)) (e : List ℕ) → with_flow q (the_flow p e false) ≡ the_flow (q ∷ p) e false
unfolding with_flow
with_ended q p e = refl

-- ---- ends

-- of the numbers of these cuts and of the exit, those at which some path ends
abbrev pub ends_at : List Cut → List ℕ → Bool → List ℕ
ends_at cuts numbers onward = ends_among (λ end. (onward && nat_eq end (length cuts)) || list_any (λ number. nat_eq end number) numbers) 0 cuts

any_mapped : (p : ℕ → Bool) (f : ℕ → ℕ) (ns : List ℕ) → list_any (λ n. p (f n)) ns ≡ list_any p (map f ns)
any_mapped p f [] = refl
any_mapped p f (n ∷ ns) = ap (λ (b : Bool). p (f n) || b) (any_mapped p f ns)

pub among_same : (p q : ℕ → Bool) → ((n : ℕ) → p n ≡ q n) → (at : ℕ) (cuts : List Cut) → ends_among p at cuts ≡ ends_among q at cuts
among_same p q h at [] = ap (λ (b : Bool). if b then at ∷ [] else []) (h at)
among_same p q h at (cut ∷ cuts) =
    ap (λ (b : Bool). (if b then at ∷ [] else []) ++ ends_among p (at + 1) cuts) (h at) ∙ ap (λ (l : List ℕ). (if q at then at ∷ [] else []) ++ l) (among_same p q h (at + 1) cuts)

pub ends_are : (proc : Proc) (cut : Cut) (ends numbers : List ℕ) (onward : Bool) (cuts : List Cut) → (flow_from proc cut).ends ≡ ends → (flow_from proc cut).onward ≡ onward → proc_cuts proc ≡ cuts → map (cut_number proc) ends ≡ numbers →
    ends_from proc cut ≡ ends_at cuts numbers onward
ends_are proc cut ends numbers onward cuts e f g h =
    among_same (reaches proc (flow_from proc cut)) (λ end. (onward && nat_eq end (length cuts)) || list_any (λ number. nat_eq end number) numbers) (λ end.
    ap (λ (l : List ℕ). ((flow_from proc cut).onward && nat_eq end (length (proc_cuts proc))) || list_any (λ number. nat_eq end (cut_number proc number)) l) e
    ∙ ap (λ (b : Bool). ((flow_from proc cut).onward && nat_eq end (length (proc_cuts proc))) || b) (any_mapped (nat_eq end) (cut_number proc) ends)
    ∙ ap (λ (l : List ℕ). ((flow_from proc cut).onward && nat_eq end (length (proc_cuts proc))) || list_any (λ number. nat_eq end number) l) h
    ∙ ap (λ (b : Bool). (b && nat_eq end (length (proc_cuts proc))) || list_any (λ number. nat_eq end number) numbers) f
    ∙ ap (λ (l : List Cut). (onward && nat_eq end (length l)) || list_any (λ number. nat_eq end number) numbers) g) 0 (proc_cuts proc)
    ∙ ap (λ (l : List Cut). ends_among (λ end. (onward && nat_eq end (length cuts)) || list_any (λ number. nat_eq end number) numbers) 0 l) g

-- ---- one layer, and one statement

abbrev pub flow_by : Stmt-F Stmt → Stmt → ℕ → Flow
flow_by (If e a b) s at = with_flow (at, s) (or_flow (flow_all (numbered (at + 1) a)) (flow_all (numbered (at + 1 + sizes_of a) b)))
flow_by (While e a) s at = ended_flow []
flow_by (YieldLoop e i a) s at = ended_flow (at ∷ [])
flow_by (RankLoop e r i a) s at = ended_flow (at ∷ [])
flow_by (Yield i) s at = ended_flow (at ∷ [])
flow_by (Spawn f es) s at = ended_flow []
flow_by _ s at = onward_flow ((at, s) ∷ [])

by_layer : (d : Stmt-F Stmt) (s : Stmt) (at : ℕ) → flow_of_layer d s at ≡ flow_by d s at
unfolding with_flow or_flow
by_layer (If e a b) s at = refl
by_layer _ s at = refl

pub layer_flows : (s t : Stmt) (at : ℕ) → flow s t at ≡ flow_by (out-Stmt s) t at
layer_flows s t at = flow_is s t at ∙ by_layer (out-Stmt s) t at

pub first_flows : (number : ℕ) (s : Stmt) (rest : Rest) → flow_all ((number, s) ∷ rest) ≡ then_flow (flow s s number) (flow_all rest)
unfolding then_flow
first_flows number s rest = flow_more number s rest

abbrev pub loop_by : List Stmt → Rest → Flow
loop_by a [] = onward_flow []
loop_by a (q ∷ qs) = with_flow q (or_flow (flow_all (numbered (q.0 + 1) a ++ q ∷ qs)) (flow_all qs))

pub yield_loop_flows : (e i : Expr) (a : List Stmt) (rest : Rest) → flow_layer (YieldLoop e i a) rest ≡ loop_by a rest
unfolding with_flow or_flow
yield_loop_flows e i a [] = flow_yield_loop e i a []
yield_loop_flows e i a (q ∷ qs) = flow_yield_loop e i a (q ∷ qs)

pub rank_loop_flows : (e r i : Expr) (a : List Stmt) (rest : Rest) → flow_layer (RankLoop e r i a) rest ≡ loop_by a rest
unfolding with_flow or_flow
rank_loop_flows e r i a [] = flow_rank_loop e r i a []
rank_loop_flows e r i a (q ∷ qs) = flow_rank_loop e r i a (q ∷ qs)

pub ruleset flowing = (layer_flows, first_flows, flow_none, yield_loop_flows, rank_loop_flows, flow_yield, then_onward, then_ended, ended_then, both_onward, first_onward, second_onward, both_ended, with_onward, with_ended, of_stmt)
