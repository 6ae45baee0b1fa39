-- A sweep stops where the flow ends, and goes on where the flow does.
use Rattle.std.proofs.Common.{◌≡◌, ◌∙◌, ℕ, ◌+◌, Bool, true, false, ◌||◌, List, [], ◌∷◌, ◌++◌, map, refl, sym, ap, ap₂, subst, append-nil, append_assoc}
use Rattle.std.specs.Prelude.{if◌then◌else◌}
use Rattle.std.proofs.lemmas.List.{map-append}
use Rattle.civl_tree.specs.declared.expr.Expr.{Expr}
use Rattle.civl_tree.specs.declared.stmt.Stmt.{Stmt, out-Stmt, roll-Stmt, out-roll-Stmt, map-Stmt}
use Rattle.civl_tree.specs.declared.stmt.Stmt.TheOpen as stmt
use Rattle.civl_tree.specs.declared.stmt.Stmt.TheFolds.{ind-Stmt}
use Rattle.civl_tree.specs.Numbering.{size_of, sizes_of, numbered}
use Rattle.civl_meaning.specs.Meaning.{Meaning, Does, Runs, Missing, called}
use Rattle.civl_meaning.specs.Rest.{Rest, rest_at}
use Rattle.civl_layers.specs.declared.cut.Cut.{Cut}
use Rattle.civl_layers.specs.declared.cut.CutKind.{CutKind}
use Rattle.civl_layers.specs.declared.cut.CutKind.TheVariants as kind
use Rattle.civl_bits.specs.declared.value.Value.{Value}
use Rattle.civl_tree.specs.declared.name.Name.{Name}
use Rattle.civl_conditions.specs.paths.Paths.{Course, tested}
use Rattle.civl_conditions.specs.paths.Flows.{Flow, onward_flow, ended_flow, flow_then, flow_or, flow_with, flow, flow_all, flow_loop, flow_layer, flow_rest, flow_kind, flow_from}
use Rattle.civl_conditions.proofs.paths.Passing.{flow_of_layer, flow_is, flow_none, flow_more}
use Rattle.civl_conditions.proofs.paths.Following.{flow_append}
use Rattle.civl_moves.specs.sweeps.Sweeps.{Stop, Swept, standing, where_onward, by_both, first_begins, second_begins, with_meaning, sweep, sweep_all, sweep_loop, sweep_layer, sweep_rest, sweep_kind, sweep_from, sweep_begins}
use Rattle.civl_moves.specs.sweeps.Flowing.{numbers_of, SweepsStopAtEnds}
use Rattle.civl_moves.proofs.sweeps.Sweeping.{sweep_of_layer, sweep_is, sweep_none, sweep_more}

-- what is added
pub record Adds (f : Flow) (d e : Swept) : Type 0 where
  pub onward : e.onward ≡ f.onward
  pub stops : numbers_of e.stops ≡ numbers_of d.stops ++ f.ends

abbrev pub FlowsAs : Flow → (Swept → Swept) → Type 0
FlowsAs f g = (d : Swept) → d.onward ≡ true → Adds f d (g d)

-- a statement that is passed and stops nowhere
passed_adds : (p : Rest) (d e : Swept) → e.onward ≡ d.onward → e.stops ≡ d.stops → d.onward ≡ true → Adds (onward_flow p) d e
passed_adds p d e o s h = record { onward = o ∙ h; stops = ap numbers_of s ∙ sym (append-nil (numbers_of d.stops)) }

ended_adds : (d e : Swept) → e.onward ≡ false → e.stops ≡ d.stops → Adds (ended_flow []) d e
ended_adds d e o s = record { onward = o; stops = ap numbers_of s ∙ sym (append-nil (numbers_of d.stops)) }

cut_adds : (at : ℕ) (d e : Swept) (s : Stop) → s.number ≡ at → e.onward ≡ false → e.stops ≡ d.stops ++ s ∷ [] → Adds (ended_flow (at ∷ [])) d e
cut_adds at d e s n o h = record {
  onward = o;
  stops = ap numbers_of h ∙ map-append (λ (s : Stop). s.number) d.stops (s ∷ []) ∙ ap (λ (k : ℕ). numbers_of d.stops ++ k ∷ []) n;
}

with_adds : (q : ℕ × Stmt) (f : Flow) (d e : Swept) → Adds f d e → Adds (flow_with q f) d e
with_adds q f d e a = record { onward = a.onward; stops = a.stops }

-- the same, said otherwise
adds_as : (f k : Flow) (d e r : Swept) → f ≡ k → e ≡ r → Adds f d e → Adds k d r
adds_as f k d e r p q a = subst (λ (f : Flow). Adds f d r) p (subst (Adds f d) q a)

abbrev made : Rest → List ℕ → Bool → Flow
made passed ends onward = record { passed = passed; ends = ends; onward = onward }

then_cases : (p : Rest) (ends : List ℕ) (o : Bool) (b : Flow) (h : Swept → Swept) (d e : Swept) → ((x : Swept) → x.onward ≡ false → h x ≡ x) → Adds (made p ends o) d e → FlowsAs b h → Adds (flow_then (made p ends o) b) d (h e)
then_cases p ends true b h d e still a k =
    let next = k e a.onward in
    record { onward = next.onward; stops = next.stops ∙ ap (λ (ns : List ℕ). ns ++ b.ends) a.stops ∙ append_assoc (numbers_of d.stops) ends b.ends }
then_cases p ends false b h d e still a k = subst (Adds (made p ends false) d) (sym (still e a.onward)) a

either_adds : (t : Bool) (a b : Flow) (g h : Swept → Swept) → FlowsAs a g → FlowsAs b h → FlowsAs (flow_or a b) (by_both t g h)
either_adds t a b g h p q d o =
    let x = g (first_begins t d) in
    let first = p (first_begins t d) o in
    let second = q (second_begins t d x) o in
    record {
      onward = ap₂ (λ (u v : Bool). u || v) first.onward second.onward;
      stops = second.stops ∙ ap (λ (ns : List ℕ). ns ++ b.ends) first.stops ∙ append_assoc (numbers_of d.stops) a.ends b.ends;
    }

module _ (c : Course) where
  -- where no path goes on
  still_all : (rest : Rest) (d : Swept) → d.onward ≡ false → sweep_all c rest d ≡ d
  still_all [] d h = sweep_none c d
  still_all (q ∷ rest) d h =
      let here : where_onward (sweep c q.1 q.0) d ≡ d = ap (λ (b : Bool). if b then sweep c q.1 q.0 d else d) h in
      sweep_more c q.0 q.1 rest d ∙ ap (sweep_all c rest) here ∙ still_all rest d h

  abbrev FlowsIt : Stmt → Type 0
  FlowsIt s = (t : Stmt) (at : ℕ) → FlowsAs (flow s t at) (sweep c s at)

  abbrev FlowsAll : Rest → Type 0
  FlowsAll rest = FlowsAs (flow_all rest) (sweep_all c rest)

  none_flows : FlowsAll []
  none_flows d h = adds_as (onward_flow []) (flow_all []) d d _ (sym flow_none) (sym (sweep_none c d)) (passed_adds [] d d refl refl h)

  more_flows : (at : ℕ) (s : Stmt) (rest : Rest) → FlowsAs (flow s s at) (sweep c s at) → FlowsAll rest → FlowsAll ((at, s) ∷ rest)
  more_flows at s rest one others d h =
      let here : where_onward (sweep c s at) d ≡ sweep c s at d = ap (λ (b : Bool). if b then sweep c s at d else d) h in
      let f = flow s s at in
      adds_as (flow_then f (flow_all rest)) _ d (sweep_all c rest (sweep c s at d)) _ (sym (flow_more at s rest)) (sym (sweep_more c at s rest d ∙ ap (sweep_all c rest) here))
      (then_cases f.passed f.ends f.onward (flow_all rest) (sweep_all c rest) d (sweep c s at d) (still_all rest) (one d h) others)

  meaning_adds : (p : Rest) (results : List Name) (m : Meaning) (inputs chosen : List Value) (d : Swept) → d.onward ≡ true → Adds (onward_flow p) d (with_meaning c results m inputs chosen d)
  meaning_adds p results (Does a) inputs chosen d h = passed_adds p d _ refl refl h
  meaning_adds p results (Runs number proc) inputs chosen d h = passed_adds p d _ refl refl h
  meaning_adds p results Missing inputs chosen d h = passed_adds p d _ refl refl h

  all_flow : {S : Type 0} (ys : List S) (v : S → Stmt) → ((x : S) → FlowsIt (v x)) → (at : ℕ) → FlowsAll (numbered at (map v ys))
  all_flow [] v f at = none_flows
  all_flow (y ∷ ys) v f at = more_flows at (v y) (numbered (at + size_of (v y)) (map v ys)) (f y (v y) at) (all_flow ys v f (at + size_of (v y)))

  layer_flows : {S : Type 0} (x : stmt.Stmt-F S) (v : S → Stmt) → ((y : S) → FlowsIt (v y)) → (t : Stmt) (at : ℕ) → FlowsAs (flow_of_layer (map-Stmt S Stmt v x) t at) (sweep_of_layer c (map-Stmt S Stmt v x) at)
  layer_flows (stmt.Assign x e) v f t at d h = passed_adds ((at, t) ∷ []) d _ refl refl h
  layer_flows (stmt.Assert e) v f t at d h = passed_adds ((at, t) ∷ []) d _ refl refl h
  layer_flows (stmt.If e x y) v f t at d h =
      with_adds (at, t) _ d _ (either_adds (tested c e (standing d)) _ _ _ _ (all_flow x v f (at + 1)) (all_flow y v f (at + 1 + sizes_of (map v x))) d h)
  layer_flows (stmt.While e x) v f t at d h = ended_adds d _ refl refl
  layer_flows (stmt.YieldLoop e i x) v f t at d h = cut_adds at d _ _ refl refl refl
  layer_flows (stmt.RankLoop e r i x) v f t at d h = cut_adds at d _ _ refl refl refl
  layer_flows (stmt.Call g es rs) v f t at d h = meaning_adds ((at, t) ∷ []) rs (called c.plain g) _ _ d h
  layer_flows (stmt.Yield i) v f t at d h = cut_adds at d _ _ refl refl refl
  layer_flows stmt.Commit v f t at d h = passed_adds ((at, t) ∷ []) d _ refl refl h
  layer_flows (stmt.Intro x e) v f t at d h = passed_adds ((at, t) ∷ []) d _ refl refl h
  layer_flows (stmt.Spawn g es) v f t at d h = ended_adds d _ refl refl

  pub stmt_flows : (s : Stmt) → FlowsIt s
  stmt_flows s =
      ind-Stmt FlowsIt (λ x y e t at d h.
      let r = roll-Stmt x in
      let l = out-roll-Stmt x ∙ sym e in
      adds_as _ _ d _ _
      (sym (flow_is r t at ∙ ap (λ (z : stmt.Stmt-F Stmt). flow_of_layer z t at) l))
      (sym (sweep_is c r at d ∙ ap (λ (z : stmt.Stmt-F Stmt). sweep_of_layer c z at d) l))
      (layer_flows y (λ z. z.0) (λ z. z.1) t at d h)) s

  pub rest_flows : (rest : Rest) → FlowsAll rest
  rest_flows [] = none_flows
  rest_flows (q ∷ rest) = more_flows q.0 q.1 rest (stmt_flows q.1 q.1 q.0) (rest_flows rest)

  -- ---- from a cut

  -- a loop that comes again: paths end before it
  again : (r : Rest) (q : ℕ × Stmt) (k : Rest) → flow q.1 q.1 q.0 ≡ ended_flow (q.0 ∷ []) → flow_all (r ++ q ∷ k) ≡ flow_then (flow_all r) (ended_flow (q.0 ∷ []))
  again r q k e = flow_append r (q ∷ k) ∙ ap (flow_then (flow_all r)) (flow_more q.0 q.1 k ∙ ap (λ (f : Flow). flow_then f (flow_all k)) e)

  ended_then : (p : Rest) (ends : List ℕ) (o : Bool) (n : ℕ) → (flow_then (made p ends o) (ended_flow (n ∷ []))).onward ≡ false
  ended_then p ends true n = refl
  ended_then p ends false n = refl

  loop_flows : (e : Expr) (a : List Stmt) (q : ℕ × Stmt) (k : Rest) → flow q.1 q.1 q.0 ≡ ended_flow (q.0 ∷ []) → FlowsAs (flow_loop a (q ∷ k)) (sweep_loop c e a (q ∷ k))
  loop_flows e a q k l d h =
      let t = tested c e (standing d) in
      let body = numbered (q.0 + 1) a in
      let x = sweep_all c (body ++ q ∷ []) (first_begins t d) in
      let first = rest_flows (body ++ q ∷ []) (first_begins t d) h in
      let second = rest_flows k (second_begins t d x) h in
      let same = again body q [] l ∙ sym (again body q k l) in
      let f = flow_all body in
      let none : (flow_all (body ++ q ∷ k)).onward ≡ false = ap (λ (f : Flow). f.onward) (again body q k l) ∙ ended_then f.passed f.ends f.onward q.0 in
      record {
        onward = second.onward ∙ sym (ap (λ (b : Bool). b || (flow_all k).onward) none);
        stops =
            second.stops ∙ ap (λ (ns : List ℕ). ns ++ (flow_all k).ends) (first.stops ∙ ap (λ (f : Flow). numbers_of d.stops ++ f.ends) same)
            ∙ append_assoc (numbers_of d.stops) (flow_all (body ++ q ∷ k)).ends (flow_all k).ends;
      }

  layer_from : (x : stmt.Stmt-F Stmt) (q : ℕ × Stmt) (k : Rest) → out-Stmt q.1 ≡ x → FlowsAs (flow_layer x (q ∷ k)) (sweep_layer c x (q ∷ k))
  unfolding flow_layer sweep_layer
  layer_from (stmt.YieldLoop e i a) q k o = loop_flows e a q k (flow_is q.1 q.1 q.0 ∙ ap (λ (z : stmt.Stmt-F Stmt). flow_of_layer z q.1 q.0) o)
  layer_from (stmt.RankLoop e r i a) q k o = loop_flows e a q k (flow_is q.1 q.1 q.0 ∙ ap (λ (z : stmt.Stmt-F Stmt). flow_of_layer z q.1 q.0) o)
  layer_from _ q k o = rest_flows k

  pub from_rest_flows : (k : Rest) → FlowsAs (flow_rest k) (sweep_rest c k)
  from_rest_flows [] d h = passed_adds [] d d refl refl h
  from_rest_flows (q ∷ k) d h = layer_from (out-Stmt q.1) q k refl d h

  from_kind_flows : (kind : CutKind) (number : ℕ) → FlowsAs (flow_kind c.proc.body number kind) (sweep_kind c number kind)
  from_kind_flows kind.Entry number = rest_flows (numbered 0 c.proc.body)
  from_kind_flows kind.Yield number = from_rest_flows (rest_at c.proc.body number)
  from_kind_flows kind.YieldLoop number = from_rest_flows (rest_at c.proc.body number)
  from_kind_flows kind.RankLoop number = from_rest_flows (rest_at c.proc.body number)

  pub path_flows : (cut : Cut) → FlowsAs (flow_from c.proc cut) (sweep_from c cut)
  unfolding flow_from sweep_from
  path_flows cut = from_kind_flows cut.kind cut.statement

pub sweeps_stop_at_ends : SweepsStopAtEnds
sweeps_stop_at_ends c cut p = let a = path_flows c cut (sweep_begins p) refl in (a.stops, a.onward)
