-- The walk over statements in which the paths begin does what the flow from there says.
use Rattle.std.proofs.Common.{◌≡◌, ℕ, ◌+◌, ◌<◌, ◌≤◌, Bool, true, false, List, [], ◌∷◌, ◌++◌, map, refl, sym, ap, ◌∙◌, subst, append_assoc, None, Some, inl, inr, arith, map-id}
use Rattle.std.proofs.lemmas.Bool.{cases_lt, lt-ltb, le-ltb, eq-eqb, ne_eqb}
use Rattle.std.proofs.lemmas.List.{append-nil}
use Rattle.std.specs.Prelude.{if◌then◌else◌, ◌||◌, is_none}
use Rattle.civl_tree.specs.declared.stmt.Stmt.{Stmt, out-Stmt, roll-Stmt, out-roll-Stmt, map-Stmt}
use Rattle.civl_tree.specs.declared.stmt.Stmt.TheOpen.{Stmt-F, If, While, YieldLoop, RankLoop}
use Rattle.civl_tree.specs.declared.stmt.Stmt.TheFolds.{ind-Stmt}
use Rattle.civl_tree.specs.Numbering.{size_step, size_of, sizes_of, numbered}
use Rattle.civl_tree.proofs.Numbers.{sizes_more}
use Rattle.civl_tree.proofs.Sizes.{size_is, size_is_some}
use Rattle.civl_meaning.specs.Rest.{Rest, rest_inside, rest_among, rest_at}
use Rattle.civl_meaning.proofs.Rests.{rest_layer, rest_is, among_rest, rest_none}
use Rattle.civl_tree.specs.declared.program.Proc.{Proc}
use Rattle.civl_layers.specs.declared.cut.Cut.{Cut}
use Rattle.civl_layers.specs.declared.cut.CutKind.{CutKind}
use Rattle.civl_layers.specs.declared.cut.CutKind.TheVariants as kind
use Rattle.civl_conditions.specs.declared.paths.met.Met.{Met}
use Rattle.civl_conditions.specs.paths.Flows.{Flow, onward_flow, ended_flow, flow_then, flow_or, flow_with, flow, flow_all, flow_loop, flow_layer, flow_rest, flow_kind, flow_from}
use Rattle.civl_conditions.specs.paths.Meets.{numbers_met, with_onward, met_ending, met_entering, met_behind, met_either, met_past, nothing_met, from_kind, from_cut, walk, walk_all}
use Rattle.civl_conditions.proofs.paths.Passing.{flow_is, flow_none, flow_more}
use Rattle.civl_conditions.proofs.paths.Walked.{walk_layer, walk_is, walk_more}
use Rattle.civl_conditions.proofs.paths.Following.{flow_append, met_then, numbers_then, end_is, stop_is, behind_apart, IsApart, walk_apart, one_apart}

-- ---- from a cut, with more behind

-- a loop that comes again: paths end before it
again : (n : ℕ) (s : Stmt) (a k : Rest) → flow s s n ≡ ended_flow (n ∷ []) → flow_all (a ++ (n, s) ∷ k) ≡ flow_then (flow_all a) (ended_flow (n ∷ []))
again n s a k e =
    flow_append a ((n, s) ∷ k) ∙ ap (flow_then (flow_all a)) (flow_more n s k ∙ ap (λ (f : Flow). flow_then f (flow_all k)) e)

abbrev made : Rest → List ℕ → Bool → Flow
made passed ends onward = record { passed = passed; ends = ends; onward = onward }

round_cases : (q : ℕ × Stmt) (n : ℕ) (x : Bool) (a k : Rest) (e f : List ℕ) (y : Bool) (c : Flow)
    → flow_with q (flow_or (flow_then (made a e x) (ended_flow (n ∷ []))) (flow_then (made k f y) c)) ≡ flow_then (flow_with q (flow_or (flow_then (made a e x) (ended_flow (n ∷ []))) (made k f y))) c
round_cases q n true a k e f true c = rw (append_assoc (a ++ []) k c.passed, append_assoc (e ++ n ∷ []) f c.ends) refl
round_cases q n false a k e f true c = rw (append_assoc a k c.passed, append_assoc e f c.ends) refl
round_cases q n true a k e f false c = refl
round_cases q n false a k e f false c = refl

loop_append : (a : List Stmt) (q : ℕ × Stmt) (qs k : Rest) → flow q.1 q.1 q.0 ≡ ended_flow (q.0 ∷ []) → flow_loop a (q ∷ (qs ++ k)) ≡ flow_then (flow_loop a (q ∷ qs)) (flow_all k)
loop_append a q qs k e =
    let body = flow_all (numbered (q.0 + 1) a) in
    let others = flow_all qs in
    ap (λ (f : Flow). flow_with q (flow_or f (flow_all (qs ++ k)))) (again q.0 q.1 (numbered (q.0 + 1) a) (qs ++ k) e)
    ∙ ap (λ (f : Flow). flow_with q (flow_or (flow_then body (ended_flow (q.0 ∷ []))) f)) (flow_append qs k)
    ∙ round_cases q q.0 body.onward body.passed others.passed body.ends others.ends others.onward (flow_all k)
    ∙ ap (λ (f : Flow). flow_then (flow_with q (flow_or f others)) (flow_all k)) (sym (again q.0 q.1 (numbered (q.0 + 1) a) qs e))

layer_append : (d : Stmt-F Stmt) (q : ℕ × Stmt) (qs k : Rest) → out-Stmt q.1 ≡ d → flow_layer d (q ∷ (qs ++ k)) ≡ flow_then (flow_layer d (q ∷ qs)) (flow_all k)
unfolding flow_layer
layer_append (YieldLoop e i a) q qs k o = loop_append a q qs k (flow_is q.1 q.1 q.0 ∙ rw o refl)
layer_append (RankLoop e r i a) q qs k o = loop_append a q qs k (flow_is q.1 q.1 q.0 ∙ rw o refl)
layer_append _ q qs k o = flow_append qs k

-- the flow from a cut, and behind it that of what comes after
pub rest_append : (q : ℕ × Stmt) (qs k : Rest) → flow_rest (q ∷ (qs ++ k)) ≡ flow_then (flow_rest (q ∷ qs)) (flow_all k)
rest_append q qs k = layer_append (out-Stmt q.1) q qs k refl

-- ---- what is met from there, behind what was met before

abbrev idle : List ℕ → List ℕ → Met
idle passed ends = record { passed = passed; ends = ends; onward = false }

abbrev begun : List ℕ → List ℕ → Met → Met
begun passed ends m = record { passed = passed ++ m.passed; ends = ends ++ m.ends; onward = m.onward }

abbrev met_made : List ℕ → List ℕ → Bool → Met
met_made passed ends onward = record { passed = passed; ends = ends; onward = onward }

begun_cases : (p e a f : List ℕ) (x : Bool) (m : Met) → met_then (begun p e (met_made a f x)) m ≡ begun p e (met_then (met_made a f x) m)
begun_cases p e a f false m = refl
begun_cases p e a f true m = rw (append_assoc p a m.passed, append_assoc e f m.ends) refl

begun_then : (p e : List ℕ) (a m : Met) → met_then (begun p e a) m ≡ begun p e (met_then a m)
begun_then p e a m = begun_cases p e a.passed a.ends a.onward m

begun_more : (p e : List ℕ) (q : ℕ × Stmt) (qs k : Rest) → met_then (begun p e (numbers_met (flow_rest (q ∷ qs)))) (numbers_met (flow_all k)) ≡ begun p e (numbers_met (flow_rest (q ∷ (qs ++ k))))
begun_more p e q qs k =
    begun_then p e (numbers_met (flow_rest (q ∷ qs))) (numbers_met (flow_all k))
    ∙ ap (begun p e) (sym (numbers_then (flow_rest (q ∷ qs)) (flow_all k)))
    ∙ ap (λ (f : Flow). begun p e (numbers_met f)) (sym (rest_append q qs k))

-- ---- the statement from which the paths begin

before_apart : (w at size : ℕ) → w < at → IsApart (Some w) at size
before_apart w at size h n l u = ne_eqb w n (λ q. absurd (omega arith))

behind_all : (w at size : ℕ) → at + size ≤ w → IsApart (Some w) at size
behind_all w at size h n l u = ne_eqb w n (λ q. absurd (omega arith))

-- a walk with no path
idle_walk : (w : ℕ) (ss : List Stmt) (at : ℕ) (p e : List ℕ) → IsApart (Some w) at (sizes_of ss) → walk_all (Some w) ss at (idle p e) ≡ idle p e
idle_walk w ss at p e apart = walk_apart (Some w) ss at (idle p e) apart

head_cases : (at : ℕ) (s : Stmt) (p e : List ℕ) (a : Rest) (f : List ℕ) (x : Bool)
    → with_onward true (met_ending at (met_then (met_made (p ++ at ∷ []) e true) (numbers_met (made a f x)))) ≡ begun p e (numbers_met (flow_with (at, s) (flow_or (flow_then (made a f x) (ended_flow (at ∷ []))) (onward_flow []))))
head_cases at s p e a f true =
    rw (append-nil (a ++ []), append-nil a, append-nil (f ++ at ∷ []), append_assoc p (at ∷ []) (map (λ (q : ℕ × Stmt). q.0) a), append_assoc e f (at ∷ [])) refl
head_cases at s p e a f false = rw (append-nil a, append-nil f, append_assoc p (at ∷ []) (map (λ (q : ℕ × Stmt). q.0) a)) refl

entering_here : (at : ℕ) (p e : List ℕ) → met_entering (Some at) at (idle p e) ≡ met_made (p ++ at ∷ []) e true
entering_here at p e = rw (eq-eqb at at refl) refl

head_loop : (a : List Stmt) (s : Stmt) (at : ℕ) (p e : List ℕ) → flow s s at ≡ ended_flow (at ∷ [])
    → with_onward true (met_ending at (walk_all (Some at) a (at + 1) (met_entering (Some at) at (idle p e)))) ≡ begun p e (numbers_met (flow_loop a ((at, s) ∷ [])))
head_loop a s at p e h =
    let body = flow_all (numbered (at + 1) a) in
    ap (λ (m : Met). with_onward true (met_ending at m)) (ap (walk_all (Some at) a (at + 1)) (entering_here at p e) ∙ walk_apart (Some at) a (at + 1) (met_made (p ++ at ∷ []) e true) (before_apart at (at + 1) (sizes_of a) (omega arith)))
    ∙ head_cases at s p e body.passed body.ends body.onward
    ∙ ap (λ (f : Flow). begun p e (numbers_met (flow_with (at, s) (flow_or (flow_then body (ended_flow (at ∷ []))) f)))) (sym flow_none)
    ∙ ap (λ (f : Flow). begun p e (numbers_met (flow_with (at, s) (flow_or f (flow_all []))))) (sym (again at s (numbered (at + 1) a) [] h))

-- behind any other statement they go on
head_else : (p e : List ℕ) (m : Met) → m ≡ idle p e → with_onward true m ≡ begun p e (numbers_met (flow_all []))
head_else p e m h = ap (with_onward true) h ∙ rw (flow_none, append-nil p, append-nil e) refl

branches_idle : (p e : List ℕ) (x : Met) (f : Met → Met) → x ≡ idle p e → f (idle p e) ≡ idle p e → met_either false x f ≡ idle p e
branches_idle p e x f h g = ap (λ (m : Met). met_either false m f) h ∙ ap (λ (m : Met). with_onward (false || m.onward) m) g

head_layer : (d : Stmt-F Stmt) (s : Stmt) (at : ℕ) (p e : List ℕ) → out-Stmt s ≡ d → with_onward true (walk_layer (Some at) d at (idle p e)) ≡ begun p e (numbers_met (flow_layer d ((at, s) ∷ [])))
unfolding flow_layer
head_layer (YieldLoop c i a) s at p e o = head_loop a s at p e (flow_is s s at ∙ rw o refl)
head_layer (RankLoop c r i a) s at p e o = head_loop a s at p e (flow_is s s at ∙ rw o refl)
head_layer (If c a b) s at p e o =
    head_else p e _ (branches_idle p e _ (walk_all (Some at) b (at + 1 + sizes_of a)) (idle_walk at a (at + 1) p e (before_apart at (at + 1) (sizes_of a) (omega arith))) (idle_walk at b (at + 1 + sizes_of a) p e (before_apart at (at + 1 + sizes_of a) (sizes_of b) (omega arith))))
head_layer (While c a) s at p e o = head_else p e _ (ap (with_onward false) (idle_walk at a (at + 1) p e (before_apart at (at + 1) (sizes_of a) (omega arith))))
head_layer _ s at p e o = head_else p e _ refl

behind_here : (at : ℕ) (m : Met) → met_behind (Some at) at m ≡ with_onward true m
behind_here at m = rw (eq-eqb at at refl) refl

head_is : (s : Stmt) (at : ℕ) (p e : List ℕ) → met_behind (Some at) at (walk (Some at) s at (idle p e)) ≡ begun p e (numbers_met (flow_rest ((at, s) ∷ [])))
head_is s at p e =
    behind_here at (walk (Some at) s at (idle p e)) ∙ ap (with_onward true) (walk_is (Some at) s at (idle p e)) ∙ head_layer (out-Stmt s) s at p e refl

-- ---- statements among which the paths begin

-- what is still to run from there, before what comes behind; and what is met by the walk
record Begun (f : Rest → Rest) (p e : List ℕ) (r : Met) : Type 0 where
  head : ℕ × Stmt
  others : Rest
  is : (k : Rest) → f k ≡ head ∷ (others ++ k)
  met : r ≡ begun p e (numbers_met (flow_rest (head ∷ others)))

retold : (f g : Rest → Rest) (p e : List ℕ) (r m : Met) → ((k : Rest) → g k ≡ f k) → m ≡ r → Begun f p e r → Begun g p e m
retold f g p e r m h i b = record { head = b.head; others = b.others; is = λ k. h k ∙ b.is k; met = i ∙ b.met }

-- with a statement behind them before which paths end or stop
closed : (f : Rest → Rest) (p e : List ℕ) (r : Met) (at : ℕ) (t : Stmt) (ends : List ℕ) → flow t t at ≡ ended_flow ends → Begun f p e r → Begun (λ k. f ((at, t) ∷ k)) p e (met_then r (met_made [] ends false))
closed f p e r at t ends h b =
    let one : flow_all ((at, t) ∷ []) ≡ ended_flow ends = flow_more at t [] ∙ ap (λ (f : Flow). flow_then f (flow_all [])) h in
    record {
      head = b.head;
      others = b.others ++ (at, t) ∷ [];
      is = λ k. b.is ((at, t) ∷ k) ∙ ap (λ (l : Rest). b.head ∷ l) (sym (append_assoc b.others ((at, t) ∷ []) k));
      met =
          ap (λ (m : Met). met_then m (met_made [] ends false)) b.met
          ∙ ap (λ (f : Flow). met_then (begun p e (numbers_met (flow_rest (b.head ∷ b.others)))) (numbers_met f)) (sym one)
          ∙ begun_more p e b.head b.others ((at, t) ∷ []);
    }

-- what is to be shown of a statement
abbrev Begins : Stmt → Type 0
Begins s = (at w : ℕ) (p e : List ℕ) → at < w → w < at + size_of s → Begun (λ k. rest_inside s s at k w) p e (walk (Some w) s at (idle p e))

-- at a statement
here_begins : (s : Stmt) (ss : List Stmt) (at : ℕ) (p e : List ℕ) → Begun (λ k. rest_among (s ∷ ss) at k at) p e (walk_all (Some at) (s ∷ ss) at (idle p e))
here_begins s ss at p e =
    let some = size_is_some s in
    let next = at + size_of s in
    let below : at < at + size_of s = omega arith in
    record {
      head = (at, s);
      others = numbered next ss;
      is = λ k. among_rest s ss at k at ∙ rw (lt-ltb at (at + size_of s) below, eq-eqb at at refl) refl;
      met =
          walk_more (Some at) s ss at (idle p e) ∙ ap (walk_all (Some at) ss next) (head_is s at p e)
          ∙ walk_apart (Some at) ss next (begun p e (numbers_met (flow_rest ((at, s) ∷ [])))) (before_apart at next (sizes_of ss) (omega arith))
          ∙ begun_more p e (at, s) [] (numbered next ss);
    }

-- inside it
inside_begins : (s : Stmt) (ss : List Stmt) (at w : ℕ) (p e : List ℕ) → at < w → w < at + size_of s → Begun (λ k. rest_inside s s at k w) p e (walk (Some w) s at (idle p e)) → Begun (λ k. rest_among (s ∷ ss) at k w) p e (walk_all (Some w) (s ∷ ss) at (idle p e))
inside_begins s ss at w p e l u b =
    let next = at + size_of s in
    let rest = numbered next ss in
    let ne : w ≡ at → ⊥ = λ q. absurd (omega arith) in
    record {
      head = b.head;
      others = b.others ++ rest;
      is = λ k. among_rest s ss at k w ∙ rw (lt-ltb w (at + size_of s) u, ne_eqb w at ne) (b.is (rest ++ k)) ∙ ap (λ (l : Rest). b.head ∷ l) (sym (append_assoc b.others rest k));
      met =
          walk_more (Some w) s ss at (idle p e)
          ∙ ap (walk_all (Some w) ss next) (behind_apart (Some w) at (walk (Some w) s at (idle p e)) (ne_eqb w at ne) ∙ b.met)
          ∙ walk_apart (Some w) ss next (begun p e (numbers_met (flow_rest (b.head ∷ b.others)))) (before_apart w next (sizes_of ss) u)
          ∙ begun_more p e b.head b.others rest;
    }

-- past it
past_begins : (s : Stmt) (ss : List Stmt) (at w : ℕ) (p e : List ℕ) → at + size_of s ≤ w → Begun (λ k. rest_among ss (at + size_of s) k w) p e (walk_all (Some w) ss (at + size_of s) (idle p e)) → Begun (λ k. rest_among (s ∷ ss) at k w) p e (walk_all (Some w) (s ∷ ss) at (idle p e))
past_begins s ss at w p e h b =
    let some = size_is_some s in
    let ne : w ≡ at → ⊥ = λ q. absurd (omega arith) in
    retold _ _ p e _ _ (λ k. among_rest s ss at k w ∙ rw (le-ltb w (at + size_of s) h) refl)
    (walk_more (Some w) s ss at (idle p e) ∙ ap (walk_all (Some w) ss (at + size_of s)) (behind_apart (Some w) at (walk (Some w) s at (idle p e)) (ne_eqb w at ne) ∙ one_apart (Some w) s at (idle p e) (behind_all w at (size_of s) h)))
    b

all_begin : {S : Type 0} (ys : List S) (v : S → Stmt) (h : (x : S) → Begins (v x)) (at w : ℕ) (p e : List ℕ) → at ≤ w → w < at + sizes_of (map v ys) → Begun (λ k. rest_among (map v ys) at k w) p e (walk_all (Some w) (map v ys) at (idle p e))
all_begin [] v h at w p e l u = absurd (omega arith)
all_begin (y ∷ ys) v h at w p e l u =
    let s = v y in
    let more = sizes_more s (map v ys) in
    elim (cases_lt w (at + size_of s)) [
      | inl below ↦ elim (cases_lt at w) [
        | inl within ↦ inside_begins s (map v ys) at w p e within below (h y at w p e within below)
        | inr not_within ↦
            let same : at ≡ w = omega arith in
            subst (λ (n : ℕ). Begun (λ k. rest_among (s ∷ map v ys) at k n) p e (walk_all (Some n) (s ∷ map v ys) at (idle p e))) same (here_begins s (map v ys) at p e)
      ]
      | inr above ↦ past_begins s (map v ys) at w p e above (all_begin ys v h (at + size_of s) w p e above (omega arith))
    ]

-- ---- one layer

entering_idle : (at w : ℕ) (p e : List ℕ) → at < w → met_entering (Some w) at (idle p e) ≡ idle p e
entering_idle at w p e l = let ne : w ≡ at → ⊥ = λ q. absurd (omega arith) in rw (ne_eqb w at ne) refl

loop_begins : {S : Type 0} (a : List S) (v : S → Stmt) (h : (x : S) → Begins (v x)) (t : Stmt) (at w : ℕ) (p e : List ℕ) → flow t t at ≡ ended_flow (at ∷ []) → at < w → w < at + (1 + sizes_of (map v a))
    → Begun (λ k. rest_among (map v a) (at + 1) ((at, t) ∷ k) w) p e (met_ending at (walk_all (Some w) (map v a) (at + 1) (met_entering (Some w) at (idle p e))))
loop_begins a v h t at w p e f l u =
    retold _ _ p e _ _ (λ k. refl)
    (ap (λ (m : Met). met_ending at (walk_all (Some w) (map v a) (at + 1) m)) (entering_idle at w p e l) ∙ end_is at (walk_all (Some w) (map v a) (at + 1) (idle p e)))
    (closed (λ k. rest_among (map v a) (at + 1) k w) p e _ at t (at ∷ []) f (all_begin a v h (at + 1) w p e (omega arith) (omega arith)))

either_first : (x : Met) (f : Met → Met) → f (with_onward false x) ≡ with_onward false x → met_either false x f ≡ x
either_first x f h = ap (λ (m : Met). with_onward (x.onward || m.onward) m) h ∙ same x.passed x.ends x.onward
  where
    same : (p e : List ℕ) (b : Bool) → met_made p e (b || false) ≡ met_made p e b
    same p e false = refl
    same p e true = refl

either_second : (p e : List ℕ) (x r : Met) (f : Met → Met) → x ≡ idle p e → f (idle p e) ≡ r → met_either false x f ≡ r
either_second p e x r f h g = ap (λ (m : Met). met_either false m f) h ∙ ap (λ (m : Met). with_onward (false || m.onward) m) g

layer_begins : {S : Type 0} (y : Stmt-F S) (v : S → Stmt) (h : (x : S) → Begins (v x)) (t : Stmt) (at w : ℕ) (p e : List ℕ) → out-Stmt t ≡ map-Stmt S Stmt v y → at < w → w < at + size_step (map-Stmt Stmt ℕ size_of (map-Stmt S Stmt v y))
    → Begun (λ k. rest_layer (map-Stmt S Stmt v y) t at k w) p e (walk_layer (Some w) (map-Stmt S Stmt v y) at (idle p e))
layer_begins (If c a b) v h t at w p e o l u =
    let second = at + 1 + sizes_of (map v a) in
    elim (cases_lt w second) [
      | inl below ↦
          let first = all_begin a v h (at + 1) w p e (omega arith) below in
          retold _ _ p e _ _ (λ k. rw (lt-ltb w second below) refl)
          (either_first (walk_all (Some w) (map v a) (at + 1) (idle p e)) (walk_all (Some w) (map v b) second) (walk_apart (Some w) (map v b) second _ (before_apart w second (sizes_of (map v b)) below)))
          first
      | inr above ↦
          retold _ _ p e _ _ (λ k. rw (le-ltb w second above) refl)
          (either_second p e _ _ (walk_all (Some w) (map v b) second) (idle_walk w (map v a) (at + 1) p e (behind_all w (at + 1) (sizes_of (map v a)) above)) refl)
          (all_begin b v h second w p e above (omega arith))
    ]
layer_begins (While c a) v h t at w p e o l u =
    retold _ _ p e _ _ (λ k. refl) (stop_is (walk_all (Some w) (map v a) (at + 1) (idle p e)))
    (closed (λ k. rest_among (map v a) (at + 1) k w) p e _ at t [] (flow_is t t at ∙ rw o refl) (all_begin a v h (at + 1) w p e (omega arith) (omega arith)))
layer_begins (YieldLoop c i a) v h t at w p e o l u = loop_begins a v h t at w p e (flow_is t t at ∙ rw o refl) l u
layer_begins (RankLoop c r i a) v h t at w p e o l u = loop_begins a v h t at w p e (flow_is t t at ∙ rw o refl) l u
layer_begins _ v h t at w p e o l u = absurd (omega arith)

begins : (s : Stmt) → Begins s
begins s =
    ind-Stmt Begins (λ x y e at w p f l u.
    let r = roll-Stmt x in
    let q = out-roll-Stmt x ∙ sym e in
    let sized : size_of r ≡ size_step (map-Stmt Stmt ℕ size_of (map-Stmt _ Stmt (λ z. z.0) y)) = size_is r ∙ ap (λ (d : Stmt-F Stmt). size_step (map-Stmt Stmt ℕ size_of d)) q in
    retold _ _ p f _ _ (λ k. rest_is r r at k w ∙ ap (λ (d : Stmt-F Stmt). rest_layer d r at k w) q)
    (walk_is (Some w) r at (idle p f) ∙ ap (λ (d : Stmt-F Stmt). walk_layer (Some w) d at (idle p f)) q)
    (layer_begins y (λ z. z.0) (λ z. z.1) r at w p f q l (subst (λ (n : ℕ). w < at + n) sized u))) s

-- ---- a body

begins_in : (body : List Stmt) (w : ℕ) → w < sizes_of body → Begun (λ k. rest_among body 0 k w) [] [] (walk_all (Some w) body 0 (nothing_met false))
begins_in body w l =
    subst (λ (ss : List Stmt). w < sizes_of ss → Begun (λ k. rest_among ss 0 k w) [] [] (walk_all (Some w) ss 0 (nothing_met false))) (map-id body)
    (λ u. all_begin body (λ (s : Stmt). s) begins 0 w [] [] (omega arith) (omega arith)) l

past_all : (ss : List Stmt) (at w : ℕ) (k : Rest) → at + sizes_of ss ≤ w → rest_among ss at k w ≡ k
past_all [] at w k h = rest_none at k w
past_all (s ∷ ss) at w k h =
    let more = sizes_more s ss in
    let below : at + size_of s ≤ w = omega arith in
    among_rest s ss at k w ∙ rw (le-ltb w (at + size_of s) below) refl ∙ past_all ss (at + size_of s) w k (omega arith)

from_within : (body : List Stmt) (w : ℕ) → w < sizes_of body → walk_all (Some w) body 0 (nothing_met false) ≡ numbers_met (flow_rest (rest_at body w))
from_within body w l =
    let b = begins_in body w l in
    b.met ∙ ap (λ (r : Rest). numbers_met (flow_rest r)) (sym (b.is [] ∙ ap (λ (r : Rest). b.head ∷ r) (append-nil b.others)))

from_place : (body : List Stmt) (w : ℕ) → met_past (Some w) (sizes_of body) (walk_all (Some w) body 0 (nothing_met false)) ≡ numbers_met (flow_rest (rest_at body w))
from_place body w = elim (cases_lt w (sizes_of body)) [
  | inl below ↦ ap (λ (b : Bool). if b then walk_all (Some w) body 0 (nothing_met false) else with_onward true (walk_all (Some w) body 0 (nothing_met false))) (lt-ltb w (sizes_of body) below) ∙ from_within body w below
  | inr above ↦
      ap (λ (b : Bool). if b then walk_all (Some w) body 0 (nothing_met false) else with_onward true (walk_all (Some w) body 0 (nothing_met false))) (le-ltb w (sizes_of body) above)
      ∙ ap (with_onward true) (idle_walk w body 0 [] [] (behind_all w 0 (sizes_of body) (omega arith)))
      ∙ ap (λ (r : Rest). numbers_met (flow_rest r)) (sym (past_all body 0 w [] (omega arith)))
]

from_entry : (body : List Stmt) → walk_all None body 0 (nothing_met true) ≡ numbers_met (flow_all (numbered 0 body))
from_entry body = walk_apart None body 0 (nothing_met true) (λ n l u. refl)

by_kind : (body : List Stmt) (number : ℕ) (k : CutKind) → met_past (from_kind number k) (sizes_of body) (walk_all (from_kind number k) body 0 (nothing_met (is_none (from_kind number k)))) ≡ numbers_met (flow_kind body number k)
by_kind body number kind.Entry = from_entry body
by_kind body number kind.Yield = from_place body number
by_kind body number kind.YieldLoop = from_place body number
by_kind body number kind.RankLoop = from_place body number

-- the walk over a procedure's body, behind which this number comes, meets what the paths from a cut meet
pub body_met : (proc : Proc) (cut : Cut) (end : ℕ) → end ≡ 0 + sizes_of proc.body → met_past (from_cut cut) end (walk_all (from_cut cut) proc.body 0 (nothing_met (is_none (from_cut cut)))) ≡ numbers_met (flow_from proc cut)
unfolding flow_from
body_met proc cut end h =
    let e : end ≡ sizes_of proc.body = omega (arith, h) in
    ap (λ (n : ℕ). met_past (from_cut cut) n (walk_all (from_cut cut) proc.body 0 (nothing_met (is_none (from_cut cut))))) e ∙ by_kind proc.body cut.statement cut.kind
