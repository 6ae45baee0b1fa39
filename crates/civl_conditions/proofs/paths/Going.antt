-- A step of a frame is a step of its path, and leaves fewer statements to run.
use Rattle.std.proofs.Common.{◌≡◌, ℕ, ◌+◌, ◌<◌, ◌≤◌, Bool, true, false, List, [], ◌∷◌, ◌++◌, refl, sym, ap, ◌∙◌, subst, arith, Option, None, Some}
use Rattle.std.specs.Prelude.{if◌then◌else◌}
use Rattle.std.specs.Option.{option_map_or}
use Rattle.civl_bits.specs.declared.value.Value.{Value}
use Rattle.civl_tree.specs.declared.name.Name.{Name}
use Rattle.civl_tree.specs.declared.stmt.Stmt.{Stmt, out-Stmt, map-Stmt}
use Rattle.civl_tree.specs.declared.stmt.Stmt.TheOpen as stmt
use Rattle.civl_tree.specs.rules.Names.{names_in_proc}
use Rattle.civl_tree.specs.Numbering.{size_step, size_of, sizes_of, numbered}
use Rattle.civl_tree.proofs.Numbers.{sizes_more}
use Rattle.civl_tree.proofs.Sizes.{size_is, size_is_some}
use Rattle.civl_firing.specs.declared.firing.Fired.{Fired}
use Rattle.civl_firing.specs.declared.firing.Fired.TheVariants as fire
use Rattle.civl_firing.specs.Eval.{values_of}
use Rattle.civl_firing.specs.Scope.{frame_values}
use Rattle.civl_firing.specs.Fired.{gate_holds, choices_fit, fired}
use Rattle.civl_meaning.specs.declared.config.Stepped.TheVariants as answer
use Rattle.civl_meaning.specs.declared.config.Change.{Change}
use Rattle.civl_meaning.specs.declared.config.Change.TheVariants.{Stays, Goes}
use Rattle.civl_meaning.specs.Meaning.{Meaning, Does, Runs, Missing, called}
use Rattle.civl_meaning.specs.Places.{Spot, skip_layer, is_skipped, start_of}
use Rattle.civl_meaning.specs.Rest.{Rest, rest_at, place_in, head_of}
use Rattle.civl_meaning.specs.Change.{done_by, statement_doing, call_doing, acted}
use Rattle.civl_meaning.specs.Change as does
use Rattle.civl_meaning.proofs.Rests.{spot_of_rest}
use Rattle.civl_conditions.specs.paths.Paths.{Course, Progress, Outcome, Past, Comes, Fails, Stops, after, came, tested, committed, introduced, pass, pass_all}
use Rattle.civl_conditions.specs.paths.Runs.{Standing, rest_of, comes_to, layer_led, led, layer_yields, layer_leads, yield_before, layer_ends, Advance, Ends, Stands, advance_by, advance_from, advance_at, advance, Reaches}
use Rattle.civl_conditions.proofs.paths.Passing.{after_same, pass_layer, pass_is, pass_none, pass_more}
use Rattle.civl_conditions.proofs.paths.Belonging.{Belongs, all_belong, own_place, start_place, first_covered, second_covered, rest_belongs}

-- ---- rests

-- how many statements a rest has
abbrev pub weight : Rest → ℕ
weight [] = 0
weight (q ∷ k) = size_of q.1 + weight k

weight_joined : (ss : List Stmt) (at : ℕ) (k : Rest) → weight (numbered at ss ++ k) ≡ sizes_of ss + weight k
weight_joined [] at k = omega arith
weight_joined (s ∷ ss) at k =
    let more = sizes_more s ss in
    let others = weight_joined ss (at + size_of s) k in
    omega arith

after_joined : (o : Outcome) (f g : Progress → Outcome) → after (after o f) g ≡ after o (λ p. after (f p) g)
after_joined (Past p) f g = refl
after_joined (Comes n p) f g = refl
after_joined (Fails p) f g = refl
after_joined (Stops p) f g = refl

-- going over two rests is going over the one and then over the other
pub pass_joined : (c : Course) (r k : Rest) (p : Progress) → pass_all c (r ++ k) p ≡ after (pass_all c r p) (pass_all c k)
pass_joined c [] k p = ap (λ (o : Outcome). after o (pass_all c k)) (sym (pass_none c p))
pass_joined c (q ∷ r) k p =
    pass_more c q.0 q.1 (r ++ k) p
    ∙ after_same (pass c q.1 q.0 p) (pass_all c (r ++ k)) (λ p. after (pass_all c r p) (pass_all c k)) (pass_joined c r k)
    ∙ sym (after_joined (pass c q.1 q.0 p) (pass_all c r) (pass_all c k))
    ∙ ap (λ (o : Outcome). after o (pass_all c k)) (sym (pass_more c q.0 q.1 r p))

-- ---- one step

-- the outcome, or a rest of the body with this outcome and of a smaller weight
abbrev pub On : Course → ℕ → Outcome → Advance → Type 0
On c bound outcome (Ends o) = o ≡ outcome
On c bound outcome (Stands frame) = (comes_to c frame ≡ outcome) × (weight (rest_of c frame) < bound)

-- a frame that stands before this rest
stands_before : (c : Course) (place : ℕ) (state : Progress) (r : Rest) (bound : ℕ) (outcome : Outcome) → rest_at c.proc.body place ≡ r → pass_all c r state ≡ outcome → weight r < bound → On c bound outcome (Stands (record { place = place; state = state }))
stands_before c place state r bound outcome e f h =
    (ap (λ (r : Rest). pass_all c r state) e ∙ f, subst (λ (r : Rest). weight r < bound) (sym e) h)

-- what a statement does that is passed, where k is behind it
module _ (c : Course) (k : Rest) (own : rest_at c.proc.body (place_in (sizes_of c.proc.body) k) ≡ k) (bound : ℕ) (less : weight k < bound) (p : Progress) where
  abbrev next : ℕ
  next = place_in (sizes_of c.proc.body) k

  -- a step that may have been given another place
  abbrev Steps : Change → Change → Type 0
  Steps g other = On c bound (after (came p other) (pass_all c k)) (advance_by p g)

  goes_on : (locals : List Value) (place : ℕ) → Steps (Goes locals next) (Goes locals place)
  goes_on locals place = stands_before c next _ k bound _ own refl less

  acts_on : (names : List Name) (locals : List Value) (rs : List Name) (place : ℕ) (f : Fired) → Steps (acted names locals rs next f) (acted names locals rs place f)
  acts_on names locals rs place fire.GateFalse = refl
  acts_on names locals rs place fire.Blocked = refl
  acts_on names locals rs place (fire.Moved store outs) = stands_before c next _ k bound _ own refl less

  tests_on : (gate fit : Bool) (names : List Name) (locals : List Value) (rs : List Name) (place : ℕ) (f : Fired) →
      Steps (if gate then (if fit then acted names locals rs next f else Stays answer.BadChoices) else Stays answer.Failing) (if gate then (if fit then acted names locals rs place f else Stays answer.BadChoices) else Stays answer.Failing)
  tests_on true true names locals rs place f = acts_on names locals rs place f
  tests_on true false names locals rs place f = refl
  tests_on false fit names locals rs place f = refl

  call_on : (names : List Name) (rs : List Name) (at place : ℕ) (m : Meaning) (args : List Value) →
      Steps (done_by c.plain p.store (c.chosen at) (call_doing names p.locals rs at next m args)) (done_by c.plain p.store (c.chosen at) (call_doing names p.locals rs at place m args))
  call_on names rs at place (Does action) args =
      let globals = c.plain.program.globals in
      tests_on (gate_holds globals p.store action args) (choices_fit action (c.chosen at)) names p.locals rs place (fired globals p.store action args (c.chosen at))
  call_on names rs at place (Runs number proc) args = refl
  call_on names rs at place Missing args = refl

  assert_on : (at : ℕ) (b : Bool) (place : ℕ) →
      Steps (done_by c.plain p.store (c.chosen at) (if b then does.Goes p.locals next else does.Fails)) (done_by c.plain p.store (c.chosen at) (if b then does.Goes p.locals place else does.Fails))
  assert_on at true place = goes_on p.locals place
  assert_on at false place = refl

  -- a rest that the step goes to, with k behind it
  enters : (ss : List Stmt) (at : ℕ) → Belongs c.proc.body (numbered at ss ++ k) → sizes_of ss + weight k < bound → On c bound (after (pass_all c (numbered at ss) p) (pass_all c k)) (Stands (record { place = start_of ss at next; state = p }))
  enters ss at h less =
      let w = weight_joined ss at k in
      stands_before c (start_of ss at next) p (numbered at ss ++ k) bound _ (start_place c.proc.body ss at k h) (pass_joined c (numbered at ss) k p) (omega arith)

  if_on : (t : Bool) (a b : List Stmt) (at second : ℕ) → Belongs c.proc.body (numbered at a ++ k) → Belongs c.proc.body (numbered second b ++ k) → sizes_of a + weight k < bound → sizes_of b + weight k < bound →
      On c bound (after (if t then pass_all c (numbered at a) p else pass_all c (numbered second b) p) (pass_all c k)) (Stands (record { place = if t then start_of a at next else start_of b second next; state = p }))
  if_on true a b at second g h l m = enters a at g l
  if_on false a b at second g h l m = enters b second h m

-- ---- what stands before a rest

-- one step of a frame that stands before this rest
abbrev pub ahead : Course → Rest → Progress → Advance
ahead c r p = option_map_or (λ number. Ends (Comes number (led c r p))) (yield_before r) (advance_at c (head_of (sizes_of c.proc.body) r) (led c r p))

-- the same by the layer of its first statement, with the state that is led to
abbrev layer_goes : Course → stmt.Stmt-F Stmt → ℕ → Rest → Progress → Advance
layer_goes c d at k p =
    if skip_layer d then advance_at c (head_of (sizes_of c.proc.body) k) p
    else option_map_or Ends (layer_ends at p d) (advance_by p (done_by c.plain p.store (c.chosen at) (statement_doing c.plain c.proc p.locals at (place_in (sizes_of c.proc.body) k) d)))

abbrev layer_ahead : Course → stmt.Stmt-F Stmt → ℕ → Rest → Progress → Advance
layer_ahead c d at k p =
    option_map_or (λ number. Ends (Comes number (option_map_or (led c k) (layer_led c d p) p))) (if layer_yields d then Some at else (if layer_leads d then yield_before k else None))
    (layer_goes c d at k (option_map_or (led c k) (layer_led c d p) p))

at_choice : (c : Course) (b : Bool) (o : Option Spot) (s : Spot) (p : Progress) → (if b then advance_at c o p else advance_from c s p) ≡ advance_at c (if b then o else Some s) p
at_choice c true o s p = refl
at_choice c false o s p = refl

ahead_is : (c : Course) (at : ℕ) (s : Stmt) (k : Rest) (p : Progress) → layer_ahead c (out-Stmt s) at k p ≡ ahead c ((at, s) ∷ k) p
ahead_is c at s k p =
    let end = sizes_of c.proc.body in
    let q : Progress = led c ((at, s) ∷ k) p in
    ap (λ (a : Advance). option_map_or (λ number. Ends (Comes number q)) (yield_before ((at, s) ∷ k)) a)
    (at_choice c (is_skipped s) (head_of end k) (record { number = at; stmt = s; next = place_in end k }) q)

wider : (c : Course) (m n : ℕ) (o : Outcome) (a : Advance) → m ≤ n → On c m o a → On c n o a
wider c m n o (Ends x) l h = h
wider c m n o (Stands frame) l h = (h.0, let less = h.1 in omega arith)

-- the statement at the head of a rest, by its layer
module _ (c : Course) (at : ℕ) (s : Stmt) (k : Rest) (h : Belongs c.proc.body ((at, s) ∷ k)) where
  own : rest_at c.proc.body (place_in (sizes_of c.proc.body) k) ≡ k
  own = own_place c.proc.body k h.1

  fewer : weight k < size_of s + weight k
  fewer = let some = size_is_some s in omega arith

  layer_on : (p : Progress) → ((p : Progress) → On c (weight k) (pass_all c k p) (ahead c k p)) → (d : stmt.Stmt-F Stmt) → out-Stmt s ≡ d → On c (size_of s + weight k) (after (pass_layer c d at p) (pass_all c k)) (layer_ahead c d at k p)
  layer_on p later (stmt.Assign x v) e = stands_before c (place_in (sizes_of c.proc.body) k) _ k (size_of s + weight k) _ own refl fewer
  layer_on p later (stmt.Assert f) e = assert_on c k own (size_of s + weight k) fewer p at (tested c f p) (at + 1)
  layer_on p later (stmt.If t a b) e =
      let size : size_of s ≡ 1 + sizes_of a + sizes_of b = size_is s ∙ ap (λ (d : stmt.Stmt-F Stmt). size_step (map-Stmt Stmt ℕ size_of d)) e in
      if_on c k own (size_of s + weight k) fewer p (tested c t p) a b (at + 1) (at + 1 + sizes_of a)
      (all_belong c.proc.body a (at + 1) k (first_covered c.proc.body s at k t a b e h.0) h.1) (all_belong c.proc.body b (at + 1 + sizes_of a) k (second_covered c.proc.body s at k t a b e h.0) h.1)
      (omega arith) (omega arith)
  layer_on p later (stmt.While t a) e = refl
  layer_on p later (stmt.YieldLoop t i a) e = refl
  layer_on p later (stmt.RankLoop t r i a) e = refl
  layer_on p later (stmt.Call f es rs) e =
      call_on c k own (size_of s + weight k) fewer p (names_in_proc c.proc) rs at (at + 1) (called c.plain f) (values_of (frame_values c.plain.program.globals c.proc p.locals) es)
  layer_on p later (stmt.Spawn f es) e = refl
  layer_on p later (stmt.Yield i) e = refl
  layer_on p later stmt.Commit e = wider c (weight k) (size_of s + weight k) _ (ahead c k (committed p)) (omega arith) (later (committed p))
  layer_on p later (stmt.Intro x v) e = wider c (weight k) (size_of s + weight k) _ (ahead c k (introduced c x v p)) (omega arith) (later (introduced c x v p))

pub ahead_on : (c : Course) (r : Rest) → Belongs c.proc.body r → (p : Progress) → On c (weight r) (pass_all c r p) (ahead c r p)
ahead_on c [] h p = sym (pass_none c p)
ahead_on c (q ∷ k) h p =
    let layer = layer_on c q.0 q.1 k h p (ahead_on c k h.1) (out-Stmt q.1) refl in
    let outcome = ap (λ (o : Outcome). after o (pass_all c k)) (sym (pass_is c q.1 q.0 p)) ∙ sym (pass_more c q.0 q.1 k p) in
    subst (λ (o : Outcome). On c (weight (q ∷ k)) o (ahead c (q ∷ k) p)) outcome
    (subst (λ (a : Advance). On c (weight (q ∷ k)) (after (pass_layer c (out-Stmt q.1) q.0 p) (pass_all c k)) a) (ahead_is c q.0 q.1 k p) layer)

-- ---- a step of a frame

advance_is : (c : Course) (frame : Standing) → ahead c (rest_of c frame) frame.state ≡ advance c frame
advance_is c frame =
    let p = led c (rest_of c frame) frame.state in
    ap (λ (o : Option Spot). option_map_or (λ number. Ends (Comes number p)) (yield_before (rest_of c frame)) (advance_at c o p)) (sym (spot_of_rest c.proc.body frame.place))

pub step_on : (c : Course) (frame : Standing) → On c (weight (rest_of c frame)) (comes_to c frame) (advance c frame)
step_on c frame =
    subst (On c (weight (rest_of c frame)) (comes_to c frame)) (advance_is c frame) (ahead_on c (rest_of c frame) (rest_belongs c.proc.body frame.place) frame.state)

pub reached : (c : Course) (bound : ℕ) (o : Outcome) (a : Advance) → On c bound o a → Reaches c a o
reached c bound o (Ends x) h = h
reached c bound o (Stands frame) h = h.0
