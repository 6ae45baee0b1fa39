-- A step of a frame that follows a path is a step of the path.
use Rattle.std.proofs.Common.{◌≡◌, ℕ, ◌+◌, ◌-◌, ◌<◌, ◌≤◌, Bool, true, false, List, [], ◌∷◌, ◌++◌, inl, inr, Option, None, Some, refl, sym, ap, ◌∙◌, subst, arith}
use Rattle.std.specs.Prelude.{if◌then◌else◌}
use Rattle.std.specs.Option.{option_map_or}
use Rattle.std.specs.List.{Contains}
use Rattle.std.proofs.lemmas.Bool.{eq-eqb, ne_eqb, true≢false, false≢true}
use Rattle.std.proofs.lemmas.Option.{none-some, slice_get_within, get_or_from_slice_get}
use Rattle.civl_bits.specs.declared.value.Value.{Value}
use Rattle.civl_tree.specs.declared.name.Name.{Name}
use Rattle.civl_tree.specs.declared.expr.Expr.{Expr}
use Rattle.civl_tree.specs.declared.program.Proc.{Proc}
use Rattle.civl_tree.specs.declared.program.Program.{Program}
use Rattle.civl_tree.specs.declared.stmt.Stmt.{Stmt, out-Stmt, map-Stmt}
use Rattle.civl_tree.specs.declared.stmt.Stmt.TheOpen as stmt
use Rattle.civl_tree.specs.Numbering.{size_step, size_of, sizes_of, numbered, statements_of, statement_at}
use Rattle.civl_tree.specs.rules.Names.{names_in_proc}
use Rattle.civl_tree.proofs.Sizes.{size_is, size_is_some}
use Rattle.civl_firing.specs.declared.store.Store.{Store}
use Rattle.civl_firing.specs.declared.firing.Fired.{Fired}
use Rattle.civl_firing.specs.declared.firing.Fired.TheVariants as fire
use Rattle.civl_firing.specs.Eval.{value_of, values_of}
use Rattle.civl_firing.specs.Scope.{frame_values}
use Rattle.civl_firing.specs.Fired.{gate_holds, choices_fit, fired}
use Rattle.civl_firing.specs.values.Values.{is_true}
use Rattle.civl_meaning.specs.declared.config.Plain.{Plain}
use Rattle.civl_meaning.specs.declared.config.Activation.{Activation}
use Rattle.civl_meaning.specs.declared.config.Stepped.TheVariants as answer
use Rattle.civl_meaning.specs.declared.config.Change.{Change}
use Rattle.civl_meaning.specs.declared.config.Change.TheVariants.{Stays, Goes, Acts, Enters, Leaves, Spawns}
use Rattle.civl_meaning.specs.Meaning.{Meaning, Does, Runs, Missing, called}
use Rattle.civl_meaning.specs.Places.{Spot, start_of, spot_at}
use Rattle.civl_meaning.specs.Rest.{Rest, rest_at, place_in, head_of}
use Rattle.civl_meaning.specs.Change.{acted, done_by, call_doing, statement_doing}
use Rattle.civl_meaning.specs.Change as does
use Rattle.civl_meaning.specs.Failing.{fails_at, answers_failing}
use Rattle.civl_meaning.specs.Layers.{program_at}
use Rattle.civl_meaning.proofs.Rests.{spot_of_rest}
use Rattle.civl_meaning.proofs.Failures.{failing_is_done}
use Rattle.civl_layers.specs.declared.cut.Cut.{Cut}
use Rattle.civl_layers.specs.Layered.{IsLayered}
use Rattle.civl_conditions.specs.footprints.Agreement.{StoresAgree, exists_at}
use Rattle.civl_conditions.specs.paths.Paths.{Course, Progress, Outcome, Past, Comes, Fails, path_from, has_failed}
use Rattle.civl_conditions.specs.paths.Runs.{Standing, comes_to, led, yield_before, spot_does, layer_ends, Advance, Ends, advance_by, advance_from, advance_at, advance, Reaches}
use Rattle.civl_conditions.specs.paths.Seen.{IsProcOf, lower_course, ChangesAgree}
use Rattle.civl_conditions.proofs.paths.Running.{step_is_on_path}
use Rattle.civl_conditions.proofs.paths.Layering.{steps_see_their_globals}
use Rattle.civl_conditions.proofs.paths.Standing.{begins_stands}
use Rattle.civl_conditions.proofs.paths.Belonging.{Belongs, all_belong, own_place, start_place, first_covered, second_covered, while_covered, yield_loop_covered, rank_loop_covered, rest_belongs}
use Rattle.civl_reduction.specs.open_blocks.Following.{SameBelow, with_choices, form_loops, IsNotBelow, layer_head, head_there, cut_ahead, form_plain, HasNoPlainLoops, IsOnPath, Follows, frame_does, FollowsOn, StepFollows, FramesFollow, FramesArrive}
use Rattle.civl_meaning.specs.Config.{moved_frame}
use Rattle.civl_reduction.proofs.open_blocks.Following.Onward.{Beyond, Onward, beyond_less, beyond_joined, onward_joined, rest_onward, head_beyond, Split, head_splits}
use Rattle.civl_reduction.proofs.open_blocks.Following.Leading.{Stays as LedStays, led_same, led_stays}

-- ---- forward

-- no number up to this one comes next
abbrev pub GoesForward : List Stmt → ℕ → Change → Type 0
GoesForward body n (Goes locals place) = IsNotBelow (n + 1) (spot_at body place)
GoesForward body n (Acts store locals place) = IsNotBelow (n + 1) (spot_at body place)
GoesForward body n _ = Unit {0}

module _ (plain : Plain) (store : Store) (chosen : List Value) (proc : Proc) (locals : List Value) (n : ℕ) (s : Stmt) (k : Rest) (belongs : Belongs proc.body ((n, s) ∷ k)) (onward : Onward ((n, s) ∷ k)) where
  abbrev next : ℕ
  next = place_in (sizes_of proc.body) k

  beyond : Beyond (n + 1) k
  beyond = let some = size_is_some s in beyond_less (n + 1) (n + size_of s) k (omega arith) onward.0

  behind : IsNotBelow (n + 1) (spot_at proc.body next)
  behind =
      subst (IsNotBelow (n + 1)) (sym (spot_of_rest proc.body next ∙ ap (head_of (sizes_of proc.body)) (own_place proc.body k belongs.1)))
      (head_beyond (sizes_of proc.body) (n + 1) k beyond onward.1)

  later : (m : ℕ) → m ≤ n + size_of s → Beyond m k
  later m l = beyond_less m (n + size_of s) k l onward.0

  size_of_if : (t : Expr) (a b : List Stmt) → out-Stmt s ≡ stmt.If t a b → size_of s ≡ 1 + sizes_of a + sizes_of b
  size_of_if t a b e = size_is s ∙ ap (λ (d : stmt.Stmt-F Stmt). size_step (map-Stmt Stmt ℕ size_of d)) e

  -- where statements with numbers above this one begin, with r behind them
  begins : (ss : List Stmt) (at : ℕ) (r : Rest) → n + 1 ≤ at → Belongs proc.body (numbered at ss ++ r) → Beyond (at + sizes_of ss) r → Beyond (n + 1) r → Onward r → IsNotBelow (n + 1) (spot_at proc.body (start_of ss at (place_in (sizes_of proc.body) r)))
  begins ss at r low b y z o =
      subst (IsNotBelow (n + 1)) (sym (spot_of_rest proc.body (start_of ss at (place_in (sizes_of proc.body) r)) ∙ ap (head_of (sizes_of proc.body)) (start_place proc.body ss at r b)))
      (head_beyond (sizes_of proc.body) (n + 1) (numbered at ss ++ r) (beyond_joined ss (n + 1) at r low y) (onward_joined ss at r y o))

  by_branch : (t : Bool) (a b : ℕ) → IsNotBelow (n + 1) (spot_at proc.body a) → IsNotBelow (n + 1) (spot_at proc.body b) → IsNotBelow (n + 1) (spot_at proc.body (if t then a else b))
  by_branch true a b x y = x
  by_branch false a b x y = y

  by_assert : (b : Bool) (p : ℕ) → IsNotBelow (n + 1) (spot_at proc.body p) → GoesForward proc.body n (done_by plain store chosen (if b then does.Goes locals p else does.Fails))
  by_assert true p h = h
  by_assert false p h = tt

  by_fired : (names : List Name) (rs : List Name) (p : ℕ) (f : Fired) → IsNotBelow (n + 1) (spot_at proc.body p) → GoesForward proc.body n (acted names locals rs p f)
  by_fired names rs p fire.GateFalse h = tt
  by_fired names rs p fire.Blocked h = tt
  by_fired names rs p (fire.Moved g outs) h = h

  by_tests : (gate fit : Bool) (names : List Name) (rs : List Name) (p : ℕ) (f : Fired) → IsNotBelow (n + 1) (spot_at proc.body p) → GoesForward proc.body n (if gate then (if fit then acted names locals rs p f else Stays answer.BadChoices) else Stays answer.Failing)
  by_tests true true names rs p f h = by_fired names rs p f h
  by_tests true false names rs p f h = tt
  by_tests false fit names rs p f h = tt

  by_call : (m : Meaning) (names : List Name) (rs : List Name) (args : List Value) (p : ℕ) → IsNotBelow (n + 1) (spot_at proc.body p) → GoesForward proc.body n (done_by plain store chosen (call_doing names locals rs n p m args))
  by_call (Does action) names rs args p h = by_tests (gate_holds plain.program.globals store action args) (choices_fit action chosen) names rs p (fired plain.program.globals store action args chosen) h
  by_call (Runs number callee) names rs args p h = tt
  by_call Missing names rs args p h = tt

  loop_forward : (a : List Stmt) (t : Bool) → form_loops (out-Stmt s) ≡ true → Belongs proc.body (numbered (n + 1) a ++ (n, s) ∷ k) → IsNotBelow (n + 1) (spot_at proc.body (if t then start_of a (n + 1) n else next))
  loop_forward a t loops b = by_branch t (start_of a (n + 1) n) next (begins a (n + 1) ((n, s) ∷ k) (omega arith) b (inr loops) (inr loops) onward) behind

  pub forward : (d : stmt.Stmt-F Stmt) → out-Stmt s ≡ d → GoesForward proc.body n (done_by plain store chosen (statement_doing plain proc locals n (place_in (sizes_of proc.body) k) d))
  forward (stmt.Assign x v) e = behind
  forward (stmt.Assert f) e = by_assert (is_true (value_of (frame_values plain.program.globals proc locals) f)) next behind
  forward (stmt.If t a b) e =
      let some = size_is_some s in
      by_branch (is_true (value_of (frame_values plain.program.globals proc locals) t)) (start_of a (n + 1) next) (start_of b (n + 1 + sizes_of a) next)
      (begins a (n + 1) k (omega arith) (all_belong proc.body a (n + 1) k (first_covered proc.body s n k t a b e belongs.0) belongs.1) (later (n + 1 + sizes_of a) (let z = size_of_if t a b e in omega arith)) beyond onward.1)
      (begins b (n + 1 + sizes_of a) k (omega arith) (all_belong proc.body b (n + 1 + sizes_of a) k (second_covered proc.body s n k t a b e belongs.0) belongs.1) (later (n + 1 + sizes_of a + sizes_of b) (let z = size_of_if t a b e in omega arith)) beyond onward.1)
  forward (stmt.While t a) e = loop_forward a (is_true (value_of (frame_values plain.program.globals proc locals) t)) (ap form_loops e) (all_belong proc.body a (n + 1) ((n, s) ∷ k) (while_covered proc.body s n k t a e belongs.0) belongs)
  forward (stmt.YieldLoop t i a) e = loop_forward a (is_true (value_of (frame_values plain.program.globals proc locals) t)) (ap form_loops e) (all_belong proc.body a (n + 1) ((n, s) ∷ k) (yield_loop_covered proc.body s n k t i a e belongs.0) belongs)
  forward (stmt.RankLoop t r i a) e = loop_forward a (is_true (value_of (frame_values plain.program.globals proc locals) t)) (ap form_loops e) (all_belong proc.body a (n + 1) ((n, s) ∷ k) (rank_loop_covered proc.body s n k t r i a e belongs.0) belongs)
  forward (stmt.Call f es rs) e = by_call (called plain f) (names_in_proc proc) rs (values_of (frame_values plain.program.globals proc locals) es) next behind
  forward (stmt.Yield i) e = tt
  forward stmt.Commit e = tt
  forward (stmt.Intro x v) e = tt
  forward (stmt.Spawn f es) e = tt

-- ---- options and choices

none_both : (o u : Option ℕ) → option_map_or (λ number. Some number) o u ≡ None → (o ≡ None) × (u ≡ None)
none_both None u e = (refl, e)
none_both (Some n) u e = absurd (none-some n (sym e))

no_loops : (n : ℕ) (d : stmt.Stmt-F Stmt) → layer_head n d ≡ None → form_plain d ≡ false → form_loops d ≡ false
no_loops n (stmt.While t a) e f = absurd (true≢false f)
no_loops n (stmt.YieldLoop t i a) e f = absurd (none-some n (sym e))
no_loops n (stmt.RankLoop t r i a) e f = absurd (none-some n (sym e))
no_loops n _ e f = refl

failing_agrees : (program : Program) (step : ℕ) (a b : Change) → ChangesAgree (exists_at (step - 1)) program.globals a b → answers_failing b ≡ true → a ≡ Stays answer.Failing
failing_agrees program step (Acts s l p) (Stays answer.Failing) g e = absurd g
failing_agrees program step a (Stays answer.Failing) g e = g
failing_agrees program step a (Stays answer.Moved) g e = absurd (false≢true e)
failing_agrees program step a (Stays answer.Blocked) g e = absurd (false≢true e)
failing_agrees program step a (Stays answer.NoThread) g e = absurd (false≢true e)
failing_agrees program step a (Stays answer.Ended) g e = absurd (false≢true e)
failing_agrees program step a (Stays answer.BadChoices) g e = absurd (false≢true e)
failing_agrees program step a (Goes l p) g e = absurd (false≢true e)
failing_agrees program step a (Acts s l p) g e = absurd (false≢true e)
failing_agrees program step a (Enters f p) g e = absurd (false≢true e)
failing_agrees program step a (Leaves f) g e = absurd (false≢true e)
failing_agrees program step a (Spawns t p) g e = absurd (false≢true e)

module _ (program : Program) (number step : ℕ) (proc : Proc) (of : IsProcOf program number step proc) (store : Store) (frame : Activation) (s : Spot) (there : spot_at proc.body frame.place ≡ Some s) where
  -- whether a step fails is told by the gate or the assert alone
  fails_by : (v : List Value) → answers_failing (frame_does program step proc store v frame s) ≡ fails_at (program_at program (step - 1)) store (statement_doing (program_at program (step - 1)) proc frame.locals s.number s.next (out-Stmt s.stmt))
  fails_by v = failing_is_done (program_at program (step - 1)) store v (statement_doing (program_at program (step - 1)) proc frame.locals s.number s.next (out-Stmt s.stmt))

  pub fails_alike : (v w : List Value) → answers_failing (frame_does program step proc store v frame s) ≡ answers_failing (frame_does program step proc store w frame s)
  fails_alike v w = fails_by v ∙ sym (fails_by w)

-- ---- a step

module _ (program : Program) (number step : ℕ) (proc : Proc) (cut : Cut) (from : Progress) (chosen : ℕ → List Value) (bound : ℕ) (here : Standing) (store : Store) (frame : Activation) (values : List Value) (s : Spot)
    (layered : IsLayered program) (of : IsProcOf program number step proc) (plainly : HasNoPlainLoops proc)
    (follows : Follows program step proc cut from chosen bound here store frame) (away : cut_ahead proc.body here.place ≡ None) (there : spot_at proc.body frame.place ≡ Some s) where
  abbrev course : (ℕ → List Value) → Course
  course f = lower_course program step proc f

  abbrev rest : Rest
  rest = rest_at proc.body here.place

  abbrev now : ℕ → List Value
  now = with_choices chosen s.number values

  abbrev state : Progress
  state = led (course chosen) rest here.state

  here_there : spot_at proc.body here.place ≡ Some s
  here_there = follows.alike.spot ∙ there

  split : Split proc.body s
  split = head_splits proc.body rest s (rest_belongs proc.body here.place) (rest_onward proc.body here.place) (sym (spot_of_rest proc.body here.place) ∙ here_there)

  stands : statement_at proc.body s.number ≡ Some s.stmt
  stands = begins_stands proc.body s.number s.stmt split.behind (own_place proc.body ((s.number, s.stmt) ∷ split.behind) split.belongs)

  nothing_ahead : (yield_before rest ≡ None) × (head_there (spot_at proc.body here.place) ≡ None)
  nothing_ahead = none_both (yield_before rest) (head_there (spot_at proc.body here.place)) away

  not_loop : form_loops (out-Stmt s.stmt) ≡ false
  not_loop = no_loops s.number (out-Stmt s.stmt) (sym (ap head_there here_there) ∙ nothing_ahead.1) (plainly s.number s.stmt stands)

  low : bound ≤ s.number
  low = elim (subst (IsNotBelow bound) here_there follows.on_path.ahead) [ inl l ↦ l | inr loops ↦ absurd (true≢false (sym loops ∙ not_loop)) ]

  advance_is : (f : ℕ → List Value) → advance (course f) here ≡ advance_from (course f) s state
  advance_is f =
      ap (λ (p : Progress). option_map_or (λ number. Ends (Comes number p)) (yield_before rest) (advance_at (course f) (spot_at proc.body here.place) p)) (led_same program step proc f (λ n. []) rest here.state)
      ∙ ap (λ (o : Option ℕ). option_map_or (λ number. Ends (Comes number state)) o (advance_at (course f) (spot_at proc.body here.place) state)) nothing_ahead.0
      ∙ ap (λ (o : Option Spot). advance_at (course f) o state) here_there

  stays : LedStays program number step proc layered of here.state store state
  stays = led_stays program number step proc layered of store (λ n. []) here.place here.state follows.alike.stores

  -- the step of the path
  abbrev path_does : List Value → Change
  path_does v = done_by (program_at program (step - 1)) state.store v (statement_doing (program_at program (step - 1)) proc frame.locals s.number s.next (out-Stmt s.stmt))

  does_is : (f : ℕ → List Value) → spot_does (course f) s state ≡ path_does (f s.number)
  does_is f = ap (λ (ls : List Value). done_by (program_at program (step - 1)) state.store (f s.number) (statement_doing (program_at program (step - 1)) proc ls s.number s.next (out-Stmt s.stmt))) (stays.locals ∙ follows.alike.locals)

  advance_does : layer_ends s.number state (out-Stmt s.stmt) ≡ None → (f : ℕ → List Value) → advance (course f) here ≡ advance_by state (path_does (f s.number))
  advance_does none f =
      advance_is f
      ∙ ap (λ (o : Option Outcome). option_map_or Ends o (advance_by state (spot_does (course f) s state))) none
      ∙ ap (advance_by state) (does_is f)

  reaches : layer_ends s.number state (out-Stmt s.stmt) ≡ None → (f : ℕ → List Value) → SameBelow bound chosen f → Reaches (course f) (advance_by state (path_does (f s.number))) (path_from (course f) cut from)
  reaches none f h =
      subst (λ (a : Advance). Reaches (course f) a (path_from (course f) cut from)) (advance_does none f)
      (subst (Reaches (course f) (advance (course f) here)) (sym (follows.on_path.comes f h)) (step_is_on_path (course f) here))

  among : Contains (statements_of proc.body) s.stmt
  among = (s.number, slice_get_within (statements_of proc.body) s.number s.stmt stands, get_or_from_slice_get (statements_of proc.body) s.number s.stmt s.stmt stands)

  agree : (v : List Value) → ChangesAgree (exists_at (step - 1)) program.globals (path_does v) (frame_does program step proc store v frame s)
  agree v = steps_see_their_globals program number step proc s.stmt v frame.locals s.number s.next state.store store layered of among stays.stores

  -- choices that agree with those made now agree with those made before
  before : (f : ℕ → List Value) → SameBelow (s.number + 1) now f → SameBelow bound chosen f
  before f h m l =
      let far : m < s.number + 1 = omega (arith, l, low) in
      sym (ap (λ (b : Bool). if b then values else chosen m) (ne_eqb m s.number (λ e. absurd (omega (arith, l, low, e))))) ∙ h m far

  made : (f : ℕ → List Value) → SameBelow (s.number + 1) now f → f s.number ≡ values
  made f h = sym (h s.number (omega arith)) ∙ ap (λ (b : Bool). if b then values else chosen s.number) (eq-eqb s.number s.number refl)

  forth : GoesForward proc.body s.number (frame_does program step proc store values frame s)
  forth =
      subst (λ (p : ℕ). GoesForward proc.body s.number (done_by (program_at program (step - 1)) store values (statement_doing (program_at program (step - 1)) proc frame.locals s.number p (out-Stmt s.stmt)))) (sym split.next)
      (forward (program_at program (step - 1)) store values proc frame.locals s.number s.stmt split.behind split.belongs split.onward (out-Stmt s.stmt) refl)

  abbrev Goal : Change → Type 0
  Goal b = StepFollows program step proc cut from chosen s values here store frame b

  -- what the path's change does for all choices that agree
  abbrev ForAll : Change → Type 0
  ForAll a = (f : ℕ → List Value) → SameBelow (s.number + 1) now f → Reaches (course f) (advance_by state a) (path_from (course f) cut from)

  goes : (a : Change) (locals : List Value) (place : ℕ) → a ≡ Goes locals place → IsNotBelow (s.number + 1) (spot_at proc.body place) → ForAll a → advance (course now) here ≡ advance_by state a → Goal (Goes locals place)
  goes a locals place e h r adv = record {
    next = record { place = place; state = record { store = state.store; locals = locals; done = state.done; again = state.again } };
    goes = adv ∙ ap (advance_by state) e;
    place = refl;
    state = refl;
    follows = record {
      on_path = record { comes = λ f k. sym (subst (λ (a : Change). Reaches (course f) (advance_by state a) (path_from (course f) cut from)) e (r f k)); ahead = h };
      alike = record { spot = refl; locals = refl; stores = stays.stores };
    };
  }

  acts : (a : Change) (inner after : Store) (locals : List Value) (place : ℕ) → a ≡ Acts inner locals place → StoresAgree (exists_at (step - 1)) program.globals inner after → IsNotBelow (s.number + 1) (spot_at proc.body place) → ForAll a → advance (course now) here ≡ advance_by state a
      → FollowsOn program step proc cut from now (s.number + 1) here inner after (moved_frame frame locals place)
  acts a inner after locals place e g h r adv = record {
    next = record { place = place; state = record { store = inner; locals = locals; done = state.done; again = state.again } };
    goes = adv ∙ ap (advance_by state) e;
    place = refl;
    state = refl;
    follows = record {
      on_path = record { comes = λ f k. sym (subst (λ (a : Change). Reaches (course f) (advance_by state a) (path_from (course f) cut from)) e (r f k)); ahead = h };
      alike = record { spot = refl; locals = refl; stores = g };
    };
  }

  settled : (a b : Change) → a ≡ path_does values → ChangesAgree (exists_at (step - 1)) program.globals a b → GoesForward proc.body s.number b → ForAll a → advance (course now) here ≡ advance_by state a → (answers_failing b ≡ true → has_failed (path_from (course chosen) cut from) ≡ true) → Goal b
  settled (Acts inner l p) (Goes locals place) w g h r adv f = absurd g
  settled a (Goes locals place) w g h r adv f = goes a locals place g h r adv
  settled (Acts inner l p) (Acts after locals place) w g h r adv f =
      let same : Acts inner l p ≡ Acts inner locals place = ap (λ (ls : List Value). Acts inner ls p) g.1 ∙ ap (λ (at : ℕ). Acts inner locals at) g.2 in
      (inner, sym w ∙ same, acts (Acts inner l p) inner after locals place same g.0 h r adv)
  settled a (Acts after locals place) w g h r adv f = absurd g
  settled a (Stays answer.Failing) w g h r adv f = f refl
  settled a (Stays answer.Moved) w g h r adv f = tt
  settled a (Stays answer.Blocked) w g h r adv f = tt
  settled a (Stays answer.NoThread) w g h r adv f = tt
  settled a (Stays answer.Ended) w g h r adv f = tt
  settled a (Stays answer.BadChoices) w g h r adv f = tt
  settled a (Enters other place) w g h r adv f = tt
  settled a (Leaves other) w g h r adv f = tt
  settled a (Spawns thread place) w g h r adv f = tt

  fails : layer_ends s.number state (out-Stmt s.stmt) ≡ None → answers_failing (frame_does program step proc store values frame s) ≡ true → has_failed (path_from (course chosen) cut from) ≡ true
  fails none e =
      let same = failing_agrees program step (path_does (chosen s.number)) (frame_does program step proc store (chosen s.number) frame s) (agree (chosen s.number)) (fails_alike program number step proc of store frame s there (chosen s.number) values ∙ e) in
      let ended : Fails state ≡ path_from (course chosen) cut from = subst (λ (a : Change). Reaches (course chosen) (advance_by state a) (path_from (course chosen) cut from)) same (reaches none chosen (λ m l. refl)) in
      ap has_failed (sym ended)

  passed : layer_ends s.number state (out-Stmt s.stmt) ≡ None → Goal (frame_does program step proc store values frame s)
  passed none =
      settled (path_does values) (frame_does program step proc store values frame s) refl (agree values) forth
      (λ f h. subst (λ (v : List Value). Reaches (course f) (advance_by state (path_does v)) (path_from (course f) cut from)) (made f h) (reaches none f (before f h)))
      (advance_does none now ∙ ap (λ (v : List Value). advance_by state (path_does v)) (made now (λ m l. refl)))
      (fails none)

  by_form : (d : stmt.Stmt-F Stmt) → out-Stmt s.stmt ≡ d → form_loops d ≡ false → Goal (done_by (program_at program (step - 1)) store values (statement_doing (program_at program (step - 1)) proc frame.locals s.number s.next d))
  by_form (stmt.While t a) e l = absurd (true≢false l)
  by_form (stmt.YieldLoop t i a) e l = absurd (true≢false l)
  by_form (stmt.RankLoop t r i a) e l = absurd (true≢false l)
  by_form (stmt.Spawn f es) e l = tt
  by_form _ e l = subst (λ (d : stmt.Stmt-F Stmt). Goal (done_by (program_at program (step - 1)) store values (statement_doing (program_at program (step - 1)) proc frame.locals s.number s.next d))) e (passed (ap (layer_ends s.number state) e))

  pub step_follows : (bound ≤ s.number) × StepFollows program step proc cut from chosen s values here store frame (frame_does program step proc store values frame s)
  step_follows = (low, by_form (out-Stmt s.stmt) refl not_loop)

pub frames_follow : FramesFollow
frames_follow program number step proc cut from chosen bound here store frame values s layered of plainly follows away there =
    step_follows program number step proc cut from chosen bound here store frame values s layered of plainly follows away there

-- ---- the end of a path

head_ends : (n number : ℕ) (p : Progress) (d : stmt.Stmt-F Stmt) → layer_head n d ≡ Some number → layer_ends n p d ≡ Some (Comes number p)
head_ends n number p (stmt.YieldLoop t i a) e = ap (λ (o : Option ℕ). option_map_or (λ m. Some (Comes m p)) o None) e
head_ends n number p (stmt.RankLoop t r i a) e = ap (λ (o : Option ℕ). option_map_or (λ m. Some (Comes m p)) o None) e
head_ends n number p _ e = absurd (none-some number e)

module _ (program : Program) (step : ℕ) (proc : Proc) (cut : Cut) (from : Progress) (chosen : ℕ → List Value) (bound : ℕ) (here : Standing) (on_path : IsOnPath program step proc cut from chosen bound here) where
  abbrev own : Course
  own = lower_course program step proc chosen

  abbrev end : Progress
  end = led own (rest_at proc.body here.place) here.state

  ended : (o : Outcome) → advance own here ≡ Ends o → path_from own cut from ≡ o
  ended o e =
      let reached : o ≡ comes_to own here = subst (λ (a : Advance). Reaches own a (comes_to own here)) e (step_is_on_path own here) in
      on_path.comes chosen (λ m l. refl) ∙ sym reached

  abbrev advanced : Option ℕ → Option Spot → Advance
  advanced o u = option_map_or (λ number. Ends (Comes number end)) o (advance_at own u end)

  arriving_is : advance own here ≡ advanced (yield_before (rest_at proc.body here.place)) (spot_at proc.body here.place)
  arriving_is =
      ap (λ (p : Progress). option_map_or (λ number. Ends (Comes number p)) (yield_before (rest_at proc.body here.place)) (advance_at own (spot_at proc.body here.place) p))
      (led_same program step proc chosen (λ n. []) (rest_at proc.body here.place) here.state)

  at_cut : (o : Option ℕ) (u : Option Spot) (number : ℕ) → option_map_or (λ number. Some number) o (head_there u) ≡ Some number → advanced o u ≡ Ends (Comes number end)
  at_cut (Some n) u number e = ap (λ (o : Option ℕ). option_map_or (λ m. Ends (Comes m end)) o (Ends (Past end))) e
  at_cut None None number e = absurd (none-some number e)
  at_cut None (Some s) number e = ap (λ (o : Option Outcome). option_map_or Ends o (advance_by end (spot_does own s end))) (head_ends s.number number end (out-Stmt s.stmt) e)

  pub arrives_at : (number : ℕ) → cut_ahead proc.body here.place ≡ Some number → path_from own cut from ≡ Comes number end
  arrives_at number e = ended (Comes number end) (arriving_is ∙ at_cut (yield_before (rest_at proc.body here.place)) (spot_at proc.body here.place) number e)

  pub leaves : cut_ahead proc.body here.place ≡ None → spot_at proc.body here.place ≡ None → path_from own cut from ≡ Past end
  leaves e none =
      let nothing = none_both (yield_before (rest_at proc.body here.place)) (head_there (spot_at proc.body here.place)) e in
      ended (Past end)
      (arriving_is ∙ ap (λ (o : Option ℕ). advanced o (spot_at proc.body here.place)) nothing.0 ∙ ap (λ (u : Option Spot). advance_at own u end) none)

pub frames_arrive : FramesArrive
frames_arrive program step proc cut from chosen bound here on_path = (arrives_at program step proc cut from chosen bound here on_path, leaves program step proc cut from chosen bound here on_path)
