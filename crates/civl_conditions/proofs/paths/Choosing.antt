-- A path reads the choices of the calls that its flow passes alone.
use Rattle.std.proofs.Common.{◌≡◌, ℕ, ◌+◌, Bool, true, false, List, [], ◌∷◌, ◌++◌, map, Some, refl, sym, ap, ◌∙◌, subst}
use Rattle.std.proofs.lemmas.List.Elements.{Contains-append_left, Contains-append_right}
use Rattle.std.specs.Prelude.{if◌then◌else◌}
use Rattle.std.specs.List.{Contains}
use Rattle.std.proofs.lemmas.Bool.{true≢false}
use Rattle.civl_bits.specs.declared.value.Value.{Value}
use Rattle.civl_tree.specs.declared.name.Name.{Name}
use Rattle.civl_tree.specs.declared.action.Action.{Action}
use Rattle.civl_tree.specs.declared.expr.Expr.{Expr}
use Rattle.civl_tree.specs.declared.program.Proc.{Proc}
use Rattle.civl_tree.specs.declared.stmt.Stmt.{Stmt, out-Stmt, roll-Stmt, out-roll-Stmt, map-Stmt}
use Rattle.civl_tree.specs.declared.stmt.Stmt.TheOpen as stmt
use Rattle.civl_tree.specs.declared.stmt.Stmt.TheFolds.{ind-Stmt}
use Rattle.civl_tree.specs.Numbering.{size_of, sizes_of, numbered}
use Rattle.civl_tree.specs.rules.Names.{names_in_proc}
use Rattle.civl_tree.proofs.Pairs.{contains_here, contains_there}
use Rattle.civl_firing.specs.values.Values.{is_true}
use Rattle.civl_firing.specs.Eval.{value_of, values_of}
use Rattle.civl_firing.specs.Scope.{frame_values}
use Rattle.civl_firing.specs.Fired.{gate_holds, choices_fit, fired}
use Rattle.civl_meaning.specs.declared.config.Plain.{Plain}
use Rattle.civl_meaning.specs.declared.config.Stepped.TheVariants as answer
use Rattle.civl_meaning.specs.declared.config.Change.TheVariants.{Stays}
use Rattle.civl_meaning.specs.Meaning.{Meaning, Does, Runs, Missing, called}
use Rattle.civl_meaning.specs.Rest.{Rest, rest_at}
use Rattle.civl_meaning.specs.Change.{acted, done_by, call_doing}
use Rattle.civl_meaning.specs.Change as does
use Rattle.civl_layers.specs.declared.cut.Cut.{Cut}
use Rattle.civl_layers.specs.declared.cut.CutKind.{CutKind}
use Rattle.civl_layers.specs.declared.cut.CutKind.TheVariants as kind
use Rattle.civl_conditions.specs.paths.Paths.{Course, Progress, Outcome, Past, Comes, Fails, Stops, after, came, stepped, tested, pass, pass_all, from_loop, from_layer, from_rest, from_kind, path_from}
use Rattle.civl_conditions.specs.paths.Flows.{Flow, flow, flow_all, flow_loop, flow_layer, flow_rest, flow_kind, flow_from}
use Rattle.civl_conditions.specs.paths.Choices.{course_with, action_meant, layer_action, RestsReadTheirChoices, PathsReadTheirChoices, has_stopped, PathsReadFittingChoices}
use Rattle.civl_conditions.proofs.paths.Passing.{after_same, pass_layer, pass_is, pass_none, pass_more, flow_of_layer, flow_is, flow_more}
use Rattle.civl_conditions.proofs.paths.Ending.{is_past, stmt_ends}

-- a relation of outcomes that goes along with paths, from one statement to the next, and past none where the first path ends
module _ (Rel : Outcome → Outcome → Type 0) (same : (o : Outcome) → Rel o o)
    (onward : (o u : Outcome) (f g : Progress → Outcome) → Rel o u → ((p : Progress) → Rel (f p) (g p)) → Rel (after o f) (after u g))
    (ended : (o u : Outcome) (f g : Progress → Outcome) → Rel o u → is_past o ≡ false → Rel (after o f) (after u g))
    (plain : Plain) (proc : Proc) (chosen others : ℕ → List Value) where
  abbrev one : Course
  one = course_with plain proc chosen

  abbrev two : Course
  two = course_with plain proc others

  -- the relation holds of each step of these statements
  abbrev pub StepsRelate : Rest → Type 0
  StepsRelate passed = (q : ℕ × Stmt) → Contains passed q → (p : Progress) → Rel (stepped one (out-Stmt q.1) q.0 p) (stepped two (out-Stmt q.1) q.0 p)

  relate_left : (xs ys : Rest) → StepsRelate (xs ++ ys) → StepsRelate xs
  relate_left xs ys h q a = h q (Contains-append_left xs ys q a)

  relate_right : (xs ys : Rest) → StepsRelate (xs ++ ys) → StepsRelate ys
  relate_right xs ys h q a = h q (Contains-append_right xs ys q a)

  relate_others : (x : ℕ × Stmt) (xs : Rest) → StepsRelate (x ∷ xs) → StepsRelate xs
  relate_others x xs h q a = h q (contains_there x xs q a)

  by_rel : (o u x y : Outcome) → x ≡ o → y ≡ u → Rel x y → Rel o u
  by_rel o u x y e f h = subst (λ (o : Outcome). Rel o u) e (subst (Rel x) f h)

  by_flow : (f g : Flow) → f ≡ g → StepsRelate f.passed → StepsRelate g.passed
  by_flow f g e h = subst (λ (f : Flow). StepsRelate f.passed) e h

  abbrev RestReads : Rest → Type 0
  RestReads k = StepsRelate (flow_all k).passed → (p : Progress) → Rel (pass_all one k p) (pass_all two k p)

  abbrev StmtReads : Stmt → Type 0
  StmtReads s = (at : ℕ) → StepsRelate (flow s s at).passed → (p : Progress) → Rel (pass one s at p) (pass two s at p)

  none_reads : RestReads []
  none_reads h p = by_rel _ _ (Past p) (Past p) (sym (pass_none one p)) (sym (pass_none two p)) (same (Past p))

  more_reads : (at : ℕ) (s : Stmt) (k : Rest) → StmtReads s → RestReads k → RestReads ((at, s) ∷ k)
  more_reads at s k first behind h p =
      by_rel _ _ _ _ (sym (pass_more one at s k p)) (sym (pass_more two at s k p)) (by_onward (flow s s at).onward refl (by_flow _ _ (flow_more at s k) h))
    where
      by_onward : (b : Bool) → (flow s s at).onward ≡ b →
          StepsRelate (if b then record { passed = (flow s s at).passed ++ (flow_all k).passed; ends = (flow s s at).ends ++ (flow_all k).ends; onward = (flow_all k).onward } else flow s s at).passed →
          Rel (after (pass one s at p) (pass_all one k)) (after (pass two s at p) (pass_all two k))
      by_onward true e h =
          onward (pass one s at p) (pass two s at p) (pass_all one k) (pass_all two k) (first at (relate_left (flow s s at).passed (flow_all k).passed h) p) (behind (relate_right (flow s s at).passed (flow_all k).passed h))
      by_onward false e h = ended (pass one s at p) (pass two s at p) (pass_all one k) (pass_all two k) (first at h p) (stmt_ends one s at e p)

  all_read : {S : Type 0} (ys : List S) (v : S → Stmt) → ((x : S) → StmtReads (v x)) → (at : ℕ) → RestReads (numbered at (map v ys))
  all_read [] v f at = none_reads
  all_read (y ∷ ys) v f at = more_reads at (v y) (numbered (at + size_of (v y)) (map v ys)) (f y) (all_read ys v f (at + size_of (v y)))

  by_test : (b : Bool) (o u x y : Outcome) → Rel o u → Rel x y → Rel (if b then o else x) (if b then u else y)
  by_test true o u x y h k = h
  by_test false o u x y h k = k

  own_step : (s : Stmt) (d : stmt.Stmt-F Stmt) (at : ℕ) → out-Stmt s ≡ d → StepsRelate ((at, s) ∷ []) → (p : Progress) → Rel (stepped one d at p) (stepped two d at p)
  own_step s d at e h p = subst (λ (d : stmt.Stmt-F Stmt). Rel (stepped one d at p) (stepped two d at p)) e (h (at, s) (contains_here (at, s) []) p)

  layer_reads : {S : Type 0} (d : stmt.Stmt-F S) (v : S → Stmt) → ((x : S) → StmtReads (v x)) → (s : Stmt) (at : ℕ) → out-Stmt s ≡ map-Stmt S Stmt v d → StepsRelate (flow_of_layer (map-Stmt S Stmt v d) s at).passed → (p : Progress) →
      Rel (pass_layer one (map-Stmt S Stmt v d) at p) (pass_layer two (map-Stmt S Stmt v d) at p)
  layer_reads (stmt.Assign x e) v f s at o h p = own_step s (stmt.Assign x e) at o h p
  layer_reads (stmt.Assert e) v f s at o h p = own_step s (stmt.Assert e) at o h p
  layer_reads (stmt.Call g es rs) v f s at o h p = own_step s (stmt.Call g es rs) at o h p
  layer_reads (stmt.If e x y) v f s at o h p =
      let a = flow_all (numbered (at + 1) (map v x)) in
      let b = flow_all (numbered (at + 1 + sizes_of (map v x)) (map v y)) in
      let inside = relate_others (at, s) (a.passed ++ b.passed) h in
      by_test (tested one e p) _ _ _ _ (all_read x v f (at + 1) (relate_left a.passed b.passed inside) p) (all_read y v f (at + 1 + sizes_of (map v x)) (relate_right a.passed b.passed inside) p)
  layer_reads (stmt.While e x) v f s at o h p = same _
  layer_reads (stmt.YieldLoop e i x) v f s at o h p = same _
  layer_reads (stmt.RankLoop e r i x) v f s at o h p = same _
  layer_reads (stmt.Yield i) v f s at o h p = same _
  layer_reads stmt.Commit v f s at o h p = same _
  layer_reads (stmt.Intro x e) v f s at o h p = same _
  layer_reads (stmt.Spawn g es) v f s at o h p = same _

  stmt_reads : (s : Stmt) → StmtReads s
  stmt_reads s =
      ind-Stmt StmtReads (λ x y e at h p.
      let r = roll-Stmt x in
      let d = out-roll-Stmt x ∙ sym e in
      by_rel _ _ _ _
      (sym (pass_is one r at p ∙ ap (λ (d : stmt.Stmt-F Stmt). pass_layer one d at p) d))
      (sym (pass_is two r at p ∙ ap (λ (d : stmt.Stmt-F Stmt). pass_layer two d at p) d))
      (layer_reads y (λ z. z.0) (λ z. z.1) r at d (by_flow _ _ (flow_is r r at ∙ ap (λ (d : stmt.Stmt-F Stmt). flow_of_layer d r at) d) h) p)) s

  pub rest_reads : (k : Rest) → RestReads k
  rest_reads [] = none_reads
  rest_reads (q ∷ k) = more_reads q.0 q.1 k (stmt_reads q.1) (rest_reads k)

  -- ---- from a cut

  loop_reads : (e : Expr) (ss : List Stmt) (q : ℕ × Stmt) (k : Rest) → StepsRelate (flow_loop ss (q ∷ k)).passed → (p : Progress) → Rel (from_loop one e ss (q ∷ k) p) (from_loop two e ss (q ∷ k) p)
  loop_reads e ss q k h p =
      let a = numbered (q.0 + 1) ss ++ q ∷ k in
      let inside = relate_others q ((flow_all a).passed ++ (flow_all k).passed) h in
      by_test (tested one e p) _ _ _ _ (rest_reads a (relate_left (flow_all a).passed (flow_all k).passed inside) p) (rest_reads k (relate_right (flow_all a).passed (flow_all k).passed inside) p)

  from_layer_reads : (d : stmt.Stmt-F Stmt) (q : ℕ × Stmt) (k : Rest) → StepsRelate (flow_layer d (q ∷ k)).passed → (p : Progress) → Rel (from_layer one d (q ∷ k) p) (from_layer two d (q ∷ k) p)
  unfolding flow_layer from_layer
  from_layer_reads (stmt.YieldLoop e i ss) q k h p = loop_reads e ss q k h p
  from_layer_reads (stmt.RankLoop e r i ss) q k h p = loop_reads e ss q k h p
  from_layer_reads _ q k h p = rest_reads k h p

  from_rest_reads : (k : Rest) → StepsRelate (flow_rest k).passed → (p : Progress) → Rel (from_rest one k p) (from_rest two k p)
  from_rest_reads [] h p = same (Past p)
  from_rest_reads (q ∷ k) h p = from_layer_reads (out-Stmt q.1) q k h p

  from_kind_reads : (kind : CutKind) (number : ℕ) → StepsRelate (flow_kind proc.body number kind).passed → (p : Progress) → Rel (from_kind one number kind p) (from_kind two number kind p)
  from_kind_reads kind.Entry number h p = rest_reads (numbered 0 proc.body) h p
  from_kind_reads kind.Yield number h p = from_rest_reads (rest_at proc.body number) h p
  from_kind_reads kind.YieldLoop number h p = from_rest_reads (rest_at proc.body number) h p
  from_kind_reads kind.RankLoop number h p = from_rest_reads (rest_at proc.body number) h p

  pub path_reads : (cut : Cut) → StepsRelate (flow_from proc cut).passed → (p : Progress) → Rel (path_from one cut p) (path_from two cut p)
  unfolding flow_from path_from
  path_reads cut h p = from_kind_reads cut.kind cut.statement h p

-- ---- choices that agree

equal_onward : (o u : Outcome) (f g : Progress → Outcome) → o ≡ u → ((p : Progress) → f p ≡ g p) → after o f ≡ after u g
equal_onward o u f g e h = ap (λ (o : Outcome). after o f) e ∙ after_same u f g h

ended_alike : (o : Outcome) (f g : Progress → Outcome) → is_past o ≡ false → after o f ≡ after o g
ended_alike (Past p) f g e = absurd (true≢false e)
ended_alike (Comes n p) f g e = refl
ended_alike (Fails p) f g e = refl
ended_alike (Stops p) f g e = refl

equal_ended : (o u : Outcome) (f g : Progress → Outcome) → o ≡ u → is_past o ≡ false → after o f ≡ after u g
equal_ended o u f g e h = ended_alike o f g h ∙ ap (λ (o : Outcome). after o g) e

module _ (plain : Plain) (proc : Proc) (chosen others : ℕ → List Value) where
  abbrev steps : (ℕ → List Value) → stmt.Stmt-F Stmt → ℕ → Progress → Outcome
  steps given d at p = stepped (course_with plain proc given) d at p

  -- what a call that means this comes to
  abbrev calls : (List Value) → Meaning → List Name → ℕ → List Value → Progress → Outcome
  calls given m results at args p = came p (done_by plain p.store given (call_doing (names_in_proc proc) p.locals results at (at + 1) m args))

  call_equal : (m : Meaning) (results : List Name) (at : ℕ) (args : List Value) (p : Progress) → ((action : Action) → action_meant m ≡ Some action → chosen at ≡ others at) →
      calls (chosen at) m results at args p ≡ calls (others at) m results at args p
  call_equal (Does action) results at args p h = ap (λ (given : List Value). calls given (Does action) results at args p) (h action refl)
  call_equal (Runs number callee) results at args p h = refl
  call_equal Missing results at args p h = refl

  -- an assert reads no choices
  assert_equal : (b : Bool) (at : ℕ) (p : Progress) →
      came p (done_by plain p.store (chosen at) (if b then does.Goes p.locals (at + 1) else does.Fails)) ≡ came p (done_by plain p.store (others at) (if b then does.Goes p.locals (at + 1) else does.Fails))
  assert_equal true at p = refl
  assert_equal false at p = refl

  step_equal : (d : stmt.Stmt-F Stmt) (at : ℕ) (p : Progress) → ((action : Action) → layer_action plain d ≡ Some action → chosen at ≡ others at) → steps chosen d at p ≡ steps others d at p
  step_equal (stmt.Call f es rs) at p h = call_equal (called plain f) rs at (values_of (frame_values plain.program.globals proc p.locals) es) p h
  step_equal (stmt.Assert e) at p h = assert_equal (is_true (value_of (frame_values plain.program.globals proc p.locals) e)) at p
  step_equal _ at p h = refl

  -- ---- choices that agree where they fit

  -- the same, but where the first stops
  abbrev UnlessStopped : Outcome → Outcome → Type 0
  UnlessStopped o u = has_stopped o ≡ false → o ≡ u

  -- a call of this action, where its gate is known
  gated : (action : Action) (results : List Name) (at : ℕ) (args : List Value) (p : Progress) (given : List Value) (gate : Bool) → gate_holds plain.program.globals p.store action args ≡ gate →
      calls given (Does action) results at args p
      ≡ came p (if gate then (if choices_fit action given then acted (names_in_proc proc) p.locals results (at + 1) (fired plain.program.globals p.store action args given) else Stays answer.BadChoices) else Stays answer.Failing)
  gated action results at args p given gate e =
      ap (λ (b : Bool). came p (if b then (if choices_fit action given then acted (names_in_proc proc) p.locals results (at + 1) (fired plain.program.globals p.store action args given) else Stays answer.BadChoices) else Stays answer.Failing)) e

  unfit : (action : Action) (results : List Name) (at : ℕ) (args : List Value) (p : Progress) (given : List Value) → choices_fit action given ≡ false →
      came p (if choices_fit action given then acted (names_in_proc proc) p.locals results (at + 1) (fired plain.program.globals p.store action args given) else Stays answer.BadChoices) ≡ Stops p
  unfit action results at args p given e =
      ap (λ (b : Bool). came p (if b then acted (names_in_proc proc) p.locals results (at + 1) (fired plain.program.globals p.store action args given) else Stays answer.BadChoices)) e

  action_fits : (action : Action) (results : List Name) (at : ℕ) (args : List Value) (p : Progress) → (choices_fit action (chosen at) ≡ true → chosen at ≡ others at) →
      UnlessStopped (calls (chosen at) (Does action) results at args p) (calls (others at) (Does action) results at args p)
  action_fits action results at args p h s = by_tests (choices_fit action (chosen at)) (gate_holds plain.program.globals p.store action args) refl refl
    where
      by_tests : (fit gate : Bool) → choices_fit action (chosen at) ≡ fit → gate_holds plain.program.globals p.store action args ≡ gate →
          calls (chosen at) (Does action) results at args p ≡ calls (others at) (Does action) results at args p
      by_tests true gate e g = ap (λ (given : List Value). calls given (Does action) results at args p) (h e)
      by_tests false true e g =
          let stopped : calls (chosen at) (Does action) results at args p ≡ Stops p = gated action results at args p (chosen at) true g ∙ unfit action results at args p (chosen at) e in
          absurd (true≢false (sym (ap has_stopped stopped) ∙ s))
      by_tests false false e g = gated action results at args p (chosen at) false g ∙ sym (gated action results at args p (others at) false g)

  call_fits : (m : Meaning) (results : List Name) (at : ℕ) (args : List Value) (p : Progress) → ((action : Action) → action_meant m ≡ Some action → choices_fit action (chosen at) ≡ true → chosen at ≡ others at) →
      UnlessStopped (calls (chosen at) m results at args p) (calls (others at) m results at args p)
  call_fits (Does action) results at args p h s = action_fits action results at args p (h action refl) s
  call_fits (Runs number callee) results at args p h s = refl
  call_fits Missing results at args p h s = refl

  step_fits : (d : stmt.Stmt-F Stmt) (at : ℕ) (p : Progress) → ((action : Action) → layer_action plain d ≡ Some action → choices_fit action (chosen at) ≡ true → chosen at ≡ others at) → UnlessStopped (steps chosen d at p) (steps others d at p)
  step_fits (stmt.Call f es rs) at p h s = call_fits (called plain f) rs at (values_of (frame_values plain.program.globals proc p.locals) es) p h s
  step_fits (stmt.Assert e) at p h s = assert_equal (is_true (value_of (frame_values plain.program.globals proc p.locals) e)) at p
  step_fits _ at p h s = refl

fits_onward : (o u : Outcome) (f g : Progress → Outcome) → (has_stopped o ≡ false → o ≡ u) → ((p : Progress) → has_stopped (f p) ≡ false → f p ≡ g p) → has_stopped (after o f) ≡ false → after o f ≡ after u g
fits_onward (Past p) u f g e h s = h p s ∙ ap (λ (o : Outcome). after o g) (e refl)
fits_onward (Comes n p) u f g e h s = ap (λ (o : Outcome). after o g) (e refl)
fits_onward (Fails p) u f g e h s = ap (λ (o : Outcome). after o g) (e refl)
fits_onward (Stops p) u f g e h s = absurd (true≢false s)

fits_ended : (o u : Outcome) (f g : Progress → Outcome) → (has_stopped o ≡ false → o ≡ u) → is_past o ≡ false → has_stopped (after o f) ≡ false → after o f ≡ after u g
fits_ended (Past p) u f g e h s = absurd (true≢false h)
fits_ended (Comes n p) u f g e h s = ap (λ (o : Outcome). after o g) (e refl)
fits_ended (Fails p) u f g e h s = ap (λ (o : Outcome). after o g) (e refl)
fits_ended (Stops p) u f g e h s = absurd (true≢false s)

-- ---- the laws

pub rests_read_their_choices : RestsReadTheirChoices
rests_read_their_choices plain proc rest chosen others p h =
    rest_reads (λ o u. o ≡ u) (λ o. refl) equal_onward equal_ended plain proc chosen others rest (λ q a p. step_equal plain proc chosen others (out-Stmt q.1) q.0 p (λ action e. h q action a e)) p

pub paths_read_their_choices : PathsReadTheirChoices
paths_read_their_choices plain proc cut chosen others p h =
    path_reads (λ o u. o ≡ u) (λ o. refl) equal_onward equal_ended plain proc chosen others cut (λ q a p. step_equal plain proc chosen others (out-Stmt q.1) q.0 p (λ action e. h q action a e)) p

pub paths_read_fitting_choices : PathsReadFittingChoices
paths_read_fitting_choices plain proc cut chosen others p h =
    path_reads (λ o u. has_stopped o ≡ false → o ≡ u) (λ o s. refl) fits_onward fits_ended plain proc chosen others cut (λ q a p. step_fits plain proc chosen others (out-Stmt q.1) q.0 p (λ action e. h q action a e)) p
