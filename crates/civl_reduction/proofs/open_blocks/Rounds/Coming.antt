-- To which numbers paths come.
use Rattle.std.proofs.Common.{◌≡◌, ℕ, ◌+◌, ◌<◌, ◌≤◌, Bool, true, false, List, [], ◌∷◌, map, ◌⊎◌, inl, inr, Some, refl, sym, ap, ◌∙◌, subst, arith}
use Rattle.std.specs.Prelude.{if◌then◌else◌}
use Rattle.std.proofs.lemmas.Bool.{true≢false, cases_lt}
use Rattle.std.proofs.lemmas.Option.{same_Some}
use Rattle.civl_bits.specs.declared.value.Value.{Value}
use Rattle.civl_tree.specs.declared.program.Proc.{Proc}
use Rattle.civl_tree.specs.declared.program.Program.{Program}
use Rattle.civl_tree.specs.declared.stmt.Stmt.{Stmt, out-Stmt, roll-Stmt, out-roll-Stmt, map-Stmt}
use Rattle.civl_tree.specs.declared.stmt.Stmt.TheOpen as stmt
use Rattle.civl_tree.specs.declared.stmt.Stmt.TheFolds.{ind-Stmt}
use Rattle.civl_tree.specs.Numbering.{size_of, sizes_of, numbered, statement_at}
use Rattle.civl_tree.specs.rules.Rules.{Keeps}
use Rattle.civl_meaning.specs.declared.config.Stepped.TheVariants as answer
use Rattle.civl_meaning.specs.declared.config.Change.{Change}
use Rattle.civl_meaning.specs.declared.config.Change.TheVariants.{Stays, Goes, Acts, Enters, Leaves, Spawns}
use Rattle.civl_meaning.specs.Rest.{Rest, rest_at}
use Rattle.civl_layers.specs.declared.cut.CutKind.{CutKind}
use Rattle.civl_yields.specs.Places.{form_pauses}
use Rattle.civl_yields.specs.YieldRules.{yield_rules}
use Rattle.civl_conditions.specs.paths.Paths.{Course, Progress, Outcome, Past, Comes, Fails, Stops, after, came, tested, pass, pass_all, from_layer, from_rest, from_kind, path_from}
use Rattle.civl_conditions.specs.paths.Seen.{IsProcOf, lower_course}
use Rattle.civl_conditions.proofs.paths.Passing.{pass_layer, pass_is, pass_none, pass_more, from_rank_loop}
use Rattle.civl_conditions.proofs.paths.Going.{pass_joined}
use Rattle.civl_conditions.proofs.paths.Belonging.{Belongs, own_place, rest_belongs}
use Rattle.civl_conditions.proofs.paths.Heading.{number_begins}
use Rattle.civl_conditions.proofs.paths.Standing.{begins_stands}
use Rattle.civl_reduction.specs.open_blocks.Following.{form_loops}
use Rattle.civl_reduction.specs.open_blocks.Rounds.{form_ranked, RankLoopsComeLater}
use Rattle.civl_reduction.proofs.open_blocks.Rounds.Nesting.{AreOuter, loop_outer}

-- the outcome comes to this number
abbrev pub To : ℕ → Outcome → Type 0
To n (Past p) = ⊥
To n (Comes m p) = m ≡ n
To n (Fails p) = ⊥
To n (Stops p) = ⊥

came_nowhere : (n : ℕ) (p : Progress) (x : Change) → To n (came p x) → ⊥
came_nowhere n p (Goes locals place) h = h
came_nowhere n p (Acts store locals place) h = h
came_nowhere n p (Stays answer.Failing) h = h
came_nowhere n p (Stays answer.Moved) h = h
came_nowhere n p (Stays answer.Blocked) h = h
came_nowhere n p (Stays answer.NoThread) h = h
came_nowhere n p (Stays answer.Ended) h = h
came_nowhere n p (Stays answer.BadChoices) h = h
came_nowhere n p (Enters frame place) h = h
came_nowhere n p (Leaves frame) h = h
came_nowhere n p (Spawns thread place) h = h

-- with the first part, or behind it
to_either : (n : ℕ) (o : Outcome) (f : Progress → Outcome) → To n (after o f) → To n o ⊎ ((p : Progress) × (o ≡ Past p) × To n (f p))
to_either n (Past p) f h = inr (p, refl, h)
to_either n (Comes m p) f h = inl h
to_either n (Fails p) f h = absurd h
to_either n (Stops p) f h = absurd h

by_test : (n : ℕ) (b : Bool) (x y : Outcome) → To n (if b then x else y) → To n x ⊎ To n y
by_test n true x y h = inl h
by_test n false x y h = inr h

module _ (c : Course) where
  -- what is to be shown of a statement
  abbrev ComesIn : Stmt → Type 0
  ComesIn s = (at n : ℕ) (p : Progress) → To n (pass c s at p) → (n ≡ at) ⊎ ((at < n) × (form_loops (out-Stmt s) ≡ false))

  all_come : {S : Type 0} (ys : List S) (v : S → Stmt) → ((x : S) → ComesIn (v x)) → (at n : ℕ) (p : Progress) → To n (pass_all c (numbered at (map v ys)) p) → at ≤ n
  all_come [] v h at n p t = absurd (subst (To n) (pass_none c p) t)
  all_come (y ∷ ys) v h at n p t =
      elim (to_either n (pass c (v y) at p) (pass_all c (numbered (at + size_of (v y)) (map v ys))) (subst (To n) (pass_more c at (v y) (numbered (at + size_of (v y)) (map v ys)) p) t)) [
        | inl g ↦ elim (h y at n p g) [ inl e ↦ omega (arith, e) | inr l ↦ omega (arith, l.0) ]
        | inr g ↦ let later = all_come ys v h (at + size_of (v y)) n g.0 g.2 in omega (arith, later)
      ]

  layer_comes : {S : Type 0} (d : stmt.Stmt-F S) (v : S → Stmt) → ((x : S) → ComesIn (v x)) → (at n : ℕ) (p : Progress) → To n (pass_layer c (map-Stmt S Stmt v d) at p) → (n ≡ at) ⊎ ((at < n) × (form_loops (map-Stmt S Stmt v d) ≡ false))
  layer_comes (stmt.If e a b) v h at n p t =
      elim (by_test n (tested c e p) _ _ t) [
        | inl g ↦ let low = all_come a v h (at + 1) n p g in inr (omega (arith, low), refl)
        | inr g ↦ let low = all_come b v h (at + 1 + sizes_of (map v a)) n p g in inr (omega (arith, low), refl)
      ]
  layer_comes (stmt.While e a) v h at n p t = absurd t
  layer_comes (stmt.YieldLoop e i a) v h at n p t = inl (sym t)
  layer_comes (stmt.RankLoop e r i a) v h at n p t = inl (sym t)
  layer_comes (stmt.Yield i) v h at n p t = inl (sym t)
  layer_comes stmt.Commit v h at n p t = absurd t
  layer_comes (stmt.Intro x e) v h at n p t = absurd t
  layer_comes (stmt.Spawn f es) v h at n p t = absurd t
  layer_comes (stmt.Assign x e) v h at n p t = absurd t
  layer_comes (stmt.Assert e) v h at n p t = absurd (came_nowhere n p _ t)
  layer_comes (stmt.Call f es rs) v h at n p t = absurd (came_nowhere n p _ t)

  comes_in : (s : Stmt) → ComesIn s
  comes_in s =
      ind-Stmt ComesIn (λ x y e at n p t.
      let r = roll-Stmt x in
      let q = out-roll-Stmt x ∙ sym e in
      subst (λ (d : stmt.Stmt-F Stmt). (n ≡ at) ⊎ ((at < n) × (form_loops d ≡ false))) (sym q)
      (layer_comes y (λ z. z.0) (λ z. z.1) at n p (subst (To n) (pass_is c r at p ∙ ap (λ (d : stmt.Stmt-F Stmt). pass_layer c d at p) q) t))) s

  map_come : (ss : List Stmt) (at n : ℕ) (p : Progress) → To n (pass_all c (numbered at ss) p) → at ≤ n
  map_come [] at n p t = absurd (subst (To n) (pass_none c p) t)
  map_come (s ∷ ss) at n p t =
      elim (to_either n (pass c s at p) (pass_all c (numbered (at + size_of s) ss)) (subst (To n) (pass_more c at s (numbered (at + size_of s) ss) p) t)) [
        | inl g ↦ elim (comes_in s at n p g) [ inl e ↦ omega (arith, e) | inr l ↦ omega (arith, l.0) ]
        | inr g ↦ let later = map_come ss (at + size_of s) n g.0 g.2 in omega (arith, later)
      ]

  -- to a rank loop behind w, where those in front aren't rank loops
  rest_comes : (w : ℕ) (k : Rest) → Belongs c.proc.body k → AreOuter w k → (n : ℕ) (p : Progress) → To n (pass_all c k p) → (t : Stmt) → statement_at c.proc.body n ≡ Some t → form_ranked (out-Stmt t) ≡ true → w ≤ n
  rest_comes w [] b o n p h t at ranked = absurd (subst (To n) (pass_none c p) h)
  rest_comes w (q ∷ k) b o n p h t at ranked =
      elim (to_either n (pass c q.1 q.0 p) (pass_all c k) (subst (To n) (pass_more c q.0 q.1 k p) h)) [
        | inl g ↦ elim (comes_in q.1 q.0 n p g) [
          | inl e ↦ elim o.0 [
            | inl low ↦ omega (arith, e, low)
            | inr loop ↦
                let here : statement_at c.proc.body n ≡ Some q.1 = ap (statement_at c.proc.body) e ∙ begins_stands c.proc.body q.0 q.1 k (own_place c.proc.body (q ∷ k) b) in
                let same : q.1 ≡ t = same_Some q.1 t (sym here ∙ at) in
                absurd (true≢false (sym ranked ∙ ap (λ (s : Stmt). form_ranked (out-Stmt s)) (sym same) ∙ loop.1))
          ]
          | inr l ↦ elim o.0 [
            | inl low ↦ omega (arith, l.0, low)
            | inr loop ↦ absurd (true≢false (sym loop.0 ∙ l.1))
          ]
        ]
        | inr g ↦ rest_comes w k b.1 o.1 n g.0 g.2 t at ranked
      ]

same_or_later : (n w : ℕ) → w ≤ n → (n ≡ w) ⊎ (w < n)
same_or_later n w l = elim (cases_lt w n) [ inl h ↦ inr h | inr h ↦ inl (omega (arith, l, h)) ]

module _ (program : Program) (step q : ℕ) (proc : Proc) (chosen : ℕ → List Value) (yields : Keeps yield_rules program) (of : IsProcOf program q step proc) (w : ℕ) (s : Stmt) (at : statement_at proc.body w ≡ Some s) (k : Rest) (is : rest_at proc.body w ≡ (w, s) ∷ k)
    (number : ℕ) (t : Stmt) (there : statement_at proc.body number ≡ Some t) (ranked : form_ranked (out-Stmt t) ≡ true) (from : Progress) where
  abbrev c : Course
  c = lower_course program step proc chosen

  belongs : Belongs proc.body ((w, s) ∷ k)
  belongs = subst (Belongs proc.body) is (rest_belongs proc.body w)

  outer : form_pauses (out-Stmt s) ≡ true → AreOuter w ((w, s) ∷ k)
  outer pauses = subst (AreOuter w) is (loop_outer program q proc yields of.there w s at pauses)

  by_form : (d : stmt.Stmt-F Stmt) → out-Stmt s ≡ d → form_ranked d ≡ true → To number (from_layer c d ((w, s) ∷ k) from) → w ≤ number
  by_form (stmt.RankLoop e r i a) form f h =
      let whole = outer (ap form_pauses form) in
      elim (by_test number (tested c e from) _ _ (subst (To number) (from_rank_loop c e r i a ((w, s) ∷ k) from) h)) [
        | inl g ↦ elim (to_either number (pass_all c (numbered (w + 1) a) from) (pass_all c ((w, s) ∷ k)) (subst (To number) (pass_joined c (numbered (w + 1) a) ((w, s) ∷ k) from) g)) [
          | inl x ↦ let low = map_come c a (w + 1) number from x in omega (arith, low)
          | inr x ↦ rest_comes c w ((w, s) ∷ k) belongs whole number x.0 x.2 t there ranked
        ]
        | inr g ↦ rest_comes c w k belongs.1 whole.1 number from g t there ranked
      ]
  by_form _ form f h = absurd (true≢false (sym f))

  pub comes_later : form_ranked (out-Stmt s) ≡ true → To number (from_rest c (rest_at proc.body w) from) → (number ≡ w) ⊎ (w < number)
  comes_later f h = same_or_later number w (by_form (out-Stmt s) refl f (subst (λ (r : Rest). To number (from_rest c r from)) is h))

pub rank_loops_come_later : RankLoopsComeLater
unfolding path_from
rank_loops_come_later program step q proc cut chosen from there number s t yields of ranked at loops comes at_end end_loops =
    let first = number_begins proc.body cut.statement s at in
    let c : Course = lower_course program step proc chosen in
    let outcome : from_rest c (rest_at proc.body cut.statement) from ≡ Comes number there = sym (ap (λ (k : CutKind). from_kind c cut.statement k from) ranked) ∙ comes in
    comes_later program step q proc chosen yields of cut.statement s at first.0 first.1 number t at_end end_loops from loops (subst (To number) (sym outcome) refl)
