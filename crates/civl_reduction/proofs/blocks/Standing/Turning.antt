-- Where no call comes too late, no right or atomic call is ahead in a block behind its first left or atomic call.
use Rattle.std.proofs.Common.{◌≡◌, ℕ, ◌+◌, Bool, true, false, ◌||◌, List, [], ◌∷◌, ◌++◌, map, refl, sym, ap, ◌∙◌, subst, inl, inr, ◌⊎◌}
use Rattle.std.proofs.lemmas.Bool.{false≢true, or_cases, or_parts, or_left, or_right, false_from_ne_true, both_ways}
use Rattle.civl_tree.specs.declared.stmt.Stmt.{Stmt, out-Stmt, roll-Stmt, out-roll-Stmt, map-Stmt}
use Rattle.civl_tree.specs.declared.stmt.Stmt.TheOpen.{Stmt-F, If, While, YieldLoop, RankLoop, Call, Yield}
use Rattle.civl_tree.specs.declared.stmt.Stmt.TheFolds.{ind-Stmt}
use Rattle.civl_tree.specs.declared.program.Program.{Program}
use Rattle.civl_tree.specs.Numbering.{size_of, numbered}
use Rattle.civl_meaning.specs.Rest.{Rest}
use Rattle.civl_reduction.specs.blocks.Ahead.{stops, ahead, ahead_list, ahead_in}
use Rattle.civl_reduction.proofs.blocks.Standing.Computing.{ahead_form, ahead_is}
use Rattle.civl_reduction.proofs.blocks.Standing.Flowing.{turns, Flow, Flows, flow, flow_list, flow_then, list_flow, flow_loop, flow_form, flow_is}

module _ (program : Program) where
  -- ---- entered left, what is ahead comes too late, or is behind, where the phase is left too

  abbrev Told : Bool → Flow program → Bool → Type 0
  Told here x later = here ≡ true → (x.bad ≡ true) ⊎ ((later ≡ true) × (x.after ≡ true))

  abbrev Tells : Stmt → Type 0
  Tells s = (later : Bool) → Told (ahead program s later) (flow program s true) later

  abbrev TellsAll : List Stmt → Type 0
  TellsAll ss = (later : Bool) → Told (ahead_list program ss later) (flow_list program ss true) later

  then_tells : (s : Stmt) (ss : List Stmt) → Tells s → TellsAll ss → TellsAll (s ∷ ss)
  then_tells s ss h k later e =
      subst (λ (x : Flow program). (x.bad ≡ true) ⊎ ((later ≡ true) × (x.after ≡ true))) (sym (list_flow program s ss true)) (go (h (ahead_list program ss later) e))
    where
      x : Flow program
      x = flow program s true

      go : ((flow program s true).bad ≡ true) ⊎ ((ahead_list program ss later ≡ true) × ((flow program s true).after ≡ true))
          → ((flow_then program (flow program s true) (flow_list program ss)).bad ≡ true) ⊎ ((later ≡ true) × ((flow_then program (flow program s true) (flow_list program ss)).after ≡ true))
      go (inl b) = inl (or_left (flow program s true).bad (flow_list program ss (flow program s true).after).bad b)
      go (inr r) = elim (k later r.0) [
        | inl b ↦ inl (or_right (flow program s true).bad (flow_list program ss (flow program s true).after).bad (subst (λ (l : Bool). (flow_list program ss l).bad ≡ true) (sym r.1) b))
        | inr b ↦ inr (b.0, subst (λ (l : Bool). (flow_list program ss l).after ≡ true) (sym r.1) b.1)
      ]

  all_tell : {A : Type 0} (ys : List A) (v : A → Stmt) (h : (x : A) → Tells (v x)) → TellsAll (map v ys)
  all_tell [] v h later e = inr (e, refl)
  all_tell (y ∷ ys) v h later e = then_tells (v y) (map v ys) (h y) (all_tell ys v h) later e

  loop_tells : (a : List Stmt) (later : Bool) → TellsAll a → Told (ahead_list program a false || later) (flow_loop program (flow_list program a) true) later
  loop_tells a later h e = elim (or_cases (ahead_list program a false) later e) [
    | inl f ↦ elim (h false f) [ inl b ↦ inl b | inr b ↦ absurd (false≢true b.0) ]
    | inr f ↦ inr (f, refl)
  ]

  if_tells : (a b : List Stmt) (later : Bool) → TellsAll a → TellsAll b → Told (ahead_list program a later || ahead_list program b later) (record { after = (flow_list program a true).after || (flow_list program b true).after; bad = (flow_list program a true).bad || (flow_list program b true).bad }) later
  if_tells a b later h k e = elim (or_cases (ahead_list program a later) (ahead_list program b later) e) [
    | inl f ↦ elim (h later f) [ inl g ↦ inl (or_left x.bad y.bad g) | inr g ↦ inr (g.0, or_left x.after y.after g.1) ]
    | inr f ↦ elim (k later f) [ inl g ↦ inl (or_right x.bad y.bad g) | inr g ↦ inr (g.0, or_right x.after y.after g.1) ]
  ]
    where
      x : Flow program
      x = flow_list program a true

      y : Flow program
      y = flow_list program b true

  layer_tells : {A : Type 0} (y : Stmt-F A) (v : A → Stmt) (h : (x : A) → Tells (v x)) (later : Bool) → Told (ahead_form program (map-Stmt A Stmt v y) later) (flow_form program (map-Stmt A Stmt v y) true) later
  layer_tells (Call f es rs) v h later e = elim (or_cases (stops program f) later e) [ inl b ↦ inl b | inr b ↦ inr (b, refl) ]
  layer_tells (If x a b) v h later e = if_tells (map v a) (map v b) later (all_tell a v h) (all_tell b v h) e
  layer_tells (While x a) v h later e = loop_tells (map v a) later (all_tell a v h) e
  layer_tells (RankLoop x r i a) v h later e = loop_tells (map v a) later (all_tell a v h) e
  layer_tells (YieldLoop x i a) v h later e = absurd (false≢true e)
  layer_tells (Yield i) v h later e = absurd (false≢true e)
  layer_tells _ v h later e = inr (e, refl)

  tells : (s : Stmt) → Tells s
  tells s =
      ind-Stmt Tells (λ x y e later here.
      let r = roll-Stmt x in
      let q = out-roll-Stmt x ∙ sym e in
      let is = flow_is program r true ∙ ap (λ (d : Stmt-F Stmt). flow_form program d true) q in
      subst (λ (z : Flow program). (z.bad ≡ true) ⊎ ((later ≡ true) × (z.after ≡ true))) (sym is)
      (layer_tells y (λ z. z.0) (λ z. z.1) later (sym (ahead_is program r later ∙ ap (λ (d : Stmt-F Stmt). ahead_form program d later) q) ∙ here))) s

  -- ---- entered left, no less is found

  abbrev Rises : Flow program → Flow program → Type 0
  Rises x y = (x.bad ≡ true → y.bad ≡ true) × (x.after ≡ true → y.after ≡ true)

  any_rises : (f : Flows program) → Rises (f false) (f true) → (l m : Bool) → (l ≡ true → m ≡ true) → Rises (f l) (f m)
  any_rises f h false false i = (λ e. e, λ e. e)
  any_rises f h false true i = h
  any_rises f h true true i = (λ e. e, λ e. e)
  any_rises f h true false i = absurd (false≢true (i refl))

  abbrev Grows : Stmt → Type 0
  Grows s = Rises (flow program s false) (flow program s true)

  or_rises : (a b c d : Bool) → (a ≡ true → c ≡ true) → (b ≡ true → d ≡ true) → (a || b) ≡ true → (c || d) ≡ true
  or_rises a b c d h k e = elim (or_cases a b e) [ inl f ↦ or_left c d (h f) | inr f ↦ or_right c d (k f) ]

  then_rises : (s : Stmt) (ss : List Stmt) → Grows s → Rises (flow_list program ss false) (flow_list program ss true) → Rises (flow_list program (s ∷ ss) false) (flow_list program (s ∷ ss) true)
  then_rises s ss h k =
      let x = flow program s false in
      let z = flow program s true in
      let later = any_rises (flow_list program ss) k x.after z.after h.1 in
      let both : Rises (flow_then program x (flow_list program ss)) (flow_then program z (flow_list program ss)) = (or_rises x.bad (flow_list program ss x.after).bad z.bad (flow_list program ss z.after).bad h.0 later.0, later.1) in
      subst (λ (a : Flow program). Rises a (flow_list program (s ∷ ss) true)) (sym (list_flow program s ss false)) (subst (Rises (flow_then program x (flow_list program ss))) (sym (list_flow program s ss true)) both)

  all_rise : {A : Type 0} (ys : List A) (v : A → Stmt) (h : (x : A) → Grows (v x)) → Rises (flow_list program (map v ys) false) (flow_list program (map v ys) true)
  all_rise [] v h = (λ e. e, λ e. refl)
  all_rise (y ∷ ys) v h = then_rises (v y) (map v ys) (h y) (all_rise ys v h)

  loop_rises : (f : Flows program) → Rises (f false) (f true) → Rises (flow_loop program f (f false).after) (flow_loop program f true)
  loop_rises f h = ((any_rises f h (f false).after true (λ e. refl)).0, λ e. refl)

  layer_rises : {A : Type 0} (y : Stmt-F A) (v : A → Stmt) (h : (x : A) → Grows (v x)) → Rises (flow_form program (map-Stmt A Stmt v y) false) (flow_form program (map-Stmt A Stmt v y) true)
  layer_rises (Call f es rs) v h = (λ e. absurd (false≢true e), λ e. refl)
  layer_rises (If x a b) v h =
      let i = all_rise a v h in
      let j = all_rise b v h in
      let fa = flow_list program (map v a) in
      let fb = flow_list program (map v b) in
      (or_rises (fa false).bad (fb false).bad (fa true).bad (fb true).bad i.0 j.0, or_rises (fa false).after (fb false).after (fa true).after (fb true).after i.1 j.1)
  layer_rises (While x a) v h = loop_rises (flow_list program (map v a)) (all_rise a v h)
  layer_rises (RankLoop x r i a) v h = loop_rises (flow_list program (map v a)) (all_rise a v h)
  layer_rises (YieldLoop x i a) v h = (λ e. e, λ e. e)
  layer_rises (Yield i) v h = (λ e. e, λ e. e)
  layer_rises _ v h = (λ e. e, λ e. refl)

  grows : (s : Stmt) → Grows s
  grows s =
      ind-Stmt Grows (λ x y e.
      let r = roll-Stmt x in
      let q = out-roll-Stmt x ∙ sym e in
      let is = λ (l : Bool). flow_is program r l ∙ ap (λ (d : Stmt-F Stmt). flow_form program d l) q in
      let h = layer_rises y (λ z. z.0) (λ z. z.1) in
      subst (λ (a : Flow program). Rises a (flow program r true)) (sym (is false)) (subst (Rises (flow_form program (map-Stmt _ Stmt (λ z. z.0) y) false)) (sym (is true)) h)) s

  -- ---- along what is still to run

  -- entered in this phase, no call of it comes too late
  abbrev pub Clean : Bool → Rest → Type 0
  Clean left [] = Unit {0}
  Clean left (q ∷ k) = ((flow program q.1 left).bad ≡ false) × Clean (flow program q.1 left).after k

  pub clean_less : (k : Rest) (l m : Bool) → (l ≡ true → m ≡ true) → Clean m k → Clean l k
  clean_less [] l m h e = tt
  clean_less (q ∷ k) l m h e =
      let r = any_rises (flow program q.1) (grows q.1) l m h in
      (false_from_ne_true (flow program q.1 l).bad (λ b. both_ways (flow program q.1 m).bad e.0 (r.0 b)), clean_less k (flow program q.1 l).after (flow program q.1 m).after r.1 e.1)

  clean_left : (k : Rest) → Clean true k → ahead_in program k ≡ true → ⊥
  clean_left [] c e = false≢true e
  clean_left (q ∷ k) c e = go (tells q.1 (ahead_in program k) e) (λ h d. clean_left k d h)
    where
      go : ((flow program q.1 true).bad ≡ true) ⊎ ((ahead_in program k ≡ true) × ((flow program q.1 true).after ≡ true)) → (ahead_in program k ≡ true → Clean true k → ⊥) → ⊥
      go (inl b) ih = both_ways (flow program q.1 true).bad c.0 b
      go (inr r) ih = ih r.0 (subst (λ (l : Bool). Clean l k) r.1 c.1)

  -- where the phase is left, nothing that stops left movers is ahead
  pub nothing_ahead : (k : Rest) → Clean true k → ahead_in program k ≡ false
  nothing_ahead k c = false_from_ne_true (ahead_in program k) (clean_left k c)

  pub clean_list : (ss : List Stmt) (at : ℕ) (k : Rest) (l : Bool) → (flow_list program ss l).bad ≡ false → Clean (flow_list program ss l).after k → Clean l (numbered at ss ++ k)
  clean_list [] at k l b c = c
  clean_list (s ∷ ss) at k l b c =
      let is = list_flow program s ss l in
      let n = or_parts (flow program s l).bad (flow_list program ss (flow program s l).after).bad (sym (ap (λ (x : Flow program). x.bad) is) ∙ b) in
      (n.0, clean_list ss (at + size_of s) k (flow program s l).after n.1 (subst (λ (x : Flow program). Clean x.after k) is c))

  -- entered in some phase, none does
  abbrev pub IsClean : Rest → Type 0
  IsClean k = (l : Bool) × Clean l k

  -- ---- behind its first statement, and inside it

  -- what is clean, where the first statement has this form
  abbrev pub EntersClean : Stmt-F Stmt → ℕ → Stmt → Rest → Type 0
  EntersClean (Call f es rs) at s k = turns program f ≡ true → Clean true k
  EntersClean (If e a b) at s k = (m n : ℕ) → IsClean (numbered m a ++ k) × IsClean (numbered n b ++ k)
  EntersClean (While e a) at s k = (m : ℕ) → IsClean (numbered m a ++ (at, s) ∷ k)
  EntersClean (YieldLoop e i a) at s k = (m : ℕ) → IsClean (numbered m a ++ (at, s) ∷ k)
  EntersClean (RankLoop e r i a) at s k = (m : ℕ) → IsClean (numbered m a ++ (at, s) ∷ k)
  EntersClean _ at s k = Unit {0}

  -- behind a loop's body the loop is entered in a phase no further than its head's
  loop_less : (f : Flows program) (l : Bool) → (f (l || (f false).after)).after ≡ true → (l || (f false).after) ≡ true
  loop_less f true e = refl
  loop_less f false e = go ((f false).after) refl e
    where
      go : (h : Bool) → (f false).after ≡ h → (f h).after ≡ true → h ≡ true
      go true p q = refl
      go false p q = absurd (both_ways (f false).after p q)

  again : (l a : Bool) → ((l || a) || a) ≡ (l || a)
  again true a = refl
  again false true = refl
  again false false = refl

  loop_clean : (s : Stmt) (a : List Stmt) (at : ℕ) (k : Rest) (l : Bool) → ((x : Bool) → flow program s x ≡ flow_loop program (flow_list program a) (x || (flow_list program a false).after)) → Clean l ((at, s) ∷ k) → (m : ℕ) → IsClean (numbered m a ++ (at, s) ∷ k)
  loop_clean s a at k l is c m =
      let f = flow_list program a in
      let h = l || (f false).after in
      let bad : (f h).bad ≡ false = sym (ap (λ (x : Flow program). x.bad) (is l)) ∙ c.0 in
      let rest : Clean h k = subst (λ (x : Flow program). Clean x.after k) (is l) c.1 in
      let head : flow program s h ≡ flow_loop program f h = is h ∙ ap (flow_loop program f) (again l (f false).after) in
      let whole : Clean h ((at, s) ∷ k) = (ap (λ (x : Flow program). x.bad) head ∙ bad, subst (λ (x : Flow program). Clean x.after k) (sym head) rest) in
      (h, clean_list a m ((at, s) ∷ k) h bad (clean_less ((at, s) ∷ k) (f h).after h (loop_less f l) whole))

  pub enters_clean : (s : Stmt) (at : ℕ) (k : Rest) (l : Bool) → Clean l ((at, s) ∷ k) → (d : Stmt-F Stmt) → out-Stmt s ≡ d → EntersClean d at s k
  enters_clean s at k l c d o = go d (λ x. flow_is program s x ∙ ap (λ (y : Stmt-F Stmt). flow_form program y x) o)
    where
      go : (d : Stmt-F Stmt) → ((x : Bool) → flow program s x ≡ flow_form program d x) → EntersClean d at s k
      go (Call f es rs) is = λ t. subst (λ (x : Bool). Clean x k) (ap (λ (x : Flow program). x.after) (is l) ∙ or_right l (turns program f) t) c.1
      go (If e a b) is = λ m n.
          let fa = flow_list program a l in
          let fb = flow_list program b l in
          let bad = or_parts fa.bad fb.bad (sym (ap (λ (x : Flow program). x.bad) (is l)) ∙ c.0) in
          let rest : Clean (fa.after || fb.after) k = subst (λ (x : Flow program). Clean x.after k) (is l) c.1 in (
            (l, clean_list a m k l bad.0 (clean_less k fa.after (fa.after || fb.after) (λ t. or_left fa.after fb.after t) rest)),
            (l, clean_list b n k l bad.1 (clean_less k fb.after (fa.after || fb.after) (λ t. or_right fa.after fb.after t) rest)),
          )
      go (While e a) is = loop_clean s a at k l is c
      go (RankLoop e r i a) is = loop_clean s a at k l is c
      go (YieldLoop e i a) is = λ m.
          let f = flow_list program a in
          let bad : (f false).bad ≡ false = sym (ap (λ (x : Flow program). x.bad) (is l)) ∙ c.0 in
          let rest : Clean false k = subst (λ (x : Flow program). Clean x.after k) (is l) c.1 in
          let x = (f false).after in
          (false, clean_list a m ((at, s) ∷ k) false bad (ap (λ (y : Flow program). y.bad) (is x) ∙ bad, subst (λ (y : Flow program). Clean y.after k) (sym (is x)) rest))
      go _ is = tt

  -- ---- what is ahead, behind the first statement and inside it

  ahead_joined : (ss : List Stmt) (at : ℕ) (k : Rest) → ahead_in program (numbered at ss ++ k) ≡ ahead_list program ss (ahead_in program k)
  ahead_joined [] at k = refl
  ahead_joined (s ∷ ss) at k = ap (ahead program s) (ahead_joined ss (at + size_of s) k)

  -- where nothing that stops left movers is ahead, the call is of a left mover, and nothing is ahead behind the statement
  abbrev pub StaysLate : Stmt-F Stmt → ℕ → Stmt → Rest → Type 0
  StaysLate (Call f es rs) at s k = (stops program f ≡ false) × (ahead_in program k ≡ false)
  StaysLate (If e a b) at s k = (m n : ℕ) → (ahead_in program (numbered m a ++ k) ≡ false) × (ahead_in program (numbered n b ++ k) ≡ false)
  StaysLate (While e a) at s k = (m : ℕ) → (ahead_in program (numbered m a ++ (at, s) ∷ k) ≡ false) × (ahead_in program k ≡ false)
  StaysLate (RankLoop e r i a) at s k = (m : ℕ) → (ahead_in program (numbered m a ++ (at, s) ∷ k) ≡ false) × (ahead_in program k ≡ false)
  StaysLate (YieldLoop e i a) at s k = Unit {0}
  StaysLate (Yield i) at s k = Unit {0}
  StaysLate _ at s k = ahead_in program k ≡ false

  loop_late : (s : Stmt) (a : List Stmt) (at : ℕ) (k : Rest) → ahead program s (ahead_in program k) ≡ (ahead_list program a false || ahead_in program k) → ahead_in program ((at, s) ∷ k) ≡ false → (m : ℕ) → (ahead_in program (numbered m a ++ (at, s) ∷ k) ≡ false) × (ahead_in program k ≡ false)
  loop_late s a at k is e m =
      let n = or_parts (ahead_list program a false) (ahead_in program k) (sym is ∙ e) in
      (ahead_joined a m ((at, s) ∷ k) ∙ (ap (ahead_list program a) e ∙ n.0), n.1)

  pub stays_late : (s : Stmt) (at : ℕ) (k : Rest) → ahead_in program ((at, s) ∷ k) ≡ false → (d : Stmt-F Stmt) → out-Stmt s ≡ d → StaysLate d at s k
  stays_late s at k e d o = go d (ahead_is program s (ahead_in program k) ∙ ap (λ (y : Stmt-F Stmt). ahead_form program y (ahead_in program k)) o)
    where
      go : (d : Stmt-F Stmt) → ahead program s (ahead_in program k) ≡ ahead_form program d (ahead_in program k) → StaysLate d at s k
      go (Call f es rs) is = or_parts (stops program f) (ahead_in program k) (sym is ∙ e)
      go (If x a b) is = λ m n.
          let r = or_parts (ahead_list program a (ahead_in program k)) (ahead_list program b (ahead_in program k)) (sym is ∙ e) in
          (ahead_joined a m k ∙ r.0, ahead_joined b n k ∙ r.1)
      go (While x a) is = loop_late s a at k is e
      go (RankLoop x r i a) is = loop_late s a at k is e
      go (YieldLoop x i a) is = tt
      go (Yield i) is = tt
      go _ is = sym is ∙ e
