-- Paths see what their statements see: in two states that agree on the globals that these use they come to states that agree.
use Rattle.std.proofs.Common.{◌≡◌, ℕ, ◌+◌, Bool, true, false, ◌||◌, List, [], ◌∷◌, ◌++◌, map, refl, sym, ap, ◌∙◌, subst, append-nil}
use Rattle.std.specs.Prelude.{if◌then◌else◌}
use Rattle.std.proofs.lemmas.Bool.{true≢false, false≢true}
use Rattle.civl_bits.specs.declared.value.Value.{Value}
use Rattle.civl_tree.specs.declared.name.Name.{Name}
use Rattle.civl_tree.specs.declared.expr.Expr.{Expr}
use Rattle.civl_tree.specs.declared.program.Global.{Global}
use Rattle.civl_tree.specs.declared.stmt.Stmt.{Stmt, out-Stmt, roll-Stmt, out-roll-Stmt, map-Stmt}
use Rattle.civl_tree.specs.declared.stmt.Stmt.TheOpen as stmt
use Rattle.civl_tree.specs.declared.stmt.Stmt.TheFolds.{ind-Stmt}
use Rattle.civl_tree.specs.Numbering.{size_of, sizes_of, numbered, inner_of, statements_of}
use Rattle.civl_tree.specs.rules.Names.{global_names, names_in_proc}
use Rattle.civl_tree.proofs.Preorder.{inner_layer, inner_is}
use Rattle.civl_firing.specs.Truth.{place_of}
use Rattle.civl_firing.specs.Eval.{value_of}
use Rattle.civl_meaning.specs.declared.config.Stepped.TheVariants as answer
use Rattle.civl_meaning.specs.declared.config.Change.{Change}
use Rattle.civl_meaning.specs.declared.config.Change.TheVariants.{Stays, Goes, Acts, Enters, Leaves, Spawns}
use Rattle.civl_meaning.specs.Rest.{Rest, rest_at}
use Rattle.civl_meaning.specs.Change.{done_by, statement_doing}
use Rattle.civl_layers.specs.declared.cut.Cut.{Cut}
use Rattle.civl_layers.specs.declared.cut.CutKind.{CutKind}
use Rattle.civl_layers.specs.declared.cut.CutKind.TheVariants as kind
use Rattle.civl_layers.specs.Names.{uses}
use Rattle.civl_conditions.specs.footprints.Agreement.{names_other}
use Rattle.civl_conditions.proofs.footprints.Acting.{present_agree, set_agrees}
use Rattle.civl_conditions.proofs.footprints.Seeing.{one_value_in}
use Rattle.civl_conditions.specs.paths.NoteValues.{plain_note_values}
use Rattle.civl_conditions.specs.paths.Paths.{Course, Progress, Outcome, Past, Comes, Fails, Stops, after, came, stepped, tested, introduced, pass, pass_all, from_loop, from_layer, from_rest, from_kind, path_from}
use Rattle.civl_conditions.specs.paths.Seen.{StatesAgree, OutcomesAgree, ChangesAgree}
use Rattle.civl_conditions.proofs.paths.Passing.{pass_layer, pass_is, pass_none, pass_more}
use Rattle.civl_conditions.proofs.paths.Each.{Each, EachIn, each_first, each_others, each_branch, each_else, each_of_layer, each_own, each_numbered, rest_each}
use Rattle.civl_conditions.proofs.paths.Seeing.{CallSeen, FormSeen, step_alike}

module _ (test : Global → Bool) (c : Course) where
  abbrev gs : List Global
  gs = c.plain.program.globals

  abbrev pub Agree : Progress → Progress → Type 0
  Agree p q = StatesAgree test gs p q

  abbrev pub Alike : Outcome → Outcome → Type 0
  Alike o u = OutcomesAgree test gs o u

  alike_by : (o u x y : Outcome) → x ≡ o → y ≡ u → Alike x y → Alike o u
  alike_by o u x y e f h = subst (λ (o : Outcome). Alike o u) e (subst (Alike x) f h)

  after_alike : (o u : Outcome) (f g : Progress → Outcome) → Alike o u → ((p q : Progress) → Agree p q → Alike (f p) (g q)) → Alike (after o f) (after u g)
  after_alike (Past p) (Past q) f g h later = later p q h
  after_alike (Comes m p) (Comes n q) f g h later = h
  after_alike (Fails p) (Fails q) f g h later = h
  after_alike (Stops p) (Stops q) f g h later = h
  after_alike _ _ f g h later = absurd h

  -- ---- one statement

  came_same : (p q : Progress) → Agree p q → (a : Change) → ChangesAgree test gs a a → Alike (came p a) (came q a)
  came_same p q h (Goes locals place) k = record { stores = h.stores; locals = refl; done = h.done; again = h.again }
  came_same p q h (Acts store locals place) k = record { stores = k.0; locals = refl; done = h.done; again = h.again }
  came_same p q h (Stays answer.Failing) k = h
  came_same p q h (Stays answer.Moved) k = h
  came_same p q h (Stays answer.Blocked) k = h
  came_same p q h (Stays answer.NoThread) k = h
  came_same p q h (Stays answer.Ended) k = h
  came_same p q h (Stays answer.BadChoices) k = h
  came_same p q h (Enters frame place) k = h
  came_same p q h (Leaves frame) k = h
  came_same p q h (Spawns thread place) k = h

  came_alike : (p q : Progress) → Agree p q → (a b : Change) → ChangesAgree test gs a b → Alike (came p a) (came q b)
  came_alike p q h (Acts s locals place) (Acts t others next) k = record { stores = k.0; locals = k.1; done = h.done; again = h.again }
  came_alike p q h (Acts s locals place) _ k = absurd k
  came_alike p q h _ (Acts t others next) k = absurd k
  came_alike p q h a b k = subst (λ (x : Change). Alike (came p a) (came q x)) k (came_same p q h a refl)

  stepped_alike : (d : stmt.Stmt-F Stmt) → CallSeen test c.plain d → (at : ℕ) (p q : Progress) → Agree p q → Alike (stepped c d at p) (stepped c d at q)
  stepped_alike d seen at p q h =
      came_alike p q h _ _
      (subst (λ (l : List Value). ChangesAgree test gs (done_by c.plain p.store (c.chosen at) (statement_doing c.plain c.proc p.locals at (at + 1) d)) (done_by c.plain q.store (c.chosen at) (statement_doing c.plain c.proc l at (at + 1) d))) h.locals
      (step_alike test c.plain p.store q.store h.stores (c.chosen at) c.proc p.locals at (at + 1) d seen))

  introduced_alike : (x : Name) (e : Expr) → uses (names_other test gs) e ≡ false → (p q : Progress) → Agree p q → Agree (introduced c x e p) (introduced c x e q)
  introduced_alike x e none p q h =
      let scopes = present_agree test gs p.store.values q.store.values (names_in_proc c.proc) p.locals h.stores in
      let first = one_value_in (names_other test gs) (plain_note_values gs c.proc p.store p.locals) (plain_note_values gs c.proc q.store p.locals) scopes e none in
      let same = first ∙ ap (λ (l : List Value). value_of (plain_note_values gs c.proc q.store l) e) h.locals in
      record { stores = set_agrees test gs p.store.values q.store.values (place_of (global_names gs) x) _ _ same h.stores; locals = h.locals; done = h.done; again = h.again }

  tested_same : (e : Expr) (p q : Progress) → Agree p q → tested c e p ≡ tested c e q
  tested_same e p q h = ap (λ (l : List Value). tested c e (record { store = p.store; locals = l; done = p.done; again = p.again })) h.locals

  by_test : (b d : Bool) → b ≡ d → (o u x y : Outcome) → Alike o u → Alike x y → Alike (if b then o else x) (if d then u else y)
  by_test true true e o u x y h k = h
  by_test true false e o u x y h k = absurd (true≢false e)
  by_test false true e o u x y h k = absurd (false≢true e)
  by_test false false e o u x y h k = k

  -- ---- statements

  abbrev pub Seen : ℕ → Stmt → Type 0
  Seen number s = FormSeen test c.plain (out-Stmt s)

  abbrev Passes : Stmt → Type 0
  Passes s = (at : ℕ) → Each Seen at (s ∷ inner_of s) → (p q : Progress) → Agree p q → Alike (pass c s at p) (pass c s at q)

  more_alike : (at : ℕ) (s : Stmt) (k : Rest) → ((p q : Progress) → Agree p q → Alike (pass c s at p) (pass c s at q)) → ((p q : Progress) → Agree p q → Alike (pass_all c k p) (pass_all c k q)) →
      (p q : Progress) → Agree p q → Alike (pass_all c ((at, s) ∷ k) p) (pass_all c ((at, s) ∷ k) q)
  more_alike at s k one others p q h =
      alike_by _ _ _ _ (sym (pass_more c at s k p)) (sym (pass_more c at s k q)) (after_alike _ _ (pass_all c k) (pass_all c k) (one p q h) others)

  none_alike : (p q : Progress) → Agree p q → Alike (pass_all c [] p) (pass_all c [] q)
  none_alike p q h = alike_by _ _ (Past p) (Past q) (sym (pass_none c p)) (sym (pass_none c q)) h

  all_pass : {S : Type 0} (ys : List S) (v : S → Stmt) → ((x : S) → Passes (v x)) → (at : ℕ) → Each Seen at (statements_of (map v ys)) → (p q : Progress) → Agree p q →
      Alike (pass_all c (numbered at (map v ys)) p) (pass_all c (numbered at (map v ys)) q)
  all_pass [] v f at h p q a = none_alike p q a
  all_pass (y ∷ ys) v f at h p q a =
      let s = v y in
      let ss = map v ys in
      more_alike at s (numbered (at + size_of s) ss) (f y at (each_first Seen at s ss h)) (all_pass ys v f (at + size_of s) (each_others Seen at s ss h)) p q a

  layer_passes : {S : Type 0} (d : stmt.Stmt-F S) (v : S → Stmt) → ((x : S) → Passes (v x)) → (at : ℕ) → FormSeen test c.plain (map-Stmt S Stmt v d) → Each Seen (at + 1) (inner_layer (map-Stmt S Stmt v d)) → (p q : Progress) → Agree p q →
      Alike (pass_layer c (map-Stmt S Stmt v d) at p) (pass_layer c (map-Stmt S Stmt v d) at q)
  layer_passes (stmt.Assign x e) v f at own h p q a = stepped_alike (stmt.Assign x e) tt at p q a
  layer_passes (stmt.Assert e) v f at own h p q a = stepped_alike (stmt.Assert e) tt at p q a
  layer_passes (stmt.If e x y) v f at own h p q a =
      by_test (tested c e p) (tested c e q) (tested_same e p q a) _ _ _ _
      (all_pass x v f (at + 1) (each_branch Seen at (map v x) (map v y) h) p q a)
      (all_pass y v f (at + 1 + sizes_of (map v x)) (each_else Seen at (map v x) (map v y) h) p q a)
  layer_passes (stmt.While e x) v f at own h p q a = a
  layer_passes (stmt.YieldLoop e i x) v f at own h p q a = (refl, a)
  layer_passes (stmt.RankLoop e r i x) v f at own h p q a = (refl, a)
  layer_passes (stmt.Call g es rs) v f at own h p q a = stepped_alike (stmt.Call g es rs) own at p q a
  layer_passes (stmt.Yield i) v f at own h p q a = (refl, a)
  layer_passes stmt.Commit v f at own h p q a = record { stores = a.stores; locals = a.locals; done = refl; again = ap (λ (b : Bool). b || p.done) a.again ∙ ap (λ (b : Bool). q.again || b) a.done }
  layer_passes (stmt.Intro x e) v f at own h p q a = introduced_alike x e own p q a
  layer_passes (stmt.Spawn g es) v f at own h p q a = a

  passes : (s : Stmt) → Passes s
  passes s =
      ind-Stmt Passes (λ x y e at h p q a.
      let r = roll-Stmt x in
      let d = out-roll-Stmt x ∙ sym e in
      let own = subst (FormSeen test c.plain) d (each_own Seen at r h) in
      let inside = each_of_layer Seen at r _ (inner_is r ∙ ap inner_layer d) h in
      alike_by _ _ _ _
      (sym (pass_is c r at p ∙ ap (λ (d : stmt.Stmt-F Stmt). pass_layer c d at p) d))
      (sym (pass_is c r at q ∙ ap (λ (d : stmt.Stmt-F Stmt). pass_layer c d at q) d))
      (layer_passes y (λ z. z.0) (λ z. z.1) at own inside p q a)) s

  -- a rest all of whose statements see such globals alone
  pub rest_alike : (k : Rest) → EachIn Seen k → (p q : Progress) → Agree p q → Alike (pass_all c k p) (pass_all c k q)
  rest_alike [] h p q a = none_alike p q a
  rest_alike (r ∷ k) h p q a = more_alike r.0 r.1 k (passes r.1 r.0 h.0) (rest_alike k h.1) p q a

  -- ---- from a cut

  loop_alike : (e : Expr) (ss : List Stmt) (r : ℕ × Stmt) (k : Rest) → Each Seen (r.0 + 1) (statements_of ss) → EachIn Seen (r ∷ k) → (p q : Progress) → Agree p q → Alike (from_loop c e ss (r ∷ k) p) (from_loop c e ss (r ∷ k) q)
  loop_alike e ss r k h each p q a =
      by_test (tested c e p) (tested c e q) (tested_same e p q a) _ _ _ _
      (rest_alike (numbered (r.0 + 1) ss ++ r ∷ k) (each_numbered Seen ss (r.0 + 1) (r ∷ k) h each) p q a) (rest_alike k each.1 p q a)

  layer_alike : (d : stmt.Stmt-F Stmt) (r : ℕ × Stmt) (k : Rest) → Each Seen (r.0 + 1) (inner_layer d) → EachIn Seen (r ∷ k) → (p q : Progress) → Agree p q → Alike (from_layer c d (r ∷ k) p) (from_layer c d (r ∷ k) q)
  unfolding from_layer
  layer_alike (stmt.YieldLoop e i ss) r k h each p q a = loop_alike e ss r k h each p q a
  layer_alike (stmt.RankLoop e n i ss) r k h each p q a = loop_alike e ss r k h each p q a
  layer_alike _ r k h each p q a = rest_alike k each.1 p q a

  from_rest_alike : (k : Rest) → EachIn Seen k → (p q : Progress) → Agree p q → Alike (from_rest c k p) (from_rest c k q)
  from_rest_alike [] each p q a = a
  from_rest_alike (r ∷ k) each p q a = layer_alike (out-Stmt r.1) r k (each_of_layer Seen r.0 r.1 (out-Stmt r.1) (inner_is r.1) each.0) each p q a

  kind_alike : (kind : CutKind) (number : ℕ) → Each Seen 0 (statements_of c.proc.body) → (p q : Progress) → Agree p q → Alike (from_kind c number kind p) (from_kind c number kind q)
  kind_alike kind.Entry number h p q a =
      let whole = subst (EachIn Seen) (append-nil (numbered 0 c.proc.body)) (each_numbered Seen c.proc.body 0 [] h tt) in
      rest_alike (numbered 0 c.proc.body) whole p q a
  kind_alike kind.Yield number h p q a = from_rest_alike (rest_at c.proc.body number) (rest_each Seen c.proc.body number h) p q a
  kind_alike kind.YieldLoop number h p q a = from_rest_alike (rest_at c.proc.body number) (rest_each Seen c.proc.body number h) p q a
  kind_alike kind.RankLoop number h p q a = from_rest_alike (rest_at c.proc.body number) (rest_each Seen c.proc.body number h) p q a

  -- all statements of the body see such globals alone
  pub path_alike : Each Seen 0 (statements_of c.proc.body) → (cut : Cut) (p q : Progress) → Agree p q → Alike (path_from c cut p) (path_from c cut q)
  unfolding path_from
  path_alike h cut p q a = kind_alike cut.kind cut.statement h p q a
