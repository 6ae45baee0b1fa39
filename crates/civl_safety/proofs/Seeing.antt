-- What an outline says sees the globals of the topmost program alone.
use Rattle.std.proofs.Common.{◌≡◌, ℕ, zero, suc, Bool, true, false, not, ◌||◌, ◌&&◌, List, [], ◌∷◌, ◌++◌, find, filter, Option, Some, None, refl, sym, ap, ◌∙◌, inl, inr, arith}
use Rattle.std.specs.Prelude.{slice_get, is_some, if◌then◌else◌}
use Rattle.std.proofs.lemmas.Bool.{or_from, and_parts, false≢true, true≢false}
use Rattle.std.proofs.lemmas.Option.{none-some}
use Rattle.std.proofs.lemmas.Slice.Eq.{bytes_eq-Decides}
use Rattle.civl_tree.specs.declared.name.Name.{Name}
use Rattle.civl_tree.specs.declared.expr.Expr.{Expr, map-Expr}
use Rattle.civl_tree.specs.declared.expr.Expr.TheOpen as expr
use Rattle.civl_tree.specs.declared.expr.Expr.TheFolds.{fold-roll-Expr, ind-Expr}
use Rattle.civl_tree.specs.declared.expr.Sort.{Sort}
use Rattle.civl_tree.specs.declared.program.Global.{Global}
use Rattle.civl_tree.specs.declared.program.Proc.{Proc}
use Rattle.civl_tree.specs.declared.program.Program.{Program}
use Rattle.civl_tree.specs.rules.Names.{same_name}
use Rattle.civl_tree.specs.rules.Scopes.{Scope, sort_in, bind_globals, bind_proc}
use Rattle.civl_tree.specs.rules.Exprs.{names_known, known_step}
use Rattle.civl_tree.specs.rules.Rules.{Keeps}
use Rattle.civl_tree.specs.rules.Typing.{typing_rules}
use Rattle.civl_tree.proofs.Naming.{same_name_sym}
use Rattle.civl_tree.proofs.Distinct.{Distinct, distinct}
use Rattle.civl_meaning.proofs.Bindings.{in_either, no_global}
use Rattle.civl_layers.specs.Names.{uses, use_step}
use Rattle.civl_conditions.specs.footprints.Agreement.{fails_test, names_other}
use Rattle.civl_soundness.proofs.Scopes.{proc_declares}

-- ---- names that are in scope

module _ (scope : Scope) (others : Name → Bool) (names : (n : Name) → is_some (sort_in scope.names n) ≡ true → others n ≡ false) (olds : (n : Name) → is_some (sort_in scope.olds n) ≡ true → others n ≡ false) where
  abbrev Seen : Expr → Type 0
  Seen e = names_known scope e ≡ true → uses others e ≡ false

  both_seen : {A : Type 0} (a b : A) (v : A → Expr) (h : (x : A) → Seen (v x)) → (names_known scope (v a) && names_known scope (v b)) ≡ true → (uses others (v a) || uses others (v b)) ≡ false
  both_seen a b v h p =
      let q = and_parts (names_known scope (v a)) (names_known scope (v b)) p in
      or_from (uses others (v a)) (uses others (v b)) (h a q.0) (h b q.1)

  form_seen : {A : Type 0} (y : expr.Expr-F A) (v : A → Expr) (h : (x : A) → Seen (v x)) → known_step scope (map-Expr Expr Bool (names_known scope) (map-Expr A Expr v y)) ≡ true →
      use_step others (map-Expr Expr Bool (uses others) (map-Expr A Expr v y)) ≡ false
  form_seen (expr.Name n) v h p = names n p
  form_seen (expr.Old n) v h p = olds n p
  form_seen (expr.One op a) v h p = h a p
  form_seen (expr.Two op a b) v h p = both_seen a b v h p
  form_seen (expr.Pick c a b) v h p =
      let q = and_parts (names_known scope (v c)) (names_known scope (v a) && names_known scope (v b)) p in
      or_from (uses others (v c)) (uses others (v a) || uses others (v b)) (h c q.0) (both_seen a b v h q.1)
  form_seen (expr.Get a b) v h p = both_seen a b v h p
  form_seen (expr.Set c a b) v h p =
      let q = and_parts (names_known scope (v c)) (names_known scope (v a) && names_known scope (v b)) p in
      or_from (uses others (v c)) (uses others (v a) || uses others (v b)) (h c q.0) (both_seen a b v h q.1)
  form_seen (expr.Fill i a) v h p = h a p
  form_seen (expr.Slice a i j) v h p = h a p
  form_seen (expr.Widen a w) v h p = h a p
  form_seen (expr.Join a b) v h p = both_seen a b v h p
  form_seen _ v h p = refl

  pub known_seen : (e : Expr) → names_known scope e ≡ true → uses others e ≡ false
  known_seen e =
      ind-Expr Seen (λ x y q p.
      fold-roll-Expr Bool (use_step others) x
      ∙ ap (λ (d : expr.Expr-F Expr). use_step others (map-Expr Expr Bool (uses others) d)) (sym q)
      ∙ form_seen y (λ z. z.0) (λ z. z.1) (ap (λ (d : expr.Expr-F Expr). known_step scope (map-Expr Expr Bool (names_known scope) d)) q ∙ (sym (fold-roll-Expr Bool (known_step scope) x) ∙ p))) e

-- ---- the globals' names

-- two names that are the same as a third
same_then : (a b c : Name) → same_name a b ≡ true → same_name b c ≡ true → same_name a c ≡ true
same_then a b c h k = (bytes_eq-Decides a.bytes c.bytes).1 ((bytes_eq-Decides a.bytes b.bytes).0 h ∙ (bytes_eq-Decides b.bytes c.bytes).0 k)

-- a name that one of these binds is that of a global
bound_there : (gs : List Global) (n : Name) (s : Sort) → sort_in (bind_globals gs) n ≡ Some s → (g : Global) × (j : ℕ) × (slice_get gs j ≡ Some g) × (same_name g.name n ≡ true)
bound_there [] n s e = absurd (none-some s e)
bound_there (g ∷ gs) n s e = go (same_name g.name n) refl e (bound_there gs n s)
  where
    go : (b : Bool) → same_name g.name n ≡ b → (if b then Some g.sort else sort_in (bind_globals gs) n) ≡ Some s → (sort_in (bind_globals gs) n ≡ Some s → (h : Global) × (j : ℕ) × (slice_get gs j ≡ Some h) × (same_name h.name n ≡ true)) → (h : Global) × (j : ℕ) × (slice_get (g ∷ gs) j ≡ Some h) × (same_name h.name n ≡ true)
    go true q h later = (g, 0, refl, q)
    go false q h later = let r = later h in (r.0, suc r.1, r.2, r.3)

filtered_there : (test : Global → Bool) (gs : List Global) (j : ℕ) (g : Global) → slice_get (filter test gs) j ≡ Some g → (k : ℕ) × (slice_get gs k ≡ Some g)
filtered_there test [] j g e = absurd (none-some g e)
filtered_there test (x ∷ xs) j g e = go (test x) j e (λ k. filtered_there test xs k g)
  where
    go : (b : Bool) (k : ℕ) → slice_get (if b then x ∷ filter test xs else filter test xs) k ≡ Some g → ((n : ℕ) → slice_get (filter test xs) n ≡ Some g → (m : ℕ) × (slice_get xs m ≡ Some g)) → (m : ℕ) × (slice_get (x ∷ xs) m ≡ Some g)
    go true zero h later = (0, h)
    go true (suc k) h later = let r = later k h in (suc r.0, r.1)
    go false k h later = let r = later k h in (suc r.0, r.1)

module _ (test : Global → Bool) where
  others_first : (g : Global) (gs : List Global) (n : Name) (b : Bool) → same_name n g.name ≡ b → names_other test (g ∷ gs) n ≡ fails_test test (if b then Some g else find (λ h. same_name n h.name) gs)
  others_first g gs n b e = ap (λ (c : Bool). fails_test test (if c then Some g else find (λ h. same_name n h.name) gs)) e

  -- a name of a global that passes isn't that of one that doesn't
  passes_seen : (gs : List Global) → Distinct gs → (n : Name) (s : Sort) → sort_in (bind_globals (filter test gs)) n ≡ Some s → names_other test gs n ≡ false
  passes_seen [] d n s e = absurd (none-some s e)
  passes_seen (g ∷ gs) d n s e = by_test (test g) refl (λ k. passes_seen gs (λ i j a b x y l. d (suc i) (suc j) a b x y (omega (arith, l))) n s k) e
    where
      by_name : test g ≡ true → (b : Bool) → same_name g.name n ≡ b → (sort_in (bind_globals (filter test gs)) n ≡ Some s → names_other test gs n ≡ false) → (if b then Some g.sort else sort_in (bind_globals (filter test gs)) n) ≡ Some s → names_other test (g ∷ gs) n ≡ false
      by_name t true q later h = others_first g gs n true (same_name_sym n g.name ∙ q) ∙ ap not t
      by_name t false q later h = others_first g gs n false (same_name_sym n g.name ∙ q) ∙ later h

      by_test : (b : Bool) → test g ≡ b → (sort_in (bind_globals (filter test gs)) n ≡ Some s → names_other test gs n ≡ false) → sort_in (bind_globals (if b then g ∷ filter test gs else filter test gs)) n ≡ Some s → names_other test (g ∷ gs) n ≡ false
      by_test true t later h = by_name t (same_name g.name n) refl later h
      by_test false t later h =
          let there = bound_there (filter test gs) n s h in
          let here = filtered_there test gs there.1 there.0 there.2 in
          let apart : same_name there.0.name g.name ≡ false = d 0 (suc here.0) g there.0 refl here.1 (omega arith) in
          others_first g gs n false (by_bytes there.0 there.3 apart) ∙ later h
        where
          by_bytes : (h : Global) → same_name h.name n ≡ true → same_name h.name g.name ≡ false → same_name n g.name ≡ false
          by_bytes h one two = go (same_name n g.name) refl
            where
              go : (c : Bool) → same_name n g.name ≡ c → same_name n g.name ≡ false
              go false q = q
              go true q = absurd (true≢false (sym (same_then h.name n g.name one q) ∙ two))

  no_find : (gs : List Global) (n : Name) → sort_in (bind_globals gs) n ≡ None → names_other test gs n ≡ false
  no_find [] n e = refl
  no_find (g ∷ gs) n e = go (same_name g.name n) refl e (no_find gs n)
    where
      go : (b : Bool) → same_name g.name n ≡ b → (if b then Some g.sort else sort_in (bind_globals gs) n) ≡ None → (sort_in (bind_globals gs) n ≡ None → names_other test gs n ≡ false) → names_other test (g ∷ gs) n ≡ false
      go true q h later = absurd cc
      go false q h later = others_first g gs n false (same_name_sym n g.name ∙ q) ∙ later h

some_is : {A : Type 0} (o : Option A) → is_some o ≡ true → (x : A) × (o ≡ Some x)
some_is None e = absurd (false≢true e)
some_is (Some x) e = (x, refl)

-- ---- what is said of the globals that pass, and of a procedure's names

module _ (program : Program) (keeps : Keeps typing_rules program) (test : Global → Bool) where
  none_olds : (n : Name) → is_some (sort_in [] n) ≡ true → names_other test program.globals n ≡ false
  none_olds n e = absurd (false≢true e)

  pub globals_seen : (e : Expr) → names_known (record { names = bind_globals (filter test program.globals); olds = [] }) e ≡ true → uses (names_other test program.globals) e ≡ false
  globals_seen e h =
      known_seen (record { names = bind_globals (filter test program.globals); olds = [] }) (names_other test program.globals)
      (λ n k. let s = some_is (sort_in (bind_globals (filter test program.globals)) n) k in passes_seen test program.globals (distinct program keeps) n s.0 s.1) none_olds e h

  pub note_seen : (r : ℕ) (proc : Proc) → slice_get program.procs r ≡ Some proc → (e : Expr) → names_known (record { names = bind_globals (filter test program.globals) ++ bind_proc proc; olds = [] }) e ≡ true → uses (names_other test program.globals) e ≡ false
  note_seen r proc at e h =
      known_seen (record { names = bind_globals (filter test program.globals) ++ bind_proc proc; olds = [] }) (names_other test program.globals)
      (λ n k.
      let s = some_is (sort_in (bind_globals (filter test program.globals) ++ bind_proc proc) n) k in
      elim (in_either (bind_globals (filter test program.globals)) (bind_proc proc) n s.0 s.1) [
        | inl q ↦ passes_seen test program.globals (distinct program keeps) n s.0 q
        | inr q ↦ no_find test program.globals n (no_global (bind_globals program.globals) (bind_proc proc) n s.0 (proc_declares program keeps r proc at) q.1)
      ]) none_olds e h
