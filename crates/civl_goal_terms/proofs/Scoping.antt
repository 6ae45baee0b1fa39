-- An expression whose names are in a scope has its sort there in a larger scope too; the globals of the topmost program are a part of
-- all globals.
use Rattle.std.specs.Prelude.{slice_get, filter, is_some, if◌then◌else◌}
use Rattle.std.specs.List.{list_any}
use Rattle.std.proofs.Common.{◌≡◌, ◌∙◌, ℕ, suc, Bool, true, false, ◌&&◌, List, [], ◌∷◌, ◌++◌, refl, sym, ap, ap₂, subst, arith, Option, Some, None, inl, inr}
use Rattle.std.proofs.lemmas.Bool.{false≢true, true≢false, and_parts, or_parts}
use Rattle.std.proofs.lemmas.Option.{none-some}
use Rattle.std.proofs.lemmas.Slice.Eq.{bytes_eq-Decides}
use Rattle.civl_tree.specs.declared.name.Name.{Name}
use Rattle.civl_tree.specs.declared.expr.Sort.{Sort}
use Rattle.civl_tree.specs.declared.expr.Expr.{Expr, roll-Expr, map-Expr}
use Rattle.civl_tree.specs.declared.expr.Expr.TheFolds.{fold-roll-Expr, ind-Expr}
use Rattle.civl_tree.specs.declared.expr.Expr.TheOpen as expr
use Rattle.civl_tree.specs.declared.program.Global.{Global}
use Rattle.civl_tree.specs.declared.program.Proc.{Proc}
use Rattle.civl_tree.specs.declared.program.Program.{Program}
use Rattle.civl_tree.specs.rules.Names.{same_name, has_name, any_twice, names_in_proc, global_names}
use Rattle.civl_tree.specs.rules.Twice.{declared_twice}
use Rattle.civl_tree.specs.rules.Scopes.{Scope, sort_in, bind_globals, bind_proc}
use Rattle.civl_tree.specs.rules.Sorts.{sort_of, sort_step, one_sort, two_sort, pick_sort, get_sort, set_sort, fill_sort, slice_sort, widen_sort, join_sort}
use Rattle.civl_tree.specs.rules.Exprs.{names_known, known_step, widths_fit, slice_in_range, widen_in_range, join_in_range}
use Rattle.civl_tree.specs.rules.Rules.{Keeps}
use Rattle.civl_tree.specs.rules.Typing.{typing_rules, twice_rule}
use Rattle.civl_tree.proofs.Kept.{proc_kept, twice_among}
use Rattle.civl_tree.proofs.Layers.{width_layer}
use Rattle.civl_tree.proofs.Distinct.{Distinct, distinct}
use Rattle.civl_meaning.proofs.Bindings.{Declared, names_of, names_bound, proc_names, in_front, in_back, in_either, no_global}
use Rattle.civl_actions.proofs.Typing.{sort_layer, widths_layer}

-- ---- a larger scope

module _ (small big : Scope) (names : (n : Name) (s : Sort) → sort_in small.names n ≡ Some s → sort_in big.names n ≡ Some s) (olds : (n : Name) → is_some (sort_in small.olds n) ≡ true → ⊥) where
  record Alike (e : Expr) : Type 0 where
    pub sort : sort_of small e ≡ sort_of big e
    pub widths : widths_fit small e ≡ widths_fit big e

  record LayersAlike (x : expr.Expr-F Expr) : Type 0 where
    pub sort : sort_step small (map-Expr Expr (Option Sort) (sort_of small) x) ≡ sort_step big (map-Expr Expr (Option Sort) (sort_of big) x)
    pub widths : width_layer small x ≡ width_layer big x

  abbrev IsAlike : Expr → Type 0
  IsAlike e = names_known small e ≡ true → Alike e

  abbrev and : Bool → Bool → Bool
  and a b = a && b

  name_alike : (n : Name) → is_some (sort_in small.names n) ≡ true → sort_in small.names n ≡ sort_in big.names n
  name_alike n h = by (sort_in small.names n) refl h
    where
      by : (o : Option Sort) → sort_in small.names n ≡ o → is_some o ≡ true → sort_in small.names n ≡ sort_in big.names n
      by None e h = absurd (false≢true h)
      by (Some s) e h = e ∙ sym (names n s e)

  form_alike : {A : Type 0} (y : expr.Expr-F A) (v : A → Expr) (h : (x : A) → IsAlike (v x)) → known_step small (map-Expr Expr Bool (names_known small) (map-Expr A Expr v y)) ≡ true → LayersAlike (map-Expr A Expr v y)
  form_alike (expr.Old n) v h p = absurd (olds n p)
  form_alike (expr.Name n) v h p = record { sort = name_alike n p; widths = refl }
  form_alike (expr.One op a) v h p =
      let i = h a p in
      record { sort = ap (one_sort op) i.sort; widths = i.widths }
  form_alike (expr.Two op a b) v h p =
      let o = and_parts (names_known small (v a)) (names_known small (v b)) p in
      let i = h a o.0 in
      let j = h b o.1 in
      record { sort = ap₂ (two_sort op) i.sort j.sort; widths = ap₂ and i.widths j.widths }
  form_alike (expr.Pick c a b) v h p =
      let o = and_parts (names_known small (v c)) (names_known small (v a) && names_known small (v b)) p in
      let q = and_parts (names_known small (v a)) (names_known small (v b)) o.1 in
      let i = h c o.0 in
      let j = h a q.0 in
      let k = h b q.1 in
      record {
        sort = ap (λ (s : Option Sort). pick_sort s (sort_of small (v a)) (sort_of small (v b))) i.sort ∙ ap₂ (pick_sort (sort_of big (v c))) j.sort k.sort;
        widths = ap₂ and i.widths (ap₂ and j.widths k.widths);
      }
  form_alike (expr.Get a b) v h p =
      let o = and_parts (names_known small (v a)) (names_known small (v b)) p in
      let i = h a o.0 in
      let j = h b o.1 in
      record { sort = ap₂ get_sort i.sort j.sort; widths = ap₂ and i.widths j.widths }
  form_alike (expr.Set c a b) v h p =
      let o = and_parts (names_known small (v c)) (names_known small (v a) && names_known small (v b)) p in
      let q = and_parts (names_known small (v a)) (names_known small (v b)) o.1 in
      let i = h c o.0 in
      let j = h a q.0 in
      let k = h b q.1 in
      record {
        sort = ap (λ (s : Option Sort). set_sort s (sort_of small (v a)) (sort_of small (v b))) i.sort ∙ ap₂ (set_sort (sort_of big (v c))) j.sort k.sort;
        widths = ap₂ and i.widths (ap₂ and j.widths k.widths);
      }
  form_alike (expr.Fill n a) v h p =
      let i = h a p in
      record { sort = ap (fill_sort n) i.sort; widths = i.widths }
  form_alike (expr.Slice a high low) v h p =
      let i = h a p in
      record { sort = ap (λ (s : Option Sort). slice_sort s high low) i.sort; widths = ap₂ and i.widths (ap (λ (s : Option Sort). slice_in_range s high low) i.sort) }
  form_alike (expr.Widen a w) v h p =
      let i = h a p in
      record { sort = ap (λ (s : Option Sort). widen_sort s w) i.sort; widths = ap₂ and i.widths (ap (λ (s : Option Sort). widen_in_range s w) i.sort) }
  form_alike (expr.Join a b) v h p =
      let o = and_parts (names_known small (v a)) (names_known small (v b)) p in
      let i = h a o.0 in
      let j = h b o.1 in
      record { sort = ap₂ join_sort i.sort j.sort; widths = ap₂ and i.widths (ap₂ and j.widths (ap₂ join_in_range i.sort j.sort)) }
  form_alike (expr.Literal n w) v h p = record { sort = refl; widths = refl }
  form_alike expr.True v h p = record { sort = refl; widths = refl }
  form_alike expr.False v h p = record { sort = refl; widths = refl }
  form_alike expr.Done v h p = record { sort = refl; widths = refl }
  form_alike expr.OldDone v h p = record { sort = refl; widths = refl }

  known : {A : Type 0} (x : expr.Expr-F Expr) (y : expr.Expr-F A) (v : A → Expr) → map-Expr A Expr v y ≡ x → names_known small (roll-Expr x) ≡ true → known_step small (map-Expr Expr Bool (names_known small) (map-Expr A Expr v y)) ≡ true
  known x y v q p = ap (λ (d : expr.Expr-F Expr). known_step small (map-Expr Expr Bool (names_known small) d)) q ∙ (sym (fold-roll-Expr Bool (known_step small) x) ∙ p)

  alike : (e : Expr) → IsAlike e
  alike e =
      ind-Expr IsAlike (λ x y q p.
      let l = subst LayersAlike q (form_alike y (λ z. z.0) (λ z. z.1) (known x y (λ z. z.0) q p)) in
      record {
        sort = sort_layer small x ∙ l.sort ∙ sym (sort_layer big x);
        widths = widths_layer small x ∙ l.widths ∙ sym (widths_layer big x);
      }) e

  pub sort_alike : (e : Expr) → names_known small e ≡ true → sort_of small e ≡ sort_of big e
  sort_alike e h = (alike e h).sort

  pub widths_alike : (e : Expr) → names_known small e ≡ true → widths_fit small e ≡ widths_fit big e
  widths_alike e h = (alike e h).widths

-- ---- some of the globals

-- two names that are the same as a third
same_then : (a b c : Name) → same_name a b ≡ true → same_name c b ≡ true → same_name a c ≡ true
same_then a b c h k = (bytes_eq-Decides a.bytes c.bytes).1 ((bytes_eq-Decides a.bytes b.bytes).0 h ∙ sym ((bytes_eq-Decides c.bytes b.bytes).0 k))

-- a name that one of these binds is that of a global
bound_there : (gs : List Global) (n : Name) (s : Sort) → sort_in (bind_globals gs) n ≡ Some s → (g : Global) × (j : ℕ) × (slice_get gs j ≡ Some g) × (same_name g.name n ≡ true)
bound_there [] n s e = absurd (none-some s e)
bound_there (g ∷ gs) n s e = go (same_name g.name n) refl e (bound_there gs n s)
  where
    go : (b : Bool) → same_name g.name n ≡ b → (if b then Some g.sort else sort_in (bind_globals gs) n) ≡ Some s → (sort_in (bind_globals gs) n ≡ Some s → (h : Global) × (j : ℕ) × (slice_get gs j ≡ Some h) × (same_name h.name n ≡ true)) → (h : Global) × (j : ℕ) × (slice_get (g ∷ gs) j ≡ Some h) × (same_name h.name n ≡ true)
    go true q h later = (g, 0, refl, q)
    go false q h later = let r = later h in (r.0, suc r.1, r.2, r.3)

module _ (test : Global → Bool) where
  some_in_all : (gs : List Global) → Distinct gs → (n : Name) (s : Sort) → sort_in (bind_globals (filter test gs)) n ≡ Some s → sort_in (bind_globals gs) n ≡ Some s
  some_in_all [] d n s e = e
  some_in_all (g ∷ gs) d n s e = by_test (test g) e (λ k. some_in_all gs (λ i j a b x y l. d (suc i) (suc j) a b x y (omega (arith, l))) n s k)
    where
      later_in : (sort_in (bind_globals gs) n ≡ Some s) → (b : Bool) → same_name g.name n ≡ b → (if b then Some g.sort else sort_in (bind_globals gs) n) ≡ Some s
      later_in h false q = h
      later_in h true q =
          let there = bound_there gs n s h in
          absurd (true≢false (sym (same_then there.0.name n g.name there.3 q) ∙ d 0 (suc there.1) g there.0 refl there.2 (omega arith)))

      by_name : (b : Bool) → (if b then Some g.sort else sort_in (bind_globals (filter test gs)) n) ≡ Some s → (sort_in (bind_globals (filter test gs)) n ≡ Some s → sort_in (bind_globals gs) n ≡ Some s) → (if b then Some g.sort else sort_in (bind_globals gs) n) ≡ Some s
      by_name true h later = h
      by_name false h later = later h

      by_test : (b : Bool) → sort_in (bind_globals (if b then g ∷ filter test gs else filter test gs)) n ≡ Some s → (sort_in (bind_globals (filter test gs)) n ≡ Some s → sort_in (bind_globals gs) n ≡ Some s) → sort_in (bind_globals (g ∷ gs)) n ≡ Some s
      by_test true h later = by_name (same_name g.name n) h later
      by_test false h later = later_in (later h) (same_name g.name n) refl

-- a procedure's names are new and stand once
proc_declares : (program : Program) → Keeps typing_rules program → (r : ℕ) (proc : Proc) → slice_get program.procs r ≡ Some proc → Declared (bind_globals program.globals) (bind_proc proc)
proc_declares program keeps r proc at =
    let t = (or_parts _ (declared_twice program (names_in_proc proc)) (proc_kept typing_rules program keeps twice_rule twice_among r proc at)).1 in
    let p = or_parts (any_twice (names_in_proc proc)) (list_any (has_name (global_names program.globals)) (names_in_proc proc)) t in
    let globals = names_bound (λ (g : Global). g.name) (λ (g : Global). g.sort) program.globals in
    record {
      own = ap any_twice (proc_names proc) ∙ p.0;
      new = ap (λ (ns : List Name). list_any (has_name ns) (names_of (bind_proc proc))) globals ∙ ap (list_any (has_name (global_names program.globals))) (proc_names proc) ∙ p.1;
    }

module _ (program : Program) (keeps : Keeps typing_rules program) (test : Global → Bool) where
  pub globals_larger : (n : Name) (s : Sort) → sort_in (bind_globals (filter test program.globals)) n ≡ Some s → sort_in (bind_globals program.globals) n ≡ Some s
  globals_larger n s e = some_in_all test program.globals (distinct program keeps) n s e

  pub names_larger : (r : ℕ) (proc : Proc) → slice_get program.procs r ≡ Some proc → (n : Name) (s : Sort) → sort_in (bind_globals (filter test program.globals) ++ bind_proc proc) n ≡ Some s → sort_in (bind_globals program.globals ++ bind_proc proc) n ≡ Some s
  names_larger r proc at n s e =
      elim (in_either (bind_globals (filter test program.globals)) (bind_proc proc) n s e) [
        | inl q ↦ in_front (bind_globals program.globals) (bind_proc proc) n s (globals_larger n s q)
        | inr q ↦ in_back (bind_globals program.globals) (bind_proc proc) n (no_global (bind_globals program.globals) (bind_proc proc) n s (proc_declares program keeps r proc at) q.1) ∙ q.1
      ]
