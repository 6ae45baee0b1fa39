-- What is held is linear: a lend or take parameter, a give output or a linear local.
use Rattle.std.proofs.Common.{◌≡◌, ℕ, zero, suc, ◌+◌, Bool, true, false, not, ◌||◌, ◌&&◌, List, [], ◌∷◌, ◌++◌, map, refl, sym, ap, ◌∙◌, subst, None, Some, slice_get, inl, inr}
use Rattle.std.specs.Prelude.{Option, if◌then◌else◌}
use Rattle.std.proofs.lemmas.Bool.{false≢true, or_parts, not-false, or_left, or_right, or_cases}
use Rattle.std.proofs.lemmas.Option.{none-some}
use Rattle.civl_tree.specs.declared.name.Name.{Name}
use Rattle.civl_tree.specs.declared.expr.Expr.{Expr}
use Rattle.civl_tree.specs.declared.action.Param.{Param}
use Rattle.civl_tree.specs.declared.stmt.Stmt.{Stmt, roll-Stmt, out-roll-Stmt, map-Stmt}
use Rattle.civl_tree.specs.declared.stmt.Stmt.TheOpen.{Stmt-F, If, While, YieldLoop, RankLoop, Call, Spawn}
use Rattle.civl_tree.specs.declared.stmt.Stmt.TheFolds.{ind-Stmt}
use Rattle.civl_tree.specs.declared.program.Proc.{Proc}
use Rattle.civl_tree.specs.declared.program.Program.{Program}
use Rattle.civl_tree.specs.Numbering.{size_of, sizes_of, inner_of, statements_of}
use Rattle.civl_tree.specs.rules.Names.{Signature, same_name, has_name, param_names, names_in_proc, callee_signature, proc_named, proc_signature_of}
use Rattle.civl_tree.proofs.Preorder.{inner_layer, inner_is}
use Rattle.civl_tree.proofs.Naming.{same_is}
use Rattle.civl_linear.specs.Modes.{is_passed, is_given, is_taken, passed_names, given_names}
use Rattle.civl_linear.specs.Held.{Traced, traced, traced_all, holds, entry_held, without_names, call_held, spawn_held}
use Rattle.civl_linear.specs.Places.{passes_in, may_get, misgiven, any_misgiven, call_misgiven, form_assigned, stmt_assigned}
use Rattle.civl_linear.proofs.Examples.{traced_form, traced_is}
use Rattle.civl_conditions.proofs.paths.Each.{Each, each_first, each_others, each_branch, each_else, each_own, each_of_layer}
use Rattle.civl_reduction.proofs.permissions.Flags.{IsWithin, holds_within, both_first, without_within}
use Rattle.civl_reduction.proofs.permissions.Putting.{holds_with}

-- what may be held
abbrev pub may_hold : Proc → Name → Bool
may_hold proc name = passes_in proc.params name || may_get proc name

abbrev pub IsLinear : Proc → List Bool → Type 0
IsLinear proc f = (x : Name) → holds (names_in_proc proc) f x ≡ true → may_hold proc x ≡ true

pub linear_within : (proc : Proc) (f g : List Bool) → IsWithin f g → IsLinear proc g → IsLinear proc f
linear_within proc f g w h x e = h x (holds_within (names_in_proc proc) f g x w e)

-- ---- results

pub given_may : (proc : Proc) (outs : List Param) (results : List Name) (x : Name) → any_misgiven proc outs results ≡ false → has_name (given_names outs results) x ≡ true → may_get proc x ≡ true
given_may proc [] results x m h = absurd (false≢true h)
given_may proc (o ∷ outs) [] x m h = absurd (false≢true h)
given_may proc (o ∷ outs) (r ∷ rs) x m h = go (is_given o.mode) refl h (given_may proc outs rs x (or_parts (misgiven proc o.mode r) (any_misgiven proc outs rs) m).1)
  where
    go : (b : Bool) → is_given o.mode ≡ b → has_name ((if b then r ∷ [] else []) ++ given_names outs rs) x ≡ true → (has_name (given_names outs rs) x ≡ true → may_get proc x ≡ true) → may_get proc x ≡ true
    go false e k ih = ih k
    go true e k ih = elim (or_cases (same_name x r) (has_name (given_names outs rs) x) k) [
      | inl q ↦
          let gets = (or_parts _ _ (or_parts (misgiven proc o.mode r) (any_misgiven proc outs rs) m).0).1 in
          let it : not (may_get proc r) ≡ false = subst (λ (c : Bool). (if c then not (may_get proc r) else may_get proc r) ≡ false) e gets in
          subst (λ (n : Name). may_get proc n ≡ true) (sym (same_is x r q)) (not-false (may_get proc r) it)
      | inr q ↦ ih q
    ]

call_linear : (proc : Proc) (signature : Option Signature) (args : List Expr) (results : List Name) (held : List Bool) → call_misgiven proc signature results ≡ false → IsLinear proc held → IsLinear proc (call_held (names_in_proc proc) signature args results held)
call_linear proc None args results held m h x e = h x e
call_linear proc (Some signature) args results held m h x e =
    elim (holds_with (given_names signature.outs results) (names_in_proc proc) (without_names (passed_names is_taken signature.params args) (names_in_proc proc) held) x e) [
      | inl q ↦ linear_within proc _ held (without_within (passed_names is_taken signature.params args) (names_in_proc proc) held) h x q
      | inr q ↦ or_right (passes_in proc.params x) (may_get proc x) (given_may proc signature.outs results x m q)
    ]

pub spawn_linear : (proc : Proc) (signature : Option Signature) (args : List Expr) (held : List Bool) → IsLinear proc held → IsLinear proc (spawn_held (names_in_proc proc) signature args held)
spawn_linear proc None args held h = h
spawn_linear proc (Some signature) args held h = linear_within proc _ held (without_within (passed_names is_passed signature.params args) (names_in_proc proc) held) h

-- ---- the entry

entry_params : (params : List Param) (names : List Name) (flags : List Bool) (x : Name) → (holds names flags x ≡ true → ⊥) → holds (param_names params ++ names) (map (λ param. is_passed param.mode) params ++ flags) x ≡ true → passes_in params x ≡ true
entry_params [] names flags x none h = absurd (none h)
entry_params (p ∷ ps) names flags x none h = elim (or_cases (is_passed p.mode && same_name p.name x) _ h) [
  | inl q ↦ or_left (is_passed p.mode && same_name p.name x) (passes_in ps x) q
  | inr q ↦ or_right (is_passed p.mode && same_name p.name x) (passes_in ps x) (entry_params ps names flags x none q)
]

none_held : {A : Type 0} (xs : List A) (name : A → Name) (names : List Name) (flags : List Bool) (x : Name) → (holds names flags x ≡ true → ⊥) → holds (map name xs ++ names) (map (λ a. false) xs ++ flags) x ≡ true → ⊥
none_held [] name names flags x none h = none h
none_held (a ∷ xs) name names flags x none h = none_held xs name names flags x none h

nothing_held : {A : Type 0} (xs : List A) (name : A → Name) (x : Name) → holds (map name xs) (map (λ a. false) xs) x ≡ true → ⊥
nothing_held [] name x h = false≢true h
nothing_held (a ∷ xs) name x h = nothing_held xs name x h

pub entry_linear : (proc : Proc) → IsLinear proc (entry_held proc)
entry_linear proc x h =
    let locals = nothing_held proc.locals (λ l. l.name) x in
    or_left (passes_in proc.params x) (may_get proc x)
    (entry_params proc.params _ _ x (none_held proc.outs (λ o. o.name) _ _ x locals) h)

-- ---- going over statements

module _ (program : Program) (proc : Proc) where
  abbrev names : List Name
  names = names_in_proc proc

  -- its targets are as the rules want them
  abbrev Right : ℕ → Stmt → Type 0
  Right n s = stmt_assigned program proc s ≡ false

  abbrev AllLinear : List (List Bool) → Type 0
  AllLinear befores = (j : ℕ) (held : List Bool) → slice_get befores j ≡ Some held → IsLinear proc held

  all_joined : (xs ys : List (List Bool)) → AllLinear xs → AllLinear ys → AllLinear (xs ++ ys)
  all_joined [] ys h k j held e = k j held e
  all_joined (x ∷ xs) ys h k zero held e = h 0 held e
  all_joined (x ∷ xs) ys h k (suc j) held e = all_joined xs ys (λ i g q. h (suc i) g q) k j held e

  one_linear : (held : List Bool) → IsLinear proc held → AllLinear (held ∷ [])
  one_linear held h zero other e = let same : held ≡ other = cc in subst (IsLinear proc) same h
  one_linear held h (suc j) other e = absurd (none-some other e)

  abbrev pub AreLinear : Traced → Type 0
  AreLinear t = AllLinear t.befores × IsLinear proc t.after

  abbrev Keeps : Stmt → Type 0
  Keeps s = (at : ℕ) (held : List Bool) → Each Right at (s ∷ inner_of s) → IsLinear proc held → AreLinear (traced program names s held)

  parts_linear : {S : Type 0} (ys : List S) (v : S → Stmt) → ((x : S) → Keeps (v x)) → (at : ℕ) (held : List Bool) → Each Right at (statements_of (map v ys)) → IsLinear proc held → AreLinear (traced_all program names (map v ys) held)
  parts_linear [] v f at held each h = ((λ j g e. absurd (none-some g e)), h)
  parts_linear (y ∷ ys) v f at held each h =
      let here = f y at held (each_first Right at (v y) (map v ys) each) h in
      let rest = parts_linear ys v f (at + size_of (v y)) (traced program names (v y) held).after (each_others Right at (v y) (map v ys) each) here.1 in
      (all_joined (traced program names (v y) held).befores _ here.0 rest.0, rest.1)

  layer_linear : {S : Type 0} (d : Stmt-F S) (v : S → Stmt) → ((x : S) → Keeps (v x)) → (at : ℕ) (held : List Bool) → form_assigned program proc (map-Stmt S Stmt v d) ≡ false → Each Right (at + 1) (inner_layer (map-Stmt S Stmt v d)) → IsLinear proc held
      → AreLinear (traced_form program names (map-Stmt S Stmt v d) held)
  layer_linear (If e x y) v f at held own each h =
      let first = parts_linear x v f (at + 1) held (each_branch Right at (map v x) (map v y) each) h in
      let second = parts_linear y v f (at + 1 + sizes_of (map v x)) held (each_else Right at (map v x) (map v y) each) h in
      (all_joined (held ∷ []) _ (one_linear held h) (all_joined (traced_all program names (map v x) held).befores _ first.0 second.0), linear_within proc _ _ (both_first (traced_all program names (map v x) held).after (traced_all program names (map v y) held).after) first.1)
  layer_linear (While e x) v f at held own each h = (all_joined (held ∷ []) _ (one_linear held h) (parts_linear x v f (at + 1) held each h).0, h)
  layer_linear (YieldLoop e i x) v f at held own each h = (all_joined (held ∷ []) _ (one_linear held h) (parts_linear x v f (at + 1) held each h).0, h)
  layer_linear (RankLoop e r i x) v f at held own each h = (all_joined (held ∷ []) _ (one_linear held h) (parts_linear x v f (at + 1) held each h).0, h)
  layer_linear (Call g es rs) v f at held own each h = (one_linear held h, call_linear proc (callee_signature program g) es rs held own h)
  layer_linear (Spawn g es) v f at held own each h = (one_linear held h, spawn_linear proc (proc_signature_of (proc_named program g)) es held h)
  layer_linear _ v f at held own each h = (one_linear held h, h)

  keeps : (s : Stmt) → Keeps s
  keeps s =
      ind-Stmt Keeps (λ x y e at held each h.
      let r = roll-Stmt x in
      let q = out-roll-Stmt x ∙ sym e in
      subst AreLinear (sym (traced_is program names r held ∙ ap (λ (d : Stmt-F Stmt). traced_form program names d held) q))
      (layer_linear y (λ z. z.0) (λ z. z.1) at held (subst (λ (d : Stmt-F Stmt). form_assigned program proc d ≡ false) q (each_own Right at r each)) (each_of_layer Right at r _ (inner_is r ∙ ap inner_layer q) each) h)) s

  pub all_linear : (ss : List Stmt) (at : ℕ) (held : List Bool) → Each Right at (statements_of ss) → IsLinear proc held → AreLinear (traced_all program names ss held)
  all_linear [] at held each h = ((λ j g e. absurd (none-some g e)), h)
  all_linear (s ∷ ss) at held each h =
      let here = keeps s at held (each_first Right at s ss each) h in
      let rest = all_linear ss (at + size_of s) (traced program names s held).after (each_others Right at s ss each) here.1 in
      (all_joined (traced program names s held).befores _ here.0 rest.0, rest.1)
