-- What is held at a cut are words of the permission width: the parameters that are lent or taken, and the names to which calls gave.
use Rattle.std.specs.Prelude.{map, slice_get, get_or, All, not, ◌||◌, is_some, if◌then◌else◌}
use Rattle.std.specs.Str.{bytes_eq}
use Rattle.std.specs.List.{list_any}
use Rattle.std.proofs.Common.{◌≡◌, ◌∙◌, ℕ, zero, suc, ◌+◌, Bool, true, false, List, [], ◌∷◌, ◌++◌, refl, sym, ap, ap₂, subst, arith, Option, Some, None, ◌⊎◌, inl, inr}
use Rattle.std.proofs.lemmas.Bool.{false≢true, not-false, or_parts, and_parts}
use Rattle.std.proofs.lemmas.List.Folds.{find_at}
use Rattle.std.proofs.lemmas.List.Elements.{All-nil, All-cons}
use Rattle.std.proofs.lemmas.Slice.Eq.{bytes_eq-Decides}
use Rattle.std.proofs.lemmas.Option.{same_Some}
use Rattle.civl_tree.specs.declared.name.Name.{Name}
use Rattle.civl_tree.specs.declared.expr.Expr.{Expr}
use Rattle.civl_tree.specs.declared.expr.Sort.{Sort}
use Rattle.civl_tree.specs.declared.expr.Sort.TheVariants.{Word}
use Rattle.civl_tree.specs.declared.stmt.Stmt.{Stmt, roll-Stmt, out-Stmt, out-roll-Stmt, map-Stmt}
use Rattle.civl_tree.specs.declared.stmt.Stmt.TheOpen.{Stmt-F, If, While, YieldLoop, RankLoop, Call, Spawn}
use Rattle.civl_tree.specs.declared.stmt.Stmt.TheFolds.{ind-Stmt}
use Rattle.civl_tree.specs.declared.action.Action.{Action}
use Rattle.civl_tree.specs.declared.action.Mode.{Mode}
use Rattle.civl_tree.specs.declared.action.Mode.TheVariants.{Val, Lend, Take, Give}
use Rattle.civl_tree.specs.declared.action.Param.{Param}
use Rattle.civl_tree.specs.declared.program.Refines.{Refines}
use Rattle.civl_tree.specs.declared.program.Proc.{Proc}
use Rattle.civl_tree.specs.declared.program.Program.{Program}
use Rattle.civl_tree.specs.Numbering.{inner_of, statements_of}
use Rattle.civl_tree.specs.rules.Names.{Signature, same_name, has_name, any_twice, names_in_proc, action_named, proc_named, proc_signature_of, first_signature, callee_signature}
use Rattle.civl_tree.specs.rules.Scopes.{Binding, sort_in, bind_proc}
use Rattle.civl_tree.specs.rules.Uses.{Only, serves, place_sort, param_sorts, given_sorts}
use Rattle.civl_tree.specs.rules.Sorted.{results_missorted, form_missorted, stmt_missorted}
use Rattle.civl_tree.specs.rules.Width.{is_linear, param_width}
use Rattle.civl_tree.specs.rules.Rules.{Keeps}
use Rattle.civl_tree.specs.rules.Typing.{typing_rules, sort_rule, width_rule}
use Rattle.civl_tree.proofs.Kept.{proc_kept, statement_kept, sort_among, width_among}
use Rattle.civl_tree.proofs.Preorder.{inner_layer, inner_is}
use Rattle.civl_tree.proofs.Parts.{any_split}
use Rattle.civl_tree.proofs.Naming.{same_bytes}
use Rattle.civl_firing.proofs.SortLimits.{linear_sort}
use Rattle.civl_firing.proofs.Serving.{served_only}
use Rattle.civl_meaning.specs.Config.{frame_sorts}
use Rattle.civl_layers.specs.Cuts.{cut_kind}
use Rattle.civl_linear.specs.Modes.{is_passed, is_taken, is_given, passed_names, given_names}
use Rattle.civl_linear.specs.Held.{Traced, traced, traced_all, traced_proc, without_names, with_names, both_held, call_held, spawn_held, entry_held}
use Rattle.civl_linear.specs.Cuts.{held_numbers, held_at_cuts, held_under, held_of}
use Rattle.civl_linear.proofs.Examples.{traced_form, traced_is}
use Rattle.civl_conditions.specs.Permissions.{held_at}
use Rattle.civl_states.specs.Notes.{IsProcIn}
use Rattle.civl_states.specs.Items.{HaveWidths}
use Rattle.civl_states.proofs.Picking.{action_wide}
use Rattle.civl_states.proofs.Scoping.{binding_names, binding_sorts, proc_bound_names, proc_bound_sorts, names_once}

-- ---- lists

abbrev pub Each : {A : Type 0} → (A → Type 0) → List A → Type 0
Each P [] = Unit {0}
Each P (x ∷ xs) = P x × Each P xs

each_split : {A : Type 0} (P : A → Type 0) (xs ys : List A) → Each P (xs ++ ys) → Each P xs × Each P ys
each_split P [] ys h = (tt, h)
each_split P (x ∷ xs) ys h = let r = each_split P xs ys h.1 in ((h.0, r.0), r.1)

each_join : {A : Type 0} (P : A → Type 0) (xs ys : List A) → Each P xs → Each P ys → Each P (xs ++ ys)
each_join P [] ys h k = k
each_join P (x ∷ xs) ys h k = (h.0, each_join P xs ys h.1 k)

each_from : {A : Type 0} (P : A → Type 0) (xs : List A) → ((n : ℕ) (x : A) → slice_get xs n ≡ Some x → P x) → Each P xs
each_from P [] f = tt
each_from P (x ∷ xs) f = (f zero x refl, each_from P xs (λ n y e. f (suc n) y e))

-- ---- flags

-- each name whose flag is set has this sort
abbrev AreThis : Sort → List Sort → List Bool → Type 0
AreThis sort sorts flags = (n : ℕ) → slice_get flags n ≡ Some true → slice_get sorts n ≡ Some sort

without_flag : (gone names : List Name) (flags : List Bool) (n : ℕ) → slice_get (without_names gone names flags) n ≡ Some true → slice_get flags n ≡ Some true
without_flag gone [] flags n e = absurd (cc)
without_flag gone (name ∷ names) [] n e = absurd (cc)
without_flag gone (name ∷ names) (f ∷ flags) zero e = ap (λ (b : Bool). Some b) (and_parts f (not (has_name gone name)) (same_Some _ _ e)).0
without_flag gone (name ∷ names) (f ∷ flags) (suc n) e = without_flag gone names flags n e

both_flag : (a b : List Bool) (n : ℕ) → slice_get (both_held a b) n ≡ Some true → slice_get a n ≡ Some true
both_flag [] b n e = absurd (cc)
both_flag (x ∷ a) [] n e = absurd (cc)
both_flag (x ∷ a) (y ∷ b) zero e = ap (λ (c : Bool). Some c) (and_parts x y (same_Some _ _ e)).0
both_flag (x ∷ a) (y ∷ b) (suc n) e = both_flag a b n e

-- a flag that is set with new names was set, or its name is new
with_flag : (new names : List Name) (flags : List Bool) (n : ℕ) → slice_get (with_names new names flags) n ≡ Some true
    → (slice_get flags n ≡ Some true) ⊎ ((name : Name) × (slice_get names n ≡ Some name) × (has_name new name ≡ true))
with_flag new [] flags n e = absurd (cc)
with_flag new (name ∷ names) [] n e = absurd (cc)
with_flag new (name ∷ names) (f ∷ flags) zero e = by f (same_Some _ _ e)
  where
    by : (b : Bool) → (b || has_name new name) ≡ true → (Some b ≡ Some true) ⊎ ((m : Name) × (Some name ≡ Some m) × (has_name new m ≡ true))
    by true p = inl refl
    by false p = inr (name, refl, p)
with_flag new (name ∷ names) (f ∷ flags) (suc n) e = with_flag new names flags n e

-- ---- names

sort_same : (bs : List Binding) (a b : Name) → a.bytes ≡ b.bytes → sort_in bs a ≡ sort_in bs b
sort_same [] a b e = refl
sort_same (x ∷ bs) a b e = ap₂ (λ (t : Bool) (o : Option Sort). if t then Some x.sort else o) (ap (λ bytes. bytes_eq x.name.bytes bytes) e) (sort_same bs a b e)

has_there : (names : List Name) (n : ℕ) (name x : Name) → slice_get names n ≡ Some name → same_name x name ≡ true → has_name names x ≡ true
has_there [] n name x e h = absurd (cc)
has_there (m ∷ names) zero name x e h = let r : m ≡ name = cc in rw (ap (same_name x) r ∙ h) refl
has_there (m ∷ names) (suc n) name x e h = later (same_name x m) (has_there names n name x e h)
  where
    later : (b : Bool) → has_name names x ≡ true → (b || has_name names x) ≡ true
    later true k = refl
    later false k = k

same_self : (a : Name) → same_name a a ≡ true
same_self a = (bytes_eq-Decides a.bytes a.bytes).1 refl

-- of names that stand once each has the sort of its own binding
sort_there : (bs : List Binding) (n : ℕ) (name : Name) (s : Sort) → any_twice (binding_names bs) ≡ false → slice_get (binding_names bs) n ≡ Some name → sort_in bs name ≡ Some s → slice_get (binding_sorts bs) n ≡ Some s
sort_there [] n name s once e h = absurd (cc)
sort_there (b ∷ bs) zero name s once e h =
    let r : b.name ≡ name = cc in
    sym (ap (λ t. if t then Some b.sort else sort_in bs name) (ap (same_name b.name) (sym r) ∙ same_self b.name)) ∙ h
sort_there (b ∷ bs) (suc n) name s once e h =
    let o = or_parts (has_name (binding_names bs) b.name) (any_twice (binding_names bs)) once in
    sort_there bs n name s o.1 e (by (same_name b.name name) refl h)
  where
    by : (t : Bool) → same_name b.name name ≡ t → (if t then Some b.sort else sort_in bs name) ≡ Some s → sort_in bs name ≡ Some s
    by true q k = absurd (false≢true (sym (or_parts (has_name (binding_names bs) b.name) (any_twice (binding_names bs)) once).0 ∙ has_there (binding_names bs) n name b.name e q))
    by false q k = k

-- ---- a procedure of a checked program

passed_linear : (mode : Mode) → is_passed mode ≡ true → is_linear mode ≡ true
passed_linear Val e = absurd (false≢true e)
passed_linear Lend e = refl
passed_linear Take e = refl
passed_linear Give e = absurd (false≢true e)

given_linear : (mode : Mode) → is_given mode ≡ true → is_linear mode ≡ true
given_linear Val e = absurd (false≢true e)
given_linear Lend e = absurd (false≢true e)
given_linear Take e = absurd (false≢true e)
given_linear Give e = refl

module _ (program : Program) (keeps : Keeps typing_rules program) (proc : Proc) (there : IsProcIn program proc) where
  abbrev word : Sort
  word = Word program.permissions

  abbrev names : List Name
  names = names_in_proc proc

  abbrev pub Holds : List Bool → Type 0
  Holds flags = AreThis word (frame_sorts proc) flags

  abbrev IsSound : Stmt → Type 0
  IsSound s = form_missorted program proc (out-Stmt s) ≡ false

  proc_wide : (place : ℕ) (q : Proc) → slice_get program.procs place ≡ Some q → HaveWidths program q.params × HaveWidths program q.outs
  proc_wide place q at = any_split (param_width program) q.params q.outs (or_parts _ _ (proc_kept typing_rules program keeps width_rule width_among place q at)).0

  param_word : (p : Param) → param_width program p ≡ false → is_linear p.mode ≡ true → p.sort ≡ word
  param_word p e h = linear_sort (is_linear p.mode) p.sort word (or_parts _ _ e).1 h

  -- ---- at the entry

  none_set : {A : Type 0} (xs : List A) (n : ℕ) → slice_get (map (λ x. false) xs) n ≡ Some true → ⊥
  none_set [] n e = absurd (cc)
  none_set (x ∷ xs) zero e = absurd (cc)
  none_set (x ∷ xs) (suc n) e = none_set xs n e

  behind_params : (ps : List Param) (flags : List Bool) (rest : List Sort) → HaveWidths program ps → AreThis word rest flags
      → AreThis word (param_sorts ps ++ rest) (map (λ p. is_passed p.mode) ps ++ flags)
  behind_params [] flags rest w h n e = h n e
  behind_params (p ∷ ps) flags rest w h zero e = ap (λ (s : Sort). Some s) (param_word p (or_parts _ _ w).0 (passed_linear p.mode (same_Some _ _ e)))
  behind_params (p ∷ ps) flags rest w h (suc n) e = behind_params ps flags rest (or_parts _ _ w).1 h n e

  behind_none : {A : Type 0} (xs : List A) (sort_of : A → Sort) (flags : List Bool) (rest : List Sort) → AreThis word rest flags → AreThis word (map sort_of xs ++ rest) (map (λ x. false) xs ++ flags)
  behind_none [] sort_of flags rest h n e = h n e
  behind_none (x ∷ xs) sort_of flags rest h zero e = absurd (cc)
  behind_none (x ∷ xs) sort_of flags rest h (suc n) e = behind_none xs sort_of flags rest h n e

  pub entry_holds : Holds (entry_held proc)
  entry_holds =
      behind_params proc.params (map (λ out. false) proc.outs ++ map (λ declared. false) proc.locals) (param_sorts proc.outs ++ map (λ l. l.sort) proc.locals) (proc_wide there.0 proc there.1).0
      (behind_none proc.outs (λ p. p.sort) (map (λ declared. false) proc.locals) (map (λ l. l.sort) proc.locals) (λ n e. absurd (none_set proc.locals n e)))

  -- ---- behind calls

  -- a result to which an output gives has the output's sort
  given_sorted : (outs : List Param) (results : List Name) → HaveWidths program outs → results_missorted proc results (param_sorts outs) ≡ false
      → (name : Name) → has_name (given_names outs results) name ≡ true → place_sort proc name ≡ Some word
  given_sorted [] results w m name h = absurd (false≢true h)
  given_sorted (p ∷ outs) [] w m name h = absurd (false≢true h)
  given_sorted (p ∷ outs) (x ∷ results) w m name h =
      let o = or_parts (param_width program p) (list_any (param_width program) outs) w in
      let r = or_parts (not (serves (place_sort proc x) (Only p.sort))) (results_missorted proc results (param_sorts outs)) m in
      by (is_given p.mode) refl (served_only (place_sort proc x) p.sort (not-false _ r.0)) o.0 (given_sorted outs results o.1 r.1 name) h
    where
      this : (t : Bool) → same_name name x ≡ t → place_sort proc x ≡ Some word → (has_name (given_names outs results) name ≡ true → place_sort proc name ≡ Some word)
          → (t || has_name (given_names outs results) name) ≡ true → place_sort proc name ≡ Some word
      this true q e rest k = sort_same (bind_proc proc) name x (same_bytes name x q) ∙ e
      this false q e rest k = rest k

      by : (g : Bool) → is_given p.mode ≡ g → place_sort proc x ≡ Some p.sort → param_width program p ≡ false → (has_name (given_names outs results) name ≡ true → place_sort proc name ≡ Some word)
          → has_name ((if g then x ∷ [] else []) ++ given_names outs results) name ≡ true → place_sort proc name ≡ Some word
      by true q e width rest k = this (same_name name x) refl (e ∙ ap (λ (s : Sort). Some s) (param_word p width (given_linear p.mode q))) rest k
      by false q e width rest k = rest k

  placed : (n : ℕ) (name : Name) → slice_get names n ≡ Some name → place_sort proc name ≡ Some word → slice_get (frame_sorts proc) n ≡ Some word
  placed n name e h =
      subst (λ (ss : List Sort). slice_get ss n ≡ Some word) (proc_bound_sorts proc)
      (sort_there (bind_proc proc) n name word (subst (λ (ms : List Name). any_twice ms ≡ false) (sym (proc_bound_names proc)) (names_once program keeps proc there))
      (subst (λ (ms : List Name). slice_get ms n ≡ Some name) (sym (proc_bound_names proc)) e) h)

  callee_wide : (callee : Name) (signature : Signature) → callee_signature program callee ≡ Some signature → HaveWidths program signature.outs
  callee_wide callee signature e = by_action (action_named program callee) refl e
    where
      by_proc : (o : Option Proc) → proc_named program callee ≡ o → proc_signature_of o ≡ Some signature → HaveWidths program signature.outs
      by_proc None q k = absurd (cc)
      by_proc (Some d) q k =
          let same : d.outs ≡ signature.outs = ap (λ (o : Option Signature). outs_of o) k in
          subst (HaveWidths program) same (proc_wide _ d (sym (find_at _ program.procs) ∙ q)).1
        where
          outs_of : Option Signature → List Param
          outs_of None = []
          outs_of (Some s) = s.outs

      by_action : (o : Option Action) → action_named program callee ≡ o → first_signature o (proc_named program callee) ≡ Some signature → HaveWidths program signature.outs
      by_action None q k = by_proc (proc_named program callee) refl k
      by_action (Some a) q k =
          let same : a.outs ≡ signature.outs = ap (λ (o : Option Signature). outs_of o) k in
          subst (HaveWidths program) same (action_wide program keeps _ a (sym (find_at _ program.actions) ∙ q)).1
        where
          outs_of : Option Signature → List Param
          outs_of None = []
          outs_of (Some s) = s.outs

  without_holds : (gone : List Name) (flags : List Bool) → Holds flags → Holds (without_names gone names flags)
  without_holds gone flags h n e = h n (without_flag gone names flags n e)

  call_holds : (o : Option Signature) (callee : Name) (args : List Expr) (results : List Name) (flags : List Bool) → callee_signature program callee ≡ o → results_missorted proc results (given_sorts o) ≡ false → Holds flags
      → Holds (call_held names o args results flags)
  call_holds None callee args results flags q m h n e = h n e
  call_holds (Some s) callee args results flags q m h n e =
      elim (with_flag (given_names s.outs results) names (without_names (passed_names is_taken s.params args) names flags) n e) [
        | inl k ↦ without_holds (passed_names is_taken s.params args) flags h n k
        | inr k ↦ placed n k.0 k.1 (given_sorted s.outs results (callee_wide callee s q) m k.0 k.2)
      ]

  spawn_holds : (o : Option Signature) (args : List Expr) (flags : List Bool) → Holds flags → Holds (spawn_held names o args flags)
  spawn_holds None args flags h = h
  spawn_holds (Some s) args flags h = without_holds (passed_names is_passed s.params args) flags h

  -- ---- going over statements

  pub record Stands (t : Traced) : Type 0 where
    pub befores : Each Holds t.befores
    pub after : Holds t.after

  abbrev Keeping : Stmt → Type 0
  Keeping stmt = (flags : List Bool) → Holds flags → Each IsSound (stmt ∷ inner_of stmt) → Stands (traced program names stmt flags)

  behind : (first second : Traced) → Stands first → Stands second → Stands (record { after = second.after; befores = first.befores ++ second.befores; losses = first.losses ++ second.losses })
  behind first second a b = record { befores = each_join Holds first.befores second.befores a.befores b.befores; after = b.after }

  parts_stand : {S : Type 0} (ys : List S) (v : S → Stmt) → ((s : S) → Keeping (v s)) → (flags : List Bool) → Holds flags → Each IsSound (statements_of (map v ys)) → Stands (traced_all program names (map v ys) flags)
  parts_stand [] v h flags k sound = record { befores = tt; after = k }
  parts_stand (y ∷ ys) v h flags k sound =
      let split = each_split IsSound (v y ∷ inner_of (v y)) (statements_of (map v ys)) sound in
      let here = h y flags k split.0 in
      let this = traced program names (v y) flags in
      behind this (traced_all program names (map v ys) this.after) here (parts_stand ys v h this.after here.after split.1)

  form_stands : {S : Type 0} (form : Stmt-F S) (v : S → Stmt) → ((s : S) → Keeping (v s)) → (flags : List Bool) → Holds flags
      → form_missorted program proc (map-Stmt S Stmt v form) ≡ false → Each IsSound (inner_layer (map-Stmt S Stmt v form)) → Stands (traced_form program names (map-Stmt S Stmt v form) flags)
  form_stands (If test first second) v h flags k m sound =
      let split = each_split IsSound (statements_of (map v first)) (statements_of (map v second)) sound in
      let one = parts_stand first v h flags k split.0 in
      let other = parts_stand second v h flags k split.1 in
      let x = traced_all program names (map v first) flags in
      let y = traced_all program names (map v second) flags in
      record { befores = (k, each_join Holds x.befores y.befores one.befores other.befores); after = λ n e. one.after n (both_flag x.after y.after n e) }
  form_stands (While test body) v h flags k m sound = record { befores = (k, (parts_stand body v h flags k sound).befores); after = k }
  form_stands (YieldLoop test inv body) v h flags k m sound = record { befores = (k, (parts_stand body v h flags k sound).befores); after = k }
  form_stands (RankLoop test rank inv body) v h flags k m sound = record { befores = (k, (parts_stand body v h flags k sound).befores); after = k }
  form_stands (Call callee args results) v h flags k m sound = record { befores = (k, tt); after = call_holds (callee_signature program callee) callee args results flags refl m k }
  form_stands (Spawn callee args) v h flags k m sound = record { befores = (k, tt); after = spawn_holds (proc_signature_of (proc_named program callee)) args flags k }
  form_stands _ v h flags k m sound = record { befores = (k, tt); after = k }

  stands : (stmt : Stmt) → Keeping stmt
  stands stmt =
      ind-Stmt Keeping (λ x y q flags k sound.
      let form : form_missorted program proc (map-Stmt _ Stmt (λ z. z.0) y) ≡ false = subst (λ (f : Stmt-F Stmt). form_missorted program proc f ≡ false) (out-roll-Stmt x ∙ sym q) sound.0 in
      let inside : Each IsSound (inner_layer (map-Stmt _ Stmt (λ z. z.0) y)) = subst (λ (f : Stmt-F Stmt). Each IsSound (inner_layer f)) (sym q) (subst (Each IsSound) (inner_is (roll-Stmt x) ∙ ap inner_layer (out-roll-Stmt x)) sound.1) in
      let here = subst (λ (f : Stmt-F Stmt). Stands (traced_form program names f flags)) q (form_stands y (λ z. z.0) (λ z. z.1) flags k form inside) in
      let over : traced program names (roll-Stmt x) flags ≡ traced_form program names x flags = traced_is program names (roll-Stmt x) flags ∙ ap (λ (f : Stmt-F Stmt). traced_form program names f flags) (out-roll-Stmt x) in
      subst Stands (sym over) here) stmt

  pub body_stands : (body : List Stmt) (flags : List Bool) → Holds flags → Each IsSound (statements_of body) → Stands (traced_all program names body flags)
  body_stands [] flags k sound = record { befores = tt; after = k }
  body_stands (s ∷ body) flags k sound =
      let split = each_split IsSound (s ∷ inner_of s) (statements_of body) sound in
      let here = stands s flags k split.0 in
      let this = traced program names s flags in
      behind this (traced_all program names body this.after) here (body_stands body this.after here.after split.1)

  pub sound_body : Each IsSound (statements_of proc.body)
  sound_body = each_from IsSound (statements_of proc.body) (λ n s e. (or_parts _ _ (statement_kept typing_rules program keeps sort_rule sort_among (stmt_missorted program proc) there.0 proc there.1 refl n s e)).1)

  -- ---- at the cuts

  abbrev pub IsHeld : ℕ → Type 0
  IsHeld n = slice_get (frame_sorts proc) n ≡ Some word

  numbered : (ms : List Name) (flags : List Bool) (from : ℕ) → ((i : ℕ) → slice_get flags i ≡ Some true → IsHeld (from + i)) → Each IsHeld (held_numbers from ms flags)
  numbered [] flags from f = tt
  numbered (m ∷ ms) [] from f = tt
  numbered (m ∷ ms) (b ∷ flags) from f = each_join IsHeld (if b then from ∷ [] else []) (held_numbers (from + 1) ms flags) (this b refl) (numbered ms flags (from + 1) (λ i e. moved i (f (suc i) e)))
    where
      moved : (i : ℕ) → IsHeld (from + suc i) → IsHeld (from + 1 + i)
      moved i h = let e : from + suc i ≡ from + 1 + i = omega arith in subst IsHeld e h

      this : (c : Bool) → b ≡ c → Each IsHeld (if c then from ∷ [] else [])
      this true e = let z : from + 0 ≡ from = omega arith in (subst IsHeld z (f zero (ap (λ (d : Bool). Some d) e)), tt)
      this false e = tt

  pub flags_numbered : (flags : List Bool) → Holds flags → Each IsHeld (held_numbers 0 names flags)
  flags_numbered flags h = numbered names flags 0 (λ i e. let z : i ≡ 0 + i = omega arith in subst IsHeld z (h i e))

  cuts_numbered : (stmts : List Stmt) (befores : List (List Bool)) → Each Holds befores → Each (Each IsHeld) (held_at_cuts names stmts befores)
  cuts_numbered [] befores h = tt
  cuts_numbered (s ∷ stmts) [] h = tt
  cuts_numbered (s ∷ stmts) (flags ∷ befores) h = each_join (Each IsHeld) (if is_some (cut_kind s) then held_numbers 0 names flags ∷ [] else []) (held_at_cuts names stmts befores) (this (is_some (cut_kind s))) (cuts_numbered stmts befores h.1)
    where
      this : (c : Bool) → Each (Each IsHeld) (if c then held_numbers 0 names flags ∷ [] else [])
      this true = (flags_numbered flags h.0, tt)
      this false = tt

  under : (r : Option Refines) → Each (Each IsHeld) (held_under program proc r)
  under None = tt
  under (Some r) = (flags_numbered (entry_held proc) entry_holds, cuts_numbered (statements_of proc.body) (traced_proc program proc).befores (body_stands proc.body (entry_held proc) entry_holds sound_body).befores)

  got : (xs : List (List ℕ)) (c : ℕ) → Each (Each IsHeld) xs → Each IsHeld (get_or xs c [])
  got [] c h = tt
  got (x ∷ xs) zero h = h.0
  got (x ∷ xs) (suc c) h = got xs c h.1

  -- the numbers that are held at a cut are those of locals of the permission width
  pub held_sorted : (c : ℕ) → Each IsHeld (get_or (held_of program proc) c [])
  held_sorted c = got (held_of program proc) c (under proc.refines)

  pub all_each : {A : Type 0} (P : A → Type 0) (xs : List A) → Each P xs → All P xs
  all_each P [] h = All-nil P
  all_each P (x ∷ xs) h = All-cons P x xs h.0 (all_each P xs h.1)

  pub held_are_words : (c : ℕ) → All (λ n. slice_get (frame_sorts proc) n ≡ Some (Word program.permissions)) (held_at program proc c)
  held_are_words c = all_each IsHeld (held_at program proc c) (held_sorted c)
