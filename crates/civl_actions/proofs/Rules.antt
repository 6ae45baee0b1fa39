-- What the static rules say of an action.
use Rattle.std.specs.Prelude.{not, ◌||◌, map, slice_get, IsTrue, All}
use Rattle.std.specs.List.{list_any}
use Rattle.std.specs.Str.{bytes_eq}
use Rattle.std.proofs.Common.{◌≡◌, ◌∙◌, ℕ, zero, suc, Bool, true, false, List, [], ◌∷◌, ◌++◌, refl, sym, ap, ap₂, subst, Option, Some}
use Rattle.std.proofs.lemmas.Bool.{false≢true, not-false, or_parts, or_from, false_from_ne_true}
use Rattle.std.proofs.lemmas.List.Elements.{All-nil, All-cons}
use Rattle.civl_tree.specs.declared.name.Name.{Name}
use Rattle.civl_tree.specs.declared.expr.Sort.{Sort}
use Rattle.civl_tree.specs.declared.expr.Sort.TheVariants.{Bool as Truth}
use Rattle.civl_tree.specs.declared.action.Action.{Action}
use Rattle.civl_tree.specs.declared.action.Choice.{Choice}
use Rattle.civl_tree.specs.declared.action.Param.{Param}
use Rattle.civl_tree.specs.declared.action.Update.{Update}
use Rattle.civl_tree.specs.declared.program.Program.{Program}
use Rattle.civl_tree.specs.rules.Names.{same_name, has_name, any_twice, global_names, param_names, names_in_action}
use Rattle.civl_tree.specs.rules.Scopes.{gate_scope, guard_scope}
use Rattle.civl_tree.specs.rules.Sorts.{sort_of}
use Rattle.civl_tree.specs.rules.Exprs.{widths_fit, indices_fit}
use Rattle.civl_tree.specs.rules.Uses.{Use, serves, need_of, truth_use, target_use, update_sort, action_uses}
use Rattle.civl_tree.specs.rules.Width.{sort_width_fits, param_width, action_width}
use Rattle.civl_tree.specs.rules.Index.{sort_index, action_index}
use Rattle.civl_tree.specs.rules.Sorted.{any_missorted}
use Rattle.civl_tree.specs.rules.Twice.{declared_twice}
use Rattle.civl_tree.specs.rules.Rules.{Keeps}
use Rattle.civl_tree.specs.rules.Typing.{typing_rules, twice_rule, width_rule, sort_rule, index_rule}
use Rattle.civl_tree.proofs.Kept.{action_kept, twice_among, width_among, sort_among, index_among}
use Rattle.civl_tree.proofs.Parts.{any_split}
use Rattle.civl_tree.proofs.Naming.{same_bytes, has_first, has_second, twice_behind}
use Rattle.civl_firing.specs.values.Values.{is_sort}
use Rattle.civl_firing.proofs.Serving.{served_only, served_some}
use Rattle.civl_firing.proofs.SortLimits.{limits}
use Rattle.civl_actions.specs.Scopes.{IsTyped}

-- ---- lists of which none passes

any_map : {A B : Type 0} (p : B → Bool) (f : A → B) (xs : List A) → list_any p (map f xs) ≡ false → (i : ℕ) (x : A) → slice_get xs i ≡ Some x → p (f x) ≡ false
any_map p f [] e i x at = absurd (cc)
any_map p f (y ∷ ys) e zero x at = let q : y ≡ x = cc in ap (λ z. p (f z)) (sym q) ∙ (or_parts (p (f y)) (list_any p (map f ys)) e).0
any_map p f (y ∷ ys) e (suc i) x at = any_map p f ys (or_parts (p (f y)) (list_any p (map f ys)) e).1 i x at

any_all : {A : Type 0} (p : A → Bool) (P : A → Type 0) → ((x : A) → p x ≡ false → P x) → (xs : List A) → list_any p xs ≡ false → All P xs
any_all p P f [] e = All-nil P
any_all p P f (x ∷ xs) e = let o = or_parts (p x) (list_any p xs) e in All-cons P x xs (f x o.0) (any_all p P f xs o.1)

-- ---- the rules for an action

pub record Kept (program : Program) (a : Action) : Type 0 where
  pub sorted : any_missorted (action_uses program a) ≡ false
  pub widths : action_width program a ≡ false
  pub indices : action_index program a ≡ false
  pub names : declared_twice program (names_in_action a) ≡ false

pub kept : (program : Program) → Keeps typing_rules program → (i : ℕ) (a : Action) → slice_get program.actions i ≡ Some a → Kept program a
kept program none i a at = record {
  sorted = action_kept typing_rules program none sort_rule sort_among i a at;
  widths = action_kept typing_rules program none width_rule width_among i a at;
  indices = action_kept typing_rules program none index_rule index_among i a at;
  names = (or_parts _ _ (or_parts _ _ (action_kept typing_rules program none twice_rule twice_among i a at)).1).0;
}

-- ---- its expressions

-- what the rules say of one of these expressions
pub record Sound (u : Use) : Type 0 where
  pub serves_it : serves (sort_of u.scope u.expression) u.need ≡ true
  pub widths_it : widths_fit u.scope u.expression ≡ true
  pub indices_it : indices_fit u.expression ≡ true

pub typed_use : (u : Use) → Sound u → IsTyped u.scope u.expression
typed_use u h = record { sorted = served_some (sort_of u.scope u.expression) u.need h.serves_it; widths = h.widths_it; indices = h.indices_it }

module _ (program : Program) (a : Action) (k : Kept program a) where
  abbrev missorted : Use → Bool
  missorted u = not (serves (sort_of u.scope u.expression) u.need)

  abbrev miswide : Use → Bool
  miswide u = not (widths_fit u.scope u.expression)

  abbrev misindexed : Use → Bool
  misindexed u = not (indices_fit u.expression)

  abbrev offers : List Use
  offers = map (λ c. target_use (gate_scope program a) c.offer (Some c.sort)) a.choices

  abbrev changes : List Use
  changes = map (λ u. target_use (guard_scope program a) u.expr (update_sort program a u.target)) a.updates

  abbrev two : List Use
  two = truth_use (gate_scope program a) a.gate ∷ truth_use (guard_scope program a) a.guard ∷ changes

  wide : list_any miswide (action_uses program a) ≡ false
  wide = (or_parts _ _ (or_parts _ _ k.widths).1).1

  indexed : list_any misindexed (action_uses program a) ≡ false
  indexed = (or_parts _ _ (or_parts _ _ k.indices).1).1

  rest : (p : Use → Bool) → list_any p (action_uses program a) ≡ false → (p (truth_use (gate_scope program a) a.gate) ≡ false) × (p (truth_use (guard_scope program a) a.guard) ≡ false) × (list_any p changes ≡ false)
  rest p e =
      let b = (any_split p offers two e).1 in
      let c = or_parts (p (truth_use (gate_scope program a) a.gate)) _ b in
      let d = or_parts (p (truth_use (guard_scope program a) a.guard)) _ c.1 in
      (c.0, d.0, d.1)

  offered : (p : Use → Bool) → list_any p (action_uses program a) ≡ false → list_any p offers ≡ false
  offered p e = (any_split p offers two e).0

  gate_sound : Sound (truth_use (gate_scope program a) a.gate)
  gate_sound = record { serves_it = not-false _ (rest missorted k.sorted).0; widths_it = not-false _ (rest miswide wide).0; indices_it = not-false _ (rest misindexed indexed).0 }

  guard_sound : Sound (truth_use (guard_scope program a) a.guard)
  guard_sound = record { serves_it = not-false _ (rest missorted k.sorted).1; widths_it = not-false _ (rest miswide wide).1; indices_it = not-false _ (rest misindexed indexed).1 }

  change_sound : (i : ℕ) (u : Update) → slice_get a.updates i ≡ Some u → Sound (target_use (guard_scope program a) u.expr (update_sort program a u.target))
  change_sound i u at =
      let f = λ (v : Update). target_use (guard_scope program a) v.expr (update_sort program a v.target) in
      record {
        serves_it = not-false _ (any_map missorted f a.updates (rest missorted k.sorted).2 i u at);
        widths_it = not-false _ (any_map miswide f a.updates (rest miswide wide).2 i u at);
        indices_it = not-false _ (any_map misindexed f a.updates (rest misindexed indexed).2 i u at);
      }

  offer_sound : (i : ℕ) (c : Choice) → slice_get a.choices i ≡ Some c → Sound (target_use (gate_scope program a) c.offer (Some c.sort))
  offer_sound i c at =
      let f = λ (d : Choice). target_use (gate_scope program a) d.offer (Some d.sort) in
      record {
        serves_it = not-false _ (any_map missorted f a.choices (offered missorted k.sorted) i c at);
        widths_it = not-false _ (any_map miswide f a.choices (offered miswide wide) i c at);
        indices_it = not-false _ (any_map misindexed f a.choices (offered misindexed indexed) i c at);
      }

  pub gate_typed : IsTyped (gate_scope program a) a.gate
  gate_typed = typed_use (truth_use (gate_scope program a) a.gate) gate_sound

  pub gate_sort : sort_of (gate_scope program a) a.gate ≡ Some Truth
  gate_sort = served_only (sort_of (gate_scope program a) a.gate) Truth gate_sound.serves_it

  pub guard_typed : IsTyped (guard_scope program a) a.guard
  guard_typed = typed_use (truth_use (guard_scope program a) a.guard) guard_sound

  pub guard_sort : sort_of (guard_scope program a) a.guard ≡ Some Truth
  guard_sort = served_only (sort_of (guard_scope program a) a.guard) Truth guard_sound.serves_it

  pub offer_typed : (i : ℕ) (c : Choice) → slice_get a.choices i ≡ Some c → IsTyped (gate_scope program a) c.offer
  offer_typed i c at = typed_use (target_use (gate_scope program a) c.offer (Some c.sort)) (offer_sound i c at)

  -- an offer has its choice's sort
  pub offer_sorted : (i : ℕ) (c : Choice) → slice_get a.choices i ≡ Some c → sort_of (gate_scope program a) c.offer ≡ Some c.sort
  offer_sorted i c at = served_only (sort_of (gate_scope program a) c.offer) c.sort (offer_sound i c at).serves_it

  pub update_typed : (i : ℕ) (u : Update) → slice_get a.updates i ≡ Some u → IsTyped (guard_scope program a) u.expr
  update_typed i u at = typed_use (target_use (guard_scope program a) u.expr (update_sort program a u.target)) (change_sound i u at)

  -- an update has its target's sort
  pub update_sorted : (i : ℕ) (u : Update) → slice_get a.updates i ≡ Some u → (s : Sort) → update_sort program a u.target ≡ Some s → sort_of (guard_scope program a) u.expr ≡ Some s
  update_sorted i u at s e =
      served_only (sort_of (guard_scope program a) u.expr) s
      (subst (λ (o : Option Sort). serves (sort_of (guard_scope program a) u.expr) (need_of o) ≡ true) e (change_sound i u at).serves_it)

  -- ---- its outputs' sorts

  both_none : {A : Type 0} (p q : A → Bool) (xs : List A) → list_any p xs ≡ false → list_any q xs ≡ false → list_any (λ x. p x || q x) xs ≡ false
  both_none p q [] e f = refl
  both_none p q (x ∷ xs) e f =
      let c = or_parts (p x) (list_any p xs) e in
      let d = or_parts (q x) (list_any q xs) f in
      rw (c.0, d.0) (both_none p q xs c.1 d.1)

  pub outs_limits : All (λ (p : Param). IsTrue (is_sort p.sort)) a.outs
  outs_limits =
      let e = (any_split (param_width program) a.params a.outs (or_parts _ _ k.widths).0).1 in
      let f = (any_split (λ (p : Param). sort_index p.sort) a.params a.outs (or_parts _ _ k.indices).0).1 in
      any_all (λ (p : Param). param_width program p || sort_index p.sort) (λ (p : Param). IsTrue (is_sort p.sort))
      (λ p e.
      let c = or_parts (param_width program p) (sort_index p.sort) e in
      let d = or_parts (not (sort_width_fits p.sort)) _ c.0 in
      limits p.sort (not-false (sort_width_fits p.sort) d.0) c.1)
      a.outs (both_none (param_width program) (λ (p : Param). sort_index p.sort) a.outs e f)

-- ---- names that stand once

-- a list has a name, or another with its bytes
pub has_same : (names : List Name) (x y : Name) → x.bytes ≡ y.bytes → has_name names x ≡ has_name names y
has_same [] x y e = refl
has_same (n ∷ names) x y e = ap₂ (λ (b c : Bool). b || c) (ap (λ bs. bytes_eq bs n.bytes) e) (has_same names x y e)

-- of names that stand once, none of the first is among the others
pub apart : (xs ys : List Name) (x : Name) → any_twice (xs ++ ys) ≡ false → has_name ys x ≡ true → has_name xs x ≡ false
apart [] ys x e h = refl
apart (n ∷ xs) ys x e h =
    let o = or_parts (has_name (xs ++ ys) n) (any_twice (xs ++ ys)) e in
    or_from (same_name x n) (has_name xs x)
    (false_from_ne_true (same_name x n) (λ s.
    let t : has_name (xs ++ ys) n ≡ true = has_second xs ys n (sym (has_same ys x n (same_bytes x n s)) ∙ h) in
    false≢true (sym o.0 ∙ t)))
    (apart xs ys x o.1 h)

pub apart_after : (xs ys : List Name) (x : Name) → any_twice (xs ++ ys) ≡ false → has_name xs x ≡ true → has_name ys x ≡ false
apart_after xs ys x e h = false_from_ne_true (has_name ys x) (λ t. false≢true (sym (apart xs ys x e t) ∙ h))

-- the name of an output is that of no parameter, no choice and no global
pub record OutApart (program : Program) (a : Action) (x : Name) : Type 0 where
  pub params : has_name (param_names a.params) x ≡ false
  pub choices : has_name (map (λ c. c.name) a.choices) x ≡ false
  pub globals : has_name (global_names program.globals) x ≡ false

none_passes : (p : Name → Bool) (xs : List Name) (x : Name) → ((m n : Name) → m.bytes ≡ n.bytes → p m ≡ p n) → list_any p xs ≡ false → has_name xs x ≡ true → p x ≡ false
none_passes p [] x f e h = absurd (false≢true h)
none_passes p (n ∷ xs) x f e h =
    let o = or_parts (p n) (list_any p xs) e in
    by (same_name x n) refl h o.0 (none_passes p xs x f o.1)
  where
    by : (b : Bool) → same_name x n ≡ b → (b || has_name xs x) ≡ true → p n ≡ false → (has_name xs x ≡ true → p x ≡ false) → p x ≡ false
    by true s q c g = f x n (same_bytes x n s) ∙ c
    by false s q c g = g q

pub out_apart : (program : Program) (a : Action) → Kept program a → (x : Name) → has_name (param_names a.outs) x ≡ true → OutApart program a x
out_apart program a k x h =
    let o = or_parts (any_twice (names_in_action a)) _ k.names in
    let behind : has_name (param_names a.outs ++ map (λ c. c.name) a.choices) x ≡ true = has_first (param_names a.outs) (map (λ c. c.name) a.choices) x h in
    record {
      params = apart (param_names a.params) (param_names a.outs ++ map (λ c. c.name) a.choices) x o.0 behind;
      choices = apart_after (param_names a.outs) (map (λ c. c.name) a.choices) x (twice_behind (param_names a.params) (param_names a.outs ++ map (λ c. c.name) a.choices) o.0) h;
      globals = none_passes (has_name (global_names program.globals)) (names_in_action a) x (has_same (global_names program.globals)) o.1 (has_second (param_names a.params) (param_names a.outs ++ map (λ c. c.name) a.choices) x behind);
    }
