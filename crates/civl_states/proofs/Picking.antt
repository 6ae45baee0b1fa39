-- Linear items: which of a list they are, what they carry, and what they weigh.
use Rattle.std.specs.Prelude.{map, filter, drop, get_or, slice_get, All, IsSome, cond, if◌then◌else◌}
use Rattle.std.proofs.Common.{◌≡◌, ◌∙◌, ℕ, zero, suc, ◌+◌, ◌*◌, ◌^◌, ◌<◌, ◌≤◌, Bool, true, false, List, [], ◌∷◌, ◌++◌, length, append_assoc, refl, sym, ap, ap₂, subst, arith, Option, Some, None}
use Rattle.std.proofs.lemmas.Bool.{false≢true, not-false, and_parts, or_parts, leb-true}
use Rattle.std.proofs.lemmas.List.{map-append, length-map, drop_more, drop_all, append-nil}
use Rattle.std.proofs.lemmas.List.Elements.{All-nil, All-cons}
use Rattle.civl_bits.specs.declared.value.Value.{Value}
use Rattle.civl_tree.specs.declared.expr.Sort.{Sort}
use Rattle.civl_tree.specs.declared.expr.Sort.TheVariants.{Word}
use Rattle.civl_tree.specs.declared.action.Action.{Action}
use Rattle.civl_tree.specs.declared.action.Mode.{Mode}
use Rattle.civl_tree.specs.declared.action.Mode.TheVariants.{Val, Lend, Take, Give}
use Rattle.civl_tree.specs.declared.action.Param.{Param}
use Rattle.civl_tree.specs.declared.program.Global.{Global}
use Rattle.civl_tree.specs.declared.program.Program.{Program}
use Rattle.civl_tree.specs.rules.Count.{is_within}
use Rattle.civl_tree.specs.rules.Width.{is_linear, param_width}
use Rattle.civl_tree.specs.rules.Rules.{Keeps}
use Rattle.civl_tree.specs.rules.Typing.{typing_rules, count_rule, width_rule}
use Rattle.civl_tree.proofs.Kept.{header_kept, global_kept, action_kept, count_among, width_among}
use Rattle.civl_tree.proofs.Lists.{heads}
use Rattle.civl_tree.proofs.Parts.{any_split}
use Rattle.civl_firing.proofs.SortLimits.{linear_sort}
use Rattle.civl_terms.specs.declared.node.Node.{Node}
use Rattle.civl_terms.specs.Graphs.{value_at, sort_at}
use Rattle.civl_terms.specs.Building.{Grows}
use Rattle.civl_actions.specs.Scopes.{AreOf}
use Rattle.civl_actions.specs.Actions.{values_at}
use Rattle.civl_meaning.specs.Permissions.{permissions_of_word, permissions_of_global, of_globals, of_params}
use Rattle.civl_linear.specs.Modes.{is_lent}
use Rattle.civl_conditions.specs.Permissions.{of_modes}
use Rattle.civl_conditions.specs.Weights.{lin}
use Rattle.civl_states.specs.declared.formula_parts.carried.Carried.{Carried}
use Rattle.civl_states.specs.formula_parts.Said.{Env, IsSaid}
use Rattle.civl_states.specs.formula_parts.Masks.{AreCarried, joining_weight}
use Rattle.civl_states.proofs.formula_parts.Carrying.{itself, said_here, carried_as}
use Rattle.civl_states.proofs.formula_parts.CarriedWeights.{carried_weight, HasMask, weight_more, carried_small}
use Rattle.civl_states.specs.declared.items.Which.{Which}
use Rattle.civl_states.specs.declared.items.Which.TheVariants.{Linear, Lent}
use Rattle.civl_states.specs.Items.{picked, is_which, of_which, HaveWidths, HasItems, items_weight}

-- ---- those of a list

map_if : {A B : Type 0} (f : A → B) (b : Bool) (x : A) → map f (if b then x ∷ [] else []) ≡ (if b then f x ∷ [] else [])
map_if f true x = refl
map_if f false x = refl

pub map_picked : {A B C : Type 0} (f : B → C) (test : A → Bool) (ts : List A) (xs : List B) → map f (picked test ts xs) ≡ picked test ts (map f xs)
map_picked f test [] xs = refl
map_picked f test (a ∷ ts) [] = refl
map_picked f test (a ∷ ts) (x ∷ xs) =
    map-append f (if test a then x ∷ [] else []) (picked test ts xs) ∙ ap₂ (λ (s t : List _). s ++ t) (map_if f (test a) x) (map_picked f test ts xs)

long_if : {A B : Type 0} (b : Bool) (a : A) (ts : List A) (x : B) (xs : List B) → length xs ≡ length ts
    → length ((if b then x ∷ [] else []) ++ xs) ≡ length (cond b (a ∷ ts) ts)
long_if true a ts x xs e = ap suc e
long_if false a ts x xs e = e

-- they are as many as the things that pass
pub picked_long : {A B : Type 0} (test : A → Bool) (ts : List A) (xs : List B) → length xs ≡ length ts → length (picked test ts xs) ≡ length (filter test ts)
picked_long test [] xs e = refl
picked_long test (a ∷ ts) [] e = absurd (omega (arith, e))
picked_long test (a ∷ ts) (x ∷ xs) e = long_if (test a) a (filter test ts) x (picked test ts xs) (picked_long test ts xs (omega (arith, e)))

all_if : {X : Type 0} (P : X → Type 0) (b : Bool) (x : X) (xs : List X) → (b ≡ true → P x) → All P xs → All P ((if b then x ∷ [] else []) ++ xs)
all_if P true x xs p h = All-cons P x xs (p refl) h
all_if P false x xs p h = h

-- those of the things that pass have one sort, where that is so of each thing
pub picked_sorted : {A : Type 0} (ns : List Node) (s : Sort) (test : A → Bool) (sort_of : A → Sort) (ts : List A) (ids : List ℕ)
    → AreOf ns ids (map sort_of ts) → ((place : ℕ) (a : A) → slice_get ts place ≡ Some a → test a ≡ true → sort_of a ≡ s) → All (λ i. sort_at ns i ≡ Some s) (picked test ts ids)
picked_sorted ns s test sort_of [] ids e h = All-nil (λ i. sort_at ns i ≡ Some s)
picked_sorted ns s test sort_of (a ∷ ts) [] e h = All-nil (λ i. sort_at ns i ≡ Some s)
picked_sorted ns s test sort_of (a ∷ ts) (i ∷ ids) e h =
    let parts = heads (sort_at ns i) (Some (sort_of a)) (map (sort_at ns) ids) (map (λ (t : Sort). Some t) (map sort_of ts)) e in
    all_if (λ j. sort_at ns j ≡ Some s) (test a) i (picked test ts ids) (λ p. parts.0 ∙ ap (λ (t : Sort). Some t) (h zero a refl p))
    (picked_sorted ns s test sort_of ts ids parts.1 (λ place b at. h (suc place) b at))

pub sorted_long : {A : Type 0} (ns : List Node) (ids : List ℕ) (sort_of : A → Sort) (ts : List A) → AreOf ns ids (map sort_of ts) → length ids ≡ length ts
sorted_long ns ids sort_of ts e = sym (length-map ids (sort_at ns)) ∙ ap length e ∙ length-map (map sort_of ts) (λ (s : Sort). Some s) ∙ length-map ts sort_of

picked_none : {A B : Type 0} (test : A → Bool) (ts : List A) → picked {A = A} {B = B} test ts [] ≡ []
picked_none test [] = refl
picked_none test (t ∷ ts) = refl

-- a loop that goes over a list of terms and keeps some: one more was kept, or wasn't, or the list is at its end
module _ {A : Type 0} (test : A → Bool) (ts : List A) (ids : List ℕ) (i : ℕ) where
  module _ (t : A) (there : i < length ts) (is : t ≡ get_or ts i t) (below : i < length ids) where
    picked_here : picked test (drop i ts) (drop i ids) ≡ (if test t then get_or ids i 0 ∷ [] else []) ++ picked test (drop (i + 1) ts) (drop (i + 1) ids)
    picked_here = ap₂ (picked test) (drop_more ts i t there ∙ ap (λ u. u ∷ drop (i + 1) ts) (sym is)) (drop_more ids i 0 below)

    pub picked_kept : (kept more whole : List ℕ) → test t ≡ true → more ≡ kept ++ get_or ids i 0 ∷ [] → kept ++ picked test (drop i ts) (drop i ids) ≡ whole
        → more ++ picked test (drop (i + 1) ts) (drop (i + 1) ids) ≡ whole
    picked_kept kept more whole p e h =
        let rest = picked test (drop (i + 1) ts) (drop (i + 1) ids) in
        ap (λ l. l ++ rest) e ∙ append_assoc kept (get_or ids i 0 ∷ []) rest
        ∙ ap (λ l. kept ++ l) (sym (picked_here ∙ ap (λ b. (if b then get_or ids i 0 ∷ [] else []) ++ rest) p)) ∙ h

    pub picked_passed : (kept more whole : List ℕ) → test t ≡ false → more ≡ kept → kept ++ picked test (drop i ts) (drop i ids) ≡ whole
        → more ++ picked test (drop (i + 1) ts) (drop (i + 1) ids) ≡ whole
    picked_passed kept more whole p e h =
        let rest = picked test (drop (i + 1) ts) (drop (i + 1) ids) in
        ap (λ l. l ++ rest) e ∙ ap (λ l. kept ++ l) (sym (picked_here ∙ ap (λ b. (if b then get_or ids i 0 ∷ [] else []) ++ rest) p)) ∙ h

  pub picked_end : (kept whole : List ℕ) → length ids ≤ i → kept ++ picked test (drop i ts) (drop i ids) ≡ whole → kept ≡ whole
  picked_end kept whole l h = sym (append-nil kept) ∙ ap (λ r. kept ++ r) (sym (ap (picked test (drop i ts)) (drop_all i ids l) ∙ picked_none test (drop i ts))) ∙ h

-- ---- what they carry

carried_if : (per : Value → List ℕ) (b : Bool) (v : Value) → map per (if b then v ∷ [] else []) ≡ (if b then per v ∷ [] else [])
carried_if per true v = refl
carried_if per false v = refl

carried_next : (per : Value → List ℕ) (b : Bool) (v : Value) (vs : List Value) (rest : List (List ℕ)) → rest ≡ map per vs
    → (if b then per v ∷ [] else []) ++ rest ≡ map per ((if b then v ∷ [] else []) ++ vs)
carried_next per b v vs rest e = ap₂ (λ (s t : List (List ℕ)). s ++ t) (sym (carried_if per b v)) e ∙ sym (map-append per (if b then v ∷ [] else []) vs)

pub of_globals_is : (gs : List Global) (vs : List Value) → of_globals gs vs ≡ map permissions_of_global (picked (λ g. g.linear) gs vs)
of_globals_is [] vs = refl
of_globals_is (g ∷ gs) [] = refl
of_globals_is (g ∷ gs) (v ∷ vs) = carried_next permissions_of_global g.linear v (picked (λ h. h.linear) gs vs) (of_globals gs vs) (of_globals_is gs vs)

of_params_is : (ps : List Param) (vs : List Value) → of_params ps vs ≡ map permissions_of_word (picked (λ p. is_linear p.mode) ps vs)
of_params_is [] vs = refl
of_params_is (p ∷ ps) [] = refl
of_params_is (p ∷ ps) (v ∷ vs) = carried_next permissions_of_word (is_linear p.mode) v (picked (λ q. is_linear q.mode) ps vs) (of_params ps vs) (of_params_is ps vs)

of_modes_is : (test : Mode → Bool) (ps : List Param) (vs : List Value) → of_modes test ps vs ≡ map permissions_of_word (picked (λ p. test p.mode) ps vs)
of_modes_is test [] vs = refl
of_modes_is test (p ∷ ps) [] = refl
of_modes_is test (p ∷ ps) (v ∷ vs) = carried_next permissions_of_word (test p.mode) v (picked (λ q. test q.mode) ps vs) (of_modes test ps vs) (of_modes_is test ps vs)

pub of_which_is : (which : Which) (ps : List Param) (vs : List Value) → of_which which ps vs ≡ map permissions_of_word (picked (λ p. is_which which p.mode) ps vs)
of_which_is Linear ps vs = of_params_is ps vs
of_which_is Lent ps vs = of_modes_is is_lent ps vs

-- what those terms of a list carry that were kept
pub kept_items : {A : Type 0} (per : Value → List ℕ) (test : A → Bool) (ts : List A) (ns : List Node) (env : Env) (ids kept : List ℕ) (vs : List Value)
    → kept ≡ picked test ts ids → values_at env ns ids ≡ vs → map per (values_at env ns kept) ≡ map per (picked test ts vs)
kept_items per test ts ns env ids kept vs e v =
    ap (map per) (ap (values_at env ns) e ∙ map_picked (value_at env ns) test ts ids ∙ ap (picked test ts) v)

-- so many were kept
pub kept_long : {A : Type 0} (test : A → Bool) (sort_of : A → Sort) (ts : List A) (ns : List Node) (ids kept : List ℕ)
    → kept ≡ picked test ts ids → AreOf ns ids (map sort_of ts) → length kept ≡ length (filter test ts)
kept_long test sort_of ts ns ids kept e sorted = ap length e ∙ picked_long test ts ids (sorted_long ns ids sort_of ts sorted)

-- ---- one item more

one_more : (per : Value → List ℕ) (xs : List (List ℕ)) (at : ℕ → Value) (ids : List ℕ) (i : ℕ)
    → (xs ++ map per (map at ids)) ++ per (at i) ∷ [] ≡ xs ++ map per (map at (ids ++ i ∷ []))
one_more per xs at ids i =
    append_assoc xs (map per (map at ids)) (per (at i) ∷ [])
    ∙ ap (λ (t : List (List ℕ)). xs ++ t) (sym (ap (map per) (map-append at ids (i ∷ [])) ∙ map-append per (map at ids) (at i ∷ [])))

pub items_step : (per : Value → List ℕ) (s : Sort) {old now later : List Node} {bits : ℕ} {c0 c1 c2 : Carried} (ids : List ℕ) (i : ℕ) → Grows old now
    → ((f : Env → List (List ℕ)) → AreCarried old bits c0 f → AreCarried now bits c1 (λ env. f env ++ map per (values_at env old ids)))
    → ((f : Env → List (List ℕ)) (g : Env → Value) → AreCarried now bits c1 f → IsSaid now i s g → AreCarried later bits c2 (λ env. f env ++ per (g env) ∷ []))
    → sort_at old i ≡ Some s
    → (f : Env → List (List ℕ)) → AreCarried old bits c0 f → AreCarried later bits c2 (λ env. f env ++ map per (values_at env old (ids ++ i ∷ [])))
items_step per s {old = old} ids i grows so_far adds sorted f h =
    carried_as (λ env. (f env ++ map per (values_at env old ids)) ++ per (value_at env old i) ∷ []) (λ env. f env ++ map per (values_at env old (ids ++ i ∷ [])))
    (λ env fits. one_more per (f env) (value_at env old) ids i)
    (adds (λ env. f env ++ map per (values_at env old ids)) (λ env. value_at env old i) (so_far f h) (said_here grows (itself sorted)))

pub items_begin : (per : Value → List ℕ) {ns : List Node} {bits : ℕ} {c : Carried} (f : Env → List (List ℕ)) → AreCarried ns bits c f → AreCarried ns bits c (λ env. f env ++ map per (values_at env ns []))
items_begin per {ns = ns} f h = carried_as f (λ env. f env ++ map per (values_at env ns [])) (λ env fits. sym (append-nil (f env))) h

-- ---- what they weigh

weight_same : (bits n : ℕ) → items_weight bits n ≡ carried_weight bits n
weight_same bits zero = refl
weight_same bits (suc zero) = refl
weight_same bits (suc (suc n)) = ap (λ k. k + (6 * bits + 1 + (3 * bits + 1))) (weight_same bits (suc n))

mask_same : (mask : Option ℕ) (n : ℕ) → HasItems mask n → HasMask mask n
mask_same None n h = h
mask_same (Some mask) n h = h

items_more : (mask : Option ℕ) (n : ℕ) → IsSome mask → HasItems mask (n + 1)
items_more None n h = absurd (false≢true h)
items_more (Some mask) n h = omega arith

weighs_more : (bits n : ℕ) (mask : Option ℕ) → HasItems mask n → items_weight bits (n + 1) ≡ items_weight bits n + (6 * bits + 1 + joining_weight bits mask)
weighs_more bits n mask h =
    weight_same bits (n + 1) ∙ weight_more bits n mask (mask_same mask n h) ∙ ap (λ k. k + (6 * bits + 1 + joining_weight bits mask)) (sym (weight_same bits n))

pub mask_next : (mask : Option ℕ) (n k : ℕ) → IsSome mask → HasItems mask (n + (k + 1))
mask_next mask n k h = let e : n + k + 1 ≡ n + (k + 1) = omega arith in subst (HasItems mask) e (items_more mask (n + k) h)

pub weight_begin : (bits n weight : ℕ) → weight + items_weight bits n ≤ weight + items_weight bits (n + 0)
weight_begin bits n weight = let same : n ≡ n + 0 = omega arith in omega (arith, ap (items_weight bits) same)

pub weight_next : (bits n k before now later : ℕ) (mask : Option ℕ) → HasItems mask (n + k) → now + items_weight bits n ≤ before + items_weight bits (n + k)
    → later ≤ now + (6 * bits + 1) + joining_weight bits mask → later + items_weight bits n ≤ before + items_weight bits (n + (k + 1))
weight_next bits n k before now later mask h e l =
    let more = weighs_more bits (n + k) mask h in
    let same : n + k + 1 ≡ n + (k + 1) = omega arith in
    omega (arith, e, l, more, ap (items_weight bits) same)

-- so many weigh no more than four times what a program's weight counts for them
pub items_small : (program : Program) (n : ℕ) → 1 ≤ program.permissions → items_weight (2 ^ program.permissions) n ≤ 4 * lin program n
items_small program n l = omega (arith, weight_same (2 ^ program.permissions) n, carried_small program.permissions n l)

-- what weighs nothing has no items
pub none_counted : (mask : Option ℕ) → mask ≡ None → HasItems mask 0
none_counted mask e = subst (λ o. HasItems o 0) (sym e) refl

-- so many items behind none
pub first_counted : (mask : Option ℕ) (n : ℕ) → HasItems mask (0 + n) → HasItems mask n
first_counted mask n h = let same : 0 + n ≡ n = omega arith in subst (HasItems mask) same h

pub first_weighs : (bits n : ℕ) → items_weight bits (0 + n) ≡ items_weight bits n
first_weighs bits n = let same : 0 + n ≡ n = omega arith in ap (items_weight bits) same

-- ---- what a checked program keeps

pub same_some : {A : Type 0} (o : Option A) (a b : A) → o ≡ Some a → o ≡ Some b → a ≡ b
same_some o a b p q = cc

module _ (program : Program) (keeps : Keeps typing_rules program) where
  permissions_within : is_within 1 5 program.permissions ≡ true
  permissions_within =
      let header = header_kept typing_rules program keeps count_rule count_among in
      not-false _ (or_parts _ _ (or_parts _ _ header).1).1

  pub permissions_some : 1 ≤ program.permissions
  permissions_some = leb-true 1 program.permissions (and_parts _ _ permissions_within).0

  pub permissions_few : program.permissions ≤ 5
  permissions_few = leb-true program.permissions 5 (and_parts _ _ permissions_within).1

  pub global_sorted : (place : ℕ) (g : Global) → slice_get program.globals place ≡ Some g → g.linear ≡ true → g.sort ≡ Word (2 ^ program.permissions)
  global_sorted place g at p =
      linear_sort g.linear g.sort (Word (2 ^ program.permissions)) (or_parts _ _ (global_kept typing_rules program keeps width_rule width_among place g at)).1 p

  -- the parameters and the outputs of an action
  pub action_wide : (place : ℕ) (a : Action) → slice_get program.actions place ≡ Some a → HaveWidths program a.params × HaveWidths program a.outs
  action_wide place a at = any_split (param_width program) a.params a.outs (or_parts _ _ (action_kept typing_rules program keeps width_rule width_among place a at)).0

  which_linear : (which : Which) (mode : Mode) → is_which which mode ≡ true → is_linear mode ≡ true
  which_linear Linear mode e = e
  which_linear Lent Val e = absurd (false≢true e)
  which_linear Lent Lend e = refl
  which_linear Lent Take e = absurd (false≢true e)
  which_linear Lent Give e = absurd (false≢true e)

  param_sorted : (which : Which) (p : Param) → param_width program p ≡ false → is_which which p.mode ≡ true → p.sort ≡ Word program.permissions
  param_sorted which p e h = linear_sort (is_linear p.mode) p.sort (Word program.permissions) (or_parts _ _ e).1 (which_linear which p.mode h)

  pub params_sorted : (which : Which) (ps : List Param) → HaveWidths program ps → (place : ℕ) (p : Param) → slice_get ps place ≡ Some p → is_which which p.mode ≡ true → p.sort ≡ Word program.permissions
  params_sorted which [] e place p at h = absurd (cc)
  params_sorted which (q ∷ ps) e zero p at h =
      let same : q ≡ p = cc in
      param_sorted which p (subst (λ r. param_width program r ≡ false) same (or_parts _ _ e).0) h
  params_sorted which (q ∷ ps) e (suc place) p at h = params_sorted which ps (or_parts _ _ e).1 place p at h
