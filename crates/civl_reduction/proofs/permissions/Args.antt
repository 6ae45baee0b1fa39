-- The linear arguments of a call: what their values carry, and what is held without them.
use Rattle.std.proofs.Common.{◌≡◌, ℕ, zero, suc, ◌+◌, ◌≤◌, Bool, true, false, not, ◌&&◌, List, [], ◌∷◌, ◌++◌, length, refl, sym, ap, ap₂, ◌∙◌, arith, Some, slice_index_or, add-one, inl, inr, ◌⊎◌}
use Rattle.std.specs.Prelude.{if◌then◌else◌}
use Rattle.std.specs.List.{list_all, list_any, flat_map}
use Rattle.std.proofs.lemmas.Bool.{false≢true, or_parts, not-false, or_left, or_right, or_cases, and_parts, and_from, both_ways}
use Rattle.civl_bits.specs.declared.value.Value.{Value}
use Rattle.civl_firing.specs.values.Operators.{nothing}
use Rattle.civl_tree.specs.declared.name.Name.{Name}
use Rattle.civl_tree.specs.declared.expr.Expr.{Expr, out-Expr, roll-out-Expr, map-Expr}
use Rattle.civl_tree.specs.declared.expr.Expr.TheOpen as expr
use Rattle.civl_tree.specs.declared.expr.Expr.TheFolds.{fold-roll-Expr}
use Rattle.civl_tree.specs.declared.action.Mode.{Mode}
use Rattle.civl_tree.specs.declared.action.Mode.TheVariants.{Val, Lend, Take, Give}
use Rattle.civl_tree.specs.declared.action.Param.{Param}
use Rattle.civl_tree.specs.declared.program.Global.{Global}
use Rattle.civl_tree.specs.declared.program.Proc.{Proc}
use Rattle.civl_tree.specs.rules.Names.{same_name, has_name, global_names, names_in_proc}
use Rattle.civl_tree.specs.rules.Width.{is_linear}
use Rattle.civl_tree.specs.SpellingDomain.{is_param_mode, allows_name, allows_param}
use Rattle.civl_tree.proofs.Naming.{has_first, has_second}
use Rattle.civl_firing.specs.declared.scope.Scope.{Scope}
use Rattle.civl_firing.specs.Truth.{place_of}
use Rattle.civl_firing.specs.Eval.{look, value_step, value_of, values_of}
use Rattle.civl_firing.specs.Scope.{frame_values, zeros_of_globals}
use Rattle.civl_meaning.specs.Permissions.{permissions_of_word, of_params}
use Rattle.civl_linear.specs.Modes.{is_passed, is_taken, is_lent, is_given, at_modes, form_name, plain_name, passed_names}
use Rattle.civl_linear.specs.Held.{holds, without_names}
use Rattle.civl_linear.specs.Places.{may_pass, is_held_name, not_held}
use Rattle.civl_conditions.specs.Permissions.{of_modes}
use Rattle.civl_reduction.proofs.permissions.Counting.{carriers}
use Rattle.civl_reduction.proofs.permissions.Flags.{IsWithin, same_back, holds_has, under}

-- ---- the value of a name

-- among the first of two lists
look_front : (names more : List Name) (vs ws : List Value) (x : Name) → length vs ≡ length names → has_name names x ≡ true → look (names ++ more) (vs ++ ws) x ≡ look names vs x
look_front [] more vs ws x e h = absurd (false≢true h)
look_front (n ∷ ns) more [] ws x e h = absurd (omega (arith, e))
look_front (n ∷ ns) more (v ∷ vs) ws x e h = go (same_name n x) refl (look_front ns more vs ws x (omega (arith, e)))
  where
    go : (c : Bool) → same_name n x ≡ c → (has_name ns x ≡ true → look (ns ++ more) (vs ++ ws) x ≡ look ns vs x)
        → slice_index_or (v ∷ (vs ++ ws)) (if c then 0 else place_of (ns ++ more) x + 1) nothing ≡ slice_index_or (v ∷ vs) (if c then 0 else place_of ns x + 1) nothing
    go true q ih = refl
    go false q ih =
        rw (add-one (place_of (ns ++ more) x), add-one (place_of ns x))
        (ih (elim (or_cases (same_name x n) (has_name ns x) h) [ inl k ↦ absurd (both_ways (same_name n x) q (same_back x n k)) | inr k ↦ k ]))

-- an expression that is a plain name
named_value : (scope : Scope) (e : Expr) (x : Name) (others : List Name) → plain_name e ≡ x ∷ others → (value_of scope e ≡ look scope.names scope.values x) × (others ≡ [])
named_value scope e x others h = go (out-Expr e) refl h
  where
    by_form : (d : expr.Expr-F Expr) → out-Expr e ≡ d → value_of scope e ≡ value_step scope (map-Expr Expr Value (value_of scope) d)
    by_form d q = ap (value_of scope) (sym (roll-out-Expr e)) ∙ (fold-roll-Expr Value (value_step scope) (out-Expr e) ∙ ap (λ (f : expr.Expr-F Expr). value_step scope (map-Expr Expr Value (value_of scope) f)) q)

    go : (d : expr.Expr-F Expr) → out-Expr e ≡ d → form_name d ≡ x ∷ others → (value_of scope e ≡ look scope.names scope.values x) × (others ≡ [])
    go (expr.Name name) q k =
        let same : name ≡ x = cc in
        let none : [] ≡ others = cc in
        (by_form (expr.Name name) q ∙ ap (look scope.names scope.values) same, sym none)
    go _ q k = absurd cc

-- ---- what the linear arguments carry

abbrev Includes : (Mode → Bool) → Type 0
Includes test = (m : Mode) → test m ≡ true → is_passed m ≡ true

taken_passed : (m : Mode) → is_taken m ≡ true → is_passed m ≡ true
taken_passed Val e = e
taken_passed Lend e = refl
taken_passed Take e = refl
taken_passed Give e = e

pub lent_passed : (m : Mode) → is_lent m ≡ true → is_passed m ≡ true
lent_passed Val e = e
lent_passed Lend e = refl
lent_passed Take e = refl
lent_passed Give e = e

-- one argument that is held
abbrev Held : Proc → List Bool → Expr → Type 0
Held proc f e = (x : Name) × (plain_name e ≡ x ∷ []) × (holds (names_in_proc proc) f x ≡ true)

held_one : (proc : Proc) (f : List Bool) (e : Expr) → not_held proc (names_in_proc proc) f e ≡ false → Held proc f e
held_one proc f e h = go (plain_name e) refl (not-false (is_held_name proc (names_in_proc proc) f (plain_name e)) h)
  where
    nowhere : Scope
    nowhere = record { names = []; values = []; old = []; done = false; old_done = false }

    go : (l : List Name) → plain_name e ≡ l → is_held_name proc (names_in_proc proc) f l ≡ true → Held proc f e
    go [] q k = absurd (false≢true k)
    go (x ∷ others) q k =
        let none = (named_value nowhere e x others q).1 in
        (x, q ∙ ap (λ (r : List Name). x ∷ r) none, (and_parts (may_pass proc x) (holds (names_in_proc proc) f x) k).1)

module _ (globals : List Global) (proc : Proc) (locals : List Value) (same : length locals ≡ length (names_in_proc proc)) where
  abbrev names : List Name
  names = names_in_proc proc

  abbrev scope : Scope
  scope = frame_values globals proc locals

  value_held : (f : List Bool) (e : Expr) (h : Held proc f e) → value_of scope e ≡ look names locals h.0
  value_held f e h =
      (named_value scope e h.0 [] h.1).0
      ∙ look_front names (global_names globals) locals (zeros_of_globals globals) h.0 same (holds_has names f h.0 h.2)

  -- those for the parameters that pass the test
  pub args_carry : (test : Mode → Bool) → Includes test → (f : List Bool) (ps : List Param) (es : List Expr) → list_any (not_held proc names f) (at_modes is_passed ps es) ≡ false → of_modes test ps (values_of scope es) ≡ under names locals (passed_names test ps es)
  args_carry test inc f [] es h = refl
  args_carry test inc f (p ∷ ps) [] h = refl
  args_carry test inc f (p ∷ ps) (e ∷ es) h = go (is_passed p.mode) (test p.mode) (inc p.mode) h (args_carry test inc f ps es)
    where
      rest : List Name
      rest = passed_names test ps es

      go : (b c : Bool) → (c ≡ true → b ≡ true) → list_any (not_held proc names f) ((if b then e ∷ [] else []) ++ at_modes is_passed ps es) ≡ false
          → (list_any (not_held proc names f) (at_modes is_passed ps es) ≡ false → of_modes test ps (values_of scope es) ≡ under names locals (passed_names test ps es))
          → (if c then permissions_of_word (value_of scope e) ∷ [] else []) ++ of_modes test ps (values_of scope es) ≡ under names locals (flat_map plain_name ((if c then e ∷ [] else []) ++ at_modes test ps es))
      go false false i k ih = ih k
      go true false i k ih = ih (or_parts (not_held proc names f e) _ k).1
      go false true i k ih = absurd (false≢true (i refl))
      go true true i k ih =
          let a = or_parts (not_held proc names f e) (list_any (not_held proc names f) (at_modes is_passed ps es)) k in
          let one = held_one proc f e a.0 in
          ap₂ (λ (v : Value) (r : List (List ℕ)). permissions_of_word v ∷ r) (value_held f e one) (ih a.1)
          ∙ sym (ap (λ (l : List Name). under names locals (l ++ flat_map plain_name (at_modes test ps es))) one.1)

-- all of them are held
pub args_held : (proc : Proc) (f : List Bool) (ps : List Param) (es : List Expr) → list_any (not_held proc (names_in_proc proc) f) (at_modes is_passed ps es) ≡ false → list_all (holds (names_in_proc proc) f) (passed_names is_passed ps es) ≡ true
args_held proc f [] es h = refl
args_held proc f (p ∷ ps) [] h = refl
args_held proc f (p ∷ ps) (e ∷ es) h = go (is_passed p.mode) h (args_held proc f ps es)
  where
    go : (b : Bool) → list_any (not_held proc (names_in_proc proc) f) ((if b then e ∷ [] else []) ++ at_modes is_passed ps es) ≡ false
        → (list_any (not_held proc (names_in_proc proc) f) (at_modes is_passed ps es) ≡ false → list_all (holds (names_in_proc proc) f) (passed_names is_passed ps es) ≡ true)
        → list_all (holds (names_in_proc proc) f) (flat_map plain_name ((if b then e ∷ [] else []) ++ at_modes is_passed ps es)) ≡ true
    go false k ih = ih k
    go true k ih =
        let a = or_parts (not_held proc (names_in_proc proc) f e) (list_any (not_held proc (names_in_proc proc) f) (at_modes is_passed ps es)) k in
        let one = held_one proc f e a.0 in
        ap (λ (l : List Name). list_all (holds (names_in_proc proc) f) (l ++ flat_map plain_name (at_modes is_passed ps es))) one.1
        ∙ and_from (holds (names_in_proc proc) f one.0) _ one.2 (ih a.1)

-- ---- what isn't taken out

has_front : (xs ys : List Name) (n : Name) → has_name (xs ++ ys) n ≡ true → (has_name xs n ≡ true) ⊎ (has_name ys n ≡ true)
has_front [] ys n h = inr h
has_front (x ∷ xs) ys n h = elim (or_cases (same_name n x) (has_name (xs ++ ys) n) h) [
  | inl e ↦ inl (or_left (same_name n x) (has_name xs n) e)
  | inr e ↦ elim (has_front xs ys n e) [ inl q ↦ inl (or_right (same_name n x) (has_name xs n) q) | inr q ↦ inr q ]
]

abbrev Cases : List Param → Expr → List Expr → Name → Bool → Bool → Type 0
Cases ps e es n b c = (has_name (flat_map plain_name ((if b then e ∷ [] else []) ++ at_modes is_lent ps es)) n ≡ true) ⊎ (has_name (flat_map plain_name ((if c then e ∷ [] else []) ++ at_modes is_taken ps es)) n ≡ true)

-- a passed name is lent or taken
passed_cases : (ps : List Param) (es : List Expr) (n : Name) → has_name (passed_names is_passed ps es) n ≡ true → (has_name (passed_names is_lent ps es) n ≡ true) ⊎ (has_name (passed_names is_taken ps es) n ≡ true)
passed_cases [] es n h = absurd (false≢true h)
passed_cases (p ∷ ps) [] n h = absurd (false≢true h)
passed_cases (p ∷ ps) (e ∷ es) n h = go p.mode h (passed_cases ps es n)
  where
    go : (m : Mode) → has_name (flat_map plain_name ((if is_passed m then e ∷ [] else []) ++ at_modes is_passed ps es)) n ≡ true
        → (has_name (passed_names is_passed ps es) n ≡ true → (has_name (passed_names is_lent ps es) n ≡ true) ⊎ (has_name (passed_names is_taken ps es) n ≡ true)) → Cases ps e es n (is_lent m) (is_taken m)
    go Val k ih = ih k
    go Give k ih = ih k
    go Lend k ih = elim (has_front (plain_name e) (passed_names is_passed ps es) n k) [
      | inl q ↦ inl (has_first (plain_name e) (passed_names is_lent ps es) n q)
      | inr q ↦ elim (ih q) [ inl r ↦ inl (has_second (plain_name e) (passed_names is_lent ps es) n r) | inr r ↦ inr r ]
    ]
    go Take k ih = elim (has_front (plain_name e) (passed_names is_passed ps es) n k) [
      | inl q ↦ inr (has_first (plain_name e) (passed_names is_taken ps es) n q)
      | inr q ↦ elim (ih q) [ inl r ↦ inl r | inr r ↦ inr (has_second (plain_name e) (passed_names is_taken ps es) n r) ]
    ]

without_two : (one two both names : List Name) (f : List Bool) → ((n : Name) → has_name both n ≡ true → (has_name one n ≡ true) ⊎ (has_name two n ≡ true)) → IsWithin (without_names one names (without_names two names f)) (without_names both names f)
without_two one two both [] f h i e = absurd cc
without_two one two both (n ∷ ns) [] h i e = absurd cc
without_two one two both (n ∷ ns) (b ∷ f) h zero e = go b (has_name one n) (has_name two n) (has_name both n) (h n) e
  where
    go : (b x y z : Bool) → (z ≡ true → (x ≡ true) ⊎ (y ≡ true)) → ◌≡◌ {A = _} (Some ((b && not y) && not x)) (Some true) → ◌≡◌ {A = _} (Some (b && not z)) (Some true)
    go true x y false k g = refl
    go true true true true k g = absurd cc
    go true false true true k g = absurd cc
    go true true false true k g = absurd cc
    go true false false true k g = absurd (elim (k refl) [ inl q ↦ false≢true q | inr q ↦ false≢true q ])
    go false x y z k g = absurd cc
without_two one two both (n ∷ ns) (b ∷ f) h (suc i) e = without_two one two both ns f h i e

-- without the taken and the lent ones, none that were passed
pub rest_within : (ps : List Param) (es : List Expr) (names : List Name) (f : List Bool) → IsWithin (without_names (passed_names is_lent ps es) names (without_names (passed_names is_taken ps es) names f)) (without_names (passed_names is_passed ps es) names f)
rest_within ps es names f = without_two (passed_names is_lent ps es) (passed_names is_taken ps es) (passed_names is_passed ps es) names f (passed_cases ps es)

-- ---- parameters that the grammar can write

pub params_passed : (ps : List Param) (vs : List Value) → list_all allows_param ps ≡ true → of_params ps vs ≡ of_modes is_passed ps vs
params_passed [] vs h = refl
params_passed (p ∷ ps) [] h = refl
params_passed (p ∷ ps) (v ∷ vs) h =
    let a = and_parts (allows_param p) (list_all allows_param ps) h in
    ap₂ (λ (b : Bool) (r : List (List ℕ)). (if b then permissions_of_word v ∷ [] else []) ++ r) (by_mode p.mode (and_parts (is_param_mode p.mode) (allows_name p.name) a.0).0) (params_passed ps vs a.1)
  where
    by_mode : (m : Mode) → is_param_mode m ≡ true → is_linear m ≡ is_passed m
    by_mode Val e = refl
    by_mode Lend e = refl
    by_mode Take e = refl
    by_mode Give e = absurd (false≢true e)

-- what is given is linear
pub given_linear : (p : ℕ) (outs : List Param) (vs : List Value) → carriers p (of_modes is_given outs vs) ≤ carriers p (of_params outs vs)
given_linear p [] vs = omega arith
given_linear p (o ∷ outs) [] = omega arith
given_linear p (o ∷ outs) (v ∷ vs) = go o.mode (given_linear p outs vs)
  where
    go : (m : Mode) → carriers p (of_modes is_given outs vs) ≤ carriers p (of_params outs vs)
        → carriers p ((if is_given m then permissions_of_word v ∷ [] else []) ++ of_modes is_given outs vs) ≤ carriers p ((if is_linear m then permissions_of_word v ∷ [] else []) ++ of_params outs vs)
    go Val ih = ih
    go Lend ih = omega (arith, ih)
    go Take ih = omega (arith, ih)
    go Give ih = omega (arith, ih)

-- what is passed is linear
pub passed_linear : (p : ℕ) (ps : List Param) (vs : List Value) → carriers p (of_modes is_passed ps vs) ≤ carriers p (of_params ps vs)
passed_linear p [] vs = omega arith
passed_linear p (o ∷ ps) [] = omega arith
passed_linear p (o ∷ ps) (v ∷ vs) = go o.mode (passed_linear p ps vs)
  where
    go : (m : Mode) → carriers p (of_modes is_passed ps vs) ≤ carriers p (of_params ps vs)
        → carriers p ((if is_passed m then permissions_of_word v ∷ [] else []) ++ of_modes is_passed ps vs) ≤ carriers p ((if is_linear m then permissions_of_word v ∷ [] else []) ++ of_params ps vs)
    go Val ih = ih
    go Lend ih = omega (arith, ih)
    go Take ih = omega (arith, ih)
    go Give ih = omega (arith, ih)
