-- Which actions keep permissions: those whose first layer is below the top by K2, and the others by a goal, or because they move none.
use Rattle.std.proofs.Common.{◌≡◌, ℕ, ◌+◌, ◌<◌, ◌≤◌, Bool, true, false, not, ◌&&◌, List, [], ◌∷◌, ◌++◌, Option, Some, None, refl, sym, ap, ap₂, ◌∙◌, inl, inr, ◌⊎◌, arith}
use Rattle.std.specs.Prelude.{slice_get, nat_eq, flat_map, ◌==◌, if◌then◌else◌}
use Rattle.std.specs.List.{list_any, list_all}
use Rattle.std.proofs.lemmas.Bool.{or_parts, or_left, or_right, and_parts, and_from, eq-eqb, cases_lt, false≢true, and_right, and_left}
use Rattle.civl_bits.specs.declared.value.Value.{Value}
use Rattle.civl_tree.specs.declared.action.Action.{Action}
use Rattle.civl_tree.specs.declared.action.Mode.{Mode}
use Rattle.civl_tree.specs.declared.action.Mode.TheVariants.{Val, Lend, Take, Give}
use Rattle.civl_tree.specs.declared.action.Param.{Param}
use Rattle.civl_tree.specs.declared.program.Global.{Global}
use Rattle.civl_tree.specs.declared.program.Program.{Program}
use Rattle.civl_tree.specs.SpellingDomain.{is_out_mode, allows_name, allows_param, allows_out, allows_global, allows_expr, allows_invariant, allows_action, allows_program}
use Rattle.civl_tree.specs.rules.Names.{has_name, targets_of}
use Rattle.civl_tree.specs.rules.Width.{is_linear}
use Rattle.civl_tree.proofs.Bools.{not_second}
use Rattle.civl_tree.proofs.Lists.{all_get}
use Rattle.civl_outlines.specs.declared.outline.Outline.{Outline}
use Rattle.civl_firing.specs.declared.store.Store.{Store}
use Rattle.civl_firing.specs.Stores.{IsStore}
use Rattle.civl_meaning.specs.Permissions.{permissions_of_word, pairwise_disjoint, of_params}
use Rattle.civl_layers.specs.Layered.{IsLayered}
use Rattle.civl_linear.specs.Modes.{is_lent, is_given}
use Rattle.civl_conditions.specs.footprints.Agreement.{no_target}
use Rattle.civl_conditions.proofs.footprints.Keeping.{keeps_others}
use Rattle.civl_conditions.specs.declared.condition.Condition.TheVariants.{Keep}
use Rattle.civl_conditions.specs.Steps.{begins_below}
use Rattle.civl_conditions.specs.Values.{Invoked}
use Rattle.civl_conditions.specs.Permissions.{in_store, of_modes, included}
use Rattle.civl_conditions.specs.Movers.{on_some, gate_of, fires_of, loses}
use Rattle.civl_conditions.specs.Violated.{Holds}
use Rattle.civl_condition_laws.proofs.Carrying.{LinearPass, same_linear}
use Rattle.civl_condition_laws.proofs.Meeting.{actions_of_states}
use Rattle.civl_reduction.specs.permissions.Stay.{KeepsPermissions}
use Rattle.civl_goals.specs.declared.goal.Goal.TheVariants as goal
use Rattle.civl_goals.specs.Variables.{variables}
use Rattle.civl_goals.specs.Listed.{moves_permissions}
use Rattle.civl_goals.specs.Failed.{failed}
use Rattle.civl_safety.specs.Outlined.{IsOutlined, LowerKeepPermissions}
use Rattle.civl_safety.proofs.Listing.{none_at}
use Rattle.civl_safety.proofs.Listed.{linear_listed}

-- ---- nothing linear

lent_linear : (m : Mode) → is_linear m ≡ false → is_lent m ≡ false
lent_linear Val e = refl
lent_linear Lend e = absurd (false≢true (sym e))
lent_linear Take e = refl
lent_linear Give e = refl

none_lent : (ps : List Param) (vs : List Value) → list_any (λ p. is_linear p.mode) ps ≡ false → of_modes is_lent ps vs ≡ []
none_lent [] vs h = refl
none_lent (p ∷ ps) [] h = refl
none_lent (p ∷ ps) (v ∷ vs) h =
    let q = or_parts (is_linear p.mode) (list_any (λ (x : Param). is_linear x.mode) ps) h in
    ap₂ (λ (b : Bool) (l : List (List ℕ)). (if b then permissions_of_word v ∷ [] else []) ++ l) (lent_linear p.mode q.0) (none_lent ps vs q.1)

none_linear : (ps : List Param) (vs : List Value) → list_any (λ p. is_linear p.mode) ps ≡ false → of_params ps vs ≡ []
none_linear [] vs h = refl
none_linear (p ∷ ps) [] h = refl
none_linear (p ∷ ps) (v ∷ vs) h =
    let q = or_parts (is_linear p.mode) (list_any (λ (x : Param). is_linear x.mode) ps) h in
    ap₂ (λ (b : Bool) (l : List (List ℕ)). (if b then permissions_of_word v ∷ [] else []) ++ l) q.0 (none_linear ps vs q.1)

-- what is among these is included in them
all_among : (xs ys : List ℕ) → ((p : ℕ) → list_any (nat_eq p) xs ≡ true → list_any (nat_eq p) ys ≡ true) → list_all (λ p. list_any (nat_eq p) ys) xs ≡ true
all_among [] ys h = refl
all_among (x ∷ xs) ys h =
    and_from (list_any (nat_eq x) ys) (list_all (λ p. list_any (nat_eq p) ys) xs) (h x (or_left (nat_eq x x) (list_any (nat_eq x) xs) (eq-eqb x x refl)))
    (all_among xs ys (λ p k. h p (or_right (nat_eq p x) (list_any (nat_eq p) xs) k)))

included_self : (ps : List (List ℕ)) → included ps ps ≡ true
included_self ps = all_among (flat_map (λ qs. qs) ps) (flat_map (λ qs. qs) ps) (λ p h. h)

-- outputs that the grammar can write
outs_linear : (m : Mode) → is_out_mode m ≡ true → is_linear m ≡ is_given m
outs_linear Val e = refl
outs_linear Lend e = absurd (false≢true e)
outs_linear Take e = absurd (false≢true e)
outs_linear Give e = refl

none_given : (outs : List Param) (vs : List Value) → list_all allows_out outs ≡ true → list_any (λ p. is_given p.mode) outs ≡ false → of_params outs vs ≡ []
none_given [] vs w h = refl
none_given (p ∷ ps) [] w h = refl
none_given (p ∷ ps) (v ∷ vs) w h =
    let q = or_parts (is_given p.mode) (list_any (λ (x : Param). is_given x.mode) ps) h in
    let a = and_parts (allows_out p) (list_all allows_out ps) w in
    ap₂ (λ (b : Bool) (l : List (List ℕ)). (if b then permissions_of_word v ∷ [] else []) ++ l) (outs_linear p.mode (and_parts (is_out_mode p.mode) (allows_name p.name) a.0).0 ∙ q.0) (none_given ps vs a.1 q.1)

-- ---- an action that moves no permissions

module _ (program : Program) (a : Action) (outs : list_all allows_out a.outs ≡ true) (still : moves_permissions program a ≡ false) where
  inputs_still : list_any (λ p. is_linear p.mode) a.params ≡ false
  inputs_still = (or_parts (list_any (λ p. is_linear p.mode) a.params) _ still).0

  outs_still : list_any (λ p. is_given p.mode) a.outs ≡ false
  outs_still = (or_parts (list_any (λ p. is_given p.mode) a.outs) _ (or_parts (list_any (λ p. is_linear p.mode) a.params) _ still).1).0

  globals_still : list_any (λ g. g.linear && has_name (targets_of a) g.name) program.globals ≡ false
  globals_still = (or_parts (list_any (λ p. is_given p.mode) a.outs) _ (or_parts (list_any (λ p. is_linear p.mode) a.params) _ still).1).1

  linear_kept : LinearPass (no_target a) program.globals
  linear_kept place g there is = ap not (not_second g.linear (has_name (targets_of a) g.name) is (none_at (λ (g : Global). g.linear && has_name (targets_of a) g.name) program.globals place g there globals_still))

  module _ (store : Store) (fit : IsStore program.globals store) (inputs chosen : List Value) where
    abbrev x : Invoked
    x = record { action = a; inputs = inputs; chosen = chosen }

    store_still : (after : Store × List Value) → fires_of program store x ≡ Some after → in_store program after.0 ≡ in_store program store
    store_still after e = sym (same_linear (no_target a) program.globals store.values after.0.values linear_kept (keeps_others program.globals store a inputs chosen after fit e))

    out_still : (after : Store × List Value) → fires_of program store x ≡ Some after → in_store program after.0 ++ (of_modes is_lent a.params inputs ++ of_params a.outs after.1) ≡ in_store program store ++ of_params a.params inputs
    out_still after e =
        ap₂ (λ (ps qs : List (List ℕ)). ps ++ qs) (store_still after e)
        (ap₂ (λ (ps qs : List (List ℕ)). ps ++ qs) (none_lent a.params inputs inputs_still) (none_given a.outs after.1 outs outs_still) ∙ sym (none_linear a.params inputs inputs_still))

    pub still_keeps : loses program store x ≡ false
    still_keeps = by_apart (pairwise_disjoint (in_store program store ++ of_params a.params inputs)) refl
      where
        by_fires : pairwise_disjoint (in_store program store ++ of_params a.params inputs) ≡ true → (o : Option (Store × List Value)) → fires_of program store x ≡ o →
            on_some o (λ b. not (pairwise_disjoint (in_store program b.0 ++ (of_modes is_lent a.params inputs ++ of_params a.outs b.1)) && included (in_store program b.0 ++ (of_modes is_lent a.params inputs ++ of_params a.outs b.1)) (in_store program store ++ of_params a.params inputs))) ≡ false
        by_fires d None e = refl
        by_fires d (Some after) e =
            ap (λ (out : List (List ℕ)). not (pairwise_disjoint out && included out (in_store program store ++ of_params a.params inputs))) (out_still after e)
            ∙ ap not (and_from (pairwise_disjoint (in_store program store ++ of_params a.params inputs)) _ d (included_self (in_store program store ++ of_params a.params inputs)))

        by_apart : (b : Bool) → pairwise_disjoint (in_store program store ++ of_params a.params inputs) ≡ b →
            (pairwise_disjoint (in_store program store ++ of_params a.params inputs)
            && (gate_of program store x
            && on_some (fires_of program store x) (λ b. not (pairwise_disjoint (in_store program b.0 ++ (of_modes is_lent a.params inputs ++ of_params a.outs b.1)) && included (in_store program b.0 ++ (of_modes is_lent a.params inputs ++ of_params a.outs b.1)) (in_store program store ++ of_params a.params inputs))))) ≡ false
        by_apart true d = and_right _ _ (and_right (gate_of program store x) _ (by_fires d (fires_of program store x) refl))
        by_apart false d = and_left _ _ d

-- ---- all

module _ (program : Program) (written : allows_program program ≡ true) (layered : IsLayered program) (outline : Outline) (o : IsOutlined program outline) (lower : LowerKeepPermissions program) where
  outs_written : (number : ℕ) (a : Action) → slice_get program.actions number ≡ Some a → list_all allows_out a.outs ≡ true
  outs_written number a at =
      let one = and_parts (list_all allows_global program.globals) _ written in
      let two = and_parts (allows_expr (program.version == 2) program.init) _ one.1 in
      let three = and_parts (list_all (allows_invariant (program.version == 2)) program.invariants) _ two.1 in
      let four = and_parts (list_all (allows_action (program.version == 2)) program.actions) _ three.1 in
      let this = all_get (allows_action (program.version == 2)) program.actions number a four.0 at in
      (and_parts (list_all allows_out a.outs) _ (and_parts (list_all allows_param a.params) _ (and_parts (allows_name a.name) _ this).1).1).0

  keep_holds : (number : ℕ) (a : Action) → slice_get program.actions number ≡ Some a → a.first ≡ program.layers → moves_permissions program a ≡ true → Holds program (Keep (program.layers + 1) number)
  unfolding failed variables
  keep_holds number a at first m = o.hold (goal.Linear number) (linear_listed program outline number a at (eq-eqb a.first program.layers first) m)

  top_keeps : (number : ℕ) (a : Action) → slice_get program.actions number ≡ Some a → a.first ≡ program.layers → KeepsPermissions program a
  top_keeps number a at first store inputs chosen fit sorted also = by_moves (moves_permissions program a) refl
    where
      begins : begins_below (program.layers + 1) a ≡ true
      begins = eq-eqb (a.first + 1) (program.layers + 1) (ap (λ (n : ℕ). n + 1) first)

      by_moves : (b : Bool) → moves_permissions program a ≡ b → loses program store (record { action = a; inputs = inputs; chosen = chosen }) ≡ false
      by_moves true m = (actions_of_states program layered).keeps (program.layers + 1) number store (record { action = a; inputs = inputs; chosen = chosen }) (keep_holds number a at first m) fit (record { action = at; inputs = sorted; chosen = also }) begins
      by_moves false m = still_keeps program a (outs_written number a at) m store fit inputs chosen

  pub all_keep : (number : ℕ) (a : Action) → slice_get program.actions number ≡ Some a → a.first ≤ program.layers → KeepsPermissions program a
  all_keep number a at low = go (cases_lt a.first program.layers)
    where
      go : (a.first < program.layers) ⊎ (program.layers ≤ a.first) → KeepsPermissions program a
      go (inl l) = lower number a at l
      go (inr h) = top_keeps number a at (omega (arith, low, h))
