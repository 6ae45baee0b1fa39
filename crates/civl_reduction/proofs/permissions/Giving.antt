-- What an action hands out carries no more than what went in, where K2 holds of it.
use Rattle.std.proofs.Common.{◌≡◌, ℕ, ◌<◌, Bool, true, false, not, ◌&&◌, ◌||◌, List, [], ◌∷◌, ◌++◌, length, map, refl, sym, ap, ◌∙◌, subst, arith, Option, None, Some, inl, inr}
use Rattle.std.specs.Prelude.{nat_eq, flat_map, slice_set, if◌then◌else◌}
use Rattle.std.specs.List.{list_any}
use Rattle.std.proofs.lemmas.Bool.{false≢true, not-false, or_cases, and_parts}
use Rattle.std.proofs.lemmas.List.{length-set, length-map}
use Rattle.std.proofs.lemmas.List.Folds.{list_any-append}
use Rattle.std.proofs.lemmas.Option.{same_Some}
use Rattle.civl_bits.specs.declared.value.Value.{Value}
use Rattle.civl_firing.specs.values.Values.{HaveSorts}
use Rattle.civl_tree.specs.declared.name.Name.{Name}
use Rattle.civl_tree.specs.declared.action.Action.{Action}
use Rattle.civl_tree.specs.declared.action.Update.{Update}
use Rattle.civl_tree.specs.declared.program.Program.{Program}
use Rattle.civl_tree.specs.rules.Uses.{param_sorts}
use Rattle.civl_firing.specs.declared.store.Store.{Store}
use Rattle.civl_firing.specs.declared.scope.Scope.{Scope}
use Rattle.civl_firing.specs.Truth.{place_of}
use Rattle.civl_firing.specs.Eval.{value_of}
use Rattle.civl_firing.specs.Stores.{IsStore}
use Rattle.civl_firing.specs.Fired.{gate_holds, guard_holds, updated, store_after, outs_after, fires}
use Rattle.civl_meaning.specs.Permissions.{pairwise_disjoint, of_globals, of_params}
use Rattle.civl_linear.specs.Modes.{is_lent}
use Rattle.civl_conditions.specs.Permissions.{of_modes, included}
use Rattle.civl_conditions.specs.Movers.{on_some}
use Rattle.civl_reduction.specs.permissions.Stay.{KeepsPermissions}
use Rattle.civl_reduction.proofs.permissions.Counting.{has, one_if, carriers, all_at}

-- ---- what carries a permission, and the list of all permissions

abbrev flat : List (List ℕ) → List ℕ
flat items = flat_map (λ ps. ps) items

carried : (p : ℕ) (items : List (List ℕ)) → 0 < carriers p items → has p (flat items) ≡ true
carried p [] h = absurd (omega (arith, h))
carried p (ps ∷ items) h = go (has p ps) refl (carried p items)
  where
    go : (b : Bool) → has p ps ≡ b → (0 < carriers p items → has p (flat items) ≡ true) → has p (ps ++ flat items) ≡ true
    go true e ih = list_any-append (nat_eq p) ps (flat items) ∙ ap (λ (c : Bool). c || has p (flat items)) e
    go false e ih =
        let w = ap one_if e in
        list_any-append (nat_eq p) ps (flat items) ∙ (ap (λ (c : Bool). c || has p (flat items)) e ∙ ih (omega (arith, h, w)))

carries : (p : ℕ) (items : List (List ℕ)) → has p (flat items) ≡ true → 0 < carriers p items
carries p [] h = absurd (false≢true h)
carries p (ps ∷ items) h = elim (or_cases (has p ps) (has p (flat items)) (sym (list_any-append (nat_eq p) ps (flat items)) ∙ h)) [
  | inl e ↦ let w = ap one_if e in omega (arith, w)
  | inr e ↦ let r = carries p items e in omega (arith, r)
]

pub included_carries : (outgoing incoming : List (List ℕ)) → included outgoing incoming ≡ true → (p : ℕ) → 0 < carriers p outgoing → 0 < carriers p incoming
included_carries outgoing incoming h p c = carries p incoming (all_at (λ q. list_any (nat_eq q) (flat incoming)) (flat outgoing) p h (carried p outgoing c))

-- ---- an action

not_lost : (a b o : Bool) → a ≡ true → b ≡ true → (a && (b && o)) ≡ false → o ≡ false
not_lost true true o e g h = h
not_lost true false o e g h = absurd (false≢true g)
not_lost false b o e g h = absurd (false≢true e)

-- what goes in, and what comes out
abbrev pub incoming : Program → Store → Action → List Value → List (List ℕ)
incoming program store action inputs = of_globals program.globals store.values ++ of_params action.params inputs

abbrev pub outgoing : Program → Store → Action → List Value → List Value → List (List ℕ)
outgoing program after action inputs outs = of_globals program.globals after.values ++ (of_modes is_lent action.params inputs ++ of_params action.outs outs)

pub gives : (program : Program) (action : Action) (store after : Store) (inputs chosen outs : List Value) → KeepsPermissions program action → IsStore program.globals store → HaveSorts inputs (param_sorts action.params) → HaveSorts chosen (map (λ c. c.sort) action.choices)
    → gate_holds program.globals store action inputs ≡ true → fires program.globals store action inputs chosen ≡ Some (after, outs) → pairwise_disjoint (incoming program store action inputs) ≡ true
    → (pairwise_disjoint (outgoing program after action inputs outs) ≡ true) × ((p : ℕ) → 0 < carriers p (outgoing program after action inputs outs) → 0 < carriers p (incoming program store action inputs))
gives program action store after inputs chosen outs keeps fit ins ch gate fired apart =
    let all = keeps store inputs chosen fit ins ch in
    let none = not_lost _ _ _ apart gate all in
    let kept : not (pairwise_disjoint (outgoing program after action inputs outs) && included (outgoing program after action inputs outs) (incoming program store action inputs)) ≡ false =
    subst (λ (o : Option (Store × List Value)). on_some o (λ a. not (pairwise_disjoint (outgoing program a.0 action inputs a.1) && included (outgoing program a.0 action inputs a.1) (incoming program store action inputs))) ≡ false) fired none in
    let parts = and_parts (pairwise_disjoint (outgoing program after action inputs outs)) _ (not-false _ kept) in
    (parts.0, included_carries (outgoing program after action inputs outs) (incoming program store action inputs) parts.1)

-- ---- how many outputs there are

updated_length : (names : List Name) (values : List Value) (scope : Scope) (us : List Update) → length (updated names values scope us) ≡ length values
updated_length names values scope [] = refl
updated_length names values scope (u ∷ us) = updated_length names (slice_set values (place_of names u.target) (value_of scope u.expr)) scope us ∙ length-set values (place_of names u.target) (value_of scope u.expr)

pub outs_count : (program : Program) (action : Action) (store after : Store) (inputs chosen outs : List Value) → fires program.globals store action inputs chosen ≡ Some (after, outs) → length outs ≡ length action.outs
unfolding fires
outs_count program action store after inputs chosen outs e = go (guard_holds program.globals store action inputs chosen) e
  where
    all : length (outs_after program.globals store action inputs chosen) ≡ length action.outs
    all = updated_length _ _ _ action.updates ∙ length-map action.outs _

    go : (b : Bool) → if◌then◌else◌ {A = Option (Store × List Value)} b (Some (store_after program.globals store action inputs chosen, outs_after program.globals store action inputs chosen)) None ≡ Some (after, outs) → length outs ≡ length action.outs
    go true h = ap (λ (a : Store × List Value). length a.1) (sym (same_Some (store_after program.globals store action inputs chosen, outs_after program.globals store action inputs chosen) (after, outs) h)) ∙ all
    go false h = absurd cc
