-- What is found of parts, put together.
use Rattle.std.proofs.Common.{◌≡◌, ℕ, Bool, true, false, List, ◌++◌, map, None, sym, ap, ap₂, ◌∙◌}
use Rattle.std.specs.Prelude.{Option, ◌||◌}
use Rattle.std.specs.Option.{option_or}
use Rattle.std.proofs.lemmas.Bool.{or_right, or_left}
use Rattle.civl_tree.specs.declared.name.Name.{Name}
use Rattle.civl_tree.specs.declared.action.Action.{Action}
use Rattle.civl_tree.specs.declared.refusal.Refusal.{Refusal}
use Rattle.civl_tree.specs.rules.Names.{param_names}
use Rattle.civl_tree.specs.rules.Codes.{E11}
use Rattle.civl_tree.specs.rules.Rules.{each_place, refusal_at, first_of}
use Rattle.civl_names.specs.inner.NameSets.{with_names, set_of}
use Rattle.civl_names.specs.inner.Strange.{Declared, targets_strange, gate_strange, guard_strange, action_strange, broken_items}

-- ---- an action, by lists that are the names in its scopes

abbrev choice_names : Action → List Name
choice_names action = map (λ choice. choice.name) action.choices

module _ (declared : Declared) (action : Action) (outs : List Name) (o : outs ≡ set_of (param_names action.outs)) where
  pub targets_first : targets_strange (declared.globals ++ outs) action ≡ true → action_strange declared action ≡ true
  targets_first h = or_left _ _ (ap (λ (ns : List Name). targets_strange (declared.globals ++ ns) action) (sym o) ∙ h)

  module _ (params : List Name) (p : params ≡ set_of (param_names action.params)) where
    pub gate_next : gate_strange (declared.globals ++ params) (declared.globals ++ outs) action ≡ true → action_strange declared action ≡ true
    gate_next h =
        or_right _ _ (or_left _ _ (ap₂ (λ (ns os : List Name). gate_strange (declared.globals ++ ns) (declared.globals ++ os) action) (sym p) (sym o) ∙ h))

    pub guard_last : (names : List Name) → names ≡ with_names params (map (λ choice. choice.name) action.choices)
        → targets_strange (declared.globals ++ outs) action ≡ false → gate_strange (declared.globals ++ params) (declared.globals ++ outs) action ≡ false
        → guard_strange (declared.globals ++ names) (declared.globals ++ outs) action ≡ action_strange declared action
    guard_last names n t g =
        let guard : guard_strange (declared.globals ++ names) (declared.globals ++ outs) action
        ≡ guard_strange (declared.globals ++ with_names (set_of (param_names action.params)) (choice_names action)) (declared.globals ++ set_of (param_names action.outs)) action =
        ap₂ (λ (ns os : List Name). guard_strange (declared.globals ++ ns) (declared.globals ++ os) action) (n ∙ ap (λ (ns : List Name). with_names ns (choice_names action)) p) o in
        let gate : gate_strange (declared.globals ++ set_of (param_names action.params)) (declared.globals ++ set_of (param_names action.outs)) action ≡ false =
        ap₂ (λ (ns os : List Name). gate_strange (declared.globals ++ ns) (declared.globals ++ os) action) (sym p) (sym o) ∙ g in
        let targets : targets_strange (declared.globals ++ set_of (param_names action.outs)) action ≡ false =
        ap (λ (ns : List Name). targets_strange (declared.globals ++ ns) action) (sym o) ∙ t in
        guard
        ∙ sym (ap₂ (λ (a b : Bool). a || (b || guard_strange (declared.globals ++ with_names (set_of (param_names action.params)) (choice_names action)) (declared.globals ++ set_of (param_names action.outs)) action)) targets gate)

-- ---- the kinds of items

-- items of a kind, with another count of those before them that is the same number
pub moved : {A : Type 0} (is_broken : A → Bool) (before number : ℕ) (items others : List A) → before ≡ number → items ≡ others
    → first_of (map (refusal_at E11) (each_place (broken_items is_broken before) 0 items)) ≡ first_of (map (refusal_at E11) (each_place (broken_items is_broken number) 0 others))
moved {A = A} is_broken before number items others e same =
    ap₂ (λ (n : ℕ) (xs : List A). first_of (map (refusal_at E11) (each_place (broken_items is_broken n) 0 xs))) e same

-- where nothing is found before
pub all_past : (a b c d last : Option Refusal) → a ≡ None → b ≡ None → c ≡ None → d ≡ None → option_or a (option_or b (option_or c (option_or d last))) ≡ last
all_past a b c d last first second third fourth =
    ap (λ (o : Option Refusal). option_or o (option_or b (option_or c (option_or d last)))) first
    ∙ ap (λ (o : Option Refusal). option_or o (option_or c (option_or d last))) second
    ∙ ap (λ (o : Option Refusal). option_or o (option_or d last)) third
    ∙ ap (λ (o : Option Refusal). option_or o last) fourth
