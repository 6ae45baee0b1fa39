-- The scopes of an action's gate, and of its guard and updates.
use Rattle.std.specs.Prelude.{map, slice_get, if◌then◌else◌}
use Rattle.std.specs.Str.{bytes_eq}
use Rattle.std.proofs.Common.{◌≡◌, ◌∙◌, ℕ, ◌+◌, Bool, true, false, ◌||◌, List, [], ◌∷◌, ◌++◌, length, refl, sym, ap, subst, arith, add-one, Some}
use Rattle.std.proofs.lemmas.Bool.{false≢true, or_parts, or_left, or_right}
use Rattle.std.proofs.lemmas.List.{append-nil, length-map}
use Rattle.std.proofs.lemmas.Slice.Eq.{bytes_eq-Decides}
use Rattle.civl_tree.specs.declared.name.Name.{Name}
use Rattle.civl_tree.specs.declared.expr.Sort.{Sort}
use Rattle.civl_tree.specs.declared.action.Action.{Action}
use Rattle.civl_tree.specs.declared.action.Choice.{Choice}
use Rattle.civl_tree.specs.declared.action.Param.{Param}
use Rattle.civl_tree.specs.declared.program.Global.{Global}
use Rattle.civl_tree.specs.declared.program.Program.{Program}
use Rattle.civl_tree.specs.rules.Names.{same_name, has_name, global_names, param_names}
use Rattle.civl_tree.specs.rules.Scopes.{Binding, sort_in, bind_globals, bind_params, bind_choices}
use Rattle.civl_tree.proofs.Lists.{heads}
use Rattle.civl_tree.proofs.Naming.{bytes_same}
use Rattle.civl_firing.specs.Truth.{place_of}
use Rattle.civl_firing.specs.Scope.{choice_names}
use Rattle.civl_terms.specs.declared.node.Node.{Node}
use Rattle.civl_terms.specs.Graphs.{sort_at}
use Rattle.civl_actions.specs.Scopes.{StandsAt, AreOf}
use Rattle.civl_actions.proofs.Rules.{Kept, out_apart}
use Rattle.civl_actions.proofs.Nodes.{are_long}

-- each name that has a sort stands for a term of it
abbrev pub Found : List Node → List Name → List ℕ → List Binding → Type 0
Found ns names ids bindings = (name : Name) (s : Sort) → sort_in bindings name ≡ Some s → StandsAt ns ids (place_of names name) s

pub nothing_found : (ns : List Node) (names : List Name) (ids : List ℕ) → Found ns names ids []
nothing_found ns names ids name s e = absurd (cc)

-- one name more
pub found_by : (ns : List Node) (k : Name) (names : List Name) (i : ℕ) (ids : List ℕ) (t : Sort) (bindings : List Binding) → sort_at ns i ≡ Some t → Found ns names ids bindings → (name : Name) (s : Sort) (same : Bool) →
    bytes_eq k.bytes name.bytes ≡ same → (if same then Some t else sort_in bindings name) ≡ Some s → StandsAt ns (i ∷ ids) (if same then 0 else place_of names name + 1) s
found_by ns k names i ids t bindings h f name s true q e = (i, refl, h ∙ e)
found_by ns k names i ids t bindings h f name s false q e =
    let g = f name s e in
    (g.0, ap (slice_get (i ∷ ids)) (add-one (place_of names name)) ∙ g.1, g.2)

found_more : (ns : List Node) (k : Name) (names : List Name) (i : ℕ) (ids : List ℕ) (t : Sort) (bindings : List Binding) → sort_at ns i ≡ Some t → Found ns names ids bindings → Found ns (k ∷ names) (i ∷ ids) (record { name = k; sort = t } ∷ bindings)
found_more ns k names i ids t bindings h f name s e = found_by ns k names i ids t bindings h f name s (bytes_eq k.bytes name.bytes) refl e

-- the names of some declarations, before others
found_all : (ns : List Node) {A : Type 0} (name_of : A → Name) (sort_of : A → Sort) (xs : List A) (ids : List ℕ) (names : List Name) (others : List ℕ) (bindings : List Binding) →
    AreOf ns ids (map sort_of xs) → Found ns names others bindings → Found ns (map name_of xs ++ names) (ids ++ others) (map (λ x. record { name = name_of x; sort = sort_of x }) xs ++ bindings)
found_all ns name_of sort_of [] [] names others bindings h f = f
found_all ns name_of sort_of [] (i ∷ ids) names others bindings h f = absurd (cc)
found_all ns name_of sort_of (x ∷ xs) [] names others bindings h f = absurd (cc)
found_all ns name_of sort_of (x ∷ xs) (i ∷ ids) names others bindings h f =
    let p = heads (sort_at ns i) (Some (sort_of x)) (map (sort_at ns) ids) (map (λ (s : Sort). Some s) (map sort_of xs)) h in
    found_more ns (name_of x) (map name_of xs ++ names) i (ids ++ others) (sort_of x) (map (λ y. record { name = name_of y; sort = sort_of y }) xs ++ bindings) p.0
    (found_all ns name_of sort_of xs ids names others bindings p.1 f)

-- names that have no sort, before others
pub found_past : (skipped names : List Name) (ids others : List ℕ) (ns : List Node) (name : Name) (s : Sort) → length ids ≡ length skipped → has_name skipped name ≡ false → StandsAt ns others (place_of names name) s → StandsAt ns (ids ++ others) (place_of (skipped ++ names) name) s
found_past [] names [] others ns name s l n h = h
found_past [] names (i ∷ ids) others ns name s l n h = absurd (omega (arith, l))
found_past (k ∷ skipped) names [] others ns name s l n h = absurd (omega (arith, l))
found_past (k ∷ skipped) names (i ∷ ids) others ns name s l n h =
    let o = or_parts (same_name name k) (has_name skipped name) n in
    let g = found_past skipped names ids others ns name s (omega (arith, l)) o.1 h in
    let q : bytes_eq k.bytes name.bytes ≡ false = apart (bytes_eq k.bytes name.bytes) o.0 (λ e. bytes_same name k (sym ((bytes_eq-Decides k.bytes name.bytes).0 e))) in
    subst (λ (b : Bool). StandsAt ns (i ∷ (ids ++ others)) (if b then 0 else place_of (skipped ++ names) name + 1) s) (sym q)
    (g.0, ap (slice_get (i ∷ (ids ++ others))) (add-one (place_of (skipped ++ names) name)) ∙ g.1, g.2)
  where
    apart : (b : Bool) → same_name name k ≡ false → (b ≡ true → same_name name k ≡ true) → b ≡ false
    apart true e f = absurd (false≢true (sym e ∙ f refl))
    apart false e f = refl

-- a name that is bound is one of the names
bound : {A : Type 0} (name_of : A → Name) (sort_of : A → Sort) (xs : List A) (name : Name) (s : Sort) → sort_in (map (λ x. record { name = name_of x; sort = sort_of x }) xs) name ≡ Some s → has_name (map name_of xs) name ≡ true
bound name_of sort_of [] name s e = absurd (cc)
bound name_of sort_of (x ∷ xs) name s e = by (same_name (name_of x) name) refl e (bound name_of sort_of xs name s)
  where
    turned : (b : Bool) → same_name (name_of x) name ≡ b → b ≡ true → same_name name (name_of x) ≡ true
    turned b q t = bytes_same name (name_of x) (sym ((bytes_eq-Decides (name_of x).bytes name.bytes).0 (q ∙ t)))

    by : (b : Bool) → same_name (name_of x) name ≡ b → (if b then Some (sort_of x) else sort_in (map (λ y. record { name = name_of y; sort = sort_of y }) xs) name) ≡ Some s
        → (sort_in (map (λ y. record { name = name_of y; sort = sort_of y }) xs) name ≡ Some s → has_name (map name_of xs) name ≡ true)
        → (same_name name (name_of x) || has_name (map name_of xs) name) ≡ true
    by true q k r = or_left (same_name name (name_of x)) (has_name (map name_of xs) name) (turned true q refl)
    by false q k r = or_right (same_name name (name_of x)) (has_name (map name_of xs) name) (r k)

-- ---- the names of an action's places, with these choices: globals, parameters, choices, outputs

abbrev pub all_names : Program → Action → List Choice → List Name
all_names program a choices = global_names program.globals ++ (param_names a.params ++ (choice_names choices ++ param_names a.outs))

-- the terms for them
pub record Listed (ns : List Node) (program : Program) (a : Action) (choices : List Choice) (globals inputs chosen zeros : List ℕ) : Type 0 where
  pub globals_are : AreOf ns globals (map (λ g. g.sort) program.globals)
  pub inputs_are : AreOf ns inputs (map (λ p. p.sort) a.params)
  pub chosen_are : AreOf ns chosen (map (λ c. c.sort) choices)
  pub zeros_are : AreOf ns zeros (map (λ p. p.sort) a.outs)

module _ (ns : List Node) (program : Program) (a : Action) (choices : List Choice) (globals inputs chosen zeros : List ℕ) (l : Listed ns program a choices globals inputs chosen zeros) where
  pub names_found : Found ns (all_names program a choices) (globals ++ (inputs ++ (chosen ++ zeros))) (bind_globals program.globals ++ (bind_params a.params ++ bind_choices choices))
  names_found =
      let outs = nothing_found ns (param_names a.outs) zeros in
      let f : Found ns (choice_names choices ++ param_names a.outs) (chosen ++ zeros) (bind_choices choices ++ []) =
      found_all ns (λ (c : Choice). c.name) (λ (c : Choice). c.sort) choices chosen (param_names a.outs) zeros [] l.chosen_are outs in
      let g : Found ns (choice_names choices ++ param_names a.outs) (chosen ++ zeros) (bind_choices choices) =
      subst (λ (bs : List Binding). Found ns (choice_names choices ++ param_names a.outs) (chosen ++ zeros) bs) (append-nil (bind_choices choices)) f in
      let h = found_all ns (λ (p : Param). p.name) (λ (p : Param). p.sort) a.params inputs (choice_names choices ++ param_names a.outs) (chosen ++ zeros) (bind_choices choices) l.inputs_are g in
      found_all ns (λ (k : Global). k.name) (λ (k : Global). k.sort) program.globals globals (param_names a.params ++ (choice_names choices ++ param_names a.outs)) (inputs ++ (chosen ++ zeros)) (bind_params a.params ++ bind_choices choices) l.globals_are h

  outs_found : Found ns (param_names a.outs) zeros (bind_params a.outs)
  outs_found =
      let f = found_all ns (λ (p : Param). p.name) (λ (p : Param). p.sort) a.outs zeros [] [] [] l.zeros_are (nothing_found ns [] []) in
      let g = subst (λ (xs : List Name). Found ns xs (zeros ++ []) (bind_params a.outs ++ [])) (append-nil (param_names a.outs)) f in
      let h = subst (λ (is : List ℕ). Found ns (param_names a.outs) is (bind_params a.outs ++ [])) (append-nil zeros) g in
      subst (λ (bs : List Binding). Found ns (param_names a.outs) zeros bs) (append-nil (bind_params a.outs)) h

  -- the choices are the action's, or none
  pub olds_found : Kept program a → ((name : Name) → has_name (choice_names a.choices) name ≡ false → has_name (choice_names choices) name ≡ false) → Found ns (all_names program a choices) (globals ++ (inputs ++ (chosen ++ zeros))) (bind_globals program.globals ++ bind_params a.outs)
  olds_found k some =
      let f : Found ns (param_names a.params ++ (choice_names choices ++ param_names a.outs)) (inputs ++ (chosen ++ zeros)) (bind_params a.outs) = λ name s e.
      let o = out_apart program a k name (bound (λ (p : Param). p.name) (λ (p : Param). p.sort) a.outs name s e) in
      let c = found_past (choice_names choices) (param_names a.outs) chosen zeros ns name s (are_long ns chosen (map (λ c. c.sort) choices) l.chosen_are ∙ length-map choices (λ (c : Choice). c.sort) ∙ sym (length-map choices (λ (c : Choice). c.name))) (some name o.choices) (outs_found name s e) in
      found_past (param_names a.params) (choice_names choices ++ param_names a.outs) inputs (chosen ++ zeros) ns name s (are_long ns inputs (map (λ p. p.sort) a.params) l.inputs_are ∙ length-map a.params (λ (p : Param). p.sort) ∙ sym (length-map a.params (λ (p : Param). p.name))) o.params c in
      found_all ns (λ (g : Global). g.name) (λ (g : Global). g.sort) program.globals globals (param_names a.params ++ (choice_names choices ++ param_names a.outs)) (inputs ++ (chosen ++ zeros)) (bind_params a.outs) l.globals_are f
