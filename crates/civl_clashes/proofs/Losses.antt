-- A loss is told exactly where a permission comes out twice or from nowhere.
use Rattle.std.proofs.Common.{◌≡◌, ◌∙◌, ℕ, ◌+◌, Bool, true, false, not, ◌&&◌, ◌||◌, List, [], ◌∷◌, ◌++◌, map, nat_eq, refl, sym, ap}
use Rattle.std.specs.Prelude.{Option, None, Some, is_some, option_map, option_and_then, flat_map, if◌then◌else◌}
use Rattle.std.specs.List.{list_all, list_any}
use Rattle.std.specs.Option.{option_or}
use Rattle.std.proofs.lemmas.List.Folds.{list_all-append}
use Rattle.civl_bits.specs.declared.value.Value.{Value}
use Rattle.civl_tree.specs.declared.action.Param.{Param}
use Rattle.civl_tree.specs.declared.program.Global.{Global}
use Rattle.civl_tree.specs.declared.program.Program.{Program}
use Rattle.civl_tree.specs.rules.Width.{is_linear}
use Rattle.civl_firing.specs.declared.store.Store.{Store}
use Rattle.civl_meaning.specs.Permissions.{permissions_of_word, permissions_of_global, disjoint, pairwise_disjoint, of_globals, of_params}
use Rattle.civl_linear.specs.Modes.{is_lent}
use Rattle.civl_conditions.specs.Values.{Invoked}
use Rattle.civl_conditions.specs.Permissions.{in_store, of_inputs, of_modes, included}
use Rattle.civl_conditions.specs.Movers.{on_some, gate_of, fires_of}
use Rattle.civl_clashes.specs.declared.violations.Carrier.{Carrier}
use Rattle.civl_clashes.specs.declared.violations.Carried.{Carried}
use Rattle.civl_clashes.specs.declared.violations.Loss.{Loss}
use Rattle.civl_clashes.specs.declared.violations.Loss.TheVariants.{Twice, Nowhere}
use Rattle.civl_clashes.specs.Effects.{effect}
use Rattle.civl_clashes.specs.Losses.{by_globals, by_params, by_outs, carried_out, carrier_of, shared, twice, made, nowhere, loss_among, loss_in}
use Rattle.civl_clashes.specs.Laws.{LossesAreTold}
use Rattle.civl_clashes.proofs.Clashing.{some_mapped}

abbrev permissions : List Carried → List (List ℕ)
permissions cs = map (λ c. c.permissions) cs

some_or : {A : Type 0} (o p : Option A) → is_some (option_or o p) ≡ is_some o || is_some p
some_or None p = refl
some_or (Some a) p = refl

not_and : (a b : Bool) → not a || not b ≡ not (a && b)
not_and true b = refl
not_and false b = refl

swap : (a b c d : Bool) → (a && b) && (c && d) ≡ (a && c) && (b && d)
swap true true c d = refl
swap true false true d = refl
swap true false false d = refl
swap false b c d = refl

-- ---- twice

one_carries : (c : Carrier) (o : Option Carrier) (b t : Bool) → is_some o ≡ not t → is_some (if◌then◌else◌ {A = Option Carrier} b (Some c) o) ≡ not (not b && t)
one_carries c o true t e = refl
one_carries c o false t e = e

carried_by : (p : ℕ) (cs : List Carried) → is_some (carrier_of p cs) ≡ not (list_all (λ ps. not (list_any (nat_eq p) ps)) (permissions cs))
carried_by p [] = refl
carried_by p (c ∷ cs) =
    one_carries c.carrier (carrier_of p cs) (list_any (nat_eq p) c.permissions) (list_all (λ ps. not (list_any (nat_eq p) ps)) (permissions cs)) (carried_by p cs)

disjoint_none : (pss : List (List ℕ)) → list_all (disjoint []) pss ≡ true
disjoint_none [] = refl
disjoint_none (ps ∷ pss) = disjoint_none pss

disjoint_more : (p : ℕ) (ps : List ℕ) (pss : List (List ℕ)) → list_all (disjoint (p ∷ ps)) pss ≡ list_all (λ qs. not (list_any (nat_eq p) qs)) pss && list_all (disjoint ps) pss
disjoint_more p ps [] = refl
disjoint_more p ps (qs ∷ pss) =
    ap (λ (b : Bool). (not (list_any (nat_eq p) qs) && disjoint ps qs) && b) (disjoint_more p ps pss)
    ∙ swap (not (list_any (nat_eq p) qs)) (disjoint ps qs) (list_all (λ rs. not (list_any (nat_eq p) rs)) pss) (list_all (disjoint ps) pss)

shared_told : (c : Carrier) (ps : List ℕ) (cs : List Carried) → is_some (shared c ps cs) ≡ not (list_all (disjoint ps) (permissions cs))
shared_told c [] cs = sym (ap not (disjoint_none (permissions cs)))
shared_told c (p ∷ ps) cs =
    let others = list_all (λ qs. not (list_any (nat_eq p) qs)) (permissions cs) in
    some_or (option_map (Twice p c) (carrier_of p cs)) (shared c ps cs)
    ∙ (ap (λ (b : Bool). b || is_some (shared c ps cs)) (some_mapped (Twice p c) (carrier_of p cs) ∙ carried_by p cs)
    ∙ (ap (λ (b : Bool). not others || b) (shared_told c ps cs)
    ∙ (not_and others (list_all (disjoint ps) (permissions cs)) ∙ sym (ap not (disjoint_more p ps (permissions cs))))))

twice_told : (cs : List Carried) → is_some (twice cs) ≡ not (pairwise_disjoint (permissions cs))
twice_told [] = refl
twice_told (c ∷ cs) =
    some_or (shared c.carrier c.permissions cs) (twice cs)
    ∙ (ap (λ (b : Bool). b || is_some (twice cs)) (shared_told c.carrier c.permissions cs)
    ∙ (ap (λ (b : Bool). not (list_all (disjoint c.permissions) (permissions cs)) || b) (twice_told cs)
    ∙ not_and (list_all (disjoint c.permissions) (permissions cs)) (pairwise_disjoint (permissions cs))))

-- ---- from nowhere

one_made : (l : Loss) (o : Option Loss) (b t : Bool) → is_some o ≡ not t → is_some (if◌then◌else◌ {A = Option Loss} b o (Some l)) ≡ not (b && t)
one_made l o true t e = e
one_made l o false t e = refl

made_told : (c : Carrier) (ps incoming : List ℕ) → is_some (made c ps incoming) ≡ not (list_all (λ p. list_any (nat_eq p) incoming) ps)
made_told c [] incoming = refl
made_told c (p ∷ ps) incoming = one_made (Nowhere p c) (made c ps incoming) (list_any (nat_eq p) incoming) (list_all (λ q. list_any (nat_eq q) incoming) ps) (made_told c ps incoming)

nowhere_told : (cs : List Carried) (incoming : List (List ℕ)) → is_some (nowhere cs (flat_map (λ ps. ps) incoming)) ≡ not (included (permissions cs) incoming)
nowhere_told [] incoming = refl
nowhere_told (c ∷ cs) incoming =
    let known = λ (p : ℕ). list_any (nat_eq p) (flat_map (λ ps. ps) incoming) in
    some_or (made c.carrier c.permissions (flat_map (λ ps. ps) incoming)) (nowhere cs (flat_map (λ ps. ps) incoming))
    ∙ (ap (λ (b : Bool). b || is_some (nowhere cs (flat_map (λ ps. ps) incoming))) (made_told c.carrier c.permissions (flat_map (λ ps. ps) incoming))
    ∙ (ap (λ (b : Bool). not (list_all known c.permissions) || b) (nowhere_told cs incoming)
    ∙ (not_and (list_all known c.permissions) (included (permissions cs) incoming)
    ∙ sym (ap not (list_all-append known c.permissions (flat_map (λ ps. ps) (permissions cs)))))))

pub among_told : (cs : List Carried) (incoming : List (List ℕ))
    → is_some (loss_among cs (flat_map (λ ps. ps) incoming)) ≡ not (pairwise_disjoint (permissions cs) && included (permissions cs) incoming)
among_told cs incoming =
    some_or (twice cs) (nowhere cs (flat_map (λ ps. ps) incoming))
    ∙ (ap (λ (b : Bool). b || is_some (nowhere cs (flat_map (λ ps. ps) incoming))) (twice_told cs)
    ∙ (ap (λ (b : Bool). not (pairwise_disjoint (permissions cs)) || b) (nowhere_told cs incoming)
    ∙ not_and (pairwise_disjoint (permissions cs)) (included (permissions cs) incoming)))

-- ---- what comes out

both_parts : (xs ys : List Carried) → permissions (xs ++ ys) ≡ permissions xs ++ permissions ys
both_parts [] ys = refl
both_parts (x ∷ xs) ys = ap (λ (pss : List (List ℕ)). x.permissions ∷ pss) (both_parts xs ys)

one_where : (b : Bool) (c : Carried) → permissions (if b then c ∷ [] else []) ≡ (if b then c.permissions ∷ [] else [])
one_where true c = refl
one_where false c = refl

of_all_globals : (at : ℕ) (gs : List Global) (vs : List Value) → permissions (by_globals at gs vs) ≡ of_globals gs vs
of_all_globals at [] vs = refl
of_all_globals at (g ∷ gs) [] = refl
of_all_globals at (g ∷ gs) (v ∷ vs) = both_parts _ (by_globals (at + 1) gs vs) ∙ (ap (λ (pss : List (List ℕ)). pss ++ permissions (by_globals (at + 1) gs vs)) (one_where g.linear _) ∙ ap (λ (pss : List (List ℕ)). (if g.linear then permissions_of_global v ∷ [] else []) ++ pss) (of_all_globals (at + 1) gs vs))

of_all_params : (at : ℕ) (ps : List Param) (vs : List Value) → permissions (by_params at ps vs) ≡ of_modes is_lent ps vs
of_all_params at [] vs = refl
of_all_params at (p ∷ ps) [] = refl
of_all_params at (p ∷ ps) (v ∷ vs) = both_parts _ (by_params (at + 1) ps vs) ∙ (ap (λ (pss : List (List ℕ)). pss ++ permissions (by_params (at + 1) ps vs)) (one_where (is_lent p.mode) _) ∙ ap (λ (pss : List (List ℕ)). (if is_lent p.mode then permissions_of_word v ∷ [] else []) ++ pss) (of_all_params (at + 1) ps vs))

of_all_outs : (at : ℕ) (ps : List Param) (vs : List Value) → permissions (by_outs at ps vs) ≡ of_params ps vs
of_all_outs at [] vs = refl
of_all_outs at (p ∷ ps) [] = refl
of_all_outs at (p ∷ ps) (v ∷ vs) = both_parts _ (by_outs (at + 1) ps vs) ∙ (ap (λ (pss : List (List ℕ)). pss ++ permissions (by_outs (at + 1) ps vs)) (one_where (is_linear p.mode) _) ∙ ap (λ (pss : List (List ℕ)). (if is_linear p.mode then permissions_of_word v ∷ [] else []) ++ pss) (of_all_outs (at + 1) ps vs))

pub out_permissions : (program : Program) (x : Invoked) (a : Store × List Value)
    → permissions (carried_out program x (effect a)) ≡ in_store program a.0 ++ (of_modes is_lent x.action.params x.inputs ++ of_params x.action.outs a.1)
out_permissions program x a =
    both_parts (by_globals 0 program.globals a.0.values) _
    ∙ (ap (λ (pss : List (List ℕ)). pss ++ permissions (by_params 0 x.action.params x.inputs ++ by_outs 0 x.action.outs a.1)) (of_all_globals 0 program.globals a.0.values)
    ∙ ap (λ (pss : List (List ℕ)). in_store program a.0 ++ pss) (
    both_parts (by_params 0 x.action.params x.inputs) _
    ∙ (ap (λ (pss : List (List ℕ)). pss ++ permissions (by_outs 0 x.action.outs a.1)) (of_all_params 0 x.action.params x.inputs)
    ∙ ap (λ (pss : List (List ℕ)). of_modes is_lent x.action.params x.inputs ++ pss) (of_all_outs 0 x.action.outs a.1))
    ))

-- ---- K2

both_then : {A : Type 0} (s t : Bool) (o : Option A) (b : Bool) → is_some o ≡ b → is_some (if◌then◌else◌ {A = Option A} (s && t) o None) ≡ t && (s && b)
both_then true true o b e = e
both_then true false o b e = refl
both_then false true o b e = refl
both_then false false o b e = refl

after_told : (program : Program) (x : Invoked) (incoming : List (List ℕ)) (o : Option (Store × List Value))
    → is_some (option_and_then (loss_in program x incoming) (option_map effect o))
    ≡ on_some o (λ a. let out = in_store program a.0 ++ (of_modes is_lent x.action.params x.inputs ++ of_params x.action.outs a.1) in not (pairwise_disjoint out && included out incoming))
after_told program x incoming None = refl
after_told program x incoming (Some a) =
    some_mapped _ (loss_among (carried_out program x (effect a)) (flat_map (λ ps. ps) incoming))
    ∙ (among_told (carried_out program x (effect a)) incoming
    ∙ ap (λ (out : List (List ℕ)). not (pairwise_disjoint out && included out incoming)) (out_permissions program x a))

pub losses_told : LossesAreTold
losses_told program g x =
    both_then (gate_of program g x) (pairwise_disjoint (in_store program g ++ of_inputs x)) _ _ (after_told program x (in_store program g ++ of_inputs x) (fires_of program g x))
