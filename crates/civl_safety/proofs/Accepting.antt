-- The flag program whose root calls an action with the flag as its gate is accepted.
use Rattle.std.proofs.Common.{◌≡◌, ℕ, ◌<◌, Bool, true, false, List, [], ◌∷◌, map, refl, sym, ap, ◌∙◌, subst, arith}
use Rattle.std.specs.Prelude.{All, ◌^◌}
use Rattle.std.specs.List.{Contains}
use Rattle.std.proofs.lemmas.List.Elements.{All-nil, All-cons, All-contains}
use Rattle.civl_bits.specs.declared.value.Value.TheVariants as value
use Rattle.civl_firing.specs.values.Values.{HaveSorts}
use Rattle.civl_tree.specs.declared.expr.Expr.{the_lemmas as of_expr}
use Rattle.civl_tree.specs.declared.stmt.Stmt.{the_lemmas as of_stmt}
use Rattle.civl_tree.specs.declared.expr.Sort.{Sort}
use Rattle.civl_tree.specs.declared.expr.Sort.TheVariants as sort
use Rattle.civl_tree.specs.declared.program.Proc.{Proc}
use Rattle.civl_tree.specs.Numbered.{IsNumbered}
use Rattle.civl_tree.specs.Numbering.{sizes_of}
use Rattle.civl_tree.specs.SpellingDomain.{allows_program}
use Rattle.civl_tree.specs.rules.Rules.{Keeps, numbers_where, each_place, places_of}
use Rattle.civl_tree.specs.rules.Typing.{typing_rules}
use Rattle.civl_tree.proofs.Layers.{layers}
use Rattle.civl_tree.proofs.Pairs.{contains_map}
use Rattle.civl_firing.specs.Fired.{gate_holds, fires, fired}
use Rattle.civl_firing.specs.examples.Written.{bool}
use Rattle.civl_layers.specs.Cuts.{cuts_among}
use Rattle.civl_layers.specs.LayerRules.{layer_rules}
use Rattle.civl_layers.specs.Layered.{IsLayered}
use Rattle.civl_linear.specs.LinearRules.{linear_rules}
use Rattle.civl_linear.proofs.Examples as linear
use Rattle.civl_conditions.specs.paths.Paths.{path_from}
use Rattle.civl_conditions.specs.paths.Flows.{flow_from}
use Rattle.civl_yields.specs.YieldRules.{yield_rules}
use Rattle.civl_yields.proofs.Examples as yields
use Rattle.civl_conditions.specs.Listed.{conditions}
use Rattle.civl_conditions.specs.Variables.{variables}
use Rattle.civl_conditions.specs.Violated.{violated, AllHold}
use Rattle.civl_condition_laws.proofs.Going.{passes, flows}
use Rattle.civl_safety.specs.examples.Held.{gated, held, GatedIsAccepted, HeldIsOutlined, GatedIsSafe}
use Rattle.civl_safety.specs.Safe.{LowestIsSafe}
use Rattle.civl_safety.proofs.Gated.{one_bool}

-- ---- the rules

spelled : allows_program gated ≡ true
spelled = simp (layers, of_expr, of_stmt)

typed : Keeps typing_rules gated
unfolding numbers_where each_place places_of
typed = simp layers

ranged : Keeps layer_rules gated
unfolding numbers_where each_place places_of
ranged = simp layers

passed : Keeps linear_rules gated
unfolding numbers_where each_place places_of
passed = simp linear.examples

yielded : Keeps yield_rules gated
unfolding numbers_where each_place places_of
yielded = simp yields.examples

two_sized : map (λ p. sizes_of p.body) gated.procs ≡ 2 ∷ 1 ∷ []
two_sized = simp (layers, of_stmt)

few : (procs : List Proc) (m n : ℕ) → m < 2 ^ 32 → n < 2 ^ 32 → map (λ p. sizes_of p.body) procs ≡ m ∷ n ∷ [] → All (λ p. sizes_of p.body < 2 ^ 32) procs
few [] m n a b e = absurd cc
few (p ∷ []) m n a b e = absurd cc
few (p ∷ (q ∷ [])) m n a b e =
    let one : sizes_of p.body ≡ m = cc in
    let two : sizes_of q.body ≡ n = cc in
    All-cons (λ (x : Proc). sizes_of x.body < 2 ^ 32) p (q ∷ []) (subst (λ (k : ℕ). k < 2 ^ 32) (sym one) a) (All-cons (λ (x : Proc). sizes_of x.body < 2 ^ 32) q [] (subst (λ (k : ℕ). k < 2 ^ 32) (sym two) b) (All-nil (λ (x : Proc). sizes_of x.body < 2 ^ 32)))
few (p ∷ (q ∷ (r ∷ rs))) m n a b e = absurd cc

numbered : IsNumbered gated
numbered = record { items = omega arith; statements = few gated.procs 2 1 (omega arith) (omega arith) two_sized }

src : IsLayered gated
src = record { rules = typed; layers = ranged; numbered = numbered }

-- ---- the conditions

abbrev six : {A : Type 0} → A → List A
six x = x ∷ x ∷ x ∷ x ∷ x ∷ x ∷ []

same_six : {A : Type 0} (x y : A) → Contains (six x) y → y ≡ x
same_six {A = A} x y h = All-contains (λ (z : A). z ≡ x) (six x) y six_so h
  where
    six_so : All (λ (z : A). z ≡ x) (six x)
    six_so = All-cons (λ (z : A). z ≡ x) x (x ∷ x ∷ x ∷ x ∷ x ∷ []) refl (All-cons (λ (z : A). z ≡ x) x (x ∷ x ∷ x ∷ x ∷ []) refl (All-cons (λ (z : A). z ≡ x) x (x ∷ x ∷ x ∷ []) refl (All-cons (λ (z : A). z ≡ x) x (x ∷ x ∷ []) refl (All-cons (λ (z : A). z ≡ x) x (x ∷ []) refl (All-cons (λ (z : A). z ≡ x) x ([]) refl (All-nil (λ (z : A). z ≡ x)))))))

none_violated : map (λ c. map (λ f. violated gated c (bool f ∷ [])) (false ∷ true ∷ [])) (conditions gated) ≡ six (false ∷ false ∷ [])
unfolding cuts_among conditions violated path_from flow_from gate_holds fires fired
none_violated = simp (layers, of_expr, passes, flows)

all_flags : map (λ c. map (λ v. v.sort) (variables gated c)) (conditions gated) ≡ six (sort.Bool ∷ [])
unfolding cuts_among conditions variables flow_from
all_flags = simp (layers, flows)

both_false : (x y : Bool) → x ∷ y ∷ [] ≡ false ∷ false ∷ [] → (x ≡ false) × (y ≡ false)
both_false x y e = (cc, cc)

hold : AllHold gated
hold c among values fit =
    let table = same_six (false ∷ false ∷ []) (map (λ f. violated gated c (bool f ∷ [])) (false ∷ true ∷ [])) (subst (λ (l : List (List Bool)). Contains l (map (λ f. violated gated c (bool f ∷ [])) (false ∷ true ∷ []))) none_violated (contains_map (λ c. map (λ f. violated gated c (bool f ∷ [])) (false ∷ true ∷ [])) (conditions gated) c among)) in
    let sorts = same_six (sort.Bool ∷ []) (map (λ v. v.sort) (variables gated c)) (subst (λ (l : List (List Sort)). Contains l (map (λ v. v.sort) (variables gated c))) all_flags (contains_map (λ c. map (λ v. v.sort) (variables gated c)) (conditions gated) c among)) in
    let one = one_bool values (subst (HaveSorts values) sorts fit) in
    let both = both_false (violated gated c (bool false ∷ [])) (violated gated c (bool true ∷ [])) table in
    ap (violated gated c) one.1 ∙ by_flag one.0 both
  where
    by_flag : (b : Bool) → (violated gated c (bool false ∷ []) ≡ false) × (violated gated c (bool true ∷ []) ≡ false) → violated gated c (value.Bool b ∷ []) ≡ false
    by_flag false p = p.0
    by_flag true p = p.1

pub gated_is_accepted : GatedIsAccepted
gated_is_accepted = record { written = spelled; layered = src; linear = passed; yields = yielded; hold = hold }

pub gated_is_safe : LowestIsSafe → GatedIsAccepted → HeldIsOutlined → GatedIsSafe
gated_is_safe safe accepted outlined store initial fails = safe gated held store accepted outlined initial fails
