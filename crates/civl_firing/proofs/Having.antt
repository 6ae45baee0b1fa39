-- Values that have their sorts, and scopes of them.
use Rattle.std.proofs.Common.{◌≡◌, Bool, true, false, not, List, [], ◌∷◌, ◌++◌, map, length, refl, sym, subst, Some, add-one, arith}
use Rattle.std.specs.Prelude.{if◌then◌else◌}
use Rattle.std.specs.Str.{bytes_eq}
use Rattle.std.proofs.lemmas.Bool.{false≢true, not-false, or_parts, and_parts}
use Rattle.std.proofs.lemmas.List.{append-nil}
use Rattle.std.proofs.lemmas.List.Elements.{All-nil, All-cons, All-head, All-tail}
use Rattle.civl_bits.specs.Value.{IsValue}
use Rattle.civl_bits.specs.declared.value.Value.{Value}
use Rattle.civl_tree.specs.declared.name.Name.{Name}
use Rattle.civl_tree.specs.declared.expr.Expr.{Expr}
use Rattle.civl_tree.specs.declared.expr.Sort.{Sort}
use Rattle.civl_tree.specs.rules.Scopes.{Binding, Scope as Sorts, sort_in}
use Rattle.civl_tree.specs.rules.Sorts.{sort_of}
use Rattle.civl_tree.specs.rules.Uses.{serves, Only, argument_uses}
use Rattle.civl_tree.specs.rules.Width.{any_width}
use Rattle.civl_tree.specs.rules.Index.{any_index}
use Rattle.civl_tree.specs.rules.Sorted.{any_missorted}
use Rattle.civl_tree.specs.rules.Exprs.{widths_fit, indices_fit}
use Rattle.civl_firing.specs.declared.scope.Scope.{Scope}
use Rattle.civl_firing.specs.Truth.{place_of}
use Rattle.civl_firing.specs.values.Values.{is_of, are_of, HasSort, HaveSorts}
use Rattle.civl_firing.specs.Eval.{look, value_of, values_of}
use Rattle.civl_firing.specs.Sorts.{IsSorted}
use Rattle.civl_firing.proofs.Soundness.{values_have_their_sorts}
use Rattle.civl_firing.proofs.Serving.{served_only}

pub no_sorts : HaveSorts [] []
no_sorts = record { fit = All-nil IsValue; are = refl }

pub more_sorts : (v : Value) (s : Sort) (vs : List Value) (ss : List Sort) → HasSort v s → HaveSorts vs ss → HaveSorts (v ∷ vs) (s ∷ ss)
more_sorts v s vs ss h k = record { fit = All-cons IsValue v vs h.0 k.fit; are = rw (h.1) k.are }

pub first_sort : (v : Value) (s : Sort) (vs : List Value) (ss : List Sort) → HaveSorts (v ∷ vs) (s ∷ ss) → HasSort v s
first_sort v s vs ss h = (All-head IsValue v vs h.fit, (and_parts (is_of v s) (are_of vs ss) h.are).0)

pub rest_sorts : (v : Value) (s : Sort) (vs : List Value) (ss : List Sort) → HaveSorts (v ∷ vs) (s ∷ ss) → HaveSorts vs ss
rest_sorts v s vs ss h = record { fit = All-tail IsValue v vs h.fit; are = (and_parts (is_of v s) (are_of vs ss) h.are).1 }

pub have_length : (vs : List Value) (ss : List Sort) → HaveSorts vs ss → length vs ≡ length ss
have_length [] [] h = refl
have_length [] (s ∷ ss) h = absurd (false≢true h.are)
have_length (v ∷ vs) [] h = absurd (false≢true h.are)
have_length (v ∷ vs) (s ∷ ss) h = let e : length vs ≡ length ss = have_length vs ss (rest_sorts v s vs ss h) in omega (arith, e)

-- those of two lists
pub have_more : (vs ws : List Value) (ss ts : List Sort) → HaveSorts vs ss → HaveSorts ws ts → HaveSorts (vs ++ ws) (ss ++ ts)
have_more [] ws [] ts h k = k
have_more [] ws (s ∷ ss) ts h k = absurd (false≢true h.are)
have_more (v ∷ vs) ws [] ts h k = absurd (false≢true h.are)
have_more (v ∷ vs) ws (s ∷ ss) ts h k = more_sorts v s (vs ++ ws) (ss ++ ts) (first_sort v s vs ss h) (have_more vs ws ss ts (rest_sorts v s vs ss h) k)

-- ---- scopes

-- each of these names that has a sort has a value of it
abbrev pub Found : List Name → List Value → List Binding → Type 0
Found names values bindings = (name : Name) (s : Sort) → sort_in bindings name ≡ Some s → HasSort (look names values name) s

pub nothing_found : Found [] [] []
nothing_found name s e = absurd (cc)

-- one name more
found_by : (k : Name) (names : List Name) (v : Value) (values : List Value) (t : Sort) (bindings : List Binding) → HasSort v t → Found names values bindings → (name : Name) (s : Sort) (same : Bool) →
    bytes_eq k.bytes name.bytes ≡ same → (if same then Some t else sort_in bindings name) ≡ Some s → HasSort (look (k ∷ names) (v ∷ values) name) s
found_by k names v values t bindings h f name s true q e =
    let r : look (k ∷ names) (v ∷ values) name ≡ v = rw q refl in
    let i : t ≡ s = cc in
    subst (λ (x : Value). HasSort x s) (sym r) (subst (HasSort v) i h)
found_by k names v values t bindings h f name s false q e =
    let r : look (k ∷ names) (v ∷ values) name ≡ look names values name = rw (q, add-one (place_of names name)) refl in
    subst (λ (x : Value). HasSort x s) (sym r) (f name s e)

pub found_more : (k : Name) (names : List Name) (v : Value) (values : List Value) (t : Sort) (bindings : List Binding) → HasSort v t → Found names values bindings → Found (k ∷ names) (v ∷ values) (record { name = k; sort = t } ∷ bindings)
found_more k names v values t bindings h f name s e = found_by k names v values t bindings h f name s (bytes_eq k.bytes name.bytes) refl e

-- the names of some declarations, before others
pub found_all : {A : Type 0} (name_of : A → Name) (sort_at : A → Sort) (xs : List A) (values : List Value) (names : List Name) (others : List Value) (bindings : List Binding) →
    HaveSorts values (map sort_at xs) → Found names others bindings → Found (map name_of xs ++ names) (values ++ others) (map (λ x. record { name = name_of x; sort = sort_at x }) xs ++ bindings)
found_all name_of sort_at [] [] names others bindings h f = f
found_all name_of sort_at [] (v ∷ values) names others bindings h f = absurd (false≢true h.are)
found_all name_of sort_at (x ∷ xs) [] names others bindings h f = absurd (false≢true h.are)
found_all name_of sort_at (x ∷ xs) (v ∷ values) names others bindings h f =
    found_more (name_of x) (map name_of xs ++ names) v (values ++ others) (sort_at x) (map (λ y. record { name = name_of y; sort = sort_at y }) xs ++ bindings) (first_sort v (sort_at x) values (map sort_at xs) h) (found_all name_of sort_at xs values names others bindings (rest_sorts v (sort_at x) values (map sort_at xs) h) f)

-- and alone
pub found_alone : {A : Type 0} (name_of : A → Name) (sort_at : A → Sort) (xs : List A) (values : List Value) → HaveSorts values (map sort_at xs) → Found (map name_of xs) values (map (λ x. record { name = name_of x; sort = sort_at x }) xs)
found_alone name_of sort_at xs values h =
    let names : List Name = map name_of xs in
    let bindings : List Binding = map (λ x. record { name = name_of x; sort = sort_at x }) xs in
    let f : Found (names ++ []) (values ++ []) (bindings ++ []) = found_all name_of sort_at xs values [] [] [] h nothing_found in
    let g : Found names (values ++ []) (bindings ++ []) = subst (λ (l : List Name). Found l (values ++ []) (bindings ++ [])) (append-nil names) f in
    let k : Found names values (bindings ++ []) = subst (λ (l : List Value). Found names l (bindings ++ [])) (append-nil values) g in
    subst (λ (l : List Binding). Found names values l) (append-nil bindings) k

-- ---- arguments

-- arguments for places of these sorts, as many as there are, have values of these sorts
pub args_have_sorts : (scope : Scope) (sorts : Sorts) → IsSorted scope sorts → (args : List Expr) (wanted : List Sort) →
    any_missorted (argument_uses sorts args wanted) ≡ false → any_width (argument_uses sorts args wanted) ≡ false → any_index (argument_uses sorts args wanted) ≡ false →
    length args ≡ length wanted → HaveSorts (values_of scope args) wanted
args_have_sorts scope sorts fit [] [] m w i n = no_sorts
args_have_sorts scope sorts fit [] (s ∷ ss) m w i n = absurd (omega arith)
args_have_sorts scope sorts fit (a ∷ args) [] m w i n = absurd (omega arith)
args_have_sorts scope sorts fit (a ∷ args) (s ∷ ss) m w i n =
    let p = or_parts (not (serves (sort_of sorts a) (Only s))) (any_missorted (argument_uses sorts args ss)) m in
    let q = or_parts (not (widths_fit sorts a)) (any_width (argument_uses sorts args ss)) w in
    let r = or_parts (not (indices_fit a)) (any_index (argument_uses sorts args ss)) i in
    let e = served_only (sort_of sorts a) s (not-false _ p.0) in
    let h = values_have_their_sorts scope sorts fit a s (e, not-false _ q.0, not-false _ r.0) in
    more_sorts (value_of scope a) s (values_of scope args) ss h (args_have_sorts scope sorts fit args ss p.1 q.1 r.1 (omega arith))
