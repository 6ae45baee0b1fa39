-- The values, sorts and weights of nodes by those of their parts.
use Rattle.std.specs.Prelude.{slice_get}
use Rattle.std.proofs.Common.{◌≡◌, ◌∙◌, ℕ, ◌+◌, ◌<◌, ◌≤◌, List, [], ◌∷◌, ◌++◌, length, get_or, take, refl, sym, ap, ap₂, arith, Option, Some, None}
use Rattle.std.proofs.lemmas.Option.{get_or_from_slice_get, slice_get_within}
use Rattle.civl_bits.specs.declared.value.Value.{Value}
use Rattle.civl_tree.specs.declared.expr.Sort.{Sort}
use Rattle.civl_tree.specs.rules.Sorts.{one_sort, two_sort, pick_sort, get_sort, set_sort, fill_sort, slice_sort, widen_sort, join_sort}
use Rattle.civl_firing.specs.values.Operators.{nothing, one_value, two_value, pick_value, get_value, set_value, fill_value, slice_value, widen_value, join_value}
use Rattle.civl_firing.specs.values.Weights.{bits_in, one_weight, two_weight, set_weight}
use Rattle.civl_terms.specs.declared.node.Node.{Node}
use Rattle.civl_terms.specs.declared.node.Node.TheVariants.{Constant, Variable, One as Once, Two as Twice, Pick, Get, Set, Fill, Slice, Widen, Join}
use Rattle.civl_terms.specs.Graphs.{PartsBelow, along, node_value, values, value_in, value_at, node_sort, sorts, sort_in, sort_at}
use Rattle.civl_terms.specs.Weights.{node_weight}
use Rattle.civl_terms.proofs.Along.{along_begins, along_last, along_from, along_take, along_more, length-along}

-- ---- parts that agree

abbrev pub Agree : {A : Type 0} → ℕ → A → List A → List A → Type 0
Agree k d vs ws = (i : ℕ) → i < k → get_or vs i d ≡ get_or ws i d

pub node_value-same : (env : ℕ → Value) (vs ws : List Value) (k : ℕ) (n : Node) → PartsBelow k n → Agree k nothing vs ws → node_value env vs n ≡ node_value env ws n
node_value-same env vs ws k (Constant c) p e = refl
node_value-same env vs ws k (Variable a s) p e = refl
node_value-same env vs ws k (Once op a) p e = ap (one_value op) (e a p)
node_value-same env vs ws k (Twice op a b) p e = ap₂ (two_value op) (e a p.0) (e b p.1)
node_value-same env vs ws k (Pick c a b) p e = ap (λ v. pick_value v (value_in vs a) (value_in vs b)) (e c p.0) ∙ ap₂ (pick_value (value_in ws c)) (e a p.1) (e b p.2)
node_value-same env vs ws k (Get row at) p e = ap₂ get_value (e row p.0) (e at p.1)
node_value-same env vs ws k (Set row at cell) p e = ap (λ v. set_value v (value_in vs at) (value_in vs cell)) (e row p.0) ∙ ap₂ (set_value (value_in ws row)) (e at p.1) (e cell p.2)
node_value-same env vs ws k (Fill index cell) p e = ap (fill_value index) (e cell p)
node_value-same env vs ws k (Slice a high low) p e = ap (λ v. slice_value v high low) (e a p)
node_value-same env vs ws k (Widen a width) p e = ap (λ v. widen_value v width) (e a p)
node_value-same env vs ws k (Join a b) p e = ap₂ join_value (e a p.0) (e b p.1)

pub node_sort-same : (vs ws : List (Option Sort)) (k : ℕ) (n : Node) → PartsBelow k n → Agree k None vs ws → node_sort vs n ≡ node_sort ws n
node_sort-same vs ws k (Constant c) p e = refl
node_sort-same vs ws k (Variable a s) p e = refl
node_sort-same vs ws k (Once op a) p e = ap (one_sort op) (e a p)
node_sort-same vs ws k (Twice op a b) p e = ap₂ (two_sort op) (e a p.0) (e b p.1)
node_sort-same vs ws k (Pick c a b) p e = ap (λ v. pick_sort v (sort_in vs a) (sort_in vs b)) (e c p.0) ∙ ap₂ (pick_sort (sort_in ws c)) (e a p.1) (e b p.2)
node_sort-same vs ws k (Get row at) p e = ap₂ get_sort (e row p.0) (e at p.1)
node_sort-same vs ws k (Set row at cell) p e = ap (λ v. set_sort v (sort_in vs at) (sort_in vs cell)) (e row p.0) ∙ ap₂ (set_sort (sort_in ws row)) (e at p.1) (e cell p.2)
node_sort-same vs ws k (Fill index cell) p e = ap (fill_sort index) (e cell p)
node_sort-same vs ws k (Slice a high low) p e = ap (λ v. slice_sort v high low) (e a p)
node_sort-same vs ws k (Widen a width) p e = ap (λ v. widen_sort v width) (e a p)
node_sort-same vs ws k (Join a b) p e = ap₂ join_sort (e a p.0) (e b p.1)

pub node_weight-same : (vs ws : List (Option Sort)) (k : ℕ) (n : Node) → PartsBelow k n → Agree k None vs ws → node_weight vs n ≡ node_weight ws n
node_weight-same vs ws k (Constant c) p e = refl
node_weight-same vs ws k (Variable a s) p e = refl
node_weight-same vs ws k (Once op a) p e = ap (λ o. one_weight op (bits_in o)) (e a p)
node_weight-same vs ws k (Twice op a b) p e = ap (λ o. two_weight op (bits_in o)) (e a p.0)
node_weight-same vs ws k (Pick c a b) p e = ap bits_in (e a p.1)
node_weight-same vs ws k (Get row at) p e = ap bits_in (e row p.0)
node_weight-same vs ws k (Set row at cell) p e = ap set_weight (e row p.0)
node_weight-same vs ws k (Fill index cell) p e = refl
node_weight-same vs ws k (Slice a high low) p e = refl
node_weight-same vs ws k (Widen a width) p e = refl
node_weight-same vs ws k (Join a b) p e = refl

-- ---- values and sorts of graphs that begin alike

pub values_begin : (env : ℕ → Value) (ms ns : List Node) (i : ℕ) → i < length ms → value_at env (ms ++ ns) i ≡ value_at env ms i
unfolding values
values_begin env ms ns i h = along_begins (node_value env) ms ns i nothing h

pub sorts_begin : (ms ns : List Node) (i : ℕ) → i < length ms → sort_at (ms ++ ns) i ≡ sort_at ms i
unfolding sorts
sorts_begin ms ns i h = along_begins node_sort ms ns i None h

pub value_last : (env : ℕ → Value) (ns : List Node) (n : Node) → value_at env (ns ++ n ∷ []) (length ns) ≡ node_value env (values env ns) n
unfolding values
value_last env ns n = along_last (node_value env) ns n nothing

pub sort_last : (ns : List Node) (n : Node) → sort_at (ns ++ n ∷ []) (length ns) ≡ node_sort (sorts ns) n
unfolding sorts
sort_last ns n = along_last node_sort ns n None

pub length-sorts : (ns : List Node) → length (sorts ns) ≡ length ns
unfolding sorts
length-sorts ns = length-along node_sort ns

-- ---- a node's value and sort, from those of its parts

pub get_slice : (ns : List Node) (i : ℕ) (n : Node) → slice_get ns i ≡ Some n → (i < length ns) × (get_or ns i n ≡ n)
get_slice ns i n e = (slice_get_within ns i n e, get_or_from_slice_get ns i n n e)

pub value_of_node : (env : ℕ → Value) (ns : List Node) (i : ℕ) (n : Node) → PartsBelow i n → slice_get ns i ≡ Some n → value_at env ns i ≡ node_value env (values env ns) n
unfolding values
value_of_node env ns i n p e =
    let g = get_slice ns i n e in
    along_from (node_value env) ns i n nothing g.0
    ∙ ap (node_value env (along (node_value env) [] (take i ns))) g.1
    ∙ node_value-same env (along (node_value env) [] (take i ns)) (along (node_value env) [] ns) i n p (λ k l. along_take (node_value env) ns k i nothing l (omega (arith, g.0)))

pub sort_of_node : (ns : List Node) (i : ℕ) (n : Node) → PartsBelow i n → slice_get ns i ≡ Some n → sort_at ns i ≡ node_sort (sorts ns) n
unfolding sorts
sort_of_node ns i n p e =
    let g = get_slice ns i n e in
    along_from node_sort ns i n None g.0
    ∙ ap (node_sort (along node_sort [] (take i ns))) g.1
    ∙ node_sort-same (along node_sort [] (take i ns)) (along node_sort [] ns) i n p (λ k l. along_take node_sort ns k i None l (omega (arith, g.0)))

-- ---- values one by one

pub values_none : (env : ℕ → Value) (ns : List Node) → values env (take 0 ns) ≡ []
unfolding values
values_none env ns = refl

pub values_more : (env : ℕ → Value) (ns : List Node) (i : ℕ) (n : Node) → slice_get ns i ≡ Some n → values env (take (i + 1) ns) ≡ values env (take i ns) ++ node_value env (values env (take i ns)) n ∷ []
unfolding values
values_more env ns i n e =
    let g = get_slice ns i n e in
    along_more (node_value env) ns i n g.0
    ∙ ap (λ m. along (node_value env) [] (take i ns) ++ node_value env (along (node_value env) [] (take i ns)) m ∷ []) g.1

pub value_taken : (env : ℕ → Value) (ns : List Node) (i k : ℕ) → i < k → k ≤ length ns → value_in (values env (take k ns)) i ≡ value_at env ns i
unfolding values
value_taken env ns i k h l = along_take (node_value env) ns i k nothing h l

pub value_step : (env : ℕ → Value) (ns : List Node) (vs lent next : List Value) (at : ℕ) (n : Node) (v : Value) → vs ≡ values env (take at ns) → lent ≡ vs → slice_get ns at ≡ Some n → v ≡ node_value env lent n → next ≡ vs ++ v ∷ [] → next ≡ values env (take (at + 1) ns)
value_step env ns vs lent next at n v i el en ev ex =
    ex ∙ ap₂ (λ ws w. ws ++ w ∷ []) i (ev ∙ ap (λ ws. node_value env ws n) (el ∙ i)) ∙ sym (values_more env ns at n en)

pub value_read : (env : ℕ → Value) (ns : List Node) (vs : List Value) (at id : ℕ) → vs ≡ values env (take at ns) → id < at → at ≤ length ns → value_in vs id ≡ value_at env ns id
value_read env ns vs at id i h l = ap (λ ws. value_in ws id) i ∙ value_taken env ns id at h l
