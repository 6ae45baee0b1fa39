-- A call that builds a term has built the operation's.
use Rattle.std.specs.Prelude.{slice_get, IsSome, nat_eq}
use Rattle.std.proofs.Common.{◌≡◌, ◌∙◌, false, ℕ, ◌<◌, List, length, get_or, refl, sym, ap, subst, arith, Option, Some, None}
use Rattle.std.proofs.lemmas.Bool.{eqb-true, false≢true}
use Rattle.std.proofs.lemmas.Option.{slice_get-get_or}
use Rattle.civl_bits.specs.declared.value.Value.{Value}
use Rattle.civl_tree.specs.declared.expr.Sort.{Sort}
use Rattle.civl_firing.specs.values.Operators.{nothing}
use Rattle.civl_firing.specs.values.Values.{HasSort, sort_of_value}
use Rattle.civl_terms.specs.declared.foldings.folded.Folded.{Folded}
use Rattle.civl_terms.specs.declared.foldings.folded.Folded.TheVariants as folded
use Rattle.civl_terms.specs.foldings.Folding.{IsFolded, IsKnown, AreSame}
use Rattle.civl_terms.specs.declared.node.Node.{Node}
use Rattle.civl_terms.specs.declared.node.Node.TheVariants.{Constant}
use Rattle.civl_terms.specs.Graphs.{PartsBelow, node_value, values, value_at, node_sort, sorts, sort_at, IsGraph, Fits}
use Rattle.civl_terms.specs.Weights.{node_weight}
use Rattle.civl_terms.specs.Building.{Grows, Numbers, Answers, Built, constant_of, constant_at}
use Rattle.civl_terms.proofs.Nodes.{value_of_node}
use Rattle.civl_terms.proofs.Soundness.{sort_is, one_sort_each, nodes_have_their_sorts, zeros, zeros_fit}
use Rattle.civl_terms.proofs.Growing.{is_variable, grows_kept, grows_numbered, built_numbered}

-- ---- what is known of an operand

pub known_at : (ns : List Node) → IsGraph ns → (env : ℕ → Value) (i : ℕ) → IsKnown (constant_at ns i) (value_at env ns i)
known_at ns graph env i = by (slice_get ns i) refl
  where
    by : (o : Option Node) → slice_get ns i ≡ o → IsKnown (constant_of o) (value_at env ns i)
    by None e = tt
    by (Some (Constant v)) e = value_of_node env ns i (Constant v) tt e
    by (Some _) e = tt

pub same_at : (env : ℕ → Value) (ns : List Node) (i j : ℕ) → AreSame (nat_eq i j) (value_at env ns i) (value_at env ns j)
same_at env ns i j e = ap (value_at env ns) (eqb-true i j e)

pub value_fits : (ns : List Node) → IsGraph ns → (env : ℕ → Value) → Fits env ns → (i : ℕ) (s : Sort) → sort_at ns i ≡ Some s → HasSort (value_at env ns i) s
value_fits = nodes_have_their_sorts

-- ---- the growth

pub grows_answered : (old new : List Node) (f : Folded) (n : Node) (a b c id : ℕ) → is_variable n ≡ false → Answers old new f n a b c id → Grows old new
grows_answered old new folded.New n a b c id v h = grows_numbered old new n id v h
grows_answered old new (folded.Constant w) n a b c id v h = grows_numbered old new (Constant w) id refl h
grows_answered old new folded.First n a b c id v h = grows_kept old new h.1
grows_answered old new folded.Second n a b c id v h = grows_kept old new h.1
grows_answered old new folded.Third n a b c id v h = grows_kept old new h.1

-- ---- the term

-- a node and its operands: their numbers, its sort, and that a folding of it has its value
pub record Operation (ns : List Node) (f : Folded) (n : Node) (a b c : ℕ) : Type 0 where
  pub sort : Sort
  pub parts : PartsBelow (length ns) n
  pub sorted : node_sort (sorts ns) n ≡ Some sort
  pub first : a < length ns
  pub second : b < length ns
  pub third : c < length ns
  pub value : (env : ℕ → Value) → Fits env ns → HasSort (node_value env (values env ns) n) sort
  pub is : (env : ℕ → Value) → Fits env ns → IsFolded f (node_value env (values env ns) n) (value_at env ns a) (value_at env ns b) (value_at env ns c)

abbrev Builds : List Node → Node → ℕ → List Node → Type 0
Builds old n id ns = Built old ns id (λ env. node_value env (values env old) n) (node_sort (sorts old) n) (node_weight (sorts old) n)

-- a node of the old graph that always has the operation's value, and so its sort
operand : (old : List Node) → IsGraph old → (n : Node) (s : Sort) (i : ℕ) → node_sort (sorts old) n ≡ Some s
    → ((env : ℕ → Value) → Fits env old → HasSort (node_value env (values env old) n) s)
    → ((env : ℕ → Value) → Fits env old → node_value env (values env old) n ≡ value_at env old i)
    → i < length old → (t : Sort) → sort_at old i ≡ Some t → Builds old n i old
operand old graph n s i e h v l t q =
    let env = zeros old in
    let f = zeros_fit old graph in
    let same : t ≡ s = one_sort_each (value_at env old i) t s (value_fits old graph env f i t q) (subst (λ (x : Value). HasSort x s) (v env f) (h env f)) in
    record {
      within = l;
      is = λ env f. sym (v env f);
      sorted = q ∙ ap (λ (x : Sort). Some x) same ∙ sym e;
      weighs = omega arith;
    }

taken : (old : List Node) (n : Node) (i id : ℕ) (new : List Node) → Builds old n i old → id ≡ i → new ≡ old → Builds old n id new
taken old n i id new h e g = subst (λ ns. Builds old n id ns) (sym g) (subst (λ k. Builds old n k old) (sym e) h)

-- a sort of each node
pub sort_there : (ns : List Node) → IsGraph ns → (i : ℕ) → i < length ns → (t : Sort) × (sort_at ns i ≡ Some t)
sort_there ns graph i l =
    let n = get_or ns i (Constant nothing) in
    some (sort_at ns i) (graph.sorted i n (slice_get-get_or ns i (Constant nothing) l))
  where
    some : (o : Option Sort) → IsSome o → (t : Sort) × (o ≡ Some t)
    some None e = absurd (false≢true e)
    some (Some t) e = (t, refl)

constant : (old new : List Node) → IsGraph old → (n : Node) (s : Sort) (v : Value) (id : ℕ) → node_sort (sorts old) n ≡ Some s
    → ((env : ℕ → Value) → Fits env old → HasSort (node_value env (values env old) n) s)
    → ((env : ℕ → Value) → Fits env old → node_value env (values env old) n ≡ v)
    → Numbers old new (Constant v) id → Builds old n id new
constant old new graph n s v id e h k m =
    let env = zeros old in
    let f = zeros_fit old graph in
    let same : sort_of_value v ≡ s = sort_is v s (subst (λ (x : Value). HasSort x s) (k env f) (h env f)) in
    let b = built_numbered old new (Constant v) id graph tt m in
    let g = grows_numbered old new (Constant v) id refl m in
    record {
      within = b.within;
      is = λ env f. b.is env f ∙ sym (k env (g.fits env f));
      sorted = b.sorted ∙ ap (λ (x : Sort). Some x) same ∙ sym e;
      weighs = omega (arith, b.weighs);
    }

pub built_answered : (old new : List Node) (f : Folded) (n : Node) (a b c id : ℕ) → IsGraph old → Operation old f n a b c → Answers old new f n a b c id → Builds old n id new
built_answered old new folded.New n a b c id graph o h = built_numbered old new n id graph o.parts h
built_answered old new (folded.Constant v) n a b c id graph o h = constant old new graph n o.sort v id o.sorted o.value o.is h
built_answered old new folded.First n a b c id graph o h =
    let t = sort_there old graph a o.first in
    taken old n a id new (operand old graph n o.sort a o.sorted o.value o.is o.first t.0 t.1) h.0 h.1
built_answered old new folded.Second n a b c id graph o h =
    let t = sort_there old graph b o.second in
    taken old n b id new (operand old graph n o.sort b o.sorted o.value o.is o.second t.0 t.1) h.0 h.1
built_answered old new folded.Third n a b c id graph o h =
    let t = sort_there old graph c o.third in
    taken old n c id new (operand old graph n o.sort c o.sorted o.value o.is o.third t.0 t.1) h.0 h.1
