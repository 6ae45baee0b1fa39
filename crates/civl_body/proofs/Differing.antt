-- The terms that differ behind the branches of an `if` are of names that some statement in them may write.
use Rattle.std.specs.Prelude.{slice_get, map, filter, nat_eq, if◌then◌else◌, not, ◌&&◌}
use Rattle.std.proofs.Common.{◌≡◌, ℕ, suc, ◌+◌, ◌≤◌, Bool, true, false, List, [], ◌∷◌, ◌++◌, refl, ap, arith, Some, Option}
use Rattle.std.proofs.lemmas.Bool.{false≢true, eq-eqb, or_left, or_right}
use Rattle.std.proofs.lemmas.Option.{same_Some}
use Rattle.civl_tree.specs.declared.name.Name.{Name}
use Rattle.civl_tree.specs.declared.expr.Sort.{Sort}
use Rattle.civl_tree.specs.declared.action.Param.{Param}
use Rattle.civl_tree.specs.declared.program.Proc.{Proc}
use Rattle.civl_tree.specs.rules.Names.{same_name, has_name, param_names}
use Rattle.civl_tree.specs.rules.Scopes.{Binding, bind_params, bind_locals, bind_proc}
use Rattle.civl_tree.proofs.Naming.{bytes_same}
use Rattle.civl_linear.specs.Places.{is_param}
use Rattle.civl_firing.specs.values.Weights.{bits_in}
use Rattle.civl_meaning.proofs.Bindings.{names_of, sorts_of}
use Rattle.civl_terms.specs.declared.node.Node.{Node}
use Rattle.civl_terms.specs.Graphs.{sort_at}
use Rattle.civl_actions.specs.Scopes.{AreOf}
use Rattle.civl_conditions.specs.Weights.{summed, written_bits}
use Rattle.civl_moves.specs.Branches.{differing}
use Rattle.civl_body.specs.Weights.{may_change}

-- the bits of those of these names that pass the test
abbrev pub bits_by : (Name → Bool) → List Binding → ℕ
bits_by test bs = summed (map (λ b. bits_in (Some b.sort)) (filter (λ b. test b.name) bs))

abbrev one : (Name → Bool) → Binding → ℕ
one test b = if test b.name then bits_in (Some b.sort) else 0

bits_more : (test : Name → Bool) (b : Binding) (bs : List Binding) → bits_by test (b ∷ bs) ≡ one test b + bits_by test bs
bits_more test b bs = by (test b.name)
  where
    by : (t : Bool) → summed (map (λ (c : Binding). bits_in (Some c.sort)) (if t then b ∷ filter (λ (c : Binding). test c.name) bs else filter (λ (c : Binding). test c.name) bs)) ≡ (if t then bits_in (Some b.sort) else 0) + bits_by test bs
    by true = refl
    by false = omega arith

pub bits_append : (test : Name → Bool) (bs cs : List Binding) → bits_by test (bs ++ cs) ≡ bits_by test bs + bits_by test cs
bits_append test [] cs = omega arith
bits_append test (b ∷ bs) cs = omega (arith, bits_more test b (bs ++ cs), bits_more test b bs, bits_append test bs cs)

pub bits_less : (p q : Name → Bool) → ((n : Name) → p n ≡ true → q n ≡ true) → (bs : List Binding) → bits_by p bs ≤ bits_by q bs
bits_less p q f [] = omega arith
bits_less p q f (b ∷ bs) =
    let own = by (p b.name) (q b.name) (f b.name) in
    omega (arith, own, bits_more p b bs, bits_more q b bs, bits_less p q f bs)
  where
    by : (s t : Bool) → (s ≡ true → t ≡ true) → (if s then bits_in (Some b.sort) else 0) ≤ (if t then bits_in (Some b.sort) else 0)
    by false t g = omega arith
    by true true g = omega arith
    by true false g = absurd (false≢true (g refl))

pub bits_none : (test : Name → Bool) (ps : List Param) → ((n : Name) → has_name (param_names ps) n ≡ true → test n ≡ false) → bits_by test (bind_params ps) ≡ 0
bits_none test [] f = refl
bits_none test (p ∷ ps) f =
    let own = ap (λ (t : Bool). if t then bits_in (Some p.sort) else 0) (f p.name (or_left (same_name p.name p.name) (has_name (param_names ps) p.name) (bytes_same p.name p.name refl))) in
    let others = bits_none test ps (λ n e. f n (or_right (same_name n p.name) (has_name (param_names ps) n) e)) in
    omega (arith, own, others, bits_more test (record { name = p.name; sort = p.sort }) (bind_params ps))

-- ---- terms for these names

heads : (a b : Option Sort) (rest others : List (Option Sort)) → ◌≡◌ {A = List (Option Sort)} (a ∷ rest) (b ∷ others) → (a ≡ b) × (rest ≡ others)
heads a b rest others e = (ap head e, ap tail e)
  where
    head : List (Option Sort) → Option Sort
    head [] = a
    head (x ∷ xs) = x

    tail : List (Option Sort) → List (Option Sort)
    tail [] = rest
    tail (x ∷ xs) = xs

pub differ_few : (ns : List Node) (test : Name → Bool) (bs : List Binding) (xs ys : List ℕ) → AreOf ns xs (sorts_of bs) → ((place : ℕ) (n : Name) → slice_get (names_of bs) place ≡ Some n → test n ≡ false → slice_get xs place ≡ slice_get ys place) → differing ns xs ys ≤ bits_by test bs
differ_few ns test [] [] ys h f = omega arith
differ_few ns test [] (x ∷ xs) ys h f = absurd (cc)
differ_few ns test (b ∷ bs) [] ys h f = omega arith
differ_few ns test (b ∷ bs) (x ∷ xs) [] h f = omega arith
differ_few ns test (b ∷ bs) (x ∷ xs) (y ∷ ys) h f =
    let parts = heads (sort_at ns x) (Some b.sort) _ _ h in
    let others = differ_few ns test bs xs ys parts.1 (λ place n e t. f (suc place) n e t) in
    let own = by (test b.name) (nat_eq x y) (λ t. let same : x ≡ y = same_Some x y (f 0 b.name refl t) in eq-eqb x y same) refl parts.0 in
    omega (arith, others, own, bits_more test b bs)
  where
    by : (t e : Bool) → (test b.name ≡ false → e ≡ true) → test b.name ≡ t → sort_at ns x ≡ Some b.sort → (if e then 0 else bits_in (sort_at ns x)) ≤ (if t then bits_in (Some b.sort) else 0)
    by t true g q s = omega arith
    by true false g q s = let w = ap bits_in s in omega (arith, w)
    by false false g q s = absurd (false≢true (g q))

-- ---- outputs and locals

pub frame_bits : (proc : Proc) (names : List Name) → bits_by (may_change proc names) (bind_proc proc) ≤ written_bits names (bind_params proc.outs ++ bind_locals proc.locals)
frame_bits proc names =
    let whole = bits_append (may_change proc names) (bind_params proc.params) (bind_params proc.outs ++ bind_locals proc.locals) in
    let none = bits_none (may_change proc names) proc.params (λ n e. no_change (has_name names n) (is_param proc n) e) in
    let others = bits_less (may_change proc names) (has_name names) (λ n e. named (has_name names n) (is_param proc n) e) (bind_params proc.outs ++ bind_locals proc.locals) in
    omega (arith, whole, none, others)
  where
    no_change : (a b : Bool) → b ≡ true → (a && not b) ≡ false
    no_change true b e = ap not e
    no_change false b e = refl

    named : (a b : Bool) → (a && not b) ≡ true → a ≡ true
    named true b e = refl
    named false b e = e
