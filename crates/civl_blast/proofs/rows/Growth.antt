-- Graphs that grow.
use Rattle.std.proofs.Common.{◌≡◌, ◌⊎◌, ℕ, zero, suc, ◌<◌, ◌≤◌, List, [], ◌∷◌, ◌++◌, length, take, refl, sym, ap, ◌∙◌, subst, inl, inr, arith, Some, None, Option, IsTrue}
use Rattle.std.specs.Prelude.{slice_get}
use Rattle.std.proofs.Common.{eqb}
use Rattle.std.proofs.lemmas.Bool.{eq-eqb, or_left, or_right}
use Rattle.civl_bits.specs.declared.value.Value.{Value}
use Rattle.civl_tree.specs.declared.expr.Sort.{Sort}
use Rattle.civl_firing.specs.values.Weights.{bits_in, one_weight, two_weight, pick_weight, get_weight, set_weight}
use Rattle.civl_terms.specs.declared.node.Node.{Node}
use Rattle.civl_terms.specs.declared.node.Node.TheVariants.{Constant, Variable, One as Once, Two as Twice, Pick, Get, Set, Fill, Slice, Widen, Join}
use Rattle.civl_terms.specs.Graphs.{PartsBelow, sorts, Fits}
use Rattle.civl_terms.specs.Weights.{is_part, node_weight, weight_in, own_weight}
use Rattle.civl_terms.specs.Building.{Lengthens, Grows}
use Rattle.civl_terms.proofs.Growing as terms
use Rattle.civl_blast.specs.rows.Cells.{number_above, next_number}
use Rattle.civl_blast.specs.inner.rows.Making.{IsCalm}
use Rattle.civl_blast.proofs.rows.Numbering.{next-push}

-- ---- the nodes before stay

pub lengthens_refl : (ns : List Node) → Lengthens ns ns
lengthens_refl ns = terms.lengthens_same ns

pub lengthens_trans : {a b c : List Node} → Lengthens a b → Lengthens b c → Lengthens a c
lengthens_trans {a} {b} {c} p q = terms.lengthens_trans a b c p q

pub lengthens_same : {a b : List Node} → b ≡ a → Lengthens a b
lengthens_same {a} {b} e = terms.lengthens_kept a b e

-- and no variable comes

pub grows_refl : (ns : List Node) → Grows ns ns
grows_refl ns = terms.grows_same ns

pub grows_trans : {a b c : List Node} → Grows a b → Grows b c → Grows a c
grows_trans {a} {b} {c} p q = terms.grows_trans a b c p q

pub grows_same : {a b : List Node} → b ≡ a → Grows a b
grows_same {a} {b} e = terms.grows_kept a b e

pub longer : {a b : List Node} → Grows a b → Lengthens a b
longer {a} {b} g = terms.lengthened a b g

pub ruleset growth = (grows_trans, grows_refl, grows_same)

pub ruleset lengthening = (lengthens_trans, lengthens_refl, lengthens_same, longer)

slice_get-take : (n i : ℕ) (xs : List Node) → i < n → slice_get (take n xs) i ≡ slice_get xs i
slice_get-take zero i xs h = absurd (omega arith)
slice_get-take (suc n) i [] h = refl
slice_get-take (suc n) zero (x ∷ xs) h = refl
slice_get-take (suc n) (suc i) (x ∷ xs) h = slice_get-take n i xs (omega arith)

pub slice_get-append : (xs ys : List Node) (i : ℕ) → i < length xs → slice_get (xs ++ ys) i ≡ slice_get xs i
slice_get-append [] ys i h = absurd (omega arith)
slice_get-append (x ∷ xs) ys zero h = refl
slice_get-append (x ∷ xs) ys (suc i) h = slice_get-append xs ys i (omega arith)

pub slice_get-last : (xs : List Node) (y : Node) (i : ℕ) → i ≡ length xs → slice_get (xs ++ y ∷ []) i ≡ Some y
slice_get-last [] y zero e = refl
slice_get-last [] y (suc i) e = absurd (omega arith)
slice_get-last (x ∷ xs) y zero e = absurd (omega arith)
slice_get-last (x ∷ xs) y (suc i) e = slice_get-last xs y i (omega arith)

pub node_stays : (old new : List Node) (i : ℕ) → Lengthens old new → i < length old → slice_get new i ≡ slice_get old i
node_stays old new i g h = sym (slice_get-take (length old) i new h) ∙ ap (λ (ns : List Node). slice_get ns i) g.stay

-- ---- own weights stay

weight_stays : (old new : List Node) (n : Node) → Lengthens old new → PartsBelow (length old) n → node_weight (sorts new) n ≡ node_weight (sorts old) n
weight_stays old new (Constant v) g p = refl
weight_stays old new (Variable k s) g p = refl
weight_stays old new (Once op a) g p = ap (λ (o : Option Sort). one_weight op (bits_in o)) (g.sorts a p)
weight_stays old new (Twice op a b) g p = ap (λ (o : Option Sort). two_weight op (bits_in o)) (g.sorts a p.0)
weight_stays old new (Pick c a b) g p = ap (λ (o : Option Sort). pick_weight (bits_in o)) (g.sorts a p.1)
weight_stays old new (Get a b) g p = ap (λ (o : Option Sort). get_weight (bits_in o)) (g.sorts a p.0)
weight_stays old new (Set a b c) g p = ap set_weight (g.sorts a p.0)
weight_stays old new (Fill i a) g p = refl
weight_stays old new (Slice a i j) g p = refl
weight_stays old new (Widen a w) g p = refl
weight_stays old new (Join a b) g p = refl

pub node_weight_stays : (old new : List Node) (n : Node) → Lengthens old new → PartsBelow (length old) n → node_weight (sorts new) n ≡ node_weight (sorts old) n
node_weight_stays old new n g p = weight_stays old new n g p

option_stays : (old new : List Node) (o : Option Node) → Lengthens old new → ((n : Node) → o ≡ Some n → PartsBelow (length old) n) → weight_in new o ≡ weight_in old o
option_stays old new None g p = refl
option_stays old new (Some n) g p = weight_stays old new n g (p n refl)

pub own_weight_stays : (old new : List Node) (i : ℕ) → Lengthens old new → i < length old → ((n : Node) → slice_get old i ≡ Some n → PartsBelow (length old) n) → own_weight new i ≡ own_weight old i
own_weight_stays old new i g h p = ap (weight_in new) (node_stays old new i g h) ∙ option_stays old new (slice_get old i) g p

-- ---- parts

is : (a : ℕ) → IsTrue (eqb a a)
is a = eq-eqb a a refl

-- a node's parts are below what each of them is below
pub parts_from : (m : ℕ) (n : Node) → ((k : ℕ) → IsTrue (is_part n k) → k < m) → PartsBelow m n
parts_from m (Constant v) h = tt
parts_from m (Variable k s) h = tt
parts_from m (Once op a) h = h a (is a)
parts_from m (Twice op a b) h = (h a (or_left _ _ (is a)), h b (or_right _ _ (is b)))
parts_from m (Pick c a b) h = (h c (or_left _ _ (is c)), h a (or_right _ _ (or_left _ _ (is a))), h b (or_right _ _ (or_right _ _ (is b))))
parts_from m (Get a b) h = (h a (or_left _ _ (is a)), h b (or_right _ _ (is b)))
parts_from m (Set c a b) h = (h c (or_left _ _ (is c)), h a (or_right _ _ (or_left _ _ (is a))), h b (or_right _ _ (or_right _ _ (is b))))
parts_from m (Fill i a) h = h a (is a)
parts_from m (Slice a i j) h = h a (is a)
parts_from m (Widen a w) h = h a (is a)
parts_from m (Join a b) h = (h a (or_left _ _ (is a)), h b (or_right _ _ (is b)))

pub parts_wider : (m l : ℕ) (n : Node) → m ≤ l → PartsBelow m n → PartsBelow l n
parts_wider m l (Constant v) h p = tt
parts_wider m l (Variable k s) h p = tt
parts_wider m l (Once op a) h p = omega arith
parts_wider m l (Twice op a b) h p = (omega arith, omega arith)
parts_wider m l (Pick c a b) h p = (omega arith, omega arith, omega arith)
parts_wider m l (Get a b) h p = (omega arith, omega arith)
parts_wider m l (Set c a b) h p = (omega arith, omega arith, omega arith)
parts_wider m l (Fill i a) h p = omega arith
parts_wider m l (Slice a i j) h p = omega arith
parts_wider m l (Widen a w) h p = omega arith
parts_wider m l (Join a b) h p = (omega arith, omega arith)

-- ---- growth by nodes that are no variables

pub calm_refl : (ns : List Node) → IsCalm ns ns
calm_refl ns = record { grows = grows_refl ns; numbers = refl }

pub calm_trans : {a b c : List Node} → IsCalm a b → IsCalm b c → IsCalm a c
calm_trans p q = record { grows = grows_trans p.grows q.grows; numbers = q.numbers ∙ p.numbers }

pub calm_fits : {a b : List Node} → IsCalm a b → (env : ℕ → Value) → Fits env a → Fits env b
calm_fits {a} {b} p env f = terms.fits_grown a b env p.grows f

pub calm_more : (old new : List Node) (n : Node) → Grows old new → number_above n ≡ 0 → (new ≡ old) ⊎ (new ≡ old ++ n ∷ []) → IsCalm old new
calm_more old new n g z (inl e) = let P : List Node → Type 0 = λ ns. IsCalm old ns in subst P (sym e) (calm_refl old)
calm_more old new n g z (inr e) = record { grows = g; numbers = ap next_number e ∙ next-push old n ∙ omega (arith, z) }
