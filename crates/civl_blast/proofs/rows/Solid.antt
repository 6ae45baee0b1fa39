-- Sets of nodes that hold what they reach.
use Rattle.std.proofs.Common.{◌≡◌, ℕ, zero, suc, ◌+◌, ◌<◌, ◌≤◌, List, [], ◌∷◌, ◌++◌, length, get_or, refl, sym, ap, ◌∙◌, subst, inl, inr, arith, Some, IsTrue}
use Rattle.std.specs.Prelude.{slice_get}
use Rattle.std.proofs.lemmas.Option.{slice_get_within, same_Some}
use Rattle.civl_tree.specs.declared.expr.Sort.{Sort}
use Rattle.civl_terms.specs.declared.node.Node.{Node}
use Rattle.civl_terms.specs.declared.node.Node.TheVariants.{Variable}
use Rattle.civl_terms.specs.Graphs.{sorts, sort_at}
use Rattle.civl_terms.specs.Weights.{is_part, node_weight, weight_in, own_weight}
use Rattle.civl_terms.specs.Building.{Lengthens, Grows}
use Rattle.civl_blast.specs.reach.Reaching.{is_plain}
use Rattle.civl_blast.specs.rows.Cells.{number_above}
use Rattle.civl_blast.specs.inner.rows.Making.{Has, AllIn, Covers, IsSolid, nodes_weight, Takes, Adds, NoNode}
use Rattle.civl_blast.proofs.rows.Growth.{lengthens_trans, longer, node_stays, own_weight_stays, parts_from}

pub all_covered : (s t xs : List ℕ) → Covers s t → AllIn s xs → AllIn t xs
all_covered s t [] c a = tt
all_covered s t (x ∷ xs) c a = (c x a.0, all_covered s t xs c a.1)

pub all-append : (s xs ys : List ℕ) → AllIn s xs → AllIn s ys → AllIn s (xs ++ ys)
all-append s [] ys a b = b
all-append s (x ∷ xs) ys a b = (a.0, all-append s xs ys a.1 b)

pub all_at : (s xs : List ℕ) (i d : ℕ) → AllIn s xs → i < length xs → Has s (get_or xs i d)
all_at s [] i d a h = absurd (omega arith)
all_at s (x ∷ xs) zero d a h = a.0
all_at s (x ∷ xs) (suc i) d a h = all_at s xs i d a.1 (omega arith)

pub solid_grown : {old new : List Node} {s : List ℕ} → Lengthens old new → IsSolid old s → IsSolid new s
solid_grown {old} {new} {s} g h = record {
  within = λ i y. omega (arith, h.within i y, g.longer);
  closed = λ i k n y e p. h.closed i k n y (sym (node_stays old new i g (h.within i y)) ∙ e) p;
  plain = λ i y. ap is_plain (g.sorts i (h.within i y)) ∙ h.plain i y;
}

weights_stay : (old new : List Node) (s xs : List ℕ) → Lengthens old new → IsSolid old s → Covers xs s → nodes_weight new xs ≡ nodes_weight old xs
weights_stay old new s [] g h c = refl
weights_stay old new s (x ∷ xs) g h c =
    let y = c x (inl refl) in
    let own = own_weight_stays old new x g (h.within x y) (λ n e. parts_from (length old) n (λ k p. h.within k (h.closed x k n y e p))) in
    let rest = weights_stay old new s xs g h (λ i z. c i (inr z)) in
    omega (arith, own, rest)

pub nodes_weight_stays : {old new : List Node} {s : List ℕ} → Lengthens old new → IsSolid old s → nodes_weight new s ≡ nodes_weight old s
nodes_weight_stays {old} {new} {s} g h = weights_stay old new s s g h (λ i y. y)

-- nothing is added
pub takes_none : {old new : List Node} (Uses : List ℕ → Type 0) (Own : ℕ → Type 0) (made : List ℕ) (cost : ℕ) → Lengthens old new → ((s : List ℕ) → Uses s → AllIn s made) → Takes old new Uses Own made cost
takes_none {old} {new} Uses Own made cost g h = record {
  grows = g;
  set = λ s solid u. (s, record { solid = solid_grown g solid; covers = λ i y. y; all = h s u; variables = λ i k t y e. inl y; weighs = omega (arith, nodes_weight_stays g solid) });
}

pub adds_none : {old new : List Node} (Uses : List ℕ → Type 0) (made : List ℕ) (cost : ℕ) → Grows old new → ((s : List ℕ) → Uses s → AllIn s made) → Adds old new Uses made cost
adds_none Uses made cost g h = takes_none Uses NoNode made cost (longer g) h

-- a node is added, whose parts are there
pub takes_node : {old new : List Node} (Uses : List ℕ → Type 0) (Own : ℕ → Type 0) (id cost : ℕ) (n : Node) → Lengthens old new → slice_get new id ≡ Some n → IsTrue (is_plain (sort_at new id)) → ((s : List ℕ) → Uses s → (k : ℕ) → IsTrue (is_part n k) → Has s k) → ((k : ℕ) (s : Sort) → n ≡ Variable k s → Own id) → node_weight (sorts new) n ≤ cost → Takes old new Uses Own (id ∷ []) cost
takes_node {old} {new} Uses Own id cost n g e plain parts own light = record {
  grows = g;
  set = λ s solid u.
      let more = solid_grown g solid in
      let weight : own_weight new id ≡ node_weight (sorts new) n = ap (weight_in new) e in
      let P : ℕ → Type 0 = λ i. IsTrue (is_plain (sort_at new i)) in
      let same : (i : ℕ) (m : Node) → i ≡ id → slice_get new i ≡ Some m → n ≡ m = λ i m q f. same_Some n m (sym e ∙ ap (slice_get new) (sym q) ∙ f) in (
        id ∷ s,
        record {
          solid = record {
            within = λ i y. elim y [ inl q ↦ omega (arith, slice_get_within new id n e) | inr z ↦ more.within i z ];
            closed = λ i k m y f p. elim y [
              | inl q ↦ inr (parts s u k (ap (λ (o : Node). is_part o k) (same i m q f) ∙ p))
              | inr z ↦ inr (more.closed i k m z f p)
            ];
            plain = λ i y. elim y [ inl q ↦ subst P (sym q) plain | inr z ↦ more.plain i z ];
          };
          covers = λ i y. inr y;
          all = (inl refl, tt);
          variables = λ i k t y f. elim y [
            | inl q ↦ inr (subst Own (sym q) (own k t (same i (Variable k t) q f)))
            | inr z ↦ inl z
          ];
          weighs = omega (arith, weight, light, nodes_weight_stays g solid);
        },
      );
}

pub adds_node : {old new : List Node} (Uses : List ℕ → Type 0) (id cost : ℕ) (n : Node) → Grows old new → number_above n ≡ 0 → slice_get new id ≡ Some n → IsTrue (is_plain (sort_at new id)) → ((s : List ℕ) → Uses s → (k : ℕ) → IsTrue (is_part n k) → Has s k) → node_weight (sorts new) n ≤ cost → Adds old new Uses (id ∷ []) cost
adds_node Uses id cost n g z e plain parts light = takes_node Uses NoNode id cost n (longer g) e plain parts (λ k s q. absurd (omega (arith, z, ap number_above q))) light

-- one after the other
pub takes_then : {a b c : List Node} {Uses More : List ℕ → Type 0} {First Second : ℕ → Type 0} {made next : List ℕ} {p q : ℕ} (Own : ℕ → Type 0) (out : List ℕ) (cost : ℕ) → Takes a b Uses First made p → Takes b c More Second next q → ((i : ℕ) → First i → Own i) → ((i : ℕ) → Second i → Own i) → ((s t : List ℕ) → Uses s → Covers s t → AllIn t made → More t) → ((s t : List ℕ) → Uses s → Covers s t → AllIn t made → AllIn t next → AllIn t out) → p + q ≤ cost → Takes a c Uses Own out cost
takes_then {a} {b} {c} {Uses} {More} {First} {Second} {made} {next} {p} {q} Own out cost first second one two uses gives light = record {
  grows = lengthens_trans first.grows second.grows;
  set = λ s solid u.
      let x = first.set s solid u in
      let y = second.set x.0 x.1.solid (uses s x.0 u x.1.covers x.1.all) in
      let both : Covers s y.0 = λ i h. y.1.covers i (x.1.covers i h) in (
        y.0,
        record {
          solid = y.1.solid;
          covers = both;
          all = gives s y.0 u both (all_covered x.0 y.0 made y.1.covers x.1.all) y.1.all;
          variables = λ i k t h e. elim (y.1.variables i k t h e) [
            | inl z ↦ elim (x.1.variables i k t z (sym (node_stays b c i second.grows (x.1.solid.within i z)) ∙ e)) [
              | inl w ↦ inl w
              | inr w ↦ inr (one i w)
            ]
            | inr z ↦ inr (two i z)
          ];
          weighs = omega (arith, x.1.weighs, y.1.weighs, light);
        },
      );
}

pub adds_then : {a b c : List Node} {Uses More : List ℕ → Type 0} {made next : List ℕ} {p q : ℕ} (out : List ℕ) (cost : ℕ) → Adds a b Uses made p → Adds b c More next q → ((s t : List ℕ) → Uses s → Covers s t → AllIn t made → More t) → ((s t : List ℕ) → Uses s → Covers s t → AllIn t made → AllIn t next → AllIn t out) → p + q ≤ cost → Adds a c Uses out cost
adds_then out cost first second uses gives light = takes_then NoNode out cost first second (λ i h. h) (λ i h. h) uses gives light

-- from more, less, at a higher cost
pub takes_as : {a b : List Node} {Uses : List ℕ → Type 0} {First : ℕ → Type 0} {made : List ℕ} {p : ℕ} (More : List ℕ → Type 0) (Own : ℕ → Type 0) (out : List ℕ) (cost : ℕ) → Takes a b Uses First made p → ((i : ℕ) → First i → Own i) → ((s : List ℕ) → More s → Uses s) → ((s t : List ℕ) → More s → Covers s t → AllIn t made → AllIn t out) → p ≤ cost → Takes a b More Own out cost
takes_as More Own out cost first own uses gives light = record {
  grows = first.grows;
  set = λ s solid u.
      let x = first.set s solid (uses s u) in (
        x.0,
        record {
          solid = x.1.solid;
          covers = x.1.covers;
          all = gives s x.0 u x.1.covers x.1.all;
          variables = λ i k t h e. elim (x.1.variables i k t h e) [ inl z ↦ inl z | inr z ↦ inr (own i z) ];
          weighs = omega (arith, x.1.weighs, light);
        },
      );
}

pub adds_as : {a b : List Node} {Uses : List ℕ → Type 0} {made : List ℕ} {p : ℕ} (More : List ℕ → Type 0) (out : List ℕ) (cost : ℕ) → Adds a b Uses made p → ((s : List ℕ) → More s → Uses s) → ((s t : List ℕ) → More s → Covers s t → AllIn t made → AllIn t out) → p ≤ cost → Adds a b More out cost
adds_as More out cost first uses gives light = takes_as More NoNode out cost first (λ i h. h) uses gives light
