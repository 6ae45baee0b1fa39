-- Values that bits give.
use Rattle.std.specs.Prelude.{slice_get, nat_eq, IsTrue, if◌then◌else◌}
use Rattle.std.proofs.Common.{◌≡◌, ℕ, zero, suc, ◌+◌, ◌<◌, ◌≤◌, length, List, refl, sym, ◌∙◌, ap, ap₂, subst, inl, inr, arith, Bool, true, false, Option, Some, None}
use Rattle.std.proofs.lemmas.List.{get_or_past}
use Rattle.std.proofs.lemmas.Bool.{cases_Bool, cases_lt, false≢true, cond-true, cond-false, eq-eqb, ne_eqb}
use Rattle.civl_bits.specs.Word.{number_of_bits}
use Rattle.civl_bits.proofs.Bits.{number_of_bits-lt, bit_at-number_of_bits}
use Rattle.civl_bits.specs.declared.value.Value.{Value}
use Rattle.civl_bits.specs.declared.value.Value.TheVariants as value
use Rattle.civl_tree.specs.declared.expr.Sort.{Sort}
use Rattle.civl_tree.specs.declared.expr.Sort.TheVariants as sort
use Rattle.civl_firing.specs.values.Values.{HasSort, is_sort}
use Rattle.civl_cnf.specs.Gates.{bit}
use Rattle.civl_circuits.proofs.Numbers.{bit-small}
use Rattle.civl_symbolic.proofs.Widths.{narrow, wide}
use Rattle.civl_symbolic.specs.Symbolic.{Shows}
use Rattle.civl_terms.specs.declared.node.Node.{Node}
use Rattle.civl_terms.specs.declared.node.Node.TheVariants.{Constant, Variable, One as Once, Two as Twice, Pick, Get, Set, Fill, Slice, Widen, Join}
use Rattle.civl_terms.proofs.Soundness.{zeros, zeros_fit}
use Rattle.civl_terms.specs.Graphs.{Fits, IsGraph, IsDistinct}
use Rattle.civl_blast.specs.reach.Reaching.{is_plain}
use Rattle.civl_blast.specs.reach.Marks.{marked}
use Rattle.civl_blast.specs.inner.Steps.{inputs_before, ShowsInputs}
use Rattle.civl_blast.proofs.Laying.{ArePlain}

-- marks stand within their list
pub marked_within : (marks : List Bool) (i : ℕ) → IsTrue (marked marks i) → i < length marks
marked_within marks i h = elim (cases_lt i (length marks)) [
  | inl low ↦ low
  | inr past ↦ absurd (false≢true (sym (get_or_past marks i false past) ∙ h))
]

-- the value that the bits from a place on are
abbrev read_value : (ℕ → Bool) → ℕ → Sort → Value
read_value v first sort.Bool = value.Bool (v first)
read_value v first (sort.Word w) = value.Word (w, number_of_bits w (λ j. bit (v (first + j))))
read_value v first (sort.Row i w) = value.Bool false

pub small_bits : (v : ℕ → Bool) (first j : ℕ) → bit (v (first + j)) < 2
small_bits v first j = omega (arith, bit-small (v (first + j)))

read_value-shows : (v : ℕ → Bool) (first : ℕ) (s : Sort) → IsTrue (is_sort s) → IsTrue (is_plain (Some s)) → HasSort (read_value v first s) s × Shows v first (read_value v first s)
read_value-shows v first sort.Bool h p = ((tt, refl), refl)
read_value-shows v first (sort.Word w) h p = (
  (record { narrow = narrow w h; wide = wide w h; fits = number_of_bits-lt w (λ j. bit (v (first + j))) (small_bits v first) }, eq-eqb w w refl),
  λ j l. sym (bit_at-number_of_bits w (λ i. bit (v (first + i))) (small_bits v first) j l),
)
read_value-shows v first (sort.Row i w) h p = absurd (false≢true p)

-- the value of a variable where this is its node, and else what is known
abbrev value_here : Bool → Option Node → ℕ → (ℕ → Bool) → ℕ → Value → Value
value_here true (Some (Variable a s)) k v first rest = if nat_eq a k then read_value v first s else rest
value_here true (Some (Constant c)) k v first rest = rest
value_here true (Some (Once op a)) k v first rest = rest
value_here true (Some (Twice op a b)) k v first rest = rest
value_here true (Some (Pick c a b)) k v first rest = rest
value_here true (Some (Get row at)) k v first rest = rest
value_here true (Some (Set row at cell)) k v first rest = rest
value_here true (Some (Fill index cell)) k v first rest = rest
value_here true (Some (Slice a high low)) k v first rest = rest
value_here true (Some (Widen a width)) k v first rest = rest
value_here true (Some (Join a b)) k v first rest = rest
value_here true None k v first rest = rest
value_here false _ k v first rest = rest

-- the values of the variables of so many first marked nodes
abbrev pub values_read : List Node → List Bool → (ℕ → Bool) → ℕ → ℕ → Value
values_read ns marks v zero k = zeros ns k
values_read ns marks v (suc n) k = value_here (marked marks n) (slice_get ns n) k v (inputs_before ns marks n) (values_read ns marks v n k)

other_node : (b : Bool) (o : Option Node) (k : ℕ) (v : ℕ → Bool) (first : ℕ) (rest : Value) → ((t : Sort) → b ≡ true → o ≡ Some (Variable k t) → ⊥) → value_here b o k v first rest ≡ rest
other_node true (Some (Variable a s)) k v first rest ne = cond-false (nat_eq a k) (read_value v first s) rest (ne_eqb a k (λ e. ne s refl (ap (λ (n : ℕ). Some (Variable n s)) e)))
other_node true (Some (Constant c)) k v first rest ne = refl
other_node true (Some (Once op a)) k v first rest ne = refl
other_node true (Some (Twice op a b)) k v first rest ne = refl
other_node true (Some (Pick c a b)) k v first rest ne = refl
other_node true (Some (Get row at)) k v first rest ne = refl
other_node true (Some (Set row at cell)) k v first rest ne = refl
other_node true (Some (Fill index cell)) k v first rest ne = refl
other_node true (Some (Slice a high low)) k v first rest ne = refl
other_node true (Some (Widen a width)) k v first rest ne = refl
other_node true (Some (Join a b)) k v first rest ne = refl
other_node true None k v first rest ne = refl
other_node false o k v first rest ne = refl

-- a variable has one node
one_node : (ns : List Node) → IsGraph ns → IsDistinct ns → (i j k : ℕ) (s t : Sort) → slice_get ns i ≡ Some (Variable k s) → slice_get ns j ≡ Some (Variable k t) → i ≡ j
one_node ns graph distinct i j k s t e f =
    let same : t ≡ s = graph.variables i (Variable k s) e j t f in
    distinct i j (Variable k s) e (f ∙ ap (λ (u : Sort). Some (Variable k u)) same)

value_is_read : (ns : List Node) (marks : List Bool) (v : ℕ → Bool) → IsGraph ns → IsDistinct ns → (n i k : ℕ) (s : Sort) → i < n → IsTrue (marked marks i) → slice_get ns i ≡ Some (Variable k s) → values_read ns marks v n k ≡ read_value v (inputs_before ns marks i) s
value_is_read ns marks v graph distinct zero i k s h mark e = absurd (omega arith)
value_is_read ns marks v graph distinct (suc n) i k s h mark e = elim (cases_lt i n) [
  | inl low ↦
      other_node (marked marks n) (slice_get ns n) k v (inputs_before ns marks n) (values_read ns marks v n k) (λ t b f. absurd (omega (arith, one_node ns graph distinct i n k s t e f)))
      ∙ value_is_read ns marks v graph distinct n i k s low mark e
  | inr high ↦
      let same : i ≡ n = omega arith in
      let mark_n : marked marks n ≡ true = sym (ap (marked marks) same) ∙ mark in
      let node_n : slice_get ns n ≡ Some (Variable k s) = sym (ap (slice_get ns) same) ∙ e in
      ap₂ (λ b o. value_here b o k v (inputs_before ns marks n) (values_read ns marks v n k)) mark_n node_n
      ∙ cond-true (nat_eq k k) (read_value v (inputs_before ns marks n) s) (values_read ns marks v n k) (eq-eqb k k refl)
      ∙ ap (λ j. read_value v (inputs_before ns marks j) s) (sym same)
]

pub values_are_read : (ns : List Node) (marks : List Bool) (v : ℕ → Bool) → IsGraph ns → IsDistinct ns → (n : ℕ) → ArePlain ns marks n → ShowsInputs v ns marks n (values_read ns marks v n)
values_are_read ns marks v graph distinct n plain i h mark k s e =
    let P : Value → Type 0 = λ x. HasSort x s × Shows v (inputs_before ns marks i) x in
    subst P (sym (value_is_read ns marks v graph distinct n i k s h mark e)) (read_value-shows v (inputs_before ns marks i) s (graph.limits i (Variable k s) e) (plain i k s h mark e))

-- a variable whose node isn't marked has the zero of its sort
value_unread : (ns : List Node) (marks : List Bool) (v : ℕ → Bool) → IsGraph ns → IsDistinct ns → (n i k : ℕ) (s : Sort) → marked marks i ≡ false → slice_get ns i ≡ Some (Variable k s) → values_read ns marks v n k ≡ zeros ns k
value_unread ns marks v graph distinct zero i k s mark e = refl
value_unread ns marks v graph distinct (suc n) i k s mark e =
    other_node (marked marks n) (slice_get ns n) k v (inputs_before ns marks n) (values_read ns marks v n k) (λ t b f. absurd (false≢true (sym mark ∙ ap (marked marks) (one_node ns graph distinct i n k s t e f) ∙ b)))
    ∙ value_unread ns marks v graph distinct n i k s mark e

pub values_fit : (ns : List Node) (marks : List Bool) (v : ℕ → Bool) → IsGraph ns → IsDistinct ns → (n : ℕ) → length marks ≤ n → ArePlain ns marks n → Fits (values_read ns marks v n) ns
values_fit ns marks v graph distinct n long plain i k s e = elim (cases_Bool (marked marks i)) [
  | inl on ↦ (values_are_read ns marks v graph distinct n plain i (omega (arith, marked_within marks i on, long)) on k s e).0
  | inr off ↦ let P : Value → Type 0 = λ x. HasSort x s in subst P (sym (value_unread ns marks v graph distinct n i k s off e)) (zeros_fit ns graph i k s e)
]
