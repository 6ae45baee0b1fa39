-- The places of the inputs, and assignments of them.
use Rattle.std.specs.Prelude.{slice_get, nat_lt, nat_eq, All, IsTrue, if◌then◌else◌}
use Rattle.std.specs.Int.{bit_at}
use Rattle.std.proofs.Common.{◌≡◌, ℕ, zero, suc, ◌+◌, ◌-◌, ◌<◌, ◌≤◌, List, [], ◌∷◌, ◌++◌, length, get_or, refl, sym, ◌∙◌, ap, ap₂, subst, inl, inr, arith, Bool, true, false, Option, Some, None, length-append}
use Rattle.std.proofs.Math.ListN.{get_or-append}
use Rattle.std.proofs.Math.Seq.{get_or-append_seam}
use Rattle.std.proofs.lemmas.Bool.{cases_lt, cases_eq, false≢true, cond-true, cond-false, lt-ltb, le-ltb, eq-eqb, ne_eqb, eqb-true}
use Rattle.std.proofs.lemmas.List.Elements.{All-nil, All-cons, All-append}
use Rattle.std.proofs.lemmas.Nat.Bits.{bit_at-lt}
use Rattle.civl_bits.specs.declared.value.Value.{Value}
use Rattle.civl_bits.specs.declared.value.Value.TheVariants as value
use Rattle.civl_tree.specs.declared.expr.Sort.{Sort}
use Rattle.civl_tree.specs.declared.expr.Sort.TheVariants as sort
use Rattle.civl_tree.specs.rules.StoreSize.{bits_of}
use Rattle.civl_firing.specs.values.Values.{HasSort}
use Rattle.civl_cnf.specs.Gates.{bit}
use Rattle.civl_symbolic.specs.Symbolic.{Shows}
use Rattle.civl_terms.specs.declared.node.Node.{Node}
use Rattle.civl_terms.specs.declared.node.Node.TheVariants.{Constant, Variable, One as Once, Two as Twice, Pick, Get, Set, Fill, Slice, Widen, Join}
use Rattle.civl_terms.specs.Graphs.{Fits, IsGraph}
use Rattle.civl_terms.proofs.Nodes.{sort_of_node}
use Rattle.civl_blast.specs.reach.Reaching.{Reaches, is_plain, IsRowless}
use Rattle.civl_blast.specs.reach.Marks.{marked, IsMarking}
use Rattle.civl_blast.specs.declared.blasted.Place.{Place}
use Rattle.civl_blast.specs.Standing.{ShowAll}
use Rattle.civl_blast.specs.rows.Cells.{cell_of}
use Rattle.civl_blast.specs.inner.Steps.{input_bits, input_place, inputs_before, places_before, TakesPlain, ShowsInput, ShowsInputs}
use Rattle.civl_blast.proofs.Weighing.{inputs_next, inputs_less}

-- ---- variables are plain

pub variable_plain : {ns : List Node} {id : ℕ} → IsGraph ns → IsRowless ns id → (i k : ℕ) (s : Sort) → Reaches ns id i → slice_get ns i ≡ Some (Variable k s) → IsTrue (is_plain (Some s))
variable_plain {ns} graph rowless i k s r e = let P : Option Sort → Type 0 = λ o. IsTrue (is_plain o) in subst P (sort_of_node ns i (Variable k s) (graph.parts i (Variable k s) e) e) (rowless i r)

pub takes_plain : {ns : List Node} {id : ℕ} (i : ℕ) (n : Node) → IsGraph ns → IsRowless ns id → Reaches ns id i → slice_get ns i ≡ Some n → TakesPlain n
takes_plain i (Variable k s) graph rowless r e = variable_plain graph rowless i k s r e
takes_plain i (Constant c) graph rowless r e = tt
takes_plain i (Once op a) graph rowless r e = tt
takes_plain i (Twice op a b) graph rowless r e = tt
takes_plain i (Pick c a b) graph rowless r e = tt
takes_plain i (Get row at) graph rowless r e = tt
takes_plain i (Set row at cell) graph rowless r e = tt
takes_plain i (Fill index cell) graph rowless r e = tt
takes_plain i (Slice a high low) graph rowless r e = tt
takes_plain i (Widen a width) graph rowless r e = tt
takes_plain i (Join a b) graph rowless r e = tt

-- a plain value is its only cell
plain_cell : (x : Value) (s : Sort) → HasSort x s → IsTrue (is_plain (Some s)) → cell_of x 0 ≡ x
plain_cell (value.Bool b) s h p = refl
plain_cell (value.Word w) s h p = refl
plain_cell (value.Row r) sort.Bool h p = absurd (false≢true h.1)
plain_cell (value.Row r) (sort.Word w) h p = absurd (false≢true h.1)
plain_cell (value.Row r) (sort.Row i w) h p = absurd (false≢true p)

-- ---- places

abbrev pub no_place : Place
no_place = record { variable = 0; cell = 0; first = 0 }

abbrev pub place_for : ℕ → ℕ → Place
place_for k first = record { variable = k; cell = 0; first = first }

pub record IsAt (places : List Place) (p : ℕ) (place : Place) : Type 0 where
  pub within : p < length places
  pub is : get_or places p no_place ≡ place

pub place_at : (ns : List Node) (marks : List Bool) (n i k : ℕ) (s : Sort) → i < n → marked marks i ≡ true → slice_get ns i ≡ Some (Variable k s) → (p : ℕ) × IsAt (places_before ns marks n) p (place_for k (inputs_before ns marks i))
place_at ns marks zero i k s h mark e = absurd (omega arith)
place_at ns marks (suc n) i k s h mark e =
    let before : List Place = places_before ns marks n in
    let new : List Place = input_place (marked marks n) (slice_get ns n) (inputs_before ns marks n) in
    elim (cases_lt i n) [
      | inl low ↦
          let q = place_at ns marks n i k s low mark e in
          (q.0, record { within = omega (arith, q.1.within, length-append before new); is = get_or-append before new no_place q.0 q.1.within ∙ q.1.is })
      | inr high ↦
          let same : i ≡ n = omega arith in
          let mark_n : marked marks n ≡ true = sym (ap (marked marks) same) ∙ mark in
          let node_n : slice_get ns n ≡ Some (Variable k s) = sym (ap (slice_get ns) same) ∙ e in
          let new_is : new ≡ place_for k (inputs_before ns marks n) ∷ [] = ap₂ (λ b o. input_place b o (inputs_before ns marks n)) mark_n node_n in (
            length before,
            record {
              within = omega (arith, length-append before new, ap length new_is);
              is = ap (λ ps. get_or (before ++ ps) (length before) no_place) new_is ∙ get_or-append_seam before (place_for k (inputs_before ns marks n)) [] no_place ∙ ap (λ j. place_for k (inputs_before ns marks j)) (sym same);
            },
          )
    ]

-- the places' bits show the inputs
pub inputs_from_places : {ns : List Node} {id : ℕ} {marks : List Bool} → IsGraph ns → IsRowless ns id → IsMarking ns id 0 marks → (v : ℕ → Bool) (env : ℕ → Value) → Fits env ns → ShowAll v (places_before ns marks (id + 1)) env → ShowsInputs v ns marks (id + 1) env
inputs_from_places {ns} {id} {marks} graph rowless m v env fits reads i h mark k s e =
    let has = fits i k s e in
    let q = place_at ns marks (id + 1) i k s h mark e in
    let P : Place → Type 0 = λ p. Shows v p.first (cell_of (env p.variable) p.cell) in
    let shown : P (place_for k (inputs_before ns marks i)) = subst P q.1.is (reads q.0 no_place q.1.within) in
    let Q : Value → Type 0 = λ x. Shows v (inputs_before ns marks i) x in
    (has, subst Q (plain_cell (env k) s has (variable_plain graph rowless i k s (m.only i mark) e)) shown)

-- ---- and the other way round

one_place : (Q : Place → Type 0) (b : Bool) (o : Option Node) (first : ℕ) → ((k : ℕ) (s : Sort) → b ≡ true → o ≡ Some (Variable k s) → Q (place_for k first)) → All Q (input_place b o first)
one_place Q true (Some (Variable k s)) first h = All-cons Q (place_for k first) [] (h k s refl refl) (All-nil Q)
one_place Q true (Some (Constant c)) first h = All-nil Q
one_place Q true (Some (Once op a)) first h = All-nil Q
one_place Q true (Some (Twice op a b)) first h = All-nil Q
one_place Q true (Some (Pick c a b)) first h = All-nil Q
one_place Q true (Some (Get row at)) first h = All-nil Q
one_place Q true (Some (Set row at cell)) first h = All-nil Q
one_place Q true (Some (Fill index cell)) first h = All-nil Q
one_place Q true (Some (Slice a high low)) first h = All-nil Q
one_place Q true (Some (Widen a width)) first h = All-nil Q
one_place Q true (Some (Join a b)) first h = All-nil Q
one_place Q true None first h = All-nil Q
one_place Q false o first h = All-nil Q

-- what holds of the place of each marked variable holds of all places
pub places_all : (Q : Place → Type 0) (ns : List Node) (marks : List Bool) (n : ℕ) → ((i k : ℕ) (s : Sort) → i < n → IsTrue (marked marks i) → slice_get ns i ≡ Some (Variable k s) → Q (place_for k (inputs_before ns marks i))) → All Q (places_before ns marks n)
places_all Q ns marks zero h = All-nil Q
places_all Q ns marks (suc n) h =
    All-append Q (places_before ns marks n) (input_place (marked marks n) (slice_get ns n) (inputs_before ns marks n))
    (places_all Q ns marks n (λ i k s l mark e. h i k s (omega arith) mark e))
    (one_place Q (marked marks n) (slice_get ns n) (inputs_before ns marks n) (λ k s mark e. h n k s (omega arith) mark e))

-- each variable among so many first marked nodes is plain
abbrev pub ArePlain : List Node → List Bool → ℕ → Type 0
ArePlain ns marks n = (i k : ℕ) (s : Sort) → i < n → IsTrue (marked marks i) → slice_get ns i ≡ Some (Variable k s) → IsTrue (is_plain (Some s))

pub places_from_inputs : (ns : List Node) (marks : List Bool) (v : ℕ → Bool) (env : ℕ → Value) (n : ℕ) → ArePlain ns marks n → ShowsInputs v ns marks n env → ShowAll v (places_before ns marks n) env
places_from_inputs ns marks v env n plain shows = places_all (λ p. Shows v p.first (cell_of (env p.variable) p.cell)) ns marks n (λ i k s h mark e.
    let here = shows i h mark k s e in
    let Q : Value → Type 0 = λ x. Shows v (inputs_before ns marks i) x in
    subst Q (sym (plain_cell (env k) s here.0 (plain i k s h mark e))) here.1)

-- ---- bits of values

abbrev pub value_bit : Value → ℕ → Bool
value_bit (value.Bool b) j = b
value_bit (value.Word w) j = nat_eq (bit_at w.1 j) 1
value_bit (value.Row r) j = false

read_bit : (n : ℕ) → n < 2 → bit (nat_eq n 1) ≡ n
read_bit n h = elim (cases_eq n 1) [
  | inl e ↦ ap bit (eq-eqb n 1 e) ∙ sym e
  | inr ne ↦ ap bit (ne_eqb n 1 ne) ∙ omega arith
]

-- where the bits are a value's, they show it
bits_show : (v : ℕ → Bool) (first : ℕ) (x : Value) (s : Sort) → HasSort x s → IsTrue (is_plain (Some s)) → ((j : ℕ) → v (first + j) ≡ value_bit x j) → Shows v first x
bits_show v first (value.Bool b) s h p is = let e : first ≡ first + 0 = omega arith in ap v e ∙ is 0
bits_show v first (value.Word w) s h p is = λ j l. ap bit (is j) ∙ read_bit (bit_at w.1 j) (bit_at-lt w.1 j)
bits_show v first (value.Row r) sort.Bool h p is = absurd (false≢true h.1)
bits_show v first (value.Row r) (sort.Word w) h p is = absurd (false≢true h.1)
bits_show v first (value.Row r) (sort.Row i w) h p is = absurd (false≢true p)

same_bit : (a b : Bool) → bit a ≡ bit b → a ≡ b
same_bit true true e = refl
same_bit true false e = absurd (omega arith)
same_bit false true e = absurd (omega arith)
same_bit false false e = refl

-- the bits that show a value are the same
shown_once : (v w : ℕ → Bool) (first : ℕ) (x : Value) (s : Sort) → HasSort x s → Shows v first x → Shows w first x → (j : ℕ) → j < bits_of s → v (first + j) ≡ w (first + j)
shown_once v w first (value.Bool b) sort.Bool h p q j l = let e : first + j ≡ first = omega arith in ap v e ∙ p ∙ sym q ∙ sym (ap w e)
shown_once v w first (value.Bool b) (sort.Word n) h p q j l = absurd (false≢true h.1)
shown_once v w first (value.Bool b) (sort.Row i n) h p q j l = absurd (false≢true h.1)
shown_once v w first (value.Word a) sort.Bool h p q j l = absurd (false≢true h.1)
shown_once v w first (value.Word a) (sort.Word n) h p q j l = let same : a.0 ≡ n = eqb-true a.0 n h.1 in same_bit (v (first + j)) (w (first + j)) (p j (omega arith) ∙ sym (q j (omega arith)))
shown_once v w first (value.Word a) (sort.Row i n) h p q j l = absurd (false≢true h.1)
shown_once v w first (value.Row r) s h p q j l = absurd p

-- what the bits show stays where they are the same
shown_same : (v w : ℕ → Bool) (first : ℕ) (x : Value) (s : Sort) → HasSort x s → ((j : ℕ) → j < bits_of s → v (first + j) ≡ w (first + j)) → Shows v first x → Shows w first x
shown_same v w first (value.Bool b) sort.Bool h same p = let e : first ≡ first + 0 = omega arith in ap w e ∙ sym (same 0 (omega arith)) ∙ sym (ap v e) ∙ p
shown_same v w first (value.Bool b) (sort.Word n) h same p = absurd (false≢true h.1)
shown_same v w first (value.Bool b) (sort.Row i n) h same p = absurd (false≢true h.1)
shown_same v w first (value.Word a) sort.Bool h same p = absurd (false≢true h.1)
shown_same v w first (value.Word a) (sort.Word n) h same p = let width : a.0 ≡ n = eqb-true a.0 n h.1 in λ j l. sym (ap bit (same j (omega arith))) ∙ p j l
shown_same v w first (value.Word a) (sort.Row i n) h same p = absurd (false≢true h.1)
shown_same v w first (value.Row r) s h same p = absurd p

-- ---- inputs that agree

node_agrees : (v w : ℕ → Bool) (env : ℕ → Value) (b : Bool) (o : Option Node) (first j : ℕ) → j < input_bits b o → (b ≡ true → ShowsInput v first env o) → (b ≡ true → ShowsInput w first env o) → v (first + j) ≡ w (first + j)
node_agrees v w env true (Some (Variable k s)) first j h p q = let a = p refl k s refl in let b = q refl k s refl in shown_once v w first (env k) s a.0 a.1 b.1 j h
node_agrees v w env true (Some (Constant c)) first j h p q = absurd (omega arith)
node_agrees v w env true (Some (Once op a)) first j h p q = absurd (omega arith)
node_agrees v w env true (Some (Twice op a b)) first j h p q = absurd (omega arith)
node_agrees v w env true (Some (Pick c a b)) first j h p q = absurd (omega arith)
node_agrees v w env true (Some (Get row at)) first j h p q = absurd (omega arith)
node_agrees v w env true (Some (Set row at cell)) first j h p q = absurd (omega arith)
node_agrees v w env true (Some (Fill index cell)) first j h p q = absurd (omega arith)
node_agrees v w env true (Some (Slice a high low)) first j h p q = absurd (omega arith)
node_agrees v w env true (Some (Widen a width)) first j h p q = absurd (omega arith)
node_agrees v w env true (Some (Join a b)) first j h p q = absurd (omega arith)
node_agrees v w env true None first j h p q = absurd (omega arith)
node_agrees v w env false o first j h p q = absurd (omega arith)

pub inputs_agree : (ns : List Node) (marks : List Bool) (v w : ℕ → Bool) (env : ℕ → Value) (n : ℕ) → ShowsInputs v ns marks n env → ShowsInputs w ns marks n env → (x : ℕ) → x < inputs_before ns marks n → v x ≡ w x
inputs_agree ns marks v w env zero p q x h = absurd (omega arith)
inputs_agree ns marks v w env (suc n) p q x h = elim (cases_lt x (inputs_before ns marks n)) [
  | inl low ↦ inputs_agree ns marks v w env n (λ i l mark. p i (omega arith) mark) (λ i l mark. q i (omega arith) mark) x low
  | inr high ↦
      let first : ℕ = inputs_before ns marks n in
      let j : ℕ = x - first in
      let e : x ≡ first + j = omega arith in
      ap v e ∙ node_agrees v w env (marked marks n) (slice_get ns n) first j (omega arith) (λ mark. p n (omega arith) mark) (λ mark. q n (omega arith) mark) ∙ sym (ap w e)
]

-- ---- inputs that show values

abbrev node_bit : (ℕ → Value) → Option Node → ℕ → Bool
node_bit env (Some (Variable k s)) j = value_bit (env k) j
node_bit env (Some _) j = false
node_bit env None j = false

abbrev pub input_values : List Node → List Bool → (ℕ → Value) → ℕ → ℕ → Bool
input_values ns marks env zero x = false
input_values ns marks env (suc n) x = if nat_lt x (inputs_before ns marks n) then input_values ns marks env n x else node_bit env (slice_get ns n) (x - inputs_before ns marks n)

values_stay : (ns : List Node) (marks : List Bool) (env : ℕ → Value) (n x : ℕ) → x < inputs_before ns marks n → input_values ns marks env (suc n) x ≡ input_values ns marks env n x
values_stay ns marks env n x h = cond-true (nat_lt x (inputs_before ns marks n)) _ _ (lt-ltb x (inputs_before ns marks n) h)

values_new : (ns : List Node) (marks : List Bool) (env : ℕ → Value) (n j : ℕ) → input_values ns marks env (suc n) (inputs_before ns marks n + j) ≡ node_bit env (slice_get ns n) j
values_new ns marks env n j =
    let first : ℕ = inputs_before ns marks n in
    let e : first + j - first ≡ j = omega arith in
    cond-false (nat_lt (first + j) first) _ _ (le-ltb (first + j) first (omega arith)) ∙ ap (node_bit env (slice_get ns n)) e

-- each variable among so many first marked nodes has a value of its sort
abbrev pub HaveValues : List Node → List Bool → (ℕ → Value) → ℕ → Type 0
HaveValues ns marks env n = (i k : ℕ) (s : Sort) → i < n → IsTrue (marked marks i) → slice_get ns i ≡ Some (Variable k s) → HasSort (env k) s

pub values_show : (ns : List Node) (marks : List Bool) (env : ℕ → Value) (n : ℕ) → ArePlain ns marks n → HaveValues ns marks env n → ShowsInputs (input_values ns marks env n) ns marks n env
values_show ns marks env zero plain have i h mark k s e = absurd (omega arith)
values_show ns marks env (suc n) plain have i h mark k s e =
    let has = have i k s h mark e in
    elim (cases_lt i n) [
      | inl low ↦
          let before = values_show ns marks env n (λ a b c l f g. plain a b c (omega arith) f g) (λ a b c l f g. have a b c (omega arith) f g) i low mark k s e in
          let bits : input_bits (marked marks i) (slice_get ns i) ≡ bits_of s = ap₂ input_bits mark e in
          let room : inputs_before ns marks i + bits_of s ≤ inputs_before ns marks n = omega (arith, inputs_next ns marks i, bits, inputs_less ns marks (i + 1) n (omega arith)) in
          (has, shown_same (input_values ns marks env n) (input_values ns marks env (suc n)) (inputs_before ns marks i) (env k) s has (λ j l. sym (values_stay ns marks env n (inputs_before ns marks i + j) (omega arith))) before.1)
      | inr high ↦
          let same : i ≡ n = omega arith in
          let node_n : slice_get ns n ≡ Some (Variable k s) = sym (ap (slice_get ns) same) ∙ e in
          let P : ℕ → Type 0 = λ m. Shows (input_values ns marks env (suc n)) (inputs_before ns marks m) (env k) in
          (has, subst P (sym same) (bits_show (input_values ns marks env (suc n)) (inputs_before ns marks n) (env k) s has (plain i k s h mark e) (λ j. values_new ns marks env n j ∙ ap (λ o. node_bit env o j) node_n)))
    ]

-- inputs show the same where they agree
pub inputs_kept : (ns : List Node) (marks : List Bool) (v w : ℕ → Bool) (env : ℕ → Value) (n : ℕ) → ((x : ℕ) → x < inputs_before ns marks n → v x ≡ w x) → ShowsInputs v ns marks n env → ShowsInputs w ns marks n env
inputs_kept ns marks v w env n same shows i h mark k s e =
    let here = shows i h mark k s e in
    let bits : input_bits (marked marks i) (slice_get ns i) ≡ bits_of s = ap₂ input_bits mark e in
    let room : inputs_before ns marks i + bits_of s ≤ inputs_before ns marks n = omega (arith, inputs_next ns marks i, bits, inputs_less ns marks (i + 1) n (omega arith)) in
    (here.0, shown_same v w (inputs_before ns marks i) (env k) s here.0 (λ j l. same (inputs_before ns marks i + j) (omega arith)) here.1)
