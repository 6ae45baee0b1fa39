-- Every script has a schedule, or a first place at which it doesn't fit.
use Rattle.std.proofs.Common.{◌≡◌, ℕ, zero, suc, ◌+◌, ◌^◌, ◌<◌, ◌≤◌, ◌⊎◌, inl, inr, Bool, true, false, List, [], ◌∷◌, take, length, slice_index, refl, sym, ap, ap₂, ◌∙◌, subst, arith, lit≤}
use Rattle.std.specs.Prelude.{IsTrue}
use Rattle.std.specs.Str.{bytes_eq}
use Rattle.std.proofs.lemmas.Nat.{pow_pos}
use Rattle.std.proofs.lemmas.Bool.{true≢false, cases_lt}
use Rattle.std.proofs.lemmas.Slice.Eq.{bytes_eq-Decides}
use Rattle.civl_bits.specs.Word.{IsWord}
use Rattle.civl_bits.specs.Row.{Cells, IsRow}
use Rattle.civl_bits.specs.declared.value.Value.{Value}
use Rattle.civl_bits.specs.declared.value.Value.TheVariants as value
use Rattle.civl_tree.specs.declared.name.Name.{Name}
use Rattle.civl_tree.specs.declared.program.Global.{Global}
use Rattle.civl_tree.specs.declared.script.Entry.{Entry}
use Rattle.civl_tree.specs.declared.script.Literal.{Literal}
use Rattle.civl_tree.specs.declared.script.Literal.TheVariants.{Flag, Number}
use Rattle.civl_tree.specs.declared.script.Told.{Told}
use Rattle.civl_firing.specs.values.Values.{is_of}
use Rattle.civl_meaning.specs.declared.config.Move.{Move}
use Rattle.civl_script.specs.Values.{cells_of, IsValueOf, IsWordOf, IsRowOf, IsFlatOf}
use Rattle.civl_script.specs.Schedules.{IsEntryOf, AreEntriesOf, AreValuesOf, IsMoveOf, AreMovesOf, IsWrongEntry, IsWrongMove, IsSchedule}
use Rattle.civl_script.specs.declared.schedule.Schedule.{Schedule}
use Rattle.civl_script.specs.declared.schedule.Schedule.TheVariants.{Fits, Wrong}
use Rattle.civl_script.proofs.Powers.{is_size}
use Rattle.civl_script.proofs.One.{width_in, one_value, flat_is, width_of, some_cells}

-- some value is so, or none is
abbrev Decided : {A : Type 0} → (A → Type 0) → Type 0
Decided {A} P = ((x : A) × P x) ⊎ ((x : A) → P x → ⊥)

-- ---- words

-- two numbers are one, or not
abbrev Same : ℕ → ℕ → Type 0
Same m n = (m ≡ n) ⊎ (m ≡ n → ⊥)

same_number : (m n : ℕ) → Same m n
same_number m n = elim (cases_lt m n) [
  | inl low ↦ inr (λ e. omega arith)
  | inr high ↦ elim (cases_lt n m) [
    | inl low ↦ inr (λ e. omega arith)
    | inr low ↦ inl (omega arith)
  ]
]

is_word : (width number : ℕ) → IsWord width number ⊎ (IsWord width number → ⊥)
is_word width number = elim (cases_lt width 1) [
  | inl low ↦ inr (λ h. let narrow = h.narrow in omega arith)
  | inr narrow ↦ elim (cases_lt 32 width) [
    | inl high ↦ inr (λ h. let wide = h.wide in omega arith)
    | inr wide ↦ elim (cases_lt number (2 ^ width)) [
      | inl fits ↦ inl (record { narrow = narrow; wide = wide; fits = fits })
      | inr past ↦ inr (λ h. let fits = h.fits in omega arith)
    ]
  ]
]

word_there : (literal : Literal) → Decided (IsWordOf literal)
word_there (Flag flag) = inr (λ word h. let e = h.written in cc)
word_there (Number number width) = elim (is_word width number) [
  | inl is ↦ inl ((width, number), record { is = is; written = refl })
  | inr none ↦ inr (λ word h.
      let e = h.written in
      let numbers : word.1 ≡ number = cc in
      let widths : word.0 ≡ width = cc in
      none (subst (λ n. IsWord width n) numbers (subst (λ w. IsWord w word.1) widths h.is)))
]

-- ---- rows

-- the numbers fit the width
abbrev Fit : ℕ → List ℕ → Type 0
Fit width cells = (i : ℕ) → i < length cells → slice_index cells i < 2 ^ width

-- the literals are these cells of this width
record AreCells (width : ℕ) (literals : List Literal) (cells : List ℕ) : Type 0 where
  written : literals ≡ cells_of width cells
  fits : Fit width cells

fit_more : (width n : ℕ) (ns : List ℕ) → n < 2 ^ width → Fit width ns → Fit width (n ∷ ns)
fit_more width n ns h k zero l = h
fit_more width n ns h k (suc i) l = k i (omega (arith, l))

fit_less : (width n : ℕ) (ns : List ℕ) → Fit width (n ∷ ns) → Fit width ns
fit_less width n ns h i l = h (suc i) (omega (arith, l))

number_tail : (n m u w : ℕ) (xs ys : List Literal) → Number n u ∷ xs ≡ Number m w ∷ ys → xs ≡ ys
number_tail n m u w xs ys e = cc

number_head : (n m u w : ℕ) (xs ys : List Literal) → Number n u ∷ xs ≡ Number m w ∷ ys → n ≡ m
number_head n m u w xs ys e = cc

number_width : (n m u w : ℕ) (xs ys : List Literal) → Number n u ∷ xs ≡ Number m w ∷ ys → u ≡ w
number_width n m u w xs ys e = cc

no_flag : (width : ℕ) (flag : Bool) (rest : List Literal) (ns : List ℕ) → Flag flag ∷ rest ≡ cells_of width ns → ⊥
no_flag width flag rest [] e = cc
no_flag width flag rest (n ∷ ns) e = cc

cells_there : (width : ℕ) (literals : List Literal) → Decided (AreCells width literals)
cells_there width [] = inl ([], record { written = refl; fits = λ i l. absurd (omega (arith, l)) })
cells_there width (Flag flag ∷ rest) = inr (λ ns h. no_flag width flag rest ns h.written)
cells_there width (Number number other ∷ rest) = by_width (same_number other width) (cases_lt number (2 ^ width)) (cells_there width rest)
  where
    other_width : (other ≡ width → ⊥) → (ns : List ℕ) → AreCells width (Number number other ∷ rest) ns → ⊥
    other_width differ [] h = let e = h.written in cc
    other_width differ (n ∷ ns) h = differ (number_width number n other width rest (cells_of width ns) h.written)

    too_large : 2 ^ width ≤ number → (ns : List ℕ) → AreCells width (Number number other ∷ rest) ns → ⊥
    too_large past [] h = let e = h.written in cc
    too_large past (n ∷ ns) h =
        let same = number_head number n other width rest (cells_of width ns) h.written in
        let fits : n < 2 ^ width = h.fits zero (omega arith) in
        omega (arith, past, same, fits)

    no_rest : ((ns : List ℕ) → AreCells width rest ns → ⊥) → (ns : List ℕ) → AreCells width (Number number other ∷ rest) ns → ⊥
    no_rest none [] h = let e = h.written in cc
    no_rest none (n ∷ ns) h =
        none ns (record { written = number_tail number n other width rest (cells_of width ns) h.written; fits = fit_less width n ns h.fits })

    by_width : (other ≡ width) ⊎ (other ≡ width → ⊥) → (number < 2 ^ width) ⊎ (2 ^ width ≤ number) → Decided (AreCells width rest) → Decided (AreCells width (Number number other ∷ rest))
    by_width (inr differ) fits there = inr (other_width differ)
    by_width (inl same) (inr past) there = inr (too_large past)
    by_width (inl same) (inl fits) (inr none) = inr (no_rest none)
    by_width (inl same) (inl fits) (inl there) =
        inl (
          number ∷ there.0,
          record {
            written = ap₂ (λ (w : ℕ) (xs : List Literal). Number number w ∷ xs) same there.1.written;
            fits = fit_more width number there.0 fits there.1.fits;
          },
        )

-- so many cells have indices of so many bits
abbrev IsIndex : ℕ → ℕ → Type 0
IsIndex size index = (1 ≤ index) × (index ≤ 6) × (size ≡ 2 ^ index)

index_there : (size : ℕ) → Decided (IsIndex size)
index_there size = first (same_number size 2) (same_number size 4) (same_number size 8) (same_number size 16) (same_number size 32) (same_number size 64)
  where
    first : Same size 2 → Same size 4 → Same size 8 → Same size 16 → Same size 32 → Same size 64 → Decided (IsIndex size)
    first (inl e) b c d f g = inl (1, (lit≤ tt, lit≤ tt, e))
    first (inr a) (inl e) c d f g = inl (2, (lit≤ tt, lit≤ tt, e))
    first (inr a) (inr b) (inl e) d f g = inl (3, (lit≤ tt, lit≤ tt, e))
    first (inr a) (inr b) (inr c) (inl e) f g = inl (4, (lit≤ tt, lit≤ tt, e))
    first (inr a) (inr b) (inr c) (inr d) (inl e) g = inl (5, (lit≤ tt, lit≤ tt, e))
    first (inr a) (inr b) (inr c) (inr d) (inr f) (inl e) = inl (6, (lit≤ tt, lit≤ tt, e))
    first (inr a) (inr b) (inr c) (inr d) (inr f) (inr g) = inr (λ index h. elim (is_size index h.0 h.1) [
      | inl s ↦ a (h.2 ∙ s)
      | inr s ↦ elim s [
        | inl s ↦ b (h.2 ∙ s)
        | inr s ↦ elim s [
          | inl s ↦ c (h.2 ∙ s)
          | inr s ↦ elim s [
            | inl s ↦ d (h.2 ∙ s)
            | inr s ↦ elim s [
              | inl s ↦ f (h.2 ∙ s)
              | inr s ↦ g (h.2 ∙ s)
            ]
          ]
        ]
      ]
    ])

-- rows are the same where their cells are written in the same way
width_is : (row : Cells) → IsRow row → (literals : List Literal) → literals ≡ cells_of row.width row.cells → width_in literals ≡ row.width
width_is row h literals e = ap width_in e ∙ width_of row.width row.cells (some_cells row h)

row_there : (literals : List Literal) → Decided (IsRowOf literals)
row_there literals = by_index (index_there (length literals)) (is_word (width_in literals) 0) (cells_there (width_in literals) literals)
  where
    length_of : (width : ℕ) (cells : List ℕ) → length (cells_of width cells) ≡ length cells
    length_of width [] = refl
    length_of width (n ∷ ns) = ap suc (length_of width ns)

    no_index : ((index : ℕ) → IsIndex (length literals) index → ⊥) → (row : Cells) → IsRowOf literals row → ⊥
    no_index none row h = none row.index (h.is.low, h.is.high, ap length h.written ∙ length_of row.width row.cells ∙ h.is.size)

    no_width : (IsWord (width_in literals) 0 → ⊥) → (row : Cells) → IsRowOf literals row → ⊥
    no_width none row h =
        let width = width_is row h.is literals h.written in
        none (subst (λ w. IsWord w 0) (sym width) (record { narrow = h.is.narrow; wide = h.is.wide; fits = pow_pos row.width }))

    no_cells : ((cells : List ℕ) → AreCells (width_in literals) literals cells → ⊥) → (row : Cells) → IsRowOf literals row → ⊥
    no_cells none row h =
        let width = width_is row h.is literals h.written in
        none row.cells (subst (λ w. AreCells w literals row.cells) (sym width) (record {
          written = h.written;
          fits = λ i l. h.is.fits i (subst (λ n. i < n) h.is.size l);
        }))

    by_index : Decided (IsIndex (length literals)) → IsWord (width_in literals) 0 ⊎ (IsWord (width_in literals) 0 → ⊥) → Decided (AreCells (width_in literals) literals)
        → Decided (IsRowOf literals)
    by_index (inr none) wide cells = inr (no_index none)
    by_index (inl index) (inr none) cells = inr (no_width none)
    by_index (inl index) (inl wide) (inr none) = inr (no_cells none)
    by_index (inl index) (inl wide) (inl cells) =
        let size : length cells.0 ≡ 2 ^ index.0 = sym (length_of (width_in literals) cells.0) ∙ sym (ap length cells.1.written) ∙ index.1.2 in
        inl (
          record { index = index.0; width = width_in literals; cells = cells.0 },
          record {
            is = record {
              low = index.1.0;
              high = index.1.1;
              narrow = wide.narrow;
              wide = wide.wide;
              size = size;
              fits = λ i l. cells.1.fits i (subst (λ n. i < n) (sym size) l);
            };
            written = cells.1.written;
          },
        )

-- ---- values

flat_there : (literals : List Literal) → Decided (IsFlatOf literals)
flat_there [] = inr none
  where
    none : (v : Value) → IsFlatOf [] v → ⊥
    none (value.Bool flag) h = cc
    none (value.Word word) h = let e = h.1 in cc
    none (value.Row row) h = h
flat_there (Flag flag ∷ []) = inl (value.Bool flag, refl)
flat_there (Number number width ∷ []) = by_word (word_there (Number number width))
  where
    none : ((word : ℕ × ℕ) → IsWordOf (Number number width) word → ⊥) → (v : Value) → IsFlatOf (Number number width ∷ []) v → ⊥
    none no_word (value.Bool flag) h = cc
    none no_word (value.Word word) h = let e = h.1 in no_word word (record { is = h.0; written = cc })
    none no_word (value.Row row) h = h

    by_word : Decided (IsWordOf (Number number width)) → Decided (IsFlatOf (Number number width ∷ []))
    by_word (inl word) = inl (value.Word word.0, (word.1.is, ap (λ (x : Literal). x ∷ []) word.1.written))
    by_word (inr no_word) = inr (none no_word)
flat_there (first ∷ second ∷ rest) = inr none
  where
    none : (v : Value) → IsFlatOf (first ∷ second ∷ rest) v → ⊥
    none (value.Bool flag) h = cc
    none (value.Word word) h = let e = h.1 in cc
    none (value.Row row) h = h

value_there : (entry : Entry) → Decided (IsValueOf entry)
value_there entry = by_row entry.row refl (row_there entry.cells) (flat_there entry.cells)
  where
    no_row : entry.row ≡ true → ((row : Cells) → IsRowOf entry.cells row → ⊥) → (v : Value) → IsValueOf entry v → ⊥
    no_row is none (value.Bool flag) h = true≢false (sym is ∙ h.writes.row_is)
    no_row is none (value.Word word) h = true≢false (sym is ∙ h.writes.row_is)
    no_row is none (value.Row row) h = none row (record { is = h.is; written = h.writes.cells_are })

    flat_value : entry.row ≡ false → (v : Value) → IsFlatOf entry.cells v → IsValueOf entry v
    flat_value is (value.Bool flag) h = record { is = tt; writes = record { row_is = is; cells_are = h } }
    flat_value is (value.Word word) h = record { is = h.0; writes = record { row_is = is; cells_are = h.1 } }
    flat_value is (value.Row row) h = absurd h

    by_row : (row : Bool) → entry.row ≡ row → Decided (IsRowOf entry.cells) → Decided (IsFlatOf entry.cells) → Decided (IsValueOf entry)
    by_row true is (inl row) flat = inl (value.Row row.0, record { is = row.1.is; writes = record { row_is = is; cells_are = row.1.written } })
    by_row true is (inr none) flat = inr (no_row is none)
    by_row false is row (inl flat) = inl (flat.0, flat_value is flat.0 flat.1)
    by_row false is row (inr none) = inr (λ v h. none v (flat_is entry v is h))

-- ---- entries

same_names : (first second : Name) → (first ≡ second) ⊎ (first ≡ second → ⊥)
same_names first second = by_bytes (bytes_eq first.bytes second.bytes) refl
  where
    by_bytes : (same : Bool) → bytes_eq first.bytes second.bytes ≡ same → (first ≡ second) ⊎ (first ≡ second → ⊥)
    by_bytes true e = inl (ap (λ (bytes : List ℕ). record { bytes = bytes }) ((bytes_eq-Decides first.bytes second.bytes).0 e))
    by_bytes false e = inr (λ same. true≢false (sym ((bytes_eq-Decides first.bytes second.bytes).1 (ap (λ (name : Name). name.bytes) same)) ∙ e))

entry_there : (global : Global) (entry : Entry) → Decided (IsEntryOf global entry)
entry_there global entry = by_name (same_names entry.name global.name) (value_there entry)
  where
    by_sort : entry.name ≡ global.name → (v : Value) → IsValueOf entry v → (sorted : Bool) → is_of v global.sort ≡ sorted → Decided (IsEntryOf global entry)
    by_sort named v writes true is = inl (v, record { named = named; written = writes; sorted = is })
    by_sort named v writes false is = inr (λ w h. true≢false (sym (subst IsTrue (ap (λ x. is_of x global.sort) (one_value entry w v h.written writes) ∙ is) h.sorted)))

    by_name : (entry.name ≡ global.name) ⊎ (entry.name ≡ global.name → ⊥) → Decided (IsValueOf entry) → Decided (IsEntryOf global entry)
    by_name (inr other) there = inr (λ v h. other h.named)
    by_name (inl named) (inr none) = inr (λ v h. none v h.written)
    by_name (inl named) (inl there) = by_sort named there.0 there.1 (is_of there.0 global.sort) refl

-- the values of a store, or the first entry that is wrong
abbrev StoreFound : List Global → List Entry → Type 0
StoreFound globals entries = ((values : List Value) × AreEntriesOf globals entries values) ⊎ ((at : ℕ) × IsWrongEntry globals entries at)

store_there : (globals : List Global) (entries : List Entry) → StoreFound globals entries
store_there [] [] = inl ([], tt)
store_there [] (entry ∷ entries) = inr (0, record { before = ([], tt); wrong = none })
  where
    none : (values : List Value) → AreEntriesOf [] (entry ∷ []) values → ⊥
    none [] h = h
    none (v ∷ values) h = h
store_there (global ∷ globals) [] = inr (0, record { before = ([], tt); wrong = none })
  where
    none : (values : List Value) → AreEntriesOf (global ∷ []) [] values → ⊥
    none [] h = h
    none (v ∷ values) h = h
store_there (global ∷ globals) (entry ∷ entries) = by_first (entry_there global entry) (store_there globals entries)
  where
    first_wrong : ((v : Value) → IsEntryOf global entry v → ⊥) → (values : List Value) → AreEntriesOf (global ∷ []) (entry ∷ []) values → ⊥
    first_wrong none [] h = h
    first_wrong none (v ∷ values) h = none v h.0

    later_wrong : (at : ℕ) → IsWrongEntry globals entries at → (values : List Value) → AreEntriesOf (global ∷ take (at + 1) globals) (entry ∷ take (at + 1) entries) values → ⊥
    later_wrong at wrong [] h = h
    later_wrong at wrong (v ∷ values) h = wrong.wrong values h.1

    one_on : (at : ℕ) → suc at + 1 ≡ suc (at + 1)
    one_on at = omega arith

    by_first : Decided (IsEntryOf global entry) → StoreFound globals entries → StoreFound (global ∷ globals) (entry ∷ entries)
    by_first (inr none) rest = inr (0, record { before = ([], tt); wrong = first_wrong none })
    by_first (inl v) (inl rest) = inl (v.0 ∷ rest.0, (v.1, rest.1))
    by_first (inl v) (inr rest) = inr (
      suc rest.0,
      record {
        before = (v.0 ∷ rest.1.before.0, (v.1, rest.1.before.1));
        wrong = λ values h. later_wrong rest.0 rest.1 values (subst (λ n. AreEntriesOf (take n (global ∷ globals)) (take n (entry ∷ entries)) values) (one_on rest.0) h);
      },
    )

-- ---- moves

choices_there : (entries : List Entry) → Decided (AreValuesOf entries)
choices_there [] = inl ([], tt)
choices_there (entry ∷ entries) = by_first (value_there entry) (choices_there entries)
  where
    no_first : ((v : Value) → IsValueOf entry v → ⊥) → (values : List Value) → AreValuesOf (entry ∷ entries) values → ⊥
    no_first none [] h = h
    no_first none (v ∷ values) h = none v h.0

    no_rest : ((values : List Value) → AreValuesOf entries values → ⊥) → (values : List Value) → AreValuesOf (entry ∷ entries) values → ⊥
    no_rest none [] h = h
    no_rest none (v ∷ values) h = none values h.1

    by_first : Decided (IsValueOf entry) → Decided (AreValuesOf entries) → Decided (AreValuesOf (entry ∷ entries))
    by_first (inr none) rest = inr (no_first none)
    by_first (inl v) (inr none) = inr (no_rest none)
    by_first (inl v) (inl rest) = inl (v.0 ∷ rest.0, (v.1, rest.1))

move_there : (told : Told) → Decided (IsMoveOf told)
move_there told = by_choices (choices_there told.choices)
  where
    by_choices : Decided (AreValuesOf told.choices) → Decided (IsMoveOf told)
    by_choices (inl values) = inl (record { thread = told.thread; choices = values.0 }, record { thread = refl; choices = values.1 })
    by_choices (inr none) = inr (λ move h. none move.choices h.choices)

-- the moves, or the first step that is none
abbrev MovesFound : List Told → Type 0
MovesFound tolds = ((moves : List Move) × AreMovesOf tolds moves) ⊎ ((at : ℕ) × IsWrongMove tolds at)

moves_there : (tolds : List Told) → MovesFound tolds
moves_there [] = inl ([], tt)
moves_there (told ∷ tolds) = by_first (move_there told) (moves_there tolds)
  where
    first_wrong : ((move : Move) → IsMoveOf told move → ⊥) → (moves : List Move) → AreMovesOf (told ∷ []) moves → ⊥
    first_wrong none [] h = h
    first_wrong none (m ∷ moves) h = none m h.0

    later_wrong : (at : ℕ) → IsWrongMove tolds at → (moves : List Move) → AreMovesOf (told ∷ take (at + 1) tolds) moves → ⊥
    later_wrong at wrong [] h = h
    later_wrong at wrong (m ∷ moves) h = wrong.wrong moves h.1

    one_on : (at : ℕ) → suc at + 1 ≡ suc (at + 1)
    one_on at = omega arith

    by_first : Decided (IsMoveOf told) → MovesFound tolds → MovesFound (told ∷ tolds)
    by_first (inr none) rest = inr (0, record { before = ([], tt); wrong = first_wrong none })
    by_first (inl m) (inl rest) = inl (m.0 ∷ rest.0, (m.1, rest.1))
    by_first (inl m) (inr rest) = inr (
      suc rest.0,
      record {
        before = (m.0 ∷ rest.1.before.0, (m.1, rest.1.before.1));
        wrong = λ moves h. later_wrong rest.0 rest.1 moves (subst (λ n. AreMovesOf (take n (told ∷ tolds)) moves) (one_on rest.0) h);
      },
    )

-- ---- scripts

-- each script has a schedule, or a first place at which it doesn't fit
pub schedules_exist : (globals : List Global) (entries : List Entry) (tolds : List Told) → (schedule : Schedule) × IsSchedule globals entries tolds schedule
schedules_exist globals entries tolds = by_store (store_there globals entries) (moves_there tolds)
  where
    by_store : StoreFound globals entries → MovesFound tolds → (schedule : Schedule) × IsSchedule globals entries tolds schedule
    by_store (inr wrong) moves = (Wrong wrong.0, inl wrong.1)
    by_store (inl values) (inr wrong) = (Wrong (length globals + wrong.0), inr (values.0, values.1, wrong.0, refl, wrong.1))
    by_store (inl values) (inl moves) = (Fits (record { values = values.0 }) moves.0, (values.1, moves.1))
