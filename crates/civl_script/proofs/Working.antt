-- The worked examples.
use Rattle.std.proofs.Common.{◌≡◌, ℕ, zero, suc, ◌<◌, true, List, [], ◌∷◌, length, drop, get_or, inl, inr, refl, sym, ap, ◌∙◌, subst, arith, lit<}
use Rattle.std.specs.Prelude.{IsTrue}
use Rattle.std.proofs.lemmas.Bool.{true≢false}
use Rattle.civl_bits.specs.Word.{IsWord}
use Rattle.civl_bits.specs.declared.value.Value.{Value}
use Rattle.civl_bits.specs.declared.value.Value.TheVariants as value
use Rattle.civl_tree.specs.declared.script.Entry.{Entry}
use Rattle.civl_tree.specs.declared.script.Literal.TheVariants.{Flag, Number}
use Rattle.civl_tree.specs.declared.name.Name.{Name}
use Rattle.civl_meaning.specs.declared.config.Move.{Move}
use Rattle.civl_tree.specs.declared.program.Global.{Global}
use Rattle.civl_tree.specs.declared.expr.Sort.TheVariants as sort
use Rattle.civl_firing.specs.values.Values.{is_of}
use Rattle.civl_script.specs.Values.{cells_of, IsValueOf}
use Rattle.civl_script.specs.Schedules.{IsEntryOf, AreEntriesOf, AreMovesOf, IsMoveOf}
use Rattle.civl_script.specs.examples.Entries.{name_x, one_of, row_of, WritesNone, Written, x_global, y_global, x_is, y_is, told, move_of, Said}
use Rattle.civl_script.proofs.Powers.{is_size}
use Rattle.civl_script.proofs.Matching.{entries_count, value_at, moves_last}
use Rattle.civl_script.proofs.One.{is_flag, number_in, width_in, numbers_in, numbers_of, one_value}

-- a number that isn't of its width is no value
no_word : (name : Name) (number width : ℕ) → (IsWord width number → ⊥) → WritesNone (one_of name (Number number width))
no_word name number width none (value.Bool flag) h = true≢false (ap is_flag (sym h.writes.cells_are))
no_word name number width none (value.Word (w, n)) h =
    none (subst (λ m. IsWord m number) (sym (ap width_in h.writes.cells_are)) (subst (λ m. IsWord w m) (sym (ap number_in h.writes.cells_are)) h.is))
no_word name number width none (value.Row row) h = true≢false (sym h.writes.row_is)

-- three cells are no row
three_cells : WritesNone (row_of (Number 1 4 ∷ Number 2 4 ∷ Number 3 4 ∷ []))
three_cells (value.Bool flag) h = true≢false h.writes.row_is
three_cells (value.Word word) h = true≢false h.writes.row_is
three_cells (value.Row row) h =
    let long : 3 ≡ length row.cells = ap length (ap numbers_in h.writes.cells_are ∙ numbers_of row.width row.cells) in
    let is = is_size row.index h.is.low h.is.high in
    omega (arith, long, h.is.size, is)

two_widths : (width : ℕ) (cells : List ℕ) → Number 1 4 ∷ Number 2 8 ∷ [] ≡ cells_of width cells → ⊥
two_widths width [] e = let long = ap length e in omega (arith, long)
two_widths width (x ∷ []) e = let long = ap length e in omega (arith, long)
two_widths width (x ∷ y ∷ cells) e =
    let first : 4 ≡ width = ap width_in e in
    let second : 8 ≡ width = ap (λ ls. width_in (drop 1 ls)) e in
    omega (arith, first, second)

mixed_cells : WritesNone (row_of (Number 1 4 ∷ Number 2 8 ∷ []))
mixed_cells (value.Bool flag) h = true≢false h.writes.row_is
mixed_cells (value.Word word) h = true≢false h.writes.row_is
mixed_cells (value.Row row) h = two_widths row.width row.cells h.writes.cells_are

flag_cells : (width : ℕ) (cells : List ℕ) → Flag true ∷ Flag true ∷ [] ≡ cells_of width cells → ⊥
flag_cells width [] e = let long = ap length e in omega (arith, long)
flag_cells width (x ∷ cells) e = true≢false (ap is_flag e)

no_flags : WritesNone (row_of (Flag true ∷ Flag true ∷ []))
no_flags (value.Bool flag) h = true≢false h.writes.row_is
no_flags (value.Word word) h = true≢false h.writes.row_is
no_flags (value.Row row) h = flag_cells row.width row.cells h.writes.cells_are

word_is : (name : Name) (number width : ℕ) → IsWord width number → IsValueOf (one_of name (Number number width)) (value.Word (width, number))
word_is name number width is = record { is = is; writes = record { row_is = refl; cells_are = refl } }

five : IsWord 8 5
five = record { narrow = lit< tt; wide = lit< tt; fits = lit< tt }

no_256 : IsWord 8 256 → ⊥
no_256 h = let fits = h.fits in omega (arith, fits)

fit_below : (i : ℕ) → i < 4 → Rattle.std.specs.List.slice_index (1 ∷ 0 ∷ 15 ∷ 2 ∷ []) i < 16
fit_below zero h = lit< tt
fit_below (suc zero) h = lit< tt
fit_below (suc (suc zero)) h = lit< tt
fit_below (suc (suc (suc zero))) h = lit< tt
fit_below (suc (suc (suc (suc i)))) h = absurd (omega (arith, h))

pub works_written : Written
works_written = record {
  flag = record { is = tt; writes = record { row_is = refl; cells_are = refl } };
  word = word_is name_x 255 8 (record { narrow = lit< tt; wide = lit< tt; fits = lit< tt });
  row = record { is = record { low = lit< tt; high = lit< tt; narrow = lit< tt; wide = lit< tt; size = refl; fits = fit_below }; writes = record { row_is = refl; cells_are = refl } };
  large = no_word name_x 256 8 no_256;
  wide = no_word name_x 0 33 (λ h. let wide = h.wide in omega (arith, wide));
  narrow = no_word name_x 0 0 (λ h. let narrow = h.narrow in omega (arith, narrow));
  three = three_cells;
  mixed = mixed_cells;
  flags = no_flags;
}

-- ---- scripts

x_five : IsEntryOf x_global (x_is 5 8) (value.Word (8, 5))
x_five = record { named = refl; written = word_is name_x 5 8 five; sorted = refl }

y_true : IsEntryOf y_global y_is (value.Bool true)
y_true = record { named = refl; written = record { is = tt; writes = record { row_is = refl; cells_are = refl } }; sorted = refl }

by_seven : (thread : ℕ) → IsMoveOf (told thread 7) (move_of thread 7)
by_seven thread = record {
  thread = refl;
  choices = (word_is (record { bytes = [] }) 7 8 (record { narrow = lit< tt; wide = lit< tt; fits = lit< tt }), tt);
}

first_off : (g : Global) (e : Entry) → ((v : Value) → IsEntryOf g e v → ⊥) → (vs : List Value) → AreEntriesOf (g ∷ []) (e ∷ []) vs → ⊥
first_off g e none [] h = h
first_off g e none (v ∷ []) h = none v h.0
first_off g e none (v ∷ w ∷ vs) h = h.1

other_width : (v : Value) → IsEntryOf x_global (x_is 5 4) v → ⊥
other_width v h =
    let same = one_value (x_is 5 4) v (value.Word (4, 5)) h.written (word_is name_x 5 4 (record { narrow = lit< tt; wide = lit< tt; fits = lit< tt })) in
    true≢false (sym (subst (λ w. IsTrue (is_of w (sort.Word 8))) same h.sorted))

other_name : (v : Value) → IsEntryOf x_global y_is v → ⊥
other_name v h = let byte : 121 ≡ 120 = ap (λ (n : Name). get_or n.bytes 0 0) h.named in omega (arith, byte)

no_move : (moves : List Move) → AreMovesOf (told 0 7 ∷ told 0 256 ∷ []) moves → ⊥
no_move moves h =
    let last = moves_last (told 0 7 ∷ []) moves (told 0 256) h in
    let choice = value_at (one_of (record { bytes = [] }) (Number 256 8) ∷ []) last.0.choices 0 (x_is 0 0) (lit< tt) last.1.choices in
    no_word (record { bytes = [] }) 256 8 no_256 choice.0 choice.1

pub works_said : Said
works_said = record {
  fits = ((x_five, (y_true, tt)), (by_seven 3, tt));
  width = inl (record { before = ([], tt); wrong = first_off x_global (x_is 5 4) other_width });
  order = inl (record { before = ([], tt); wrong = first_off x_global y_is other_name });
  missing = inl (record { before = (value.Word (8, 5) ∷ [], (x_five, tt)); wrong = λ vs h. let count = entries_count (x_global ∷ y_global ∷ []) (x_is 5 8 ∷ []) vs h in omega (arith, count) });
  again = inl (record { before = (value.Word (8, 5) ∷ [], (x_five, tt)); wrong = λ vs h. let count = entries_count (x_global ∷ []) (x_is 5 8 ∷ x_is 5 8 ∷ []) vs h in omega (arith, count) });
  move = inr (value.Word (8, 5) ∷ [], (x_five, tt), 1, refl, record { before = (move_of 0 7 ∷ [], (by_seven 0, tt)); wrong = no_move });
}
