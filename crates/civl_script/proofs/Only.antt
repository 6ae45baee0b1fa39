-- A script has one schedule, or one first place at which it doesn't fit.
use Rattle.std.proofs.Common.{◌≡◌, ℕ, zero, suc, ◌+◌, ◌<◌, inl, inr, List, [], ◌∷◌, take, length, refl, sym, ap, ap₂, ◌∙◌, subst, arith}
use Rattle.std.proofs.lemmas.Bool.{cases_lt}
use Rattle.std.proofs.lemmas.List.{take-take}
use Rattle.civl_bits.specs.declared.value.Value.{Value}
use Rattle.civl_tree.specs.declared.program.Global.{Global}
use Rattle.civl_tree.specs.declared.script.Entry.{Entry}
use Rattle.civl_tree.specs.declared.script.Told.{Told}
use Rattle.civl_firing.specs.declared.store.Store.{Store}
use Rattle.civl_meaning.specs.declared.config.Move.{Move}
use Rattle.civl_script.specs.Schedules.{AreEntriesOf, AreValuesOf, IsMoveOf, AreMovesOf, IsWrongEntry, IsWrongMove, IsSchedule}
use Rattle.civl_script.specs.declared.schedule.Schedule.{Schedule}
use Rattle.civl_script.specs.declared.schedule.Schedule.TheVariants.{Fits, Wrong}
use Rattle.civl_script.proofs.One.{one_value}

-- ---- one list

one_entries : (gs : List Global) (es : List Entry) (vs ws : List Value) → AreEntriesOf gs es vs → AreEntriesOf gs es ws → vs ≡ ws
one_entries [] [] [] [] h k = refl
one_entries [] [] [] (w ∷ ws) h k = absurd k
one_entries [] [] (v ∷ vs) ws h k = absurd h
one_entries [] (e ∷ es) [] ws h k = absurd h
one_entries [] (e ∷ es) (v ∷ vs) ws h k = absurd h
one_entries (g ∷ gs) [] [] ws h k = absurd h
one_entries (g ∷ gs) [] (v ∷ vs) ws h k = absurd h
one_entries (g ∷ gs) (e ∷ es) [] ws h k = absurd h
one_entries (g ∷ gs) (e ∷ es) (v ∷ vs) [] h k = absurd k
one_entries (g ∷ gs) (e ∷ es) (v ∷ vs) (w ∷ ws) h k = ap₂ (λ (x : Value) (xs : List Value). x ∷ xs) (one_value e v w h.0.written k.0.written) (one_entries gs es vs ws h.1 k.1)

one_choices : (es : List Entry) (vs ws : List Value) → AreValuesOf es vs → AreValuesOf es ws → vs ≡ ws
one_choices [] [] [] h k = refl
one_choices [] [] (w ∷ ws) h k = absurd k
one_choices [] (v ∷ vs) ws h k = absurd h
one_choices (e ∷ es) [] ws h k = absurd h
one_choices (e ∷ es) (v ∷ vs) [] h k = absurd k
one_choices (e ∷ es) (v ∷ vs) (w ∷ ws) h k = ap₂ (λ (x : Value) (xs : List Value). x ∷ xs) (one_value e v w h.0 k.0) (one_choices es vs ws h.1 k.1)

one_move : (t : Told) (m n : Move) → IsMoveOf t m → IsMoveOf t n → m ≡ n
one_move t m n h k = ap₂ (λ (i : ℕ) (vs : List Value). record { thread = i; choices = vs }) (h.thread ∙ sym k.thread) (one_choices t.choices m.choices n.choices h.choices k.choices)

one_moves : (ts : List Told) (ms ns : List Move) → AreMovesOf ts ms → AreMovesOf ts ns → ms ≡ ns
one_moves [] [] [] h k = refl
one_moves [] [] (n ∷ ns) h k = absurd k
one_moves [] (m ∷ ms) ns h k = absurd h
one_moves (t ∷ ts) [] ns h k = absurd h
one_moves (t ∷ ts) (m ∷ ms) [] h k = absurd k
one_moves (t ∷ ts) (m ∷ ms) (n ∷ ns) h k = ap₂ (λ (x : Move) (xs : List Move). x ∷ xs) (one_move t m n h.0 k.0) (one_moves ts ms ns h.1 k.1)

-- there are as many moves as steps
pub moves_count : (ts : List Told) (ms : List Move) → AreMovesOf ts ms → length ms ≡ length ts
moves_count [] [] h = refl
moves_count [] (m ∷ ms) h = absurd h
moves_count (t ∷ ts) [] h = absurd h
moves_count (t ∷ ts) (m ∷ ms) h = ap suc (moves_count ts ms h.1)

-- ---- first parts

entries_take : (n : ℕ) (gs : List Global) (es : List Entry) (vs : List Value) → AreEntriesOf gs es vs → AreEntriesOf (take n gs) (take n es) (take n vs)
entries_take zero gs es vs h = tt
entries_take (suc n) [] [] [] h = tt
entries_take (suc n) [] [] (v ∷ vs) h = absurd h
entries_take (suc n) [] (e ∷ es) [] h = absurd h
entries_take (suc n) [] (e ∷ es) (v ∷ vs) h = absurd h
entries_take (suc n) (g ∷ gs) [] [] h = absurd h
entries_take (suc n) (g ∷ gs) [] (v ∷ vs) h = absurd h
entries_take (suc n) (g ∷ gs) (e ∷ es) [] h = absurd h
entries_take (suc n) (g ∷ gs) (e ∷ es) (v ∷ vs) h = (h.0, entries_take n gs es vs h.1)

moves_take : (n : ℕ) (ts : List Told) (ms : List Move) → AreMovesOf ts ms → AreMovesOf (take n ts) (take n ms)
moves_take zero ts ms h = tt
moves_take (suc n) [] [] h = tt
moves_take (suc n) [] (m ∷ ms) h = absurd h
moves_take (suc n) (t ∷ ts) [] h = absurd h
moves_take (suc n) (t ∷ ts) (m ∷ ms) h = (h.0, moves_take n ts ms h.1)

-- ---- one place

fits_nowhere_wrong : (gs : List Global) (es : List Entry) (vs : List Value) (n : ℕ) → AreEntriesOf gs es vs → IsWrongEntry gs es n → ⊥
fits_nowhere_wrong gs es vs n h w = w.wrong (take (n + 1) vs) (entries_take (n + 1) gs es vs h)

entry_not_below : (gs : List Global) (es : List Entry) (m n : ℕ) → m < n → IsWrongEntry gs es m → IsWrongEntry gs es n → ⊥
entry_not_below gs es m n low a b =
    let part = entries_take (m + 1) (take n gs) (take n es) b.before.0 b.before.1 in
    a.wrong (take (m + 1) b.before.0) (subst (λ (xs : List Global). AreEntriesOf xs (take (m + 1) es) (take (m + 1) b.before.0)) (take-take (m + 1) n gs (omega (arith, low)))
    (subst (λ (ys : List Entry). AreEntriesOf (take (m + 1) (take n gs)) ys (take (m + 1) b.before.0)) (take-take (m + 1) n es (omega (arith, low))) part))

moves_nowhere_wrong : (ts : List Told) (ms : List Move) (n : ℕ) → AreMovesOf ts ms → IsWrongMove ts n → ⊥
moves_nowhere_wrong ts ms n h w = w.wrong (take (n + 1) ms) (moves_take (n + 1) ts ms h)

move_not_below : (ts : List Told) (m n : ℕ) → m < n → IsWrongMove ts m → IsWrongMove ts n → ⊥
move_not_below ts m n low a b =
    a.wrong (take (m + 1) b.before.0) (subst (λ (xs : List Told). AreMovesOf xs (take (m + 1) b.before.0)) (take-take (m + 1) n ts (omega (arith, low)))
    (moves_take (m + 1) (take n ts) b.before.0 b.before.1))

same_by : (m n : ℕ) → (m < n → ⊥) → (n < m → ⊥) → m ≡ n
same_by m n h k = elim (cases_lt m n) [
  | inl low ↦ absurd (h low)
  | inr high ↦ elim (cases_lt n m) [
    | inl low ↦ absurd (k low)
    | inr low ↦ omega (arith, high, low)
  ]
]

-- a script is read in one way
pub one_schedule : (gs : List Global) (es : List Entry) (ts : List Told) (x y : Schedule) → IsSchedule gs es ts x → IsSchedule gs es ts y → x ≡ y
one_schedule gs es ts (Fits s m) (Fits t n) a b =
    ap₂ (λ (store : Store) (moves : List Move). Fits store moves) (ap (λ (vs : List Value). record { values = vs }) (one_entries gs es s.values t.values a.0 b.0)) (one_moves ts m n a.1 b.1)
one_schedule gs es ts (Fits s m) (Wrong n) a (inl b) = absurd (fits_nowhere_wrong gs es s.values n a.0 b)
one_schedule gs es ts (Fits s m) (Wrong n) a (inr b) = absurd (moves_nowhere_wrong ts m b.2 a.1 b.4)
one_schedule gs es ts (Wrong n) (Fits s m) (inl a) b = absurd (fits_nowhere_wrong gs es s.values n b.0 a)
one_schedule gs es ts (Wrong n) (Fits s m) (inr a) b = absurd (moves_nowhere_wrong ts m a.2 b.1 a.4)
one_schedule gs es ts (Wrong m) (Wrong n) (inl a) (inl b) = ap Wrong (same_by m n (λ low. entry_not_below gs es m n low a b) (λ low. entry_not_below gs es n m low b a))
one_schedule gs es ts (Wrong m) (Wrong n) (inl a) (inr b) = absurd (fits_nowhere_wrong gs es b.0 m b.1 a)
one_schedule gs es ts (Wrong m) (Wrong n) (inr a) (inl b) = absurd (fits_nowhere_wrong gs es a.0 n a.1 b)
one_schedule gs es ts (Wrong m) (Wrong n) (inr a) (inr b) =
    let at = same_by a.2 b.2 (λ low. move_not_below ts a.2 b.2 low a.4 b.4) (λ low. move_not_below ts b.2 a.2 low b.4 a.4) in
    ap Wrong (a.3 ∙ ap (λ (i : ℕ). length gs + i) at ∙ sym b.3)
