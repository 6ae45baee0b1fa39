-- Lists whose parts match, one more at the end.
use Rattle.std.proofs.Common.{◌≡◌, ℕ, zero, suc, ◌+◌, ◌<◌, List, [], ◌∷◌, ◌++◌, take, length, get_or, min, refl, sym, ap, ◌∙◌, subst, arith}
use Rattle.std.proofs.lemmas.List.{take_more, length-take}
use Rattle.civl_bits.specs.declared.value.Value.{Value}
use Rattle.civl_tree.specs.declared.program.Global.{Global}
use Rattle.civl_tree.specs.declared.script.Entry.{Entry}
use Rattle.civl_tree.specs.declared.script.Told.{Told}
use Rattle.civl_meaning.specs.declared.config.Move.{Move}
use Rattle.civl_script.specs.Values.{IsValueOf}
use Rattle.civl_script.specs.Schedules.{IsEntryOf, AreEntriesOf, AreValuesOf, IsMoveOf, AreMovesOf, IsWrongEntry, IsWrongMove}

-- ---- entries

pub entries_more : (gs : List Global) (es : List Entry) (vs : List Value) (g : Global) (e : Entry) (v : Value)
    → AreEntriesOf gs es vs → IsEntryOf g e v → AreEntriesOf (gs ++ g ∷ []) (es ++ e ∷ []) (vs ++ v ∷ [])
entries_more [] [] [] g e v h k = (k, tt)
entries_more [] [] (y ∷ ys) g e v h k = absurd h
entries_more [] (f ∷ es) [] g e v h k = absurd h
entries_more [] (f ∷ es) (y ∷ ys) g e v h k = absurd h
entries_more (x ∷ gs) [] [] g e v h k = absurd h
entries_more (x ∷ gs) [] (y ∷ ys) g e v h k = absurd h
entries_more (x ∷ gs) (f ∷ es) [] g e v h k = absurd h
entries_more (x ∷ gs) (f ∷ es) (y ∷ ys) g e v h k = (h.0, entries_more gs es ys g e v h.1 k)

-- there are as many of each
pub entries_count : (gs : List Global) (es : List Entry) (vs : List Value) → AreEntriesOf gs es vs → length gs ≡ length es
entries_count [] [] [] h = refl
entries_count [] [] (y ∷ ys) h = absurd h
entries_count [] (f ∷ es) [] h = absurd h
entries_count [] (f ∷ es) (y ∷ ys) h = absurd h
entries_count (x ∷ gs) [] [] h = absurd h
entries_count (x ∷ gs) [] (y ∷ ys) h = absurd h
entries_count (x ∷ gs) (f ∷ es) [] h = absurd h
entries_count (x ∷ gs) (f ∷ es) (y ∷ ys) h = ap suc (entries_count gs es ys h.1)

pub entries_last : (gs : List Global) (es : List Entry) (vs : List Value) (g : Global) (e : Entry)
    → length gs ≡ length es → AreEntriesOf (gs ++ g ∷ []) (es ++ e ∷ []) vs → (v : Value) × IsEntryOf g e v
entries_last [] [] [] g e c h = absurd h
entries_last [] [] (y ∷ ys) g e c h = (y, h.0)
entries_last [] (f ∷ es) vs g e c h = absurd (omega (arith, c))
entries_last (x ∷ gs) [] vs g e c h = absurd (omega (arith, c))
entries_last (x ∷ gs) (f ∷ es) [] g e c h = absurd h
entries_last (x ∷ gs) (f ∷ es) (y ∷ ys) g e c h = entries_last gs es ys g e (omega (arith, c)) h.1

-- ---- choices

pub values_more : (xs : List Entry) (ys : List Value) (x : Entry) (y : Value) → AreValuesOf xs ys → IsValueOf x y → AreValuesOf (xs ++ x ∷ []) (ys ++ y ∷ [])
values_more [] [] x y h k = (k, tt)
values_more [] (b ∷ ys) x y h k = absurd h
values_more (a ∷ xs) [] x y h k = absurd h
values_more (a ∷ xs) (b ∷ ys) x y h k = (h.0, values_more xs ys x y h.1 k)

-- ---- moves

pub moves_more : (xs : List Told) (ys : List Move) (x : Told) (y : Move) → AreMovesOf xs ys → IsMoveOf x y → AreMovesOf (xs ++ x ∷ []) (ys ++ y ∷ [])
moves_more [] [] x y h k = (k, tt)
moves_more [] (b ∷ ys) x y h k = absurd h
moves_more (a ∷ xs) [] x y h k = absurd h
moves_more (a ∷ xs) (b ∷ ys) x y h k = (h.0, moves_more xs ys x y h.1 k)

pub moves_last : (xs : List Told) (ys : List Move) (x : Told) → AreMovesOf (xs ++ x ∷ []) ys → (y : Move) × IsMoveOf x y
moves_last [] [] x h = absurd h
moves_last [] (b ∷ ys) x h = (b, h.0)
moves_last (a ∷ xs) [] x h = absurd h
moves_last (a ∷ xs) (b ∷ ys) x h = moves_last xs ys x h.1

-- ---- at a place

-- one more entry is right
pub entries_on : (gs : List Global) (es : List Entry) (vs : List Value) (at : ℕ) (g : Global) (e : Entry) (v : Value) → at < length gs → at < length es
    → g ≡ get_or gs at g → e ≡ get_or es at e → AreEntriesOf (take at gs) (take at es) vs → IsEntryOf g e v → AreEntriesOf (take (at + 1) gs) (take (at + 1) es) (vs ++ v ∷ [])
entries_on gs es vs at g e v l k gi ei h is =
    let gs_is = take_more gs at g l ∙ ap (λ x. take at gs ++ x ∷ []) (sym gi) in
    let es_is = take_more es at e k ∙ ap (λ x. take at es ++ x ∷ []) (sym ei) in
    subst (λ xs. AreEntriesOf xs (take (at + 1) es) (vs ++ v ∷ [])) (sym gs_is) (
    subst (λ xs. AreEntriesOf (take at gs ++ g ∷ []) xs (vs ++ v ∷ [])) (sym es_is) (entries_more (take at gs) (take at es) vs g e v h is))

-- one more entry is wrong
pub entries_off : (gs : List Global) (es : List Entry) (vs : List Value) (at : ℕ) (g : Global) (e : Entry) → at < length gs → at < length es
    → g ≡ get_or gs at g → e ≡ get_or es at e → AreEntriesOf (take at gs) (take at es) vs → ((v : Value) → IsEntryOf g e v → ⊥) → IsWrongEntry gs es at
entries_off gs es vs at g e l k gi ei h none =
    record {
      before = (vs, h);
      wrong = λ ws all.
          let gs_is = take_more gs at g l ∙ ap (λ x. take at gs ++ x ∷ []) (sym gi) in
          let es_is = take_more es at e k ∙ ap (λ x. take at es ++ x ∷ []) (sym ei) in
          let both = subst (λ xs. AreEntriesOf (take at gs ++ g ∷ []) xs ws) es_is (subst (λ xs. AreEntriesOf xs (take (at + 1) es) ws) gs_is all) in
          let last = entries_last (take at gs) (take at es) ws g e (entries_count (take at gs) (take at es) vs h) both in
          none last.0 last.1;
    }

-- there is no more entry, or no more global
pub entries_end : (gs : List Global) (es : List Entry) (vs : List Value) (at : ℕ) → at ≡ min (length gs) (length es) → (length gs ≡ length es → ⊥)
    → AreEntriesOf (take at gs) (take at es) vs → IsWrongEntry gs es at
entries_end gs es vs at is differ h =
    record {
      before = (vs, h);
      wrong = λ ws all. differ (let count = entries_count _ _ _ all in let one = length-take (at + 1) gs in let two = length-take (at + 1) es in grind (arith, count, one, two));
    }

pub values_on : (xs : List Entry) (ys : List Value) (at : ℕ) (x : Entry) (y : Value) → at < length xs → x ≡ get_or xs at x → AreValuesOf (take at xs) ys → IsValueOf x y
    → AreValuesOf (take (at + 1) xs) (ys ++ y ∷ [])
values_on xs ys at x y l is h k =
    subst (λ zs. AreValuesOf zs (ys ++ y ∷ [])) (sym (take_more xs at x l ∙ ap (λ z. take at xs ++ z ∷ []) (sym is))) (values_more (take at xs) ys x y h k)

pub value_at : (xs : List Entry) (ys : List Value) (at : ℕ) (x : Entry) → at < length xs → AreValuesOf xs ys → (y : Value) × IsValueOf (get_or xs at x) y
value_at [] ys at x l h = absurd (omega (arith, l))
value_at (a ∷ xs) [] at x l h = absurd h
value_at (a ∷ xs) (b ∷ ys) zero x l h = (b, h.0)
value_at (a ∷ xs) (b ∷ ys) (suc at) x l h = value_at xs ys at x (omega (arith, l)) h.1

pub moves_on : (xs : List Told) (ys : List Move) (at : ℕ) (x : Told) (y : Move) → at < length xs → x ≡ get_or xs at x → AreMovesOf (take at xs) ys → IsMoveOf x y
    → AreMovesOf (take (at + 1) xs) (ys ++ y ∷ [])
moves_on xs ys at x y l is h k =
    subst (λ zs. AreMovesOf zs (ys ++ y ∷ [])) (sym (take_more xs at x l ∙ ap (λ z. take at xs ++ z ∷ []) (sym is))) (moves_more (take at xs) ys x y h k)

pub moves_off : (xs : List Told) (ys : List Move) (at : ℕ) (x : Told) → at < length xs → x ≡ get_or xs at x → AreMovesOf (take at xs) ys
    → ((vs : List Value) → AreValuesOf x.choices vs → ⊥) → IsWrongMove xs at
moves_off xs ys at x l is h none =
    record {
      before = (ys, h);
      wrong = λ zs all.
          let last = moves_last (take at xs) zs x (subst (λ ts. AreMovesOf ts zs) (take_more xs at x l ∙ ap (λ z. take at xs ++ z ∷ []) (sym is)) all) in
          none last.0.choices last.1.choices;
    }
