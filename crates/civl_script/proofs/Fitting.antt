-- What a schedule that fits is: a store of the globals, and moves whose choices are values.
use Rattle.std.proofs.Common.{List, [], ◌∷◌, map}
use Rattle.std.specs.List.{All}
use Rattle.std.proofs.lemmas.List.Elements.{All-nil, All-cons}
use Rattle.civl_bits.specs.Value.{IsValue}
use Rattle.civl_bits.specs.declared.value.Value.{Value}
use Rattle.civl_tree.specs.declared.program.Global.{Global}
use Rattle.civl_tree.specs.declared.script.Entry.{Entry}
use Rattle.civl_tree.specs.declared.script.Told.{Told}
use Rattle.civl_firing.specs.values.Values.{HaveSorts}
use Rattle.civl_firing.proofs.Having.{no_sorts, more_sorts}
use Rattle.civl_meaning.specs.declared.config.Move.{Move}
use Rattle.civl_meaning.specs.Failing.{IsMove}
use Rattle.civl_script.specs.Schedules.{AreEntriesOf, AreValuesOf, AreMovesOf}

pub entries_fit : (gs : List Global) (es : List Entry) (vs : List Value) → AreEntriesOf gs es vs → HaveSorts vs (map (λ (g : Global). g.sort) gs)
entries_fit [] [] [] h = no_sorts
entries_fit [] [] (v ∷ vs) h = absurd h
entries_fit [] (e ∷ es) vs h = absurd h
entries_fit (g ∷ gs) [] vs h = absurd h
entries_fit (g ∷ gs) (e ∷ es) [] h = absurd h
entries_fit (g ∷ gs) (e ∷ es) (v ∷ vs) h = more_sorts v g.sort vs (map (λ (g : Global). g.sort) gs) (h.0.written.is, h.0.sorted) (entries_fit gs es vs h.1)

choices_are : (es : List Entry) (vs : List Value) → AreValuesOf es vs → All IsValue vs
choices_are [] [] h = All-nil IsValue
choices_are [] (v ∷ vs) h = absurd h
choices_are (e ∷ es) [] h = absurd h
choices_are (e ∷ es) (v ∷ vs) h = All-cons IsValue v vs h.0.is (choices_are es vs h.1)

pub moves_are : (ts : List Told) (ms : List Move) → AreMovesOf ts ms → All IsMove ms
moves_are [] [] h = All-nil IsMove
moves_are [] (m ∷ ms) h = absurd h
moves_are (t ∷ ts) [] h = absurd h
moves_are (t ∷ ts) (m ∷ ms) h = All-cons IsMove m ms (choices_are t.choices m.choices h.0.choices) (moves_are ts ms h.1)
