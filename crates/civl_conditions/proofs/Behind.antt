-- Variables behind others, group by group.
use Rattle.std.proofs.Common.{◌≡◌, ℕ, ◌≤◌, Bool, true, List, [], ◌++◌, length, ◌∙◌, sym, append-nil, append_assoc, refl}
use Rattle.std.specs.Prelude.{slice_get}
use Rattle.std.specs.Option.{option_map_or}
use Rattle.std.proofs.lemmas.Option.{slice_get_past}
use Rattle.civl_conditions.specs.declared.condition.Variable.{Variable}
use Rattle.civl_conditions.specs.Variables.{where_has}

-- where no item has this number nothing comes
pub none_behind : {A : Type 0} (f : A → List Variable) (list : List Variable) (shown items : List A) (number : ℕ) → shown ≡ items → length shown ≤ number → list ≡ list ++ option_map_or f (slice_get items number) []
none_behind f list shown items number e past =
    sym (append-nil list) ∙ sym (rw (← e, slice_get_past shown number past) refl)

-- where the cut has this kind
pub had_behind : (list new : List Variable) (has : Bool) (group : List Variable) → has ≡ true → new ≡ list ++ group → new ≡ list ++ where_has has group
had_behind list new has group e h = rw e h

pub four_behind : (list a b c d : List Variable) → list ++ a ++ b ++ c ++ d ≡ list ++ (a ++ (b ++ (c ++ d)))
four_behind list a b c d = simp append_assoc

pub eight_behind : (list a b c d e f g h : List Variable) → list ++ a ++ b ++ c ++ d ++ e ++ f ++ g ++ h ≡ list ++ (a ++ (b ++ (c ++ (d ++ (e ++ (f ++ (g ++ h)))))))
eight_behind list a b c d e f g h = simp append_assoc
