-- No two globals have one name.
use Rattle.std.proofs.Common.{◌≡◌, ◌∙◌, ℕ, zero, suc, ◌<◌, Bool, false, List, [], ◌∷◌, take, Some, slice_get, sym, ap, arith}
use Rattle.std.specs.List.{list_any}
use Rattle.std.proofs.lemmas.Bool.{or_parts}
use Rattle.std.proofs.lemmas.Option.{same_Some, none-some}
use Rattle.civl_tree.specs.declared.name.Name.{Name}
use Rattle.civl_tree.specs.declared.program.Global.{Global}
use Rattle.civl_tree.specs.declared.program.Program.{Program}
use Rattle.civl_tree.specs.rules.Names.{same_name, global_names}
use Rattle.civl_tree.specs.rules.Rules.{Keeps}
use Rattle.civl_tree.specs.rules.Typing.{typing_rules, twice_rule}
use Rattle.civl_tree.proofs.Kept.{global_kept, twice_among}

-- no two globals have one name
abbrev pub Distinct : List Global → Type 0
Distinct gs = (i j : ℕ) (g h : Global) → slice_get gs i ≡ Some g → slice_get gs j ≡ Some h → i < j → same_name h.name g.name ≡ false

among_first : (p : Name → Bool) (gs : List Global) (i j : ℕ) (g : Global) → slice_get gs i ≡ Some g → i < j → list_any p (global_names (take j gs)) ≡ false → p g.name ≡ false
among_first p [] i j g e l h = absurd (none-some g e)
among_first p (x ∷ xs) i zero g e l h = absurd (omega (arith, l))
among_first p (x ∷ xs) zero (suc j) g e l h = ap (λ (y : Global). p y.name) (sym (same_Some x g e)) ∙ (or_parts (p x.name) (list_any p (global_names (take j xs))) h).0
among_first p (x ∷ xs) (suc i) (suc j) g e l h = among_first p xs i j g e (omega (arith, l)) (or_parts (p x.name) (list_any p (global_names (take j xs))) h).1

pub distinct : (program : Program) → Keeps typing_rules program → Distinct program.globals
distinct program keeps i j g h a b l = among_first (same_name h.name) program.globals i j g a l (global_kept typing_rules program keeps twice_rule twice_among j h b)
