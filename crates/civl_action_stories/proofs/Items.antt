-- Numbers of items, and tokens of formulas, are no larger than the spelling of the program is long.
use Rattle.std.specs.Prelude.{IfSome, Option, Some}
use Rattle.std.proofs.Common.{◌≡◌, ℕ, ◌+◌, ◌<◌, ◌≤◌, List, [], ◌∷◌, ◌++◌, map, length, length-append, ap, subst, arith}
use Rattle.civl_tree.specs.declared.program.Program.{Program}
use Rattle.civl_tree.specs.Spelling.{joined, spell_expr}
use Rattle.civl_tree.specs.SpellingProgram.{spell_program}
use Rattle.civl_tree.specs.SpellingLaws.{spell_header, spell_item}
use Rattle.civl_tree.specs.Numbering.{Item, OfGlobal, OfInit, OfInvariant, OfAction, OfProc, OfThread, item_count, items_of}
use Rattle.civl_tree.proofs.Items.{items_are_in_text_order, items_are_numbered}
use Rattle.civl_reasons.specs.Reasons.{Subformula}
use Rattle.civl_reasons.specs.Stands.{StandAt}
use Rattle.civl_places.specs.declared.formula.Formula.{Formula}
use Rattle.civl_places.specs.Formulas.{formula_at}
use Rattle.civl_places.proofs.Places.{formulas_stand}

item_some : (item : Item) → 0 < length (spell_item item)
item_some (OfGlobal x) = omega arith
item_some (OfInit x) = omega arith
item_some (OfInvariant x) = omega arith
item_some (OfAction x) = omega arith
item_some (OfProc x) = omega arith
item_some (OfThread x) = omega arith

each_some : (items : List Item) → length items ≤ length (joined (map spell_item items))
each_some [] = omega arith
each_some (x ∷ xs) = omega (arith, each_some xs, item_some x, length-append (spell_item x) (joined (map spell_item xs)))

pub items_fit : (p : Program) → item_count p ≤ length (spell_program p)
items_fit p =
    omega (
      arith,
      ap length (items_are_in_text_order p),
      length-append (spell_header p) (joined (map spell_item (items_of p))),
      each_some (items_of p),
      (items_are_numbered p 0).6,
    )

pub formula_fits : (p : Program) (f : Formula) (part : Subformula) → formula_at p f ≡ Some part
    → part.token + length (spell_expr part.expr) ≤ length (spell_program p)
formula_fits p f part is =
    let there = subst (λ (o : Option Subformula). IfSome o (λ s. StandAt (spell_expr s.expr) (spell_program p) s.token)) is (formulas_stand p f) in
    omega (
      arith,
      ap length there.parts,
      length-append there.before (spell_expr part.expr ++ there.after),
      length-append (spell_expr part.expr) there.after,
      there.place_is,
    )
