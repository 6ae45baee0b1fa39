-- Expressions end within the program.
use Rattle.std.proofs.Common.{◌≡◌, ℕ, ◌+◌, ◌<◌, ◌^◌, List, length, length-append, ◌++◌, ap, arith, Option, Some, None, subst, sym}
use Rattle.std.specs.Prelude.{option_map, IfSome}
use Rattle.civl_tree.specs.declared.program.Program.{Program}
use Rattle.civl_tree.specs.Spelling.{spell_expr}
use Rattle.civl_tree.specs.SpellingProgram.{spell_program}
use Rattle.civl_tree.specs.Token.{Token}
use Rattle.civl_reasons.specs.declared.reasons.Part.{Part}
use Rattle.civl_reasons.specs.inner.Told.{subformula}
use Rattle.civl_reasons.specs.Reasons.{Subformula}
use Rattle.civl_reasons.specs.Stands.{StandAt}
use Rattle.civl_places.specs.declared.formula.Formula.{Formula}
use Rattle.civl_places.specs.Formulas.{formula_at}
use Rattle.civl_places.specs.Laws.{FormulasStand}

ends_within : (part all : List Token) (place : ℕ) → StandAt part all place → length all < 2 ^ 64 → place + length part < 2 ^ 64
ends_within part all place s fits =
    omega (arith, ap length s.parts, length-append s.before (part ++ s.after), length-append part s.after, s.place_is)

pub stands_within : (program : Program) (formula : Formula) (part : Part) → option_map subformula (Some part) ≡ formula_at program formula
    → FormulasStand → length (spell_program program) < 2 ^ 64 → part.token + length (spell_expr part.expr.now) < 2 ^ 64
stands_within program formula part at stand fits =
    ends_within (spell_expr part.expr.now) (spell_program program) part.token
    (subst (λ (o : Option Subformula). IfSome o (λ q. StandAt (spell_expr q.expr) (spell_program program) q.token)) (sym at) (stand program formula))
    fits
