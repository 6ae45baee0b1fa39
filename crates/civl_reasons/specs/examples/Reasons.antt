-- Worked formulas.
use Rattle.std.specs.Prelude.{◌≡◌, ℕ, true, false, List, [], ◌∷◌, ◌++◌}
use Rattle.civl_bits.specs.declared.value.Value.TheVariants as value
use Rattle.civl_tree.specs.declared.expr.One.TheVariants.{Not}
use Rattle.civl_tree.specs.declared.expr.Two.TheVariants.{Lt, Eq, And, Or, Implies}
use Rattle.civl_tree.specs.declared.expr.Expr.{Expr}
use Rattle.civl_tree.specs.declared.expr.Expr as expr
use Rattle.civl_tree.specs.Token.{Token}
use Rattle.civl_tree.specs.Spelling.{spell_expr}
use Rattle.civl_tree.specs.examples.SpellingWords.{named, name, word, sign}
use Rattle.civl_firing.specs.declared.scope.Scope.{Scope}
use Rattle.civl_reasons.specs.Reasons.{Subformula, false_parts}
use Rattle.civl_reasons.specs.Reads.{read_names}

-- x is 4 and was 9, y is 3, b is false
abbrev pub scope : Scope
scope = record {
  names = named "x" ∷ named "y" ∷ named "b" ∷ [];
  values = value.Word (8, 4) ∷ value.Word (8, 3) ∷ value.Bool false ∷ [];
  old = value.Word (8, 9) ∷ value.Word (8, 3) ∷ value.Bool false ∷ [];
  done = false;
  old_done = false;
}

abbrev x : Expr
x = expr.Name (named "x")

abbrev y : Expr
y = expr.Name (named "y")

abbrev b : Expr
b = expr.Name (named "b")

abbrev old_is_less : Expr
old_is_less = expr.Two Lt (expr.Old (named "x")) y

abbrev is_less : Expr
is_less = expr.Two Lt x y

-- ((! (x == y)) && (((! b) => ((old(x) < y) || b)) && (x < y)))
abbrev pub nested : Expr
nested =
    expr.Two And (expr.One Not (expr.Two Eq x y))
    (expr.Two And (expr.Two Implies (expr.One Not b) (expr.Two Or old_is_less b)) is_less)

abbrev pub nested_spelled : List Token
nested_spelled =
    (sign "(" ∷ sign "(" ∷ sign "!" ∷ sign "(" ∷ name "x" ∷ sign "==" ∷ name "y" ∷ sign ")" ∷ sign ")" ∷ sign "&&" ∷ [])
    ++ (sign "(" ∷ sign "(" ∷ sign "(" ∷ sign "!" ∷ name "b" ∷ sign ")" ∷ sign "=>" ∷ sign "(" ∷ sign "(" ∷ word "old" ∷ [])
    ++ (sign "(" ∷ name "x" ∷ sign ")" ∷ sign "<" ∷ name "y" ∷ sign ")" ∷ sign "||" ∷ name "b" ∷ sign ")" ∷ sign ")" ∷ [])
    ++ (sign "&&" ∷ sign "(" ∷ name "x" ∷ sign "<" ∷ name "y" ∷ sign ")" ∷ sign ")" ∷ sign ")" ∷ [])

abbrev pub NestedIsSpelled : Type 0
NestedIsSpelled = spell_expr nested ≡ nested_spelled

abbrev at : ℕ → Expr → Subformula
at token part = record { token = token; expr = part }

-- the first side is true; of the implication's right side, an `||`, both sides are false
abbrev pub NestedParts : Type 0
NestedParts = false_parts scope nested ≡ at 18 old_is_less ∷ at 27 b ∷ at 31 is_less ∷ []

-- (((! b) || (x < y)) => (b && (x == y))): the left side is true, although a part of it is false
abbrev pub ImpliedIsFalse : Type 0
ImpliedIsFalse =
    false_parts scope (expr.Two Implies (expr.Two Or (expr.One Not b) is_less) (expr.Two And b (expr.Two Eq x y)))
    ≡ at 15 b ∷ at 17 (expr.Two Eq x y) ∷ []

-- (! (b => b)): what stands under another operator is told as one
abbrev pub NegatedIsWhole : Type 0
NegatedIsWhole = false_parts scope (expr.One Not (expr.Two Implies b b)) ≡ at 0 (expr.One Not (expr.Two Implies b b)) ∷ []

-- (b || (! b)) is true
abbrev pub TrueHasNone : Type 0
TrueHasNone = false_parts scope (expr.Two Or b (expr.One Not b)) ≡ []

-- (x => (! b)), where the sorts don't fit: a word isn't true
abbrev pub MisfitIsFalse : Type 0
MisfitIsFalse = false_parts scope (expr.Two Implies x (expr.One Not b)) ≡ at 1 x ∷ []

-- in the order of the text, x in both ways
abbrev pub NestedReads : Type 0
NestedReads =
    read_names nested
    ≡ record { name = named "x"; is_old = false }
    ∷ record { name = named "y"; is_old = false }
    ∷ record { name = named "b"; is_old = false }
    ∷ record { name = named "x"; is_old = true }
    ∷ []

-- (done && old(done)) reads no name
abbrev pub DoneIsNoName : Type 0
DoneIsNoName = read_names (expr.Two And expr.Done expr.OldDone) ≡ []

pub record ReasonExamples : Type 0 where
  pub spelled : NestedIsSpelled
  pub nested : NestedParts
  pub implied : ImpliedIsFalse
  pub negated : NegatedIsWhole
  pub true_has_none : TrueHasNone
  pub misfit : MisfitIsFalse

pub record ReadExamples : Type 0 where
  pub nested : NestedReads
  pub no_name : DoneIsNoName
