-- What the definitions say together.
use Rattle.std.specs.Prelude.{◌≡◌, ℕ, ◌+◌, ◌≤◌, ◌↔◌, Bool, true, false, if◌then◌else◌, IsTrue, List, [], ◌∷◌, length}
use Rattle.std.specs.List.{AllByRecursion, IsDistinct, list_any}
use Rattle.civl_bits.specs.declared.value.Value.{Value}
use Rattle.civl_bits.specs.declared.value.Value.TheVariants as value
use Rattle.civl_tree.specs.declared.expr.Two.TheVariants.{Implies}
use Rattle.civl_tree.specs.declared.expr.Expr.{Expr}
use Rattle.civl_tree.specs.declared.expr.Expr as expr
use Rattle.civl_tree.specs.Spelling.{spell_expr}
use Rattle.civl_firing.specs.declared.scope.Scope.{Scope}
use Rattle.civl_firing.specs.Eval.{look, value_of}
use Rattle.civl_firing.specs.values.Values.{is_true}
use Rattle.civl_reasons.specs.Reasons.{Subformula, is_joint, parts_from, false_parts}
use Rattle.civl_reasons.specs.Reads.{ReadName, same_read, reads_of, read_names}
use Rattle.civl_reasons.specs.Stands.{StandAt}

-- ---- why a formula isn't true

-- There is a part exactly where the formula isn't true.
abbrev pub PartsTellTruth : Type 0
PartsTellTruth = (scope : Scope) (formula : Expr) → IsTrue (is_true (value_of scope formula)) ↔ (false_parts scope formula ≡ [])

-- a part that isn't true, and that is no `&&`, `||` or `=>`
abbrev pub IsReason : Scope → Subformula → Type 0
IsReason scope part = (is_true (value_of scope part.expr) ≡ false) × (is_joint part.expr ≡ false)

-- Each part is a reason.
abbrev pub PartsAreReasons : Type 0
PartsAreReasons = (scope : Scope) (formula : Expr) → AllByRecursion (IsReason scope) (false_parts scope formula)

-- The spelling of each part stands in that of the formula at its token.
abbrev pub PartsStand : Type 0
PartsStand = (scope : Scope) (formula : Expr)
    → AllByRecursion (λ part. StandAt (spell_expr part.expr) (spell_expr formula) part.token) (false_parts scope formula)

-- from the one token on these parts stand one behind the other, and end before the other token
abbrev pub AreApart : ℕ → List Subformula → ℕ → Type 0
AreApart low [] high = low ≤ high
AreApart low (part ∷ parts) high = (low ≤ part.token) × AreApart (part.token + length (spell_expr part.expr)) parts high

-- The parts stand in the order of the text, and none within another.
abbrev pub PartsAreApart : Type 0
PartsAreApart = (scope : Scope) (formula : Expr) → AreApart 0 (false_parts scope formula) (length (spell_expr formula))

-- In a false `a => b` of bools a is true, and the parts are those of b.
abbrev pub ImpliedParts : Type 0
ImpliedParts = (scope : Scope) (a b : Expr) (x y : Bool) (at : ℕ)
    → value_of scope a ≡ value.Bool x → value_of scope b ≡ value.Bool y → is_true (value_of scope (expr.Two Implies a b)) ≡ false
    → (x ≡ true) × (parts_from scope (expr.Two Implies a b) at ≡ parts_from scope b (at + length (spell_expr a) + 2))

-- ---- which names a formula reads

-- the value of a name as it is read
abbrev pub value_read : Scope → ReadName → Value
value_read scope r = look scope.names (if r.is_old then scope.old else scope.values) r.name

-- An expression has one value in two scopes that agree on the names that it reads, on `done` and on `old(done)`.
abbrev pub ReadNamesSuffice : Type 0
ReadNamesSuffice = (s t : Scope) (e : Expr) → AllByRecursion (λ r. value_read s r ≡ value_read t r) (read_names e)
    → s.done ≡ t.done → s.old_done ≡ t.old_done → value_of s e ≡ value_of t e

-- No reading is told twice.
abbrev pub ReadNamesDiffer : Type 0
ReadNamesDiffer = (e : Expr) → IsDistinct same_read (read_names e)

-- A reading is told exactly where it stands in the expression.
abbrev pub ReadNamesAreAll : Type 0
ReadNamesAreAll = (e : Expr) (r : ReadName) → list_any (same_read r) (read_names e) ≡ list_any (same_read r) (reads_of e)
