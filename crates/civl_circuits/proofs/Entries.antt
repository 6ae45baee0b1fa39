-- The table of gates that were built.
use Rattle.std.proofs.Common.{◌≡◌, ℕ, List, [], ◌∷◌, refl, sym, ap, ap₂, ◌∙◌, subst, true≢false, Bool, true, false, ◌&&◌, cond, nat_eq, Option, Some, None}
use Rattle.std.specs.Prelude.{IfSome}
use Rattle.std.specs.Map.{lookup}
use mathlib.Core.Bool.{beq}
use Rattle.std.proofs.lemmas.Bool.{and_parts, eqb-true}
use Rattle.std.proofs.lemmas.List.Elements.{All-head, All-tail, All-cons, All-nil}
use Rattle.civl_cnf.specs.Literal.{Literal}
use Rattle.civl_cnf.specs.ClauseSet.{ClauseSet}
use Rattle.civl_cnf.proofs.Extending.{beq_equal}
use Rattle.indexmap.specs.IndexMap.{insert_entry}
use Rattle.civl_circuits.specs.Hashing.{IsOutput, AreOutputs}
use Rattle.civl_circuits.specs.declared.gate.Operand.{Operand}
use Rattle.civl_circuits.specs.declared.gate.Gate.{Gate}
use Rattle.civl_circuits.specs.declared.gate.Gate.TheVariants as gate
use Rattle.civl_circuits.specs.contracts.gate.OperandPartialEq.TheImpl as operands
use Rattle.civl_circuits.specs.contracts.gate.GatePartialEq.TheImpl as gates

abbrev Says : Gate → List (Gate × Literal) → Literal → Type 0
Says gate es o = (set : ClauseSet) → AreOutputs set es → IsOutput set gate o

says_first : (gate : Gate) (e : Gate × Literal) (es : List (Gate × Literal)) → gate ≡ e.0 → Says gate (e ∷ es) e.1
says_first gate e es same = λ set all.
    let P : Gate → Type 0 = λ g. IsOutput set g e.1 in
    subst P (sym same) (All-head (λ x. IsOutput set x.0 x.1) e es all)

says_later : (gate : Gate) (e : Gate × Literal) (es : List (Gate × Literal)) (r : Option Literal) → IfSome r (Says gate es) → IfSome r (Says gate (e ∷ es))
says_later gate e es None k = tt
says_later gate e es (Some o) k = λ set all. k set (All-tail (λ x. IsOutput set x.0 x.1) e es all)

says_by : (test : Gate → Bool) (gate : Gate) (e : Gate × Literal) (es : List (Gate × Literal)) (b : Bool) → test e.0 ≡ b → ((k : Gate) → test k ≡ true → gate ≡ k) → IfSome (lookup test es) (Says gate es) → IfSome (cond b (Some e.1) (lookup test es)) (Says gate (e ∷ es))
says_by test gate e es true h same rest = says_first gate e es (same e.0 h)
says_by test gate e es false h same rest = says_later gate e es (lookup test es) rest

looked_up : (test : Gate → Bool) (gate : Gate) (es : List (Gate × Literal)) → ((k : Gate) → test k ≡ true → gate ≡ k) → IfSome (lookup test es) (Says gate es)
looked_up test gate [] same = tt
looked_up test gate (e ∷ es) same = says_by test gate e es (test e.0) refl same (looked_up test gate es same)

-- what is found at a gate is its output
pub found : (test : Gate → Bool) (gate : Gate) (es : List (Gate × Literal)) (r : Option Literal) → r ≡ lookup test es → ((k : Gate) → test k ≡ true → gate ≡ k) → IfSome r (λ o. (set : ClauseSet) → AreOutputs set es → IsOutput set gate o)
found test gate es r e same =
    let P : Option Literal → Type 0 = λ x. IfSome x (Says gate es) in
    subst P (sym e) (looked_up test gate es same)

inserted_by : (eq : Gate → Gate → Bool) (gate : Gate) (output : Literal) (e : Gate × Literal) (es : List (Gate × Literal)) (b : Bool) → eq gate e.0 ≡ b → ((k : Gate) → eq gate k ≡ true → gate ≡ k) → (set : ClauseSet) → AreOutputs set (e ∷ es) → IsOutput set gate output → AreOutputs set (insert_entry eq es gate output) → AreOutputs set (cond b ((e.0, output) ∷ es) (e ∷ insert_entry eq es gate output))
inserted_by eq gate output e es true h same set all is rest =
    let P : Gate → Type 0 = λ g. IsOutput set g output in
    All-cons (λ x. IsOutput set x.0 x.1) (e.0, output) es (subst P (same e.0 h) is) (All-tail (λ x. IsOutput set x.0 x.1) e es all)
inserted_by eq gate output e es false h same set all is rest =
    All-cons (λ x. IsOutput set x.0 x.1) e (insert_entry eq es gate output) (All-head (λ x. IsOutput set x.0 x.1) e es all) rest

inserted : (eq : Gate → Gate → Bool) (gate : Gate) (output : Literal) (es : List (Gate × Literal)) → ((k : Gate) → eq gate k ≡ true → gate ≡ k) → (set : ClauseSet) → AreOutputs set es → IsOutput set gate output → AreOutputs set (insert_entry eq es gate output)
inserted eq gate output [] same set all is = All-cons (λ x. IsOutput set x.0 x.1) (gate, output) [] is (All-nil (λ x. IsOutput set x.0 x.1))
inserted eq gate output (e ∷ es) same set all is =
    inserted_by eq gate output e es (eq gate e.0) refl same set all is (inserted eq gate output es same set (All-tail (λ x. IsOutput set x.0 x.1) e es all) is)

-- an output that is put into the table
pub kept : (eq : Gate → Gate → Bool) (gate : Gate) (output : Literal) (old new : List (Gate × Literal)) → new ≡ insert_entry eq old gate output → ((k : Gate) → eq gate k ≡ true → gate ≡ k) → (set : ClauseSet) → AreOutputs set old → IsOutput set gate output → AreOutputs set new
kept eq gate output old new e same set all is = subst (AreOutputs set) (sym e) (inserted eq gate output old same set all is)

same_operand : (x y : Operand) → (operands.ghosts).eq x y ≡ true → x ≡ y
same_operand x y h =
    let made : ℕ → Bool → Operand = λ n p. record { variable = n; positive = p } in
    let parts = and_parts (nat_eq x.variable y.variable) (beq x.positive y.positive) h in
    ap₂ made (eqb-true x.variable y.variable parts.0) (beq_equal x.positive y.positive parts.1)

same_two : (op : Operand → Operand → Gate) (a b d e : Operand) → ((operands.ghosts).eq a d && (operands.ghosts).eq b e) ≡ true → op a b ≡ op d e
same_two op a b d e h =
    let parts = and_parts ((operands.ghosts).eq a d) ((operands.ghosts).eq b e) h in
    ap₂ op (same_operand a d parts.0) (same_operand b e parts.1)

same_three : (op : Operand → Operand → Operand → Gate) (a b c d e f : Operand) → ((operands.ghosts).eq a d && ((operands.ghosts).eq b e && (operands.ghosts).eq c f)) ≡ true → op a b c ≡ op d e f
same_three op a b c d e f h =
    let parts = and_parts ((operands.ghosts).eq a d) ((operands.ghosts).eq b e && (operands.ghosts).eq c f) h in
    let rest = and_parts ((operands.ghosts).eq b e) ((operands.ghosts).eq c f) parts.1 in
    ap (λ x. op x b c) (same_operand a d parts.0) ∙ ap₂ (op d) (same_operand b e rest.0) (same_operand c f rest.1)

pub same_gate : (x y : Gate) → (gates.ghosts).eq x y ≡ true → x ≡ y
same_gate (gate.And a b) (gate.And d e) h = same_two gate.And a b d e h
same_gate (gate.And a b) (gate.Xor d e) h = absurd (true≢false (sym h))
same_gate (gate.And a b) (gate.Ite d e f) h = absurd (true≢false (sym h))
same_gate (gate.And a b) (gate.Sum d e f) h = absurd (true≢false (sym h))
same_gate (gate.And a b) (gate.Carry d e f) h = absurd (true≢false (sym h))
same_gate (gate.Xor a b) (gate.And d e) h = absurd (true≢false (sym h))
same_gate (gate.Xor a b) (gate.Xor d e) h = same_two gate.Xor a b d e h
same_gate (gate.Xor a b) (gate.Ite d e f) h = absurd (true≢false (sym h))
same_gate (gate.Xor a b) (gate.Sum d e f) h = absurd (true≢false (sym h))
same_gate (gate.Xor a b) (gate.Carry d e f) h = absurd (true≢false (sym h))
same_gate (gate.Ite a b c) (gate.And d e) h = absurd (true≢false (sym h))
same_gate (gate.Ite a b c) (gate.Xor d e) h = absurd (true≢false (sym h))
same_gate (gate.Ite a b c) (gate.Ite d e f) h = same_three gate.Ite a b c d e f h
same_gate (gate.Ite a b c) (gate.Sum d e f) h = absurd (true≢false (sym h))
same_gate (gate.Ite a b c) (gate.Carry d e f) h = absurd (true≢false (sym h))
same_gate (gate.Sum a b c) (gate.And d e) h = absurd (true≢false (sym h))
same_gate (gate.Sum a b c) (gate.Xor d e) h = absurd (true≢false (sym h))
same_gate (gate.Sum a b c) (gate.Ite d e f) h = absurd (true≢false (sym h))
same_gate (gate.Sum a b c) (gate.Sum d e f) h = same_three gate.Sum a b c d e f h
same_gate (gate.Sum a b c) (gate.Carry d e f) h = absurd (true≢false (sym h))
same_gate (gate.Carry a b c) (gate.And d e) h = absurd (true≢false (sym h))
same_gate (gate.Carry a b c) (gate.Xor d e) h = absurd (true≢false (sym h))
same_gate (gate.Carry a b c) (gate.Ite d e f) h = absurd (true≢false (sym h))
same_gate (gate.Carry a b c) (gate.Sum d e f) h = absurd (true≢false (sym h))
same_gate (gate.Carry a b c) (gate.Carry d e f) h = same_three gate.Carry a b c d e f h
