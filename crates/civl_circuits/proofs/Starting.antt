-- The clause set that circuits grow from.
use Rattle.std.proofs.Common.{◌≡◌, ℕ, ◌+◌, [], ◌∷◌, refl, sym, subst, arith, Bool, true, false, ◌&&◌, ◌||◌}
use mathlib.Core.Bool.{beq}
use Rattle.std.proofs.lemmas.List.Elements.{All-nil}
use Rattle.civl_cnf.specs.Literal.{Literal}
use Rattle.civl_cnf.specs.ClauseSet.{ClauseSet, IsBelow}
use Rattle.civl_cnf.proofs.Extending.{Defines, definition_extends, definition_value}
use Rattle.civl_circuits.specs.Circuits.{IsStart}

unit_table : (b : Bool) → ((b || false) && true) ≡ beq b true
unit_table true = refl
unit_table false = refl

abbrev first : ℕ → Literal
first inputs = record { variable = inputs; positive = true }

abbrev before : ℕ → ClauseSet
before inputs = record { variables = inputs; clauses = [] }

unit_defines : (inputs : ℕ) → Defines (before inputs) ((first inputs ∷ []) ∷ []) (λ v. true)
unit_defines inputs = record {
  below = All-nil (IsBelow inputs);
  few = omega arith;
  table = λ v. unit_table (v inputs);
  local = λ v w a. refl;
}

pub start_is : (inputs : ℕ) (set : ClauseSet) (one : Literal) → one ≡ first inputs → set ≡ record { variables = inputs + 1; clauses = (one ∷ []) ∷ [] } → IsStart inputs set one
start_is inputs set one eo es =
    let built : IsStart inputs (record { variables = inputs + 1; clauses = (first inputs ∷ []) ∷ [] }) (first inputs) = record {
      extends = definition_extends (before inputs) ((first inputs ∷ []) ∷ []) (λ v. true) (unit_defines inputs);
      variables = refl;
      clauses = refl;
      constant = record {
        below = omega arith;
        always = λ v h. definition_value (before inputs) ((first inputs ∷ []) ∷ []) (λ v. true) (unit_defines inputs) v h;
      };
    } in
    let P : Literal → Type 0 = λ o. IsStart inputs (record { variables = inputs + 1; clauses = (o ∷ []) ∷ [] }) o in
    let Q : ClauseSet → Type 0 = λ s. IsStart inputs s one in
    subst Q (sym es) (subst P (sym eo) built)
