-- The first refusal: of the rules on names, then of the others.
use Rattle.std.proofs.Common.{◌≡◌, List, [], ◌∷◌, ◌++◌, None, Some, sym, ap, ◌∙◌, subst}
use Rattle.std.specs.Prelude.{Option}
use Rattle.std.proofs.lemmas.List.{append_assoc, append-nil}
use Rattle.civl_tree.specs.declared.program.Program.{Program}
use Rattle.civl_tree.specs.declared.refusal.Refusal.{Refusal}
use Rattle.civl_tree.specs.rules.Rules.{Rule, refusals_of, refusals_by, refusal_by, first_of}
use Rattle.civl_tree.specs.rules.Typing.{twice_rule, unknown_rule, count_rule, width_rule, sort_rule, index_rule, arity_rule, store_size_rule, typing_rules}
use Rattle.civl_tree.specs.rules.Broken.{IsRefusal}
use Rattle.civl_tree.proofs.First.{first_is_answer, typing_in_order}
use Rattle.civl_names.proofs.walks.Walking.{or_first, first_append}

abbrev name_rules : List Rule
name_rules = twice_rule ∷ unknown_rule ∷ []

abbrev other_rules : List Rule
other_rules = count_rule ∷ width_rule ∷ sort_rule ∷ index_rule ∷ arity_rule ∷ store_size_rule ∷ []

names_first : (program : Program) → refusal_by typing_rules program ≡ or_first (refusal_by name_rules program) (refusal_by other_rules program)
names_first program =
    let twice : List Refusal = refusals_of twice_rule program in
    let unknown : List Refusal = refusals_of unknown_rule program in
    let others : List Refusal = refusals_by other_rules program in
    ap first_of (sym (append_assoc twice unknown others))
    ∙ ap (λ (names : List Refusal). first_of ((twice ++ names) ++ others)) (sym (append-nil unknown))
    ∙ first_append (twice ++ (unknown ++ [])) others

-- what is the first by the list is the first by the relation
pub is_answer : (program : Program) (refusal : Option Refusal) → refusal ≡ refusal_by typing_rules program → IsRefusal typing_rules program refusal
is_answer program refusal e = subst (IsRefusal typing_rules program) (sym e) (first_is_answer typing_rules program typing_in_order)

-- where none on names is broken, the others are asked
pub others_are_next : (program : Program) → refusal_by name_rules program ≡ None → refusal_by other_rules program ≡ refusal_by typing_rules program
others_are_next program e = sym (names_first program ∙ ap (λ (o : Option Refusal). or_first o (refusal_by other_rules program)) e)

-- where one is broken, that comes first
pub names_are_first : (program : Program) (refusal : Refusal) → Some refusal ≡ refusal_by name_rules program → Some refusal ≡ refusal_by typing_rules program
names_are_first program refusal e = sym (names_first program ∙ ap (λ (o : Option Refusal). or_first o (refusal_by other_rules program)) (sym e))
