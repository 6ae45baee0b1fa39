-- The first statement that breaks a rule with a note.
use Rattle.std.proofs.Common.{◌≡◌, ℕ, Bool, true, false, List, [], ◌∷◌, ◌++◌, None, Some, ap, ap₂, ◌∙◌}
use Rattle.std.specs.Prelude.{Option, not, if◌then◌else◌}
use Rattle.civl_tree.specs.declared.stmt.Stmt.{Stmt}
use Rattle.civl_tree.specs.rules.Rules.{first_of}
use Rattle.civl_names.specs.walks.Walks.{numbers_with}
use Rattle.civl_names.proofs.walks.Walking.{or_first, first_append}

pub noted_same : {A : Type 0} (breaks other : Stmt → A → Bool) (stmts others : List Stmt) (notes same : List A) → breaks ≡ other → stmts ≡ others → notes ≡ same
    → first_of (numbers_with breaks 0 stmts notes) ≡ first_of (numbers_with other 0 others same)
noted_same {A = A} breaks other stmts others notes same e f g =
    ap (λ (b : Stmt → A → Bool). first_of (numbers_with b 0 stmts notes)) e
    ∙ ap₂ (λ (ss : List Stmt) (ns : List A). first_of (numbers_with other 0 ss ns)) f g

-- something was found, or nothing: then what comes last decides
pub found_first : (xs ys : List ℕ) (number : ℕ) → first_of xs ≡ Some number → first_of (xs ++ ys) ≡ Some number
found_first xs ys number h = first_append xs ys ∙ ap (λ (o : Option ℕ). or_first o (first_of ys)) h

pub found_last : (xs : List ℕ) (b : Bool) (number : ℕ) → first_of xs ≡ None → b ≡ false → first_of (xs ++ (if not b then number ∷ [] else [])) ≡ Some number
found_last xs b number h e = first_append xs (if not b then number ∷ [] else []) ∙ ap₂ (λ (o : Option ℕ) (c : Bool). or_first o (first_of (if not c then number ∷ [] else []))) h e

pub found_nothing : (xs : List ℕ) (b : Bool) (number : ℕ) → first_of xs ≡ None → b ≡ true → first_of (xs ++ (if not b then number ∷ [] else [])) ≡ None
found_nothing xs b number h e = first_append xs (if not b then number ∷ [] else []) ∙ ap₂ (λ (o : Option ℕ) (c : Bool). or_first o (first_of (if not c then number ∷ [] else []))) h e
