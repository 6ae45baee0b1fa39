-- The next move of a list.
use Rattle.std.proofs.Common.{◌≡◌, List, [], ◌∷◌, ◌++◌, Option, None, Some, sym, ap, subst, ◌∙◌, append_assoc}
use Rattle.std.specs.Prelude.{option_to_list, IfNone}

pub split_more : {A : Type 0} (o : Option A) (x : A) (xs : List A) → o ≡ Some x → option_to_list o ++ xs ≡ x ∷ xs
split_more o x xs e = ap (λ z. option_to_list z ++ xs) e

pub rotated : {A : Type 0} (all done rest next : List A) (x : A) → all ≡ done ++ rest → rest ≡ x ∷ next → all ≡ (done ++ x ∷ []) ++ next
rotated all done rest next x e f = e ∙ (ap (λ l. done ++ l) f ∙ sym (append_assoc done (x ∷ []) next))

pub if_none : {A : Type 0} (P : Type 0) (o : Option A) → o ≡ None → IfNone o P → P
if_none P o e h = subst (λ z. IfNone z P) e h
