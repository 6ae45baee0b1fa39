-- What is written of tokens, and the equations by which chains of writes join.
use Rattle.std.proofs.Common.{ℕ, ◌+◌, ◌<◌, length, get_or, drop, drop-cons, add-one, ◌≡◌, List, [], ◌∷◌, ◌++◌, append_assoc, append-nil, refl, sym, ap, ◌∙◌, map}
use Rattle.std.proofs.lemmas.Grind.{flat_map-append}
use Rattle.civl_tree.specs.declared.expr.Expr.{the_lemmas as of_expr}
use Rattle.civl_tree.specs.declared.stmt.Stmt.{the_lemmas as of_stmt}
use Rattle.civl_tree.specs.Token.{Token}
use Rattle.civl_tree.specs.Spelling.{joined}
use Rattle.civl_tree.specs.SpellingText.{canonical_token}
use Rattle.civl_printing.specs.Written.{written_token, written}

pub written_none : written [] ≡ []
unfolding written
written_none = refl

pub written_more : (token : Token) (tokens : List Token) → written (token ∷ tokens) ≡ written_token token ++ written tokens
unfolding written written_token
written_more token tokens = refl

pub written_append : (xs ys : List Token) → written (xs ++ ys) ≡ written xs ++ written ys
unfolding written
written_append xs ys = flat_map-append canonical_token xs ys

pub ruleset joins = (written_none, written_more, written_append, append_assoc, append-nil)

pub ruleset writing = (joins, of_expr, of_stmt)

-- what is written of the rest of a list, where x is its first
pub written_rest : {X : Type 0} (spell : X → List Token) (xs : List X) (i : ℕ) (x : X) → i < length xs → x ≡ get_or xs i x
    → written (joined (map spell (drop i xs))) ≡ written (spell x) ++ written (joined (map spell (drop (i + 1) xs)))
written_rest spell xs i x h e = rw (add-one, drop-cons xs i x, ← e) (written_append (spell x) _)

-- ---- one write behind the other

pub then_token : (a b c : List ℕ) (token : Token) (tokens : List Token) → b ≡ a ++ written_token token → c ≡ b ++ written tokens → c ≡ a ++ written (token ∷ tokens)
unfolding written written_token
then_token a b c token tokens h k = k ∙ ap (λ x. x ++ written tokens) h ∙ append_assoc a (written_token token) (written tokens)

pub then_phrase : (a b c : List ℕ) (xs ys : List Token) → b ≡ a ++ written xs → c ≡ b ++ written ys → c ≡ a ++ written (xs ++ ys)
then_phrase a b c xs ys h k = k ∙ ap (λ x. x ++ written ys) h ∙ append_assoc a (written xs) (written ys) ∙ ap (λ x. a ++ x) (sym (written_append xs ys))

pub last_token : (a b : List ℕ) (token : Token) → b ≡ a ++ written_token token → b ≡ a ++ written (token ∷ [])
unfolding written written_token
last_token a b token h = h ∙ ap (λ x. a ++ x) (sym (append-nil (written_token token)))
