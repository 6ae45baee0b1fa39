-- Statements that stand beside notes are judged each with its own.
use Rattle.std.proofs.Common.{◌≡◌, ℕ, zero, suc, ◌+◌, ◌≤◌, Bool, true, false, ◌⊎◌, inl, inr, List, [], ◌∷◌, ◌++◌, length, Some, refl, sym, ap, ◌∙◌, subst, arith, slice_get}
use Rattle.std.specs.Prelude.{Contains, ◌↔◌, if◌then◌else◌}
use Rattle.std.proofs.lemmas.List.Elements.{Contains-append_left, Contains-append_right, Contains-append_cases}
use Rattle.std.proofs.lemmas.Option.{none-some}
use Rattle.civl_tree.specs.declared.stmt.Stmt.{Stmt}
use Rattle.civl_names.specs.walks.Walks.{numbers_with}
use Rattle.civl_names.specs.walks.Judged.{EachIsJudged}

-- one number, where there is one
only : (broken : Bool) (number n : ℕ) → Contains (if broken then number ∷ [] else []) n → (broken ≡ true) × (number ≡ n)
only true number n (zero, l, e) = (refl, e)
only true number n (suc k, l, e) = absurd (omega (arith, l))
only false number n (k, l, e) = absurd (omega (arith, l))

here : (broken : Bool) (number : ℕ) → broken ≡ true → Contains (if broken then number ∷ [] else []) number
here true number h = (0, omega arith, refl)
here false number h = absurd cc

module _ {A : Type 0} (breaks : Stmt → A → Bool) where
  -- no number is below the first
  least : (number : ℕ) (stmts : List Stmt) (notes : List A) (n : ℕ) → Contains (numbers_with breaks number stmts notes) n → number ≤ n
  unfolding numbers_with
  least number [] notes n (k, l, e) = absurd (omega (arith, l))
  least number (stmt ∷ stmts) [] n (k, l, e) = absurd (omega (arith, l))
  least number (stmt ∷ stmts) (note ∷ notes) n h =
      elim (Contains-append_cases (if breaks stmt note then number ∷ [] else []) (numbers_with breaks (number + 1) stmts notes) n h) [
        | inl c ↦ omega (arith, (only (breaks stmt note) number n c).1)
        | inr c ↦ omega (arith, least (number + 1) stmts notes n c)
      ]

  -- the numbers of these statements, and of those behind
  found : (broken : Bool) (number n : ℕ) (rest : List ℕ) → ((m : ℕ) → Contains rest m → number + 1 ≤ m) → Contains ((if broken then number ∷ [] else []) ++ rest) n → ((broken ≡ true) × (number ≡ n)) ⊎ ((number + 1 ≤ n) × Contains rest n)
  found broken number n rest above h =
      elim (Contains-append_cases (if broken then number ∷ [] else []) rest n h) [
        | inl c ↦ inl (only broken number n c)
        | inr c ↦ inr (above n c, c)
      ]

  pub each_from : (number : ℕ) (stmts : List Stmt) (notes : List A) → length notes ≡ length stmts → (place : ℕ) (stmt : Stmt) → slice_get stmts place ≡ Some stmt
      → (note : A) × (slice_get notes place ≡ Some note) × ((breaks stmt note ≡ true) ↔ Contains (numbers_with breaks number stmts notes) (number + place))
  unfolding numbers_with
  each_from number [] notes h place stmt at = absurd (none-some stmt at)
  each_from number (first ∷ stmts) [] h place stmt at = absurd (omega (arith, h))
  each_from number (first ∷ stmts) (note ∷ notes) h zero stmt at =
      let same : first ≡ stmt = cc in
      let own : number ≡ number + 0 = omega arith in
      let rest = numbers_with breaks (number + 1) stmts notes in (
        note,
        refl,
        (
          λ b. subst (Contains ((if breaks first note then number ∷ [] else []) ++ rest)) own (Contains-append_left (if breaks first note then number ∷ [] else []) rest number (here (breaks first note) number (ap (λ (s : Stmt). breaks s note) same ∙ b))),
          λ c. elim (found (breaks first note) number (number + 0) rest (λ m. least (number + 1) stmts notes m) c) [ inl f ↦ ap (λ (s : Stmt). breaks s note) (sym same) ∙ f.0 | inr f ↦ absurd (omega (arith, f.0)) ],
        ),
      )
  each_from number (first ∷ stmts) (note ∷ notes) h (suc place) stmt at =
      let long : length notes ≡ length stmts = omega (arith, h) in
      let rest = numbers_with breaks (number + 1) stmts notes in
      let behind = each_from (number + 1) stmts notes long place stmt at in
      let next : number + 1 + place ≡ number + suc place = omega arith in (
        behind.0,
        behind.1,
        (
          λ b. subst (Contains ((if breaks first note then number ∷ [] else []) ++ rest)) next (Contains-append_right (if breaks first note then number ∷ [] else []) rest (number + 1 + place) (behind.2.0 b)),
          λ c. elim (found (breaks first note) number (number + suc place) rest (λ m. least (number + 1) stmts notes m) c) [ inl f ↦ absurd (omega (arith, f.1)) | inr f ↦ behind.2.1 (subst (Contains rest) (sym next) f.1) ],
        ),
      )

-- where the first statement has the number 0
pub each_is_judged : {A : Type 0} → EachIsJudged A
each_is_judged breaks stmts notes h place stmt at =
    let none : 0 + place ≡ place = omega arith in
    let judged = each_from breaks 0 stmts notes h place stmt at in
    (judged.0, judged.1, (λ b. subst (Contains (numbers_with breaks 0 stmts notes)) none (judged.2.0 b), λ c. judged.2.1 (subst (Contains (numbers_with breaks 0 stmts notes)) (sym none) c)))
