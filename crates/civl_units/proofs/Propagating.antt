-- Marks that grow by what clauses force.
use Rattle.std.proofs.Common.{◌≡◌, ℕ, ◌<◌, List, [], ◌∷◌, ◌++◌, length, get_or, refl, sym, ◌∙◌, ap, inl, inr, Bool, true, false, not}
use Rattle.std.specs.Prelude.{All, Any, Contains, Option, None, Some}
use Rattle.std.proofs.Math.ListN.{set, length-set}
use Rattle.std.proofs.lemmas.Bool.Decides.{eqb_tells}
use Rattle.std.proofs.lemmas.List.{get_or-set_same, get_or-set_other}
use Rattle.std.proofs.lemmas.List.Elements.{All-nil, All-cons, All-head, All-tail, All-contains}
use Rattle.civl_cnf.specs.Literal.{Literal}
use Rattle.civl_units.specs.Propagation.{Holds, IsUnit, IsClosedAt, HasConflict}
use Rattle.civl_units.specs.Marks.{same, is_marked, marked, IsIncluded, Propagates}
use Rattle.civl_units.specs.Trail.{IsOpen}

-- parts of what holds of two lists
pub all_left : {X : Type 0} (P : X → Type 0) (xs ys : List X) → All P (xs ++ ys) → All P xs
all_left P [] ys h = All-nil P
all_left P (x ∷ xs) ys h = All-cons P x xs (All-head P x (xs ++ ys) h) (all_left P xs ys (All-tail P x (xs ++ ys) h))

pub any_by : {X : Type 0} (P : X → Type 0) (xs : List X) (x : X) → Contains xs x → P x → Any P xs
any_by P xs x there p = (there.0, x, there.1, there.2, p)

-- old marks stay
pub marks_stay : (marks : List (Option Bool)) (l : Literal) → IsOpen marks l → IsIncluded (marked marks) (marked (set marks l.variable (Some l.positive)))
marks_stay marks l free v b held = elim (eqb_tells v l.variable) [
  | inl e ↦ let bad : is_marked None b ≡ true = ap (λ m. is_marked m b) (sym free ∙ ap (λ n. get_or marks n None) (sym e.1)) ∙ held in cc
  | inr e ↦ ap (λ m. is_marked m b) (get_or-set_other marks l.variable v (Some l.positive) None e.1) ∙ held
]

pub same_is : (a b : Bool) → same a b ≡ true → a ≡ b
same_is true true e = refl
same_is true false e = cc
same_is false true e = cc
same_is false false e = refl

-- a set that holds the literal holds the marks with it
pub marks_within : (marks : List (Option Bool)) (l : Literal) (s : ℕ → Bool → Bool) → l.variable < length marks → IsIncluded (marked marks) s → Holds s l → IsIncluded (marked (set marks l.variable (Some l.positive))) s
marks_within marks l s below within holds v b held = elim (eqb_tells v l.variable) [
  | inl e ↦
      let here : get_or (set marks l.variable (Some l.positive)) v None ≡ Some l.positive
      = ap (λ n. get_or (set marks l.variable (Some l.positive)) n None) e.1 ∙ get_or-set_same marks l.variable (Some l.positive) None below in
      let sign : l.positive ≡ b = same_is l.positive b (ap (λ m. is_marked m b) (sym here) ∙ held) in
      ap (λ n. s n b) e.1 ∙ ap (λ x. s l.variable x) (sym sign) ∙ holds
  | inr e ↦ within v b (ap (λ m. is_marked m b) (sym (get_or-set_other marks l.variable v (Some l.positive) None e.1)) ∙ held)
]

pub included_trans : (a b c : ℕ → Bool → Bool) → IsIncluded a b → IsIncluded b c → IsIncluded a c
included_trans a b c f g = λ v x h. g v x (f v x h)

pub unit_grows : (a b : ℕ → Bool → Bool) (clause : List Literal) (l : Literal) → IsIncluded a b → IsUnit a clause l → IsUnit b clause l
unit_grows a b clause l within unit =
    (unit.0, λ k d low. elim (unit.1 k d low) [ inl e ↦ inl e | inr f ↦ inr (within (get_or clause k d).variable (not (get_or clause k d).positive) f) ])

pub conflict_grows : (a b : ℕ → Bool → Bool) (clauses : List (List Literal)) → IsIncluded a b → HasConflict a clauses → HasConflict b clauses
conflict_grows a b clauses within f =
    (f.0, f.1, f.2, f.3, λ k d low. within (get_or f.1 k d).variable (not (get_or f.1 k d).positive) (f.4 k d low))

pub propagates_none : (marks : List (Option Bool)) (clauses : List (List Literal)) → Propagates marks marks clauses
propagates_none marks clauses = record { size = refl; stay = λ v b h. h; sound = λ s within closed. within }

-- one propagation after the other
pub propagates_then : (a b c : List (Option Bool)) (clauses : List (List Literal)) → Propagates a b clauses → Propagates b c clauses → Propagates a c clauses
propagates_then a b c clauses p q = record {
  size = q.size ∙ p.size;
  stay = included_trans (marked a) (marked b) (marked c) p.stay q.stay;
  sound = λ s within closed. q.sound s (p.sound s within closed) closed;
}

-- a literal that one of the clauses forces
pub forced_propagates : (marks : List (Option Bool)) (clauses : List (List Literal)) (clause : List Literal) (l : Literal) → Contains clauses clause → l.variable < length marks → IsUnit (marked marks) clause l → IsOpen marks l → Propagates marks (set marks l.variable (Some l.positive)) clauses
forced_propagates marks clauses clause l there low unit free = record {
  size = length-set marks l.variable (Some l.positive);
  stay = marks_stay marks l free;
  sound = λ s within closed.
      let at = All-contains (IsClosedAt s) clauses clause closed there in
      marks_within marks l s low within (at l (unit_grows (marked marks) s clause l within unit));
}
