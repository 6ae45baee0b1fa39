-- What follows a phrase of three parts, as a part of it. It may hang on the phrase's value.
use Rattle.std.proofs.Common.{◌≡◌, Ok, Err, refl}
use Rattle.civl_phrases.specs.Reader.{Answer, Reader, ◌>>=◌, both, mapped}

module _ {A B C D E : Type 0} (make : A × (B × C) → D) (r2 : A → Reader B) (r3 : A → Reader C) (y : D → Reader E) where
  abbrev pub regroup : A × (B × (C × E)) → D × E
  regroup v = (make (v.0, (v.1.0, v.1.1.0)), v.1.1.1)

  abbrev regrouped : Answer (A × (B × (C × E))) → Answer (D × E)
  regrouped o = o >>= λ v. Ok (regroup v.0, v.1)

  abbrev made : Answer (A × (B × C)) → Answer D
  made o = o >>= λ v. Ok (make v.0, v.1)

  abbrev with_last : D → Answer E → Answer (D × E)
  with_last d o = o >>= λ v. Ok ((d, v.0), v.1)

  abbrev then_last : Answer D → Answer (D × E)
  then_last o = o >>= λ v. with_last v.0 (y v.0 v.1)

  abbrev with_c : C → Answer E → Answer (C × E)
  with_c c o = o >>= λ v. Ok ((c, v.0), v.1)

  abbrev with_b : B → Answer C → Answer (B × C)
  with_b b o = o >>= λ v. Ok ((b, v.0), v.1)

  abbrev with_b_more : B → Answer (C × E) → Answer (B × (C × E))
  with_b_more b o = o >>= λ v. Ok ((b, v.0), v.1)

  abbrev with_a : A → Answer (B × C) → Answer (A × (B × C))
  with_a a o = o >>= λ v. Ok ((a, v.0), v.1)

  abbrev with_a_more : A → Answer (B × (C × E)) → Answer (A × (B × (C × E)))
  with_a_more a o = o >>= λ v. Ok ((a, v.0), v.1)

  abbrev c_then : A → B → Answer C → Answer (C × E)
  c_then a b o = o >>= λ v. with_c v.0 (y (make (a, (b, v.0))) v.1)

  fourth : (a : A) (b : B) (c : C) (o : Answer E) → regrouped (with_a_more a (with_b_more b (with_c c o))) ≡ with_last (make (a, (b, c))) o
  fourth a b c (Ok v) = refl
  fourth a b c (Err e) = refl

  third : (a : A) (b : B) (o : Answer C) → regrouped (with_a_more a (with_b_more b (c_then a b o))) ≡ then_last (made (with_a a (with_b b o)))
  third a b (Ok v) = fourth a b v.0 (y (make (a, (b, v.0))) v.1)
  third a b (Err e) = refl

  second : (a : A) (o : Answer B) → regrouped (with_a_more a (o >>= λ v. with_b_more v.0 (c_then a v.0 (r3 a v.1)))) ≡ then_last (made (with_a a (o >>= λ v. with_b v.0 (r3 a v.1))))
  second a (Ok v) = third a v.0 (r3 a v.1)
  second a (Err e) = refl

  first : (o : Answer A) → regrouped (o >>= λ v. with_a_more v.0 (r2 v.0 v.1 >>= λ w. with_b_more w.0 (c_then v.0 w.0 (r3 v.0 w.1)))) ≡ then_last (made (o >>= λ v. with_a v.0 (r2 v.0 v.1 >>= λ w. with_b w.0 (r3 v.0 w.1))))
  first (Ok v) = second v.0 (r2 v.0 v.1)
  first (Err e) = refl

  pub nested : (r1 : Reader A) → mapped regroup (both r1 (λ a. both (r2 a) (λ b. both (r3 a) (λ c. y (make (a, (b, c))))))) ≡ both (mapped make (both r1 (λ a. both (r2 a) (λ _. r3 a)))) y
  unfolding mapped both
  nested r1 = λ i ts. first (r1 ts) i
