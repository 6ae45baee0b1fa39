-- Bools: tests that are one, and conditionals.
use Rattle.std.proofs.Common.{◌≡◌, Bool, true, false, ◌&&◌, refl, sym}
use Rattle.std.specs.Prelude.{if◌then◌else◌}
use Rattle.std.proofs.lemmas.Bool.{false≢true, and_from}

-- two tests that are true together are one
pub same_truth : (a b : Bool) → (a ≡ true → b ≡ true) → (b ≡ true → a ≡ true) → a ≡ b
same_truth true b f g = sym (f refl)
same_truth false true f g = g refl
same_truth false false f g = refl

pub not_second : (a b : Bool) → a ≡ true → (a && b) ≡ false → b ≡ false
not_second true b e h = h
not_second false b e h = absurd (false≢true e)

pub either : {A : Type 0} (P : A → Type 0) (b : Bool) (x y : A) → P x → P y → P (if b then x else y)
either P true x y p q = p
either P false x y p q = q

pub five : (a b c d e : Bool) → a ≡ true → b ≡ true → c ≡ true → d ≡ true → e ≡ true → (a && (b && (c && (d && e)))) ≡ true
five a b c d e p q r s t = and_from a (b && (c && (d && e))) p (and_from b (c && (d && e)) q (and_from c (d && e) r (and_from d e s t)))
