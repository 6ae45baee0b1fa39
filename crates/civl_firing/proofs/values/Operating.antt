-- The operators on words of one width, and literals.
use Rattle.std.proofs.Common.{ℕ, ◌≡◌, Bool, refl}
use Rattle.std.proofs.lemmas.Bool.{eq-eqb}
use Rattle.civl_bits.specs.declared.value.Value.TheVariants as value
use Rattle.civl_firing.specs.values.Operators.{on_words, test_words}

pub on_words_is : (f : ℕ → ℕ → ℕ → ℕ) (a b : ℕ × ℕ) → a.0 ≡ b.0 → on_words f (value.Word a) (value.Word b) ≡ value.Word (a.0, f a.0 a.1 b.1)
on_words_is f a b e = rw (eq-eqb a.0 b.0 e) refl

pub test_words_is : (f : ℕ → ℕ → ℕ → Bool) (a b : ℕ × ℕ) → a.0 ≡ b.0 → test_words f (value.Word a) (value.Word b) ≡ value.Bool (f a.0 a.1 b.1)
test_words_is f a b e = rw (eq-eqb a.0 b.0 e) refl

pub ruleset operating = (on_words_is, test_words_is)

pub ruleset misfits = (eq-eqb)
