-- For private functions alone: the operands of an operation, two words of one width or two bools.
use Rattle.std.specs.Prelude.{ℕ, ◌≡◌, Bool}
use Rattle.civl_bits.specs.declared.value.Value.{Value}
use Rattle.civl_bits.specs.declared.value.Value.TheVariants as value
use Rattle.civl_firing.specs.values.Operators.{nothing, on_words, test_words, on_bools}

-- these values are these words, which have one width
abbrev pub AreWords : Value → Value → ℕ × ℕ → ℕ × ℕ → Type 0
AreWords a b x y = (a ≡ value.Word x) × (b ≡ value.Word y) × (x.0 ≡ y.0)

-- they aren't words of one width: no operation on such words has a value
abbrev pub NoWords : Value → Value → Type 0
NoWords a b = ((f : ℕ → ℕ → ℕ → ℕ) → on_words f a b ≡ nothing) × ((f : ℕ → ℕ → ℕ → Bool) → test_words f a b ≡ nothing)

-- these values are these bools
abbrev pub AreBools : Value → Value → Bool → Bool → Type 0
AreBools a b x y = (a ≡ value.Bool x) × (b ≡ value.Bool y)

-- they aren't bools: no operation on bools has a value
abbrev pub NoBools : Value → Value → Type 0
NoBools a b = (f : Bool → Bool → Bool) → on_bools f a b ≡ nothing
