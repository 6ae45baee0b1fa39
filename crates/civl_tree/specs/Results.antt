-- Results side by side.
use Rattle.std.specs.Prelude.{Result, Ok, Err}

-- two values where both are there, else the first error
abbrev pub both_of : {A B E : Type 0} → Result A E → Result B E → Result (A × B) E
both_of (Ok first) (Ok second) = Ok (first, second)
both_of (Ok first) (Err error) = Err error
both_of (Err error) second = Err error

-- three values where all are there, else the first error
abbrev pub three_of : {A B C E : Type 0} → Result A E → Result B E → Result C E → Result (A × B × C) E
three_of (Ok first) (Ok second) (Ok third) = Ok (first, second, third)
three_of (Ok first) (Ok second) (Err error) = Err error
three_of (Ok first) (Err error) third = Err error
three_of (Err error) second third = Err error

-- a value that is there beside one that is to be made, or its error
abbrev pub beside_of : {A B E : Type 0} → A → Result B E → Result (A × B) E
beside_of held (Ok next) = Ok (held, next)
beside_of held (Err error) = Err error
