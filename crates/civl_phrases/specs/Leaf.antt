-- The phrases of one token that has a value of its own.
use Rattle.std.specs.Prelude.{ℕ, Bool, true, false, Option, Some, None}
use Rattle.civl_tree.specs.Token.{Token, Named, Number}
use Rattle.civl_tree.specs.declared.name.Name.{Name}
use Rattle.civl_phrases.specs.Reader.{Reader, leaf}

abbrev pub name_of : Token → Option Name
name_of (Named bytes) = Some (record { bytes = bytes })
name_of _ = None

-- a name is next
abbrev pub is_named : Option Token → Bool
is_named (Some (Named bytes)) = true
is_named _ = false

abbrev pub number_of : Token → Option ℕ
number_of (Number value) = Some value
number_of _ = None

unfoldable pub a_name : Reader Name
a_name = leaf name_of

unfoldable pub a_number : Reader ℕ
a_number = leaf number_of
