-- Short words for the examples: names, and tokens by their texts.
use Rattle.std.specs.Prelude.{codes}
use Prim.Native.String.{String}
use Rattle.civl_tree.specs.declared.name.Name.{Name}
use Rattle.civl_tree.specs.Token.{Token, Named, Reserved, Sign}

-- the name that this text spells
abbrev pub named : String → Name
named text = record { bytes = codes text }

-- the token of a name, a reserved word or a sign
abbrev pub name : String → Token
name text = Named (codes text)

abbrev pub word : String → Token
word text = Reserved (codes text)

abbrev pub sign : String → Token
sign text = Sign (codes text)
