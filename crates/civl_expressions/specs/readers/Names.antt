-- Serves the parser: readers of names.
use Rattle.std.specs.Prelude.{IsTrue, Option}
use Rattle.civl_tree.specs.Token.{Token}
use Rattle.civl_tree.specs.SpellingDomain.{allows_name}
use Rattle.civl_tree.specs.declared.name.Name.{Name}
use Rattle.civl_phrases.specs.Reader.{Reader, leaf}
use Rattle.civl_phrases.specs.Leaf.{name_of}
use Rattle.civl_phrases.specs.Table.{guarded}

-- the name that this token is, if its bytes are those of a name
abbrev pub proper_name : Token → Option Name
proper_name token = guarded allows_name (name_of token)

unfoldable pub name_at : Reader Name
name_at = leaf proper_name

-- the grammar can write the name
abbrev pub FitsName : Name → Type 0
FitsName name = IsTrue (allows_name name)
