-- What `parse_outline` answers. An outline is read from tokens where they are its spelling; the faults have their places
-- among the tokens. At most 64 brackets may be open at once.
use Rattle.std.specs.Prelude.{◌≡◌, List, Result}
use Rattle.civl_tree.specs.Token.{Token}
use Rattle.civl_parser.specs.declared.fault.ParseFault.{ParseFault}
use Rattle.civl_parser.specs.Parsing.{IsParsedAs, IsParsedOnlyAs}
use Rattle.civl_outlines.specs.declared.outline.Outline.{Outline}
use Rattle.civl_outlines.specs.SpellingOutline.{spell_outline, OutlineHasSpelling}

-- what the answer says of the tokens
abbrev pub OutlineParses : List Token → Result Outline ParseFault → Type 0
OutlineParses tokens result = IsParsedAs spell_outline OutlineHasSpelling tokens result

-- whatever is right of the tokens is what was answered, but for want of memory
abbrev pub OutlineIsOnly : List Token → Result Outline ParseFault → Type 0
OutlineIsOnly tokens result = IsParsedOnlyAs spell_outline OutlineHasSpelling tokens result

-- No two outlines have one spelling.
abbrev pub OneOutlineSpelling : Type 0
OneOutlineSpelling = (a b : Outline) → OutlineHasSpelling a → OutlineHasSpelling b → spell_outline a ≡ spell_outline b → a ≡ b
