-- A line with tabs and a carriage return at its end, with a caret under a place in it.
use Rattle.std.specs.Prelude.{◌≡◌, ℕ, List, ◌∷◌, ◌++◌, codes}
use Rattle.civl_refusals.specs.Refusals.{caret_text}

-- a tab, a statement, and a carriage return before the line feed
abbrev pub tabbed : List ℕ
tabbed = codes "a;\n" ++ (9 ∷ codes "f := x;" ++ (13 ∷ codes "\n"))

-- under the `x`
abbrev pub CaretExamples : Type 0
CaretExamples =
    caret_text tabbed 9 ≡ codes "    " ++ (9 ∷ codes "f := x;\n    " ++ (9 ∷ codes "     ^\n"))
