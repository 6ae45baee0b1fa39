-- Serves private functions: the two parts of a program that are printed by functions of their own, which make the whole
-- spelling. They stay folded in clauses.
use Rattle.std.specs.Prelude.{ℕ, List, [], ◌∷◌, ◌++◌, map, codes}
use Rattle.civl_tree.specs.declared.program.Program.{Program}
use Rattle.civl_tree.specs.Token.{Token, Reserved, Number}
use Rattle.civl_tree.specs.Spelling.{semicolon, joined}
use Rattle.civl_tree.specs.Raised.{raised_version}
use Rattle.civl_tree.specs.SpellingProgram.{spell_global, spell_init, spell_invariant, spell_action, spell_proc, spell_thread}

-- a word of the header, and then number ;
unfoldable pub header_number : List ℕ → ℕ → List Token
header_number word number = Reserved word ∷ Number number ∷ semicolon ∷ []

-- civl number ; layers number ; permissions number ;
unfoldable pub header_of : Program → List Token
header_of program =
    header_number (codes "civl") (raised_version program.version)
    ++ (header_number (codes "layers") program.layers ++ header_number (codes "permissions") program.permissions)

-- global* init invariant* action* proc* thread*
unfoldable pub declarations_of : Program → List Token
declarations_of program =
    joined (map spell_global program.globals)
    ++ (spell_init program.init
    ++ (joined (map spell_invariant program.invariants)
    ++ (joined (map spell_action program.actions)
    ++ (joined (map spell_proc program.procs)
    ++ joined (map spell_thread program.threads)))))
