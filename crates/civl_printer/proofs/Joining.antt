-- The parts that are printed make the whole spelling.
use Rattle.std.proofs.Common.{◌≡◌, ◌++◌, refl}
use Rattle.civl_tree.specs.declared.program.Program.{Program}
use Rattle.civl_tree.specs.SpellingProgram.{spell_program}
use Rattle.civl_tree.specs.Raised.{raised}
use Rattle.civl_printer.specs.inner.Parts.{header_number, header_of, declarations_of}

pub program_tokens : (program : Program) → header_of program ++ declarations_of program ≡ spell_program (raised program)
unfolding header_number header_of declarations_of
program_tokens program = refl
