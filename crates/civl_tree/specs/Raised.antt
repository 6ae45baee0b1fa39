-- The version in which a program is printed.
use Rattle.std.specs.Prelude.{ℕ, ◌==◌, if◌then◌else◌}
use Rattle.civl_tree.specs.declared.program.Program.{Program}

-- version 2 in place of version 1; any other version as it is
abbrev pub raised_version : ℕ → ℕ
raised_version version = if version == 1 then 2 else version

-- the program in that version, with nothing else changed
abbrev pub raised : Program → Program
raised program = record program { version = raised_version program.version }
