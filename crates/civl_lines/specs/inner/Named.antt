-- How names are told, as the code has it.
use Rattle.civl_tree.specs.rules.Names.{global_names}
use Rattle.civl_lines.specs.declared.naming.Naming.{Naming}
use Rattle.civl_lines.specs.Pieces.{Naming as Told}

abbrev pub told : Naming → Told
told naming = record { plain = global_names naming.globals.now; front = naming.front.now }
