-- The plain programs on which a schedule is replayed, in the clauses of private functions.
use Rattle.civl_tree.specs.declared.program.Program.{Program}
use Rattle.civl_meaning.specs.declared.config.Plain.{Plain}
use Rattle.civl_meaning.specs.Layers.{lowest, topmost}
use Rattle.civl_command.specs.declared.replay.End.{End}
use Rattle.civl_command.specs.declared.replay.End.TheVariants.{Low, Top}

abbrev pub plain_for : End → Program → Plain
plain_for Low program = lowest program
plain_for Top program = topmost program
