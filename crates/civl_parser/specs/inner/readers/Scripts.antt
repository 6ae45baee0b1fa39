-- Serves private functions: readers of scripts. The number d says how many more brackets may be open.
use Rattle.std.specs.Prelude.{ℕ, List, codes}
use Rattle.civl_tree.specs.Token.{Reserved}
use Rattle.civl_tree.specs.declared.program.Program.{Program}
use Rattle.civl_tree.specs.declared.script.Entry.{Entry}
use Rattle.civl_tree.specs.declared.script.Told.{Told}
use Rattle.civl_tree.specs.declared.script.Script.{Script}
use Rattle.civl_phrases.specs.Reader.{Reader, begins, after, both, mapped, ended}
use Rattle.civl_phrases.specs.List.{repeated}
use Rattle.civl_phrases.specs.Leaf.{is_named}
use Rattle.civl_parser.specs.declared.script.Schedule.{Schedule}
use Rattle.civl_parser.specs.readers.Programs.{program_at}
use Rattle.civl_declarations.specs.readers.Steps.{entry_at, move_word, step_at}

abbrev pub make_schedule : List Entry × (List Told × Unit {0}) → Schedule
make_schedule p = record { store = p.0; moves = p.1.0 }

-- schedule entry* step*, and nothing else
unfoldable pub schedule_at : ℕ → Reader Schedule
schedule_at d = mapped make_schedule (after (Reserved (codes "schedule")) (both (repeated is_named (entry_at d)) (λ _. both (repeated (begins move_word) (step_at d)) (λ _. ended))))

abbrev pub make_script : Program × Schedule → Script
make_script p = record { program = p.0; store = p.1.store; moves = p.1.moves }

unfoldable pub script_text_at : ℕ → Reader Script
script_text_at d = mapped make_script (both (program_at d) (λ _. schedule_at d))
