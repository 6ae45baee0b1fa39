-- The command line as `clap` reads it: a program with subcommands, of which one is wanted. Each is given by the records in which
-- `clap` states what it does with a list of words.
use Rattle.std.specs.Prelude.{◌≡◌, true, false, codes, Some, pos, [], ◌∷◌}
use Rattle.clap.specs.Walk.{Rule, Text}
use Rattle.clap.specs.declared.builder.Command.{Command}
use Rattle.clap.specs.declared.builder.Command.TheViews.{out-Command as fields_of}
use Rattle.clap.specs.Simple.{App, app_of, on_top, new_app, new_rule, with_rule, with_subcommand}
use Rattle.clap.specs.declared.builder.action.ArgAction.TheVariants.{SetTrue}
use Rattle.clap.specs.declared.builder.value_parser.ValueParser.TheVariants.{Signed}

-- ---- the arguments

-- `--budget N`, N from 0 to 10,000,000
abbrev pub budget_option : Rule
budget_option = record (new_rule (codes "budget")) { long = Some (codes "budget"); parser = Some (Signed (pos 0) (pos 10000000)) }

-- the same, with 200,000 where it isn't given
abbrev pub usual_budget_option : Rule
usual_budget_option = record budget_option { defaults = codes "200000" ∷ [] }

-- `--lines`, true where it is given
abbrev pub lines_flag : Rule
lines_flag = record (new_rule (codes "lines")) { long = Some (codes "lines"); action = Some SetTrue }

-- `--assumed`, true where it is given
abbrev pub assumed_flag : Rule
assumed_flag = record (new_rule (codes "assumed")) { long = Some (codes "assumed"); action = Some SetTrue }

-- a word that is wanted
abbrev pub wanted_rule : Text → Rule
wanted_rule id = record (new_rule id) { required = true }

-- ---- the subcommands

abbrev pub check_line : App
check_line = with_rule (with_rule (with_rule (new_app (codes "check")) usual_budget_option) lines_flag) assumed_flag

abbrev pub conditions_line : App
conditions_line = with_rule (with_rule (with_rule (new_app (codes "conditions")) usual_budget_option) lines_flag) assumed_flag

abbrev pub run_line : App
run_line = with_rule (with_rule (new_app (codes "run")) (wanted_rule (codes "end"))) lines_flag

abbrev pub prove_line : App
prove_line = with_rule (with_rule (with_rule (new_app (codes "prove")) usual_budget_option) lines_flag) assumed_flag

-- ---- the whole

-- the value is this command line, and no option of it is one of its subcommands too
abbrev pub IsLine : App → Command → Type 0
IsLine app command = (app_of command ≡ app) × ((fields_of command).has_globals ≡ false)

abbrev pub with_line : App → App → App
with_line whole part = with_subcommand whole part.top

-- the commands over the text of a program
abbrev pub text_lines : App
text_lines = with_line (with_line (new_app (codes "civl_explain")) check_line) conditions_line

-- these, and those over a script and an outline
abbrev pub all_lines : App
all_lines = with_line (with_line text_lines run_line) prove_line

-- the words after the program's name are read, and one of the subcommands is wanted
abbrev pub command_line : App
command_line = on_top (λ s. record s { subcommand_required = true }) (on_top (λ s. record s { no_binary_name = true }) all_lines)
