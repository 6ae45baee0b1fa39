-- Part of the claim: docs/CLAIM.md.
-- E20, Width: the width of a word or a cell, or the value of a literal, that is out of range; a linear declaration that
-- isn't a word of its width.
use Rattle.std.specs.Prelude.{◌^◌, Bool, true, false, not, ◌&&◌, ◌||◌, List, ◌++◌}
use Rattle.std.specs.List.{list_any}
use Rattle.civl_tree.specs.declared.expr.Sort.{Sort}
use Rattle.civl_tree.specs.declared.expr.Sort.TheVariants.{Bool as Truth, Word, Row}
use Rattle.civl_tree.specs.declared.action.Mode.{Mode}
use Rattle.civl_tree.specs.declared.action.Mode.TheVariants.{Val, Lend, Take, Give}
use Rattle.civl_tree.specs.declared.action.Param.{Param}
use Rattle.civl_tree.specs.declared.action.Choice.{Choice}
use Rattle.civl_tree.specs.declared.action.Action.{Action}
use Rattle.civl_tree.specs.declared.program.Global.{Global}
use Rattle.civl_tree.specs.declared.program.Local.{Local}
use Rattle.civl_tree.specs.declared.program.Proc.{Proc}
use Rattle.civl_tree.specs.declared.program.Program.{Program}
use Rattle.civl_tree.specs.rules.Sorts.{same_sort}
use Rattle.civl_tree.specs.rules.Exprs.{is_width, widths_fit}
use Rattle.civl_tree.specs.rules.Uses.{Use, action_uses, with_uses}

-- the width of a word is 1 to 32, and so is that of a row's cells
abbrev pub sort_width_fits : Sort → Bool
sort_width_fits Truth = true
sort_width_fits (Word width) = is_width width
sort_width_fits (Row index width) = is_width width

-- a width, literal or range of one of these expressions doesn't fit
abbrev pub any_width : List Use → Bool
any_width uses = list_any (λ use_of. not (widths_fit use_of.scope use_of.expression)) uses

-- a linear global isn't a word with one bit for each permission
abbrev pub global_width : Program → Global → Bool
global_width program global = not (sort_width_fits global.sort) || (global.linear && not (same_sort global.sort (Word (2 ^ program.permissions))))

-- it is passed as a linear value
abbrev pub is_linear : Mode → Bool
is_linear Val = false
is_linear Lend = true
is_linear Take = true
is_linear Give = true

-- a declared name whose sort has no width that fits, or that is linear and isn't a word of the permission width
abbrev pub linear_width : Program → Bool → Sort → Bool
linear_width program linear sort = not (sort_width_fits sort) || (linear && not (same_sort sort (Word program.permissions)))

abbrev pub param_width : Program → Param → Bool
param_width program param = linear_width program (is_linear param.mode) param.sort

abbrev pub choice_width : Choice → Bool
choice_width choice = not (sort_width_fits choice.sort)

abbrev pub local_width : Program → Local → Bool
local_width program declared = linear_width program declared.linear declared.sort

abbrev pub action_width : Program → Action → Bool
action_width program action =
    list_any (param_width program) (action.params ++ action.outs) || (list_any choice_width action.choices || any_width (action_uses program action))

abbrev pub proc_width : Program → Proc → Bool
proc_width program proc =
    list_any (param_width program) (proc.params ++ proc.outs) || (list_any (local_width program) proc.locals || any_width (with_uses program proc proc.refines))
