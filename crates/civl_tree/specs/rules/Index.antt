-- E22, Index: a row whose index hasn't 1 to 6 bits.
use Rattle.std.specs.Prelude.{Bool, false, not, ◌||◌, List, ◌++◌}
use Rattle.std.specs.List.{list_any}
use Rattle.civl_tree.specs.declared.expr.Sort.{Sort}
use Rattle.civl_tree.specs.declared.expr.Sort.TheVariants.{Bool as Truth, Word, Row}
use Rattle.civl_tree.specs.declared.action.Action.{Action}
use Rattle.civl_tree.specs.declared.program.Proc.{Proc}
use Rattle.civl_tree.specs.declared.program.Program.{Program}
use Rattle.civl_tree.specs.rules.Exprs.{is_index, indices_fit}
use Rattle.civl_tree.specs.rules.Uses.{Use, action_uses, with_uses}

-- the sort is that of a row whose index is out of range
abbrev pub sort_index : Sort → Bool
sort_index Truth = false
sort_index (Word width) = false
sort_index (Row index width) = not (is_index index)

-- one of these expressions makes a row whose index is out of range
abbrev pub any_index : List Use → Bool
any_index uses = list_any (λ use_of. not (indices_fit use_of.expression)) uses

abbrev pub action_index : Program → Action → Bool
action_index program action =
    list_any (λ param. sort_index param.sort) (action.params ++ action.outs)
    || (list_any (λ choice. sort_index choice.sort) action.choices || any_index (action_uses program action))

abbrev pub proc_index : Program → Proc → Bool
proc_index program proc =
    list_any (λ param. sort_index param.sort) (proc.params ++ proc.outs)
    || (list_any (λ declared. sort_index declared.sort) proc.locals || any_index (with_uses program proc proc.refines))
