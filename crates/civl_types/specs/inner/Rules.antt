-- Serves private functions: the rules as the code names them, and the expressions that break one.
use Rattle.std.specs.Prelude.{Bool, false, not, List, map}
use Rattle.std.specs.List.{list_any}
use Rattle.civl_tree.specs.declared.expr.Sort.{Sort}
use Rattle.civl_tree.specs.declared.program.Proc.{Proc}
use Rattle.civl_tree.specs.declared.program.Program.{Program}
use Rattle.civl_tree.specs.declared.stmt.Stmt.{Stmt}
use Rattle.civl_tree.specs.rules.Arity.{stmt_arity}
use Rattle.civl_tree.specs.rules.Exprs.{widths_fit, indices_fit}
use Rattle.civl_tree.specs.rules.Index.{any_index}
use Rattle.civl_tree.specs.rules.Sorted.{stmt_missorted}
use Rattle.civl_tree.specs.rules.Sorts.{sort_of}
use Rattle.civl_tree.specs.rules.Uses.{Use, Need, AnySort, AnyWord, Only, serves, param_sorts, stmt_uses}
use Rattle.civl_tree.specs.rules.Width.{any_width}
use Rattle.civl_tree.specs.rules.Rules.{Rule}
use Rattle.civl_tree.specs.rules.Typing.{count_rule, width_rule, sort_rule, index_rule, arity_rule, store_size_rule}
use Rattle.civl_types.specs.declared.rule.TypingRule.{TypingRule}
use Rattle.civl_types.specs.declared.rule.TypingRule.TheVariants.{Count, Width, Sorts, Index, Arity, StoreSize}
use Rattle.civl_types.specs.declared.uses.Wanted.{Wanted}
use Rattle.civl_types.specs.declared.uses.Wanted.TheVariants.{Any, Word, Only as Sorted}
use Rattle.civl_types.specs.declared.uses.Slots.{Slots}
use Rattle.civl_types.specs.declared.uses.Slots.TheVariants.{Params, Choices}

-- the rule that is meant
abbrev pub rule_of : TypingRule → Rule
rule_of Count = count_rule
rule_of Width = width_rule
rule_of Sorts = sort_rule
rule_of Index = index_rule
rule_of Arity = arity_rule
rule_of StoreSize = store_size_rule

-- a statement of this procedure breaks it
abbrev pub stmt_breaks : TypingRule → Program → Proc → Stmt → Bool
stmt_breaks Count program proc stmt = false
stmt_breaks Width program proc stmt = any_width (stmt_uses program proc stmt)
stmt_breaks Sorts program proc stmt = stmt_missorted program proc stmt
stmt_breaks Index program proc stmt = any_index (stmt_uses program proc stmt)
stmt_breaks Arity program proc stmt = stmt_arity program stmt
stmt_breaks StoreSize program proc stmt = false

-- what the place of an expression needs
abbrev pub need_for : Wanted → Need
need_for Any = AnySort
need_for Word = AnyWord
need_for (Sorted sort) = Only sort

-- the sorts of the places for arguments
abbrev pub sorts_at : Slots → List Sort
sorts_at (Params params) = param_sorts params.now
sorts_at (Choices choices) = map (λ choice. choice.sort) choices.now

-- an expression breaks the rule
abbrev pub use_breaks : TypingRule → Use → Bool
use_breaks Count use_of = false
use_breaks Width use_of = not (widths_fit use_of.scope use_of.expression)
use_breaks Sorts use_of = not (serves (sort_of use_of.scope use_of.expression) use_of.need)
use_breaks Index use_of = not (indices_fit use_of.expression)
use_breaks Arity use_of = false
use_breaks StoreSize use_of = false

-- one of these expressions breaks the rule
abbrev pub any_use : TypingRule → List Use → Bool
any_use rule uses = list_any (use_breaks rule) uses
