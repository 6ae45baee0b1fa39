-- Serves private functions: the layers of which an expression speaks, as the code hands them on.
use Rattle.std.specs.Prelude.{Bool}
use Rattle.civl_tree.specs.declared.name.Name.{Name}
use Rattle.civl_layers.specs.declared.span.Span.{Span}
use Rattle.civl_layers.specs.declared.span.Span.TheVariants.{Through, Around}
use Rattle.civl_layers.specs.Hidden.{hidden_in_action, hidden_at_step}

-- the name is that of a global which may not be used there
abbrev pub hidden_by : Span → Name → Bool
hidden_by (Through program action) = hidden_in_action program.now action.now
hidden_by (Around program step) = hidden_at_step program.now step
