-- The lines that tell what a condition assumes with values.
use Rattle.std.specs.Prelude.{ℕ, List, [], ◌∷◌, ◌++◌, length, codes, unwrap_or}
use Rattle.std.specs.List.{flat_map}
use Rattle.std.specs.Option.{option_map_or}
use Rattle.civl_bits.specs.declared.value.Value.{Value}
use Rattle.civl_tree.specs.declared.program.Program.{Program}
use Rattle.civl_tree.specs.Numbering.{init_item, invariant_item}
use Rattle.civl_tree.specs.Spelling.{spell_expr}
use Rattle.civl_layers.specs.declared.cut.Cut.{Cut}
use Rattle.civl_conditions.specs.declared.condition.Condition.{Condition}
use Rattle.civl_places.specs.declared.formula.Formula.TheVariants as formula
use Rattle.civl_places.specs.declared.formula.InAction.TheVariants as in_action
use Rattle.civl_places.specs.Formulas.{formula_at}
use Rattle.civl_places.specs.Starts.{item_start, statement_start}
use Rattle.civl_verdicts.specs.models.Text.{listed}
use Rattle.civl_lines.specs.declared.line.Shown.TheVariants.{Head, Tokens}
use Rattle.civl_lines.specs.declared.line.Line.{Line}
use Rattle.civl_path_stories.specs.Paths.{info}
use Rattle.civl_assumptions.specs.Assumptions.{Assumption, Init, Invariant, Said, SaidElsewhere, Gate, NoGate, Apart, assumptions}

-- at a declaration, of which what stands before its first `;` is shown
abbrev pub item_line : Program → ℕ → Line
item_line program item = info (item_start program item) Head (codes "is assumed")

-- at the statement of a cut, of which its head is shown
abbrev pub cut_line : Program → ℕ → Cut → List ℕ → Line
cut_line program q cut text = info (unwrap_or (statement_start program q cut.statement) 0) Head text

-- at the gate of an action, which is shown; none of an action that isn't there
abbrev pub gate_lines : Program → ℕ → List ℕ → List Line
gate_lines program m text =
    option_map_or (λ part. info part.token (Tokens (length (spell_expr part.expr))) text ∷ [])
    (formula_at program (formula.Action m in_action.Gate)) []

-- at the first words of a declaration, with the names
abbrev pub apart_line : Program → ℕ → ℕ → List (List ℕ) → Line
apart_line program item words names =
    info (item_start program item) (Tokens words) (codes "is assumed: no permission is carried twice by " ++ listed names)

-- the line of one thing that is assumed
abbrev pub lines_of : Program → Assumption → List Line
lines_of program (Init g) = item_line program (init_item program) ∷ []
lines_of program (Invariant place g) = item_line program (invariant_item program place) ∷ []
lines_of program (Said q cut scope) = cut_line program q cut (codes "is assumed") ∷ []
lines_of program (SaidElsewhere r cut scope) = cut_line program r cut (codes "is assumed of another thread") ∷ []
lines_of program (Gate m g inputs) = gate_lines program m (codes "is assumed")
lines_of program (NoGate m g inputs) = gate_lines program m (codes "is assumed to be false")
lines_of program (Apart item words names lists) = apart_line program item words names ∷ []

-- those of all that a condition assumes with these values
unfoldable pub assumed_lines : Program → Condition → List Value → List Line
assumed_lines program condition values = flat_map (lines_of program) (assumptions program condition values)
