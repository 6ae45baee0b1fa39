-- What stories say of values and of false formulas. (Of a failed assertion Dafny and Boogie name the conjunct that may fail, with the
-- model's values of its names.)
use Rattle.std.specs.Prelude.{ℕ, ◌+◌, if◌then◌else◌, List, [], ◌++◌, length, map, codes}
use Rattle.std.specs.List.{flat_map}
use Rattle.civl_bits.specs.declared.value.Value.{Value}
use Rattle.civl_tree.specs.declared.name.Name.{Name}
use Rattle.civl_tree.specs.declared.program.Global.{Global}
use Rattle.civl_tree.specs.Spelling.{spell_expr}
use Rattle.civl_tree.specs.rules.Names.{global_names, has_name}
use Rattle.civl_firing.specs.declared.scope.Scope.{Scope}
use Rattle.civl_firing.specs.Eval.{look}
use Rattle.civl_reasons.specs.Reads.{ReadName, read_names}
use Rattle.civl_reasons.specs.Reasons.{Subformula, false_parts}
use Rattle.civl_verdicts.specs.models.Text.{value_text}
use Rattle.civl_lines.specs.declared.line.Kind.TheVariants as kind
use Rattle.civl_lines.specs.declared.line.Shown.TheVariants.{Tokens}
use Rattle.civl_lines.specs.declared.line.Line.{Line}

-- `name = value`
abbrev pub equation : Name → Value → List ℕ
equation name value = name.bytes ++ (codes " = " ++ value_text value)

-- `name: before -> after`
abbrev pub change_text : Name → Value → Value → List ℕ
change_text name before after = name.bytes ++ (codes ": " ++ (value_text before ++ (codes " -> " ++ value_text after)))

-- ---- how names are told

-- these names as they are, and all others with a front
pub record Naming : Type 0 where
  pub plain : List Name
  pub front : List ℕ

-- each name as it stands in the text
abbrev pub as_written : Naming
as_written = record { plain = []; front = [] }

-- the names of another thread as a report has them: its parameters, outputs and locals with `other.`, and the globals as they are
abbrev pub of_other : List Global → Naming
of_other globals = record { plain = global_names globals; front = codes "other." }

abbrev pub name_text : Naming → Name → List ℕ
name_text naming name = if has_name naming.plain name then name.bytes else naming.front ++ name.bytes

-- ---- a formula that is false

-- `, name = value`, or `, old(name) = value`
abbrev pub read_text : Naming → Scope → ReadName → List ℕ
read_text naming scope r =
    if r.is_old
    then codes ", old(" ++ (name_text naming r.name ++ (codes ") = " ++ value_text (look scope.names scope.old r.name)))
    else codes ", " ++ (name_text naming r.name ++ (codes " = " ++ value_text (look scope.names scope.values r.name)))

abbrev pub reads_text : Naming → Scope → List ReadName → List ℕ
reads_text naming scope rs = flat_map (read_text naming scope) rs

-- a part of a formula that begins at this token: that it is false, and the values of the names that it reads
abbrev pub part_line : Naming → Scope → ℕ → Subformula → Line
part_line naming scope token part = record {
  token = token + part.token;
  shown = Tokens (length (spell_expr part.expr));
  kind = kind.Info;
  text = codes "is false" ++ reads_text naming scope (read_names part.expr);
}

-- the innermost false parts of a formula, which begins at its token
abbrev pub named_part_lines : Naming → Scope → Subformula → List Line
named_part_lines naming scope formula = map (part_line naming scope formula.token) (false_parts scope formula.expr)

abbrev pub part_lines : Scope → Subformula → List Line
part_lines = named_part_lines as_written
