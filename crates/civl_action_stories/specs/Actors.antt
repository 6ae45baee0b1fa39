-- What a story says of an action: its name with its values, what it leaves, and why its gate or its guard is false (gated atomic
-- actions: Hawblitzel, Petrank, Qadeer, Tasiran, CAV 2015).
use Rattle.std.specs.Prelude.{ℕ, if◌then◌else◌, List, [], ◌∷◌, ◌++◌, Option, option_map, slice_get, codes}
use Rattle.std.specs.Option.{option_map_or}
use Rattle.civl_bits.specs.Value.{same_value}
use Rattle.civl_bits.specs.declared.value.Value.{Value}
use Rattle.civl_tree.specs.declared.name.Name.{Name}
use Rattle.civl_tree.specs.declared.action.Action.{Action}
use Rattle.civl_tree.specs.declared.program.Global.{Global}
use Rattle.civl_tree.specs.declared.program.Program.{Program}
use Rattle.civl_tree.specs.Numbering.{action_item}
use Rattle.civl_tree.specs.rules.Names.{param_names}
use Rattle.civl_firing.specs.declared.store.Store.{Store}
use Rattle.civl_firing.specs.declared.scope.Scope.{Scope}
use Rattle.civl_firing.specs.Scope.{choice_names, gate_values, guard_values}
use Rattle.civl_places.specs.declared.formula.Formula.{Formula}
use Rattle.civl_places.specs.declared.formula.Formula.TheVariants as formula
use Rattle.civl_places.specs.declared.formula.InAction.TheVariants as of_action
use Rattle.civl_places.specs.Starts.{item_start}
use Rattle.civl_places.specs.Formulas.{formula_at}
use Rattle.civl_verdicts.specs.models.Text.{listed}
use Rattle.civl_clashes.specs.declared.violations.Instance.{Instance}
use Rattle.civl_clashes.specs.declared.violations.Effect.{Effect}
use Rattle.civl_lines.specs.declared.line.Kind.{Kind}
use Rattle.civl_lines.specs.declared.line.Kind.TheVariants as kind
use Rattle.civl_lines.specs.declared.line.Shown.TheVariants.{Tokens}
use Rattle.civl_lines.specs.declared.line.Line.{Line}
use Rattle.civl_lines.specs.Pieces.{Naming, as_written, equation, change_text, named_part_lines}

-- ---- actions with their values

-- an action with its values, its number among the actions, and the token at which its item begins
pub record Actor : Type 0 where
  pub number : ℕ
  pub token : ℕ
  pub action : Action
  pub inputs : List Value
  pub chosen : List Value

abbrev pub actor : Program → Instance → Action → Actor
actor program i a = record {
  number = i.action;
  token = item_start program (action_item program i.action);
  action = a;
  inputs = i.inputs;
  chosen = i.chosen;
}

-- the action with its number, if the program has one
abbrev pub actor_of : Program → Instance → Option Actor
actor_of program i = option_map (actor program i) (slice_get program.actions i.action)

-- what is told of it, if so
abbrev pub of_actor : Program → Instance → (Actor → List Line) → List Line
of_actor program i tell = option_map_or tell (actor_of program i) []

-- ---- texts

-- `name = value`, of each of these names
abbrev pub equations : List Name → List Value → List (List ℕ)
equations [] vs = []
equations (n ∷ ns) [] = []
equations (n ∷ ns) (v ∷ vs) = equation n v ∷ equations ns vs

-- ` with `, and the equations joined by `, `
abbrev pub with_text : List (List ℕ) → List ℕ
with_text [] = []
with_text (text ∷ texts) = codes " with " ++ listed (text ∷ texts)

-- `NAME with p = v, ..`: its inputs and its choices
abbrev pub called : Actor → List ℕ
called x =
    x.action.name.bytes
    ++ with_text (equations (param_names x.action.params) x.inputs ++ equations (choice_names x.action.choices) x.chosen)

-- `name: before -> after`, of each of these globals that changes
abbrev pub changes : List Global → List Value → List Value → List (List ℕ)
changes [] vs ws = []
changes (g ∷ gs) [] ws = []
changes (g ∷ gs) (v ∷ vs) [] = []
changes (g ∷ gs) (v ∷ vs) (w ∷ ws) = (if same_value v w then [] else change_text g.name v w ∷ []) ++ changes gs vs ws

-- the texts joined by `, `
abbrev pub or_nothing : List (List ℕ) → List ℕ
or_nothing [] = codes "changes nothing"
or_nothing (text ∷ texts) = listed (text ∷ texts)

-- what an action made of a store: the changed globals and the outputs
abbrev pub effect_text : Program → Actor → Store → Effect → List ℕ
effect_text program x before e =
    or_nothing (changes program.globals before.values e.store.values ++ equations (param_names x.action.outs) e.outs)

-- ---- lines

-- a line at the item that begins at this token, as `action NAME`
abbrev pub at_item : ℕ → Kind → List ℕ → Line
at_item token kind text = record { token = token; shown = Tokens 2; kind = kind; text = text }

-- a word of the order, `NAME with ..` and the effect
abbrev pub makes : List ℕ → Program → Actor → Store → Effect → Line
makes word program x before e = at_item x.token kind.Info (word ++ (called x ++ (codes ": " ++ effect_text program x before e)))

-- the same without the values, where they are told already
abbrev pub remakes : List ℕ → Program → Actor → Store → Effect → Line
remakes word program x before e =
    at_item x.token kind.Info (word ++ (x.action.name.bytes ++ (codes ": " ++ effect_text program x before e)))

-- what goes wrong at an action
abbrev pub goes_wrong : Actor → List ℕ → Line
goes_wrong x text = at_item x.token kind.Error text

-- ---- false formulas

-- why a formula of the program is false in a scope, with its names told so
abbrev pub named_parts_of : Program → Naming → Formula → Scope → List Line
named_parts_of program naming f scope = option_map_or (named_part_lines naming scope) (formula_at program f) []

-- the same with the names as they are
abbrev pub parts_of : Program → Formula → Scope → List Line
parts_of program = named_parts_of program as_written

-- why its gate is false in a store
abbrev pub gate_parts : Program → Actor → Store → List Line
gate_parts program x g = parts_of program (formula.Action x.number of_action.Gate) (gate_values program.globals g x.action x.inputs)

-- why its guard is false in a store
abbrev pub guard_parts : Program → Actor → Store → List Line
guard_parts program x g =
    parts_of program (formula.Action x.number of_action.Guard) (guard_values program.globals g x.action x.inputs x.chosen)
