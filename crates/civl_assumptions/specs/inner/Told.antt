-- The same lines, said of the program alone and of whether old `done` is true.
use Rattle.std.specs.Prelude.{ℕ, ◌+◌, ◌-◌, Bool, nat_eq, nat_lt, if◌then◌else◌, List, [], ◌∷◌, ◌++◌, length, codes, Option, None, Some}
use Rattle.std.specs.Option.{option_map_or}
use Rattle.civl_bits.specs.declared.value.Value.{Value}
use Rattle.civl_tree.specs.declared.action.Action.{Action}
use Rattle.civl_tree.specs.declared.program.Invariant.{Invariant as Declared}
use Rattle.civl_tree.specs.declared.program.Proc.{Proc}
use Rattle.civl_tree.specs.declared.program.Program.{Program}
use Rattle.civl_tree.specs.Numbering.{init_item, invariant_item, action_item, proc_item}
use Rattle.civl_layers.specs.declared.cut.Cut.{Cut}
use Rattle.civl_conditions.specs.declared.condition.Condition.{Condition}
use Rattle.civl_conditions.specs.declared.condition.Condition.TheVariants.{Start, Keep, Pair, Fire, Path, Block, Act}
use Rattle.civl_conditions.specs.declared.condition.Target.{Target}
use Rattle.civl_conditions.specs.declared.condition.Target.TheVariants as target
use Rattle.civl_conditions.specs.footprints.Agreement.{exists_at}
use Rattle.civl_conditions.specs.paths.Ends.{is_entry}
use Rattle.civl_conditions.specs.paths.Seen.{exists_near}
use Rattle.civl_conditions.specs.Steps.{each_at, of_action, of_cut}
use Rattle.civl_conditions.specs.Values.{begun}
use Rattle.civl_lines.specs.declared.line.Line.{Line}
use Rattle.civl_assumptions.specs.Names.{at_start, of_globals, of_params, of_target}
use Rattle.civl_assumptions.specs.Assumptions.{names_at, refined_number}
use Rattle.civl_assumptions.specs.Lines.{apart_line, cut_line, gate_lines, item_line}

-- ---- pieces

abbrev pub invariant_lines : Program → ℕ → ℕ → Declared → List Line
invariant_lines program step place i = if nat_eq i.step step then item_line program (invariant_item program place) ∷ [] else []

abbrev pub step_lines : Program → ℕ → List Line
step_lines program step = each_at (invariant_lines program step) 0 program.invariants

abbrev pub apart_lines : Program → ℕ → ℕ → List (List ℕ) → List Line
apart_lines program item words names = if nat_lt (length names) 2 then [] else apart_line program item words names ∷ []

abbrev pub said_lines : Program → ℕ → List ℕ → Cut → List Line
said_lines program q text cut = if is_entry cut.kind then [] else cut_line program q cut text ∷ []

abbrev pub refined_lines : Program → Proc → Bool → List Line
refined_lines program proc old_done = if old_done then [] else gate_lines program (refined_number program proc) (codes "is assumed")

abbrev pub target_lines : Program → Target → List Line
target_lines program (target.Invariant i) = []
target_lines program (target.Yield r y) = of_cut program r y [] (λ proc cut. said_lines program r (codes "is assumed of another thread") cut)

-- ---- actions

abbrev pub keep_names : Program → ℕ → Action → List (List ℕ)
keep_names program step a = of_globals (exists_at (step - 1)) program.globals ++ of_params (codes "X.") a.params

abbrev pub keep_lines : Program → ℕ → ℕ → Action → List Line
keep_lines program step m a =
    apart_lines program (action_item program m) 2 (keep_names program step a) ++ gate_lines program m (codes "is assumed")

abbrev pub pair_names : Program → ℕ → Action → Action → List (List ℕ)
pair_names program step a b =
    of_globals (exists_at (step - 1)) program.globals ++ (of_params (codes "X.") a.params ++ of_params (codes "Y.") b.params)

-- of the second action of a pair
abbrev pub second_text : ℕ → List ℕ
second_text number = if nat_eq number 7 then codes "is assumed to be false" else codes "is assumed"

abbrev pub pair_lines : Program → ℕ → ℕ → ℕ → ℕ → Action → Action → List Line
pair_lines program number step m n a b =
    gate_lines program m (codes "is assumed")
    ++ (gate_lines program n (second_text number) ++ apart_lines program (action_item program m) 2 (pair_names program step a b))

abbrev pub act_names : Program → ℕ → Target → Action → List (List ℕ)
act_names program step target a =
    of_globals (exists_near step) program.globals ++ (of_params (codes "X.") a.params ++ of_target program target)

abbrev pub act_lines : Program → ℕ → ℕ → Target → Action → List Line
act_lines program step m target a =
    step_lines program step
    ++ (gate_lines program m (codes "is assumed")
    ++ (apart_lines program (action_item program m) 2 (act_names program step target a) ++ target_lines program target))

-- ---- cuts

abbrev pub facts_lines : Program → ℕ → ℕ → Proc → Cut → Bool → List Line
facts_lines program step q proc cut old_done =
    step_lines program step ++ (said_lines program q (codes "is assumed") cut ++ refined_lines program proc old_done)

-- of a condition that may have a target
abbrev pub cut_names : Program → ℕ → ℕ → Option Target → Proc → List (List ℕ)
cut_names program step c target proc = names_at program step proc c ++ option_map_or (of_target program) target []

abbrev pub cut_lines : Program → ℕ → ℕ → ℕ → Option Target → List Value → Proc → Cut → List Line
cut_lines program step q c target values proc cut =
    facts_lines program step q proc cut (begun program step proc cut values).old_done
    ++ (apart_lines program (proc_item program q) 2 (cut_names program step c target proc) ++ option_map_or (target_lines program) target [])

-- ---- all

unfoldable pub told_lines : Program → Condition → List Value → List Line
told_lines program (Start step i) values = item_line program (init_item program) ∷ apart_lines program (init_item program) 1 (at_start program)
told_lines program (Keep step m) values = of_action program m [] (keep_lines program step m)
told_lines program (Pair number step m n) values =
    of_action program m [] (λ a. of_action program n [] (pair_lines program number step m n a))
told_lines program (Fire step m) values = of_action program m [] (λ a. gate_lines program m (codes "is assumed"))
told_lines program (Path part step q c) values =
    of_cut program q c [] (cut_lines program step q c None values)
told_lines program (Block step q c target) values =
    of_cut program q c [] (cut_lines program step q c (Some target) values)
told_lines program (Act step m target) values = of_action program m [] (act_lines program step m target)
