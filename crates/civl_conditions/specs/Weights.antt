-- The weights of the formulas of conditions: the sizes of their circuits, counted in advance.
use Rattle.std.specs.Prelude.{ℕ, ◌+◌, ◌-◌, ◌*◌, ◌/◌, ◌^◌, nat_lt, if◌then◌else◌, List, [], ◌∷◌, ◌++◌, map, filter, length, flat_map, slice_get, Option, None, Some}
use Rattle.std.specs.Option.{option_map_or}
use Rattle.std.specs.List.{find}
use Rattle.civl_tree.specs.declared.name.Name.{Name}
use Rattle.civl_tree.specs.declared.expr.Expr.{Expr}
use Rattle.civl_tree.specs.declared.stmt.Stmt.{Stmt, out-Stmt}
use Rattle.civl_tree.specs.declared.stmt.Stmt.TheOpen as stmt
use Rattle.civl_tree.specs.declared.action.Param.{Param}
use Rattle.civl_tree.specs.declared.action.Action.{Action}
use Rattle.civl_tree.specs.declared.program.Proc.{Proc}
use Rattle.civl_tree.specs.declared.program.Program.{Program}
use Rattle.civl_tree.specs.declared.program.Thread.{Thread}
use Rattle.civl_tree.specs.Numbering.{inner_of}
use Rattle.civl_tree.specs.rules.Names.{has_name}
use Rattle.civl_tree.specs.rules.Scopes.{Binding, global_scope, body_scope, note_scope, bind_globals, bind_params, bind_locals}
use Rattle.civl_tree.specs.rules.Sorts.{sort_of}
use Rattle.civl_tree.specs.rules.StoreSize.{bits_of}
use Rattle.civl_firing.specs.values.Weights.{bits_in, weight_of}
use Rattle.civl_firing.specs.values.ActionWeights.{gate_weight, guard_weight, updates_weight, offers_weight, action_weight}
use Rattle.civl_meaning.specs.declared.config.Plain.{Plain}
use Rattle.civl_meaning.specs.Meaning.{called, proc_number}
use Rattle.civl_meaning.specs.Layers.{program_at}
use Rattle.civl_tree.specs.rules.Width.{is_linear}
use Rattle.civl_linear.specs.Modes.{is_lent, is_given}
use Rattle.civl_layers.specs.declared.cut.Cut.{Cut}
use Rattle.civl_layers.specs.Cuts.{proc_cuts}
use Rattle.civl_conditions.specs.paths.Flows.{flow_from}
use Rattle.civl_conditions.specs.paths.Ends.{ends_block, ends_from}
use Rattle.civl_conditions.specs.footprints.Agreement.{exists_at}
use Rattle.civl_conditions.specs.paths.Choices.{action_meant}
use Rattle.civl_conditions.specs.declared.condition.Variable.{Variable}
use Rattle.civl_conditions.specs.declared.condition.Condition.{Condition}
use Rattle.civl_conditions.specs.declared.condition.Condition.TheVariants.{Start, Keep, Pair, Fire, Path, Block, Act}
use Rattle.civl_conditions.specs.declared.condition.Part.{Part}
use Rattle.civl_conditions.specs.declared.condition.Part.TheVariants.{Gate, Invariant, Once, Stutter, Perform, Rank}
use Rattle.civl_conditions.specs.declared.condition.Target.{Target}
use Rattle.civl_conditions.specs.declared.condition.Target.TheVariants as target
use Rattle.civl_conditions.specs.Steps.{step_invariants, of_action, of_proc, of_cut}
use Rattle.civl_conditions.specs.Listed.{conditions}
use Rattle.civl_conditions.specs.Variables.{variables, of_globals}
use Rattle.civl_conditions.specs.Permissions.{held_at}
use Rattle.civl_conditions.specs.Invariants.{invariant_at}
use Rattle.civl_conditions.specs.Assumed.{refined_action, cut_invariant, cut_rank, with_of}

abbrev pub summed : List ℕ → ℕ
summed [] = 0
summed (n ∷ ns) = n + summed ns

-- the most that a formula may weigh
abbrev pub weight_limit : ℕ
weight_limit = 400000

-- so many linear items, which are pairwise disjoint
abbrev pub lin : Program → ℕ → ℕ
lin program n = n * (program.permissions + 1) * 2 ^ program.permissions + (n * (n - 1) / 2) * 2 ^ program.permissions

abbrev pub bits_of_variables : List Variable → ℕ
bits_of_variables vs = summed (map (λ v. bits_of v.sort) vs)

abbrev pub weights_of : (Expr → ℕ) → List Expr → ℕ
weights_of weight es = summed (map weight es)

abbrev pub global_weight : Program → Expr → ℕ
global_weight program = weight_of (global_scope program)

abbrev pub body_weight : Program → Proc → Expr → ℕ
body_weight program proc = weight_of (body_scope program proc)

abbrev pub note_weight : Program → Proc → Expr → ℕ
note_weight program proc = weight_of (note_scope program proc)

abbrev pub maybe_weight : (Expr → ℕ) → Option Expr → ℕ
maybe_weight weight e = option_map_or weight e 0

-- ---- actions

abbrev pub outs_bits : List Param → ℕ
outs_bits outs = summed (map (λ p. bits_of p.sort) outs)

abbrev pub globals_bits : Program → ℕ → ℕ
globals_bits program layer = bits_of_variables (of_globals [] (filter (exists_at layer) program.globals))

abbrev pub linear_globals : Program → ℕ
linear_globals program = length (filter (λ g. g.linear) program.globals)

abbrev pub linear_inputs : List Param → ℕ
linear_inputs params = length (filter (λ p. is_linear p.mode) params)

-- the linear inputs of the procedure that a thread calls
abbrev pub thread_items : Program → Thread → ℕ
thread_items program t = of_proc program (proc_number program t.callee) 0 (λ p. linear_inputs p.params)

-- ---- statements

-- what a statement may write: names, and the globals that its call may update
abbrev pub layer_written : Plain → stmt.Stmt-F Stmt → List Name
layer_written plain (stmt.Assign x e) = x ∷ []
layer_written plain (stmt.Intro x e) = x ∷ []
layer_written plain (stmt.Call f es rs) = rs ++ option_map_or (λ a. filter (has_name (map (λ g. g.name) plain.program.globals)) (map (λ u. u.target) a.updates)) (action_meant (called plain f)) []
layer_written plain _ = []

abbrev pub written_in : Plain → Stmt → List Name
written_in plain s = flat_map (λ t. layer_written plain (out-Stmt t)) (inner_of s)

-- the bits of those of these names that are written
abbrev pub written_bits : List Name → List Binding → ℕ
written_bits names bindings = summed (map (λ b. bits_in (Some b.sort)) (filter (λ b. has_name names b.name) bindings))

-- the two states behind an `if` are joined: the globals, outputs and locals that a statement in its branches may write
abbrev pub join_weight : Plain → Proc → Stmt → ℕ
join_weight plain proc s =
    written_bits (written_in plain s) (bind_globals plain.program.globals) + written_bits (written_in plain s) (bind_params proc.outs ++ bind_locals proc.locals) + 1

-- a statement that is passed: its own expressions, and 1; and 2 more and the join of an `if`
abbrev pub layer_weight : Plain → Proc → Stmt → stmt.Stmt-F Stmt → ℕ
layer_weight plain proc s (stmt.Assign x e) = 1 + body_weight plain.program proc e
layer_weight plain proc s (stmt.Assert e) = 1 + body_weight plain.program proc e
layer_weight plain proc s (stmt.If e a b) = 1 + body_weight plain.program proc e + 2 + join_weight plain proc s
layer_weight plain proc s (stmt.While e a) = 1
layer_weight plain proc s (stmt.YieldLoop e i a) = 1 + body_weight plain.program proc e
layer_weight plain proc s (stmt.RankLoop e r i a) = 1 + body_weight plain.program proc e
layer_weight plain proc s (stmt.Call f es rs) = 1 + weights_of (body_weight plain.program proc) es + option_map_or (action_weight plain.program) (action_meant (called plain f)) 0
layer_weight plain proc s (stmt.Yield i) = 1
layer_weight plain proc s stmt.Commit = 1
layer_weight plain proc s (stmt.Intro x e) = 1 + note_weight plain.program proc e
layer_weight plain proc s (stmt.Spawn f es) = 1

-- all statements that some path from a cut passes
abbrev pub passed_weight : Program → ℕ → Proc → Cut → ℕ
passed_weight program step proc cut = summed (map (λ q. layer_weight (program_at program (step - 1)) proc q.1 (out-Stmt q.1)) (flow_from proc cut).passed)

-- ---- paths

-- what is assumed at a cut
abbrev pub base_weight : Program → ℕ → Proc → ℕ → Cut → ℕ
base_weight program step proc c cut =
    weights_of (global_weight program) (step_invariants program step)
    + maybe_weight (note_weight program proc) (cut_invariant proc cut)
    + option_map_or (gate_weight program) (refined_action program proc) 0
    + lin program (length (held_at program proc c) + linear_globals program)

abbrev pub end_invariant : Proc → ℕ → Option Expr
end_invariant proc end = option_map_or (cut_invariant proc) (slice_get (proc_cuts proc) end) None

abbrev pub result_bits : Program → ℕ → Proc → ℕ
result_bits program step proc = globals_bits program step + outs_bits proc.outs

-- the part at one end
abbrev pub part_weight : Program → ℕ → Proc → Cut → Part → ℕ → ℕ
part_weight program step proc cut Gate end = 1
part_weight program step proc cut Invariant end = 1 + maybe_weight (note_weight program proc) (end_invariant proc end)
part_weight program step proc cut Once end = 1
part_weight program step proc cut Stutter end = 1 + result_bits program step proc
part_weight program step proc cut Perform end =
    1 + result_bits program step proc + weights_of (note_weight program proc) (with_of proc.refines)
    + option_map_or (λ a. guard_weight program a + updates_weight program a) (refined_action program proc) 0
part_weight program step proc cut Rank end =
    1 + option_map_or (λ r. 3 * note_weight program proc r + 2 * bits_in (sort_of (note_scope program proc) r)) (cut_rank proc cut) 0

abbrev pub path_weight : Program → ℕ → Part → Proc → ℕ → Cut → ℕ
path_weight program step part proc c cut =
    base_weight program step proc c cut + passed_weight program step proc cut + summed (map (part_weight program step proc cut part) (ends_from proc cut))

abbrev pub target_weight : Program → ℕ → Target → ℕ
target_weight program step (target.Invariant i) = maybe_weight (global_weight program) (invariant_at program step i)
target_weight program step (target.Yield r y) = of_cut program r y 0 (λ proc cut. maybe_weight (note_weight program proc) (cut_invariant proc cut))

-- the items that the frame at the target holds
abbrev pub target_items : Program → Target → ℕ
target_items program (target.Invariant i) = 0
target_items program (target.Yield r y) = of_proc program r 0 (λ proc. length (held_at program proc y))

-- for a yield, the items of both
abbrev pub together : Program → ℕ → Target → ℕ
together program items (target.Invariant i) = 0
together program items (target.Yield r y) = lin program (items + target_items program (target.Yield r y))

abbrev pub block_weight : Program → ℕ → Proc → ℕ → Cut → Target → ℕ
block_weight program step proc c cut target =
    base_weight program step proc c cut + passed_weight program step proc cut
    + length (filter (ends_block proc) (ends_from proc cut)) * (target_weight program step target + 1)
    + target_weight program step target
    + together program (length (held_at program proc c) + linear_globals program) target

-- ---- all

abbrev pub initial_items : Program → ℕ
initial_items program = linear_globals program + summed (map (λ t. of_proc program (proc_number program t.callee) 0 (λ p. linear_inputs p.params)) program.threads)

-- `initial` without its variables
abbrev pub initial_own : Program → ℕ
initial_own program = global_weight program program.init + summed (map (λ t. weights_of (global_weight program) t.args) program.threads) + lin program (initial_items program)

unfoldable pub initial_weight : Program → ℕ
initial_weight program = bits_of_variables (of_globals [] program.globals) + initial_own program

abbrev pub keep_weight : Program → Action → ℕ
keep_weight program a =
    let coming = linear_globals program + linear_inputs a.params in
    let going = linear_globals program + length (filter (λ p. is_lent p.mode) a.params) + length (filter (λ p. is_given p.mode) a.outs) in
    action_weight program a + lin program coming + lin program going + going * 2 ^ program.permissions

abbrev pub pair_weight : Program → ℕ → Action → Action → ℕ
pair_weight program step a b =
    2 * (action_weight program a + action_weight program b) + globals_bits program (step - 1) + outs_bits a.outs + outs_bits b.outs
    + lin program (linear_globals program + linear_inputs a.params + linear_inputs b.params)

abbrev pub own_weight : Program → Condition → ℕ
own_weight program (Start step i) = initial_own program + maybe_weight (global_weight program) (invariant_at program step i)
own_weight program (Keep step x) = of_action program x 0 (keep_weight program)
own_weight program (Pair number step x y) = of_action program x 0 (λ a. of_action program y 0 (pair_weight program step a))
own_weight program (Fire step x) = of_action program x 0 (λ a. gate_weight program a + guard_weight program a + offers_weight program a)
own_weight program (Path part step q c) = of_cut program q c 0 (λ proc cut. path_weight program step part proc c cut)
own_weight program (Block step q c target) = of_cut program q c 0 (λ proc cut. block_weight program step proc c cut target)
own_weight program (Act step x target) =
    of_action program x 0 (λ a.
    action_weight program a + weights_of (global_weight program) (step_invariants program step) + 2 * target_weight program step target
    + lin program (linear_globals program + linear_inputs a.params + target_items program target))

unfoldable pub weight : Program → Condition → ℕ
weight program condition = bits_of_variables (variables program condition) + own_weight program condition

-- the first formula that weighs too much: that of the search for an initial store, or a condition's
abbrev pub heavy : Program → Option (Option Condition)
heavy program =
    if nat_lt weight_limit (initial_weight program) then Some None
    else option_map_or (λ c. Some (Some c)) (find (λ c. nat_lt weight_limit (weight program c)) (conditions program)) None
