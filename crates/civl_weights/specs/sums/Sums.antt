-- What the code works out of a program's parts, once.
use Rattle.std.specs.Prelude.{ℕ, ◌+◌, ◌-◌, not, nat_eq, if◌then◌else◌, List, [], ◌∷◌, ◌++◌, map, flat_map, filter, length, Option, None, Some, ⊤}
use Rattle.civl_tree.specs.declared.name.Name.{Name}
use Rattle.civl_tree.specs.declared.stmt.Stmt.{Stmt, out-Stmt}
use Rattle.civl_tree.specs.declared.action.Action.{Action}
use Rattle.civl_tree.specs.declared.action.Update.{Update}
use Rattle.civl_tree.specs.declared.program.Global.{Global}
use Rattle.civl_tree.specs.declared.expr.Expr.{Expr}
use Rattle.civl_tree.specs.declared.program.Invariant.{Invariant as Noted}
use Rattle.civl_tree.specs.declared.program.Proc.{Proc}
use Rattle.civl_tree.specs.declared.program.Program.{Program}
use Rattle.civl_tree.specs.rules.Names.{has_name}
use Rattle.civl_firing.specs.values.Weights.{weight_of}
use Rattle.civl_tree.specs.rules.Scopes.{Scope, bind_globals, bind_params, bind_locals}
use Rattle.civl_firing.specs.values.ActionWeights.{gate_weight, guard_weight, offers_weight, updates_weight, action_weight}
use Rattle.civl_meaning.specs.Layers.{program_at}
use Rattle.civl_layers.specs.declared.cut.Cut.{Cut}
use Rattle.civl_layers.specs.declared.cut.CutKind.{CutKind}
use Rattle.civl_layers.specs.Cuts.{proc_cuts}
use Rattle.civl_linear.specs.Modes.{is_lent, is_given}
use Rattle.civl_linear.specs.Cuts.{held_of}
use Rattle.civl_conditions.specs.paths.Ends.{is_entry, is_rank_loop, ends_block, ends_from}
use Rattle.civl_conditions.specs.declared.condition.Part.{Part}
use Rattle.civl_conditions.specs.declared.condition.Part.TheVariants.{Gate, Invariant, Stutter, Perform, Rank}
use Rattle.civl_conditions.specs.Steps.{step_invariants}
use Rattle.civl_conditions.specs.Permissions.{held_at}
use Rattle.civl_conditions.specs.Assumed.{cut_invariant}
use Rattle.civl_conditions.specs.Variables.{near_globals, path_variables}
use Rattle.civl_conditions.specs.Weights.{bits_of_variables, globals_bits, outs_bits, linear_globals, linear_inputs, global_weight, note_weight, weights_of, maybe_weight, layer_written, written_bits, base_weight, passed_weight, part_weight, summed}
use Rattle.civl_weighing.specs.declared.weight.Weight.{Weight}
use Rattle.civl_weights.specs.declared.sums.actions.ActionSums.{ActionSums}
use Rattle.civl_weights.specs.declared.sums.steps.StepSums.{StepSums}
use Rattle.civl_weights.specs.declared.sums.notes.NoteSums.{NoteSums}
use Rattle.civl_weights.specs.declared.sums.cuts.CutSums.{CutSums}
use Rattle.civl_weighing.specs.Weighing.{Weighs, AreWeights}
use Rattle.civl_weighing.specs.Bits.{choices_bits, locals_bits}

-- ---- actions

-- these are the sums of an action
pub record OfAction (program : Program) (a : Action) (sums : ActionSums) : Type 0 where
  pub gate : Weighs sums.gate (gate_weight program a)
  pub guard : Weighs sums.guard (guard_weight program a)
  pub offers : Weighs sums.offers (offers_weight program a)
  pub updates : Weighs sums.updates (updates_weight program a)
  pub params : Weighs sums.params (outs_bits a.params)
  pub choices : Weighs sums.choices (choices_bits a.choices)
  pub outs : Weighs sums.outs (outs_bits a.outs)
  pub inputs : Weighs sums.inputs (linear_inputs a.params)
  pub lent : Weighs sums.lent (length (filter (λ p. is_lent p.mode) a.params))
  pub given : Weighs sums.given (length (filter (λ p. is_given p.mode) a.outs))

-- those of an action's gate, guard and updates
pub record IsWhole (sums : ActionSums) (w : Weight) : Type 0 where
  pub is : (program : Program) (a : Action) → OfAction program a sums → Weighs w (action_weight program a)

-- there are sums exactly where there is an action, and they are its
abbrev pub OfMaybe : Program → Option Action → Option ActionSums → Type 0
OfMaybe program None None = ⊤
OfMaybe program None (Some sums) = ⊥
OfMaybe program (Some a) None = ⊥
OfMaybe program (Some a) (Some sums) = OfAction program a sums

-- ---- steps

-- these are the sums of its step
pub record OfStep (program : Program) (sums : StepSums) : Type 0 where
  pub invariants : AreWeights sums.invariants (map (global_weight program) (step_invariants program sums.step))
  pub together : Weighs sums.together (weights_of (global_weight program) (step_invariants program sums.step))
  pub lower : Weighs sums.lower (globals_bits program (sums.step - 1))
  pub upper : Weighs sums.upper (globals_bits program sums.step)
  pub near : Weighs sums.near (bits_of_variables (near_globals [] program sums.step))

-- the invariants of a step among these
abbrev pub exprs_at : ℕ → List Noted → List Expr
exprs_at step invariants = map (λ i. i.expr) (filter (λ i. nat_eq i.step step) invariants)

-- where an invariant is of the step, its weight was added
pub record IsAdded (scope : Scope) (step : ℕ) (i : Noted) (before after : List Weight) : Type 0 where
  pub is : (ns : List ℕ) → AreWeights before ns → AreWeights after (ns ++ (if nat_eq i.step step then weight_of scope i.expr ∷ [] else []))

-- ---- statements

-- of what these updates set, the globals
abbrev pub updated_globals : List Global → List Update → List Name
updated_globals globals updates = filter (has_name (map (λ g. g.name) globals)) (map (λ u. u.target) updates)

-- the bits of those of these names that are globals, outputs or locals, and 1
abbrev pub names_joined : Program → Proc → List Name → ℕ
names_joined program proc names =
    written_bits names (bind_globals program.globals) + written_bits names (bind_params proc.outs ++ bind_locals proc.locals) + 1

-- what joins the states behind these statements
abbrev pub joined : Program → ℕ → Proc → List Stmt → ℕ
joined program layer proc stmts = names_joined program proc (flat_map (λ s. layer_written (program_at program layer) (out-Stmt s)) stmts)

-- ---- procedures

-- the bits of another thread's frame
abbrev pub frame_bits : Proc → ℕ
frame_bits proc = outs_bits proc.params + (outs_bits proc.outs + (locals_bits proc.locals + 1))

-- the weights of the cuts' invariants, how many items are held at each, and the bits of a frame
pub record OfNotes (program : Program) (proc : Proc) (sums : NoteSums) : Type 0 where
  pub invariants : AreWeights sums.invariants (map (λ cut. maybe_weight (note_weight program proc) (cut_invariant proc cut)) (proc_cuts proc))
  pub items : AreWeights sums.items (map length (held_of program proc))
  pub frame : Weighs sums.frame (frame_bits proc)

-- ---- cuts

-- the bits of a path's variables, where those of the globals and of the calls' choices are these
abbrev pub path_bits : ℕ → Proc → CutKind → ℕ → ℕ
path_bits near proc kind choices =
    near
    + ((if is_rank_loop kind then near else 0)
    + (outs_bits proc.params
    + ((if not (is_entry kind) then outs_bits proc.outs + locals_bits proc.locals else 0)
    + ((if is_rank_loop kind then outs_bits proc.outs else 0)
    + ((if not (is_entry kind) then 1 else 0)
    + ((if is_rank_loop kind then 1 else 0)
    + choices))))))

abbrev pub parts_weight : Program → ℕ → Proc → Cut → Part → ℕ
parts_weight program step proc cut part = summed (map (part_weight program step proc cut part) (ends_from proc cut))

-- these are the sums of a cut
pub record OfCut (program : Program) (step : ℕ) (proc : Proc) (c : ℕ) (cut : Cut) (sums : CutSums) : Type 0 where
  pub variables : Weighs sums.variables (bits_of_variables (path_variables program step proc cut))
  pub base : Weighs sums.base (base_weight program step proc c cut)
  pub passed : Weighs sums.passed (passed_weight program step proc cut)
  pub gate : Weighs sums.gate (parts_weight program step proc cut Gate)
  pub invariant : Weighs sums.invariant (parts_weight program step proc cut Invariant)
  pub stutter : Weighs sums.stutter (parts_weight program step proc cut Stutter)
  pub perform : Weighs sums.perform (parts_weight program step proc cut Perform)
  pub rank : Weighs sums.rank (parts_weight program step proc cut Rank)
  pub stops : Weighs sums.stops (length (filter (ends_block proc) (ends_from proc cut)))
  pub items : Weighs sums.items (length (held_at program proc c) + linear_globals program)

-- of each of these cuts, the first of which has this number
abbrev pub OfCuts : Program → ℕ → Proc → ℕ → List Cut → List CutSums → Type 0
OfCuts program step proc c [] [] = ⊤
OfCuts program step proc c [] (s ∷ ss) = ⊥
OfCuts program step proc c (cut ∷ cuts) [] = ⊥
OfCuts program step proc c (cut ∷ cuts) (s ∷ ss) = OfCut program step proc c cut s × OfCuts program step proc (c + 1) cuts ss
