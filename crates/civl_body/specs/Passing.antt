-- Statements of a body at terms, along with the choices of its calls.
use Rattle.std.specs.Prelude.{◌≡◌, ⊤, ℕ, ◌+◌, true, List, [], ◌∷◌, ◌++◌, Option, None, Some, slice_get, drop}
use Rattle.std.specs.List.{Contains}
use Rattle.civl_bits.specs.declared.value.Value.{Value}
use Rattle.civl_tree.specs.declared.action.Action.{Action}
use Rattle.civl_tree.specs.declared.program.Proc.{Proc}
use Rattle.civl_tree.specs.declared.program.Program.{Program}
use Rattle.civl_tree.specs.declared.stmt.Stmt.{Stmt, out-Stmt}
use Rattle.civl_tree.specs.declared.stmt.Stmt.TheOpen as stmt
use Rattle.civl_tree.specs.declared.name.Name.{Name}
use Rattle.civl_tree.specs.declared.expr.Expr.{Expr}
use Rattle.civl_tree.specs.Numbering.{statement_at, statements_of, numbered, inner_of}
use Rattle.civl_terms.specs.Building.{Grows}
use Rattle.civl_conditions.specs.paths.Flows.{flow_all, flow_loop, flow_layer, flow_rest, flow_from}
use Rattle.civl_layers.specs.declared.cut.Cut.{Cut}
use Rattle.civl_tree.specs.rules.Rules.{Keeps}
use Rattle.civl_tree.specs.rules.Typing.{typing_rules}
use Rattle.civl_meaning.specs.declared.config.Plain.{Plain}
use Rattle.civl_meaning.specs.Layers.{program_at}
use Rattle.civl_meaning.specs.Rest.{Rest, rest_at}
use Rattle.civl_layers.specs.Layered.{IsLayered}
use Rattle.civl_terms.specs.declared.node.Node.{Node}
use Rattle.civl_terms.specs.Graphs.{Fits}
use Rattle.civl_actions.specs.Scopes.{AreOf}
use Rattle.civl_actions.specs.Actions.{values_at}
use Rattle.civl_conditions.specs.paths.Paths.{Course, tested}
use Rattle.civl_conditions.specs.paths.Choices.{layer_action}
use Rattle.civl_conditions.specs.Weights.{layer_weight, body_weight}
use Rattle.civl_states.specs.Notes.{IsProcIn}
use Rattle.civl_moves.specs.sweeps.Sweeps.{Swept, sweep_all, sweep_loop, sweep_layer, sweep_rest, sweep_from, standing, first_begins, second_begins}
use Rattle.civl_states.specs.formula_parts.Said.{Env}
use Rattle.civl_moves.specs.declared.sweep.Sweep.{Sweep}
use Rattle.civl_moves.specs.States.{swept_at, CanSweep, Moves, Suits}
use Rattle.civl_tree.specs.rules.Scopes.{body_scope}
use Rattle.civl_tree.specs.declared.expr.Sort.TheVariants.{Bool as Truth}
use Rattle.civl_states.specs.declared.choices.Chosen.{Chosen}
use Rattle.civl_states.specs.Beginnings.{chosen_at}
use Rattle.civl_meaning.specs.Config.{choice_sorts}

-- a body in the program of a layer
abbrev pub course_in : Program → ℕ → Proc → (ℕ → List Value) → Course
course_in program layer proc chosen = record { plain = program_at program layer; proc = proc; chosen = chosen }

-- these statements have their numbers in the body
abbrev pub StandIn : Proc → ℕ → List Stmt → Type 0
StandIn proc number ss = (j n : ℕ) (s : Stmt) → n ≡ number + j → slice_get ss j ≡ Some s → statement_at proc.body n ≡ Some s

-- there are terms for the choices of each of these calls, and what they say
abbrev pub HasChoices : List Node → Program → ℕ → List Chosen → Rest → Type 0
HasChoices ns program layer chosen passed =
    (q : ℕ × Stmt) (a : Action) → Contains passed q → layer_action (program_at program layer) (out-Stmt q.1) ≡ Some a → AreOf ns (chosen_at chosen q.0) (choice_sorts a)

abbrev pub SaysChoices : List Node → Program → ℕ → List Chosen → Rest → (Env → ℕ → List Value) → Type 0
SaysChoices ns program layer chosen passed v =
    (q : ℕ × Stmt) (a : Action) → Contains passed q → layer_action (program_at program layer) (out-Stmt q.1) ≡ Some a → (env : Env) → Fits env ns → values_at env ns (chosen_at chosen q.0) ≡ v env q.0

-- a sweep can pass statements: these are they with those in them, and these may be passed
pub record Ready (ns : List Node) (program : Program) (layer : ℕ) (proc : Proc) (chosen : List Chosen) (s : Sweep) (number : ℕ) (inner : List Stmt) (passed : Rest) : Type 0 where
  pub layered : IsLayered program
  pub there : IsProcIn program proc
  pub stands : StandIn proc number inner
  pub can : CanSweep ns program proc s
  pub choices : s.onward ≡ true → HasChoices ns program layer chosen passed

-- it has passed them
abbrev pub Passes : List Node → List Node → Program → ℕ → Proc → List Chosen → Sweep → Sweep → Rest → (Course → Swept → Swept) → Type 0
Passes old new program layer proc chosen before after passed move =
    (v : Env → ℕ → List Value) → (before.onward ≡ true → SaysChoices old program layer chosen passed v) → Moves old new program proc before after (λ env. move (course_in program layer proc (v env)))

-- the statement with this number is this call
abbrev pub StandsCall : Proc → ℕ → Name → List Expr → List Name → Type 0
StandsCall proc number f es rs = (s : Stmt) × (statement_at proc.body number ≡ Some s) × (out-Stmt s ≡ stmt.Call f es rs)

-- on its way over statements, of which these are left
pub record Under (first now : List Node) (program : Program) (layer : ℕ) (proc : Proc) (chosen : List Chosen) (before here : Sweep) (number at : ℕ) (all rest : List Stmt) : Type 0 where
  pub ready : Ready now program layer proc chosen here at (statements_of rest) (flow_all (numbered at rest)).passed
  pub says : (v : Env → ℕ → List Value) → (before.onward ≡ true → SaysChoices first program layer chosen (flow_all (numbered number all)).passed v) → here.onward ≡ true → SaysChoices now program layer chosen (flow_all (numbered at rest)).passed v
  pub moved : (v : Env → ℕ → List Value) → (before.onward ≡ true → SaysChoices first program layer chosen (flow_all (numbered number all)).passed v) → (env : Env) → Fits env now
      → sweep_all (course_in program layer proc (v env)) (numbered at rest) (swept_at env now here) ≡ sweep_all (course_in program layer proc (v env)) (numbered number all) (swept_at env first before)
  pub grows : Grows first now

-- the action with this number
abbrev pub action_at : Program → Option ℕ → Option Action
action_at program None = None
action_at program (Some number) = slice_get program.actions number

-- each of these statements has its number in the body, and so have those in it
abbrev pub StandAll : Proc → Rest → Type 0
StandAll proc [] = ⊤
StandAll proc (q ∷ k) = StandIn proc q.0 (q.1 ∷ inner_of q.1) × StandAll proc k

-- a sweep can pass these statements
pub record ReadyRest (ns : List Node) (program : Program) (layer : ℕ) (proc : Proc) (chosen : List Chosen) (s : Sweep) (rest : Rest) : Type 0 where
  pub layered : IsLayered program
  pub there : IsProcIn program proc
  pub stands : StandAll proc rest
  pub can : CanSweep ns program proc s
  pub choices : s.onward ≡ true → HasChoices ns program layer chosen (flow_all rest).passed

-- on its way over statements with their numbers, of which these are left
pub record UnderRest (first now : List Node) (program : Program) (layer : ℕ) (proc : Proc) (chosen : List Chosen) (before here : Sweep) (all rest : Rest) : Type 0 where
  pub ready : ReadyRest now program layer proc chosen here rest
  pub says : (v : Env → ℕ → List Value) → (before.onward ≡ true → SaysChoices first program layer chosen (flow_all all).passed v) → here.onward ≡ true → SaysChoices now program layer chosen (flow_all rest).passed v
  pub moved : (v : Env → ℕ → List Value) → (before.onward ≡ true → SaysChoices first program layer chosen (flow_all all).passed v) → (env : Env) → Fits env now
      → sweep_all (course_in program layer proc (v env)) rest (swept_at env now here) ≡ sweep_all (course_in program layer proc (v env)) all (swept_at env first before)
  pub grows : Grows first now

-- from the head of a loop: first these statements, where its condition is true, and then those, where it isn't, on what the first
-- collected
abbrev pub by_loop : Course → Expr → Rest → Rest → Swept → Swept
by_loop c e inside behind d =
    sweep_all c behind (second_begins (tested c e (standing d)) d (sweep_all c inside (first_begins (tested c e (standing d)) d)))

abbrev pub loop_passed : Rest → Rest → Rest
loop_passed inside behind = (flow_all inside).passed ++ (flow_all behind).passed

-- a sweep can do so
pub record ReadyLoop (ns : List Node) (program : Program) (layer : ℕ) (proc : Proc) (chosen : List Chosen) (s : Sweep) (e : Expr) (inside behind : Rest) : Type 0 where
  pub layered : IsLayered program
  pub there : IsProcIn program proc
  pub suits : Suits (body_scope program proc) e (Some Truth)
  pub first : StandAll proc inside
  pub others : StandAll proc behind
  pub can : CanSweep ns program proc s
  pub on : s.onward ≡ true
  pub choices : HasChoices ns program layer chosen (loop_passed inside behind)

-- a statement is a loop that is a cut, with this condition and this body
pub record IsLoop (s : Stmt) (e : Expr) (a : List Stmt) : Type 0 where
  pub inner : inner_of s ≡ statements_of a
  pub flows : (rest : Rest) → flow_layer (out-Stmt s) rest ≡ flow_loop a rest
  pub sweeps : (c : Course) (rest : Rest) (d : Swept) → sweep_layer c (out-Stmt s) rest d ≡ sweep_loop c e a rest d
  pub suits : (program : Program) → Keeps typing_rules program → (proc : Proc) → IsProcIn program proc → (number : ℕ) → statement_at proc.body number ≡ Some s → Suits (body_scope program proc) e (Some Truth)
  pub weighs : (plain : Plain) (proc : Proc) → layer_weight plain proc s (out-Stmt s) ≡ 1 + body_weight plain.program proc e

-- it isn't
pub record IsPlain (s : Stmt) : Type 0 where
  pub flows : (rest : Rest) → flow_layer (out-Stmt s) rest ≡ flow_all (drop 1 rest)
  pub sweeps : (c : Course) (rest : Rest) (d : Swept) → sweep_layer c (out-Stmt s) rest d ≡ sweep_all c (drop 1 rest) d

-- a sweep can begin with the first of these statements, which is a cut
pub record ReadyHead (ns : List Node) (program : Program) (layer : ℕ) (proc : Proc) (chosen : List Chosen) (s : Sweep) (rest : Rest) : Type 0 where
  pub layered : IsLayered program
  pub there : IsProcIn program proc
  pub stands : StandAll proc rest
  pub can : CanSweep ns program proc s
  pub on : s.onward ≡ true
  pub choices : HasChoices ns program layer chosen (flow_rest rest).passed

-- a sweep can begin at a cut
pub record ReadyFrom (ns : List Node) (program : Program) (layer : ℕ) (proc : Proc) (chosen : List Chosen) (s : Sweep) (cut : Cut) : Type 0 where
  pub layered : IsLayered program
  pub there : IsProcIn program proc
  pub can : CanSweep ns program proc s
  pub on : s.onward ≡ true
  pub choices : HasChoices ns program layer chosen (flow_from proc cut).passed

-- a cut is the entry, or a statement
pub record IsEntry (cut : Cut) : Type 0 where
  pub flows : (proc : Proc) → flow_from proc cut ≡ flow_all (numbered 0 proc.body)
  pub sweeps : (c : Course) (d : Swept) → sweep_from c cut d ≡ sweep_all c (numbered 0 c.proc.body) d

pub record IsWithin (cut : Cut) : Type 0 where
  pub flows : (proc : Proc) → flow_from proc cut ≡ flow_rest (rest_at proc.body cut.statement)
  pub sweeps : (c : Course) (d : Swept) → sweep_from c cut d ≡ sweep_rest c (rest_at c.proc.body cut.statement) d
