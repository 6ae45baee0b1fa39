-- What a list of values, one for each variable of a condition, gives to the globals, to frames and to choices.
use Rattle.std.specs.Prelude.{ℕ, ◌+◌, Bool, true, false, not, ◌&&◌, ◌||◌, nat_eq, if◌then◌else◌, List, [], ◌∷◌, ◌++◌, filter, length, take, drop, get_or}
use Rattle.civl_bits.specs.declared.value.Value.{Value}
use Rattle.civl_bits.specs.Value.{same_value}
use Rattle.civl_firing.specs.values.Operators.{nothing}
use Rattle.civl_firing.specs.values.Values.{is_true, zero_of}
use Rattle.civl_tree.specs.declared.action.Choice.{Choice}
use Rattle.civl_tree.specs.declared.action.Action.{Action}
use Rattle.civl_tree.specs.declared.program.Global.{Global}
use Rattle.civl_tree.specs.declared.program.Proc.{Proc}
use Rattle.civl_tree.specs.declared.program.Program.{Program}
use Rattle.civl_firing.specs.declared.store.Store.{Store}
use Rattle.civl_firing.specs.Scope.{zeros_of_params, zeros_of_locals}
use Rattle.civl_meaning.specs.Change.{outs_in}
use Rattle.civl_layers.specs.declared.cut.Cut.{Cut}
use Rattle.civl_conditions.specs.paths.Ends.{is_entry, is_rank_loop}
use Rattle.civl_conditions.specs.paths.Seen.{exists_near}
use Rattle.civl_conditions.specs.Variables.{passed_choices}

-- so many values from a place on
abbrev pub part : List Value → ℕ → ℕ → List Value
part values at count = take count (drop at values)

-- the bool at a place
abbrev pub flag_at : List Value → ℕ → Bool
flag_at values at = is_true (get_or values at nothing)

-- a store in which the globals that pass the test have these values, and the others are zero
abbrev pub spread : (Global → Bool) → List Global → List Value → List Value
spread test [] vs = []
spread test (g ∷ gs) [] = zero_of g.sort ∷ spread test gs []
spread test (g ∷ gs) (v ∷ vs) = if test g then v ∷ spread test gs vs else zero_of g.sort ∷ spread test gs (v ∷ vs)

abbrev pub store_of : (Global → Bool) → Program → List Value → Store
store_of test program values = record { values = spread test program.globals values }

-- how many globals pass the test
abbrev pub count_of : (Global → Bool) → Program → ℕ
count_of test program = length (filter test program.globals)

-- so many, where the test is true
abbrev pub where_so : Bool → ℕ → ℕ
where_so test count = if test then count else 0

-- ---- equality

abbrev pub same_bool : Bool → Bool → Bool
same_bool a b = if a then b else not b

abbrev pub same_values : List Value → List Value → Bool
same_values [] [] = true
same_values [] (w ∷ ws) = false
same_values (v ∷ vs) [] = false
same_values (v ∷ vs) (w ∷ ws) = same_value v w && same_values vs ws

-- the globals that pass the test have the same values in both
abbrev pub same_in : (Global → Bool) → List Global → List Value → List Value → Bool
same_in test [] vs ws = true
same_in test (g ∷ gs) [] ws = true
same_in test (g ∷ gs) (v ∷ vs) [] = true
same_in test (g ∷ gs) (v ∷ vs) (w ∷ ws) = (not (test g) || same_value v w) && same_in test gs vs ws

abbrev pub same_stores : (Global → Bool) → Program → Store → Store → Bool
same_stores test program s t = same_in test program.globals s.values t.values

-- ---- actions

-- an action with values for its parameters and its choices
pub record Invoked : Type 0 where
  pub action : Action
  pub inputs : List Value
  pub chosen : List Value

abbrev pub params_count : Action → ℕ
params_count a = length a.params

abbrev pub instance_count : Action → ℕ
instance_count a = length a.params + length a.choices

-- whose values stand from this place on
abbrev pub invoked : List Value → ℕ → Action → Invoked
invoked values at a = record { action = a; inputs = part values at (length a.params); chosen = part values (at + length a.params) (length a.choices) }

-- ---- paths

-- at which places the values of a path's beginning stand, and where those behind them begin
pub record Layout : Type 0 where
  pub old : ℕ
  pub params : ℕ
  pub rest : ℕ
  pub old_outs : ℕ
  pub done : ℕ
  pub old_done : ℕ
  pub calls : ℕ
  pub behind : ℕ

abbrev pub choices_count : List (ℕ × List Choice) → ℕ
choices_count [] = 0
choices_count (q ∷ qs) = length q.1 + choices_count qs

abbrev pub layout : Program → ℕ → Proc → Cut → Layout
layout program step proc cut =
    let old = count_of (exists_near step) program in
    let params = old + where_so (is_rank_loop cut.kind) (count_of (exists_near step) program) in
    let rest = params + length proc.params in
    let old_outs = rest + where_so (not (is_entry cut.kind)) (length proc.outs + length proc.locals) in
    let done = old_outs + where_so (is_rank_loop cut.kind) (length proc.outs) in
    let old_done = done + where_so (not (is_entry cut.kind)) 1 in
    let calls = old_done + where_so (is_rank_loop cut.kind) 1 in
    record {
      old = old;
      params = params;
      rest = rest;
      old_outs = old_outs;
      done = done;
      old_done = old_done;
      calls = calls;
      behind = calls + choices_count (passed_choices program step proc cut);
    }

-- the values for the choices of the call with this number, where those of the first of these calls stand at a place
abbrev pub chosen_in : List (ℕ × List Choice) → List Value → ℕ → ℕ → List Value
chosen_in [] values at number = []
chosen_in (q ∷ qs) values at number = if nat_eq q.0 number then part values at (length q.1) else chosen_in qs values (at + length q.1) number

-- a path's beginning: the present, and the values at the block's beginning, which are called old
pub record Begun : Type 0 where
  pub store : Store
  pub locals : List Value
  pub done : Bool
  pub old : Store
  pub old_outs : List Value
  pub old_done : Bool
  pub chosen : ℕ → List Value

abbrev pub begun_at : Program → ℕ → Proc → Cut → Layout → List Value → Begun
begun_at program step proc cut places values =
    let store = store_of (exists_near step) program values in
    let locals = part values places.params (length proc.params)
    ++ (if is_entry cut.kind then zeros_of_params proc.outs ++ zeros_of_locals proc.locals else part values places.rest (length proc.outs + length proc.locals)) in
    let done = if is_entry cut.kind then false else flag_at values places.done in
    record {
      store = store;
      locals = locals;
      done = done;
      old = if is_rank_loop cut.kind then store_of (exists_near step) program (drop places.old values) else store;
      old_outs = if is_rank_loop cut.kind then part values places.old_outs (length proc.outs) else outs_in proc locals;
      old_done = if is_rank_loop cut.kind then flag_at values places.old_done else done;
      chosen = chosen_in (passed_choices program step proc cut) values places.calls;
    }

abbrev pub begun : Program → ℕ → Proc → Cut → List Value → Begun
begun program step proc cut values = begun_at program step proc cut (layout program step proc cut) values
