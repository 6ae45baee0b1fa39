-- What a thread does next is the same without annotations.
use Rattle.std.proofs.Common.{◌≡◌, ℕ, ◌+◌, Bool, true, false, List, [], ◌∷◌, map, refl, sym, ap, ◌∙◌, Option, None, Some}
use Rattle.std.specs.Prelude.{if◌then◌else◌, option_map, slice_get}
use Rattle.std.proofs.lemmas.Option.{slice_get-map}
use Rattle.civl_bits.specs.declared.value.Value.{Value}
use Rattle.civl_tree.specs.declared.name.Name.{Name}
use Rattle.civl_tree.specs.declared.expr.Expr.{Expr}
use Rattle.civl_tree.specs.declared.action.Action.{Action}
use Rattle.civl_tree.specs.declared.stmt.Stmt.{Stmt, out-Stmt}
use Rattle.civl_tree.specs.declared.stmt.Stmt.TheOpen.{Stmt-F, Assign, Assert, If, While, YieldLoop, RankLoop, Call, Yield, Commit, Intro, Spawn}
use Rattle.civl_tree.specs.declared.program.Refines.{Refines}
use Rattle.civl_tree.specs.declared.program.Proc.{Proc}
use Rattle.civl_tree.specs.declared.program.Program.{Program}
use Rattle.civl_tree.specs.Numbering.{sizes_of}
use Rattle.civl_tree.specs.rules.Names.{names_in_proc, action_named}
use Rattle.civl_firing.specs.declared.store.Store.{Store}
use Rattle.civl_firing.specs.Truth.{place_of}
use Rattle.civl_firing.specs.Eval.{values_of}
use Rattle.civl_firing.specs.Scope.{frame_values}
use Rattle.civl_meaning.specs.declared.config.Plain.{Plain}
use Rattle.civl_meaning.specs.declared.config.Activation.{Activation}
use Rattle.civl_meaning.specs.declared.config.Running.{Running}
use Rattle.civl_meaning.specs.declared.config.State.{State}
use Rattle.civl_meaning.specs.declared.config.State.TheVariants.{Before, Inside, After}
use Rattle.civl_meaning.specs.Places.{Spot, start_of, spot_at}
use Rattle.civl_meaning.specs.Meaning.{Meaning, Does, Runs, Missing, proc_number, meaning_of_action, refined, meaning_by, meaning_of, meaning_else, called}
use Rattle.civl_meaning.specs.Change.{Doing, Goes, Leaves, Spawns, returned_layer, returned_at, returned_in, returned, outs_in, caller_of, call_doing, is_true_in, loop_doing, statement_doing, leaving, spot_doing, proc_doing, state_doing, doing}
use Rattle.civl_annotations.specs.Bare.{bare_stmt, bare_proc, bare}
use Rattle.civl_annotations.proofs.Baring.{bare_layer, bare_out, sizes_same}
use Rattle.civl_annotations.proofs.Spots.{bare_spot, start_same, spot_stays}

-- a plain program without annotations
abbrev pub bare_plain : Plain → Plain
bare_plain plain = record { program = bare plain.program; bodies = plain.bodies }

abbrev at_place : ℕ → ℕ → List Value → Activation
at_place procedure place locals = record { procedure = procedure; place = place; locals = locals }

-- ---- what a name means

names_same : (procs : List Proc) → map (λ p. p.name) (map bare_proc procs) ≡ map (λ p. p.name) procs
names_same [] = refl
names_same (p ∷ ps) = ap (λ (ns : List Name). p.name ∷ ns) (names_same ps)

pub number_same : (program : Program) (name : Name) → proc_number (bare program) name ≡ proc_number program name
number_same program name = ap (λ (ns : List Name). place_of ns name) (names_same program.procs)

pub proc_there : (program : Program) (n : ℕ) → slice_get (bare program).procs n ≡ option_map bare_proc (slice_get program.procs n)
proc_there program n = slice_get-map bare_proc program.procs n

abbrev bare_meaning : Meaning → Meaning
bare_meaning (Does action) = Does action
bare_meaning (Runs number proc) = Runs number (bare_proc proc)
bare_meaning Missing = Missing

action_meaning : (o : Option Action) → meaning_of_action o ≡ bare_meaning (meaning_of_action o)
action_meaning None = refl
action_meaning (Some a) = refl

refined_same : (program : Program) (o : Option Refines) → refined (bare program) o ≡ bare_meaning (refined program o)
refined_same program None = refl
refined_same program (Some r) = action_meaning (action_named program r.action)

by_same : (program : Program) (b : Option Bool) (n : ℕ) (o : Option Proc) → meaning_by (bare program) b n (option_map bare_proc o) ≡ bare_meaning (meaning_by program b n o)
by_same program b n None = refl
by_same program (Some true) n (Some p) = refl
by_same program (Some false) n (Some p) = refined_same program p.refines
by_same program None n (Some p) = refl

module _ (plain : Plain) where
  meaning_same : (n : ℕ) → meaning_of (bare_plain plain) n ≡ bare_meaning (meaning_of plain n)
  meaning_same n = ap (meaning_by (bare plain.program) (slice_get plain.bodies n) n) (proc_there plain.program n) ∙ by_same plain.program (slice_get plain.bodies n) n (slice_get plain.program.procs n)

  else_same : (name : Name) (o : Option Action) → meaning_else (bare_plain plain) name o ≡ bare_meaning (meaning_else plain name o)
  else_same name (Some a) = refl
  else_same name None = ap (meaning_of (bare_plain plain)) (number_same plain.program name) ∙ meaning_same (proc_number plain.program name)

  called_same : (name : Name) → called (bare_plain plain) name ≡ bare_meaning (called plain name)
  called_same name = else_same name (action_named plain.program name)

  -- ---- what comes of a call

  call_same : (names : List Name) (locals : List Value) (results : List Name) (at next : ℕ) (m : Meaning) (args : List Value) → call_doing names locals results at next (bare_meaning m) args ≡ call_doing names locals results at next m args
  call_same names locals results at next (Does a) args = refl
  call_same names locals results at next (Runs n p) args = refl
  call_same names locals results at next Missing args = refl

  -- ---- a statement

  loop_same : (proc : Proc) (locals : List Value) (at next : ℕ) (e : Expr) (body : List Stmt) → loop_doing (bare_plain plain) (bare_proc proc) locals at next e (map bare_stmt body) ≡ loop_doing plain proc locals at next e body
  loop_same proc locals at next e body = ap (λ (n : ℕ). Goes locals (if is_true_in plain proc locals e then n else next)) (start_same body (at + 1) at)

  layer_same : (proc : Proc) (locals : List Value) (at next : ℕ) (d : Stmt-F Stmt) → statement_doing (bare_plain plain) (bare_proc proc) locals at next (bare_layer d) ≡ statement_doing plain proc locals at next d
  layer_same proc locals at next (Assign x e) = refl
  layer_same proc locals at next (Assert e) = refl
  layer_same proc locals at next (If e a b) =
      ap (λ (n : ℕ). Goes locals (if is_true_in plain proc locals e then n else start_of (map bare_stmt b) (at + 1 + sizes_of (map bare_stmt a)) next)) (start_same a (at + 1) next)
      ∙ ap (λ (n : ℕ). Goes locals (if is_true_in plain proc locals e then start_of a (at + 1) next else start_of (map bare_stmt b) (at + 1 + n) next)) (sizes_same a)
      ∙ ap (λ (n : ℕ). Goes locals (if is_true_in plain proc locals e then start_of a (at + 1) next else n)) (start_same b (at + 1 + sizes_of a) next)
  layer_same proc locals at next (While e a) = loop_same proc locals at next e a
  layer_same proc locals at next (YieldLoop e i a) = loop_same proc locals at next e a
  layer_same proc locals at next (RankLoop e r i a) = loop_same proc locals at next e a
  layer_same proc locals at next (Call f es rs) =
      let args = values_of (frame_values plain.program.globals proc locals) es in
      ap (λ (m : Meaning). call_doing (names_in_proc proc) locals rs at next m args) (called_same f) ∙ call_same (names_in_proc proc) locals rs at next (called plain f) args
  layer_same proc locals at next (Yield i) = refl
  layer_same proc locals at next Commit = refl
  layer_same proc locals at next (Intro x e) = refl
  layer_same proc locals at next (Spawn f es) =
      ap (λ (n : ℕ). Spawns (record { callee = n; args = values_of (frame_values plain.program.globals proc locals) es; state = Before }) next) (number_same plain.program f)

  -- ---- what a call leaves to the frame below

  returned_by : (proc : Proc) (locals outs : List Value) (d : Stmt-F Stmt) → returned_layer (bare_proc proc) locals outs (bare_layer d) ≡ returned_layer proc locals outs d
  returned_by proc locals outs (Assign x e) = refl
  returned_by proc locals outs (Assert e) = refl
  returned_by proc locals outs (If e a b) = refl
  returned_by proc locals outs (While e a) = refl
  returned_by proc locals outs (YieldLoop e i a) = refl
  returned_by proc locals outs (RankLoop e r i a) = refl
  returned_by proc locals outs (Call f es rs) = refl
  returned_by proc locals outs (Yield i) = refl
  returned_by proc locals outs Commit = refl
  returned_by proc locals outs (Intro x e) = refl
  returned_by proc locals outs (Spawn f es) = refl

  returned_there : (frame : Activation) (outs : List Value) (proc : Proc) (o : Option Spot) → returned_at frame outs (bare_proc proc) (option_map bare_spot o) ≡ returned_at frame outs proc o
  returned_there frame outs proc None = refl
  returned_there frame outs proc (Some s) =
      ap (λ (ls : List Value). at_place frame.procedure s.next ls)
      (ap (returned_layer (bare_proc proc) frame.locals outs) (bare_out s.stmt) ∙ returned_by proc frame.locals outs (out-Stmt s.stmt))

  returned_from : (frame : Activation) (outs : List Value) (o : Option Proc) → returned_in frame outs (option_map bare_proc o) ≡ returned_in frame outs o
  returned_from frame outs None = refl
  returned_from frame outs (Some p) = ap (returned_at frame outs (bare_proc p)) (spot_stays p.body frame.place) ∙ returned_there frame outs p (spot_at p.body frame.place)

  returned_same : (outs : List Value) (frame : Activation) → returned (bare_plain plain) outs frame ≡ returned plain outs frame
  returned_same outs frame = ap (returned_in frame outs) (proc_there plain.program frame.procedure) ∙ returned_from frame outs (slice_get plain.program.procs frame.procedure)

  leaving_same : (outs : List Value) (caller : Option Activation) → leaving (bare_plain plain) outs caller ≡ leaving plain outs caller
  leaving_same outs None = refl
  leaving_same outs (Some frame) = ap (λ (f : Activation). Leaves (Some f)) (returned_same outs frame)

  -- ---- a thread

  spot_same : (caller : Option Activation) (frame : Activation) (proc : Proc) (o : Option Spot) → spot_doing (bare_plain plain) caller frame (bare_proc proc) (option_map bare_spot o) ≡ spot_doing plain caller frame proc o
  spot_same caller frame proc None = leaving_same (outs_in proc frame.locals) caller
  spot_same caller frame proc (Some s) = ap (statement_doing (bare_plain plain) (bare_proc proc) frame.locals s.number s.next) (bare_out s.stmt) ∙ layer_same proc frame.locals s.number s.next (out-Stmt s.stmt)

  proc_same : (caller : Option Activation) (frame : Activation) (o : Option Proc) → proc_doing (bare_plain plain) caller frame (option_map bare_proc o) ≡ proc_doing plain caller frame o
  proc_same caller frame None = refl
  proc_same caller frame (Some p) = ap (spot_doing (bare_plain plain) caller frame (bare_proc p)) (spot_stays p.body frame.place) ∙ spot_same caller frame p (spot_at p.body frame.place)

  state_same : (thread : Running) (s : State) → state_doing (bare_plain plain) thread s ≡ state_doing plain thread s
  state_same thread After = refl
  state_same thread Before = ap (λ (m : Meaning). call_doing [] [] [] 0 0 m thread.args) (meaning_same thread.callee) ∙ call_same [] [] [] 0 0 (meaning_of plain thread.callee) thread.args
  state_same thread (Inside below frame) = ap (proc_doing (bare_plain plain) (caller_of below) frame) (proc_there plain.program frame.procedure) ∙ proc_same (caller_of below) frame (slice_get plain.program.procs frame.procedure)

  pub doing_same : (thread : Running) → doing (bare_plain plain) thread ≡ doing plain thread
  doing_same thread = state_same thread thread.state
