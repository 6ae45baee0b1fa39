-- Sweeps: one walk over all branches of a body at once, from a cut to where its paths end (symbolic execution: King, CACM 1976;
-- with one state behind the branches of an `if`: Hansen, Schachte, Sondergaard, RV 2009). Here it is at values: beside the state
-- it says whether the path is here at all, and where the paths end it keeps with what.
use Rattle.std.specs.Prelude.{ℕ, ◌+◌, Bool, true, false, not, ◌&&◌, ◌||◌, if◌then◌else◌, List, [], ◌∷◌, ◌++◌, map, drop, slice_set}
use Rattle.civl_bits.specs.declared.value.Value.{Value}
use Rattle.civl_tree.specs.declared.name.Name.{Name}
use Rattle.civl_tree.specs.declared.expr.Expr.{Expr}
use Rattle.civl_tree.specs.declared.action.Action.{Action}
use Rattle.civl_tree.specs.declared.stmt.Stmt.{Stmt, out-Stmt}
use Rattle.civl_tree.specs.declared.stmt.Stmt.TheOpen as stmt
use Rattle.civl_tree.specs.declared.stmt.Stmt.TheFolds.{para-Stmt}
use Rattle.civl_tree.specs.rules.Names.{names_in_proc}
use Rattle.civl_tree.specs.Numbering.{size_of, sizes_of, numbered}
use Rattle.civl_firing.specs.declared.store.Store.{Store}
use Rattle.civl_firing.specs.Truth.{place_of}
use Rattle.civl_firing.specs.Eval.{value_of, values_of}
use Rattle.civl_firing.specs.Scope.{frame_values}
use Rattle.civl_firing.specs.Fired.{gate_holds, guard_holds, choices_fit, store_after, outs_after}
use Rattle.civl_meaning.specs.Meaning.{Meaning, Does, Runs, Missing, called}
use Rattle.civl_meaning.specs.Change.{with_results}
use Rattle.civl_meaning.specs.Rest.{Rest, rest_at}
use Rattle.civl_layers.specs.declared.cut.Cut.{Cut}
use Rattle.civl_layers.specs.declared.cut.CutKind.{CutKind}
use Rattle.civl_layers.specs.declared.cut.CutKind.TheVariants as kind
use Rattle.civl_conditions.specs.paths.NoteValues.{plain_note_values}
use Rattle.civl_conditions.specs.paths.Paths.{Course, Progress, tested, set_global}

-- a cut that is the statement with this number, before which some path ends: whether the path does, and the state there
pub record Stop : Type 0 where
  pub number : ℕ
  pub taken : Bool
  pub store : Store
  pub locals : List Value
  pub done : Bool

-- a sweep on its way: whether some path goes on from here, whatever the values; whether the path is here, and the state, which
-- is the path's where it is; and of what is behind: whether it met a gate or an assert that is false, whether it passed a commit
-- where `done` was true, and where paths end
pub record Swept : Type 0 where
  pub onward : Bool
  pub live : Bool
  pub store : Store
  pub locals : List Value
  pub done : Bool
  pub broken : Bool
  pub again : Bool
  pub stops : List Stop

-- the state
abbrev pub standing : Swept → Progress
standing d = record { store = d.store; locals = d.locals; done = d.done; again = d.again }

-- ---- one statement

abbrev pub set_locals : List Value → Swept → Swept
set_locals locals d = record d { locals = locals }

-- the path goes on where the test is true, and else is broken
abbrev pub gated : Bool → Swept → Swept
gated test d = record d { live = d.live && test; broken = d.broken || (d.live && not test) }

-- it goes on where the test is true
abbrev pub guarded : Bool → Swept → Swept
guarded test d = record d { live = d.live && test }

-- it isn't here
abbrev pub halted : Swept → Swept
halted d = record d { live = false }

-- nor does any other path go on
abbrev pub stopped : Swept → Swept
stopped d = record d { onward = false; live = false }

abbrev pub cut_at : ℕ → Swept → Swept
cut_at number d = record d {
  onward = false;
  live = false;
  stops = d.stops ++ record { number = number; taken = d.live; store = d.store; locals = d.locals; done = d.done } ∷ [];
}

abbrev pub with_commit : Swept → Swept
with_commit d = record d { done = true; again = d.again || (d.live && d.done) }

abbrev pub with_intro : Course → Name → Expr → Swept → Swept
with_intro c name e d = record d { store = set_global c.plain.program.globals d.store name (value_of (plain_note_values c.plain.program.globals c.proc d.store d.locals) e) }

abbrev pub with_assign : Course → Name → Expr → Swept → Swept
with_assign c name e d = set_locals (slice_set d.locals (place_of (names_in_proc c.proc) name) (value_of (frame_values c.plain.program.globals c.proc d.locals) e)) d

-- the store and the outputs that an action gives, where its guard holds
abbrev pub acted : Course → List Name → Action → List Value → List Value → Swept → Swept
acted c results a inputs chosen d = record d {
  store = store_after c.plain.program.globals d.store a inputs chosen;
  locals = with_results (names_in_proc c.proc) d.locals results (outs_after c.plain.program.globals d.store a inputs chosen);
}

-- its gate, then its choices and its guard, then what it does
abbrev pub with_action : Course → List Name → Action → List Value → List Value → Swept → Swept
with_action c results a inputs chosen d =
    acted c results a inputs chosen
    (guarded (choices_fit a chosen && guard_holds c.plain.program.globals d.store a inputs chosen)
    (gated (gate_holds c.plain.program.globals d.store a inputs) d))

abbrev pub with_meaning : Course → List Name → Meaning → List Value → List Value → Swept → Swept
with_meaning c results (Does a) inputs chosen d = with_action c results a inputs chosen d
with_meaning c results (Runs number proc) inputs chosen d = halted d
with_meaning c results Missing inputs chosen d = halted d

abbrev pub with_call : Course → Name → List Expr → List Name → ℕ → Swept → Swept
with_call c f es results at d = with_meaning c results (called c.plain f) (values_of (frame_values c.plain.program.globals c.proc d.locals) es) (c.chosen at) d

-- ---- branches

abbrev pub first_begins : Bool → Swept → Swept
first_begins test d = guarded test d

-- from the state before, behind what the first branch collected
abbrev pub second_begins : Bool → Swept → Swept → Swept
second_begins test d a = record d { live = d.live && not test; broken = a.broken; again = a.again; stops = a.stops }

-- what the second collected, behind both
abbrev pub joined : Bool → Swept → Swept → Swept
joined test a b = record b {
  onward = a.onward || b.onward;
  live = a.live || b.live;
  store = if test then a.store else b.store;
  locals = if test then a.locals else b.locals;
  done = if test then a.done else b.done;
}

abbrev pub by_both : Bool → (Swept → Swept) → (Swept → Swept) → Swept → Swept
by_both test first second d = joined test (first (first_begins test d)) (second (second_begins test d (first (first_begins test d))))

-- ---- statements

-- sweeping over a statement that has this number
abbrev pub Sweeping : Type 0
Sweeping = ℕ → Swept → Swept

-- where no path goes on, nothing is swept
abbrev pub where_onward : (Swept → Swept) → Swept → Swept
where_onward f d = if d.onward then f d else d

abbrev pub swept_in : List (Stmt × Sweeping) → List Stmt
swept_in ps = map (λ p. p.0) ps

-- over statements, the first of which has this number
abbrev pub sweep_in : List (Stmt × Sweeping) → Sweeping
sweep_in [] at d = d
sweep_in (q ∷ qs) at d = sweep_in qs (at + size_of q.0) (where_onward (q.1 at) d)

abbrev pub sweep_step : Course → stmt.Stmt-F (Stmt × Sweeping) → Sweeping
sweep_step c (stmt.Assign x e) at d = with_assign c x e d
sweep_step c (stmt.Assert e) at d = gated (tested c e (standing d)) d
sweep_step c (stmt.If e a b) at d = by_both (tested c e (standing d)) (sweep_in a (at + 1)) (sweep_in b (at + 1 + sizes_of (swept_in a))) d
sweep_step c (stmt.While e a) at d = stopped d
sweep_step c (stmt.YieldLoop e i a) at d = cut_at at d
sweep_step c (stmt.RankLoop e r i a) at d = cut_at at d
sweep_step c (stmt.Call f es rs) at d = with_call c f es rs at d
sweep_step c (stmt.Yield i) at d = cut_at at d
sweep_step c stmt.Commit at d = with_commit d
sweep_step c (stmt.Intro x e) at d = with_intro c x e d
sweep_step c (stmt.Spawn f es) at d = stopped d

unfoldable pub sweep : Course → Stmt → Sweeping
sweep c = para-Stmt Sweeping (sweep_step c)

-- over statements with their numbers
unfoldable pub sweep_all : Course → Rest → Swept → Swept
unfolding sweep
sweep_all c [] d = d
sweep_all c (q ∷ qs) d = sweep_all c qs (where_onward (sweep c q.1 q.0) d)

-- ---- from a cut

-- from the head of a loop: its body and the loop again; then what is behind it, from the state at the head
abbrev pub sweep_loop : Course → Expr → List Stmt → Rest → Swept → Swept
sweep_loop c e a [] d = d
sweep_loop c e a (q ∷ qs) d =
    sweep_all c qs (second_begins (tested c e (standing d)) d (sweep_all c (numbered (q.0 + 1) a ++ q ∷ []) (first_begins (tested c e (standing d)) d)))

unfoldable pub sweep_layer : Course → stmt.Stmt-F Stmt → Rest → Swept → Swept
sweep_layer c (stmt.YieldLoop e i a) rest d = sweep_loop c e a rest d
sweep_layer c (stmt.RankLoop e r i a) rest d = sweep_loop c e a rest d
sweep_layer c _ rest d = sweep_all c (drop 1 rest) d

-- from a statement that is a cut, which is the first of these
abbrev pub sweep_rest : Course → Rest → Swept → Swept
sweep_rest c [] d = d
sweep_rest c (q ∷ qs) d = sweep_layer c (out-Stmt q.1) (q ∷ qs) d

abbrev pub sweep_kind : Course → ℕ → CutKind → Swept → Swept
sweep_kind c number kind.Entry d = sweep_all c (numbered 0 c.proc.body) d
sweep_kind c number kind.Yield d = sweep_rest c (rest_at c.proc.body number) d
sweep_kind c number kind.YieldLoop d = sweep_rest c (rest_at c.proc.body number) d
sweep_kind c number kind.RankLoop d = sweep_rest c (rest_at c.proc.body number) d

unfoldable pub sweep_from : Course → Cut → Swept → Swept
sweep_from c cut d = sweep_kind c cut.statement cut.kind d

-- at the beginning of a path
abbrev pub sweep_begins : Progress → Swept
sweep_begins p = record { onward = true; live = true; store = p.store; locals = p.locals; done = p.done; broken = false; again = p.again; stops = [] }
