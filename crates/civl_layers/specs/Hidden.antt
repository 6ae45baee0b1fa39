-- E31, Hidden: a global that is used where it doesn't exist. An action uses globals that exist in its whole range; an
-- invariant of a step, and what a procedure of this layer says of the store, use globals that exist in the layer or in
-- the one below. To use a global is to name it in an expression, plain or in `old(name)`, or as an update's target.
use Rattle.std.specs.Prelude.{ℕ, Bool, false, not, ◌||◌, Option, None, Some}
use Rattle.std.specs.List.{list_any}
use Rattle.civl_tree.specs.declared.name.Name.{Name}
use Rattle.civl_tree.specs.declared.stmt.Stmt.{Stmt, out-Stmt}
use Rattle.civl_tree.specs.declared.stmt.Stmt.TheOpen.{Stmt-F, YieldLoop, RankLoop, Yield, Intro}
use Rattle.civl_tree.specs.declared.action.Action.{Action}
use Rattle.civl_tree.specs.declared.program.Global.{Global}
use Rattle.civl_tree.specs.declared.program.Invariant.{Invariant}
use Rattle.civl_tree.specs.declared.program.Refines.{Refines}
use Rattle.civl_tree.specs.declared.program.Program.{Program}
use Rattle.civl_layers.specs.Ranges.{exists_through, exists_around}
use Rattle.civl_layers.specs.Names.{global_named, global_range, uses}

-- a global, where there is one, doesn't exist in all layers from this one to that one
abbrev pub hidden_through : ℕ → ℕ → Option Global → Bool
hidden_through from to None = false
hidden_through from to (Some global) = not (exists_through from to (global_range global))

-- a global, where there is one, exists neither in the layer of this step nor in the one below
abbrev pub hidden_around : ℕ → Option Global → Bool
hidden_around step None = false
hidden_around step (Some global) = not (exists_around step (global_range global))

-- an action with this range may not use the name
abbrev pub hidden_in_action : Program → Action → Name → Bool
hidden_in_action program action name = hidden_through action.first action.last (global_named program name)

-- what speaks of this step may not use the name
abbrev pub hidden_at_step : Program → ℕ → Name → Bool
hidden_at_step program step name = hidden_around step (global_named program name)

-- the offers, the gate, the guard and the updates
abbrev pub action_hidden : Program → Action → Bool
action_hidden program action =
    list_any (λ choice. uses (hidden_in_action program action) choice.offer) action.choices
    || (uses (hidden_in_action program action) action.gate
    || (uses (hidden_in_action program action) action.guard
    || list_any (λ update. hidden_in_action program action update.target || uses (hidden_in_action program action) update.expr) action.updates))

abbrev pub invariant_hidden : Program → Invariant → Bool
invariant_hidden program invariant = uses (hidden_at_step program invariant.step) invariant.expr

-- the values after `with`
abbrev pub with_hidden : Program → Option Refines → Bool
with_hidden program None = false
with_hidden program (Some refines) = list_any (uses (hidden_at_step program refines.layer)) refines.with

-- the invariants of yields and loops, ranks, and the values of intros, in a procedure of this layer
abbrev pub form_hidden : Program → ℕ → Stmt-F Stmt → Bool
form_hidden program step (YieldLoop test inv body) = uses (hidden_at_step program step) inv
form_hidden program step (RankLoop test rank inv body) = uses (hidden_at_step program step) rank || uses (hidden_at_step program step) inv
form_hidden program step (Yield inv) = uses (hidden_at_step program step) inv
form_hidden program step (Intro target value) = uses (hidden_at_step program step) value
form_hidden program step _ = false

-- a root has no layer
abbrev pub stmt_hidden : Program → Option Refines → Stmt → Bool
stmt_hidden program None stmt = false
stmt_hidden program (Some refines) stmt = form_hidden program refines.layer (out-Stmt stmt)
