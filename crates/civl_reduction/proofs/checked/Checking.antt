-- What the conditions that hold say of actions, and what follows.
use Rattle.std.proofs.Common.{ℕ, ◌+◌, ◌≤◌, ◌≡◌, Bool, true, false, ◌&&◌, if◌then◌else◌, nat_lt, refl, sym, arith, Some, nat_eq, None, Option, is_some, subst}
use Rattle.std.proofs.lemmas.Bool.{eqb-true, eq-eqb, false≢true}
use Rattle.civl_tree.specs.declared.action.Action.{Action}
use Rattle.civl_tree.specs.declared.program.Program.{Program}
use Rattle.civl_tree.specs.declared.program.Refines.{Refines}
use Rattle.civl_tree.specs.declared.stmt.Stmt.{Stmt}
use Rattle.civl_tree.specs.declared.stmt.Stmt.TheOpen.{Stmt-F}
use Rattle.civl_tree.proofs.Kept.{statement_kept}
use Rattle.civl_yields.specs.Places.{form_misplaced, is_layered, stmt_misplaced}
use Rattle.civl_yields.specs.YieldRules.{commit_rule, yield_rules}
use Rattle.civl_conditions.specs.declared.condition.Condition.TheVariants.{Keep, Pair, Fire}
use Rattle.civl_conditions.specs.Steps.{begins_below, meet_below}
use Rattle.civl_conditions.specs.Values.{Invoked}
use Rattle.civl_condition_laws.specs.States.{IsInvoked, HoldsOfStates}
use Rattle.civl_condition_laws.proofs.Meeting.{actions_of_states}
use Rattle.civl_reduction.specs.mover_laws.Movers as mover
use Rattle.civl_reduction.specs.mover_laws.Neighbours.{IsSound}
use Rattle.civl_reduction.proofs.mover_laws.Exchanging.{neighbours_exchange}
use Rattle.civl_reduction.proofs.permissions.Reaching.{permissions_stay}
use Rattle.civl_firing.specs.declared.store.Store.{Store}
use Rattle.civl_reduction.proofs.Neighbours.{movers_never_differ}
use Rattle.civl_reduction.specs.checked.Checked.{ActionsKeepPermissions, ActionsAreMovers, CheckedStayParted, SpawnsAreInRoots, CheckedExchange, CheckedNeverDiffers, IsChecked}
use Rattle.civl_reduction.proofs.checked.Listing.{keep_listed, third_listed, fourth_listed, fifth_listed, sixth_listed, seventh_listed, fire_listed}

-- a step that begins where something begins isn't the first layer
from_first : (step : ℕ) (a : Action) → begins_below step a ≡ true → 1 ≤ step
from_first step a e = let is = eqb-true (a.first + 1) step e in omega (arith, is)

and_first : (a b : Bool) → (a && b) ≡ true → a ≡ true
and_first true b e = refl
and_first false b e = absurd (false≢true e)

from_meeting : (step : ℕ) (a b : Action) → meet_below step a b ≡ true → 1 ≤ step
from_meeting step a b e =
    let first : ℕ = if nat_lt a.first b.first then b.first else a.first in
    let is = eqb-true (first + 1) step (and_first (nat_eq (first + 1) step) _ e) in
    omega (arith, is)

pub actions_keep_permissions : ActionsKeepPermissions
actions_keep_permissions program number action src hold there below store inputs chosen fit sorted also =
    let step = action.first + 1 in
    let begins : begins_below step action ≡ true = eq-eqb (action.first + 1) (action.first + 1) refl in
    let listed = keep_listed program step (omega arith) (omega (arith, below)) number action there begins in
    (actions_of_states program src).keeps step number store (record { action = action; inputs = inputs; chosen = chosen }) (hold (Keep step number) listed) fit (record { action = there; inputs = sorted; chosen = also }) begins

module _ (program : Program) (number : ℕ) (x : Invoked) where
  pub of_condition : mover.IsInvoked program number x → IsInvoked program number x
  of_condition i = record { action = i.action; inputs = i.inputs; chosen = i.chosen }

pub actions_are_movers : ActionsAreMovers
actions_are_movers program layer src hold below = record {
  right_swaps = λ step i j store x y l fit a b r m. says.pairs 3 step i j store x y (hold (Pair 3 step i j) (third_listed program step (from_meeting step x.action y.action m) (high step l) i j x.action y.action a.action b.action m r)) fit (of_condition program i x a) (of_condition program j y b) m;
  right_keeps = λ step i j store x y l fit a b r m. says.pairs 4 step i j store x y (hold (Pair 4 step i j) (fourth_listed program step (from_meeting step x.action y.action m) (high step l) i j x.action y.action a.action b.action m r)) fit (of_condition program i x a) (of_condition program j y b) m;
  left_swaps = λ step i j store x y l fit a b r m. says.pairs 5 step i j store x y (hold (Pair 5 step i j) (fifth_listed program step (from_meeting step x.action y.action m) (high step l) i j x.action y.action a.action b.action m r)) fit (of_condition program i x a) (of_condition program j y b) m;
  left_kept = λ step i j store x y l fit a b r m. says.pairs 6 step i j store x y (hold (Pair 6 step i j) (sixth_listed program step (from_meeting step x.action y.action m) (high step l) i j x.action y.action a.action b.action m r)) fit (of_condition program i x a) (of_condition program j y b) m;
  left_breaks = λ step i j store x y l fit a b r m. says.pairs 7 step i j store x y (hold (Pair 7 step i j) (seventh_listed program step (from_meeting step x.action y.action m) (high step l) i j x.action y.action a.action b.action m r)) fit (of_condition program i x a) (of_condition program j y b) m;
  left_fires = λ step i store x l fit a r m. says.fires step i store x (hold (Fire step i) (fire_listed program step (from_first step x.action m) (high step l) i x.action a.action r m)) fit (of_condition program i x a) m;
}
  where
    says : HoldsOfStates program
    says = actions_of_states program src

    high : (step : ℕ) → step ≤ layer + 1 → step ≤ program.layers
    high step l = omega (arith, l, below)

pub checked_stay_parted : CheckedStayParted
checked_stay_parted program layer store moves config c fit runs =
    permissions_stay program layer store moves config c.written c.layered c.linear (λ number action there low. let b = c.below in actions_keep_permissions program number action c.layered c.hold there (omega (arith, low, b))) c.initial fit runs

-- a procedure in which a spawn stands refines no action
unlayered : (r : Option Refines) → is_some r ≡ false → r ≡ None
unlayered None e = refl
unlayered (Some r) e = absurd (false≢true (sym e))

pub spawns_are_in_roots : SpawnsAreInRoots
spawns_are_in_roots program yields number proc at place stmt here callee args form =
    let kept = statement_kept yield_rules program yields commit_rule (2, omega arith, refl) (stmt_misplaced proc) number proc at refl place stmt here in
    unlayered proc.refines (subst (λ (f : Stmt-F Stmt). form_misplaced (is_layered proc) f ≡ false) form kept)

sound : (program : Program) (layer : ℕ) (store : Store) → IsChecked program layer store → IsSound program layer store
sound program layer store k =
    let below = k.below in record {
      written = k.written;
      layered = k.layered;
      linear = k.linear;
      roots = spawns_are_in_roots program k.yields;
      within = omega (arith, below);
      permissions = λ number action at low. actions_keep_permissions program number action k.layered k.hold at (omega (arith, low, below));
      movers = actions_are_movers program layer k.layered k.hold below;
      initial = k.initial;
    }

pub checked_exchange : CheckedExchange
checked_exchange program layer store moves c d e m n r q k fit runs mv nv w there here moving a b =
    neighbours_exchange program layer store moves c d e m n r q (sound program layer store k) fit runs mv nv w there here moving a b

pub checked_never_differs : CheckedNeverDiffers
checked_never_differs program layer store reaching from c d e end first m n last r q swapped k fit runs also mv nv w f a b l there here moving h =
    movers_never_differ program layer store reaching from c d e end first m n last r q swapped (sound program layer store k) fit runs also mv nv w f a b l there here moving h
