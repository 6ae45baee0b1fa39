-- What there is at a step, which goes from the program of one layer to that of the next (layered programs: Hawblitzel,
-- Petrank, Qadeer, Tasiran, CAV 2015; Kragl, Qadeer, CAV 2018).
use Rattle.std.specs.Prelude.{ℕ, zero, suc, ◌+◌, Bool, false, ◌&&◌, nat_eq, nat_le, nat_lt, if◌then◌else◌, List, [], ◌∷◌, ◌++◌, map, filter, Option, None, Some, slice_get}
use Rattle.std.specs.Option.{option_map_or}
use Rattle.civl_tree.specs.declared.expr.Expr.{Expr}
use Rattle.civl_tree.specs.declared.action.Action.{Action}
use Rattle.civl_tree.specs.declared.program.Refines.{Refines}
use Rattle.civl_tree.specs.declared.program.Proc.{Proc}
use Rattle.civl_tree.specs.declared.program.Program.{Program}
use Rattle.civl_layers.specs.declared.cut.Cut.{Cut}
use Rattle.civl_layers.specs.Cuts.{proc_cuts}

-- what is said of each of these with its number, the first having this one
abbrev pub each_at : {A B : Type 0} → (ℕ → A → List B) → ℕ → List A → List B
each_at f at [] = []
each_at f at (x ∷ xs) = f at x ++ each_at f (at + 1) xs

-- the steps of a program of so many layers
abbrev pub steps_to : ℕ → List ℕ
steps_to zero = []
steps_to (suc n) = steps_to n ++ (n + 1) ∷ []

-- ---- globals, invariants, procedures

-- the invariants of a step
abbrev pub step_invariants : Program → ℕ → List Expr
step_invariants program step = map (λ i. i.expr) (filter (λ i. nat_eq i.step step) program.invariants)

abbrev pub refines_at : ℕ → Option Refines → Bool
refines_at layer None = false
refines_at layer (Some r) = nat_eq r.layer layer

-- a procedure of this layer
abbrev pub has_layer : ℕ → Proc → Bool
has_layer layer proc = refines_at layer proc.refines

-- what is said of each cut of each procedure of a layer
abbrev pub each_cut : {B : Type 0} → (ℕ → ℕ → Cut → List B) → Program → ℕ → List B
each_cut f program layer = each_at (λ q proc. if has_layer layer proc then each_at (f q) 0 (proc_cuts proc) else []) 0 program.procs

-- ---- actions

-- the first layer is the lower one of the step
abbrev pub begins_below : ℕ → Action → Bool
begins_below step a = nat_eq (a.first + 1) step

-- the lower layer of the step is the first one in which both exist
abbrev pub meet_below : ℕ → Action → Action → Bool
meet_below step a b = nat_eq ((if nat_lt a.first b.first then b.first else a.first) + 1) step && (nat_le step (a.last + 1) && nat_le step (b.last + 1))

-- it exists in both programs of the step
abbrev pub lasts_through : ℕ → Action → Bool
lasts_through step a = nat_lt a.first step && nat_le step a.last

-- ---- what has these numbers

abbrev pub of_action : {A : Type 0} → Program → ℕ → A → (Action → A) → A
of_action program x none f = option_map_or f (slice_get program.actions x) none

abbrev pub of_proc : {A : Type 0} → Program → ℕ → A → (Proc → A) → A
of_proc program q none f = option_map_or f (slice_get program.procs q) none

abbrev pub of_cut : {A : Type 0} → Program → ℕ → ℕ → A → (Proc → Cut → A) → A
of_cut program q c none f = of_proc program q none (λ proc. option_map_or (f proc) (slice_get (proc_cuts proc) c) none)
