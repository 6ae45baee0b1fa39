-- Threads over a shared store. What a thread does next is told by the thread alone; the store and the choices decide what
-- comes of a call of a gated atomic action. (Hawblitzel, Petrank, Qadeer, Tasiran, Automated and modular refinement
-- reasoning for concurrent programs, CAV 2015.)
use Rattle.std.specs.Prelude.{ℕ, ◌≡◌, ◌≢◌, Bool, true, false, not, List, [], ◌∷◌, ◌++◌, Option, None, Some, option_map, slice_get, slice_set, if◌then◌else◌}
use Rattle.civl_reduction.specs.interleavings.Systems.{Stepping, System}
use Rattle.civl_reduction.specs.interleavings.Reduction.{Place, Between, Early, Late, is_inside}

-- T are the threads' states, X the actions with their inputs, O the outputs. Calls: an action, and the thread behind the
-- call with these outputs. Spawns: the thread behind it, and the new thread.
pub data Doing (T X O : Type 0) : Type 0 where
  Fails Waits : Doing T X O
  Goes : T → Doing T X O
  Spawns : T → T → Doing T X O
  Calls : X → (O → T) → Doing T X O

pub record Config (G T : Type 0) : Type 0 where
  pub store : G
  pub threads : List T

pub record Move (K : Type 0) : Type 0 where
  pub thread : ℕ
  pub chosen : K

-- G are the stores, K the choices
pub record Threads (G T X K O : Type 0) : Type 0 where
  pub first : Config G T
  pub doing : T → Doing T X O
  -- it stands inside a block
  pub inside : T → Bool
  pub gate : X → G → Bool
  pub fits : X → K → Bool
  pub fires : X → G → K → Option (G × O)

-- the store behind a step, the thread behind it, and the new thread, if any
abbrev pub Outcome : Type 0 → Type 0 → Type 0
Outcome G T = G × T × List T

abbrev pub fired : {G T O : Type 0} → (O → T) → Option (G × O) → Option (Outcome G T)
fired f None = None
fired f (Some p) = Some (p.0, f p.1, [])

abbrev pub outcome : {G T X K O : Type 0} → Threads G T X K O → Doing T X O → G → K → Option (Outcome G T)
outcome P Fails g k = None
outcome P Waits g k = None
outcome P (Goes r) g k = Some (g, r, [])
outcome P (Spawns r n) g k = Some (g, r, n ∷ [])
outcome P (Calls x f) g k = if P.gate x g then (if P.fits x k then fired f (P.fires x g k) else None) else None

abbrev pub config_with : {G T : Type 0} → Config G T → ℕ → Outcome G T → Config G T
config_with c t z = record { store = z.0; threads = slice_set c.threads t z.1 ++ z.2 }

abbrev pub step_in : {G T X K O : Type 0} → Threads G T X K O → Config G T → Move K → Option T → Option (Config G T)
step_in P c m None = None
step_in P c m (Some r) = option_map (config_with c m.thread) (outcome P (P.doing r) c.store m.chosen)

abbrev pub step_of : {G T X K O : Type 0} → Threads G T X K O → Config G T → Move K → Option (Config G T)
step_of P c m = step_in P c m (slice_get c.threads m.thread)

-- before a false assert, or a call whose gate is false
abbrev pub doing_fails : {G T X K O : Type 0} → Threads G T X K O → Doing T X O → G → Bool
doing_fails P Fails g = true
doing_fails P Waits g = false
doing_fails P (Goes r) g = false
doing_fails P (Spawns r n) g = false
doing_fails P (Calls x f) g = not (P.gate x g)

abbrev pub fails_in : {G T X K O : Type 0} → Threads G T X K O → G → Option T → Bool
fails_in P g None = false
fails_in P g (Some r) = doing_fails P (P.doing r) g

abbrev pub inside_in : {G T X K O : Type 0} → Threads G T X K O → Option T → Bool
inside_in P None = false
inside_in P (Some r) = P.inside r

-- a thread that isn't there is in no block
abbrev pub stands_in : {T : Type 0} → (T → Place) → Option T → Place
stands_in stands None = Between
stands_in stands (Some r) = stands r

abbrev pub stepping_of : {G T X K O : Type 0} → Threads G T X K O → Stepping (Config G T) (Move K)
stepping_of P = record {
  start = P.first;
  mover = λ m. m.thread;
  step = step_of P;
  fails = λ c t. fails_in P c.store (slice_get c.threads t);
}

abbrev pub system_of : {G T X K O : Type 0} → Threads G T X K O → (List (Move K) → Bool) → System (Config G T) (Move K)
system_of P challenged = record {
  steps = stepping_of P;
  inside = λ c t. inside_in P (slice_get c.threads t);
  challenged = challenged;
}

-- where each thread of a configuration stands
abbrev pub place_in : {G T : Type 0} → (T → Place) → Config G T → ℕ → Place
place_in stands c t = stands_in stands (slice_get c.threads t)

-- x and then y from this store: where y fires there first, and then x, the outputs and the end are the same
abbrev pub Swaps : {G T X K O : Type 0} → Threads G T X K O → G → X → K → X → K → Type 0
Swaps {G} {T} {X} {K} {O} P g x k y j =
    (h e : G) (o q : O) → P.gate x g ≡ true → P.gate y g ≡ true → P.fits x k ≡ true → P.fits y j ≡ true
    → P.fires x g k ≡ Some (h, o) → P.gate y h ≡ true → P.fires y h j ≡ Some (e, q)
    → (i : G) × (P.fires y g j ≡ Some (i, q)) × (P.fires x i k ≡ Some (e, o))

-- What is asked of the actions: the conditions on movers of single calls, of which Right and Left tell the right and the
-- left movers. Met says that a call may come up in this store, Apart that two calls may, of two threads.
pub record Movers (G T X K O : Type 0) (P : Threads G T X K O) (Right Left : X → Type 0) (Met : G → X → Type 0) (Apart : G → X → X → Type 0) : Type 0 where
  -- choices for a step that looks at none
  pub idle : K
  -- a right mover before another action may be exchanged with it
  pub right_swaps : (g : G) (x y : X) (k j : K) → Right x → Apart g x y → Swaps P g x k y j
  -- and makes no true gate false
  pub right_keeps : (g h : G) (x y : X) (k : K) (o : O) → Right x → Apart g x y → P.gate x g ≡ true → P.gate y g ≡ true → P.fits x k ≡ true → P.fires x g k ≡ Some (h, o) → P.gate y h ≡ true
  -- a left mover behind another action may be exchanged with it
  pub left_swaps : (g : G) (x y : X) (k j : K) → Left x → Apart g x y → Swaps P g y j x k
  -- whose gate the other action doesn't make false
  pub left_kept : (g h : G) (x y : X) (j : K) (o : O) → Left x → Apart g x y → P.gate x g ≡ true → P.gate y g ≡ true → P.fits y j ≡ true → P.fires y g j ≡ Some (h, o) → P.gate x h ≡ true
  -- it makes no false gate true
  pub left_breaks : (g h : G) (x y : X) (k : K) (o : O) → Left x → Apart g x y → P.gate x g ≡ true → P.gate y g ≡ false → P.fits x k ≡ true → P.fires x g k ≡ Some (h, o) → P.gate y h ≡ false
  -- and never blocks
  pub left_fires : (g : G) (x : X) → Left x → Met g x → P.gate x g ≡ true → (k : K) × (h : G) × (o : O) × (P.fits x k ≡ true) × (P.fires x g k ≡ Some (h, o))

-- a thread of a configuration that the invariant holds of
abbrev pub IsIn : {G T : Type 0} → (Config G T → Type 0) → T → Type 0
IsIn {G} {T} Holds r = (c : Config G T) × (t : ℕ) × Holds c × (slice_get c.threads t ≡ Some r)

-- What is asked of where threads stand: the phases of a block, right movers first and then left movers.
pub record Phases (G T X K O : Type 0) (P : Threads G T X K O) (stands : T → Place) (Right Left : X → Type 0) (Holds : Config G T → Type 0) : Type 0 where
  pub inside_is : (r : T) → P.inside r ≡ is_inside (stands r)
  -- a call behind which a thread stands early is of a right mover
  pub early_right : (r : T) (x : X) (f : O → T) (o : O) → IsIn Holds r → P.doing r ≡ Calls x f → stands (f o) ≡ Early → Right x
  -- no thread stands early behind a spawn, nor late before one; a new thread stands between blocks
  pub early_spawn : (r s n : T) → IsIn Holds r → P.doing r ≡ Spawns s n → stands s ≢ Early
  pub late_spawn : (r s n : T) → IsIn Holds r → P.doing r ≡ Spawns s n → stands r ≢ Late
  pub new_between : (r s n : T) → IsIn Holds r → P.doing r ≡ Spawns s n → stands n ≡ Between
  -- a call before which a thread stands late is of a left mover
  pub late_left : (r : T) (x : X) (f : O → T) → IsIn Holds r → P.doing r ≡ Calls x f → stands r ≡ Late → Left x
  -- a thread that stands late stays late, or its block ends
  pub late_goes : (r s : T) → IsIn Holds r → P.doing r ≡ Goes s → stands r ≡ Late → stands s ≢ Early
  pub late_calls : (r : T) (x : X) (f : O → T) (o : O) → IsIn Holds r → P.doing r ≡ Calls x f → stands r ≡ Late → stands (f o) ≢ Early
  -- and can go on
  pub late_waits : (r : T) → IsIn Holds r → stands r ≡ Late → P.doing r ≢ Waits

-- What is asked of the invariant of all runs.
pub record Parted (G T X K O : Type 0) (P : Threads G T X K O) (Met : G → X → Type 0) (Apart : G → X → X → Type 0) (Holds : Config G T → Type 0) : Type 0 where
  pub holds_first : Holds P.first
  pub holds_on : (c d : Config G T) (m : Move K) → Holds c → step_of P c m ≡ Some d → Holds d
  -- of two threads that stand before calls, these may come up
  pub apart : (c : Config G T) (t u : ℕ) (r q : T) (x y : X) (f e : O → T)
      → Holds c → t ≢ u → slice_get c.threads t ≡ Some r → slice_get c.threads u ≡ Some q → P.doing r ≡ Calls x f → P.doing q ≡ Calls y e → Apart c.store x y
  pub met : (c : Config G T) (t : ℕ) (r : T) (x : X) (f : O → T) → Holds c → slice_get c.threads t ≡ Some r → P.doing r ≡ Calls x f → Met c.store x
