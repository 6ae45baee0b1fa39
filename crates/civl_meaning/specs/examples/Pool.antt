-- A pool of permissions, held by a linear global.
--
--   civl 1; layers 1; permissions 2;
--   global linear pool : word(4) layers 0 to 1;
--   init (pool == 0:4);
--   action Drop(take t : word(2)) -> () choose () layers 0 to 1 atomic
--     gate true guard true { pool := (pool | (1:4 << widen(t, 4))); }
--   proc Main(take t : word(2)) -> () root { call Drop(t) -> (); }
--   thread Main(1:2);
use Rattle.std.specs.Prelude.{◌≡◌, true, false, List, [], ◌∷◌, None, codes}
use Rattle.civl_tree.specs.declared.expr.Expr.{Expr}
use Rattle.civl_tree.specs.declared.expr.Expr as expr
use Rattle.civl_tree.specs.declared.expr.Two.TheVariants.{BitOr, Shl, Eq}
use Rattle.civl_tree.specs.declared.expr.Sort.TheVariants as sort
use Rattle.civl_tree.specs.declared.action.Mode.TheVariants.{Val, Lend, Take}
use Rattle.civl_tree.specs.declared.action.Param.{Param}
use Rattle.civl_tree.specs.declared.program.Program.{Program}
use Rattle.civl_meaning.specs.declared.config.State.TheVariants.{After}
use Rattle.civl_meaning.specs.Step.{start}
use Rattle.civl_meaning.specs.Run.{run_of}
use Rattle.civl_meaning.specs.Layers.{lowest}
use Rattle.civl_meaning.specs.Permissions.{pairwise_disjoint, of_params}
use Rattle.civl_meaning.specs.Initial.{initial_permissions, IsInitial}
use Rattle.civl_firing.specs.examples.Written.{word, named, name, lit, param, update, action, root, proc, thread, call, holding}
use Rattle.civl_meaning.specs.examples.Moves.{moves_of}

abbrev pool : Expr
pool = name (codes "pool")

abbrev taken : List Param
taken = param Take (codes "t") (sort.Word 2) ∷ []

-- with any expression for `init`
abbrev pub pooled : Expr → Program
pooled init = record {
  version = 1;
  layers = 1;
  permissions = 2;
  globals = record { linear = true; name = named (codes "pool"); sort = sort.Word 4; first = 0; last = 1 } ∷ [];
  init = init;
  invariants = [];
  actions =
      action (codes "Drop") taken [] [] 0 1 expr.True expr.True (
      update (codes "pool") (expr.Two BitOr pool (expr.Two Shl (lit 1 4) (expr.Widen (name (codes "t")) 4))) ∷ []
      )
      ∷ [];
  procs = proc (codes "Main") taken [] root [] (call (codes "Drop") (name (codes "t") ∷ []) [] ∷ []) ∷ [];
  threads = thread (codes "Main") (lit 1 2 ∷ []) ∷ [];
}

abbrev pub empty_pool : Program
empty_pool = pooled (expr.Two Eq pool (lit 0 4))

-- where the pool is empty, the thread may hold permission 1
abbrev pub EmptyPoolIsInitial : Type 0
EmptyPoolIsInitial = IsInitial empty_pool (holding (word 4 0 ∷ []))

-- a store where `init` is false, or that isn't of the globals' sorts, is not initial
abbrev pub OtherPoolsAreNot : Type 0
OtherPoolsAreNot = (IsInitial empty_pool (holding (word 4 1 ∷ [])) → ⊥) × (IsInitial (pooled expr.True) (holding (word 3 0 ∷ [])) → ⊥) × (IsInitial (pooled expr.True) (holding []) → ⊥)

-- what the pool 13, which is 1101 in binary, and the thread carry
abbrev pub PoolCarriesItsBits : Type 0
PoolCarriesItsBits = initial_permissions (pooled expr.True) (holding (word 4 13 ∷ [])) ≡ (0 ∷ 2 ∷ 3 ∷ []) ∷ (1 ∷ []) ∷ []

-- so it is initial, and the pool 2, which carries the thread's permission, is not
abbrev pub ThirteenIsInitial : Type 0
ThirteenIsInitial = IsInitial (pooled expr.True) (holding (word 4 13 ∷ []))

abbrev pub TwoIsNot : Type 0
TwoIsNot = IsInitial (pooled expr.True) (holding (word 4 2 ∷ [])) → ⊥

-- the permission goes back
abbrev pub DropRuns : Type 0
DropRuns =
    (run_of (lowest empty_pool) (moves_of (0 ∷ 0 ∷ 0 ∷ [])) 0 (start (lowest empty_pool) (holding (word 4 8 ∷ []))))
    ≡ (3, None, record { store = holding (word 4 10 ∷ []); threads = record { callee = 0; args = word 2 1 ∷ []; state = After } ∷ [] })

-- plain values carry nothing
abbrev pub PlainValuesCarryNothing : Type 0
PlainValuesCarryNothing =
    of_params (param Val (codes "a") (sort.Word 2) ∷ param Lend (codes "b") (sort.Word 2) ∷ param Take (codes "c") (sort.Word 2) ∷ []) (word 2 3 ∷ word 2 1 ∷ word 2 2 ∷ [])
    ≡ (1 ∷ []) ∷ (2 ∷ []) ∷ []

-- neighbours, the first and the last, and the empty set
abbrev pub DisjointSets : Type 0
DisjointSets =
    pairwise_disjoint ((0 ∷ 2 ∷ []) ∷ [] ∷ (1 ∷ []) ∷ [] ∷ (3 ∷ []) ∷ []) ∷ pairwise_disjoint ((0 ∷ []) ∷ (0 ∷ []) ∷ []) ∷ pairwise_disjoint ((0 ∷ 2 ∷ []) ∷ (1 ∷ []) ∷ (3 ∷ 2 ∷ []) ∷ []) ∷ []
    ≡ true ∷ false ∷ false ∷ []
