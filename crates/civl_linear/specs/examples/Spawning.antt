-- Spawns that take a permission: a root that runs one procedure twice with its permission, and one whose permission was
-- lent.
use Rattle.std.specs.Prelude.{ℕ, ◌≡◌, Some, codes, List, [], ◌∷◌}
use Rattle.civl_tree.specs.declared.stmt.Stmt as stmt
use Rattle.civl_tree.specs.declared.stmt.Stmt.{Stmt}
use Rattle.civl_tree.specs.declared.action.Mode.{Mode}
use Rattle.civl_tree.specs.declared.action.Mode.TheVariants.{Lend, Take}
use Rattle.civl_tree.specs.declared.program.Program.{Program}
use Rattle.civl_tree.specs.examples.SpellingPrograms.{pool}
use Rattle.civl_tree.specs.examples.RulesFlag.{named, name, root, call, bare}
use Rattle.civl_tree.specs.rules.Rules.{refusal_by}
use Rattle.civl_linear.specs.LinearRules.{linear_rules}
use Rattle.civl_linear.specs.examples.Dock.{param, taking}

-- a program whose second procedure, item 2, has one parameter of this mode
abbrev pub spawning : Mode → List Stmt → Program
spawning mode body = record bare {
  version = 2;
  procs = record (root (codes "Use") []) { params = param Take (codes "t") ∷ [] } ∷ record (root (codes "Main") body) { params = param mode (codes "t") ∷ [] } ∷ [];
}

abbrev pub spawn_use : Stmt
spawn_use = stmt.Spawn (named (codes "Use")) (name (codes "t") ∷ [])

-- the first rule that it breaks has this code, item and statement
abbrev pub Refuses : Program → ℕ → ℕ → ℕ → Type 0
Refuses program code item statement = refusal_by linear_rules program ≡ Some (record { code = code; item = item; statement = statement })

abbrev pub SpawnsTake : Type 0
SpawnsTake = Refuses (spawning Take (spawn_use ∷ spawn_use ∷ [])) 40 2 1 × Refuses (spawning Lend (spawn_use ∷ [])) 42 2 1

abbrev pub drop : Stmt
drop = call (codes "Drop") (name (codes "t") ∷ []) []

-- the pool of permissions whose root has this body; and the same with an action of two lent permissions
abbrev pub pool_of : List Stmt → Program
pool_of body = record pool { procs = record (root (codes "Main") body) { params = param Take (codes "t") ∷ [] } ∷ [] }

abbrev pub pool_of_two : List Stmt → Program
pool_of_two body = record (pool_of body) { actions = taking (codes "Drop") (param Take (codes "t") ∷ []) ∷ taking (codes "Two") (param Lend (codes "a") ∷ param Lend (codes "c") ∷ []) ∷ [] }

-- a permission that is dropped twice, and one that stands for two
abbrev pub PoolDrops : Type 0
PoolDrops =
    Refuses (pool_of (drop ∷ drop ∷ [])) 40 3 1
    × Refuses (pool_of_two (call (codes "Two") (name (codes "t") ∷ name (codes "t") ∷ []) [] ∷ [])) 41 4 0
