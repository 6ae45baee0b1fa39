-- Part of the claim: docs/CLAIM.md.
-- What stands at a place of a procedure's body. A place is the number of a statement, as civl_tree numbers them. A plain
-- program's statements are those that aren't `yield`, `commit` or `intro`: these are passed over.
use Rattle.std.specs.Prelude.{ℕ, ◌+◌, Bool, true, false, nat_lt, nat_eq, if◌then◌else◌, Option, None, Some, List, [], ◌∷◌, map}
use Rattle.civl_tree.specs.declared.stmt.Stmt.{Stmt, out-Stmt}
use Rattle.civl_tree.specs.declared.stmt.Stmt.TheOpen.{Stmt-F, If, While, YieldLoop, RankLoop, Yield, Commit, Intro}
use Rattle.civl_tree.specs.declared.stmt.Stmt.TheFolds.{para-Stmt}
use Rattle.civl_tree.specs.Numbering.{size_of, sizes_of}

-- whether a plain program has no such statement
abbrev pub skip_layer : Stmt-F Stmt → Bool
skip_layer (Yield e) = true
skip_layer Commit = true
skip_layer (Intro x e) = true
skip_layer _ = false

abbrev pub is_skipped : Stmt → Bool
is_skipped s = skip_layer (out-Stmt s)

-- a statement of a plain program, its number, and the place that comes after it
pub record Spot : Type 0 where
  pub number : ℕ
  pub stmt : Stmt
  pub next : ℕ

-- where these statements begin, numbered from `at`, with the place `next` behind them
abbrev pub start_of : List Stmt → ℕ → ℕ → ℕ
start_of [] at next = next
start_of (s ∷ ss) at next = at

-- the first statement of a plain program among these, or what comes after them
abbrev pub first_in : List Stmt → ℕ → ℕ → Option Spot → Option Spot
first_in [] at next after = after
first_in (s ∷ ss) at next after =
    if is_skipped s then first_in ss (at + size_of s) next after
    else Some (record { number = at; stmt = s; next = start_of ss (at + size_of s) next })

-- what stands at a place inside a statement: the statement, its number, the place and the statement behind it, the place
abbrev pub Inside : Type 0
Inside = Stmt → ℕ → ℕ → Option Spot → ℕ → Option Spot

abbrev pub statements : List (Stmt × Inside) → List Stmt
statements ps = map (λ p. p.0) ps

-- the first statement of a plain program from the place `wanted` on, among statements that are numbered from `at`
abbrev pub spot_in : List (Stmt × Inside) → ℕ → ℕ → Option Spot → ℕ → Option Spot
spot_in [] at next after wanted = after
spot_in (p ∷ ps) at next after wanted =
    if nat_lt wanted (at + size_of p.0)
    then (if nat_eq wanted at
    then first_in (p.0 ∷ statements ps) at next after
    else p.1 p.0 at (start_of (statements ps) (at + size_of p.0) next) (first_in (statements ps) (at + size_of p.0) next after) wanted)
    else spot_in ps (at + size_of p.0) next after wanted

-- a loop, which comes after its body
abbrev pub loop_spot : Stmt → ℕ → ℕ → Option Spot
loop_spot s at next = Some (record { number = at; stmt = s; next = next })

-- one layer: after a branch comes what is behind the `if`, after a loop's body the loop
abbrev pub inside_step : Stmt-F (Stmt × Inside) → Inside
inside_step (If e a b) s at next after wanted =
    if nat_lt wanted (at + 1 + sizes_of (statements a)) then spot_in a (at + 1) next after wanted
    else spot_in b (at + 1 + sizes_of (statements a)) next after wanted
inside_step (While e a) s at next after wanted = spot_in a (at + 1) at (loop_spot s at next) wanted
inside_step (YieldLoop e i a) s at next after wanted = spot_in a (at + 1) at (loop_spot s at next) wanted
inside_step (RankLoop e r i a) s at next after wanted = spot_in a (at + 1) at (loop_spot s at next) wanted
inside_step _ s at next after wanted = after

abbrev pub inside_of : Stmt → Inside
inside_of = para-Stmt Inside inside_step

abbrev pub with_inside : Stmt → Stmt × Inside
with_inside s = (s, inside_of s)

-- the same over statements
abbrev pub spot_among : List Stmt → ℕ → ℕ → Option Spot → ℕ → Option Spot
spot_among ss at next after wanted = spot_in (map with_inside ss) at next after wanted

-- the first statement of a plain program from a place of a body on; `None` where no statement is left
abbrev pub spot_at : List Stmt → ℕ → Option Spot
spot_at body wanted = spot_among body 0 (sizes_of body) None wanted
