-- What stands at the places of a body with branches and loops:
--
--   0  x := true;
--   1  if a {
--   2    yield true;
--   3    while b {
--   4      commit;
--   5      assert c;
--   6      intro g := c; }
--      } else {
--   7    call f() -> (); }
--   8  while yield b inv true {
--   9    yield true; }
--  10  while rank b by x inv true {
--  11    spawn f(); }
--  12  commit;
use Rattle.std.specs.Prelude.{ℕ, ◌≡◌, List, [], ◌∷◌, map, Option, Some, None, codes}
use Rattle.civl_tree.specs.declared.expr.Expr as expr
use Rattle.civl_tree.specs.declared.stmt.Stmt.{Stmt}
use Rattle.civl_tree.specs.declared.stmt.Stmt as stmt
use Rattle.civl_tree.specs.declared.program.Proc.{Proc}
use Rattle.civl_meaning.specs.declared.table.BodyPlaces.{BodyPlaces}
use Rattle.civl_meaning.specs.Places.{Spot, spot_at}
use Rattle.civl_meaning.specs.Found.{spot}
use Rattle.civl_meaning.specs.Table.{entry, ArePlacesOf}
use Rattle.civl_tree.specs.Numbering.{sizes_of}
use Rattle.civl_firing.specs.examples.Written.{named, name, call}

abbrev pub nested : List Stmt
nested =
    stmt.Assign (named (codes "x")) expr.True
    ∷ stmt.If (name (codes "a")) (
    stmt.Yield expr.True
    ∷ stmt.While (name (codes "b")) (stmt.Commit ∷ stmt.Assert (name (codes "c")) ∷ stmt.Intro (named (codes "g")) (name (codes "c")) ∷ [])
    ∷ []
    ) (call (codes "f") [] [] ∷ [])
    ∷ stmt.YieldLoop (name (codes "b")) expr.True (stmt.Yield expr.True ∷ [])
    ∷ stmt.RankLoop (name (codes "b")) (name (codes "x")) expr.True (stmt.Spawn (named (codes "f")) [] ∷ [])
    ∷ stmt.Commit
    ∷ []

-- the number of what stands somewhere, and the place that comes after it
abbrev pub numbers : Option Spot → Option (ℕ × ℕ)
numbers None = None
numbers (Some s) = Some (s.number, s.next)

abbrev pub ThirteenStatements : Type 0
ThirteenStatements = sizes_of nested ≡ 13

-- from each place on, the first statement of the plain program and the place behind it: after the branch's last
-- statement, 3, comes 8, behind the `if`; after the loop's last, 5, the loop again
abbrev pub PlacesInOrder : Type 0
PlacesInOrder =
    map (λ place. numbers (spot_at nested place)) (0 ∷ 1 ∷ 2 ∷ 3 ∷ 4 ∷ 5 ∷ 6 ∷ [])
    ≡ Some (0, 1) ∷ Some (1, 8) ∷ Some (3, 8) ∷ Some (3, 8) ∷ Some (5, 6) ∷ Some (5, 6) ∷ Some (3, 8) ∷ []

abbrev pub PlacesBehind : Type 0
PlacesBehind =
    map (λ place. numbers (spot_at nested place)) (7 ∷ 8 ∷ 9 ∷ 10 ∷ 11 ∷ 12 ∷ 13 ∷ [])
    ≡ Some (7, 8) ∷ Some (8, 10) ∷ Some (8, 10) ∷ Some (10, 12) ∷ Some (11, 10) ∷ None ∷ None ∷ []

-- a table of a procedure with this body finds the same: the entries of the two `yield`s, 2 and 9, of the `commit`, 4, and of
-- the `intro`, 6, are what comes after them, and at the last `commit`, 12, and at the exit there is nothing
abbrev pub TableInOrder : Type 0
TableInOrder =
    (proc : Proc) (places : BodyPlaces) → proc.body ≡ nested → ArePlacesOf proc places →
    map (λ place. numbers (spot (entry places.found.items place))) (0 ∷ 1 ∷ 2 ∷ 3 ∷ 4 ∷ 5 ∷ 6 ∷ [])
    ≡ Some (0, 1) ∷ Some (1, 8) ∷ Some (3, 8) ∷ Some (3, 8) ∷ Some (5, 6) ∷ Some (5, 6) ∷ Some (3, 8) ∷ []

abbrev pub TableBehind : Type 0
TableBehind =
    (proc : Proc) (places : BodyPlaces) → proc.body ≡ nested → ArePlacesOf proc places →
    map (λ place. numbers (spot (entry places.found.items place))) (7 ∷ 8 ∷ 9 ∷ 10 ∷ 11 ∷ 12 ∷ 13 ∷ [])
    ≡ Some (7, 8) ∷ Some (8, 10) ∷ Some (8, 10) ∷ Some (10, 12) ∷ Some (11, 10) ∷ None ∷ None ∷ []
