-- The cuts of the program whose variables are named in the examples. Nothing is said of what is held there.
use Rattle.std.proofs.Common.{◌≡◌, true, false, [], ◌∷◌, ◌++◌, Some, refl}
use Rattle.std.specs.Prelude.{slice_get}
use Rattle.civl_tree.specs.declared.expr.Expr as expr
use Rattle.civl_tree.specs.declared.stmt.Stmt.{the_lemmas as of_stmt}
use Rattle.civl_tree.specs.declared.stmt.Stmt as stmt
use Rattle.civl_tree.specs.Numbering.{numbered}
use Rattle.civl_meaning.specs.Rest.{rest_at}
use Rattle.civl_layers.specs.declared.cut.Cut.{Cut}
use Rattle.civl_layers.specs.declared.cut.CutKind.TheVariants as kind
use Rattle.civl_layers.specs.Cuts.{cuts_among, proc_cuts}
use Rattle.civl_conditions.specs.paths.Flows.{Flow, flow_all}
use Rattle.civl_conditions.specs.Permissions.{held_at}
use Rattle.civl_condition_laws.specs.examples.Naming.{i, picks, goes_down, goes_on, loop, picker, picking}
use Rattle.civl_condition_laws.proofs.Going.{flows}
use Rattle.civl_condition_laws.proofs.Forms.{sizes, inners, rests}
use Rattle.civl_condition_laws.proofs.Facts.{IsCut, rank_flow, resting_flow}

-- ---- the loop

abbrev pub head : Cut
head = record { statement = 1; kind = kind.RankLoop }

abbrev pub from_head : Flow
from_head = record { passed = (1, loop) ∷ (2, goes_down) ∷ (3, picks) ∷ []; ends = 1 ∷ 4 ∷ []; onward = false }

head_is : slice_get (proc_cuts picker) 1 ≡ Some head
unfolding cuts_among
head_is = simp (inners, of_stmt)

rest_there : rest_at picker.body 1 ≡ (1, loop) ∷ (4, stmt.Yield expr.True) ∷ (5, picks) ∷ (6, stmt.Commit) ∷ []
rest_there = simp rests

inside : flow_all (numbered 2 (goes_down ∷ picks ∷ []) ++ (1, loop) ∷ (4, stmt.Yield expr.True) ∷ (5, picks) ∷ (6, stmt.Commit) ∷ []) ≡ record { passed = (2, goes_down) ∷ (3, picks) ∷ []; ends = 1 ∷ []; onward = false }
inside = simp (flows, sizes)

behind : flow_all ((4, stmt.Yield expr.True) ∷ (5, picks) ∷ (6, stmt.Commit) ∷ []) ≡ record { passed = []; ends = 4 ∷ []; onward = false }
behind = simp flows

pub is_head : IsCut picking 0 1 picker head from_head (held_at picking picker 1)
is_head = record {
  proc_is = refl;
  cut_is = head_is;
  paths_are = rank_flow picker 1 _ _ _ goes_on i expr.True (goes_down ∷ picks ∷ []) rest_there inside behind;
  held_are = refl;
}

-- ---- the yield

abbrev pub pause : Cut
pause = record { statement = 4; kind = kind.Yield }

abbrev pub from_pause : Flow
from_pause = record { passed = (5, picks) ∷ (6, stmt.Commit) ∷ []; ends = []; onward = true }

pause_is : slice_get (proc_cuts picker) 2 ≡ Some pause
unfolding cuts_among
pause_is = simp (inners, of_stmt)

rest_later : rest_at picker.body 4 ≡ (4, stmt.Yield expr.True) ∷ (5, picks) ∷ (6, stmt.Commit) ∷ []
rest_later = simp rests

later : flow_all ((5, picks) ∷ (6, stmt.Commit) ∷ []) ≡ from_pause
later = simp flows

pub is_pause : IsCut picking 0 2 picker pause from_pause (held_at picking picker 2)
is_pause = record {
  proc_is = refl;
  cut_is = pause_is;
  paths_are = resting_flow picker 4 _ _ expr.True rest_later later;
  held_are = refl;
}
