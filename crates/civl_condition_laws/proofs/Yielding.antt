-- Paths from the yield of the examples to the next one.
use Rattle.std.proofs.Common.{◌≡◌, ℕ, false, List, [], ◌∷◌, Some, refl, ◌∙◌}
use Rattle.std.specs.Prelude.{codes, slice_get}
use Rattle.civl_bits.specs.declared.value.Value.{Value}
use Rattle.civl_tree.specs.declared.expr.Expr.{Expr}
use Rattle.civl_tree.specs.declared.stmt.Stmt.{the_lemmas as of_stmt}
use Rattle.civl_tree.specs.declared.stmt.Stmt as stmt
use Rattle.civl_tree.specs.declared.program.Proc.{Proc}
use Rattle.civl_tree.specs.Numbering.{statements_of}
use Rattle.civl_meaning.specs.Rest.{rest_at}
use Rattle.civl_meaning.specs.declared.config.Plain.{Plain}
use Rattle.civl_layers.specs.declared.cut.Cut.{Cut}
use Rattle.civl_layers.specs.declared.cut.CutKind.TheVariants as kind
use Rattle.civl_layers.specs.Cuts.{cuts_among, proc_cuts}
use Rattle.civl_firing.specs.examples.Written.{proc}
use Rattle.civl_linear.specs.Held.{traced_proc}
use Rattle.civl_conditions.specs.paths.Paths.{Progress, pass_all, path_from}
use Rattle.civl_conditions.specs.paths.Flows.{Flow, flow_all}
use Rattle.civl_conditions.specs.declared.condition.Condition.TheVariants.{Path}
use Rattle.civl_conditions.specs.declared.condition.Part.{Part}
use Rattle.civl_conditions.specs.Violated.{violated}
use Rattle.civl_condition_laws.specs.examples.Short.{refines_with}
use Rattle.civl_condition_laws.specs.examples.Blocks.{params, set}
use Rattle.civl_condition_laws.specs.examples.Yields.{yielding}
use Rattle.civl_condition_laws.proofs.Going.{flows}
use Rattle.civl_condition_laws.proofs.Forms.{inners, traces, rests}
use Rattle.civl_condition_laws.proofs.Facts.{IsCut, choices_in, path_at, begun_by, path_fails_by, from_resting, resting_flow, held_by}

abbrev pub yielder : Expr → Expr → Expr → Proc
yielder inv e later = proc (codes "Do") params [] (refines_with (codes "Top") []) [] (stmt.Yield inv ∷ set e ∷ stmt.Yield later ∷ stmt.Commit ∷ [])

abbrev pub first : Cut
first = record { statement = 0; kind = kind.Yield }

module _ (inv e later : Expr) where
  rest : rest_at (yielder inv e later).body 0 ≡ (0, stmt.Yield inv) ∷ (1, set e) ∷ (2, stmt.Yield later) ∷ (3, stmt.Commit) ∷ []
  rest = simp rests

  behind : flow_all ((1, set e) ∷ (2, stmt.Yield later) ∷ (3, stmt.Commit) ∷ []) ≡ record { passed = (1, set e) ∷ []; ends = 2 ∷ []; onward = false }
  behind = simp flows

  cut : slice_get (proc_cuts (yielder inv e later)) 1 ≡ Some first
  unfolding cuts_among
  cut = simp (inners, of_stmt)

  stmts : statements_of (yielder inv e later).body ≡ stmt.Yield inv ∷ set e ∷ stmt.Yield later ∷ stmt.Commit ∷ []
  stmts = simp inners

  trace : traced_proc (yielding inv e later) (yielder inv e later) ≡ record { after = false ∷ []; befores = (false ∷ []) ∷ (false ∷ []) ∷ (false ∷ []) ∷ (false ∷ []) ∷ []; losses = false ∷ false ∷ false ∷ false ∷ [] }
  trace = simp traces

  -- the statements on the paths from there
  abbrev pub paths : Flow
  paths = record { passed = (1, set e) ∷ []; ends = 2 ∷ []; onward = false }

  is_first : IsCut (yielding inv e later) 0 1 (yielder inv e later) first paths []
  is_first = record {
    proc_is = refl;
    cut_is = cut;
    paths_are = resting_flow (yielder inv e later) 0 _ _ inv rest behind;
    held_are = held_by (yielding inv e later) (yielder inv e later) 1 _ _ _ refl stmts trace ∙ simp of_stmt;
  }

  pub yield_row : (part : Part) (values : List Value) → violated (yielding inv e later) (Path part 1 0 1) values ≡ path_fails_by (yielding inv e later) 1 part (yielder inv e later) 1 first [] (begun_by (yielding inv e later) 1 (yielder inv e later) first (choices_in (yielding inv e later) 1 paths.passed) values)
  yield_row part values = path_at (yielding inv e later) 1 0 1 (yielder inv e later) first paths [] is_first part values

  pub yield_path : (plain : Plain) (chosen : ℕ → List Value) (p : Progress) →
      path_from (record { plain = plain; proc = yielder inv e later; chosen = chosen }) first p
      ≡ pass_all (record { plain = plain; proc = yielder inv e later; chosen = chosen }) ((1, set e) ∷ (2, stmt.Yield later) ∷ (3, stmt.Commit) ∷ []) p
  yield_path plain chosen p = from_resting (record { plain = plain; proc = yielder inv e later; chosen = chosen }) 0 inv _ p rest
