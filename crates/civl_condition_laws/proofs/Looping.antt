-- Paths from the yield loop of the examples.
use Rattle.std.proofs.Common.{◌≡◌, ℕ, true, false, List, [], ◌∷◌, Some, refl, ◌∙◌}
use Rattle.std.specs.Prelude.{codes, slice_get}
use Rattle.civl_bits.specs.declared.value.Value.{Value}
use Rattle.civl_tree.specs.declared.expr.Expr.{Expr}
use Rattle.civl_tree.specs.declared.stmt.Stmt.{the_lemmas as of_stmt}
use Rattle.civl_tree.specs.declared.stmt.Stmt as stmt
use Rattle.civl_tree.specs.declared.action.Action.{Action}
use Rattle.civl_tree.specs.declared.program.Proc.{Proc}
use Rattle.civl_tree.specs.Numbering.{statements_of}
use Rattle.civl_meaning.specs.Rest.{rest_at}
use Rattle.civl_meaning.specs.declared.config.Plain.{Plain}
use Rattle.civl_layers.specs.declared.cut.Cut.{Cut}
use Rattle.civl_layers.specs.declared.cut.CutKind.TheVariants as kind
use Rattle.civl_layers.specs.Cuts.{cuts_among, proc_cuts}
use Rattle.civl_firing.specs.examples.Written.{proc}
use Rattle.civl_linear.specs.Held.{traced_proc}
use Rattle.civl_conditions.specs.paths.Paths.{Progress, from_loop, path_from}
use Rattle.civl_conditions.specs.paths.Flows.{Flow, flow_all}
use Rattle.civl_conditions.specs.declared.condition.Condition.TheVariants.{Path}
use Rattle.civl_conditions.specs.declared.condition.Part.{Part}
use Rattle.civl_conditions.specs.Violated.{violated}
use Rattle.civl_condition_laws.specs.examples.Short.{refines_with}
use Rattle.civl_condition_laws.specs.examples.Blocks.{b, params, set}
use Rattle.civl_condition_laws.specs.examples.Looping.{loop, looping}
use Rattle.civl_condition_laws.proofs.Going.{flows}
use Rattle.civl_condition_laws.proofs.Forms.{inners, traces, rests}
use Rattle.civl_condition_laws.proofs.Facts.{IsCut, choices_in, path_at, begun_by, path_fails_by, from_yielding, yielding_flow, held_by}

abbrev pub looper : Expr → Expr → Expr → Proc
looper inv e fact = proc (codes "Do") params [] (refines_with (codes "Top") []) [] (loop inv e ∷ stmt.Assert fact ∷ stmt.Commit ∷ [])

abbrev pub head : Cut
head = record { statement = 0; kind = kind.YieldLoop }

module _ (inv e fact : Expr) where
  rest : rest_at (looper inv e fact).body 0 ≡ (0, loop inv e) ∷ (2, stmt.Assert fact) ∷ (3, stmt.Commit) ∷ []
  rest = simp rests

  inside : flow_all ((1, set e) ∷ (0, loop inv e) ∷ (2, stmt.Assert fact) ∷ (3, stmt.Commit) ∷ []) ≡ record { passed = (1, set e) ∷ []; ends = 0 ∷ []; onward = false }
  inside = simp flows

  behind : flow_all ((2, stmt.Assert fact) ∷ (3, stmt.Commit) ∷ []) ≡ record { passed = (2, stmt.Assert fact) ∷ (3, stmt.Commit) ∷ []; ends = []; onward = true }
  behind = simp flows

  cut : slice_get (proc_cuts (looper inv e fact)) 1 ≡ Some head
  unfolding cuts_among
  cut = simp (inners, of_stmt)

  stmts : statements_of (looper inv e fact).body ≡ loop inv e ∷ set e ∷ stmt.Assert fact ∷ stmt.Commit ∷ []
  stmts = simp inners

  trace : (t : Action) → traced_proc (looping t inv e fact) (looper inv e fact) ≡ record { after = false ∷ []; befores = (false ∷ []) ∷ (false ∷ []) ∷ (false ∷ []) ∷ (false ∷ []) ∷ []; losses = false ∷ false ∷ false ∷ false ∷ [] }
  trace t = simp traces

  -- the statements on the paths from there
  abbrev pub paths : Flow
  paths = record { passed = (0, loop inv e) ∷ (1, set e) ∷ (2, stmt.Assert fact) ∷ (3, stmt.Commit) ∷ []; ends = 0 ∷ []; onward = true }

  pub is_head : (t : Action) → IsCut (looping t inv e fact) 0 1 (looper inv e fact) head paths []
  is_head t = record {
    proc_is = refl;
    cut_is = cut;
    paths_are = yielding_flow (looper inv e fact) 0 _ _ _ b inv (set e ∷ []) rest inside behind;
    held_are = held_by (looping t inv e fact) (looper inv e fact) 1 _ _ _ refl stmts (trace t) ∙ simp of_stmt;
  }

  pub loop_row : (t : Action) (part : Part) (values : List Value) → violated (looping t inv e fact) (Path part 1 0 1) values ≡ path_fails_by (looping t inv e fact) 1 part (looper inv e fact) 1 head [] (begun_by (looping t inv e fact) 1 (looper inv e fact) head (choices_in (looping t inv e fact) 1 paths.passed) values)
  loop_row t part values = path_at (looping t inv e fact) 1 0 1 (looper inv e fact) head paths [] (is_head t) part values

  pub loop_path : (plain : Plain) (chosen : ℕ → List Value) (p : Progress) →
      path_from (record { plain = plain; proc = looper inv e fact; chosen = chosen }) head p
      ≡ from_loop (record { plain = plain; proc = looper inv e fact; chosen = chosen }) b (set e ∷ []) ((0, loop inv e) ∷ (2, stmt.Assert fact) ∷ (3, stmt.Commit) ∷ []) p
  loop_path plain chosen p = from_yielding (record { plain = plain; proc = looper inv e fact; chosen = chosen }) 0 b inv (set e ∷ []) ((2, stmt.Assert fact) ∷ (3, stmt.Commit) ∷ []) p rest
