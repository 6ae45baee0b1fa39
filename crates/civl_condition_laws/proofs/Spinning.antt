-- Paths from the loop with a rank of the examples.
use Rattle.std.proofs.Common.{◌≡◌, ℕ, true, false, List, [], ◌∷◌, Some, refl, ◌∙◌}
use Rattle.std.specs.Prelude.{slice_get}
use Rattle.civl_bits.specs.declared.value.Value.{Value}
use Rattle.civl_tree.specs.declared.expr.Expr.{Expr}
use Rattle.civl_tree.specs.declared.stmt.Stmt.{the_lemmas as of_stmt}
use Rattle.civl_tree.specs.declared.stmt.Stmt as stmt
use Rattle.civl_tree.specs.Numbering.{statements_of}
use Rattle.civl_meaning.specs.Rest.{rest_at}
use Rattle.civl_meaning.specs.declared.config.Plain.{Plain}
use Rattle.civl_layers.specs.declared.cut.Cut.{Cut}
use Rattle.civl_layers.specs.declared.cut.CutKind.TheVariants as kind
use Rattle.civl_layers.specs.Cuts.{cuts_among, proc_cuts}
use Rattle.civl_linear.specs.Held.{traced_proc}
use Rattle.civl_conditions.specs.paths.Paths.{Progress, from_loop, path_from}
use Rattle.civl_conditions.specs.paths.Flows.{Flow, flow_all}
use Rattle.civl_conditions.specs.declared.condition.Condition.TheVariants.{Path}
use Rattle.civl_conditions.specs.declared.condition.Part.{Part}
use Rattle.civl_conditions.specs.Violated.{violated}
use Rattle.civl_condition_laws.specs.examples.Spinning.{i, goes_on, next_is, loop, spinner, spinning}
use Rattle.civl_condition_laws.proofs.Going.{flows}
use Rattle.civl_condition_laws.proofs.Forms.{inners, traces, rests}
use Rattle.civl_condition_laws.proofs.Facts.{IsCut, choices_in, path_at, begun_by, path_fails_by, from_rank, rank_flow, held_by}

abbrev pub head : Cut
head = record { statement = 0; kind = kind.RankLoop }

module _ (inv next fact : Expr) where
  rest : rest_at (spinner inv next fact).body 0 ≡ (0, loop inv next) ∷ (2, stmt.Assert fact) ∷ (3, stmt.Commit) ∷ []
  rest = simp rests

  inside : flow_all ((1, next_is next) ∷ (0, loop inv next) ∷ (2, stmt.Assert fact) ∷ (3, stmt.Commit) ∷ []) ≡ record { passed = (1, next_is next) ∷ []; ends = 0 ∷ []; onward = false }
  inside = simp flows

  behind : flow_all ((2, stmt.Assert fact) ∷ (3, stmt.Commit) ∷ []) ≡ record { passed = (2, stmt.Assert fact) ∷ (3, stmt.Commit) ∷ []; ends = []; onward = true }
  behind = simp flows

  cut : slice_get (proc_cuts (spinner inv next fact)) 1 ≡ Some head
  unfolding cuts_among
  cut = simp (inners, of_stmt)

  stmts : statements_of (spinner inv next fact).body ≡ loop inv next ∷ next_is next ∷ stmt.Assert fact ∷ stmt.Commit ∷ []
  stmts = simp inners

  trace : traced_proc (spinning inv next fact) (spinner inv next fact) ≡ record { after = false ∷ false ∷ []; befores = (false ∷ false ∷ []) ∷ (false ∷ false ∷ []) ∷ (false ∷ false ∷ []) ∷ (false ∷ false ∷ []) ∷ []; losses = false ∷ false ∷ false ∷ false ∷ [] }
  trace = simp traces

  -- the statements on the paths from there
  abbrev pub paths : Flow
  paths = record { passed = (0, loop inv next) ∷ (1, next_is next) ∷ (2, stmt.Assert fact) ∷ (3, stmt.Commit) ∷ []; ends = 0 ∷ []; onward = true }

  pub is_head : IsCut (spinning inv next fact) 0 1 (spinner inv next fact) head paths []
  is_head = record {
    proc_is = refl;
    cut_is = cut;
    paths_are = rank_flow (spinner inv next fact) 0 _ _ _ goes_on i inv (next_is next ∷ []) rest inside behind;
    held_are = held_by (spinning inv next fact) (spinner inv next fact) 1 _ _ _ refl stmts trace ∙ simp of_stmt;
  }

  pub spin_row : (part : Part) (values : List Value) → violated (spinning inv next fact) (Path part 1 0 1) values ≡ path_fails_by (spinning inv next fact) 1 part (spinner inv next fact) 1 head [] (begun_by (spinning inv next fact) 1 (spinner inv next fact) head (choices_in (spinning inv next fact) 1 paths.passed) values)
  spin_row part values = path_at (spinning inv next fact) 1 0 1 (spinner inv next fact) head paths [] (is_head) part values

  pub spin_path : (plain : Plain) (chosen : ℕ → List Value) (p : Progress) →
      path_from (record { plain = plain; proc = spinner inv next fact; chosen = chosen }) head p
      ≡ from_loop (record { plain = plain; proc = spinner inv next fact; chosen = chosen }) goes_on (next_is next ∷ []) ((0, loop inv next) ∷ (2, stmt.Assert fact) ∷ (3, stmt.Commit) ∷ []) p
  spin_path plain chosen p = from_rank (record { plain = plain; proc = spinner inv next fact; chosen = chosen }) 0 goes_on i inv (next_is next ∷ []) ((2, stmt.Assert fact) ∷ (3, stmt.Commit) ∷ []) p rest
