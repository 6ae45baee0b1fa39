-- Paths from the loops of the examples that count.
use Rattle.std.proofs.Common.{◌≡◌, ℕ, true, false, List, [], ◌∷◌, ◌++◌, Some, refl, ◌∙◌}
use Rattle.std.specs.Prelude.{codes, slice_get}
use Rattle.civl_bits.specs.declared.value.Value.{Value}
use Rattle.civl_tree.specs.declared.expr.Expr.{Expr}
use Rattle.civl_tree.specs.declared.stmt.Stmt.{Stmt, the_lemmas as of_stmt}
use Rattle.civl_tree.specs.declared.stmt.Stmt as stmt
use Rattle.civl_tree.specs.Numbering.{numbered, statements_of}
use Rattle.civl_meaning.specs.Rest.{rest_at}
use Rattle.civl_meaning.specs.declared.config.Plain.{Plain}
use Rattle.civl_layers.specs.declared.cut.Cut.{Cut}
use Rattle.civl_layers.specs.declared.cut.CutKind.TheVariants as kind
use Rattle.civl_layers.specs.Cuts.{cuts_among, proc_cuts}
use Rattle.civl_firing.specs.examples.Written.{named, lit, call}
use Rattle.civl_linear.specs.Held.{traced_proc}
use Rattle.civl_conditions.specs.paths.Paths.{Progress, from_loop, path_from}
use Rattle.civl_conditions.specs.paths.Flows.{Flow, flow_all}
use Rattle.civl_condition_laws.specs.examples.Countdown.{i, steady, anew, goes_on, loop, spin, counting, settle, settling}
use Rattle.civl_condition_laws.proofs.Going.{flows}
use Rattle.civl_condition_laws.proofs.Forms.{sizes, inners, traces, rests}
use Rattle.civl_condition_laws.proofs.Facts.{IsCut, from_rank, rank_flow, held_by}

abbrev pub gives : Expr → Stmt
gives next = stmt.Assign (named (codes "i")) next

-- ---- the countdown

abbrev pub head : Cut
head = record { statement = 1; kind = kind.RankLoop }

module _ (next : Expr) where
  abbrev pub paths : Flow
  paths = record { passed = (1, loop steady next) ∷ (2, gives next) ∷ (3, stmt.Commit) ∷ []; ends = 1 ∷ []; onward = true }

  rest : rest_at (spin next).body 1 ≡ (1, loop steady next) ∷ (3, stmt.Commit) ∷ []
  rest = simp rests

  inside : flow_all (numbered 2 (gives next ∷ []) ++ (1, loop steady next) ∷ (3, stmt.Commit) ∷ []) ≡ record { passed = (2, gives next) ∷ []; ends = 1 ∷ []; onward = false }
  inside = simp (flows, sizes)

  behind : flow_all ((3, stmt.Commit) ∷ []) ≡ record { passed = (3, stmt.Commit) ∷ []; ends = []; onward = true }
  behind = simp flows

  cut : slice_get (proc_cuts (spin next)) 1 ≡ Some head
  unfolding cuts_among
  cut = simp (inners, of_stmt)

  stmts : statements_of (spin next).body ≡ gives (lit 255 8) ∷ loop steady next ∷ gives next ∷ stmt.Commit ∷ []
  stmts = simp inners

  trace : traced_proc (counting next) (spin next) ≡ record { after = false ∷ []; befores = (false ∷ []) ∷ (false ∷ []) ∷ (false ∷ []) ∷ (false ∷ []) ∷ []; losses = false ∷ false ∷ false ∷ false ∷ [] }
  trace = simp traces

  pub is_head : IsCut (counting next) 0 1 (spin next) head paths []
  is_head = record {
    proc_is = refl;
    cut_is = cut;
    paths_are = rank_flow (spin next) 1 _ _ _ goes_on i steady (gives next ∷ []) rest inside behind;
    held_are = held_by (counting next) (spin next) 1 _ _ _ refl stmts trace ∙ simp of_stmt;
  }

  pub head_path : (plain : Plain) (chosen : ℕ → List Value) (p : Progress) →
      path_from (record { plain = plain; proc = spin next; chosen = chosen }) head p
      ≡ from_loop (record { plain = plain; proc = spin next; chosen = chosen }) goes_on (gives next ∷ []) ((1, loop steady next) ∷ (3, stmt.Commit) ∷ []) p
  head_path plain chosen p = from_rank (record { plain = plain; proc = spin next; chosen = chosen }) 1 goes_on i steady (gives next ∷ []) ((3, stmt.Commit) ∷ []) p rest

-- ---- the loop that stays

abbrev pub last : Cut
last = record { statement = 3; kind = kind.RankLoop }

abbrev pub last_paths : Flow
last_paths = record { passed = (3, loop anew i) ∷ (4, gives i) ∷ []; ends = 3 ∷ []; onward = true }

last_rest : rest_at settle.body 3 ≡ (3, loop anew i) ∷ []
last_rest = simp rests

last_inside : flow_all (numbered 4 (gives i ∷ []) ++ (3, loop anew i) ∷ []) ≡ record { passed = (4, gives i) ∷ []; ends = 3 ∷ []; onward = false }
last_inside = simp (flows, sizes)

last_behind : flow_all [] ≡ record { passed = []; ends = []; onward = true }
last_behind = simp flows

last_cut : slice_get (proc_cuts settle) 1 ≡ Some last
unfolding cuts_among
last_cut = simp (inners, of_stmt)

last_stmts : statements_of settle.body ≡ call (codes "Set") [] [] ∷ stmt.Commit ∷ gives (lit 3 8) ∷ loop anew i ∷ gives i ∷ []
last_stmts = simp inners

last_trace : traced_proc settling settle ≡ record { after = false ∷ []; befores = (false ∷ []) ∷ (false ∷ []) ∷ (false ∷ []) ∷ (false ∷ []) ∷ (false ∷ []) ∷ []; losses = false ∷ false ∷ false ∷ false ∷ false ∷ [] }
last_trace = simp traces

pub is_last : IsCut settling 0 1 settle last last_paths []
is_last = record {
  proc_is = refl;
  cut_is = last_cut;
  paths_are = rank_flow settle 3 _ _ _ goes_on i anew (gives i ∷ []) last_rest last_inside last_behind;
  held_are = held_by settling settle 1 _ _ _ refl last_stmts last_trace ∙ simp of_stmt;
}

pub last_path : (plain : Plain) (chosen : ℕ → List Value) (p : Progress) →
    path_from (record { plain = plain; proc = settle; chosen = chosen }) last p
    ≡ from_loop (record { plain = plain; proc = settle; chosen = chosen }) goes_on (gives i ∷ []) ((3, loop anew i) ∷ []) p
last_path plain chosen p = from_rank (record { plain = plain; proc = settle; chosen = chosen }) 3 goes_on i anew (gives i ∷ []) [] p last_rest
