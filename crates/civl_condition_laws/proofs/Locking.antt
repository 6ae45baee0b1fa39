-- Cuts of the spinlock of the examples.
use Rattle.std.proofs.Common.{◌≡◌, true, false, List, [], ◌∷◌, ◌++◌, Some, refl, ap, ◌∙◌}
use Rattle.std.specs.Prelude.{codes, slice_get}
use Rattle.civl_tree.specs.declared.expr.Expr.{Expr}
use Rattle.civl_tree.specs.declared.expr.Expr as expr
use Rattle.civl_tree.specs.declared.expr.One.TheVariants.{Not}
use Rattle.civl_tree.specs.declared.expr.Two.TheVariants.{Eq}
use Rattle.civl_tree.specs.declared.expr.Sort.TheVariants as sort
use Rattle.civl_tree.specs.declared.action.Mode.TheVariants.{Lend}
use Rattle.civl_tree.specs.declared.action.Param.{Param}
use Rattle.civl_tree.specs.declared.stmt.Stmt.{Stmt, the_lemmas as of_stmt}
use Rattle.civl_tree.specs.declared.stmt.Stmt as stmt
use Rattle.civl_tree.specs.declared.program.Proc.{Proc}
use Rattle.civl_tree.specs.Numbering.{numbered, statements_of}
use Rattle.civl_meaning.specs.Rest.{rest_at}
use Rattle.civl_meaning.specs.examples.Spinlock.{spinlock}
use Rattle.civl_layers.specs.declared.cut.Cut.{Cut}
use Rattle.civl_layers.specs.declared.cut.CutKind.TheVariants as kind
use Rattle.civl_layers.specs.Cuts.{cuts_among, entry_cut, proc_cuts}
use Rattle.civl_firing.specs.examples.Written.{named, name, lit, param, local, refines, proc, call}
use Rattle.civl_linear.specs.Held.{traced_proc}
use Rattle.civl_conditions.specs.paths.Flows.{Flow, onward_flow, flow_with, flow_or, flow, flow_all, flow_from}
use Rattle.civl_conditions.proofs.paths.Passing.{flow_none, flow_more}
use Rattle.civl_condition_laws.specs.examples.Spinlock.{forgets, forgetful}
use Rattle.civl_condition_laws.proofs.Going.{flow_if, flow_call, flow_yield_loop_head, flows}
use Rattle.civl_condition_laws.proofs.Forms.{sizes, inners, traces, rests}
use Rattle.civl_condition_laws.proofs.Facts.{IsCut, yielding_flow, held_by}

abbrev lent : List Param
lent = param Lend (codes "t") (sort.Word 2) ∷ []

abbrev ok : Expr
ok = name (codes "ok")

-- ---- Acquire, from its loop

abbrev inv : Expr
inv = expr.Two Eq ok expr.Done

abbrev tries : Stmt
tries = call (codes "Cas") [] (named (codes "ok") ∷ [])

abbrev takes : Stmt
takes = stmt.Intro (named (codes "lock")) (name (codes "t"))

abbrev ends : Stmt
ends = stmt.If ok (stmt.Commit ∷ takes ∷ []) []

abbrev loop : Stmt
loop = stmt.YieldLoop (expr.One Not ok) inv (tries ∷ ends ∷ [])

abbrev pub acquire : Proc
acquire = proc (codes "Acquire") lent [] (refines (codes "AtomAcquire") 1) (local (codes "ok") sort.Bool ∷ []) (loop ∷ [])

abbrev pub head : Cut
head = record { statement = 0; kind = kind.YieldLoop }

abbrev pub paths : Flow
paths = record { passed = (0, loop) ∷ (1, tries) ∷ (2, ends) ∷ (3, stmt.Commit) ∷ (4, takes) ∷ []; ends = 0 ∷ []; onward = true }

rest : rest_at acquire.body 0 ≡ (0, loop) ∷ []
rest = simp rests

branch : flow_all (numbered 3 (stmt.Commit ∷ takes ∷ [])) ≡ onward_flow ((3, stmt.Commit) ∷ (4, takes) ∷ [])
branch = simp (flows, sizes)

ends_flow : flow ends ends 2 ≡ onward_flow ((2, ends) ∷ (3, stmt.Commit) ∷ (4, takes) ∷ [])
ends_flow =
    flow_if ok (stmt.Commit ∷ takes ∷ []) [] ends 2
    ∙ ap (λ (f : Flow). flow_with (2, ends) (flow_or f (flow_all []))) branch
    ∙ ap (λ (f : Flow). flow_with (2, ends) (flow_or (onward_flow ((3, stmt.Commit) ∷ (4, takes) ∷ [])) f)) flow_none

inside : flow_all (numbered 1 (tries ∷ ends ∷ []) ++ (0, loop) ∷ []) ≡ record { passed = (1, tries) ∷ (2, ends) ∷ (3, stmt.Commit) ∷ (4, takes) ∷ []; ends = 0 ∷ []; onward = false }
inside = simp (flow_more, flow_none, flow_call, ends_flow, flow_yield_loop_head, sizes)

behind : flow_all [] ≡ record { passed = []; ends = []; onward = true }
behind = simp flows

cut : slice_get (proc_cuts acquire) 1 ≡ Some head
unfolding cuts_among
cut = simp (inners, of_stmt)

stmts : statements_of acquire.body ≡ loop ∷ tries ∷ ends ∷ stmt.Commit ∷ takes ∷ []
stmts = simp inners

trace : traced_proc (spinlock 1 2) acquire ≡ record {
  after = true ∷ false ∷ [];
  befores = (true ∷ false ∷ []) ∷ (true ∷ false ∷ []) ∷ (true ∷ false ∷ []) ∷ (true ∷ false ∷ []) ∷ (true ∷ false ∷ []) ∷ [];
  losses = false ∷ false ∷ false ∷ false ∷ false ∷ [];
}
trace = simp traces

-- t is held
pub is_head : IsCut (spinlock 1 2) 0 1 acquire head paths (0 ∷ [])
is_head = record {
  proc_is = refl;
  cut_is = cut;
  paths_are = yielding_flow acquire 0 _ _ _ (expr.One Not ok) inv (tries ∷ ends ∷ []) rest inside behind;
  held_are = held_by (spinlock 1 2) acquire 1 _ _ _ refl stmts trace ∙ simp of_stmt;
}

-- ---- Release, from its entry

abbrev resets : Stmt
resets = call (codes "Reset") [] []

abbrev frees : Stmt
frees = stmt.Intro (named (codes "lock")) (lit 0 2)

abbrev pub release : Proc
release = proc (codes "Release") lent [] (refines (codes "AtomRelease") 1) [] (resets ∷ stmt.Commit ∷ frees ∷ [])

abbrev pub entry_paths : Flow
entry_paths = record { passed = (0, resets) ∷ (1, stmt.Commit) ∷ (2, frees) ∷ []; ends = []; onward = true }

entry_flow : flow_from release entry_cut ≡ entry_paths
unfolding flow_from
entry_flow = simp (flows, sizes)

pub is_entry : IsCut (spinlock 1 2) 1 0 release entry_cut entry_paths (0 ∷ [])
is_entry = record { proc_is = refl; cut_is = refl; paths_are = entry_flow; held_are = refl }

-- ---- a Release that resets nothing

abbrev pub forgetful_paths : Flow
forgetful_paths = record { passed = (0, stmt.Commit) ∷ (1, frees) ∷ []; ends = []; onward = true }

forgetful_flow : flow_from forgets entry_cut ≡ forgetful_paths
unfolding flow_from
forgetful_flow = simp (flows, sizes)

pub is_forgetful : IsCut forgetful 1 0 forgets entry_cut forgetful_paths (0 ∷ [])
is_forgetful = record { proc_is = refl; cut_is = refl; paths_are = forgetful_flow; held_are = refl }
