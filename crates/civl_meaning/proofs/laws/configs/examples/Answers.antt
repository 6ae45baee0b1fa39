use Rattle.std.proofs.Common.{◌≡◌, ◌≤◌, [], ◌∷◌, Some, refl, sym, subst, arith, true, codes}
use Rattle.std.proofs.lemmas.List.Elements.{All-nil, All-cons, All-head}
use Rattle.civl_tree.specs.declared.expr.Sort.TheVariants as sort
use Rattle.civl_tree.specs.declared.program.Proc.{Proc}
use Rattle.civl_tree.specs.declared.stmt.Stmt.{the_lemmas as of_stmt}
use Rattle.civl_tree.specs.declared.stmt.Stmt as stmt
use Rattle.civl_meaning.specs.declared.config.State.TheVariants.{Before, Inside}
use Rattle.civl_meaning.specs.Layers.{lowest, topmost}
use Rattle.civl_meaning.specs.Config.{IsBegun, IsPlaced, HasLocals, ThreadIsSorted, IsStacked}
use Rattle.civl_tree.specs.Numbering.{sizes_of}
use Rattle.civl_firing.specs.examples.Written.{bool, proc, refines, call}
use Rattle.civl_meaning.specs.examples.Flag.{flag, bare, running}
use Rattle.civl_firing.proofs.Having.{no_sorts, more_sorts}
use Rattle.civl_meaning.proofs.laws.configs.examples.Goals as goal

abbrev do_set : Proc
do_set = proc (codes "DoSet") [] [] (refines (codes "AtomSet") 1) [] (call (codes "Set") [] [] ∷ stmt.Commit ∷ [])

pub returns-clause-procedure : goal.returns-clause-procedure
returns-clause-procedure c h = let k = (All-head (IsStacked (lowest flag)) (running 0 (Inside [] (bare 1 0))) [] h.stacked).topmost.there in cc

pub returns-clause-place : goal.returns-clause-place
returns-clause-place c h =
    let k = (All-head (IsStacked (lowest flag)) (running 0 (Inside [] (bare 0 3))) [] h.stacked).topmost in
    let e : Some do_set ≡ Some k.proc = k.there in
    let q : do_set ≡ k.proc = cc in
    let l : 3 ≤ sizes_of do_set.body = subst (λ (p : Proc). 3 ≤ sizes_of p.body) (sym q) k.place in
    let m : 3 ≤ 2 = simp (of_stmt) at l in
    absurd (omega arith)

pub returns-clause-caller : goal.returns-clause-caller
returns-clause-caller c h =
    let w = (All-head (IsStacked (lowest flag)) (running 0 (Inside (bare 0 0 ∷ []) (bare 0 0))) [] h.stacked).waiting.0 in
    (simp (of_stmt) at w).1

pub returns-clause-body : goal.returns-clause-body
returns-clause-body c h = (All-head (IsStacked (topmost flag)) (running 0 (Inside [] (bare 0 0))) [] h.stacked).first

pub returns-clause-store : goal.returns-clause-store
returns-clause-store c h = let k = h.store.are in cc

pub returns-clause-thread : goal.returns-clause-thread
returns-clause-thread c h = let k = (All-head (ThreadIsSorted (lowest flag)) (running 1 Before) [] h.sorted).there in cc

pub returns-clause-reached : goal.returns-clause-reached
returns-clause-reached c =
    let plain = lowest flag in
    let thread = running 0 (Inside [] (bare 0 1)) in
    let few : 1 ≤ sizes_of do_set.body = simp (of_stmt) (omega arith) in
    let begun : IsBegun plain thread = record { proc = do_set; there = refl; args = no_sorts; begins = refl } in
    let locals : HasLocals plain (bare 0 1) = record { proc = do_set; there = refl; locals = no_sorts } in
    let stack : IsStacked plain thread = record { placed = All-nil (IsPlaced plain); topmost = record { proc = do_set; there = refl; place = few }; first = refl; waiting = tt } in
    record {
      store = more_sorts (bool true) sort.Bool [] [] (tt, refl) no_sorts;
      sorted = All-cons (ThreadIsSorted plain) thread [] (begun, All-nil (HasLocals plain), locals) (All-nil (ThreadIsSorted plain));
      stacked = All-cons (IsStacked plain) thread [] stack (All-nil (IsStacked plain));
    }
