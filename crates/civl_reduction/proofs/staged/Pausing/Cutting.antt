-- A frame that stands at a yield stands at the cut of its number.
use Rattle.std.proofs.Common.{ℕ, zero, suc, ◌+◌, ◌≡◌, Bool, true, false, if◌then◌else◌, List, [], ◌∷◌, ◌++◌, length, take, Some, None, Option, slice_get, sym, refl, ap, ◌∙◌, subst, arith}
use Rattle.std.proofs.lemmas.Bool.{false≢true}
use Rattle.std.proofs.lemmas.Option.{same_Some, none-some}
use Rattle.civl_tree.specs.declared.stmt.Stmt.{Stmt, out-Stmt}
use Rattle.civl_tree.specs.declared.stmt.Stmt.TheOpen as stmt
use Rattle.civl_tree.specs.declared.program.Refines.{Refines}
use Rattle.civl_tree.specs.declared.program.Proc.{Proc}
use Rattle.civl_tree.specs.declared.program.Program.{Program}
use Rattle.civl_tree.specs.Numbering.{statements_of, statement_at}
use Rattle.civl_meaning.specs.declared.config.Activation.{Activation}
use Rattle.civl_meaning.specs.declared.config.State.{State}
use Rattle.civl_meaning.specs.declared.config.State.TheVariants.{Before, Inside, After}
use Rattle.civl_meaning.specs.Rest.{Rest}
use Rattle.civl_layers.specs.declared.cut.CutKind.{CutKind}
use Rattle.civl_layers.specs.declared.cut.CutKind.TheVariants as kind
use Rattle.civl_layers.specs.Cuts.{form_cut, cut_kind, cut_at, cuts_among, proc_cuts}
use Rattle.civl_conditions.specs.paths.Ends.{is_yield_cut, cut_number}
use Rattle.civl_conditions.specs.paths.Seen.{IsProcOf}
use Rattle.civl_conditions.proofs.paths.Each.{EachIn, each_own, rest_each}
use Rattle.civl_conditions.proofs.Layered.{of_layer}
use Rattle.civl_conditions.specs.Steps.{has_layer}
use Rattle.civl_reduction.specs.blocks.Blocks.{layer_at_yield, at_yield, framed_in, framed_state, rest_of}
use Rattle.civl_reduction.specs.blocks.Cuts.{settled_layer, settled}
use Rattle.civl_reduction.specs.staged.Pausing.{StandsAt, FramesStandAtCuts}

-- ---- cuts

-- a statement that is a cut is found among the cuts, behind those before it
among_there : (at n : ℕ) (ss : List Stmt) (s : Stmt) (k : CutKind) → slice_get ss n ≡ Some s → cut_kind s ≡ Some k
    → (number : ℕ) × (number ≡ at + n) × (slice_get (cuts_among at ss) (length (cuts_among at (take n ss))) ≡ Some (record { statement = number; kind = k }))
unfolding cuts_among
among_there at n [] s k e h = absurd (none-some s e)
among_there at zero (x ∷ xs) s k e h =
    (at, omega arith, ap (λ (o : Option CutKind). slice_get (cut_at at o ++ cuts_among (at + 1) xs) 0) (ap cut_kind (same_Some x s e) ∙ h))
among_there at (suc n) (x ∷ xs) s k e h = go (cut_kind x) (among_there (at + 1) n xs s k e h)
  where
    go : (o : Option CutKind) → (number : ℕ) × (number ≡ at + 1 + n) × (slice_get (cuts_among (at + 1) xs) (length (cuts_among (at + 1) (take n xs))) ≡ Some (record { statement = number; kind = k }))
        → (number : ℕ) × (number ≡ at + suc n) × (slice_get (cut_at at o ++ cuts_among (at + 1) xs) (length (cut_at at o ++ cuts_among (at + 1) (take n xs))) ≡ Some (record { statement = number; kind = k }))
    go None r = let is = r.1 in (r.0, omega (arith, is), r.2)
    go (Some c) r = let is = r.1 in (r.0, omega (arith, is), r.2)

pub cut_there : (program : Program) (q step : ℕ) (proc : Proc) → IsProcOf program q step proc → (n : ℕ) (s : Stmt) (k : CutKind) → statement_at proc.body n ≡ Some s → cut_kind s ≡ Some k
    → slice_get (proc_cuts proc) (cut_number proc n) ≡ Some (record { statement = n; kind = k })
cut_there program q step proc of n s k e h = by_refines proc.refines of.refined
  where
    number : ℕ
    number = length (cuts_among 0 (take n (statements_of proc.body)))

    below : (r : Refines) → slice_get (proc_cuts (record proc { refines = Some r })) (1 + length (cuts_among 0 (take n (statements_of proc.body)))) ≡ Some (record { statement = n; kind = k })
    below r =
        let there = among_there 0 n (statements_of proc.body) s k e h in
        let same : there.0 ≡ n = let is = there.1 in omega (arith, is) in
        let next : 1 + length (cuts_among 0 (take n (statements_of proc.body))) ≡ suc (length (cuts_among 0 (take n (statements_of proc.body)))) = omega arith in
        subst (λ (m : ℕ). slice_get (proc_cuts (record proc { refines = Some r })) m ≡ Some (record { statement = n; kind = k })) (sym next)
        (subst (λ (m : ℕ). slice_get (cuts_among 0 (statements_of proc.body)) (length (cuts_among 0 (take n (statements_of proc.body)))) ≡ Some (record { statement = m; kind = k })) same there.2)

    by_refines : (o : Option Refines) → o ≡ Some of.refines → slice_get (proc_cuts (record proc { refines = o })) (1 + length (cuts_among 0 (take n (statements_of proc.body)))) ≡ Some (record { statement = n; kind = k })
    by_refines None g = absurd (none-some of.refines g)
    by_refines (Some r) g = below r

-- ---- the head of what is still to run

-- behind commits and intros comes a cut that is a yield or a yield loop
pub record Head (r : Rest) : Type 0 where
  pub number : ℕ
  pub stmt : Stmt
  pub behind : Rest
  pub kind : CutKind
  pub is : settled r ≡ (number, stmt) ∷ behind
  pub cut : cut_kind stmt ≡ Some kind
  pub yields : is_yield_cut kind ≡ true

pub yield_head : (r : Rest) → at_yield r ≡ true → Head r
yield_head [] h = absurd (false≢true h)
yield_head ((n, s) ∷ k) h = by_layer (out-Stmt s) refl h (λ g. yield_head k g)
  where
    by_layer : (d : stmt.Stmt-F Stmt) → out-Stmt s ≡ d → layer_at_yield d (at_yield k) ≡ true → (at_yield k ≡ true → Head k) → Head ((n, s) ∷ k)
    by_layer (stmt.Yield i) e g ih =
        record { number = n; stmt = s; behind = k; kind = kind.Yield; is = ap (λ (d : stmt.Stmt-F Stmt). settled_layer d ((n, s) ∷ k) (settled k)) e; cut = ap form_cut e; yields = refl }
    by_layer (stmt.YieldLoop c i a) e g ih =
        record { number = n; stmt = s; behind = k; kind = kind.YieldLoop; is = ap (λ (d : stmt.Stmt-F Stmt). settled_layer d ((n, s) ∷ k) (settled k)) e; cut = ap form_cut e; yields = refl }
    by_layer stmt.Commit e g ih =
        let later = ih g in
        record { number = later.number; stmt = later.stmt; behind = later.behind; kind = later.kind; is = ap (λ (d : stmt.Stmt-F Stmt). settled_layer d ((n, s) ∷ k) (settled k)) e ∙ later.is; cut = later.cut; yields = later.yields }
    by_layer (stmt.Intro x v) e g ih =
        let later = ih g in
        record { number = later.number; stmt = later.stmt; behind = later.behind; kind = later.kind; is = ap (λ (d : stmt.Stmt-F Stmt). settled_layer d ((n, s) ∷ k) (settled k)) e ∙ later.is; cut = later.cut; yields = later.yields }
    by_layer (stmt.Assign x v) e g ih = absurd (false≢true g)
    by_layer (stmt.Assert v) e g ih = absurd (false≢true g)
    by_layer (stmt.If c a b) e g ih = absurd (false≢true g)
    by_layer (stmt.While c a) e g ih = absurd (false≢true g)
    by_layer (stmt.RankLoop c v i a) e g ih = absurd (false≢true g)
    by_layer (stmt.Call x es rs) e g ih = absurd (false≢true g)
    by_layer (stmt.Spawn x es) e g ih = absurd (false≢true g)

-- what holds of each statement of a rest holds of those past commits and intros
pub settled_each : (Holds : ℕ → Stmt → Type 0) (r : Rest) → EachIn Holds r → EachIn Holds (settled r)
settled_each Holds [] h = h
settled_each Holds (q ∷ k) h = by_layer (out-Stmt q.1) (settled_each Holds k h.1)
  where
    by_layer : (d : stmt.Stmt-F Stmt) → EachIn Holds (settled k) → EachIn Holds (settled_layer d (q ∷ k) (settled k))
    by_layer stmt.Commit ih = ih
    by_layer (stmt.Intro x v) ih = ih
    by_layer _ ih = h

-- ---- a thread's frame

-- the frame of a procedure of a layer, as the topmost of its thread
pub record Topmost (program : Program) (step : ℕ) (state : State) (f : Proc × Activation) : Type 0 where
  pub of : IsProcOf program f.1.procedure step f.0
  pub below : List Activation
  pub is : state ≡ Inside below f.1

pub topmost : (program : Program) (step : ℕ) (state : State) (f : Proc × Activation) → framed_state program step state ≡ Some f → Topmost program step state f
topmost program step Before f e = absurd (none-some f e)
topmost program step After f e = absurd (none-some f e)
topmost program step (Inside below frame) f e = by_proc (slice_get program.procs frame.procedure) refl e
  where
    by_test : (proc : Proc) → slice_get program.procs frame.procedure ≡ Some proc → (b : Bool) → has_layer step proc ≡ b → (if b then Some (proc, frame) else None) ≡ Some f → Topmost program step (Inside below frame) f
    by_test proc at true i j =
        let same = same_Some (proc, frame) f j in
        subst (λ (x : Proc × Activation). Topmost program step (Inside below frame) x) same (record { of = of_layer program frame.procedure step proc at i; below = below; is = refl })
    by_test proc at false i j = absurd (none-some f j)

    by_proc : (o : Option Proc) → slice_get program.procs frame.procedure ≡ o → framed_in step frame o ≡ Some f → Topmost program step (Inside below frame) f
    by_proc None at h = absurd (none-some f h)
    by_proc (Some proc) at h = by_test proc at (has_layer step proc) refl h

pub stands_at : (program : Program) (step : ℕ) (f : Proc × Activation) → IsProcOf program f.1.procedure step f.0 → (h : Head (rest_of f)) → StandsAt program step f (cut_number f.0 h.number) (record { statement = h.number; kind = h.kind })
stands_at program step f of h = record {
  at = record { of_proc = of; there = cut_there program f.1.procedure step f.0 of h.number h.stmt h.kind there h.cut };
  number = refl;
  yields = h.yields;
  stmt = h.stmt;
  kind = h.cut;
  behind = h.behind;
  here = h.is;
}
  where
    Stands : ℕ → Stmt → Type 0
    Stands n s = statement_at f.0.body n ≡ Some s

    each : EachIn (λ n s. statement_at f.0.body n ≡ Some s) (rest_of f)
    each = rest_each (λ n s. statement_at f.0.body n ≡ Some s) f.0.body f.1.place (λ j n s e g. let place : n ≡ j = omega (arith, e) in subst (λ m. statement_at f.0.body m ≡ Some s) (sym place) g)

    there : statement_at f.0.body h.number ≡ Some h.stmt
    there =
        let head = subst (EachIn (λ n s. statement_at f.0.body n ≡ Some s)) h.is (settled_each (λ n s. statement_at f.0.body n ≡ Some s) (rest_of f) each) in
        each_own (λ n s. statement_at f.0.body n ≡ Some s) h.number h.stmt head.0

pub frames_stand_at_cuts : FramesStandAtCuts
frames_stand_at_cuts program step thread f is yields =
    let top = topmost program step thread.state f is in
    let head = yield_head (rest_of f) yields in
    (cut_number f.0 head.number, record { statement = head.number; kind = head.kind }, stands_at program step f top.of head)
