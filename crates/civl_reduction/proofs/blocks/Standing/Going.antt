-- What is done next in a frame of a procedure of the layer above: where the thread then stands.
use Rattle.std.proofs.Common.{◌≡◌, ℕ, ◌+◌, ◌≤◌, Bool, true, false, List, ◌∷◌, ◌++◌, refl, sym, ap, ◌∙◌, subst, arith, Option, None, Some, slice_get}
use Rattle.std.specs.Prelude.{if◌then◌else◌, is_none, is_some}
use Rattle.std.specs.List.{list_any}
use Rattle.std.proofs.lemmas.Bool.{false≢true, or_parts}
use Rattle.std.proofs.lemmas.Option.{none-some}
use Rattle.civl_bits.specs.declared.value.Value.{Value}
use Rattle.civl_tree.specs.declared.name.Name.{Name}
use Rattle.civl_tree.specs.declared.action.Action.{Action}
use Rattle.civl_tree.specs.declared.expr.Expr.{Expr}
use Rattle.civl_tree.specs.declared.stmt.Stmt.{Stmt, out-Stmt}
use Rattle.civl_tree.specs.declared.stmt.Stmt.TheOpen.{Stmt-F, Assign, Assert, If, While, YieldLoop, RankLoop, Call, Yield, Commit, Intro, Spawn}
use Rattle.civl_tree.specs.declared.program.Refines.{Refines}
use Rattle.civl_tree.specs.declared.program.Proc.{Proc}
use Rattle.civl_tree.specs.declared.program.Program.{Program}
use Rattle.civl_tree.specs.Numbering.{sizes_of, numbered, statement_at}
use Rattle.civl_tree.specs.rules.Names.{callee_signature}
use Rattle.civl_tree.specs.rules.Unknown.{any_unknown, place_unknown, form_unknown, stmt_unknown}
use Rattle.civl_tree.specs.rules.Uses.{form_uses}
use Rattle.civl_tree.specs.rules.Rules.{Keeps}
use Rattle.civl_tree.specs.rules.Typing.{typing_rules, unknown_rule}
use Rattle.civl_tree.proofs.Kept.{statement_kept, unknown_among}
use Rattle.civl_meaning.specs.declared.config.Plain.{Plain}
use Rattle.civl_meaning.specs.Places.{start_of, skip_layer}
use Rattle.civl_meaning.specs.Rest.{Rest, rest_at, place_in}
use Rattle.civl_meaning.specs.Meaning.{Meaning, Does, Runs, Missing, called}
use Rattle.civl_meaning.specs.Layers.{program_at}
use Rattle.civl_meaning.specs.Config.{IsPlain}
use Rattle.civl_soundness.proofs.Declared.{IsDeclared, called_declared}
use Rattle.civl_layers.specs.Layered.{IsLayered}
use Rattle.civl_conditions.proofs.paths.Belonging.{Belongs, own_place, start_place, all_belong, first_covered, second_covered, while_covered, rank_loop_covered}
use Rattle.civl_yields.specs.Movers.{turns}
use Rattle.civl_layers.specs.Movers.{is_left}
use Rattle.civl_yields.specs.Places.{form_misplaced, stmt_misplaced}
use Rattle.civl_yields.specs.YieldRules.{commit_rule, yield_rules}
use Rattle.civl_meaning.specs.Change.{Doing, call_doing, statement_doing}
use Rattle.civl_meaning.specs.Change as does
use Rattle.civl_reduction.specs.blocks.Blocks.{layer_at_yield, at_yield}
use Rattle.civl_reduction.specs.blocks.Ahead.{ahead_in}
use Rattle.civl_reduction.proofs.blocks.Standing.Turning.{IsClean, enters_clean, StaysLate, stays_late, nothing_ahead}
use Rattle.civl_reduction.proofs.blocks.Standing.Below.{calls_no_body}
use Rattle.civl_reduction.proofs.blocks.Standing.Calling.{follows, turned}

-- a spawn stands in a root
pub roots_alone : (program : Program) → Keeps yield_rules program → (number : ℕ) (proc : Proc) → slice_get program.procs number ≡ Some proc → (place : ℕ) (s : Stmt) → statement_at proc.body place ≡ Some s → (f : Name) (es : List Expr) → out-Stmt s ≡ Spawn f es → proc.refines ≡ None
roots_alone program yields number proc at place s here f es form = of_root proc.refines of_spawn
  where
    kept : form_misplaced (is_some proc.refines) (out-Stmt s) ≡ false
    kept = statement_kept yield_rules program yields commit_rule (2, omega arith, refl) (stmt_misplaced proc) number proc at refl place s here

    of_spawn : is_some proc.refines ≡ false
    of_spawn = subst (λ (d : Stmt-F Stmt). form_misplaced (is_some proc.refines) d ≡ false) form kept

    of_root : (o : Option Refines) → is_some o ≡ false → o ≡ None
    of_root None e = refl
    of_root (Some r) e = absurd (false≢true (sym e))

-- nothing is ahead behind what is done next, where nothing was; a call is of a left mover, and no thread waits, is spawned or
-- enters a body
abbrev pub AfterLate : Program → Proc → Doing → Type 0
AfterLate program proc (does.Goes locals place) = ahead_in program (rest_at proc.body place) ≡ false
AfterLate program proc (does.Calls names locals results next action args) = (is_left action.mover ≡ true) × (ahead_in program (rest_at proc.body next) ≡ false)
AfterLate program proc does.Fails = Unit {0}
AfterLate program proc does.Waits = ⊥
AfterLate program proc does.Ends = ⊥
AfterLate program proc (does.Enters frame place) = ⊥
AfterLate program proc (does.Leaves frame) = ⊥
AfterLate program proc (does.Spawns thread place) = ⊥

module _ (program : Program) (layer : ℕ) (src : IsLayered program) (ok : IsPlain (program_at program layer)) (yields : Keeps yield_rules program) (number : ℕ) (proc : Proc) (refines : Refines) (at_number : slice_get program.procs number ≡ Some proc) (is : proc.refines ≡ Some refines) (low : refines.layer ≤ layer + 1) where
  abbrev plain : Plain
  plain = program_at program layer

  -- ---- its statements

  -- each call means something
  call_declared : (place : ℕ) (s : Stmt) → statement_at proc.body place ≡ Some s → (f : Name) (es : List Expr) (rs : List Name) → out-Stmt s ≡ Call f es rs → IsDeclared (called plain f)
  call_declared place s here f es rs form = called_declared plain ok f (or_parts (is_none (callee_signature program f)) (list_any (place_unknown proc) rs) of_call).0
    where
      known : form_unknown program proc (out-Stmt s) ≡ false
      known = (or_parts (form_unknown program proc (out-Stmt s)) (any_unknown (form_uses program proc (out-Stmt s))) (statement_kept typing_rules program src.rules unknown_rule unknown_among (stmt_unknown program proc) number proc at_number refl place s here)).0

      of_call : form_unknown program proc (Call f es rs) ≡ false
      of_call = subst (λ (d : Stmt-F Stmt). form_unknown program proc d ≡ false) form known

  -- ---- late in a block

  at_next : (k : Rest) → Belongs proc.body k → ahead_in program k ≡ false → ahead_in program (rest_at proc.body (place_in (sizes_of proc.body) k)) ≡ false
  at_next k o e = ap (ahead_in program) (own_place proc.body k o) ∙ e

  at_start : (ss : List Stmt) (m : ℕ) (k : Rest) → Belongs proc.body (numbered m ss ++ k) → ahead_in program (numbered m ss ++ k) ≡ false → ahead_in program (rest_at proc.body (start_of ss m (place_in (sizes_of proc.body) k))) ≡ false
  at_start ss m k o e = ap (ahead_in program) (start_place proc.body ss m k o) ∙ e

  either : (b : Bool) (x y : ℕ) → ahead_in program (rest_at proc.body x) ≡ false → ahead_in program (rest_at proc.body y) ≡ false → ahead_in program (rest_at proc.body (if b then x else y)) ≡ false
  either true x y e f = e
  either false x y e f = f

  late_assert : (b : Bool) (locals : List Value) (next : ℕ) → ahead_in program (rest_at proc.body next) ≡ false → AfterLate program proc (if b then does.Goes locals next else does.Fails)
  late_assert true locals next e = e
  late_assert false locals next e = tt

  late_call : (f : Name) (names : List Name) (locals : List Value) (results : List Name) (place next : ℕ) (args : List Value) → IsDeclared (called plain f) → ((n : ℕ) (p : Proc) → called plain f ≡ Runs n p → ⊥) → ((a : Action) → called plain f ≡ Does a → is_left a.mover ≡ true)
      → ahead_in program (rest_at proc.body next) ≡ false → AfterLate program proc (call_doing names locals results place next (called plain f) args)
  late_call f names locals results place next args declared none left e = go (called plain f) declared none left
    where
      go : (m : Meaning) → IsDeclared m → ((n : ℕ) (p : Proc) → m ≡ Runs n p → ⊥) → ((a : Action) → m ≡ Does a → is_left a.mover ≡ true) → AfterLate program proc (call_doing names locals results place next m args)
      go (Does a) d r l = (l a refl, e)
      go (Runs n p) d r l = r n p refl
      go Missing d r l = d

  late_layer : (d : Stmt-F Stmt) (s : Stmt) (place : ℕ) (k : Rest) (locals : List Value) → out-Stmt s ≡ d → skip_layer d ≡ false → layer_at_yield d (at_yield k) ≡ false → statement_at proc.body place ≡ Some s → Belongs proc.body ((place, s) ∷ k) → StaysLate program d place s k
      → AfterLate program proc (statement_doing plain proc locals place (place_in (sizes_of proc.body) k) d)
  late_layer (Assign x e) s place k locals o sk y here b l = at_next k b.1 l
  late_layer (Assert e) s place k locals o sk y here b l = late_assert _ locals (place_in (sizes_of proc.body) k) (at_next k b.1 l)
  late_layer (If e xs ys) s place k locals o sk y here b l =
      let r = l (place + 1) (place + 1 + sizes_of xs) in
      either _ (start_of xs (place + 1) (place_in (sizes_of proc.body) k)) (start_of ys (place + 1 + sizes_of xs) (place_in (sizes_of proc.body) k))
      (at_start xs (place + 1) k (all_belong proc.body xs (place + 1) k (first_covered proc.body s place k e xs ys o b.0) b.1) r.0)
      (at_start ys (place + 1 + sizes_of xs) k (all_belong proc.body ys (place + 1 + sizes_of xs) k (second_covered proc.body s place k e xs ys o b.0) b.1) r.1)
  late_layer (While e xs) s place k locals o sk y here b l =
      let r = l (place + 1) in
      either _ (start_of xs (place + 1) place) (place_in (sizes_of proc.body) k)
      (at_start xs (place + 1) ((place, s) ∷ k) (all_belong proc.body xs (place + 1) ((place, s) ∷ k) (while_covered proc.body s place k e xs o b.0) b) r.0) (at_next k b.1 r.1)
  late_layer (RankLoop e j i xs) s place k locals o sk y here b l =
      let r = l (place + 1) in
      either _ (start_of xs (place + 1) place) (place_in (sizes_of proc.body) k)
      (at_start xs (place + 1) ((place, s) ∷ k) (all_belong proc.body xs (place + 1) ((place, s) ∷ k) (rank_loop_covered proc.body s place k e j i xs o b.0) b) r.0) (at_next k b.1 r.1)
  late_layer (YieldLoop e i xs) s place k locals o sk y here b l = absurd (false≢true (sym y))
  late_layer (Yield i) s place k locals o sk y here b l = absurd (false≢true (sym sk))
  late_layer Commit s place k locals o sk y here b l = absurd (false≢true (sym sk))
  late_layer (Intro x e) s place k locals o sk y here b l = absurd (false≢true (sym sk))
  late_layer (Call f es rs) s place k locals o sk y here b l =
      late_call f _ locals rs place (place_in (sizes_of proc.body) k) _ (call_declared place s here f es rs o) (calls_no_body program layer src number proc refines at_number is low place s here f es rs o)
      (λ a e. follows plain f a e l.0) (at_next k b.1 l.1)
  late_layer (Spawn f es) s place k locals o sk y here b l = none-some refines (sym (roots_alone program yields number proc at_number place s here f es o) ∙ is)

  -- before a statement, at no yield, with nothing ahead
  pub late_goes_on : (s : Stmt) (place : ℕ) (k : Rest) (locals : List Value) → skip_layer (out-Stmt s) ≡ false → at_yield ((place, s) ∷ k) ≡ false → statement_at proc.body place ≡ Some s → Belongs proc.body ((place, s) ∷ k) → ahead_in program ((place, s) ∷ k) ≡ false
      → AfterLate program proc (statement_doing plain proc locals place (place_in (sizes_of proc.body) k) (out-Stmt s))
  late_goes_on s place k locals sk y here b e = late_layer (out-Stmt s) s place k locals refl sk y here b (stays_late program s place k e (out-Stmt s) refl)

  -- ---- at any place of a body whose calls come in order

  -- behind a call of an action that isn't a right mover nothing is ahead
  pub behind_turn : (s : Stmt) (place : ℕ) (k : Rest) (f : Name) (es : List Expr) (rs : List Name) → out-Stmt s ≡ Call f es rs → Belongs proc.body k → IsClean program ((place, s) ∷ k) → (a : Action) → called plain f ≡ Does a → turns a.mover ≡ true
      → ahead_in program (rest_at proc.body (place_in (sizes_of proc.body) k)) ≡ false
  behind_turn s place k f es rs form b c a does t = at_next k b (nothing_ahead program k (enters_clean program s place k c.0 c.1 (Call f es rs) form (turned plain f a does t)))
