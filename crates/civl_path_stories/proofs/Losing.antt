-- The story of what is lost on a path has a line that says where.
use Rattle.std.specs.Prelude.{option_and_then, nat_eq, if◌then◌else◌, not}
use Rattle.std.specs.Option.{option_map_or}
use Rattle.std.proofs.Common.{◌≡◌, ◌∙◌, ℕ, Bool, true, false, ◌&&◌, ◌||◌, List, [], ◌∷◌, ◌++◌, map, slice_get, Option, None, Some, refl, sym, ap, subst}
use Rattle.std.proofs.lemmas.Bool.{false≢true}
use Rattle.civl_bits.specs.declared.value.Value.{Value}
use Rattle.civl_tree.specs.declared.action.Action.{Action}
use Rattle.civl_tree.specs.declared.expr.Expr.{Expr}
use Rattle.civl_tree.specs.declared.program.Proc.{Proc}
use Rattle.civl_tree.specs.declared.program.Program.{Program}
use Rattle.civl_tree.specs.declared.stmt.Stmt.{Stmt, out-Stmt}
use Rattle.civl_tree.specs.declared.stmt.Stmt.TheOpen as stmt
use Rattle.civl_tree.specs.Numbering.{statement_at}
use Rattle.civl_firing.specs.declared.store.Store.{Store}
use Rattle.civl_firing.specs.Fired.{fires}
use Rattle.civl_layers.specs.declared.cut.Cut.{Cut}
use Rattle.civl_layers.specs.Cuts.{proc_cuts}
use Rattle.civl_meaning.specs.Meaning.{called}
use Rattle.civl_conditions.specs.declared.condition.Condition.{Condition}
use Rattle.civl_conditions.specs.declared.condition.Condition.TheVariants as condition
use Rattle.civl_conditions.specs.declared.condition.Part.{Part}
use Rattle.civl_conditions.specs.declared.condition.Part.TheVariants.{Gate, Invariant, Once, Stutter, Perform, Rank}
use Rattle.civl_conditions.specs.declared.condition.Target.{Target}
use Rattle.civl_conditions.specs.paths.Choices.{action_meant}
use Rattle.civl_conditions.specs.paths.Ends.{ends_block, is_exit}
use Rattle.civl_conditions.specs.Assumed.{assumed, cut_rank, inputs_of, refined_action}
use Rattle.civl_conditions.specs.Values.{Begun, begun, layout}
use Rattle.civl_conditions.specs.paths.Paths.{Course, Progress}
use Rattle.civl_traces.specs.Told.{progress}
use Rattle.civl_traces.specs.declared.walked.Changed.{Changed}
use Rattle.civl_traces.specs.declared.walked.Ending.{Ending}
use Rattle.civl_traces.specs.declared.walked.Ending.TheVariants as ending
use Rattle.civl_traces.specs.declared.walked.Walked.{Walked}
use Rattle.civl_losses.specs.declared.loss.Loss.{Loss}
use Rattle.civl_losses.specs.declared.loss.Loss.TheVariants as loss
use Rattle.civl_losses.specs.Losses as lost
use Rattle.civl_losses.specs.Stories.{story_from}
use Rattle.civl_lines.specs.declared.line.Line.{Line}
use Rattle.civl_lines.specs.Losing.{is_error, tell_loss}
use Rattle.civl_path_stories.specs.Paths.{Told, around_lines, begin_line, course_lines, guard_parts, loss_lines, lost_by, passage_lines, path_story, refined_number, story_lines}
use Rattle.civl_path_stories.specs.Paths.{target_parts, target_text, told_lines, told_passages, waits_lines, waits_text}
use Rattle.civl_path_stories.specs.Laws.{LossesTellLosses}

-- ---- lines

-- lines behind others tell what they tell
behind : (xs ys : List Line) → tell_loss ys ≡ true → tell_loss (xs ++ ys) ≡ true
behind [] ys h = h
behind (x ∷ xs) ys h = by (is_error x.kind) (behind xs ys h)
  where
    by : (b : Bool) → tell_loss (xs ++ ys) ≡ true → (b || tell_loss (xs ++ ys)) ≡ true
    by true h = refl
    by false h = h

-- a line at the end of the path
by_end : (e : Ending) (t : Told) (text : List ℕ) (ls : List Line) → tell_loss (lost_by e t text ∷ ls) ≡ true
by_end ending.Past t text ls = refl
by_end ending.Comes t text ls = refl
by_end ending.Fails t text ls = refl
by_end ending.Stops t text ls = refl

-- ---- losses

-- that of a target
abbrev is_of_target : Loss → Bool
is_of_target loss.TargetLost = true
is_of_target _ = false

-- a loss that isn't that of a target
abbrev IsOther : Option Loss → Type 0
IsOther o = (l : Loss) → o ≡ Some l → is_of_target l ≡ false

waits_told : (t : Told) (chosen : List Value) → tell_loss (waits_lines t chosen) ≡ true
waits_told t chosen =
    by_end t.path.walked.ending t (waits_text t chosen)
    (guard_parts t.program (refined_number t) t.path.begun.old (inputs_of t.proc t.path.begun.locals) chosen)

other_told : (t : Told) (target : Option Target) (values : List Value) (l : Loss) → is_of_target l ≡ false → tell_loss (loss_lines t target values l) ≡ true
other_told t target values (loss.FalseGate number inputs) h = refl
other_told t target values loss.FalseAssert h = refl
other_told t target values (loss.FalseNote end) h = refl
other_told t target values (loss.CommitAgain statement) h = refl
other_told t target values loss.NoCommit h = refl
other_told t target values (loss.Changes gs os) h = by_end t.path.walked.ending t _ []
other_told t target values (loss.ActionWaits chosen) h = waits_told t chosen
other_told t target values (loss.ActionGives gs os) h = by_end t.path.walked.ending t _ []
other_told t target values (loss.RankStays before after) h = refl
other_told t target values loss.TargetLost h = absurd (false≢true (sym h))

target_told : (t : Told) (target : Target) (values : List Value) (l : Loss) → tell_loss (loss_lines t (Some target) values l) ≡ true
target_told t target values loss.TargetLost =
    by_end t.path.walked.ending t (target_text target)
    (target_parts t.program t.step target values (layout t.program t.step t.proc t.cut).behind t.path.walked.end.store)
target_told t target values (loss.FalseGate number inputs) = refl
target_told t target values loss.FalseAssert = refl
target_told t target values (loss.FalseNote end) = refl
target_told t target values (loss.CommitAgain statement) = refl
target_told t target values loss.NoCommit = refl
target_told t target values (loss.Changes gs os) = by_end t.path.walked.ending t _ []
target_told t target values (loss.ActionWaits chosen) = waits_told t chosen
target_told t target values (loss.ActionGives gs os) = by_end t.path.walked.ending t _ []
target_told t target values (loss.RankStays before after) = refl

-- ---- the parts of K9 lose no target

none_other : IsOther None
none_other l e = absurd (cc)

some_other : (m : Loss) → is_of_target m ≡ false → IsOther (Some m)
some_other m h l e =
    let same : m ≡ l = cc in
    subst (λ (k : Loss). is_of_target k ≡ false) same h

if_other : (b : Bool) (o q : Option Loss) → IsOther o → IsOther q → IsOther (if b then o else q)
if_other true o q h k = h
if_other false o q h k = k

then_other : {A : Type 0} (f : A → Option Loss) (o : Option A) → ((a : A) → IsOther (f a)) → IsOther (option_and_then f o)
then_other f None h = none_other
then_other f (Some a) h = h a

module _ (c : Course) (p : Progress) where
  call_other : (o : Option Action) (f : Action → Loss) → ((a : Action) → is_of_target (f a) ≡ false) → is_of_target (option_map_or f o loss.FalseAssert) ≡ false
  call_other None f h = refl
  call_other (Some a) f h = h a

  form_other : (s : stmt.Stmt-F Stmt) → is_of_target (lost.layer_fails c p s) ≡ false
  form_other (stmt.Call f es rs) = call_other (action_meant (called c.plain f)) _ (λ a. refl)
  form_other (stmt.Assign n e) = refl
  form_other (stmt.Assert e) = refl
  form_other (stmt.If e a b) = refl
  form_other (stmt.While e a) = refl
  form_other (stmt.YieldLoop e i a) = refl
  form_other (stmt.RankLoop e r i a) = refl
  form_other (stmt.Yield i) = refl
  form_other stmt.Commit = refl
  form_other (stmt.Intro n e) = refl
  form_other (stmt.Spawn f es) = refl

  statement_other : (o : Option Stmt) → is_of_target (option_map_or (λ s. lost.layer_fails c p (out-Stmt s)) o loss.FalseAssert) ≡ false
  statement_other None = refl
  statement_other (Some s) = form_other (out-Stmt s)

any_other : (f : List Changed → List Changed → Loss) (gs os : List Changed) → is_of_target (f gs os) ≡ false → IsOther (lost.where_any f gs os)
any_other f gs os h = if_other (lost.is_none_left gs && lost.is_none_left os) None (Some (f gs os)) none_other (some_other (f gs os) h)

module _ (program : Program) (step : ℕ) (proc : Proc) (c : ℕ) (cut : Cut) (b : Begun) (w : Walked) where
  abbrev p : Progress
  p = progress w.end

  end_other : (o : Option ℕ) (l : Option Loss) → IsOther l → IsOther (lost.lost_at_block_end proc o l)
  end_other o l h = then_other (λ e. if ends_block proc e then l else None) o (λ e. if_other (ends_block proc e) l None h none_other)

  given_other : (o : Option (Store × List Value)) → IsOther (lost.given program step proc p o)
  given_other None = some_other (loss.ActionWaits (lost.chosen_behind program proc p)) refl
  given_other (Some d) = any_other loss.ActionGives _ _ refl

  part_other : (part : Part) → IsOther (lost.part_loss program step proc c cut b w part)
  part_other Gate = if_other (lost.is_failure w.ending) _ None (some_other _ (statement_other (lost.course_of program step proc b) p (statement_at proc.body w.at))) none_other
  part_other Invariant = then_other _ (lost.arrival proc w) (λ e. then_other _ (slice_get (proc_cuts proc) e) (λ k. if_other _ None (Some (loss.FalseNote e)) none_other (some_other (loss.FalseNote e) refl)))
  part_other Once = if_other p.again _ _ (some_other (loss.CommitAgain (lost.again_at w.passed w.at)) refl)
      (then_other _ (lost.arrival proc w) (λ e. if_other (is_exit proc e && not p.done) (Some loss.NoCommit) None (some_other loss.NoCommit refl) none_other))
  part_other Stutter = end_other (lost.arrival proc w) (lost.changes_lost program step proc b p) (if_other _ _ None (any_other loss.Changes _ _ refl) none_other)
  part_other Perform = end_other (lost.arrival proc w) (lost.action_lost program step proc b p) (if_other (p.done && not b.old_done) _ None
      (then_other _ (refined_action program proc) (λ a. given_other (fires program.globals b.old a (inputs_of proc b.locals) (lost.chosen_behind program proc p)))) none_other)
  part_other Rank = then_other _ (lost.arrival proc w) (λ e. if_other (nat_eq e c) _ None
      (then_other _ (cut_rank proc cut) (λ r. if_other _ None (Some (loss.RankStays _ _)) none_other (some_other (loss.RankStays _ _) refl))) none_other)

-- ---- the whole

told_told : (t : Told) (target : Option Target) (values : List Value) (l : Loss) → tell_loss (loss_lines t target values l) ≡ true
    → tell_loss (told_lines t target values l) ≡ true
told_told t target values l h =
    behind (begin_line t ∷ around_lines t) (course_lines t target values l)
    (behind (passage_lines t (told_passages l t.path.walked.passed)) (loss_lines t target values l) h)

of_number : {A : Type 0} (P : Loss → Type 0) (f : A → Option Loss) (o : Option A) (l : Loss) → ((a : A) → o ≡ Some a → f a ≡ Some l → P l)
    → option_map_or f o None ≡ Some l → P l
of_number P f None l h e = absurd (cc)
of_number P f (Some a) l h e = h a refl e

module _ (program : Program) (step q c : ℕ) (values : List Value) (l : Loss) where
  told_there : (target : Option Target) → ((t : Told) → tell_loss (loss_lines t target values l) ≡ true)
      → (proc : Proc) → slice_get program.procs q ≡ Some proc → (cut : Cut) → slice_get (proc_cuts proc) c ≡ Some cut
      → (condition : Condition) → path_story program condition values l ≡ option_map_or (λ p. option_map_or (story_lines program step q target values l p) (slice_get (proc_cuts p) c) []) (slice_get program.procs q) []
      → tell_loss (path_story program condition values l) ≡ true
  told_there target h proc there cut at condition is =
      let whole : option_map_or (λ p. option_map_or (story_lines program step q target values l p) (slice_get (proc_cuts p) c) []) (slice_get program.procs q) []
      ≡ story_lines program step q target values l proc cut = simp (there, at) in
      let t : Told = record { program = program; step = step; number = q; proc = proc; cut = cut; path = story_from program step values proc cut } in
      subst (λ (ls : List Line). tell_loss ls ≡ true) (sym (is ∙ whole)) (told_told t target values l (h t))

  path_tells : (part : Part) → lost.loss program (condition.Path part step q c) values ≡ Some l → tell_loss (path_story program (condition.Path part step q c) values l) ≡ true
  unfolding lost.loss path_story
  path_tells part e =
      of_number (λ k. tell_loss (path_story program (condition.Path part step q c) values l) ≡ true) _ (slice_get program.procs q) l (λ proc there f.
      of_number (λ k. tell_loss (path_story program (condition.Path part step q c) values l) ≡ true) _ (slice_get (proc_cuts proc) c) l (λ cut at g.
      let b : Begun = begun program step proc cut values in
      let other = if_other (assumed program step proc c cut b) _ None (part_other program step proc c cut b (lost.walked_of program step proc cut b) part) none_other l g in
      told_there None (λ t. other_told t None values l other) proc there cut at (condition.Path part step q c) refl) f) e

  block_tells : (target : Target) → lost.loss program (condition.Block step q c target) values ≡ Some l → tell_loss (path_story program (condition.Block step q c target) values l) ≡ true
  unfolding lost.loss path_story
  block_tells target e =
      of_number (λ k. tell_loss (path_story program (condition.Block step q c target) values l) ≡ true) _ (slice_get program.procs q) l (λ proc there f.
      of_number (λ k. tell_loss (path_story program (condition.Block step q c target) values l) ≡ true) _ (slice_get (proc_cuts proc) c) l (λ cut at g.
      told_there (Some target) (λ t. target_told t target values l) proc there cut at (condition.Block step q c target) refl) f) e

no_loss : (program : Program) (values : List Value) (l : Loss) (condition : Condition) → None ≡ Some l → tell_loss (path_story program condition values l) ≡ true
no_loss program values l condition e = absurd (cc)

pub losses_tell_losses : LossesTellLosses
unfolding lost.loss
losses_tell_losses program (condition.Path part step q c) values l e = path_tells program step q c values l part e
losses_tell_losses program (condition.Block step q c target) values l e = block_tells program step q c values l target e
losses_tell_losses program (condition.Start step i) values l e = no_loss program values l (condition.Start step i) e
losses_tell_losses program (condition.Keep step m) values l e = no_loss program values l (condition.Keep step m) e
losses_tell_losses program (condition.Pair number step m n) values l e = no_loss program values l (condition.Pair number step m n) e
losses_tell_losses program (condition.Fire step m) values l e = no_loss program values l (condition.Fire step m) e
losses_tell_losses program (condition.Act step m target) values l e = no_loss program values l (condition.Act step m target) e
