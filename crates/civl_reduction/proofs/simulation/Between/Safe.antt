-- Where a block is open, the next statement of its thread doesn't fail.
use Rattle.std.proofs.Common.{◌≡◌, ℕ, ◌+◌, ◌-◌, false, List, [], Option, None, Some, refl, sym, ap, ◌∙◌, subst, arith}
use Rattle.std.specs.Prelude.{slice_get}
use Rattle.std.proofs.lemmas.Option.{none-some}
use Rattle.std.proofs.lemmas.List.Elements.{All-nil}
use Rattle.civl_bits.specs.Value.{IsValue}
use Rattle.civl_bits.specs.declared.value.Value.{Value}
use Rattle.civl_tree.specs.declared.program.Proc.{Proc}
use Rattle.civl_tree.specs.declared.program.Program.{Program}
use Rattle.civl_tree.specs.declared.stmt.Stmt.{Stmt, out-Stmt}
use Rattle.civl_tree.specs.declared.stmt.Stmt.TheOpen as stmt
use Rattle.civl_firing.specs.declared.store.Store.{Store}
use Rattle.civl_meaning.specs.declared.config.Plain.{Plain}
use Rattle.civl_meaning.specs.declared.config.Activation.{Activation}
use Rattle.civl_meaning.specs.declared.config.State.{State}
use Rattle.civl_meaning.specs.declared.config.Running.{Running}
use Rattle.civl_meaning.specs.declared.config.Stepped.TheVariants as answer
use Rattle.civl_meaning.specs.declared.config.Change.{Change}
use Rattle.civl_meaning.specs.declared.config.Change.TheVariants.{Stays, Goes, Acts, Enters, Leaves, Spawns}
use Rattle.civl_meaning.specs.Places.{Spot, spot_at}
use Rattle.civl_meaning.specs.Rest.{rest_at}
use Rattle.civl_meaning.specs.Change.{statement_doing, spot_doing, proc_doing, state_doing, caller_of, change_of}
use Rattle.civl_meaning.specs.Failing.{fails_at, thread_fails, answers_failing}
use Rattle.civl_meaning.specs.Layers.{program_at}
use Rattle.civl_meaning.proofs.Failures.{failing_is_answered}
use Rattle.civl_layers.specs.declared.cut.Cut.{Cut}
use Rattle.civl_conditions.specs.paths.Runs.{Standing, yield_before}
use Rattle.civl_conditions.specs.Values.{Begun}
use Rattle.civl_reduction.specs.blocks.Blocks.{at_yield}
use Rattle.civl_reduction.specs.open_blocks.Following.{layer_head, head_there, cut_ahead}
use Rattle.civl_reduction.specs.open_blocks.Open.{IsSound, IsTopmost, IsOpen, StepStaysOpen}
use Rattle.civl_reduction.proofs.open_blocks.Open.Going.{stays_open}
use Rattle.civl_reduction.proofs.staged.Measures.Nearing.{none_or}
use Rattle.civl_reduction.proofs.staged.Opened.Forms.{no_yield}

-- a loop doesn't fail
pub head_fails_not : (plain : Plain) (g : Store) (proc : Proc) (ls : List Value) (n next m : ℕ) (d : stmt.Stmt-F Stmt) → layer_head n d ≡ Some m → fails_at plain g (statement_doing plain proc ls n next d) ≡ false
head_fails_not plain g proc ls n next m (stmt.YieldLoop t i a) e = refl
head_fails_not plain g proc ls n next m (stmt.RankLoop t r i a) e = refl
head_fails_not plain g proc ls n next m _ e = absurd (none-some m e)

-- nor what stays open
stays_fails_not : (program : Program) (step q c : ℕ) (proc : Proc) (cut : Cut) (b : Begun) (bound : ℕ) (here : Standing) (store : Store) (frame : Activation) (s : Spot) (values : List Value) (x : Change) → StepStaysOpen program step q c proc cut b bound here store frame s values x → answers_failing x ≡ false
stays_fails_not program step q c proc cut b bound here store frame s values (Stays answer.Failing) h = absurd h
stays_fails_not program step q c proc cut b bound here store frame s values (Stays answer.Moved) h = refl
stays_fails_not program step q c proc cut b bound here store frame s values (Stays answer.Blocked) h = refl
stays_fails_not program step q c proc cut b bound here store frame s values (Stays answer.NoThread) h = refl
stays_fails_not program step q c proc cut b bound here store frame s values (Stays answer.Ended) h = refl
stays_fails_not program step q c proc cut b bound here store frame s values (Stays answer.BadChoices) h = refl
stays_fails_not program step q c proc cut b bound here store frame s values (Goes locals place) h = refl
stays_fails_not program step q c proc cut b bound here store frame s values (Acts after locals place) h = refl
stays_fails_not program step q c proc cut b bound here store frame s values (Enters other place) h = refl
stays_fails_not program step q c proc cut b bound here store frame s values (Leaves other) h = refl
stays_fails_not program step q c proc cut b bound here store frame s values (Spawns other place) h = refl

-- a frame of the procedure, as the topmost of its thread
module _ (program : Program) (layer q : ℕ) (proc : Proc) (store : Store) (frame : Activation) (thread : Running) (there : slice_get program.procs q ≡ Some proc) (top : IsTopmost program (layer + 1) q thread frame) where
  abbrev plain : Plain
  plain = program_at program layer

  pub fails_there : (u : Option Spot) → spot_at proc.body frame.place ≡ u → thread_fails plain store thread ≡ fails_at plain store (spot_doing plain (caller_of top.below) frame proc u)
  fails_there u e =
      ap (λ (x : State). fails_at plain store (state_doing plain thread x)) top.inside
      ∙ ap (λ (o : Option Proc). fails_at plain store (proc_doing plain (caller_of top.below) frame o)) (ap (slice_get program.procs) top.procedure ∙ there)
      ∙ ap (λ (o : Option Spot). fails_at plain store (spot_doing plain (caller_of top.below) frame proc o)) e

  module _ (c : ℕ) (cut : Cut) (b : Begun) (bound : ℕ) (here : Standing) (sound : IsSound program) (opened : IsOpen program (layer + 1) q c proc cut b bound here store frame) (inside : at_yield (rest_at proc.body here.place) ≡ false) where
    low : layer + 1 - 1 ≡ layer
    low = omega arith

    abbrev lower : Plain
    lower = program_at program (layer + 1 - 1)

    away : (p : Spot) → spot_at proc.body frame.place ≡ Some p → cut_ahead proc.body here.place ≡ None → thread_fails plain store thread ≡ false
    away p e none =
        let open_still = stays_open program (layer + 1) q c proc cut b bound here store frame thread [] p sound opened top (All-nil IsValue) none e in
        let quiet = stays_fails_not program (layer + 1) q c proc cut b bound here store frame p [] (change_of lower store [] thread) open_still in
        sym (failing_is_answered plain store [] thread) ∙ subst (λ (n : ℕ). answers_failing (change_of (program_at program n) store [] thread) ≡ false) low quiet

    at_head : (p : Spot) → spot_at proc.body frame.place ≡ Some p → (number : ℕ) → cut_ahead proc.body here.place ≡ Some number → thread_fails plain store thread ≡ false
    at_head p e number ahead =
        let head = none_or (yield_before (rest_at proc.body here.place)) (head_there (spot_at proc.body here.place)) number (no_yield (rest_at proc.body here.place) inside) ahead in
        fails_there (Some p) e ∙ head_fails_not plain store proc frame.locals p.number p.next number (out-Stmt p.stmt) (sym (ap head_there (opened.follows.alike.spot ∙ e)) ∙ head)

    by_ahead : (p : Spot) → spot_at proc.body frame.place ≡ Some p → (u : Option ℕ) → cut_ahead proc.body here.place ≡ u → thread_fails plain store thread ≡ false
    by_ahead p e None ahead = away p e ahead
    by_ahead p e (Some number) ahead = at_head p e number ahead

    by_spot : (u : Option Spot) → spot_at proc.body frame.place ≡ u → thread_fails plain store thread ≡ false
    by_spot None e = fails_there None e
    by_spot (Some p) e = by_ahead p e (cut_ahead proc.body here.place) refl

    pub open_is_safe : thread_fails plain store thread ≡ false
    open_is_safe = by_spot (spot_at proc.body frame.place) refl
