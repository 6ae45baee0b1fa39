-- The flag program is preserved: no schedule of its lowest program fails. The gated one isn't.
use Rattle.std.proofs.Common.{◌≡◌, ℕ, zero, suc, Bool, true, false, List, [], ◌∷◌, refl, sym, ap, ◌∙◌, subst}
use Rattle.std.specs.Prelude.{codes}
use Rattle.std.proofs.lemmas.Bool.{false≢true}
use Rattle.std.proofs.lemmas.List.Elements.{All-nil, All-cons}
use Rattle.civl_bits.specs.Value.{IsValue}
use Rattle.civl_bits.specs.declared.value.Value.{Value}
use Rattle.civl_tree.specs.declared.expr.Expr as expr
use Rattle.civl_tree.specs.declared.expr.Expr.{the_lemmas as of_expr}
use Rattle.civl_tree.specs.declared.stmt.Stmt.{the_lemmas as of_stmt}
use Rattle.civl_meaning.specs.declared.config.Config.{Config}
use Rattle.civl_meaning.specs.declared.config.Move.{Move}
use Rattle.civl_meaning.specs.declared.config.Plain.{Plain}
use Rattle.civl_meaning.specs.declared.config.State.{State}
use Rattle.civl_meaning.specs.declared.config.State.TheVariants.{Before, Inside, After}
use Rattle.civl_meaning.specs.declared.config.Stepped.{Stepped}
use Rattle.civl_meaning.specs.declared.config.Stepped.TheVariants as answer
use Rattle.civl_firing.specs.declared.store.Store.{Store}
use Rattle.civl_firing.specs.Fired.{gate_holds, fires, fired, store_after}
use Rattle.civl_meaning.specs.Step.{start, step_of}
use Rattle.civl_meaning.specs.Run.{RunsTo}
use Rattle.civl_meaning.specs.Failing.{CanFail, is_failing}
use Rattle.civl_meaning.specs.Layers.{lowest, topmost}
use Rattle.civl_meaning.specs.Initial.{IsInitial}
use Rattle.civl_firing.specs.examples.Written.{bool}
use Rattle.civl_meaning.specs.examples.Flag.{flag, gated, setting, flag_is, bare, running, FlagNeverFails, FlagIsPreserved, GatedIsNotPreserved}
use Rattle.civl_meaning.proofs.Schedules.{gated_can_fail}

kept : (plain : Plain) (Holds : Config → Type 0) → ((m : Move) (c d : Config) → Holds c → step_of plain c m ≡ (answer.Moved, d) → Holds d) → (ms : List Move) (c d : Config) → Holds c → RunsTo plain ms c d → Holds d
kept plain Holds step [] c d h r = subst Holds r h
kept plain Holds step (m ∷ ms) c d h r = kept plain Holds step ms r.0 d (step m c r.0 h r.1) r.2

-- an inductive invariant that holds of the start and of no failing configuration
invariants_keep_safe : (plain : Plain) (Holds : Config → Type 0) → ((m : Move) (c d : Config) → Holds c → step_of plain c m ≡ (answer.Moved, d) → Holds d) → ((c : Config) → Holds c → is_failing plain c ≡ false) → (store : Store) → Holds (start plain store) → CanFail plain store → ⊥
invariants_keep_safe plain Holds step safe store first can =
    false≢true (sym (safe can.1 (kept plain Holds step can.0 (start plain store) can.1 first can.3)) ∙ can.4)

-- the states of DoSet's thread in the lowest program
abbrev phase : ℕ → State
phase zero = Before
phase (suc zero) = Inside [] (bare 0 0)
phase (suc (suc zero)) = Inside [] (bare 0 1)
phase (suc (suc (suc n))) = After

abbrev at_phase : ℕ → Store → Config
at_phase n store = record { store = store; threads = running 0 (phase n) ∷ [] }

abbrev IsAtPhase : Config → Type 0
IsAtPhase c = (n : ℕ) × (store : Store) × (c ≡ at_phase n store)

-- a step that was made goes where it goes, and a refused one is not made
goes : (plain : Plain) (m : Move) (c d e : Config) → step_of plain c m ≡ (answer.Moved, e) → step_of plain c m ≡ (answer.Moved, d) → d ≡ e
goes plain m c d e p q = ap (λ (x : Stepped × Config). x.1) (sym q ∙ p)

refused : (plain : Plain) (m : Move) (c d : Config) (a : Stepped) → step_of plain c m ≡ (a, c) → (a ≡ answer.Moved → ⊥) → step_of plain c m ≡ (answer.Moved, d) → ⊥
refused plain m c d a e n p = n (ap (λ (x : Stepped × Config). x.0) (sym e ∙ p))

pub no_thread : answer.NoThread ≡ answer.Moved → ⊥
no_thread e = cc

ended : answer.Ended ≡ answer.Moved → ⊥
ended e = cc

pub bad_choices : answer.BadChoices ≡ answer.Moved → ⊥
bad_choices e = cc

-- a move of the one thread
abbrev move : ℕ → List Value → Move
move thread chosen = record { thread = thread; choices = chosen }

acts : (store : Store) → (after : Store) × (step_of (lowest flag) (at_phase 1 store) (move 0 []) ≡ (answer.Moved, at_phase 2 after))
unfolding gate_holds fires fired
acts store = (store_after flag.globals store (setting (codes "Set") 0 expr.True) [] [], simp (of_expr, of_stmt))

not_chosen : (store : Store) (v : Value) (vs : List Value) → step_of (lowest flag) (at_phase 1 store) (move 0 (v ∷ vs)) ≡ (answer.BadChoices, at_phase 1 store)
unfolding gate_holds fires fired
not_chosen store v vs = simp (of_expr, of_stmt)

returns_from : (store : Store) (chosen : List Value) → step_of (lowest flag) (at_phase 2 store) (move 0 chosen) ≡ (answer.Moved, at_phase 3 store)
returns_from store chosen = simp (of_stmt)

phase_after : (n : ℕ) (store : Store) (t : ℕ) (chosen : List Value) (d : Config) → step_of (lowest flag) (at_phase n store) (move t chosen) ≡ (answer.Moved, d) → IsAtPhase d
phase_after n store (suc t) chosen d p = absurd (refused (lowest flag) (move (suc t) chosen) (at_phase n store) d answer.NoThread refl no_thread p)
phase_after zero store zero chosen d p = (1, store, goes (lowest flag) (move 0 chosen) (at_phase 0 store) d (at_phase 1 store) refl p)
phase_after (suc zero) store zero [] d p = let a = acts store in (2, a.0, goes (lowest flag) (move 0 []) (at_phase 1 store) d (at_phase 2 a.0) a.1 p)
phase_after (suc zero) store zero (v ∷ vs) d p = absurd (refused (lowest flag) (move 0 (v ∷ vs)) (at_phase 1 store) d answer.BadChoices (not_chosen store v vs) bad_choices p)
phase_after (suc (suc zero)) store zero chosen d p = (3, store, goes (lowest flag) (move 0 chosen) (at_phase 2 store) d (at_phase 3 store) (returns_from store chosen) p)
phase_after (suc (suc (suc n))) store zero chosen d p = absurd (refused (lowest flag) (move 0 chosen) (at_phase 3 store) d answer.Ended refl ended p)

phase_is_safe : (n : ℕ) (store : Store) → is_failing (lowest flag) (at_phase n store) ≡ false
unfolding gate_holds
phase_is_safe zero store = refl
phase_is_safe (suc zero) store = simp (of_expr, of_stmt)
phase_is_safe (suc (suc zero)) store = simp (of_stmt)
phase_is_safe (suc (suc (suc n))) store = refl

pub flag_is_safe : FlagNeverFails
flag_is_safe store can =
    invariants_keep_safe (lowest flag) IsAtPhase (λ m c d h p. phase_after h.0 h.1 m.thread m.choices d (subst (λ (x : Config). step_of (lowest flag) x m ≡ (answer.Moved, d)) h.2 p))
    (λ c h. ap (is_failing (lowest flag)) h.2 ∙ phase_is_safe h.0 h.1) store (0, store, refl) can

starts : IsInitial flag (flag_is false)
starts = record {
  store_fits = record { fit = All-cons IsValue (bool false) [] tt (All-nil IsValue); are = refl };
  init_holds = simp (of_expr);
  disjoint = refl;
}

pub flag_is_preserved : FlagIsPreserved
flag_is_preserved = record { starts = (flag_is false, starts); preserved = λ store init can. absurd (flag_is_safe store can) }

-- the states of the gated program's thread in its topmost program
abbrev top_state : Bool → State
top_state false = Before
top_state true = After

abbrev top_at : Bool → Store → Config
top_at done store = record { store = store; threads = running 0 (top_state done) ∷ [] }

abbrev IsTop : Config → Type 0
IsTop c = (done : Bool) × (store : Store) × (c ≡ top_at done store)

top_acts : (store : Store) → (after : Store) × (step_of (topmost gated) (top_at false store) (move 0 []) ≡ (answer.Moved, top_at true after))
unfolding gate_holds fires fired
top_acts store = (store_after flag.globals store (setting (codes "AtomSet") 1 expr.True) [] [], simp (of_expr))

top_not_chosen : (store : Store) (v : Value) (vs : List Value) → step_of (topmost gated) (top_at false store) (move 0 (v ∷ vs)) ≡ (answer.BadChoices, top_at false store)
unfolding gate_holds fires fired
top_not_chosen store v vs = simp (of_expr)

top_after : (done : Bool) (store : Store) (t : ℕ) (chosen : List Value) (d : Config) → step_of (topmost gated) (top_at done store) (move t chosen) ≡ (answer.Moved, d) → IsTop d
top_after done store (suc t) chosen d p = absurd (refused (topmost gated) (move (suc t) chosen) (top_at done store) d answer.NoThread refl no_thread p)
top_after false store zero [] d p = let a = top_acts store in (true, a.0, goes (topmost gated) (move 0 []) (top_at false store) d (top_at true a.0) a.1 p)
top_after false store zero (v ∷ vs) d p = absurd (refused (topmost gated) (move 0 (v ∷ vs)) (top_at false store) d answer.BadChoices (top_not_chosen store v vs) bad_choices p)
top_after true store zero chosen d p = absurd (refused (topmost gated) (move 0 chosen) (top_at true store) d answer.Ended refl ended p)

top_is_safe : (done : Bool) (store : Store) → is_failing (topmost gated) (top_at done store) ≡ false
unfolding gate_holds
top_is_safe false store = simp (of_expr)
top_is_safe true store = refl

gated_top_is_safe : (store : Store) → CanFail (topmost gated) store → ⊥
gated_top_is_safe store can =
    invariants_keep_safe (topmost gated) IsTop (λ m c d h p. top_after h.0 h.1 m.thread m.choices d (subst (λ (x : Config). step_of (topmost gated) x m ≡ (answer.Moved, d)) h.2 p))
    (λ c h. ap (is_failing (topmost gated)) h.2 ∙ top_is_safe h.0 h.1) store (false, store, refl) can

gated_starts : IsInitial gated (flag_is false)
gated_starts = record {
  store_fits = record { fit = All-cons IsValue (bool false) [] tt (All-nil IsValue); are = refl };
  init_holds = simp (of_expr);
  disjoint = refl;
}

pub gated_is_not_preserved : GatedIsNotPreserved
gated_is_not_preserved h = gated_top_is_safe (flag_is false) (h.preserved (flag_is false) gated_starts gated_can_fail)
