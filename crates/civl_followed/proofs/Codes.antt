-- What the code's calls say, put together.
use Rattle.std.proofs.Common.{◌≡◌, ℕ, ◌+◌, ◌<◌, Bool, true, false, List, drop, length, get_or, refl, sym, ap, ◌∙◌, subst, arith, Option, Some, None, Contains, inl, inr, ◌⊎◌}
use Rattle.std.specs.Prelude.{All}
use Rattle.std.proofs.lemmas.Bool.{cases_eq}
use Rattle.std.proofs.lemmas.Option.{none-some}
use Rattle.std.proofs.lemmas.List.{get_or_default}
use Rattle.civl_bits.specs.Value.{IsValue}
use Rattle.civl_bits.specs.declared.value.Value.{Value}
use Rattle.civl_tree.specs.declared.action.Action.{Action}
use Rattle.civl_tree.specs.declared.program.Global.{Global}
use Rattle.civl_tree.specs.declared.program.Proc.{Proc}
use Rattle.civl_tree.specs.declared.program.Program.{Program}
use Rattle.civl_tree.specs.declared.stmt.Stmt.{Stmt, out-Stmt}
use Rattle.civl_tree.specs.declared.stmt.Stmt.TheOpen as stmt
use Rattle.civl_firing.specs.declared.firing.Fired.{Fired}
use Rattle.civl_firing.specs.declared.firing.Fired.TheVariants as fire
use Rattle.civl_firing.specs.declared.store.Store.{Store}
use Rattle.civl_firing.specs.Fired.{gate_holds, choices_fit, fires, fired_by}
use Rattle.civl_meaning.specs.declared.config.Activation.{Activation}
use Rattle.civl_meaning.specs.Change.{outs_in}
use Rattle.civl_meaning.specs.Rest.{Rest, rest_at}
use Rattle.civl_conditions.specs.Assumed.{refined_action, inputs_of}
use Rattle.civl_conditions.specs.paths.Paths.{Course, Progress, committed, introduced}
use Rattle.civl_reduction.specs.blocks.Blocks.{layer_at_yield}
use Rattle.civl_reduction.specs.blocks.Cuts.{settled}
use Rattle.civl_reduction.specs.blocks.Shadow.{course_of}
use Rattle.civl_reduction.specs.simulation.Refined.{with_values}
use Rattle.civl_reduction.specs.staged.Stops.{layer_stops, StopsAt}
use Rattle.civl_meaning.specs.declared.remaining.Numbered.{Numbered}
use Rattle.civl_shadows.specs.Notes.{layer_glides}
use Rattle.civl_meaning.specs.Remaining.{rest_of}
use Rattle.civl_shadows.proofs.Goings.{rest_more}
use Rattle.civl_followed.specs.declared.acting.Done.{Done}
use Rattle.civl_followed.specs.inner.Along.{Does, IsChosenOf, IsAfter, IsOffered}

-- ---- an action that does what a block did

fired_some : (o : Option (Store × List Value)) (to : Store) (outs : List Value) → fired_by o ≡ fire.Moved to outs → o ≡ Some (to, outs)
fired_some (Some p) to outs e = ap (λ (f : Fired). moved f) e
  where
    moved : Fired → Option (Store × List Value)
    moved (fire.Moved t os) = Some (t, os)
    moved _ = Some p
fired_some None to outs e = absurd (none-some (to, outs) (ap (λ (f : Fired). moved f) e))
  where
    moved : Fired → Option (Store × List Value)
    moved (fire.Moved t os) = Some (t, os)
    moved _ = None

pub does_so : (done : Done) (chosen : List Value) (action : Action) (globals : List Global) (inputs : List Value) (f : Fired) (to : Store) (outs others : List Value) (procedure place : ℕ)
    → globals ≡ done.program.now.globals → inputs ≡ inputs_of done.proc.now done.locals.now → refined_action done.program.now done.proc.now ≡ Some action
    → gate_holds globals done.before.now action inputs ≡ true → choices_fit action chosen ≡ true → All IsValue chosen → f ≡ fired_by (fires globals done.before.now action inputs chosen) → f ≡ fire.Moved to outs → others ≡ outs → IsAfter done to others
    → Does done.program.now done.layer (done.proc.now, record { procedure = procedure; place = place; locals = done.locals.now }) done.before.now done.after.now chosen
does_so done chosen action globals inputs f to outs others procedure place gs is there gate fit values fired moved same after =
    let fires_so = subst (λ (l : List Global). fires l done.before.now action inputs chosen ≡ Some (to, outs)) gs (fired_some (fires globals done.before.now action inputs chosen) to outs (sym fired ∙ moved)) in
    let gate_so = subst (λ (l : List Global). gate_holds l done.before.now action inputs ≡ true) gs gate in
    record {
      action = action;
      refined = there;
      gate = subst (λ (vs : List Value). gate_holds done.program.now.globals done.before.now action vs ≡ true) is gate_so;
      chosen = chosen;
      picks = refl;
      values = values;
      fit = fit;
      to = to;
      fires = subst (λ (vs : List Value). fires done.program.now.globals done.before.now action vs chosen ≡ Some (to, outs_in done.proc.now done.locals.now)) is (fires_so ∙ ap (λ (os : List Value). Some (to, os)) (sym same ∙ after.outs_are));
      globals = after.globals;
    }

-- ---- choices

pub next_not : (P : List Value → Type 0) (xs : List (List Value)) (at : ℕ) (one : List Value) → at < length xs → one ≡ get_or xs at one → ((k : ℕ) (d : List Value) → k < at → P (get_or xs k d) → ⊥) → (P one → ⊥)
    → (k : ℕ) (d : List Value) → k < at + 1 → P (get_or xs k d) → ⊥
next_not P xs at one h e before here k d l p = elim (cases_eq k at) [
  | inl q ↦ here (subst P (ap (λ (i : ℕ). get_or xs i d) q ∙ (get_or_default xs at d one h ∙ sym e)) p)
  | inr n ↦ before k d (less k at l n) p
]
  where
    less : (k at : ℕ) → k < at + 1 → (k ≡ at → ⊥) → k < at
    less k at l n = omega (arith, l, n)

pub chosen_so : (program : Program) (layer : ℕ) (proc other : Proc) (frame : Activation) (locals : List Value) (before : Store) (offered others : List (List Value)) (after later : Store) (chosen : List Value)
    → other ≡ proc → locals ≡ frame.locals → others ≡ offered → later ≡ after
    → IsChosenOf program layer (other, record { procedure = frame.procedure; place = frame.place; locals = locals }) before others later chosen → IsChosenOf program layer (proc, frame) before offered after chosen
chosen_so program layer proc other frame locals before offered others after later chosen p l o a h =
    subst (λ (x : Proc). IsChosenOf program layer (x, frame) before offered after chosen) p
    (subst (λ (x : List Value). IsChosenOf program layer (other, record { procedure = frame.procedure; place = frame.place; locals = x }) before offered after chosen) l
    (subst (λ (x : List (List Value)). IsChosenOf program layer (other, record { procedure = frame.procedure; place = frame.place; locals = locals }) before x after chosen) o
    (subst (λ (x : Store). IsChosenOf program layer (other, record { procedure = frame.procedure; place = frame.place; locals = locals }) before others x chosen) a h)))

-- ---- where what takes effect stops

abbrev Splits : Course → stmt.Stmt-F Stmt → Progress → Store → (Progress → Type 0) → Type 0
Splits c d p x later = ((layer_at_yield d false ≡ true) × (p.store ≡ x)) ⊎ ((next : Progress) × (layer_glides c d p ≡ Some next) × later next)

splits : (c : Course) (d : stmt.Stmt-F Stmt) (p : Progress) (x : Store) (later : Progress → Type 0) → layer_stops c d p x later → Splits c d p x later
splits c stmt.Commit p x later h = inr (committed p, refl, h)
splits c (stmt.Intro n e) p x later h = inr (introduced c n e p, refl, h)
splits c (stmt.Yield i) p x later (inl h) = inl (refl, h)
splits c (stmt.Yield i) p x later (inr h) = inr (p, refl, h)
splits c (stmt.YieldLoop e i a) p x later h = inl (refl, h)
splits c (stmt.Assign n e) p x later h = absurd h
splits c (stmt.Assert e) p x later h = absurd h
splits c (stmt.If e a b) p x later h = absurd h
splits c (stmt.While e a) p x later h = absurd h
splits c (stmt.RankLoop e v i a) p x later h = absurd h
splits c (stmt.Call f es rs) p x later h = absurd h
splits c (stmt.Spawn f es) p x later h = absurd h

pub splits_at : (c : Course) (items : List Numbered) (at : ℕ) (q : Numbered) (p : Progress) (x : Store) → at < length items → q ≡ get_or items at q → StopsAt c (rest_of (drop at items)) p x
    → Splits c (out-Stmt q.stmt.now) p x (λ next. StopsAt c (rest_of (drop (at + 1) items)) next x)
splits_at c items at q p x h e s =
    splits c (out-Stmt q.stmt.now) p x (λ next. StopsAt c (rest_of (drop (at + 1) items)) next x) (subst (λ (l : Rest). StopsAt c l p x) (rest_more items at q h e) s)

pub offered_so : (program : Program) (layer : ℕ) (proc : Proc) (frame : Activation) (store : Store) (done : Bool) (locals values : List Value) (items : List Numbered) (from : ℕ) (found : List (List Value)) (chosen : List Value) → locals ≡ frame.locals → values ≡ store.values
    → rest_of (drop from items) ≡ settled (rest_at proc.body frame.place)
    → ((x : Store) → StopsAt (course_of program layer proc) (rest_of (drop from items)) (record { store = record { values = values }; locals = locals; done = done; again = false }) x → Contains found (with_values program proc x locals))
    → IsOffered program layer store done (Some (proc, frame)) chosen → Contains found chosen
offered_so program layer proc frame store done locals values items from found chosen l v r says h =
    subst (Contains found) (ap (λ (ls : List Value). with_values program proc h.0 ls) l ∙ sym h.2)
    (says h.0 (subst (λ (k : Rest). StopsAt (course_of program layer proc) k (record { store = record { values = values }; locals = locals; done = done; again = false }) h.0) (sym r)
    (subst (λ (vs : List Value). StopsAt (course_of program layer proc) (settled (rest_at proc.body frame.place)) (record { store = record { values = vs }; locals = locals; done = done; again = false }) h.0) (sym v)
    (subst (λ (ls : List Value). StopsAt (course_of program layer proc) (settled (rest_at proc.body frame.place)) (record { store = store; locals = ls; done = done; again = false }) h.0) (sym l) h.1))))
