-- Two steps of a plain program, the other way round.
use Rattle.std.proofs.Common.{ℕ, ◌≡◌, ◌≢◌, Bool, true, false, List, Option, Some, None, refl, slice_get, ap, sym, ◌∙◌, inl, inr, ◌⊎◌}
use Rattle.std.proofs.lemmas.Option.{same_Some, none-some}
use Rattle.std.proofs.lemmas.Map.Keys.{any_passes_from_place}
use Rattle.civl_bits.specs.declared.value.Value.{Value}
use Rattle.civl_tree.specs.declared.name.Name.{Name}
use Rattle.civl_firing.specs.declared.store.Store.{Store}
use Rattle.civl_meaning.specs.declared.config.Move.{Move}
use Rattle.civl_meaning.specs.declared.config.Plain.{Plain}
use Rattle.civl_meaning.specs.declared.config.Running.{Running}
use Rattle.civl_meaning.specs.declared.config.Config.{Config}
use Rattle.civl_meaning.specs.declared.config.Stepped.{Stepped}
use Rattle.civl_meaning.specs.declared.config.Stepped.TheVariants as answer
use Rattle.civl_meaning.specs.Step.{step_of}
use Rattle.civl_meaning.specs.Failing.{thread_fails, is_failing, IsMove}
use Rattle.civl_reduction.specs.exchanges.Interleavings.{Chosen, Call, as_config, as_move, told}
use Rattle.civl_meaning.specs.Change.{doing}
use Rattle.civl_meaning.specs.Change as does
use Rattle.civl_reduction.specs.exchanges.Exchange.{Exchanged, SpawnsNone, StepsExchange}
use Rattle.civl_reduction.specs.exchanges.Interleavings.{whole}
use Rattle.civl_reduction.proofs.exchanges.Agreeing.{P, steps_agree, fails_agree}
use Rattle.civl_reduction.specs.interleavings.Systems.{Failing}
use Rattle.civl_reduction.specs.interleavings.Reduction as laws
use Rattle.civl_reduction.specs.interleavings.Threads.{stepping_of, fails_in}
use Rattle.civl_reduction.specs.interleavings.Threads as threads
use Rattle.civl_reduction.proofs.interleavings.Exchanging.{exchanged}
use Rattle.civl_reduction.proofs.interleavings.Exchanging as pairs

abbrev pub config_of : threads.Config Store Running → Config
config_of c = record { store = c.store; threads = c.threads }

told_back : (x : Stepped × Config) (d : threads.Config Store Running) → told x ≡ Some d → x ≡ (answer.Moved, config_of d)
told_back (answer.Moved, e) d h = ap (λ (c : threads.Config Store Running). (answer.Moved, config_of c)) (same_Some (as_config e) d h)
told_back (answer.Blocked, e) d h = absurd (none-some d h)
told_back (answer.NoThread, e) d h = absurd (none-some d h)
told_back (answer.Ended, e) d h = absurd (none-some d h)
told_back (answer.Failing, e) d h = absurd (none-some d h)
told_back (answer.BadChoices, e) d h = absurd (none-some d h)

module _ (plain : Plain) (store : Store) (inside : Running → Bool) where
  abbrev Q : threads.Threads Store Running Call Chosen (List Value)
  Q = P plain store inside

  pub steps_back : (c : Config) (m : Move) (h : IsMove m) (d : threads.Config Store Running) → threads.step_of Q (as_config c) (as_move m h) ≡ Some d → step_of plain c m ≡ (answer.Moved, config_of d)
  steps_back c m h d e = told_back (step_of plain c m) d (sym (steps_agree plain store inside c m h) ∙ e)

  pub fails_back : (c : Config) → Failing (stepping_of Q) (as_config c) → is_failing plain c ≡ true
  fails_back c f = go (slice_get c.threads f.0) refl f.1
    where
      go : (o : Option Running) → slice_get c.threads f.0 ≡ o → fails_in Q c.store o ≡ true → is_failing plain c ≡ true
      go None i e = absurd cc
      go (Some r) i e = any_passes_from_place (thread_fails plain c.store) c.threads f.0 r i (fails_agree plain store inside c.store r ∙ e)

  -- two calls by `Swaps`; one of the two steps spawns no thread; both threads are there before
  exchange : (c d e : Config) (m n : Move) (h : IsMove m) (i : IsMove n) (r q : Running) → m.thread ≢ n.thread → slice_get c.threads m.thread ≡ Some r → slice_get c.threads n.thread ≡ Some q
      → pairs.CallsSwap Q (Q.doing r) (Q.doing q) c.store (m.choices, h) (n.choices, i) → pairs.OneSpawns Q (Q.doing r) (Q.doing q)
      → step_of plain c m ≡ (answer.Moved, d) → step_of plain d n ≡ (answer.Moved, e) → Exchanged plain c m n e
  exchange c d e m n h i r q w there also s one a b =
      go (exchanged Q (as_config c) (as_config d) (as_config e) (as_move m h) (as_move n i) r q w there also s one
      (steps_agree plain store inside c m h ∙ ap told a) (steps_agree plain store inside d n i ∙ ap told b))
    where
      go : laws.Exchanged (stepping_of Q) (as_config c) (as_move m h) (as_move n i) (as_config e) → Exchanged plain c m n e
      go (inl x) = inl (config_of x.0, steps_back c n i x.0 x.1, steps_back (config_of x.0) m h (as_config e) x.2)
      go (inr (inl x)) = inr (inl (fails_back c x))
      go (inr (inr x)) = inr (inr (config_of x.0, steps_back c n i x.0 x.1, fails_back (config_of x.0) x.2))

-- ---- what a thread does, and as a whole thread

abbrev call_in : threads.Doing Running Call (List Value) → Option Call
call_in (threads.Calls x f) = Some x
call_in _ = None

pub called_so : (r : Running) (D : does.Doing) (x : Call) (f : List Value → Running) → whole r D ≡ threads.Calls x f
    → (names : List Name) × (locals : List Value) × (results : List Name) × (next : ℕ) × (D ≡ does.Calls names locals results next x.0 x.1)
called_so r (does.Calls names locals results next action args) x f e = (names, locals, results, next, ap (λ (c : Call). does.Calls names locals results next c.0 c.1) (same_Some (action, args) x (ap call_in e)))
called_so r does.Fails x f e = absurd (none-some x (ap call_in e))
called_so r does.Waits x f e = absurd (none-some x (ap call_in e))
called_so r does.Ends x f e = absurd (none-some x (ap call_in e))
called_so r (does.Goes locals place) x f e = absurd (none-some x (ap call_in e))
called_so r (does.Enters frame place) x f e = absurd (none-some x (ap call_in e))
called_so r (does.Leaves frame) x f e = absurd (none-some x (ap call_in e))
called_so r (does.Spawns other place) x f e = absurd (none-some x (ap call_in e))

abbrev new_in : threads.Doing Running Call (List Value) → Option Running
new_in (threads.Spawns r n) = Some n
new_in _ = None

spawns_none : (r : Running) (D : does.Doing) → SpawnsNone D → (s n : Running) → whole r D ≡ threads.Spawns s n → ⊥
spawns_none r (does.Spawns other place) h s n e = h other place refl
spawns_none r (does.Calls names locals results next action args) h s n e = none-some n (ap new_in e)
spawns_none r does.Fails h s n e = none-some n (ap new_in e)
spawns_none r does.Waits h s n e = none-some n (ap new_in e)
spawns_none r does.Ends h s n e = none-some n (ap new_in e)
spawns_none r (does.Goes locals place) h s n e = none-some n (ap new_in e)
spawns_none r (does.Enters frame place) h s n e = none-some n (ap new_in e)
spawns_none r (does.Leaves frame) h s n e = none-some n (ap new_in e)

-- where threads stand inside blocks doesn't matter to a step
abbrev nowhere : Running → Bool
nowhere r = false

pub steps_exchange : StepsExchange
steps_exchange plain c d e m n r q h i w there also swap one a b =
    exchange plain c.store nowhere c d e m n h i r q w there also calls (quiet one) a b
  where
    calls : pairs.CallsSwap (P plain c.store nowhere) (whole r (doing plain r)) (whole q (doing plain q)) c.store (m.choices, h) (n.choices, i)
    calls x y f g j k =
        let u = called_so r (doing plain r) x f j in
        let v = called_so q (doing plain q) y g k in
        swap u.0 v.0 u.1 v.1 u.2 v.2 u.3 v.3 x.0 y.0 x.1 y.1 u.4 v.4

    quiet : SpawnsNone (doing plain r) ⊎ SpawnsNone (doing plain q) → pairs.OneSpawns (P plain c.store nowhere) (whole r (doing plain r)) (whole q (doing plain q))
    quiet (inl x) = inl (spawns_none r (doing plain r) x)
    quiet (inr x) = inr (spawns_none q (doing plain q) x)
