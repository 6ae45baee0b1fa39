-- The first thread that fails.
use Rattle.std.proofs.Common.{ℕ, ◌≡◌, ◌<◌, ◌≤◌, Bool, true, false, [], length, arith, Option, None, Some, refl, sym, ap, ◌∙◌, get_or, slice_get}
use Rattle.std.specs.Prelude.{IfSome, IfNone, nat_lt, if◌then◌else◌}
use Rattle.civl_meaning.specs.declared.config.State.TheVariants.{Before}
use Rattle.std.specs.List.{position_or_len}
use Rattle.std.proofs.lemmas.Option.{slice_get_within, slice_get-get_or, get_or_from_slice_get, none-some}
use Rattle.std.proofs.lemmas.List.Quantifiers.{position-Some}
use Rattle.std.proofs.lemmas.Bool.{ltb-false, both_ways}
use Rattle.std.proofs.lemmas.List.Sums.{fails_before_first}
use Rattle.civl_tree.proofs.Lists.{any_place}
use Rattle.civl_meaning.specs.declared.config.Plain.{Plain}
use Rattle.civl_meaning.specs.declared.config.Running.{Running}
use Rattle.civl_meaning.specs.declared.config.Config.{Config}
use Rattle.civl_meaning.specs.Failing.{thread_fails, failing_thread, is_failing}
use Rattle.civl_reduction.specs.gathered.System.{there_fails}

module _ (plain : Plain) (config : Config) where
  abbrev Fails : ℕ → Type 0
  Fails t = there_fails plain config.store (slice_get config.threads t) ≡ true

  abbrev p : Running → Bool
  p = thread_fails plain config.store

  pub first_fails : (o : Option ℕ) → o ≡ failing_thread plain config → IfSome o Fails
  first_fails None e = tt
  first_fails (Some t) e = go (position-Some p config.threads t nobody (sym e))
    where
      nobody : Running
      nobody = record { callee = 0; args = []; state = Before }

      go : (t < length config.threads) × (p (get_or config.threads t nobody) ≡ true) × ((k : ℕ) → k < t → p (get_or config.threads k nobody) ≡ false) → Fails t
      go h = ap (there_fails plain config.store) (slice_get-get_or config.threads t nobody h.0) ∙ h.1

  none_first : (b : Bool) (n : ℕ) → None ≡ (if b then Some n else None) → b ≡ false
  none_first true n e = absurd (none-some n e)
  none_first false n e = refl

  pub none_fails : (o : Option ℕ) → o ≡ failing_thread plain config → IfNone o (((t : ℕ) × Fails t) → ⊥)
  none_fails None e = λ f. go f.0 (slice_get config.threads f.0) refl f.1
    where
      past : length config.threads ≤ position_or_len p config.threads
      past = ltb-false (position_or_len p config.threads) (length config.threads) (none_first (nat_lt (position_or_len p config.threads) (length config.threads)) (position_or_len p config.threads) e)

      go : (t : ℕ) (o : Option Running) → slice_get config.threads t ≡ o → there_fails plain config.store o ≡ true → ⊥
      go t None q h = both_ways false refl h
      go t (Some x) q h =
          let within = slice_get_within config.threads t x q in
          let at = fails_before_first p config.threads t x (omega (arith, within, past)) in
          both_ways (p x) (sym (ap p (get_or_from_slice_get config.threads t x x q)) ∙ at) h
  none_fails (Some t) e = tt

-- ---- some thread

pub any_fails : (plain : Plain) (config : Config) → is_failing plain config ≡ true → (t : ℕ) × (there_fails plain config.store (slice_get config.threads t) ≡ true)
any_fails plain config e = let r = any_place (thread_fails plain config.store) config.threads e in (r.0, ap (there_fails plain config.store) r.2 ∙ r.3)
