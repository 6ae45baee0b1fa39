-- The rules on examples.
use Rattle.std.proofs.Common.{◌≡◌, ℕ, suc, ◌+◌, ◌<◌, ◌∙◌, List, [], ◌∷◌, ◌++◌, length, get_or, refl, sym, ap, subst, inl, arith, true, false}
use Rattle.std.specs.Prelude.{Option, None, Some, IfSome, IfNone, IsTrue, All}
use Rattle.std.proofs.lemmas.List.Elements.{All-nil, All-cons}
use Rattle.civl_cnf.specs.ClauseSet.{ClauseSet, SatisfiesClause, assignment}
use Rattle.civl_rup.specs.Rup.{Refutes}
use Rattle.civl_cdcl.specs.Laws.{variable, negation, half, square}
use Rattle.civl_cdcl.proofs.Examples.{half_models, square_refuted}
use Rattle.civl_cdcl.specs.declared.outcome.Outcome.TheVariants as outcome
use Rattle.civl_portfolio.specs.Attempt.{MakesTrue, IsCertificate, IsRefused}
use Rattle.civl_portfolio.specs.Fate.{Fate, asked_of, in_front, staying_of}
use Rattle.civl_outside.specs.Count.{count_up}
use Rattle.civl_portfolio.specs.Asked.{IsOutcome, AnswersSo, IsRound}
use Rattle.civl_portfolio.specs.inner.Heard.{WasAsked, IsPassed, IsLiar, IsCertified}
use Rattle.civl_portfolio.specs.Laws.{CertificatesStandOrNot, Sample, idle, liar, right, samples, found, RoundsOverSamples}
use Rattle.civl_portfolio.proofs.Fates.{some_left}
use Rattle.civl_portfolio.proofs.Rules.{FateSays, all_stay_but, asked_but, gone_but}

false_true : false ≡ true → ⊥
false_true e = cc

no_empty : Refutes square [] → ⊥
no_empty r = let low = r.empty.1 in absurd (omega arith)

pub certificates : CertificatesStandOrNot
certificates = record {
  log = square_refuted.by_one.refutes;
  no_clause = no_empty;
  at_once = λ r. square_refuted.spent.spends.unrefuted (r.rup 0 (omega arith));
  bits = record { enough = omega arith; truth = half_models.one.truth };
  many = record {
    enough = omega arith;
    truth =
        let v = assignment (true ∷ false ∷ true ∷ []) in
        All-cons (SatisfiesClause v) (variable 0 ∷ variable 1 ∷ []) ((variable 0 ∷ negation 1 ∷ []) ∷ []) (0, variable 0, omega arith, refl, refl)
        (All-cons (SatisfiesClause v) (variable 0 ∷ negation 1 ∷ []) [] (0, variable 0, omega arith, refl, refl) (All-nil (SatisfiesClause v)));
  };
  wrong = λ h. half_models.other (record { size = refl; truth = h.truth });
  few = λ h. let size = h.enough in absurd (omega arith);
}

no_log : (set : ClauseSet) → Refutes set [] → ⊥
no_log set r = let low = r.empty.1 in absurd (omega arith)

idle_passed : WasAsked (idle 0) (idle 1) samples × IsPassed (idle 0) (idle 1) half 5 samples
idle_passed = (record { asked = refl; honest = refl; lacks = omega arith }, record { plan = inl (λ r. r, λ s. s) })

liar_lied : IsLiar (liar 0) half 5 samples
liar_lied = record { honest = λ e. false_true e; plan = no_log half }

right_asked : WasAsked (right 0) (right 1) samples
right_asked = record { asked = refl; honest = refl; lacks = omega arith }

right_stands : MakesTrue half (true ∷ true ∷ [])
right_stands = record { enough = omega arith; truth = half_models.both.truth }

right_certified : IsCertified (right 0) half 5 found samples
right_certified = record { proved = right_stands; unspent = λ s. s; plan = refl }

abbrev front_fates : List (Fate Sample)
front_fates = record { before = idle 0; after = Some (idle 1) } ∷ record { before = liar 0; after = None } ∷ []

front_say : All (FateSays half 5 samples) front_fates
front_say =
    let P : Fate Sample → Type 0 = FateSays half 5 samples in
    All-cons P (record { before = idle 0; after = Some (idle 1) }) (record { before = liar 0; after = None } ∷ []) idle_passed
    (All-cons P (record { before = liar 0; after = None }) [] liar_lied (All-nil P))

round_is : IsRound (idle 0 ∷ liar 0 ∷ right 0 ∷ idle 0 ∷ []) (idle 1 ∷ right 1 ∷ idle 0 ∷ []) 1 half 5 found samples
round_is =
    let last : Fate Sample = record { before = right 0; after = Some (right 1) } in
    let later : List Sample = idle 0 ∷ [] in
    record {
      fates = front_fates ++ last ∷ [];
      later = later;
      are_fates = record { olds_are = refl; news_are = refl };
      asked = asked_but front_fates later (right 0) (right 1) half 5 samples front_say right_asked (λ e. absurd (some_left front_fates last e));
      spent = λ s. absurd s;
      gone = gone_but front_fates (right 0) (right 1) half 5 samples front_say;
      retired_are = refl;
      stays = all_stay_but front_fates (right 0) (right 1) half 5 found samples front_say right_asked right_certified;
      last = λ some. record { earlier = front_fates; before = right 0; after = right 1; fates_are = refl; plan = refl };
    }

-- a round over one prover has one fate
pub record OneFate (fates : List (Fate Sample)) (later : List Sample) (b : Sample) : Type 0 where
  pub fate : Fate Sample
  pub is : fates ≡ fate ∷ []
  pub none : later ≡ []
  pub before : fate.before ≡ b

cons_nil : (b : Sample) (xs : List Sample) → b ∷ xs ≡ [] → ⊥
cons_nil b xs e = cc

empty_is : (xs : List Sample) → length xs ≡ 0 → xs ≡ []
empty_is [] e = refl
empty_is (x ∷ xs) e = absurd (omega arith)

one_fate : (fates : List (Fate Sample)) (later : List Sample) (b : Sample) → b ∷ [] ≡ asked_of fates ++ later → (fates ≡ [] → later ≡ []) → OneFate fates later b
one_fate [] later b e first = absurd (cons_nil b [] (e ∙ first refl))
one_fate (f ∷ []) later b e first =
    let size : 1 ≡ suc (length later) = ap length e in
    record { fate = f; is = refl; none = empty_is later (omega arith); before = sym (ap (λ l. get_or l 0 b) e) }
one_fate (f ∷ g ∷ fates) later b e first =
    let size : 1 ≡ suc (suc (length (asked_of fates ++ later))) = ap length e in
    absurd (omega arith)

-- what is left of the list then
news_of : (fates : List (Fate Sample)) (later news : List Sample) (b : Sample) (h : OneFate fates later b) → news ≡ staying_of fates ++ later → news ≡ in_front h.fate.after [] ++ []
news_of fates later news b h e = e ∙ ap (λ x. staying_of x ++ later) h.is ∙ ap (λ x. in_front h.fate.after [] ++ x) h.none

count_from : (x y : ℕ) → 0 ≡ x → x ≡ count_up y → y ≡ 0 → ⊥
count_from x y e f g = absurd (omega arith)

nobody_by : (o : Option Sample) (before : Sample) → before ≡ idle 0 → idle 0 ∷ [] ≡ in_front o [] ++ [] → IfSome o (λ after. samples.asked after ≡ count_up (samples.asked before)) → ⊥
nobody_by None before is news once = cons_nil (idle 0) [] news
nobody_by (Some a) before is news once =
    count_from a.asked before.asked (ap (λ (l : List Sample). (get_or l 0 a).asked) news) once (ap (λ (b : Sample). b.asked) is)

liar_by : (o : Option Sample) → liar 1 ∷ [] ≡ in_front o [] ++ [] → AnswersSo (record { before = liar 0; after = o }) half 5 samples (λ answer. IsRefused half answer → ⊥) → ⊥
liar_by None news says = cons_nil (liar 1) [] news
liar_by (Some a) news says = says (λ rose. absurd (omega arith)) (no_log half)

dropped_by : (o : Option Sample) → [] ≡ in_front o [] ++ [] → IfNone o (IsTrue (samples.honest (idle 0)) → ⊥) → ⊥
dropped_by None news gone = gone refl
dropped_by (Some a) news gone = cons_nil a [] (sym news)

passed_by : (o : Option Sample) (E : Type 0) → right 1 ∷ [] ≡ in_front o [] ++ [] → AnswersSo (record { before = right 0; after = o }) half 5 samples (λ answer. IsCertificate half answer → E × ⊥) → ⊥
passed_by None E news says = cons_nil (right 1) [] news
passed_by (Some a) E news says = (says (λ rose. absurd (omega arith)) right_stands).1

fate_is : (fates : List (Fate Sample)) (later : List Sample) (b : Sample) (h : OneFate fates later b) → get_or fates 0 h.fate ≡ record { before = b; after = h.fate.after }
fate_is fates later b h = ap (λ x. get_or x 0 h.fate) h.is ∙ ap (λ x. record { before = x; after = h.fate.after }) h.before

low_of : (fates : List (Fate Sample)) (later : List Sample) (b : Sample) → OneFate fates later b → 0 < length fates
low_of fates later b h = let size : length fates ≡ 1 = ap length h.is in omega arith

pub rounds : RoundsOverSamples
rounds = record {
  right_round = round_is;
  nobody_asked = λ o r.
      let h = one_fate r.fates r.later (idle 0) r.are_fates.olds_are r.asked.first in
      let f = h.fate in
      nobody_by f.after f.before h.before (news_of r.fates r.later (idle 0 ∷ []) (idle 0) h r.are_fates.news_are)
      (subst (λ x. IfSome (get_or x 0 f).after (λ after. samples.asked after ≡ count_up (samples.asked (get_or x 0 f).before))) h.is (r.asked.once 0 f (low_of r.fates r.later (idle 0) h)));
  liar_kept = λ o r.
      let h = one_fate r.fates r.later (liar 0) r.are_fates.olds_are r.asked.first in
      liar_by h.fate.after (news_of r.fates r.later (liar 1 ∷ []) (liar 0) h r.are_fates.news_are)
      (subst (λ (x : Fate Sample). AnswersSo x half 5 samples (λ answer. IsRefused half answer → ⊥)) (fate_is r.fates r.later (liar 0) h) (r.stays.unrefused 0 h.fate (low_of r.fates r.later (liar 0) h)));
  honest_dropped = λ o r.
      let h = one_fate r.fates r.later (idle 0) r.are_fates.olds_are r.asked.first in
      dropped_by h.fate.after (news_of r.fates r.later [] (idle 0) h r.are_fates.news_are)
      (subst (λ (x : Fate Sample). IfNone x.after (IsTrue (samples.honest x.before) → ⊥)) (fate_is r.fates r.later (idle 0) h) (r.gone.honest 0 h.fate (low_of r.fates r.later (idle 0) h)));
  right_passed = λ log r.
      let h = one_fate r.fates r.later (right 0) r.are_fates.olds_are r.asked.first in
      passed_by h.fate.after (0 + 1 ≡ length r.fates) (news_of r.fates r.later (right 1 ∷ []) (right 0) h r.are_fates.news_are)
      (subst (λ (x : Fate Sample). AnswersSo x half 5 samples (λ answer. IsCertificate half answer → (0 + 1 ≡ length r.fates) × IsOutcome answer (outcome.Spent log))) (fate_is r.fates r.later (right 0) h) (r.stays.certificate 0 h.fate (low_of r.fates r.later (right 0) h)));
}
