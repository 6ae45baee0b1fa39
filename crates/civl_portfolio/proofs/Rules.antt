-- From what was heard of each prover to the rules.
use Rattle.std.proofs.Common.{◌≡◌, ◌⊎◌, ℕ, ◌+◌, ◌≤◌, List, [], ◌∷◌, ◌++◌, length, get_or, sym, subst, inl, inr, arith}
use Rattle.std.specs.Prelude.{Option, None, Some, IfSome, IfNone, IsTrue, All}
use Rattle.std.proofs.lemmas.List.{get_or_append_left, get_or_push, length_push}
use Rattle.std.proofs.lemmas.List.Elements.{All-push}
use Rattle.civl_cnf.specs.ClauseSet.{ClauseSet}
use Rattle.civl_units.proofs.MarkLemmas.{lt_or_eq}
use Rattle.civl_cdcl.specs.declared.outcome.Outcome.{Outcome}
use Rattle.civl_cdcl.specs.declared.outcome.Outcome.TheVariants.{Sat, Unsat, Spent}
use Rattle.civl_portfolio.specs.declared.attempt.Attempt.{Attempt}
use Rattle.civl_outside.specs.Count.{count_up, Rose}
use Rattle.civl_portfolio.specs.Attempt.{IsCertificate, IsRefused}
use Rattle.civl_portfolio.specs.Prover.{Meanings}
use Rattle.civl_portfolio.specs.Fate.{Fate}
use Rattle.civl_portfolio.specs.Asked.{IsOutcome, AnswersSo, WhoIsAsked, WhoIsGone, WhoStays}
use Rattle.civl_portfolio.specs.inner.Heard.{WasAsked, IsPassed, IsLiar, IsProved, IsCertified}

-- what was heard of a prover that was passed over, or that is gone
abbrev pub AfterSays : {B : Type 0} → Option B → B → ClauseSet → ℕ → Meanings B → Type 0
AfterSays None before cs budget m = IsLiar before cs budget m
AfterSays (Some after) before cs budget m = WasAsked before after m × IsPassed before after cs budget m

abbrev pub FateSays : {B : Type 0} → ClauseSet → ℕ → Meanings B → Fate B → Type 0
FateSays cs budget m f = AfterSays f.after f.before cs budget m

pub all_of : {X : Type 0} (P Q : X → Type 0) (xs : List X) → ((x : X) → P x → Q x) → All P xs → All Q xs
all_of P Q xs f h k d low = f (get_or xs k d) (h k d low)

once_of : {B : Type 0} (o : Option B) (before : B) (cs : ClauseSet) (budget : ℕ) (m : Meanings B) → AfterSays o before cs budget m → IfSome o (λ after. m.asked after ≡ count_up (m.asked before))
once_of None before cs budget m says = tt
once_of (Some after) before cs budget m says = says.0.asked

honesty_of : {B : Type 0} (o : Option B) (before : B) (cs : ClauseSet) (budget : ℕ) (m : Meanings B) → AfterSays o before cs budget m → IfSome o (λ after. m.honest after ≡ m.honest before)
honesty_of None before cs budget m says = tt
honesty_of (Some after) before cs budget m says = says.0.honest

lacks_of : {B : Type 0} (o : Option B) (before : B) (cs : ClauseSet) (budget : ℕ) (m : Meanings B) → AfterSays o before cs budget m → IfSome o (λ after. m.lacks before ≤ m.lacks after)
lacks_of None before cs budget m says = tt
lacks_of (Some after) before cs budget m says = says.0.lacks

dishonest_of : {B : Type 0} (o : Option B) (before : B) (cs : ClauseSet) (budget : ℕ) (m : Meanings B) → AfterSays o before cs budget m → IfNone o (IsTrue (m.honest before) → ⊥)
dishonest_of None before cs budget m says = says.honest
dishonest_of (Some after) before cs budget m says = tt

planned_of : {B : Type 0} (o : Option B) (before : B) (cs : ClauseSet) (budget : ℕ) (m : Meanings B) → AfterSays o before cs budget m → IfNone o (IfSome (m.plan before) (λ plan. IsRefused cs (plan cs budget)))
planned_of None before cs budget m says = says.plan
planned_of (Some after) before cs budget m says = tt

-- where it didn't lack memory, its plan is no certificate
no_certificate : (p : Option (ClauseSet → ℕ → Attempt)) (R : Type 0) (cs : ClauseSet) (budget : ℕ) → IfSome p (λ plan. ((IsRefused cs (plan cs budget) → ⊥) × (IsCertificate cs (plan cs budget) → ⊥)) ⊎ R) → IfSome p (λ plan. (R → ⊥) → (IsRefused cs (plan cs budget) → ⊥) × (IsCertificate cs (plan cs budget) → ⊥))
no_certificate None R cs budget h = tt
no_certificate (Some plan) R cs budget h = λ stayed. elim h [ inl none ↦ none | inr rose ↦ absurd (stayed rose) ]

neither_of : {B : Type 0} (o : Option B) (before : B) (cs : ClauseSet) (budget : ℕ) (m : Meanings B) → AfterSays o before cs budget m → IfSome o (λ after. IfSome (m.plan before) (λ plan. (Rose (m.lacks before) (m.lacks after) → ⊥) → (IsRefused cs (plan cs budget) → ⊥) × (IsCertificate cs (plan cs budget) → ⊥)))
neither_of None before cs budget m says = tt
neither_of (Some after) before cs budget m says = no_certificate (m.plan before) (Rose (m.lacks before) (m.lacks after)) cs budget says.1.plan

-- a claim on the answer that follows from another
if_some_by : {A : Type 0} (o : Option A) (P Q : A → Type 0) → ((a : A) → P a → Q a) → IfSome o P → IfSome o Q
if_some_by None P Q f h = tt
if_some_by (Some a) P Q f h = f a h

pub answers_by : {B : Type 0} (f : Fate B) (cs : ClauseSet) (budget : ℕ) (m : Meanings B) (P Q : Attempt → Type 0) → ((answer : Attempt) → P answer → Q answer) → AnswersSo f cs budget m P → AnswersSo f cs budget m Q
answers_by f cs budget m P Q g h =
    if_some_by f.after
    (λ after. IfSome (m.plan f.before) (λ plan. (Rose (m.lacks f.before) (m.lacks after) → ⊥) → P (plan cs budget)))
    (λ after. IfSome (m.plan f.before) (λ plan. (Rose (m.lacks f.before) (m.lacks after) → ⊥) → Q (plan cs budget)))
    (λ after. if_some_by (m.plan f.before)
    (λ plan. (Rose (m.lacks f.before) (m.lacks after) → ⊥) → P (plan cs budget))
    (λ plan. (Rose (m.lacks f.before) (m.lacks after) → ⊥) → Q (plan cs budget))
    (λ plan says stayed. g (plan cs budget) (says stayed)))
    h

pub neither : {B : Type 0} (f : Fate B) (cs : ClauseSet) (budget : ℕ) (m : Meanings B) → FateSays cs budget m f → AnswersSo f cs budget m (λ answer. (IsRefused cs answer → ⊥) × (IsCertificate cs answer → ⊥))
neither f cs budget m says = neither_of f.after f.before cs budget m says

pub all_once : {B : Type 0} (fates : List (Fate B)) (cs : ClauseSet) (budget : ℕ) (m : Meanings B) → All (FateSays cs budget m) fates → All (λ f. IfSome f.after (λ after. m.asked after ≡ count_up (m.asked f.before))) fates
all_once fates cs budget m say k d low = let f = get_or fates k d in once_of f.after f.before cs budget m (say k d low)

pub all_honest : {B : Type 0} (fates : List (Fate B)) (cs : ClauseSet) (budget : ℕ) (m : Meanings B) → All (FateSays cs budget m) fates → All (λ f. IfSome f.after (λ after. m.honest after ≡ m.honest f.before)) fates
all_honest fates cs budget m say k d low = let f = get_or fates k d in honesty_of f.after f.before cs budget m (say k d low)

pub all_lacks : {B : Type 0} (fates : List (Fate B)) (cs : ClauseSet) (budget : ℕ) (m : Meanings B) → All (FateSays cs budget m) fates → All (λ f. IfSome f.after (λ after. m.lacks f.before ≤ m.lacks after)) fates
all_lacks fates cs budget m say k d low = let f = get_or fates k d in lacks_of f.after f.before cs budget m (say k d low)

pub all_gone : {B : Type 0} (fates : List (Fate B)) (cs : ClauseSet) (budget : ℕ) (m : Meanings B) → All (FateSays cs budget m) fates → WhoIsGone fates cs budget m
all_gone fates cs budget m say = record {
  honest = λ k d low. let f = get_or fates k d in dishonest_of f.after f.before cs budget m (say k d low);
  plan = λ k d low. let f = get_or fates k d in planned_of f.after f.before cs budget m (say k d low);
}

-- a certificate that stands isn't refused
unrefused_by : (cs : ClauseSet) (budget : ℕ) (outcome : Outcome) (answer : Attempt) → IsProved cs budget outcome → IsOutcome answer outcome → IsRefused cs answer → ⊥
unrefused_by cs budget (Sat bits) answer proved is refused = subst (IsRefused cs) is refused proved
unrefused_by cs budget (Unsat log) answer proved is refused = subst (IsRefused cs) is refused proved
unrefused_by cs budget (Spent log) answer proved is refused = is

last_unrefused : (p : Option (ClauseSet → ℕ → Attempt)) (R : Type 0) (cs : ClauseSet) (budget : ℕ) (outcome : Outcome) → IsProved cs budget outcome → IfSome p (λ plan. IsOutcome (plan cs budget) outcome) → IfSome p (λ plan. (R → ⊥) → IsRefused cs (plan cs budget) → ⊥)
last_unrefused None R cs budget outcome proved h = tt
last_unrefused (Some plan) R cs budget outcome proved h = λ stayed. unrefused_by cs budget outcome (plan cs budget) proved h

last_certificate : (p : Option (ClauseSet → ℕ → Attempt)) (R E : Type 0) (cs : ClauseSet) (budget : ℕ) (outcome : Outcome) → E → IfSome p (λ plan. IsOutcome (plan cs budget) outcome) → IfSome p (λ plan. (R → ⊥) → IsCertificate cs (plan cs budget) → E × IsOutcome (plan cs budget) outcome)
last_certificate None R E cs budget outcome e h = tt
last_certificate (Some plan) R E cs budget outcome e h = λ stayed stands. (e, h)

-- the rules on those that stay, where all were passed over
pub all_stay : {B : Type 0} (fates : List (Fate B)) (cs : ClauseSet) (budget : ℕ) (outcome : Outcome) (m : Meanings B) → All (FateSays cs budget m) fates → WhoStays fates cs budget outcome m
all_stay fates cs budget outcome m say = record {
  honest = all_honest fates cs budget m say;
  lacks = all_lacks fates cs budget m say;
  unrefused = λ k d low. let f = get_or fates k d in
      answers_by f cs budget m (λ answer. (IsRefused cs answer → ⊥) × (IsCertificate cs answer → ⊥)) (λ answer. IsRefused cs answer → ⊥) (λ answer both. both.0) (neither f cs budget m (say k d low));
  certificate = λ i d low. let f = get_or fates i d in
      answers_by f cs budget m (λ answer. (IsRefused cs answer → ⊥) × (IsCertificate cs answer → ⊥)) (λ answer. IsCertificate cs answer → (i + 1 ≡ length fates) × IsOutcome answer outcome) (λ answer both stands. absurd (both.1 stands)) (neither f cs budget m (say i d low));
}

-- and where the last gave a certificate
pub all_stay_but : {B : Type 0} (fates : List (Fate B)) (before after : B) (cs : ClauseSet) (budget : ℕ) (outcome : Outcome) (m : Meanings B) → All (FateSays cs budget m) fates → WasAsked before after m → IsCertified before cs budget outcome m → WhoStays (fates ++ record { before = before; after = Some after } ∷ []) cs budget outcome m
all_stay_but {B} fates before after cs budget outcome m say was is =
    let last : Fate B = record { before = before; after = Some after } in
    let front = all_stay fates cs budget outcome m say in
    let longer : length (fates ++ last ∷ []) ≡ length fates + 1 = length_push fates last in
    record {
      honest = All-push (λ f. IfSome f.after (λ after. m.honest after ≡ m.honest f.before)) fates last front.honest was.honest;
      lacks = All-push (λ f. IfSome f.after (λ after. m.lacks f.before ≤ m.lacks after)) fates last front.lacks was.lacks;
      unrefused = All-push (λ f. AnswersSo f cs budget m (λ answer. IsRefused cs answer → ⊥)) fates last front.unrefused
          (last_unrefused (m.plan before) (Rose (m.lacks before) (m.lacks after)) cs budget outcome is.proved is.plan);
      certificate = λ i d low. elim (lt_or_eq i (length fates) (omega arith)) [
        | inl less ↦
            let f = get_or fates i d in
            subst (λ (x : Fate B). AnswersSo x cs budget m (λ answer. IsCertificate cs answer → (i + 1 ≡ length (fates ++ last ∷ [])) × IsOutcome answer outcome)) (sym (get_or_append_left fates (last ∷ []) d i less))
            (answers_by f cs budget m (λ answer. (IsRefused cs answer → ⊥) × (IsCertificate cs answer → ⊥)) (λ answer. IsCertificate cs answer → (i + 1 ≡ length (fates ++ last ∷ [])) × IsOutcome answer outcome) (λ answer both stands. absurd (both.1 stands)) (neither f cs budget m (say i d less)))
        | inr e ↦
            let count : i + 1 ≡ length (fates ++ last ∷ []) = omega arith in
            subst (λ (x : Fate B). AnswersSo x cs budget m (λ answer. IsCertificate cs answer → (i + 1 ≡ length (fates ++ last ∷ [])) × IsOutcome answer outcome)) (sym (get_or_push fates last d i (sym e)))
            (last_certificate (m.plan before) (Rose (m.lacks before) (m.lacks after)) (i + 1 ≡ length (fates ++ last ∷ [])) cs budget outcome count is.plan)
      ];
    }

pub asked_but : {B : Type 0} (fates : List (Fate B)) (later : List B) (before after : B) (cs : ClauseSet) (budget : ℕ) (m : Meanings B) → All (FateSays cs budget m) fates → WasAsked before after m → (fates ++ record { before = before; after = Some after } ∷ [] ≡ [] → later ≡ []) → WhoIsAsked (fates ++ record { before = before; after = Some after } ∷ []) later m
asked_but {B} fates later before after cs budget m say was first =
    let last : Fate B = record { before = before; after = Some after } in
    record {
      once = All-push (λ f. IfSome f.after (λ after. m.asked after ≡ count_up (m.asked f.before))) fates last (all_once fates cs budget m say) was.asked;
      first = first;
    }

pub gone_but : {B : Type 0} (fates : List (Fate B)) (before after : B) (cs : ClauseSet) (budget : ℕ) (m : Meanings B) → All (FateSays cs budget m) fates → WhoIsGone (fates ++ record { before = before; after = Some after } ∷ []) cs budget m
gone_but {B} fates before after cs budget m say =
    let last : Fate B = record { before = before; after = Some after } in
    let front = all_gone fates cs budget m say in
    record {
      honest = All-push (λ f. IfNone f.after (IsTrue (m.honest f.before) → ⊥)) fates last front.honest tt;
      plan = All-push (λ f. IfNone f.after (IfSome (m.plan f.before) (λ plan. IsRefused cs (plan cs budget)))) fates last front.plan tt;
    }
