-- A round over a list of one prover.
use Rattle.std.proofs.Common.{◌≡◌, ◌≢◌, ◌⊎◌, ℕ, suc, nat_eq, Bool, true, false, if◌then◌else◌, ◌∙◌, List, [], ◌∷◌, ◌++◌, length, get_or, refl, sym, ap, subst, inl, inr, arith}
use Rattle.std.proofs.lemmas.Bool.{cases_lt, eqb-true}
use Rattle.std.specs.Prelude.{Option, None, Some, IfSome, IfNone}
use Rattle.civl_cnf.specs.ClauseSet.{ClauseSet}
use Rattle.civl_cdcl.specs.declared.outcome.Outcome.{Outcome}
use Rattle.civl_outside.specs.Count.{count_up, Rose}
use Rattle.civl_rup.specs.Rup.{Refutes}
use Rattle.civl_portfolio.specs.declared.attempt.Attempt.{Attempt}
use Rattle.civl_portfolio.specs.declared.attempt.Attempt.TheVariants.{Unsat, GaveUp}
use Rattle.civl_portfolio.specs.Attempt.{IsRefused}
use Rattle.civl_portfolio.specs.Prover.{Meanings}
use Rattle.civl_portfolio.specs.Fate.{Fate, AreFates, asked_of, in_front, one_if_gone, gone_of}
use Rattle.civl_portfolio.specs.Asked.{AnswersSo, WhoIsAsked, WhoIsGone, WhoStays, IsRound}
use Rattle.civl_clause_tests.specs.Alone.{IsGoneOrLacks, IsLeft}

cons_nil : {A : Type 0} (x : A) (xs : List A) → x ∷ xs ≡ [] → ⊥
cons_nil x xs e = cc

empty_is : {A : Type 0} (xs : List A) → length xs ≡ 0 → xs ≡ []
empty_is [] e = refl
empty_is (x ∷ xs) e = absurd (omega arith)

right_nil : {B : Type 0} (o : Option B) → in_front o [] ++ [] ≡ in_front o []
right_nil None = refl
right_nil (Some b) = refl

-- what the round says of the one prover
record SaysOf {B : Type 0} (before : B) (after : Option B) (set : ClauseSet) (budget : ℕ) (m : Meanings B) : Type 0 where
  once : IfSome after (λ a. m.asked a ≡ count_up (m.asked before))
  same : IfSome after (λ a. m.honest a ≡ m.honest before)
  gone : IfNone after (IfSome (m.plan before) (λ plan. IsRefused set (plan set budget)))
  unrefused : AnswersSo (record { before = before; after = after }) set budget m (λ answer. IsRefused set answer → ⊥)

record OneFate {B : Type 0} (before : B) (news : List B) (retired : ℕ) (set : ClauseSet) (budget : ℕ) (m : Meanings B) : Type 0 where
  after : Option B
  news_are : news ≡ in_front after []
  retired_are : retired ≡ one_if_gone after
  says : SaysOf before after set budget m

fates_by : {B : Type 0} (before : B) (fates : List (Fate B)) (later news : List B) (retired : ℕ) (set : ClauseSet) (budget : ℕ) (outcome : Outcome) (m : Meanings B) → AreFates fates later (before ∷ []) news → WhoIsAsked fates later m → WhoIsGone fates set budget m → retired ≡ gone_of fates → WhoStays fates set budget outcome m → OneFate before news retired set budget m
fates_by before [] later news retired set budget outcome m are asked gone r stays =
    absurd (cons_nil before [] (are.olds_are ∙ asked.first refl))
fates_by {B} before (f ∷ []) later news retired set budget outcome m are asked gone r stays =
    let size : 1 ≡ suc (length later) = ap length are.olds_are in
    let none : later ≡ [] = empty_is later (omega arith) in
    let is : f.before ≡ before = sym (ap (λ (l : List B). get_or l 0 before) are.olds_are) in
    let says : SaysOf f.before f.after set budget m = record {
      once = asked.once 0 f (omega arith);
      same = stays.honest 0 f (omega arith);
      gone = gone.plan 0 f (omega arith);
      unrefused = stays.unrefused 0 f (omega arith);
    } in
    record {
      after = f.after;
      news_are = are.news_are ∙ ap (λ (l : List B). in_front f.after [] ++ l) none ∙ right_nil f.after;
      retired_are = r ∙ omega arith;
      says = subst (λ (x : B). SaysOf x f.after set budget m) is says;
    }
fates_by before (f ∷ g ∷ fates) later news retired set budget outcome m are asked gone r stays =
    let size : 1 ≡ suc (suc (length (asked_of fates ++ later))) = ap length are.olds_are in
    absurd (omega arith)

one_fate : {B : Type 0} (before : B) (olds news : List B) (retired : ℕ) (set : ClauseSet) (budget : ℕ) (outcome : Outcome) (m : Meanings B) → olds ≡ before ∷ [] → IsRound olds news retired set budget outcome m → OneFate before news retired set budget m
one_fate {B} before olds news retired set budget outcome m alone round =
    let are : AreFates round.fates round.later (before ∷ []) news = subst (λ (l : List B). AreFates round.fates round.later l news) alone round.are_fates in
    fates_by before round.fates round.later news retired set budget outcome m are round.asked round.gone round.retired_are round.stays

rose_or_not : (before now : ℕ) → Rose before now ⊎ (Rose before now → ⊥)
rose_or_not before now = elim (cases_lt now (count_up before)) [
  | inl low ↦ inr (λ rose. absurd (omega arith))
  | inr up ↦ inl up
]

liar_by : {B : Type 0} (before : B) (after : Option B) (news : List B) (retired : ℕ) (set : ClauseSet) (budget : ℕ) (m : Meanings B) (plan : ClauseSet → ℕ → Attempt) → m.plan before ≡ Some plan → IsRefused set (plan set budget) → news ≡ in_front after [] → retired ≡ one_if_gone after → SaysOf before after set budget m → IsGoneOrLacks news retired (m.lacks before) m
liar_by before None news retired set budget m plan tells refused n r says = inl (n, r)
liar_by before (Some a) news retired set budget m plan tells refused n r says =
    elim (rose_or_not (m.lacks before) (m.lacks a)) [
      | inl rose ↦ inr (a, n, r, rose)
      | inr stayed ↦ absurd (subst (λ (o : Option (ClauseSet → ℕ → Attempt)). IfSome o (λ p. (Rose (m.lacks before) (m.lacks a) → ⊥) → IsRefused set (p set budget) → ⊥)) tells says.unrefused stayed refused)
    ]

-- a prover that tells of a refused certificate
pub liar_goes : {B : Type 0} (before : B) (olds news : List B) (retired : ℕ) (set : ClauseSet) (budget : ℕ) (outcome : Outcome) (m : Meanings B) (told : ClauseSet → ℕ → Attempt) (lacked : ℕ) → olds ≡ before ∷ [] → m.plan before ≡ Some told → m.lacks before ≡ lacked → IsRefused set (told set budget) → IsRound olds news retired set budget outcome m → IsGoneOrLacks news retired lacked m
liar_goes {B} before olds news retired set budget outcome m told lacked alone tells count refused round =
    let one = one_fate before olds news retired set budget outcome m alone round in
    subst (λ (n : ℕ). IsGoneOrLacks news retired n m) count (liar_by before one.after news retired set budget m told tells refused one.news_are one.retired_are one.says)

idler_by : {B : Type 0} (before : B) (after : Option B) (news : List B) (retired : ℕ) (set : ClauseSet) (budget : ℕ) (m : Meanings B) (plan : ClauseSet → ℕ → Attempt) → m.plan before ≡ Some plan → (IsRefused set (plan set budget) → ⊥) → news ≡ in_front after [] → retired ≡ one_if_gone after → SaysOf before after set budget m → IsLeft news retired (count_up (m.asked before)) (m.honest before) m
idler_by before None news retired set budget m plan tells unrefused n r says =
    absurd (unrefused (subst (λ (o : Option (ClauseSet → ℕ → Attempt)). IfSome o (λ p. IsRefused set (p set budget))) tells says.gone))
idler_by before (Some a) news retired set budget m plan tells unrefused n r says =
    record { after = a; alone = n; none = r; often = says.once; same = says.same }

-- one that tells of an answer that isn't a refused certificate
pub idler_stays : {B : Type 0} (before : B) (olds news : List B) (retired : ℕ) (set : ClauseSet) (budget : ℕ) (outcome : Outcome) (m : Meanings B) (told : ClauseSet → ℕ → Attempt) (calls : ℕ) (is_honest : Bool) → olds ≡ before ∷ [] → m.plan before ≡ Some told → m.asked before ≡ calls → m.honest before ≡ is_honest → (IsRefused set (told set budget) → ⊥) → IsRound olds news retired set budget outcome m → IsLeft news retired (count_up calls) is_honest m
idler_stays before olds news retired set budget outcome m told calls is_honest alone tells often same unrefused round =
    let one = one_fate before olds news retired set budget outcome m alone round in
    let left = idler_by before one.after news retired set budget m told tells unrefused one.news_are one.retired_are one.says in
    record { after = left.after; alone = left.alone; none = left.none; often = left.often ∙ ap count_up often; same = left.same ∙ same }

-- a log with no clause refutes nothing
pub no_log : (set : ClauseSet) → Refutes set [] → ⊥
no_log set r = let low = r.empty.1 in absurd (omega arith)

-- what the prover tells that lies at its third call
pub third_lies : (set : ClauseSet) (calls : ℕ) → calls ≡ 2 → IsRefused set (if nat_eq calls 2 then Unsat [] else GaveUp)
third_lies set calls is = subst (λ (n : ℕ). IsRefused set (if nat_eq n 2 then Unsat [] else GaveUp)) (sym is) (no_log set)

idle_by : (set : ClauseSet) (calls : ℕ) (third : Bool) → nat_eq calls 2 ≡ third → calls ≢ 2 → IsRefused set (if third then Unsat [] else GaveUp) → ⊥
idle_by set calls true is isnt refused = isnt (eqb-true calls 2 is)
idle_by set calls false is isnt refused = refused

pub others_idle : (set : ClauseSet) (calls : ℕ) → calls ≢ 2 → IsRefused set (if nat_eq calls 2 then Unsat [] else GaveUp) → ⊥
others_idle set calls isnt = idle_by set calls (nat_eq calls 2) refl isnt
