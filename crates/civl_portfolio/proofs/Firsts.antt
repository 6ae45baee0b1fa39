-- An honest first prover stays the first.
use Rattle.std.proofs.Common.{◌≡◌, ℕ, ◌+◌, ◌∙◌, List, [], ◌∷◌, ◌++◌, get_or, refl, sym, ap, subst, arith, add-one}
use Rattle.std.specs.Prelude.{Option, None, Some, IfSome, IfNone, IsTrue, All}
use Rattle.civl_outside.specs.Count.{count_up}
use Rattle.civl_portfolio.specs.Prover.{Meanings}
use Rattle.civl_portfolio.specs.Fate.{Fate, asked_of, in_front, staying_of}
use Rattle.civl_portfolio.specs.Asked.{WhoIsAsked}
use Rattle.civl_portfolio.specs.First.{counted, KeepsFirst}
use Rattle.civl_portfolio.specs.Laws.{HonestFirstStays, HonestFirstStaysInCut}

cons_nil : {A : Type 0} (x : A) (xs : List A) → x ∷ xs ≡ [] → ⊥
cons_nil x xs e = cc

first_by : {B : Type 0} (o : Option B) (before : B) (rest news : List B) (m : Meanings B) → IsTrue (m.honest before) → news ≡ in_front o rest → IfNone o (IsTrue (m.honest before) → ⊥) → IfSome o (λ after. m.honest after ≡ m.honest before) → IfSome o (λ after. m.asked after ≡ count_up (m.asked before)) → (after : B) × (others : List B) × (news ≡ after ∷ others) × (m.honest after ≡ m.honest before) × (m.asked after ≡ counted (m.asked before) 1)
first_by None before rest news m honest are gone same once = absurd (gone honest)
first_by (Some after) before rest news m honest are gone same once = (after, rest, are, same, once)

in_front_left : {B : Type 0} (o : Option B) (xs ys : List B) → in_front o xs ++ ys ≡ in_front o (xs ++ ys)
in_front_left None xs ys = refl
in_front_left (Some b) xs ys = refl

keeps_by : {B : Type 0} (olds news : List B) (fates : List (Fate B)) (later : List B) (m : Meanings B) → olds ≡ asked_of fates ++ later → news ≡ staying_of fates ++ later → WhoIsAsked fates later m → All (λ f. IfNone f.after (IsTrue (m.honest f.before) → ⊥)) fates → All (λ f. IfSome f.after (λ after. m.honest after ≡ m.honest f.before)) fates → KeepsFirst olds news 1 m
keeps_by [] news fates later m o n asked gone same = tt
keeps_by (b ∷ olds) news [] later m o n asked gone same =
    absurd (cons_nil b olds (o ∙ asked.first refl))
keeps_by (b ∷ olds) news (f ∷ fates) later m o n asked gone same =
    let is : b ≡ f.before = ap (λ l. get_or l 0 b) o in
    λ honest.
    subst (λ x. (after : _) × (others : List _) × (news ≡ after ∷ others) × (m.honest after ≡ m.honest x) × (m.asked after ≡ counted (m.asked x) 1)) (sym is)
    (first_by f.after f.before (staying_of fates ++ later) news m (subst (λ x. IsTrue (m.honest x)) is honest) (n ∙ in_front_left f.after (staying_of fates) later) (gone 0 f (omega arith)) (same 0 f (omega arith)) (asked.once 0 f (omega arith)))

pub first_stays : (B : Type 0) → HonestFirstStays B
first_stays B olds news retired set budget outcome m round =
    keeps_by olds news round.fates round.later m round.are_fates.olds_are round.are_fates.news_are round.asked round.gone.honest round.stays.honest

pub first_stays_in_cut : (B : Type 0) → HonestFirstStaysInCut B
first_stays_in_cut B olds news set budget m cut =
    keeps_by olds news cut.fates cut.later m cut.are_fates.olds_are cut.are_fates.news_are cut.asked cut.gone.honest cut.honest

-- before the first round
pub first_at_start : {B : Type 0} (olds : List B) (m : Meanings B) → KeepsFirst olds olds 0 m
first_at_start [] m = tt
first_at_start (b ∷ olds) m = λ honest. (b, olds, refl, refl, refl)

-- one round more
pub first_next : {B : Type 0} (olds mids news : List B) (n : ℕ) (m : Meanings B) → KeepsFirst olds mids n m → KeepsFirst mids news 1 m → KeepsFirst olds news (n + 1) m
first_next [] mids news n m a b = tt
first_next (x ∷ olds) mids news n m a b = λ honest.
    let old = a honest in
    let new = (let K : List _ → Type 0 = λ l. KeepsFirst l news 1 m in subst K old.2 b) (old.3 ∙ honest) in
    (new.0, new.1, new.2, new.3 ∙ old.3, new.4 ∙ ap count_up old.4 ∙ ap (counted (m.asked x)) (sym (add-one n)))
