-- A round of asking, prover by prover.
use Rattle.std.proofs.Common.{suc, ◌≡◌, ℕ, ◌+◌, ◌<◌, ◌≤◌, List, [], ◌∷◌, ◌++◌, length, get_or, take, drop, refl, sym, ◌∙◌, ap, subst, arith, append_assoc, append-nil, length-append}
use Rattle.std.proofs.Math.ListN.{set}
use Rattle.std.specs.Prelude.{None, Some, IfSome, All, Result, Ok, Err, OnErr}
use Rattle.std.specs.List.{remove}
use Rattle.std.proofs.lemmas.List.{set_at, get_or_at, take_at, drop_at, get_or_append_left, length_push}
use Rattle.std.proofs.lemmas.List.Elements.{All-nil, All-push}
use Rattle.std.proofs.lemmas.Grind.{common_steps}
use Rattle.civl_cnf.specs.ClauseSet.{ClauseSet}
use Rattle.civl_cdcl.specs.declared.outcome.Outcome.{Outcome}
use Rattle.civl_portfolio.specs.Attempt.{IsCertificate, IsRefused}
use Rattle.civl_portfolio.specs.Prover.{Meanings}
use Rattle.civl_portfolio.specs.Fate.{Fate, asked_of, staying_of, gone_of}
use Rattle.civl_portfolio.specs.Asked.{AnswersSo, IsRound, IsCutShort}
use Rattle.civl_portfolio.specs.inner.Heard.{WasAsked, IsPassed, IsLiar, IsCertified}
use Rattle.civl_portfolio.proofs.Fates.{asked_push, staying_push, gone_push, some_left}
use Rattle.civl_portfolio.proofs.Rules.{FateSays, neither, all_once, all_honest, all_lacks, all_gone, all_stay, all_stay_but, asked_but, gone_but}

-- The provers of a first part were asked; those that stay stand before the later ones.
pub record Asking {B : Type 0} (olds items : List B) (at retired : ℕ) (cs : ClauseSet) (budget : ℕ) (m : Meanings B) : Type 0 where
  pub fates : List (Fate B)
  pub later : List B
  pub olds_are : olds ≡ asked_of fates ++ later
  pub items_are : items ≡ staying_of fates ++ later
  pub place : length (staying_of fates) ≡ at
  pub retired_are : retired ≡ gone_of fates
  pub total : retired + length items ≡ length olds
  pub say : All (FateSays cs budget m) fates

pub started : {B : Type 0} (olds : List B) (cs : ClauseSet) (budget : ℕ) (m : Meanings B) → Asking olds olds 0 0 cs budget m
started olds cs budget m = record {
  fates = [];
  later = olds;
  olds_are = refl;
  items_are = refl;
  place = refl;
  retired_are = refl;
  total = omega arith;
  say = All-nil (FateSays cs budget m);
}

-- the next prover, where there is one
pub record Next {B : Type 0} (olds items : List B) (at retired : ℕ) (cs : ClauseSet) (budget : ℕ) (m : Meanings B) (before : B) : Type 0 where
  pub fates : List (Fate B)
  pub later : List B
  pub olds_are : olds ≡ asked_of fates ++ before ∷ later
  pub items_are : items ≡ staying_of fates ++ before ∷ later
  pub place : length (staying_of fates) ≡ at
  pub retired_are : retired ≡ gone_of fates
  pub total : retired + length items ≡ length olds
  pub say : All (FateSays cs budget m) fates

next_of : {B : Type 0} (olds items : List B) (at retired : ℕ) (cs : ClauseSet) (budget : ℕ) (m : Meanings B) (before : B) (fates : List (Fate B)) (later : List B) → olds ≡ asked_of fates ++ later → items ≡ staying_of fates ++ later → length (staying_of fates) ≡ at → retired ≡ gone_of fates → retired + length items ≡ length olds → All (FateSays cs budget m) fates → at < length items → before ≡ get_or items at before → Next olds items at retired cs budget m before
next_of olds items at retired cs budget m before fates [] olds_are items_are place retired_are total say below is =
    let size : length items ≡ at = ap length items_are ∙ ap length (append-nil (staying_of fates)) ∙ place in
    absurd (omega arith)
next_of olds items at retired cs budget m before fates (x ∷ later) olds_are items_are place retired_are total say below is =
    let same : before ≡ x = is ∙ ap (λ s. get_or s at before) items_are ∙ get_or_at (staying_of fates) x later before at place in
    record {
      fates = fates;
      later = later;
      olds_are = olds_are ∙ ap (λ y. asked_of fates ++ y ∷ later) (sym same);
      items_are = items_are ∙ ap (λ y. staying_of fates ++ y ∷ later) (sym same);
      place = place;
      retired_are = retired_are;
      total = total;
      say = say;
    }

pub next : {B : Type 0} (olds items : List B) (at retired : ℕ) (cs : ClauseSet) (budget : ℕ) (m : Meanings B) (before : B) → Asking olds items at retired cs budget m → at < length items → before ≡ get_or items at before → Next olds items at retired cs budget m before
next olds items at retired cs budget m before a below is =
    next_of olds items at retired cs budget m before a.fates a.later a.olds_are a.items_are a.place a.retired_are a.total a.say below is

-- the list with what the prover is now
items_now : {B : Type 0} (items : List B) (at : ℕ) (kept later : List B) (before after : B) → items ≡ kept ++ before ∷ later → length kept ≡ at → set items at after ≡ kept ++ after ∷ later
items_now items at kept later before after are place = ap (λ l. set l at after) are ∙ set_at kept before later after at place

-- the next prover is passed over
pub passed : {B : Type 0} (olds items : List B) (at retired : ℕ) (cs : ClauseSet) (budget : ℕ) (m : Meanings B) (before after : B) → Next olds items at retired cs budget m before → WasAsked before after m × IsPassed before after cs budget m → Asking olds (set items at after) (at + 1) retired cs budget m
passed {B} olds items at retired cs budget m before after n heard =
    let last : Fate B = record { before = before; after = Some after } in
    let now : set items at after ≡ staying_of n.fates ++ after ∷ n.later = items_now items at (staying_of n.fates) n.later before after n.items_are n.place in
    let staying : staying_of (n.fates ++ last ∷ []) ≡ staying_of n.fates ++ after ∷ [] = sym (append-nil (staying_of (n.fates ++ last ∷ []))) ∙ staying_push n.fates last [] in
    record {
      fates = n.fates ++ last ∷ [];
      later = n.later;
      olds_are = n.olds_are ∙ sym (asked_push n.fates last n.later);
      items_are = now ∙ sym (staying_push n.fates last n.later);
      place = ap length staying ∙ length_push (staying_of n.fates) after ∙ ap (λ k. k + 1) n.place;
      retired_are = (let gone = gone_push n.fates last in let is = n.retired_are in omega arith);
      total = ap (λ k. retired + k) (grind (arith, common_steps)) ∙ n.total;
      say = All-push (FateSays cs budget m) n.fates last n.say heard;
    }

removed_at : {B : Type 0} (p : List B) (y : B) (ys : List B) (n : ℕ) → length p ≡ n → remove (p ++ y ∷ ys) n ≡ p ++ ys
removed_at p y ys n size =
    let front : take n (p ++ y ∷ ys) ≡ p = take_at p (y ∷ ys) n size in
    let split : p ++ y ∷ ys ≡ (p ++ y ∷ []) ++ ys = sym (append_assoc p (y ∷ []) ys) in
    let longer : length (p ++ y ∷ []) ≡ suc n = grind (arith, common_steps) in
    let back : drop (suc n) (p ++ y ∷ ys) ≡ ys = ap (drop (suc n)) split ∙ drop_at (p ++ y ∷ []) ys (suc n) longer in
    ap (λ l. l ++ drop (suc n) (p ++ y ∷ ys)) front ∙ ap (λ l. p ++ l) back

-- the next prover is gone
pub removed : {B : Type 0} (olds items : List B) (at retired : ℕ) (cs : ClauseSet) (budget : ℕ) (m : Meanings B) (before after : B) → Next olds items at retired cs budget m before → IsLiar before cs budget m → Asking olds (remove (set items at after) at) at (retired + 1) cs budget m
removed {B} olds items at retired cs budget m before after n liar =
    let last : Fate B = record { before = before; after = None } in
    let kept = staying_of n.fates in
    let now : set items at after ≡ kept ++ after ∷ n.later = items_now items at kept n.later before after n.items_are n.place in
    let rest : remove (set items at after) at ≡ kept ++ n.later = ap (λ l. remove l at) now ∙ removed_at kept after n.later at n.place in
    let staying : staying_of (n.fates ++ last ∷ []) ≡ kept = sym (append-nil (staying_of (n.fates ++ last ∷ []))) ∙ staying_push n.fates last [] ∙ append-nil kept in
    let sizes : length olds ≡ retired + length (kept ++ before ∷ n.later) = sym n.total ∙ ap (λ l. retired + length l) n.items_are in
    record {
      fates = n.fates ++ last ∷ [];
      later = n.later;
      olds_are = n.olds_are ∙ sym (asked_push n.fates last n.later);
      items_are = rest ∙ sym (staying_push n.fates last n.later);
      place = ap length staying ∙ n.place;
      retired_are = (let gone = gone_push n.fates last in let is = n.retired_are in omega arith);
      total = ap (λ l. (retired + 1) + length l) rest ∙ grind (arith, common_steps);
      say = All-push (FateSays cs budget m) n.fates last n.say liar;
    }

-- the next prover has a certificate that stands
pub ended : {B : Type 0} (olds items : List B) (at retired : ℕ) (cs : ClauseSet) (budget : ℕ) (m : Meanings B) (before after : B) (outcome : Outcome) → Next olds items at retired cs budget m before → WasAsked before after m × IsCertified before cs budget outcome m → IsRound olds (set items at after) retired cs budget outcome m
ended {B} olds items at retired cs budget m before after outcome n heard =
    let last : Fate B = record { before = before; after = Some after } in
    let now : set items at after ≡ staying_of n.fates ++ after ∷ n.later = items_now items at (staying_of n.fates) n.later before after n.items_are n.place in
    record {
      fates = n.fates ++ last ∷ [];
      later = n.later;
      are_fates = record {
        olds_are = n.olds_are ∙ sym (asked_push n.fates last n.later);
        news_are = now ∙ sym (staying_push n.fates last n.later);
      };
      asked = asked_but n.fates n.later before after cs budget m n.say heard.0 (λ e. absurd (some_left n.fates last e));
      spent = λ s. absurd (heard.1.unspent s);
      gone = gone_but n.fates before after cs budget m n.say;
      retired_are = (let gone = gone_push n.fates last in let is = n.retired_are in omega arith);
      stays = all_stay_but n.fates before after cs budget outcome m n.say heard.0 heard.1;
      last = λ some. record { earlier = n.fates; before = before; after = after; fates_are = refl; plan = heard.1.plan };
    }

-- memory is wanting for a look at the next prover's certificate
pub cut_at : {B : Type 0} (olds items : List B) (at retired : ℕ) (cs : ClauseSet) (budget : ℕ) (m : Meanings B) (before after : B) → Next olds items at retired cs budget m before → WasAsked before after m → IsCutShort olds (set items at after) cs budget m
cut_at {B} olds items at retired cs budget m before after n was =
    let last : Fate B = record { before = before; after = Some after } in
    let now : set items at after ≡ staying_of n.fates ++ after ∷ n.later = items_now items at (staying_of n.fates) n.later before after n.items_are n.place in
    let longer : length (n.fates ++ last ∷ []) ≡ length n.fates + 1 = length_push n.fates last in
    record {
      fates = n.fates ++ last ∷ [];
      later = n.later;
      are_fates = record {
        olds_are = n.olds_are ∙ sym (asked_push n.fates last n.later);
        news_are = now ∙ sym (staying_push n.fates last n.later);
      };
      asked = asked_but n.fates n.later before after cs budget m n.say was (λ e. absurd (some_left n.fates last e));
      gone = gone_but n.fates before after cs budget m n.say;
      honest = All-push (λ f. IfSome f.after (λ after. m.honest after ≡ m.honest f.before)) n.fates last (all_honest n.fates cs budget m n.say) was.honest;
      lacks = All-push (λ f. IfSome f.after (λ after. m.lacks f.before ≤ m.lacks after)) n.fates last (all_lacks n.fates cs budget m n.say) was.lacks;
      unrefused = λ i d low.
          let less : i < length n.fates = omega arith in
          subst (λ (x : Fate B). AnswersSo x cs budget m (λ answer. (IsRefused cs answer → ⊥) × (IsCertificate cs answer → ⊥))) (sym (get_or_append_left n.fates (last ∷ []) d i less))
          (neither (get_or n.fates i d) cs budget m (n.say i d less));
    }

-- no prover is left
all_asked : {B : Type 0} (items : List B) (at : ℕ) (kept later : List B) → items ≡ kept ++ later → length kept ≡ at → length items ≤ at → later ≡ []
all_asked items at kept [] items_are place above = refl
all_asked items at kept (x ∷ later) items_are place above =
    let size : length items ≡ length (kept ++ x ∷ later) = ap length items_are in
    let longer : length (kept ++ x ∷ later) ≡ length kept + suc (length later) = length-append kept (x ∷ later) in
    absurd (omega arith)

-- all were asked, and the house found the outcome
pub housed : {B : Type 0} (olds items : List B) (at retired : ℕ) (cs : ClauseSet) (budget : ℕ) (m : Meanings B) (outcome : Outcome) → Asking olds items at retired cs budget m → length items ≤ at → IsRound olds items retired cs budget outcome m
housed olds items at retired cs budget m outcome a above =
    let none : a.later ≡ [] = all_asked items at (staying_of a.fates) a.later a.items_are a.place above in
    record {
      fates = a.fates;
      later = a.later;
      are_fates = record { olds_are = a.olds_are; news_are = a.items_are };
      asked = record { once = all_once a.fates cs budget m a.say; first = λ e. none };
      spent = λ s. none;
      gone = all_gone a.fates cs budget m a.say;
      retired_are = a.retired_are;
      stays = all_stay a.fates cs budget outcome m a.say;
      last = λ some. absurd (some none);
    }

-- all were asked, and memory was wanting for the house
pub cut_behind : {B : Type 0} (olds items : List B) (at retired : ℕ) (cs : ClauseSet) (budget : ℕ) (m : Meanings B) → Asking olds items at retired cs budget m → length items ≤ at → IsCutShort olds items cs budget m
cut_behind olds items at retired cs budget m a above =
    let none : a.later ≡ [] = all_asked items at (staying_of a.fates) a.later a.items_are a.place above in
    record {
      fates = a.fates;
      later = a.later;
      are_fates = record { olds_are = a.olds_are; news_are = a.items_are };
      asked = record { once = all_once a.fates cs budget m a.say; first = λ e. none };
      gone = all_gone a.fates cs budget m a.say;
      honest = all_honest a.fates cs budget m a.say;
      lacks = all_lacks a.fates cs budget m a.say;
      unrefused = λ i d low. neither (get_or a.fates i d) cs budget m (a.say i d (omega arith));
    }

pub on_err : {A E : Type 0} (r : Result A E) (P : Type 0) → P → OnErr r P
on_err (Ok a) P p = tt
on_err (Err e) P p = p
