-- Several rounds of asking.
use Rattle.std.proofs.Common.{◌≡◌, ℕ, zero, suc, ◌+◌, List, refl, sym, subst, arith}
use Rattle.civl_portfolio.specs.Prover.{Meanings}
use Rattle.civl_portfolio.specs.First.{KeepsFirst}
use Rattle.civl_portfolio.proofs.Firsts.{first_stays, first_at_start, first_next}
use Rattle.civl_verdicts.specs.decisions.Decided.{WasAsked, WereAsked}
use Rattle.civl_verdicts.specs.decisions.Laws.{HonestFirstStaysOverRounds}

pub first_stays_over : (B : Type 0) → HonestFirstStaysOverRounds B
first_stays_over B before after zero budget m e = subst (λ (bs : List B). KeepsFirst before bs 0 m) (sym e) (first_at_start before m)
first_stays_over B before after (suc rounds) budget m w =
    let last : WasAsked w.0 after budget m = w.2 in
    let one : rounds + 1 ≡ suc rounds = omega arith in
    subst (λ (n : ℕ). KeepsFirst before after n m) one
    (first_next before w.0 after rounds m (first_stays_over B before w.0 rounds budget m w.1) (first_stays B w.0 after last.retired last.set budget last.outcome m last.round))

module _ {B : Type 0} (m : Meanings B) (budget : ℕ) where
  -- one round more
  pub asked_more : (before between after : List B) (rounds : ℕ) → WereAsked before between rounds budget m → WasAsked between after budget m → WereAsked before after (rounds + 1) budget m
  asked_more before between after rounds h last = let one : suc rounds ≡ rounds + 1 = omega arith in subst (λ (n : ℕ). WereAsked before after n budget m) one (between, h, last)

  -- behind some rounds others
  pub asked_on : (before between after : List B) (first rest : ℕ) → WereAsked before between first budget m → WereAsked between after rest budget m → WereAsked before after (first + rest) budget m
  asked_on before between after first zero h k =
      let none : first ≡ first + zero = omega arith in
      subst (λ (n : ℕ). WereAsked before after n budget m) none (subst (λ (bs : List B). WereAsked before bs first budget m) (sym k) h)
  asked_on before between after first (suc rest) h k =
      let one : suc (first + rest) ≡ first + suc rest = omega arith in
      subst (λ (n : ℕ). WereAsked before after n budget m) one (k.0, asked_on before between k.0 first rest h k.1, k.2)

  -- behind one round others
  pub asked_then : (before between after : List B) (rest : ℕ) → WasAsked before between budget m → WereAsked between after rest budget m → WereAsked before after (rest + 1) budget m
  asked_then before between after rest h k =
      let swap : 1 + rest ≡ rest + 1 = omega arith in
      subst (λ (n : ℕ). WereAsked before after n budget m) swap (asked_on before between after 1 rest (before, refl, h) k)

  pub asked_as : (before after : List B) (n k : ℕ) → n ≡ k → WereAsked before after n budget m → WereAsked before after k budget m
  asked_as before after n k e h = subst (λ (j : ℕ). WereAsked before after j budget m) e h
