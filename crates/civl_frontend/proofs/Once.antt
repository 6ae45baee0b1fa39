-- A program breaks one rule first, has one formula that weighs too much first, and a script has one schedule.
use Rattle.std.proofs.Common.{◌≡◌, ℕ, List, sym, ap, ◌∙◌}
use Rattle.std.specs.Prelude.{Option, None, Some}
use Rattle.civl_tree.specs.declared.program.Program.{Program}
use Rattle.civl_tree.specs.declared.refusal.Refusal.{Refusal}
use Rattle.civl_tree.specs.rules.Rules.{first_of}
use Rattle.civl_firing.specs.declared.store.Store.{Store}
use Rattle.civl_meaning.specs.declared.config.Move.{Move}
use Rattle.civl_script.specs.declared.schedule.Schedule.TheVariants.{Fits, Wrong}
use Rattle.civl_conditions.specs.declared.condition.Condition.{Condition as Formula}
use Rattle.civl_conditions.specs.Weights.{heavy}
use Rattle.civl_frontend.specs.Rules.{static_refusal, IsLawful}

pub one_refusal : (program : Program) (first second : Refusal) → static_refusal program ≡ Some first → static_refusal program ≡ Some second → first ≡ second
one_refusal program first second a b = let e : Some first ≡ Some second = sym a ∙ b in cc

pub not_broken : (program : Program) (refusal : Refusal) → IsLawful program → static_refusal program ≡ Some refusal → ⊥
not_broken program refusal lawful broken = let e = sym (ap first_of lawful) ∙ broken in cc

pub one_weight : (program : Program) (first second : Option Formula) → heavy program ≡ Some first → heavy program ≡ Some second → first ≡ second
one_weight program first second a b = let e : Some first ≡ Some second = sym a ∙ b in cc

pub not_heavy : (program : Program) (first : Option Formula) → heavy program ≡ None → heavy program ≡ Some first → ⊥
not_heavy program first light weighs = let e = sym light ∙ weighs in cc

pub wrongs_same : (m n : ℕ) → Wrong m ≡ Wrong n → m ≡ n
wrongs_same m n e = cc

pub wrong_not_fits : (n : ℕ) (store : Store) (moves : List Move) → Wrong n ≡ Fits store moves → ⊥
wrong_not_fits n store moves e = cc

pub fits_stores : (s t : Store) (m n : List Move) → Fits s m ≡ Fits t n → s ≡ t
fits_stores s t m n e = cc

pub fits_moves : (s t : Store) (m n : List Move) → Fits s m ≡ Fits t n → m ≡ n
fits_moves s t m n e = cc
