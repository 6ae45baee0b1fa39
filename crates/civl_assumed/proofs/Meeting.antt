-- What is assumed at a cut, with its permissions apart.
use Rattle.std.proofs.Common.{◌≡◌, ℕ, Bool, true, false, not, ◌&&◌, ◌||◌, refl, if◌then◌else◌}
use Rattle.civl_tree.specs.declared.program.Proc.{Proc}
use Rattle.civl_tree.specs.declared.program.Program.{Program}
use Rattle.civl_meaning.specs.Permissions.{pairwise_disjoint}
use Rattle.civl_layers.specs.declared.cut.Cut.{Cut}
use Rattle.civl_conditions.specs.Invariants.{invariants_hold}
use Rattle.civl_conditions.specs.Values.{Begun}
use Rattle.civl_conditions.specs.Assumed.{cut_invariant, note_holds, refined_gate, owned, assumed}
use Rattle.civl_assumed.specs.inner.Met.{scope_begun, values_meet}

pub met : (inv note old gate done apart : Bool) → (inv && (note && (if old then done else gate))) ≡ true
    → (inv && (note && ((old || gate) && ((not old || done) && apart)))) ≡ apart
met true true true gate true apart e = refl
met true true false true done apart e = refl
met true true true gate false apart e = cc
met true true false false done apart e = cc
met true false old gate done apart e = cc
met false note old gate done apart e = cc

pub unmet : (inv note old gate done apart : Bool) → (inv && (note && (if old then done else gate))) ≡ false
    → (inv && (note && ((old || gate) && ((not old || done) && apart)))) ≡ false
unmet true true true gate true apart e = cc
unmet true true false true done apart e = cc
unmet true true true gate false apart e = refl
unmet true true false false done apart e = refl
unmet true false old gate done apart e = refl
unmet false note old gate done apart e = refl

module _ (program : Program) (step : ℕ) (proc : Proc) (number : ℕ) (cut : Cut) (b : Begun) where
  pub assumed_is : values_meet program step proc cut b ≡ true → assumed program step proc number cut b ≡ pairwise_disjoint (owned program proc number b)
  assumed_is e =
      met (invariants_hold program step b.old) (note_holds (scope_begun program proc b) (cut_invariant proc cut)) b.old_done (refined_gate program proc b) b.done
      (pairwise_disjoint (owned program proc number b)) e

  pub not_assumed : values_meet program step proc cut b ≡ false → assumed program step proc number cut b ≡ false
  not_assumed e =
      unmet (invariants_hold program step b.old) (note_holds (scope_begun program proc b) (cut_invariant proc cut)) b.old_done (refined_gate program proc b) b.done
      (pairwise_disjoint (owned program proc number b)) e
