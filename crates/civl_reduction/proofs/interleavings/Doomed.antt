-- Runs that end failing, by their length.
use Rattle.std.proofs.Common.{ℕ, zero, suc, ◌≡◌, List, [], ◌∷◌, length, Some, sym, subst}
use Rattle.civl_reduction.specs.interleavings.Systems.{Failing, System}
use Rattle.civl_reduction.specs.interleavings.Runs.{SystemRuns}

-- some run of so many moves from here ends failing
abbrev pub Doomed : {C M : Type 0} → System C M → ℕ → C → Type 0
Doomed S zero c = Failing S.steps c
Doomed {C} {M} S (suc n) c = (m : M) × (d : C) × (S.step c m ≡ Some d) × Doomed S n d

pub doomed_by : {C M : Type 0} (S : System C M) (ms : List M) (c e : C) → SystemRuns S.steps ms c e → Failing S.steps e → Doomed S (length ms) c
doomed_by S [] c e r f = subst (Failing S.steps) (sym r) f
doomed_by S (m ∷ ms) c e r f = (m, r.0, r.1, doomed_by S ms r.0 e r.2 f)
