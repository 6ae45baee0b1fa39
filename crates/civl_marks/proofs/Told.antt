-- Values violate a condition exactly where a violation or a loss is told.
use Rattle.std.specs.Prelude.{is_some}
use Rattle.std.proofs.Common.{◌≡◌, ◌∙◌, ◌⊎◌, inl, inr, Bool, true, false, List, None, refl, sym, ap}
use Rattle.std.proofs.lemmas.Bool.{false≢true}
use Rattle.civl_bits.specs.declared.value.Value.{Value}
use Rattle.civl_tree.specs.declared.program.Program.{Program}
use Rattle.civl_conditions.specs.declared.condition.Condition.{Condition}
use Rattle.civl_conditions.specs.declared.condition.Condition.TheVariants.{Start, Keep, Pair, Fire, Path, Block, Act}
use Rattle.civl_conditions.specs.Violated.{violated}
use Rattle.civl_clashes.specs.Told.{violation}
use Rattle.civl_clashes.specs.Laws.{is_told}
use Rattle.civl_clashes.proofs.Violating.{violations_told}
use Rattle.civl_losses.specs.Losses.{loss}
use Rattle.civl_losses.specs.Laws.{is_of_path, LossesAreTold}

-- ---- of each condition one of them is told

kinds : (c : Condition) → (is_told c ≡ true) ⊎ (is_of_path c ≡ true)
kinds (Start step i) = inl refl
kinds (Keep step x) = inl refl
kinds (Pair number step x y) = inl refl
kinds (Fire step x) = inl refl
kinds (Path part step q c) = inr refl
kinds (Block step q c target) = inr refl
kinds (Act step x target) = inl refl

no_violation : (program : Program) (c : Condition) (values : List Value) → is_of_path c ≡ true → violation program c values ≡ None
unfolding violation
no_violation program (Path part step q c) values is = refl
no_violation program (Block step q c target) values is = refl
no_violation program (Start step i) values is = absurd (false≢true is)
no_violation program (Keep step x) values is = absurd (false≢true is)
no_violation program (Pair number step x y) values is = absurd (false≢true is)
no_violation program (Fire step x) values is = absurd (false≢true is)
no_violation program (Act step x target) values is = absurd (false≢true is)

no_loss : (program : Program) (c : Condition) (values : List Value) → is_told c ≡ true → loss program c values ≡ None
unfolding loss
no_loss program (Path part step q c) values is = absurd (false≢true is)
no_loss program (Block step q c target) values is = absurd (false≢true is)
no_loss program (Start step i) values is = refl
no_loss program (Keep step x) values is = refl
no_loss program (Pair number step x y) values is = refl
no_loss program (Fire step x) values is = refl
no_loss program (Act step x target) values is = refl

-- ---- what follows

-- a violation is told
pub by_violation : (program : Program) (c : Condition) (values : List Value) → is_some (violation program c values) ≡ true
    → violated program c values ≡ true
by_violation program c values is = go (kinds c)
  where
    go : (is_told c ≡ true) ⊎ (is_of_path c ≡ true) → violated program c values ≡ true
    go (inl k) = sym (violations_told program c values k) ∙ is
    go (inr k) = absurd (false≢true (sym (ap is_some (no_violation program c values k)) ∙ is))

-- none is told
pub by_loss : LossesAreTold → (program : Program) (c : Condition) (values : List Value)
    → is_some (violation program c values) ≡ false → is_some (loss program c values) ≡ violated program c values
by_loss lost program c values is = go (kinds c)
  where
    go : (is_told c ≡ true) ⊎ (is_of_path c ≡ true) → is_some (loss program c values) ≡ violated program c values
    go (inl k) = ap is_some (no_loss program c values k) ∙ (sym is ∙ violations_told program c values k)
    go (inr k) = lost program c values k
