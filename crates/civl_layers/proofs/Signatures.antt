-- Signatures, parameter by parameter.
use Rattle.std.proofs.Common.{◌≡◌, suc, Bool, true, false, List, [], ◌∷◌, length, refl, ap}
use Rattle.std.specs.Prelude.{◌&&◌}
use Rattle.civl_tree.specs.declared.action.Param.{Param}
use Rattle.civl_tree.specs.rules.Sorts.{same_sort}
use Rattle.civl_tree.specs.rules.Signature.{same_mode, same_params}

fails : (a b c : Bool) → c ≡ false → (a && (b && c)) ≡ false
fails true true c h = h
fails true false c h = refl
fails false b c h = refl

-- lists of different lengths
pub unlike : (xs ys : List Param) → ¬ (length xs ≡ length ys) → same_params xs ys ≡ false
unlike [] [] h = absurd (h refl)
unlike [] (y ∷ ys) h = refl
unlike (x ∷ xs) [] h = refl
unlike (x ∷ xs) (y ∷ ys) h =
    fails (same_mode x.mode y.mode) (same_sort x.sort y.sort) (same_params xs ys) (unlike xs ys (λ e. h (ap suc e)))
