-- What is well where nothing is found, and the first goal that weighs too much.
use Rattle.std.proofs.Common.{◌≡◌, List, [], ◌∷◌, map, refl, ap, ◌∙◌, Option, None}
use Rattle.std.specs.Prelude.{nat_lt}
use Rattle.std.specs.List.{find}
use Rattle.std.proofs.lemmas.Option.{none-some}
use Rattle.civl_tree.specs.declared.program.Program.{Program}
use Rattle.civl_tree.specs.rules.Rules.{Place, first_of}
use Rattle.civl_outlines.specs.declared.outline.Outline.{Outline}
use Rattle.civl_conditions.specs.Weights.{weight_limit}
use Rattle.civl_goals.specs.declared.goal.Goal.{Goal}
use Rattle.civl_goals.specs.Listed.{goals}
use Rattle.civl_goals.specs.Told.{told}
use Rattle.civl_goals.specs.Weights.{weight, heavy}

pub none_first : {A : Type 0} (xs : List A) → None ≡ first_of xs → xs ≡ []
none_first [] e = refl
none_first (x ∷ xs) e = absurd (none-some x e)

pub none_told : (ps : List Place) → None ≡ first_of (map told ps) → ps ≡ []
none_told [] e = refl
none_told (p ∷ ps) e = absurd (none-some (told p) e)

pub heavy_is : (program other : Program) (outline its : Outline) (list shown : List Goal) (first : Option Goal) → first ≡ find (λ g. nat_lt weight_limit (weight other its g)) shown → other ≡ program → its ≡ outline → shown ≡ list → list ≡ goals program outline →
    first ≡ heavy program outline
heavy_is program other outline its list shown first f p o s l =
    f ∙ ap (λ (q : Program). find (λ g. nat_lt weight_limit (weight q its g)) shown) p ∙ ap (λ (x : Outline). find (λ g. nat_lt weight_limit (weight program x g)) shown) o
    ∙ ap (find (λ g. nat_lt weight_limit (weight program outline g))) (s ∙ l)
