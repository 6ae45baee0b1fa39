-- Lines and texts, one behind the other.
use Rattle.std.proofs.Common.{◌≡◌, ◌∙◌, ℕ, ◌+◌, ◌<◌, Bool, List, [], ◌∷◌, ◌++◌, length, drop, get_or, Option, Some, sym, ap, append_assoc}
use Rattle.std.specs.Option.{option_map_or}
use Rattle.std.proofs.lemmas.List.{drop_more}
use Rattle.civl_tree.specs.declared.program.Proc.{Proc}
use Rattle.civl_tree.specs.declared.program.Program.{Program}
use Rattle.civl_firing.specs.Scope.{frame_values}
use Rattle.civl_conditions.specs.Invariants.{holds_in}
use Rattle.civl_conditions.specs.Steps.{each_at}
use Rattle.civl_goal_losses.specs.declared.losses.Moment.{Moment}
use Rattle.civl_places.specs.declared.formula.Formula.TheVariants as formula
use Rattle.civl_places.specs.declared.formula.InStatement.TheVariants as part
use Rattle.civl_places.specs.Formulas.{formula_at}
use Rattle.civl_reasons.specs.Reasons.{Subformula}
use Rattle.civl_verdicts.specs.models.Text.{bool_text, listed}
use Rattle.civl_goal_stories.specs.Frames.{change_texts, passage_text}

-- a step of a loop that puts what is told of the first of the rest
pub step : {X : Type 0} (out here later rest new all : List X)
    → new ≡ out ++ here → rest ≡ here ++ later → out ++ rest ≡ all → new ++ later ≡ all
step {X} out here later rest new all said begins so_far =
    ap (λ (l : List X). l ++ later) said ∙ append_assoc out here later ∙ ap (λ (l : List X). out ++ l) (sym begins) ∙ so_far

-- of each with its number
pub each_here : {A B : Type 0} (f : ℕ → A → List B) (xs : List A) (i : ℕ) (x : A) → i < length xs → x ≡ get_or xs i x
    → each_at f i (drop i xs) ≡ f i x ++ each_at f (i + 1) (drop (i + 1) xs)
each_here {A} {B} f xs i x below here = ap (each_at f i) (drop_more xs i x below ∙ ap (λ (y : A). y ∷ drop (i + 1) xs) (sym here))

-- some lines, one, and others
pub behind_some : {X : Type 0} (firsts : List X) (x : X) (others front one two result : List X)
    → one ≡ front ++ firsts → two ≡ one ++ x ∷ [] → result ≡ two ++ others → result ≡ front ++ (firsts ++ x ∷ others)
behind_some {X} firsts x others front one two result first next last =
    last
    ∙ ap (λ (l : List X). l ++ others) (next ∙ ap (λ (l : List X). l ++ x ∷ []) first)
    ∙ append_assoc (front ++ firsts) (x ∷ []) others
    ∙ append_assoc front firsts (x ∷ others)

-- a statement that has a condition
pub tested : (program : Program) (here there : Moment) (proc : Proc) (test : Subformula) (truth : Bool) (text : List ℕ)
    → formula_at program (formula.Statement here.frame.procedure here.frame.place part.Condition) ≡ Some test
    → truth ≡ holds_in (frame_values program.globals proc here.frame.locals) test.expr → text ≡ bool_text truth
    → text ≡ passage_text program here there proc
tested program here there proc test truth text found is said =
    let scope = frame_values program.globals proc here.frame.locals in
    let others = listed (change_texts program proc here there) in
    said ∙ ap bool_text is
    ∙ sym (ap (λ (o : Option Subformula). option_map_or (λ (t : Subformula). bool_text (holds_in scope t.expr)) o others) found)
