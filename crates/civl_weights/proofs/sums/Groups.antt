-- The bits of variables, group by group.
use Rattle.std.proofs.Common.{◌≡◌, ℕ, ◌+◌, ◌-◌, List, [], ◌∷◌, ◌++◌, refl, sym, ap, ◌∙◌, Option, None, Some}
use Rattle.std.specs.Prelude.{codes}
use Rattle.std.specs.Option.{option_map_or}
use Rattle.civl_tree.specs.declared.action.Choice.{Choice}
use Rattle.civl_tree.specs.declared.action.Param.{Param}
use Rattle.civl_tree.specs.declared.program.Local.{Local}
use Rattle.civl_tree.specs.declared.program.Proc.{Proc}
use Rattle.civl_tree.specs.declared.program.Program.{Program}
use Rattle.civl_conditions.specs.declared.condition.Variable.{Variable}
use Rattle.civl_conditions.specs.Variables.{variable, flag, of_params, of_choices, of_locals, variables}
use Rattle.civl_conditions.specs.Weights.{bits_of_variables, outs_bits}
use Rattle.civl_weighing.specs.Bits.{choices_bits, locals_bits}
use Rattle.civl_weights.specs.sums.Sums.{frame_bits}
use Rattle.civl_weighing.proofs.Summing.{bits_append, bits_mapped}

pub params_bits_are : (front : List ℕ) (ps : List Param) → bits_of_variables (of_params front ps) ≡ outs_bits ps
params_bits_are front ps = bits_mapped (λ p. variable front p.name p.sort) ps

pub choices_bits_are : (front : List ℕ) (cs : List Choice) → bits_of_variables (of_choices front cs) ≡ choices_bits cs
choices_bits_are front cs = bits_mapped (λ x. variable front x.name x.sort) cs

pub locals_bits_are : (front : List ℕ) (ls : List Local) → bits_of_variables (of_locals front ls) ≡ locals_bits ls
locals_bits_are front ls = bits_mapped (λ x. variable front x.name x.sort) ls

pub two_groups : (us vs : List Variable) {m n : ℕ} → bits_of_variables us ≡ m → bits_of_variables vs ≡ n → m + n ≡ bits_of_variables (us ++ vs)
two_groups us vs {m} {n} h k = sym (bits_append us vs ∙ ap (λ (i : ℕ). i + bits_of_variables vs) h ∙ ap (λ (i : ℕ). m + i) k)

pub frames_are : (program : Program) (number cut : ℕ) → (found : Option Proc) → option_map_or frame_bits found 0 ≡ bits_of_variables (option_map_or (λ proc. of_params (codes "other.") proc.params ++ (of_params (codes "other.") proc.outs ++ (of_locals (codes "other.") proc.locals ++ flag (codes "other.done") ∷ []))) found [])
frames_are program number cut None = refl
frames_are program number cut (Some proc) =
    two_groups (of_params (codes "other.") proc.params) _ (params_bits_are (codes "other.") proc.params)
    (sym (two_groups (of_params (codes "other.") proc.outs) _ (params_bits_are (codes "other.") proc.outs)
    (sym (two_groups (of_locals (codes "other.") proc.locals) (flag (codes "other.done") ∷ []) (locals_bits_are (codes "other.") proc.locals) refl))))
