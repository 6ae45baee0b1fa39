-- The programs of the layers of a layered program keep the rules that plain programs keep.
use Rattle.std.proofs.Common.{◌≡◌, ℕ, zero, suc, Bool, List, [], ◌∷◌, map, Some, slice_get, refl, sym, ap, ◌∙◌, subst, arith}
use Rattle.std.proofs.lemmas.List.{length-map}
use Rattle.civl_tree.specs.declared.program.Proc.{Proc}
use Rattle.civl_tree.specs.declared.program.Program.{Program}
use Rattle.civl_tree.specs.rules.Typing.{signature_rule}
use Rattle.civl_tree.proofs.Kept.{keeps_alone}
use Rattle.civl_meaning.specs.Config.{IsPlain}
use Rattle.civl_meaning.specs.Layers.{means_body, program_at}
use Rattle.civl_layers.specs.LayerRules.{layer_rules}
use Rattle.civl_layers.specs.Layered.{IsLayered}

body_at : (f : Proc → Bool) (procs : List Proc) (number : ℕ) (proc : Proc) → slice_get procs number ≡ Some proc → slice_get (map f procs) number ≡ Some (f proc)
body_at f [] number proc at = cc
body_at f (p ∷ procs) zero proc at = let same : p ≡ proc = cc in ap (λ (q : Proc). Some (f q)) same
body_at f (p ∷ procs) (suc number) proc at = body_at f procs number proc at

pub layered_is_plain : (program : Program) → IsLayered program → (k : ℕ) → IsPlain (program_at program k)
layered_is_plain program src k = record {
  rules = src.rules;
  signatures = keeps_alone layer_rules program src.layers signature_rule (4, omega arith, refl);
  bodies = length-map program.procs (λ proc. means_body k proc.refines);
  roots = λ number proc at root. body_at (λ p. means_body k p.refines) program.procs number proc at ∙ ap (λ r. Some (means_body k r)) root;
}

-- so does a copy of the program with these bodies
pub copy_is_plain : (copy program : Program) (bodies : List Bool) (k : ℕ) → IsLayered program → copy ≡ program → bodies ≡ map (λ proc. means_body k proc.refines) program.procs → IsPlain (record { program = copy; bodies = bodies })
copy_is_plain copy program bodies k src same told =
    subst (λ (p : Program). IsPlain (record { program = p; bodies = bodies })) (sym same)
    (subst (λ (bs : List Bool). IsPlain (record { program = program; bodies = bs })) (sym told) (layered_is_plain program src k))
