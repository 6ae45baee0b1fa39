-- Which procedures of a layer mean a body.
use Rattle.std.proofs.Common.{◌≡◌, ℕ, zero, suc, List, [], ◌∷◌, map, Some, slice_get, ap}
use Rattle.std.proofs.lemmas.Option.{same_Some, none-some}
use Rattle.civl_tree.specs.declared.program.Proc.{Proc}
use Rattle.civl_meaning.specs.Layers.{means_body}

pub bodies_at : (layer : ℕ) (procs : List Proc) (j : ℕ) (proc : Proc) → slice_get procs j ≡ Some proc → slice_get (map (λ p. means_body layer p.refines) procs) j ≡ Some (means_body layer proc.refines)
bodies_at layer [] j proc at = absurd (none-some proc at)
bodies_at layer (p ∷ ps) zero proc at = ap (λ (q : Proc). Some (means_body layer q.refines)) (same_Some p proc at)
bodies_at layer (p ∷ ps) (suc j) proc at = bodies_at layer ps j proc at
