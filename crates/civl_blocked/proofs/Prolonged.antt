-- One more offered step.
use Rattle.std.proofs.Common.{ℕ, ◌≡◌, true, List, [], ◌∷◌, ◌++◌, Some, refl, sym, ap, subst, ◌∙◌}
use Rattle.civl_tree.specs.declared.program.Program.{Program}
use Rattle.civl_firing.specs.declared.store.Store.{Store}
use Rattle.civl_meaning.specs.declared.config.Move.{Move}
use Rattle.civl_meaning.specs.declared.config.Config.{Config}
use Rattle.civl_meaning.specs.Layers.{program_at}
use Rattle.civl_reduction.specs.gathered.System.{layer_run}
use Rattle.civl_reduction.specs.gathered.Offered.{offered, AreOffered}

pub offered_more : (program : Program) (layer : ℕ) (store : Store) (t : ℕ) (ms : List Move) (m : Move) (c d e : Config) → AreOffered program layer store t ms c d → m ≡ offered (program_at program layer) d t
    → (layer_run program layer store).step d m ≡ Some e → (layer_run program layer store).inside e t ≡ true → AreOffered program layer store t (ms ++ m ∷ []) c e
offered_more program layer store t [] m c d e a is s i =
    (e, is ∙ ap (λ (x : Config). offered (program_at program layer) x t) (sym a), subst (λ (x : Config). (layer_run program layer store).step x m ≡ Some e) (sym a) s, i, refl)
offered_more program layer store t (n ∷ ms) m c d e a is s i = (a.0, a.1, a.2, a.3, offered_more program layer store t ms m a.0 d e a.4 is s i)
