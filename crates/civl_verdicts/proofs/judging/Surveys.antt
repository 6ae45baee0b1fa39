-- One finding more.
use Rattle.std.specs.Prelude.{get_or, take, length}
use Rattle.std.proofs.Common.{◌≡◌, ℕ, ◌+◌, ◌<◌, ◌≤◌, List, [], ◌∷◌, ◌++◌, sym, subst}
use Rattle.std.proofs.lemmas.List.{take_more, take_all}
use Rattle.civl_tree.specs.declared.program.Program.{Program}
use Rattle.civl_conditions.specs.declared.condition.Condition.{Condition}
use Rattle.civl_verdicts.specs.declared.survey.Found.{Found}
use Rattle.civl_verdicts.specs.Surveys.{IsFound, AreFound}

module _ (program : Program) (budget : ℕ) where
  found_behind : (cs : List Condition) (fs : List Found) (c : Condition) (f : Found) → AreFound program budget cs fs → IsFound program budget c f → AreFound program budget (cs ++ c ∷ []) (fs ++ f ∷ [])
  found_behind [] [] c f h k = (k, tt)
  found_behind [] (g ∷ fs) c f h k = absurd h
  found_behind (d ∷ cs) [] c f h k = absurd h
  found_behind (d ∷ cs) (g ∷ fs) c f h k = (h.0, found_behind cs fs c f h.1 k)

  pub found_more : (cs : List Condition) (i : ℕ) (d : Condition) (fs new : List Found) (f : Found) → i < length cs → AreFound program budget (take i cs) fs → IsFound program budget (get_or cs i d) f → new ≡ fs ++ f ∷ [] → AreFound program budget (take (i + 1) cs) new
  found_more cs i d fs new f l h k e =
      subst (λ (xs : List Found). AreFound program budget (take (i + 1) cs) xs) (sym e)
      (subst (λ (ds : List Condition). AreFound program budget ds (fs ++ f ∷ [])) (sym (take_more cs i d l)) (found_behind (take i cs) fs (get_or cs i d) f h k))

  pub found_all : (cs : List Condition) (i : ℕ) (fs new : List Found) → length cs ≤ i → AreFound program budget (take i cs) fs → new ≡ fs → AreFound program budget cs new
  found_all cs i fs new l h e =
      subst (λ (xs : List Found). AreFound program budget cs xs) (sym e) (subst (λ (ds : List Condition). AreFound program budget ds fs) (take_all i cs l) h)
