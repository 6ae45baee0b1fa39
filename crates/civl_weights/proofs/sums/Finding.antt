-- The sums of procedures that are found by numbers, and lists of those of cuts that grow.
use Rattle.std.proofs.Common.{◌≡◌, ℕ, ◌+◌, List, [], ◌∷◌, ◌++◌, ◌<◌, length, take, get_or, sym, ap, subst, arith, Option, None, Some}
use Rattle.std.specs.Prelude.{slice_get}
use Rattle.std.specs.Option.{option_map_or}
use Rattle.std.specs.List.{AllZip}
use Rattle.std.proofs.lemmas.List.{take_more, length-take}
use Rattle.civl_tree.specs.declared.program.Proc.{Proc}
use Rattle.civl_tree.specs.declared.program.Program.{Program}
use Rattle.civl_layers.specs.declared.cut.Cut.{Cut}
use Rattle.civl_weighing.specs.declared.weight.Weight.{Weight}
use Rattle.civl_weights.specs.declared.sums.cuts.CutSums.{CutSums}
use Rattle.civl_weights.specs.declared.sums.tables.ProcSums.{ProcSums}
use Rattle.civl_weighing.specs.Weighing.{Weighs}
use Rattle.civl_weights.specs.sums.Sums.{OfCut, OfCuts}
use Rattle.civl_weights.specs.sums.Tables.{OfProc}
use Rattle.civl_weighing.proofs.Capping.{weighs_same}
use Rattle.civl_weights.proofs.sums.Acting.{zip_found, zip_none}

-- ---- procedures

module _ (program : Program) (table : List ProcSums) (r : ℕ) (f : Proc → ℕ) {w : Weight} (all : AllZip (OfProc program) program.procs table) where
  pub proc_there : (s : ProcSums) → slice_get table r ≡ Some s → ((p : Proc) → OfProc program p s → Weighs w (f p)) → Weighs w (option_map_or f (slice_get program.procs r) 0)
  proc_there s e h =
      let here = zip_found (OfProc program) program.procs table r s all e in
      weighs_same (sym (ap (λ (o : Option Proc). option_map_or f o 0) here.1)) (h here.0 here.2)

  pub proc_none : slice_get table r ≡ None → Weighs w 0 → Weighs w (option_map_or f (slice_get program.procs r) 0)
  proc_none e h = weighs_same (sym (ap (λ (o : Option Proc). option_map_or f o 0) (zip_none (OfProc program) program.procs table r all e))) h

-- ---- cuts

module _ (program : Program) (step : ℕ) where
  cuts_push : (proc : Proc) (at : ℕ) (cuts : List Cut) (ss : List CutSums) (cut : Cut) (s : CutSums) → OfCuts program step proc at cuts ss → OfCut program step proc (at + length cuts) cut s → OfCuts program step proc at (cuts ++ cut ∷ []) (ss ++ s ∷ [])
  cuts_push proc at [] [] cut s h k = let e : at + 0 ≡ at = omega arith in (subst (λ (n : ℕ). OfCut program step proc n cut s) e k, tt)
  cuts_push proc at [] (x ∷ ss) cut s h k = absurd h
  cuts_push proc at (c ∷ cuts) [] cut s h k = absurd h
  cuts_push proc at (c ∷ cuts) (x ∷ ss) cut s h k =
      let e : at + length (c ∷ cuts) ≡ (at + 1) + length cuts = omega arith in
      (h.0, cuts_push proc (at + 1) cuts ss cut s h.1 (subst (λ (n : ℕ). OfCut program step proc n cut s) e k))

  pub cuts_more : (proc : Proc) (cuts : List Cut) (i : ℕ) (d : Cut) (ss new : List CutSums) (s : CutSums) → i < length cuts → new ≡ ss ++ s ∷ [] → OfCuts program step proc 0 (take i cuts) ss → OfCut program step proc i (get_or cuts i d) s → OfCuts program step proc 0 (take (i + 1) cuts) new
  cuts_more proc cuts i d ss new s l n h k =
      let e : i ≡ 0 + length (take i cuts) = omega (arith, length-take i cuts) in
      subst (λ (cs : List Cut). OfCuts program step proc 0 cs new) (sym (take_more cuts i d l)) (subst (λ (xs : List CutSums). OfCuts program step proc 0 (take i cuts ++ get_or cuts i d ∷ []) xs) (sym n)
      (cuts_push proc 0 (take i cuts) ss (get_or cuts i d) s h (subst (λ (m : ℕ). OfCut program step proc m (get_or cuts i d) s) e k)))
