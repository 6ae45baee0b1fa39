-- Where a path arrives is one of the ends that some path from its cut reaches.
use Rattle.std.specs.Prelude.{take, nat_eq, if◌then◌else◌}
use Rattle.std.specs.List.{Contains, list_any}
use Rattle.std.proofs.Common.{◌≡◌, ◌∙◌, ℕ, zero, suc, ◌+◌, ◌≤◌, Bool, true, false, ◌&&◌, ◌||◌, List, [], ◌∷◌, length, refl, sym, ap, subst, arith, Some, Option, inl, inr}
use Rattle.std.proofs.lemmas.Bool.{false≢true, eq-eqb, eqb-true, and_parts, cases_lt, or_left, or_right}
use Rattle.std.proofs.lemmas.List.{length-append}
use Rattle.std.proofs.lemmas.List.Elements.{Contains-append_left, Contains-append_right}
use Rattle.std.proofs.lemmas.Option.{same_Some}
use Rattle.civl_tree.specs.declared.program.Proc.{Proc}
use Rattle.civl_tree.specs.declared.program.Refines.{Refines}
use Rattle.civl_tree.specs.declared.stmt.Stmt.{Stmt}
use Rattle.civl_tree.specs.Numbering.{statements_of}
use Rattle.civl_tree.proofs.Pairs.{contains_here}
use Rattle.civl_layers.specs.declared.cut.Cut.{Cut}
use Rattle.civl_layers.specs.Cuts.{cut_kind, cut_at, cuts_among, cuts_below, proc_cuts}
use Rattle.civl_conditions.specs.paths.Paths.{Course, Progress, Outcome, Past, Comes, Fails, Stops, path_from}
use Rattle.civl_conditions.specs.paths.Flows.{Flow, flow_from}
use Rattle.civl_conditions.specs.paths.Ends.{exit_of, cut_number, arrived, reaches, ends_among, ends_from}
use Rattle.civl_moves.specs.sweeps.Sweeps.{Stop, sweep_from, sweep_begins}
use Rattle.civl_moves.specs.sweeps.Draws.{takes, Draws}
use Rattle.civl_moves.specs.sweeps.Flowing.{numbers_of, PathsArriveAtEnds}
use Rattle.civl_moves.proofs.sweeps.Sweeping.{sweeps_draw_paths}
use Rattle.civl_moves.proofs.sweeps.Stopping.{sweeps_stop_at_ends}

-- ---- among the numbers that pass a test

pub among_contains : (test : ℕ → Bool) (at : ℕ) (cuts : List Cut) (end : ℕ) → test end ≡ true → at ≤ end → end ≤ at + length cuts → Contains (ends_among test at cuts) end
among_contains test at [] end t low high =
    let same : at ≡ end = omega (arith, low, high) in
    subst (λ (b : Bool). Contains (if b then at ∷ [] else []) end) (sym (ap test same ∙ t)) (subst (λ (n : ℕ). Contains (n ∷ []) end) (sym same) (contains_here end []))
among_contains test at (cut ∷ cuts) end t low high = elim (cases_lt at end) [
  | inl l ↦ Contains-append_right (if test at then at ∷ [] else []) (ends_among test (at + 1) cuts) end (among_contains test (at + 1) cuts end t (omega (arith, l)) (omega (arith, high)))
  | inr g ↦ Contains-append_left (if test at then at ∷ [] else []) (ends_among test (at + 1) cuts) end (here (omega (arith, g, low)))
]
  where
    here : at ≡ end → Contains (if test at then at ∷ [] else []) end
    here same = subst (λ (b : Bool). Contains (if b then at ∷ [] else []) end) (sym (ap test same ∙ t)) (subst (λ (n : ℕ). Contains (n ∷ []) end) (sym same) (contains_here end []))

-- ---- the number of a cut is no more than the exit's

fewer : (at n : ℕ) (ss : List Stmt) → length (cuts_among at (take n ss)) ≤ length (cuts_among at ss)
unfolding cuts_among
fewer at zero [] = omega arith
fewer at zero (s ∷ ss) = omega arith
fewer at (suc n) [] = omega arith
fewer at (suc n) (s ∷ ss) =
    let first = length-append (cut_at at (cut_kind s)) (cuts_among (at + 1) (take n ss)) in
    let whole = length-append (cut_at at (cut_kind s)) (cuts_among (at + 1) ss) in
    let rest = fewer (at + 1) n ss in
    omega (arith, first, whole, rest)

within_exit : (proc : Proc) (refines : Refines) (n : ℕ) → proc.refines ≡ Some refines → cut_number proc n ≤ exit_of proc
within_exit proc refines n e =
    let cuts : exit_of proc ≡ length (cuts_below (Some refines) proc.body) = ap (λ (o : Option Refines). length (cuts_below o proc.body)) e in
    let few = fewer 0 n (statements_of proc.body) in
    omega (arith, cuts, few)

-- ---- what a sweep takes

-- a stop that is taken is among the numbers
taken_among : (p : ℕ → Bool) (n : ℕ) (stops : List Stop) → takes n stops ≡ true → p n ≡ true → list_any p (numbers_of stops) ≡ true
taken_among p n [] h t = absurd (false≢true h)
taken_among p n (s ∷ ss) h t = by_first (nat_eq n s.number && s.taken) refl h (λ k. taken_among p n ss k t)
  where
    by_first : (b : Bool) → (nat_eq n s.number && s.taken) ≡ b → (b || takes n ss) ≡ true → (takes n ss ≡ true → list_any p (numbers_of ss) ≡ true) → (p s.number || list_any p (numbers_of ss)) ≡ true
    by_first true e k f = let same = eqb-true n s.number (and_parts (nat_eq n s.number) s.taken e).0 in or_left (p s.number) _ (ap p (sym same) ∙ t)
    by_first false e k f = or_right (p s.number) _ (f k)

onward_from : (b : Bool) → (b ≡ false → true ≡ false) → b ≡ true
onward_from true f = refl
onward_from false f = sym (f refl)

module _ (c : Course) (cut : Cut) (p : Progress) (refines : Refines) (some : c.proc.refines ≡ Some refines) where
  abbrev flows : Flow
  flows = flow_from c.proc cut

  contained : (end : ℕ) → reaches c.proc flows end ≡ true → end ≤ exit_of c.proc → Contains (ends_from c.proc cut) end
  contained end r l = among_contains (reaches c.proc flows) 0 (proc_cuts c.proc) end r (omega arith) (omega (arith, l))

  by_outcome : (o : Outcome) (end : ℕ) → path_from c cut p ≡ o → arrived c.proc o ≡ Some end → Contains (ends_from c.proc cut) end
  by_outcome (Past q) end e a =
      let d = subst (λ (o : Outcome). Draws o (sweep_from c cut (sweep_begins p))) e (sweeps_draw_paths c cut p) in
      let stop = sweeps_stop_at_ends c cut p in
      let onward : flows.onward ≡ true = sym stop.1 ∙ onward_from (sweep_from c cut (sweep_begins p)).onward (λ n. sym d.live ∙ d.onward n) in
      let same : exit_of c.proc ≡ end = same_Some (exit_of c.proc) end a in
      let reach : reaches c.proc flows (exit_of c.proc) ≡ true = or_left (flows.onward && nat_eq (exit_of c.proc) (exit_of c.proc)) _ (ap (λ (b : Bool). b && nat_eq (exit_of c.proc) (exit_of c.proc)) onward ∙ eq-eqb (exit_of c.proc) (exit_of c.proc) refl) in
      subst (Contains (ends_from c.proc cut)) same (contained (exit_of c.proc) reach (omega arith))
  by_outcome (Comes n q) end e a =
      let d = subst (λ (o : Outcome). Draws o (sweep_from c cut (sweep_begins p))) e (sweeps_draw_paths c cut p) in
      let stop = sweeps_stop_at_ends c cut p in
      let number = cut_number c.proc n in
      let same : number ≡ end = same_Some number end a in
      let taken = taken_among (λ k. nat_eq number (cut_number c.proc k)) n (sweep_from c cut (sweep_begins p)).stops (d.all n (eq-eqb n n refl)) (eq-eqb number number refl) in
      let among = ap (list_any (λ k. nat_eq number (cut_number c.proc k))) (sym stop.0) ∙ taken in
      subst (Contains (ends_from c.proc cut)) same (contained number (or_right (flows.onward && nat_eq number (exit_of c.proc)) _ among) (within_exit c.proc refines n some))
  by_outcome (Fails q) end e a = absurd (cc)
  by_outcome (Stops q) end e a = absurd (cc)

pub paths_arrive_at_ends : PathsArriveAtEnds
paths_arrive_at_ends c cut p refines end some a = by_outcome c cut p refines some (path_from c cut p) end refl a
