-- Two actions at terms, and a guard with the choices that are offered.
use Rattle.std.specs.Prelude.{slice_get, IfSome}
use Rattle.std.proofs.Common.{◌≡◌, ◌∙◌, ℕ, List, ap₂}
use Rattle.civl_bits.specs.declared.value.Value.{Value}
use Rattle.civl_bits.specs.declared.value.Value.TheVariants as value
use Rattle.civl_tree.specs.declared.expr.Sort.TheVariants.{Bool as Truth}
use Rattle.civl_tree.specs.declared.program.Program.{Program}
use Rattle.civl_firing.specs.declared.store.Store.{Store}
use Rattle.civl_firing.specs.Fired.{guard_holds, offers, store_after}
use Rattle.civl_terms.specs.declared.node.Node.{Node}
use Rattle.civl_terms.specs.Building.{Grows}
use Rattle.civl_terms.proofs.Growing.{grows_trans}
use Rattle.civl_actions.specs.declared.made.Instance.{Instance}
use Rattle.civl_actions.specs.Actions.{values_at, IsGuard, AreOffers}
use Rattle.civl_states.proofs.formula_parts.Saying.{sort_stays, test_stays}
use Rattle.civl_states.proofs.formula_parts.Listing.{said_stay}
use Rattle.civl_states.specs.declared.invoked.Invoked.{Invoked}
use Rattle.civl_states.specs.Runs.{Runs, TellsInputs, TellsGate}
use Rattle.civl_states.proofs.Runs.{of_some, at_three, stored, run_stays, invoked_stays}
use Rattle.civl_movers.specs.declared.meeting.Meeting.{Meeting}
use Rattle.civl_movers.specs.declared.sequence.Sequence.{Sequence}
use Rattle.civl_movers.specs.Runs.{HaveMet, HaveRun, AreTested}

-- the guard, where the choices are those that are offered
pub tells_offered : (old mid new : List Node) (program : Program) (globals : List ℕ) (number : ℕ) (inputs offered : List ℕ) (id : ℕ) → Grows old mid → Grows mid new
    → IfSome (slice_get program.actions number) (λ a. AreOffers old mid program a globals inputs offered)
    → IfSome (slice_get program.actions number) (λ a. IsGuard mid new program a globals inputs offered id)
    → TellsInputs old new program globals number inputs (λ g b j. guard_holds program.globals g b j (offers program.globals g b j)) id
tells_offered old mid new program globals number inputs offered id v w o m = λ b g j sg e h.
    let k = of_some _ _ b e m in
    let l = of_some _ _ b e o in
    let sm = said_stay old mid globals _ _ v sg in
    let hm = said_stay old mid inputs _ _ v h in
    record {
      sorted = k.sort;
      is = λ env f.
          let there = w.fits env f in
          let given : values_at env mid offered ≡ offers program.globals (g env) b (j env) =
          l.values env there ∙ ap₂ (λ (s : Store) (u : List Value). offers program.globals s b u) (stored old mid program globals g v sg env there) (h.are env (v.fits env there)) in
          k.is env f ∙ at_three (λ s u x. value.Bool (guard_holds program.globals s b u x)) _ _ _ _ _ _ (stored mid new program globals g w sm env f) (hm.are env there) given;
    }

-- ---- two actions

pub have_met : (n0 n1 n2 n3 : List Node) (program : Program) (globals : List ℕ) (x y : Invoked) (met : Meeting) → Grows n0 n1 → Grows n1 n2 → Grows n2 n3
    → Runs n0 n1 program globals x met.first → TellsGate n1 n2 program globals y.action y.inputs met.before → TellsGate n2 n3 program met.first.globals y.action y.inputs met.later
    → HaveMet n0 n3 program globals x y met
have_met n0 n1 n2 n3 program globals x y met w1 w2 w3 p q s = record {
  first = λ a g i c sg h. run_stays n1 n3 program a met.first g i c w13 (p a g i c sg h);
  before = λ b g j sg e h. test_stays n2 n3 met.before _ w3 (q b g j (said_stay n0 n1 globals _ _ w1 sg) e (said_stay n0 n1 y.inputs _ _ w1 h));
  later = λ a b g i c j d sg hx hy.
      s b (λ env. store_after program.globals (g env) a (i env) (c env)) j
      (said_stay n1 n2 met.first.globals _ _ w2 (p a g i c sg hx).store)
      hy.is (said_stay n0 n2 y.inputs _ _ w02 hy.inputs);
}
  where
    w13 : Grows n1 n3
    w13 = grows_trans n1 n2 n3 w2 w3

    w02 : Grows n0 n2
    w02 = grows_trans n0 n1 n2 w1 w2

pub tested_stays : (old new : List Node) (made : Instance) → Grows old new → AreTested old made → AreTested new made
tested_stays old new made g t = record { gate = sort_stays old new made.gate Truth g t.gate; guard = sort_stays old new made.guard Truth g t.guard }

pub have_run : (n0 n1 n2 : List Node) (program : Program) (globals : List ℕ) (x y : Invoked) (ran : Sequence) → Grows n0 n1 → Grows n1 n2
    → Runs n0 n1 program globals x ran.first → Runs n1 n2 program ran.first.globals y ran.second
    → HaveRun n0 n2 program globals x y ran
have_run n0 n1 n2 program globals x y ran w1 w2 p q = record {
  first = λ a g i c sg h. run_stays n1 n2 program a ran.first g i c w2 (p a g i c sg h);
  second = λ a b g i c j d sg hx hy. q b (λ env. store_after program.globals (g env) a (i env) (c env)) j d (p a g i c sg hx).store (invoked_stays n0 n1 program y b j d w1 hy);
}
