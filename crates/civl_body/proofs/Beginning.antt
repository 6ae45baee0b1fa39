-- From a cut.
use Rattle.std.proofs.Common.{◌≡◌, ◌∙◌, ℕ, List, [], sym, ap, subst, Some, refl, arith}
use Rattle.std.specs.Prelude.{slice_get}
use Rattle.std.proofs.lemmas.List.{append-nil}
use Rattle.civl_tree.specs.declared.program.Proc.{Proc}
use Rattle.civl_tree.specs.declared.program.Program.{Program}
use Rattle.civl_tree.specs.declared.stmt.Stmt.{Stmt}
use Rattle.civl_tree.specs.Numbering.{statement_at, statements_of, numbered}
use Rattle.civl_layers.specs.declared.cut.Cut.{Cut}
use Rattle.civl_layers.specs.declared.cut.CutKind.{CutKind}
use Rattle.civl_layers.specs.declared.cut.CutKind.TheVariants as kind
use Rattle.civl_meaning.specs.Rest.{rest_at}
use Rattle.civl_terms.specs.declared.node.Node.{Node}
use Rattle.civl_conditions.specs.paths.Paths.{Course}
use Rattle.civl_conditions.specs.paths.Flows.{Flow, flow_all, flow_rest, flow_from, flow_kind}
use Rattle.civl_conditions.proofs.paths.Each.{each_numbered, rest_each}
use Rattle.civl_moves.specs.sweeps.Sweeps.{Swept, sweep_all, sweep_rest, sweep_from, sweep_kind}
use Rattle.civl_states.specs.declared.choices.Chosen.{Chosen}
use Rattle.civl_moves.specs.declared.sweep.Sweep.{Sweep}
use Rattle.civl_moves.specs.States.{swept_at}
use Rattle.civl_body.specs.Passing.{course_in, StandIn, StandAll, HasChoices, SaysChoices, ReadyRest, ReadyHead, ReadyFrom, Passes, IsEntry, IsWithin}
use Rattle.civl_body.proofs.Passing.{moves_as}

pub entry_is : (cut : Cut) → cut.kind ≡ kind.Entry → IsEntry cut
unfolding flow_from sweep_from
entry_is cut e = record {
  flows = λ proc. ap (flow_kind proc.body cut.statement) e;
  sweeps = λ c d. ap (λ (k : CutKind). sweep_kind c cut.statement k d) e;
}

within_of : (cut : Cut) (k : CutKind) → cut.kind ≡ k → ((proc : Proc) → flow_kind proc.body cut.statement k ≡ flow_rest (rest_at proc.body cut.statement)) → ((c : Course) (d : Swept) → sweep_kind c cut.statement k d ≡ sweep_rest c (rest_at c.proc.body cut.statement) d) → IsWithin cut
unfolding flow_from sweep_from
within_of cut k e f g = record {
  flows = λ proc. ap (flow_kind proc.body cut.statement) e ∙ f proc;
  sweeps = λ c d. ap (λ (j : CutKind). sweep_kind c cut.statement j d) e ∙ g c d;
}

pub yield_is : (cut : Cut) → cut.kind ≡ kind.Yield → IsWithin cut
yield_is cut e = within_of cut kind.Yield e (λ proc. refl) (λ c d. refl)

pub yield_loop_is : (cut : Cut) → cut.kind ≡ kind.YieldLoop → IsWithin cut
yield_loop_is cut e = within_of cut kind.YieldLoop e (λ proc. refl) (λ c d. refl)

pub rank_loop_is : (cut : Cut) → cut.kind ≡ kind.RankLoop → IsWithin cut
rank_loop_is cut e = within_of cut kind.RankLoop e (λ proc. refl) (λ c d. refl)

module _ (proc : Proc) where
  abbrev Stands : ℕ → Stmt → Type 0
  Stands n y = statement_at proc.body n ≡ Some y

  own_stand : StandIn proc 0 (statements_of proc.body)
  own_stand j n s e g = let same : n ≡ j = omega (arith, e) in ap (λ (m : ℕ). slice_get (statements_of proc.body) m) same ∙ g

  body_stands : StandAll proc (numbered 0 proc.body)
  body_stands = subst (StandAll proc) (append-nil (numbered 0 proc.body)) (each_numbered Stands proc.body 0 [] own_stand tt)

  rest_stands : (w : ℕ) → StandAll proc (rest_at proc.body w)
  rest_stands w = rest_each Stands proc.body w own_stand

module _ (program : Program) (layer : ℕ) (proc : Proc) (chosen : List Chosen) (ns : List Node) (t : Sweep) (cut : Cut) where
  pub entry_ready : IsEntry cut → ReadyFrom ns program layer proc chosen t cut → ReadyRest ns program layer proc chosen t (numbered 0 proc.body)
  entry_ready i r = record {
    layered = r.layered;
    there = r.there;
    stands = body_stands proc;
    can = r.can;
    choices = λ o. subst (λ (f : Flow). HasChoices ns program layer chosen f.passed) (i.flows proc) r.choices;
  }

  pub within_ready : IsWithin cut → ReadyFrom ns program layer proc chosen t cut → ReadyHead ns program layer proc chosen t (rest_at proc.body cut.statement)
  within_ready i r = record {
    layered = r.layered;
    there = r.there;
    stands = rest_stands proc cut.statement;
    can = r.can;
    on = r.on;
    choices = subst (λ (f : Flow). HasChoices ns program layer chosen f.passed) (i.flows proc) r.choices;
  }

  module _ (new : List Node) (u : Sweep) where
    pub entry_passes : IsEntry cut → Passes ns new program layer proc chosen t u (flow_all (numbered 0 proc.body)).passed (λ c. sweep_all c (numbered 0 proc.body))
        → Passes ns new program layer proc chosen t u (flow_from proc cut).passed (λ c. sweep_from c cut)
    entry_passes i m v says =
        moves_as ns new program proc t u _ _ (λ env. sym (i.sweeps (course_in program layer proc (v env)) (swept_at env ns t)))
        (m v (λ o. subst (λ (f : Flow). SaysChoices ns program layer chosen f.passed v) (i.flows proc) (says o)))

    pub within_passes : IsWithin cut → Passes ns new program layer proc chosen t u (flow_rest (rest_at proc.body cut.statement)).passed (λ c. sweep_rest c (rest_at proc.body cut.statement))
        → Passes ns new program layer proc chosen t u (flow_from proc cut).passed (λ c. sweep_from c cut)
    within_passes i m v says =
        moves_as ns new program proc t u _ _ (λ env. sym (i.sweeps (course_in program layer proc (v env)) (swept_at env ns t)))
        (m v (λ o. subst (λ (f : Flow). SaysChoices ns program layer chosen f.passed v) (i.flows proc) (says o)))
