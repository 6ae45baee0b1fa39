-- All that a call promises, from what its status says.
use Rattle.std.proofs.Common.{◌≡◌, subst}
use Rattle.civl_reduction.specs.simulation.Preserved.{AcceptedProgramsPreserve}
use Rattle.civl_frontend.specs.Call.{Call}
use Rattle.civl_frontend.specs.declared.status.Status.{Status}
use Rattle.civl_lift_command.specs.Judge.{Explains}
use Rattle.civl_lift_command.specs.Promises.{Promises}
use Rattle.civl_lift_command.proofs.Promising.{ExplainsAs, lifts_by, rejects_by, leaves_open_by, refuses_by, complete_by}
use Rattle.civl_lift_command.proofs.Alone.{alone_by}

module _ (call : Call) (preserve : AcceptedProgramsPreserve) (explains : Explains call) where
  as_status : {status : Status} → call.status ≡ status → ExplainsAs call status
  as_status is = subst (λ (s : Status). ExplainsAs call s) is explains

  pub promises_by : Promises call
  promises_by = record {
    raised = λ is input told.
        let l = lifts_by call preserve (as_status is) input told in
        let r = l.3 in
        (l.0, r.store, r.given, l.1, l.2, r.failure.spells, r.failure.given.fits, r.failure.fails, r.lifted, l.4);
    explains = explains;
    lifted = λ is. lifts_by call preserve (as_status is);
    rejected = λ is. rejects_by call (as_status is);
    undecided = λ is. leaves_open_by call preserve (as_status is);
    refused = λ is. refuses_by call (as_status is);
    lifted_alone = alone_by call explains;
    complete = complete_by call explains;
  }
