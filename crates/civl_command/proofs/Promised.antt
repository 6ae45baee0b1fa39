-- All that a call promises, from what its status says.
use Rattle.std.proofs.Common.{◌≡◌, subst}
use Rattle.civl_reduction.specs.simulation.Preserved.{AcceptedProgramsPreserve}
use Rattle.civl_safety.specs.Safe.{LowestIsSafe}
use Rattle.civl_frontend.specs.Call.{Call}
use Rattle.civl_frontend.specs.declared.status.Status.{Status}
use Rattle.civl_command.specs.Judge.{Explains}
use Rattle.civl_command.specs.Promises.{Promises}
use Rattle.civl_command.proofs.Promising.{ExplainsAs, accepts_by, tries_by, surveys_by, prints_by, low_by, top_by, safe_by, certifies_by, refutes_by, rejects_by, leaves_open_by, refuses_by, complete_by, trial_complete_by}
use Rattle.civl_command.proofs.Alone.{alone_by, tried_alone_by, safe_alone_by}

module _ (call : Call) (preserve : AcceptedProgramsPreserve) (safe_below : LowestIsSafe) (explains : Explains call) where
  as_status : {status : Status} → call.status ≡ status → ExplainsAs call status
  as_status is = subst (λ (s : Status). ExplainsAs call s) is explains

  pub promises_by : Promises call
  promises_by = record {
    preserved = λ budget is check input told. let a = accepts_by call preserve budget (as_status is) check input told in (a.0, a.2.spelled.spells, a.2.preserves);
    explains = explains;
    accepted = λ budget is check. accepts_by call preserve budget (as_status is) check;
    tried = λ number is trial. tries_by call preserve number (as_status is) trial;
    surveyed = λ budget is conditions. surveys_by call budget (as_status is) conditions;
    printed = λ is fmt. prints_by call (as_status is) fmt;
    low = λ is low. low_by call (as_status is) low;
    top = λ is top. top_by call (as_status is) top;
    safe = λ budget is prove. safe_by call safe_below budget (as_status is) prove;
    certified = λ place budget is make. certifies_by call place budget (as_status is) make;
    replayed = λ is replay. refutes_by call (as_status is) replay;
    rejected = λ is. rejects_by call (as_status is);
    undecided = λ is. leaves_open_by call (as_status is);
    refused = λ is. refuses_by call (as_status is);
    alone = λ budget check. alone_by call budget check explains;
    tried_alone = λ number trial. tried_alone_by call number trial explains;
    safe_alone = λ budget prove. safe_alone_by call budget prove explains;
    complete = complete_by call explains;
    tried_complete = trial_complete_by call explains;
  }
