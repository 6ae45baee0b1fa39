use Rattle.civl_lift_command.proofs.laws.each_promise_follows.Goals as goal

pub returns : goal.returns
returns c = λ call p. record {
  explains = p.explains;
  lifted = p.lifted;
  rejected = p.rejected;
  undecided = p.undecided;
  refused = p.refused;
  lifted_alone = p.lifted_alone;
  complete = p.complete;
}
