use Rattle.civl_command.proofs.laws.each_promise_follows.Goals as goal

pub returns : goal.returns
returns c = λ call p. record {
  explains = p.explains;
  accepted = p.accepted;
  tried = p.tried;
  surveyed = p.surveyed;
  printed = p.printed;
  low = p.low;
  top = p.top;
  safe = p.safe;
  certified = p.certified;
  replayed = p.replayed;
  rejected = p.rejected;
  undecided = p.undecided;
  refused = p.refused;
  alone = p.alone;
  tried_alone = p.tried_alone;
  safe_alone = p.safe_alone;
  complete = p.complete;
  tried_complete = p.tried_complete;
}
