use Rattle.civl_weights.proofs.kinds.part_of.Goals as goal

pub returns-in-Gate : goal.returns-in-Gate
returns-in-Gate c = record { is = λ program step proc number cut h. rw c.in-Gate.is h.gate }

pub returns-in-Invariant : goal.returns-in-Invariant
returns-in-Invariant c = record { is = λ program step proc number cut h. rw c.in-Invariant.is h.invariant }

pub returns-in-Once : goal.returns-in-Once
returns-in-Once c = record { is = λ program step proc number cut h. rw c.in-Once.is h.gate }

pub returns-in-Stutter : goal.returns-in-Stutter
returns-in-Stutter c = record { is = λ program step proc number cut h. rw c.in-Stutter.is h.stutter }

pub returns-in-Perform : goal.returns-in-Perform
returns-in-Perform c = record { is = λ program step proc number cut h. rw c.in-Perform.is h.perform }

pub returns-in-Rank : goal.returns-in-Rank
returns-in-Rank c = record { is = λ program step proc number cut h. rw c.in-Rank.is h.rank }
