-- Of the statements 0, 3 and 5, of which 3 commits a second time, 0 is told alone; of another loss all three.
use Rattle.std.specs.Prelude.{ℕ, ◌≡◌, false, List, [], ◌∷◌, None}
use Rattle.civl_traces.specs.declared.walked.Passage.{Passage}
use Rattle.civl_losses.specs.declared.loss.Loss.TheVariants.{CommitAgain, NoCommit}
use Rattle.civl_path_stories.specs.Paths.{told_passages}

abbrev passing : ℕ → Passage
passing statement = record { statement = statement; took = None; changed = []; done = false; again = false }

abbrev three : List Passage
three = passing 0 ∷ passing 3 ∷ passing 5 ∷ []

abbrev pub WorkedBefore : Type 0
WorkedBefore = (told_passages (CommitAgain 3) three ≡ passing 0 ∷ []) × (told_passages NoCommit three ≡ three)
