-- What is passed before a statement, one passage after the other.
use Rattle.std.specs.Prelude.{nat_eq, if◌then◌else◌}
use Rattle.std.proofs.Common.{◌≡◌, ◌∙◌, ℕ, ◌+◌, ◌<◌, Bool, true, false, List, [], ◌∷◌, ◌++◌, length, get_or, drop, sym, ap, append_assoc, append-nil}
use Rattle.std.proofs.lemmas.List.{drop_more}
use Rattle.civl_lines.specs.declared.line.Line.{Line}
use Rattle.civl_traces.specs.declared.walked.Passage.{Passage}
use Rattle.civl_path_stories.specs.Paths.{Told, before_statement, passage_line, passage_lines}

module _ (statement : ℕ) (passed : List Passage) (i : ℕ) (q : Passage) (below : i < length passed) (here : q ≡ get_or passed i q) where
  abbrev rest : List Passage
  rest = before_statement statement (drop (i + 1) passed)

  split : (b : Bool) → nat_eq q.statement statement ≡ b → before_statement statement (drop i passed) ≡ (if b then [] else q ∷ rest)
  split b is =
      ap (before_statement statement) (drop_more passed i q below ∙ ap (λ (p : Passage). p ∷ drop (i + 1) passed) (sym here))
      ∙ ap (λ (c : Bool). if◌then◌else◌ {A = List Passage} c [] (q ∷ rest)) is

  module _ (t : Told) (out all : List Line) (so_far : out ++ passage_lines t (before_statement statement (drop i passed)) ≡ all) where
    -- nothing comes from this statement on
    pub stops : nat_eq q.statement statement ≡ true → out ≡ all
    stops is = sym (append-nil out) ∙ ap (λ (qs : List Passage). out ++ passage_lines t qs) (sym (split true is)) ∙ so_far

    -- what is passed before it comes, and then the rest
    pub goes_on : (new : List Line) → nat_eq q.statement statement ≡ false → new ≡ out ++ passage_line t q ∷ [] → new ++ passage_lines t rest ≡ all
    goes_on new is said =
        ap (λ (l : List Line). l ++ passage_lines t rest) said
        ∙ append_assoc out (passage_line t q ∷ []) (passage_lines t rest)
        ∙ ap (λ (qs : List Passage). out ++ passage_lines t qs) (sym (split false is))
        ∙ so_far

pub ruleset passing = (stops, goes_on)
