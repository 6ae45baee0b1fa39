-- From what is found of a text to what was read.
use Rattle.std.proofs.Common.{◌≡◌, ◌∙◌, ◌⊎◌, inl, inr, List, ℕ, [], refl, sym, ap, subst}
use Rattle.civl_outside.specs.Count.{Rose}
use Rattle.civl_frontend.specs.Report.{bytes_of}
use Rattle.civl_frontend.specs.Streams.{ReadState, ReadsPast, ReadsText}
use Rattle.civl_frontend.specs.Texts.{limit}
use Rattle.civl_frontend.specs.Told.{WantsMemory}
use Rattle.civl_frontend.specs.declared.judged.Judged.{Judged}
use Rattle.civl_frontend.specs.declared.status.Status.{Status}
use Rattle.civl_frontend.specs.declared.status.Status.TheVariants.{ReadFault, Usage}
use Rattle.civl_explain_words.specs.Words.{AreWordsOf}
use Rattle.civl_explain_words.specs.declared.words.Request.{Request}
use Rattle.civl_explain_command.specs.Tasks.{AskForSome, manner_of, kind_of}
use Rattle.civl_explain_command.specs.Outcome.{Outcome, TooLong, FindsBy, status_of}
use Rattle.civl_explain_command.specs.Told.{IsTold}
use Rattle.civl_explain_command.specs.Judge.{IsJudged, Judges, ReadsLong, ReadsWhole, usage_text}

module _ (words : List (List ℕ)) (request : Request) (before after : ReadState) (judged : Judged) (words_are : AreWordsOf request words) where
  -- memory is wanting
  pub input_wanted : WantsMemory judged.status (bytes_of judged.report) → Judges words before after judged.status (bytes_of judged.report)
  input_wanted wants =
      subst (λ (s : Status). Judges words before after s (bytes_of judged.report)) (sym wants.status_is) (inr (inl (request, words_are), wants.report_is))

  -- an input that was read past the limit
  pub long_judged : (input : List ℕ) → ReadsPast limit before after
      → IsJudged (kind_of request.command) (manner_of request) input (λ outcome. outcome ≡ TooLong limit) judged
      → Judges words before after judged.status (bytes_of judged.report)
  long_judged input past (inl t) = inl (record {
    request = request;
    words_are = words_are;
    input = input;
    outcome = TooLong limit;
    reads = ReadsLong input past;
    status_is = t.status_is ∙ ap status_of t.says_so;
    is_told = subst (λ (o : Outcome). IsTold (kind_of request.command) (manner_of request) input o (bytes_of judged.report)) t.says_so t.is_told;
  })
  long_judged input past (inr wants) = input_wanted wants

  -- an input that was read whole
  pub input_judged : (bytes : List ℕ) → ReadsText before after bytes
      → IsJudged (kind_of request.command) (manner_of request) bytes (FindsBy request.command bytes) judged
      → Judges words before after judged.status (bytes_of judged.report)
  input_judged bytes reads (inl t) = inl (record {
    request = request;
    words_are = words_are;
    input = bytes;
    outcome = t.outcome;
    reads = ReadsWhole bytes t.outcome reads t.says_so;
    status_is = t.status_is;
    is_told = t.is_told;
  })
  input_judged bytes reads (inr wants) = input_wanted wants

-- the source failed
pub input_failed : (words : List (List ℕ)) (request : Request) (before after : ReadState) (report : List ℕ) → AreWordsOf request words
    → Rose before.faults after.faults → report ≡ [] → Judges words before after ReadFault report
input_failed words request before after report words_are rose is = inr ((request, words_are), rose, is)

-- the words ask for nothing
pub usage_judged : (words : List (List ℕ)) (before : ReadState) (status : Status) (report : List ℕ) → (AskForSome words → ⊥) → status ≡ Usage
    → report ≡ usage_text → Judges words before before status report
usage_judged words before status report unasked is text =
    subst (λ (s : Status). Judges words before before s report) (sym is) (inr (unasked, refl, text))

-- memory is wanting at the words
pub words_wanted : (words : List (List ℕ)) (before : ReadState) (judged : Judged) → WantsMemory judged.status (bytes_of judged.report)
    → Judges words before before judged.status (bytes_of judged.report)
words_wanted words before judged wants =
    subst (λ (s : Status). Judges words before before s (bytes_of judged.report)) (sym wants.status_is) (inr (inr refl, wants.report_is))
