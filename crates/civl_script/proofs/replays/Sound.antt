-- What is replayed is of its program, and where it stops there is a cause.
use Rattle.std.proofs.Common.{◌≡◌, sym, ◌∙◌, subst}
use Rattle.std.specs.Prelude.{Option, Some, slice_get}
use Rattle.std.proofs.lemmas.List.Elements.{All-take}
use Rattle.std.proofs.lemmas.Option.{same_Some}
use Rattle.civl_meaning.specs.declared.config.Move.{Move}
use Rattle.civl_meaning.specs.declared.config.Plain.{Plain}
use Rattle.civl_meaning.specs.declared.config.Config.{Config}
use Rattle.civl_meaning.specs.declared.config.Stepped.{Stepped}
use Rattle.civl_meaning.specs.Step.{step_of}
use Rattle.civl_meaning.specs.Failing.{IsMove}
use Rattle.civl_soundness.specs.Stepped.{Cause}
use Rattle.civl_soundness.proofs.Soundness.{reached_is_of}
use Rattle.civl_soundness.proofs.Progress.{answers_have_causes}
use Rattle.civl_script.specs.replays.Trace.{EndsBy}
use Rattle.civl_script.specs.replays.Sound.{ReplaysStayInTheirProgram, StopsHaveCauses}
use Rattle.civl_script.proofs.Fitting.{entries_fit, moves_are}

pub replays_stay : ReplaysStayInTheirProgram
replays_stay plain entries tolds store moves number to ok fits runs =
    reached_is_of plain store _ to ok (entries_fit plain.program.globals entries store.values fits.0) (All-take IsMove number moves (moves_are tolds moves fits.1)) runs

-- what a run ends by, where a move is left
ends_at : (plain : Plain) (end : Config) (next : Option Move) (stopped : Option Stepped) (move : Move) → next ≡ Some move → EndsBy plain end next stopped → stopped ≡ Some (step_of plain end move).0
ends_at plain end next stopped move is ends = (subst (λ (o : Option Move). EndsBy plain end o stopped) is ends).0

pub stops_have_causes : StopsHaveCauses
stops_have_causes plain entries tolds store moves trace is move why ok fits next stopped =
    let there = replays_stay plain entries tolds store moves trace.moved is.last ok fits is.made in
    let same = same_Some _ why (sym (ends_at plain is.last (slice_get moves trace.moved) trace.stopped move next is.ends) ∙ stopped) in
    subst (Cause plain is.last move) same (answers_have_causes plain is.last move ok there)
