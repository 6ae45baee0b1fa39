use Rattle.std.proofs.Common.{[], Ok, Err, sym, length, inl, inr}
use Rattle.std.proofs.lemmas.List.{length-map}
use Rattle.civl_lex.specs.Spelled.{spelled, spelled_token}
use Rattle.civl_phrases.specs.declared.halt.Stop.TheVariants.{NotHere, Deep}
use Rattle.civl_phrases.proofs.Exactly.{right_of, only_of}
use Rattle.civl_phrases.proofs.Places.{fault_left}
use Rattle.civl_outlines.proofs.OfOutlines.{outline_text_is}
use Rattle.civl_outlines.proofs.reading.parse_outline.Goals as goal

pub overflow_sub-result : goal.overflow_sub-result
overflow_sub-result c = rw (length-map c.args.tokens.now spelled_token) at (fault_left (outline_text_is 64) (spelled c.args.tokens.now) c.in-Err-Stop-NotHere.left (inl (rw (c.in-Err-Stop-NotHere.field-0-is, c.in-Err-Stop-NotHere.field-0-0-is) at c.in-Err-Stop-NotHere.ensures)))

pub overflow_sub-result-in-Err-Stop-Deep : goal.overflow_sub-result-in-Err-Stop-Deep
overflow_sub-result-in-Err-Stop-Deep c = rw (length-map c.args.tokens.now spelled_token) at (fault_left (outline_text_is 64) (spelled c.args.tokens.now) c.in-Err-Stop-Deep.left (inr (rw (c.in-Err-Stop-Deep.field-0-is, c.in-Err-Stop-Deep.field-0-0-is) at c.in-Err-Stop-Deep.ensures)))

pub returns-in-Ok-clause-right : goal.returns-in-Ok-clause-right
returns-in-Ok-clause-right c = right_of (outline_text_is 64) (spelled c.args.tokens.now) (length c.args.tokens.now) (Ok (c.in-Ok.outline, [])) (sym (length-map c.args.tokens.now spelled_token)) c.in-Ok.ensures

pub returns-in-Ok-clause-only : goal.returns-in-Ok-clause-only
returns-in-Ok-clause-only c = only_of (outline_text_is 64) (spelled c.args.tokens.now) (length c.args.tokens.now) (Ok (c.in-Ok.outline, [])) (sym (length-map c.args.tokens.now spelled_token)) c.in-Ok.ensures

pub returns-in-Err-Stop-NotHere-clause-right : goal.returns-in-Err-Stop-NotHere-clause-right
returns-in-Err-Stop-NotHere-clause-right c = right_of (outline_text_is 64) (spelled c.args.tokens.now) (length c.args.tokens.now) (Err (NotHere c.in-Err-Stop-NotHere.left)) (sym (length-map c.args.tokens.now spelled_token)) (rw (c.in-Err-Stop-NotHere.field-0-is, c.in-Err-Stop-NotHere.field-0-0-is) at c.in-Err-Stop-NotHere.ensures)

pub returns-in-Err-Stop-NotHere-clause-only : goal.returns-in-Err-Stop-NotHere-clause-only
returns-in-Err-Stop-NotHere-clause-only c = only_of (outline_text_is 64) (spelled c.args.tokens.now) (length c.args.tokens.now) (Err (NotHere c.in-Err-Stop-NotHere.left)) (sym (length-map c.args.tokens.now spelled_token)) (rw (c.in-Err-Stop-NotHere.field-0-is, c.in-Err-Stop-NotHere.field-0-0-is) at c.in-Err-Stop-NotHere.ensures)

pub returns-in-Err-Stop-Deep-clause-right : goal.returns-in-Err-Stop-Deep-clause-right
returns-in-Err-Stop-Deep-clause-right c = right_of (outline_text_is 64) (spelled c.args.tokens.now) (length c.args.tokens.now) (Err (Deep c.in-Err-Stop-Deep.left)) (sym (length-map c.args.tokens.now spelled_token)) (rw (c.in-Err-Stop-Deep.field-0-is, c.in-Err-Stop-Deep.field-0-0-is) at c.in-Err-Stop-Deep.ensures)

pub returns-in-Err-Stop-Deep-clause-only : goal.returns-in-Err-Stop-Deep-clause-only
returns-in-Err-Stop-Deep-clause-only c = only_of (outline_text_is 64) (spelled c.args.tokens.now) (length c.args.tokens.now) (Err (Deep c.in-Err-Stop-Deep.left)) (sym (length-map c.args.tokens.now spelled_token)) (rw (c.in-Err-Stop-Deep.field-0-is, c.in-Err-Stop-Deep.field-0-0-is) at c.in-Err-Stop-Deep.ensures)
