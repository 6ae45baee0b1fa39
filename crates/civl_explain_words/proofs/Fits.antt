-- The numbers of the commands that words call lie where they may.
use Rattle.std.proofs.Common.{◌≡◌, ℕ, ◌≤◌, Bool, true, false, cond, List, Option, None, Some, refl, subst, arith}
use Rattle.std.specs.Prelude.{option_and_then, option_map, ⊤, codes}
use Rattle.std.specs.Str.{bytes_eq}
use Rattle.clap.specs.Walk.{Text, Row, first_of, one_of, is_empty}
use Rattle.clap.specs.Simple.{subcommand_of}
use Rattle.clap.specs.Faults.{fault_of}
use Rattle.civl_explain_words.specs.Line.{command_line}
use Rattle.clap.specs.ValueTests.{is_unsigned_in}
use Rattle.clap.specs.declared.builder.value_parser.ValueParser.TheVariants as vp
use Rattle.clap.proofs.ValueTestLemmas.{accepts-Accepts}
use Rattle.civl_explain_words.specs.Words.{number_between, number_of, budget_among, lines_among, assumed_among, run_of, run_among, numbered, called, asked, asked_of, most_budget, HasFitNumbers, NumbersFit}
use Rattle.civl_explain_words.specs.declared.words.Command.{Command}
use Rattle.civl_explain_words.specs.declared.words.Command.TheVariants.{Check, Conditions, RunLow, RunTop, Prove}
use Rattle.civl_explain_words.specs.declared.words.Request.{Request}
use Rattle.civl_explain_words.proofs.Numbers.{by}

abbrev AllFit : Option Command → Type 0
AllFit None = ⊤
AllFit (Some command) = HasFitNumbers command

either : (b : Bool) (x y : Option Command) → AllFit x → AllFit y → AllFit (cond b x y)
either true x y a c = a
either false x y a c = c

-- a number lies between two
abbrev LiesIn : ℕ → ℕ → Option ℕ → Type 0
LiesIn least most None = ⊤
LiesIn least most (Some number) = (least ≤ number) × (number ≤ most)

text_lies : (least most : ℕ) (text : Text) → LiesIn least most (number_between least most text)
text_lies least most text = go (is_unsigned_in least most text) refl
  where
    go : (b : Bool) → is_unsigned_in least most text ≡ b → LiesIn least most (by text b)
    go true e = let u = accepts-Accepts false (vp.Unsigned least most) text e in (u.2, u.3)
    go false e = tt

value_lies : (least most : ℕ) (o : Option Text) → LiesIn least most (option_and_then (number_between least most) o)
value_lies least most None = tt
value_lies least most (Some text) = text_lies least most text

check_fits : (o : Option ℕ) → LiesIn 0 most_budget o → AllFit (option_map (λ budget. Check budget) o)
check_fits None h = tt
check_fits (Some budget) h = h.1

conditions_fit : (o : Option ℕ) → LiesIn 0 most_budget o → AllFit (option_map (λ budget. Conditions budget) o)
conditions_fit None h = tt
conditions_fit (Some budget) h = h.1

prove_fits : (o : Option ℕ) → LiesIn 0 most_budget o → AllFit (option_map (λ budget. Prove budget) o)
prove_fits None h = tt
prove_fits (Some budget) h = h.1

run_fits : (o : Option Text) → AllFit (option_and_then run_of o)
run_fits None = tt
run_fits (Some end) =
    either (bytes_eq end (codes "low")) (Some RunLow) (cond (bytes_eq end (codes "top")) (Some RunTop) None) tt
    (either (bytes_eq end (codes "top")) (Some RunTop) None tt tt)

numbered_fit : (name : Text) (rows : List Row) → AllFit (numbered name rows)
numbered_fit name rows =
    let checked = option_map (λ budget. Check budget) (budget_among rows) in
    let surveyed = option_map (λ budget. Conditions budget) (budget_among rows) in
    let proved = option_map (λ budget. Prove budget) (budget_among rows) in
    let from_prove = cond (bytes_eq name (codes "prove")) proved None in
    let from_conditions = cond (bytes_eq name (codes "conditions")) surveyed from_prove in
    let budget = value_lies 0 most_budget (one_of (codes "budget") rows) in
    either (bytes_eq name (codes "check")) checked from_conditions (check_fits (budget_among rows) budget)
    (either (bytes_eq name (codes "conditions")) surveyed from_prove (conditions_fit (budget_among rows) budget)
    (either (bytes_eq name (codes "prove")) proved None (prove_fits (budget_among rows) budget) tt))

called_fits : (name : Text) (rows : List Row) → AllFit (called name rows)
called_fits name rows =
    either (bytes_eq name (codes "run")) (run_among rows) (numbered name rows) (run_fits (first_of (codes "end") rows)) (numbered_fit name rows)

abbrev RequestFits : Option Request → Type 0
RequestFits None = ⊤
RequestFits (Some asked) = HasFitNumbers asked.command

with_flags : (by_lines assumed : Bool) (o : Option Command) → AllFit o
    → RequestFits (option_map (λ command. record { command = command; by_lines = by_lines; assumed = assumed }) o)
with_flags by_lines assumed None h = tt
with_flags by_lines assumed (Some command) h = h

found_fits : (o : Option (Text × List Row)) → RequestFits (option_and_then (λ p. asked p.0 p.1) o)
found_fits None = tt
found_fits (Some p) = with_flags (lines_among p.1) (assumed_among p.1) (called p.0 p.1) (called_fits p.0 p.1)

chosen : (b : Bool) (x : Option Request) → RequestFits x → RequestFits (cond b x None)
chosen true x a = a
chosen false x a = tt

asked_fits : (words : List Text) → RequestFits (asked_of words)
unfolding asked_of
asked_fits words =
    chosen (is_empty (fault_of command_line words)) (option_and_then (λ p. asked p.0 p.1) (subcommand_of command_line words))
    (found_fits (subcommand_of command_line words))

pub numbers_fit : NumbersFit
numbers_fit words asked is = subst RequestFits is (asked_fits words)
