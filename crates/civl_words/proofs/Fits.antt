-- The numbers of the commands that words call lie where they may.
use Rattle.std.proofs.Common.{◌≡◌, ℕ, ◌≤◌, Bool, true, false, cond, List, Option, None, Some, refl, subst, arith}
use Rattle.std.specs.Prelude.{is_some, unwrap_or, option_and_then, option_map, ⊤, codes}
use Rattle.std.specs.Str.{bytes_eq}
use Rattle.clap.specs.Walk.{Text, Row, first_of, one_of, is_empty}
use Rattle.clap.specs.Simple.{subcommand_of}
use Rattle.clap.specs.Faults.{fault_of}
use Rattle.civl_words.specs.Line.{command_line}
use Rattle.clap.specs.ValueTests.{is_unsigned_in}
use Rattle.clap.specs.declared.builder.value_parser.ValueParser.TheVariants as vp
use Rattle.clap.proofs.ValueTestLemmas.{accepts-Accepts}
use Rattle.civl_words.specs.Words.{number_between, number_of, budget_among, place_among, run_of, run_among, making_of, replaying_of, proof_of, proof_among, numbered, called, command_of, most_budget, usual_budget, HasFitNumbers, NumbersFit}
use Rattle.civl_words.specs.declared.words.Command.{Command}
use Rattle.civl_words.specs.declared.words.Command.TheVariants.{Check, Conditions, Fmt, RunLow, RunTop, Trial, Prove, ProofMake, ProofReplay}
use Rattle.civl_words.proofs.Numbers.{by}

abbrev AllFit : Option Command → Type 0
AllFit None = ⊤
AllFit (Some command) = HasFitNumbers command

either : (b : Bool) (x y : Option Command) → AllFit x → AllFit y → AllFit (cond b x y)
either true x y a c = a
either false x y a c = c

-- a number lies between two
abbrev LiesIn : ℕ → ℕ → Option ℕ → Type 0
LiesIn least most None = ⊤
LiesIn least most (Some number) = (least ≤ number) × (number ≤ most)

text_lies : (least most : ℕ) (text : Text) → LiesIn least most (number_between least most text)
text_lies least most text = go (is_unsigned_in least most text) refl
  where
    go : (b : Bool) → is_unsigned_in least most text ≡ b → LiesIn least most (by text b)
    go true e = let u = accepts-Accepts false (vp.Unsigned least most) text e in (u.2, u.3)
    go false e = tt

value_lies : (least most : ℕ) (o : Option Text) → LiesIn least most (option_and_then (number_between least most) o)
value_lies least most None = tt
value_lies least most (Some text) = text_lies least most text

check_fits : (o : Option ℕ) → LiesIn 0 most_budget o → AllFit (option_map (λ budget. Check budget) o)
check_fits None h = tt
check_fits (Some budget) h = h.1

conditions_fit : (o : Option ℕ) → LiesIn 0 most_budget o → AllFit (option_map (λ budget. Conditions budget) o)
conditions_fit None h = tt
conditions_fit (Some budget) h = h.1

prove_fits : (o : Option ℕ) → LiesIn 0 most_budget o → AllFit (option_map (λ budget. Prove budget) o)
prove_fits None h = tt
prove_fits (Some budget) h = h.1

trial_fits : (o : Option ℕ) → LiesIn 1 8 o → AllFit (option_map (λ number. Trial number) o)
trial_fits None h = tt
trial_fits (Some number) h = h

making_fits : (place : ℕ) (o : Option ℕ) → LiesIn 0 most_budget o → HasFitNumbers (ProofMake place (unwrap_or o usual_budget))
making_fits place None h = omega arith
making_fits place (Some budget) h = h.1

run_fits : (o : Option Text) → AllFit (option_and_then run_of o)
run_fits None = tt
run_fits (Some end) =
    either (bytes_eq end (codes "low")) (Some RunLow) (cond (bytes_eq end (codes "top")) (Some RunTop) None) tt
    (either (bytes_eq end (codes "top")) (Some RunTop) None tt tt)

replaying_fits : (a b : Bool) → AllFit (cond a None (cond b None (Some ProofReplay)))
replaying_fits a b = either a None (cond b None (Some ProofReplay)) tt (either b None (Some ProofReplay) tt tt)

proof_fits : (rows : List Row) (o : Option Text) → AllFit (option_and_then (proof_of rows) o)
proof_fits rows None = tt
proof_fits rows (Some act) =
    either (bytes_eq act (codes "make")) (Some (making_of rows)) (cond (bytes_eq act (codes "replay")) (replaying_of rows) None)
    (making_fits (unwrap_or (place_among rows) 0) (budget_among rows) (value_lies 0 most_budget (one_of (codes "budget") rows)))
    (either (bytes_eq act (codes "replay")) (replaying_of rows) None
    (replaying_fits (is_some (first_of (codes "at") rows)) (is_some (first_of (codes "budget") rows))) tt)

numbered_fit : (name : Text) (rows : List Row) → AllFit (numbered name rows)
numbered_fit name rows =
    let checked = option_map (λ budget. Check budget) (budget_among rows) in
    let surveyed = option_map (λ budget. Conditions budget) (budget_among rows) in
    let proved = option_map (λ budget. Prove budget) (budget_among rows) in
    let tried = option_map (λ number. Trial number) (number_of 1 8 (codes "number") rows) in
    let from_trial = cond (bytes_eq name (codes "trial")) tried None in
    let from_prove = cond (bytes_eq name (codes "prove")) proved from_trial in
    let from_conditions = cond (bytes_eq name (codes "conditions")) surveyed from_prove in
    let budget = value_lies 0 most_budget (one_of (codes "budget") rows) in
    either (bytes_eq name (codes "check")) checked from_conditions (check_fits (budget_among rows) budget)
    (either (bytes_eq name (codes "conditions")) surveyed from_prove (conditions_fit (budget_among rows) budget)
    (either (bytes_eq name (codes "prove")) proved from_trial (prove_fits (budget_among rows) budget)
    (either (bytes_eq name (codes "trial")) tried None (trial_fits (number_of 1 8 (codes "number") rows) (value_lies 1 8 (one_of (codes "number") rows))) tt)))

called_fits : (name : Text) (rows : List Row) → AllFit (called name rows)
called_fits name rows =
    either (bytes_eq name (codes "fmt")) (Some Fmt)
    (cond (bytes_eq name (codes "run")) (run_among rows) (cond (bytes_eq name (codes "proof")) (proof_among rows) (numbered name rows))) tt
    (either (bytes_eq name (codes "run")) (run_among rows) (cond (bytes_eq name (codes "proof")) (proof_among rows) (numbered name rows))
    (run_fits (first_of (codes "end") rows))
    (either (bytes_eq name (codes "proof")) (proof_among rows) (numbered name rows) (proof_fits rows (first_of (codes "act") rows)) (numbered_fit name rows)))

found_fits : (o : Option (Text × List Row)) → AllFit (option_and_then (λ p. called p.0 p.1) o)
found_fits None = tt
found_fits (Some p) = called_fits p.0 p.1

command_fits : (words : List Text) → AllFit (command_of words)
unfolding command_of
command_fits words =
    either (is_empty (fault_of command_line words)) (option_and_then (λ p. called p.0 p.1) (subcommand_of command_line words)) None
    (found_fits (subcommand_of command_line words)) tt

pub numbers_fit : NumbersFit
numbers_fit words command is = subst AllFit is (command_fits words)
