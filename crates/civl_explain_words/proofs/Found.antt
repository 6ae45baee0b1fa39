-- What `clap` finds, and the command that it is.
use Rattle.std.proofs.Common.{◌≡◌, ◌∙◌, ◌⊎◌, inl, inr, Bool, true, cond, List, [], ◌∷◌, Option, None, refl, sym, ap, ne_eqb, arith}
use Rattle.std.specs.Prelude.{option_and_then}
use Rattle.clap.specs.Walk.{Text, Row, is_empty}
use Rattle.clap.specs.Simple.{App, HasMatchesOf, is_simple, subcommand_of, subcommand_rows_of}
use Rattle.clap.specs.Faults.{fault_of, is_simple_and_free}
use Rattle.clap.specs.Kinds.{Kinds, IsAmong}
use Rattle.clap.specs.declared.error.kind.ErrorKind.{ErrorKind}
use Rattle.clap.specs.declared.error.kind.ErrorKind.TheVariants as kind
use Rattle.clap.specs.declared.parser.matches.ArgMatches.{ArgMatches}
use Rattle.clap.proofs.OnLiterals.{clap_on_literals}
use Rattle.civl_explain_words.specs.Line.{command_line}
use Rattle.civl_explain_words.specs.Words.{asked, asked_of}
use Rattle.civl_explain_words.specs.declared.words.Request.{Request}

simple : is_simple command_line ≡ true
unfolding clap_on_literals
simple = refl

free : is_simple_and_free command_line ≡ true
unfolding clap_on_literals
free = refl

-- the command of a subcommand that was found
abbrev of_pair : Option (Text × List Row) → Option Request
of_pair = option_and_then (λ p. asked p.0 p.1)

-- the command of the words, by whether there is no fault
abbrev by_fault : List Text → Bool → Option Request
by_fault words b = cond b (of_pair (subcommand_of command_line words)) None

module _ (app : App) (words : List Text) (is : app ≡ command_line) where
  -- where there is no fault
  pub found_is : (m : ArgMatches) → (is_simple_and_free app ≡ true → fault_of app words ≡ []) → HasMatchesOf app words m → of_pair (subcommand_rows_of m) ≡ asked_of words
  unfolding asked_of
  found_is m faultless has =
      let none : fault_of command_line words ≡ [] = ap (λ (a : App). fault_of a words) (sym is) ∙ faultless (ap is_simple_and_free is ∙ free) in
      let met : subcommand_rows_of m ≡ subcommand_of command_line words = (has (ap is_simple is ∙ simple)).1 ∙ ap (λ (a : App). subcommand_of a words) is in
      ap of_pair met ∙ sym (ap (by_fault words) (ap is_empty none))

  -- where there is one
  pub fault_is : (k : ErrorKind) → (is_simple_and_free app ≡ true → (k ≡ kind.OutOfMemory) ⊎ IsAmong k (fault_of app words)) → (k ≡ kind.OutOfMemory → ⊥) → None ≡ asked_of words
  unfolding asked_of
  fault_is k faulty other = by (faulty (ap is_simple_and_free is ∙ free))
    where
      go : (ks : Kinds) → fault_of command_line words ≡ ks → IsAmong k ks → None ≡ by_fault words (is_empty (fault_of command_line words))
      go [] e among = absurd among
      go (x ∷ xs) e among = sym (ap (by_fault words) (ap is_empty e ∙ ne_eqb _ _ (λ same. omega arith)))

      by : (k ≡ kind.OutOfMemory) ⊎ IsAmong k (fault_of app words) → None ≡ by_fault words (is_empty (fault_of command_line words))
      by (inl memory) = absurd (other memory)
      by (inr among) = go (fault_of app words) (ap (λ (a : App). fault_of a words) (sym is)) among
