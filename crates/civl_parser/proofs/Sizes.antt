-- What halts behind the number of layers halts the reading of both sizes.
use Rattle.std.proofs.Common.{◌≡◌, ℕ, List, Ok, refl}
use Rattle.std.specs.Prelude.{codes}
use Rattle.civl_tree.specs.Token.{Token, Reserved}
use Rattle.civl_phrases.specs.declared.halt.Halt.{Halt}
use Rattle.civl_phrases.specs.declared.halt.Halt.TheVariants as halts
use Rattle.civl_phrases.specs.Reader.{Fails, both}
use Rattle.civl_parser.specs.readers.Programs.{number_line_at, sizes_at}

pub sizes_fail : (halt : Halt) (tokens rest : List Token) (layers : ℕ) → number_line_at (Reserved (codes "layers")) tokens ≡ Ok (layers, rest)
    → Fails halt (number_line_at (Reserved (codes "permissions")) rest) → Fails halt (sizes_at tokens)
unfolding sizes_at both
sizes_fail halts.Memory tokens rest layers e h = tt
sizes_fail (halts.Stop stop) tokens rest layers e h = rw (e, h) refl
