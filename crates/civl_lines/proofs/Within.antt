-- Tokens end within their text.
use Rattle.std.proofs.Common.{◌≡◌, ℕ, ◌+◌, ◌≤◌, List, length, drop, length-drop, ap, arith}
use Rattle.std.specs.Prelude.{Some, slice_get}
use Rattle.std.proofs.lemmas.List.{length-take}
use Rattle.civl_tree.proofs.Lists.{all_at}
use Rattle.civl_lex.specs.declared.token.Token.{Token}
use Rattle.civl_lex.specs.Spelled.{IsCutFrom}
use Rattle.civl_places.proofs.Offsets.{starts_within}
use Rattle.civl_lines.specs.Tokens.{AreTokens}

pub start_within : (bytes : List ℕ) (tokens : List Token) (number : ℕ) (t : Token) → AreTokens bytes tokens
    → slice_get tokens number ≡ Some t → t.start ≤ length bytes
start_within bytes tokens number t are there = omega (arith, starts_within bytes number _ (are.starts number t there))

pub end_within : (bytes : List ℕ) (tokens : List Token) (number : ℕ) (t : Token) → AreTokens bytes tokens
    → slice_get tokens number ≡ Some t → t.start + length t.text.now ≤ length bytes
end_within bytes tokens number t are there =
    let own = all_at (IsCutFrom bytes) tokens number t are.texts there in
    omega (
      arith,
      starts_within bytes number _ (are.starts number t there),
      ap length own.slice,
      length-take (length t.text.now) (drop t.start bytes),
      length-drop t.start bytes,
    )
