-- For private functions alone: shifts in either direction.
use Rattle.std.specs.Prelude.{ℕ, ◌-◌, List, ◌++◌, length, take, drop, replicate}
use Rattle.civl_bits.specs.Word.{left_shift_at, right_shift_at}
use Rattle.civl_cnf.specs.Literal.{Literal}
use Rattle.civl_circuits.specs.declared.shifting.Direction.{Direction}
use Rattle.civl_circuits.specs.declared.shifting.Direction.TheVariants as direction

-- a value of w bits moved by so many places
abbrev pub shifted : Direction → ℕ → ℕ → ℕ → ℕ
shifted direction.Up w a places = left_shift_at w a places
shifted direction.Down w a places = right_shift_at w a places

-- the literals of a word moved by at most its width
abbrev pub shifted_word : Direction → Literal → List Literal → ℕ → List Literal
shifted_word direction.Up zero word places = replicate places zero ++ take (length word - places) word
shifted_word direction.Down zero word places = drop places word ++ replicate places zero
