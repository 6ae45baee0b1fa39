-- E24, StoreSize: the globals have more bits together than a store may have. The fault is that of the first global
-- that, with those before it, has more.
use Rattle.std.specs.Prelude.{ℕ, ◌+◌, ◌*◌, ◌^◌, Bool, map, sum, take}
use Rattle.civl_tree.specs.declared.expr.Sort.{Sort}
use Rattle.civl_tree.specs.declared.expr.Sort.TheVariants.{Bool as Truth, Word, Row}
use Rattle.civl_tree.specs.declared.program.Global.{Global}
use Rattle.civl_tree.specs.declared.program.Program.{Program}
use Rattle.civl_tree.specs.rules.Count.{first_over}

-- the bits of a store
abbrev pub store_limit : ℕ
store_limit = 4096

-- the bits of a value of this sort
abbrev pub bits_of : Sort → ℕ
bits_of Truth = 1
bits_of (Word width) = width
bits_of (Row index width) = width * 2 ^ index

-- the bits of the globals before this place
abbrev pub bits_before : Program → ℕ → ℕ
bits_before program place = sum (map (λ global. bits_of global.sort) (take place program.globals))

abbrev pub global_store_size : Program → ℕ → Global → Bool
global_store_size program place global = first_over store_limit (bits_before program place) (bits_before program place + bits_of global.sort)
