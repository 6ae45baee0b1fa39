-- What a clause reads of a source over a reader of std.
use Rattle.std.specs.Prelude.{ℕ}
use Rattle.civl_outside.specs.declared.real.RealSource.{RealSource}

-- the reader
abbrev pub reader_of : {R : Type 0} → RealSource R → R
reader_of source = source.reader

-- how many of its reads failed
abbrev pub read_faults : {R : Type 0} → RealSource R → ℕ
read_faults source = source.faults
