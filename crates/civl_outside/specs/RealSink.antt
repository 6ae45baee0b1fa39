-- What a clause reads of a sink over a writer of std.
use Rattle.std.specs.Prelude.{ℕ}
use Rattle.civl_outside.specs.declared.real.RealSink.{RealSink}

-- the writer
abbrev pub writer_of : {W : Type 0} → RealSink W → W
writer_of sink = sink.writer

-- how many of its writes failed
abbrev pub write_faults : {W : Type 0} → RealSink W → ℕ
write_faults sink = sink.faults

-- how many of its writes took nothing of a piece that isn't empty
abbrev pub write_stalls : {W : Type 0} → RealSink W → ℕ
write_stalls sink = sink.stalls
