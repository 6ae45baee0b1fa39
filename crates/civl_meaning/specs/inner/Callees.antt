-- For private functions alone: what the code finds for a call, as a meaning.
use Rattle.civl_meaning.specs.declared.meant.Callee.{Callee}
use Rattle.civl_meaning.specs.declared.meant.Callee.TheVariants as code
use Rattle.civl_meaning.specs.Meaning.{Meaning, Does, Runs, Missing}

abbrev pub meaning : Callee → Meaning
meaning (code.Does a) = Does a.now
meaning (code.Runs number proc) = Runs number proc.now
meaning code.Missing = Missing
