use Rattle.civl_firing.proofs.Numbers.{number_of, number_of-lt, store_at-number_of}
use Rattle.civl_firing.proofs.table.each_store_is_numbered.Goals as goal

pub returns : goal.returns
returns c = λ store. (number_of store, number_of-lt store, store_at-number_of store)
