-- What an option holds.
use Rattle.std.proofs.Common.{◌≡◌, false, Option, None, Some, is_none, refl, sym}
use Rattle.std.proofs.lemmas.Bool.{false≢true}

pub some_of : {A : Type 0} (o : Option A) → is_none o ≡ false → (x : A) × (o ≡ Some x)
some_of None e = absurd (false≢true (sym e))
some_of (Some x) e = (x, refl)
