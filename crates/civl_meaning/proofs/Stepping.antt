-- What a step leaves as it is.
use Rattle.std.proofs.Common.{ℕ, ◌≡◌, ◌<◌, List, [], ◌∷◌, ◌++◌, length, Option, Some, None, refl, ◌∙◌, arith, zero, suc}
use Rattle.std.specs.Prelude.{slice_get, slice_set, ◌≢◌}
use Rattle.std.proofs.lemmas.List.{length-set}
use Rattle.civl_tree.proofs.Lists.{get_other}
use Rattle.civl_meaning.specs.declared.config.Plain.{Plain}
use Rattle.civl_meaning.specs.declared.config.Running.{Running}
use Rattle.civl_meaning.specs.declared.config.Config.{Config}
use Rattle.civl_meaning.specs.declared.config.Move.{Move}
use Rattle.civl_meaning.specs.declared.config.Stepped.TheVariants as answer
use Rattle.civl_meaning.specs.declared.config.Change.{Change}
use Rattle.civl_meaning.specs.declared.config.Change.TheVariants.{Stays, Goes, Acts, Enters, Leaves, Spawns}
use Rattle.civl_meaning.specs.Change.{change_of}
use Rattle.civl_meaning.specs.Step.{thread_after, step_with, step_in, RefusedStays, OthersStay}

refused_with : (c : Config) (u : ℕ) (q : Running) (g : Change) → ((step_with c u q g).0 ≡ answer.Moved → ⊥) → (step_with c u q g).1 ≡ c
refused_with c u q (Stays a) n = refl
refused_with c u q (Goes ls k) n = absurd (n refl)
refused_with c u q (Acts s ls k) n = absurd (n refl)
refused_with c u q (Enters f k) n = absurd (n refl)
refused_with c u q (Leaves f) n = absurd (n refl)
refused_with c u q (Spawns r k) n = absurd (n refl)

refused_in : (plain : Plain) (c : Config) (m : Move) (o : Option Running) → ((step_in plain c m o).0 ≡ answer.Moved → ⊥) → (step_in plain c m o).1 ≡ c
refused_in plain c m None n = refl
refused_in plain c m (Some q) n = refused_with c m.thread q (change_of plain c.store m.choices q) n

pub refused_stays : RefusedStays
refused_stays plain c m n = refused_in plain c m (slice_get c.threads m.thread) n

get_first : {X : Type 0} (xs ys : List X) (j : ℕ) → j < length xs → slice_get (xs ++ ys) j ≡ slice_get xs j
get_first [] ys j h = absurd (omega arith)
get_first (x ∷ xs) ys zero h = refl
get_first (x ∷ xs) ys (suc j) h = get_first xs ys j (omega arith)

others_with : (c : Config) (u t : ℕ) (q : Running) (g : Change) → t ≢ u → t < length c.threads → slice_get (step_with c u q g).1.threads t ≡ slice_get c.threads t
others_with c u t q (Stays a) n l = refl
others_with c u t q (Goes ls k) n l = get_other c.threads u t _ n
others_with c u t q (Acts s ls k) n l = get_other c.threads u t _ n
others_with c u t q (Enters f k) n l = get_other c.threads u t _ n
others_with c u t q (Leaves f) n l = get_other c.threads u t _ n
others_with c u t q (Spawns r k) n l =
    let v = thread_after q (Spawns r k) in
    let h : t < length (slice_set c.threads u v) = omega (arith, length-set c.threads u v) in
    get_first (slice_set c.threads u v) (r ∷ []) t h ∙ get_other c.threads u t v n

others_in : (plain : Plain) (c : Config) (m : Move) (t : ℕ) (o : Option Running) → t ≢ m.thread → t < length c.threads → slice_get (step_in plain c m o).1.threads t ≡ slice_get c.threads t
others_in plain c m t None n l = refl
others_in plain c m t (Some q) n l = others_with c m.thread t q (change_of plain c.store m.choices q) n l

pub others_stay : OthersStay
others_stay plain c m t n l = others_in plain c m t (slice_get c.threads m.thread) n l
