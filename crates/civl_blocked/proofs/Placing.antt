-- Where the code's places are inside a block.
use Rattle.std.proofs.Common.{ℕ, ◌≡◌, true, sym, ap, ◌∙◌}
use Rattle.civl_meaning.specs.declared.config.Config.{Config}
use Rattle.civl_reduction.specs.interleavings.Reduction.{is_inside}
use Rattle.civl_reduction.specs.gathered.Laws.{PlacesAreInside}
use Rattle.civl_blocked.specs.declared.ground.Ground.{Ground}
use Rattle.civl_blocked.specs.declared.place.Place.{Place}
use Rattle.civl_blocked.specs.inner.Places.{place_of}
use Rattle.civl_blocked.specs.inner.Segments.{IsGround, over, place_on, program_of}

-- the thread that moved stands at this place
pub inside_is : (g : Ground) → IsGround g → PlacesAreInside → (c : Config) (m t : ℕ) (p : Place) → m ≡ t → place_of p ≡ place_on g c m → (over g).inside c t ≡ is_inside (place_of p)
inside_is g ground law c m t p w e = law (program_of g) g.layer g.store.now c t ground.checked ∙ sym (ap is_inside (e ∙ ap (place_on g c) w))

pub inside_as : (g : Ground) → IsGround g → PlacesAreInside → (c : Config) (m t : ℕ) (p : Place) → m ≡ t → place_of p ≡ place_on g c m → is_inside (place_of p) ≡ true → (over g).inside c t ≡ true
inside_as g ground law c m t p w e i = inside_is g ground law c m t p w e ∙ i
