-- What is owned where a path begins.
use Rattle.std.proofs.Common.{◌≡◌, ℕ, List, ap, ◌∙◌}
use Rattle.civl_bits.specs.declared.value.Value.{Value}
use Rattle.civl_tree.specs.declared.program.Program.{Program}
use Rattle.civl_conditions.specs.Assumed.{owned}
use Rattle.civl_traces.specs.Told.{chosen_at}
use Rattle.civl_assumed.specs.declared.begun.Begun.{Begun}
use Rattle.civl_assumed.specs.declared.begun.Place.{Place}
use Rattle.civl_assumed.specs.Beginnings.{begun_of}
use Rattle.civl_losses.specs.declared.route.Route.{Route}
use Rattle.civl_losses.specs.inner.Routes.{begun_on, IsPlace}

-- by the place of a route and its beginning
pub owned_on : (route : Route) (place : Place) (begun : Begun) (src : Program) (lists : List (List ℕ)) → IsPlace route place
    → begun_of begun (chosen_at route.beginning.now.chosen) ≡ begun_on route → route.program.now ≡ src
    → ((chosen : ℕ → List Value) → lists ≡ owned place.program.now place.proc.now place.number (begun_of begun chosen))
    → lists ≡ owned src route.proc.now route.number (begun_on route)
owned_on route place begun src lists is begins program told =
    told (chosen_at route.beginning.now.chosen)
    ∙ (λ i. owned (is.program i) (is.proc i) (is.number i) (begins i))
    ∙ ap (λ (p : Program). owned p route.proc.now route.number (begun_on route)) program
