-- A thread has as many frames as it is deep.
use Rattle.std.proofs.Common.{◌≡◌, ◌+◌, [], ◌∷◌, map, length, refl, arith}
use Rattle.std.proofs.lemmas.List.{length-append, length-map}
use Rattle.civl_meaning.specs.declared.config.Plain.{Plain}
use Rattle.civl_meaning.specs.declared.config.State.{State}
use Rattle.civl_meaning.specs.declared.config.State.TheVariants.{Before, Inside, After}
use Rattle.civl_meaning.specs.Depth.{frames}
use Rattle.civl_meaning.specs.Frame.{frame_in, frames_above, FramesAreDepth}

above : (plain : Plain) (state : State) → length (frames_above plain state) + 1 ≡ frames state
above plain Before = refl
above plain (Inside below top) =
    omega (arith, length-append (map (frame_in plain) below) (frame_in plain top ∷ []), length-map below (frame_in plain))
above plain After = refl

pub frames_are_depth : FramesAreDepth
frames_are_depth plain thread = let h = above plain thread.state in omega arith
