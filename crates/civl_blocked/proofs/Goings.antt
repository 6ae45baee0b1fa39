-- A rest that becomes shorter.
use Rattle.std.proofs.Common.{ℕ, ◌<◌, List, length, Option, None, Some, refl, sym, subst, arith}
use Rattle.std.specs.Prelude.{All}
use Rattle.civl_meaning.specs.declared.config.Move.{Move}
use Rattle.civl_meaning.specs.Failing.{IsMove}
use Rattle.civl_shadows.specs.declared.shadow.Shadowed as kept
use Rattle.civl_reduction.specs.gathering.Gathered.{others, counted}
use Rattle.civl_reduction.specs.gathered.Laws.{by_thread}
use Rattle.civl_blocked.specs.declared.ground.Ground.{Ground}
use Rattle.civl_blocked.specs.inner.Segments.{over, IsShortened}
use Rattle.civl_blocked.specs.inner.Turning.{Standing, Going, Bounded, Room, OnlyMay, measure_of}

pub shorter_goes : (g : Ground) (done : List Move) (o : Option ℕ) (beside : kept.Shadowed) (u : ℕ) (moves shorter : List Move)
    → Standing g done o beside → All IsMove moves → IsShortened (over g) u moves beside.config shorter → Going g done o beside shorter
shorter_goes g done o beside u moves shorter s v f = record { standing = s; rest_moves = f.are_moves v; fails = f.fails }

pub shorter_bounded : (g : Ground) (done : List Move) (o : Option ℕ) (beside : kept.Shadowed) (u : ℕ) (moves shorter : List Move)
    → OnlyMay o u → IsShortened (over g) u moves beside.config shorter
    → (bound before : ℕ) → Room g bound before done o (length moves) (length (others by_thread u moves)) → Bounded g bound done o beside shorter × (measure_of g o shorter beside.config < before)
shorter_bounded g done None beside u moves shorter may f bound before room =
    let r = room.none refl in let a = r.0 in let b = r.1 in let n = f.fewer in (omega (arith, a, n), omega (arith, b, n))
shorter_bounded g done (Some v) beside u moves shorter may f bound before room =
    let r = room.some v refl in let a = r.0 in let b = r.1 in
    let n : counted (over g) v shorter beside.config < length (others by_thread u moves) = subst (λ w. counted (over g) w shorter beside.config < length (others by_thread u moves)) (sym (may v refl)) f.fewer_others in
    (omega (arith, a, n), omega (arith, b, n))
