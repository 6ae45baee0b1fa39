-- K4, K6 and K7: what one action does to the gate of another; K8: an action that waits at its offered choices (movers: Lipton 1975;
-- gated atomic actions: CAV 2015).
use Rattle.std.specs.Prelude.{List, ◌∷◌, ◌++◌, codes}
use Rattle.civl_tree.specs.declared.program.Program.{Program}
use Rattle.civl_firing.specs.declared.store.Store.{Store}
use Rattle.civl_clashes.specs.declared.violations.Effect.{Effect}
use Rattle.civl_lines.specs.declared.line.Line.{Line}
use Rattle.civl_action_stories.specs.Actors.{Actor, called, gate_parts, goes_wrong, guard_parts, makes}

-- x makes the gate of y false
abbrev pub spoil_story : Program → Store → Effect → Actor → Actor → List Line
spoil_story program g e x y =
    makes (codes "first ") program x g e
    ∷ goes_wrong y (codes "then the gate of " ++ (called y ++ codes " is false")) ∷ gate_parts program y e.store

-- x makes the gate of y true, which was false
abbrev pub reveal_story : Program → Store → Effect → Actor → Actor → List Line
reveal_story program g e x y =
    makes (codes "first ") program x g e
    ∷ goes_wrong y (codes "the gate of " ++ (called y ++ codes " is true only then")) ∷ gate_parts program y g

-- x waits
abbrev pub wait_story : Program → Store → Actor → List Line
wait_story program g x =
    goes_wrong x (called x ++ codes " waits: its guard is false at the offered choices") ∷ guard_parts program x g
