-- Where an outline fits and all its goals hold, the topmost program doesn't fail, and where all conditions hold too, the lowest doesn't.
use Rattle.civl_reduction.proofs.permissions.Reaching.{are_writable, meant_begins}
use Rattle.civl_reduction.specs.checked.Checked.{SpawnsAreInRoots, ActionsKeepPermissions}
use Rattle.civl_reduction.specs.simulation.Preserved.{AcceptedProgramsPreserve}
use Rattle.civl_safety.specs.Stands.{OutlineStays}
use Rattle.civl_safety.specs.Safe.{TopIsSafe, LowestIsSafe}
use Rattle.civl_safety.proofs.Keeping.{all_keep}
use Rattle.civl_safety.proofs.Running.{what_stands, cannot_fail}

pub outline_stays : SpawnsAreInRoots → OutlineStays
outline_stays roots program outline store moves config h fits runs =
    what_stands program outline h.layered h.linear h.yields (are_writable program h.written) (roots program h.yields)
    (λ action meant. let m = meant_begins program h.layered program.layers action meant in all_keep program h.written h.layered outline h.outlined h.permissions m.0 action m.1 m.2) h.outlined store h.initial moves config fits runs

pub top_is_safe : SpawnsAreInRoots → TopIsSafe
top_is_safe roots program outline store h =
    cannot_fail program outline h.layered h.linear h.yields (are_writable program h.written) (roots program h.yields)
    (λ action meant. let m = meant_begins program h.layered program.layers action meant in all_keep program h.written h.layered outline h.outlined h.permissions m.0 action m.1 m.2) h.outlined store h.initial

pub lowest_is_safe : TopIsSafe → ActionsKeepPermissions → AcceptedProgramsPreserve → LowestIsSafe
lowest_is_safe top keep preserve program outline store a o initial fails =
    top program outline store
    (record { written = a.written; layered = a.layered; linear = a.linear; yields = a.yields; permissions = λ number action at low. keep program number action a.layered a.hold at low; outlined = o; initial = initial })
    ((preserve program a (store, initial)).preserved store initial fails)
