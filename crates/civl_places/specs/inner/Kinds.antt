-- Where the items of each kind begin, and a walk over all of them, kind by kind.
use Rattle.std.specs.Prelude.{ℕ, ◌+◌, [], ◌∷◌, length, map}
use Rattle.civl_tree.specs.declared.program.Program.{Program}
use Rattle.civl_tree.specs.Spelling.{joined}
use Rattle.civl_tree.specs.SpellingProgram.{spell_global, spell_init, spell_invariant, spell_action, spell_proc, spell_thread}
use Rattle.civl_places.specs.declared.walk.Walk.{Walk}
use Rattle.civl_places.specs.inner.Walked.{walked, go_on, starts_each}

abbrev pub init_at : Program → ℕ
init_at program = 9 + length (joined (map spell_global program.globals))

abbrev pub invariants_at : Program → ℕ
invariants_at program = init_at program + length (spell_init program.init)

abbrev pub actions_at : Program → ℕ
actions_at program = invariants_at program + length (joined (map spell_invariant program.invariants))

abbrev pub procs_at : Program → ℕ
procs_at program = actions_at program + length (joined (map spell_action program.actions))

abbrev pub threads_at : Program → ℕ
threads_at program = procs_at program + length (joined (map spell_proc program.procs))

abbrev pub program_end : Program → ℕ
program_end program = threads_at program + length (joined (map spell_thread program.threads))

-- over the globals, `init` and the invariants
abbrev pub walked_first : Program → ℕ → Walk
walked_first program item =
    let globals = walked (starts_each 9 (map spell_global program.globals)) item in
    go_on (go_on globals (init_at program ∷ [])) (starts_each (invariants_at program) (map spell_invariant program.invariants))

-- over all
abbrev pub walked_items : Program → ℕ → Walk
walked_items program item =
    let actions = go_on (walked_first program item) (starts_each (actions_at program) (map spell_action program.actions)) in
    let procs = go_on actions (starts_each (procs_at program) (map spell_proc program.procs)) in
    go_on procs (starts_each (threads_at program) (map spell_thread program.threads))
