-- What names, `done` and `old(..)` are worth at each place: a global g, a row of globals r, a parameter p, an output o,
-- a local l and a choice c.
use Rattle.std.specs.Prelude.{ℕ, true, false, List, [], ◌∷◌, codes}
use Rattle.civl_tree.specs.declared.expr.Expr.{Expr}
use Rattle.civl_tree.specs.declared.expr.Expr as expr
use Rattle.civl_tree.specs.declared.expr.Sort.{Sort}
use Rattle.civl_tree.specs.declared.expr.Sort.TheVariants as sort
use Rattle.civl_tree.specs.declared.action.Mode.TheVariants.{Val}
use Rattle.civl_tree.specs.declared.action.Action.{Action}
use Rattle.civl_tree.specs.declared.program.Global.{Global}
use Rattle.civl_tree.specs.declared.program.Proc.{Proc}
use Rattle.civl_firing.specs.declared.store.Store.{Store}
use Rattle.civl_firing.specs.declared.scope.Scope.{Scope}
use Rattle.civl_firing.specs.Scope.{global_values, gate_values, guard_values, frame_values}
use Rattle.civl_firing.specs.examples.Written.{word, bool, array, array_sort, named, name, lit, Evaluates, global, param, choice, local, action, root, proc, holding}

abbrev byte : Sort
byte = sort.Word 8

abbrev globals : List Global
globals = global (codes "g") byte 0 1 ∷ global (codes "r") (array_sort 1 4) 0 1 ∷ []

-- g is 7, the cells of r are 5 and 6
abbrev store : Store
store = holding (word 8 7 ∷ array 1 4 (5 ∷ 6 ∷ []) ∷ [])

abbrev act : Action
act = action (codes "A") (param Val (codes "p") byte ∷ []) (param Val (codes "o") byte ∷ []) (choice (codes "c") byte (lit 0 8) ∷ []) 0 1 expr.True expr.True []

abbrev work : Proc
work = proc (codes "P") (param Val (codes "p") byte ∷ []) (param Val (codes "o") byte ∷ []) root (local (codes "l") byte ∷ []) []

abbrev old : List ℕ → Expr
old bytes = expr.Old (named bytes)

abbrev pub GlobalPlaces : Type 0
GlobalPlaces = Evaluates (global_values globals store) (
    (name (codes "g"), word 8 7)
    ∷ (old (codes "g"), word 8 7)
    ∷ (old (codes "r"), array 1 4 (5 ∷ 6 ∷ []))
    ∷ (expr.Done, bool false)
    ∷ (expr.OldDone, bool false)
    ∷ []
    )

-- with 3 for p: a global's old value is its value, and an output's, which has no value, is 0
abbrev pub GatePlaces : Type 0
GatePlaces = Evaluates (gate_values globals store act (word 8 3 ∷ [])) (
    (name (codes "g"), word 8 7)
    ∷ (name (codes "p"), word 8 3)
    ∷ (old (codes "g"), word 8 7)
    ∷ (old (codes "o"), word 8 0)
    ∷ (expr.Done, bool false)
    ∷ (expr.OldDone, bool false)
    ∷ []
    )

-- and with 9 for c
abbrev pub GuardPlaces : Type 0
GuardPlaces = Evaluates (guard_values globals store act (word 8 3 ∷ []) (word 8 9 ∷ [])) (
    (name (codes "g"), word 8 7)
    ∷ (name (codes "p"), word 8 3)
    ∷ (name (codes "c"), word 8 9)
    ∷ (old (codes "g"), word 8 7)
    ∷ (old (codes "o"), word 8 0)
    ∷ (expr.Done, bool false)
    ∷ (expr.OldDone, bool false)
    ∷ []
    )

-- with 3, 4 and 5 for p, o and l: a global, which has no value here, is 0 or a row of 0 before, and an output what it is
abbrev pub FramePlaces : Type 0
FramePlaces = Evaluates (frame_values globals work (word 8 3 ∷ word 8 4 ∷ word 8 5 ∷ [])) (
    (name (codes "p"), word 8 3)
    ∷ (name (codes "o"), word 8 4)
    ∷ (name (codes "l"), word 8 5)
    ∷ (old (codes "g"), word 8 0)
    ∷ (old (codes "r"), array 1 4 (0 ∷ 0 ∷ []))
    ∷ (old (codes "o"), word 8 4)
    ∷ (expr.Done, bool false)
    ∷ (expr.OldDone, bool false)
    ∷ []
    )

-- a scope in which the old values differ from the present ones
abbrev within_a_block : Scope
within_a_block = record {
  names = named (codes "g") ∷ [];
  values = word 8 7 ∷ [];
  old = word 8 6 ∷ [];
  done = true;
  old_done = false;
}

abbrev pub OldDiffers : Type 0
OldDiffers = Evaluates within_a_block (
    (name (codes "g"), word 8 7)
    ∷ (old (codes "g"), word 8 6)
    ∷ (expr.Done, bool true)
    ∷ (expr.OldDone, bool false)
    ∷ []
    )
