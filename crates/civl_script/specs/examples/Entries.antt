-- Worked examples: what some entries write, and what some scripts say.
use Rattle.std.specs.Prelude.{ℕ, true, false, List, [], ◌∷◌, codes}
use Rattle.civl_bits.specs.declared.value.Value.{Value}
use Rattle.civl_bits.specs.declared.value.Value.TheVariants as value
use Rattle.civl_tree.specs.declared.expr.Sort.TheVariants as sort
use Rattle.civl_tree.specs.declared.name.Name.{Name}
use Rattle.civl_tree.specs.declared.program.Global.{Global}
use Rattle.civl_tree.specs.declared.script.Entry.{Entry}
use Rattle.civl_tree.specs.declared.script.Told.{Told}
use Rattle.civl_tree.specs.declared.script.Literal.{Literal}
use Rattle.civl_tree.specs.declared.script.Literal.TheVariants.{Flag, Number}
use Rattle.civl_meaning.specs.declared.config.Move.{Move}
use Rattle.civl_script.specs.Values.{IsValueOf}
use Rattle.civl_script.specs.Schedules.{IsSchedule}
use Rattle.civl_script.specs.declared.schedule.Schedule.TheVariants.{Fits, Wrong}

abbrev pub name_x : Name
name_x = record { bytes = codes "x" }

abbrev pub name_y : Name
name_y = record { bytes = codes "y" }

-- the literal in the text of the global x, and the cells
abbrev pub one_of : Name → Literal → Entry
one_of name literal = record { name = name; cells = literal ∷ []; row = false }

abbrev pub row_of : List Literal → Entry
row_of cells = record { name = name_x; cells = cells; row = true }

-- no value is written
abbrev pub WritesNone : Entry → Type 0
WritesNone entry = (v : Value) → IsValueOf entry v → ⊥

pub record Written : Type 0 where
  -- true
  pub flag : IsValueOf (one_of name_x (Flag true)) (value.Bool true)
  -- 255:8
  pub word : IsValueOf (one_of name_x (Number 255 8)) (value.Word (8, 255))
  -- [ 1:4, 0:4, 15:4, 2:4 ]
  pub row : IsValueOf (row_of (Number 1 4 ∷ Number 0 4 ∷ Number 15 4 ∷ Number 2 4 ∷ [])) (value.Row (record { index = 2; width = 4; cells = 1 ∷ 0 ∷ 15 ∷ 2 ∷ [] }))
  -- 256:8
  pub large : WritesNone (one_of name_x (Number 256 8))
  -- 0:33
  pub wide : WritesNone (one_of name_x (Number 0 33))
  -- 0:0
  pub narrow : WritesNone (one_of name_x (Number 0 0))
  -- [ 1:4, 2:4, 3:4 ]
  pub three : WritesNone (row_of (Number 1 4 ∷ Number 2 4 ∷ Number 3 4 ∷ []))
  -- [ 1:4, 2:8 ]
  pub mixed : WritesNone (row_of (Number 1 4 ∷ Number 2 8 ∷ []))
  -- [ true, true ]
  pub flags : WritesNone (row_of (Flag true ∷ Flag true ∷ []))

-- global x : word(8) layers 0 to 1; global y : bool layers 0 to 1;
abbrev pub x_global : Global
x_global = record { linear = false; name = name_x; sort = sort.Word 8; first = 0; last = 1 }

abbrev pub y_global : Global
y_global = record { linear = false; name = name_y; sort = sort.Bool; first = 0; last = 1 }

-- x = value : width ; and y = true ;
abbrev pub x_is : ℕ → ℕ → Entry
x_is number width = one_of name_x (Number number width)

abbrev pub y_is : Entry
y_is = one_of name_y (Flag true)

-- move thread ( number : 8 ) ;
abbrev pub told : ℕ → ℕ → Told
told thread number = record { thread = thread; choices = record { name = record { bytes = [] }; cells = Number number 8 ∷ []; row = false } ∷ [] }

abbrev pub move_of : ℕ → ℕ → Move
move_of thread number = record { thread = thread; choices = value.Word (8, number) ∷ [] }

pub record Said : Type 0 where
  -- x = 5:8; y = true; move 3 (7:8);
  pub fits : IsSchedule (x_global ∷ y_global ∷ []) (x_is 5 8 ∷ y_is ∷ []) (told 3 7 ∷ []) (Fits (record { values = value.Word (8, 5) ∷ value.Bool true ∷ [] }) (move_of 3 7 ∷ []))
  -- x = 5:4; y = true;
  pub width : IsSchedule (x_global ∷ y_global ∷ []) (x_is 5 4 ∷ y_is ∷ []) [] (Wrong 0)
  -- y = true; x = 5:8;
  pub order : IsSchedule (x_global ∷ y_global ∷ []) (y_is ∷ x_is 5 8 ∷ []) [] (Wrong 0)
  -- x = 5:8;
  pub missing : IsSchedule (x_global ∷ y_global ∷ []) (x_is 5 8 ∷ []) [] (Wrong 1)
  -- x = 5:8; x = 5:8;
  pub again : IsSchedule (x_global ∷ []) (x_is 5 8 ∷ x_is 5 8 ∷ []) [] (Wrong 1)
  -- x = 5:8; move 0 (7:8); move 0 (256:8);
  pub move : IsSchedule (x_global ∷ []) (x_is 5 8 ∷ []) (told 0 7 ∷ told 0 256 ∷ []) (Wrong 2)
