-- A flag: one action that sets it, its atomic specification, and a thread.
use Rattle.std.specs.Prelude.{ℕ, false, Some, List, [], ◌∷◌}
use Prim.Native.String.{String}
use Rattle.civl_tree.specs.declared.expr.Expr as expr
use Rattle.civl_tree.specs.declared.expr.Sort.TheVariants as sort
use Rattle.civl_tree.specs.declared.stmt.Stmt as stmt
use Rattle.civl_tree.specs.declared.action.Mover.TheVariants as mover
use Rattle.civl_tree.specs.declared.action.Action.{Action}
use Rattle.civl_tree.specs.declared.program.Program.{Program}
use Rattle.civl_tree.specs.Token.{Token, Number}
use Rattle.civl_tree.specs.SpellingDomain.{IsSpelledBy}
use Rattle.civl_tree.specs.examples.SpellingWords.{named, name, word, sign}

-- an action of this name that sets the flag, in this layer
abbrev pub setting : String → ℕ → Action
setting text layer = record {
  name = named text;
  params = [];
  outs = [];
  choices = [];
  first = layer;
  last = layer;
  mover = mover.Atomic;
  gate = expr.True;
  guard = expr.True;
  updates = record { target = named "f"; expr = expr.True } ∷ [];
}

abbrev pub flag : Program
flag = record {
  version = 1;
  layers = 1;
  permissions = 1;
  globals = record { linear = false; name = named "f"; sort = sort.Bool; first = 0; last = 1 } ∷ [];
  init = expr.True;
  invariants = [];
  actions = setting "Set" 0 ∷ setting "AtomSet" 1 ∷ [];
  procs = record {
    name = named "DoSet";
    params = [];
    outs = [];
    refines = Some (record { action = named "AtomSet"; with = []; layer = 1 });
    locals = [];
    body = stmt.Call (named "Set") [] [] ∷ stmt.Commit ∷ [];
  } ∷ [];
  threads = record { callee = named "DoSet"; args = [] } ∷ [];
}

abbrev pub flag_tokens : List Token
flag_tokens =
    word "civl" ∷ Number 1 ∷ sign ";" ∷ word "layers" ∷ Number 1 ∷ sign ";" ∷ word "permissions" ∷ Number 1 ∷ sign ";"
    ∷ word "global" ∷ name "f" ∷ sign ":" ∷ word "bool" ∷ word "layers" ∷ Number 0 ∷ word "to" ∷ Number 1 ∷ sign ";"
    ∷ word "init" ∷ word "true" ∷ sign ";"
    ∷ word "action" ∷ name "Set" ∷ sign "(" ∷ sign ")" ∷ sign "->" ∷ sign "(" ∷ sign ")" ∷ word "choose" ∷ sign "(" ∷ sign ")" ∷ word "layers" ∷ Number 0 ∷ word "to" ∷ Number 0 ∷ word "atomic"
    ∷ word "gate" ∷ word "true" ∷ word "guard" ∷ word "true" ∷ sign "{" ∷ name "f" ∷ sign ":=" ∷ word "true" ∷ sign ";" ∷ sign "}"
    ∷ word "action" ∷ name "AtomSet" ∷ sign "(" ∷ sign ")" ∷ sign "->" ∷ sign "(" ∷ sign ")" ∷ word "choose" ∷ sign "(" ∷ sign ")" ∷ word "layers" ∷ Number 1 ∷ word "to" ∷ Number 1 ∷ word "atomic"
    ∷ word "gate" ∷ word "true" ∷ word "guard" ∷ word "true" ∷ sign "{" ∷ name "f" ∷ sign ":=" ∷ word "true" ∷ sign ";" ∷ sign "}"
    ∷ word "proc" ∷ name "DoSet" ∷ sign "(" ∷ sign ")" ∷ sign "->" ∷ sign "(" ∷ sign ")" ∷ word "refines" ∷ name "AtomSet" ∷ word "with" ∷ sign "(" ∷ sign ")" ∷ word "layer" ∷ Number 1
    ∷ sign "{" ∷ word "call" ∷ name "Set" ∷ sign "(" ∷ sign ")" ∷ sign "->" ∷ sign "(" ∷ sign ")" ∷ sign ";" ∷ word "commit" ∷ sign ";" ∷ sign "}"
    ∷ word "thread" ∷ name "DoSet" ∷ sign "(" ∷ sign ")" ∷ sign ";" ∷ []

abbrev pub FlagIsSpelled : Type 0
FlagIsSpelled = IsSpelledBy flag_tokens flag
