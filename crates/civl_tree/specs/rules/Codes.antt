-- The codes of the static rules, in their order: those on names, counts and sorts (E10 to E24), on layers (E30 to E35), on
-- linear names (E40 to E43), and on yields and movers (E50 to E53).
use Rattle.std.specs.Prelude.{ℕ}

pub data Code : Type 0 where
  E10 E11 E12 E20 E21 E22 E23 E24 E30 E31 E32 E33 E34 E35 E40 E41 E42 E43 E50 E51 E52 E53 : Code

-- the number of a code
abbrev pub number_of : Code → ℕ
number_of E10 = 10
number_of E11 = 11
number_of E12 = 12
number_of E20 = 20
number_of E21 = 21
number_of E22 = 22
number_of E23 = 23
number_of E24 = 24
number_of E30 = 30
number_of E31 = 31
number_of E32 = 32
number_of E33 = 33
number_of E34 = 34
number_of E35 = 35
number_of E40 = 40
number_of E41 = 41
number_of E42 = 42
number_of E43 = 43
number_of E50 = 50
number_of E51 = 51
number_of E52 = 52
number_of E53 = 53
