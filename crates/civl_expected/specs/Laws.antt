-- What the definitions say together.
use Rattle.std.specs.Prelude.{◌≡◌, ◌↔◌, Bool, IsTrue, List, ◌∷◌, ◌++◌, length, filter, Contains}
use Rattle.civl_tree.specs.Token.{Token}
use Rattle.civl_phrases.specs.Exact.{IsNotHere}
use Rattle.civl_expected.specs.declared.kind.TextKind.{TextKind}
use Rattle.civl_expected.specs.Expected.{MayStand, MayEnd, MayStandIn, AreThose}

-- What is chosen is determined.
abbrev pub OneList : Type 0
OneList = (text : TextKind) (front all one other : List Token)
    → AreThose (MayStandIn text front) all one → AreThose (MayStandIn text front) all other → one ≡ other

-- A token is chosen exactly where it is one of all and may stand there.
abbrev pub ExactlyThose : Type 0
ExactlyThose = (text : TextKind) (front all chosen : List Token) → AreThose (MayStandIn text front) all chosen
    → (token : Token) → Contains chosen token ↔ (Contains all token × MayStandIn text front token)

-- Where a test says of which tokens it holds, those that pass it are chosen.
abbrev pub ThoseThatPass : Type 0
ThoseThatPass = (test : Token → Bool) (all chosen : List Token)
    → AreThose (λ token. IsTrue (test token)) all chosen → chosen ≡ filter test all

-- Where reading goes wrong at a token, this token isn't one that may stand there; and where it goes wrong at the end, the
-- text may not end there.
pub record FaultIsUnexpected (A : Type 0) : Type 0 where
  pub token : (s : A → List Token) (f : A → Bool) (front rest : List Token) (token : Token)
      → IsNotHere 64 s (λ a. IsTrue (f a)) (front ++ token ∷ rest) (length front) → MayStand s (λ a. IsTrue (f a)) front token → ⊥
  pub end : (s : A → List Token) (f : A → Bool) (tokens : List Token)
      → IsNotHere 64 s (λ a. IsTrue (f a)) tokens (length tokens) → MayEnd s (λ a. IsTrue (f a)) tokens → ⊥
