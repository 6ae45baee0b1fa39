-- Readers of phrases, and how a reader is made of others.
--
-- A reader takes the phrase at the front of some tokens: it answers the phrase's value and the tokens behind it, or
-- why it stops, with how many tokens are left there. So readers are the deterministic parsers of G. Hutton and
-- E. Meijer, "Monadic parsing in Haskell" (1998), which choose by the next token alone. The number of brackets that
-- may still be open goes along with the brackets, so that a grammar's recursion is by this number.
use Rattle.std.specs.Prelude.{◌≡◌, ℕ, Bool, true, false, if◌then◌else◌, List, [], ◌∷◌, length, Option, Some, None, Result, Ok, Err, ◌==◌}
use Rattle.std.specs.Str.{bytes_eq}
use Rattle.civl_tree.specs.Token.{Token, Reserved, Sign}
use Rattle.civl_phrases.specs.declared.halt.Stop.{Stop}
use Rattle.civl_phrases.specs.declared.halt.Stop.TheVariants.{NotHere, Deep}
use Rattle.civl_phrases.specs.declared.halt.Halt.{Halt}
use Rattle.civl_phrases.specs.declared.halt.Halt.TheVariants as halts

-- ---- what is next

-- the next token, or none at the end
abbrev pub lookahead : List Token → Option Token
lookahead [] = None
lookahead (token ∷ tokens) = Some token

-- the same reserved word, or the same sign
abbrev pub is_same : Token → Token → Bool
is_same (Reserved a) (Reserved b) = bytes_eq a b
is_same (Sign a) (Sign b) = bytes_eq a b
is_same _ _ = false

-- this word or sign is next
abbrev pub begins : Token → Option Token → Bool
begins token None = false
begins token (Some next) = is_same token next

-- ---- readers

abbrev pub Answer : Type 0 → Type 0
Answer A = Result (A × List Token) Stop

abbrev pub Reader : Type 0 → Type 0
Reader A = List Token → Answer A

infixl 10 ◌>>=◌
-- what was answered goes on, and a stop stays
abbrev pub ◌>>=◌ : {A B : Type 0} → Result A Stop → (A → Result B Stop) → Result B Stop
(Ok x) >>= go = go x
(Err stop) >>= go = Err stop

-- What the code halts at is what the reader stops at. Of want of memory nothing is said.
abbrev pub Fails : {A : Type 0} → Halt → Result A Stop → Type 0
Fails halts.Memory answer = Unit {0}
Fails (halts.Stop stop) answer = answer ≡ Err stop

-- The code's result, seen through the view, is the reader's answer.
abbrev pub Gives : {A B : Type 0} → (A → B) → Result A Halt → Result B Stop → Type 0
Gives view (Ok x) answer = answer ≡ Ok (view x)
Gives view (Err halt) answer = Fails halt answer

-- nothing that may stand here does
abbrev pub miss : {A : Type 0} → List Token → Result A Stop
miss tokens = Err (NotHere (length tokens))

-- ---- tokens

-- the tokens behind this word or sign
unfoldable pub expect : Token → List Token → Result (List Token) Stop
expect token [] = miss []
expect token (next ∷ rest) = if is_same token next then Ok rest else miss (next ∷ rest)

-- the tokens behind this opening bracket, where so many more may be open
unfoldable pub enter : Token → ℕ → List Token → Result (List Token) Stop
enter token most tokens = expect token tokens >>= λ rest. if most == 0 then Err (Deep (length tokens)) else Ok rest

-- a word or sign, and then the phrase
unfoldable pub after : {A : Type 0} → Token → Reader A → Reader A
after token r tokens = expect token tokens >>= λ rest. r rest

-- an opening bracket, and then the phrase
unfoldable pub opened : {A : Type 0} → Token → ℕ → Reader A → Reader A
opened token most r tokens = enter token most tokens >>= λ rest. r rest

abbrev pub taken : {A : Type 0} → Option A → List Token → List Token → Answer A
taken None tokens rest = miss tokens
taken (Some a) tokens rest = Ok (a, rest)

-- a single token that has a value
unfoldable pub leaf : {A : Type 0} → (Token → Option A) → Reader A
leaf value [] = miss []
leaf value (token ∷ rest) = taken (value token) (token ∷ rest) rest

-- no token at all
unfoldable pub done : Reader (Unit {0})
done tokens = Ok (tt, tokens)

-- no token, and none behind it
unfoldable pub ended : Reader (Unit {0})
ended [] = Ok (tt, [])
ended (token ∷ tokens) = miss (token ∷ tokens)

-- ---- phrases made of phrases

-- a phrase, and then one that may hang on the first one's value
unfoldable pub both : {A B : Type 0} → Reader A → (A → Reader B) → Reader (A × B)
both r1 r2 tokens = r1 tokens >>= λ x. r2 x.0 x.1 >>= λ y. Ok ((x.0, y.0), y.1)

-- the same phrase, with a value made of its value
unfoldable pub mapped : {A B : Type 0} → (A → B) → Reader A → Reader B
mapped make r tokens = r tokens >>= λ x. Ok (make x.0, x.1)

-- a phrase, and then a word or sign
unfoldable pub then_token : {A : Type 0} → Token → Reader A → Reader A
then_token token r = mapped (λ v. v.0) (both r (λ _. after token done))

-- one phrase where the test holds of the next token, and else the other
unfoldable pub chosen : {A : Type 0} → (Option Token → Bool) → Reader A → Reader A → Reader A
chosen test r1 r2 tokens = if test (lookahead tokens) then r1 tokens else r2 tokens

abbrev pub read_as : {A K : Type 0} → (K → Reader A) → Option K → Reader A
read_as r None tokens = miss tokens
read_as r (Some form) tokens = r form tokens

-- the phrase of the form that the next token tells
unfoldable pub by_form : {A K : Type 0} → (Option Token → Option K) → (K → Reader A) → Reader A
by_form form r tokens = read_as r (form (lookahead tokens)) tokens

-- a word or sign that may stand here, and whether it does
unfoldable pub flagged : Token → Reader Bool
flagged token = chosen (begins token) (mapped (λ _. true) (after token done)) (mapped (λ _. false) done)
