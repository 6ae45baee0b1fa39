-- Places among the tokens.
use Rattle.std.proofs.Common.{◌≡◌, ℕ, ◌+◌, ◌-◌, ◌≤◌, List, ◌∷◌, length, take, drop, Ok, Err, sym, ap, ◌∙◌, arith, inl, inr, ◌⊎◌}
use Rattle.std.proofs.lemmas.List.{length-append, length-drop, take_all, drop-map}
use Rattle.civl_tree.specs.Token.{Token}
use Rattle.civl_phrases.specs.declared.halt.Stop.TheVariants.{NotHere, Deep}
use Rattle.civl_phrases.specs.Reader.{Answer, Reader}
use Rattle.civl_phrases.specs.Phrase.{Says, IsReader}
use Rattle.civl_lex.specs.declared.token.Token.{Token as Placed}
use Rattle.civl_lex.specs.Spelled.{spelled, spelled_token}

-- ---- what is left, as a place among all the tokens

pub here_is : (ts : List Placed) (at : ℕ) → spelled (take (length ts - at) (drop at ts)) ≡ drop at (spelled ts)
here_is ts at = ap spelled (take_all (length ts - at) (drop at ts) (omega (arith, length-drop at ts))) ∙ sym (drop-map spelled_token at ts)

pub fault_left : {A : Type 0} {d e : ℕ} {z : List Token → Type 0} {s : A → List Token} {f : A → Type 0} {r : Reader A} → IsReader d e z s f r
    → (ts : List Token) (n : ℕ) → (r ts ≡ Err (NotHere n)) ⊎ (r ts ≡ Err (Deep n)) → n ≤ length ts
fault_left {A} {d} {e} {z} {s} {f} {r} p ts n h = go (r ts) h (p.says ts)
  where
    go : (o : Answer A) → (o ≡ Err (NotHere n)) ⊎ (o ≡ Err (Deep n)) → Says d e z s f r ts o → n ≤ length ts
    go (Ok v) (inl k) h = absurd cc
    go (Ok v) (inr k) h = absurd cc
    go (Err (NotHere m)) (inl k) h = let same : m ≡ n = cc in let long : length ts ≡ length h.before + length h.rest = ap length h.parts ∙ length-append h.before h.rest in omega (arith, long, h.left, same)
    go (Err (NotHere m)) (inr k) h = absurd cc
    go (Err (Deep m)) (inl k) h = absurd cc
    go (Err (Deep m)) (inr k) h = let same : m ≡ n = cc in let long : length ts ≡ length h.before + length (h.token ∷ h.rest) = ap length h.parts ∙ length-append h.before (h.token ∷ h.rest) in omega (arith, long, h.left, same)
