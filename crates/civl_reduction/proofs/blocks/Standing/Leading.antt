-- The first statement of a plain program in what is still to run: past what a plain program passes over, the rest from it on.
use Rattle.std.proofs.Common.{◌≡◌, ℕ, zero, suc, Bool, true, false, [], ◌∷◌, drop, refl, sym, ◌∙◌, subst, Option, Some}
use Rattle.std.specs.Prelude.{if◌then◌else◌}
use Rattle.std.proofs.lemmas.Bool.{false≢true}
use Rattle.std.proofs.lemmas.Option.{none-some, same_Some}
use Rattle.civl_tree.specs.declared.stmt.Stmt.{Stmt, out-Stmt}
use Rattle.civl_tree.specs.declared.stmt.Stmt.TheOpen.{Stmt-F, Yield, Commit, Intro}
use Rattle.civl_tree.specs.declared.program.Program.{Program}
use Rattle.civl_meaning.specs.Places.{Spot, skip_layer, is_skipped}
use Rattle.civl_meaning.specs.Rest.{Rest, place_in, head_of}
use Rattle.civl_reduction.specs.blocks.Blocks.{layer_at_yield, at_yield}
use Rattle.civl_reduction.specs.blocks.Ahead.{ahead_in}
use Rattle.civl_reduction.proofs.blocks.Standing.Computing.{ahead_form, ahead_is}

-- what holds of a rest holds behind so many of its statements
pub dropped : (P : Rest → Type 0) → ((q : ℕ × Stmt) (k : Rest) → P (q ∷ k) → P k) → (n : ℕ) (r : Rest) → P r → P (drop n r)
dropped P tail zero r h = h
dropped P tail (suc n) [] h = h
dropped P tail (suc n) (q ∷ k) h = dropped P tail n k (tail q k h)

module _ (program : Program) (end : ℕ) where
  -- where a rest stands at no yield, what is ahead of this one is ahead of it
  abbrev pub AheadToo : Rest → Rest → Type 0
  AheadToo r k = at_yield r ≡ false → (ahead_in program r ≡ ahead_in program k) × (at_yield k ≡ false)

  -- this spot is the first of a rest, past so many statements
  pub record Leads (r : Rest) (s : Spot) : Type 0 where
    pub past : ℕ
    pub rest : Rest
    pub there : drop past r ≡ (s.number, s.stmt) ∷ rest
    pub next : s.next ≡ place_in end rest
    pub plain : is_skipped s.stmt ≡ false
    pub too : AheadToo r ((s.number, s.stmt) ∷ rest)

  -- past a commit or an intro
  past_form : (d : Stmt-F Stmt) (later : Bool) → skip_layer d ≡ true → layer_at_yield d later ≡ false → (x : Bool) → (ahead_form program d x ≡ x) × (layer_at_yield d later ≡ later)
  past_form Commit later sk y x = (refl, refl)
  past_form (Intro target value) later sk y x = (refl, refl)
  past_form (Yield inv) later sk y x = absurd (false≢true (sym y))
  past_form _ later sk y x = absurd (false≢true sk)

  past_one : (q : ℕ × Stmt) (k : Rest) → is_skipped q.1 ≡ true → AheadToo (q ∷ k) k
  past_one q k sk y =
      let f = past_form (out-Stmt q.1) (at_yield k) sk y (ahead_in program k) in
      (ahead_is program q.1 (ahead_in program k) ∙ f.0, sym f.1 ∙ y)

  pub leads : (r : Rest) (s : Spot) → head_of end r ≡ Some s → Leads r s
  leads [] s e = absurd (none-some s e)
  leads (q ∷ k) s e = go (is_skipped q.1) refl e (λ h. leads k s h)
    where
      go : (b : Bool) → is_skipped q.1 ≡ b → if◌then◌else◌ {A = Option Spot} b (head_of end k) (Some (record { number = q.0; stmt = q.1; next = place_in end k })) ≡ Some s → (head_of end k ≡ Some s → Leads k s) → Leads (q ∷ k) s
      go true sk h ih =
          let l = ih h in
          record {
            past = suc l.past;
            rest = l.rest;
            there = l.there;
            next = l.next;
            plain = l.plain;
            too = λ y. let one = past_one q k sk y in let more = l.too one.1 in (one.0 ∙ more.0, more.1);
          }
      go false sk h ih =
          let is : (record { number = q.0; stmt = q.1; next = place_in end k }) ≡ s = same_Some (record { number = q.0; stmt = q.1; next = place_in end k }) s h in
          subst (Leads (q ∷ k)) is (record { past = 0; rest = k; there = refl; next = refl; plain = sk; too = λ y. (refl, y) })
