-- Ranks: those of rank loops are words.
use Rattle.std.proofs.Common.{◌≡◌, ℕ, zero, suc, ◌+◌, ◌<◌, true, false, List, [], ◌∷◌, ◌++◌, length, take, Option, None, Some, refl, sym, ap, ◌∙◌, subst, arith}
use Rattle.std.specs.Prelude.{slice_get}
use Rattle.std.proofs.lemmas.Bool.{false≢true, or_parts, not-false}
use Rattle.std.proofs.lemmas.Option.{none-some, same_Some}
use Rattle.civl_bits.specs.declared.value.Value.{Value}
use Rattle.civl_tree.specs.declared.expr.Expr.{Expr}
use Rattle.civl_tree.specs.declared.expr.Sort.{Sort}
use Rattle.civl_tree.specs.declared.program.Refines.{Refines}
use Rattle.civl_tree.specs.declared.program.Proc.{Proc}
use Rattle.civl_tree.specs.declared.program.Program.{Program}
use Rattle.civl_tree.specs.declared.stmt.Stmt.{Stmt, out-Stmt}
use Rattle.civl_tree.specs.declared.stmt.Stmt.TheOpen as stmt
use Rattle.civl_tree.specs.Numbering.{statements_of, statement_at}
use Rattle.civl_tree.specs.rules.Scopes.{note_scope}
use Rattle.civl_tree.specs.rules.Sorts.{sort_of}
use Rattle.civl_tree.specs.rules.Uses.{AnyWord, serves, form_uses}
use Rattle.civl_tree.specs.rules.Sorted.{any_missorted}
use Rattle.civl_tree.specs.rules.Width.{any_width}
use Rattle.civl_tree.specs.rules.Index.{any_index}
use Rattle.civl_firing.specs.values.Values.{HaveSorts}
use Rattle.civl_firing.specs.declared.store.Store.{Store}
use Rattle.civl_firing.specs.Eval.{value_of}
use Rattle.civl_firing.specs.Stores.{IsStore}
use Rattle.civl_firing.proofs.Soundness.{values_have_their_sorts}
use Rattle.civl_meaning.specs.Config.{frame_sorts}
use Rattle.civl_layers.specs.declared.cut.Cut.{Cut}
use Rattle.civl_layers.specs.declared.cut.CutKind.{CutKind}
use Rattle.civl_layers.specs.declared.cut.CutKind.TheVariants as kind
use Rattle.civl_layers.specs.Cuts.{form_cut, cut_kind, cut_at, cuts_among, cuts_below, proc_cuts}
use Rattle.civl_layers.specs.Layered.{IsLayered}
use Rattle.civl_conditions.specs.paths.NoteValues.{plain_note_values}
use Rattle.civl_conditions.specs.paths.Ends.{is_rank_loop, cut_number}
use Rattle.civl_conditions.specs.Assumed.{layer_rank}
use Rattle.civl_reduction.proofs.open_blocks.Open.Introducing.{note_sorted, sorted_there, narrow_there, low_there}
use Rattle.civl_reduction.specs.open_blocks.Rounds.{form_ranked}
use Rattle.civl_reduction.specs.staged.Measures.{number_of, word_base}
use Rattle.civl_reduction.proofs.staged.Measures.Numbers.{word_small}

-- ---- rank loops among cuts

-- where this cut stands among these statements
record Indexed (at : ℕ) (ss : List Stmt) (i : ℕ) (cut : Cut) : Type 0 where
  place : ℕ
  stmt : Stmt
  there : slice_get ss place ≡ Some stmt
  numbered : cut.statement ≡ at + place
  of_kind : cut_kind stmt ≡ Some cut.kind
  index : i ≡ length (cuts_among at (take place ss))

indexed : (at : ℕ) (ss : List Stmt) (i : ℕ) (cut : Cut) → slice_get (cuts_among at ss) i ≡ Some cut → Indexed at ss i cut
unfolding cuts_among
indexed at [] i cut e = absurd (none-some cut e)
indexed at (s ∷ ss) i cut e = by_kind (cut_kind s) refl i (λ j f. indexed (at + 1) ss j cut f) e
  where
    by_kind : (o : Option CutKind) → cut_kind s ≡ o → (i : ℕ) → ((j : ℕ) → slice_get (cuts_among (at + 1) ss) j ≡ Some cut → Indexed (at + 1) ss j cut) → slice_get (cut_at at o ++ cuts_among (at + 1) ss) i ≡ Some cut → Indexed at (s ∷ ss) i cut
    by_kind None k i later e =
        let h = later i e in record {
          place = suc h.place;
          stmt = h.stmt;
          there = h.there;
          numbered = omega (arith, h.numbered);
          of_kind = h.of_kind;
          index = h.index ∙ sym (ap (λ (o : Option CutKind). length (cut_at at o ++ cuts_among (at + 1) (take h.place ss))) k);
        }
    by_kind (Some kind) k (suc i) later e =
        let h = later i e in record {
          place = suc h.place;
          stmt = h.stmt;
          there = h.there;
          numbered = omega (arith, h.numbered);
          of_kind = h.of_kind;
          index = ap suc h.index ∙ sym (ap (λ (o : Option CutKind). length (cut_at at o ++ cuts_among (at + 1) (take h.place ss))) k);
        }
    by_kind (Some kind) k zero later e =
        let same : record { statement = at; kind = kind } ≡ cut = cc in record {
          place = 0;
          stmt = s;
          there = refl;
          numbered = sym (ap (λ (cut : Cut). cut.statement) same) ∙ omega arith;
          of_kind = k ∙ ap (λ (cut : Cut). Some cut.kind) same;
          index = refl;
        }

kind_ranked : (d : stmt.Stmt-F Stmt) (k : CutKind) → form_cut d ≡ Some k → is_rank_loop k ≡ true → form_ranked d ≡ true
kind_ranked (stmt.RankLoop e r i a) k c h = refl
kind_ranked (stmt.YieldLoop e i a) k c h = absurd (false≢true (ap is_rank_loop (same_Some kind.YieldLoop k c) ∙ h))
kind_ranked (stmt.Yield i) k c h = absurd (false≢true (ap is_rank_loop (same_Some kind.Yield k c) ∙ h))
kind_ranked _ k c h = absurd (none-some k c)

-- a cut that is a rank loop: its statement is one, and its number is told by the statement's
pub record IsRanked (proc : Proc) (i : ℕ) (cut : Cut) : Type 0 where
  pub stmt : Stmt
  pub there : statement_at proc.body cut.statement ≡ Some stmt
  pub loops : form_ranked (out-Stmt stmt) ≡ true
  pub index : i ≡ cut_number proc cut.statement

entry_not_ranked : (cut : Cut) → record { statement = cut.statement; kind = kind.Entry } ≡ cut → is_rank_loop cut.kind ≡ true → ⊥
entry_not_ranked cut e h = false≢true (ap (λ (c : Cut). is_rank_loop c.kind) e ∙ h)

pub ranked_is : (proc : Proc) (i : ℕ) (cut : Cut) (refines : Refines) → proc.refines ≡ Some refines → slice_get (proc_cuts proc) i ≡ Some cut → is_rank_loop cut.kind ≡ true → IsRanked proc i cut
ranked_is proc i cut refines is e h = by_index i (sym (ap (λ (o : Option Refines). slice_get (cuts_below o proc.body) i) is) ∙ e)
  where
    by_index : (i : ℕ) → slice_get (cuts_below (Some refines) proc.body) i ≡ Some cut → IsRanked proc i cut
    by_index zero e =
        let same = same_Some _ cut e in
        absurd (false≢true (ap (λ (c : Cut). is_rank_loop c.kind) same ∙ h))
    by_index (suc i) e =
        let x = indexed 0 (statements_of proc.body) i cut e in
        let at : cut.statement ≡ x.place = omega (arith, x.numbered) in
        record {
          stmt = x.stmt;
          there = ap (statement_at proc.body) at ∙ x.there;
          loops = kind_ranked (out-Stmt x.stmt) cut.kind x.of_kind h;
          index = ap suc (x.index ∙ ap (λ (n : ℕ). length (cuts_among 0 (take n (statements_of proc.body)))) (sym at)) ∙ omega arith;
        }

-- ---- ranks

served_word : (o : Option Sort) → serves o AnyWord ≡ true → (s : Sort) × (o ≡ Some s)
served_word None e = absurd (false≢true e)
served_word (Some s) e = (s, refl)

module _ (program : Program) (step q : ℕ) (proc : Proc) (layered : IsLayered program) (there : slice_get program.procs q ≡ Some proc) (store : Store) (locals : List Value) (hs : IsStore program.globals store) (h : HaveSorts locals (frame_sorts proc)) where
  abbrev rank_value : Expr → Value
  rank_value r = value_of (plain_note_values program.globals proc store locals) r

  form_small : (d : stmt.Stmt-F Stmt) → any_missorted (form_uses program proc d) ≡ false → any_width (form_uses program proc d) ≡ false → any_index (form_uses program proc d) ≡ false → (r : Expr) → layer_rank d ≡ Some r → number_of (rank_value r) < word_base
  form_small (stmt.RankLoop e v i a) m w x r f =
      let same : v ≡ r = same_Some v r f in
      let sorted = served_word (sort_of (note_scope program proc) v) (not-false _ (or_parts _ _ (or_parts _ _ m).1).0) in
      let narrow = not-false _ (or_parts _ _ (or_parts _ _ w).1).0 in
      let low = not-false _ (or_parts _ _ (or_parts _ _ x).1).0 in
      let fits = values_have_their_sorts (plain_note_values program.globals proc store locals) (note_scope program proc) (note_sorted program step q proc layered there store locals hs h) v sorted.0 (sorted.1, narrow, low) in
      subst (λ (r : Expr). number_of (rank_value r) < word_base) same (word_small (rank_value v) sorted.0 fits)
  form_small _ m w x r f = absurd (none-some r f)

  -- the rank of a rank loop at this state is a small number
  pub rank_small : (n : ℕ) (s : Stmt) → statement_at proc.body n ≡ Some s → (r : Expr) → layer_rank (out-Stmt s) ≡ Some r → number_of (rank_value r) < word_base
  rank_small n s at r f = form_small (out-Stmt s) (sorted_there program step q proc layered there n s at) (narrow_there program step q proc layered there n s at) (low_there program step q proc layered there n s at) r f
