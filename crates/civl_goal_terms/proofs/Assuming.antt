-- What is assumed where a statement stands: of its notes, and of the permissions of its locals.
use Rattle.std.specs.Prelude.{All, map, slice_get, get_or, ◌&&◌}
use Rattle.std.proofs.Common.{◌≡◌, ◌∙◌, ℕ, ◌<◌, List, [], ◌++◌, length, sym, ap, subst, Some}
use Rattle.std.proofs.Math.Bool.{and_assoc}
use Rattle.civl_bits.specs.declared.value.Value.{Value}
use Rattle.civl_tree.specs.declared.expr.Sort.TheVariants.{Word}
use Rattle.civl_tree.specs.declared.program.Proc.{Proc}
use Rattle.civl_tree.specs.declared.program.Program.{Program}
use Rattle.civl_tree.specs.rules.Rules.{Keeps}
use Rattle.civl_tree.specs.rules.Typing.{typing_rules}
use Rattle.civl_firing.specs.declared.store.Store.{Store}
use Rattle.civl_meaning.specs.Config.{frame_sorts}
use Rattle.civl_meaning.specs.Permissions.{pairwise_disjoint}
use Rattle.civl_terms.specs.declared.node.Node.{Node}
use Rattle.civl_terms.specs.Graphs.{sort_at}
use Rattle.civl_terms.specs.Building.{Grows, Lengthens}
use Rattle.civl_actions.specs.Scopes.{AreOf}
use Rattle.civl_conditions.specs.Permissions.{in_store, of_held}
use Rattle.civl_states.specs.formula_parts.Said.{Env}
use Rattle.civl_states.proofs.formula_parts.Listing.{sorts_stay, said_stay, said_after}
use Rattle.civl_states.proofs.Variables.{there_is}
use Rattle.civl_outlines.specs.declared.outline.Outline.{Outline}
use Rattle.civl_goals.specs.Outlines.{invariant_holds, note_holds}
use Rattle.civl_goals.specs.Failed.{held_before, owned_in, assumed}
use Rattle.civl_goal_terms.specs.declared.places.At.{At}
use Rattle.civl_goal_terms.specs.declared.settings.Setting.{Setting}
use Rattle.civl_goal_terms.specs.inner.Told.{frame}
use Rattle.civl_goal_terms.specs.inner.Settings.{Here, CanStand, SaysHere}
use Rattle.civl_goal_terms.proofs.HoldingWords.{held_are_words}
use Rattle.civl_goal_terms.proofs.Parting.{held_within, held_sorted}

-- ---- while the graph grows

pub can_stay : (old new : List Node) (program : Program) (at : At) (setting : Setting) → Grows old new → CanStand old program at setting → CanStand new program at setting
can_stay old new program at setting g can = record {
  globals = sorts_stay old new _ _ g can.globals;
  locals = sorts_stay old new _ _ g can.locals;
  choices = sorts_stay old new _ _ g can.choices;
}

pub says_stays : (old new : List Node) (program : Program) (at : At) (setting : Setting) (h : Env → Here) → Grows old new → SaysHere old program at setting h → SaysHere new program at setting h
says_stays old new program at setting h g says = record {
  globals = said_stay old new _ _ _ g says.globals;
  locals = said_stay old new _ _ _ g says.locals;
  choices = said_stay old new _ _ _ g says.choices;
}

-- and longer
pub says_after : (old new : List Node) (program : Program) (at : At) (setting : Setting) (h : Env → Here) → Lengthens old new → SaysHere old program at setting h → SaysHere new program at setting h
says_after old new program at setting h g says = record {
  globals = said_after old new _ _ _ g says.globals;
  locals = said_after old new _ _ _ g says.locals;
  choices = said_after old new _ _ _ g says.choices;
}

pub can_says : (ns : List Node) (program : Program) (at : At) (setting : Setting) (h : Env → Here) → SaysHere ns program at setting h → CanStand ns program at setting
can_says ns program at setting h says = record { globals = says.globals.sorted; locals = says.locals.sorted; choices = says.choices.sorted }

-- ---- permissions

module _ (program : Program) (keeps : Keeps typing_rules program) (r : ℕ) (proc : Proc) (there : slice_get program.procs r ≡ Some proc) (s : ℕ) (held : List ℕ) (are : held ≡ held_before program proc s) where
  -- these are the numbers of locals of the permission width
  pub are_words : All (λ n. slice_get (frame_sorts proc) n ≡ Some (Word program.permissions)) held
  are_words = subst (λ (ns : List ℕ). All (λ n. slice_get (frame_sorts proc) n ≡ Some (Word program.permissions)) ns) (sym are) (held_are_words program keeps proc (r, there) s)

  pub words_within : (ns : List Node) (ids : List ℕ) → AreOf ns ids (frame_sorts proc) → All (λ n. n < length ids) held
  words_within ns ids sorted = held_within (frame_sorts proc) (Word program.permissions) ns ids held sorted are_words

  pub words_sorted : (ns : List Node) (ids : List ℕ) → AreOf ns ids (frame_sorts proc) → All (λ i. sort_at ns i ≡ Some (Word program.permissions)) (map (λ n. get_or ids n 0) held)
  words_sorted ns ids sorted = held_sorted (frame_sorts proc) (Word program.permissions) ns ids held sorted are_words

  -- what a frame there owns
  pub owned_is : (locals : List Value) → of_held held locals ≡ owned_in program (frame r s locals)
  owned_is locals =
      ap (λ (ns : List ℕ). of_held ns locals) are
      ∙ sym (there_is (slice_get program.procs r) proc [] (λ (q : Proc). of_held (held_before program q s) locals) there)

-- ---- put together

pub assumed_is : (program : Program) (outline : Outline) (g : Store) (r s : ℕ) (locals : List Value) (owned : List (List ℕ)) → owned ≡ owned_in program (frame r s locals)
    → ((invariant_holds program outline g && note_holds program outline g (frame r s locals)) && pairwise_disjoint (in_store program g ++ owned)) ≡ assumed program outline g (frame r s locals)
assumed_is program outline g r s locals owned e =
    and_assoc (invariant_holds program outline g) (note_holds program outline g (frame r s locals)) (pairwise_disjoint (in_store program g ++ owned))
    ∙ ap (λ (ps : List (List ℕ)). invariant_holds program outline g && (note_holds program outline g (frame r s locals) && pairwise_disjoint (in_store program g ++ ps))) e

-- the terms that are pushed where nothing was
pub words_pushed : (locals held lent front words : List ℕ) → lent ≡ locals → front ≡ [] → words ≡ front ++ map (λ n. get_or lent n 0) held → words ≡ map (λ n. get_or locals n 0) held
words_pushed locals held lent front words e f g =
    g ∙ (ap (λ (xs : List ℕ). xs ++ map (λ n. get_or lent n 0) held) f ∙ ap (λ (ids : List ℕ). map (λ n. get_or ids n 0) held) e)

-- and behind others
pub words_more : (first locals held lent front words : List ℕ) → lent ≡ locals → front ≡ first → words ≡ front ++ map (λ n. get_or lent n 0) held → words ≡ first ++ map (λ n. get_or locals n 0) held
words_more first locals held lent front words e f g =
    g ∙ (ap (λ (xs : List ℕ). xs ++ map (λ n. get_or lent n 0) held) f ∙ ap (λ (ids : List ℕ). first ++ map (λ n. get_or ids n 0) held) e)
