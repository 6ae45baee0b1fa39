-- The values that the variables of a condition on paths have in a path's beginning give that beginning back.
use Rattle.std.proofs.Common.{◌≡◌, ℕ, ◌+◌, Bool, true, false, not, List, [], ◌∷◌, ◌++◌, map, length, take, drop, refl, sym, ap, ◌∙◌, subst}
use Rattle.std.specs.Prelude.{codes, if◌then◌else◌}
use Rattle.std.proofs.lemmas.List.{length-append, length-map, map-append, append_assoc, append-nil, drop_at, take-append-drop}
use Rattle.civl_bits.specs.declared.value.Value.{Value}
use Rattle.civl_bits.specs.declared.value.Value.TheVariants as value
use Rattle.civl_firing.specs.values.Values.{HaveSorts}
use Rattle.civl_tree.specs.declared.expr.Sort.{Sort}
use Rattle.civl_tree.specs.declared.action.Choice.{Choice}
use Rattle.civl_tree.specs.declared.program.Proc.{Proc}
use Rattle.civl_tree.specs.declared.program.Program.{Program}
use Rattle.civl_firing.specs.declared.store.Store.{Store}
use Rattle.civl_firing.specs.Stores.{IsStore}
use Rattle.civl_firing.specs.Scope.{zeros_of_params, zeros_of_locals}
use Rattle.civl_firing.proofs.Having.{have_length}
use Rattle.civl_meaning.specs.Change.{outs_in}
use Rattle.civl_layers.specs.declared.cut.Cut.{Cut}
use Rattle.civl_layers.specs.declared.cut.CutKind.{CutKind}
use Rattle.civl_layers.specs.declared.cut.CutKind.TheVariants as kind
use Rattle.civl_layers.specs.Layered.{IsLayered}
use Rattle.civl_conditions.specs.footprints.Agreement.{AgreeOn}
use Rattle.civl_conditions.specs.paths.Ends.{is_entry, is_rank_loop}
use Rattle.civl_conditions.specs.paths.Seen.{exists_near}
use Rattle.civl_conditions.specs.Variables.{near_globals, of_params, of_locals, where_has, flag, passed_choices, of_passed, path_variables}
use Rattle.civl_conditions.specs.Values.{part, flag_at, spread, store_of, count_of, where_so, choices_count, Layout, layout, Begun, begun}
use Rattle.civl_condition_laws.specs.States.{IsFresh, IsNew, BeginsAs, IsBegun}
use Rattle.civl_condition_laws.proofs.Gathering.{Fit, fit_more, fit_named, sorts_named, kept, kept_fit, kept_length, spread_agrees}
use Rattle.civl_condition_laws.proofs.Nearby.{Near}
use Rattle.civl_condition_laws.proofs.Assuming.{BegunAlike}
use Rattle.civl_condition_laws.proofs.Standing.{sorts_apart, past, stands, flag_stands, where_vals, where_length, where_fit, flag_fit, picked, AreChosen, picked_length, picked_fit, chosen_there}

by_if : {A : Type 0} (b : Bool) (x y z : A) → (b ≡ true → x ≡ z) → (b ≡ false → y ≡ z) → (if b then x else y) ≡ z
by_if true x y z f g = f refl
by_if false x y z f g = g refl

-- what the kind of a cut says of what begins there
new_at : (proc : Proc) (b : Begun) (k : CutKind) → BeginsAs proc k b → is_entry k ≡ true → IsNew proc b
new_at proc b kind.Entry h e = h.0
new_at proc b kind.Yield h e = absurd cc
new_at proc b kind.YieldLoop h e = absurd cc
new_at proc b kind.RankLoop h e = absurd cc

fresh_at : (proc : Proc) (b : Begun) (k : CutKind) → BeginsAs proc k b → is_rank_loop k ≡ false → IsFresh proc b
fresh_at proc b kind.Entry h e = h.1
fresh_at proc b kind.Yield h e = h
fresh_at proc b kind.YieldLoop h e = h
fresh_at proc b kind.RankLoop h e = absurd cc

module _ (program : Program) (layered : IsLayered program) (step : ℕ) (proc : Proc) (cut : Cut) (b : Begun) (is : IsBegun program step proc cut b) where
  abbrev entry : Bool
  entry = is_entry cut.kind

  abbrev loop : Bool
  loop = is_rank_loop cut.kind

  abbrev passed : List (ℕ × List Choice)
  passed = passed_choices program step proc cut

  -- ---- the parts, and how long they are

  abbrev count : ℕ
  count = length proc.params

  abbrev inputs : List Value
  inputs = take count b.locals

  abbrev others : List Value
  others = drop count b.locals

  abbrev near : Store → List Value
  near s = kept (exists_near step) program.globals s.values

  near_length : (s : Store) → IsStore program.globals s → length (near s) ≡ count_of (exists_near step) program
  near_length s fit = kept_length (exists_near step) program.globals s.values fit

  locals_apart : HaveSorts inputs (map (λ p. p.sort) proc.params) × HaveSorts others (map (λ p. p.sort) proc.outs ++ map (λ l. l.sort) proc.locals)
  locals_apart = sorts_apart (map (λ p. p.sort) proc.params) (map (λ p. p.sort) proc.outs ++ map (λ l. l.sort) proc.locals) b.locals count (length-map proc.params (λ p. p.sort)) is.locals

  inputs_length : length inputs ≡ count
  inputs_length = have_length inputs (map (λ p. p.sort) proc.params) locals_apart.0 ∙ length-map proc.params (λ p. p.sort)

  others_length : length others ≡ length proc.outs + length proc.locals
  others_length =
      have_length others (map (λ p. p.sort) proc.outs ++ map (λ l. l.sort) proc.locals) locals_apart.1
      ∙ (length-append (map (λ p. p.sort) proc.outs) (map (λ l. l.sort) proc.locals)
      ∙ (ap (λ (n : ℕ). n + length (map (λ l. l.sort) proc.locals)) (length-map proc.outs (λ p. p.sort)) ∙ ap (λ (n : ℕ). length proc.outs + n) (length-map proc.locals (λ l. l.sort))))

  outs_length : length b.old_outs ≡ length proc.outs
  outs_length = have_length b.old_outs (map (λ p. p.sort) proc.outs) is.old_outs ∙ length-map proc.outs (λ p. p.sort)

  -- ---- their variables

  others_fit : Fit others (of_params [] proc.outs ++ of_locals [] proc.locals)
  others_fit =
      subst (HaveSorts others)
      (sym (map-append (λ v. v.sort) (of_params [] proc.outs) (of_locals [] proc.locals)
      ∙ (ap (λ (ss : List Sort). ss ++ map (λ v. v.sort) (of_locals [] proc.locals)) (sorts_named (λ p. p.name) (λ p. p.sort) [] proc.outs)
      ∙ ap (λ (ss : List Sort). map (λ p. p.sort) proc.outs ++ ss) (sorts_named (λ l. l.name) (λ l. l.sort) [] proc.locals))))
      locals_apart.1

  are_chosen : AreChosen b.chosen passed
  are_chosen q among = is.chosen q.0 q.1 among

  -- ---- all of them, from each part on

  abbrev tail7 : List Value
  tail7 = picked b.chosen passed

  abbrev tail6 : List Value
  tail6 = where_vals loop (value.Bool b.old_done ∷ []) ++ tail7

  abbrev tail5 : List Value
  tail5 = where_vals (not entry) (value.Bool b.done ∷ []) ++ tail6

  abbrev tail4 : List Value
  tail4 = where_vals loop b.old_outs ++ tail5

  abbrev tail3 : List Value
  tail3 = where_vals (not entry) others ++ tail4

  abbrev tail2 : List Value
  tail2 = inputs ++ tail3

  abbrev tail1 : List Value
  tail1 = where_vals loop (near b.old) ++ tail2

  abbrev pub begun_values : List Value
  begun_values = near b.store ++ tail1

  pub begun_fit : Fit begun_values (path_variables program step proc cut)
  begun_fit =
      fit_more (near b.store) tail1 (near_globals [] program step) _ (kept_fit (exists_near step) [] program.globals b.store.values is.store)
      (fit_more (where_vals loop (near b.old)) tail2 (where_has loop (near_globals (codes "old.") program step)) _
      (where_fit loop (near b.old) (near_globals (codes "old.") program step) (kept_fit (exists_near step) (codes "old.") program.globals b.old.values is.old))
      (fit_more inputs tail3 (of_params [] proc.params) _ (fit_named (λ p. p.name) (λ p. p.sort) [] proc.params inputs locals_apart.0)
      (fit_more (where_vals (not entry) others) tail4 (where_has (not entry) (of_params [] proc.outs ++ of_locals [] proc.locals)) _
      (where_fit (not entry) others (of_params [] proc.outs ++ of_locals [] proc.locals) others_fit)
      (fit_more (where_vals loop b.old_outs) tail5 (where_has loop (of_params (codes "old.") proc.outs)) _
      (where_fit loop b.old_outs (of_params (codes "old.") proc.outs) (fit_named (λ p. p.name) (λ p. p.sort) (codes "old.") proc.outs b.old_outs is.old_outs))
      (fit_more (where_vals (not entry) (value.Bool b.done ∷ [])) tail6 (where_has (not entry) (flag (codes "done") ∷ [])) _
      (where_fit (not entry) (value.Bool b.done ∷ []) (flag (codes "done") ∷ []) (flag_fit b.done (codes "done")))
      (fit_more (where_vals loop (value.Bool b.old_done ∷ [])) tail7 (where_has loop (flag (codes "old.done") ∷ [])) (of_passed passed)
      (where_fit loop (value.Bool b.old_done ∷ []) (flag (codes "old.done") ∷ []) (flag_fit b.old_done (codes "old.done"))) (picked_fit b.chosen passed are_chosen)))))))

  -- ---- where they stand, with others behind them

  module _ (rest : List Value) where
    abbrev values : List Value
    values = begun_values ++ rest

    abbrev places : Layout
    places = layout program step proc cut

    at_old : drop places.old values ≡ tail1 ++ rest
    at_old = ap (drop places.old) (append_assoc (near b.store) tail1 rest) ∙ drop_at (near b.store) (tail1 ++ rest) places.old (near_length b.store is.store)

    at_params : drop places.params values ≡ tail2 ++ rest
    at_params =
        past values (where_vals loop (near b.old)) tail2 rest places.old (where_so loop (count_of (exists_near step) program)) at_old
        (where_length loop (near b.old) (count_of (exists_near step) program) (near_length b.old is.old))

    at_rest : drop places.rest values ≡ tail3 ++ rest
    at_rest = past values inputs tail3 rest places.params count at_params inputs_length

    at_outs : drop places.old_outs values ≡ tail4 ++ rest
    at_outs =
        past values (where_vals (not entry) others) tail4 rest places.rest (where_so (not entry) (length proc.outs + length proc.locals)) at_rest
        (where_length (not entry) others (length proc.outs + length proc.locals) others_length)

    at_done : drop places.done values ≡ tail5 ++ rest
    at_done = past values (where_vals loop b.old_outs) tail5 rest places.old_outs (where_so loop (length proc.outs)) at_outs (where_length loop b.old_outs (length proc.outs) outs_length)

    at_old_done : drop places.old_done values ≡ tail6 ++ rest
    at_old_done = past values (where_vals (not entry) (value.Bool b.done ∷ [])) tail6 rest places.done (where_so (not entry) 1) at_done (where_length (not entry) (value.Bool b.done ∷ []) 1 refl)

    at_calls : drop places.calls values ≡ tail7 ++ rest
    at_calls = past values (where_vals loop (value.Bool b.old_done ∷ [])) tail7 rest places.old_done (where_so loop 1) at_old_done (where_length loop (value.Bool b.old_done ∷ []) 1 refl)

    pub at_behind : drop places.behind values ≡ rest
    at_behind =
        past values tail7 [] rest places.calls (choices_count passed) (at_calls ∙ ap (λ (vs : List Value). vs ++ rest) (sym (append-nil tail7))) (picked_length b.chosen passed are_chosen)

    -- ---- what they give

    store_near : Near program layered step b.store (store_of (exists_near step) program values)
    store_near =
        subst (λ (vs : List Value). AgreeOn (exists_near step) program.globals b.store.values (spread (exists_near step) program.globals vs)) (sym (append_assoc (near b.store) tail1 rest))
        (spread_agrees (exists_near step) program.globals b.store.values (tail1 ++ rest) is.store)

    locals_given : part values places.params count ++ (if entry then zeros_of_params proc.outs ++ zeros_of_locals proc.locals else part values places.rest (length proc.outs + length proc.locals)) ≡ b.locals
    locals_given =
        ap (λ (vs : List Value). vs ++ (if entry then zeros_of_params proc.outs ++ zeros_of_locals proc.locals else part values places.rest (length proc.outs + length proc.locals)))
        (stands values inputs tail3 rest places.params count at_params inputs_length)
        ∙ (ap (λ (vs : List Value). inputs ++ vs)
        (by_if entry (zeros_of_params proc.outs ++ zeros_of_locals proc.locals) (part values places.rest (length proc.outs + length proc.locals)) others
        (λ e. sym (new_at proc b cut.kind is.begins e).rest)
        (λ e. stands values others tail4 rest places.rest (length proc.outs + length proc.locals) (at_rest ∙ ap (λ (x : Bool). (where_vals (not x) others ++ tail4) ++ rest) e) others_length))
        ∙ take-append-drop count b.locals)

    done_given : (if entry then false else flag_at values places.done) ≡ b.done
    done_given =
        by_if entry false (flag_at values places.done) b.done (λ e. sym (new_at proc b cut.kind is.begins e).done)
        (λ e. flag_stands values tail6 rest places.done b.done (at_done ∙ ap (λ (x : Bool). (where_vals (not x) (value.Bool b.done ∷ []) ++ tail6) ++ rest) e))

    old_near : Near program layered step b.old (if loop then store_of (exists_near step) program (drop places.old values) else store_of (exists_near step) program values)
    old_near = by_loop loop refl
      where
        by_loop : (x : Bool) → loop ≡ x → Near program layered step b.old (if x then store_of (exists_near step) program (drop places.old values) else store_of (exists_near step) program values)
        by_loop true e =
            subst (λ (vs : List Value). AgreeOn (exists_near step) program.globals b.old.values (spread (exists_near step) program.globals vs))
            (sym (at_old ∙ (ap (λ (x : Bool). (where_vals x (near b.old) ++ tail2) ++ rest) e ∙ append_assoc (near b.old) tail2 rest))) (spread_agrees (exists_near step) program.globals b.old.values (tail2 ++ rest) is.old)
        by_loop false e = subst (λ (s : Store). Near program layered step s (store_of (exists_near step) program values)) (sym (fresh_at proc b cut.kind is.begins e).store) store_near

    outs_given : (locals : List Value) → locals ≡ b.locals → (if loop then part values places.old_outs (length proc.outs) else outs_in proc locals) ≡ b.old_outs
    outs_given locals same =
        by_if loop (part values places.old_outs (length proc.outs)) (outs_in proc locals) b.old_outs
        (λ e. stands values b.old_outs tail5 rest places.old_outs (length proc.outs) (at_outs ∙ ap (λ (x : Bool). (where_vals x b.old_outs ++ tail5) ++ rest) e) outs_length)
        (λ e. ap (outs_in proc) same ∙ sym (fresh_at proc b cut.kind is.begins e).outs)

    old_done_given : (done : Bool) → done ≡ b.done → (if loop then flag_at values places.old_done else done) ≡ b.old_done
    old_done_given done same =
        by_if loop (flag_at values places.old_done) done b.old_done
        (λ e. flag_stands values tail7 rest places.old_done b.old_done (at_old_done ∙ ap (λ (x : Bool). (where_vals x (value.Bool b.old_done ∷ []) ++ tail7) ++ rest) e))
        (λ e. same ∙ sym (fresh_at proc b cut.kind is.begins e).done)

    pub begun_alike : BegunAlike program layered step proc cut b (begun program step proc cut values)
    begun_alike = record {
      store = store_near;
      locals = sym locals_given;
      done = sym done_given;
      old = old_near;
      old_outs = sym (outs_given _ locals_given);
      old_done = sym (old_done_given _ done_given);
      chosen = λ q among. sym (chosen_there b.chosen passed are_chosen values rest places.calls at_calls q among);
    }
