-- A step of an open block lowers its measure.
use Rattle.std.proofs.Common.{◌≡◌, ℕ, suc, ◌+◌, ◌-◌, ◌*◌, ◌<◌, ◌≤◌, Bool, true, false, not, ◌&&◌, ◌||◌, List, [], ◌∷◌, ◌++◌, inl, inr, Option, None, Some, refl, sym, ap, ◌∙◌, subst, arith}
use Rattle.std.specs.Prelude.{slice_get, nat_le, nat_lt, All, if◌then◌else◌}
use Rattle.std.specs.Option.{option_map_or}
use Rattle.std.proofs.lemmas.Bool.{true≢false, false≢true, leb-true, le-leb, ltb-true, and_parts, and_from, not-false}
use Rattle.std.proofs.lemmas.Option.{none-some, same_Some, slice_get_within}
use Rattle.civl_bits.specs.Value.{IsValue}
use Rattle.civl_bits.specs.declared.value.Value.{Value}
use Rattle.civl_tree.specs.declared.expr.Expr.{Expr}
use Rattle.civl_tree.specs.declared.program.Proc.{Proc}
use Rattle.civl_tree.specs.declared.program.Program.{Program}
use Rattle.civl_tree.specs.declared.stmt.Stmt.{Stmt, out-Stmt}
use Rattle.civl_tree.specs.declared.stmt.Stmt.TheOpen as stmt
use Rattle.civl_tree.specs.Numbering.{statements_of, statement_at}
use Rattle.civl_firing.specs.values.Values.{HaveSorts}
use Rattle.civl_firing.specs.declared.store.Store.{Store}
use Rattle.civl_firing.specs.Stores.{IsStore}
use Rattle.civl_firing.specs.Eval.{value_of}
use Rattle.civl_meaning.specs.declared.config.Activation.{Activation}
use Rattle.civl_meaning.specs.declared.config.Running.{Running}
use Rattle.civl_meaning.specs.declared.config.Change.{Change}
use Rattle.civl_meaning.specs.declared.config.Change.TheVariants.{Stays, Goes, Acts, Enters, Leaves, Spawns}
use Rattle.civl_meaning.specs.Permissions.{pairwise_disjoint}
use Rattle.civl_meaning.specs.Places.{Spot, skip_layer, spot_at}
use Rattle.civl_meaning.specs.Rest.{Rest, rest_at, place_in, head_of}
use Rattle.civl_meaning.proofs.Rests.{spot_of_rest}
use Rattle.civl_meaning.specs.Change.{change_of}
use Rattle.civl_meaning.specs.Config.{frame_sorts, moved_frame}
use Rattle.civl_meaning.specs.Layers.{program_at}
use Rattle.civl_layers.specs.declared.cut.Cut.{Cut}
use Rattle.civl_layers.specs.declared.cut.CutKind.{CutKind}
use Rattle.civl_layers.specs.declared.cut.CutKind.TheVariants as kind
use Rattle.civl_layers.specs.Ranges.{exists_through}
use Rattle.civl_layers.specs.Names.{global_range}
use Rattle.civl_layers.specs.LayerRules.{layer_rules, introduced_rule}
use Rattle.civl_layers.specs.Layered.{IsLayered}
use Rattle.civl_conditions.specs.footprints.Agreement.{exists_at}
use Rattle.civl_condition_laws.proofs.Carrying.{LinearPass, same_linear}
use Rattle.civl_tree.proofs.Kept.{global_kept}
use Rattle.civl_layers.specs.Cuts.{form_cut, proc_cuts}
use Rattle.civl_conditions.specs.paths.NoteValues.{plain_note_values}
use Rattle.civl_conditions.specs.paths.Paths.{Progress}
use Rattle.civl_conditions.specs.paths.Runs.{yield_before}
use Rattle.civl_conditions.specs.paths.Ends.{is_rank_loop, cut_number}
use Rattle.civl_conditions.specs.paths.Seen.{IsProcOf}
use Rattle.civl_conditions.specs.Permissions.{in_store, held_at, of_held}
use Rattle.civl_conditions.specs.Values.{Begun}
use Rattle.civl_conditions.specs.Assumed.{layer_rank, cut_rank, owned}
use Rattle.civl_reduction.specs.open_blocks.Ends.{IsAssumed, Concludes}
use Rattle.civl_reduction.specs.blocks.Blocks.{layer_at_yield, at_yield}
use Rattle.civl_reduction.specs.open_blocks.Following.{layer_head, head_there, cut_ahead, led_here}
use Rattle.civl_reduction.proofs.open_blocks.Following.Leading.{Stays as LedStays, layer_within, led_stays}
use Rattle.civl_reduction.proofs.open_blocks.Following.Frames.{frames_follow, frames_arrive}
use Rattle.civl_reduction.specs.open_blocks.Open.{IsSound, IsTopmost, beginning, choosing, begun_again, IsOpen, StaysOpen, StepStaysOpen, OpensInLoop}
use Rattle.civl_reduction.proofs.open_blocks.Open.Going.{spot_stands, no_plain_loops, frame_sorted, stays_open}
use Rattle.civl_reduction.proofs.open_blocks.Open.Introducing.{led_sorted}
use Rattle.civl_reduction.proofs.open_blocks.Open.Opening.{head_number, in_loop}
use Rattle.civl_reduction.proofs.open_blocks.Open.Ending.{at_cut, goes_round}
use Rattle.civl_reduction.proofs.open_blocks.Open.Cuts.{cut_there}
use Rattle.civl_reduction.specs.open_blocks.Rounds.{form_ranked}
use Rattle.civl_reduction.proofs.open_blocks.Rounds.Coming.{rank_loops_come_later}
use Rattle.civl_reduction.specs.staged.Measures.{number_of, rank_at, count_of, level_of, step_base, word_base, measure, IsNear, IsNearer, HeldIsApart, OpenBlocksComeNearer}
use Rattle.civl_reduction.proofs.staged.Measures.Numbers.{digits, word_falls}
use Rattle.civl_reduction.proofs.staged.Measures.Ranks.{ranked_is, rank_small}
use Rattle.civl_reduction.proofs.staged.Opened.Forms.{no_yield}

-- ---- places

pub none_or : (o u : Option ℕ) (n : ℕ) → o ≡ None → option_map_or (λ number. Some number) o u ≡ Some n → u ≡ Some n
none_or None u n e f = f
none_or (Some m) u n e f = absurd (none-some m (sym e))

abbrev found_so : ℕ → ℕ → Stmt → Rest → Spot → Type 0
found_so end n t k s = Some (record { number = n; stmt = t; next = place_in end k }) ≡ Some s

found : (end n : ℕ) (t : Stmt) (k : Rest) (s : Spot) → found_so end n t k s → layer_at_yield (out-Stmt t) false ≡ false → layer_at_yield (out-Stmt s.stmt) false ≡ false
found end n t k s h e = subst (λ (s : Spot). layer_at_yield (out-Stmt s.stmt) false ≡ false) (same_Some (record { number = n; stmt = t; next = place_in end k }) s h) e

-- and before no yield loop
no_yield_loop : (end : ℕ) (r : Rest) → at_yield r ≡ false → (s : Spot) → head_of end r ≡ Some s → layer_at_yield (out-Stmt s.stmt) false ≡ false
no_yield_loop end [] e s h = absurd (none-some s h)
no_yield_loop end (q ∷ k) e s h = by_form (out-Stmt q.1) refl e (no_yield_loop end k) h
  where
    by_form : (d : stmt.Stmt-F Stmt) → out-Stmt q.1 ≡ d → layer_at_yield d (at_yield k) ≡ false → (at_yield k ≡ false → (s : Spot) → head_of end k ≡ Some s → layer_at_yield (out-Stmt s.stmt) false ≡ false)
        → (if skip_layer d then head_of end k else Some (record { number = q.0; stmt = q.1; next = place_in end k })) ≡ Some s → layer_at_yield (out-Stmt s.stmt) false ≡ false
    by_form (stmt.Yield i) f e later h = absurd (true≢false e)
    by_form stmt.Commit f e later h = later e s h
    by_form (stmt.Intro x v) f e later h = later e s h
    by_form (stmt.YieldLoop t i a) f e later h = absurd (true≢false e)
    by_form (stmt.Assign x v) f e later h = found end q.0 q.1 k s h (ap (λ (d : stmt.Stmt-F Stmt). layer_at_yield d false) f)
    by_form (stmt.Assert v) f e later h = found end q.0 q.1 k s h (ap (λ (d : stmt.Stmt-F Stmt). layer_at_yield d false) f)
    by_form (stmt.If t a b) f e later h = found end q.0 q.1 k s h (ap (λ (d : stmt.Stmt-F Stmt). layer_at_yield d false) f)
    by_form (stmt.While t a) f e later h = found end q.0 q.1 k s h (ap (λ (d : stmt.Stmt-F Stmt). layer_at_yield d false) f)
    by_form (stmt.RankLoop t r i a) f e later h = found end q.0 q.1 k s h (ap (λ (d : stmt.Stmt-F Stmt). layer_at_yield d false) f)
    by_form (stmt.Call g es rs) f e later h = found end q.0 q.1 k s h (ap (λ (d : stmt.Stmt-F Stmt). layer_at_yield d false) f)
    by_form (stmt.Spawn g es) f e later h = found end q.0 q.1 k s h (ap (λ (d : stmt.Stmt-F Stmt). layer_at_yield d false) f)

-- a loop's head that is no yield loop's is a rank loop's
head_ranked : (n m : ℕ) (d : stmt.Stmt-F Stmt) → layer_head n d ≡ Some m → layer_at_yield d false ≡ false → (form_ranked d ≡ true) × (form_cut d ≡ Some kind.RankLoop) × (r : Expr) × (layer_rank d ≡ Some r)
head_ranked n m (stmt.RankLoop t r i a) e h = (refl, refl, r, refl)
head_ranked n m (stmt.YieldLoop t i a) e h = absurd (true≢false h)
head_ranked n m _ e h = absurd (none-some m e)

-- ---- measures

module _ (program : Program) (proc : Proc) where
  abbrev low_digits : Cut → Begun → ℕ → ℕ
  low_digits cut b bound = step_base proc * rank_at program proc cut b + (count_of proc + 1 - bound)

  -- statements pass
  fuel_falls : (cut : Cut) (b d : Begun) (bound later : ℕ) → rank_at program proc cut d ≡ rank_at program proc cut b → bound < later → bound ≤ count_of proc → measure program proc cut d later < measure program proc cut b bound
  fuel_falls cut b d bound later e l h =
      let fuel : count_of proc + 1 - later < count_of proc + 1 - bound = omega (arith, l, h) in
      let same : step_base proc * rank_at program proc cut d ≡ step_base proc * rank_at program proc cut b = ap (λ (r : ℕ). step_base proc * r) e in
      omega (arith, fuel, same)

  fuel_small : (bound : ℕ) → count_of proc + 1 - bound < step_base proc
  fuel_small bound = omega arith

  -- the rank falls
  rank_falls : (cut there : Cut) (b d : Begun) (bound later : ℕ) → level_of proc there ≡ level_of proc cut → rank_at program proc there d < rank_at program proc cut b → measure program proc there d later < measure program proc cut b bound
  rank_falls cut there b d bound later e l =
      let low = digits (step_base proc) (rank_at program proc there d) (rank_at program proc cut b) (count_of proc + 1 - later) (count_of proc + 1 - bound) l (fuel_small later) in
      let same : step_base proc * word_base * level_of proc there ≡ step_base proc * word_base * level_of proc cut = ap (λ (n : ℕ). step_base proc * word_base * n) e in
      omega (arith, low, same)

  -- another rank loop comes
  level_falls : (cut there : Cut) (b d : Begun) (bound later : ℕ) → level_of proc there < level_of proc cut → rank_at program proc there d < word_base → measure program proc there d later < measure program proc cut b bound
  level_falls cut there b d bound later l small =
      let whole = digits (step_base proc) (rank_at program proc there d) word_base (count_of proc + 1 - later) 0 small (fuel_small later) in
      digits (step_base proc * word_base) (level_of proc there) (level_of proc cut) (low_digits there d later) (low_digits cut b bound) l (omega (arith, whole))

-- ---- linear globals

through_all : (first last top layer : ℕ) → layer ≤ top → (nat_lt top 0 || (nat_le first 0 && nat_le top last)) ≡ true → (nat_le first layer && nat_le layer last) ≡ true
through_all first last top layer l e = by_order (nat_lt top 0) refl e
  where
    by_order : (b : Bool) → nat_lt top 0 ≡ b → (b || (nat_le first 0 && nat_le top last)) ≡ true → (nat_le first layer && nat_le layer last) ≡ true
    by_order true h e = absurd (omega (arith, ltb-true top 0 h))
    by_order false h e =
        let p = and_parts (nat_le first 0) (nat_le top last) e in
        let low = leb-true first 0 p.0 in
        let high = leb-true top last p.1 in
        and_from (nat_le first layer) (nat_le layer last) (le-leb first layer (omega (arith, low))) (le-leb layer last (omega (arith, high, l)))

not_hidden : (a b : Bool) → a ≡ true → (a && not b) ≡ false → b ≡ true
not_hidden true b e h = not-false b h
not_hidden false b e h = absurd (false≢true e)

-- linear globals exist in all layers
linear_exist : (program : Program) → IsLayered program → (layer : ℕ) → layer ≤ program.layers → LinearPass (exists_at layer) program.globals
linear_exist program layered layer l place g there is =
    through_all g.first g.last program.layers layer l
    (not_hidden g.linear (exists_through 0 program.layers (global_range g)) is (global_kept layer_rules program layered.layers introduced_rule (5, omega arith, refl) place g there))

rank_kind : (k : CutKind) → is_rank_loop k ≡ true → k ≡ kind.RankLoop
rank_kind kind.RankLoop e = refl
rank_kind kind.Entry e = absurd (false≢true e)
rank_kind kind.Yield e = absurd (false≢true e)
rank_kind kind.YieldLoop e = absurd (false≢true e)

-- ---- a step

module _ (program : Program) (step q : ℕ) (proc : Proc) (store : Store) (frame : Activation) (thread : Running) (values : List Value) (s : Spot) (n : ℕ)
    (sound : IsSound program) (near : IsNear program step q proc store frame (suc n)) (top : IsTopmost program step q thread frame) (are : All IsValue values) (apart : HeldIsApart program proc store frame)
    (inside : at_yield (rest_at proc.body frame.place) ≡ false) (there : spot_at proc.body frame.place ≡ Some s) where
  abbrev opened : IsOpen program step q near.number proc near.cut near.begun near.bound near.here store frame
  opened = near.opened

  of : IsProcOf program q step proc
  of = opened.assumed.of_cut.of_proc

  abbrev change : Change
  change = change_of (program_at program (step - 1)) store values thread

  stands : statement_at proc.body s.number ≡ Some s.stmt
  stands = spot_stands proc.body frame.place s there

  below : s.number < count_of proc
  below = slice_get_within (statements_of proc.body) s.number s.stmt stands

  -- ---- before no cut

  module _ (away : cut_ahead proc.body near.here.place ≡ None) where
    low : near.bound ≤ s.number
    low = (frames_follow program q step proc near.cut (beginning near.begun) near.begun.chosen near.bound near.here store frame values s sound.layered of (no_plain_loops program q step proc sound.yields of) opened.follows away there).0

    next_near : (inner after : Store) (moved : Activation) → StaysOpen program step q near.number proc near.cut near.begun near.bound near.here inner after moved → IsNear program step q proc after moved n
    next_near inner after moved o =
        let falls = fuel_falls program proc near.cut near.begun (choosing near.begun o.chosen) near.bound o.later refl o.rises (omega (arith, low, below)) in
        let was = near.near in
        record {
          number = near.number;
          cut = near.cut;
          begun = choosing near.begun o.chosen;
          bound = o.later;
          here = o.next;
          opened = o.opened;
          place = o.place;
          near = omega (arith, falls, was);
        }

    by_change : (x : Change) → StepStaysOpen program step q near.number proc near.cut near.begun near.bound near.here store frame s values x → IsNearer program step q proc store frame n x
    by_change (Goes locals place) o = next_near (led_here program step proc near.here).store store (moved_frame frame locals place) o
    by_change (Acts after locals place) o = next_near o.0 after (moved_frame frame locals place) o.2
    by_change (Stays a) o = tt
    by_change (Enters other place) o = tt
    by_change (Leaves other) o = tt
    by_change (Spawns other place) o = tt

    goes_nearer : IsNearer program step q proc store frame n change
    goes_nearer = by_change change (stays_open program step q near.number proc near.cut near.begun near.bound near.here store frame thread values s sound opened top are away there)

  -- ---- at the head of a rank loop

  module _ (number : ℕ) (ahead : cut_ahead proc.body near.here.place ≡ Some number) where
    ahead_there : cut_ahead proc.body frame.place ≡ Some number
    ahead_there = sym (ap (cut_ahead proc.body) near.place) ∙ ahead

    head : layer_head s.number (out-Stmt s.stmt) ≡ Some number
    head =
        sym (ap head_there there)
        ∙ none_or (yield_before (rest_at proc.body frame.place)) (head_there (spot_at proc.body frame.place)) number (no_yield (rest_at proc.body frame.place) inside) ahead_there

    loop : (form_ranked (out-Stmt s.stmt) ≡ true) × (form_cut (out-Stmt s.stmt) ≡ Some kind.RankLoop) × (r : Expr) × (layer_rank (out-Stmt s.stmt) ≡ Some r)
    loop = head_ranked s.number number (out-Stmt s.stmt) head (no_yield_loop _ (rest_at proc.body frame.place) inside s (sym (spot_of_rest proc.body frame.place) ∙ there))

    number_is : s.number ≡ number
    number_is = head_number s.number number (out-Stmt s.stmt) head

    stands_at : statement_at proc.body number ≡ Some s.stmt
    stands_at = subst (λ (m : ℕ). statement_at proc.body m ≡ Some s.stmt) number_is stands

    abbrev loop_cut : Cut
    loop_cut = record { statement = number; kind = kind.RankLoop }

    cut_is : slice_get (proc_cuts proc) (cut_number proc number) ≡ Some loop_cut
    cut_is = cut_there proc of.refines of.refined number s.stmt kind.RankLoop stands_at loop.1

    abbrev p : Progress
    p = led_here program step proc near.here

    locals_sorted : HaveSorts frame.locals (frame_sorts proc)
    locals_sorted = frame_sorted program step q proc thread frame of.there top

    here_sorted : HaveSorts near.here.state.locals (frame_sorts proc)
    here_sorted = subst (λ (ls : List Value). HaveSorts ls (frame_sorts proc)) (sym opened.follows.alike.locals) locals_sorted

    p_fits : IsStore program.globals p.store
    p_fits = led_sorted program step q proc sound.layered of.there near.here opened.fits here_sorted

    p_stays : LedStays program q step proc sound.layered of near.here.state store p
    p_stays = led_stays program q step proc sound.layered of store (λ n. []) near.here.place near.here.state opened.follows.alike.stores

    locals_same : p.locals ≡ frame.locals
    locals_same = p_stays.locals ∙ opened.follows.alike.locals

    p_sorted : HaveSorts p.locals (frame_sorts proc)
    p_sorted = subst (λ (ls : List Value). HaveSorts ls (frame_sorts proc)) (sym locals_same) locals_sorted

    disjoint_there : pairwise_disjoint (owned program proc (cut_number proc number) (begun_again near.begun p near.begun.chosen)) ≡ true
    disjoint_there =
        let high = (layer_within program q step proc sound.layered of).1 in
        let globals = same_linear (exists_at (step - 1)) program.globals p.store.values store.values (linear_exist program sound.layered (step - 1) (omega (arith, high))) p_stays.stores in
        ap (λ (gs : List (List ℕ)). pairwise_disjoint (gs ++ of_held (held_at program proc (cut_number proc number)) p.locals)) globals
        ∙ ap (λ (ls : List Value). pairwise_disjoint (in_store program store ++ of_held (held_at program proc (cut_number proc number)) ls)) locals_same
        ∙ apart number ahead_there

    round : (chosen : ℕ → List Value) × IsAssumed program step q (cut_number proc number) proc loop_cut (begun_again near.begun p chosen)
    round = goes_round program step q near.number proc near.cut near.begun near.bound near.here store frame number loop_cut sound opened locals_sorted ahead cut_is refl disjoint_there

    abbrev again : Begun
    again = begun_again near.begun p round.0

    opens : OpensInLoop program step q (cut_number proc number) proc loop_cut again store frame change
    opens = in_loop program step q (cut_number proc number) proc loop_cut again store frame thread values s round.1 (inr refl) top there head locals_same p_stays.stores

    -- ---- its measure

    abbrev rank : Expr
    rank = loop.2

    rank_is : cut_rank proc loop_cut ≡ Some rank
    rank_is = ap (λ (o : Option Stmt). option_map_or (λ s. layer_rank (out-Stmt s)) o None) stands_at ∙ loop.3

    abbrev rank_value : Store → List Value → Value
    rank_value g ls = value_of (plain_note_values program.globals proc g ls) rank

    rank_there : (cut : Cut) (b : Begun) → cut_rank proc cut ≡ Some rank → rank_at program proc cut b ≡ number_of (rank_value b.store b.locals)
    rank_there cut b e = ap (λ (o : Option Expr). option_map_or (λ r. number_of (value_of (plain_note_values program.globals proc b.store b.locals) r)) o 0) e

    small : rank_at program proc loop_cut again < word_base
    small =
        subst (λ (n : ℕ). n < word_base) (sym (rank_there loop_cut again rank_is))
        (rank_small program step q proc sound.layered of.there p.store p.locals p_fits p_sorted number s.stmt stands_at rank loop.3)

    number_below : number < count_of proc
    number_below = subst (λ (m : ℕ). m < count_of proc) number_is below

    level_ranked : is_rank_loop near.cut.kind ≡ true → level_of proc near.cut ≡ count_of proc - near.cut.statement
    level_ranked e = ap (λ (b : Bool). if b then count_of proc - near.cut.statement else count_of proc + 1) e

    level_other : is_rank_loop near.cut.kind ≡ false → level_of proc near.cut ≡ count_of proc + 1
    level_other e = ap (λ (b : Bool). if b then count_of proc - near.cut.statement else count_of proc + 1) e

    abbrev Falls : Type 0
    Falls = measure program proc loop_cut again (number + 1) < measure program proc near.cut near.begun near.bound

    first_falls : is_rank_loop near.cut.kind ≡ false → Falls
    first_falls e = let other = level_other e in level_falls program proc near.cut loop_cut near.begun again near.bound (number + 1) (omega (arith, other)) small

    same_falls : is_rank_loop near.cut.kind ≡ true → number ≡ near.cut.statement → near.number ≡ cut_number proc near.cut.statement → Falls
    same_falls e same index =
        let one : near.cut ≡ loop_cut = ap (λ (k : CutKind). record { statement = near.cut.statement; kind = k }) (rank_kind near.cut.kind e) ∙ ap (λ (m : ℕ). record { statement = m; kind = kind.RankLoop }) (sym same) in
        let back : cut_number proc number ≡ near.number = ap (cut_number proc) same ∙ sym index in
        let was = ap (cut_rank proc) one ∙ rank_is in
        let ends : Concludes program step near.number proc near.cut near.begun (cut_number proc number) p = at_cut program step q near.number proc near.cut near.begun near.bound near.here store frame sound opened number ahead in
        let less = word_falls (rank_value p.store p.locals) (rank_value near.begun.store near.begun.locals) (ends.rank rank e back was) in
        let new = rank_there loop_cut again rank_is in
        let old = rank_there near.cut near.begun was in
        rank_falls program proc near.cut loop_cut near.begun again near.bound (number + 1) (ap (level_of proc) (sym one)) (omega (arith, less, new, old))

    later_falls : is_rank_loop near.cut.kind ≡ true → near.cut.statement < number → Falls
    later_falls e l =
        let ranked = level_ranked e in
        level_falls program proc near.cut loop_cut near.begun again near.bound (number + 1) (omega (arith, ranked, l, number_below)) small

    by_cut : (b : Bool) → is_rank_loop near.cut.kind ≡ b → Falls
    by_cut false e = first_falls e
    by_cut true e =
        let ranked = ranked_is proc near.number near.cut of.refines of.refined opened.assumed.of_cut.there e in
        let comes = (frames_arrive program step proc near.cut (beginning near.begun) near.begun.chosen near.bound near.here opened.follows.on_path).0 number ahead in
        elim (rank_loops_come_later program step q proc near.cut near.begun.chosen (beginning near.begun) p number ranked.stmt s.stmt sound.yields of (rank_kind near.cut.kind e) ranked.there ranked.loops comes stands_at loop.0) [
          | inl same ↦ same_falls e same ranked.index
          | inr later ↦ later_falls e later
        ]

    rounds_nearer : IsNearer program step q proc store frame n change
    rounds_nearer =
        let falls = by_cut (is_rank_loop near.cut.kind) refl in
        let was = near.near in
        subst (IsNearer program step q proc store frame n) (sym opens.1)
        (record {
          number = cut_number proc number;
          cut = loop_cut;
          begun = again;
          bound = number + 1;
          here = record { place = opens.0; state = beginning again };
          opened = opens.2;
          place = refl;
          near = omega (arith, falls, was);
        })

  by_ahead : (o : Option ℕ) → cut_ahead proc.body near.here.place ≡ o → IsNearer program step q proc store frame n change
  by_ahead None e = goes_nearer e
  by_ahead (Some number) e = rounds_nearer number e

  pub comes_nearer : IsNearer program step q proc store frame n change
  comes_nearer = by_ahead (cut_ahead proc.body near.here.place) refl

pub open_blocks_come_nearer : OpenBlocksComeNearer
open_blocks_come_nearer program step q proc store frame thread values s n sound near top are apart inside there =
    comes_nearer program step q proc store frame thread values s n sound near top are apart inside there
