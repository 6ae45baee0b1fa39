-- Values that are read one behind the other are those at the places of a path's beginning.
use Rattle.std.proofs.Common.{◌≡◌, ℕ, zero, suc, ◌+◌, ◌-◌, false, nat_eq, List, [], ◌∷◌, ◌++◌, length, take, drop, map, refl, sym, subst, ap, ap₂, ◌∙◌, arith, if◌then◌else◌}
use Rattle.std.proofs.Common.{take-add}
use Rattle.std.proofs.lemmas.List.{drop-drop}
use Rattle.civl_bits.specs.declared.value.Value.{Value}
use Rattle.civl_tree.specs.declared.action.Choice.{Choice}
use Rattle.civl_tree.specs.declared.stmt.Stmt.{Stmt, out-Stmt}
use Rattle.civl_tree.specs.declared.program.Proc.{Proc}
use Rattle.civl_tree.specs.declared.program.Program.{Program}
use Rattle.civl_tree.specs.Numbering.{statements_of}
use Rattle.civl_firing.specs.Scope.{zeros_of_params, zeros_of_locals}
use Rattle.civl_meaning.specs.Change.{outs_in}
use Rattle.civl_meaning.specs.Layers.{program_at}
use Rattle.civl_layers.specs.declared.cut.Cut.{Cut}
use Rattle.civl_layers.specs.declared.cut.CutKind.{CutKind}
use Rattle.civl_layers.specs.declared.cut.CutKind.TheVariants.{Entry, Yield, YieldLoop, RankLoop}
use Rattle.civl_conditions.specs.declared.paths.met.Met.{Met}
use Rattle.civl_conditions.specs.paths.Flows.{flow_from}
use Rattle.civl_conditions.specs.paths.Meets.{numbers_met}
use Rattle.civl_conditions.specs.paths.Seen.{exists_near}
use Rattle.civl_conditions.specs.Variables.{layer_choices, passed_choices}
use Rattle.civl_conditions.specs.Values.{Begun, part, flag_at, store_of, count_of, choices_count, chosen_in, begun, layout}
use Rattle.civl_conditions.proofs.paths.Standing.{Stand, passed_stand}
use Rattle.civl_traces.specs.Told.{chosen_at}
use Rattle.civl_losses.specs.inner.Given.{listed, calls_of, entry_begun, frame_locals, behind_frame, yield_begun, rank_begun, behind_entry, behind_yield, behind_rank}

-- ---- values behind others

abbrev Behind : List Value → ℕ → List Value → Type 0
Behind vs a ws = ws ≡ drop a vs

same : (vs : List Value) (a k : ℕ) (ws : List Value) → a ≡ k → Behind vs a ws → Behind vs k ws
same vs a k ws e h = h ∙ ap (λ (n : ℕ). drop n vs) e

more : (vs : List Value) (a b k : ℕ) (ws : List Value) → a + b ≡ k → Behind vs a ws → Behind vs k (drop b ws)
more vs a b k ws e h = ap (λ (xs : List Value). drop b xs) h ∙ drop-drop b a vs ∙ ap (λ (n : ℕ). drop n vs) e

flag_drop : (vs : List Value) (k : ℕ) → flag_at (drop k vs) 0 ≡ flag_at vs k
flag_drop vs zero = refl
flag_drop [] (suc k) = refl
flag_drop (v ∷ vs) (suc k) = flag_drop vs k

flag_is : (vs : List Value) (a : ℕ) (ws : List Value) → Behind vs a ws → flag_at ws 0 ≡ flag_at vs a
flag_is vs a ws h = ap (λ (xs : List Value). flag_at xs 0) h ∙ flag_drop vs a

part_is : (vs : List Value) (a n : ℕ) (ws : List Value) → Behind vs a ws → take n ws ≡ part vs a n
part_is vs a n ws h = ap (λ (xs : List Value). take n xs) h

-- ---- choices

chosen_behind : (qs : List (ℕ × List Choice)) (vs : List Value) (a b number : ℕ) → chosen_in qs (drop a vs) b number ≡ chosen_in qs vs (a + b) number
chosen_behind [] vs a b number = refl
chosen_behind (q ∷ qs) vs a b number =
    let here = part_is vs (a + b) (length q.1) (drop b (drop a vs)) (drop-drop b a vs) in
    let sum : a + (b + length q.1) ≡ (a + b) + length q.1 = omega arith in
    ap₂ (λ (xs ys : List Value). if nat_eq q.0 number then xs else ys) here
    (chosen_behind qs vs a (b + length q.1) number ∙ ap (λ (k : ℕ). chosen_in qs vs k number) sum)

pub chosen_is : (qs : List (ℕ × List Choice)) (vs : List Value) (a : ℕ) (ws : List Value) → Behind vs a ws → chosen_in qs ws 0 ≡ chosen_in qs vs a
chosen_is qs vs a ws h = λ i number. chosen_from number i
  where
    chosen_from : (number : ℕ) → chosen_in qs ws 0 number ≡ chosen_in qs vs a number
    chosen_from number =
        let sum : a + 0 ≡ a = omega arith in
        ap (λ (xs : List Value). chosen_in qs xs 0 number) h ∙ chosen_behind qs vs a 0 number ∙ ap (λ (k : ℕ). chosen_in qs vs k number) sum

listed_at : (qs : List (ℕ × List Choice)) (vs : List Value) (number : ℕ) → chosen_at (listed qs vs) number ≡ chosen_in qs vs 0 number
listed_at [] vs number = refl
listed_at (q ∷ qs) vs number =
    let sum : length q.1 + 0 ≡ 0 + length q.1 = omega arith in
    ap (λ (ys : List Value). if nat_eq q.0 number then take (length q.1) vs else ys)
    (listed_at qs (drop (length q.1) vs) number ∙ chosen_behind qs vs (length q.1) 0 number ∙ ap (λ (k : ℕ). chosen_in qs vs k number) sum)

pub listed_is : (qs : List (ℕ × List Choice)) (vs : List Value) → chosen_at (listed qs vs) ≡ chosen_in qs vs 0
listed_is qs vs = λ i number. listed_at qs vs number i

standing : (program : Program) (layer : ℕ) (body : List Stmt) (qs : List (ℕ × Stmt)) → Stand body qs
    → calls_of program layer (statements_of body) (map (λ q. q.0) qs) ≡ map (λ q. (q.0, layer_choices (program_at program layer) (out-Stmt q.1))) qs
standing program layer body [] h = refl
standing program layer body (q ∷ qs) h = rw (h.0, standing program layer body qs h.1) refl

-- the calls that are found by the numbers that are met are those that some path passes
pub calls_are : (program : Program) (step layer : ℕ) (proc : Proc) (cut : Cut) (numbers : List ℕ) (stmts : List Stmt) (met : Met) → layer ≡ step - 1 → numbers ≡ met.passed
    → met ≡ numbers_met (flow_from proc cut) → stmts ≡ statements_of proc.body → calls_of program layer stmts numbers ≡ passed_choices program step proc cut
calls_are program step layer proc cut numbers stmts met e n m s =
    ap (λ (k : ℕ). calls_of program k stmts numbers) e
    ∙ ap (λ (ss : List Stmt). calls_of program (step - 1) ss numbers) s
    ∙ ap (λ (ns : List ℕ). calls_of program (step - 1) (statements_of proc.body) ns) (n ∙ ap (λ (t : Met). t.passed) m)
    ∙ standing program (step - 1) proc.body (flow_from proc cut).passed (passed_stand proc cut)

-- ---- beginnings

module _ (program : Program) (step : ℕ) (proc : Proc) (number : ℕ) (values : List Value) where
  abbrev near : ℕ
  near = count_of (exists_near step) program

  abbrev cut : CutKind → Cut
  cut kind = record { statement = number; kind = kind }

  abbrev calls : CutKind → List (ℕ × List Choice)
  calls kind = passed_choices program step proc (cut kind)

  abbrev locals_count : ℕ
  locals_count = length proc.outs + length proc.locals

  -- the frame behind these values, whose parameters stand at this place
  module _ (a k : ℕ) (ws : List Value) (e : a + length proc.params ≡ k) (h : Behind values a ws) where
    outs_and_locals : take (length proc.outs) (drop (length proc.params) ws) ++ take (length proc.locals) (drop (length proc.outs) (drop (length proc.params) ws))
        ≡ part values k locals_count
    outs_and_locals =
        sym (take-add (length proc.outs) (length proc.locals) (drop (length proc.params) ws))
        ∙ part_is values k locals_count (drop (length proc.params) ws) (more values a (length proc.params) k ws e h)

    frame_is : frame_locals proc ws ≡ part values a (length proc.params) ++ part values k locals_count
    frame_is = ap₂ (λ (xs ys : List Value). xs ++ ys) (part_is values a (length proc.params) ws h) outs_and_locals

    behind_is : (n : ℕ) → k + locals_count ≡ n → Behind values n (behind_frame proc ws)
    behind_is n f =
        drop-drop (length proc.locals) (length proc.outs) (drop (length proc.params) ws)
        ∙ more values k locals_count n (drop (length proc.params) ws) f (more values a (length proc.params) k ws e h)

  entry_at : entry_begun program step proc (cut Entry) values ≡ begun program step proc (cut Entry) values
  entry_at =
      let ws = drop near values in
      let params = near + 0 in
      let calls_at = params + length proc.params + 0 + 0 + 0 + 0 in
      let here : Behind values params ws = same values near params ws (omega arith) refl in
      let locals = ap (λ (xs : List Value). xs ++ (zeros_of_params proc.outs ++ zeros_of_locals proc.locals)) (part_is values params (length proc.params) ws here) in
      let chosen = chosen_is (calls Entry) values calls_at (drop (length proc.params) ws) (more values params (length proc.params) calls_at ws (omega arith) here) in
      λ i. record {
        store = store_of (exists_near step) program values;
        locals = locals i;
        done = false;
        old = store_of (exists_near step) program values;
        old_outs = outs_in proc (locals i);
        old_done = false;
        chosen = chosen i;
      }

  -- what a yield begins with, at the places of its layout
  abbrev yield_like : CutKind → Begun
  yield_like kind =
      let params = near + 0 in
      let rest = params + length proc.params in
      let done = rest + locals_count + 0 in
      let locals = part values params (length proc.params) ++ part values rest locals_count in
      record {
        store = store_of (exists_near step) program values;
        locals = locals;
        done = flag_at values done;
        old = store_of (exists_near step) program values;
        old_outs = outs_in proc locals;
        old_done = flag_at values done;
        chosen = chosen_in (calls kind) values (done + 1 + 0);
      }

  yield_is : (kind : CutKind) → yield_begun program step proc (cut kind) values ≡ yield_like kind
  yield_is kind =
      let ws = drop near values in
      let params = near + 0 in
      let rest = params + length proc.params in
      let done = rest + locals_count + 0 in
      let behind = behind_frame proc ws in
      let here : Behind values params ws = same values near params ws (omega arith) refl in
      let there : Behind values done behind = behind_is params rest ws refl here done (omega arith) in
      let locals = frame_is params rest ws refl here in
      let flag = flag_is values done behind there in
      let chosen = chosen_is (calls kind) values (done + 1 + 0) (drop 1 behind) (more values done 1 (done + 1 + 0) behind (omega arith) there) in
      λ i. record {
        store = store_of (exists_near step) program values;
        locals = locals i;
        done = flag i;
        old = store_of (exists_near step) program values;
        old_outs = outs_in proc (locals i);
        old_done = flag i;
        chosen = chosen i;
      }

  yield_at : yield_begun program step proc (cut Yield) values ≡ begun program step proc (cut Yield) values
  yield_at = yield_is Yield

  yield_loop_at : yield_begun program step proc (cut YieldLoop) values ≡ begun program step proc (cut YieldLoop) values
  yield_loop_at = yield_is YieldLoop

  rank_at : rank_begun program step proc (cut RankLoop) values ≡ begun program step proc (cut RankLoop) values
  rank_at =
      let ws = drop near (drop near values) in
      let params = near + near in
      let rest = params + length proc.params in
      let old_outs = rest + locals_count in
      let done = old_outs + length proc.outs in
      let behind = behind_frame proc ws in
      let flags = drop (length proc.outs) behind in
      let later = drop 1 flags in
      let here : Behind values params ws = more values near near params (drop near values) refl refl in
      let there : Behind values old_outs behind = behind_is params rest ws refl here old_outs refl in
      let flags_at : Behind values done flags = more values old_outs (length proc.outs) done behind refl there in
      let later_at : Behind values (done + 1) later = more values done 1 (done + 1) flags refl flags_at in
      let locals = frame_is params rest ws refl here in
      let outs = part_is values old_outs (length proc.outs) behind there in
      let first = flag_is values done flags flags_at in
      let second = flag_is values (done + 1) later later_at in
      let chosen = chosen_is (calls RankLoop) values (done + 1 + 1) (drop 1 later) (more values (done + 1) 1 (done + 1 + 1) later refl later_at) in
      λ i. record {
        store = store_of (exists_near step) program values;
        locals = locals i;
        done = first i;
        old = store_of (exists_near step) program (drop near values);
        old_outs = outs i;
        old_done = second i;
        chosen = chosen i;
      }

  -- the values behind

  past_entry : behind_entry program step proc (cut Entry) values ≡ drop (layout program step proc (cut Entry)).behind values
  past_entry =
      let ws = drop near values in
      let params = near + 0 in
      let calls_at = params + length proc.params + 0 + 0 + 0 + 0 in
      let here : Behind values params ws = same values near params ws (omega arith) refl in
      let count = choices_count (calls Entry) in
      more values calls_at count (calls_at + count) (drop (length proc.params) ws) refl (more values params (length proc.params) calls_at ws (omega arith) here)

  past_yield_at : (kind : CutKind) → behind_yield program step proc (cut kind) values
      ≡ drop (near + 0 + length proc.params + locals_count + 0 + 1 + 0 + choices_count (calls kind)) values
  past_yield_at kind =
      let ws = drop near values in
      let params = near + 0 in
      let rest = params + length proc.params in
      let done = rest + locals_count + 0 in
      let behind = behind_frame proc ws in
      let here : Behind values params ws = same values near params ws (omega arith) refl in
      let there : Behind values done behind = behind_is params rest ws refl here done (omega arith) in
      let count = choices_count (calls kind) in
      more values (done + 1 + 0) count (done + 1 + 0 + count) (drop 1 behind) refl (more values done 1 (done + 1 + 0) behind (omega arith) there)

  past_yield : behind_yield program step proc (cut Yield) values ≡ drop (layout program step proc (cut Yield)).behind values
  past_yield = past_yield_at Yield

  past_yield_loop : behind_yield program step proc (cut YieldLoop) values ≡ drop (layout program step proc (cut YieldLoop)).behind values
  past_yield_loop = past_yield_at YieldLoop

  past_rank : behind_rank program step proc (cut RankLoop) values ≡ drop (layout program step proc (cut RankLoop)).behind values
  past_rank =
      let ws = drop near (drop near values) in
      let params = near + near in
      let rest = params + length proc.params in
      let old_outs = rest + locals_count in
      let done = old_outs + length proc.outs in
      let behind = behind_frame proc ws in
      let flags = drop (length proc.outs) behind in
      let later = drop 1 flags in
      let here : Behind values params ws = more values near near params (drop near values) refl refl in
      let there : Behind values old_outs behind = behind_is params rest ws refl here old_outs refl in
      let flags_at : Behind values done flags = more values old_outs (length proc.outs) done behind refl there in
      let later_at : Behind values (done + 1) later = more values done 1 (done + 1) flags refl flags_at in
      let count = choices_count (calls RankLoop) in
      more values (done + 1 + 1) count (done + 1 + 1 + count) (drop 1 later) refl (more values (done + 1) 1 (done + 1 + 1) later refl later_at)

-- by the kind of the cut
module _ (program : Program) (step : ℕ) (proc : Proc) (cut : Cut) (values : List Value) where
  by_kind : (b : Program → ℕ → Proc → Cut → List Value → Begun) (kind : CutKind) → cut.kind ≡ kind
      → b program step proc (record { statement = cut.statement; kind = kind }) values ≡ begun program step proc (record { statement = cut.statement; kind = kind }) values
      → b program step proc cut values ≡ begun program step proc cut values
  by_kind b kind e h =
      subst (λ (k : CutKind). b program step proc (record { statement = cut.statement; kind = k }) values ≡ begun program step proc (record { statement = cut.statement; kind = k }) values) (sym e) h

  pub entry_begins : cut.kind ≡ Entry → entry_begun program step proc cut values ≡ begun program step proc cut values
  entry_begins e = by_kind entry_begun Entry e (entry_at program step proc cut.statement values)

  pub yield_begins : cut.kind ≡ Yield → yield_begun program step proc cut values ≡ begun program step proc cut values
  yield_begins e = by_kind yield_begun Yield e (yield_at program step proc cut.statement values)

  pub yield_loop_begins : cut.kind ≡ YieldLoop → yield_begun program step proc cut values ≡ begun program step proc cut values
  yield_loop_begins e = by_kind yield_begun YieldLoop e (yield_loop_at program step proc cut.statement values)

  pub rank_begins : cut.kind ≡ RankLoop → rank_begun program step proc cut values ≡ begun program step proc cut values
  rank_begins e = by_kind rank_begun RankLoop e (rank_at program step proc cut.statement values)

  past_by : (r : Program → ℕ → Proc → Cut → List Value → List Value) (kind : CutKind) → cut.kind ≡ kind
      → r program step proc (record { statement = cut.statement; kind = kind }) values ≡ drop (layout program step proc (record { statement = cut.statement; kind = kind })).behind values
      → r program step proc cut values ≡ drop (layout program step proc cut).behind values
  past_by r kind e h =
      subst (λ (k : CutKind). r program step proc (record { statement = cut.statement; kind = k }) values ≡ drop (layout program step proc (record { statement = cut.statement; kind = k })).behind values) (sym e) h

  pub entry_behind : cut.kind ≡ Entry → behind_entry program step proc cut values ≡ drop (layout program step proc cut).behind values
  entry_behind e = past_by behind_entry Entry e (past_entry program step proc cut.statement values)

  pub yield_behind : cut.kind ≡ Yield → behind_yield program step proc cut values ≡ drop (layout program step proc cut).behind values
  yield_behind e = past_by behind_yield Yield e (past_yield program step proc cut.statement values)

  pub yield_loop_behind : cut.kind ≡ YieldLoop → behind_yield program step proc cut values ≡ drop (layout program step proc cut).behind values
  yield_loop_behind e = past_by behind_yield YieldLoop e (past_yield_loop program step proc cut.statement values)

  pub rank_is_behind : cut.kind ≡ RankLoop → behind_rank program step proc cut values ≡ drop (layout program step proc cut).behind values
  rank_is_behind e = past_by behind_rank RankLoop e (past_rank program step proc cut.statement values)
