-- The places at which a program breaks rules stand in the order of code, item and statement.
use Rattle.std.proofs.Common.{◌≡◌, ℕ, zero, suc, ◌+◌, ◌<◌, ◌≤◌, ◌⊎◌, inl, inr, Bool, true, false, List, [], ◌∷◌, ◌++◌, length, refl, arith}
use Rattle.std.specs.Prelude.{if◌then◌else◌}
use Rattle.std.specs.List.{All, AllPairs}
use Rattle.std.proofs.lemmas.List.Elements.{All-nil, All-cons, All-head, All-tail, All-append, All-map, All-weaker}
use Rattle.std.proofs.lemmas.List.Kept.{AllPairs-cons}
use Rattle.civl_tree.specs.declared.stmt.Stmt.{Stmt}
use Rattle.civl_tree.specs.declared.program.Program.{Program}
use Rattle.civl_tree.specs.Numbering.{header_item, global_item, init_item, invariant_item, action_item, proc_item, thread_item, no_statement}
use Rattle.civl_tree.specs.rules.Codes.{number_of}
use Rattle.civl_tree.specs.rules.Rules.{Rule, Place, numbers_where, item_place, statement_places, each_place, global_places, invariant_places, action_places, proc_places, thread_places, places_of, refusal_at, refusals_of, refusals_by}
use Rattle.civl_tree.specs.rules.Broken.{NotAfter, TellsInOrder}
use Rattle.civl_tree.proofs.Pairs.{pairs_nil, pairs_one, pairs_head, pairs_tail, pairs_append, pairs_map, pairs_weaker}

-- ---- places

-- by item, then statement
abbrev Before : Place → Place → Type 0
Before first second = (first.item < second.item) ⊎ ((first.item ≡ second.item) × (first.statement ≤ second.statement))

abbrev Between : ℕ → ℕ → Place → Type 0
Between low high place = (low ≤ place.item) × (place.item < high)

-- these places stand in order, and their items are from this one to below that one
record Block (low high : ℕ) (places : List Place) : Type 0 where
  pairs : AllPairs Before places
  within : All (Between low high) places

empty_block : (low high : ℕ) → Block low high []
empty_block low high = record { pairs = pairs_nil Before; within = All-nil (Between low high) }

wider : (low high low' high' : ℕ) (places : List Place) → low' ≤ low → high ≤ high' → Block low high places → Block low' high' places
wider low high low' high' places l h block = record {
  pairs = block.pairs;
  within = All-weaker (Between low high) (Between low' high') (λ place w. let a = w.0 in let b = w.1 in (omega arith, omega arith)) places block.within;
}

join : (low mid high : ℕ) (xs ys : List Place) → low ≤ mid → mid ≤ high → Block low mid xs → Block mid high ys → Block low high (xs ++ ys)
join low mid high xs ys l h first second =
    let across : All (λ x. All (Before x) ys) xs = All-weaker (Between low mid) (λ x. All (Before x) ys) (λ x w. All-weaker (Between mid high) (Before x) (λ y v. let a = w.1 in let b = v.0 in inl (omega arith)) ys second.within) xs first.within in
    record {
      pairs = pairs_append Before xs ys first.pairs second.pairs across;
      within = All-append (Between low high) xs ys (wider low mid low high xs (omega arith) h first).within (wider mid high low high ys l (omega arith) second).within;
    }

item_block : (item : ℕ) (broken : Bool) → Block item (item + 1) (item_place item broken)
item_block item true = record { pairs = pairs_one Before _; within = All-cons (Between item (item + 1)) _ [] (omega arith, omega arith) (All-nil (Between item (item + 1))) }
item_block item false = empty_block item (item + 1)

statements_block : (item : ℕ) (numbers : List ℕ) → AllPairs (λ first second. first ≤ second) numbers → Block item (item + 1) (statement_places item numbers)
statements_block item numbers h = record {
  pairs = pairs_map Before (λ number. record { item = item; statement = number }) numbers (pairs_weaker (λ first second. first ≤ second) (λ first second. Before (record { item = item; statement = first }) (record { item = item; statement = second })) (λ first second l. inr (refl, l)) numbers h);
  within = All-map (Between item (item + 1)) (λ number. record { item = item; statement = number }) numbers (λ k d l. (omega arith, omega arith));
}

-- an item as a whole, and then its statements
inner_block : (item : ℕ) (broken : Bool) (numbers : List ℕ) → AllPairs (λ first second. first ≤ second) numbers → Block item (item + 1) (item_place item broken ++ statement_places item numbers)
inner_block item true numbers h =
    let rest = statements_block item numbers h in
    let here : Place = record { item = item; statement = no_statement } in
    record {
      pairs = AllPairs-cons Before here (statement_places item numbers) (All-map (Before here) (λ number. record { item = item; statement = number }) numbers (λ k d l. inr (refl, omega arith))) rest.pairs;
      within = All-cons (Between item (item + 1)) here (statement_places item numbers) (omega arith, omega arith) rest.within;
    }
inner_block item false numbers h = statements_block item numbers h

each_block : {A : Type 0} (f : ℕ → A → List Place) (base : ℕ) → ((n : ℕ) (x : A) → Block (base + n) (base + n + 1) (f n x)) → (from : ℕ) (items : List A) → Block (base + from) (base + from + length items) (each_place f from items)
unfolding each_place
each_block f base h from [] = empty_block _ _
each_block f base h from (x ∷ items) =
    let rest = each_block f base h (from + 1) items in
    join (base + from) (base + from + 1) (base + from + length (x ∷ items)) (f from x) (each_place f (from + 1) items) (omega arith) (omega arith) (h from x)
    (wider (base + (from + 1)) (base + (from + 1) + length items) (base + from + 1) (base + from + length (x ∷ items)) (each_place f (from + 1) items) (omega arith) (omega arith) rest)

-- ---- one rule

module _ (rule : Rule) (ordered : TellsInOrder rule) (program : Program) where
  abbrev end : ℕ
  end = thread_item program (length program.threads)

  threads_block : Block (thread_item program 0) end (each_place (thread_places rule program) 0 program.threads)
  threads_block =
      let b = each_block (thread_places rule program) (proc_item program (length program.procs)) (λ n x. item_block (thread_item program n) (rule.thread program n x)) 0 program.threads in
      wider _ _ (thread_item program 0) end (each_place (thread_places rule program) 0 program.threads) (omega arith) (omega arith) b

  procs_block : Block (proc_item program 0) (thread_item program 0) (each_place (proc_places rule program) 0 program.procs)
  procs_block =
      let b = each_block (proc_places rule program) (action_item program (length program.actions)) (λ n x. inner_block (proc_item program n) (rule.proc program n x) (rule.statements program n x) (ordered program n x)) 0 program.procs in
      wider _ _ (proc_item program 0) (thread_item program 0) (each_place (proc_places rule program) 0 program.procs) (omega arith) (omega arith) b

  actions_block : Block (action_item program 0) (proc_item program 0) (each_place (action_places rule program) 0 program.actions)
  actions_block =
      let b = each_block (action_places rule program) (invariant_item program (length program.invariants)) (λ n x. item_block (action_item program n) (rule.action program n x)) 0 program.actions in
      wider _ _ (action_item program 0) (proc_item program 0) (each_place (action_places rule program) 0 program.actions) (omega arith) (omega arith) b

  invariants_block : Block (invariant_item program 0) (action_item program 0) (each_place (invariant_places rule program) 0 program.invariants)
  invariants_block =
      let b = each_block (invariant_places rule program) (init_item program + 1) (λ n x. item_block (invariant_item program n) (rule.invariant program n x)) 0 program.invariants in
      wider _ _ (invariant_item program 0) (action_item program 0) (each_place (invariant_places rule program) 0 program.invariants) (omega arith) (omega arith) b

  globals_block : Block 0 (init_item program) (each_place (global_places rule program) 0 program.globals)
  globals_block =
      let b = each_block (global_places rule program) 0 (λ n x. wider (global_item program n) (global_item program n + 1) (0 + n) (0 + n + 1) (global_places rule program n x) (omega arith) (omega arith) (item_block (global_item program n) (rule.global program n x))) 0 program.globals in
      wider _ _ 0 (init_item program) (each_place (global_places rule program) 0 program.globals) (omega arith) (omega arith) b

  abbrev behind : List Place
  behind =
      each_place (global_places rule program) 0 program.globals
      ++ (item_place (init_item program) (rule.init program)
      ++ (each_place (invariant_places rule program) 0 program.invariants
      ++ (each_place (action_places rule program) 0 program.actions
      ++ (each_place (proc_places rule program) 0 program.procs
      ++ each_place (thread_places rule program) 0 program.threads))))

  behind_block : Block 0 end behind
  behind_block =
      join 0 (init_item program) end _ _ (omega arith) (omega arith) globals_block
      (join (init_item program) (invariant_item program 0) end _ _ (omega arith) (omega arith) (wider (init_item program) (init_item program + 1) (init_item program) (invariant_item program 0) _ (omega arith) (omega arith) (item_block (init_item program) (rule.init program)))
      (join (invariant_item program 0) (action_item program 0) end _ _ (omega arith) (omega arith) invariants_block
      (join (action_item program 0) (proc_item program 0) end _ _ (omega arith) (omega arith) actions_block
      (join (proc_item program 0) (thread_item program 0) end _ _ (omega arith) (omega arith) procs_block threads_block))))

  -- nothing comes before the header
  least : (item statement : ℕ) → Before (record { item = header_item; statement = no_statement }) (record { item = item; statement = statement })
  least zero statement = inr (refl, omega arith)
  least (suc item) statement = inl (omega arith)

  headed : (broken : Bool) (places : List Place) → AllPairs Before places → AllPairs Before (item_place header_item broken ++ places)
  headed true places h = AllPairs-cons Before (record { item = header_item; statement = no_statement }) places (λ k d l. least _ _) h
  headed false places h = h

  places_in_order : AllPairs Before (places_of rule program)
  unfolding places_of
  places_in_order = headed (rule.header program) behind behind_block.pairs

  pub refusals_in_order : AllPairs NotAfter (refusals_of rule program)
  refusals_in_order =
      pairs_map NotAfter (refusal_at rule.code) (places_of rule program)
      (pairs_weaker Before (λ first second. NotAfter (refusal_at rule.code first) (refusal_at rule.code second)) (λ first second b. inr (refl, b)) (places_of rule program) places_in_order)

-- ---- several rules

codes_of : (program : Program) (rule : Rule) → All (λ refusal. refusal.code ≡ number_of rule.code) (refusals_of rule program)
codes_of program rule = All-map (λ refusal. refusal.code ≡ number_of rule.code) (refusal_at rule.code) (places_of rule program) (λ k d l. refl)

-- what later rules tell has greater codes
codes_above : (program : Program) (n : ℕ) (rules : List Rule) → All (λ rule. n < number_of rule.code) rules → All (λ refusal. n < refusal.code) (refusals_by rules program)
codes_above program n [] h = All-nil (λ refusal. n < refusal.code)
codes_above program n (rule ∷ rules) h =
    let first : n < number_of rule.code = All-head (λ r. n < number_of r.code) rule rules h in
    All-append (λ refusal. n < refusal.code) (refusals_of rule program) (refusals_by rules program)
    (All-weaker (λ refusal. refusal.code ≡ number_of rule.code) (λ refusal. n < refusal.code) (λ refusal e. omega arith) (refusals_of rule program) (codes_of program rule))
    (codes_above program n rules (All-tail (λ r. n < number_of r.code) rule rules h))

abbrev pub CodesRise : Rule → Rule → Type 0
CodesRise first second = number_of first.code < number_of second.code

pub sorted : (program : Program) (rules : List Rule) → AllPairs CodesRise rules → All TellsInOrder rules → AllPairs NotAfter (refusals_by rules program)
sorted program [] rise tell = pairs_nil NotAfter
sorted program (rule ∷ rules) rise tell =
    let above = codes_above program (number_of rule.code) rules (pairs_head CodesRise rule rules rise) in
    pairs_append NotAfter (refusals_of rule program) (refusals_by rules program)
    (refusals_in_order rule (All-head TellsInOrder rule rules tell) program)
    (sorted program rules (pairs_tail CodesRise rule rules rise) (All-tail TellsInOrder rule rules tell))
    (All-weaker (λ refusal. refusal.code ≡ number_of rule.code) (λ refusal. All (NotAfter refusal) (refusals_by rules program))
    (λ refusal e. All-weaker (λ other. number_of rule.code < other.code) (NotAfter refusal) (λ other l. inl (omega arith)) (refusals_by rules program) above)
    (refusals_of rule program) (codes_of program rule))

-- ---- statements in their order

numbers_from : (breaks : Stmt → Bool) (from : ℕ) (stmts : List Stmt) → All (λ n. from ≤ n) (numbers_where breaks from stmts)
unfolding numbers_where
numbers_from breaks from [] = All-nil (λ n. from ≤ n)
numbers_from breaks from (stmt ∷ stmts) =
    let rest = All-weaker (λ n. from + 1 ≤ n) (λ n. from ≤ n) (λ n l. omega arith) (numbers_where breaks (from + 1) stmts) (numbers_from breaks (from + 1) stmts) in
    here (breaks stmt) rest
  where
    here : (b : Bool) → All (λ n. from ≤ n) (numbers_where breaks (from + 1) stmts) → All (λ n. from ≤ n) ((if b then from ∷ [] else []) ++ numbers_where breaks (from + 1) stmts)
    here true rest = All-cons (λ n. from ≤ n) from (numbers_where breaks (from + 1) stmts) (omega arith) rest
    here false rest = rest

pub where_in_order : (breaks : Stmt → Bool) (from : ℕ) (stmts : List Stmt) → AllPairs (λ first second. first ≤ second) (numbers_where breaks from stmts)
unfolding numbers_where
where_in_order breaks from [] = pairs_nil (λ first second. first ≤ second)
where_in_order breaks from (stmt ∷ stmts) = here (breaks stmt) (where_in_order breaks (from + 1) stmts)
  where
    here : (b : Bool) → AllPairs (λ first second. first ≤ second) (numbers_where breaks (from + 1) stmts) → AllPairs (λ first second. first ≤ second) ((if b then from ∷ [] else []) ++ numbers_where breaks (from + 1) stmts)
    here true rest =
        AllPairs-cons (λ first second. first ≤ second) from (numbers_where breaks (from + 1) stmts)
        (All-weaker (λ n. from + 1 ≤ n) (λ n. from ≤ n) (λ n l. omega arith) (numbers_where breaks (from + 1) stmts) (numbers_from breaks (from + 1) stmts)) rest
    here false rest = rest
