use Rattle.std.proofs.Common.{◌≡◌, ◌∙◌, ◌++◌, List, ap, arith}
use Rattle.civl_meaning.specs.Rest.{rest_at}
use Rattle.civl_meaning.specs.declared.remaining.Numbered.{Numbered}
use Rattle.civl_meaning.specs.Remaining.{rest_of}
use Rattle.civl_goal_terms.proofs.Placing.{small, some_there, first_is, next_within, stands}
use Rattle.civl_goal_terms.proofs.places.find.Goals as goal

pub bounds-rest-0 : goal.bounds-rest-0
bounds-rest-0 c =
    let p = c.args.program.now in
    let q = c.get-proc.result.now in
    let items : rest_of c.as_slice-rest.result.now ≡ rest_at q.body c.args.number = ap rest_of c.as_slice-rest.ensures.value ∙ c.in_ok-push_among.ensures ∙ ap (λ (l : List Numbered). rest_of l ++ rest_at q.body c.args.number) c.new-rest.ensures.items in
    some_there p c.requires.layered c.requires.yields c.args.root c.args.number c.requires.there q c.get-proc.ensures c.as_slice-rest.result.now items

pub next_place-requires : goal.next_place-requires
next_place-requires c =
    let p = c.args.program.now in
    let q = c.get-proc.result.now in
    let items : rest_of c.as_slice-rest.result.now ≡ rest_at q.body c.args.number = ap rest_of c.as_slice-rest.ensures.value ∙ c.in_ok-push_among.ensures ∙ ap (λ (l : List Numbered). rest_of l ++ rest_at q.body c.args.number) c.new-rest.ensures.items in
    record {
      small = small p c.requires.layered c.requires.yields c.args.root c.args.number c.requires.there q c.get-proc.ensures;
      within = next_within p c.requires.layered c.requires.yields c.args.root c.args.number c.requires.there q c.get-proc.ensures c.as_slice-rest.result.now items;
    }

-- it is the number that was asked for
pub overflow_cast-result : goal.overflow_cast-result
overflow_cast-result c =
    let p = c.args.program.now in
    let q = c.get-proc.result.now in
    let items : rest_of c.as_slice-rest.result.now ≡ rest_at q.body c.args.number = ap rest_of c.as_slice-rest.ensures.value ∙ c.in_ok-push_among.ensures ∙ ap (λ (l : List Numbered). rest_of l ++ rest_at q.body c.args.number) c.new-rest.ensures.items in
    let own = first_is p c.requires.layered c.requires.yields c.args.root c.args.number c.requires.there q c.get-proc.ensures c.as_slice-rest.result.now items c.index-rest-0.result c.index-rest-0.result c.index-rest-0.is in
    omega (arith, own.0, c.ranges.number.fits)

pub returns-clause-is : goal.returns-clause-is
returns-clause-is c =
    let p = c.args.program.now in
    let q = c.get-proc.result.now in
    let items : rest_of c.as_slice-rest.result.now ≡ rest_at q.body c.args.number = ap rest_of c.as_slice-rest.ensures.value ∙ c.in_ok-push_among.ensures ∙ ap (λ (l : List Numbered). rest_of l ++ rest_at q.body c.args.number) c.new-rest.ensures.items in
    let s = stands p c.requires.layered c.requires.yields c.args.root c.args.number c.requires.there q c.get-proc.ensures c.as_slice-rest.result.now items c.index-rest-0.result c.index-rest-0.result c.next_place.result c.index-rest-0.is c.next_place.ensures in
    record {
      proc = c.get-proc.ensures;
      stmt = s.stmt;
      spot = s.spot;
      plain = s.stays;
      small = small p c.requires.layered c.requires.yields c.args.root c.args.number c.requires.there q c.get-proc.ensures;
    }

pub returns-clause-number : goal.returns-clause-number
returns-clause-number c =
    let p = c.args.program.now in
    let q = c.get-proc.result.now in
    let items : rest_of c.as_slice-rest.result.now ≡ rest_at q.body c.args.number = ap rest_of c.as_slice-rest.ensures.value ∙ c.in_ok-push_among.ensures ∙ ap (λ (l : List Numbered). rest_of l ++ rest_at q.body c.args.number) c.new-rest.ensures.items in
    (stands p c.requires.layered c.requires.yields c.args.root c.args.number c.requires.there q c.get-proc.ensures c.as_slice-rest.result.now items c.index-rest-0.result c.index-rest-0.result c.next_place.result c.index-rest-0.is c.next_place.ensures).same
