use Rattle.std.proofs.Common.{◌≡◌, ℕ, suc, ◌+◌, ◌-◌, ◌%◌, ◌<◌, List, [], ◌∷◌, ◌++◌, length, get_or, set, reverse, refl, sym, ◌∙◌, ap, subst, arith}
use Rattle.std.specs.Prelude.{Some, slice_get, IsSome, Option}
use Rattle.std.proofs.Math.Nat.{mod-lt}
use Rattle.std.proofs.lemmas.List.{with_items_is}
use Rattle.std.proofs.lemmas.Option.{slice_get-get_or}
use Rattle.lid_shell.specs.declared.actor.Actor.{Actor}
use Rattle.lid_free_crew.specs.declared.worker.Worker.{Worker}
use Rattle.lid_free_crew.specs.Crews.{IsSameBut}
use Rattle.lid_free_crew.proofs.Picking.{AreBackFrom, some_left, back_more, all_back}
use Rattle.lid_free_crew.proofs.gathering.take_back.Goals as goal

-- the worker whose turn it is to give one back
module _ (left many : ℕ) (into : List Actor) (old now : List Worker) (d : Worker) (some : 0 < length old) (more : 0 < left) (back : AreBackFrom left many into old now) where
  abbrev place : ℕ
  place = (left - 1) % length now

  there : slice_get now place ≡ Some (get_or now place d)
  there = slice_get-get_or now place d (let same = back.crew_many in mod-lt (left - 1) (omega arith))

  one_less : AreBackFrom (suc (left - 1)) many into old now
  one_less = let e : left ≡ suc (left - 1) = omega arith in subst (λ (n : ℕ). AreBackFrom n many into old now) e back

  is_place : place ≡ (left - 1) % length old
  is_place = ap (λ (n : ℕ). (left - 1) % n) back.crew_many

  can_give : 0 < length (get_or now place d).actors.items
  can_give = some_left (left - 1) many into old now one_less place (get_or now place d) (get_or now place d) there is_place

  gave : (a : Actor) (x : Worker) → IsSameBut (get_or now place d) x → (get_or now place d).actors.items ≡ x.actors.items ++ a ∷ [] → AreBackFrom (left - 1) many (into ++ a ∷ []) old (set now place x)
  gave a x same popped = back_more (left - 1) many into old now one_less place (get_or now place d) x there is_place a same popped

pub loop-left-preserved-in-Some : goal.loop-left-preserved-in-Some
loop-left-preserved-in-Some c =
    let now = c.loop-left.crew in
    let left = c.loop-left.left in
    let w = get_or now ((left - 1) % length now) c.index-crew-worker.result in
    let x : Worker = record { number = w.number; actors = c.pop.new.self; hand = w.hand; tally = w.tally } in
    record {
      back =
          subst (λ (l : List Actor). AreBackFrom (left - 1) c.args.many l c.args.crew.now (set now ((left - 1) % length now) x)) (sym c.push_reserved.ensures.items)
          (gave left c.args.many c.loop-left.into.items c.args.crew.now now c.index-crew-worker.result c.requires.some c.loop-left-test.true c.loop-left.invariant.back
          c.in-Some.actor x (record { number = refl; hand = refl; tally = refl }) c.in-Some.ensures.items);
      room = c.push_reserved.ensures.capacity ∙ c.loop-left.invariant.room;
    }

pub loop-left-preserved : goal.loop-left-preserved
loop-left-preserved c =
    let some = can_give c.loop-left.left c.args.many c.loop-left.into.items c.args.crew.now c.loop-left.crew c.index-crew-worker.result c.requires.some c.loop-left-test.true c.loop-left.invariant.back in
    let long = (get_or c.loop-left.crew ((c.loop-left.left - 1) % length c.loop-left.crew) c.index-crew-worker.result).actors.ok.0 in
    absurd (let e = subst (λ (o : Option Actor). IsSome o) c.in_default.is (c.pop.ensures.variant.1 (omega arith)) in cc)

pub returns : goal.returns
returns c =
    let none = c.loop-left-test.false in
    let zero_ : c.loop-left.left ≡ 0 = omega arith in
    let back = subst (λ (n : ℕ). AreBackFrom n c.args.many c.loop-left.into.items c.args.crew.now c.loop-left.crew) zero_ c.loop-left.invariant.back in
    let turned : c.reverse.new.self ≡ reverse c.loop-left.into.items = c.reverse.ensures.after ∙ ap reverse c.as_mut_slice.ensures.value in
    let long : length c.reverse.new.self ≡ c.loop-left.into.len = c.reverse.ensures.len ∙ c.as_mut_slice.ensures.len in
    all_back c.args.many c.loop-left.into.items _ c.args.crew.now c.loop-left.crew back (with_items_is c.loop-left.into c.reverse.new.self long ∙ turned)
