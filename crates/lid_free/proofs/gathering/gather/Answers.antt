use Rattle.std.proofs.Common.{◌≡◌, ℕ, List, length, map, sym, ◌∙◌, ap, subst, arith}
use Rattle.std.specs.Prelude.{Some, slice_get}
use Rattle.std.specs.Global.{Vec}
use Rattle.std.specs.Vec.{with_items}
use Rattle.std.proofs.lemmas.List.{with_items_is}
use Rattle.lid_board.specs.declared.hand.Hand.{Hand}
use Rattle.lid_shell_laws.specs.Setups.{Setup}
use Rattle.lid_shell.specs.declared.actor.Actor.{Actor}
use Rattle.lid_free_crew.specs.declared.worker.Worker.{Worker}
use Rattle.lid_free_crew.specs.Shares.{numbers_of}
use Rattle.lid_free_crew.specs.Crews.{AreBack, AreShared, HasJoined}
use Rattle.lid_free.specs.Gathering.{HasWorkedOut}
use Rattle.lid_free.specs.declared.setting.Boards.{Boards}
use Rattle.lid_free.specs.declared.setting.Crew.{Crew}
use Rattle.lid_free.proofs.Closing.{caps_are}
use Rattle.lid_free.proofs.Gathered.{dealt_to, hands_of, lefts_shared, keeps_all, gathered}
use Rattle.lid_free.proofs.gathering.gather.Goals as goal

pub take_back-requires-clause-dealt : goal.take_back-requires-clause-dealt
take_back-requires-clause-dealt c = λ i w at_w.
    let (m, workers, made, h, long) = c.requires in
    subst (λ (l : List Worker). length w.actors.items ≡ length (numbers_of (length l) i c.args.crew.actors)) (sym c.as_mut_slice.ensures.value)
    (dealt_to m workers made c.args.boards c.args.crew h i w (ap (λ (l : List Worker). slice_get l i) (sym c.as_mut_slice.ensures.value) ∙ at_w))

back : (many : ℕ) (into : List Actor) (seen items lefts : List Worker) → seen ≡ items → AreBack many into seen lefts → AreBack many into items lefts
back many into seen items lefts same is = subst (λ (l : List Worker). AreBack many into l lefts) same is

left : (many : ℕ) (into : List Actor) (v : Vec Worker) (lefts : List Worker) → AreBack many into v.items lefts → (with_items v lefts).items ≡ lefts
left many into v lefts is = with_items_is v lefts (is.crew_many ∙ sym v.ok.0)

joins : (m : Setup) (workers made : ℕ) (b : Boards) (crew : Crew) (h : HasWorkedOut m workers made b crew) (actors : List Actor) (lefts : List Worker) (is : AreBack crew.actors actors crew.workers.items lefts) (keeper : Hand)
    → (AreShared (length (with_items crew.workers lefts).items) h.set.owners (with_items crew.workers lefts).items → HasJoined (length (with_items crew.workers lefts).items) h.set.owners (with_items crew.workers lefts).items keeper)
    → HasJoined (length lefts) h.set.owners lefts keeper
joins m workers made b crew h actors lefts is keeper joined =
    subst (λ (l : List Worker). AreShared (length l) h.set.owners l → HasJoined (length l) h.set.owners l keeper) (left crew.actors actors crew.workers lefts is) joined
    (lefts_shared m workers made b crew h actors lefts is)

pub join_all-requires-clause-hands : goal.join_all-requires-clause-hands
join_all-requires-clause-hands c = λ i w at_w.
    let (m, workers, made, h, long) = c.requires in
    let is = back c.args.crew.actors c.take_back.new.into.items c.as_mut_slice.result.now c.args.crew.workers.items c.take_back.new.crew c.as_mut_slice.ensures.value c.take_back.ensures in
    hands_of m workers made c.args.boards c.args.crew h c.take_back.new.into.items c.take_back.new.crew is i w
    (ap (λ (l : List Worker). slice_get l i) (sym (left c.args.crew.actors c.take_back.new.into.items c.args.crew.workers c.take_back.new.crew is)) ∙ at_w)

pub close-requires-clause-all : goal.close-requires-clause-all
close-requires-clause-all c =
    let (m, workers, made, h, long) = c.requires in
    let is = back c.args.crew.actors c.take_back.new.into.items c.as_mut_slice.result.now c.args.crew.workers.items c.take_back.new.crew c.as_mut_slice.ensures.value c.take_back.ensures in
    keeps_all m workers made c.args.boards c.args.crew h c.take_back.new.into.items c.take_back.new.crew is c.join_all.new.keeper
    (joins m workers made c.args.boards c.args.crew h c.take_back.new.into.items c.take_back.new.crew is c.join_all.new.keeper (c.join_all.ensures.joined h.set.owners))

pub close-requires-clause-caps : goal.close-requires-clause-caps
close-requires-clause-caps c =
    let (m, workers, made, h, long) = c.requires in
    caps_are m c.args.boards.board c.args.boards.plain.pairs.items h.set.crew.started h.given.plain

pub returns : goal.returns
returns c = λ m workers made h.
    let is = back c.args.crew.actors c.take_back.new.into.items c.as_mut_slice.result.now c.args.crew.workers.items c.take_back.new.crew c.as_mut_slice.ensures.value c.take_back.ensures in
    gathered m workers made c.args.boards c.args.crew h c.take_back.new.into.items c.take_back.new.crew is c.join_all.new.keeper
    (joins m workers made c.args.boards c.args.crew h c.take_back.new.into.items c.take_back.new.crew is c.join_all.new.keeper (c.join_all.ensures.joined h.set.owners))
    c.close.new.into.pairs.items c.join_all.new.tallies c.close.ensures.many c.close.ensures.ends c.close.ensures.stands
    (c.join_all.ensures.tallies ∙ ap (map (λ (w : Worker). w.tally)) (left c.args.crew.actors c.take_back.new.into.items c.args.crew.workers c.take_back.new.crew is))
