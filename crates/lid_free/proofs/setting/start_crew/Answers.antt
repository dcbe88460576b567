use Rattle.std.proofs.Common.{◌≡◌, ◌*◌, List, length, sym, ◌∙◌, ap, subst, arith}
use Rattle.std.specs.Vec.{with_items}
use Rattle.std.proofs.lemmas.List.{with_items_is}
use Rattle.lid_stations.specs.Placed.{Placing, IsPlaced}
use Rattle.lid_shell_laws.specs.Setups.{Setup}
use Rattle.lid_texts_packed.specs.Input.{input_of}
use Rattle.lid_walk.specs.Setups.{IsSetupOf}
use Rattle.lid_walk.proofs.Opening.{setup_of}
use Rattle.lid_free_crew.specs.declared.worker.Worker.{Worker}
use Rattle.lid_free_crew.specs.Crews.{AreDealt}
use Rattle.lid_free.specs.Settings.{AreBoards}
use Rattle.lid_free.specs.Workers.{AreOwners, IsCrew}
use Rattle.lid_free.proofs.Crewing.{all_owned, none_seen, crew_so}
use Rattle.lid_free.proofs.setting.start_crew.Goals as goal

some : (c : goal.After-as_slice) → (m : Setup) × IsSetupOf m c.args.placed.now.system c.args.placed.now.placement (input_of c.args.rows)
some c =
    let q = c.requires in
    let s = c.args.placed.now.system in
    let p = c.args.placed.now.placement in
    let placed : IsPlaced s p = subst (λ (v : Placing). IsPlaced v.system v.placement) c.placed.view_is c.placed.invariant in
    setup_of s p (input_of c.args.rows) placed.formed placed.fits q.few q.wide (c.runs_go_by_rules.ensures.some s placed.formed)

are : (c : goal.After-as_slice) → AreBoards (some c).0 c.args.boards.now
are c = c.requires.boards (some c).0 (some c).1

pub hire-requires-clause-of : goal.hire-requires-clause-of
hire-requires-clause-of c = (are c).of

pub hire-requires-clause-many : goal.hire-requires-clause-many
hire-requires-clause-many c =
    let long = c.in_ok-owners.ensures.many_are in
    let value = ap length c.as_slice.ensures.value in
    let many = (are c).board.many in
    let m = some c in
    let caps = m.1.rules.fits.rules.caps in
    let same = ap (λ p. length p.caps) m.1.placement in
    omega arith

pub hire-requires-clause-there : goal.hire-requires-clause-there
hire-requires-clause-there c = all_owned (some c).0 c.args.boards.now.board (are c).board

pub hire-requires-clause-unseen : goal.hire-requires-clause-unseen
hire-requires-clause-unseen c = none_seen (some c).0 c.args.boards.now.board (are c).board

pub hire-requires-clause-all : goal.hire-requires-clause-all
hire-requires-clause-all c = (are c).all

pub returns-clause-crew : goal.returns-clause-crew
returns-clause-crew c = λ m of.
    let q = c.requires in
    let hired : c.as_mut_slice.result.now ≡ c.in_ok-hired.hired.items = c.as_mut_slice.ensures.value in
    let was = c.in_ok-hired.ensures.hired in
    let dealt = subst (λ (l : List Worker). AreDealt c.in_ok-dealt.dealt.items l c.deal.new.crew) hired c.in_ok-deal.ensures in
    let after : (with_items c.in_ok-hired.hired c.deal.new.crew).items ≡ c.deal.new.crew = with_items_is c.in_ok-hired.hired c.deal.new.crew (dealt.many ∙ sym c.in_ok-hired.hired.ok.0) in
    let actors = c.in_ok-dealt.ensures m of in
    record {
      owners = c.as_slice.result.now;
      dealt = c.in_ok-dealt.dealt.items;
      crew =
          subst (λ (l : List Worker). IsCrew m c.args.boards.now.board c.args.workers c.as_slice.result.now c.in_ok-dealt.dealt.items l) (sym after)
          (crew_so m c.args.placed.now.system c.args.placed.now.placement (input_of c.args.rows) c.args.boards.now.board c.args.workers c.as_slice.result.now c.in_ok-dealt.dealt.items c.in_ok-hired.hired.items c.deal.new.crew
          of q.some (subst (λ l. AreOwners c.args.placed.now.system c.args.placed.now.placement (2 * length c.args.placed.now.placement.caps) l) (sym c.as_slice.ensures.value) c.in_ok-owners.ensures)
          actors (q.boards m of).board was dealt);
      actors_many = c.len-actors.ensures ∙ c.in_ok-dealt.dealt.ok.0 ∙ actors.many;
      none = c.in_ok-with_capacity.ensures.items;
      capacity = c.in_ok-with_capacity.ensures.capacity;
    }
