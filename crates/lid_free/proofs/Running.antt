-- A run from what it was set out with.
use Rattle.std.proofs.Common.{◌≡◌, ℕ, ◌<◌, ◌==◌, Bool, cond, List, length, map, refl, sym, ◌∙◌, ap, subst}
use Rattle.std.specs.Prelude.{Some, slice_get}
use Rattle.std.specs.Global.{Vec}
use Rattle.std.specs.Vec.{with_items}
use Rattle.std.proofs.lemmas.List.{with_items_is}
use Rattle.lid_base.specs.declared.runs.Tally.{Tally}
use Rattle.lid_station.specs.declared.pair.Pair.{Pair}
use Rattle.lid_walk_machine.specs.Plans.{actors_of, stations_of}
use Rattle.lid_walk_machine.specs.Setups.{plan}
use Rattle.lid_shell_laws.specs.Setups.{Setup}
use Rattle.lid_shell.specs.declared.actor.Actor.{Actor}
use Rattle.lid_free_crew.specs.Posts.{IsReady}
use Rattle.lid_free_crew.specs.declared.worker.Worker.{Worker}
use Rattle.lid_free_crew.specs.Crews.{HaveWorked}
use Rattle.lid_free.specs.Settings.{IsSetOut}
use Rattle.lid_free.specs.Gathering.{HasWorkedOut, AreGathered}
use Rattle.lid_free.specs.declared.setting.Boards.{Boards}
use Rattle.lid_free.specs.declared.setting.Crew.{Crew}
use Rattle.lid_free.specs.declared.setting.Setting.{Setting}
use Rattle.lid_free.proofs.Ready.{is_ready}

pub all_ready : (m : Setup) (workers : ℕ) (s : Setting) (seen : List Worker) → IsSetOut m workers s → seen ≡ s.crew.workers.items → (i : ℕ) (w : Worker) → slice_get seen i ≡ Some w → IsReady s.boards.board w
all_ready m workers s seen set same i w at_w =
    is_ready m s.boards.board workers set.crew.owners set.crew.dealt s.crew.workers.items set.crew.crew i w (ap (λ (l : List Worker). slice_get l i) (sym same) ∙ at_w)

pub worked_out : (m : Setup) (workers made : ℕ) (s : Setting) (seen news : List Worker) → IsSetOut m workers s → seen ≡ s.crew.workers.items → HaveWorked s.boards.board made seen news
    → HasWorkedOut m workers made s.boards (record { workers = with_items s.crew.workers news; actors = s.crew.actors; back = s.crew.back })
worked_out m workers made s seen news set same worked =
    let did : HaveWorked s.boards.board made s.crew.workers.items news = subst (λ (l : List Worker). HaveWorked s.boards.board made l news) same worked in
    record {
      given = set.given;
      old = s.crew;
      set = set.crew;
      worked = subst (HaveWorked s.boards.board made s.crew.workers.items) (sym (with_items_is s.crew.workers news (did.many ∙ sym s.crew.workers.ok.0))) did;
      actors_many = set.crew.actors_many;
      none = set.crew.none;
      capacity = set.crew.capacity;
    }

-- the tallies that were noted are those of the room
pub noted_in : (m : Setup) (workers made : ℕ) (s : Setting) (pairs : List Pair) (actors : List Actor) (news : List Tally) → IsSetOut m workers s → AreGathered m workers made pairs actors news
    → AreGathered m workers made pairs actors (with_items s.room.tallies news).items
noted_in m workers made s pairs actors news set g =
    subst (AreGathered m workers made pairs actors) (sym (with_items_is s.room.tallies news (g.tallies_many ∙ sym set.room.tallies ∙ sym s.room.tallies.ok.0))) g

-- the rounds that are made
pub made_is : (rows rounds : ℕ) (m : Setup) → length m.input ≡ rows → cond (rows == 0) 0 rounds ≡ cond (length m.input == 0) 0 rounds
made_is rows rounds m same = ap (λ (n : ℕ). cond (n == 0) 0 rounds) (sym same)
