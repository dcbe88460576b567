-- Actors of the interleaving machine: what an actor holds at each place of its firings.
use Rattle.std.specs.Prelude.{◌≡◌, ℕ, ◌+◌, ◌<◌, ◌≤◌, nat_lt, if◌then◌else◌, length, Some, slice_get}
use Rattle.lid_walk_machine.specs.Plans.{actors_of, ins_of, outs_of, cap, start_of}
use Rattle.lid_walk_machine.specs.Setups.{plan}
use Rattle.lid_shell_laws.specs.Setups.{Setup, IsSetup}
use Rattle.lid_walk_machine.specs.Machine.{Progress, takes_from, puts_from, ends_at}
use Rattle.lid_shell.specs.declared.actor.Actor.{Actor}
use Rattle.lid_shell.specs.declared.desk.Desk.{Desk}
use Rattle.lid_shell.specs.Parts.{IsRole}

-- the row whose bits the latches of a shell have: that of the firing to come, and from the first put of a firing
-- on the next one
abbrev pub row_number : Setup → ℕ → Progress → ℕ
row_number m v q = q.fired + (if nat_lt (puts_from (length (ins_of (plan m) v)) (length (outs_of (plan m) v))) q.position then 1 else 0)

-- the desk of actor v of a setup: its stations and cap, how far it is, and the tokens of a firing that has begun
pub record IsDesk (m : Setup) (v : ℕ) (q : Progress) (d : Desk) : Type 0 where
  pub drains : d.ins.items ≡ ins_of (plan m) v
  pub fills : d.outs.items ≡ outs_of (plan m) v
  pub capped : d.cap ≡ cap (plan m) v
  pub fired_is : d.fired ≡ q.fired
  pub position_is : d.position ≡ q.position
  pub taken_many : length d.taken.items ≡ length (ins_of (plan m) v)
  pub tokens_many : length d.tokens.items ≡ length (outs_of (plan m) v)
  pub kept :
      (i station : ℕ) → slice_get (ins_of (plan m) v) i ≡ Some station → takes_from (length (ins_of (plan m) v)) (length (outs_of (plan m) v)) + i < q.position
      → slice_get d.taken.items i ≡ Some ((plan m).token station q.fired)
  pub made :
      (j station : ℕ) → slice_get (outs_of (plan m) v) j ≡ Some station → puts_from (length (ins_of (plan m) v)) (length (outs_of (plan m) v)) < q.position
      → slice_get d.tokens.items j ≡ Some ((plan m).token station (start_of (plan m) station + q.fired))

-- how far an actor may be: at most at its cap, and within a firing only below it
pub record IsBegun (m : Setup) (v : ℕ) (q : Progress) : Type 0 where
  pub capped : q.fired ≤ cap (plan m) v
  pub below : 0 < q.position → q.fired < cap (plan m) v
  pub inside : 0 < q.position → q.position < ends_at (length (ins_of (plan m) v)) (length (outs_of (plan m) v))

-- actor v of a setup, that far
pub record IsActor (m : Setup) (v : ℕ) (q : Progress) (a : Actor) : Type 0 where
  pub rules : IsSetup m
  pub there : v < actors_of (plan m)
  pub far : IsBegun m v q
  pub at : IsDesk m v q a.desk
  pub is : IsRole m v q.fired (row_number m v q) a.part
