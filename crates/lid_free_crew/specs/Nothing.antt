-- The tally in which nothing was counted.
use Rattle.lid_base.specs.declared.runs.Tally.{Tally}

-- nothing was counted
abbrev pub no_turns : Tally
no_turns = record { turns = 0; fired = 0; voids = 0; stops = 0; dones = 0 }
