use Rattle.std.proofs.Common.{◌≡◌, drop}
use Rattle.lid_texts_runs.specs.Schedules.{numbered_words, actors_reading}
use Rattle.lid_texts_runs.proofs.schedule.push_lines.Given as goal

abbrev pub invariant-loop-line : goal.invariant-loop-line
invariant-loop-line l = actors_reading l.actors l.schedule.items (numbered_words (drop l.line-index l.lines)) ≡ actors_reading l.actors l.fn.schedule.items (numbered_words l.lines)
