use Rattle.std.proofs.Common.{◌≡◌, ◌++◌, ℕ, List, drop}
use Rattle.lid_texts_runs.specs.Schedules.{words_on_line, actors_reading}
use Rattle.lid_texts_runs.proofs.schedule.push_line.Given as goal

abbrev pub invariant-loop-word : goal.invariant-loop-word
invariant-loop-word l =
    (later : List (ℕ × List ℕ)) → actors_reading l.actors l.schedule.items (words_on_line l.line.number (drop l.word-index l.line.words) ++ later) ≡ actors_reading l.actors l.fn.schedule.items (words_on_line l.line.number l.line.words ++ later)
