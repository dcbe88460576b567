-- What is known at the ends of stations, by the numbers of the ends.
use Rattle.std.specs.Prelude.{◌≡◌, ℕ, ◌+◌, ◌%◌, ◌<◌, ◌==◌, cond, true, false, List, [], ◌∷◌, Option, Some, None, option_map, slice_index_or, slice_set}
use Rattle.lid_station.specs.Boards.{Facts}
use Rattle.lid_board.specs.declared.view.EndFacts.{EndFacts}
use Rattle.lid_board.specs.declared.view.HandView.{HandView}

-- what is known at each end, by its number; nothing of an end that another has
abbrev pub EndTable : Type 0
EndTable = List (Option EndFacts)

-- what is known at an end
abbrev pub at : EndTable → ℕ → Option EndFacts
at ends end = slice_index_or ends end None

-- what is known of an end of which nothing is known
abbrev pub blank : EndFacts
blank = record { stream = []; start = 0; cap = 0; passed = 0; mark = false; misses = 0 }

abbrev pub held_of : Option EndFacts → EndFacts
held_of None = blank
held_of (Some h) = h

-- what is known at an end that is there
abbrev pub held : EndTable → ℕ → EndFacts
held ends end = held_of (at ends end)

-- 1 for an end that is there, else 0
abbrev pub one_of : Option EndFacts → ℕ
one_of None = 0
one_of (Some h) = 1

-- how often a view has an end
abbrev pub has : ℕ → HandView → ℕ
has end v = one_of (at v.ends end)

-- what a trait of stations sees of an end
abbrev pub facts : EndFacts → Facts
facts h = record { cap = h.cap; start = h.start; passed = h.passed; mark = h.mark; misses = Some h.misses }

-- what a trait of stations sees of ends
abbrev pub facts_at : EndTable → ℕ → Option Facts
facts_at ends end = option_map facts (at ends end)

-- how many tokens must have passed an end before a look there can miss: at a filled end the
-- capacity, at a drained one those that the station started with
abbrev pub sure : ℕ → EndFacts → ℕ
sure end h = cond (end % 2 == 0) h.cap h.start

-- no look missed at an end that fewer tokens passed
abbrev pub IsEarly : EndTable → Type 0
IsEarly ends = (end : ℕ) → (h : EndFacts) → at ends end ≡ Some h → h.passed < sure end h → h.misses ≡ 0

-- a token or room was seen
abbrev pub held_seen : EndFacts → EndFacts
held_seen h = record h { mark = true }

-- a look found none
abbrev pub missing : EndFacts → EndFacts
missing h = record h { misses = h.misses + 1 }

-- one token more passed
abbrev pub passing : EndFacts → EndFacts
passing h = record h { passed = h.passed + 1; mark = false }

-- what is known at one end has changed
abbrev pub changed : EndTable → ℕ → EndFacts → EndTable
changed ends end h = slice_set ends end (Some h)

-- what a hand knows once it made a step at an end, of which this is known then
abbrev pub stepped_at : HandView → ℕ → EndFacts → HandView
stepped_at v end h = record { ends = changed v.ends end h; steps = end ∷ v.steps }
