-- Schedules as texts: which actor steps next, in order.
use Rattle.std.specs.Prelude.{ℕ, ◌+◌, ◌^◌, nat_lt, if◌then◌else◌, List, [], ◌∷◌, ◌++◌, length, map, Option, Some, None, Result, Ok, Err}
use Rattle.std.specs.List.{enumerate_from, flat_map}
use Rattle.lid_base.specs.declared.line.Line.{Line}
use Rattle.lid_base.specs.declared.which.Which.TheVariants.{FileBytes, Words}
use Rattle.lid_base.specs.Lines.{logical_lines}
use Rattle.lid_base.specs.Numbers.{number, value_below}
use Rattle.lid_base_lines.specs.declared.limited.LinesFault.{LinesFault}
use Rattle.lid_base_lines.specs.declared.limited.LinesFault.TheVariants as limited
use Rattle.lid_base_lines.specs.Limited.{limited_fault}
use Rattle.lid_texts_runs.specs.declared.schedule.SchedFault.{SchedFault}
use Rattle.lid_texts_runs.specs.declared.schedule.SchedFault.TheVariants.{Word, NoActor, Limit, Memory}

-- words, each with the number of its line
abbrev pub words_on_line : ℕ → List (List ℕ) → List (ℕ × List ℕ)
words_on_line line words = map (λ word. (line, word)) words

-- all words of a text
abbrev pub numbered_words : List Line → List (ℕ × List ℕ)
numbered_words lines = flat_map (λ line. words_on_line line.number line.words) lines

-- a word on a line that names no actor
abbrev pub actor_fault : ℕ → ℕ → Option ℕ → Option SchedFault
actor_fault actors line None = Some (Word line)
actor_fault actors line (Some n) = if nat_lt n actors then None else Some (NoActor line)

-- what is at fault in the k-th word, counted from 1
abbrev pub word_fault : ℕ → ℕ × (ℕ × List ℕ) → Option SchedFault
word_fault actors p = if nat_lt 1000000 p.0 then Some (Limit Words p.0) else actor_fault actors p.1.0 (number p.1.1)

abbrev pub first_some : {A : Type 0} → List (Option A) → Option A
first_some [] = None
first_some (None ∷ options) = first_some options
first_some (Some a ∷ options) = Some a

-- the actors that words name
abbrev pub actors_named : List (ℕ × List ℕ) → List ℕ
actors_named words = map (λ p. value_below (2 ^ 64) p.1) words

abbrev pub ok_unless : {A : Type 0} → Option SchedFault → A → Result A SchedFault
ok_unless None a = Ok a
ok_unless (Some fault) a = Err fault

-- the schedule, or the fault of the first word that has one, where so many words stand before these
abbrev pub actors_reading : ℕ → List ℕ → List (ℕ × List ℕ) → Result (List ℕ) SchedFault
actors_reading actors done words =
    ok_unless (first_some (map (word_fault actors) (enumerate_from (length done + 1) words))) (done ++ actors_named words)

-- how a fault of the lines is told
abbrev pub told : LinesFault → SchedFault
told (limited.TooLong bytes) = Limit FileBytes bytes
told (limited.Word line) = Word line
told limited.Memory = Memory

abbrev pub text_reading : ℕ → List Line → Option LinesFault → Result (List ℕ) SchedFault
text_reading actors lines None = actors_reading actors [] (numbered_words lines)
text_reading actors lines (Some fault) = Err (told fault)

-- the schedule that a text stands for, or its fault
unfoldable pub schedule_reading : ℕ → List ℕ → Result (List ℕ) SchedFault
schedule_reading actors bytes = text_reading actors (logical_lines bytes) (limited_fault bytes)
