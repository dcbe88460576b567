-- What is said of schedules that are read.
use Rattle.std.proofs.Common.{◌≡◌, ℕ, ◌+◌, ◌^◌, ◌<◌, ◌⊎◌, inl, inr, nat_lt, if◌then◌else◌, Bool, true, false, unwrap_or, List, [], ◌∷◌, map, Option, Some, None, sym, ap, subst, refl}
use Rattle.std.specs.Prelude.{Result, Ok, Err}
use Rattle.std.specs.List.{AllByRecursion, enumerate_from}
use Rattle.std.proofs.lemmas.Bool.{ltb-true}
use Rattle.lid_base.specs.declared.which.Which.TheVariants.{Words}
use Rattle.lid_base.specs.Lines.{logical_lines}
use Rattle.lid_base.specs.Numbers.{number, value_below}
use Rattle.lid_base_lines.specs.declared.limited.LinesFault.{LinesFault}
use Rattle.lid_base_lines.specs.Limited.{limited_fault}
use Rattle.lid_texts_runs.specs.declared.schedule.SchedFault.{SchedFault}
use Rattle.lid_texts_runs.specs.declared.schedule.SchedFault.TheVariants as schedule
use Rattle.lid_texts_runs.specs.Schedules.{schedule_reading, text_reading, actors_named, numbered_words, word_fault, actor_fault, first_some, ok_unless}
use Rattle.lid_top_refusals.specs.Faults.{schedule_line}
use Rattle.lid_top_script.specs.Scripts.{Reading, good, bad, schedule_good, schedule_read}
use Rattle.lid_top_script.specs.Causes.{Declines, stop_of_schedule}

pub schedule_is_good : (actors : ℕ) (bytes : List ℕ) (list : List ℕ) → schedule_reading actors bytes ≡ Ok list → schedule_read actors bytes ≡ good list
unfolding schedule_read
schedule_is_good actors bytes list h = ap schedule_good h

declined : {A : Type 0} (reading : Reading A) (e : SchedFault) → reading ≡ bad (schedule_line e) → Declines reading (stop_of_schedule e)
declined reading schedule.Memory h = tt
declined reading _ h = h

declines : (r : Result (List ℕ) SchedFault) (e : SchedFault) → (e ≡ schedule.Memory) ⊎ (r ≡ Err e) → Declines (schedule_good r) (stop_of_schedule e)
declines r e (inl m) = subst (λ f. Declines (schedule_good r) (stop_of_schedule f)) (sym m) tt
declines r e (inr h) = declined (schedule_good r) e (ap schedule_good h)

pub schedule_declines : (actors : ℕ) (bytes : List ℕ) (e : SchedFault) → (e ≡ schedule.Memory) ⊎ (schedule_reading actors bytes ≡ Err e) → Declines (schedule_read actors bytes) (stop_of_schedule e)
unfolding schedule_read
schedule_declines actors bytes e h = declines (schedule_reading actors bytes) e h

-- each actor of a schedule that reads is one of so many
module _ (actors : ℕ) where
  abbrev Below : List ℕ → Type 0
  Below = AllByRecursion (λ v. v < actors)

  by_value : (line : ℕ) (n : Option ℕ) → actor_fault actors line n ≡ None → unwrap_or n 0 < actors
  by_value line None h = absurd (cc)
  by_value line (Some n) h = by_test (nat_lt n actors) refl h
    where
      by_test : (b : Bool) → nat_lt n actors ≡ b → (if b then None else Some (schedule.NoActor line)) ≡ None → n < actors
      by_test true is h = ltb-true n actors is
      by_test false is h = absurd (cc)

  word_below : (k : ℕ) (w : ℕ × List ℕ) → word_fault actors (k, w) ≡ None → value_below (2 ^ 64) w.1 < actors
  word_below k w h = by_test (nat_lt 1000000 k) h
    where
      by_test : (b : Bool) → (if b then Some (schedule.Limit Words k) else actor_fault actors w.0 (number w.1)) ≡ None → value_below (2 ^ 64) w.1 < actors
      by_test true h = absurd (cc)
      by_test false h = by_value w.0 (number w.1) h

  all_some : (o : Option SchedFault) (os : List (Option SchedFault)) → first_some (o ∷ os) ≡ None → (o ≡ None) × (first_some os ≡ None)
  all_some None os h = (refl, h)
  all_some (Some fault) os h = absurd (cc)

  words_below : (k : ℕ) (words : List (ℕ × List ℕ)) → first_some (map (word_fault actors) (enumerate_from k words)) ≡ None → Below (actors_named words)
  words_below k [] h = tt
  words_below k (w ∷ words) h =
      let each = all_some (word_fault actors (k, w)) (map (word_fault actors) (enumerate_from (k + 1) words)) h in
      (word_below k w each.0, words_below (k + 1) words each.1)

  unless_below : (fault : Option SchedFault) (list read : List ℕ) → (fault ≡ None → Below list) → ok_unless fault list ≡ Ok read → Below read
  unless_below None list read below h = let is : list ≡ read = cc in subst Below is (below refl)
  unless_below (Some fault) list read below h = absurd (cc)

  text_below : (fault : Option LinesFault) (bytes : List ℕ) (read : List ℕ) → text_reading actors (logical_lines bytes) fault ≡ Ok read → Below read
  text_below None bytes read h =
      unless_below (first_some (map (word_fault actors) (enumerate_from 1 (numbered_words (logical_lines bytes))))) (actors_named (numbered_words (logical_lines bytes))) read
      (words_below 1 (numbered_words (logical_lines bytes))) h
  text_below (Some fault) bytes read h = absurd (cc)

  pub schedule_below : (bytes : List ℕ) (read : List ℕ) → schedule_reading actors bytes ≡ Ok read → Below read
  unfolding schedule_reading
  schedule_below bytes read h = text_below (limited_fault bytes) bytes read h
