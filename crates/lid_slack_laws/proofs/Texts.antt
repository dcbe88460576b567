-- The text that tells the slack of each channel.
use Rattle.std.proofs.Common.{ℕ, ◌<◌, ◌≤◌, ◌⊎◌, inl, inr, List, [], length, get_or, Option, Some, None, zero-add, refl, sym, ◌∙◌, ap, subst, arith}
use Rattle.std.proofs.lemmas.Bool.{cases_lt}
use Rattle.lid_base.specs.Each.{from_each}
use Rattle.lid_base.proofs.Each.{each_length, each_at}
use Rattle.lid_base_lines.specs.Texts.{Words, lines_text}
use Rattle.lid_system.specs.declared.System.{System}
use Rattle.lid_system.specs.Systems.{IsWellFormed}
use Rattle.lid_stations.specs.declared.placement.Placement.{Placement}
use Rattle.lid_stations.specs.Placements.{Links, links_of, Fits}
use Rattle.lid_rate_ratio.specs.declared.lowest_terms.Ratio.{Ratio}
use Rattle.lid_slack.specs.Told.{IsEnd, IsNextRatio}
use Rattle.lid_size_text.specs.Slacks.{slack_words, IsNextWord, next_ratio_word, IsSlackLine, IsSlackText}
use Rattle.lid_slack_laws.specs.Laws.{HasSlack, PlacementsHaveSlackTexts}
use Rattle.lid_slack_laws.proofs.Had.{channels_have_slacks}

-- how the slack of a channel is told
next_word : (l : Links) (p : Placement) (c : ℕ) (h : HasSlack l p c) → IsNextWord l p c h.slack.added (next_ratio_word h.next)
next_word l p c h = by h.slack.against h.next h.told.against h.is_next
  where
    by : (against : Option (List ℕ)) (next : Option Ratio) → IsEnd l p c h.slack.added against → IsNextRatio l p c (record { added = h.slack.added; cert = h.slack.cert; against = against }) next → IsNextWord l p c h.slack.added (next_ratio_word next)
    by None None full is = inl (full, refl)
    by None (Some ratio) full is = cc
    by (Some walk) None ends is = absurd is
    by (Some walk) (Some ratio) ends is = inr (ratio.p, ratio.q, ends.0, is, refl)

module _ (s : System) (p : Placement) (well : IsWellFormed s) (fits : Fits s p) where
  abbrev words_by : (c : ℕ) → (c < length s.channels) ⊎ (length s.channels ≤ c) → Words
  words_by c (inl there) = let h = channels_have_slacks s p c well fits there in slack_words (links_of s) c h.slack.added (next_ratio_word h.next)
  words_by c (inr past) = []

  abbrev words : ℕ → Words
  words c = words_by c (cases_lt c (length s.channels))

  line_by : (c : ℕ) (d : (c < length s.channels) ⊎ (length s.channels ≤ c)) → c < length s.channels → IsSlackLine (links_of s) p c (words_by c d)
  line_by c (inl there) h =
      let has = channels_have_slacks s p c well fits there in
      record { added = has.slack.added; slack = has.told.added; next = next_ratio_word has.next; is_next = next_word (links_of s) p c has; are = refl }
  line_by c (inr past) h = absurd (omega arith)

  pub text_had : (text : List ℕ) × IsSlackText (links_of s) p text
  text_had = (
    lines_text (from_each words 0 (length s.channels)),
    record {
      lines = from_each words 0 (length s.channels);
      many = each_length words 0 (length s.channels);
      each = each;
      written = refl;
    },
  )
    where
      each : (c : ℕ) → c < length s.channels → IsSlackLine (links_of s) p c (get_or (from_each words 0 (length s.channels)) c [])
      each c h = subst (IsSlackLine (links_of s) p c) (sym (each_at words 0 (length s.channels) c [] h ∙ ap words (zero-add c))) (line_by c (cases_lt c (length s.channels)) h)

pub placements_have_slack_texts : PlacementsHaveSlackTexts
placements_have_slack_texts s p well fits = text_had s p well fits
