-- What answers say, as they are told.
use Rattle.std.proofs.Common.{◌≡◌, ◌⊎◌, inl, inr, ℕ, ◌+◌, ◌<◌, ◌≤◌, List, [], ◌∷◌, ◌++◌, slice_index_or, Option, Some, None, refl, sym, ◌∙◌, ap, subst, append-nil, arith}
use Rattle.std.proofs.lemmas.Bool.{cases_lt}
use Rattle.std.proofs.lemmas.List.{length-append, get_or_append_left, get_or_push}
use Rattle.lid_base_lines.specs.Texts.{Words, line_text, lines_text}
use Rattle.lid_base_lines.proofs.Pieces.{lines_text_append}
use Rattle.lid_rate_ratio.specs.declared.lowest_terms.Ratio.{Ratio}
use Rattle.lid_slack.specs.declared.answer.PlainSlack.{PlainSlack}
use Rattle.lid_slack.specs.Told.{HasNextRatio, IsSlackAndNext}
use Rattle.lid_stations.specs.declared.placement.Placement.{Placement}
use Rattle.lid_stations.specs.Placements.{Links}
use Rattle.lid_size_text.specs.Slacks.{slack_words, next_ratio_word, IsNextWord, IsSlackLine, AreSlackLines}

module _ (l : Links) (p : Placement) where
  next_is : (c x : ℕ) (next : Option Ratio) → HasNextRatio l p c x next → IsNextWord l p c x (next_ratio_word next)
  next_is c x None full = inl (full, refl)
  next_is c x (Some ratio) more = inr (ratio.p, ratio.q, more.0, more.1, refl)

  -- the line of a channel's slack
  pub line_is : (c : ℕ) (found : PlainSlack) → IsSlackAndNext l p c found → IsSlackLine l p c (slack_words l c found.added (next_ratio_word found.next))
  line_is c found is = record { added = found.added; slack = is.added; next = next_ratio_word found.next; is_next = next_is c found.added found.next is.next; are = refl }

  -- no line yet
  pub none_yet : (text : List ℕ) → text ≡ [] → AreSlackLines l p 0 text
  none_yet text is = record { lines = []; many = refl; each = λ c h. absurd (omega arith); written = is }

  -- and one more
  pub one_more : (count : ℕ) (text new : List ℕ) (words : Words) → AreSlackLines l p count text → IsSlackLine l p count words → new ≡ text ++ line_text words → AreSlackLines l p (count + 1) new
  one_more count text new words are line is = record {
    lines = are.lines ++ words ∷ [];
    many = (let long = length-append are.lines (words ∷ []) in let many = are.many in omega arith);
    each = λ c h. by_order c h (cases_lt c count);
    written = is ∙ ap (λ (xs : List ℕ). xs ++ line_text words) are.written ∙ last;
  }
    where
      last : lines_text are.lines ++ line_text words ≡ lines_text (are.lines ++ words ∷ [])
      last = sym (lines_text_append are.lines (words ∷ []) ∙ ap (λ (xs : List ℕ). lines_text are.lines ++ xs) (append-nil (line_text words)))

      by_order : (c : ℕ) → c < count + 1 → (c < count) ⊎ (count ≤ c) → IsSlackLine l p c (slice_index_or (are.lines ++ words ∷ []) c [])
      by_order c h (inl less) = subst (IsSlackLine l p c) (sym (get_or_append_left are.lines (words ∷ []) [] c (let many = are.many in omega arith))) (are.each c less)
      by_order c h (inr more) =
          let is : count ≡ c = omega arith in
          subst (IsSlackLine l p c) (sym (get_or_push are.lines words [] c (are.many ∙ is))) (subst (λ (n : ℕ). IsSlackLine l p n words) is line)
