-- The search for a channel by its ends.
use Rattle.std.proofs.Common.{◌≡◌, ℕ, ◌+◌, ◌<◌, true, false, List, length, get_or, Option, Some, None, inl, inr, subst, sym, ap, ◌∙◌, arith}
use Rattle.std.specs.Prelude.{◌&&◌}
use Rattle.std.specs.List.Sorted.{IsPartitionedBy, IsPartitionPoint}
use Rattle.std.proofs.lemmas.Bool.{cases_lt, and_right}
use Rattle.std.proofs.lemmas.Bool.Decides.{nat_tests}
use Rattle.std.proofs.lemmas.Option.{slice_get-get_or}
use Rattle.lid_base.specs.Numbers.{number}
use Rattle.lid_base.specs.Words.{word_at}
use Rattle.lid_stations.specs.Placements.{Links}
use Rattle.lid_system.specs.declared.Channel.{Channel}
use Rattle.lid_system.specs.Systems.{Precedes}
use Rattle.lid_stations_text.specs.declared.channels.Ends.{Ends}
use Rattle.lid_stations_text.specs.Channels.{comes_before, is_between, AreInOrder}
use Rattle.lid_stations_text.specs.Faults.{node_by, is_number, names_channel, place_where, channel_of}
use Rattle.lid_stations_text.proofs.FirstPlaces.{first_at, first_none, first_never}

-- what stands before the ends is not between them
before_not_between : (e : Ends) (c : Channel) → comes_before e c ≡ true → is_between e c ≡ false
before_not_between e c h = grind (arith, nat_tests)

-- what precedes a channel before the ends stands before them too
before_down : (e : Ends) (c d : Channel) → Precedes c d → comes_before e d ≡ true → comes_before e c ≡ true
before_down e c d p h = grind (arith, nat_tests)

-- after a channel that stands neither before the ends nor between them, none is between them
after_not_between : (e : Ends) (c d : Channel) → Precedes c d → comes_before e c ≡ false → is_between e c ≡ false → is_between e d ≡ false
after_not_between e c d p b n = grind (arith, nat_tests)

pub partitioned : (channels : List Channel) (e : Ends) → AreInOrder channels → IsPartitionedBy (comes_before e) channels
partitioned channels e order i j d le below h =
    elim (cases_lt i j) [
      | inl less ↦ before_down e (get_or channels i d) (get_or channels j d) (order i j _ _ less (slice_get-get_or channels i d (omega arith)) (slice_get-get_or channels j d below)) h
      | inr more ↦ let same' : j ≡ i = omega arith in subst (λ (k : ℕ). comes_before e (get_or channels k d) ≡ true) same' h
    ]

module _ (channels : List Channel) (e : Ends) (place : ℕ) (order : AreInOrder channels) (cut : IsPartitionPoint (λ c. comes_before e c ≡ true) (λ c. comes_before e c ≡ false) channels place) where
  pub found : (d : Channel) → place < length channels → is_between e (get_or channels place d) ≡ true → place_where (is_between e) 0 channels ≡ Some place
  found d inside is =
      first_at (is_between e) 0 channels place d inside (λ k h. before_not_between e (get_or channels k d) (cut.0 k d (omega arith) h)) is
      ∙ (let z : 0 + place ≡ place = omega arith in ap Some z)

  pub not_found : (place < length channels → (d : Channel) → is_between e (get_or channels place d) ≡ false) → place_where (is_between e) 0 channels ≡ None
  not_found is_not = first_none (is_between e) 0 channels each
    where
      past : (k : ℕ) (d : Channel) → place < k → k < length channels → is_between e (get_or channels k d) ≡ false
      past k d less h =
          after_not_between e (get_or channels place d) (get_or channels k d) (order place k (get_or channels place d) (get_or channels k d) less (slice_get-get_or channels place d (omega arith)) (slice_get-get_or channels k d h)) (cut.1 place d (omega arith) (omega arith)) (is_not (omega arith) d)

      each : (k : ℕ) (d : Channel) → k < length channels → is_between e (get_or channels k d) ≡ false
      each k d h =
          elim (cases_lt k place) [
            | inl less ↦ before_not_between e (get_or channels k d) (cut.0 k d (omega arith) less)
            | inr more ↦
                elim (cases_lt place k) [
                  | inl less ↦ past k d less h
                  | inr no_more ↦ let same' : place ≡ k = omega arith in subst (λ (j : ℕ). is_between e (get_or channels j d) ≡ false) same' (is_not (omega arith) d)
                ]
          ]

module _ (l : Links) (words : List (List ℕ)) where
  pub no_from : node_by l.nodes (word_at words 0) ≡ None → channel_of l words ≡ None
  no_from e = first_never (names_channel l words) l.channels (λ c. ap (λ (o : Option ℕ). is_number o c.from && (is_number (node_by l.nodes (word_at words 1)) c.to && is_number (number (word_at words 2)) c.piece)) e)

  pub no_to : node_by l.nodes (word_at words 1) ≡ None → channel_of l words ≡ None
  no_to e = first_never (names_channel l words) l.channels (λ c. and_right _ _ (ap (λ (o : Option ℕ). is_number o c.to && is_number (number (word_at words 2)) c.piece) e))

  pub no_piece : number (word_at words 2) ≡ None → channel_of l words ≡ None
  no_piece e = first_never (names_channel l words) l.channels (λ c. and_right _ _ (and_right _ _ (ap (λ (o : Option ℕ). is_number o c.piece) e)))

  named_by : Option ℕ → Option ℕ → Option ℕ → Option ℕ
  named_by from to piece = place_where (λ c. is_number from c.from && (is_number to c.to && is_number piece c.piece)) 0 l.channels

  pub by_ends : (e : Ends) → node_by l.nodes (word_at words 0) ≡ Some e.from → node_by l.nodes (word_at words 1) ≡ Some e.to → number (word_at words 2) ≡ Some e.piece → place_where (is_between e) 0 l.channels ≡ channel_of l words
  unfolding named_by
  by_ends e from to piece =
      ap (λ (o : Option ℕ). named_by o (Some e.to) (Some e.piece)) (sym from)
      ∙ ap (λ (o : Option ℕ). named_by (node_by l.nodes (word_at words 0)) o (Some e.piece)) (sym to)
      ∙ ap (λ (o : Option ℕ). named_by (node_by l.nodes (word_at words 0)) (node_by l.nodes (word_at words 1)) o) (sym piece)
