-- The slack of a channel: whether a ratio is kept is decided for each number of further relay stations, and the first that
-- is kept where one more is not is the slack.
use Rattle.std.proofs.Common.{◌≡◌, ℕ, zero, suc, ◌+◌, ◌*◌, ◌<◌, ◌≤◌, ◌⊎◌, inl, inr, true, length, Option, Some, None, refl, ◌∙◌, ap, subst, add-one, arith}
use Rattle.std.proofs.lemmas.Bool.{cases_lt}
use Rattle.std.proofs.lemmas.List.{get_or_default}
use Rattle.lid_graph.specs.declared.graph.Graph.{Graph}
use Rattle.lid_graph.specs.Rateable.{IsRateable}
use Rattle.lid_system.specs.declared.System.{System}
use Rattle.lid_system.specs.Systems.{IsWellFormed}
use Rattle.lid_stations.specs.declared.placement.Placement.{Placement}
use Rattle.lid_stations.specs.Placements.{Links, links_of, Fits}
use Rattle.lid_stations.specs.Markings.{marking}
use Rattle.lid_stations.proofs.Alive.{rateable}
use Rattle.lid_cert.specs.declared.cert.Part.{Part}
use Rattle.lid_cert.specs.declared.cert.Cert.{Cert}
use Rattle.lid_cert.specs.Certificates.{has_node, no_part, part_at}
use Rattle.lid_cert.specs.Laws.{ShowsTransition}
use Rattle.lid_cert.proofs.Consequences.{each_is_shown}
use Rattle.lid_rate_ratio.specs.declared.lowest_terms.Ratio.{Ratio}
use Rattle.lid_rate_laws.specs.Laws.{IsFullCertificate}
use Rattle.lid_rate_laws.proofs.Firsts.{IsFirst, first_of}
use Rattle.lid_rate_laws.proofs.Certified.{has_certificate}
use Rattle.lid_slack_longer.specs.Longer.{longer, longer_marking, producer, room, KeepsAt}
use Rattle.lid_slack_longer.proofs.Kept.{longer_fits, none_keep}
use Rattle.lid_slack.specs.declared.answer.Slack.{Slack}
use Rattle.lid_slack.specs.declared.certified.Certified.{Certified}
use Rattle.lid_slack.specs.Told.{IsCertified}
use Rattle.lid_slack.specs.Trials.{CanTry, IsTrial, IsPresent, IsMost, IsFoundSlack}
use Rattle.lid_slack.proofs.Tried.{producer_within, trial_is, certified_within, present_is, kept, not_kept, against, told_is, lower_found}
use Rattle.lid_slack_laws.specs.Laws.{HasSlack, ChannelsHaveSlacks, SlacksAreUnique}

-- the part of a certificate that has a transition, by its number
pub record HasNumber (cert : Cert) (v : ℕ) : Type 0 where
  pub number : ℕ
  pub within : number < length cert.parts
  pub stands : has_node (part_at cert.parts number) v ≡ true

pub has_number : (g : Graph) (cert : Cert) (v : ℕ) → IsFullCertificate g cert → IsRateable g → v < g.nodes → HasNumber cert v
has_number g cert v full ok below = from_part (each_is_shown g cert v ok.paired full.certifies below)
  where
    from_part : (part : Part) × ShowsTransition g cert part v → HasNumber cert v
    from_part h =
        let at = h.1.stands in
        let same : part_at cert.parts at.0 ≡ h.0 = get_or_default cert.parts at.0 no_part h.0 at.1 ∙ at.2 in
        record { number = at.0; within = at.1; stands = ap (λ (part : Part). has_node part v) same ∙ h.1.inside }

module _ (s : System) (p : Placement) (c : ℕ) (well : IsWellFormed s) (fits : Fits s p) (there : c < length s.channels) where
  abbrev l : Links
  l = links_of s

  abbrev v : ℕ
  v = producer l c

  can : (x : ℕ) → x ≤ room p c → CanTry s p c x
  can x enough = record { system = well; fits = fits; there = there; enough = enough }

  -- a certificate with so many further relay stations
  record HasTrial (x : ℕ) : Type 0 where
    cert : Cert
    part : ℕ
    trial : IsTrial s p c x cert part

  has_trial : (x : ℕ) → x ≤ room p c → HasTrial x
  has_trial x enough =
      let ok = rateable s (longer p c x) well (longer_fits s p c x fits there enough) in
      let has = has_certificate (longer_marking l p c x) ok in
      let at = has_number (longer_marking l p c x) has.0 v has.1 ok (producer_within s p c x (can x enough)) in
      record { cert = has.0; part = at.number; trial = trial_is s p c x (longer_marking l p c x) has.0 at.number refl has.1.certifies has.1.exact at.within at.stands }

  -- the present ratio
  record HasPresent : Type 0 where
    a : ℕ
    b : ℕ
    is : IsPresent s p c a b

  has_present : HasPresent
  has_present =
      let ok = rateable s p well fits in
      let has = has_certificate (marking l p) ok in
      let present : Certified = record { graph = marking l p; cert = has.0 } in
      let made : IsCertified l p present = record { graph = refl; certifies = has.1.certifies; in_range = has.1.in_range } in
      let at = has_number (marking l p) has.0 v has.1 ok (certified_within s p c present (can 0 (omega arith)) made) in
      record {
        a = (part_at has.0.parts at.number).p;
        b = (part_at has.0.parts at.number).q;
        is = present_is s p c present (can 0 (omega arith)) made (part_at has.0.parts at.number).p (part_at has.0.parts at.number).q at.number at.within at.stands refl refl;
      }

  module _ (a b : ℕ) (present : IsPresent s p c a b) where
    Keeps : ℕ → Type 0
    Keeps x = KeepsAt l p c x a b

    -- whether the ratio is kept is decided
    keeps_or_not : (x : ℕ) → x ≤ room p c → Keeps x ⊎ (Keeps x → ⊥)
    unfolding Keeps
    keeps_or_not x enough = by_trial (has_trial x enough)
      where
        by_trial : HasTrial x → Keeps x ⊎ (Keeps x → ⊥)
        by_trial t = by_order (cases_lt ((part_at t.cert.parts t.part).p * b) (a * (part_at t.cert.parts t.part).q))
          where
            by_order : ((part_at t.cert.parts t.part).p * b < a * (part_at t.cert.parts t.part).q) ⊎ (a * (part_at t.cert.parts t.part).q ≤ (part_at t.cert.parts t.part).p * b) → Keeps x ⊎ (Keeps x → ⊥)
            by_order (inl less) = inr (not_kept s p c a b present x (can x enough) t.cert t.part t.trial less)
            by_order (inr more) = inl (kept s p c a b present x (can x enough) t.cert t.part t.trial more)

    -- there is no room for one more, or it lowers the ratio
    Ends : ℕ → Type 0
    Ends x = (room p c ≤ x) ⊎ ((x < room p c) × (Keeps (x + 1) → ⊥))

    ends_or_not : (x : ℕ) → Ends x ⊎ (Ends x → ⊥)
    unfolding Ends
    ends_or_not x = by_room (cases_lt x (room p c))
      where
        by_more : x < room p c → Keeps (x + 1) ⊎ (Keeps (x + 1) → ⊥) → Ends x ⊎ (Ends x → ⊥)
        by_more less (inl keeps) = inr neither
          where
            neither : Ends x → ⊥
            neither (inl full) = omega arith
            neither (inr lowers) = lowers.1 keeps
        by_more less (inr lowers) = inl (inr (less, lowers))

        by_room : (x < room p c) ⊎ (room p c ≤ x) → Ends x ⊎ (Ends x → ⊥)
        by_room (inl less) = by_more less (keeps_or_not (x + 1) (omega arith))
        by_room (inr full) = inl (inl full)

    found : (x : ℕ) × IsFirst Ends x
    unfolding Ends
    found = first_of Ends ends_or_not (room p c) (inl (omega arith))

    most : IsMost s p c a b found.0
    unfolding Ends Keeps
    most = record { within = within; keeps = keeps found.0 within found.1.first; next = next found.1.here }
      where
        within : found.0 ≤ room p c
        within = found.1.first (room p c) (inl (omega arith))

        keeps : (x : ℕ) → x ≤ room p c → ((y : ℕ) → Ends y → x ≤ y) → KeepsAt l p c x a b
        keeps zero enough first = none_keep s p c a b well fits (omega (arith, there, fits.counts)) present.ratio
        keeps (suc x) enough first = by (keeps_or_not (x + 1) (omega arith))
          where
            by : Keeps (x + 1) ⊎ (Keeps (x + 1) → ⊥) → KeepsAt l p c (suc x) a b
            by (inl keeps) = subst (λ (n : ℕ). KeepsAt l p c n a b) (add-one x) keeps
            by (inr lowers) = absurd (let h : suc x ≤ x = first x (inr (omega arith, lowers)) in omega arith)

        next : Ends found.0 → found.0 < room p c → KeepsAt l p c (found.0 + 1) a b → ⊥
        next (inl full) less more = omega arith
        next (inr lowers) less more = lowers.1 more

    -- what is told where there is no room for more, and where there is
    told : (slack : Slack) (next : Option Ratio) → IsFoundSlack s p c a b slack next → HasSlack l p c
    told slack next is = record { slack = slack; told = told_is s p c a b present well fits there slack next is; next = next; is_next = is.next_is }

    pub has_slack : HasSlack l p c
    unfolding Ends Keeps
    has_slack = by_end found.1.here
      where
        x : ℕ
        x = found.0

        here : HasTrial found.0
        here = has_trial found.0 most.within

        by_next : x < room p c → HasTrial (found.0 + 1) → HasSlack l p c
        by_next less t = by_order (cases_lt ((part_at t.cert.parts t.part).p * b) (a * (part_at t.cert.parts t.part).q))
          where
            enough : found.0 + 1 ≤ room p c
            enough = omega arith

            part : Part
            part = part_at t.cert.parts t.part

            ratio : Ratio
            ratio = record { p = (part_at t.cert.parts t.part).p; q = (part_at t.cert.parts t.part).q }

            by_order : ((part_at t.cert.parts t.part).p * b < a * (part_at t.cert.parts t.part).q) ⊎ (a * (part_at t.cert.parts t.part).q ≤ (part_at t.cert.parts t.part).p * b) → HasSlack l p c
            by_order (inl lower) =
                told (record { added = found.0; cert = here.cert; against = Some (part_at t.cert.parts t.part).cycle }) (Some ratio)
                (lower_found s p c a b found.0 here.cert (part_at t.cert.parts t.part).cycle ratio _ _ refl refl less here.trial.certifies most.keeps
                (not_kept s p c a b present (found.0 + 1) (can (found.0 + 1) enough) t.cert t.part t.trial lower)
                (against s p c a b present (found.0 + 1) (can (found.0 + 1) enough) t.cert t.part t.trial lower)
                (t.trial.exact.ratio v t.trial.stands))
            by_order (inr more) = absurd (most.next less (kept s p c a b present (found.0 + 1) (can (found.0 + 1) enough) t.cert t.part t.trial more))

        by_end : Ends found.0 → HasSlack l p c
        by_end (inl full) =
            told (record { added = found.0; cert = here.cert; against = None }) None (record {
              most = most;
              certifies = here.trial.certifies;
              ends = (let within = most.within in omega arith);
              next_is = refl;
            })
        by_end (inr lowers) = by_next lowers.0 (has_trial (found.0 + 1) (omega (arith, lowers.0)))

pub channels_have_slacks : ChannelsHaveSlacks
channels_have_slacks s p c well fits there = let present = has_present s p c well fits there in has_slack s p c well fits there present.a present.b present.is

pub slacks_are_unique : SlacksAreUnique
slacks_are_unique l p c x y one other = let a = one.greatest y other.within other.keeps in let b = other.greatest x one.within one.keeps in omega arith
