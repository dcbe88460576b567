-- The certificate of a graph, from the parts of its components, and its text.
use Rattle.std.proofs.Common.{◌≡◌, ℕ, zero, suc, ◌≤◌, ◌≢◌, ◌⊎◌, inl, inr, List, [], ◌∷◌, ◌++◌, get_or, refl, subst, add-one, arith}
use Rattle.std.specs.List.{All}
use Rattle.std.proofs.lemmas.Bool.{cases_eq}
use Rattle.std.proofs.lemmas.List.Elements.{All-append}
use Rattle.lid_graph.specs.declared.graph.Graph.{Graph}
use Rattle.lid_graph.specs.Rateable.{IsRateable}
use Rattle.lid_cert.specs.declared.cert.Part.{Part}
use Rattle.lid_cert.specs.declared.cert.Cert.{Cert}
use Rattle.lid_cert_text.specs.Printed.{IsPartSmall, IsPartPrintable}
use Rattle.lid_cert_text.specs.Written.{cert_text}
use Rattle.lid_cert_text.proofs.ReadBack.{printed_is_read_back}
use Rattle.lid_cert_text.proofs.PrintedLengths.{printed_is_short}
use Rattle.lid_rate.specs.Rates.{AreLabels, AreParts}
use Rattle.lid_rate.proofs.Found.{parts_start, parts_push, parts_skip, certifies, exact, in_range, short}
use Rattle.lid_rate.proofs.Numbered.{positive}
use Rattle.lid_rate_text.specs.Throughput.{IsRateText}
use Rattle.lid_rate_text.proofs.Certified.{are_lists, are_full, are_small, fits}
use Rattle.lid_stations.specs.Placements.{links_of}
use Rattle.lid_stations.specs.Markings.{marking}
use Rattle.lid_stations.proofs.Edges.{node_count}
use Rattle.lid_stations.proofs.Spots.{few_actors}
use Rattle.lid_stations.proofs.Alive.{rateable, have_tokens}
use Rattle.lid_rate_laws.specs.Laws.{IsFullCertificate, RateableGraphsHaveCertificates, AreAboveZero, MarkingsHaveCertificates, MarkingsHaveRateTexts}
use Rattle.lid_rate_laws.proofs.Least.{labels, are_labels}
use Rattle.lid_rate_laws.proofs.Making.{HasPart, has_part}

module _ (g : Graph) (ok : IsRateable g) where
  abbrev least : List ℕ
  least = labels g ok.paired

  are : AreLabels g least
  are = are_labels g ok.paired

  -- the parts of the labels below n
  record HasParts (n : ℕ) : Type 0 where
    parts : List Part
    so : AreParts g least n parts
    small : All IsPartSmall parts

  has_parts : (n : ℕ) → n ≤ g.nodes → HasParts n
  has_parts zero few = record { parts = []; so = parts_start g ok least are; small = λ k d h. absurd (omega arith) }
  has_parts (suc n) few = by_own (cases_eq (get_or least n 0) n) (has_parts n (omega arith))
    where
      by_own : (get_or least n 0 ≡ n) ⊎ (get_or least n 0 ≢ n) → HasParts n → HasParts (suc n)
      by_own (inl own) before =
          let one : HasPart g least n = has_part g ok least are n (omega arith) own in
          record {
            parts = before.parts ++ one.part ∷ [];
            so = subst (λ (m : ℕ). AreParts g least m (before.parts ++ one.part ∷ [])) (add-one n) (parts_push g ok least are n before.parts one.part (omega arith) own one.is before.so);
            small = All-append IsPartSmall before.parts (one.part ∷ []) before.small (alone one.part one.small);
          }
        where
          alone : (part : Part) → IsPartSmall part → All IsPartSmall (part ∷ [])
          alone part is zero d h = is
          alone part is (suc k) d h = absurd (omega arith)
      by_own (inr other) before = record { parts = before.parts; so = subst (λ (m : ℕ). AreParts g least m before.parts) (add-one n) (parts_skip g ok least are n before.parts other before.so); small = before.small }

  pub has_certificate : (cert : Cert) × IsFullCertificate g cert
  has_certificate =
      let all = has_parts g.nodes (omega arith) in
      let cert : Cert = record { parts = all.parts } in (
        cert,
        record {
          certifies = certifies g ok least are cert all.so;
          exact = exact g ok least are cert all.so;
          short = short g ok least are cert all.so;
          in_range = in_range g ok least are cert all.so;
          small = all.small;
        },
      )

pub rateable_graphs_have_certificates : RateableGraphsHaveCertificates
rateable_graphs_have_certificates g ok = has_certificate g ok

pub markings_have_certificates : MarkingsHaveCertificates
markings_have_certificates s p well fits =
    let g = marking (links_of s) p in
    let has = has_certificate g (rateable s p well fits) in
    (has.0, has.1, positive g has.0 (have_tokens s p well fits) has.1.certifies)

-- the text of a certificate of a graph that is not too large
text_of : (g : Graph) (cert : Cert) → IsFullCertificate g cert → AreAboveZero cert → g.nodes ≤ 70000 → IsRateText g (cert_text cert)
text_of g cert is above few = record {
  cert = cert;
  certifies = is.certifies;
  exact = is.exact;
  positive = above;
  back = printed_is_read_back cert printable (fits g cert is.certifies is.short few (printed_is_short cert printable (are_small g cert is.certifies is.short few)));
  written = refl;
}
  where
    printable : All IsPartPrintable cert.parts
    printable k d h = record { full = are_full g cert is.certifies is.in_range k d h; lists = are_lists g cert is.certifies k d h; small = is.small k d h }

pub markings_have_rate_texts : MarkingsHaveRateTexts
markings_have_rate_texts s p well fits =
    let has = markings_have_certificates s p well fits in
    (cert_text has.0, text_of (marking (links_of s) p) has.0 has.1 has.2 few)
  where
    few : (marking (links_of s) p).nodes ≤ 70000
    few = omega (arith, node_count s p, few_actors s p well fits)
