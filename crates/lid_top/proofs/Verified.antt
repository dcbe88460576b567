-- What `rate` prints is verified by `verify`.
use Rattle.std.proofs.Common.{◌≡◌, ℕ, ◌≤◌, Bool, true, false, true≢false, List, length, take, Option, Some, None, IfSome, inl, inr, refl, sym, ◌∙◌, ap, subst, arith}
use Rattle.std.specs.Prelude.{is_some}
use Rattle.std.proofs.lemmas.List.{take_all}
use Rattle.lid_base.specs.Lines.{logical_lines}
use Rattle.lid_base.specs.declared.line.Line.{Line}
use Rattle.lid_base_lines.specs.declared.limited.LinesFault.{LinesFault}
use Rattle.lid_base_lines.specs.Limited.{limited_fault}
use Rattle.lid_base_lines.proofs.WithinLimits.{short_lines}
use Rattle.lid_design.specs.declared.Design.{Design}
use Rattle.lid_cert.specs.declared.cert.Cert.{Cert}
use Rattle.lid_cert_text.specs.Texts.{cert_of, cert_fault, fault_in}
use Rattle.lid_cert_text.specs.Written.{cert_text}
use Rattle.lid_stations.specs.declared.placement.Placement.{Placement}
use Rattle.lid_stations.specs.Placements.{Links, no_relays}
use Rattle.lid_stations.specs.Markings.{marking}
use Rattle.lid_rate_text.specs.Throughput.{IsRateText}
use Rattle.lid_top_script.specs.Outputs.{Output, throughput, verdict, IsTextOf}
use Rattle.lid_top_script.specs.Scripts.{Ending, refuses, denies, gives, Script, Reading, good, bad, read_then, net_reading, text_limit, links, check_step, net_step, system_step, stations_read, placement_step, cert_unless, cert_read, told_script, judging_script, cert_script, telling_script, verify_script, IsFetched, EndsIn}
use Rattle.lid_top_script.specs.Statuses.{HasText}
use Rattle.lid_top.specs.Verified.{RatesAreVerified}

abbrev is_given : Ending → Bool
is_given (refuses line) = false
is_given denies = false
is_given (gives output) = true

not_refused : {line : List ℕ} {output : Output} → refuses line ≡ gives output → ⊥
not_refused e = true≢false (sym (ap is_given e))

abbrev given_of : Output → Ending → Output
given_of other (refuses line) = other
given_of other denies = other
given_of other (gives output) = output

-- the script has such an ending
abbrev HasEnding : (List ℕ → Option (List ℕ)) → (Ending → Type 0) → Script → Type 0
HasEnding held P script = (x : Ending) × P x × EndsIn held script x

module _ (held : List ℕ → Option (List ℕ)) (P : Ending → Type 0) (output : Output) where
  abbrev EndsSo : Script → Type 0
  EndsSo script = HasEnding held P script

  -- where one script goes on to the output and another goes on to such an ending, so do the scripts that come
  -- to them by the same steps
  after_step : {A : Type 0} (r : Reading A) (next other : A → Script) → ((a : A) → EndsIn held (next a) (gives output) → EndsSo (other a)) → EndsIn held (read_then r next) (gives output) → EndsSo (read_then r other)
  after_step (good a) next other go e = go a e
  after_step (bad line) next other go e = absurd (not_refused e)

  module _ (next other : Design → Links → Script) (go : (d : Design) (l : Links) → EndsIn held (next d l) (gives output) → EndsSo (other d l)) where
    abbrev on : (Design → Links → Script) → Design → Script
    on then checked = net_step checked (λ channels. then checked (links checked channels))

    after_net : (checked : Design) → EndsIn held (on next checked) (gives output) → EndsSo (on other checked)
    after_net checked (inl (channels, has, x)) = let r = go checked (links checked channels) x in (r.0, r.1, inl (channels, has, r.2))
    after_net checked (inr (line, b, x)) = absurd (not_refused x)

    after_check : (root : Option (List ℕ)) (d : Design) → EndsIn held (check_step root d (on next)) (gives output) → EndsSo (check_step root d (on other))
    after_check root d (inl (checked, is, x)) = let r = after_net checked x in (r.0, r.1, inl (checked, is, r.2))
    after_check root d (inr (line, b, x)) = absurd (not_refused x)

    after_system : (net : List ℕ) (root : Option (List ℕ)) → EndsIn held (system_step net root next) (gives output) → EndsSo (system_step net root other)
    after_system net root (bytes, fetched, e) =
        let r = after_step (net_reading bytes) (λ d. check_step root d (on next)) (λ d. check_step root d (on other)) (after_check root) e in
        (r.0, r.1, (bytes, fetched, r.2))

  after_placement : (l : Links) (stations : Option (List ℕ)) (next other : Placement → Script) → ((p : Placement) → EndsIn held (next p) (gives output) → EndsSo (other p)) → EndsIn held (placement_step l stations next) (gives output) → EndsSo (placement_step l stations other)
  after_placement l None next other go e = go (no_relays l) e
  after_placement l (Some stations) next other go (bytes, fetched, e) = let r = after_step (stations_read l bytes) next other go e in (r.0, r.1, (bytes, fetched, r.2))

not_limited : (lines : List Line) (fault : Option LinesFault) → fault_in lines fault ≡ None → fault ≡ None
not_limited lines None e = refl
not_limited lines (Some fault) e = absurd (true≢false (ap is_some e))

-- the text of a certificate that is read back is not too long
few : (text : List ℕ) → cert_fault text ≡ None → length text ≤ 16777216
unfolding cert_fault
few text e = short_lines text (not_limited (logical_lines text) (limited_fault text) e)

-- `verify` of the text of a certificate of the marking ends in what that shows
abbrev pub IsVerdict : List ℕ → Ending → Type 0
IsVerdict text x = (l : Links) × (c : Cert) × (text ≡ cert_text c) × (x ≡ gives (verdict l c))

module _ (held : List ℕ → Option (List ℕ)) (cert text : List ℕ) (told : held cert ≡ Some text) where
  judged : (l : Links) (p : Placement) → IsRateText (marking l p) text → HasEnding held (IsVerdict text) (cert_script l p cert)
  unfolding cert_script judging_script cert_read
  judged l p r =
      let c = r.cert in
      let short : length text ≤ 16777216 = subst (λ (t : List ℕ). length t ≤ 16777216) (sym r.written) (few (cert_text c) r.back.sound) in
      let all : text ≡ take 16777217 text = sym (take_all 16777217 text (omega (arith, short))) in
      let fetched : IsFetched held cert text_limit text = record { short = omega (arith, short); told = subst (λ (h : Option (List ℕ)). IfSome h (λ file. text ≡ take 16777217 file)) (sym told) all } in
      let reads : cert_read text ≡ good c = ap (λ (t : List ℕ). cert_read t) r.written ∙ ap (λ f. cert_unless f (cert_of (cert_text c))) r.back.sound ∙ ap good r.back.same in (
        gives (verdict l c),
        (l, c, r.written, refl),
        (text, fetched, subst (λ read. EndsIn held (read_then read (judging_script l p)) (gives (verdict l c))) (sym reads) (inl (true, (λ _. r.certifies, λ _. refl), refl))),
      )

  verified : (net : List ℕ) (stations root : Option (List ℕ)) → HasText held (telling_script throughput net stations root) text → HasEnding held (IsVerdict text) (verify_script net cert stations root)
  unfolding telling_script verify_script told_script
  verified net stations root h =
      after_system held (IsVerdict text) h.output (λ d l. placement_step l stations (told_script throughput l)) (λ d l. placement_step l stations (λ p. cert_script l p cert))
      (λ d l e. after_placement held (IsVerdict text) h.output l stations (told_script throughput l) (λ p. cert_script l p cert)
      (λ p f. judged l p (subst (λ o. IsTextOf o text) (sym (ap (given_of h.output) f)) h.text_of)) e)
      net root h.ends

-- what `rate` prints is verified, as the certificate that it stands for
pub rates_verified : RatesAreVerified
rates_verified held net cert stations root text h told =
    let r = verified held cert text told net stations root h in
    let v = r.1 in
    (v.0, v.1, v.2, subst (λ x. EndsIn held (verify_script net cert stations root) x) v.3 r.2)
