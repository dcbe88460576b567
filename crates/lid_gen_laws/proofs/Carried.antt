-- A system has no more channels than its nodes have inputs.
use Rattle.std.proofs.Common.{◌≡◌, ◌⊎◌, ℕ, zero, suc, ◌<◌, ◌≤◌, List, [], ◌∷◌, ◌++◌, length, map, flat_map, reverse, inl, inr, refl, sym, ◌∙◌, ap, subst, arith, length-append}
use Rattle.std.proofs.lemmas.Bool.{cases_lt}
use Rattle.std.proofs.lemmas.List.{length-map, reverse-append}
use Rattle.lid_base.specs.Lists.{Among, AreOnce}
use Rattle.lid_base.proofs.Lists.{all_among, among_left, among_right, among_map}
use Rattle.lid_design.specs.declared.Design.{Design}
use Rattle.lid_design.specs.Network.{Driver, from_cover, from_connection}
use Rattle.lid_design.specs.Columns.{Column, drivers}
use Rattle.lid_system.specs.declared.Channel.{Channel}
use Rattle.lid_net_channels.specs.declared.reads.Read.{Read}
use Rattle.lid_net_channels.specs.Reads.{IsReadBefore, AreAscending}
use Rattle.lid_net_channels.specs.Pieces.{read_at, reads_in, AreCut}
use Rattle.lid_net_law.specs.Ports.{IsPassedOn}
use Rattle.lid_net.specs.declared.origin.Origin.TheVariants.{Port}
use Rattle.lid_net.specs.Graphs.{inputs_of, LeadsIn, LeadsTo, IsReadBy, IsGraphOf}
use Rattle.lid_net.proofs.Tracing.{ArePortsOnce}

-- a list without an item, and what is left
record IsLess {A : Type 0} (y : A) (ys : List A) : Type 0 where
  left : List A
  count : length ys ≡ suc (length left)
  others : (z : A) → Among z ys → (z ≡ y) ⊎ Among z left

less_grown : {A : Type 0} (x y : A) (ys : List A) → IsLess y ys → IsLess y (x ∷ ys)
less_grown {A} x y ys less = record { left = x ∷ less.left; count = ap suc less.count; others = others }
  where
    later_on : (z : A) → (z ≡ y) ⊎ Among z less.left → (z ≡ y) ⊎ Among z (x ∷ less.left)
    later_on z (inl same) = inl same
    later_on z (inr there) = inr (inr there)

    others : (z : A) → Among z (x ∷ ys) → (z ≡ y) ⊎ Among z (x ∷ less.left)
    others z (inl is) = inr (inl is)
    others z (inr later) = later_on z (less.others z later)

less_one : {A : Type 0} (y : A) (ys : List A) → Among y ys → IsLess y ys
less_one y [] among = absurd among
less_one {A} y (x ∷ ys) (inl is) = record { left = ys; count = refl; others = others }
  where
    others : (z : A) → Among z (x ∷ ys) → (z ≡ y) ⊎ Among z ys
    others z (inl e) = inl (e ∙ sym is)
    others z (inr later) = inr later
less_one y (x ∷ ys) (inr later) = less_grown x y ys (less_one y ys later)

-- no more items than those that they are sent to, where no two are sent to one
sent : {A B : Type 0} (R : A → B → Type 0) (xs : List A) (ys : List B) → AreOnce xs → ((x : A) → Among x xs → (y : B) × Among y ys × R x y) → ((x z : A) (y : B) → R x y → R z y → x ≡ z) → length xs ≤ length ys
sent R [] ys apart to one = omega arith
sent {A} {B} R (x ∷ xs) ys apart to one =
    let at = to x (inl refl) in
    let less = less_one at.0 ys at.1 in
    let count = less.count in
    let later = sent R xs less.left apart.1 (after at.0 at.2 less) one in
    omega (arith, count, later)
  where
    after : (y : B) → R x y → (less : IsLess y ys) → (z : A) → Among z xs → (w : B) × Among w less.left × R z w
    after y sent_to less z among = by (to z (inr among))
      where
        by : (w : B) × Among w ys × R z w → (w : B) × Among w less.left × R z w
        by at = elim (less.others at.0 at.1) [ inl same ↦ absurd (apart.0 (subst (λ (v : A). Among v xs) (one z x y (subst (R z) same at.2) sent_to) among)) | inr there ↦ (at.0, there, at.2) ]

-- reads in order are apart
before_none : (r : Read) → ¬ IsReadBefore r r
before_none r (inl h) = omega arith
before_none r (inr h) = elim h.1 [ inl less ↦ (omega arith) | inr same ↦ (let less = same.1 in omega arith) ]

ascending_apart : (rs : List Read) → AreAscending rs → AreOnce rs
ascending_apart [] ascending = tt
ascending_apart (r ∷ rs) ascending = (λ among. before_none r (all_among (IsReadBefore r) rs r ascending.0 among), ascending_apart rs ascending.1)

-- each channel carries a port
some_ports : (channels : List Channel) → AreCut channels → (c : Channel) → Among c channels → 0 < length c.ports
some_ports [] cut c among = absurd among
some_ports (d ∷ before) cut c (inl is) = subst (λ (e : Channel). 0 < length e.ports) (sym is) cut.0
some_ports (d ∷ before) cut c (inr later) = some_ports before cut.3 c later

turned : (c : Channel) (cs : List Channel) → Among c cs → Among c (reverse cs)
turned c [] h = absurd h
turned c (d ∷ cs) (inl e) = subst (λ (xs : List Channel). Among c xs) (sym (reverse-append (d ∷ []) cs)) (among_right c (reverse cs) (d ∷ []) (inl e))
turned c (d ∷ cs) (inr h) = subst (λ (xs : List Channel). Among c xs) (sym (reverse-append (d ∷ []) cs)) (among_left c (reverse cs) (d ∷ []) (turned c cs h))

fewer : (channels : List Channel) → ((c : Channel) → Among c channels → 0 < length c.ports) → length channels ≤ length (flat_map reads_in channels)
fewer [] some = omega arith
fewer (c ∷ cs) some =
    let first = some c (inl refl) in
    let later = fewer cs (λ d among. some d (inr among)) in
    let count = length-append (reads_in c) (flat_map reads_in cs) in
    let ports = length-map c.ports (read_at c) in
    omega (arith, first, later, count, ports)

-- an input of node m + 1
abbrev pub numbered : ℕ → Column → ℕ × Column
numbered m c = (suc m, c)

-- the inputs of so many nodes after the source, each with the number of its node
abbrev pub ends : Design → ℕ → List (ℕ × Column)
ends d zero = []
ends d (suc m) = ends d m ++ map (numbered m) (inputs_of d (suc m))

module _ (d : Design) (single : (c : Column) (r t : Driver Column) → Among r (drivers d c) → Among t (drivers d c) → r ≡ t) (once : ArePortsOnce d) where
  -- what passes on to a column is one column
  passed_one : (a b c : Column) → IsPassedOn d a c → IsPassedOn d b c → a ≡ b
  passed_one a b c (inl h) (inl k) = let e = single c (from_connection a) (from_connection b) h k in cc
  passed_one a b c (inl h) (inr k) = absurd (let e = single c (from_connection a) (from_cover k.0 (b ∷ [])) h k.2 in cc)
  passed_one a b c (inr h) (inl k) = absurd (let e = single c (from_cover h.0 (a ∷ [])) (from_connection b) h.2 k in cc)
  passed_one a b c (inr h) (inr k) = let e = single c (from_cover h.0 (a ∷ [])) (from_cover k.0 (b ∷ [])) h.2 k.2 in cc

  -- a column is led back to one port
  led_one : (m n : ℕ) (c : Column) (i j from port : ℕ) → LeadsIn d m c (Port i j) → LeadsIn d n c (Port from port) → (i ≡ from) × (j ≡ port)
  led_one zero zero c i j from port h k = once c i from j port h k
  led_one zero (suc n) c i j from port h k = absurd (k.0 i j h)
  led_one (suc m) zero c i j from port h k = absurd (h.0 from port k)
  led_one (suc m) (suc n) c i j from port h k =
      let same = passed_one h.1 k.1 c h.2 k.2 in
      led_one m n k.1 i j from port (subst (λ (a : Column). LeadsIn d m a (Port i j)) same h.3) k.3

  abbrev Reads : Read → ℕ × Column → Type 0
  Reads r p = (r.to ≡ p.0) × LeadsTo d p.1 (Port r.from r.port)

  reads_one : (r t : Read) (p : ℕ × Column) → Reads r p → Reads t p → r ≡ t
  reads_one r t p h k =
      let same = led_one h.1.0 k.1.0 p.1 r.from r.port t.from t.port h.1.1 k.1.1 in
      let to = h.0 ∙ sym k.0 in
      let from = same.0 in
      let port = same.1 in
      let e : ◌≡◌ {A = Read} (record { from = r.from; to = r.to; port = r.port }) (record { from = t.from; to = t.to; port = t.port }) = cc in
      e

  source_reads_none : (c : Column) → ¬ Among c (inputs_of d zero)
  unfolding inputs_of
  source_reads_none c among = among

  ends_have : (m to : ℕ) (c : Column) → to ≤ m → Among c (inputs_of d to) → Among (to, c) (ends d m)
  ends_have m zero c few among = absurd (source_reads_none c among)
  ends_have zero (suc to) c few among = absurd (omega (arith, few))
  ends_have (suc m) (suc to) c few among = by (cases_lt to m) (λ less. ends_have m (suc to) c (omega (arith, less)) among)
    where
      by : (to < m) ⊎ (m ≤ to) → (to < m → Among {A = ℕ × Column} (suc to, c) (ends d m)) → Among {A = ℕ × Column} (suc to, c) (ends d (suc m))
      by (inl less) before = among_left (suc to, c) (ends d m) (map (numbered m) (inputs_of d (suc m))) (before less)
      by (inr least) before =
          let e : to ≡ m = omega (arith, few, least) in
          among_right (suc to, c) (ends d m) (map (numbered m) (inputs_of d (suc m))) (subst (λ (k : ℕ). Among {A = ℕ × Column} (suc k, c) (map (numbered m) (inputs_of d (suc m)))) (sym e) (among_map (numbered m) c (inputs_of d (suc m)) (subst (λ (k : ℕ). Among c (inputs_of d (suc k))) e among)))

  -- as many channels as inputs
  pub channels_few : (channels : List Channel) (m : ℕ) → IsGraphOf d channels → ((to : ℕ) (c : Column) → Among c (inputs_of d to) → to ≤ m) → length channels ≤ length (ends d m)
  channels_few channels m graph within =
      let reads = flat_map reads_in channels in
      let a = fewer channels (λ c among. some_ports (reverse channels) graph.cut c (turned c channels among)) in
      let b = sent Reads reads (ends d m) (ascending_apart reads graph.ascending) (λ r among. by r ((graph.reads r).0 among)) reads_one in
      omega (arith, a, b)
    where
      by : (r : Read) → IsReadBy d r → (p : ℕ × Column) × Among p (ends d m) × Reads r p
      by r h = ((r.to, h.0), ends_have m r.to h.0 (within r.to h.0 h.1) h.1, (refl, h.2))
