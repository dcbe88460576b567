-- The bits of channels in the order of the reads that they carry.
use Rattle.std.proofs.Common.{◌≡◌, ◌<◌, ◌≤◌, ◌+◌, ℕ, zero, suc, List, [], ◌∷◌, ◌++◌, length, map, take, get_or, Option, Some, None, slice_get, inl, inr, refl, sym, ◌∙◌, ap, subst, arith, append_assoc, append-nil, zero-add, length-append}
use Rattle.std.specs.List.{AllByRecursion, flat_map}
use Rattle.std.proofs.Math.Seq.{take-suc}
use Rattle.lid_base.specs.Lists.{Among}
use Rattle.lid_base.specs.Each.{from_each}
use Rattle.lid_system.specs.declared.Channel.{Channel}
use Rattle.lid_system.specs.declared.InBit.{InBit}
use Rattle.lid_system.specs.declared.InBit.TheVariants.{Const, Port}
use Rattle.lid_net_channels.specs.declared.reads.Read.{Read}
use Rattle.lid_net_channels.specs.Pieces.{read_at, reads_in}
use Rattle.lid_net_channels.specs.Bits.{IsBitOf, Carries, CarryAll, bits_from}
use Rattle.lid_base.proofs.Places.{get_past}

bits_push : (k : ℕ) (cs : List Channel) (c : Channel) → bits_from k (cs ++ c ∷ []) ≡ bits_from k cs ++ from_each (Port (k + length cs)) 0 (length c.ports)
bits_push k [] c = append-nil (from_each (Port k) 0 (length c.ports)) ∙ (let e : k ≡ k + 0 = omega arith in ap (λ (m : ℕ). from_each (Port m) 0 (length c.ports)) e)
bits_push k (d ∷ cs) c =
    let e : (k + 1) + length cs ≡ k + suc (length cs) = omega arith in
    ap (λ (xs : List InBit). from_each (Port k) 0 (length d.ports) ++ xs) (bits_push (k + 1) cs c ∙ ap (λ (m : ℕ). bits_from (k + 1) cs ++ from_each (Port m) 0 (length c.ports)) e)
    ∙ sym (append_assoc (from_each (Port k) 0 (length d.ports)) (bits_from (k + 1) cs) (from_each (Port (k + suc (length cs))) 0 (length c.ports)))

length_take_in : (cs : List Channel) (i : ℕ) → i ≤ length cs → length (take i cs) ≡ i
length_take_in cs zero h = refl
length_take_in [] (suc i) h = absurd (omega arith)
length_take_in (c ∷ cs) (suc i) h = let l = length_take_in cs i (omega arith) in omega arith

pub bits_more : (cs : List Channel) (i : ℕ) (c : Channel) → i < length cs → c ≡ get_or cs i c → bits_from 0 (take (i + 1) cs) ≡ bits_from 0 (take i cs) ++ from_each (Port i) 0 (length c.ports)
bits_more cs i c less is =
    (let e : i + 1 ≡ suc i = omega arith in ap (λ (n : ℕ). bits_from 0 (take n cs)) e)
    ∙ ap (bits_from 0) (take-suc cs i c less ∙ ap (λ (x : Channel). take i cs ++ x ∷ []) (sym is))
    ∙ bits_push 0 (take i cs) c
    ∙ ap (λ (m : ℕ). bits_from 0 (take i cs) ++ from_each (Port m) 0 (length c.ports)) (zero-add (length (take i cs)) ∙ length_take_in cs i (omega arith))

-- bits of two parts of reads
carry_append : (channels : List Channel) (rs ss : List Read) (bs es : List InBit) → CarryAll channels rs bs → CarryAll channels ss es → CarryAll channels (rs ++ ss) (bs ++ es)
carry_append channels [] ss [] es h k = k
carry_append channels [] ss (b ∷ bs) es h k = absurd h
carry_append channels (r ∷ rs) ss [] es h k = absurd h
carry_append channels (r ∷ rs) ss (b ∷ bs) es h k = (h.0, carry_append channels rs ss bs es h.1 k)

-- the ports of one channel
carry_ports : (channels : List Channel) (chan : ℕ) (c : Channel) → slice_get channels chan ≡ Some c → (before ports : List ℕ) → c.ports ≡ before ++ ports → CarryAll channels (map (read_at c) ports) (from_each (Port chan) (length before) (length ports))
carry_ports channels chan c here before [] whole = tt
carry_ports channels chan c here before (p ∷ ports) whole = (
  record { c = c; here = here; from = refl; to = refl; port = ap (λ (xs : List ℕ). slice_get xs (length before)) whole ∙ get_past before ports p },
  subst (λ (n : ℕ). CarryAll channels (map (read_at c) ports) (from_each (Port chan) n (length ports))) (length-append before (p ∷ []))
      (carry_ports channels chan c here (before ++ p ∷ []) ports (whole ∙ sym (append_assoc before (p ∷ []) ports))),
)

carry_from : (before cs : List Channel) → CarryAll (before ++ cs) (flat_map reads_in cs) (bits_from (length before) cs)
carry_from before [] = tt
carry_from before (c ∷ cs) =
    carry_append (before ++ c ∷ cs) (reads_in c) (flat_map reads_in cs) (from_each (Port (length before)) 0 (length c.ports)) (bits_from (length before + 1) cs)
    (carry_ports (before ++ c ∷ cs) (length before) c (get_past before cs c) [] c.ports refl)
    (subst (λ (n : ℕ). CarryAll (before ++ c ∷ cs) (flat_map reads_in cs) (bits_from n cs)) (length-append before (c ∷ []))
    (subst (λ (ds : List Channel). CarryAll ds (flat_map reads_in cs) (bits_from (length (before ++ c ∷ [])) cs)) (append_assoc before (c ∷ []) cs) (carry_from (before ++ c ∷ []) cs)))

pub carry_all : (channels : List Channel) → CarryAll channels (flat_map reads_in channels) (bits_from 0 channels)
carry_all channels = carry_from [] channels

-- the bit of a read by its place
pub carry_at : (channels : List Channel) (rs : List Read) (bs : List InBit) (i : ℕ) (r : Read) (d : InBit) → CarryAll channels rs bs → i < length rs → get_or rs i r ≡ r → Carries channels r (get_or bs i d)
carry_at channels [] bs i r d h less is = absurd (omega arith)
carry_at channels (q ∷ rs) [] i r d h less is = absurd h
carry_at channels (q ∷ rs) (b ∷ bs) zero r d h less is = subst (λ (x : Read). Carries channels x b) is h.0
carry_at channels (q ∷ rs) (b ∷ bs) (suc i) r d h less is = carry_at channels rs bs i r d h.1 (omega arith) is
