-- Channels that carry reads, one read after another.
use Rattle.std.proofs.Common.{◌≡◌, ◌⊎◌, ◌<◌, ◌≤◌, ◌+◌, ℕ, zero, suc, eqb, Bool, true, false, not, cond, ◌&&◌, List, [], ◌∷◌, ◌++◌, length, map, take, drop, reverse, get_or, append_assoc, append-nil, Option, Some, None, inl, inr, refl, sym, ◌∙◌, ap, subst, arith, length-append}
use Rattle.std.specs.Prelude.{nat_lt}
use Rattle.std.specs.List.{flat_map, AllByRecursion}
use Rattle.std.proofs.Math.Seq.{take-suc}
use Rattle.std.proofs.lemmas.Bool.{cases_lt, eqb-true, and_parts}
use Rattle.std.proofs.lemmas.List.{reverse-append, map-append, length-reverse, reverse-reverse, take-append-drop, get_or_default}
use Rattle.std.proofs.lemmas.Grind.{flat_map-append}
use Rattle.lid_base.specs.Lists.{Among}
use Rattle.lid_base.proofs.Lists.{all_among, among_left, among_right}
use Rattle.lid_system.specs.declared.Channel.{Channel}
use Rattle.lid_net_channels.specs.declared.reads.Read.{Read}
use Rattle.lid_net_channels.specs.Pieces.{read_at, reads_in, is_beside, IsPieceAfter, IsNextPiece, AreCut, AreChannelsOf}
use Rattle.lid_net_channels.specs.Cutting.{new_channel, with_port, is_between, piece_for, extended, placed_read, grown, cut_back, last_width, joins, ArePieced}

-- one read more is the first of those that come last first
pub one_more : (reads : List Read) (i : ℕ) (r : Read) → i < length reads → r ≡ get_or reads i r → reverse (take (i + 1) reads) ≡ r ∷ reverse (take i reads)
one_more reads i r less is =
    (let e : i + 1 ≡ suc i = omega arith in ap (λ (n : ℕ). reverse (take n reads)) e)
    ∙ ap reverse (take-suc reads i r less)
    ∙ reverse-append (take i reads) (get_or reads i r ∷ [])
    ∙ ap (λ (x : Read). x ∷ reverse (take i reads)) (sym is)

-- the last channel, after a read
pub record Tops (r : Read) (channels : List Channel) : Type 0 where
  pub c : Channel
  pub before : List Channel
  pub is : channels ≡ c ∷ before
  pub from : c.from ≡ r.from
  pub to : c.to ≡ r.to
  pub some : 0 < length c.ports

tops : (r : Read) (channels : List Channel) → Tops r (grown r channels)
tops r [] = record { c = new_channel r 0; before = []; is = refl; from = refl; to = refl; some = omega arith }
tops r (c ∷ before) = by (is_between c r) refl (nat_lt (length c.ports) 31)
  where
    by : (b : Bool) → is_between c r ≡ b → (room : Bool) → Tops r (placed_read r (c ∷ before) (cond b (cond room None (Some (c.piece + 1))) (Some 0)))
    by true e true = record {
      c = with_port c r;
      before = before;
      is = refl;
      from = eqb-true c.from r.from ((and_parts (eqb c.from r.from) (eqb c.to r.to) e).0);
      to = eqb-true c.to r.to ((and_parts (eqb c.from r.from) (eqb c.to r.to) e).1);
      some = let l = length-append c.ports (r.port ∷ []) in omega arith;
    }
    by true e false = record { c = new_channel r (c.piece + 1); before = c ∷ before; is = refl; from = refl; to = refl; some = omega arith }
    by false e room = record { c = new_channel r 0; before = c ∷ before; is = refl; from = refl; to = refl; some = omega arith }

-- the last channel joins the nodes of a read where the last read does
pub record Meets (rs : List Read) (r : Read) (channels : List Channel) (b : Bool) : Type 0 where
  pub none : rs ≡ [] → channels ≡ []
  pub some : (c : Channel) (before : List Channel) → channels ≡ c ∷ before → (is_between c r ≡ b) × (0 < length c.ports)

meets : (rs : List Read) (r : Read) → Meets rs r (cut_back rs) (joins rs r)
meets [] r = record { none = λ e. refl; some = λ c before e. absurd (let f : [] ≡ c ∷ before = e in cc) }
meets (q ∷ qs) r = record { none = λ e. absurd (cc); some = some }
  where
    some : (c : Channel) (before : List Channel) → cut_back (q ∷ qs) ≡ c ∷ before → (is_between c r ≡ joins (q ∷ qs) r) × (0 < length c.ports)
    some c before e =
        let top = tops q (cut_back qs) in
        let here : c ∷ before ≡ top.c ∷ top.before = sym e ∙ top.is in
        let same : c ≡ top.c = cc in
        let from = top.from in
        let to = top.to in (
          ap (λ (x : Channel). is_between x r) same ∙ ap (λ (n : ℕ). eqb n r.from && eqb top.c.to r.to) from ∙ ap (λ (n : ℕ). eqb q.from r.from && eqb n r.to) to,
          subst (λ (x : Channel). 0 < length x.ports) (sym same) top.some,
        )

-- how wide the last channel gets, and whether it is a new one
pub record Widens (r : Read) (channels : List Channel) (b : Bool) : Type 0 where
  pub apart : b ≡ false → 1 ≡ last_width (grown r channels)
  pub room : b ≡ true → last_width channels < 31 → last_width channels + 1 ≡ last_width (grown r channels)
  pub full : b ≡ true → 31 ≤ last_width channels → 1 ≡ last_width (grown r channels)
  pub count : length (grown r channels) ≡ length channels + cond (eqb (last_width (grown r channels)) 1) 1 0

widens : (r : Read) (channels : List Channel) (b : Bool) → (channels ≡ [] → b ≡ false) → ((c : Channel) (before : List Channel) → channels ≡ c ∷ before → (is_between c r ≡ b) × (0 < length c.ports)) → Widens r channels b
widens r [] b none some = record { apart = λ e. refl; room = λ e less. absurd (let f = none refl in let g : true ≡ false = sym e ∙ f in cc); full = λ e more. refl; count = refl }
widens r (c ∷ before) b none some = by (is_between c r) refl (nat_lt (length c.ports) 31) refl
  where
    is : is_between c r ≡ b
    is = (some c before refl).0

    wide : 0 < length c.ports
    wide = (some c before refl).1

    longer : length (c.ports ++ r.port ∷ []) ≡ length c.ports + 1
    longer = length-append c.ports (r.port ∷ [])

    new_one : suc (suc (length before)) ≡ suc (length before) + 1
    new_one = omega arith

    no_one : suc (length before) ≡ suc (length before) + 0
    no_one = omega arith

    by : (v : Bool) → is_between c r ≡ v → (room : Bool) → nat_lt (length c.ports) 31 ≡ room → Widens r (c ∷ before) b
    by true e true less =
        let shape : grown r (c ∷ before) ≡ with_port c r ∷ before = ap (λ (x : Bool). placed_read r (c ∷ before) (cond x (cond (nat_lt (length c.ports) 31) None (Some (c.piece + 1))) (Some 0))) e ∙ ap (λ (x : Bool). placed_read r (c ∷ before) (cond x None (Some (c.piece + 1)))) less in
        let now : last_width (grown r (c ∷ before)) ≡ length c.ports + 1 = ap last_width shape ∙ longer in
        let more : eqb (length c.ports + 1) 1 ≡ false = (let w = wide in grind (arith, w)) in
        record {
          apart = λ f. absurd (let g : true ≡ false = sym e ∙ is ∙ f in cc);
          room = λ f l. sym now;
          full = λ f l. absurd (let h : length c.ports < 31 = grind (arith, less) in omega arith);
          count = ap length shape ∙ no_one ∙ ap (λ (x : Bool). length (c ∷ before) + cond x 1 0) (sym more) ∙ ap (λ (n : ℕ). length (c ∷ before) + cond (eqb n 1) 1 0) (sym now);
        }
    by true e false less =
        let shape : grown r (c ∷ before) ≡ new_channel r (c.piece + 1) ∷ c ∷ before = ap (λ (x : Bool). placed_read r (c ∷ before) (cond x (cond (nat_lt (length c.ports) 31) None (Some (c.piece + 1))) (Some 0))) e ∙ ap (λ (x : Bool). placed_read r (c ∷ before) (cond x None (Some (c.piece + 1)))) less in
        let now : last_width (grown r (c ∷ before)) ≡ 1 = ap last_width shape in
        record {
          apart = λ f. sym now;
          room = λ f l. absurd (let h : 31 ≤ length c.ports = grind (arith, less) in omega arith);
          full = λ f l. sym now;
          count = ap length shape ∙ new_one ∙ ap (λ (n : ℕ). length (c ∷ before) + cond (eqb n 1) 1 0) (sym now);
        }
    by false e room less =
        let shape : grown r (c ∷ before) ≡ new_channel r 0 ∷ c ∷ before = ap (λ (x : Bool). placed_read r (c ∷ before) (cond x (cond (nat_lt (length c.ports) 31) None (Some (c.piece + 1))) (Some 0))) e in
        let now : last_width (grown r (c ∷ before)) ≡ 1 = ap last_width shape in
        record {
          apart = λ f. sym now;
          room = λ f l. absurd (let g : false ≡ true = sym e ∙ is ∙ f in cc);
          full = λ f l. sym now;
          count = ap length shape ∙ new_one ∙ ap (λ (n : ℕ). length (c ∷ before) + cond (eqb n 1) 1 0) (sym now);
        }

pub widens_back : (rs : List Read) (r : Read) → Widens r (cut_back rs) (joins rs r)
widens_back [] r = widens r [] false (λ e. refl) (λ c before e. absurd (let f : [] ≡ c ∷ before = e in cc))
widens_back (q ∷ qs) r = widens r (cut_back (q ∷ qs)) (joins (q ∷ qs) r) (λ e. absurd (let top = tops q (cut_back qs) in let f : [] ≡ top.c ∷ top.before = sym e ∙ top.is in cc)) (meets (q ∷ qs) r).some

pub width_apart : (reads : List Read) (i : ℕ) (r : Read) → i < length reads → r ≡ get_or reads i r → joins (reverse (take i reads)) r ≡ false → 1 ≡ last_width (cut_back (reverse (take (i + 1) reads)))
width_apart reads i r less is e = (widens_back (reverse (take i reads)) r).apart e ∙ ap (λ (rs : List Read). last_width (cut_back rs)) (sym (one_more reads i r less is))

pub width_room : (reads : List Read) (i w : ℕ) (r : Read) → i < length reads → r ≡ get_or reads i r → joins (reverse (take i reads)) r ≡ true → w ≡ last_width (cut_back (reverse (take i reads))) → w < 31 → w + 1 ≡ last_width (cut_back (reverse (take (i + 1) reads)))
width_room reads i w r less is e width small =
    ap (λ (n : ℕ). n + 1) width ∙ (widens_back (reverse (take i reads)) r).room e (subst (λ (n : ℕ). n < 31) width small) ∙ ap (λ (rs : List Read). last_width (cut_back rs)) (sym (one_more reads i r less is))

pub width_full : (reads : List Read) (i w : ℕ) (r : Read) → i < length reads → r ≡ get_or reads i r → joins (reverse (take i reads)) r ≡ true → w ≡ last_width (cut_back (reverse (take i reads))) → 31 ≤ w → 1 ≡ last_width (cut_back (reverse (take (i + 1) reads)))
width_full reads i w r less is e width small =
    (widens_back (reverse (take i reads)) r).full e (subst (λ (n : ℕ). 31 ≤ n) width small) ∙ ap (λ (rs : List Read). last_width (cut_back rs)) (sym (one_more reads i r less is))

pub count_more : (reads : List Read) (i : ℕ) (r : Read) → i < length reads → r ≡ get_or reads i r → length (cut_back (reverse (take (i + 1) reads))) ≡ length (cut_back (reverse (take i reads))) + cond (eqb (last_width (cut_back (reverse (take (i + 1) reads)))) 1) 1 0
count_more reads i r less is =
    let more = one_more reads i r less is in
    subst (λ (rs : List Read). length (cut_back rs) ≡ length (cut_back (reverse (take i reads))) + cond (eqb (last_width (cut_back rs)) 1) 1 0) (sym more) (widens_back (reverse (take i reads)) r).count

grown_long : (rs : List Read) (r : Read) → (length (cut_back rs) ≤ length (cut_back (r ∷ rs))) × (length (cut_back (r ∷ rs)) ≤ length (cut_back rs) + 1)
grown_long rs r = by (eqb (last_width (cut_back (r ∷ rs))) 1) (widens_back rs r).count
  where
    by : (b : Bool) → length (cut_back (r ∷ rs)) ≡ length (cut_back rs) + cond b 1 0 → (length (cut_back rs) ≤ length (cut_back (r ∷ rs))) × (length (cut_back (r ∷ rs)) ≤ length (cut_back rs) + 1)
    by true e = (omega arith, omega arith)
    by false e = (omega arith, omega arith)

pub back_short : (rs : List Read) → length (cut_back rs) ≤ length rs
back_short [] = omega arith
back_short (r ∷ rs) = let h = back_short rs in let g = (grown_long rs r).1 in omega arith

back_more : (xs ys : List Read) → length (cut_back ys) ≤ length (cut_back (xs ++ ys))
back_more [] ys = omega arith
back_more (x ∷ xs) ys = let h = back_more xs ys in let g = (grown_long (xs ++ ys) x).0 in omega arith

-- no part has more channels than the whole
pub part_short : (reads : List Read) (i : ℕ) → length (cut_back (reverse (take i reads))) ≤ length (cut_back (reverse reads))
part_short reads i =
    let whole : reverse reads ≡ reverse (drop i reads) ++ reverse (take i reads) = ap reverse (sym (take-append-drop i reads)) ∙ reverse-append (take i reads) (drop i reads) in
    subst (λ (rs : List Read). length (cut_back (reverse (take i reads))) ≤ length (cut_back rs)) (sym whole) (back_more (reverse (drop i reads)) (reverse (take i reads)))

pub count_short : (reads : List Read) (i : ℕ) → length (cut_back (reverse (take i reads))) ≤ i
count_short reads i =
    let h = back_short (reverse (take i reads)) in
    let l = length-reverse (take i reads) in
    let t = length_take reads i in
    omega arith
  where
    length_take : (xs : List Read) (n : ℕ) → length (take n xs) ≤ n
    length_take xs zero = omega arith
    length_take [] (suc n) = omega arith
    length_take (x ∷ xs) (suc n) = let h = length_take xs n in omega arith

-- the last channel has no greater piece than there are channels before it
abbrev pub low : List Channel → Type 0
low [] = Unit {0}
low (c ∷ before) = c.piece ≤ length before

low_grown : (r : Read) (channels : List Channel) → low channels → low (grown r channels)
low_grown r [] h = omega arith
low_grown r (c ∷ before) h = by (is_between c r) (nat_lt (length c.ports) 31)
  where
    by : (b room : Bool) → low (placed_read r (c ∷ before) (cond b (cond room None (Some (c.piece + 1))) (Some 0)))
    by true true = h
    by true false = omega arith
    by false room = omega arith

low_back : (rs : List Read) → low (cut_back rs)
low_back [] = tt
low_back (r ∷ rs) = low_grown r (cut_back rs) (low_back rs)

pub pieced : (rs : List Read) → length (cut_back rs) ≤ 16384 → ArePieced (cut_back rs)
pieced rs h = by (cut_back rs) (low_back rs) h
  where
    by : (channels : List Channel) → low channels → length channels ≤ 16384 → ArePieced channels
    by [] l h = tt
    by (c ∷ before) l h = (l, omega arith)

-- channels are cut as they grow
cut_grown : (r : Read) (channels : List Channel) → AreCut channels → AreCut (grown r channels)
cut_grown r [] h = (omega arith, omega arith, refl, tt)
cut_grown r (c ∷ before) h = by (is_between c r) refl (nat_lt (length c.ports) 31) refl
  where
    longer : length (c.ports ++ r.port ∷ []) ≡ length c.ports + 1
    longer = length-append c.ports (r.port ∷ [])

    beside : (v : Bool) (piece : ℕ) → is_between c r ≡ v → IsPieceAfter v c (new_channel r piece) → IsNextPiece (new_channel r piece) (c ∷ before)
    beside v piece e p = subst (λ (x : Bool). IsPieceAfter x c (new_channel r piece)) (sym e) p

    next : (bs : List Channel) → IsNextPiece c bs → IsNextPiece (with_port c r) bs
    next [] p = p
    next (b ∷ bs) p = same (is_beside b c) p
      where
        same : (v : Bool) → IsPieceAfter v b c → IsPieceAfter v b (with_port c r)
        same true q = q
        same false q = q

    by : (v : Bool) → is_between c r ≡ v → (room : Bool) → nat_lt (length c.ports) 31 ≡ room → AreCut (placed_read r (c ∷ before) (cond v (cond room None (Some (c.piece + 1))) (Some 0)))
    by true e true less = let l = longer in let f : length c.ports < 31 = grind (arith, less) in (subst (λ (n : ℕ). 0 < n) (sym l) (omega arith), subst (λ (n : ℕ). n ≤ 31) (sym l) (omega arith), next before h.2, h.3)
    by true e false less = (omega arith, omega arith, beside true (c.piece + 1) e ((let f : 31 ≤ length c.ports = grind (arith, less) in let g = h.1 in omega arith), refl), h)
    by false e room less = (omega arith, omega arith, beside false 0 e refl, h)

cut_all : (rs : List Read) → AreCut (cut_back rs)
cut_all [] = tt
cut_all (r ∷ rs) = cut_grown r (cut_back rs) (cut_all rs)

-- channels carry what they have grown by
carry_grown : (r : Read) (channels : List Channel) → flat_map reads_in (reverse (grown r channels)) ≡ flat_map reads_in (reverse channels) ++ r ∷ []
carry_grown r [] = refl
carry_grown r (c ∷ before) = by (is_between c r) refl (nat_lt (length c.ports) 31)
  where
    new : (piece : ℕ) → flat_map reads_in (reverse (new_channel r piece ∷ c ∷ before)) ≡ flat_map reads_in (reverse (c ∷ before)) ++ r ∷ []
    new piece = ap (flat_map reads_in) (reverse-append (new_channel r piece ∷ []) (c ∷ before)) ∙ flat_map-append reads_in (reverse (c ∷ before)) (new_channel r piece ∷ [])

    by : (v : Bool) → is_between c r ≡ v → (room : Bool) → flat_map reads_in (reverse (placed_read r (c ∷ before) (cond v (cond room None (Some (c.piece + 1))) (Some 0)))) ≡ flat_map reads_in (reverse (c ∷ before)) ++ r ∷ []
    by true e true =
        let from = eqb-true c.from r.from ((and_parts (eqb c.from r.from) (eqb c.to r.to) e).0) in
        let to = eqb-true c.to r.to ((and_parts (eqb c.from r.from) (eqb c.to r.to) e).1) in
        let one : read_at c r.port ≡ r = ap (λ (n : ℕ). record { from = n; to = c.to; port = r.port }) from ∙ ap (λ (n : ℕ). record { from = r.from; to = n; port = r.port }) to in
        let last : reads_in (with_port c r) ≡ reads_in c ++ r ∷ [] = map-append (read_at c) c.ports (r.port ∷ []) ∙ ap (λ (x : Read). reads_in c ++ x ∷ []) one in
        ap (flat_map reads_in) (reverse-append (with_port c r ∷ []) before)
        ∙ flat_map-append reads_in (reverse before) (with_port c r ∷ [])
        ∙ ap (λ (xs : List Read). flat_map reads_in (reverse before) ++ xs) (append-nil (reads_in (with_port c r)) ∙ last)
        ∙ sym (append_assoc (flat_map reads_in (reverse before)) (reads_in c) (r ∷ []))
        ∙ ap (λ (xs : List Read). xs ++ r ∷ []) (ap (λ (xs : List Read). flat_map reads_in (reverse before) ++ xs) (sym (append-nil (reads_in c))) ∙ sym (flat_map-append reads_in (reverse before) (c ∷ [])) ∙ ap (flat_map reads_in) (sym (reverse-append (c ∷ []) before)))
    by true e false = new (c.piece + 1)
    by false e room = new 0

carry_all : (rs : List Read) → flat_map reads_in (reverse (cut_back rs)) ≡ reverse rs
carry_all [] = refl
carry_all (r ∷ rs) = carry_grown r (cut_back rs) ∙ ap (λ (xs : List Read). xs ++ r ∷ []) (carry_all rs) ∙ sym (reverse-append (r ∷ []) rs)

-- there are channels of some reads
pub channels_are : (reads : List Read) (channels : List Channel) → reverse channels ≡ cut_back (reverse reads) → AreChannelsOf reads channels
channels_are reads channels is = record {
  carry = ap (flat_map reads_in) (sym (reverse-reverse channels) ∙ ap reverse is) ∙ carry_all (reverse reads) ∙ reverse-reverse reads;
  cut = subst AreCut (sym is) (cut_all (reverse reads));
}

pub channels_there : (reads : List Read) → AreChannelsOf reads (reverse (cut_back (reverse reads))) × (length (reverse (cut_back (reverse reads))) ≡ length (cut_back (reverse reads)))
channels_there reads = (channels_are reads (reverse (cut_back (reverse reads))) (reverse-reverse (cut_back (reverse reads))), length-reverse (cut_back (reverse reads)))

-- each channel is narrow
pub narrow : (channels : List Channel) → AreCut channels → AllByRecursion (λ c. length c.ports ≤ 31) channels
narrow [] h = tt
narrow (c ∷ before) h = (h.1, narrow before h.3)

abbrev pub no_read : Read
no_read = record { from = 0; to = 0; port = 0 }

-- the read at a place
pub item_is : (reads : List Read) (i : ℕ) → i < length reads → get_or reads i no_read ≡ get_or reads i (get_or reads i no_read)
item_is reads i less = get_or_default reads i no_read (get_or reads i no_read) less

pub narrow_all : (channels : List Channel) → AreCut (reverse channels) → AllByRecursion (λ c. length c.ports ≤ 31) channels
narrow_all channels cut = each channels (λ c among. all_among (λ d. length d.ports ≤ 31) (reverse channels) c (narrow (reverse channels) cut) (turned c channels among))
  where
    each : (cs : List Channel) → ((c : Channel) → Among c cs → length c.ports ≤ 31) → AllByRecursion (λ c. length c.ports ≤ 31) cs
    each [] h = tt
    each (c ∷ cs) h = (h c (inl refl), each cs (λ d among. h d (inr among)))

    turned : (c : Channel) (cs : List Channel) → Among c cs → Among c (reverse cs)
    turned c [] h = absurd h
    turned c (d ∷ cs) (inl e) = subst (λ (xs : List Channel). Among c xs) (sym (reverse-append (d ∷ []) cs)) (among_right c (reverse cs) (d ∷ []) (inl e))
    turned c (d ∷ cs) (inr h) = subst (λ (xs : List Channel). Among c xs) (sym (reverse-append (d ∷ []) cs)) (among_left c (reverse cs) (d ∷ []) (turned c cs h))
