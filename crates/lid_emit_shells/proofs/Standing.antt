-- The wires that stand for the nets of a shell.
use Rattle.std.proofs.Common.{◌≡◌, ℕ, suc, ◌+◌, ◌<◌, Bool, true, false, List, [], ◌∷◌, length, get_or, map, replicate, zero-add, Some, slice_get, refl, sym, ◌∙◌, ap, subst, arith}
use Rattle.std.specs.List.{AllByRecursion}
use Rattle.std.proofs.lemmas.List.{length-replicate}
use Rattle.std.proofs.lemmas.Option.{get_or_from_slice_get}
use Rattle.lid_base.specs.Lists.{Among}
use Rattle.lid_base.proofs.Lists.{among_map, all_among, among_get, get_among}
use Rattle.lid_design.specs.declared.Flat.{Flat}
use Rattle.lid_design.specs.declared.FlatLatch.{FlatLatch}
use Rattle.lid_design.specs.declared.FlatCover.{FlatCover}
use Rattle.lid_base.specs.Each.{from_each}
use Rattle.lid_design.specs.Flat.{latch_out, IsFlat, IsFlatCover}
use Rattle.lid_check_rules.specs.Buffers.{passes_on}
use Rattle.lid_check_rules.proofs.Buffers.{passed_on}
use Rattle.lid_emit_cells.specs.declared.wire.Wire.{Wire}
use Rattle.lid_emit_cells.specs.declared.wire.Wire.TheVariants.{Offer, Now, Later}
use Rattle.lid_emit_shells.specs.Filling.{AreNetsWithin, IsCoverWithin, overwritten, cover_out, is_passing, wire_read, here_of, after_of, skips_of}
use Rattle.lid_emit_shells.proofs.Apart.{each_input_once, each_latch_once, each_cover_once, no_input_of_latch, no_input_of_cover, no_latch_of_cover, no_known_of_cover}
use Rattle.lid_emit_shells.proofs.Filled.{length_written, written_other, written_at, length_passed, passed_other, passed_stays, passed_passes}
use Rattle.lid_emit_shells.proofs.Inside.{inputs_inside, covers_inside}
use Rattle.lid_base.proofs.Places.{get_map}
use Rattle.lid_base.proofs.Each.{each_length, each_get}

-- the item of a number in a list of one for each
each_at : {A : Type 0} (f : ℕ → A) (n k : ℕ) (d : A) → k < n → get_or (from_each f 0 n) k d ≡ f k
each_at f n k d less =
    get_or_from_slice_get (from_each f 0 n) k (f (0 + k)) d (each_get f 0 n k less) ∙ (let e : 0 + k ≡ k = zero-add k in ap f e)

-- the one net of a cover that passes its input on
pub one_net : (c : FlatCover) → IsFlatCover c → passes_on c.cover ≡ true → (a : ℕ) × (c.ins ≡ a ∷ [])
one_net c rules passes = by c.ins refl
  where
    one : c.cover.inputs ≡ 1
    one = (passed_on c.cover passes).0

    by : (ks : List ℕ) → c.ins ≡ ks → (a : ℕ) × (c.ins ≡ a ∷ [])
    by [] is = absurd (let none : length c.ins ≡ 0 = ap length is in omega (arith, one, rules.1))
    by (a ∷ []) is = (a, is)
    by (a ∷ b ∷ ks) is = absurd (let more : length c.ins ≡ suc (suc (length ks)) = ap length is in omega (arith, one, rules.1))

module _ (v : ℕ) (f : Flat) (rules : IsFlat f) (reads : List Wire) (long : length reads ≡ length f.ins) where
  abbrev outs : List ℕ
  outs = map latch_out f.latches

  abbrev here : List Wire
  here = here_of v f reads

  abbrev after : List Wire
  after = after_of v f reads here

  abbrev skips : List Bool
  skips = skips_of f

  abbrev begun : (ℕ → ℕ → Wire) → List Wire
  begun own = from_each (own v) 0 f.nets

  abbrev read : (ℕ → ℕ → Wire) → List Wire
  read own = overwritten f.ins reads (begun own)

  abbrev taken : List Wire
  taken = overwritten outs (map (wire_read here) f.latches) (read Later)

  length_read : (own : ℕ → ℕ → Wire) → length (read own) ≡ f.nets
  length_read own = length_written f.ins reads (begun own) ∙ each_length (own v) 0 f.nets

  length_taken : length taken ≡ f.nets
  length_taken = length_written outs (map (wire_read here) f.latches) (read Later) ∙ length_read Later

  pub length_here : length here ≡ f.nets
  length_here = length_passed f.covers (read Now) ∙ length_read Now

  pub length_after : length after ≡ f.nets
  length_after = length_passed f.covers taken ∙ length_taken

  pub length_skips : length skips ≡ f.nets
  length_skips = length_written (map cover_out f.covers) (map is_passing f.covers) (replicate f.nets false) ∙ length-replicate f.nets false

  -- inputs have the wires that they read
  module _ (j k : ℕ) (x : Wire) (net : slice_get f.ins j ≡ Some k) (wire : slice_get reads j ≡ Some x) where
    input : Among k f.ins
    input = get_among f.ins j k net

    input_read : (own : ℕ → ℕ → Wire) → get_or (read own) k Offer ≡ x
    input_read own = written_at f.ins reads (begun own) j k x Offer (each_input_once f rules) (inputs_inside f rules (length (begun own)) f.ins (each_length (own v) 0 f.nets) refl) net wire

    pub input_here : get_or here k Offer ≡ x
    input_here = passed_other f.covers (read Now) k (no_input_of_cover f rules k input) ∙ input_read Now

    pub input_after : get_or after k Offer ≡ x
    input_after =
        passed_other f.covers taken k (no_input_of_cover f rules k input)
        ∙ written_other outs (map (wire_read here) f.latches) (read Later) k Offer (no_input_of_latch f rules k input)
        ∙ input_read Later

  -- a net that is no input keeps its wire
  own_read : (own : ℕ → ℕ → Wire) (k : ℕ) → k < f.nets → (Among k f.ins → ⊥) → get_or (read own) k Offer ≡ own v k
  own_read own k less apart = written_other f.ins reads (begun own) k Offer apart ∙ each_at (own v) f.nets k Offer less

  module _ (l : FlatLatch) (there : Among l f.latches) where
    out : Among l.out outs
    out = among_map {A = FlatLatch} {B = ℕ} latch_out l f.latches there

    latch_below : (l.input < f.nets) × (l.out < f.nets)
    latch_below = all_among (λ (l : FlatLatch). (l.input < f.nets) × (l.out < f.nets)) f.latches l rules.below.latches there

    pub latch_here : get_or here l.out Offer ≡ Now v l.out
    latch_here = passed_other f.covers (read Now) l.out (no_latch_of_cover f rules l.out out) ∙ own_read Now l.out latch_below.1 (λ i. no_input_of_latch f rules l.out i out)

    place : (j : ℕ) × (slice_get f.latches j ≡ Some l)
    place = among_get f.latches l there

    latch_taken : get_or taken l.out Offer ≡ get_or here l.input Offer
    latch_taken =
        written_at outs (map (wire_read here) f.latches) (read Later) place.0 l.out (wire_read here l) Offer (each_latch_once f rules) outs_inside
        (get_map {A = FlatLatch} {B = ℕ} latch_out f.latches place.0 l place.1)
        (get_map {A = FlatLatch} {B = Wire} (wire_read here) f.latches place.0 l place.1)
      where
        below : (n : ℕ) (ls : List FlatLatch) → AllByRecursion (λ (l : FlatLatch). (l.input < n) × (l.out < n)) ls → AreNetsWithin n (map latch_out ls)
        below n [] all = tt
        below n (l ∷ ls) all = (all.0.1, below n ls all.1)

        outs_inside : AreNetsWithin (length (read Later)) outs
        outs_inside = subst (λ (n : ℕ). AreNetsWithin n outs) (sym (length_read Later)) (below f.nets f.latches rules.below.latches)

    pub latch_after : get_or after l.out Offer ≡ get_or here l.input Offer
    latch_after = passed_other f.covers taken l.out (no_latch_of_cover f rules l.out out) ∙ latch_taken

  module _ (c : FlatCover) (there : Among c f.covers) where
    made : Among c.out (map cover_out f.covers)
    made = among_map {A = FlatCover} {B = ℕ} cover_out c f.covers there

    at : (j : ℕ) × (slice_get f.covers j ≡ Some c)
    at = among_get f.covers c there

    cover_below : IsCoverWithin f.nets c
    cover_below = all_among (IsCoverWithin f.nets) f.covers c rules.below.covers there

    pub cover_rules : IsFlatCover c
    cover_rules = all_among IsFlatCover f.covers c rules.covers there

    pub cover_skips : get_or skips c.out false ≡ passes_on c.cover
    cover_skips =
        written_at (map cover_out f.covers) (map is_passing f.covers) (replicate f.nets false) at.0 c.out (passes_on c.cover) false (each_cover_once f rules) outs_inside
        (get_map {A = FlatCover} {B = ℕ} cover_out f.covers at.0 c at.1)
        (get_map {A = FlatCover} {B = Bool} is_passing f.covers at.0 c at.1)
      where
        below : (n : ℕ) (cs : List FlatCover) → AllByRecursion (IsCoverWithin n) cs → AreNetsWithin n (map cover_out cs)
        below n [] all = tt
        below n (c ∷ cs) all = (all.0.1, below n cs all.1)

        outs_inside : AreNetsWithin (length (replicate f.nets false)) (map cover_out f.covers)
        outs_inside = subst (λ (n : ℕ). AreNetsWithin n (map cover_out f.covers)) (sym (length-replicate f.nets false)) (below f.nets f.covers rules.below.covers)

    module _ (passes : passes_on c.cover ≡ true) (a : ℕ) (ins : c.ins ≡ a ∷ []) where
      pub passes_here : get_or here c.out Offer ≡ get_or here a Offer
      passes_here = passed_passes _ f.covers (read Now) rules.earlier (no_known_of_cover f rules) (each_cover_once f rules) (covers_inside f rules (length (read Now)) f.covers (length_read Now) refl) c there passes a ins

      pub passes_after : get_or after c.out Offer ≡ get_or after a Offer
      passes_after = passed_passes _ f.covers taken rules.earlier (no_known_of_cover f rules) (each_cover_once f rules) (covers_inside f rules (length taken) f.covers length_taken refl) c there passes a ins

    module _ (makes : passes_on c.cover ≡ false) where
      no_input : Among c.out f.ins → ⊥
      no_input i = no_input_of_cover f rules c.out i made

      no_latch : Among c.out outs → ⊥
      no_latch i = no_latch_of_cover f rules c.out i made

      pub makes_here : get_or here c.out Offer ≡ Now v c.out
      makes_here = passed_stays f.covers (read Now) (each_cover_once f rules) c there makes ∙ own_read Now c.out cover_below.1 no_input

      pub makes_after : get_or after c.out Offer ≡ Later v c.out
      makes_after =
          passed_stays f.covers taken (each_cover_once f rules) c there makes
          ∙ written_other outs (map (wire_read here) f.latches) (read Later) c.out Offer no_latch
          ∙ own_read Later c.out cover_below.1 no_input
