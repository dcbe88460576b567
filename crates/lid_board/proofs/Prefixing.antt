-- What passed the two ends of a station, whoever holds them.
use Rattle.std.proofs.Common.{◌≡◌, ℕ, zero, suc, ◌≤◌, List, [], ◌∷◌, length, take, drop, refl, sym, ap, subst, arith}
use Rattle.std.specs.Prelude.{Option, Some, None}
use Rattle.std.specs.List.{sum_by}
use Rattle.std.proofs.lemmas.List.{take-append-drop, length-take-le}
use Rattle.std.proofs.lemmas.List.Sums.{sum_by-cons}
use mathlib.Core.Option.{some}
use lib.ListN.{get_elem?}
use Rattle.lid_base.specs.Lists.{Extends}
use Rattle.lid_station.specs.Boards.{fill, drain}
use Rattle.lid_board.specs.Prefixes.{Prefix, StationsKeepPrefixes, passed_list}
use Rattle.lid_board.specs.Relation.{Kept, capacity_of, stream_of}
use Rattle.lid_board.specs.Views.{at, has, one_of}
use Rattle.lid_board.specs.declared.view.EndFacts.{EndFacts}
use Rattle.lid_board.specs.declared.view.HandView.{HandView}

-- one of the views has an end that is counted
abbrev HolderOf : List HandView → ℕ → Type 0
HolderOf views end = (h : EndFacts) × (j : ℕ) × (v : HandView) × (get_elem? views j ≡ some v) × (at v.ends end ≡ Some h)

later : (v : HandView) (vs : List HandView) (end : ℕ) → HolderOf vs end → HolderOf (v ∷ vs) end
later v vs end t = (t.0, suc t.1, t.2, t.3, t.4)

first_or : (v : HandView) (vs : List HandView) (end : ℕ) (o : Option EndFacts) → at v.ends end ≡ o → (one_of o ≡ 0 → HolderOf vs end) → HolderOf (v ∷ vs) end
first_or v vs end None is more = later v vs end (more refl)
first_or v vs end (Some h) is more = (h, 0, v, refl, is)

holder : (views : List HandView) (end : ℕ) → 1 ≤ sum_by (has end) views → HolderOf views end
holder [] end le = absurd (omega arith)
holder (v ∷ vs) end le =
    let s = sum_by-cons (has end) v vs in
    first_or v vs end (at v.ends end) refl (λ none. holder vs end (omega arith))

-- the first items are a prefix of more first ones, and of all
part_of_part : (xs : List ℕ) (n m : ℕ) → n ≤ m → Extends (take n xs) (take m xs)
part_of_part xs zero m le = (take m xs, refl)
part_of_part [] (suc n) zero le = absurd (omega arith)
part_of_part (x ∷ xs) (suc n) zero le = absurd (omega arith)
part_of_part [] (suc n) (suc m) le = ([], refl)
part_of_part (x ∷ xs) (suc n) (suc m) le = let h = part_of_part xs n m (omega arith) in (h.0, ap (λ (ys : List ℕ). x ∷ ys) h.1)

part_of_all : (xs : List ℕ) (n : ℕ) → Extends (take n xs) xs
part_of_all xs n = (drop n xs, sym (take-append-drop n xs))

-- one station
kept_prefix : (words : List ℕ) (first : ℕ) (f d : EndFacts) → Kept words first f d → Prefix f.cap (passed_list f) (passed_list d) f.stream
kept_prefix words first f d k =
    let same : d.stream ≡ f.stream = k.fixed.stream in
    let in_long = length-take-le f.passed f.stream k.within in
    let ordered = k.ordered in
    let within = k.within in
    let room = k.room in
    let out_long = length-take-le d.passed f.stream (omega arith) in
    let out_is : take d.passed d.stream ≡ take d.passed f.stream = ap (take d.passed) same in
    let long : length (passed_list d) ≡ length (take d.passed f.stream) = ap (λ (xs : List ℕ). length xs) out_is in
    record {
      left_entered = subst (λ (xs : List ℕ). Extends xs (passed_list f)) (sym out_is) (part_of_part f.stream d.passed f.passed ordered);
      entered_stream = part_of_all f.stream f.passed;
      room = omega arith;
    }

pub keep_prefixes : StationsKeepPrefixes
keep_prefixes plan st r station inside =
    let ends = r.ends in
    let p = r.planned (fill station) inside in
    let one = r.one (fill station) inside in
    let two = r.one (drain station) (omega arith) in
    record {
      filled = (let t = holder st.views (fill station) (omega arith) in (t.0, (t.1, t.2, t.3, t.4)));
      drained = (let t = holder st.views (drain station) (omega arith) in (t.0, (t.1, t.2, t.3, t.4)));
      prefix = λ f d by_f by_d.
          let f_is : f ≡ r.truth (fill station) = r.agree by_f.0 by_f.1 (fill station) f by_f.2 by_f.3 in
          let d_is : d ≡ r.truth (drain station) = r.agree by_d.0 by_d.1 (drain station) d by_d.2 by_d.3 in
          let truly = kept_prefix st.words _ (r.truth (fill station)) (r.truth (drain station)) (r.kept station (omega arith)) in
          let here : Prefix (capacity_of plan station) (passed_list (r.truth (fill station))) (passed_list (r.truth (drain station))) (stream_of plan station) =
          subst (λ (cap : ℕ). Prefix cap (passed_list (r.truth (fill station))) (passed_list (r.truth (drain station))) (stream_of plan station)) p.cap
          (subst (λ (s : List ℕ). Prefix (r.truth (fill station)).cap (passed_list (r.truth (fill station))) (passed_list (r.truth (drain station))) s) p.stream truly) in
          subst (λ (g : EndFacts). Prefix (capacity_of plan station) (passed_list g) (passed_list d) (stream_of plan station)) (sym f_is)
          (subst (λ (g : EndFacts). Prefix (capacity_of plan station) (passed_list (r.truth (fill station))) (passed_list g) (stream_of plan station)) (sym d_is) here);
    }
