-- Plain stations as they start.
use Rattle.std.proofs.Common.{◌≡◌, ℕ, zero, suc, ◌%◌, ◌^◌, ◌<◌, ◌≤◌, ◌⊎◌, inl, inr, List, [], ◌∷◌, ◌++◌, length, get_or, replicate, refl, sym, ◌∙◌, ap, subst, arith, length-set}
use Rattle.std.specs.Prelude.{Option, Some, None, slice_get}
use Rattle.std.specs.List.{All}
use Rattle.std.proofs.lemmas.Option.{slice_get_within, same_Some, get_or_from_slice_get, slice_get-get_or}
use Rattle.std.proofs.lemmas.List.{get_or-set_same, length-replicate}
use Rattle.lid_station.specs.declared.pair.Pair.{Pair}
use Rattle.lid_station.specs.Plain.{HoldsTokensOf, PlainStands}
use Rattle.lid_station.specs.Starts.{IsStart, AreStarts, Begin}

-- an element of a list with one element more
at_more : (xs : List Pair) (x p : Pair) (i : ℕ) → slice_get (xs ++ x ∷ []) i ≡ Some p → (slice_get xs i ≡ Some p) ⊎ ((i ≡ length xs) × (x ≡ p))
at_more [] x p zero e = inr (refl, same_Some x p e)
at_more [] x p (suc i) e = absurd (cc)
at_more (y ∷ ys) x p zero e = inl e
at_more (y ∷ ys) x p (suc i) e =
    elim (at_more ys x p i e) [ inl before ↦ inl before | inr last ↦ inr (ap suc last.0, last.1) ]

-- what holds of each station so far, and of the next, holds of one more
pub each_more : (firsts : List (Option ℕ)) (caps : List ℕ) (pairs : List Pair) (x : Pair) (n : ℕ) → length pairs ≡ n
    → ((i : ℕ) → (p : Pair) → slice_get pairs i ≡ Some p → IsStart (get_or firsts i None) (get_or caps i 0) p)
    → IsStart (get_or firsts n None) (get_or caps n 0) x
    → (i : ℕ) → (p : Pair) → slice_get (pairs ++ x ∷ []) i ≡ Some p → IsStart (get_or firsts i None) (get_or caps i 0) p
each_more firsts caps pairs x n many each next i p at =
    elim (at_more pairs x p i at) [
      | inl before ↦ each i p before
      | inr last ↦
          let here : IsStart (get_or firsts n None) (get_or caps n 0) p = subst (λ (q : Pair). IsStart (get_or firsts n None) (get_or caps n 0) q) last.1 next in
          let number : n ≡ i = sym (last.0 ∙ many) in
          subst (λ (k : ℕ). IsStart (get_or firsts k None) (get_or caps k 0) p) number here
    ]

-- a station that starts stands for each stream that begins with its start token
holds_start : (first : Option ℕ) (cap : ℕ) (p : Pair) (stream : List ℕ) → IsStart first cap p → length stream < 2 ^ 64 → All (λ token. token < 2 ^ 31) stream
    → ((token : ℕ) → first ≡ Some token → slice_get stream 0 ≡ Some token) → HoldsTokensOf p stream
holds_start None cap p stream start short small begins =
    let put : p.put ≡ 0 = start.put in
    record {
      short = short;
      small = small;
      filled = omega arith;
      held = λ i from to. absurd (omega arith);
    }
holds_start (Some token) cap p stream start short small begins =
    let put : p.put ≡ 1 = start.put in
    let next : slice_get stream 0 ≡ Some token = begins token refl in
    let within : 0 < length stream = slice_get_within stream 0 token next in
    let two : 2 ≤ length p.places.items = p.two in
    let size : length p.places.items ≡ cap = ap length start.places ∙ length-set (replicate cap 0) 0 token ∙ length-replicate cap 0 in
    let places : length (replicate {A = ℕ} cap 0) ≡ cap = length-replicate {A = ℕ} cap 0 in
    record {
      short = short;
      small = small;
      filled = omega arith;
      held = λ i from to.
          let first_one : i ≡ 0 = omega arith in
          let spot : i % length p.places.items ≡ 0 = omega arith in
          ap (λ (k : ℕ). get_or p.places.items k 0) spot
          ∙ ap (λ (items : List ℕ). get_or items 0 0) start.places
          ∙ get_or-set_same (replicate cap 0) 0 token 0 (omega arith)
          ∙ sym (get_or_from_slice_get stream 0 token 0 next)
          ∙ ap (λ (k : ℕ). get_or stream k 0) (sym first_one);
    }

-- stations that start stand for streams that begin with their start tokens
pub starts_stand : (firsts : List (Option ℕ)) (caps : List ℕ) (pairs : List Pair) (streams : ℕ → List ℕ) → AreStarts firsts caps pairs → Begin firsts streams → PlainStands pairs streams
starts_stand firsts caps pairs streams starts begin i p at =
    let within : i < length pairs = slice_get_within pairs i p at in
    let many : length pairs ≡ length firsts = starts.many in
    let inside : i < length firsts = omega arith in
    holds_start (get_or firsts i None) (get_or caps i 0) p (streams i) (starts.each i p at) (begin.short i inside) (begin.small i inside)
    (λ token is. begin.first i token (slice_get-get_or firsts i None inside ∙ ap (λ (o : Option ℕ). Some o) is))
