-- Tokens that are offered one after the other.
use Rattle.std.proofs.Common.{◌≡◌, ℕ, ◌+◌, ◌<◌, List, length, get_or, set, sym, ◌∙◌, ap, subst, arith}
use Rattle.std.specs.Prelude.{Some, slice_get}
use Rattle.std.proofs.lemmas.Option.{same_Some}
use Rattle.lid_base.proofs.Places.{item_at}
use Rattle.lid_clock_flat.specs.declared.station.FlatStation.{FlatStation}
use Rattle.lid_clock_flat.specs.declared.stations.FlatStations.{FlatStations}
use Rattle.lid_clock_flat.specs.Rings.{place_at, token_on, RingsAreApart}
use Rattle.lid_clock_flat.specs.Reads.{AreThere, AreReadOnce, AllHaveRoom, AreOffered}
use Rattle.lid_clock_flat.proofs.Writes.{written, kept, free_kept, as_many, apart_over}
use mathlib.Core.Logic.{dite}
use native.Mathlib.Decide.{ℕ_discrete}

-- one more
pub offered_next : (reads tokens : List ℕ) (i token : ℕ) (old now new : FlatStations) → i < length reads → AreThere reads old.all.items → AreReadOnce reads → AllHaveRoom reads old.all.items
    → RingsAreApart old.all.items old.places.items → AreOffered reads tokens i old now → token ≡ get_or tokens i 0 → new.all ≡ now.all
    → ((x : FlatStation) → slice_get now.all.items (get_or reads i 0) ≡ Some x → new.places.items ≡ set now.places.items (place_at x x.held) token)
    → AreOffered reads tokens (i + 1) old new
offered_next reads tokens i token old now new within there once room apart was is all places =
    let t : ℕ = get_or reads i 0 in
    let found = item_at old.all.items t (there i within) in
    let x : FlatStation = found.0 in
    let at : slice_get old.all.items t ≡ Some x = found.1 in
    let items : now.all.items ≡ old.all.items = ap (λ v. v.items) was.all in
    let set_so : new.places.items ≡ set now.places.items (place_at x x.held) token = places x (ap (λ (xs : List FlatStation). slice_get xs t) items ∙ at) in
    let still : RingsAreApart old.all.items now.places.items = apart_over old.all.items old.places.items now.places.items apart was.many in
    let free : x.held < x.cap = room i within x at in
    record {
      all = all ∙ was.all;
      many = as_many old.all.items now.places.items new.places.items t token x still at free set_so ∙ was.many;
      kept = λ s n y here less. kept old.all.items now.places.items new.places.items t token x still at free set_so s n y here less ∙ was.kept s n y here less;
      free = λ s y here none.
          free_kept old.all.items now.places.items new.places.items t token x still at free set_so s y here (λ same. none i (omega arith) (sym same))
          ∙ was.free s y here (λ j less. none j (omega arith));
      each = λ j less y here.
          dite (ℕ_discrete j i)
          (λ same.
          let one : x ≡ y = same_Some x y (sym at ∙ ap (λ (n : ℕ). slice_get old.all.items (get_or reads n 0)) (sym same) ∙ here) in
          subst (λ (z : FlatStation). token_on new.places.items z z.held ≡ get_or tokens j 0) one
          (written old.all.items now.places.items new.places.items t token x still at free set_so ∙ is ∙ ap (λ (n : ℕ). get_or tokens n 0) (sym same)))
          (λ other.
          free_kept old.all.items now.places.items new.places.items t token x still at free set_so (get_or reads j 0) y here (λ same. other (once j i (omega arith) within same))
          ∙ was.each j (omega arith) y here);
    }
