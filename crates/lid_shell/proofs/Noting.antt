-- What the steps of actors note.
use Rattle.std.proofs.Common.{◌≡◌, ℕ, zero, suc, ◌+◌, ◌<◌, ◌≤◌, List, [], ◌∷◌, ◌++◌, length, length-append, append_assoc, refl, sym, ◌∙◌, ap, subst, arith, inl, inr}
use Rattle.std.specs.Prelude.{Option, Some, None, option_map, slice_get}
use Rattle.std.proofs.lemmas.Option.{same_Some}
use Rattle.std.proofs.lemmas.Bool.{cases_lt}
use Rattle.lid_station.specs.Boards.{Ends, noted}
use Rattle.lid_walk_machine.specs.Plans.{ins_of, outs_of}
use Rattle.lid_walk_machine.specs.Setups.{plan}
use Rattle.lid_walk_machine.specs.Machine.{ends_at}
use Rattle.lid_shell_laws.specs.Setups.{Setup}
use Rattle.lid_shell.specs.declared.actor.Actor.{Actor}
use Rattle.lid_shell.specs.Steps.{Works, IsOwn, NotesOne, Notes, NotesOwn}
use Rattle.lid_shell.proofs.Along.{IsAlong, resting, within, same_ins, same_outs}

-- nothing is noted
add_none : (old : Option (List ℕ)) → old ≡ option_map (λ (ends : List ℕ). [] ++ ends) old
add_none None = refl
add_none (Some ends) = refl

pub notes_none : (ins outs : List ℕ) (old : Option (List ℕ)) → Notes ins outs [] old old
notes_none ins outs old = record { are = add_none old; own = λ i end at. absurd (cc) }

pub none_noted : (a : Actor) (old : Option (List ℕ)) → ((a.desk.fired ≡ a.desk.cap → ⊥) → 0 < length a.desk.ins.items + length a.desk.outs.items → ⊥) → NotesOwn a old old
none_noted a old none = record { made = []; notes = notes_none a.desk.ins.items a.desk.outs.items old; some = λ below some. absurd (none below some) }

-- one step is noted
add_one : (end : ℕ) (old : Option (List ℕ)) → noted end old ≡ option_map (λ (ends : List ℕ). (end ∷ []) ++ ends) old
add_one end None = refl
add_one end (Some ends) = refl

own_one : (ins outs : List ℕ) (end : ℕ) → IsOwn ins outs end → (i at : ℕ) → slice_get (end ∷ []) i ≡ Some at → IsOwn ins outs at
own_one ins outs end own zero at is = subst (IsOwn ins outs) (same_Some end at is) own
own_one ins outs end own (suc i) at is = absurd (cc)

pub one_noted : (a : Actor) (old new : Option (List ℕ)) → NotesOne a.desk.ins.items a.desk.outs.items old new → NotesOwn a old new
one_noted a old new one = record {
  made = one.0 ∷ [];
  notes = record { are = one.2 ∙ add_one one.0 old; own = own_one a.desk.ins.items a.desk.outs.items one.0 one.1 };
  some = λ below some. omega arith;
}

-- steps after others
add_more : (made more : List ℕ) (old : Option (List ℕ)) → option_map (λ (ends : List ℕ). more ++ ends) (option_map (λ (ends : List ℕ). made ++ ends) old) ≡ option_map (λ (ends : List ℕ). (more ++ made) ++ ends) old
add_more made more None = refl
add_more made more (Some ends) = ap (λ (xs : List ℕ). Some xs) (sym (append_assoc more made ends))

own_more : (ins outs more made : List ℕ) → ((i end : ℕ) → slice_get more i ≡ Some end → IsOwn ins outs end) → ((i end : ℕ) → slice_get made i ≡ Some end → IsOwn ins outs end)
    → (i end : ℕ) → slice_get (more ++ made) i ≡ Some end → IsOwn ins outs end
own_more ins outs [] made mine others i end at = others i end at
own_more ins outs (x ∷ more) made mine others zero end at = mine zero end at
own_more ins outs (x ∷ more) made mine others (suc i) end at = own_more ins outs more made (λ k. mine (suc k)) others i end at

pub notes_then : (ins outs made more : List ℕ) (a b c : Option (List ℕ)) → Notes ins outs made a b → Notes ins outs more b c → Notes ins outs (more ++ made) a c
notes_then ins outs made more a b c one two = record {
  are = two.are ∙ ap (option_map (λ (ends : List ℕ). more ++ ends)) one.are ∙ add_more made more a;
  own = own_more ins outs more made two.own one.own;
}

notes_at : (ins outs xs ys made : List ℕ) (old new : Option (List ℕ)) → xs ≡ ins → ys ≡ outs → Notes xs ys made old new → Notes ins outs made old new
notes_at ins outs xs ys made old new same_xs same_ys notes =
    subst (λ (zs : List ℕ). Notes ins zs made old new) same_ys (subst (λ (zs : List ℕ). Notes zs ys made old new) same_xs notes)

-- a turn so far
pub record NotesSoFar (a : Actor) (old new : Option (List ℕ)) : Type 0 where
  pub made : List ℕ
  pub notes : Notes a.desk.ins.items a.desk.outs.items made old new

pub noted_at_first : (a : Actor) (old : Option (List ℕ)) → NotesSoFar a old old
noted_at_first a old = record { made = []; notes = notes_none a.desk.ins.items a.desk.outs.items old }

module _ (old a : Actor) (ends_old ends : Ends) (stands_old stands : (ℕ → List ℕ) → Type 0) (along : IsAlong old a ends_old ends stands_old stands) (m : Setup) (v fired : ℕ) (w : Works m v (resting fired) old ends_old stands_old) where
  -- the steps so far, and one more
  more : (first before now : Option (List ℕ)) (made : List ℕ) → Notes old.desk.ins.items old.desk.outs.items made first before → (own : NotesOwn a before now) → Notes old.desk.ins.items old.desk.outs.items (own.made ++ made) first now
  more first before now made notes own =
      let here = along.works m v fired w in
      notes_then old.desk.ins.items old.desk.outs.items made own.made first before now notes
      (notes_at old.desk.ins.items old.desk.outs.items a.desk.ins.items a.desk.outs.items own.made before now
      (same_ins m v (within fired a) (resting fired) a old ends ends_old stands stands_old here w)
      (same_outs m v (within fired a) (resting fired) a old ends ends_old stands stands_old here w)
      own.notes)

  pub noted_on : (first before now : Option (List ℕ)) → NotesSoFar old first before → NotesOwn a before now → NotesSoFar old first now
  noted_on first before now notes own = record { made = own.made ++ notes.made; notes = more first before now notes.made notes.notes own }

  -- the whole turn
  pub noted_all : (first before now : Option (List ℕ)) → NotesSoFar old first before → NotesOwn a before now → NotesOwn old first now
  noted_all first before now notes own =
      let here = along.works m v fired w in
      let same_fired : a.desk.fired ≡ old.desk.fired = here.actor.at.fired_is ∙ sym w.actor.at.fired_is in
      let same_cap : a.desk.cap ≡ old.desk.cap = here.actor.at.capped ∙ sym w.actor.at.capped in
      let ins : length a.desk.ins.items ≡ length old.desk.ins.items = ap length (same_ins m v (within fired a) (resting fired) a old ends ends_old stands stands_old here w) in
      let outs : length a.desk.outs.items ≡ length old.desk.outs.items = ap length (same_outs m v (within fired a) (resting fired) a old ends ends_old stands stands_old here w) in
      record {
        made = own.made ++ notes.made;
        notes = more first before now notes.made notes.notes own;
        some = λ below some.
            let last : 0 < length own.made = own.some (λ e. below (sym same_fired ∙ e ∙ same_cap)) (omega arith) in
            let long = length-append own.made notes.made in
            omega arith;
      }

-- an actor that fires in one step has no station
pub no_station : (a : Actor) (m : Setup) (v fired position : ℕ) (ends : Ends) (stands : (ℕ → List ℕ) → Type 0) → Works m v (record { fired = fired; position = position }) a ends stands
    → ends_at (length a.desk.ins.items) (length a.desk.outs.items) ≤ a.desk.position → 0 < length a.desk.ins.items + length a.desk.outs.items → ⊥
no_station a m v fired position ends stands w past some =
    let here : a.desk.position ≡ position = w.actor.at.position_is in
    let ins : length a.desk.ins.items ≡ length (ins_of (plan m) v) = ap length w.actor.at.drains in
    let outs : length a.desk.outs.items ≡ length (outs_of (plan m) v) = ap length w.actor.at.fills in
    elim (cases_lt 0 position) [
      | inl begun ↦ (let inside : position < ends_at (length (ins_of (plan m) v)) (length (outs_of (plan m) v)) = w.actor.far.inside begun in omega arith)
      | inr rests ↦ omega arith
    ]
