-- The ends of a board at its start, and the crew to which they are given.
use Rattle.std.proofs.Common.{◌≡◌, ℕ, ◌+◌, ◌*◌, ◌/◌, ◌%◌, ◌<◌, inl, inr, Bool, false, List, length, sym, ◌∙◌, ap, subst, arith}
use Rattle.std.specs.Prelude.{Option, Some, None}
use Rattle.std.proofs.lemmas.Bool.{cases_lt, cases_eq}
use Rattle.std.proofs.lemmas.List.{get_or_past}
use Rattle.std.proofs.lemmas.Option.{same_Some, slice_get_within}
use Rattle.lid_system.specs.declared.System.{System}
use Rattle.lid_stations.specs.declared.placement.Placement.{Placement}
use Rattle.lid_board.specs.Owners.{IsOf, IsOwned, start_ends}
use Rattle.lid_board.specs.Parting.{unseen}
use Rattle.lid_board.specs.Views.{at, held_of}
use Rattle.lid_board.specs.declared.board.Board.{Board}
use Rattle.lid_board.specs.declared.view.EndFacts.{EndFacts}
use Rattle.lid_walk_machine.specs.Plans.{stations_of}
use Rattle.lid_walk_machine.specs.Setups.{plan}
use Rattle.lid_shell_laws.specs.Setups.{Setup}
use Rattle.lid_walk_machine.specs.Machine.{begun}
use Rattle.lid_shell.specs.declared.actor.Actor.{Actor}
use Rattle.lid_walk.specs.Setups.{IsSetupOf}
use Rattle.lid_walk.specs.Actors.{AreActors}
use Rattle.lid_free_crew.specs.declared.worker.Worker.{Worker}
use Rattle.lid_free_crew.specs.Shares.{share}
use Rattle.lid_free_crew.specs.Crews.{HasShare, AreUnseen, AreHired, AreDealt}
use Rattle.lid_free.specs.Workers.{IsStarted, AreOwners, IsCrew}
use Rattle.lid_base.proofs.Places.{item_at}

module _ (m : Setup) (board : Board) (started : IsStarted m board) where
  -- what is known at each end
  pub at_start : (end : ℕ) → end < length (start_ends board) → (h : EndFacts) × (at (start_ends board) end ≡ Some h) × (h.mark ≡ false)
  at_start end within =
      let many = started.many in
      elim (cases_eq (end % 2) 0) [
        | inl even ↦
            (let e : 2 * (end / 2) ≡ end = omega (arith, even) in
            let (h, at_h, start) = started.fills (end / 2) (omega (arith, within, many)) in
            (h, ap (at (start_ends board)) (sym e) ∙ at_h, start.mark))
        | inr odd ↦
            (let e : 2 * (end / 2) + 1 ≡ end = omega (arith, odd) in
            let (h, at_h, start) = started.drains (end / 2) (omega (arith, within, many)) in
            (h, ap (at (start_ends board)) (sym e) ∙ at_h, start.mark))
      ]

  pub all_owned : (end : ℕ) → end < length (start_ends board) → IsOwned (start_ends board) end
  all_owned end within = let (h, at_h, none) = at_start end within in at_h ∙ ap (λ (o : Option EndFacts). Some (held_of o)) (sym at_h)

  same_unseen : (h : EndFacts) → h.mark ≡ false → unseen h ≡ h
  same_unseen h none = ap (λ (b : Bool). let x : EndFacts = record h { mark = b } in x) (sym none)

  pub none_seen : AreUnseen (start_ends board)
  none_seen end h at_h =
      elim (cases_lt end (length (start_ends board))) [
        | inl within ↦
            (let (x, at_x, none) = at_start end within in
            let same : x ≡ h = same_Some x h (sym at_x ∙ at_h) in
            same_unseen h (ap (λ (y : EndFacts). y.mark) (sym same) ∙ none))
        | inr high ↦ absurd (let none : Some h ≡ None = sym at_h ∙ get_or_past (start_ends board) end None high in cc)
      ]

-- a crew that was hired and dealt to
pub crew_so : (m : Setup) (s : System) (p : Placement) (rows : List (List Bool)) (board : Board) (workers : ℕ) (owners : List ℕ) (actors : List Actor) (hired crew : List Worker)
    → IsSetupOf m s p rows → 0 < workers → AreOwners s p (2 * length p.caps) owners → AreActors m begun actors → IsStarted m board
    → AreHired board workers owners (start_ends board) workers hired → AreDealt actors hired crew
    → IsCrew m board workers owners actors crew
crew_so m s p rows board workers owners actors hired crew of some own are started hire dealt = record {
  rules = of.rules;
  some = some;
  many = dealt.many ∙ hire.many_are;
  owners_are =
      let caps : length m.placement.caps ≡ stations_of (plan m) = of.rules.fits.rules.caps in
      let same = ap (λ (x : Placement). length x.caps) of.placement in
      subst (λ (n : ℕ). AreOwners m.system m.placement n owners) (let e : 2 * length p.caps ≡ 2 * stations_of (plan m) = omega (arith, caps, same) in e)
      (subst (λ (x : System). AreOwners x m.placement (2 * length p.caps) owners) (sym of.system) (subst (λ (x : Placement). AreOwners s x (2 * length p.caps) owners) (sym of.placement) own));
  actors_are = are;
  started = started;
  each = λ i w at_w.
      let within = slice_get_within crew i w at_w in
      let (h, at_h) = item_at hired i (omega (arith, within, dealt.many)) in
      let was = hire.each i h at_h in
      let (same, mine) = dealt.each i h w at_h at_w in
      record {
        number = same.number ∙ was.number;
        of = subst (λ x. IsOf x board) (sym same.hand) was.of;
        hand = subst (λ x. HasShare workers owners (start_ends board) i x) (sym same.hand) was.hand;
        none = same.tally ∙ was.none;
        actors_are = mine ∙ ap (λ (n : ℕ). share n i actors) hire.many_are;
      };
}
