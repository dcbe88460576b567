-- The marks of the ports of shells.
use Rattle.std.proofs.Common.{◌≡◌, ◌<◌, ◌⊎◌, ◌+◌, ℕ, zero, suc, List, [], ◌∷◌, length, map, set, Option, Some, None, slice_get, inl, inr, refl, sym, ◌∙◌, ap, arith}
use Rattle.std.specs.Option.{option_map_or}
use Rattle.std.proofs.lemmas.List.{length-set, get_or-set_same}
use Rattle.std.proofs.lemmas.Option.{slice_get_within}
use Rattle.lid_design.specs.declared.Design.{Design}
use Rattle.lid_design.specs.declared.Model.{Model}
use Rattle.lid_design.specs.Columns.{Column, column}
use Rattle.lid_design.specs.Elaboration.{columns}
use Rattle.lid_design.specs.Loops.{pearls}
use Rattle.lid_check_elab.specs.Elaborations.{column_at}
use Rattle.lid_net.specs.declared.origin.Origin.{Origin}
use Rattle.lid_net.specs.declared.origin.Origin.TheVariants.{Port}
use Rattle.lid_net.specs.Steps.{origin_at}
use Rattle.lid_net.specs.declared.ports.ShellPorts.{ShellPorts}
use Rattle.lid_net.specs.Marks.{outs_of, marked_from, marked_all}
use Rattle.lid_net_law.specs.Ports.{outputs_at, ports_of, IsPort}
use Rattle.lid_net.specs.PearlParts.{AreShellPorts, ArePortsOf}
use Rattle.lid_net.proofs.Tracing.{AreShellMarks}
use Rattle.lid_base.proofs.Lists.{all_at}
use Rattle.lid_base.proofs.Places.{item_at, map_get, get_map}

abbrev Marks : Type 0
Marks = List (Option Origin)

set_cases : (l : Marks) (i j : ℕ) (a : Option Origin) (o : Origin) → origin_at (set l i a) j ≡ Some o → (origin_at l j ≡ Some o) ⊎ ((j ≡ i) × (a ≡ Some o))
set_cases [] i j a o e = absurd (let f : None ≡ Some o = e in cc)
set_cases (x ∷ l) zero zero a o e = inr (refl, e)
set_cases (x ∷ l) zero (suc j) a o e = inl e
set_cases (x ∷ l) (suc i) zero a o e = inl e
set_cases (x ∷ l) (suc i) (suc j) a o e = elim (set_cases l i j a o e) [ inl h ↦ inl h | inr h ↦ inr (ap suc h.0, h.1) ]

set_kept : (l : Marks) (i j : ℕ) (x o : Origin) → origin_at l j ≡ Some o → (p : Origin) × (origin_at (set l i (Some x)) j ≡ Some p)
set_kept [] i j x o e = absurd (let f : None ≡ Some o = e in cc)
set_kept (y ∷ l) zero zero x o e = (x, refl)
set_kept (y ∷ l) zero (suc j) x o e = (o, e)
set_kept (y ∷ l) (suc i) zero x o e = (o, e)
set_kept (y ∷ l) (suc i) (suc j) x o e = set_kept l i j x o e

record IsFrom (node place : ℕ) (outs : List ℕ) (k : ℕ) (o : Origin) : Type 0 where
  pub j : ℕ
  pub here : slice_get outs j ≡ Some k
  pub is : o ≡ Port node (place + j)

from_only : (node place : ℕ) (outs : List ℕ) (marks : Marks) (k : ℕ) (o : Origin) → origin_at (marked_from node place outs marks) k ≡ Some o → (origin_at marks k ≡ Some o) ⊎ IsFrom node place outs k o
from_only node place [] marks k o e = inl e
from_only node place (x ∷ outs) marks k o e = by (from_only node (place + 1) outs (set marks x (Some (Port node place))) k o e)
  where
    first : (origin_at marks k ≡ Some o) ⊎ ((k ≡ x) × (Some (Port node place) ≡ Some o)) → (origin_at marks k ≡ Some o) ⊎ IsFrom node place (x ∷ outs) k o
    first (inl h) = inl h
    first (inr h) =
        let same : Port node place ≡ o = (let f = h.1 in cc) in
        let n : place ≡ place + 0 = omega arith in
        inr (record { j = 0; here = ap Some (sym h.0); is = sym same ∙ ap (Port node) n })

    by : (origin_at (set marks x (Some (Port node place))) k ≡ Some o) ⊎ IsFrom node (place + 1) outs k o → (origin_at marks k ≡ Some o) ⊎ IsFrom node place (x ∷ outs) k o
    by (inl h) = first (set_cases marks x k (Some (Port node place)) o h)
    by (inr h) = let n : (place + 1) + h.j ≡ place + suc h.j = omega arith in inr (record { j = suc h.j; here = h.here; is = h.is ∙ ap (Port node) n })

from_kept : (node place : ℕ) (outs : List ℕ) (marks : Marks) (k : ℕ) (o : Origin) → origin_at marks k ≡ Some o → (p : Origin) × (origin_at (marked_from node place outs marks) k ≡ Some p)
from_kept node place [] marks k o e = (o, e)
from_kept node place (x ∷ outs) marks k o e =
    let kept = set_kept marks x k (Port node place) o e in
    from_kept node (place + 1) outs (set marks x (Some (Port node place))) k kept.0 kept.1

from_long : (node place : ℕ) (outs : List ℕ) (marks : Marks) → length (marked_from node place outs marks) ≡ length marks
from_long node place [] marks = refl
from_long node place (x ∷ outs) marks = from_long node (place + 1) outs (set marks x (Some (Port node place))) ∙ length-set marks x (Some (Port node place))

from_all : (node place : ℕ) (outs : List ℕ) (marks : Marks) (j k : ℕ) → k < length marks → slice_get outs j ≡ Some k → (p : Origin) × (origin_at (marked_from node place outs marks) k ≡ Some p)
from_all node place [] marks j k less here = absurd (let f : None ≡ Some k = here in cc)
from_all node place (x ∷ outs) marks zero k less here =
    let same : x ≡ k = (let f : Some x ≡ Some k = here in cc) in
    let now : origin_at (set marks x (Some (Port node place))) k ≡ Some (Port node place) = ap (λ (y : ℕ). origin_at (set marks y (Some (Port node place))) k) same ∙ get_or-set_same marks k (Some (Port node place)) None less in
    from_kept node (place + 1) outs (set marks x (Some (Port node place))) k (Port node place) now
from_all node place (x ∷ outs) marks (suc j) k less here =
    from_all node (place + 1) outs (set marks x (Some (Port node place))) j k (let l = length-set marks x (Some (Port node place)) in omega arith) here

record IsOneOf (node : ℕ) (all : List (List ℕ)) (k : ℕ) (o : Origin) : Type 0 where
  pub i : ℕ
  pub outs : List ℕ
  pub there : slice_get all i ≡ Some outs
  pub j : ℕ
  pub here : slice_get outs j ≡ Some k
  pub is : o ≡ Port (node + i) j

all_only : (node : ℕ) (all : List (List ℕ)) (marks : Marks) (k : ℕ) (o : Origin) → origin_at (marked_all node all marks) k ≡ Some o → (origin_at marks k ≡ Some o) ⊎ IsOneOf node all k o
all_only node [] marks k o e = inl e
all_only node (outs ∷ all) marks k o e = by (all_only (node + 1) all (marked_from node 0 outs marks) k o e)
  where
    first : (origin_at marks k ≡ Some o) ⊎ IsFrom node 0 outs k o → (origin_at marks k ≡ Some o) ⊎ IsOneOf node (outs ∷ all) k o
    first (inl h) = inl h
    first (inr h) =
        let n : node ≡ node + 0 = omega arith in
        let m : 0 + h.j ≡ h.j = omega arith in
        inr (record { i = 0; outs = outs; there = refl; j = h.j; here = h.here; is = h.is ∙ ap (Port node) m ∙ ap (λ (x : ℕ). Port x h.j) n })

    by : (origin_at (marked_from node 0 outs marks) k ≡ Some o) ⊎ IsOneOf (node + 1) all k o → (origin_at marks k ≡ Some o) ⊎ IsOneOf node (outs ∷ all) k o
    by (inl h) = first (from_only node 0 outs marks k o h)
    by (inr h) =
        let n : (node + 1) + h.i ≡ node + suc h.i = omega arith in
        inr (record { i = suc h.i; outs = h.outs; there = h.there; j = h.j; here = h.here; is = h.is ∙ ap (λ (x : ℕ). Port x h.j) n })

all_kept : (node : ℕ) (all : List (List ℕ)) (marks : Marks) (k : ℕ) (o : Origin) → origin_at marks k ≡ Some o → (p : Origin) × (origin_at (marked_all node all marks) k ≡ Some p)
all_kept node [] marks k o e = (o, e)
all_kept node (outs ∷ all) marks k o e = let kept = from_kept node 0 outs marks k o e in all_kept (node + 1) all (marked_from node 0 outs marks) k kept.0 kept.1

all_all : (node : ℕ) (all : List (List ℕ)) (marks : Marks) (i j k : ℕ) (outs : List ℕ) → k < length marks → slice_get all i ≡ Some outs → slice_get outs j ≡ Some k → (p : Origin) × (origin_at (marked_all node all marks) k ≡ Some p)
all_all node [] marks i j k outs less there here = absurd (let f : None ≡ Some outs = there in cc)
all_all node (xs ∷ all) marks zero j k outs less there here =
    let same : xs ≡ outs = (let f : Some xs ≡ Some outs = there in cc) in
    let first = from_all node 0 xs marks j k less (ap (λ (ys : List ℕ). slice_get ys j) same ∙ here) in
    all_kept (node + 1) all (marked_from node 0 xs marks) k first.0 first.1
all_all node (xs ∷ all) marks (suc i) j k outs less there here =
    all_all (node + 1) all (marked_from node 0 xs marks) i j k outs (let l = from_long node 0 xs marks in omega arith) there here

-- the ports of a shell, by the numbers of their columns
pub ports_are : (d : Design) (count i : ℕ) (shell : ShellPorts) → AreShellPorts d count i shell → ports_of d (suc i) ≡ map (column_at d) shell.outs
unfolding ports_of
ports_are d count i shell is =
    ap (λ (o : Option (List ℕ)). option_map_or (outputs_at d) o []) is.here ∙ ap (λ (o : Option Model). option_map_or (λ m. map (column is.path) m.outputs) o []) is.body ∙ sym is.outs

shell_pearl : (d : Design) (c : Column) (i place : ℕ) → IsPort d c (suc i) place → i < length (pearls d)
unfolding ports_of
shell_pearl d c i place h = by (slice_get (pearls d) i) refl h
  where
    by : (o : Option (List ℕ)) → slice_get (pearls d) i ≡ o → slice_get (option_map_or (outputs_at d) o []) place ≡ Some c → i < length (pearls d)
    by None e g = absurd (let f : None ≡ Some c = g in cc)
    by (Some path) e g = slice_get_within (pearls d) i path e

pub shell_marks :
    (d : Design) (ports : List ShellPorts) (old new : Marks) (count : ℕ) → ArePortsOf d (length (columns d)) ports → count ≡ length (columns d) → ((j k : ℕ) → j < count → k < count → column_at d j ≡ column_at d k → j ≡ k)
    → length old ≡ count → ((k : ℕ) → origin_at old k ≡ None) → new ≡ marked_all 1 (map outs_of ports) old → AreShellMarks d count new
shell_marks d ports old new count are whole apart size none is = record { only = only; all = all }
  where
    only : (k : ℕ) (o : Origin) → k < count → origin_at new k ≡ Some o → (i : ℕ) × (place : ℕ) × (o ≡ Port (suc i) place) × IsPort d (column_at d k) (suc i) place
    only k o less e = by (all_only 1 (map outs_of ports) old k o (ap (λ (ms : Marks). origin_at ms k) (sym is) ∙ e))
      where
        by : (origin_at old k ≡ Some o) ⊎ IsOneOf 1 (map outs_of ports) k o → (i : ℕ) × (place : ℕ) × (o ≡ Port (suc i) place) × IsPort d (column_at d k) (suc i) place
        by (inl h) = absurd (let f : None ≡ Some o = sym (none k) ∙ h in cc)
        by (inr h) =
            let shell = map_get outs_of ports h.i h.outs h.there in
            let of = are.each h.i shell.0 shell.1 in
            let n : 1 + h.i ≡ suc h.i = omega arith in (
              h.i,
              h.j,
              h.is ∙ ap (λ (x : ℕ). Port x h.j) n,
              ap (λ (cs : List Column). slice_get cs h.j) (ports_are d (length (columns d)) h.i shell.0 of) ∙ get_map (column_at d) shell.0.outs h.j k (ap (λ (xs : List ℕ). slice_get xs h.j) (sym shell.2) ∙ h.here),
            )

    all : (k i place : ℕ) → k < count → IsPort d (column_at d k) (suc i) place → origin_at new k ≡ None → ⊥
    all k i place less port e =
        let shell = item_at ports i (let h = shell_pearl d (column_at d k) i place port in let l = are.long in omega arith) in
        let of = are.each i shell.0 shell.1 in
        let at = map_get (column_at d) shell.0.outs place (column_at d k) (ap (λ (cs : List Column). slice_get cs place) (sym (ports_are d (length (columns d)) i shell.0 of)) ∙ port) in
        let inside = all_at (λ k. k < length (columns d)) shell.0.outs place at.0 of.outs_below at.1 in
        let same = apart k at.0 less (omega arith) at.2 in
        let mark = all_all 1 (map outs_of ports) old i place k shell.0.outs (omega arith) (get_map outs_of ports i shell.0 shell.1) (at.1 ∙ ap Some (sym same)) in
        absurd (let f : None ≡ Some mark.0 = sym e ∙ ap (λ (ms : Marks). origin_at ms k) is ∙ mark.1 in cc)
