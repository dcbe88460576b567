-- The ports of a design that was read have names that can be written.
use Rattle.std.proofs.Common.{◌≡◌, ℕ, zero, suc, Bool, true, false, List, [], ◌∷◌, length, Option, Some, None, refl, ap, subst, arith}
use Rattle.std.specs.Prelude.{not, option_map, slice_get}
use Rattle.std.specs.Option.{option_map_or}
use Rattle.std.specs.List.{AllByRecursion}
use Rattle.lid_base.specs.declared.line.Line.{Line}
use Rattle.lid_base.specs.Lines.{logical_lines}
use Rattle.lid_base.specs.Words.{word_at}
use Rattle.lid_check_laws.proofs.Sets.{kept_all}
use Rattle.lid_blif.specs.declared.fault.BlifFault.{BlifFault}
use Rattle.lid_blif.specs.declared.keyword.Keyword.TheVariants.{Model, Inputs, Outputs}
use Rattle.lid_blif.specs.Words.{keyword_of, is_line, is_inner, leading}
use Rattle.lid_blif.specs.Faults.{blif_fault}
use Rattle.lid_blif.specs.Designs.{model_of, models_of, design_of}
use Rattle.lid_blif.proofs.Faults.{same_as}
use Rattle.lid_blifout.proofs.ReadLaw.{AreRead, word_spelled, names_all, leading_read}
use Rattle.lid_blifout.proofs.WritableLaw.{lines_of_text}
use Rattle.lid_base_lines.specs.Spelled.{IsSpelled}
use Rattle.lid_design.specs.declared.Design.{Design}
use Rattle.lid_design.specs.declared.Model.{Model as ModelOf}
use Rattle.lid_design.specs.Columns.{data_inputs, is_clock, root_inputs, root_outputs}
use Rattle.lid_design.specs.Models.{number_named}
use Rattle.lid_check.specs.Acceptance.{rooted_at, with_root}
use Rattle.lid_top_script.specs.Wrapped.{Wrapping}
use Rattle.lid_top_script.specs.Causes.{GotWrapped}
use Rattle.lid_top_script.specs.Scripts.{Reading, good, bad, unless_faulty, net_reading}
use Rattle.lid_top_emit.specs.Spelling.{IsSpelledModel, HasSpelledPorts}
use Rattle.std.proofs.lemmas.Option.{same_Some}

model_spelled : (name : List ℕ) (body : List Line) → IsSpelled 1024 name → AreRead body → IsSpelledModel (model_of name body)
unfolding model_of
model_spelled name body s h = record { name = s; inputs = names_all Inputs body h; outputs = names_all Outputs body h }

models_spelled : (ls : List Line) → AreRead ls → AllByRecursion IsSpelledModel (models_of ls)
models_spelled [] h = tt
models_spelled (l ∷ ls) h = by (is_line Model l) refl (models_spelled ls h.1)
  where
    by : (b : Bool) → is_line Model l ≡ b → AllByRecursion IsSpelledModel (models_of ls) → AllByRecursion IsSpelledModel (models_of (l ∷ ls))
    by true e later =
        let here = h.0 in
        let said = here.0 in
        let shape = here.1 in
        let two : length l.words ≡ 2 = shape.model (same_as Model (keyword_of l.words) e) in
        let first = model_spelled (word_at l.words 1) (leading is_inner ls) (word_spelled l.words 1 (omega arith) said.all) (leading_read ls h.1) in
        rw e (first, later)
    by false e later = rw e later

text_spelled : (bytes : List ℕ) → blif_fault bytes ≡ None → HasSpelledPorts (design_of (logical_lines bytes))
unfolding design_of
text_spelled bytes h = models_spelled (logical_lines bytes) (lines_of_text bytes h).1

good_none : (fault : Option BlifFault) (a b : Design) → unless_faulty fault a ≡ good b → (fault ≡ None) × (a ≡ b)
good_none None a b h = (refl, same h)
  where
    value : Reading Design → Design
    value (good x) = x
    value (bad line) = a

    same : good a ≡ good b → a ≡ b
    same e = ap value e
good_none (Some fault) a b h = absurd (let e : unless_faulty (Some fault) a ≡ good b = h in cc)

-- a netlist that was read
read_spelled : (bytes : List ℕ) (d : Design) → net_reading bytes ≡ good d → HasSpelledPorts d
unfolding net_reading
read_spelled bytes d h =
    let parts = good_none (blif_fault bytes) (design_of (logical_lines bytes)) d h in
    subst HasSpelledPorts parts.1 (text_spelled bytes parts.0)

rooted_spelled : (d c : Design) (root : Option (List ℕ)) → with_root d root ≡ Some c → HasSpelledPorts d → HasSpelledPorts c
rooted_spelled d c None e h = subst HasSpelledPorts (same_Some d c e) h
rooted_spelled d c (Some name) e h = by (number_named d name) e
  where
    by : (k : Option ℕ) → option_map (rooted_at d) k ≡ Some c → HasSpelledPorts c
    by None f = absurd (let e : None ≡ Some c = f in cc)
    by (Some k) f = subst HasSpelledPorts (same_Some (rooted_at d k) c f) h

-- a design that was read and accepted
pub wrapped_spelled : {held : List ℕ → Option (List ℕ)} {net : List ℕ} {stations root : Option (List ℕ)} {w : Wrapping} → GotWrapped held net stations root w → HasSpelledPorts w.design
wrapped_spelled {root = root} {w = w} g =
    let b = g.built in
    rooted_spelled b.design w.design root b.builds.is_checked.rooted (read_spelled b.got.bytes b.design b.got.stands)

-- the root's
found_spelled : (ms : List ModelOf) (k : ℕ) (m : ModelOf) → slice_get ms k ≡ Some m → AllByRecursion IsSpelledModel ms → IsSpelledModel m
found_spelled [] k m e h = absurd (let f : None ≡ Some m = e in cc)
found_spelled (x ∷ ms) zero m e h = subst IsSpelledModel (same_Some x m e) h.0
found_spelled (x ∷ ms) (suc k) m e h = found_spelled ms k m e h.1

module _ (d : Design) (h : HasSpelledPorts d) where
  pub root_spelled : (m : ModelOf) → slice_get d.models d.root ≡ Some m → IsSpelled 1024 m.name
  root_spelled m e = let s = found_spelled d.models d.root m e h in s.name

  pub inputs_spelled : AllByRecursion (IsSpelled 1024) (root_inputs d)
  unfolding data_inputs
  inputs_spelled = by (slice_get d.models d.root) refl
    where
      by : (o : Option ModelOf) → slice_get d.models d.root ≡ o → AllByRecursion (IsSpelled 1024) (option_map_or (data_inputs d) o [])
      by None e = tt
      by (Some m) e = let s = found_spelled d.models d.root m e h in kept_all (IsSpelled 1024) (λ net. not (is_clock d m net)) m.inputs s.inputs

  pub outputs_spelled : AllByRecursion (IsSpelled 1024) (root_outputs d)
  outputs_spelled = by (slice_get d.models d.root) refl
    where
      by : (o : Option ModelOf) → slice_get d.models d.root ≡ o → AllByRecursion (IsSpelled 1024) (option_map_or (λ (m : ModelOf). m.outputs) o [])
      by None e = tt
      by (Some m) e = let s = found_spelled d.models d.root m e h in s.outputs
