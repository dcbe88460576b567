-- How the script of `emit` ends, once the stations are read.
use Rattle.std.proofs.Common.{◌≡◌, ℕ, List, Option, None, Some, ◌⊎◌, inl, inr, refl, sym, subst}
use Rattle.lid_design.specs.declared.Design.{Design}
use Rattle.lid_blifout.specs.Canonical.{canonical_text}
use Rattle.lid_stations.specs.declared.placement.Placement.{Placement}
use Rattle.lid_stations.specs.Placements.{Links}
use Rattle.lid_emit_meaning.specs.declared.fault.EmitFault.{EmitFault}
use Rattle.lid_emit_meaning.specs.declared.fault.EmitFault.TheVariants.{NameTaken, TooBig, Memory}
use Rattle.lid_emit_meaning.specs.Emitted.{emit_fault, IsEmitted}
use Rattle.lid_top_refusals.specs.declared.refusal.Refusal.TheVariants.{Emit}
use Rattle.lid_top_refusals.specs.Refusals.{refusal_line}
use Rattle.lid_top_script.specs.Causes.{stop_of_emit, IsCause}
use Rattle.lid_top_script.specs.Outputs.{emitted}
use Rattle.lid_top_script.specs.Scripts.{Ending, refuses, gives, end, read_then, emit_good, emit_read, wrapping_script, EndsIn}
use Rattle.lid_top_script.specs.Statuses.{HasText}
use Rattle.lid_top_script.specs.FetchSteps.{FetchesNothing}
use Rattle.lid_top_script.proofs.Going.{then_nothing}

module _ (held : List ℕ → Option (List ℕ)) (d : Design) (l : Links) (p : Placement) where
  -- by the judgement of names and size
  abbrev Ends : Option EmitFault → Ending → Type 0
  Ends fault ending = EndsIn held (read_then (emit_good fault) (λ _. end (gives (emitted d l p)))) ending

  -- a design is emitted
  pub emit_has_text : (e : Design) (text : List ℕ) → emit_fault d l p ≡ None → IsEmitted d l p e → text ≡ canonical_text e → HasText held (wrapping_script d l p) text
  unfolding wrapping_script emit_read
  emit_has_text e text none is written = record {
    output = emitted d l p;
    ends = subst (λ fault. Ends fault (gives (emitted d l p))) (sym none) refl;
    text_of = record { design = e; wraps = is; written = written };
  }

  -- there is none
  pub emit_has_cause : (before after : List ℕ → ℕ) (fault : EmitFault) → (emit_fault d l p ≡ Some fault) ⊎ (fault ≡ Memory) → IsCause held (wrapping_script d l p) before after (stop_of_emit fault)
  unfolding wrapping_script emit_read
  emit_has_cause before after Memory why = tt
  emit_has_cause before after (NameTaken name) (inl refused) = subst (λ fault. Ends fault (refuses (refusal_line (Emit (NameTaken name))))) (sym refused) refl
  emit_has_cause before after (NameTaken name) (inr memory) = subst (λ fault. IsCause held (wrapping_script d l p) before after (stop_of_emit fault)) (sym memory) tt
  emit_has_cause before after (TooBig count) (inl refused) = subst (λ fault. Ends fault (refuses (refusal_line (Emit (TooBig count))))) (sym refused) refl
  emit_has_cause before after (TooBig count) (inr memory) = subst (λ fault. IsCause held (wrapping_script d l p) before after (stop_of_emit fault)) (sym memory) tt

pub wrapping_fetches_nothing : (d : Design) (l : Links) (p : Placement) → FetchesNothing (wrapping_script d l p)
unfolding wrapping_script
wrapping_fetches_nothing d l p = then_nothing (emit_read d l p) (λ _. end (gives (emitted d l p))) (λ _. tt)
