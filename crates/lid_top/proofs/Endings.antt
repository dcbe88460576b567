-- Where the shelf tells its contents, a script ends in one way.
use Rattle.std.proofs.Common.{◌≡◌, ℕ, ◌+◌, Bool, true, false, List, length, take, Option, Some, None, is_some, true≢false, IsSome, IfSome, inl, inr, refl, sym, ◌∙◌, ap, subst, arith}
use Rattle.std.specs.Prelude.{◌↔◌}
use Rattle.lid_design.specs.declared.Design.{Design}
use Rattle.lid_check_rules.specs.declared.fault.CheckFault.{CheckFault}
use Rattle.lid_check.specs.Acceptance.{with_root, IsAccepted, IsRefused, IsRefusal}
use Rattle.lid_system.specs.declared.Channel.{Channel}
use Rattle.lid_net_channels.specs.declared.fault.NetFault.TheVariants.{TooManyChannels}
use Rattle.lid_net.specs.Graphs.{IsGraphOf}
use Rattle.lid_top_words.specs.declared.job.Job.{Job}
use Rattle.lid_top_words.specs.declared.job.Job.TheVariants.{Check, Clock, Emit, Free, Gen, Place, Rate, Size, Slack, Strict, Unwave, Verify, Walk, Wave}
use Rattle.lid_top_refusals.specs.Faults.{check_line, net_line}
use Rattle.lid_top_script.specs.Outputs.{Output, strict_output, placed, throughput, sized, slacks, walked, waved, unwaved, emitted}
use Rattle.lid_cert.specs.declared.cert.Cert.{Cert}
use Rattle.lid_stall_text.specs.declared.stalls.Stall.{Stall}
use Rattle.lid_stations.specs.declared.placement.Placement.{Placement}
use Rattle.lid_stations.specs.Placements.{Links, no_relays}
use Rattle.lid_stations.specs.Stations.{actor_count}
use Rattle.lid_top_script.specs.Scripts.{Ending, refuses, gives, Script, fetch, again, decide, end, Reading, good, bad, read_then, net_reading, vec_reading, check_step, net_step, report_script, check_script, rows_script, checked_script, strict_script, links, system_step, placement_step, stalls_read, stalls_step, stations_read, wires_read, cert_read, wires_script, told_script, judged_script, judging_script, cert_script, place_script, telling_script, verify_script, trace_read, rerun_script, traced_script, vec_script, stalled_script, clock_script, rows_step, wrapped_step, held_step, schedule_read, schedule_script, walk_script, freeing_script, free_script, waving_script, wave_script, dump_read, unwave_script, emit_read, wrapping_script, emit_script, size_read, generating, gen_script, script_of, IsFetched, IsReread, IsChecked, IsUnchecked, EndsIn}
use Rattle.lid_top_script.specs.Statuses.{TellsAll}
use Rattle.lid_base.proofs.Options.{same_some}

-- each step of the script without a fetch has one outcome
abbrev pub IsSettled : (List ℕ → Option (List ℕ)) → Script → Type 0
IsSettled held (fetch name limit next) = (bytes : List ℕ) → IsFetched held name limit bytes → IsSettled held (next bytes)
IsSettled held (again second next) = (rows : List (List Bool)) → IsReread held second rows → IsSettled held (next rows)
IsSettled held (decide {A} Good Bad next) =
    ((a b : A) → Good a → Good b → a ≡ b) × ((a : A) (line : List ℕ) → Good a → Bad line → ⊥)
    × ((line other : List ℕ) → Bad line → Bad other → line ≡ other) × ((a : A) → Good a → IsSettled held (next a))
IsSettled held (end last) = Unit {0}

-- what is told is one value
told_once : {A : Type 0} (held : Option (List ℕ)) (f : List ℕ → A) (x y : A) → IsSome held → IfSome held (λ file. x ≡ f file) → IfSome held (λ file. y ≡ f file) → x ≡ y
told_once None f x y t a b = absurd (true≢false (sym t))
told_once (Some file) f x y t a b = a ∙ sym b

is_told : (held : Option (List ℕ)) → IsSome held → held ≡ None → ⊥
is_told held told none = true≢false (sym told ∙ ap is_some none)

pub ends_once : (held : List ℕ → Option (List ℕ)) (script : Script) (x y : Ending) → IsSettled held script → TellsAll held script → EndsIn held script x → EndsIn held script y → x ≡ y
ends_once held (fetch name limit next) x y settled tells (b, f, ex) (c, g, ey) =
    let same : b ≡ c = told_once (held name) (take (limit + 1)) b c (tells name (inl refl)) f.told g.told in
    ends_once held (next b) x y (settled b f) (λ file r. tells file (inr (b, f, r))) ex (subst (λ bytes. EndsIn held (next bytes) y) (sym same) ey)
ends_once held (again second next) x y settled tells (inl (b, f, ex)) (inl (c, g, ey)) =
    let same : b ≡ c = told_once (held second.name) (λ _. second.rows) b c (tells second.name (inl refl)) f.told g.told in
    ends_once held (next b) x y (settled b f) (λ file r. tells file (inr (b, f, r))) ex (subst (λ rows. EndsIn held (next rows) y) (sym same) ey)
ends_once held (again second next) x y settled tells (inr (line, changed, e)) ey = absurd (is_told (held second.name) (tells second.name (inl refl)) changed.untold)
ends_once held (again second next) x y settled tells (inl ex) (inr (line, changed, e)) = absurd (is_told (held second.name) (tells second.name (inl refl)) changed.untold)
ends_once held (decide {A} Good Bad next) x y settled tells (inl (a, g, ex)) (inl (b, h, ey)) =
    ends_once held (next a) x y (settled.3 a g) (λ file r. tells file (a, g, r)) ex (subst (λ v. EndsIn held (next v) y) (sym (settled.0 a b g h)) ey)
ends_once held (decide {A} Good Bad next) x y settled tells (inl (a, g, ex)) (inr (line, b, e)) = absurd (settled.1 a line g b)
ends_once held (decide {A} Good Bad next) x y settled tells (inr (line, b, e)) (inl (a, g, ey)) = absurd (settled.1 a line g b)
ends_once held (decide {A} Good Bad next) x y settled tells (inr (line, b, e)) (inr (other, c, h)) = sym e ∙ ap refuses (settled.2 line other b c) ∙ h
ends_once held (end last) x y settled tells ex ey = sym ex ∙ ey

settled_step : {A : Type 0} (held : List ℕ → Option (List ℕ)) (reading : Reading A) (next : A → Script) → ((a : A) → IsSettled held (next a)) → IsSettled held (read_then reading next)
settled_step held (good a) next s = s a
settled_step held (bad line) next s = tt

abbrev or_else : {A : Type 0} → A → Option A → A
or_else a None = a
or_else a (Some b) = b

-- whether a certificate is one of a graph has one answer
same_answer : {P : Type 0} (a b : Bool) → ((a ≡ true) ↔ P) → ((b ≡ true) ↔ P) → a ≡ b
same_answer true true g h = refl
same_answer true false g h = sym (h.1 (g.0 refl))
same_answer false true g h = g.1 (h.0 refl)
same_answer false false g h = refl

judged_once : (held : List ℕ → Option (List ℕ)) (l : Links) (p : Placement) (cert : Cert) → IsSettled held (judging_script l p cert)
unfolding judging_script
judged_once held l p cert = (
  (λ a b g h. same_answer a b g h),
  (λ a line g n. n),
  (λ line other n. absurd n),
  (λ a g. settled a),
)
  where
    settled : (a : Bool) → IsSettled held (judged_script l cert a)
    settled true = tt
    settled false = tt

-- a placement has one outcome
placed_once : (held : List ℕ → Option (List ℕ)) (l : Links) (stations : Option (List ℕ)) (next : Placement → Script) → ((p : Placement) → IsSettled held (next p)) → IsSettled held (placement_step l stations next)
placed_once held l None next s = s (no_relays l)
placed_once held l (Some stations) next s = λ bytes _. settled_step held (stations_read l bytes) next s

-- stalls have one outcome
stalled_once : (held : List ℕ → Option (List ℕ)) (stalls : Option (List ℕ)) (next : Option (List Stall) → Script) → ((read : Option (List Stall)) → IsSettled held (next read)) → IsSettled held (stalls_step stalls next)
stalled_once held None next s = s None
stalled_once held (Some stalls) next s = λ bytes _. settled_step held (stalls_read bytes) (λ read. next (Some read)) (λ read. s (Some read))

-- acceptance has one outcome
module _ (apart : (d : Design) (fault : CheckFault) → IsAccepted d → IsRefusal d fault → ⊥) (one : (d : Design) (fault other : CheckFault) → IsRefusal d fault → IsRefusal d other → fault ≡ other) (graph : (d : Design) (a b : List Channel) → IsGraphOf d a → IsGraphOf d b → a ≡ b) where
  refused_once : (o : Option Design) (fault other : CheckFault) → IsRefused o fault → IsRefused o other → fault ≡ other
  refused_once None fault other a b = a ∙ sym b
  refused_once (Some d) fault other a b = one d fault other a b

  accepted_apart : (o : Option Design) (d : Design) (fault : CheckFault) → o ≡ Some d → IsAccepted d → IsRefused o fault → ⊥
  accepted_apart o d fault e a r = apart d fault a (subst (λ p. IsRefused p fault) e r)

  checked_once : (held : List ℕ → Option (List ℕ)) (root : Option (List ℕ)) (d : Design) (next : Design → Script) → ((c : Design) → IsSettled held (next c)) → IsSettled held (decide (IsChecked root d) (IsUnchecked root d) next)
  checked_once held root d next s = (
    (λ a b g h. same_some (with_root d root) a b g.rooted h.rooted),
    (λ a line g u. accepted_apart (with_root d root) a u.fault g.rooted g.accepted u.refused),
    (λ line other u v. u.told ∙ ap check_line (refused_once (with_root d root) u.fault v.fault u.refused v.refused) ∙ sym v.told),
    (λ a _. s a),
  )

  -- the channels of a design have one outcome
  built_once : (held : List ℕ → Option (List ℕ)) (d : Design) (next : List Channel → Script) → ((channels : List Channel) → IsSettled held (next channels)) → IsSettled held (net_step d next)
  built_once held d next s = (
    (λ a b g h. graph d a b g.graph h.graph),
    (λ a line g u. let same = graph d a u.channels g.graph u.graph in let few = g.few in let many = u.many in absurd (omega (arith, ap length same))),
    (λ line other u v. u.told ∙ ap (λ (cs : List Channel). net_line (TooManyChannels (length cs))) (graph d u.channels v.channels u.graph v.graph) ∙ sym v.told),
    (λ a _. s a),
  )

  -- the system of a netlist has one outcome
  system_once : (held : List ℕ → Option (List ℕ)) (net : List ℕ) (root : Option (List ℕ)) (next : Design → Links → Script) → ((d : Design) (l : Links) → IsSettled held (next d l)) → IsSettled held (system_step net root next)
  system_once held net root next s = λ bytes _.
      let built : Design → Script = λ checked. net_step checked (λ channels. next checked (links checked channels)) in
      settled_step held (net_reading bytes) (λ d. check_step root d built)
      (λ d. checked_once held root d built (λ checked. built_once held checked (λ channels. next checked (links checked channels)) (λ channels. s checked (links checked channels))))

  -- and so has its placement
  wrapped_once : (held : List ℕ → Option (List ℕ)) (net : List ℕ) (stations root : Option (List ℕ)) (next : Design → Links → Placement → Script)
      → ((d : Design) (l : Links) (p : Placement) → IsSettled held (next d l p)) → IsSettled held (wrapped_step net stations root next)
  wrapped_once held net stations root next s = system_once held net root (λ d l. placement_step l stations (next d l)) (λ d l. placed_once held l stations (next d l) (s d l))

  -- `clock` of a system with its stations has one outcome
  clocked_once : (held : List ℕ → Option (List ℕ)) (d : Design) (l : Links) (p : Placement) (vec : List ℕ) (stalls : Option (List ℕ)) (trace : Option ℕ) → IsSettled held (stalled_script d l p vec stalls trace)
  unfolding stalled_script vec_script traced_script rerun_script
  clocked_once held d l p vec stalls trace =
      stalled_once held stalls (λ read. vec_script d l p vec read trace) (λ read text _.
      settled_step held (vec_reading d text) (traced_script d l p vec read trace) (λ rows.
      settled_step held (trace_read p trace) (λ _. rerun_script d l p vec read trace rows) (λ _ reread _. tt)))

  -- a run that holds its rows has one outcome
  held_once : (held : List ℕ → Option (List ℕ)) (net vec : List ℕ) (stations root : Option (List ℕ)) (next : Design → Links → Placement → List (List Bool) → Script)
      → ((d : Design) (l : Links) (p : Placement) (rows : List (List Bool)) → IsSettled held (next d l p rows)) → IsSettled held (held_step net vec stations root next)
  held_once held net vec stations root next s =
      wrapped_once held net stations root (λ d l p. rows_step d vec (next d l p)) (λ d l p text _. settled_step held (vec_reading d text) (next d l p) (s d l p))

  waved_once : (held : List ℕ → Option (List ℕ)) (d : Design) (l : Links) (p : Placement) (cycles : ℕ) (rows : List (List Bool)) → IsSettled held (waving_script d l p cycles rows)
  unfolding waving_script
  waved_once held d l p cycles rows = settled_step held (trace_read p (Some cycles)) (λ _. end (gives (waved d l p rows cycles))) (λ _. tt)

  walked_once : (held : List ℕ → Option (List ℕ)) (d : Design) (l : Links) (p : Placement) (schedule : List ℕ) (rows : List (List Bool)) → IsSettled held (schedule_script d l p schedule rows)
  unfolding schedule_script
  walked_once held d l p schedule rows = λ bytes _. settled_step held (schedule_read (actor_count l p) bytes) (λ actors. end (gives (walked d l p rows actors))) (λ _. tt)

  freed_once : (held : List ℕ → Option (List ℕ)) (d : Design) (l : Links) (p : Placement) (workers rounds : ℕ) (tally : Bool) (rows : List (List Bool)) → IsSettled held (freeing_script d l p workers rounds tally rows)
  unfolding freeing_script
  freed_once held d l p workers rounds tally rows = tt

  wrapping_once : (held : List ℕ → Option (List ℕ)) (d : Design) (l : Links) (p : Placement) → IsSettled held (wrapping_script d l p)
  unfolding wrapping_script
  wrapping_once held d l p = settled_step held (emit_read d l p) (λ _. end (gives (emitted d l p))) (λ _. tt)

  output_once : (held : List ℕ → Option (List ℕ)) (output : Links → Placement → Output) (net : List ℕ) (stations root : Option (List ℕ)) → IsSettled held (telling_script output net stations root)
  unfolding telling_script told_script
  output_once held output net stations root = wrapped_once held net stations root (λ d. told_script output) (λ d l p. tt)

  settled_job : (held : List ℕ → Option (List ℕ)) (job : Job) → IsSettled held (script_of job)
  unfolding emit_script free_script walk_script wave_script unwave_script gen_script clock_script check_script report_script strict_script checked_script rows_script place_script wires_script verify_script cert_script
  settled_job held (Check net root) = system_once held net root report_script (λ d l. tt)
  settled_job held (Clock net vec stations stalls workers trace root) =
      wrapped_once held net stations root (λ d l p. stalled_script d l p vec stalls trace) (λ d l p. clocked_once held d l p vec stalls trace)
  settled_job held (Place net wires reach root) =
      system_once held net root (λ d l. wires_script l wires reach) (λ d l bytes _. settled_step held (wires_read reach l bytes) (λ p. end (gives (placed l p))) (λ _. tt))
  settled_job held (Rate net stations root) = output_once held throughput net stations root
  settled_job held (Size net stations root) = output_once held sized net stations root
  settled_job held (Slack net stations root) = output_once held slacks net stations root
  settled_job held (Verify net cert stations root) =
      wrapped_once held net stations root (λ d l p. cert_script l p cert) (λ d l p bytes _. settled_step held (cert_read bytes) (judging_script l p) (λ c. judged_once held l p c))
  settled_job held (Free net vec stations workers rounds tally root) =
      held_once held net vec stations root (λ d l p rows. freeing_script d l p workers rounds tally rows) (λ d l p rows. freed_once held d l p workers rounds tally rows)
  settled_job held (Walk net vec schedule stations root) =
      held_once held net vec stations root (λ d l p rows. schedule_script d l p schedule rows) (λ d l p rows. walked_once held d l p schedule rows)
  settled_job held (Wave net vec stations cycles root) =
      held_once held net vec stations root (λ d l p rows. waving_script d l p cycles rows) (λ d l p rows. waved_once held d l p cycles rows)
  settled_job held (Emit net stations root) = wrapped_once held net stations root wrapping_script (λ d l p. wrapping_once held d l p)
  settled_job held (Unwave file) = λ bytes _. settled_step held (dump_read bytes) (λ trace. end (gives (unwaved trace))) (λ _. tt)
  settled_job held (Gen seed shells run) = settled_step held (size_read shells) (λ _. end (gives (generating seed shells run))) (λ _. tt)
  settled_job held (Strict net vec root) = λ bytes _.
      let rows : (d : Design) → IsSettled held (rows_script d vec) = λ d text _. settled_step held (vec_reading d text) (λ bits. end (gives (strict_output d bits))) (λ _. tt) in
      settled_step held (net_reading bytes) (λ d. checked_script d vec root)
      (λ d. checked_once held root d (λ c. rows_script c vec) rows)

  pub told_job_ends_once : (held : List ℕ → Option (List ℕ)) (job : Job) (x y : Ending) → TellsAll held (script_of job) → EndsIn held (script_of job) x → EndsIn held (script_of job) y → x ≡ y
  told_job_ends_once held job x y = ends_once held (script_of job) x y (settled_job held job)
