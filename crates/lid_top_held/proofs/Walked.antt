-- A walk of a system is told as one of its design.
use Rattle.std.proofs.Common.{◌≡◌, ℕ, ◌≤◌, Bool, List, [], ◌∷◌, ◌++◌, length, take, append-nil, append_assoc, refl, sym, ◌∙◌, ap}
use Rattle.std.specs.List.{AllByRecursion}
use Rattle.lid_design.specs.declared.Design.{Design}
use Rattle.lid_design.specs.Network.{Table, IsStrict}
use Rattle.lid_design.specs.Walks.{HasTable}
use Rattle.lid_design.specs.Columns.{Column, drivers, root_inputs, root_outputs, output_rows}
use Rattle.lid_walk.specs.Setups.{IsSetupOf}
use Rattle.lid_net_law.specs.Agreement.{IsSystemOf, seen}
use Rattle.lid_net_law.proofs.Agreeing.{table_is, rows_are}
use Rattle.lid_texts_runs.specs.Runs.{answer_text}
use Rattle.lid_system.specs.declared.System.{System}
use Rattle.lid_system.specs.Systems.{IsWellFormed}
use Rattle.lid_system.specs.Streams.{output_row}
use Rattle.lid_stations.specs.declared.placement.Placement.{Placement}
use Rattle.lid_stations.specs.Placements.{links_of, Fits}
use Rattle.lid_texts.specs.RowsText.{rows_text}
use Rattle.lid_walk_machine.specs.Plans.{Plan, sink}
use Rattle.lid_walk_machine.specs.Setups.{plan, output_rows as given_rows}
use Rattle.lid_shell_laws.specs.Setups.{Setup, IsSetup, IsInputRow}
use Rattle.lid_walk_machine.specs.Machine.{State, answers, after_all, answer_of, next, begun}
use Rattle.lid_top_script.specs.Walked.{plan_of, answer_lines, given_after, IsWalkText}
use Rattle.lid_top_script.proofs.Tokens.{token_same, are_outputs}
use Rattle.lid_base.proofs.Alls.{all_weaker}
use Rattle.lid_base.proofs.Each.{take_each}

-- one step more of a schedule
module _ (m : Plan) where
  pub after_more : (st : State) (schedule : List ℕ) (v : ℕ) → after_all m st (schedule ++ v ∷ []) ≡ next m (after_all m st schedule) v
  unfolding after_all
  after_more st [] v = refl
  after_more st (w ∷ schedule) v = after_more (next m st w) schedule v

  pub lines_more : (st : State) (schedule : List ℕ) (v : ℕ)
      → answer_lines (schedule ++ v ∷ []) (answers m st (schedule ++ v ∷ [])) ≡ answer_lines schedule (answers m st schedule) ++ answer_text v (answer_of m (after_all m st schedule) v)
  unfolding answers after_all
  lines_more st [] v = append-nil (answer_text v (answer_of m st v))
  lines_more st (w ∷ schedule) v =
      ap (λ xs. answer_text w (answer_of m st w) ++ xs) (lines_more (next m st w) schedule v)
      ∙ sym (append_assoc (answer_text w (answer_of m st w)) (answer_lines schedule (answers m (next m st w) schedule)) (answer_text v (answer_of m (after_all m (next m st w) schedule) v)))

module _ (d : Design) (s : System) (p : Placement) (of : IsSystemOf d s) (well : IsWellFormed s) (rows : List (List Bool)) (b : Table Column) (strict : IsStrict (drivers d) rows b) where
  -- the setup of the system, whose table is that of the design
  abbrev pub setup : Setup
  setup = record { system = s; placement = p; input = rows; table = seen d of.columns b }

  -- rows as wide as the inputs of the design are input rows of the system
  pub input_rows : AllByRecursion (λ row. length row ≡ length (root_inputs d)) rows → AllByRecursion (IsInputRow s) rows
  input_rows wide = all_weaker (λ row. length row ≡ length (root_inputs d)) (IsInputRow s) rows (λ row is columns here. is ∙ ap length (sym (of.source 0 columns here))) wide

  pub is_setup : Fits s p → length rows ≤ 1000000 → AllByRecursion (λ row. length row ≡ length (root_inputs d)) rows → IsSetup setup
  is_setup fits few wide = record {
    system = well;
    fits = fits;
    few = few;
    wide = input_rows wide;
    table = table_is d s of well rows b strict;
  }

  -- it is one of the system with its stations and these rows
  pub is_setup_of : Fits s p → length rows ≤ 1000000 → AllByRecursion (λ row. length row ≡ length (root_inputs d)) rows → IsSetupOf setup s p rows
  is_setup_of fits few wide = record { rules = is_setup fits few wide; system = refl; placement = refl; input = refl }

  -- its plan is that of the design
  pub same_plan : plan setup ≡ plan_of d b (links_of s) p (length rows)
  same_plan = λ k. record { links = links_of s; placement = p; rows = length rows; token = λ station i. token_same d s of well b p station i k }

  -- the text of a walk, from its answers and the rows that the sink has given
  pub walk_text : (schedule : List ℕ) (lines rows_given : List ℕ) (columns : List (List ℕ)) (given : List (List Bool)) (text : List ℕ)
      → (after_all (plan setup) begun schedule (sink (plan setup))).fired ≤ length rows
      → columns ≡ root_outputs d
      → given ≡ given_rows setup (after_all (plan setup) begun schedule (sink (plan setup))).fired
      → lines ≡ answer_lines schedule (answers (plan setup) begun schedule)
      → rows_given ≡ rows_text columns given
      → text ≡ lines ++ rows_given
      → IsWalkText d (links_of s) p rows schedule text
  walk_text schedule lines rows_given columns given text few named are said told whole =
      let fired = (after_all (plan setup) begun schedule (sink (plan setup))).fired in
      let first : given ≡ take fired (output_rows d b (length rows)) =
      are ∙ sym (take_each (output_row s (seen d of.columns b)) 0 (length rows) fired few) ∙ ap (take fired) (rows_are d s of well rows b strict) in
      record {
        table = b;
        strict = strict;
        outs = output_rows d b (length rows);
        are_outs = are_outputs d s of well b rows strict;
        written =
            whole
            ∙ ap (λ xs. xs ++ rows_given) (said ∙ ap (λ (m : Plan). answer_lines schedule (answers m begun schedule)) same_plan)
            ∙ ap (λ xs. answer_lines schedule (answers (plan_of d b (links_of s) p (length rows)) begun schedule) ++ xs)
            (told ∙ ap (λ cs. rows_text cs given) named ∙ ap (rows_text (root_outputs d)) (first ∙ ap (λ (m : Plan). take (given_after m schedule) (output_rows d b (length rows))) same_plan));
      }

-- a system of a design that has a table has a setup
abbrev pub some_setup : (d : Design) (s : System) (p : Placement) (rows : List (List Bool)) → HasTable (drivers d) → IsSystemOf d s → IsWellFormed s → Fits s p → length rows ≤ 1000000 → AllByRecursion (λ row. length row ≡ length (root_inputs d)) rows
    → (m : Setup) × IsSetupOf m s p rows
some_setup d s p rows has of well fits few wide = let table = has rows in (setup d s p of well rows table.0 table.1, is_setup_of d s p of well rows table.0 table.1 fits few wide)
