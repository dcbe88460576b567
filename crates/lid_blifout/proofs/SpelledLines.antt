-- The lines of writable models are made of spelled words.
use Rattle.std.proofs.Common.{◌≡◌, ℕ, ◌<◌, ◌≤◌, ◌==◌, Bool, true, false, List, [], ◌∷◌, refl, sym, subst, inl, inr, arith}
use Rattle.std.specs.Prelude.{IfSome, Option, Some, None, map, codes}
use Rattle.std.specs.List.{AllByRecursion, flat_map}
use Rattle.std.proofs.lemmas.Bool.{eqb-false, cond-true, cond-false, cases_Bool}
use Rattle.std.proofs.lemmas.List.{length-append}
use Rattle.lid_base.proofs.Lists.{all_append}
use Rattle.lid_cover.specs.declared.Cube.{Cube}
use Rattle.lid_design.specs.declared.Model.{Model}
use Rattle.lid_design.specs.declared.Cell.{Cell}
use Rattle.lid_design.specs.declared.Cell.TheVariants.{Names, Latch}
use Rattle.lid_design.specs.declared.LatchKind.{LatchKind}
use Rattle.lid_design.specs.declared.LatchKind.TheVariants.{Plain, Rise, Fall}
use Rattle.lid_design.specs.declared.Init.{Init}
use Rattle.lid_design.specs.declared.Init.TheVariants.{Zero, One, DontCare, Unknown}
use Rattle.lid_design.specs.declared.Inst.{Inst}
use Rattle.lid_design.specs.declared.Bind.{Bind}
use Rattle.lid_base_lines.specs.Texts.{Words}
use Rattle.lid_base_lines.specs.Spelled.{is_word_byte, IsSpelled, AreSpelled}
use Rattle.lid_base_lines.proofs.Numbers.{spelled_word, no_mark}
use Rattle.lid_blifout.specs.Canonical.{listed, characters, output_word, cube_line, control_word, kind_words, init_word, cell_lines, bind_word, inst_line, body_lines, models_lines}
use Rattle.lid_blifout.specs.Writable.{IsControl, IsWritableCell, IsWritableBind, IsWritableInst, IsWritableModel}
use Rattle.lid_blifout.proofs.LineWords.{length_characters, of_characters}

-- a binding is one word
spelled_bind : (bind : Bind) → IsWritableBind bind → IsSpelled 1024 (bind_word bind)
spelled_bind bind h = record {
  some = omega (arith, length-append bind.formal (61 ∷ bind.actual), h.formal.some);
  short = h.short;
  bytes = all_append (λ b. is_word_byte b ≡ true) bind.formal (61 ∷ bind.actual) h.formal.bytes (refl, h.actual.bytes);
  unmarked = h.unmarked;
}

output_spelled : (on : Bool) → IsSpelled 1024 (output_word on)
output_spelled true = spelled_word 1024 (codes "1") refl refl refl refl
output_spelled false = spelled_word 1024 (codes "0") refl refl refl refl

init_spelled : (init : Init) → IsSpelled 1024 (init_word init)
init_spelled Zero = spelled_word 1024 (codes "0") refl refl refl refl
init_spelled One = spelled_word 1024 (codes "1") refl refl refl refl
init_spelled DontCare = spelled_word 1024 (codes "2") refl refl refl refl
init_spelled Unknown = spelled_word 1024 (codes "3") refl refl refl refl

control_spelled : (control : Option (List ℕ)) → IfSome control IsControl → IsSpelled 1024 (control_word control)
control_spelled None w = spelled_word 1024 (codes "NIL") refl refl refl refl
control_spelled (Some name) w = w.spelled

kind_spelled : (kind : LatchKind) (control : Option (List ℕ)) → IfSome control IsControl → AllByRecursion (IsSpelled 1024) (kind_words kind control)
kind_spelled Plain control w = tt
kind_spelled Rise control w = (spelled_word 1024 (codes "re") refl refl refl refl, (control_spelled control w, tt))
kind_spelled Fall control w = (spelled_word 1024 (codes "fe") refl refl refl refl, (control_spelled control w, tt))

characters_spelled : (n care value : ℕ) → 0 < n → n ≤ 64 → IsSpelled 1024 (characters n care value)
characters_spelled n care value some few =
    let count = length_characters n care value in
    record {
      some = omega (arith, count);
      short = omega (arith, count);
      bytes = of_characters (λ b. is_word_byte b ≡ true) refl refl refl n care value;
      unmarked = no_mark (characters n care value) (of_characters (λ b. (b == 92) ≡ false) refl refl refl n care value);
    }

row_spelled : (inputs : ℕ) (on : Bool) (cube : Cube) → inputs ≤ 64 → AreSpelled 1024 (cube_line inputs on cube)
row_spelled inputs on cube few =
    elim (cases_Bool (inputs == 0)) [
      | inl yes' ↦ subst (AreSpelled 1024) (sym (cond-true (inputs == 0) (output_word on ∷ []) (characters inputs cube.care cube.value ∷ output_word on ∷ []) yes')) (record { some = omega arith; all = (output_spelled on, tt) })
      | inr no' ↦
          let apart : inputs ≡ 0 → ⊥ = eqb-false inputs 0 no' in
          let some : 0 < inputs = omega arith in
          subst (AreSpelled 1024) (sym (cond-false (inputs == 0) (output_word on ∷ []) (characters inputs cube.care cube.value ∷ output_word on ∷ []) no'))
          (record { some = omega arith; all = (characters_spelled inputs cube.care cube.value some few, (output_spelled on, tt)) })
    ]

rows_spelled : (inputs : ℕ) (on : Bool) (cubes : List Cube) → inputs ≤ 64 → AllByRecursion (AreSpelled 1024) (map (cube_line inputs on) cubes)
rows_spelled inputs on [] few = tt
rows_spelled inputs on (cube ∷ cubes) few = (row_spelled inputs on cube few, rows_spelled inputs on cubes few)

cell_spelled : (cell : Cell) → IsWritableCell cell → AllByRecursion (AreSpelled 1024) (cell_lines cell)
cell_spelled (Names inputs out cover) w =
    let words = all_append (IsSpelled 1024) inputs (out ∷ []) w.names (w.driven, tt) in
    (record { some = omega arith; all = (spelled_word 1024 (codes ".names") refl refl refl refl, words) }, rows_spelled cover.inputs cover.on cover.cubes w.rules.width)
cell_spelled (Latch input out kind control init) w =
    let words = all_append (IsSpelled 1024) (kind_words kind control) (init_word init ∷ []) (kind_spelled kind control w.controlled) (init_spelled init, tt) in
    (record { some = omega arith; all = (spelled_word 1024 (codes ".latch") refl refl refl refl, (w.reads, (w.driven, words))) }, tt)

cells_spelled : (cells : List Cell) → AllByRecursion IsWritableCell cells → AllByRecursion (AreSpelled 1024) (flat_map cell_lines cells)
cells_spelled [] w = tt
cells_spelled (cell ∷ cells) w = all_append (AreSpelled 1024) (cell_lines cell) (flat_map cell_lines cells) (cell_spelled cell w.0) (cells_spelled cells w.1)

binds_spelled : (binds : List Bind) → AllByRecursion IsWritableBind binds → AllByRecursion (IsSpelled 1024) (map bind_word binds)
binds_spelled [] w = tt
binds_spelled (bind ∷ binds) w = (spelled_bind bind w.0, binds_spelled binds w.1)

insts_spelled : (insts : List Inst) → AllByRecursion IsWritableInst insts → AllByRecursion (AreSpelled 1024) (map inst_line insts)
insts_spelled [] w = tt
insts_spelled (inst ∷ insts) w = (record { some = omega arith; all = (spelled_word 1024 (codes ".subckt") refl refl refl refl, (w.0.model, binds_spelled inst.binds w.0.binds)) }, insts_spelled insts w.1)

listed_spelled : (keyword : List ℕ) (names : Words) → IsSpelled 1024 keyword → AllByRecursion (IsSpelled 1024) names → AllByRecursion (AreSpelled 1024) (listed keyword names)
listed_spelled keyword [] k w = tt
listed_spelled keyword (name ∷ names) k w = (record { some = omega arith; all = (k, w) }, tt)

body_spelled : (m : Model) → IsWritableModel m → AllByRecursion (AreSpelled 1024) (body_lines m)
body_spelled m w =
    let ended : AreSpelled 1024 (codes ".end" ∷ []) = record { some = omega arith; all = (spelled_word 1024 (codes ".end") refl refl refl refl, tt) } in
    all_append (AreSpelled 1024) _ _ (listed_spelled (codes ".inputs") m.inputs (spelled_word 1024 (codes ".inputs") refl refl refl refl) w.inputs)
    (all_append (AreSpelled 1024) _ _ (listed_spelled (codes ".outputs") m.outputs (spelled_word 1024 (codes ".outputs") refl refl refl refl) w.outputs)
    (all_append (AreSpelled 1024) _ _ (listed_spelled (codes ".clock") m.clocks (spelled_word 1024 (codes ".clock") refl refl refl refl) w.clocks)
    (all_append (AreSpelled 1024) _ _ (cells_spelled m.cells w.cells) (all_append (AreSpelled 1024) _ _ (insts_spelled m.insts w.insts) (ended, tt)))))

pub models_spelled : (ms : List Model) → AllByRecursion IsWritableModel ms → AllByRecursion (AreSpelled 1024) (models_lines ms)
models_spelled [] w = tt
models_spelled (m ∷ ms) w =
    (record { some = omega arith; all = (spelled_word 1024 (codes ".model") refl refl refl refl, (w.0.name, tt)) }, all_append (AreSpelled 1024) (body_lines m) (models_lines ms) (body_spelled m w.0) (models_spelled ms w.1))
