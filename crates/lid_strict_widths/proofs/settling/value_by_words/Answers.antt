use Rattle.std.proofs.Common.{◌+◌, ℕ, List, map, take, get_or, sym, ◌∙◌, ap, arith}
use Rattle.std.proofs.lemmas.List.{length-map, take-map, drop-map}
use Rattle.lid_cover.specs.Masks.{packed}
use Rattle.lid_strict_engine.specs.Rows.{bit_at}
use Rattle.lid_strict_engine.specs.Truth.{is_set}
use Rattle.lid_strict_widths.proofs.Going.{wide_exact, after_six, word_within}
use Rattle.lid_strict_widths.proofs.settling.value_by_words.Goals as goal

pub overflow_add-first : goal.overflow_add-first
overflow_add-first g c =
    let within = word_within c.args.words.now c.args.first c.pack-high.result _ c.args.bits.now c.args.nets.now c.requires.width c.requires.room (c.pack-high.ensures ∙ ap (λ (ns : List ℕ). packed (map (bit_at c.args.bits.now) ns)) (after_six c.args.nets.now)) in
    let small = c.type_inv.words in
    omega arith

pub offset_bounds-words-first : goal.offset_bounds-words-first
offset_bounds-words-first g c =
    let within = word_within c.args.words.now c.args.first c.pack-high.result _ c.args.bits.now c.args.nets.now c.requires.width c.requires.room (c.pack-high.ensures ∙ ap (λ (ns : List ℕ). packed (map (bit_at c.args.bits.now) ns)) (after_six c.args.nets.now)) in
    let small = c.type_inv.words in
    omega arith

pub bounds-words-first : goal.bounds-words-first
bounds-words-first g c = word_within c.args.words.now c.args.first c.pack-high.result _ c.args.bits.now c.args.nets.now c.requires.width c.requires.room (c.pack-high.ensures ∙ ap (λ (ns : List ℕ). packed (map (bit_at c.args.bits.now) ns)) (after_six c.args.nets.now))

pub returns : goal.returns
returns g c cover is wide =
    let words = c.args.words.now in
    let first = c.args.first in
    let nets = c.args.nets.now in
    let f = bit_at c.args.bits.now in
    let long = length-map nets f in
    let width = c.requires.width in
    c.bit_of.ensures
    ∙ ap (λ (n : ℕ). is_set (get_or words (first + c.pack-high.result) 0) n) (c.pack.ensures ∙ ap packed (sym (take-map f 6 nets)))
    ∙ ap (λ (n : ℕ). is_set (get_or words (first + n) 0) (packed (take 6 (map f nets)))) (c.pack-high.ensures ∙ ap (λ (ns : List ℕ). packed (map f ns)) (after_six nets) ∙ ap packed (sym (drop-map f 6 nets)))
    ∙ wide_exact words first cover (map f nets) is (omega arith) (omega arith)
