-- Generated designs are writable.
use Rattle.std.proofs.Common.{◌≡◌, ◌⊎◌, ℕ, zero, suc, ◌+◌, ◌*◌, ◌^◌, ◌<◌, ◌≤◌, true, false, List, [], ◌∷◌, ◌++◌, length, map, flat_map, codes, inl, inr, refl, sym, ◌∙◌, ap, subst, arith, length-append}
use Rattle.std.specs.List.{AllByRecursion, sum_by}
use Rattle.std.proofs.lemmas.List.{length-map}
use Rattle.std.specs.Prelude.{◌==◌}
use Rattle.lid_design.specs.declared.Inst.{Inst}
use Rattle.lid_base.specs.Each.{from_each}
use Rattle.lid_base_lines.specs.Spelled.{IsSpelled}
use Rattle.lid_base_lines.specs.Texts.{Words, line_text, lines_text, spaced}
use Rattle.lid_base_lines.proofs.Numbers.{spelled_word}
use Rattle.lid_base_lines.proofs.Pieces.{line_text_cons, lines_text_append}
use Rattle.lid_blifout.specs.Canonical.{listed, cell_lines, inst_line, bind_word, model_lines, models_lines, canonical_text}
use Rattle.lid_blifout.specs.Writable.{IsWritableCell, IsWritableBind, IsWritableInst, IsWritableModel, model_rows, IsWritable}
use Rattle.lid_gen.specs.Draws.{state_after, drawn}
use Rattle.lid_gen.specs.Designs.{input_name, output_name, shell_net, net_at, before, count_places, kind_name, kind_model, kind_cover, bound, shell, shell_at, buffer, buffer_at, root_model, made}
use Rattle.lid_gen_laws.proofs.Each.{all_below}
use Rattle.lid_gen_laws.proofs.Roots.{kind_few, place_few}
use Rattle.lid_gen_laws.proofs.Formed.{buffer_formed, unequal_formed, kind_formed, kind_width, well_formed}
use Rattle.lid_gen_laws.proofs.Words.{wider, begun, input_word, output_word, kind_word, shell_word, net_word, before_word}
use Rattle.lid_base.proofs.Each.{each_length}

-- a line of few and short words
record IsShort (words : Words) : Type 0 where
  few : length words ≤ 8
  all : AllByRecursion (λ w. length w ≤ 40) words

spaced_short : (words : Words) → AllByRecursion (λ w. length w ≤ 40) words → length (spaced words) ≤ 41 * length words
spaced_short [] all = omega arith
spaced_short (word ∷ words) all =
    let a = length-append (32 ∷ word) (spaced words) in
    let b = spaced_short words all.1 in
    let first = all.0 in
    omega (arith, a, b, first)

line_short : (words : Words) → IsShort words → length (line_text words) ≤ 400
unfolding line_text
line_short [] short = omega arith
line_short (word ∷ words) short =
    let text = ap length (line_text_cons word words) in
    let a = length-append word (spaced words ++ 10 ∷ []) in
    let b = length-append (spaced words) (10 ∷ []) in
    let few = short.few in
    let first = short.all.0 in
    let c = spaced_short words short.all.1 in
    omega (arith, text, a, b, few, first, c)

lines_short : (lines : List Words) → AllByRecursion IsShort lines → length (lines_text lines) ≤ 400 * length lines
lines_short [] all = omega arith
lines_short (line ∷ lines) all =
    let a = length-append (line_text line) (lines_text lines) in
    let b = line_short line all.0 in
    let c = lines_short lines all.1 in
    omega (arith, a, b, c)

-- a name as a word of a design
named : (word : List ℕ) → IsSpelled 30 word → IsSpelled 1024 word
named word is = wider 30 1024 word (omega arith) is

bind_written : (letter : ℕ) (actual : List ℕ) → (letter ≡ 97) ⊎ (letter ≡ 98) ⊎ (letter ≡ 113) ⊎ (letter ≡ 114) → IsSpelled 30 actual → IsWritableBind (bound (letter ∷ []) actual) × (length (bind_word (bound (letter ∷ []) actual)) ≤ 32)
bind_written letter actual is word = by is
  where
    Is : ℕ → Type 0
    Is l = IsWritableBind (bound (l ∷ []) actual) × (length (bind_word (bound (l ∷ []) actual)) ≤ 32)

    made_of : (l : ℕ) → IsSpelled 1024 (l ∷ []) → IsSpelled 32 (l ∷ 61 ∷ actual) → AllByRecursion (λ b. (b == 61) ≡ false) (l ∷ []) → Is l
    made_of l formal whole split = (record { formal = formal; actual = named actual word; split = split; short = omega (arith, whole.short); unmarked = whole.unmarked }, whole.short)

    by : (letter ≡ 97) ⊎ (letter ≡ 98) ⊎ (letter ≡ 113) ⊎ (letter ≡ 114) → Is letter
    by (inl e) = subst Is (sym e) (made_of 97 (spelled_word 1024 (97 ∷ []) refl refl refl refl) (begun 30 (97 ∷ 61 ∷ []) actual (refl, (refl, tt)) word) (refl, tt))
    by (inr (inl e)) = subst Is (sym e) (made_of 98 (spelled_word 1024 (98 ∷ []) refl refl refl refl) (begun 30 (98 ∷ 61 ∷ []) actual (refl, (refl, tt)) word) (refl, tt))
    by (inr (inr (inl e))) = subst Is (sym e) (made_of 113 (spelled_word 1024 (113 ∷ []) refl refl refl refl) (begun 30 (113 ∷ 61 ∷ []) actual (refl, (refl, tt)) word) (refl, tt))
    by (inr (inr (inr e))) = subst Is (sym e) (made_of 114 (spelled_word 1024 (114 ∷ []) refl refl refl refl) (begun 30 (114 ∷ 61 ∷ []) actual (refl, (refl, tt)) word) (refl, tt))

record IsWritten (inst : Inst) : Type 0 where
  written : IsWritableInst inst
  line : IsShort (inst_line inst)

shell_written : (i k place : ℕ) → i < 2 ^ 64 → k < 4 → place < 2 ^ 64 → IsWritten (shell i k place)
shell_written i k place few kind short =
    let a = bind_written 97 (before i) (inl refl) (before_word i few) in
    let b = bind_written 98 (net_at place) (inr (inl refl)) (net_word place short) in
    let q = bind_written 113 (shell_net i 113) (inr (inr (inl refl))) (shell_word i 113 few (inl refl)) in
    let r = bind_written 114 (shell_net i 114) (inr (inr (inr refl))) (shell_word i 114 few (inr refl)) in
    let name = kind_word k kind in
    record {
      written = record { model = named (kind_name k) name; binds = (a.0, (b.0, (q.0, (r.0, tt)))) };
      line = record { few = omega arith; all = (omega arith, (omega (arith, name.short), (omega (arith, a.1), (omega (arith, b.1), (omega (arith, q.1), (omega (arith, r.1), tt)))))) };
    }

buffer_written : (j place : ℕ) → j < 4 → place < 2 ^ 64 → IsWritableCell (buffer j place) × AllByRecursion IsShort (cell_lines (buffer j place))
buffer_written j place few short =
    let net = net_word place short in
    let out = output_word j few in
    let formed = buffer_formed j place in (
      record { names = (named (net_at place) net, tt); driven = named (output_name j) out; rules = formed.0; count = formed.1; constant = λ e. refl },
      (record { few = omega arith; all = (omega arith, (omega (arith, net.short), (omega (arith, out.short), tt))) }, (record { few = omega arith; all = (omega arith, (omega arith, tt)) }, tt)),
    )

kind_constant : (k : ℕ) → k < 4 → (kind_cover k).cubes ≡ [] → (kind_cover k).on ≡ true
kind_constant zero few e = refl
kind_constant (suc zero) few e = refl
kind_constant (suc (suc zero)) few e = refl
kind_constant (suc (suc (suc zero))) few e = absurd (let f = ap length e in omega (arith, f))
kind_constant (suc (suc (suc (suc k)))) few e = absurd (omega (arith, few))

kind_written : (k : ℕ) → k < 4 → IsWritableModel (kind_model k)
kind_written k few =
    let a = spelled_word 1024 (codes "a") refl refl refl refl in
    let b = spelled_word 1024 (codes "b") refl refl refl refl in
    let q = spelled_word 1024 (codes "q") refl refl refl refl in
    let r = spelled_word 1024 (codes "r") refl refl refl refl in
    let dq = spelled_word 1024 (codes "dq") refl refl refl refl in
    let dr = spelled_word 1024 (codes "dr") refl refl refl refl in
    record {
      name = named (kind_name k) (kind_word k few);
      inputs = (a, (b, tt));
      outputs = (q, (r, tt));
      clocks = tt;
      cells = (record { names = (a, (b, tt)); driven = dq; rules = kind_formed k few; count = kind_width k few; constant = kind_constant k few }, (record { names = (b, (q, tt)); driven = dr; rules = unequal_formed; count = refl; constant = λ e. refl }, (record { reads = dq; driven = q; controlled = tt; plain = λ e. refl }, (record { reads = dr; driven = r; controlled = tt; plain = λ e. refl }, tt))));
      insts = tt;
    }

module _ (s n : ℕ) (few : n ≤ 2000) where
  place_short : (place : ℕ) → place < count_places n → place < 2 ^ 64
  place_short place less = omega (arith, few, less)

  shells_written : AllByRecursion IsWritten (root_model s n).insts
  shells_written = all_below IsWritten (shell_at s n) n (λ i less. shell_written i (drawn s (2 * i) 4) (drawn s (2 * i + 1) (count_places n)) (omega (arith, few, less)) (kind_few s n i) (place_short (drawn s (2 * i + 1) (count_places n)) (place_few s n s (2 * i + 1))))

  buffers_at : (j : ℕ) → j < 4 → IsWritableCell (buffer_at (state_after (2 * n) s) n j) × AllByRecursion IsShort (cell_lines (buffer_at (state_after (2 * n) s) n j))
  buffers_at j less = let place = drawn (state_after (2 * n) s) j (count_places n) in buffer_written j place less (place_short place (place_few s n (state_after (2 * n) s) j))

  insts_of : (insts : List Inst) → AllByRecursion IsWritten insts → AllByRecursion IsWritableInst insts × AllByRecursion IsShort (map inst_line insts)
  insts_of [] all = (tt, tt)
  insts_of (inst ∷ insts) all = let later = insts_of insts all.1 in ((all.0.written, later.0), (all.0.line, later.1))

  root_written : IsWritableModel (root_model s n)
  root_written = record {
    name = spelled_word 1024 (codes "gen") refl refl refl refl;
    inputs = all_below (IsSpelled 1024) input_name 4 (λ j less. named (input_name j) (input_word j less));
    outputs = all_below (IsSpelled 1024) output_name 4 (λ j less. named (output_name j) (output_word j less));
    clocks = tt;
    cells = all_below IsWritableCell (buffer_at (state_after (2 * n) s) n) 4 (λ j less. (buffers_at j less).0);
    insts = (insts_of (root_model s n).insts shells_written).0;
  }

  -- the lines of the root before those of its instances
  header : List Words
  header =
      (codes ".model" ∷ codes "gen" ∷ [])
      ∷ listed (codes ".inputs") (from_each input_name 0 4)
      ++ (listed (codes ".outputs") (from_each output_name 0 4) ++ flat_map cell_lines (from_each (buffer_at (state_after (2 * n) s) n) 0 4))

  shorter : (word : List ℕ) → IsSpelled 30 word → length word ≤ 40
  shorter word is = omega (arith, is.short)

  five : (keyword : List ℕ) (f : ℕ → List ℕ) → length keyword ≤ 40 → ((j : ℕ) → j < 4 → length (f j) ≤ 40) → IsShort (keyword ∷ from_each f 0 4)
  five keyword f short each = record { few = omega arith; all = (short, all_below (λ w. length w ≤ 40) f 4 each) }

  header_short : AllByRecursion IsShort header
  unfolding header
  header_short =
      let y0 = (buffers_at 0 (omega arith)).1 in
      let y1 = (buffers_at 1 (omega arith)).1 in
      let y2 = (buffers_at 2 (omega arith)).1 in
      let y3 = (buffers_at 3 (omega arith)).1 in
      (record { few = omega arith; all = (omega arith, (omega arith, tt)) }, (five (codes ".inputs") input_name (omega arith) (λ j less. shorter (input_name j) (input_word j less)), (five (codes ".outputs") output_name (omega arith) (λ j less. shorter (output_name j) (output_word j less)), (y0.0, (y0.1.0, (y1.0, (y1.1.0, (y2.0, (y2.1.0, (y3.0, (y3.1.0, tt)))))))))))

  root_short : length (lines_text (model_lines (root_model s n))) ≤ 400 * (12 + n)
  unfolding header
  root_short =
      let insts = map inst_line (root_model s n).insts in
      let a : length (lines_text (header ++ (insts ++ (codes ".end" ∷ []) ∷ []))) ≡ length (lines_text header) + length (lines_text (insts ++ (codes ".end" ∷ []) ∷ [])) = ap length (lines_text_append header (insts ++ (codes ".end" ∷ []) ∷ [])) ∙ length-append (lines_text header) (lines_text (insts ++ (codes ".end" ∷ []) ∷ [])) in
      let b : length (lines_text (insts ++ (codes ".end" ∷ []) ∷ [])) ≡ length (lines_text insts) + length (lines_text ((codes ".end" ∷ []) ∷ [])) = ap length (lines_text_append insts ((codes ".end" ∷ []) ∷ [])) ∙ length-append (lines_text insts) (lines_text ((codes ".end" ∷ []) ∷ [])) in
      let c = lines_short header header_short in
      let d = lines_short insts (insts_of (root_model s n).insts shells_written).1 in
      let e = lines_short ((codes ".end" ∷ []) ∷ []) (record { few = omega arith; all = (omega arith, tt) }, tt) in
      let f : length insts ≡ n = length-map (root_model s n).insts inst_line ∙ each_length (shell_at s n) 0 n in
      omega (arith, a, b, c, d, e, f)

  kinds_short : length (lines_text (models_lines (from_each kind_model 0 4))) ≤ 1000
  unfolding line_text
  kinds_short = let e : length (lines_text (models_lines (from_each kind_model 0 4))) ≡ 462 = refl in omega (arith, e)

  pub made_written : IsWritable (made s n)
  unfolding canonical_text
  made_written =
      let a : length (canonical_text (made s n)) ≡ length (lines_text (model_lines (root_model s n))) + length (lines_text (models_lines (from_each kind_model 0 4))) = ap length (lines_text_append (model_lines (root_model s n)) (models_lines (from_each kind_model 0 4))) ∙ length-append (lines_text (model_lines (root_model s n))) (lines_text (models_lines (from_each kind_model 0 4))) in
      let b = root_short in
      let c = kinds_short in
      let rows : sum_by model_rows (made s n).models ≡ 18 = refl in
      record {
        rooted = refl;
        some = omega arith;
        distinct = (well_formed s n few).distinct;
        models = (root_written, (kind_written 0 (omega arith), (kind_written 1 (omega arith), (kind_written 2 (omega arith), (kind_written 3 (omega arith), tt)))));
        few_models = omega arith;
        few_rows = omega (arith, rows);
        short = omega (arith, a, b, c, few);
      }
