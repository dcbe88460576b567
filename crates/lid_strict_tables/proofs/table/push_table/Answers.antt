use Rattle.std.proofs.Common.{◌≡◌, ◌-◌, ◌^◌, ◌++◌, ℕ, List, length, refl, sym, subst, arith}
use Rattle.lid_base.specs.Each.{from_each}
use Rattle.lid_strict_engine.specs.Programs.{step_cover}
use Rattle.lid_strict_tables.specs.Wide.{word_of, IsWideTable}
use Rattle.lid_strict_tables.proofs.Words.{table_appended}
use Rattle.lid_strict_tables.proofs.table.push_table.Goals as goal

pub returns-clause-is : goal.returns-clause-is
returns-clause-is c =
    let cover = step_cover c.args.cubes.now c.args.step in
    let old = c.args.words.now.items in
    let tabled = c.if-not-is_tabled.ensures.0 refl in
    let many = tabled.many in
    let long = c.args.words.now.ok.0 in
    let told = c.len-first.ensures in
    let place : c.len-first.result ≡ length old = omega arith in
    record {
      small = λ few. absurd (omega arith);
      wide = λ same.
          subst (λ (words : List ℕ). IsWideTable words c.len-first.result cover) (sym c.in_ok-push_words.ensures)
          (subst (λ (n : ℕ). IsWideTable (old ++ from_each (word_of cover) 0 (2 ^ (cover.inputs - 6))) n cover) (sym place) (table_appended cover old (omega arith)));
    }
