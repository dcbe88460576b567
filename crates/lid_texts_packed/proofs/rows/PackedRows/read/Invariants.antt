use Rattle.std.proofs.Common.{◌≡◌, ℕ, ◌*◌, ◌<◌, ◌≤◌, false, [], length, get_or}
use Rattle.lid_texts_packed.proofs.rows.PackedRows.read.Given as goal

abbrev pub invariant-loop-k : goal.invariant-loop-k
invariant-loop-k l =
    (length l.into ≡ length l.fn.into)
    × ((j : ℕ) → j < 64 * l.k → j < length l.fn.into → get_or l.into j false ≡ get_or (get_or l.fn.self.rows l.fn.row []) j false)

abbrev pub invariant-loop-place : goal.invariant-loop-place
invariant-loop-place l =
    (length l.into ≡ length l.fn.into)
    × (64 * l.k ≤ l.place)
    × ((j : ℕ) → j < l.place → get_or l.into j false ≡ get_or (get_or l.fn.self.rows l.fn.row []) j false)
