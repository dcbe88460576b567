-- Texts of placements, a piece at a time.
use Rattle.std.proofs.Common.{◌≡◌, ℕ, suc, ◌+◌, ◌<◌, Bool, List, [], ◌∷◌, ◌++◌, length, get_or, take, drop, sym, ap, ◌∙◌, append_assoc, length-drop, arith}
use Rattle.std.proofs.lemmas.List.{drop_more}
use Rattle.std.proofs.lemmas.List.Sums.{sum_by-drop_more}
use Rattle.lid_base_lines.specs.Texts.{Words, line_text, lines_text, spaced}
use Rattle.lid_base_lines.proofs.Pieces.{line_text_cons, spaced_append}
use Rattle.lid_stations.specs.Placements.{station_count}
use Rattle.lid_system.specs.declared.Channel.{Channel}
use Rattle.lid_stations_text.specs.Written.{channel_words, channel_lines}
use Rattle.lid_base.proofs.Lists.{appended}

-- a line of two names, numbers and more words
pub channel_made : (old a b c new from to : List ℕ) (numbers more : Words) → a ≡ old ++ (from ++ 32 ∷ to) → b ≡ a ++ spaced numbers → c ≡ b ++ spaced more → new ≡ c ++ 10 ∷ [] → new ≡ old ++ line_text (from ∷ to ∷ (numbers ++ more))
channel_made old a b c new from to numbers more ea eb ec en =
    let words = appended old b c ((from ++ 32 ∷ to) ++ spaced numbers) (spaced more) (appended old a b (from ++ 32 ∷ to) (spaced numbers) ea eb) ec in
    let whole = appended old c new _ (10 ∷ []) words en in
    let after : spaced numbers ++ spaced more ≡ spaced (numbers ++ more) = sym (spaced_append numbers more) in
    let said : (((from ++ 32 ∷ to) ++ spaced numbers) ++ spaced more) ++ 10 ∷ [] ≡ line_text (from ∷ to ∷ (numbers ++ more)) =
    simp append_assoc (
    ap (λ (bytes : List ℕ). from ++ 32 ∷ (to ++ bytes)) (sym (append_assoc (spaced numbers) (spaced more) (10 ∷ [])) ∙ ap (λ (bytes : List ℕ). bytes ++ 10 ∷ []) after)
    ∙ ap (λ (bytes : List ℕ). from ++ 32 ∷ bytes) (sym (append_assoc to (spaced (numbers ++ more)) (10 ∷ [])))
    ∙ sym (line_text_cons from (to ∷ (numbers ++ more)))) in
    whole ∙ ap (λ (bytes : List ℕ). old ++ bytes) said

-- the lines from a channel on, whose capacities stand first in what is left
from_channel : (count : ℕ) (two : Bool) (channels : List Channel) (relays left : List ℕ) (i : ℕ) (c : Channel) → i < length channels → length relays ≡ length channels → c ≡ get_or channels i c → lines_text (channel_lines count two (drop i channels) (drop i relays) left) ≡ line_text (channel_words count two c (get_or relays i 0) (take (suc (get_or relays i 0)) left)) ++ lines_text (channel_lines count two (drop (i + 1) channels) (drop (i + 1) relays) (drop (suc (get_or relays i 0)) left))
from_channel count two channels relays left i c h long at =
    let cut : drop i channels ≡ c ∷ drop (i + 1) channels = drop_more channels i c h ∙ ap (λ (x : Channel). x ∷ drop (i + 1) channels) (sym at) in
    ap (λ (cs : List Channel). lines_text (channel_lines count two cs (drop i relays) left)) cut
    ∙ ap (λ (ks : List ℕ). lines_text (channel_lines count two (c ∷ drop (i + 1) channels) ks left)) (drop_more relays i 0 (omega arith))

-- one more line
pub lines_more : (count : ℕ) (two : Bool) (channels : List Channel) (relays left own after mid new whole : List ℕ) (i : ℕ) (c : Channel) → i < length channels → length relays ≡ length channels → c ≡ get_or channels i c → own ≡ take (get_or relays i 0 + 1) left → after ≡ drop (get_or relays i 0 + 1) left → mid ++ lines_text (channel_lines count two (drop i channels) (drop i relays) left) ≡ whole → new ≡ mid ++ line_text (channel_words count two c (get_or relays i 0) own) → new ++ lines_text (channel_lines count two (drop (i + 1) channels) (drop (i + 1) relays) after) ≡ whole
lines_more count two channels relays left own after mid new whole i c h long at is_own is_after was is =
    let k = get_or relays i 0 in
    let next : k + 1 ≡ suc k = omega arith in
    let first : own ≡ take (suc k) left = is_own ∙ ap (λ (n : ℕ). take n left) next in
    let others : after ≡ drop (suc k) left = is_after ∙ ap (λ (n : ℕ). drop n left) next in
    let say = λ (caps : List ℕ). line_text (channel_words count two c k caps) in
    let later = λ (caps : List ℕ). lines_text (channel_lines count two (drop (i + 1) channels) (drop (i + 1) relays) caps) in
    ap (λ (bytes : List ℕ). bytes ++ later after) is
    ∙ append_assoc mid (say own) (later after)
    ∙ ap (λ (caps : List ℕ). mid ++ (say caps ++ later after)) first
    ∙ ap (λ (caps : List ℕ). mid ++ (say (take (suc k) left) ++ later caps)) others
    ∙ ap (λ (bytes : List ℕ). mid ++ bytes) (sym (from_channel count two channels relays left i c h long at))
    ∙ was

pub stations_left : (relays left after : List ℕ) (i : ℕ) → i < length relays → length left ≡ station_count (drop i relays) → after ≡ drop (get_or relays i 0 + 1) left → length after ≡ station_count (drop (i + 1) relays)
stations_left relays left after i h long is =
    ap length is ∙ length-drop (get_or relays i 0 + 1) left ∙ (let sum = sum_by-drop_more (λ k. k + 1) relays i 0 h in omega arith)
