-- What the clauses on stations say: what is known of an end, how a call changes it, and what a look
-- finds.
use Rattle.std.specs.Prelude.{◌≡◌, ℕ, ◌+◌, ◌-◌, ◌*◌, ◌/◌, ◌%◌, ◌^◌, ◌<◌, ◌≤◌, ◌==◌, cond, Bool, true, false, List, ◌∷◌, take, Option, Some, option_map, slice_get}
use Rattle.lid_station.specs.declared.looks.InLook.{InLook}
use Rattle.lid_station.specs.declared.looks.InLook.TheVariants.{Token, Void}
use Rattle.lid_station.specs.declared.looks.OutLook.{OutLook}
use Rattle.lid_station.specs.declared.looks.OutLook.TheVariants.{Room, Stop}
use Rattle.lid_station.specs.Words.{word, word_number}

-- what is known of an end: the capacity of its station, how many tokens the station started with
-- (0 where that is not known), how many tokens passed the end, whether a token or room was seen
-- there and not used, and how many looks found none, where that is counted
pub record Facts : Type 0 where
  pub cap : ℕ
  pub start : ℕ
  pub passed : ℕ
  pub mark : Bool
  pub misses : Option ℕ

-- what is known of each end, by its number; nothing of an end that is not served
abbrev pub Ends : Type 0
Ends = ℕ → Option Facts

-- the number of a station's end that is filled
abbrev pub fill : ℕ → ℕ
fill station = 2 * station

-- the number of a station's end that is drained
abbrev pub drain : ℕ → ℕ
drain station = 2 * station + 1

-- whether an end is served
abbrev pub IsServed : Ends → ℕ → Type 0
IsServed ends end = (f : Facts) × (ends end ≡ Some f)

-- whether a token or room was seen at a served end and not used
abbrev pub IsMarked : Ends → ℕ → Type 0
IsMarked ends end = (f : Facts) × (ends end ≡ Some f) × (f.mark ≡ true)

-- a token or room was seen
abbrev pub marked : Facts → Facts
marked f = record f { mark = true }

-- one look more found none
abbrev pub missed : Facts → Facts
missed f = record f { misses = option_map (λ n. n + 1) f.misses }

-- one token more passed, and what was seen is used
abbrev pub advanced : Facts → Facts
advanced f = record f { passed = f.passed + 1; mark = false }

-- whether one end changed by a step, and no other end at all
abbrev pub Changes : Ends → ℕ → (Facts → Facts) → Ends → Type 0
Changes old end step new = (k : ℕ) → new k ≡ cond (k == end) (option_map step (old k)) (old k)

-- the ends at which steps were made, the latest first, with one more; none where they are not noted
abbrev pub noted : ℕ → Option (List ℕ) → Option (List ℕ)
noted end steps = option_map (λ (ends : List ℕ). end ∷ ends) steps

-- what a look does to the end at which it is made
abbrev pub looked_in : InLook → Facts → Facts
looked_in (Token token) f = marked f
looked_in (Void told) f = missed f

abbrev pub looked_out : OutLook → Facts → Facts
looked_out Room f = marked f
looked_out (Stop told) f = missed f

abbrev pub IsToken : InLook → Type 0
IsToken (Token token) = Unit {0}
IsToken (Void told) = ⊥

abbrev pub IsVoid : InLook → Type 0
IsVoid (Token token) = ⊥
IsVoid (Void told) = Unit {0}

abbrev pub IsRoom : OutLook → Type 0
IsRoom Room = Unit {0}
IsRoom (Stop told) = ⊥

abbrev pub IsStop : OutLook → Type 0
IsStop Room = ⊥
IsStop (Stop told) = Unit {0}

-- what a look at a drained end finds of the station's stream: its next token, or the word of the
-- place of that token in a station that holds nothing
abbrev pub FindsIn : InLook → Facts → List ℕ → Type 0
FindsIn (Token token) f stream = slice_get stream f.passed ≡ Some token
FindsIn (Void told) f stream =
    told ≡ word f.cap (take f.passed stream) (take f.passed stream) (word_number f.cap f.passed)

-- what a look at a filled end finds of the station's stream: the word of the place of the next
-- token in a station that holds its capacity
abbrev pub FindsOut : OutLook → Facts → List ℕ → Type 0
FindsOut Room f stream = Unit {0}
FindsOut (Stop told) f stream =
    told ≡ word f.cap (take f.passed stream) (take (f.passed - f.cap) stream) (word_number f.cap f.passed)

-- a token that is found has 31 bits
abbrev pub HasSmallToken : InLook → Type 0
HasSmallToken (Token token) = token < 2 ^ 31
HasSmallToken (Void told) = Unit {0}

-- the word that is told of a station that holds nothing is 0
abbrev pub TellsNothing : InLook → Type 0
TellsNothing (Token token) = Unit {0}
TellsNothing (Void told) = told ≡ 0

-- a station that holds its capacity was passed as many tokens
abbrev pub HasFilled : OutLook → Facts → Type 0
HasFilled Room f = Unit {0}
HasFilled (Stop told) f = f.cap ≤ f.passed

-- a station that holds nothing was left by all tokens that it started with
abbrev pub HasDrained : InLook → Facts → Type 0
HasDrained (Token token) f = Unit {0}
HasDrained (Void told) f = f.start ≤ f.passed

-- each place of a station's word of this number has its full bit there: bit 31 of an even place,
-- and bit 63 of an odd one, which the last word of an odd capacity has not
pub record HasFullBits (cap number told : ℕ) : Type 0 where
  pub even : told / 2147483648 % 2 ≡ 1
  pub odd : 2 * number + 1 < cap → told / 9223372036854775808 % 2 ≡ 1

-- the word that is told of a station that holds its capacity has the full bit of each of its places
abbrev pub TellsFull : OutLook → Facts → Type 0
TellsFull Room f = Unit {0}
TellsFull (Stop told) f = HasFullBits f.cap (word_number f.cap f.passed) told
