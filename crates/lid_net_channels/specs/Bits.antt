-- Bits of channels that carry ports.
use Rattle.std.specs.Prelude.{◌≡◌, ◌+◌, ℕ, List, [], ◌∷◌, ◌++◌, Some, slice_get, length, ⊤}
use Rattle.std.specs.List.{AllByRecursion}
use Rattle.lid_base.specs.Each.{from_each}
use Rattle.lid_system.specs.declared.Channel.{Channel}
use Rattle.lid_system.specs.declared.InBit.{InBit}
use Rattle.lid_system.specs.declared.InBit.TheVariants.{Const, Port}
use Rattle.lid_net_channels.specs.declared.reads.Read.{Read}

-- an input has a bit of a channel that carries the port of a read between its nodes
pub record IsBitOf (channels : List Channel) (chan bit : ℕ) (r : Read) : Type 0 where
  pub c : Channel
  pub here : slice_get channels chan ≡ Some c
  pub from : c.from ≡ r.from
  pub to : c.to ≡ r.to
  pub port : slice_get c.ports bit ≡ Some r.port

abbrev pub Carries : List Channel → Read → InBit → Type 0
Carries channels r (Const bit) = ⊥
Carries channels r (Port chan bit) = IsBitOf channels chan bit r

-- a bit for each read, in order
abbrev pub CarryAll : List Channel → List Read → List InBit → Type 0
CarryAll channels [] [] = ⊤
CarryAll channels (r ∷ rs) (b ∷ bs) = Carries channels r b × CarryAll channels rs bs
CarryAll channels _ _ = ⊥

-- the bits of channels, the first of which has this number
abbrev pub bits_from : ℕ → List Channel → List InBit
bits_from chan [] = []
bits_from chan (c ∷ cs) = from_each (Port chan) 0 (length c.ports) ++ bits_from (chan + 1) cs
