-- Nodes that are made one after another.
use Rattle.std.proofs.Common.{◌≡◌, ◌<◌, ◌+◌, ℕ, zero, suc, List, [], ◌∷◌, ◌++◌, length, map, take, get_or, append_assoc, append-nil, sym, ◌∙◌, ap, subst, arith}
use Rattle.std.specs.List.{AllByRecursion}
use Rattle.std.proofs.Math.Seq.{take-suc}
use Rattle.std.proofs.lemmas.List.{length-map, length-take-le}
use Rattle.lid_design.specs.declared.Design.{Design}
use Rattle.lid_system.specs.declared.Channel.{Channel}
use Rattle.lid_system.specs.declared.InBit.{InBit}
use Rattle.lid_system.specs.declared.Node.{Node}
use Rattle.lid_net_channels.specs.Bits.{CarryAll}
use Rattle.lid_net.specs.declared.origin.Origin.{Origin}
use Rattle.std.proofs.Common.{Option}
use Rattle.lid_net.specs.declared.ports.ShellPorts.{ShellPorts}
use Rattle.lid_net.specs.declared.nodes.Wiring.{Wiring}
use Rattle.lid_net.specs.Marks.{ins_of}
use Rattle.lid_net.specs.Nodes.{IsBitFor, AreInBits, CanRead, CanReadAll, IsShellFor, AreShellNodes, AreShellsSoFar}

pub bits_push : (channels : List Channel) (origins : List (Option Origin)) (to : ℕ) (ks : List ℕ) (xs : List InBit) (k : ℕ) (x : InBit) → AreInBits channels origins to ks xs → IsBitFor channels origins to k x → AreInBits channels origins to (ks ++ k ∷ []) (xs ++ x ∷ [])
bits_push channels origins to [] [] k x h b = (b, tt)
bits_push channels origins to [] (y ∷ ys) k x h b = absurd h
bits_push channels origins to (j ∷ js) [] k x h b = absurd h
bits_push channels origins to (j ∷ js) (y ∷ ys) k x h b = (h.0, bits_push channels origins to js ys k x h.1 b)

pub bits_more : (channels : List Channel) (origins : List (Option Origin)) (to : ℕ) (ins : List ℕ) (i : ℕ) (xs : List InBit) (x : InBit) → i < length ins → AreInBits channels origins to (take i ins) xs → IsBitFor channels origins to (get_or ins i 0) x → AreInBits channels origins to (take (i + 1) ins) (xs ++ x ∷ [])
bits_more channels origins to ins i xs x less h b =
    let e : i + 1 ≡ suc i = omega arith in
    subst (λ (ks : List ℕ). AreInBits channels origins to ks (xs ++ x ∷ [])) (sym (ap (λ (n : ℕ). take n ins) e ∙ take-suc ins i 0 less))
    (bits_push channels origins to (take i ins) xs (get_or ins i 0) x h b)

-- what the shell of a pearl may read
can_read_shell : (w : Wiring) (to i : ℕ) (ports : List ShellPorts) (shell : ShellPorts) → CanReadAll w to (map ins_of ports) → i < length ports → shell ≡ get_or ports i shell → AllByRecursion (CanRead w (to + i)) shell.ins
can_read_shell w to i [] shell h less is = absurd (omega arith)
can_read_shell w to zero (p ∷ ports) shell h less is =
    let e : to ≡ to + 0 = omega arith in
    subst (λ (n : ℕ). AllByRecursion (CanRead w n) shell.ins) e (subst (λ (q : ShellPorts). AllByRecursion (CanRead w to) q.ins) (sym is) h.0)
can_read_shell w to (suc i) (p ∷ ports) shell h less is =
    let e : (to + 1) + i ≡ to + suc i = omega arith in
    subst (λ (n : ℕ). AllByRecursion (CanRead w n) shell.ins) e (can_read_shell w (to + 1) i ports shell h.1 (omega arith) is)

pub read_shell : (w : Wiring) (ports : List ShellPorts) (shell : ShellPorts) (i : ℕ) → CanReadAll w 1 (map ins_of ports) → i < length ports → shell ≡ get_or ports i shell → AllByRecursion (CanRead w (i + 1)) shell.ins
read_shell w ports shell i h less is =
    let e : 1 + i ≡ i + 1 = omega arith in
    subst (λ (k : ℕ). AllByRecursion (CanRead w k) shell.ins) e (can_read_shell w 1 i ports shell h less is)

-- one more shell
shells_push : (d : Design) (channels : List Channel) (origins : List (Option Origin)) (first : ℕ) (ports : List ShellPorts) (shells : List Node) (p : ShellPorts) (x : Node) → AreShellNodes d channels origins first ports shells → IsShellFor d channels origins (first + length ports) p x → AreShellNodes d channels origins first (ports ++ p ∷ []) (shells ++ x ∷ [])
shells_push d channels origins first [] [] p x h last = let e : first + 0 ≡ first = omega arith in (subst (λ (n : ℕ). IsShellFor d channels origins n p x) e last, tt)
shells_push d channels origins first [] (y ∷ ys) p x h last = absurd h
shells_push d channels origins first (q ∷ ports) [] p x h last = absurd h
shells_push d channels origins first (q ∷ ports) (y ∷ ys) p x h last =
    let e : first + suc (length ports) ≡ (first + 1) + length ports = omega arith in
    (h.0, shells_push d channels origins (first + 1) ports ys p x h.1 (subst (λ (n : ℕ). IsShellFor d channels origins n p x) e last))

pub shells_first : (d : Design) (w : Wiring) (ports : List ShellPorts) (old : List Node) → AreShellsSoFar d w (take 0 ports) old old
shells_first d w ports old = record { shells = []; is = sym (append-nil old); each = λ channels carry. tt }

pub shells_more : (d : Design) (w : Wiring) (ports : List ShellPorts) (i : ℕ) (p : ShellPorts) (old new after : List Node) (shell : Node) → AreShellsSoFar d w (take i ports) old new → i < length ports → p ≡ get_or ports i p → after ≡ new ++ shell ∷ []
    → ((channels : List Channel) → CarryAll channels w.reads.items w.bits.items → IsShellFor d channels w.origins.items i p shell)
    → AreShellsSoFar d w (take (i + 1) ports) old after
shells_more d w ports i p old new after shell sofar less is pushed made =
    let e : i + 1 ≡ suc i = omega arith in
    let more : take (i + 1) ports ≡ take i ports ++ p ∷ [] = ap (λ (n : ℕ). take n ports) e ∙ take-suc ports i p less ∙ ap (λ (q : ShellPorts). take i ports ++ q ∷ []) (sym is) in
    let long : i ≡ 0 + length (take i ports) = (let l = length-take-le i ports (omega arith) in omega arith) in
    record {
      shells = sofar.shells ++ shell ∷ [];
      is = pushed ∙ ap (λ (ns : List Node). ns ++ shell ∷ []) sofar.is ∙ append_assoc old sofar.shells (shell ∷ []);
      each = λ channels carry.
          subst (λ (ps : List ShellPorts). AreShellNodes d channels w.origins.items 0 ps (sofar.shells ++ shell ∷ [])) (sym more)
          (shells_push d channels w.origins.items 0 (take i ports) sofar.shells p shell (sofar.each channels carry) (subst (λ (n : ℕ). IsShellFor d channels w.origins.items n p shell) long (made channels carry)));
    }

pub shells_all : (d : Design) (w : Wiring) (ports first : List ShellPorts) (old new : List Node) → AreShellsSoFar d w first old new → first ≡ ports → AreShellsSoFar d w ports old new
shells_all d w ports first old new h e = subst (λ (ps : List ShellPorts). AreShellsSoFar d w ps old new) e h

pub read_shells : (w : Wiring) (to : ℕ) (all : List (List ℕ)) (last : List ℕ) → CanReadAll w to (all ++ last ∷ []) → CanReadAll w to all × AllByRecursion (CanRead w (to + length all)) last
read_shells w to [] last h = let e : to ≡ to + 0 = omega arith in (tt, subst (λ (n : ℕ). AllByRecursion (CanRead w n) last) e h.0)
read_shells w to (ins ∷ all) last h =
    let later = read_shells w (to + 1) all last h.1 in
    let e : (to + 1) + length all ≡ to + suc (length all) = omega arith in
    ((h.0, later.0), subst (λ (n : ℕ). AllByRecursion (CanRead w n) last) e later.1)

pub read_sink : (w : Wiring) (ports : List ShellPorts) (last : List ℕ) (n : ℕ) → CanReadAll w 1 (map ins_of ports ++ last ∷ []) → n ≡ length ports → AllByRecursion (CanRead w (n + 1)) last
read_sink w ports last n h long =
    let mapped = length-map ports ins_of in
    let e : 1 + length (map ins_of ports) ≡ n + 1 = omega arith in
    subst (λ (k : ℕ). AllByRecursion (CanRead w k) last) e (read_shells w 1 (map ins_of ports) last h).1
