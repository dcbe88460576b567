use Rattle.std.proofs.Common.{◌≡◌, ◌+◌, ℕ, Bool, List, length, map, sym, ◌∙◌, ap, subst}
use Rattle.lid_pearl.specs.Pearls.{View, Steps}
use Rattle.lid_shell_nodes.specs.Wiring.{ShellView, IsShellOf}
use Rattle.lid_shell_nodes.specs.Inside.{bit_read, token_of_bits}
use Rattle.lid_shell_nodes.proofs.Following.{shell_follows, next_tokens}
use Rattle.lid_base.proofs.Lists.{refilled}
use Rattle.lid_shell_nodes.proofs.shell.ShellNode.fire.Goals as goal

-- the step of a shell, by what a contract sees of the shell
seen_step : (seen x : ShellView) → seen ≡ x → (taken : List ℕ) (inputs : List Bool) (q : View) (outs : List Bool) → inputs ≡ map (bit_read taken) seen.reads → Steps seen.pearl inputs q outs → Steps x.pearl (map (bit_read taken) x.reads) q outs
seen_step seen x same taken inputs q outs read steps =
    subst (λ (x : ShellView). Steps x.pearl (map (bit_read taken) x.reads) q outs) same
    (subst (λ (row : List Bool). Steps seen.pearl row q outs) read steps)

pub returns-clause-goes : goal.returns-clause-goes
returns-clause-goes c s rows b v t well table below is same =
    let room = c.self.inside.room.ins in
    let x = c.args.self.now in
    let taken = c.args.taken.now in
    let long : length c.read_all.new.bits ≡ room.len = c.read_all.auto.bits ∙ c.as_mut_slice.ensures.len in
    let read = c.as_slice-2.ensures.value ∙ refilled room.len c.read_all.new.bits room.items long ∙ c.read_all.ensures ∙ ap (map (bit_read taken)) c.as_slice.ensures.value in
    let steps = seen_step _ x c.self.view_is taken c.as_slice-2.result.now c.step.new.self c.step.new.into read c.step.ensures in
    subst (λ (x : ShellView). IsShellOf s b v (t + 1) (record x { pearl = c.step.new.self })) (sym c.self.view_is)
    (shell_follows s well rows b table v t x is taken same c.step.new.self c.step.new.into steps below)

pub returns-clause-gives : goal.returns-clause-gives
returns-clause-gives c s rows b v t well table next is same =
    let room = c.self.inside.room.ins in
    let outs_room = c.self.inside.room.outs in
    let x = c.args.self.now in
    let taken = c.args.taken.now in
    let outs = c.step.new.into in
    let long : length c.read_all.new.bits ≡ room.len = c.read_all.auto.bits ∙ c.as_mut_slice.ensures.len in
    let read = c.as_slice-2.ensures.value ∙ refilled room.len c.read_all.new.bits room.items long ∙ c.read_all.ensures ∙ ap (map (bit_read taken)) c.as_slice.ensures.value in
    let steps = seen_step _ x c.self.view_is taken c.as_slice-2.result.now c.step.new.self outs read c.step.ensures in
    let outs_long : length outs ≡ outs_room.len = c.step.auto.into ∙ c.as_mut_slice-2.ensures.len in
    c.pack_all.ensures
    ∙ ap (λ (bits : List Bool). map (token_of_bits bits) c.as_slice-4.result.now) (c.as_slice-3.ensures.value ∙ refilled outs_room.len outs outs_room.items outs_long)
    ∙ ap (map (token_of_bits outs)) (c.as_slice-4.ensures.value ∙ ap (λ (x : ShellView). x.ports) c.self.view_is)
    ∙ next_tokens s well rows b table v t x is taken same c.step.new.self outs steps next
