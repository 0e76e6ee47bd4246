use Rattle.std.proofs.Common.{◌∙◌, ◌<◌, ◌≤◌, ◌+◌, ◌++◌, ◌∷◌, [], ap, sym, subst}
use Rattle.iol_sock.specs.Connections.{new_conn}
use Rattle.iol_kernel.specs.Kernel.{state_of}
use Rattle.iol_kernel.specs.Readings.{bytes_over}
use Rattle.iol_kernel.proofs.Connections.OneConnection.{Conns, joined_as, length_conns-read_of, next_conn-read_of}
use Rattle.iol_kernel.proofs.State.ReadOf.{closed-read_of}
use Rattle.iol_kernel.proofs.kernel.Kernel.add_conn.Goals as goal

pub add-requires-clause-few : goal.add-requires-clause-few
add-requires-clause-few c =
    let h = state_of c.args.self.now in
    subst (λ n. n ≤ 4294967294) (next_conn-read_of (bytes_over [] h.store) h ∙ sym c.in_ok-reserve.ensures.next)
    c.requires.some

pub returns : goal.returns
returns c =
    let h = state_of c.args.self.now in
    let some = subst (λ n. n ≤ 4294967294) (next_conn-read_of (bytes_over [] h.store) h) c.requires.some in
    let few = subst (λ n. n < 1024) (length_conns-read_of (bytes_over [] h.store) h) c.requires.few in
    let open' = sym (closed-read_of (bytes_over [] h.store) h c.args.pool) ∙ c.requires.opened in
    let next = c.in_ok-reserve.ensures.next in
    let made = joined_as h c.args.pool c.requires.sound open' few some c.add.result c.add.new.self.next
    c.add.new.self.conns
    (c.add.ensures.number ∙ next)
    (c.add.ensures.conns ∙ ap (λ (cs : Conns). cs ++ (c.reserve.new.self.next, new_conn c.args.pool) ∷ [])
    c.in_ok-reserve.ensures.conns ∙ ap (λ n. (state_of c.args.self.now).conns ++ (n, new_conn c.args.pool) ∷ [])
    next)
    (c.add.ensures.next ∙ ap (λ n. n + 1) next) in
    record { done = made; err = tt }
