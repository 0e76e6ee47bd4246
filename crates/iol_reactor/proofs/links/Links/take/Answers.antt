use Rattle.std.proofs.Common.{◌≡◌, ◌∙◌, ◌<◌, arith, ap, length, refl}
use Rattle.iol_reactor.specs.Connections.{is_current, is_earlier, link_at}
use Rattle.iol_reactor.proofs.Connections.{apart_taken, come_taken, count_taken, one_if}
use Rattle.iol_reactor.proofs.links.Links.take.Goals as goal

pub invariant_of-self : goal.invariant_of-self
invariant_of-self c = let s = c.args.self.now in
    let within : c.args.slot < length s.table.items = omega (arith, c.if-slot-len.true, c.len.ensures) in
    let current = count_taken (is_current s.generation) s.table.items c.args.slot refl in
    let earlier = count_taken (is_earlier s.generation) s.table.items c.args.slot refl in
    let one : c.count_current-current.result ≡ one_if (is_current s.generation (link_at s.table.items c.args.slot)) =
    c.count_current-current.ensures ∙ ap (λ o. one_if (is_current s.generation o)) c.get-taken.ensures in
    let other : c.count_earlier-earlier.result ≡ one_if (is_earlier s.generation (link_at s.table.items c.args.slot)) =
    c.count_earlier-earlier.ensures ∙ ap (λ o. one_if (is_earlier s.generation o)) c.get-taken.ensures in
    record {
      apart = apart_taken s.table.items c.args.slot within s.apart;
      came = come_taken s.generation s.last s.table.items c.args.slot within s.came;
      counted = omega (arith, current, one, s.counted, c.saturating_sub-self.ensures);
      earlier = omega (arith, earlier, other, s.earlier, c.saturating_sub-self-2.ensures);
    }
