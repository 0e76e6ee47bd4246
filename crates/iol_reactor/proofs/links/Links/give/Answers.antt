use Rattle.std.proofs.Common.{◌≡◌, ◌∙◌, ◌<◌, ℕ, None, Some, ap, arith, length, refl, set, subst, sym}
use Rattle.std.proofs.lemmas.List.{length-set}
use Rattle.std.proofs.lemmas.List.Sums.{count_by-le-length}
use Rattle.std.specs.Prelude.{is_some}
use Rattle.iol_reactor.specs.Connections.{HaveCome, is_current, link_at}
use Rattle.iol_reactor.specs.declared.links.Link.{Link}
use Rattle.iol_reactor.proofs.Connections.{apart_given, come_given, given_current, given_earlier, new_link, none_of}
use Rattle.iol_reactor.proofs.links.Links.give.Goals as goal

pub invariant_of-self : goal.invariant_of-self
invariant_of-self c =
    let old = c.args.self.now in
    let l : Link = record { conn = c.args.conn; generation = old.generation } in
    let more : old.last < c.args.conn =
    subst (λ (n : ℕ). old.last < n) c.number-number.ensures c.if-number-self.false in
    let within : c.args.slot < length old.table.items = omega (arith, c.if-slot-len.false, c.len.ensures) in
    let free : link_at old.table.items c.args.slot ≡ None =
    none_of (link_at old.table.items c.args.slot)
    (ap (λ o. is_some o) (sym c.get.ensures) ∙ sym c.is_some.ensures ∙ c.if-is_some.false) in
    let more_current = given_current old.generation old.table.items c.args.slot l refl within free in
    let most = count_by-le-length (is_current old.generation) (set old.table.items c.args.slot (Some l)) in
    let same = length-set old.table.items c.args.slot (Some l) in
    record {
      apart =
          apart_given old.generation old.last old.table.items c.args.slot l old.came
          (new_link old.generation old.last l refl more) old.apart;
      came = subst (λ (n : ℕ). HaveCome old.generation n (set old.table.items c.args.slot (Some l)))
          (sym c.number-number.ensures) (come_given old.generation old.last old.table.items c.args.slot l refl more
          old.came);
      counted = omega (arith, more_current, most, same, old.counted, c.len.ensures, c.saturating_add-self.ensures);
      earlier = old.earlier ∙ sym (given_earlier old.generation old.table.items c.args.slot l refl within free);
    }
