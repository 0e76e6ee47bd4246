use Rattle.std.proofs.Common.{◌≡◌, ◌∙◌, List, refl, sym, subst, rules, true}
use Rattle.iol_core.specs.declared.descriptors.Descriptor.TheVariants as on
use Rattle.iol_hold.specs.declared.slices.Slice.{Slice}
use Rattle.iol_hold.proofs.ReadSlices.{readable_joined}
use Rattle.iol_sock.specs.Connections.{Conn, is_over}
use Rattle.iol_kernel.specs.Kernel.{state_of}
use Rattle.iol_kernel.proofs.Connections.OneConnection.{some_same, conn_covered, conn_readable, reclaimed_stays}
use Rattle.iol_kernel.proofs.Connections.OneConnection.{reclaimed_as, gone_keeps}
use Rattle.iol_kernel.proofs.kernel.Kernel.reclaim.Goals as goal
use Rattle.iol_kernel.proofs.kernel.Kernel.reclaim.Goals.{After-forget-over}

pub release-requires : goal.release-requires
release-requires c =
    conn_covered (state_of c.args.self.now) c.args.conn c.forget-over.result c.requires.sound
    (sym c.forget-over.ensures.given)

pub returns-then-not-is_over : goal.returns-then-not-is_over
returns-then-not-is_over c = record {
  left = reclaimed_stays (state_of c.args.self.now) c.args.conn c.in-Some.found.now c.requires.sound
      (sym c.in-Some.ensures) (search (rules));
  domains = refl;
  others = record { each = λ e differ open'. open' };
}

-- the removed connection was over
over : (c : After-forget-over) → is_over c.forget-over.result ≡ true
over c =
    let same : c.forget-over.result ≡ c.in-Some.found.now =
    some_same (c.forget-over.ensures.given ∙ sym c.in-Some.ensures) in
    let e : is_over c.in-Some.found.now ≡ true = search (rules) in
    subst (λ (y : Conn (List Slice)). is_over y ≡ true) (sym same) e

pub returns : goal.returns
returns c =
    let h = state_of c.args.self.now in
    let x : Conn (List Slice) = c.forget-over.result in
    let found = sym c.forget-over.ensures.given in
    let good = conn_readable h c.args.conn x c.requires.sound found in
    let gone = over (goal.at.returns c).After-forget-over in
    let r = c.release.ensures in
    record {
      left = reclaimed_as h c.args.conn x c.requires.sound found c.release.new.store gone r.moves r.lists r.frees
          (r.reclaims (readable_joined good.0 good.1) c.requires.sound.reclaimed)
          c.forget-over.new.self.conns c.forget-over.new.self.next c.forget-over.ensures.rest
          c.forget-over.ensures.next;
      domains = refl;
      others =
          gone_keeps h c.args.conn x c.requires.sound found gone (on.Connection c.args.conn)
          c.forget-over.new.self.conns c.forget-over.new.self.next c.forget-over.ensures.rest;
    }
