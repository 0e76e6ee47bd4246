use Rattle.std.proofs.Common.{List, sym, subst}
use Rattle.iol_hold.specs.Moves.{Covers}
use Rattle.iol_hold.specs.Texts.{bufs_of}
use Rattle.iol_hold.specs.declared.slices.Slice.{Slice}
use Rattle.iol_sock.specs.Calls.{ReleasesBoth}
use Rattle.iol_sock.specs.Connections.{Conn, held_by}
use Rattle.iol_sock.proofs.QueueEnds.{both_released, covers_front, covers_rest}
use Rattle.iol_sock.proofs.connections.Connection.release.Goals as goal

pub clear-requires : goal.clear-requires
clear-requires c =
    let inside = c.self.inside in
    covers_front (bufs_of inside.incoming) (bufs_of inside.outgoing)
    (subst (λ (v : Conn (List Slice)). Covers c.args.store.now (held_by v)) (sym c.self.view_is) c.requires)

pub clear-requires-2 : goal.clear-requires-2
clear-requires-2 c =
    let inside = c.self.inside in
    covers_rest (bufs_of inside.incoming) (bufs_of inside.outgoing)
    (subst (λ (v : Conn (List Slice)). Covers c.args.store.now (held_by v)) (sym c.self.view_is) c.requires)
    c.clear.ensures.releases.moves

pub returns : goal.returns
returns c =
    let s = c.args.store.now in
    let inside = c.self.inside in
    let covered = subst (λ (v : Conn (List Slice)). Covers s (held_by v)) (sym c.self.view_is) c.requires in
    subst (λ (v : Conn (List Slice)). ReleasesBoth s c.clear-2.new.store v.incoming v.outgoing) c.self.view_is
    (both_released inside.incoming inside.outgoing covered c.clear.ensures.releases c.clear-2.ensures.releases)
