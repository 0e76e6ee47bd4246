-- A connection that is read by a descriptor.
use Rattle.std.proofs.Common.{◌≡◌, ◌≢◌, ℕ, Some, None, subst}
use Rattle.iol_core.specs.NumberedLists.{lookup}
use Rattle.iol_core.specs.declared.descriptors.Descriptor.{Descriptor}
use Rattle.iol_core.specs.declared.descriptors.Descriptor.TheVariants as on
use Rattle.iol_hold.specs.Moves.{Covers}
use Rattle.iol_hold.specs.Texts.{bufs_of}
use Rattle.iol_sock.specs.Table.{conn_in}
use Rattle.iol_kernel.specs.KernelState.{KernelState, IsOpenEnd, objects_of}
use Rattle.iol_kernel.specs.QueueEnds.{IsSource}
use Rattle.iol_kernel.proofs.Connections.OneConnection.{IsOpenConn, conn_in-found, incoming_covered, open_conn-there}

module _ (h : KernelState) (x : Descriptor) (c : ℕ) (source : IsSource h x) (is : x ≡ on.Connection c) where
  pub source_open : IsOpenConn (conn_in h.conns c)
  source_open = subst (λ (y : Descriptor). IsOpenEnd (objects_of h) (Some y)) is source.opened

  pub source_there : lookup h.conns c ≢ None
  source_there = open_conn-there h.conns c source_open

  pub source_found : lookup h.conns c ≡ Some (conn_in h.conns c)
  source_found = conn_in-found h.conns c source_there

  pub source_covered : Covers h.store (bufs_of (conn_in h.conns c).incoming)
  source_covered = incoming_covered h c (conn_in h.conns c) source.sound source_found
