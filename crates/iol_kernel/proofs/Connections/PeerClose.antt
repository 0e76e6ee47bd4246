-- The peer of a connection closes.
use Rattle.std.proofs.Common.{◌≢◌, None, ◌≡◌, ℕ, ◌+◌, List, ap, ◌∙◌, refl, sym, subst, arith, Some}
use Rattle.std.specs.List.{AllByRecursion}
use Rattle.iol_core.specs.NumberedLists.{lookup, changed}
use Rattle.iol_core.specs.State as machine
use Rattle.iol_core.specs.State.{State, Domain}
use Rattle.iol_core.specs.Calls.Outside as outside
use Rattle.iol_core.specs.declared.descriptors.How.{How}
use Rattle.iol_core.specs.declared.descriptors.How.TheVariants.{Done, Gone}
use Rattle.iol_core.specs.declared.numbers.BufId.{BufId}
use Rattle.iol_hold.specs.StoreState.{Stored, count_of, AllReclaimed}
use Rattle.iol_hold.specs.Moves.{Moves, SameLists}
use Rattle.iol_hold.specs.Releases.{FreesOnly}
use Rattle.iol_hold.specs.Texts.{bufs_of, AllReadable}
use Rattle.iol_hold.specs.declared.slices.Slice.{Slice}
use Rattle.iol_hold.proofs.PageChanges.{keeps_pages_frees}
use Rattle.iol_hold.proofs.ReadSlices.{readable_none}
use Rattle.iol_sock.specs.Connections.{Conn, closed_by}
use Rattle.iol_sock.specs.Table.{conn_in}
use Rattle.iol_sock.proofs.MachineConns.{closes_meant}
use Rattle.iol_kernel.specs.HoldCounts.{conn_uses}
use Rattle.iol_kernel.specs.KernelState as held
use Rattle.iol_kernel.specs.KernelState.{KernelState, objects_of, IsOpenEnd, IsConnReadable, IsSound}
use Rattle.iol_kernel.specs.Calls.{Leaves}
use Rattle.iol_kernel.proofs.Connections.OneConnection.{IsChanged, conn_in-found, conn_in-changed, there-changed}
use Rattle.iol_kernel.proofs.Connections.OneConnection.{conn_left, turned, turned_fds, turned-sound, turned_leaves}
use Rattle.iol_kernel.proofs.Connections.OneConnection.{IsOpenConn, conn_readable, conn_limit}

module _ (h : KernelState) (t : Stored) (c : ℕ) (x : Conn (List Slice)) (sound : IsSound h)
    (found : lookup h.conns c ≡ Some x) where
  left_good : (how : How) → IsConnReadable h.store (c, closed_by x how)
  left_good Done = conn_readable h c x sound found
  left_good Gone = let was = conn_readable h c x sound found in (was.0, readable_none h.store)

  left_limit : (how : How) → held.IsConn (c, closed_by x how)
  left_limit Done = let was = conn_limit h c x sound found in
      record { incoming = was.incoming; outgoing = was.outgoing; waits = was.waits }
  left_limit Gone = let was = conn_limit h c x sound found in
      record { incoming = was.incoming; outgoing = omega arith; waits = was.waits }

  left_pool : (how : How) → (closed_by x how).pool ≡ x.pool
  left_pool Done = refl
  left_pool Gone = refl

  left_open : (how : How) → IsOpenConn x → IsOpenConn (closed_by x how)
  left_open Done open' = open'
  left_open Gone open' = open'

  left_fds : (how : How)
      → AllByRecursion
      (λ (d : Domain (List Slice)). AllByRecursion
      (IsOpenEnd (objects_of (turned h t c x (closed_by x how) sound found)))
      d.fds) h.domains
  left_fds how = turned_fds h t c x (closed_by x how) sound found (left_open how)

  left_counts : (how : How) → Moves h.store t (bufs_of x.outgoing) (bufs_of (closed_by x how).outgoing) → (b : BufId)
      → count_of t b + conn_uses b (c, x) ≡ count_of h.store b + conn_uses b (c, closed_by x how)
  left_counts Done moves b = omega (arith, moves.counts.each b)
  left_counts Gone moves b = omega (arith, moves.counts.each b)

  module _ (how : How) (moves : Moves h.store t (bufs_of x.outgoing) (bufs_of (closed_by x how).outgoing))
      (lists : SameLists h.store t) (frees : FreesOnly h.store t) (reclaimed : AllReclaimed t) where
    pub peer_closed-sound : IsSound (turned h t c x (closed_by x how) sound found)
    peer_closed-sound = turned-sound h t c x (closed_by x how) sound found (left_counts how moves) moves.stays
        (moves.tidy sound.tidy) (moves.still sound.still) reclaimed lists (keeps_pages_frees frees).count
        (left_good how) (left_limit how) (left_pool how) (left_fds how)

    pub peer_closed_leaves :
        Leaves (λ s. record s { conns = changed s.conns c (outside.closed_by (machine.conn_at s c) how) }) h
        (turned h t c x (closed_by x how) sound found)
    peer_closed_leaves = turned_leaves h t c x (closed_by x how) sound found (left_counts how moves) moves.stays
        (moves.tidy sound.tidy) (moves.still sound.still) reclaimed lists (keeps_pages_frees frees).count
        (left_good how) (left_limit how) (left_pool how) (left_fds how)
        (λ w. outside.closed_by w how) (λ f. closes_meant f.at x how) (keeps_pages_frees frees)

-- The whole call, and the state after it.

module _ (h k : KernelState) (c : ℕ) (how : How) (sound : IsSound h) (there : lookup h.conns c ≢ None)
    (same : k ≡ record h { store = k.store; conns = changed h.conns c (closed_by (conn_in h.conns c) how) })
    (moves : Moves h.store k.store (bufs_of (conn_in h.conns c).outgoing) (bufs_of (conn_in k.conns c).outgoing))
    (lists : SameLists h.store k.store) (frees : FreesOnly h.store k.store)
    (reclaims : AllReadable h.store (conn_in h.conns c).outgoing → AllReclaimed h.store → AllReclaimed k.store)
  where
    found : lookup h.conns c ≡ Some (conn_in h.conns c)
    found = conn_in-found h.conns c there

    here : conn_in k.conns c ≡ closed_by (conn_in h.conns c) how
    here = ap (λ (l : KernelState). conn_in l.conns c) same
        ∙ conn_in-changed h.conns c (conn_in h.conns c) (closed_by (conn_in h.conns c) how) found

    moved : Moves h.store k.store (bufs_of (conn_in h.conns c).outgoing)
        (bufs_of (closed_by (conn_in h.conns c) how).outgoing)
    moved =
        subst (λ (y : Conn (List Slice)). Moves h.store k.store (bufs_of (conn_in h.conns c).outgoing)
        (bufs_of y.outgoing)) here moves

    all_reclaimed : AllReclaimed k.store
    all_reclaimed = reclaims (conn_readable h c (conn_in h.conns c) sound found).1 sound.reclaimed

    pub peer_changed : IsChanged c (λ s. machine.with_conn s c (outside.closed_by (machine.conn_at s c) how)) h k
    peer_changed = record {
      sound =
          subst IsSound (sym same) (peer_closed-sound h k.store c (conn_in h.conns c) sound found how moved lists frees
          all_reclaimed);
      there =
          subst (λ (l : KernelState). lookup l.conns c ≢ None) (sym same)
          (there-changed h.conns c (conn_in h.conns c) (closed_by (conn_in h.conns c) how) found);
      left = λ l reclaimed. conn_left h k l c (conn_in h.conns c) (λ w. outside.closed_by w how) sound found
          (subst
          (λ (m : KernelState).
          Leaves (λ s. record s { conns = changed s.conns c (outside.closed_by (machine.conn_at s c) how) }) h m)
          (sym same) (peer_closed_leaves h k.store c (conn_in h.conns c) sound found how moved lists frees
          all_reclaimed)) reclaimed;
    }
