-- A domain closes a connection: its unread input is dropped, and it is removed if nothing is left to send.
use Rattle.std.proofs.Common.{◌≡◌, ◌≢◌, ℕ, ◌+◌, Bool, true, false, List, [], ◌∙◌, ap, refl, sym, subst, arith, None}
use Rattle.std.specs.List.{AllByRecursion}
use Rattle.std.proofs.Common.{Some}
use Rattle.iol_core.specs.NumberedLists.{lookup, changed}
use Rattle.iol_core.specs.State as machine
use Rattle.iol_core.specs.State.{State, Domain, Connection}
use Rattle.iol_core.specs.Calls.Descriptors.{closed_on}
use Rattle.iol_core.specs.declared.descriptors.Descriptor.{Descriptor}
use Rattle.iol_core.specs.declared.descriptors.Descriptor.TheVariants as on
use Rattle.iol_core.specs.declared.numbers.BufId.{BufId}
use Rattle.iol_hold.specs.StoreState.{count_of, AllReclaimed}
use Rattle.iol_hold.specs.Releases.{Releases}
use Rattle.iol_hold.specs.declared.slices.Slice.{Slice}
use Rattle.iol_hold.proofs.Counts.{tally_none}
use Rattle.iol_hold.proofs.PageChanges.{keeps_pages_frees}
use Rattle.iol_hold.proofs.ReadSlices.{readable_none}
use Rattle.iol_sock.specs.Connections.{Conn}
use Rattle.iol_sock.specs.Table.{conn_in}
use Rattle.iol_kernel.specs.Views.{Objects}
use Rattle.iol_kernel.specs.HoldCounts.{conn_uses}
use Rattle.iol_kernel.specs.EndCounts.{same_end}
use Rattle.iol_kernel.specs.KernelState as held
use Rattle.iol_kernel.specs.KernelState.{KernelState, objects_of, IsOpenEnd, IsConnReadable, IsSound}
use Rattle.iol_kernel.specs.ClosedEnds.{Closes, IsLetGo, KeepsEnds}
use Rattle.iol_kernel.specs.Calls.{Leaves}
use Rattle.iol_kernel.proofs.Queues.ClosedEnds.{not_same, all_ends_kept}
use Rattle.iol_kernel.proofs.Connections.OneConnection.{IsChanged, conn_in-found, there-changed, open_conn-there}
use Rattle.iol_kernel.proofs.Connections.OneConnection.{open-changed_other, conn_left, turned, turned-sound}
use Rattle.iol_kernel.proofs.Connections.OneConnection.{turned_leaves, conn_readable, conn_limit}

-- closed by its domain
abbrev pub hung : Conn (List Slice) → Conn (List Slice)
hung x = record x { incoming = []; closed = true }

-- all other ends stay open
hung_keeps : (o : Objects (List Slice)) (c : ℕ) (y : Conn (List Slice))
    → KeepsEnds (on.Connection c) o (record o { conns = changed o.conns c y })
hung_keeps o c y = record { each = each }
  where
    each : (e : Descriptor) → same_end (on.Connection c) e ≡ 0 → IsOpenEnd o (Some e)
        → IsOpenEnd (record o { conns = changed o.conns c y }) (Some e)
    each (on.ReadEnd p) differ open' = open'
    each (on.WriteEnd p) differ open' = open'
    each (on.File f at mode) differ open' = open'
    each (on.Connection n) differ open' = open-changed_other o.conns c n y (λ e. not_same c n differ (sym e)) open'

-- one change after another
keeps_then : (end : Descriptor) (o p q : Objects (List Slice)) → KeepsEnds end o p → KeepsEnds end p q
    → KeepsEnds end o q
keeps_then end o p q one two = record { each = λ e differ open'. two.each e differ (one.each e differ open') }

module _ (h k : KernelState) (c : ℕ) (free : IsLetGo h (on.Connection c))
    (same : k ≡ record h { store = k.store; conns = changed h.conns c (hung (conn_in h.conns c)) })
    (released : Releases h.store k.store (conn_in h.conns c).incoming []) where
  abbrev x : Conn (List Slice)
  x = conn_in h.conns c

  hung_there : lookup h.conns c ≢ None
  hung_there = open_conn-there h.conns c free.opened

  found : lookup h.conns c ≡ Some x
  found = conn_in-found h.conns c hung_there

  good : IsConnReadable h.store (c, x)
  good = conn_readable h c x free.sound found

  counts : (b : BufId) → count_of k.store b + conn_uses b (c, x) ≡ count_of h.store b + conn_uses b (c, hung x)
  counts b = omega (arith, released.moves.counts.each b, tally_none b)

  limit : held.IsConn (c, hung x)
  limit = let was = conn_limit h c x free.sound found in
      record { incoming = omega arith; outgoing = was.outgoing; waits = λ i. absurd (no (sym free.opened.0 ∙ i)) }
    where
      no : ◌≡◌ {A = Bool} true false → ⊥
      no e = cc

  abbrev now : KernelState
  now = turned h k.store c x (hung x) free.sound found

  fds : AllByRecursion (λ (d : Domain (List Slice)). AllByRecursion (IsOpenEnd (objects_of now)) d.fds) h.domains
  fds = all_ends_kept (on.Connection c) (objects_of h) (objects_of now) (hung_keeps (objects_of h) c (hung x)) h.domains
      free.sound.fds free.free

  all_reclaimed : AllReclaimed k.store
  all_reclaimed = released.reclaims good.0 free.sound.reclaimed

  hung_leaves :
      Leaves
      (λ s. record s { conns = changed s.conns c (record (machine.conn_at s c) { incoming = []; closed = true }) }) h
      now
  hung_leaves =
      turned_leaves h k.store c x (hung x) free.sound found counts released.moves.stays
      (released.moves.tidy free.sound.tidy) (released.moves.still free.sound.still) all_reclaimed released.lists
      (keeps_pages_frees released.frees).count (readable_none h.store, good.1) limit refl fds
      (λ w. record w { incoming = []; closed = true }) (λ f. refl) (keeps_pages_frees released.frees)

  pub hung_changed : IsChanged c (λ s. closed_on s (Some (on.Connection c))) h k
  hung_changed = record {
    sound = subst IsSound (sym same)
        (turned-sound h k.store c x (hung x) free.sound found counts released.moves.stays
        (released.moves.tidy free.sound.tidy) (released.moves.still free.sound.still) all_reclaimed released.lists
        (keeps_pages_frees released.frees).count (readable_none h.store, good.1) limit refl fds);
    there = subst (λ (l : KernelState). lookup l.conns c ≢ None) (sym same) (there-changed h.conns c x (hung x) found);
    left = λ l reclaimed. conn_left h k l c x (λ w. record w { incoming = []; closed = true }) free.sound found
        (subst
        (λ (m : KernelState).
        Leaves
        (λ s. record s {
          conns = changed s.conns c (record (machine.conn_at s c) { incoming = []; closed = true });
        }) h m) (sym same) hung_leaves) reclaimed;
  }

  pub hung_closes : (l : KernelState) → Leaves (λ s. machine.with_conn s c (machine.conn_at s c)) k l
      → l.domains ≡ k.domains → KeepsEnds (on.Connection c) (objects_of k) (objects_of l) → Closes (on.Connection c) h l
  hung_closes l reclaimed domains others = record {
    closed = hung_changed.left l reclaimed;
    domains = domains ∙ ap (λ (m : KernelState). m.domains) same;
    others = keeps_then (on.Connection c) (objects_of h) (objects_of k) (objects_of l)
        (subst (λ (m : KernelState). KeepsEnds (on.Connection c) (objects_of h) (objects_of m)) (sym same)
        (hung_keeps (objects_of h) c (hung x))) others;
  }
