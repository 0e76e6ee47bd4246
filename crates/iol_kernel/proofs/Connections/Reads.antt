-- Reading from a connection: a domain gets the front of its input, for each reading of places.
use Rattle.std.proofs.Common.{◌≡◌, ℕ, ◌+◌, ◌<◌, ◌≤◌, List, [], ◌∷◌, ◌++◌, length, take, drop, map, ap, ◌∙◌, refl, sym}
use Rattle.std.proofs.Common.{subst, arith, Option, Some}
use Rattle.std.specs.List.{prefix_len, take_while, AllByRecursion}
use Rattle.std.proofs.lemmas.List.{length-take, length-drop}
use Rattle.iol_core.specs.Text.{Text, admitted}
use Rattle.iol_core.specs.NumberedLists.{lookup, changed}
use Rattle.iol_core.specs.State as machine
use Rattle.iol_core.specs.State.{State, Domain, Connection}
use Rattle.iol_core.specs.Calls.Aggregates as aggs
use Rattle.iol_core.specs.Calls.Reads as reading
use Rattle.iol_core.specs.declared.descriptors.Descriptor.{Descriptor}
use Rattle.iol_core.specs.declared.descriptors.Descriptor.TheVariants as on
use Rattle.iol_core.specs.declared.limits.TheConstants.{MAX_AGGREGATES, MAX_QUEUE_BYTES}
use Rattle.iol_pool.specs.Pools.{names_in}
use Rattle.iol_hold.specs.Moves.{SameLists, Shares, pool_meant}
use Rattle.iol_arena.specs.State.{page_count}
use Rattle.iol_hold.specs.Places.{places, byte_len}
use Rattle.iol_hold.specs.Texts.{bufs_of, AllReadable}
use Rattle.iol_hold.specs.declared.slices.Slice.{Slice}
use Rattle.iol_hold.proofs.Counts.{tally-append}
use Rattle.iol_hold.proofs.EmptyPools.{all_reclaimed_same}
use Rattle.iol_hold.proofs.Moves.{shares_move}
use Rattle.iol_hold.proofs.ReadSlices.{readable_rest}
use Rattle.iol_pipe.specs.Queue.{may_see}
use Rattle.iol_pipe.proofs.FrontBytes.{read_given, read_left}
use Rattle.iol_pipe.proofs.Texts.{readable_given}
use Rattle.iol_desc.specs.Tables.{domain_in, with_agg_in, live_aggs_in}
use Rattle.iol_sock.specs.Connections.{Conn, conn_view}
use Rattle.iol_sock.specs.Table.{conn_in}
use Rattle.iol_kernel.specs.NewAggregates.{TakesFront}
use Rattle.iol_kernel.specs.QueueEnds.{GivesFront}
use Rattle.iol_kernel.specs.QueueSlices.{DividesFront}
use Rattle.iol_kernel.specs.Calls.{Answers}
use Rattle.iol_kernel.specs.HoldCounts.{IsCounted, conn_uses}
use Rattle.iol_kernel.specs.KernelState.{IsConn, KernelState, objects_of, AreReadable, IsConnReadable, IsOpenEnd}
use Rattle.iol_kernel.specs.KernelState.{IsSound, read_of}
use Rattle.iol_kernel.specs.OpenDescriptors.{IsOpenOn}
use Rattle.iol_kernel.specs.Readings.{Reading, read, KeepsPools}
use Rattle.iol_kernel.proofs.Connections.OneConnection.{conn_readable, conn_limit, turned, turned_fds, turned_limits}
use Rattle.iol_kernel.proofs.Connections.OneConnection.{turned_pooled, turned-read}
use Rattle.iol_kernel.proofs.Connections.ConnQueues.{open_held, found_held, conn_at-read_of, incoming-read_of, with_on}
use Rattle.iol_kernel.proofs.State.TableCalls.{answers_shared}
use Rattle.iol_kernel.proofs.State.Effects.{moved-sound}
use Rattle.iol_kernel.proofs.Queues.ReadsAndWrites.{admitted-same}
use Rattle.iol_kernel.proofs.State.NumberedEntries.{each-changed, sum-changed}
use Rattle.iol_kernel.proofs.State.Once.{once_same}
use Rattle.iol_kernel.proofs.State.Pools.{pools_pooled}
use Rattle.iol_kernel.proofs.State.ReadOf.{may_read-read_of, next_agg-read_of, open_row}
use Rattle.iol_kernel.proofs.State.Sound.{add_readable, fds_stay, limits_agg}
use Rattle.iol_kernel.proofs.State.Uses.{uses-with_agg}
use Rattle.iol_kernel.proofs.State.Views.{with_agg-view}

-- A domain gets the front.

module _ (h k : KernelState) (d fd c n : ℕ) (held : IsOpenOn h d fd (on.Connection c))
    (takes : TakesFront h.store k.store (conn_in h.conns c).incoming (conn_in k.conns c).incoming h.domains k.domains d
    n)
    (same : k ≡ record h {
      store = k.store;
      domains = k.domains;
      conns =
          changed h.conns c (record (conn_in h.conns c) { incoming = (conn_in k.conns c).incoming });
    }) where
  -- the connection with the rest in its queue
  abbrev rest : Conn (List Slice)
  rest = record (conn_in h.conns c) { incoming = (conn_in k.conns c).incoming }

  there : lookup h.conns c ≡ Some (conn_in h.conns c)
  there = found_held h d fd c held.sound held.from

  abbrev less : KernelState
  less = turned h k.store c (conn_in h.conns c) rest held.sound there

  abbrev given : List (Domain (List Slice))
  given = with_agg_in h.domains d takes.slices

  abbrev taken : KernelState
  taken = record less { domains = given }

  is_taken : k ≡ taken
  is_taken = same ∙ ap (λ (ds : List (Domain (List Slice))). record less { domains = ds }) takes.added

  slices_good : AllReadable h.store takes.slices
  slices_good =
      readable_given takes.slices (conn_in h.conns c).incoming h.store.pools d n takes.given
      (conn_readable h c (conn_in h.conns c) held.sound there).0

  rest_good : IsConnReadable h.store (c, rest)
  rest_good =
      let was = conn_readable h c (conn_in h.conns c) held.sound there in (
        readable_rest (conn_in k.conns c).incoming (conn_in h.conns c).incoming (byte_len takes.slices) takes.left
            was.0,
        was.1,
      )

  parts_short : (byte_len takes.slices ≤ MAX_QUEUE_BYTES) × (byte_len (conn_in k.conns c).incoming ≤ MAX_QUEUE_BYTES)
  parts_short =
      let was = (conn_limit h c (conn_in h.conns c) held.sound there).incoming in
      let q = places (conn_in h.conns c).incoming in (
        omega (
          arith,
          was,
          ap length takes.given,
          length-take (prefix_len (may_see h.store.pools d) (take n q))
              (take n q),
          length-take n q,
        ),
        omega (arith, was, ap length takes.left, length-drop (byte_len takes.slices) q),
      )

  less_good : AreReadable h.store (objects_of less)
  less_good =
      record {
        pipes = held.sound.objects.pipes;
        conns =
            each-changed (IsConnReadable h.store) h.conns c rest held.sound.objects.conns rest_good;
        files =
            held.sound.objects.files;
      }

  rest_limit : IsConn (c, rest)
  rest_limit = let was = conn_limit h c (conn_in h.conns c) held.sound there in
      record { incoming = parts_short.1; outgoing = was.outgoing; waits = was.waits }

  less_fds : AllByRecursion (λ (x : Domain (List Slice)). AllByRecursion (IsOpenEnd (objects_of less)) x.fds) h.domains
  less_fds = turned_fds h k.store c (conn_in h.conns c) rest held.sound there (λ open'. open')

  -- the bytes that are read

  lists : SameLists h.store k.store
  lists = ap (map pool_meant) takes.shares.pools

  taken-read : (f : Reading) → read_of f taken ≡ aggs.with_agg (read_of f less) d (read f takes.slices)
  unfolding read_of
  taken-read f = with_agg-view f h.domains k.store.pools (objects_of less) d takes.slices

  after : (f : Reading) → KeepsPools f → read_of f k ≡ (reading.iol_read (read_of f h) d fd n).after
  after f keeps =
      let s : State = read_of f h in
      let w : Connection = conn_view (read f) (conn_in h.conns c) in
      let u : Text = reading.read_text s d (Some (on.Connection c)) n in
      let first : read f takes.slices ≡ u =
      read_given f.at keeps takes.slices (conn_in h.conns c).incoming h.store.pools d n takes.given
      ∙ admitted-same (λ q. names_in h.store.pools q d) (machine.may_read s d)
      (take n (read f (conn_in h.conns c).incoming)) (λ q. sym (may_read-read_of f h d q))
      ∙ ap (λ (q : Text). admitted (machine.may_read s d) (take n q)) (sym (incoming-read_of f h c)) in
      let left : read f (conn_in k.conns c).incoming ≡ drop (length u) w.incoming =
      read_left f.at keeps takes.slices (conn_in k.conns c).incoming (conn_in h.conns c).incoming h.store.pools d n
      takes.given takes.left
      ∙ ap (λ (v : Text). drop (length v) (read f (conn_in h.conns c).incoming))
      (sym (read_given f.at keeps takes.slices (conn_in h.conns c).incoming h.store.pools d n takes.given)
      ∙ first) in
      ap (read_of f) is_taken
      ∙ taken-read f
      ∙ ap (λ (x : State). aggs.with_agg x d (read f takes.slices))
      (turned-read h k.store c (conn_in h.conns c) rest held.sound there lists f)
      ∙ ap
      (λ (v : Text). aggs.with_agg
      (record s { conns = changed s.conns c (record w { incoming = read f (conn_in k.conns c).incoming }) }) d v)
      first
      ∙ ap (λ (v : Text). aggs.with_agg (record s { conns = changed s.conns c (record w { incoming = v }) }) d u) left
      ∙ ap (λ (x : State). aggs.with_agg x d u)
      (sym
      (with_on s c (record w { incoming = drop (length u) w.incoming }) (open_held h d fd c held.sound held.from).0
      (open_held h d fd c held.sound held.from).1))
      ∙ ap
      (λ (z : Connection). aggs.with_agg
      (machine.with_conn s c (record z { incoming = drop (length u) z.incoming })) d u)
      (sym (conn_at-read_of f h c))
      ∙ ap (λ (o : Option Descriptor). aggs.with_agg (reading.read_on s d fd o (length (reading.read_text s d o n))) d
      (reading.read_text s d o n)) (sym (held.from f))

  -- and all stays sound

  module _ (few : live_aggs_in h.domains < MAX_AGGREGATES) where
    taken_counted : IsCounted k.store given (objects_of less)
    taken_counted = record {
      each = λ b. omega (
        arith,
        held.sound.counted.each b,
        takes.shares.counts.each b,
        uses-with_agg b h.domains d takes.slices (open_row held),
        sum-changed (conn_uses b) h.conns 0 h.next_conn c (conn_in h.conns c) rest held.sound.limits.objects.rising
            there,
        tally-append b (bufs_of takes.slices) (bufs_of (conn_in k.conns c).incoming),
      );
    }

    taken-sound : IsSound taken
    taken-sound =
        let x : Domain (List Slice) = domain_in h.domains d in
        let y : Domain (List Slice) = record x {
          aggs = x.aggs ++ (x.next_agg, takes.slices) ∷ [];
          next_agg =
              x.next_agg + 1;
        } in
        moved-sound h.store taken (shares_move takes.shares).stays taken_counted (takes.shares.tidy held.sound.tidy)
        ((shares_move takes.shares).still held.sound.still)
        (all_reclaimed_same h.store k.store takes.shares.arena takes.shares.pools held.sound.reclaimed)
        (add_readable h.store h.domains d takes.slices held.sound.domains slices_good) less_good
        (fds_stay (objects_of less) h.domains d y less_fds refl)
        (once_same h.domains d y (open_row held) refl held.sound.once)
        (limits_agg h.domains (objects_of less) d takes.slices
        (turned_limits h k.store c (conn_in h.conns c) rest held.sound there rest_limit) (open_row held)
        (omega (arith, parts_short.0)) few)
        (turned_pooled h k.store c (conn_in h.conns c) rest held.sound there refl
        (pools_pooled h.store k.store h.conns h.cache.files takes.shares.pools held.sound.pooled)) held.sound.sums
        held.sound.filed held.sound.cached (ap page_count takes.shares.arena)

    pub unread_taken : (a : ℕ) → a ≡ (domain_in h.domains d).next_agg → Answers (λ s. reading.iol_read s d fd n) h a k
    unread_taken a number =
        answers_shared (λ s. reading.iol_read s d fd n) h k a (subst IsSound (sym is_taken) taken-sound)
        (ap (λ (l : KernelState). l.sums) same) (ap (λ (l : KernelState). l.cache) same) (λ f. number
        ∙ sym (next_agg-read_of f h d)) takes.shares after

-- A front that was taken off, to be given to a domain.
pub conn_front : (h k : KernelState) (c d n : ℕ) (slices : List Slice)
    → places slices ≡ take_while (may_see h.store.pools d) (take n (places (conn_in h.conns c).incoming))
    → places (conn_in k.conns c).incoming ≡ drop (byte_len slices) (places (conn_in h.conns c).incoming)
    → k ≡ record h {
      store = k.store;
      conns =
          changed h.conns c (record (conn_in h.conns c) { incoming = (conn_in k.conns c).incoming });
    }
    → Shares h.store k.store (bufs_of (conn_in h.conns c).incoming)
    (bufs_of slices ++ bufs_of (conn_in k.conns c).incoming)
    → DividesFront slices (conn_in h.conns c).incoming (conn_in k.conns c).incoming
    → GivesFront (on.Connection c) d n h k slices
conn_front h k c d n slices given' left same shares divides = record {
  answers = λ fd held few.
      let ds : List (Domain (List Slice)) = with_agg_in h.domains d slices in
      unread_taken h (record k { domains = ds }) d fd c n held
      (record { slices = slices; given = given'; left = left; shares = shares; added = refl })
      (ap (λ (l : KernelState). let w : KernelState = record l { domains = ds } in w) same) few
      (domain_in h.domains d).next_agg refl;
  divides = divides;
}
