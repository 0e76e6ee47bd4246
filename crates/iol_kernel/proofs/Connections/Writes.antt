-- Writing to a connection: its queue gets the bytes that fit, for each reading of places.
use Rattle.std.proofs.Common.{◌≡◌, ℕ, ◌+◌, List, [], ◌++◌, length, length-append, take, map, ap, ◌∙◌, refl, sym, subst}
use Rattle.std.proofs.Common.{arith, Option, Some, None}
use Rattle.std.specs.Prelude.{Err, MatchOption}
use Rattle.std.proofs.lemmas.List.{length-take}
use Rattle.iol_core.specs.Text.{Text}
use Rattle.iol_core.specs.NumberedLists.{lookup, changed}
use Rattle.iol_core.specs.Meaning.{first, WantOfMemory}
use Rattle.iol_core.specs.State as machine
use Rattle.iol_core.specs.State.{State, Connection}
use Rattle.iol_core.specs.Calls.Writes as writing
use Rattle.iol_core.specs.declared.descriptors.Descriptor.{Descriptor}
use Rattle.iol_core.specs.declared.descriptors.Descriptor.TheVariants as on
use Rattle.iol_core.specs.declared.numbers.BufId.{BufId}
use Rattle.iol_core.specs.declared.refusals.Refusal.{Refusal}
use Rattle.iol_hold.specs.StoreState.{count_of}
use Rattle.iol_arena.specs.State.{page_count}
use Rattle.iol_hold.specs.Moves.{Shares, SameLists, pool_meant}
use Rattle.iol_hold.specs.Places.{places, byte_len}
use Rattle.iol_hold.specs.Texts.{bufs_of}
use Rattle.iol_hold.specs.declared.slices.Slice.{Slice}
use Rattle.iol_hold.proofs.AtPlaces.{read_pushed}
use Rattle.iol_hold.proofs.EmptyPools.{all_reclaimed_same}
use Rattle.iol_hold.proofs.Moves.{shares_move}
use Rattle.iol_pipe.specs.Queue.{fitting}
use Rattle.iol_pipe.proofs.Texts.{readable_pushed}
use Rattle.iol_desc.specs.Tables.{agg_in}
use Rattle.iol_sock.specs.Connections.{Conn, conn_view}
use Rattle.iol_sock.specs.Refusals.{queue_refusals, IsRefused}
use Rattle.iol_sock.specs.Table.{conn_in}
use Rattle.iol_sock.proofs.MachineConns.{queues_meant, fits_meant}
use Rattle.iol_kernel.specs.Calls.{Answers, CarriesOut}
use Rattle.iol_kernel.specs.HoldCounts.{conn_uses}
use Rattle.iol_kernel.specs.KernelState as held
use Rattle.iol_kernel.specs.KernelState.{KernelState, IsConnReadable, IsSound, machine_of, read_of}
use Rattle.iol_kernel.specs.Readings.{Reading, bytes_over, read}
use Rattle.iol_kernel.proofs.Connections.OneConnection.{conn_found, conn_readable, conn_limit, turned, turned_fds}
use Rattle.iol_kernel.proofs.Connections.OneConnection.{turned-read, turned-sound}
use Rattle.iol_kernel.proofs.Connections.ConnQueues.{open_held, found_held, conn_at-read_of, with_on}
use Rattle.iol_kernel.proofs.State.TableCalls.{answers_shared}
use Rattle.iol_kernel.proofs.State.ReadOf.{text-read_of, length_text-read_of}
use Rattle.iol_kernel.proofs.AggregateCalls.Slices.{slices_found}
use Rattle.iol_kernel.proofs.State.Sound.{agg_readable}
use Rattle.iol_kernel.proofs.Queues.PassedTests.{agg_last}
use Rattle.iol_kernel.proofs.State.Refinement.{carried_late}

module _ (h : KernelState) (d fd a c : ℕ) (from : List Slice) (sound : IsSound h) (to : (f : Reading)
    → machine.descriptor (read_of f h) d fd ≡ Some (on.Connection c)) (found : Some from ≡ agg_in h.domains d a) where
  there' : lookup h.conns c ≡ Some (conn_in h.conns c)
  there' = found_held h d fd c sound to

  -- a call that passed its tests passes those of the connection
  pub meets : (passed : first (writing.iol_write (machine_of [] h) d fd a).refusals ≡ None)
      → first (queue_refusals (conn_in h.conns c) (byte_len from)) ≡ None
  meets passed =
      let f : Reading = bytes_over [] h.store in
      let s : State = machine_of [] h in
      ap (λ m. first (queue_refusals (conn_in h.conns c) m)) (ap byte_len (slices_found h.domains d a from found)
      ∙ sym (length_text-read_of f h d a))
      ∙ sym (queues_meant f.at s c (length (machine.text s d a)) (conn_in h.conns c)
      (conn_found f h c (conn_in h.conns c) there'))
      ∙ agg_last s d fd a passed (Some (on.Connection c)) (to f)

  -- so it is refused only for lack of memory
  pub queue_refused : ((f : Reading) → first (writing.iol_write (read_of f h) d fd a).refusals ≡ None)
      → (k : KernelState) (r : Refusal) → IsRefused (queue_refusals (conn_in h.conns c) (byte_len from)) WantOfMemory r
      → k ≡ h → CarriesOut (λ s. writing.iol_write s d fd a) h (Err r) k
  queue_refused passed k r refused same =
      let wants : WantOfMemory r =
      subst (λ (o : Option Refusal). MatchOption o (WantOfMemory r) (λ y. r ≡ y))
      (meets (passed (bytes_over [] h.store))) refused in
      carried_late (λ s. writing.iol_write s d fd a) h k passed r sound same
      (λ f. subst (λ (o : Option Descriptor). writing.write_late (read_of f h) o r) (sym (to f)) wants)
      (λ p is. subst WantOfMemory is wants)

  -- the bytes that fit are added

  module _ (k : KernelState) (n : ℕ) (count : n ≡ fitting (conn_in h.conns c).outgoing (byte_len from))
      (places' : places (conn_in k.conns c).outgoing ≡ places (conn_in h.conns c).outgoing ++ take n (places from))
      (same : k ≡ record h {
        store = k.store;
        conns =
            changed h.conns c (record (conn_in h.conns c) { outgoing = (conn_in k.conns c).outgoing });
      })
      (shares : Shares h.store k.store (bufs_of (conn_in h.conns c).outgoing)
      (bufs_of (conn_in k.conns c).outgoing)) where
    -- the connection with more in its queue
    abbrev fuller : Conn (List Slice)
    fuller = record (conn_in h.conns c) { outgoing = (conn_in k.conns c).outgoing }

    counts : (b : BufId) → count_of k.store b + conn_uses b (c, conn_in h.conns c) ≡ count_of h.store b
        + conn_uses b (c, fuller)
    counts b = omega (arith, shares.counts.each b)

    good : IsConnReadable h.store (c, fuller)
    good =
        let was = conn_readable h c (conn_in h.conns c) sound there' in (
          was.0,
          readable_pushed (conn_in k.conns c).outgoing (conn_in h.conns c).outgoing from n places' was.1
              (agg_readable h d a from sound found),
        )

    limit : held.IsConn (c, fuller)
    limit =
        let was = conn_limit h c (conn_in h.conns c) sound there' in
        record {
          incoming = was.incoming;
          outgoing =
              omega (
                arith,
                was.outgoing,
                count,
                ap length places',
                length-append (places (conn_in h.conns c).outgoing) (take n (places from)),
                length-take n (places from),
              );
          waits = was.waits;
        }

    lists : SameLists h.store k.store
    lists = ap (map pool_meant) shares.pools

    fuller-sound : IsSound (turned h k.store c (conn_in h.conns c) fuller sound there')
    fuller-sound = turned-sound h k.store c (conn_in h.conns c) fuller sound there' counts (shares_move shares).stays
        (shares.tidy sound.tidy) ((shares_move shares).still sound.still)
        (all_reclaimed_same h.store k.store shares.arena shares.pools sound.reclaimed) lists
        (ap page_count shares.arena) good limit refl
        (turned_fds h k.store c (conn_in h.conns c) fuller sound there' (λ open'. open'))

    fits : (f : Reading) → n ≡ (writing.iol_write (read_of f h) d fd a).answer
    fits f =
        let s : State = read_of f h in
        count
        ∙ ap (λ m. fitting (conn_in h.conns c).outgoing m) (ap byte_len (slices_found h.domains d a from found)
        ∙ sym (length_text-read_of f h d a))
        ∙ sym (fits_meant f.at s c (length (machine.text s d a)) (conn_in h.conns c)
        (conn_found f h c (conn_in h.conns c) there'))
        ∙ ap (λ (o : Option Descriptor). writing.fitting s o (length (machine.text s d a))) (sym (to f))

    queued : (f : Reading) → read f (conn_in k.conns c).outgoing ≡ read f (conn_in h.conns c).outgoing
        ++ take n (machine.text (read_of f h) d a)
    queued f =
        read_pushed f.at (conn_in k.conns c).outgoing (conn_in h.conns c).outgoing from n places'
        ∙ ap (λ (t : Text). read f (conn_in h.conns c).outgoing ++ take n t)
        (ap (read f) (slices_found h.domains d a from found) ∙ sym (text-read_of f h d a))

    after : (f : Reading) → read_of f k ≡ (writing.iol_write (read_of f h) d fd a).after
    after f =
        let s : State = read_of f h in
        let w : Connection = conn_view (read f) (conn_in h.conns c) in
        let m : Text = take n (machine.text s d a) in
        ap (read_of f) same
        ∙ turned-read h k.store c (conn_in h.conns c) fuller sound there' lists f
        ∙ ap (λ (t : Text). record s { conns = changed s.conns c (record w { outgoing = t }) }) (queued f)
        ∙ sym (with_on s c (record w { outgoing = w.outgoing ++ m }) (open_held h d fd c sound to).0
        (open_held h d fd c sound to).1)
        ∙ ap (λ (z : Connection). machine.with_conn s c (record z { outgoing = z.outgoing ++ m }))
        (sym (conn_at-read_of f h c))
        ∙ ap (λ i. writing.written s d fd (Some (on.Connection c)) (take i (machine.text s d a))) (fits f)
        ∙ ap
        (λ (o : Option Descriptor). writing.written s d fd o
        (take (writing.iol_write s d fd a).answer (machine.text s d a))) (sym (to f))

    pub queued_answers : Answers (λ s. writing.iol_write s d fd a) h n k
    queued_answers = answers_shared (λ s. writing.iol_write s d fd a) h k n (subst IsSound (sym same) fuller-sound)
        (ap (λ (l : KernelState). l.sums) same) (ap (λ (l : KernelState). l.cache) same) fits shares
        (λ f keeps. after f)
