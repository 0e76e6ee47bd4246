-- New bytes at the end of a queue; the store was h's and is t.
use Rattle.std.proofs.Common.{◌≡◌, ℕ, ◌+◌, ◌≤◌, List, length, ap, sym, subst, arith, Option, take}
use Rattle.std.specs.List.{AllByRecursion}
use Rattle.std.proofs.lemmas.List.{length-map, length-take}
use Rattle.iol_core.specs.State.{Domain}
use Rattle.iol_core.specs.declared.limits.TheConstants.{MAX_QUEUE_BYTES}
use Rattle.iol_core.specs.declared.numbers.BufId.{BufId}
use Rattle.iol_hold.specs.Moves.{tally}
use Rattle.iol_hold.specs.Places.{byte_len}
use Rattle.iol_hold.specs.StoreState.{Stored, count_of}
use Rattle.iol_hold.specs.Texts.{AllReadable, bufs_of}
use Rattle.iol_hold.specs.declared.slices.Slice.{Slice}
use Rattle.iol_hold.proofs.Counts.{bufs-append, tally-append, tally_none}
use Rattle.iol_hold.proofs.ReadSlices.{length-text_of, readable_joined}
use Rattle.iol_hold.proofs.SlicePlaces.{byte_len-append}
use Rattle.iol_pipe.specs.NewBytes.{AddsBytes}
use Rattle.iol_pipe.specs.Queue.{fitting}
use Rattle.iol_sock.specs.Connections.{Conn}
use Rattle.iol_sum.proofs.KeptSums.{IsRight-keeps}
use Rattle.iol_kernel.specs.HoldCounts.{IsCounted, uses}
use Rattle.iol_kernel.specs.KernelState.{AreReadable, ArePooled, IsLimited, IsOpenEnd, IsSound, KernelState}
use Rattle.iol_kernel.specs.KernelState.{machine_of, objects_of, read_of}
use Rattle.iol_kernel.specs.Readings.{bytes_over}
use Rattle.iol_kernel.specs.Views.{Objects, Pipe}
use Rattle.iol_kernel.proofs.State.Effects.{adds_held}
use Rattle.iol_kernel.proofs.State.Slots.{cache_stays}
use Rattle.iol_kernel.proofs.State.Sound.{AreHeld, domains_stay, files_held, objects_stay, view-stays}

-- no more bytes than fit make no queue too long
pub fitted_short : (s t : Stored) (old q : List Slice) (pool n m : ℕ) (bytes : List ℕ)
    (adds : AddsBytes s t old q pool (take n bytes)) → byte_len old ≤ MAX_QUEUE_BYTES → n ≡ fitting old m
    → byte_len q ≤ MAX_QUEUE_BYTES
fitted_short s t old q pool n m bytes adds short number =
    omega (
      arith,
      short,
      number,
      ap byte_len adds.added,
      byte_len-append old adds.slices,
      ap length adds.is_text,
      length-text_of t adds.slices,
      length-map {B = ℕ × ℕ} (take n bytes) (λ b. (b, pool)),
      length-take n bytes,
    )

module _ (h : KernelState) (t : Stored) (old q : List Slice) (pool : ℕ) (bytes : List ℕ) (sound : IsSound h)
    (adds : AddsBytes h.store t old q pool bytes) where
  pub added_held : AreHeld t h.domains (objects_of h)
  added_held = adds_held h.store t h.domains (objects_of h) adds.slices sound.counted adds.moves

  pub added_readable : AreReadable t (objects_of h)
  added_readable = objects_stay h.store t adds.moves.stays h.domains (objects_of h) added_held sound.objects

  pub added_queue : AllReadable t old → AllReadable t q
  added_queue was = subst (AllReadable t) (sym adds.added) (readable_joined was adds.readable)

  pub added_uses : (b : BufId) → count_of t b + uses b old ≡ count_of h.store b + uses b q
  added_uses b = omega (
    arith,
    adds.moves.counts.each b,
    tally_none b,
    ap (uses b) adds.added,
    ap (tally b) (bufs-append old adds.slices),
    tally-append b (bufs_of old) (bufs_of adds.slices),
  )

  -- the bytes of the old slices are unchanged
  pub added-read : (stored : List (List ℕ)) → read_of (bytes_over stored t) h ≡ machine_of stored h
  unfolding read_of
  added-read stored =
      view-stays h.store t adds.moves.stays h.domains (objects_of h) added_held h.store.pools sound.domains
      sound.objects stored

  module _ (ps : List (Option (Pipe (List Slice)))) (cs : List (ℕ × Conn (List Slice))) where
    abbrev objects : Objects (List Slice)
    objects = record (objects_of h) { pipes = ps; conns = cs }

    pub added-sound : AreReadable t objects
        → AllByRecursion (λ (d : Domain (List Slice)). AllByRecursion (IsOpenEnd objects) d.fds) h.domains
        → IsCounted t h.domains objects
        → IsLimited h.domains objects → ArePooled t.pools cs h.cache.files
        → IsSound (record h { store = t; pipes = ps; conns = cs })
    added-sound readable fds counted limits pooled = record {
      domains = domains_stay h.store t adds.moves.stays h.domains (objects_of h) added_held sound.domains;
      objects = readable;
      fds = fds;
      once = sound.once;
      counted = counted;
      tidy = adds.moves.tidy sound.tidy;
      still = adds.moves.still sound.still;
      reclaimed = adds.reclaims sound.reclaimed;
      limits = limits;
      pooled = pooled;
      sums = IsRight-keeps h.store.arena t.arena h.sums adds.moves.stays.keeps sound.sums;
      filed = sound.filed;
      cached =
          cache_stays h.store t h.cache adds.moves.stays
          (files_held h.store t adds.moves.stays h.domains (objects_of h) added_held) adds.pages.count pooled.files_open
          (adds.moves.tidy sound.tidy) (adds.moves.still sound.still) sound.cached;
    }
