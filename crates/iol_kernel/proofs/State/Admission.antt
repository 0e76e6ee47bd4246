-- The state after a pool's list names one more domain.
use Rattle.std.proofs.Common.{◌≡◌, ℕ, true, refl, arith}
use Rattle.iol_core.specs.Calls.Pools.{admitting}
use Rattle.iol_core.specs.NumberedLists.{is_numbered, with_numbered}
use Rattle.iol_core.specs.State as machine
use Rattle.iol_pool.specs.Pools.{with_admitted}
use Rattle.iol_hold.specs.StoreState.{Stored, with_pools}
use Rattle.iol_hold.proofs.Admission.{admitted_moves, admitted_pages, admitted_reclaims}
use Rattle.iol_hold.proofs.Counts.{tally_none}
use Rattle.iol_kernel.specs.Calls.{Leaves, with_reader}
use Rattle.iol_kernel.specs.HoldCounts.{IsCounted}
use Rattle.iol_kernel.specs.KernelState.{KernelState, IsSound, objects_of, read_of}
use Rattle.iol_kernel.specs.Readings.{Reading}
use Rattle.iol_kernel.proofs.State.Effects.{leaves, moved-sound}
use Rattle.iol_kernel.proofs.State.Pools.{one_admitted}
use Rattle.iol_kernel.proofs.State.Views.{admitted-view}

admitted-read : (h : KernelState) (p d : ℕ) (f : Reading)
    → read_of f (with_reader h p d) ≡ record (read_of f h) {
      pools =
          with_numbered (read_of f h).pools p (admitting (machine.pool (read_of f h) p) d);
    }
unfolding read_of
admitted-read h p d f = admitted-view f h.domains h.store.pools (objects_of h) p d

admitted-sound : (h : KernelState) (p d : ℕ) → is_numbered h.store.pools p ≡ true → IsSound h
    → IsSound (with_reader h p d)
admitted-sound h p d there sound =
    let t : Stored = with_pools h.store (with_admitted h.store.pools p d) in
    let moves = admitted_moves h.store p d there in
    let counted : IsCounted t h.domains (objects_of h) =
    record { each = λ b. omega (arith, sound.counted.each b, moves.counts.each b, tally_none b) } in
    moved-sound h.store (with_reader h p d) moves.stays counted (moves.tidy sound.tidy) (moves.still sound.still)
    (admitted_reclaims h.store p d there sound.reclaimed) sound.domains sound.objects sound.fds sound.once
    sound.limits
    (one_admitted h.store.pools p d h.conns h.cache.files there sound.pooled) sound.sums sound.filed sound.cached
    (admitted_pages h.store p d there).count

pub admitted : (h : KernelState) (p d : ℕ) → is_numbered h.store.pools p ≡ true → IsSound h
    → Leaves (λ s. record s { pools = with_numbered s.pools p (admitting (machine.pool s p) d) }) h (with_reader h p d)
admitted h p d there sound =
    leaves (λ s. record s { pools = with_numbered s.pools p (admitting (machine.pool s p) d) }) h (with_reader h p d)
    (admitted-read h p d) refl refl
    (admitted_moves h.store p d there).stays (admitted_pages h.store p d there) sound.domains sound.objects
    (admitted-sound h p d there sound)
