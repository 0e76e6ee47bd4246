-- The parts of the machine's state that a kernel represents, for each reading of its places.
use Rattle.std.proofs.Common.{◌≡◌, ℕ, ◌==◌, List, [], length, ap, ◌∙◌, refl, sym, Option, Some, None, true, false}
use Rattle.std.specs.Prelude.{unwrap_or, option_map, Bool, ◌||◌}
use Rattle.std.specs.List.{list_any, list_all}
use Rattle.iol_core.specs.Text.{Text}
use Rattle.iol_core.specs.NumberedLists.{in_place, is_numbered, lowest, taken}
use Rattle.iol_core.specs.State as machine
use Rattle.iol_core.specs.State.{State, Domain}
use Rattle.iol_core.specs.Calls.Pools as pools
use Rattle.iol_core.specs.declared.descriptors.Descriptor.{Descriptor}
use Rattle.iol_pool.specs.Pools.{Pool, names_in, pool_in}
use Rattle.iol_hold.specs.Places.{byte_len}
use Rattle.iol_hold.specs.declared.slices.Slice.{Slice}
use Rattle.iol_hold.proofs.AtPlaces.{length-read}
use Rattle.iol_desc.specs.Tables.{domain_in, agg_in}
use Rattle.iol_kernel.specs.Views.{Objects, pipe_view, state_view}
use Rattle.iol_kernel.specs.KernelState.{KernelState, objects_of, read_of, queue_at, slices_in}
use Rattle.iol_kernel.specs.OpenDescriptors.{IsOpenOn}
use Rattle.iol_kernel.specs.Readings.{Reading, bytes_over, read}
use Rattle.iol_kernel.proofs.State.Views.{domain-view, pool-view, is_pool-view, aggregate-view, pipe_at-view}
use Rattle.iol_kernel.proofs.State.Views.{lowest-view, taken-view, length_pools-view, busy-view}

-- domains and pools

pub is_live-read_of : (f : Reading) (h : KernelState) (d : ℕ)
    → machine.is_live (read_of f h) d ≡ (domain_in h.domains d).live
unfolding read_of
is_live-read_of f h d = ap (λ (x : Domain Text). x.live) (domain-view f h.domains h.store.pools (objects_of h) d)

pub all_live-read_of : (f : Reading) (h : KernelState) (ds : List ℕ)
    → list_all (λ d. (domain_in h.domains d).live) ds ≡ list_all (λ d. machine.is_live (read_of f h) d) ds
all_live-read_of f h ds = ap (λ (g : ℕ → Bool). list_all g ds) same
  where
    same : ◌≡◌ {A = ℕ → Bool} (λ d. (domain_in h.domains d).live) (λ d. machine.is_live (read_of f h) d)
    same = λ i. λ d. sym (is_live-read_of f h d) i

pub live_held : (f : Reading) (h : KernelState) (d : ℕ) → machine.is_live (read_of f h) d ≡ true
    → (domain_in h.domains d).live ≡ true
live_held f h d live = sym (is_live-read_of f h d) ∙ live

pub next_agg-read_of : (f : Reading) (h : KernelState) (d : ℕ)
    → (machine.domain (read_of f h) d).next_agg ≡ (domain_in h.domains d).next_agg
unfolding read_of
next_agg-read_of f h d = ap (λ (x : Domain Text). x.next_agg) (domain-view f h.domains h.store.pools (objects_of h) d)

pub fds-read_of : (f : Reading) (h : KernelState) (d : ℕ)
    → (machine.domain (read_of f h) d).fds ≡ (domain_in h.domains d).fds
unfolding read_of
fds-read_of f h d = ap (λ (x : Domain Text). x.fds) (domain-view f h.domains h.store.pools (objects_of h) d)

pub descriptor-read_of : (f : Reading) (h : KernelState) (d fd : ℕ)
    → machine.descriptor (read_of f h) d fd ≡ in_place (domain_in h.domains d).fds fd
descriptor-read_of f h d fd = ap (λ (xs : List (Option Descriptor)). in_place xs fd) (fds-read_of f h d)

pub may_read-read_of : (f : Reading) (h : KernelState) (d q : ℕ)
    → machine.may_read (read_of f h) d q ≡ names_in h.store.pools q d
unfolding read_of
may_read-read_of f h d q =
    ap (λ (x : machine.Pool). list_any (λ e. e == d) x.domains) (pool-view f h.domains h.store.pools (objects_of h) q)

pub closed-read_of : (f : Reading) (h : KernelState) (p : ℕ)
    → (machine.pool (read_of f h) p).closed ≡ (pool_in h.store.pools p).closed
unfolding read_of
closed-read_of f h p = ap (λ (x : machine.Pool). x.closed) (pool-view f h.domains h.store.pools (objects_of h) p)

pub list-read_of : (f : Reading) (h : KernelState) (p : ℕ)
    → (machine.pool (read_of f h) p).domains ≡ (pool_in h.store.pools p).domains
unfolding read_of
list-read_of f h p = ap (λ (x : machine.Pool). x.domains) (pool-view f h.domains h.store.pools (objects_of h) p)

pub is_pool-read_of : (f : Reading) (h : KernelState) (p : ℕ)
    → machine.is_pool (read_of f h) p ≡ is_numbered h.store.pools p
unfolding read_of
is_pool-read_of f h p = is_pool-view f h.domains h.store.pools (objects_of h) p

pub length_pools-read_of : (f : Reading) (h : KernelState) → length (read_of f h).pools ≡ length h.store.pools
unfolding read_of
length_pools-read_of f h = length_pools-view f h.domains h.store.pools (objects_of h)

-- no file and no connection is of the pool
pub idle_held : (f : Reading) (h : KernelState) (p : ℕ) → pools.is_busy (read_of f h) p ≡ false
    → (list_any (λ x. x.pool == p) h.files || list_any (λ e. e.1.pool == p) h.conns) ≡ false
unfolding read_of
idle_held f h p idle = busy-view f h.domains h.store.pools (objects_of h) p ∙ idle

-- an aggregate's text

pub text-view : (f : Reading) (ds : List (Domain (List Slice))) (ps : List Pool) (qs : Objects (List Slice)) (d a : ℕ)
    → machine.text (state_view f ds ps qs) d a ≡ read f (slices_in ds d a)
text-view f ds ps qs d a = ap (λ (o : Option Text). unwrap_or o []) (aggregate-view f ds ps qs d a)
    ∙ found (agg_in ds d a)
  where
    found : (o : Option (List Slice)) → unwrap_or (option_map (read f) o) [] ≡ read f (unwrap_or o [])
    found None = refl
    found (Some xs) = refl

pub text-read_of : (f : Reading) (h : KernelState) (d a : ℕ)
    → machine.text (read_of f h) d a ≡ read f (slices_in h.domains d a)
unfolding read_of
text-read_of f h d a = text-view f h.domains h.store.pools (objects_of h) d a

pub length_text-read_of : (f : Reading) (h : KernelState) (d a : ℕ)
    → length (machine.text (read_of f h) d a) ≡ byte_len (slices_in h.domains d a)
length_text-read_of f h d a = ap length (text-read_of f h d a) ∙ length-read f.at (slices_in h.domains d a)

pub ruleset length_rules = (length-read)

-- pipes

pub pipe_at-read_of : (f : Reading) (h : KernelState) (p : ℕ)
    → machine.pipe_at (read_of f h) p ≡ pipe_view (read f) (queue_at h.pipes p)
unfolding read_of
pipe_at-read_of f h p = pipe_at-view f h.domains h.store.pools (objects_of h) [] p refl

pub queue-read_of : (f : Reading) (h : KernelState) (p : ℕ)
    → (machine.pipe_at (read_of f h) p).queue ≡ read f (queue_at h.pipes p).queue
queue-read_of f h p = ap (λ (x : machine.Pipe). x.queue) (pipe_at-read_of f h p)

pub length_queue-read_of : (f : Reading) (h : KernelState) (p : ℕ)
    → length (machine.pipe_at (read_of f h) p).queue ≡ byte_len (queue_at h.pipes p).queue
length_queue-read_of f h p = ap length (queue-read_of f h p) ∙ length-read f.at (queue_at h.pipes p).queue

pub reading-read_of : (f : Reading) (h : KernelState) (p : ℕ)
    → (machine.pipe_at (read_of f h) p).reading ≡ (queue_at h.pipes p).reading
reading-read_of f h p = ap (λ (x : machine.Pipe). x.reading) (pipe_at-read_of f h p)

pub writing-read_of : (f : Reading) (h : KernelState) (p : ℕ)
    → (machine.pipe_at (read_of f h) p).writing ≡ (queue_at h.pipes p).writing
writing-read_of f h p = ap (λ (x : machine.Pipe). x.writing) (pipe_at-read_of f h p)

pub lowest-read_of : (f : Reading) (h : KernelState) → lowest (read_of f h).pipes ≡ lowest h.pipes
unfolding read_of
lowest-read_of f h = lowest-view f h.domains h.store.pools (objects_of h)

pub taken_pipes-read_of : (f : Reading) (h : KernelState) → taken (read_of f h).pipes ≡ taken h.pipes
unfolding read_of
taken_pipes-read_of f h = taken-view f h.domains h.store.pools (objects_of h)

pub ruleset pipe_rules = (length_queue-read_of, reading-read_of, writing-read_of)

-- A domain's row, if its descriptor is open.

pub open_row : {h : KernelState} {d fd : ℕ} {end : Descriptor} → IsOpenOn h d fd end
    → (domain_in h.domains d).live ≡ true
open_row {h} {d} held = live_held (bytes_over [] h.store) h d (held.live (bytes_over [] h.store))

pub open_row_kept : {h : KernelState} {d fd : ℕ} {end : Descriptor} {ds : List (Domain (List Slice))}
    → IsOpenOn h d fd end → ds ≡ h.domains → (domain_in ds d).live ≡ true
open_row_kept {h} {d} {fd} {end} {ds} held same = ap (λ (ys : List (Domain (List Slice))). (domain_in ys d).live) same
    ∙ open_row held
