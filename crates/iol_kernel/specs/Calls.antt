-- The effect of a call on the state of the system, in terms of the copying machine, for each reading of the places of
-- bytes.
use Rattle.std.specs.Prelude.{◌≡◌, ℕ, ◌+◌, ◌≤◌, Bool, nat_lt, length, ◌⊎◌, ◌++◌, List, [], ◌∷◌, None, Some}
use Rattle.std.specs.Prelude.{Result, Ok, Err, IfOk, IfErr, OnOk, OnErr, IsTrue, IsFalse, ◌≢◌}
use Rattle.iol_core.specs.Text.{Text, labelled}
use Rattle.iol_core.specs.State.{State, is_live, text, descriptor, conn_at, with_conn}
use Rattle.iol_core.specs.Meaning.{Meaning}
use Rattle.iol_core.specs.Prelude.{Step, WantOfRoom, first, default_pool, show}
use Rattle.iol_core.specs.Calls.Aggregates.{agg_make, lacks_agg, next_agg, too_many_aggs, with_agg}
use Rattle.iol_core.specs.declared.refusals.Refusal.{Refusal}
use Rattle.iol_core.specs.declared.refusals.Refusal.TheVariants.{NoDomain, BadAgg, BadFd, NoRoom}
use Rattle.iol_core.specs.State as machine
use Rattle.iol_core.specs.declared.limits.TheConstants.{MAX_AGGREGATE_BYTES, MAX_FILE_BYTES}
use Rattle.iol_back.specs.Disk.{Disk, IfHonest, content}
use Rattle.iol_arena.specs.Pages.{MadeOn}
use Rattle.iol_hold.specs.Moves.{Stays}
use Rattle.iol_hold.specs.StoreState.{with_pools}
use Rattle.iol_hold.specs.Pages.{KeepsPages}
use Rattle.iol_hold.specs.Room.{ReportsRoom, has_room, lowest_of}
use Rattle.iol_hold.specs.Texts.{bufs_of}
use Rattle.iol_hold.specs.declared.slices.Slice.{Slice}
use Rattle.iol_cache.specs.CacheState.{Cached, new_file, order_in}
use Rattle.iol_cache.specs.KeptCover.{KeepsCover}
use Rattle.iol_desc.specs.Tables.{agg_in}
use Rattle.iol_pool.specs.Pools.{pool_in, with_admitted}
use Rattle.iol_sock.specs.declared.outgoing.Segment.{Segment}
use Rattle.iol_sock.specs.SentBytes.{UsesSent}
use Rattle.iol_sock.specs.Table.{conn_in}
use Rattle.iol_core.specs.Calls.Outside.{arrive, transmit}
use Rattle.iol_kernel.specs.FileCalls.{IsBackedBy, StepsBeside}
use Rattle.iol_kernel.specs.KernelState.{KernelState, read_of, machine_of, IsSound}
use Rattle.iol_kernel.specs.Readings.{Reading, read, KeepsPools}

-- the machine's step, for each content of the store under the files
abbrev pub Steps : {A : Type 0} → (State → Meaning A) → KernelState → Result A Refusal → KernelState → Type 0
Steps m old r new = (stored : List (List ℕ))
    → Step (m (machine_of stored old)) (machine_of stored old) r (machine_of stored new)

-- a domain gets these bytes as its next aggregate, for each content of the store under the files
abbrev pub AddsBytes : (d pool : ℕ) → List ℕ → (old new : KernelState) → Type 0
AddsBytes d pool bytes old new = (stored : List (List ℕ)) → machine_of stored new
    ≡ with_agg (machine_of stored old) d (labelled pool bytes)

-- these are the bytes that `show` returns, for each content of the store under the files
abbrev pub Shows : (d a : ℕ) → List ℕ → KernelState → Type 0
Shows d a bytes h = (stored : List (List ℕ))
    → (first (show (machine_of stored h) d a).refusals ≡ None) × (bytes ≡ (show (machine_of stored h) d a).answer)

-- n is the number of bytes that `show` returns, for each content of the store under the files
abbrev pub ShowsSoMany : (d a n : ℕ) → KernelState → Type 0
ShowsSoMany d a n h = (stored : List (List ℕ))
    → (first (show (machine_of stored h) d a).refusals ≡ None) × (n ≡ length (show (machine_of stored h) d a).answer)

-- `show` returns this refusal, for each reading
abbrev pub RefusesShow : (d a : ℕ) → Refusal → KernelState → Type 0
RefusesShow d a x h = (f : Reading) → first (show (read_of f h) d a).refusals ≡ Some x

-- The machine's step for each reading. A reading of bytes gives the meaning of the call. A reading of places says that
-- each byte of the result is at the place that the meaning names, so that no byte was copied or moved. Pages, pools and
-- remembered sums are unchanged.
pub record CarriesOut {A : Type 0} (m : State → Meaning A) (old : KernelState) (r : Result A Refusal)
    (new : KernelState) : Type 0 where
  pub step : (f : Reading) → KeepsPools f → Step (m (read_of f old)) (read_of f old) r (read_of f new)
  pub arena : new.store.arena ≡ old.store.arena
  pub pools : new.store.pools ≡ old.store.pools
  pub roomy : (p : ℕ) → r ≢ Err (NoRoom p)
  pub refused : OnErr r (new ≡ old)
  pub sums : new.sums ≡ old.sums
  pub cache : new.cache ≡ old.cache
  pub sound : IsSound new
  pub stays : Stays old.store new.store

-- The machine's step, of bytes and of places: every byte that the call leaves keeps its place. Pages and chunks may be
-- freed or taken, and lists may grow. No page's generation is incremented, an open pool keeps its chunks, and the
-- remembered sums are unchanged.
pub record KeepsPlaces {A : Type 0} (m : State → Meaning A) (old : KernelState) (r : Result A Refusal)
    (new : KernelState) : Type 0 where
  pub step : Steps m old r new
  pub places : (f : Reading) → KeepsPools f → Step (m (read_of f old)) (read_of f old) r (read_of f new)
  pub pages : KeepsPages old.store new.store []
  pub refused : OnErr r (new ≡ old)
  pub sums : new.sums ≡ old.sums
  pub cache : new.cache ≡ old.cache
  pub sound : IsSound new
  pub stays : Stays old.store new.store

-- A file was added, with no extent in memory. The other files and the orders of eviction are unchanged.
pub record AddsEmpty (old new : Cached) : Type 0 where
  pub pool : ℕ
  pub files : new.files ≡ old.files ++ new_file pool ∷ []
  pub orders : (p : ℕ) → order_in new.orders p ≡ order_in old.orders p

-- The machine's step on files if the store under them is honest; over any store, the step except for the bytes of
-- files. Only the list of files and their extents in memory change: pages, pools and remembered sums are unchanged, and
-- every byte keeps its place.
pub record Names {A : Type 0} (disk : Disk) (m : State → Meaning A) (old : KernelState) (r : Result A Refusal)
    (new : KernelState) : Type 0 where
  pub step :
      IfHonest disk (Step (m (machine_of disk.slots old)) (machine_of disk.slots old) r (machine_of disk.slots new))
  pub backed : IsBackedBy disk old → IsBackedBy disk new
  pub beside : StepsBeside m old r new
  pub places : OnOk r ((f : Reading) → KeepsPools f → read_of f new ≡ (m (read_of f old)).after)
  pub store : new.store ≡ old.store
  pub roomy : (p : ℕ) → r ≢ Err (NoRoom p)
  pub refused : OnErr r (new ≡ old)
  pub sums : new.sums ≡ old.sums
  pub keeps : KeepsCover old.cache new.cache
  pub same : new ≡ record old { files = new.files; cache = new.cache }
  pub added : OnOk r (AddsEmpty old.cache new.cache)
  pub sound : IsSound new

-- for some content of the next slot, this says whether it is longer than a file may be
pub record ReportsNext (h : KernelState) (long : Bool) : Type 0 where
  pub stored : List (List ℕ)
  pub is : (f : Reading) → f.stored ≡ stored
      → long ≡ nat_lt MAX_FILE_BYTES (length (machine.content (read_of f h) (length (read_of f h).files + 1)))

-- A file was added: the answer and the state after it. It has no extent in memory.
pub record AddsFile {A : Type 0} (m : State → Meaning A) (old : KernelState) (a : A) (new : KernelState) : Type 0 where
  pub answer : (f : Reading) → KeepsPools f → a ≡ (m (read_of f old)).answer
  pub after : (f : Reading) → KeepsPools f → read_of f new ≡ (m (read_of f old)).after
  pub backed : (disk : Disk) → length (content disk.slots (length old.files + 1)) ≤ MAX_FILE_BYTES → IsBackedBy disk old
      → IsBackedBy disk new
  pub store : new.store ≡ old.store
  pub sums : new.sums ≡ old.sums
  pub keeps : KeepsCover old.cache new.cache
  pub same : new ≡ record old { files = new.files; cache = new.cache }
  pub added : AddsEmpty old.cache new.cache
  pub sound : IsSound new

-- A call is refused by the first of its tests that holds, and the refusal is not NoRoom.
pub record Refuses {A : Type 0} (m : State → Meaning A) (x : Refusal) (h : KernelState) : Type 0 where
  pub refused : (f : Reading) → first (m (read_of f h)).refusals ≡ Some x
  pub roomy : (p : ℕ) → x ≢ NoRoom p

-- The effect of a call that carries out: its answer, and the state after it.
pub record Answers {A : Type 0} (m : State → Meaning A) (old : KernelState) (a : A) (new : KernelState) : Type 0 where
  pub answer : (f : Reading) → KeepsPools f → a ≡ (m (read_of f old)).answer
  pub after : (f : Reading) → KeepsPools f → read_of f new ≡ (m (read_of f old)).after
  pub arena : new.store.arena ≡ old.store.arena
  pub pools : new.store.pools ≡ old.store.pools
  pub sums : new.sums ≡ old.sums
  pub cache : new.cache ≡ old.cache
  pub sound : IsSound new
  pub stays : Stays old.store new.store

-- An effect that may need memory: its answer and the state after it. A refusal changes nothing.
pub record Attempts {A E : Type 0} (m : State → Meaning A) (old : KernelState) (r : Result A E)
    (new : KernelState) : Type 0 where
  pub done : IfOk r (λ a. Answers m old a new)
  pub err : OnErr r (new ≡ old)

-- An effect that may free pages or take chunks: the state after it, of bytes and of places.
pub record Leaves (after : State → State) (old new : KernelState) : Type 0 where
  pub bytes : (stored : List (List ℕ)) → machine_of stored new ≡ after (machine_of stored old)
  pub places : (f : Reading) → KeepsPools f → read_of f new ≡ after (read_of f old)
  pub pages : KeepsPages old.store new.store []
  pub sums : new.sums ≡ old.sums
  pub cache : new.cache ≡ old.cache
  pub sound : IsSound new
  pub stays : Stays old.store new.store

-- the state in which the pool's list also names the domain, and nothing else is changed
abbrev pub with_reader : KernelState → (p d : ℕ) → KernelState
with_reader h p d = record h { store = with_pools h.store (with_admitted h.store.pools p d) }

-- the state with bytes at the end of the incoming queue of a connection
abbrev pub with_incoming : (c : ℕ) → State → Text → State
with_incoming c s t = with_conn s c (record (conn_at s c) { incoming = (conn_at s c).incoming ++ t })

-- n new bytes are placed in a pool and stored where `put` says, and nothing else changes: for each reading, every other
-- byte keeps its place. Their buffers are made on the lowest free pages of the pool, and the generation of each of
-- these pages is incremented.
pub record MakesBytes (put : State → Text → State) (pool n : ℕ) (old new : KernelState) : Type 0 where
  pub slices : List Slice
  pub each : (f : Reading) → read_of f new ≡ put (read_of f old) (read f slices)
  pub sums : new.sums ≡ old.sums
  pub cache : new.cache ≡ old.cache
  pub made_on : MadeOn old.store.arena new.store.arena (bufs_of slices) (lowest_of old.store pool n)
  pub pages : KeepsPages old.store new.store (lowest_of old.store pool n)

-- a domain gets the new bytes as its next aggregate
abbrev pub MakesAgg : (d pool n : ℕ) → (old new : KernelState) → Type 0
MakesAgg d pool n old new = MakesBytes (λ s t. with_agg s d t) pool n old new

-- Bytes pass the tests of `agg_make`, and are to be placed in this pool.
pub record MayMake (by : ℕ) (bytes : List ℕ) (pool : ℕ) (h : KernelState) : Type 0 where
  pub passed : (f : Reading) → first (agg_make (read_of f h) by bytes).refusals ≡ None
  pub lands : (f : Reading) → default_pool (read_of f h) by ≡ pool
  pub live : IsTrue (is_live (machine_of [] h) by)
  pub few : IsFalse (too_many_aggs (machine_of [] h) by 1 0)
  pub small : length bytes ≤ MAX_AGGREGATE_BYTES
  pub opened : IsFalse (machine.pool (machine_of [] h) pool).closed

-- New bytes of a pool become a domain's next aggregate; or there is no room or no memory for them, and nothing changed.
pub record MakesNext (by pool : ℕ) (bytes : List ℕ) (old : KernelState) (r : Result ℕ Refusal) (new : KernelState) :
    Type 0 where
  pub number : IfOk r (λ n. (f : Reading) → n ≡ next_agg (read_of f old) by)
  pub placed : OnOk r (AddsBytes by pool bytes old new)
  pub made : OnOk r (MakesAgg by pool (length bytes) old new)
  pub cache : new.cache ≡ old.cache
  pub sound : IsSound new
  pub stays : Stays old.store new.store
  pub room : ReportsRoom (has_room old.store pool (length bytes)) r
  pub late : IfErr r (WantOfRoom pool)
  pub err : OnErr r (new ≡ old)

-- a connection gets the new bytes at the end of its incoming queue
abbrev pub Arrives : (c n : ℕ) → (old new : KernelState) → Type 0
Arrives c n old new = MakesBytes (with_incoming c) (conn_at (machine_of [] old) c).pool n old new

-- Bytes pass the tests of `arrive`: `count` of them fit, and are to be placed in this pool.
pub record MayArrive (c : ℕ) (bytes : List ℕ) (pool count : ℕ) (h : KernelState) : Type 0 where
  pub sound : IsSound h
  pub passed : (f : Reading) → first (arrive (read_of f h) c bytes).refusals ≡ None
  pub lands : (f : Reading) → (conn_at (read_of f h) c).pool ≡ pool
  pub fits : (f : Reading) → (arrive (read_of f h) c bytes).answer ≡ count
  pub opened : IsFalse (pool_in h.store.pools pool).closed

-- the domain is live, and its aggregate has these slices
pub record IsFound (h : KernelState) (d a : ℕ) (xs : List Slice) : Type 0 where
  pub found : Some xs ≡ agg_in h.domains d a
  pub live : (f : Reading) → IsTrue (is_live (read_of f h) d)
  pub there : (f : Reading) → IsFalse (lacks_agg (read_of f h) d a)
  pub text : (f : Reading) → text (read_of f h) d a ≡ read f xs

-- the domain is live, and its aggregate has n bytes
pub record IsSoLong (h : KernelState) (d a n : ℕ) : Type 0 where
  pub live : (f : Reading) → IsTrue (is_live (read_of f h) d)
  pub there : (f : Reading) → IsFalse (lacks_agg (read_of f h) d a)
  pub len : (f : Reading) → n ≡ length (text (read_of f h) d a)

-- the refusal if there is no such domain, or no such aggregate of it
abbrev pub IsMissing : KernelState → (d a : ℕ) → Refusal → Type 0
IsMissing h d a x =
    ((x ≡ NoDomain) × ((f : Reading) → IsFalse (is_live (read_of f h) d)))
    ⊎ ((x ≡ BadAgg) × ((f : Reading) → IsTrue (is_live (read_of f h) d) × IsTrue (lacks_agg (read_of f h) d a)))

-- the refusal if there is no such domain, or no such descriptor of it
abbrev pub IsUnopened : KernelState → (d fd : ℕ) → Refusal → Type 0
IsUnopened h d fd x =
    ((x ≡ NoDomain) × ((f : Reading) → IsFalse (is_live (read_of f h) d)))
    ⊎ ((x ≡ BadFd) × ((f : Reading) → IsTrue (is_live (read_of f h) d) × (descriptor (read_of f h) d fd ≡ None)))

-- the segment sent, as its bytes and their checksum
abbrev pub reported : Result Segment Refusal → Result (List ℕ × ℕ) Refusal
reported (Ok g) = Ok (g.bytes, g.checksum)
reported (Err x) = Err x

-- The machine's `transmit`: the remaining bytes keep their places, and pages may be freed. The sum of each slice sent
-- is used, in order. A refusal changes nothing.
pub record Transmits (c max : ℕ) (old : KernelState) (r : Result (List ℕ × ℕ) Refusal) (new : KernelState) :
    Type 0 where
  pub step : Steps (λ s. transmit s c max) old r new
  pub places : OnOk r ((f : Reading) → KeepsPools f → read_of f new ≡ (transmit (read_of f old) c max).after)
  pub roomy : (p : ℕ) → r ≢ Err (NoRoom p)
  pub pages : KeepsPages old.store new.store []
  pub uses : OnOk r (UsesSent old.store (conn_in old.conns c).outgoing max old.sums new.sums)
  pub cache : new.cache ≡ old.cache
  pub refused : OnErr r (new ≡ old)
  pub sound : IsSound new
  pub stays : Stays old.store new.store
