-- One connection changes or is removed, as the machine sees it, and the state stays sound.
use Rattle.std.proofs.Common.{◌≡◌, ◌≢◌, ℕ, ◌+◌, ◌<◌, ◌≤◌, ◌==◌, ◌&&◌, ◌||◌, Bool, not, List, [], ◌∷◌, ◌++◌, length, map}
use Rattle.std.specs.List.{AllByRecursion}
use Rattle.std.proofs.Common.{ap, ◌∙◌, refl, sym, subst, arith, Option, Some, None, true, false, inl, inr}
use Rattle.std.proofs.Common.{length-append}
use Rattle.std.specs.Prelude.{if◌then◌else◌, unwrap_or, option_map, is_none}
use Rattle.std.proofs.lemmas.Bool.{cases_eq}
use Rattle.std.proofs.lemmas.List.Sums.{sum_by_push}
use Rattle.std.proofs.lemmas.List.{map-append}
use Rattle.iol_core.specs.NumberedLists.{lookup, without, changed}
use Rattle.iol_core.specs.State as machine
use Rattle.iol_core.specs.State.{State, Domain, Connection, is_gone}
use Rattle.iol_core.specs.Meaning.{◌when◌}
use Rattle.iol_core.specs.Calls.Descriptors as fds
use Rattle.iol_core.specs.Calls.Outside as outside
use Rattle.iol_core.specs.declared.refusals.Refusal.TheVariants.{Denied}
use Rattle.iol_core.proofs.Lookups.{lookup-without}
use Rattle.iol_core.specs.declared.descriptors.Descriptor.{Descriptor}
use Rattle.iol_core.specs.declared.descriptors.Descriptor.TheVariants as on
use Rattle.iol_core.specs.declared.limits.TheConstants.{MAX_CONNECTIONS, LAST_CONNECTION}
use Rattle.iol_core.specs.declared.numbers.BufId.{BufId}
use Rattle.iol_pool.specs.Pools.{pool_in}
use Rattle.iol_hold.specs.StoreState.{Stored, IsTidy, IsStill, AllReclaimed, count_of}
use Rattle.iol_arena.specs.State.{page_count}
use Rattle.iol_hold.specs.Moves.{Stays, SameLists, Moves, Covers}
use Rattle.iol_hold.specs.Pages.{KeepsPages}
use Rattle.iol_hold.specs.Places.{byte_len}
use Rattle.iol_hold.specs.Releases.{FreesOnly}
use Rattle.iol_hold.specs.Texts.{bufs_of}
use Rattle.iol_hold.specs.declared.slices.Slice.{Slice}
use Rattle.iol_hold.proofs.Counts.{tally-append, tally_none}
use Rattle.iol_hold.proofs.PageChanges.{keeps_pages_frees}
use Rattle.iol_hold.proofs.ReadSlices.{readable_none}
use Rattle.iol_desc.specs.EntryLists.{Rises}
use Rattle.iol_sock.specs.Connections.{Conn, conn_view, held_by, is_over, new_conn}
use Rattle.iol_sock.specs.Table.{conn_in, no_conn}
use Rattle.iol_sock.specs.Meanings.{IsConn}
use Rattle.iol_sock.proofs.MachineConns.{conn_at-is, over_meant}
use Rattle.iol_kernel.specs.Views.{Objects, state_view}
use Rattle.iol_kernel.specs.HoldCounts.{conn_uses, IsCounted}
use Rattle.iol_kernel.specs.KernelState as held
use Rattle.iol_kernel.specs.KernelState.{KernelState, objects_of, IsConnReadable, AreReadable, IsOpenEnd}
use Rattle.iol_kernel.specs.KernelState.{IsLimited, ArePooled, IsSound, machine_of, read_of}
use Rattle.iol_kernel.specs.Readings.{Reading, bytes_over, read}
use Rattle.iol_kernel.specs.ClosedEnds.{KeepsEnds}
use Rattle.iol_kernel.specs.Calls.{Leaves, Answers}
use Rattle.iol_kernel.proofs.State.TableCalls.{answers_here}
use Rattle.iol_kernel.proofs.State.Views.{pools-view, lookup-map, without-map, length-map'}
use Rattle.iol_kernel.proofs.State.NumberedEntries.{lookup-changed, lookup-changed_other, lookup-push, changed_same}
use Rattle.iol_kernel.proofs.State.NumberedEntries.{without_changed, changed-map, rises-map, rises-changed}
use Rattle.iol_kernel.proofs.State.NumberedEntries.{rises-without, rises-push, each-changed, each-without_any}
use Rattle.iol_kernel.proofs.State.NumberedEntries.{each_found, sum-changed, sum-without, length-without_any}
use Rattle.iol_kernel.proofs.State.Sound.{each-weaker, each-push}
use Rattle.iol_kernel.proofs.State.Pools.{same_pooled}
use Rattle.iol_kernel.proofs.State.Effects.{leaves, leaves_then, leaves_as, moved-sound}
use Rattle.iol_kernel.proofs.State.Stay.{stays_here, pages_here}

abbrev pub Conns : Type 0
Conns = List (ℕ × Conn (List Slice))

-- connections as they are read
abbrev pub seen : Reading → Conns → List (ℕ × Connection)
seen f cs = map {B = ℕ × Connection} (λ e. (e.0, conn_view (read f) e.1)) cs

pub conns-read_of : (f : Reading) (h : KernelState) → (read_of f h).conns ≡ seen f h.conns
unfolding read_of state_view
conns-read_of f h = refl

pub next_conn-read_of : (f : Reading) (h : KernelState) → (read_of f h).next_conn ≡ h.next_conn
unfolding read_of state_view
next_conn-read_of f h = refl

pub length_conns-read_of : (f : Reading) (h : KernelState) → length (read_of f h).conns ≡ length h.conns
length_conns-read_of f h = ap length (conns-read_of f h)
    ∙ length-map' {B = ℕ × Connection} (λ (e : ℕ × Conn (List Slice)). (e.0, conn_view (read f) e.1)) h.conns

pub rising-read_of : (f : Reading) (h : KernelState) → IsSound h → Rises 0 (read_of f h).conns h.next_conn
rising-read_of f h sound =
    subst (λ (cs : List (ℕ × Connection)). Rises 0 cs h.next_conn) (sym (conns-read_of f h))
    (rises-map (conn_view (read f)) h.conns 0 h.next_conn sound.limits.objects.rising)

-- a connection that exists, and one that does not
pub conn_found : (f : Reading) (h : KernelState) (c : ℕ) (x : Conn (List Slice)) → lookup h.conns c ≡ Some x
    → IsConn f.at (read_of f h) c x
conn_found f h c x found = ap (λ (cs : List (ℕ × Connection)). lookup cs c) (conns-read_of f h)
    ∙ lookup-map (conn_view (read f)) h.conns c ∙ ap (option_map (conn_view (read f))) found

pub conn_missing : (f : Reading) (h : KernelState) (c : ℕ) → None ≡ lookup h.conns c
    → outside.lacks_conn (read_of f h) c ≡ true
conn_missing f h c none =
    ap (λ (o : Option Connection). is_none o) (ap (λ (cs : List (ℕ × Connection)). lookup cs c) (conns-read_of f h)
    ∙ lookup-map (conn_view (read f)) h.conns c ∙ ap (option_map (conn_view (read f))) (sym none))

pub conn_there : (f : Reading) (h : KernelState) (c : ℕ) (x : Conn (List Slice)) → Some x ≡ lookup h.conns c
    → outside.lacks_conn (read_of f h) c ≡ false
conn_there f h c x found = ap (λ (o : Option Connection). is_none o) (conn_found f h c x (sym found))

-- a connection of the machine exists
pub conn_held : (f : Reading) (h : KernelState) (c : ℕ) → outside.lacks_conn (read_of f h) c ≡ false
    → lookup h.conns c ≢ None
conn_held f h c there = λ none. (let lacks = conn_missing f h c (sym none) in cc (lacks, there))

pub conn_in-found : (cs : Conns) (c : ℕ) → lookup cs c ≢ None → lookup cs c ≡ Some (conn_in cs c)
unfolding conn_in
conn_in-found cs c there = of (lookup cs c) there
  where
    of : (o : Option (Conn (List Slice))) → o ≢ None → o ≡ Some (unwrap_or o no_conn)
    of None some = absurd (some refl)
    of (Some x) some = refl

-- one that the machine has
pub conn_is : (h : KernelState) (c : ℕ) → outside.lacks_conn (machine_of [] h) c ≡ false → lookup h.conns c ≢ None
conn_is h c there = conn_held (bytes_over [] h.store) h c there

pub found_conn : (h : KernelState) (c : ℕ) → outside.lacks_conn (machine_of [] h) c ≡ false
    → lookup h.conns c ≡ Some (conn_in h.conns c)
found_conn h c there = conn_in-found h.conns c (conn_is h c there)

pub conn_in-changed : (cs : Conns) (c : ℕ) (x y : Conn (List Slice)) → lookup cs c ≡ Some x
    → conn_in (changed cs c y) c ≡ y
unfolding conn_in
conn_in-changed cs c x y found =
    ap (λ (o : Option (Conn (List Slice))). unwrap_or o no_conn) (lookup-changed cs c x y found)

pub there-changed : (cs : Conns) (c : ℕ) (x y : Conn (List Slice)) → lookup cs c ≡ Some x
    → lookup (changed cs c y) c ≢ None
there-changed cs c x y found = λ none. (let some = lookup-changed cs c x y found in cc (some, none))

-- whether a domain may read its pool
pub denied-read_of : (f : Reading) (h : KernelState) (d c p : ℕ) (x : Conn (List Slice)) (may : Bool)
    → lookup h.conns c ≡ Some x → p ≡ x.pool → may ≡ machine.may_read (read_of f h) d p
    → (Denied p when not may) ≡ fds.denied_by (read_of f h) d (Some (machine.conn_at (read_of f h) c).pool)
denied-read_of f h d c p x may found is named =
    ap (λ b. Denied p when not b) named
    ∙ ap (λ q. fds.denied_by (read_of f h) d (Some q)) (is
    ∙ sym (ap (λ (w : Connection). w.pool) (conn_at-is f.at (read_of f h) c x (conn_found f h c x found))))

-- Connections that descriptors are open on.

abbrev pub IsOpenConn : Conn (List Slice) → Type 0
IsOpenConn x = (x.accepted ≡ true) × (x.closed ≡ false)

pub open_conn-there : (cs : Conns) (c : ℕ) → IsOpenConn (conn_in cs c) → lookup cs c ≢ None
unfolding conn_in
open_conn-there cs c open' =
    λ none. no (sym (ap (λ (o : Option (Conn (List Slice))). (unwrap_or o no_conn).closed) none) ∙ open'.1)
  where
    no : ◌≡◌ {A = Bool} true false → ⊥
    no e = cc

pub conn_in-is : (cs : Conns) (c : ℕ) (x : Conn (List Slice)) → lookup cs c ≡ Some x → conn_in cs c ≡ x
unfolding conn_in
conn_in-is cs c x found = ap (λ (o : Option (Conn (List Slice))). unwrap_or o no_conn) found

conn_in-same : (cs ds : Conns) (n : ℕ) → lookup ds n ≡ lookup cs n → conn_in ds n ≡ conn_in cs n
unfolding conn_in
conn_in-same cs ds n same = ap (λ (o : Option (Conn (List Slice))). unwrap_or o no_conn) same

open_as : (cs ds : Conns) (n : ℕ) → lookup ds n ≡ lookup cs n → IsOpenConn (conn_in cs n) → IsOpenConn (conn_in ds n)
open_as cs ds n same open' = subst IsOpenConn (sym (conn_in-same cs ds n same)) open'

pub open-changed : (cs : Conns) (c n : ℕ) (x y : Conn (List Slice)) → lookup cs c ≡ Some x
    → (IsOpenConn x → IsOpenConn y) → IsOpenConn (conn_in cs n) → IsOpenConn (conn_in (changed cs c y) n)
open-changed cs c n x y found keeps open' = elim (cases_eq c n) [
  | inl k ↦
      subst (λ i. IsOpenConn (conn_in (changed cs c y) i)) k
      (subst IsOpenConn (sym (conn_in-changed cs c x y found))
      (keeps (subst IsOpenConn (conn_in-is cs c x found) (subst (λ i. IsOpenConn (conn_in cs i)) (sym k) open'))))
  | inr k ↦ open_as cs (changed cs c y) n (lookup-changed_other cs c n y k) open'
]

pub open-changed_other : (cs : Conns) (c n : ℕ) (y : Conn (List Slice)) → c ≢ n → IsOpenConn (conn_in cs n)
    → IsOpenConn (conn_in (changed cs c y) n)
open-changed_other cs c n y differ open' = open_as cs (changed cs c y) n (lookup-changed_other cs c n y differ) open'

-- none that is over is open
open_not_over : (x : Conn (List Slice)) → IsOpenConn x → is_over x ≡ true → ⊥
open_not_over x open' over = no (sym (of x.accepted x.closed open'.0 open'.1) ∙ over)
  where
    no : ◌≡◌ {A = Bool} false true → ⊥
    no e = cc

    none : (b : Bool) → (b && false) ≡ false
    none true = refl
    none false = refl

    of : (accepted closed : Bool) → accepted ≡ true → closed ≡ false
        → ((byte_len x.outgoing == 0) && (closed || (not accepted && is_gone x.peer))) ≡ false
    of true false a b = none (byte_len x.outgoing == 0)
    of true true a b = absurd (no (sym b))
    of false closed a b = absurd (no a)

pub open-without : (cs : Conns) (c n : ℕ) (x : Conn (List Slice)) → lookup cs c ≡ Some x → is_over x ≡ true
    → IsOpenConn (conn_in cs n) → IsOpenConn (conn_in (without cs c) n)
open-without cs c n x found over open' = elim (cases_eq c n) [
  | inl k ↦
      absurd
      (open_not_over x
      (subst IsOpenConn (conn_in-is cs c x found) (subst (λ i. IsOpenConn (conn_in cs i)) (sym k) open')) over)
  | inr k ↦ open_as cs (without cs c) n (lookup-without cs c n k) open'
]

pub open-push : (cs : Conns) (c n : ℕ) (x : Conn (List Slice)) → IsOpenConn (conn_in cs n)
    → IsOpenConn (conn_in (cs ++ (c, x) ∷ []) n)
open-push cs c n x open' = open_as cs (cs ++ (c, x) ∷ []) n (lookup-push cs c n x (open_conn-there cs n open')) open'

-- Other connections, with all else unchanged.

module _ (h : KernelState) (cs : Conns) (next : ℕ) where
  abbrev others : Objects (List Slice)
  others = record (objects_of h) { conns = cs; next_conn = next }

  -- open ends stay open, if open connections do
  others_end : ((n : ℕ) → IsOpenConn (conn_in h.conns n) → IsOpenConn (conn_in cs n)) → (e : Option Descriptor)
      → IsOpenEnd (objects_of h) e → IsOpenEnd others e
  others_end keeps None open' = tt
  others_end keeps (Some (on.ReadEnd p)) open' = open'
  others_end keeps (Some (on.WriteEnd p)) open' = open'
  others_end keeps (Some (on.File f at mode)) open' = open'
  others_end keeps (Some (on.Connection n)) open' = keeps n open'

  others_fds : ((n : ℕ) → IsOpenConn (conn_in h.conns n) → IsOpenConn (conn_in cs n)) → IsSound h
      → AllByRecursion (λ (d : Domain (List Slice)). AllByRecursion (IsOpenEnd others) d.fds) h.domains
  others_fds keeps sound =
      each-weaker (λ (d : Domain (List Slice)). AllByRecursion (IsOpenEnd (objects_of h)) d.fds)
      (λ (d : Domain (List Slice)). AllByRecursion (IsOpenEnd others) d.fds) h.domains
      (λ d e. each-weaker (IsOpenEnd (objects_of h)) (IsOpenEnd others) d.fds (others_end keeps) e) sound.fds

  others_limits : IsSound h → AllByRecursion held.IsConn cs → length cs ≤ MAX_CONNECTIONS → Rises 0 cs next
      → next ≤ LAST_CONNECTION + 1 → IsLimited h.domains others
  others_limits sound each few rising last =
      let l = sound.limits.objects in
      record {
        aggs = sound.limits.aggs;
        few = sound.limits.few;
        objects = record {
          queues = l.queues;
          few_pipes = l.few_pipes;
          conns = each;
          few_conns = few;
          rising =
              rising;
          last = last;
          cached = l.cached;
          few_files = l.few_files;
        };
      }

-- The connection c was x and is y, and the store was h's and is t.

module _ (h : KernelState) (t : Stored) (c : ℕ) (x y : Conn (List Slice)) (sound : IsSound h)
    (found : lookup h.conns c ≡ Some x) where
  abbrev pub turned : KernelState
  turned = record h { store = t; conns = changed h.conns c y }

  pub turned_counted : ((b : BufId) → count_of t b + conn_uses b (c, x) ≡ count_of h.store b + conn_uses b (c, y))
      → IsCounted t h.domains (objects_of turned)
  turned_counted counts =
      record {
        each =
            λ b. omega (
              arith,
              sound.counted.each b,
              counts b,
              sum-changed (conn_uses b) h.conns 0 h.next_conn c x y sound.limits.objects.rising found,
            );
      }

  pub turned_limits : held.IsConn (c, y) → IsLimited h.domains (objects_of turned)
  turned_limits limit =
      let l = sound.limits.objects in
      others_limits h (changed h.conns c y) h.next_conn sound (each-changed held.IsConn h.conns c y l.conns limit)
      (omega (
        arith,
        l.few_conns,
        length-map' {B = ℕ × Conn (List Slice)} (λ (e : ℕ × Conn (List Slice)). if e.0 == c then (c, y) else e)
            h.conns,
      )) (rises-changed h.conns 0 h.next_conn c y l.rising) l.last

  pub turned_pooled : y.pool ≡ x.pool → ArePooled t.pools h.conns h.cache.files
      → ArePooled t.pools (changed h.conns c y) h.cache.files
  turned_pooled same pooled = record {
    few = pooled.few;
    opened = each-changed (λ (e : ℕ × Conn (List Slice)). (pool_in t.pools e.1.pool).closed ≡ false) h.conns c y
        pooled.opened
        (ap (λ p. (pool_in t.pools p).closed) same
        ∙ each_found (λ (e : ℕ × Conn (List Slice)). (pool_in t.pools e.1.pool).closed ≡ false) h.conns c x
        pooled.opened found);
    files_open = pooled.files_open;
  }

  -- a descriptor stays open on it, if it stays open
  pub turned_fds : (IsOpenConn x → IsOpenConn y)
      → AllByRecursion (λ (d : Domain (List Slice)). AllByRecursion (IsOpenEnd (objects_of turned)) d.fds) h.domains
  turned_fds keeps =
      others_fds h (changed h.conns c y) h.next_conn (λ n open'. open-changed h.conns c n x y found keeps open') sound

  turned_good : IsConnReadable h.store (c, y) → AreReadable h.store (objects_of turned)
  turned_good readable =
      record {
        pipes = sound.objects.pipes;
        conns =
            each-changed (IsConnReadable h.store) h.conns c y sound.objects.conns readable;
        files = sound.objects.files;
      }

  pub turned-read : SameLists h.store t → (f : Reading)
      → read_of f turned ≡ record (read_of f h) { conns = changed (read_of f h).conns c (conn_view (read f) y) }
  unfolding read_of state_view
  turned-read lists f =
      pools-view f h.domains h.store.pools t.pools (objects_of turned) lists
      ∙ ap (λ (cs : List (ℕ × Connection)). record (read_of f h) { conns = cs })
      (changed-map (conn_view (read f)) h.conns c y)

  -- the slices of y could be read in the old store
  module _ (counts : (b : BufId) → count_of t b + conn_uses b (c, x) ≡ count_of h.store b + conn_uses b (c, y))
      (stays : Stays h.store t) (tidy : IsTidy t) (still : IsStill t.arena) (reclaimed : AllReclaimed t)
      (lists : SameLists h.store t) (count : page_count t.arena ≡ page_count h.store.arena)
      (readable : IsConnReadable h.store (c, y)) (limit : held.IsConn (c, y)) (pool' : y.pool ≡ x.pool)
      (fds : AllByRecursion (λ (d : Domain (List Slice)). AllByRecursion (IsOpenEnd (objects_of turned)) d.fds)
      h.domains) where
    pub turned-sound : IsSound turned
    turned-sound = moved-sound h.store turned stays (turned_counted counts) tidy still reclaimed sound.domains
        (turned_good readable) fds sound.once (turned_limits limit)
        (turned_pooled pool' (same_pooled h.store t h.conns h.cache.files lists sound.pooled)) sound.sums sound.filed
        sound.cached count

    pub turned_leaves : (F : Connection → Connection)
        → ((f : Reading) → F (conn_view (read f) x) ≡ conn_view (read f) y) → KeepsPages h.store t []
        → Leaves (λ s. record s { conns = changed s.conns c (F (machine.conn_at s c)) }) h turned
    turned_leaves F as_meant pages =
        leaves (λ s. record s { conns = changed s.conns c (F (machine.conn_at s c)) }) h turned
        (λ f. turned-read lists f
        ∙ ap (λ (w : Connection). record (read_of f h) { conns = changed (read_of f h).conns c w })
        (sym (ap F (conn_at-is f.at (read_of f h) c x (conn_found f h c x found)) ∙ as_meant f)))
        refl refl stays pages sound.domains (turned_good readable) turned-sound

-- its buffers are covered
pub conn_covered : (h : KernelState) (c : ℕ) (x : Conn (List Slice)) → IsSound h → lookup h.conns c ≡ Some x
    → Covers h.store (held_by x)
conn_covered h c x sound found =
    record {
      each =
          λ b. omega (
            arith,
            sound.counted.each b,
            sum-without (conn_uses b) h.conns c x found,
            tally-append b (bufs_of x.incoming) (bufs_of x.outgoing),
          );
    }

pub incoming_covered : (h : KernelState) (c : ℕ) (x : Conn (List Slice)) → IsSound h → lookup h.conns c ≡ Some x
    → Covers h.store (bufs_of x.incoming)
incoming_covered h c x sound found =
    record { each = λ b. omega (arith, sound.counted.each b, sum-without (conn_uses b) h.conns c x found) }

pub outgoing_covered : (h : KernelState) (c : ℕ) (x : Conn (List Slice)) → IsSound h → lookup h.conns c ≡ Some x
    → Covers h.store (bufs_of x.outgoing)
outgoing_covered h c x sound found =
    record { each = λ b. omega (arith, sound.counted.each b, sum-without (conn_uses b) h.conns c x found) }

-- its pool is open
pub conn_open : (h : KernelState) (c : ℕ) (x : Conn (List Slice)) → IsSound h → lookup h.conns c ≡ Some x
    → (pool_in h.store.pools x.pool).closed ≡ false
conn_open h c x sound found =
    each_found (λ (e : ℕ × Conn (List Slice)). (pool_in h.store.pools e.1.pool).closed ≡ false) h.conns c x
    sound.pooled.opened found

-- and its slices can be read
pub conn_readable : (h : KernelState) (c : ℕ) (x : Conn (List Slice)) → IsSound h → lookup h.conns c ≡ Some x
    → IsConnReadable h.store (c, x)
conn_readable h c x sound found = each_found (IsConnReadable h.store) h.conns c x sound.objects.conns found

pub conn_limit : (h : KernelState) (c : ℕ) (x : Conn (List Slice)) → IsSound h → lookup h.conns c ≡ Some x
    → held.IsConn (c, x)
conn_limit h c x sound found = each_found held.IsConn h.conns c x sound.limits.objects.conns found

-- A connection that is over is removed, and others stay.

pub not_over : (s : State) (c : ℕ) (to : ℕ) (w : Connection) → Rises 0 s.conns to → lookup s.conns c ≡ Some w
    → machine.is_over w ≡ false → machine.with_conn s c (machine.conn_at s c) ≡ s
unfolding machine.with_conn machine.conn_at
not_over s c to w rising found stays =
    ap (λ (o : Option Connection). machine.with_conn s c (unwrap_or o machine.no_conn)) found
    ∙ ap (λ b. record s { conns = if b then without s.conns c else changed s.conns c w }) stays
    ∙ ap (λ (cs : List (ℕ × Connection)). record s { conns = cs }) (changed_same s.conns 0 to c w rising found)

pub is_over_gone : (s : State) (c : ℕ) (w : Connection) → lookup s.conns c ≡ Some w → machine.is_over w ≡ true
    → machine.with_conn s c (machine.conn_at s c) ≡ record s { conns = without s.conns c }
unfolding machine.with_conn machine.conn_at
is_over_gone s c w found over =
    ap (λ (o : Option Connection). machine.with_conn s c (unwrap_or o machine.no_conn)) found
    ∙ ap (λ b. record s { conns = if b then without s.conns c else changed s.conns c w }) over

-- changed first, and then removed if it is over
pub reclaimed_after : (s : State) (c : ℕ) (to : ℕ) (w z : Connection) → Rises 0 s.conns to → lookup s.conns c ≡ Some w
    → (let m : State = record s { conns = changed s.conns c z } in machine.with_conn m c (machine.conn_at m c))
    ≡ machine.with_conn s c z
unfolding machine.with_conn machine.conn_at
reclaimed_after s c to w z rising found =
    let cs : List (ℕ × Connection) = changed s.conns c z in
    let m : State = record s { conns = cs } in
    let is : lookup cs c ≡ Some z = lookup-changed s.conns c w z found in
    ap (λ (o : Option Connection). machine.with_conn m c (unwrap_or o machine.no_conn)) is
    ∙ ap (λ (l : List (ℕ × Connection)). record s { conns = if machine.is_over z then l else changed cs c z })
    (without_changed s.conns 0 to c z rising)
    ∙ ap (λ (l : List (ℕ × Connection)). record s { conns = if machine.is_over z then without s.conns c else l })
    (changed_same cs 0 to c z (rises-changed s.conns 0 to c z rising) is)

without-map' : (f : Reading) (cs : Conns) (c : ℕ) → seen f (without cs c) ≡ without (seen f cs) c
without-map' f cs c = without-map (conn_view (read f)) cs c

module _ (h : KernelState) (c : ℕ) (x : Conn (List Slice)) (sound : IsSound h) (found : lookup h.conns c ≡ Some x) where
  pub reclaimed_stays : is_over x ≡ false → Leaves (λ s. machine.with_conn s c (machine.conn_at s c)) h h
  reclaimed_stays on' = leaves (λ s. machine.with_conn s c (machine.conn_at s c)) h h
      (λ f. sym (not_over (read_of f h) c h.next_conn (conn_view (read f) x) (rising-read_of f h sound)
      (conn_found f h c x found) (over_meant f.at x ∙ on')))
      refl refl (stays_here h.store) (pages_here h.store) sound.domains sound.objects sound

  -- it is removed, and other ends stay open
  pub gone_keeps : is_over x ≡ true → (end : Descriptor) (cs : Conns) (n : ℕ) → cs ≡ without h.conns c
      → KeepsEnds end (objects_of h) (record (objects_of h) { conns = cs; next_conn = n })
  gone_keeps over end cs n rest =
      record {
        each =
            λ e differ open'. others_end h cs n (λ m open''. subst (λ (l : Conns). IsOpenConn (conn_in l m)) (sym rest)
            (open-without h.conns c m x found over open'')) (Some e) open';
      }

  module _ (t : Stored) (over : is_over x ≡ true) (moves : Moves h.store t (held_by x) []) (lists : SameLists h.store t)
      (frees : FreesOnly h.store t) (reclaimed : AllReclaimed t) where
    abbrev gone : KernelState
    gone = record h { store = t; conns = without h.conns c }

    gone_counted : IsCounted t h.domains (objects_of gone)
    gone_counted =
        record {
          each =
              λ b. omega (
                arith,
                sound.counted.each b,
                moves.counts.each b,
                tally_none b,
                tally-append b (bufs_of x.incoming) (bufs_of x.outgoing),
                sum-without (conn_uses b) h.conns c x found,
              );
        }

    gone_good : AreReadable h.store (objects_of gone)
    gone_good =
        record {
          pipes = sound.objects.pipes;
          conns =
              each-without_any (IsConnReadable h.store) h.conns c sound.objects.conns;
          files = sound.objects.files;
        }

    gone_limits : IsLimited h.domains (objects_of gone)
    gone_limits =
        let l = sound.limits.objects in
        others_limits h (without h.conns c) h.next_conn sound (each-without_any held.IsConn h.conns c l.conns)
        (omega (arith, l.few_conns, length-without_any h.conns c)) (rises-without h.conns 0 h.next_conn c l.rising)
        l.last

    gone-sound : IsSound gone
    gone-sound = moved-sound h.store gone moves.stays gone_counted (moves.tidy sound.tidy) (moves.still sound.still)
        reclaimed sound.domains gone_good
        (others_fds h (without h.conns c) h.next_conn (λ n open'. open-without h.conns c n x found over open') sound)
        sound.once gone_limits (rest_pooled (same_pooled h.store t h.conns h.cache.files lists sound.pooled)) sound.sums
        sound.filed sound.cached (keeps_pages_frees frees).count
      where
        rest_pooled : ArePooled t.pools h.conns h.cache.files → ArePooled t.pools (without h.conns c) h.cache.files
        rest_pooled pooled =
            record {
              few = pooled.few;
              opened =
                  each-without_any (λ (e : ℕ × Conn (List Slice)). (pool_in t.pools e.1.pool).closed ≡ false) h.conns c
                  pooled.opened;
              files_open = pooled.files_open;
            }

    gone-read : (f : Reading) → read_of f gone ≡ record (read_of f h) { conns = without (read_of f h).conns c }
    unfolding read_of state_view
    gone-read f =
        pools-view f h.domains h.store.pools t.pools (objects_of gone) lists
        ∙ ap (λ (cs : List (ℕ × Connection)). record (read_of f h) { conns = cs }) (without-map' f h.conns c)

    pub reclaimed_goes : Leaves (λ s. machine.with_conn s c (machine.conn_at s c)) h gone
    reclaimed_goes = leaves (λ s. machine.with_conn s c (machine.conn_at s c)) h gone
        (λ f. gone-read f
        ∙ sym (is_over_gone (read_of f h) c (conn_view (read f) x) (conn_found f h c x found) (over_meant f.at x
        ∙ over)))
        refl refl moves.stays (keeps_pages_frees frees) sound.domains gone_good gone-sound

    pub reclaimed_as : (cs : Conns) (n : ℕ) → cs ≡ without h.conns c → n ≡ h.next_conn
        → Leaves (λ s. machine.with_conn s c (machine.conn_at s c)) h
        (record h { store = t; conns = cs; next_conn = n })
    reclaimed_as cs n rest next' =
        subst (λ (l : Conns). Leaves (λ s. machine.with_conn s c (machine.conn_at s c)) h
        (record h { store = t; conns = l; next_conn = n })) (sym rest)
        (subst
        (λ i. Leaves (λ s. machine.with_conn s c (machine.conn_at s c)) h
        (record h { store = t; conns = without h.conns c; next_conn = i })) (sym next') reclaimed_goes)

pub some_same : {x y : Conn (List Slice)} → Some x ≡ Some y → x ≡ y
some_same e = cc

-- A connection changed, and still exists. Once it is settled, that is, removed if it is over, the machine's state is
-- that of `after`.
pub record IsChanged (c : ℕ) (after : State → State) (h k : KernelState) : Type 0 where
  pub sound : IsSound k
  pub there : lookup k.conns c ≢ None
  pub left : (l : KernelState) → Leaves (λ s. machine.with_conn s c (machine.conn_at s c)) k l → Leaves after h l

-- changed and settled: the machine's state
pub conn_left : (h k l : KernelState) (c : ℕ) (x : Conn (List Slice)) (F : Connection → Connection) → IsSound h
    → lookup h.conns c ≡ Some x
    → Leaves (λ s. record s { conns = changed s.conns c (F (machine.conn_at s c)) }) h k
    → Leaves (λ s. machine.with_conn s c (machine.conn_at s c)) k l
    → Leaves (λ s. machine.with_conn s c (F (machine.conn_at s c))) h l
conn_left h k l c x F sound found one two =
    let m : State → State = λ s. record s { conns = changed s.conns c (F (machine.conn_at s c)) } in
    let n : State → State = λ s. machine.with_conn s c (machine.conn_at s c) in
    leaves_as (λ s. n (m s)) (λ s. machine.with_conn s c (F (machine.conn_at s c))) h l
    (λ f. reclaimed_after (read_of f h) c h.next_conn (conn_view (read f) x) (F (machine.conn_at (read_of f h) c))
    (rising-read_of f h sound) (conn_found f h c x found))
    (leaves_then m n h k l (λ s. refl) one two)

-- A new connection.

module _ (h : KernelState) (p : ℕ) (sound : IsSound h) (open' : (pool_in h.store.pools p).closed ≡ false)
    (few : length h.conns < MAX_CONNECTIONS) (some : h.next_conn ≤ LAST_CONNECTION) where
  abbrev pub joined : KernelState
  joined = record h { conns = h.conns ++ (h.next_conn, new_conn p) ∷ []; next_conn = h.next_conn + 1 }

  joined-sound : IsSound joined
  joined-sound =
      let l = sound.limits.objects in
      record {
        domains = sound.domains;
        objects =
            record {
              pipes = sound.objects.pipes;
              conns =
                  each-push (IsConnReadable h.store) h.conns (h.next_conn, new_conn p) sound.objects.conns
                  (readable_none h.store, readable_none h.store);
              files = sound.objects.files;
            };
        fds = others_fds h joined.conns joined.next_conn (λ n is. open-push h.conns h.next_conn n (new_conn p) is)
            sound;
        once = sound.once;
        counted =
            record {
              each =
                  λ b. omega (
                    arith,
                    sound.counted.each b,
                    sum_by_push (conn_uses b) h.conns (h.next_conn, new_conn p),
                    tally_none b,
                  );
            };
        tidy = sound.tidy;
        still = sound.still;
        reclaimed = sound.reclaimed;
        limits =
            others_limits h joined.conns joined.next_conn sound
            (each-push held.IsConn h.conns (h.next_conn, new_conn p) l.conns
            (record { incoming = omega arith; outgoing = omega arith; waits = λ i. refl }))
            (omega (arith, few, length-append h.conns ((h.next_conn, new_conn p) ∷ [])))
            (rises-push h.conns 0 h.next_conn (new_conn p) l.rising) (omega (arith, some));
        pooled =
            record {
              few = sound.pooled.few;
              opened =
                  each-push (λ (e : ℕ × Conn (List Slice)). (pool_in h.store.pools e.1.pool).closed ≡ false) h.conns
                  (h.next_conn, new_conn p) sound.pooled.opened open';
              files_open = sound.pooled.files_open;
            };
        sums = sound.sums;
        filed = sound.filed;
        cached = sound.cached;
      }

  joined-read : (f : Reading) → read_of f joined ≡ (outside.conn_new (read_of f h) p).after
  unfolding read_of state_view
  joined-read f = ap (λ (cs : List (ℕ × Connection)). record (read_of f h) { conns = cs; next_conn = h.next_conn + 1 })
      (map-append (λ (e : ℕ × Conn (List Slice)). (e.0, conn_view (read f) e.1)) h.conns
      ((h.next_conn, new_conn p) ∷ []))

  pub joined_answers : (n : ℕ) → n ≡ h.next_conn → Answers (λ s. outside.conn_new s p) h n joined
  joined_answers n number =
      answers_here (λ s. outside.conn_new s p) h joined n joined-sound refl refl (λ f. number
      ∙ sym (next_conn-read_of f h)) refl joined-read

  pub joined_as : (n m : ℕ) (cs : Conns) → n ≡ h.next_conn → cs ≡ h.conns ++ (h.next_conn, new_conn p) ∷ []
      → m ≡ h.next_conn + 1 → Answers (λ s. outside.conn_new s p) h n (record h { conns = cs; next_conn = m })
  joined_as n m cs number conns' next' =
      subst (λ (l : Conns). Answers (λ s. outside.conn_new s p) h n (record h { conns = l; next_conn = m }))
      (sym conns')
      (subst
      (λ i. Answers (λ s. outside.conn_new s p) h n
      (record h { conns = h.conns ++ (h.next_conn, new_conn p) ∷ []; next_conn = i })) (sym next')
      (joined_answers n number))

pub ruleset conn_rules = (length_conns-read_of, next_conn-read_of)

pub ruleset there_rules = (conn_missing, conn_there)
