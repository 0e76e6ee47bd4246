-- Bytes that a connection sends. The machine does not see the remembered sums, which change.
use Rattle.std.proofs.Common.{◌≡◌, ◌≢◌, ℕ, ◌+◌, List, [], ◌∷◌, length, take, drop, ap, ◌∙◌, refl, sym, subst, arith}
use Rattle.std.proofs.Common.{Option, Some, None, true, false}
use Rattle.std.specs.Prelude.{Result, Ok, Err, MatchOption, Bool, ◌==◌}
use Rattle.iol_core.specs.Meaning.{◌when◌}
use Rattle.iol_core.specs.declared.refusals.Refusal.TheVariants.{NoRoom, BadRange, WouldBlock}
use Rattle.iol_sock.specs.Table.{conn_in}
use Rattle.iol_sock.specs.SentBytes.{UsesSent}
use Rattle.iol_kernel.proofs.State.TableCalls.{refusal_of}
use Rattle.iol_kernel.proofs.State.Stay.{stays_here, pages_here}
use Rattle.std.proofs.lemmas.List.{length-drop}
use Rattle.iol_core.specs.Text.{Text, bytes_of}
use Rattle.iol_core.specs.Checksum.{checksum}
use Rattle.iol_core.specs.NumberedLists.{lookup, changed}
use Rattle.iol_core.specs.Meaning.{Step, first, WantOfMemory}
use Rattle.iol_core.specs.State as machine
use Rattle.iol_core.specs.State.{State, Connection}
use Rattle.iol_core.specs.Calls.Outside as outside
use Rattle.iol_core.specs.declared.numbers.BufId.{BufId}
use Rattle.iol_core.specs.declared.refusals.Refusal.{Refusal}
use Rattle.iol_hold.specs.StoreState.{Stored, count_of, AllReclaimed}
use Rattle.iol_hold.specs.Moves.{Moves, SameLists}
use Rattle.iol_hold.specs.Places.{places, byte_len}
use Rattle.iol_hold.specs.Releases.{FreesOnly}
use Rattle.iol_hold.specs.Texts.{text_of, bufs_of, byte_at}
use Rattle.iol_hold.specs.declared.slices.Slice.{Slice}
use Rattle.iol_hold.proofs.AtPlaces.{read_rest}
use Rattle.iol_hold.proofs.PageChanges.{keeps_pages_frees}
use Rattle.iol_hold.proofs.ReadSlices.{readable_rest}
use Rattle.iol_sum.specs.Sums.{Sums, IsRight}
use Rattle.iol_sum.proofs.KeptSums.{IsRight-keeps}
use Rattle.iol_sock.specs.Connections.{Conn, conn_view}
use Rattle.iol_sock.specs.Refusals.{segment_refusals, IsRefused}
use Rattle.iol_sock.proofs.MachineConns.{conn_at-is, sends_meant}
use Rattle.iol_kernel.specs.HoldCounts.{uses, conn_uses}
use Rattle.iol_kernel.specs.KernelState as held
use Rattle.iol_kernel.specs.KernelState.{KernelState, IsConnReadable, IsSound, read_of, machine_of}
use Rattle.iol_kernel.specs.Readings.{Reading, read, bytes_over}
use Rattle.iol_kernel.specs.Calls.{Leaves, Transmits}
use Rattle.iol_kernel.proofs.State.NumberedEntries.{each_found}
use Rattle.iol_kernel.proofs.Connections.Arrivals.{refused_as}
use Rattle.iol_kernel.proofs.Connections.OneConnection.{conn_found, conn_in-found, there-changed, conn_left, turned}
use Rattle.iol_kernel.proofs.Connections.OneConnection.{turned_fds, turned-sound, turned_leaves}

-- other sums that are right
pub summed : (k : KernelState) (sums : Sums) → IsRight k.store.arena sums → IsSound k
    → IsSound (record k { sums = sums })
summed k sums right sound = record {
  domains = sound.domains;
  objects = sound.objects;
  fds = sound.fds;
  once = sound.once;
  counted = sound.counted;
  tidy = sound.tidy;
  still = sound.still;
  reclaimed = sound.reclaimed;
  limits = sound.limits;
  pooled = sound.pooled;
  sums = right;
  filed = sound.filed;
  cached = sound.cached;
}

-- a change from a state with other sums is one from it
pub sums_back : (after : State → State) (k l : KernelState) (sums : Sums) → IsSound k
    → Leaves after (record k { sums = sums }) l → Leaves after k (record l { sums = k.sums })
unfolding read_of
sums_back after k l sums sound one = record {
  bytes = one.bytes;
  places = one.places;
  pages = one.pages;
  sums = refl;
  cache = one.cache;
  sound = summed l k.sums (IsRight-keeps k.store.arena l.store.arena k.sums one.stays.keeps sound.sums) one.sound;
  stays = one.stays;
}

-- without the first bytes of the output
abbrev pub shorter : (max : ℕ) → Connection → Connection
shorter max w = record w { outgoing = drop max w.outgoing }

module _ (h : KernelState) (t : Stored) (c max : ℕ) (x : Conn (List Slice)) (q : List Slice) (sound : IsSound h)
    (found : lookup h.conns c ≡ Some x) (rest : places q ≡ drop max (places x.outgoing))
    (moves : Moves h.store t (bufs_of x.outgoing) (bufs_of q)) (lists : SameLists h.store t)
    (frees : FreesOnly h.store t) (reclaimed : AllReclaimed t) where
  abbrev pub sent : Conn (List Slice)
  sent = record x { outgoing = q }

  sent_counts : (b : BufId) → count_of t b + conn_uses b (c, x) ≡ count_of h.store b + conn_uses b (c, sent)
  sent_counts b = omega (arith, moves.counts.each b)

  sent_good : IsConnReadable h.store (c, sent)
  sent_good = let was : IsConnReadable h.store (c, x) =
      each_found (IsConnReadable h.store) h.conns c x sound.objects.conns found in
      (was.0, readable_rest q x.outgoing max rest was.1)

  sent_limit : held.IsConn (c, sent)
  sent_limit =
      let was : held.IsConn (c, x) = each_found held.IsConn h.conns c x sound.limits.objects.conns found in
      record {
        incoming = was.incoming;
        outgoing =
            omega (arith, was.outgoing, ap length rest, length-drop max (places x.outgoing));
        waits = was.waits;
      }

  pub sent-sound : IsSound (turned h t c x sent sound found)
  sent-sound =
      turned-sound h t c x sent sound found sent_counts moves.stays (moves.tidy sound.tidy) (moves.still sound.still)
      reclaimed lists (keeps_pages_frees frees).count sent_good sent_limit refl
      (turned_fds h t c x sent sound found (λ open'. open'))

  pub sent_leaves : Leaves (λ s. record s { conns = changed s.conns c (shorter max (machine.conn_at s c)) }) h
      (turned h t c x sent sound found)
  sent_leaves =
      turned_leaves h t c x sent sound found sent_counts moves.stays (moves.tidy sound.tidy) (moves.still sound.still)
      reclaimed lists (keeps_pages_frees frees).count sent_good sent_limit refl
      (turned_fds h t c x sent sound found (λ open'. open')) (shorter max)
      (λ f. ap (λ (u : Text). record (conn_view (read f) x) { outgoing = u })
      (sym (read_rest f.at q x.outgoing max rest))) (keeps_pages_frees frees)

-- The meaning of the call.

pub send_refused : (stored : List (List ℕ)) (h : KernelState) (c max : ℕ) (x : Conn (List Slice)) (r : Refusal)
    → lookup h.conns c ≡ Some x → IsRefused (segment_refusals x max) WantOfMemory r
    → Step (outside.transmit (machine_of stored h) c max) (machine_of stored h) (Err r) (machine_of stored h)
send_refused stored h c max x r found refused =
    refused_as (outside.transmit (machine_of stored h) c max) (machine_of stored h) (first (segment_refusals x max))
    WantOfMemory r
    (sends_meant (byte_at h.store) (machine_of stored h) c max x (conn_found (bytes_over stored h.store) h c x found))
    (λ late. late) refused

pub send_done : (stored : List (List ℕ)) (h k : KernelState) (c max : ℕ) (x : Conn (List Slice)) (bytes : List ℕ)
    (sum : ℕ) → lookup h.conns c ≡ Some x → first (segment_refusals x max) ≡ None
    → bytes ≡ bytes_of (take max (text_of h.store x.outgoing)) → sum ≡ checksum bytes
    → machine_of stored k ≡ machine.with_conn (machine_of stored h) c
    (shorter max (machine.conn_at (machine_of stored h) c))
    → Step (outside.transmit (machine_of stored h) c max) (machine_of stored h) (Ok (bytes, sum))
    (machine_of stored k)
send_done stored h k c max x bytes sum found passed first' sum' is =
    let there = conn_found (bytes_over stored h.store) h c x found in
    let out : (machine.conn_at (machine_of stored h) c).outgoing ≡ text_of h.store x.outgoing =
    ap (λ (y : Connection). y.outgoing) (conn_at-is (byte_at h.store) (machine_of stored h) c x there) in
    let same : bytes ≡ bytes_of (take max (machine.conn_at (machine_of stored h) c).outgoing) =
    first' ∙ ap (λ (u : Text). bytes_of (take max u)) (sym out) in (
      sends_meant (byte_at h.store) (machine_of stored h) c max x there ∙ passed,
      (ap {B = List ℕ × ℕ} (λ n. (bytes, n)) sum' ∙ ap {B = List ℕ × ℕ} (λ bs. (bs, checksum bs)) same),
      is,
    )

-- The whole call: the first bytes are taken off, the sums change, and then the connection is removed if it is over.

never : {A : Type 0} (x : A) (p : ℕ) → ◌≡◌ {A = Result A Refusal} (Ok x) (Err (NoRoom p)) → ⊥
never x p e = cc e

module _ (h m l : KernelState) (c max : ℕ) (bytes : List ℕ) (sum : ℕ) (sound : IsSound h)
    (there : lookup h.conns c ≢ None) (passed : first (segment_refusals (conn_in h.conns c) max) ≡ None)
    (first' : bytes ≡ bytes_of (take max (text_of h.store (conn_in h.conns c).outgoing))) (sum' : sum ≡ checksum bytes)
    (rest : places (conn_in m.conns c).outgoing ≡ drop max (places (conn_in h.conns c).outgoing))
    (same : m ≡ record h {
      store = m.store;
      conns =
          changed h.conns c (record (conn_in h.conns c) { outgoing = (conn_in m.conns c).outgoing });
      sums = m.sums;
    })
    (moves : Moves h.store m.store (bufs_of (conn_in h.conns c).outgoing) (bufs_of (conn_in m.conns c).outgoing))
    (lists : SameLists h.store m.store) (frees : FreesOnly h.store m.store) (reclaims : AllReclaimed h.store
    → AllReclaimed m.store) (right : IsRight m.store.arena m.sums) where
  found : lookup h.conns c ≡ Some (conn_in h.conns c)
  found = conn_in-found h.conns c there

  abbrev less : KernelState
  less =
      turned h m.store c (conn_in h.conns c)
      (sent h m.store c max (conn_in h.conns c) (conn_in m.conns c).outgoing sound found rest moves lists frees
      (reclaims sound.reclaimed)) sound found

  less_sound : IsSound less
  less_sound = sent-sound h m.store c max (conn_in h.conns c) (conn_in m.conns c).outgoing sound found rest moves lists
      frees (reclaims sound.reclaimed)

  pub mid_sound : IsSound m
  mid_sound = subst IsSound (sym same) (summed less m.sums right less_sound)

  pub mid_there : lookup m.conns c ≢ None
  mid_there =
      subst (λ (k : KernelState). lookup k.conns c ≢ None) (sym same)
      (there-changed h.conns c (conn_in h.conns c)
      (record (conn_in h.conns c) { outgoing = (conn_in m.conns c).outgoing }) found)

  module _ (reclaimed : Leaves (λ s. machine.with_conn s c (machine.conn_at s c)) m l) where
    both : Leaves (λ s. machine.with_conn s c (shorter max (machine.conn_at s c))) h (record l { sums = h.sums })
    both = conn_left h less (record l { sums = h.sums }) c (conn_in h.conns c) (shorter max) sound found
        (sent_leaves h m.store c max (conn_in h.conns c) (conn_in m.conns c).outgoing sound found rest moves lists frees
        (reclaims sound.reclaimed))
        (sums_back (λ s. machine.with_conn s c (machine.conn_at s c)) less l m.sums less_sound
        (subst (λ (k : KernelState). Leaves (λ s. machine.with_conn s c (machine.conn_at s c)) k l) same reclaimed))

    unsummed : (f : Reading) → read_of f l ≡ read_of f (record l { sums = h.sums })
    unfolding read_of
    unsummed f = refl

    pub transmitted : UsesSent h.store (conn_in h.conns c).outgoing max h.sums l.sums
        → Transmits c max h (Ok (bytes, sum)) l
    transmitted uses = record {
      step = λ stored. send_done stored h l c max (conn_in h.conns c) bytes sum found passed first' sum'
          (unsummed (bytes_over stored l.store) ∙ both.bytes stored);
      places = λ f keeps. unsummed f ∙ both.places f keeps;
      roomy = λ p e. never (bytes, sum) p e;
      pages = both.pages;
      uses = uses;
      cache = both.cache;
      refused = tt;
      sound = reclaimed.sound;
      stays = both.stays;
    }

no_room : (o : Option Refusal) (r : Refusal) (p : ℕ) → ((q : ℕ) → o ≡ Some (NoRoom q) → ⊥)
    → MatchOption o (WantOfMemory r) (λ y. r ≡ y) → r ≡ NoRoom p → ⊥
no_room None r p never late is = subst WantOfMemory is late
no_room (Some y) r p never same is = never p (ap Some (sym same ∙ is))

two_tests : (a b : Bool) (q : ℕ) → first ((BadRange when a) ∷ (WouldBlock when b) ∷ []) ≡ Some (NoRoom q) → ⊥
two_tests true b q e = cc e
two_tests false true q e = cc e
two_tests false false q e = cc e

pub send_kept : (h k : KernelState) (c max : ℕ) (r : Refusal) → IsSound h → lookup h.conns c ≢ None
    → IsRefused (segment_refusals (conn_in h.conns c) max) WantOfMemory r → k ≡ h → Transmits c max h (Err r) k
send_kept h k c max r sound there refused same =
    subst (λ (l : KernelState). Transmits c max h (Err r) l) (sym same) (record {
      step = λ stored. send_refused stored h c max (conn_in h.conns c) r (conn_in-found h.conns c there) refused;
      places = tt;
      roomy =
          λ p e. no_room (first (segment_refusals (conn_in h.conns c) max)) r p
          (two_tests (max == 0) (byte_len (conn_in h.conns c).outgoing == 0)) refused (refusal_of r (NoRoom p) e);
      pages = pages_here h.store;
      uses = tt;
      cache = refl;
      refused = refl;
      sound = sound;
      stays = stays_here h.store;
    })

-- settling leaves the sums unchanged
pub uses_kept : {s : Stored} {queue : List Slice} {n : ℕ} {old new after : Sums} → after ≡ new
    → UsesSent s queue n old new → UsesSent s queue n old after
uses_kept {s} {queue} {n} {old} same uses = subst (λ (w : Sums). UsesSent s queue n old w) (sym same) uses
