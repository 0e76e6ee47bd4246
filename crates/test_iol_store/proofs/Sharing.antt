-- Bytes and connections of the tests: what one call leaves is what the next one needs.
use Rattle.std.proofs.Common.{◌≡◌, ◌≢◌, ◌∙◌, ℕ, ◌≤◌, ◌<◌, ◌^◌, List, [], ◌∷◌, ◌++◌, None, Some, Option, length, take}
use Rattle.std.proofs.Common.{false, sym, ap, subst, arith}
use Rattle.std.proofs.lemmas.Bool.Decides.{nat_tests}
use Rattle.std.proofs.lemmas.List.{length-map, length-take}
use Rattle.iol_core.specs.NumberedLists.{lookup}
use Rattle.iol_pool.specs.Pools.{Pool, pool_in}
use Rattle.iol_hold.specs.StoreState.{Stored}
use Rattle.iol_hold.specs.Moves.{Covers, IsCountable, Moves}
use Rattle.iol_hold.specs.Places.{byte_len, places}
use Rattle.iol_hold.specs.Texts.{AllReadable, bufs_of}
use Rattle.iol_hold.specs.declared.slices.Slice.{Slice}
use Rattle.iol_hold.proofs.Counts.{tally_none}
use Rattle.iol_hold.proofs.Moves.{shares_move, stays_trans}
use Rattle.iol_hold.proofs.ReadSlices.{length-text_of, readable_none, readable_stays}
use Rattle.iol_agg.specs.KnownHolds.{IsHeldBy}
use Rattle.iol_agg.proofs.KnownHolds.{held_covers, held_moves, tally-few}
use Rattle.iol_pipe.specs.NewBytes.{AddsFitting, SharesFitting}
use Rattle.iol_pipe.specs.Queue.{GivesFirst}
use Rattle.iol_pipe.proofs.KnownHolds.{beside_covers, given_covers, held_pushed}
use Rattle.iol_pipe.proofs.Texts.{readable_given, readable_pushed}
use Rattle.iol_sock.specs.Connections.{Conn, new_conn}
use Rattle.iol_sock.specs.Table.{ChangesOne, ConnTable, conn_in}
use Rattle.iol_sock.proofs.WaitingList.{conn_in-there, lookup-changed}
use Rattle.test_iol_store.specs.Sharing.{IsAllThere}

pub there_covers : {s : Stored} (xs : List Slice) → IsAllThere s xs → Covers s (bufs_of xs)
there_covers xs h = held_covers h.held

pub there_countable : {s : Stored} (xs : List Slice) → IsAllThere s xs → IsCountable s (bufs_of xs)
there_countable xs h = record { each = λ b. omega (arith, h.held.each b, tally-few b xs, h.few) }

-- bytes arrived in an empty queue
pub arrived : (s t : Stored) (old xs : List Slice) (pool n : ℕ) (bytes : List ℕ) → old ≡ [] → IsHeldBy s []
    → AddsFitting s t old xs pool bytes n → IsAllThere t xs
arrived s t old xs pool n bytes empty none adds =
    let new = adds.added.slices in
    let is : xs ≡ new = adds.added.added ∙ ap (λ (l : List Slice). l ++ new) empty in
    subst (IsAllThere t) (sym is) (record {
      held = held_moves none adds.added.moves;
      readable = adds.added.readable;
      few =
          omega (
            arith,
            adds.taken,
            length-text_of t new,
            ap length adds.added.is_text,
            length-map {B = ℕ × ℕ} (take n bytes) (λ b. (b, pool)),
            length-take n bytes,
          );
    })

-- the front of them can be read
pub front_readable : {s t : Stored} (given old new : List Slice) (n d : ℕ) → IsAllThere s old
    → GivesFirst s t old given new n d → AllReadable t given
front_readable given old new n d h gives =
    readable_stays given (shares_move gives.shares).stays (given_held given old new n d h gives)
    (readable_given given old _ d n gives.given h.readable)
  where
    given_held : {s t : Stored} (given old new : List Slice) (n d : ℕ) → IsAllThere s old
        → GivesFirst s t old given new n d → Covers t (bufs_of given)
    given_held given old new n d h gives = given_covers (bufs_of new) (bufs_of given) h.held gives.shares

-- Bytes were filled, and an empty queue shared them.

pub filled_countable : {s t : Stored} (xs : List Slice) → IsHeldBy s [] → Moves s t [] (bufs_of xs)
    → byte_len xs < 2 ^ 32 → IsCountable t (bufs_of xs)
filled_countable xs none fills small =
    record { each = λ b. omega (arith, none.each b, fills.counts.each b, tally_none b, tally-few b xs) }

pub shared_covers : {s t u : Stored} (from old new : List Slice) (n : ℕ) → old ≡ [] → IsHeldBy s []
    → Moves s t [] (bufs_of from) → SharesFitting t u old new from n → Covers u (bufs_of from)
shared_covers {t = t} {u = u} from old new n empty none fills put =
    let shared : SharesFitting t u [] new from n =
    subst (λ (l : List Slice). SharesFitting t u l new from n) empty put in
    beside_covers none fills shared.shares

pub queued : {s t u v : Stored} (from old new : List Slice) (n : ℕ) → old ≡ [] → byte_len from ≤ 65536 → IsHeldBy s []
    → AllReadable t from → Moves s t [] (bufs_of from) → SharesFitting t u old new from n → Moves u v (bufs_of from) []
    → IsAllThere v new
queued {t = t} {u = u} {v = v} from old new n empty few none readable fills put gone =
    let shared : SharesFitting t u [] new from n =
    subst (λ (l : List Slice). SharesFitting t u l new from n) empty put in
    let held = held_pushed none fills shared.shares gone in
    record {
      held = held;
      readable = readable_stays new (stays_trans (shares_move shared.shares).stays gone.stays) (held_covers held)
          (readable_pushed new [] from n shared.added (readable_none t) readable);
      few = omega (arith, ap length shared.added, length-take n (places from), few);
    }

-- Connections by number.

pub first_there : {X : Type 0} (n : ℕ) (x : X) → lookup ((n, x) ∷ []) n ≡ Some x
first_there n x = grind (arith, nat_tests)

pub is_there : {X : Type 0} (o : Option X) (x : X) → o ≡ Some x → o ≢ None
is_there o x is none = some-none x is none
  where
    some-none : {X : Type 0} {o : Option X} (x : X) → o ≡ Some x → o ≡ None → ⊥
    some-none x is none = cc (is, none)

pub still_there : (t u : ConnTable) (n : ℕ) → lookup t.conns n ≢ None → ChangesOne t u n → lookup u.conns n ≢ None
still_there t u n there one =
    let y = conn_in u.conns n in
    is_there (lookup u.conns n) y (ap (λ (v : ConnTable). lookup v.conns n) one.others
    ∙ lookup-changed t.conns n y there)

-- the pool of a connection that was only made
pub open_there : (ps : List Pool) (es : List (ℕ × Conn (List Slice))) (n p : ℕ) → lookup es n ≡ Some (new_conn p)
    → (pool_in ps p).closed ≡ false → (pool_in ps (conn_in es n).pool).closed ≡ false
open_there ps es n p found opened =
    subst (λ (x : Conn (List Slice)). (pool_in ps x.pool).closed ≡ false) (sym (conn_in-there es n (new_conn p) found))
    opened
