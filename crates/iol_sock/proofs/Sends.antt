-- The first bytes of a queue, taken off, summed and released.
use Rattle.std.proofs.Common.{◌≡◌, ℕ, List, [], ◌∷◌, ◌++◌, map, length, take, ap, ◌∙◌, subst, arith, slice_index}
use Rattle.std.proofs.lemmas.List.{length-map}
use Rattle.iol_core.specs.Checksum.{word_sum, folded}
use Rattle.iol_core.specs.Text.{Text, bytes_of}
use Rattle.iol_core.specs.declared.numbers.BufId.{BufId}
use Rattle.iol_arena.specs.State.{State}
use Rattle.iol_arena.specs.Buffers as buffers
use Rattle.iol_hold.specs.StoreState.{Stored}
use Rattle.iol_hold.specs.Moves.{Covers, Moves, Shares}
use Rattle.iol_hold.specs.Places.{Place, places}
use Rattle.iol_hold.specs.Texts.{slice_bytes, text_of, bufs_of, AllReadable}
use Rattle.iol_hold.specs.declared.slices.Slice.{Slice}
use Rattle.iol_hold.proofs.Counts.{tally-append, tally_none}
use Rattle.iol_hold.proofs.Moves.{shares_move, stays_trans}
use Rattle.iol_hold.proofs.ReadSlices.{readable_stays, readable_taken, text_taken}
use Rattle.iol_sum.specs.Sums.{Sums, key_of, Uses, UsesEach}

pub length-bytes_of : (t : Text) → length (bytes_of t) ≡ length t
length-bytes_of t = length-map t (λ (b : ℕ × ℕ). b.0)

-- No page changed.

text_same : (s t : Stored) (xs : List Slice) → t.arena ≡ s.arena → text_of t xs ≡ text_of s xs
text_same s t xs e =
    ap (λ (a : State). map (λ (p : Place). (slice_index (buffers.bytes_of a p.buf) p.at, p.pool)) (places xs)) e

pub text_sent : (s t : Stored) (sent old : List Slice) (n : ℕ) → places sent ≡ take n (places old) → t.arena ≡ s.arena
    → text_of t sent ≡ take n (text_of s old)
text_sent s t sent old n e arena = text_same s t sent arena ∙ text_taken s sent old n e

bytes_same : (s t : Stored) (x : Slice) → t.arena ≡ s.arena → slice_bytes t x ≡ slice_bytes s x
bytes_same s t x e = ap (λ (a : State). slice_bytes (record { arena = a; pools = s.pools; counts = s.counts }) x) e

pub uses_same : (s t : Stored) (xs : List Slice) (old new : Sums) → t.arena ≡ s.arena → UsesEach t old xs new
    → UsesEach s old xs new
unfolding UsesEach
uses_same s t [] old new e h = h
uses_same s t (x ∷ xs) old new e h = (
  h.0,
  subst (λ w. Uses old (key_of x) (folded (word_sum w)) h.0) (bytes_same s t x e) h.1,
  uses_same s t xs h.0 new e h.2,
)

-- the slices taken off are covered, and then released
pub sent_covers : {s t : Stored} {old : List BufId} (new sent : List BufId) → Covers s old
    → Shares s t old (sent ++ new) → Covers t sent
sent_covers new sent c m = record { each = λ b. omega (arith, c.each b, m.counts.each b, tally-append b sent new) }

pub sent_moves : {s t u : Stored} {old : List BufId} (new sent : List BufId) → Shares s t old (sent ++ new)
    → Moves t u sent [] → Moves s u old new
sent_moves new sent m n = record {
  counts =
      record { each = λ b. omega (arith, m.counts.each b, n.counts.each b, tally-append b sent new, tally_none b) };
  stays = stays_trans (shares_move m).stays n.stays;
  still = λ h. n.still ((shares_move m).still h);
  tidy = λ h. n.tidy (m.tidy h);
}

pub sent_readable : {s t : Stored} (sent new old : List Slice) (n : ℕ) → places sent ≡ take n (places old)
    → Covers s (bufs_of old) → Shares s t (bufs_of old) (bufs_of sent ++ bufs_of new) → AllReadable s old
    → AllReadable t sent
sent_readable sent new old n e c m h =
    readable_stays sent (shares_move m).stays (sent_covers (bufs_of new) (bufs_of sent) c m)
    (readable_taken sent old n e h)
