-- The bytes of a write, run after run.
use Rattle.std.proofs.Common.{add-one, append_assoc, length-append, ◌≡◌, ℕ, zero, suc, ◌+◌, ◌-◌, ◌<◌, ◌≤◌, ◌^◌, ◌==◌}
use Rattle.std.proofs.Common.{Bool, true, false, cond, inl, inr, All, Ok, List, [], ◌∷◌, ◌++◌, length, map, take, drop}
use Rattle.std.proofs.Common.{get_or, slice_range, refl, sym, ap, ◌∙◌, arith, subst}
use mathlib.Core.Bool.{not}
use Rattle.std.specs.Int.{div_ceil}
use Rattle.std.specs.List.{range_with_len}
use Rattle.std.proofs.lemmas.Bool.{cases_lt}
use Rattle.std.proofs.lemmas.List.{append-nil, get_or_append_left, get_or-append-add, drop-drop, drop_at, get_or-drop}
use Rattle.std.proofs.lemmas.List.{length-drop, take_all, get_or_default, length-map, map-append, take-append-drop}
use Rattle.std.proofs.lemmas.List.{take_at, take_more}
use Rattle.std.proofs.lemmas.List.Elements.{All-append, All-map, All-nil, All-same}
use Rattle.std.proofs.lemmas.Bool.Decides.{nat_tests}
use Rattle.std.proofs.Math.Seq.{drop-cons, take-add}
use Rattle.iol_agg.proofs.KnownHolds.{tally-few}
use Rattle.iol_arena.specs.State.{State, entry_at, pages_for}
use Rattle.iol_arena.proofs.Members.{in_contains}
use Rattle.iol_arena.specs.Buffers.{Grows, IsLive, bytes_of}
use Rattle.iol_arena.specs.Chunks.{free_pages}
use Rattle.iol_arena.specs.Pages.{IsSameBut, MadeOn}
use Rattle.iol_core.specs.Text as text
use Rattle.iol_core.specs.declared.numbers.BufId.{BufId}
use Rattle.iol_extent.specs.Extents.{no_place}
use Rattle.iol_pool.specs.Pools.{Pool, pool_in}
use Rattle.iol_hold.specs.Moves.{Covers, Moves, Shares, pool_meant, tally}
use Rattle.iol_hold.proofs.Counts.{bufs-append, tally-append, tally_none}
use Rattle.iol_hold.specs.Places.{Place, byte_len, place_in, places, slice_places}
use Rattle.iol_hold.specs.Room.{free_of, has_room, lowest_of, others_of}
use Rattle.iol_hold.specs.StoreState.{AllReclaimed, IsTidy, Stored}
use Rattle.iol_hold.specs.Texts.{AllReadable, IsReadable, IsThere, bufs_of, byte_at, slice_bytes, text_of}
use Rattle.iol_hold.proofs.PageChanges.{keeps_pages_made, keeps_pages_shares}
use Rattle.iol_hold.proofs.Moves.{moves_none, moves_trans, shares_move, stays_trans}
use Rattle.iol_hold.proofs.ReadSlices.{bytes_of-labelled, length-text_of, readable_cons, readable_first}
use Rattle.iol_hold.proofs.ReadSlices.{readable_joined, readable_none, readable_rest, readable_stays, readable_taken}
use Rattle.iol_hold.proofs.ReadSlices.{text_of-append, text_stays, readable_later, text_of-push}
use Rattle.iol_hold.proofs.Rooms.{no_room_there}
use Rattle.iol_hold.specs.declared.slices.Slice.{Slice}
use Rattle.iol_hold.proofs.SlicePlaces.{byte_len-append, byte_len-cons, byte_len-take-le, places-append}
use Rattle.iol_cache.specs.Composition.{Composes, ComposesRun, IsFirstRun, KeepsOwn, MayCompose, MayCopy, copied_pages}
use Rattle.iol_cache.specs.Composition.{pages_after}
use Rattle.iol_cache.proofs.RangeReads.FilledGaps.{places_none, places_then}
use Rattle.iol_cache.specs.Loads.{PlacesOrReleases, PlacesPages}
use Rattle.iol_cache.proofs.RangeReads.PageSteps.{made_stands}
use Rattle.iol_cache.proofs.RangeReads.OnePool.{length-labelled}
use Rattle.iol_cache.proofs.RangeReads.SharedBytes.{readable_same, reclaims_shares}

-- Pages.

pub pages_for-few : (n : ℕ) → pages_for n ≤ n
unfolding pages_for
pages_for-few n = omega arith

pub pages_for-zero : pages_for 0 ≡ 0
unfolding pages_for
pages_for-zero = refl

pub pages_for-is : (n k : ℕ) → k ≡ div_ceil n 4096 → k ≡ pages_for n
unfolding pages_for
pages_for-is n k e = omega (arith, e)

pub eq_no : (m n : ℕ) → (m ≡ n → ⊥) → (m == n) ≡ false
eq_no m n h = grind (arith, nat_tests)

pub eq_yes : (m n : ℕ) → m ≡ n → (m == n) ≡ true
eq_yes m n h = grind (arith, nat_tests)

-- the next slice is of the pool, or is not
pub after_own : (run p : ℕ) (x : Slice) (xs : List Slice) → (x.hold.pool == p) ≡ true
    → pages_after run p (x ∷ xs) ≡ pages_for run + pages_after 0 p xs
after_own run p x xs h = ap (λ b. cond b (pages_for run + pages_after 0 p xs) (pages_after (run + x.len) p xs)) h

pub after_other : (run p : ℕ) (x : Slice) (xs : List Slice) → (x.hold.pool == p) ≡ false
    → pages_after run p (x ∷ xs) ≡ pages_after (run + x.len) p xs
after_other run p x xs h = ap (λ b. cond b (pages_for run + pages_after 0 p xs) (pages_after (run + x.len) p xs)) h

pub slice_next : (xs : List Slice) (i : ℕ) (x : Slice) → i < length xs → x ≡ get_or xs i x
    → drop i xs ≡ x ∷ drop (i + 1) xs
slice_next xs i x h e = drop-cons xs i x h ∙ ap (λ y. y ∷ drop (suc i) xs) (sym e)
    ∙ ap (λ k. x ∷ drop k xs) (sym (add-one i))

-- a run of the pool's own slices needs none
pub own_run : (p : ℕ) (ys rest : List Slice) → All (λ (x : Slice). (x.hold.pool == p) ≡ true) ys
    → copied_pages p (ys ++ rest) ≡ copied_pages p rest
own_run p [] rest all = refl
own_run p (y ∷ ys) rest all =
    after_own 0 p y (ys ++ rest) (all 0 y (omega arith))
    ∙ omega (arith, pages_for-zero, own_run p ys rest (λ k d h. all (suc k) d (omega arith)))

-- a run of other pools' slices needs the pages of its bytes, if a slice of the pool or no slice follows
pub other_run : (k p : ℕ) (ys rest : List Slice) → All (λ (x : Slice). (x.hold.pool == p) ≡ false) ys
    → ((d : Slice) → 0 < length rest → ((get_or rest 0 d).hold.pool == p) ≡ true)
    → pages_after k p (ys ++ rest) ≡ pages_for (k + byte_len ys) + copied_pages p rest
other_run k p [] [] all ends = ap pages_for (let e : k ≡ k + 0 = omega arith in e) ∙ omega (arith, pages_for-zero)
other_run k p [] (r ∷ rest) all ends =
    let own = ends r (omega arith) in
    after_own k p r rest own
    ∙ omega (arith, after_own 0 p r rest own, pages_for-zero, ap pages_for (let e : k ≡ k + 0 = omega arith in e))
other_run k p (y ∷ ys) rest all ends =
    after_other k p y (ys ++ rest) (all 0 y (omega arith))
    ∙ other_run (k + y.len) p ys rest (λ i d h. all (suc i) d (omega arith)) ends
    ∙ ap (λ n. pages_for n + copied_pages p rest) (let e : (k + y.len) + byte_len ys ≡ k + byte_len (y ∷ ys) =
    omega (arith, byte_len-cons y ys) in e)

-- Slices read one by one.

pub readable_drop : {s : Stored} (xs : List Slice) (i : ℕ) → AllReadable s xs → AllReadable s (drop i xs)
readable_drop {s} xs zero h = h
readable_drop {s} [] (suc i) h = h
readable_drop {s} (x ∷ xs) (suc i) h = readable_drop {s = s} xs i (readable_later {s = s} x xs h)

pub readable_at : {s : Stored} (xs : List Slice) (i : ℕ) (x : Slice) → i < length xs → x ≡ get_or xs i x
    → AllReadable s xs → IsReadable s x
readable_at {s} xs i x h e all =
    readable_first {s = s} x (drop (i + 1) xs)
    (subst (AllReadable s) (slice_next xs i x h e) (readable_drop {s = s} xs i all))

pub bytes-append : (a b : text.Text) → text.bytes_of (a ++ b) ≡ text.bytes_of a ++ text.bytes_of b
bytes-append a b = map-append (λ (x : ℕ × ℕ). x.0) a b

pub bytes_more : (s : Stored) (xs : List Slice) (i : ℕ) (x : Slice) → i < length xs → x ≡ get_or xs i x → IsReadable s x
    → text.bytes_of (text_of s (take (i + 1) xs)) ≡ text.bytes_of (text_of s (take i xs)) ++ slice_bytes s x
bytes_more s xs i x h e r =
    ap (λ ys. text.bytes_of (text_of s ys)) (take_more xs i x h ∙ ap (λ y. take i xs ++ y ∷ []) (sym e))
    ∙ ap text.bytes_of (text_of-push s (take i xs) x r)
    ∙ bytes-append (text_of s (take i xs)) (text.labelled x.hold.pool (slice_bytes s x))
    ∙ ap (λ t. text.bytes_of (text_of s (take i xs)) ++ t) (bytes_of-labelled x.hold.pool (slice_bytes s x))

-- Places of slices that are of the pool, or of others.

eq_of : (m n : ℕ) → (m == n) ≡ true → m ≡ n
eq_of m n h = grind (arith, nat_tests)

ne_of : (m n : ℕ) → (m == n) ≡ false → m ≡ n → ⊥
ne_of m n h e = (let y = eq_yes m n e in cc)

row_of : (P : ℕ → Type 0) (x : Slice) → P x.hold.pool → All (λ (l : Place). P l.pool) (slice_places x)
row_of P x h = All-map (λ (l : Place). P l.pool) (place_in x) (range_with_len x.from x.len) (λ k d within. h)

pub pools_of : (P : ℕ → Type 0) (xs : List Slice) → All (λ (x : Slice). P x.hold.pool) xs
    → All (λ (l : Place). P l.pool) (places xs)
pools_of P [] all = All-nil (λ (l : Place). P l.pool)
pools_of P (x ∷ xs) all =
    All-append (λ (l : Place). P l.pool) (slice_places x) (places xs) (row_of P x (all 0 x (omega arith)))
    (pools_of P xs (λ k d h. all (suc k) d (omega arith)))

pub own_places : (p : ℕ) (xs : List Slice) → All (λ (x : Slice). (x.hold.pool == p) ≡ true) xs
    → All (λ (l : Place). l.pool ≡ p) (places xs)
own_places p xs all = pools_of (λ n. n ≡ p) xs (λ k d h. eq_of (get_or xs k d).hold.pool p (all k d h))

pub other_places : (p : ℕ) (xs : List Slice) → All (λ (x : Slice). (x.hold.pool == p) ≡ false) xs
    → All (λ (l : Place). l.pool ≡ p → ⊥) (places xs)
other_places p xs all = pools_of (λ n. n ≡ p → ⊥) xs (λ k d h. ne_of (get_or xs k d).hold.pool p (all k d h))

-- bytes at places of one pool have that pool's label
pub own_text : (s : Stored) (p : ℕ) (ls : List Place) → All (λ (l : Place). l.pool ≡ p) ls
    → map (byte_at s) ls ≡ text.labelled p (text.bytes_of (map (byte_at s) ls))
own_text s p [] all = refl
own_text s p (l ∷ ls) all =
    let here = all 0 l (omega arith) in
    let rest = own_text s p ls (λ k d h. all (suc k) d (omega arith)) in
    λ i. ((byte_at s l).0, here i) ∷ rest i

-- Runs composed.

pub room_free : (s : Stored) (p n : ℕ) → has_room s p n ≡ true → pages_for n ≤ length (free_of s p)
room_free s p n h = elim (cases_lt (length (free_of s p)) (pages_for n)) [
  | inl l ↦ absurd (let e = no_room_there s p n l in cc)
  | inr l ↦ l
]

live_slices : {s : Stored} (xs : List Slice) → AllReadable s xs → All (IsLive s.arena) (bufs_of xs)
live_slices {s} xs all =
    All-map (IsLive s.arena) (λ (x : Slice). x.hold.buf) xs
    (λ k d h. (readable_at {s = s} xs k (get_or xs k d) h (get_or_default xs k d (get_or xs k d) h) all).live)

pub length-bytes : (s : Stored) (xs : List Slice) → length (text.bytes_of (text_of s xs)) ≡ byte_len xs
length-bytes s xs = length-map (text_of s xs) (λ (x : ℕ × ℕ). x.0) ∙ length-text_of s xs

pub composes_copied : {s t : Stored} {p : ℕ} {run out : List Slice} (n : ℕ) → n ≡ byte_len run
    → All (λ (x : Slice). (x.hold.pool == p) ≡ false) run → IsTidy s → Moves s t [] (bufs_of out)
    → text_of t out ≡ text.labelled p (text.bytes_of (text_of s run)) → AllReadable t out
    → MadeOn s.arena t.arena (bufs_of out) (lowest_of s p n) → IsSameBut (lowest_of s p n) s.arena t.arena
    → Grows s.arena t.arena
    → t.pools ≡ s.pools → free_pages t.arena (pool_in s.pools p).chunks ≡ others_of s p n → has_room s p n ≡ true
    → (AllReclaimed s → AllReclaimed t) → Composes s t p (pages_for (byte_len run)) run out
composes_copied {s} {t} {p} {run} {out} n long others tidy moves is readable made but grows pools free room reclaims =
    let same : byte_len out ≡ byte_len run = sym (length-text_of t out) ∙ ap length is
    ∙ length-labelled p (text.bytes_of (text_of s run)) ∙ length-bytes s run in
    record {
      moves = moves;
      is = is;
      own = record { long = same; each = λ i h e. absurd (other_places p run others i no_place h e) };
      readable = readable;
      pages = subst (λ k. PlacesPages s t p (pages_for k)) long (record {
        enough = room_free s p n room;
        pages = keeps_pages_made made but grows pools;
        filled = made_stands made (live_slices {s = t} out readable) (moves.tidy tidy).runs;
        others = but;
        free = ap (λ (ps : List Pool). free_pages t.arena (pool_in ps p).chunks) pools ∙ free;
        pools = pools;
      });
      reclaims = reclaims;
    }

-- slices that were shared
pub composes_shared : {s t : Stored} {p : ℕ} {run out : List Slice} → All (λ (x : Slice). (x.hold.pool == p) ≡ true) run
    → places out ≡ places run → Shares s t [] (bufs_of out) → AllReadable s run → Composes s t p 0 run out
composes_shared {s} {t} {p} {run} {out} own same shares readable =
    let there = readable_same s t run shares.arena shares.pools readable in
    record {
      moves = shares_move shares;
      is = ap (map (byte_at t)) same ∙ ap (λ (a : State). map (byte_in a) (places run)) shares.arena
          ∙ own_text s p (places run) (own_places p run own);
      own = record { long = ap length same; each = λ i h e. ap (λ (l : List Place). get_or l i no_place) same };
      readable = record { each = All-same (IsThere t) _ _ same there.each };
      pages = record {
        enough = omega arith;
        pages = keeps_pages_shares shares;
        filled = λ q h. absurd (in_contains [] q h);
        others = record { each = λ q out. ap (λ (a : State). entry_at a q) shares.arena };
        free = ap (λ (ps : List Pool). free_pages t.arena (pool_in ps p).chunks) shares.pools
            ∙ ap (λ (a : State). free_pages a (pool_in s.pools p).chunks) shares.arena;
        pools = shares.pools;
      };
      reclaims = reclaims_shares shares;
    }
  where
    byte_in : State → Place → ℕ × ℕ
    byte_in a l = (get_or (bytes_of a l.buf) l.at 0, l.pool)

-- the places of a run of slices
pub run_places : (xs : List Slice) (i n : ℕ)
    → slice_range (places xs) (byte_len (take i xs)) (byte_len (take i xs) + byte_len (take n (drop i xs)))
    ≡ places (take n (drop i xs))
run_places xs i n =
    let a = take i xs in
    let b = take n (drop i xs) in
    let c = drop n (drop i xs) in
    let whole : places xs ≡ places a ++ (places b ++ places c) =
    ap places (sym (take-append-drop i xs)) ∙ places-append a (drop i xs)
    ∙ ap (λ l. places a ++ l) (ap places (sym (take-append-drop n (drop i xs))) ∙ places-append b c) in
    let size : (byte_len a + byte_len b) - byte_len a ≡ byte_len b = omega arith in
    ap (λ k. take k (drop (byte_len a) (places xs))) size
    ∙ ap (take (byte_len b)) (ap (drop (byte_len a)) whole
    ∙ drop_at (places a) (places b ++ places c) (byte_len a) refl)
    ∙ take_at (places b) (places c) (byte_len b) refl

-- the run, and the remaining slices
pub run_splits : (xs : List Slice) (i n : ℕ) → drop i xs ≡ take n (drop i xs) ++ drop (i + n) xs
run_splits xs i n = sym (take-append-drop n (drop i xs)) ∙ ap (λ l. take n (drop i xs) ++ l) (drop-drop n i xs)

-- a maximal run of slices of one kind
pub record IsRun (xs : List Slice) (i p n count : ℕ) (own : Bool) : Type 0 where
  pub within : i + n ≤ length xs
  pub some : 0 < n
  pub bytes : count ≡ byte_len (take n (drop i xs))
  pub few : byte_len (take i xs) + count ≤ byte_len xs
  pub long : byte_len (take i xs) + count ≡ byte_len (take (i + n) xs)
  pub all : All (λ (x : Slice). (x.hold.pool == p) ≡ own) (take n (drop i xs))
  pub ends : (d : Slice) → 0 < length (drop (i + n) xs) → ((get_or (drop (i + n) xs) 0 d).hold.pool == p) ≡ not own

not_both : (b : Bool) → b ≡ not b → ⊥
not_both true h = cc
not_both false h = cc

pub all_rest : (ys xs : List Slice) (i : ℕ) → ys ≡ xs → take (length ys - i) (drop i ys) ≡ drop i xs
all_rest ys xs i e = take_all (length ys - i) (drop i ys) (omega (arith, length-drop i ys)) ∙ ap (drop i) e

pub is_run : (ys xs : List Slice) (i p n count : ℕ) (own : Bool) (x : Slice) → ys ≡ xs → i < length xs
    → x ≡ get_or ys i x → (x.hold.pool == p) ≡ own → IsFirstRun p own (take (length ys - i) (drop i ys)) n count
    → IsRun xs i p n count own
is_run ys xs i p n count own x same there at kind first =
    let r = subst (λ (l : List Slice). IsFirstRun p own l n count) (all_rest ys xs i same) first in
    let next = slice_next xs i x there (at ∙ ap (λ (l : List Slice). get_or l i x) same) in
    let joined : take (i + n) xs ≡ take i xs ++ take n (drop i xs) = take-add i n xs in
    let long : byte_len (take i xs) + count ≡ byte_len (take (i + n) xs) =
    omega (arith, r.bytes, ap byte_len joined, byte_len-append (take i xs) (take n (drop i xs))) in
    record {
      within = omega (arith, r.within, length-drop i xs, there);
      some = some_of n next r.ends kind;
      bytes = r.bytes;
      few = omega (arith, long, byte_len-take-le xs (i + n));
      long = long;
      all = r.all;
      ends = λ d h. ap (λ (y : Slice). y.hold.pool == p) (first_rest xs i n d)
          ∙ r.ends d (omega (arith, h, length-drop (i + n) xs, length-drop i xs));
    }
  where
    some_of : (n : ℕ) → drop i xs ≡ x ∷ drop (i + 1) xs
        → ((d : Slice) → n < length (drop i xs) → ((get_or (drop i xs) n d).hold.pool == p) ≡ not own)
        → (x.hold.pool == p) ≡ own → 0 < n
    some_of zero next f kind =
        absurd
        (not_both own (sym kind
        ∙ subst (λ (l : List Slice). (d : Slice) → 0 < length l → ((get_or l 0 d).hold.pool == p) ≡ not own) next f x
        (omega arith)))
    some_of (suc n) next f kind = omega arith

    first_rest : (xs : List Slice) (i n : ℕ) (d : Slice) → get_or (drop (i + n) xs) 0 d ≡ get_or (drop i xs) n d
    first_rest xs i n d = get_or-drop (i + n) xs 0 d
        ∙ ap (λ k. get_or xs k d) (let e : i + n + 0 ≡ i + n = omega arith in e) ∙ sym (get_or-drop i xs n d)

pub readable_take : {s : Stored} (xs ys : List Slice) (n : ℕ) → xs ≡ take n ys → AllReadable s ys → AllReadable s xs
readable_take {s} xs ys n e h = subst (AllReadable s) (sym e) (first {s = s} ys n h)
  where
    first : {s : Stored} (ys : List Slice) (n : ℕ) → AllReadable s ys → AllReadable s (take n ys)
    first {s} ys zero h = readable_none s
    first {s} [] (suc n) h = h
    first {s} (y ∷ ys) (suc n) h =
        readable_cons {s = s} y (take n ys) (readable_first {s = s} y ys h)
        (first {s = s} ys n (readable_later {s = s} y ys h))

-- a run of others may be copied
pub may_copy : {s : Stored} {n p : ℕ} {xs : List Slice} {i k count : ℕ} → MayCompose s n p xs
    → IsRun xs i p k count false → MayCopy s p (take k (drop i xs))
may_copy {s} {n} {p} {xs} {i} {k} may r = record {
  opened = may.opened;
  small = omega (arith, r.bytes, r.few, may.small);
  readable = readable_take _ (drop i xs) k refl (readable_drop xs i may.readable);
  tidy = may.tidy;
  others = r.all;
}

pub byte_len-drop-le : (xs : List Slice) (i : ℕ) → byte_len (drop i xs) ≤ byte_len xs
byte_len-drop-le xs i = omega (arith, ap byte_len (take-append-drop i xs), byte_len-append (take i xs) (drop i xs))

-- One run after another.

own_append : (p : ℕ) (a b c d : List Place) → KeepsOwn p a b → KeepsOwn p c d → KeepsOwn p (a ++ c) (b ++ d)
own_append p a b c d m n = record {
  long = length-append b d ∙ omega (arith, m.long, n.long, length-append a c);
  each = λ i h e. elim (cases_lt i (length a)) [
    | inl l ↦ (
        let x : get_or (a ++ c) i no_place ≡ get_or a i no_place = get_or_append_left a c no_place i l in
        let y : get_or (b ++ d) i no_place ≡ get_or b i no_place =
        get_or_append_left b d no_place i (omega (arith, l, m.long)) in
        y ∙ m.each i l (ap (λ (q : Place). q.pool) (sym x) ∙ e) ∙ sym x)
    | inr l ↦ (
        let k = i - length a in
        let x : get_or (a ++ c) i no_place ≡ get_or c k no_place =
        ap (λ z. get_or (a ++ c) z no_place) (let e : i ≡ length a + k = omega (arith, l) in e)
        ∙ get_or-append-add a c k no_place in
        let y : get_or (b ++ d) i no_place ≡ get_or d k no_place =
        ap (λ z. get_or (b ++ d) z no_place) (let e : i ≡ length b + k = omega (arith, l, m.long) in e)
        ∙ get_or-append-add b d k no_place in
        y ∙ n.each k (omega (arith, h, l, length-append a c)) (ap (λ (q : Place). q.pool) (sym x) ∙ e) ∙ sym x)
  ];
}

own_none : (p : ℕ) → KeepsOwn p [] []
own_none p = record { long = refl; each = λ i h e. refl }

pub composes_none : (s : Stored) (p : ℕ) → Composes s s p 0 [] []
composes_none s p = record {
  moves = moves_none s;
  is = refl;
  own = own_none p;
  readable = readable_none s;
  pages = places_none s p;
  reclaims = λ h. h;
}

labelled-append : (p : ℕ) (a b : List ℕ) → text.labelled p (a ++ b) ≡ text.labelled p a ++ text.labelled p b
labelled-append p a b = map-append (λ b. b_with p b) a b
  where
    b_with : ℕ → ℕ → ℕ × ℕ
    b_with p b = (b, p)

pub composes_then : {s t u : Stored} {p k n : ℕ} {xs ys out more : List Slice} → Composes s t p k xs out
    → Composes t u p n ys more → AllReadable s ys → Covers t (bufs_of ys)
    → Composes s u p (k + n) (xs ++ ys) (out ++ more)
composes_then {s} {t} {u} {p} {k} {n} {xs} {ys} {out} {more} a b readable held =
    let kept : Covers u (bufs_of out) =
    record { each = λ x. omega (arith, a.moves.counts.each x, b.moves.counts.each x, tally_none x) } in
    let same : text_of t ys ≡ text_of s ys = text_stays {old = s} {new = t} ys a.moves.stays held readable in
    record {
      moves = subst (λ bs. Moves s u [] bs) (sym (bufs-append out more)) (moves_trans a.moves b.moves);
      is = text_of-append u out more
          ∙ ap (λ l. l ++ text_of u more) (text_stays {old = t} {new = u} out b.moves.stays kept a.readable ∙ a.is)
          ∙ ap (λ l. text.labelled p (text.bytes_of (text_of s xs)) ++ l) (b.is
          ∙ ap (λ l. text.labelled p (text.bytes_of l)) same)
          ∙ sym (ap (λ l. text.labelled p (text.bytes_of l)) (text_of-append s xs ys)
          ∙ ap (text.labelled p) (bytes-append (text_of s xs) (text_of s ys))
          ∙ labelled-append p (text.bytes_of (text_of s xs)) (text.bytes_of (text_of s ys)));
      own = subst (λ (l : List Place). KeepsOwn p l (places (out ++ more))) (sym (places-append xs ys))
          (subst (λ (l : List Place). KeepsOwn p (places xs ++ places ys) l) (sym (places-append out more))
          (own_append p (places xs) (places out) (places ys) (places more) a.own b.own));
      readable = readable_joined {s = u} (readable_stays {old = t} {new = u} out b.moves.stays kept a.readable)
          b.readable;
      pages = places_then a.pages b.pages;
      reclaims = λ h. b.reclaims (a.reclaims h);
    }

parts_both : {s : Stored} (xs ys : List Slice) → Covers s (bufs_of (xs ++ ys)) → Covers s (bufs_of ys)
parts_both xs ys c =
    record {
      each =
          λ b. omega (arith, c.each b, ap (tally b) (bufs-append xs ys), tally-append b (bufs_of xs) (bufs_of ys));
    }

readable_right : {s : Stored} (xs ys : List Slice) → AllReadable s (xs ++ ys) → AllReadable s ys
readable_right {s} xs ys h =
    readable_rest {s = s} ys (xs ++ ys) (length (places xs))
    (sym (ap (drop (length (places xs))) (places-append xs ys)
    ∙ drop_at (places xs) (places ys) (length (places xs)) refl)) h

readable_left : {s : Stored} (xs ys : List Slice) → AllReadable s (xs ++ ys) → AllReadable s xs
readable_left {s} xs ys h =
    readable_taken {s = s} xs (xs ++ ys) (length (places xs))
    (sym (ap (take (length (places xs))) (places-append xs ys)
    ∙ take_at (places xs) (places ys) (length (places xs)) refl)) h

covers_left : {s : Stored} (xs ys : List Slice) → Covers s (bufs_of (xs ++ ys)) → Covers s (bufs_of xs)
covers_left xs ys c =
    record {
      each =
          λ b. omega (arith, c.each b, ap (tally b) (bufs-append xs ys), tally-append b (bufs_of xs) (bufs_of ys));
    }

pub run_none : (s : Stored) (p : ℕ) (xs : List Slice) → ComposesRun s s p xs xs []
run_none s p xs = record { run = []; splits = refl; count = 0; pages = omega arith; composes = composes_none s p }

pub run_then : {s t u : Stored} {p : ℕ} {a b c out more : List Slice} → AllReadable s a → Covers t (bufs_of a)
    → ComposesRun s t p a b out → ComposesRun t u p b c more → ComposesRun s u p a c (out ++ more)
run_then {s} {t} {u} {p} {a} {b} {c} {out} {more} readable held m n =
    let whole : a ≡ m.run ++ (n.run ++ c) = m.splits ∙ ap (λ l. m.run ++ l) n.splits in
    let r =
    readable_left {s =
    s} n.run c (readable_right {s = s} m.run (n.run ++ c) (subst (AllReadable s) whole readable)) in
    let h =
    covers_left {s =
    t} n.run c
    (parts_both {s = t} m.run (n.run ++ c) (subst (λ (l : List Slice). Covers t (bufs_of l)) whole held)) in
    record {
      run = m.run ++ n.run;
      splits = whole ∙ sym (append_assoc m.run n.run c);
      count = m.count + n.count;
      pages = omega (arith, m.pages, n.pages);
      composes = composes_then m.composes n.composes r h;
    }

pub run_all : {s t : Stored} {p : ℕ} {xs out : List Slice} (left : List Slice) → left ≡ []
    → ComposesRun s t p xs left out → Composes s t p (copied_pages p xs) xs out
run_all {s} {t} {p} {xs} {out} left none m =
    let is : m.run ≡ xs = sym (append-nil m.run) ∙ ap (λ l. m.run ++ l) (sym none) ∙ sym m.splits in
    let n : m.count ≡ copied_pages p xs = omega (arith, m.pages, ap (copied_pages p) none, pages_for-zero) in
    subst (λ k. Composes s t p k xs out) n (subst (λ (l : List Slice). Composes s t p m.count l out) is m.composes)

-- the composed bytes have the length of the source
pub composed_long : {s t : Stored} {p k : ℕ} {xs out : List Slice} → Composes s t p k xs out
    → byte_len out ≡ byte_len xs
composed_long m = m.own.long

-- Runs that are released.

pub gone_both : {s t u v w : Stored} {xs ys : List BufId} → Moves s t [] xs → Moves t u [] ys → Moves u v xs []
    → Moves v w ys [] → Moves s w [] []
gone_both a b c d = record {
  counts =
      record {
        each =
            λ x. omega (arith, a.counts.each x, b.counts.each x, c.counts.each x, d.counts.each x, tally_none x);
      };
  stays = stays_trans a.stays (stays_trans b.stays (stays_trans c.stays d.stays));
  still = λ h. d.still (c.still (b.still (a.still h)));
  tidy = λ h. d.tidy (c.tidy (b.tidy (a.tidy h)));
}

pub covers_first : {s t u : Stored} {xs ys : List BufId} → Moves s t [] xs → Moves t u [] ys → Covers u xs
covers_first a b = record { each = λ x. omega (arith, a.counts.each x, b.counts.each x, tally_none x) }

pub covers_second : {s t u v : Stored} {xs ys : List BufId} → Moves s t [] xs → Moves t u [] ys → Moves u v xs []
    → Covers v ys
covers_second a b c =
    record { each = λ x. omega (arith, a.counts.each x, b.counts.each x, c.counts.each x, tally_none x) }

pub covers_source : {s t : Stored} {xs ys : List BufId} → Covers s ys → Moves s t [] xs → Covers t ys
covers_source c a = record { each = λ x. omega (arith, c.each x, a.counts.each x, tally_none x) }

-- The source, after the first of its runs.

pub may_advance : {s t : Stored} {p : ℕ} {xs left out : List Slice} → MayCompose s (2 ^ 62) p xs
    → ComposesRun s t p xs left out → MayCompose t (2 ^ 62 + 2 ^ 32) p xs
may_advance {s} {t} {p} {xs} {left} {out} may m =
    let moves = m.composes.moves in
    let held = covers_source may.covered moves in
    let long : byte_len out ≤ byte_len xs =
    omega (arith, composed_long m.composes, ap byte_len m.splits, byte_len-append m.run left) in
    record {
      opened = ap (λ (ps : List Pool). (pool_in ps p).closed) m.composes.pages.pools ∙ may.opened;
      small = may.small;
      covered = held;
      few =
          record {
            each =
                λ b. omega (arith, may.few.each b, moves.counts.each b, tally_none b, tally-few b out, long, may.small);
          };
      readable = readable_stays {old = s} {new = t} xs moves.stays held may.readable;
      tidy = moves.tidy may.tidy;
    }

-- all of it is placed
pub composed : {A : Type 0} {s t : Stored} {p n : ℕ} {xs out : List Slice} {a : A} → Composes s t p n xs out
    → PlacesOrReleases p n s t (Ok a)
composed m = record {
  none = tt;
  given_back = tt;
  lists = ap (map pool_meant) m.pages.pools;
  reclaims =
      m.reclaims;
  no_room = tt;
}
