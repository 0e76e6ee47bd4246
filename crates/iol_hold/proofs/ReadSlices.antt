-- Slices that can be read, and the bytes that are read.
use Rattle.std.proofs.Common.{◌≡◌, ℕ, ◌+◌, ◌-◌, ◌<◌, ◌≤◌, List, [], ◌∷◌, ◌++◌, map, length, take, drop, slice_index}
use Rattle.std.proofs.Common.{slice_range, refl, sym, ap, ◌∙◌, subst, arith}
use Rattle.std.specs.List.{All, range_with_len}
use Rattle.std.proofs.lemmas.List.{map-append, same_lists, get_or-take, get_or-drop, get_or_default, length-take-le}
use Rattle.std.proofs.lemmas.List.{length-drop, take_at, drop_at}
use Rattle.std.proofs.lemmas.List.Elements.{All-nil, All-append, All-take, All-drop, All-same}
use Rattle.std.proofs.lemmas.List.FromFn.{length-map-range_with_len, get_or-map-range_with_len}
use Rattle.iol_core.specs.Text as text
use Rattle.iol_arena.specs.Buffers.{IsLive, bytes_of}
use Rattle.iol_hold.specs.StoreState.{Stored, IsInPool, count_of}
use Rattle.iol_hold.specs.Moves.{Stays, Covers}
use Rattle.iol_hold.proofs.Counts.{live_of}
use Rattle.iol_hold.proofs.Moves.{covers_first, covers_later, bytes_stay}
use Rattle.iol_hold.specs.declared.slices.Slice.{Slice}
use Rattle.iol_hold.specs.Places.{Place, place_in, slice_places, places}
use Rattle.iol_hold.specs.Texts.{byte_at, text_of, IsThere, AllReadable, IsReadable, slice_bytes, bufs_of}
use Rattle.iol_hold.proofs.SlicePlaces.{places-append, places-push, length-slice_places}
use Rattle.iol_hold.proofs.AtPlaces.{length-read, read-append, read_taken, read_rest}

-- Slices that are joined and cut.

pub readable_none : (s : Stored) → AllReadable s []
readable_none s = record { each = All-nil (IsThere s) }

pub readable_joined : {s : Stored} {xs ys : List Slice} → AllReadable s xs → AllReadable s ys → AllReadable s (xs ++ ys)
readable_joined {s} {xs} {ys} h k =
    record {
      each =
          All-same (IsThere s) _ _ (places-append xs ys) (All-append (IsThere s) (places xs) (places ys) h.each k.each);
    }

-- slices at the first, or at the other, places of readable slices are readable
pub readable_taken : {s : Stored} (xs ys : List Slice) (n : ℕ) → places xs ≡ take n (places ys) → AllReadable s ys
    → AllReadable s xs
readable_taken {s} xs ys n e h =
    record { each = All-same (IsThere s) _ _ e (All-take (IsThere s) n (places ys) h.each) }

pub readable_rest : {s : Stored} (xs ys : List Slice) (n : ℕ) → places xs ≡ drop n (places ys) → AllReadable s ys
    → AllReadable s xs
readable_rest {s} xs ys n e h = record { each = All-same (IsThere s) _ _ e (All-drop (IsThere s) n (places ys) h.each) }

pub text_of-append : (s : Stored) (xs ys : List Slice) → text_of s (xs ++ ys) ≡ text_of s xs ++ text_of s ys
text_of-append s xs ys = read-append (byte_at s) xs ys

pub text_taken : (s : Stored) (xs ys : List Slice) (n : ℕ) → places xs ≡ take n (places ys)
    → text_of s xs ≡ take n (text_of s ys)
text_taken s xs ys n e = read_taken (byte_at s) xs ys n e

pub text_rest : (s : Stored) (xs ys : List Slice) (n : ℕ) → places xs ≡ drop n (places ys)
    → text_of s xs ≡ drop n (text_of s ys)
text_rest s xs ys n e = read_rest (byte_at s) xs ys n e

pub length-text_of : (s : Stored) (xs : List Slice) → length (text_of s xs) ≡ length (places xs)
length-text_of s xs = length-read (byte_at s) xs

-- One slice.

slice_there : {s : Stored} (x : Slice) (i : ℕ) → All (IsThere s) (slice_places x) → i < x.len
    → IsThere s (place_in x (x.from + i))
slice_there {s} x i h within =
    let d : Place = place_in x 0 in
    subst (IsThere s) (get_or-map-range_with_len (place_in x) x.from x.len i (x.from + i) d within refl)
    (h i d (omega (arith, length-slice_places x)))

pub readable_slice : {s : Stored} (x : Slice) → All (IsThere s) (slice_places x) → IsReadable s x
readable_slice {s} x h = record {
  live = (slice_there x 0 h x.some).live;
  home = (slice_there x 0 h x.some).home;
  within = omega (arith, (slice_there {s = s} x (x.len - 1) h (omega (arith, x.some))).within, x.some);
}

pub slice_readable : {s : Stored} (x : Slice) → IsReadable s x → All (IsThere s) (slice_places x)
slice_readable {s} x h = λ i d within.
    let small : i < x.len = omega (arith, length-slice_places x) in
    subst (IsThere s) (sym (get_or-map-range_with_len (place_in x) x.from x.len i (x.from + i) d small refl))
    (record { live = h.live; home = h.home; within = omega (arith, h.within) })

head_places : {s : Stored} (x : Slice) (xs : List Slice) → AllReadable s (x ∷ xs) → All (IsThere s) (slice_places x)
head_places {s} x xs h =
    let first : take (length (slice_places x)) (places (x ∷ xs)) ≡ slice_places x =
    take_at (slice_places x) (places xs) _ refl in
    All-same (IsThere s) _ _ (sym first) (All-take (IsThere s) (length (slice_places x)) (places (x ∷ xs)) h.each)

pub readable_first : {s : Stored} (x : Slice) (xs : List Slice) → AllReadable s (x ∷ xs) → IsReadable s x
readable_first x xs h = readable_slice x (head_places x xs h)

pub readable_later : {s : Stored} (x : Slice) (xs : List Slice) → AllReadable s (x ∷ xs) → AllReadable s xs
readable_later {s} x xs h =
    let rest : drop (length (slice_places x)) (places (x ∷ xs)) ≡ places xs =
    drop_at (slice_places x) (places xs) _ refl in
    record {
      each =
          All-same (IsThere s) _ _ (sym rest) (All-drop (IsThere s) (length (slice_places x)) (places (x ∷ xs)) h.each);
    }

-- The bytes of slices.

-- n bytes of m from i on, one by one
range_read : (m : List ℕ) (i n : ℕ) → i + n ≤ length m
    → take n (drop i m) ≡ map (λ j. slice_index m j) (range_with_len i n)
range_read m i n h =
    let f : ℕ → ℕ = λ j. slice_index m j in
    let long : length (take n (drop i m)) ≡ n = length-take-le n (drop i m) (omega (arith, length-drop i m, h)) in
    same_lists _ _ (long ∙ sym (length-map-range_with_len f i n)) (λ k d within.
    let small : k < n = omega (arith, long, within) in
    get_or-take n (drop i m) k d small ∙ get_or-drop i m k d ∙ get_or_default m (i + k) d 0 (omega (arith, h, small))
    ∙ sym (get_or-map-range_with_len f i n k (i + k) d small refl))

labelled_reads : (s : Stored) (x : Slice) (js : List ℕ)
    → map (byte_at s) (map (place_in x) js)
    ≡ text.labelled x.hold.pool (map (λ j. slice_index (bytes_of s.arena x.hold.buf) j) js)
labelled_reads s x [] = refl
labelled_reads s x (j ∷ js) = ap (λ t. byte_at s (place_in x j) ∷ t) (labelled_reads s x js)

pub text_of-slice : (s : Stored) (x : Slice) → IsReadable s x
    → map (byte_at s) (slice_places x) ≡ text.labelled x.hold.pool (slice_bytes s x)
text_of-slice s x h =
    let size : x.from + x.len - x.from ≡ x.len = omega arith in
    labelled_reads s x (range_with_len x.from x.len)
    ∙ ap (text.labelled x.hold.pool) (sym (range_read (bytes_of s.arena x.hold.buf) x.from x.len h.within)
    ∙ ap (λ n. take n (drop x.from (bytes_of s.arena x.hold.buf))) (sym size))

pub bytes_of-labelled : (p : ℕ) (w : List ℕ) → text.bytes_of (text.labelled p w) ≡ w
bytes_of-labelled p [] = refl
bytes_of-labelled p (b ∷ w) = ap (λ t. b ∷ t) (bytes_of-labelled p w)

-- One more slice.

pub readable_push : {s : Stored} (xs : List Slice) (x : Slice) → AllReadable s xs → IsReadable s x
    → AllReadable s (xs ++ x ∷ [])
readable_push {s} xs x h k =
    record {
      each =
          All-same (IsThere s) _ _ (places-push xs x)
          (All-append (IsThere s) (places xs) (slice_places x) h.each (slice_readable x k));
    }

pub text_of-push : (s : Stored) (xs : List Slice) (x : Slice) → IsReadable s x
    → text_of s (xs ++ x ∷ []) ≡ text_of s xs ++ text.labelled x.hold.pool (slice_bytes s x)
text_of-push s xs x h =
    ap (map (byte_at s)) (places-push xs x) ∙ map-append (byte_at s) (places xs) (slice_places x)
    ∙ ap (λ t. text_of s xs ++ t) (text_of-slice s x h)

-- A step after which the buffers of these slices are still held.

pub readable_cons : {s : Stored} (x : Slice) (xs : List Slice) → IsReadable s x → AllReadable s xs
    → AllReadable s (x ∷ xs)
readable_cons {s} x xs h k =
    record { each = All-append (IsThere s) (slice_places x) (places xs) (slice_readable x h) k.each }

pub slice_stays : {old new : Stored} (x : Slice) → Stays old new → IsLive new.arena x.hold.buf → IsReadable old x
    → IsReadable new x
slice_stays {old} {new} x m live h = record {
  live = live;
  home = m.homes x.hold.pool x.hold.buf h.live live h.home;
  within = omega (arith, ap length (bytes_stay old new x.hold.buf m h.live live), h.within);
}

slice_same : {old new : Stored} (x : Slice) → Stays old new → IsLive new.arena x.hold.buf → IsReadable old x
    → map (byte_at new) (slice_places x) ≡ map (byte_at old) (slice_places x)
slice_same {old} {new} x m live h =
    text_of-slice new x (slice_stays x m live h)
    ∙ ap (λ w. text.labelled x.hold.pool (slice_range w x.from (x.from + x.len)))
    (bytes_stay old new x.hold.buf m h.live live)
    ∙ sym (text_of-slice old x h)

pub readable_stays : {old new : Stored} (xs : List Slice) → Stays old new → Covers new (bufs_of xs) → AllReadable old xs
    → AllReadable new xs
readable_stays [] m c h = readable_none _
readable_stays {new = new} (x ∷ xs) m c h =
    readable_cons x xs (slice_stays x m (live_of new x.hold.buf (covers_first x.hold.buf (bufs_of xs) c))
    (readable_first x xs h)) (readable_stays xs m (covers_later x.hold.buf (bufs_of xs) c) (readable_later x xs h))

pub text_stays : {old new : Stored} (xs : List Slice) → Stays old new → Covers new (bufs_of xs) → AllReadable old xs
    → text_of new xs ≡ text_of old xs
text_stays [] m c h = refl
text_stays {old} {new} (x ∷ xs) m c h =
    map-append (byte_at new) (slice_places x) (places xs)
    ∙ ap (λ t. t ++ text_of new xs) (slice_same x m (live_of new x.hold.buf (covers_first x.hold.buf (bufs_of xs) c))
    (readable_first x xs h))
    ∙ ap (λ t. map (byte_at old) (slice_places x) ++ t)
    (text_stays xs m (covers_later x.hold.buf (bufs_of xs) c) (readable_later x xs h))
    ∙ sym (map-append (byte_at old) (slice_places x) (places xs))

-- Slices released one after another, from the last.

pub bufs_of-push : (xs ys : List Slice) (x : Slice) → xs ≡ ys ++ x ∷ [] → bufs_of xs ≡ bufs_of ys ++ x.hold.buf ∷ []
bufs_of-push xs ys x e = ap bufs_of e ∙ map-append (λ (z : Slice). z.hold.buf) ys (x ∷ [])

pub readable_last : {s : Stored} (xs : List Slice) (x : Slice) → AllReadable s (xs ++ x ∷ [])
    → AllReadable s xs × IsReadable s x
readable_last {s} [] x h = (readable_none s, readable_first x [] h)
readable_last (y ∷ ys) x h =
    let r = readable_last ys x (readable_later y (ys ++ x ∷ []) h) in
    (readable_cons y ys (readable_first y (ys ++ x ∷ []) h) r.0, r.1)

-- if a readable slice's buffer is still held, it is still in its pool
pub home_stays : {old new : Stored} (x : Slice) → Stays old new → 0 < count_of new x.hold.buf → IsReadable old x
    → IsInPool new x.hold.pool x.hold.buf
home_stays {new = new} x m held h = m.homes x.hold.pool x.hold.buf h.live (live_of new x.hold.buf held) h.home
