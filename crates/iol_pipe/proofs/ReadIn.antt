-- The bytes of one read in a new buffer, or a page that is free again.
use Rattle.std.proofs.Common.{◌≡◌, inl, inr, ℕ, nat_le, ◌+◌, ◌*◌, ◌<◌, ◌≤◌, Bool, true, false, ◌&&◌, Option, Some, None}
use Rattle.std.proofs.Common.{Ok, List, [], ◌∷◌, length, get_or, take, drop, refl, sym, ap, ◌∙◌, subst, arith}
use Rattle.std.proofs.Common.{append-nil}
use Rattle.std.specs.List.{Contains, All, flat_map}
use Rattle.std.specs.Io.KnownBytes.{Consumes, Keeps}
use Rattle.std.proofs.lemmas.List.{length-take, length-drop, take-take, take_all, length-take-le}
use Rattle.iol_arena.specs.State.{State, entry_at, kind_free, pages_for, with_bytes}
use Rattle.iol_arena.specs.Buffers.{bytes_in, IsUnraised}
use Rattle.iol_arena.specs.Pages.{AreUsable, IsSameBut, MadeOn}
use Rattle.iol_arena.specs.Parts.{AreApart, WritesKeep, no_part, part_bytes, part_pages, part_room, needed_pages}
use Rattle.iol_arena.specs.declared.pages.Part.{Part}
use Rattle.iol_arena.specs.declared.pages.Entry.{Entry}
use Rattle.iol_arena.specs.declared.pages.PageKind as kind
use Rattle.iol_arena.specs.declared.pages.PageKind.TheVariants.{Free, Pending, Head, Tail}
use Rattle.iol_arena.proofs.Grows.{grows_trans}
use Rattle.iol_arena.proofs.NewBuffers.{made_since, made_none, same_but_trans, same_but_entries}
use Rattle.iol_arena.proofs.Members.{in_or_out, in_contains, contains_in}
use Rattle.iol_arena.proofs.Over.{over_from-there}
use Rattle.iol_pool.specs.Pools.{Pool, pool_in}
use Rattle.iol_hold.specs.StoreState.{Stored, Buffer, IsTidy, held_bufs, with_arena}
use Rattle.iol_hold.specs.Moves.{Moves}
use Rattle.iol_hold.specs.Pages.{KeepsPages}
use Rattle.iol_hold.specs.Room.{has_room, free_of, lowest_of, pages_of, pinned}
use Rattle.iol_hold.specs.Texts.{IsFilled}
use Rattle.iol_hold.specs.PendingPages.{Fills, Publishes}
use Rattle.iol_hold.proofs.EmptyPools.{all_reclaimed_placed}
use Rattle.iol_hold.proofs.PageChanges.{keeps_pages_made}
use Rattle.iol_hold.proofs.Reservations.{fill_publish, fills_trans, same_fills}
use Rattle.iol_hold.proofs.Rooms.{no_pages}
use Rattle.iol_hold.specs.Places.{byte_len}
use Rattle.iol_hold.specs.declared.slices.Slice.{Slice}
use Rattle.iol_hold.proofs.ReadSlices.{readable_none}
use Rattle.iol_core.specs.Text as text
use Rattle.iol_agg.proofs.Wholes.{whole_texts-one}
use Rattle.iol_pipe.specs.NewBytes.{AddsWhole}
use Rattle.iol_pipe.specs.Arrivals.{listed, IsOneRead, MakesRead, MayRead, ReadsIn, ReadsOnce}
use Rattle.iol_pipe.specs.declared.arrive.Arrived.{Arrived}
use Rattle.iol_pipe.proofs.PartCounts.{few_made, parts_few}
use Rattle.iol_pipe.proofs.Wholes.{length_added}

-- at least one byte, and at most a page of them, need one page
pub one_page : (n : ℕ) → 0 < n → n ≤ 4096 → pages_for n ≡ 1
unfolding pages_for
one_page n some few = omega (arith, some, few)

pub room_for_one : (s : Stored) (pool n : ℕ) → 0 < n → n ≤ 4096 → has_room s pool n ≡ has_room s pool 1
room_for_one s pool n some few =
    ap (λ k. nat_le (pinned s pool + k) (length (pages_of s pool))) (one_page n some few
    ∙ sym (one_page 1 (omega arith) (omega arith)))

-- a reader that failed gave no bytes
pub kept_consumes : (a b : Option (List ℕ)) → Keeps a b → Consumes a b []
kept_consumes None b h = tt
kept_consumes (Some x) None h = absurd h
kept_consumes (Some x) (Some y) h = sym h

-- One part of one page.

bytes_of_one : (a : State) (ps : List Part) → 0 < length ps → length ps ≤ 1
    → flat_map (part_bytes a) ps ≡ part_bytes a (get_or ps 0 no_part)
bytes_of_one a [] some few = absurd (omega (arith, some))
bytes_of_one a (p ∷ []) some few = append-nil (part_bytes a p)
bytes_of_one a (p ∷ q ∷ ps) some few = absurd (omega (arith, few))

written_there : (a : State) (p : Part) (w : List ℕ) → 0 < length w → length w ≡ part_room p
    → length (part_bytes a p) ≡ part_room p → part_bytes (with_bytes a p.first w) p ≡ w
written_there a p w some long room =
    let i : ℕ = p.first * 4096 in
    let inside = length-take (part_room p) (drop i a.memory) in
    let rest = length-drop i a.memory in
    over_from-there i w a.memory (part_room p) (omega (arith, long)) (omega (arith, some, long, room, inside, rest))
    ∙ take_all (part_room p) w (omega (arith, long))

and_left : (a b : Bool) → (a && b) ≡ true → a ≡ true
and_left true b e = refl
and_left false b e = e

is_free : (k : kind.PageKind) → kind_free k ≡ true → k ≡ Free
is_free Free e = refl
is_free Pending e = absurd (cc)
is_free (Head n) e = absurd (cc)
is_free (Tail p) e = absurd (cc)

-- s is the store before the pages were reserved, u with the pages reserved, v after the bytes w were written, and t
-- after publication.
module _ (s u t : Stored) (parts : List Part) (pool n : ℕ) (w : List ℕ)
    (fills : Fills s u parts) (pages : part_pages parts ≡ lowest_of s pool n)
    (others : IsSameBut (part_pages parts) s.arena u.arena) (apart : AreApart 0 parts) (some : 0 < length parts)
    (positive : 0 < n) (few : n ≤ 4096) (long : length w ≡ part_room (get_or parts 0 no_part)) (filled : 0 < length w)
    (keeps : WritesKeep u.arena (get_or parts 0 no_part)) where
  abbrev first : Part
  first = get_or parts 0 no_part

  abbrev v : Stored
  v = with_arena u (with_bytes u.arena first.first w)

  one : length parts ≤ 1
  one =
      omega (
        arith,
        parts_few 0 parts apart,
        ap length pages,
        length-take (pages_for n) (free_of s pool),
        one_page n positive few,
      )

  written : Fills s v parts
  written =
      fills_trans fills
      (same_fills u (with_bytes u.arena first.first w) parts refl (keeps.each w (omega (arith, long))))

  all_others : IsSameBut (part_pages parts) v.arena t.arena → IsSameBut (lowest_of s pool n) s.arena t.arena
  all_others after =
      subst (λ l. IsSameBut l s.arena t.arena) pages
      (same_but_trans others (same_but_trans (same_but_entries (part_pages parts) refl) after))

  -- `len` bytes were published
  pub read_made : (left after : Option (List ℕ)) (holds : List Buffer) (len : ℕ) → 0 < len → len ≤ n → len ≤ length w
      → length (part_bytes u.arena first) ≡ part_room first
      → Consumes left after (take len w) → Publishes v t parts (held_bufs holds) → IsTidy t
      → bytes_in t.arena (held_bufs holds) ≡ take len (flat_map (part_bytes v.arena) parts)
      → All (IsFilled t) holds → All (λ (h : Buffer). h.pool ≡ pool) holds → length holds ≤ length parts
      → MadeOn v.arena t.arena (held_bufs holds) (needed_pages parts len)
      → IsSameBut (part_pages parts) v.arena t.arena
      → MakesRead left after s t holds pool len
  read_made left after holds len more within inside room given publishes tidy value whole home count made after_others =
      let bytes : List ℕ = take len w in
      let size : length bytes ≡ len = length-take-le len w (omega (arith, within, inside)) in
      let same : lowest_of s pool n ≡ lowest_of s pool (length bytes) =
      ap (λ k. take k (free_of s pool)) (one_page n positive few
      ∙ sym (one_page (length bytes) (omega (arith, size, more)) (omega (arith, size, within, few)))) in
      let needed : needed_pages parts len ≡ lowest_of s pool (length bytes) =
      ap (take (pages_for len)) pages
      ∙ take-take (pages_for len) (pages_for n) (free_of s pool)
      (omega (arith, one_page len more (omega (arith, within, few)), one_page n positive few))
      ∙ ap (λ k. take (pages_for k) (free_of s pool)) (sym size) in
      let on : MadeOn s.arena t.arena (held_bufs holds) (lowest_of s pool (length bytes)) =
      subst (λ l. MadeOn s.arena t.arena (held_bufs holds) l) needed (made_since written.unraised made) in
      let rest = all_others after_others in
      record {
        bytes = bytes;
        count = size;
        given = given;
        home = home;
        filled = whole;
        few = omega (arith, count, one);
        value =
            value
            ∙ ap (take len) (bytes_of_one v.arena parts some one ∙ written_there u.arena first w filled long room);
        moves = fill_publish written publishes tidy;
        made_on = on;
        pages =
            keeps_pages_made on (subst (λ l. IsSameBut l s.arena t.arena) same rest)
            (grows_trans written.grows publishes.grows) (publishes.pools ∙ written.pools);
        reclaims = all_reclaimed_placed s t (pool_in s.pools pool).chunks (pages_for n) (publishes.pools
            ∙ written.pools) rest;
        pools = publishes.pools ∙ written.pools;
      }

  -- no byte was published
  pub none_made : (left after : Option (List ℕ)) → Consumes left after [] → Publishes v t parts [] → IsTidy t
      → IsUnraised v.arena t.arena → IsSameBut (part_pages parts) v.arena t.arena → AreUsable t.arena (part_pages parts)
      → MakesRead left after s t [] pool 0
  none_made left after given publishes tidy unraised after_others returned =
      let pools = publishes.pools ∙ written.pools in
      let grows = grows_trans written.grows publishes.grows in
      let incremented = λ (q : ℕ). unraised q ∙ written.unraised q in
      let rest = all_others after_others in
      let none : (q : ℕ) → Contains (let l : List ℕ = [] in l) q → ⊥ = λ q h. in_contains [] q h in
      record {
        bytes = [];
        count = refl;
        given = given;
        home = λ k d h. absurd (omega (arith, h));
        filled = λ k d h. absurd (omega (arith, h));
        few = omega arith;
        value = refl;
        moves = fill_publish written publishes tidy;
        made_on = made_since incremented (made_none t.arena (free_of s pool));
        pages = subst (KeepsPages s t) (sym (ap (λ k. take k (free_of s pool)) no_pages)) (record {
          count = grows.count;
          limit = grows.limit;
          raises = record { incremented = λ q h. absurd (none q h); kept = λ q out. incremented q };
          others = λ q out. elim (in_or_out (part_pages parts) q) [
            | inl i ↦
                inr
                (is_free (entry_at t.arena q).kind
                (and_left (kind_free (entry_at t.arena q).kind) _
                (returned.each q (contains_in (part_pages parts) q i))))
            | inr o ↦
                inl
                (ap (λ (e : Entry). e.kind)
                (rest.each q (λ h. o (in_contains (part_pages parts) q (subst (λ l. Contains l q) (sym pages) h)))))
          ];
          chunks = λ p was is. ap (λ (ps : List Pool). (pool_in ps p).chunks) pools;
          returned = λ p is. inl (ap (λ (ps : List Pool). (pool_in ps p).chunks) pools);
        });
        reclaims = all_reclaimed_placed s t (pool_in s.pools pool).chunks (pages_for n) pools rest;
        pools = pools;
      }

-- a read that had room, for an equal store after it
pub reads_once : {R : Type 0} {left : R → Option (List ℕ)} {reader after : R} {s : Stored} {pool n : ℕ}
    {x : Option (List Buffer) × Arrived} (t r : Stored)
    → MayRead s pool n → has_room s pool n ≡ true → MakesRead (left reader) (left after) s t (listed x.0) pool x.1.taken
    → t ≡ r → IsOneRead n (left after) x.1
    → ReadsOnce left reader after s r pool n (Ok x)
reads_once {R} {left} {reader} {after} {s} {pool} {n} {x} t r may had made same reported = record {
  made = subst (λ u. MakesRead (left reader) (left after) s u (listed x.0) pool x.1.taken) same made;
  reported = reported;
  room = record { room = sym (room_for_one s pool n may.some may.page) ∙ had; no_room = λ p is. absurd (cc is) };
  late = tt;
  err = tt;
}

pub consumes_none : (a b : Option (List ℕ)) (n : ℕ) (w : List ℕ) → n ≡ 0 → Consumes a b (take n w) → Consumes a b []
consumes_none a b n w e h = subst (λ k. Consumes a b (take k w)) e h

pub home_as : (holds : List Buffer) (p q : ℕ) → p ≡ q → All (λ (h : Buffer). h.pool ≡ p) holds
    → All (λ (h : Buffer). h.pool ≡ q) holds
home_as holds p q e h = subst (λ k. All (λ (h : Buffer). h.pool ≡ k) holds) e h

-- The queue gets the bytes that were read.
module _ (left after : Option (List ℕ)) (s t : Stored) (old new : List Slice) (holds : List Buffer) (pool n : ℕ)
    (adds : AddsWhole t old new holds) (made : MakesRead left after s t holds pool n) where
  pub length_read : byte_len new ≡ byte_len old + n
  length_read = omega (arith, length_added s t old new pool made.bytes holds adds made.home made.value, made.count)

  pub read_added : ReadsIn left after s t old new pool n
  read_added = record {
    bytes = made.bytes;
    count = made.count;
    given = made.given;
    added = record {
      slices = adds.slices;
      few =
          few_made s s.arena t.arena adds.slices pool (length made.bytes)
          (subst (λ bs. MadeOn s.arena t.arena bs (lowest_of s pool (length made.bytes))) (sym adds.whole.bufs)
          made.made_on);
      added = adds.added;
      is_text = adds.whole.text ∙ whole_texts-one t pool holds made.home ∙ ap (text.labelled pool) made.value;
      readable = adds.whole.readable;
      moves = subst (λ bs. Moves s t [] bs) (sym adds.whole.bufs) made.moves;
      made_on = subst (λ bs. MadeOn s.arena t.arena bs (lowest_of s pool (length made.bytes))) (sym adds.whole.bufs)
          made.made_on;
      pages = made.pages;
      reclaims = made.reclaims;
      pools = made.pools;
    };
  }

pub nothing_added : (left after : Option (List ℕ)) (s t : Stored) (old : List Slice) (pool n : ℕ)
    → MakesRead left after s t [] pool n → ReadsIn left after s t old old pool n
nothing_added left after s t old pool n made =
    read_added left after s t old old [] pool n (record {
      slices = [];
      added = sym (append-nil old);
      whole =
          record { text = refl; readable = readable_none t; bufs = refl };
    }) made
