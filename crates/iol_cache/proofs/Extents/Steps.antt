-- Steps of a read, one after another.
use Rattle.std.proofs.Common.{◌≡◌, ℕ, ◌+◌, ◌≤◌, true, List, ◌++◌, length, refl, sym, ap, ◌∙◌, arith, subst}
use Rattle.iol_arena.specs.State.{page_count}
use Rattle.iol_back.specs.Disk.{Disk, content}
use Rattle.iol_core.specs.declared.numbers.BufId.{BufId}
use Rattle.iol_hold.specs.Moves.{tally, Moves, Covers, SameLists}
use Rattle.iol_hold.specs.StoreState.{Stored, AllReclaimed}
use Rattle.iol_hold.proofs.Counts.{tally-append}
use Rattle.iol_hold.proofs.Moves.{stays_trans, moves_none}
use Rattle.iol_cache.specs.CacheState.{Cached, file_in, extents_in, order_in, held}
use Rattle.iol_cache.specs.Contents.{AreStored, file_bytes, byte_in}
use Rattle.iol_cache.specs.Evictions.{Holding, GivesUp}
use Rattle.iol_cache.specs.ReadSteps.{Goes, CountsHits}
use Rattle.iol_core.specs.NumberedLists.{is_numbered}
use Rattle.iol_extent.specs.declared.spans.Span.{Span}
use Rattle.iol_evict.specs.Order.{Ranking}
use Rattle.iol_cache.specs.RangeReads.{SameButRoom, hits_counted}
use Rattle.iol_cache.proofs.Evictions.Ready.{hits_same}
use Rattle.iol_cache.proofs.Extents.FileEntries.{order_same, numbered_bounds, numbered_yes}
use Rattle.iol_cache.specs.Sound.{IsSound}
use Rattle.iol_cache.proofs.Extents.OtherCalls.{files_stay, mirrors_stay}

pub goes_trans : (d : Disk) (xs ys zs : List BufId) (a b c : Holding) → Goes d xs ys a b → Goes d ys zs b c
    → Goes d xs zs a c
goes_trans d xs ys zs a b c m n = record {
  moves = record {
    counts = record { each = λ x. omega (arith, m.moves.counts.each x, n.moves.counts.each x) };
    stays = stays_trans m.moves.stays n.moves.stays;
    still = λ h. n.moves.still (m.moves.still h);
    tidy = λ h. n.moves.tidy (m.moves.tidy h);
  };
  lists = n.lists ∙ m.lists;
  reclaims = λ h. n.reclaims (m.reclaims h);
  pages = n.pages ∙ m.pages;
  count = n.count ∙ m.count;
  pools = λ f. n.pools f ∙ m.pools f;
  mirrors = λ honest h. n.mirrors honest (m.mirrors honest h);
  files = λ honest h. record { each = λ f. (n.files honest (m.mirrors honest h)).each f ∙ (m.files honest h).each f };
}

-- evictions
pub goes_less : (d : Disk) (own : List BufId) (a b : Holding) → GivesUp a b → Goes d own own a b
goes_less d own a b m = record {
  moves = record {
    counts =
        record {
          each =
              λ x. omega (
                arith,
                m.moves.counts.each x,
                tally-append x (held a.cache.files) own,
                tally-append x (held b.cache.files) own,
              );
        };
    stays = m.moves.stays;
    still = m.moves.still;
    tidy = m.moves.tidy;
  };
  lists = m.lists;
  reclaims = m.reclaims;
  pages = m.frees.count;
  count = m.keeps.count;
  pools = m.keeps.pools;
  mirrors = λ honest h. m.mirrors d.slots h;
  files = λ honest h. m.files d.slots h;
}

-- only room and orders changed
pub goes_cache : (d : Disk) (own : List BufId) (s : Stored) (c e : Cached) → length e.files ≡ length c.files
    → ((f : ℕ) → (file_in e.files f).pool ≡ (file_in c.files f).pool)
    → ((f : ℕ) → extents_in e.files f ≡ extents_in c.files f) → held e.files ≡ held c.files
    → Goes d own own (record { store = s; cache = c }) (record { store = s; cache = e })
goes_cache d own s c e count pools extents same = record {
  moves = record {
    counts =
        record {
          each =
              λ x. omega (
                arith,
                tally-append x (held c.files) own,
                tally-append x (held e.files) own,
                ap (tally x) same,
              );
        };
    stays = (moves_none s).stays;
    still = λ h. h;
    tidy = λ h. h;
  };
  lists = refl;
  reclaims = λ h. h;
  pages = refl;
  count = count;
  pools = pools;
  mirrors = λ honest h. record { each = λ f. subst (AreStored s (content d.slots f)) (sym (extents f)) (h.each f) };
  files = λ honest h. record { each = λ f. ap (file_bytes (byte_in s) (content d.slots f)) (extents f) };
}

-- only the store changed: of the references that others have, some were released and some were taken
pub goes_moved : (d : Disk) (own more gone come : List BufId) (s t : Stored) (c : Cached)
    → ((x : BufId) → tally x own + tally x come ≡ tally x gone + tally x more) → IsSound s c → Moves s t gone come
    → Covers t (held c.files) → SameLists s t → (AllReclaimed s → AllReclaimed t)
    → page_count t.arena ≡ page_count s.arena
    → Goes d own more (record { store = s; cache = c }) (record { store = t; cache = c })
goes_moved d own more gone come s t c split sound m covers lists reclaims pages = record {
  moves = record {
    counts =
        record {
          each =
              λ x. omega (
                arith,
                m.counts.each x,
                split x,
                tally-append x (held c.files) own,
                tally-append x (held c.files) more,
              );
        };
    stays = m.stays;
    still = m.still;
    tidy = m.tidy;
  };
  lists = lists;
  reclaims = reclaims;
  pages = pages;
  count = refl;
  pools = λ f. refl;
  mirrors = λ honest h. mirrors_stay d.slots c.files sound.files m.stays covers h;
  files = λ honest h. files_stay d.slots c.files sound.files m.stays covers;
}

pub goes_store : (d : Disk) (xs ys : List BufId) (s t : Stored) (c : Cached) → IsSound s c → Moves s t xs ys
    → Covers t (held c.files) → SameLists s t → (AllReclaimed s → AllReclaimed t)
    → page_count t.arena ≡ page_count s.arena
    → Goes d xs ys (record { store = s; cache = c }) (record { store = t; cache = c })
goes_store d xs ys s t c = goes_moved d xs ys xs ys s t c (λ x. refl)

pub goes_covers : (d : Disk) (xs ys : List BufId) (a b : Holding) → Goes d xs ys a b
    → Covers a.store (held a.cache.files ++ xs) → Covers b.store (held b.cache.files ++ ys)
goes_covers d xs ys a b m covers = record { each = λ x. omega (arith, covers.each x, m.moves.counts.each x) }

pub covers_left : (s : Stored) (xs ys : List BufId) → Covers s (xs ++ ys) → Covers s xs
covers_left s xs ys covers = record { each = λ x. omega (arith, covers.each x, tally-append x xs ys) }

pub covers_right : (s : Stored) (xs ys : List BufId) → Covers s (xs ++ ys) → Covers s ys
covers_right s xs ys covers = record { each = λ x. omega (arith, covers.each x, tally-append x xs ys) }

-- Hits do not use reserved room.

pub hits_entries_left : (s : Stored) (r e : Cached) (f n : ℕ) (hits : List Span) → IsSound s r
    → is_numbered r.files f ≡ true → CountsHits f hits r e → n ≤ (order_in r.orders (file_in r.files f).pool).room
    → n ≤ (order_in e.orders (file_in e.files f).pool).room
hits_entries_left s r e f n hits sound numbered m h =
    let p = (file_in r.files f).pool in
    let x = hits_counted (order_in r.orders p) f (extents_in r.files f) hits in
    let ob = numbered_bounds r.orders p (sound.opened f numbered).ordered in
    omega (
      arith,
      h,
      ap (λ fs. (order_in e.orders (file_in fs f).pool).room) m.files,
      ap (λ os. (order_in os p).room) m.orders,
      ap (λ (y : Ranking). y.room) (order_same r.orders p x ob.0 ob.1),
      hits_same (λ (y : Ranking). y.room) (λ y g at. refl) (order_in r.orders p) f (extents_in r.files f) hits,
    )

-- a file of a cache with other room
pub numbered_same : (c e : Cached) (f : ℕ) → SameButRoom c e → is_numbered c.files f ≡ true
    → is_numbered e.files f ≡ true
numbered_same c e f same h =
    (let b = numbered_bounds c.files f h in numbered_yes e.files f b.0 (omega (arith, b.1, same.files)))
