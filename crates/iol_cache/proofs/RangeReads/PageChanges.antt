-- The effects of reads and writes on pages.
use Rattle.std.proofs.Common.{inl, inr, ◌≡◌, ◌∙◌, ℕ, true, false, List, [], ◌+◌, ap, subst, refl, sym}
use Rattle.iol_core.specs.declared.refusals.Refusal.{Refusal}
use Rattle.iol_core.specs.declared.numbers.BufId.{BufId}
use Rattle.iol_arena.specs.State.{State}
use Rattle.iol_arena.proofs.Good.{bool_cases}
use Rattle.iol_back.specs.Disk.{Disk}
use Rattle.iol_pool.specs.Pools.{Pool, pool_in}
use Rattle.iol_hold.specs.Moves.{Shares}
use Rattle.iol_hold.specs.Pages.{KeepsPages}
use Rattle.iol_hold.specs.Releases.{FreesOnly}
use Rattle.iol_hold.specs.StoreState.{Stored}
use Rattle.iol_hold.specs.declared.slices.Slice.{Slice}
use Rattle.iol_hold.proofs.PageChanges.{keeps_pages_frees, keeps_pages_same, same_closed}
use Rattle.iol_hold.proofs.Releases.{all_or_none, frees_none}
use Rattle.iol_extent.specs.declared.spans.Span.{Span}
use Rattle.iol_cache.specs.CacheState.{file_in}
use Rattle.iol_cache.specs.Composition.{copied_pages}
use Rattle.iol_cache.specs.Gaps.{gap_pages}
use Rattle.iol_cache.specs.Evictions.{GivesUp, Holding}
use Rattle.iol_cache.specs.Overwrites.{OnlyMakesRoom, WritesFile}
use Rattle.iol_cache.specs.PageChanges.{FillsLowest, filled_pages}
use Rattle.iol_cache.specs.Ranges.{PinsRange, FillsAfter}
use Rattle.iol_cache.specs.ReadResults.{LeavesRange, ReadsFile, RefusesRead}
use Rattle.iol_cache.proofs.Evictions.Files.{frees_then}

-- One step after another.

pub frees_shares : {s t : Stored} {taken given : List BufId} → Shares s t taken given → FreesOnly s t
frees_shares {s = s} {t = t} m =
    frees_none s t (ap (λ (a : State). a.entries) m.arena) (ap (λ (a : State). a.limit) m.arena) m.pools

-- a pool that is closed after releases was closed before
closed_before : {s t : Stored} → FreesOnly s t → (p : ℕ) → (pool_in t.pools p).closed ≡ true
    → (pool_in s.pools p).closed ≡ true
closed_before {s = s} x p shut = elim (bool_cases (pool_in s.pools p).closed) [
  | inl is ↦ is
  | inr yet ↦ (let bad : true ≡ false = sym shut ∙ ap (λ (y : Pool). y.closed) (x.pools p yet) ∙ yet in absurd (cc bad))
]

-- pages are filled, and others are freed
keeps_freed : {a b c : Stored} {placed : List ℕ}
    → ((p : ℕ) → (pool_in a.pools p).closed ≡ false → (pool_in b.pools p).closed ≡ false) → KeepsPages a b placed
    → FreesOnly b c → KeepsPages a c placed
keeps_freed {a = a} {b = b} {c = c} keeps m n = record {
  count = n.count ∙ m.count;
  limit = n.limit ∙ m.limit;
  raises = record {
    incremented = λ q h. n.incremented q ∙ m.raises.incremented q h;
    kept = λ q h. n.incremented q
        ∙ m.raises.kept q h;
  };
  others = λ q h. elim (n.each q) [
    | inl x ↦ elim (m.others q h) [ inl y ↦ inl (x ∙ y) | inr y ↦ inr (x ∙ y) ]
    | inr x ↦ inr x
  ];
  chunks = λ p was is. (let now = keeps p was in ap (λ (x : Pool). x.chunks) (n.pools p now) ∙ m.chunks p was now);
  returned = λ p is. all_or_none a b c p (m.returned p (closed_before n p is)) (n.chunks p);
}

-- pages are freed, and some are filled
keeps_roomy : {a b c : Stored} {placed : List ℕ} → FreesOnly a b → KeepsPages b c placed → KeepsPages a c placed
keeps_roomy {a = a} {b = b} {c = c} m n = record {
  count = n.count ∙ m.count;
  limit = n.limit ∙ m.limit;
  raises = record {
    incremented = λ q h. n.raises.incremented q h ∙ ap (λ g. g + 1) (m.incremented q);
    kept = λ q h. n.raises.kept q h
        ∙ m.incremented q;
  };
  others = λ q h. elim (n.others q h) [
    | inl x ↦ elim (m.each q) [ inl y ↦ inl (x ∙ y) | inr y ↦ inr (x ∙ y) ]
    | inr x ↦ inr x
  ];
  chunks = λ p was is. (let there = m.pools p was in n.chunks p (ap (λ (x : Pool). x.closed) there ∙ was) is
      ∙ ap (λ (x : Pool). x.chunks) there);
  returned = λ p is. all_or_none a b c p (m.chunks p) (n.returned p is);
}

-- All pages except the filled ones are unchanged or were freed.

pub pages_kept : {p : ℕ} {old new : Stored} (x : FillsLowest p old new) → KeepsPages old new (filled_pages x)
pages_kept x = keeps_roomy x.frees x.pages

-- Only pages were freed.
pub fills_none : (p : ℕ) {s t : Stored} → FreesOnly s t → FillsLowest p s t
fills_none p {s = s} {t = t} frees =
    record { roomy = t; frees = frees; count = 0; pages = keeps_pages_same t t refl refl }

-- Evictions only.
pub given_up_pages : (old new : Holding) → GivesUp old new → KeepsPages old.store new.store []
given_up_pages old new x = keeps_pages_frees x.frees

-- Reads.

hit_pool : (f from to : ℕ) (old hit : Holding) (pins : List Slice) (gaps : List Span)
    → PinsRange f from to old hit pins gaps → (file_in hit.cache.files f).pool ≡ (file_in old.cache.files f).pool
hit_pool f from to old hit pins gaps x = ap (λ fs. (file_in fs f).pool) x.counted.files ∙ x.rooms.pools f

-- a read that filled its gaps
filled_pages_of : (f from to : ℕ) (disk : Disk) (old hit new : Holding) (pins xs : List Slice) (gaps : List Span)
    → PinsRange f from to old hit pins gaps → FillsAfter f from to pins gaps disk hit new xs
    → FillsLowest (file_in old.cache.files f).pool old.store new.store
filled_pages_of f from to disk old hit new pins xs gaps pinned u =
    let mid = u.mid in
    let less = u.less in
    let range = u.fills.range in
    let placed = range.fills.places in
    let pool : (file_in mid.cache.files f).pool ≡ (file_in old.cache.files f).pool = less.keeps.pools f
    ∙ hit_pool f from to old hit pins gaps pinned in
    let same : u.full.store.pools ≡ mid.store.pools = range.shares.pools ∙ placed.pools in
    let shared =
    keeps_freed (λ p is. ap (λ ps. (pool_in ps p).closed) placed.pools ∙ is) placed.pages
    (frees_shares range.shares) in
    subst (λ p. FillsLowest p old.store new.store) pool (record {
      roomy = mid.store;
      frees = frees_then (frees_shares pinned.shares) less.frees less.fewer;
      count = gap_pages gaps;
      pages = keeps_freed (λ p is. ap (λ ps. (pool_in ps p).closed) same ∙ is) shared u.frees;
    })

pub read_pages : (f at n : ℕ) (disk : Disk) (old new : Holding) (xs : List Slice) → ReadsFile f at n disk old new xs
    → FillsLowest (file_in old.cache.files f).pool old.store new.store
read_pages f at n disk old new xs x =
    let r = x.reads in
    elim r.completed [
      | inl e ↦
          fills_none (file_in old.cache.files f).pool
          (subst (λ (h : Holding). FreesOnly old.store h.store) (sym e.same) (frees_shares r.pinned.shares))
      | inr u ↦ filled_pages_of f x.range.from x.range.to disk old r.hit new r.pins xs r.gaps r.pinned u
    ]

leaves_pages : (f from to : ℕ) (old new : Holding) (y : Refusal) → LeavesRange f from to old new y
    → FillsLowest (file_in old.cache.files f).pool old.store new.store
leaves_pages f from to old new y (inl (is, x)) = fills_none (file_in old.cache.files f).pool x.frees
leaves_pages f from to old new y (inr x) =
    let u = x.undone in
    subst (λ p. FillsLowest p old.store new.store) (hit_pool f from to old x.hit x.pins x.gaps x.pinned) (record {
      roomy = u.mid.store;
      frees = frees_then (frees_shares x.pinned.shares) u.less.frees u.less.fewer;
      count = u.placed.count;
      pages = keeps_freed (λ p is. same_closed u.mid.store u.full.store u.lists p ∙ is) u.placed.pages u.frees;
    })

pub refused_pages : (f at n : ℕ) (disk : Disk) (old new : Holding) (y : Refusal) → RefusesRead f at n disk old new y
    → FillsLowest (file_in old.cache.files f).pool old.store new.store
refused_pages f at n disk old new y x = leaves_pages f x.range.from x.range.to old new y x.leaves

-- Writes.

pub write_pages : (f at : ℕ) (source : List Slice) (old new : Holding) → WritesFile f at source old new
    → FillsLowest (file_in old.cache.files f).pool old.store new.store
write_pages f at source old new x =
    let a = x.over.prepares in
    let placed = a.composes.pages in
    let pool : (file_in x.mid.cache.files f).pool ≡ (file_in old.cache.files f).pool = x.room.gives_up.keeps.pools f
    ∙ x.room.rooms.pools f in
    let same : x.over.ready.pools ≡ x.mid.store.pools = a.shares.pools ∙ placed.pools in
    let shared =
    keeps_freed (λ p is. ap (λ ps. (pool_in ps p).closed) placed.pools ∙ is) placed.pages (frees_shares a.shares) in
    subst (λ p. FillsLowest p old.store new.store) pool (record {
      roomy = x.mid.store;
      frees = x.room.gives_up.frees;
      count = copied_pages (file_in x.mid.cache.files f).pool source;
      pages = keeps_freed (λ p is. ap (λ ps. (pool_in ps p).closed) same ∙ is) shared x.over.puts.frees;
    })

pub unwritten_pages : (p n : ℕ) (old new : Holding) → OnlyMakesRoom p n old new → FillsLowest p old.store new.store
unwritten_pages p n old new x =
    record { roomy = x.mid.store; frees = x.room.gives_up.frees; count = x.placed.count; pages = x.placed.pages }
