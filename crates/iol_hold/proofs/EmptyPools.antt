-- Closed pools keep no chunks whose pages are all empty.
use Rattle.std.proofs.Common.{◌≡◌, true, false, inl, inr, ℕ, ◌+◌, ◌*◌, ◌/◌, Bool, List, [], ◌∷◌, ◌++◌, length, take}
use Rattle.std.proofs.Common.{refl, sym, ap, ◌∙◌, arith, subst}
use Rattle.std.specs.Prelude.{◌&&◌}
use Rattle.std.specs.List.{Contains, flat_map, list_all}
use Rattle.std.proofs.lemmas.Bool.{cases_eq}
use Rattle.iol_core.specs.declared.numbers.BufId.{BufId}
use Rattle.iol_arena.specs.State.{State, HasRuns, entry_at, entry_in, kind_free}
use Rattle.iol_arena.specs.Buffers.{IsLive, kind_len, with_freed}
use Rattle.iol_arena.specs.Chunks.{is_unused, chunk_pages, usable, free_pages}
use Rattle.iol_arena.specs.Pages.{IsSameBut}
use Rattle.iol_arena.specs.declared.pages.Entry.{Entry}
use Rattle.iol_arena.proofs.Members.{In, range_in, in_or_out, in_passes, in_take, contains_in, in_contains}
use Rattle.iol_arena.proofs.Good.{and_left}
use Rattle.iol_pool.specs.Pools.{Pool, pool_in, reclaimed, reclaimed_arena, with_closed}
use Rattle.iol_pool.specs.Owners.{AreOwned}
use Rattle.iol_pool.proofs.Owners.{pool_in-reclaimed, pool_in-closed, pool_in-none, pool_in-pushed, pool_in-before}
use Rattle.iol_hold.specs.StoreState.{Stored, IsInPool, IsReclaimed, AllReclaimed, AllReclaimedBut, with_arena}
use Rattle.iol_hold.proofs.ChunkReturns.{first_of, second_of}
use Rattle.iol_hold.proofs.Releases.{page_after, reclaimed_entries}

all_of : (f g : ℕ → Bool) (xs : List ℕ) → ((x : ℕ) → In xs x → f x ≡ true → g x ≡ true) → list_all f xs ≡ true
    → list_all g xs ≡ true
all_of f g [] each h = refl
all_of f g (x ∷ xs) each h =
    let first = each x (inl refl) (first_of (f x) (list_all f xs) h) in
    let rest = all_of f g xs (λ y i. each y (inr i)) (second_of (f x) (list_all f xs) h) in
    rw (first, rest) refl

-- if no page of a chunk became free, a chunk that is unused was unused before
unused_of : (s t : State) (c : ℕ)
    → ((q : ℕ) → q / 16 ≡ c → kind_free (entry_at t q).kind ≡ true → kind_free (entry_at s q).kind ≡ true)
    → is_unused t c ≡ true → is_unused s c ≡ true
unfolding chunk_pages
unused_of s t c each h =
    all_of (λ q. kind_free (entry_at t q).kind) (λ q. kind_free (entry_at s q).kind) (chunk_pages c)
    (λ q i. (let r = range_in (c * 16) 16 q i in each q (omega (arith, r.0, r.1)))) h

-- if no page of an unchanged pool became free, the pool is still reclaimed
pub reclaimed_of : (s t : Stored) (p : ℕ) → pool_in t.pools p ≡ pool_in s.pools p
    → ((q : ℕ) → Contains (pool_in s.pools p).chunks (q / 16) → kind_free (entry_at t.arena q).kind ≡ true
    → kind_free (entry_at s.arena q).kind ≡ true)
    → IsReclaimed s p → IsReclaimed t p
reclaimed_of s t p same each was back =
    let cs = (pool_in s.pools p).chunks in
    let back2 : ((pool_in s.pools p).closed && list_all (is_unused t.arena) cs) ≡ true =
    subst (λ (x : Pool). (x.closed && list_all (is_unused t.arena) x.chunks) ≡ true) same back in
    let closed = first_of (pool_in s.pools p).closed (list_all (is_unused t.arena) cs) back2 in
    let unused = all_of (is_unused t.arena) (is_unused s.arena) cs
    (λ c i. unused_of s.arena t.arena c (λ q at. each q (subst (λ k. Contains cs k) (sym at) (contains_in cs c i))))
    (second_of (pool_in s.pools p).closed (list_all (is_unused t.arena) cs) back2) in
    ap (λ (x : Pool). x.chunks) same ∙ was (rw (closed, unused) refl)

-- no page became free, and the pools are the same
pub all_reclaimed_of : (s t : Stored) → t.pools ≡ s.pools
    → ((q : ℕ) → kind_free (entry_at t.arena q).kind ≡ true → kind_free (entry_at s.arena q).kind ≡ true)
    → AllReclaimed s → AllReclaimed t
all_reclaimed_of s t pools each all =
    record { each = λ p. reclaimed_of s t p (ap (λ (ps : List Pool). pool_in ps p) pools) (λ q h. each q) (all.each p) }

pub all_reclaimed_same : (s t : Stored) → t.arena ≡ s.arena → t.pools ≡ s.pools → AllReclaimed s → AllReclaimed t
all_reclaimed_same s t arena pools all =
    all_reclaimed_of s t pools (λ q h. sym (ap (λ a. kind_free (entry_at a q).kind) arena) ∙ h) all

-- bytes were placed on pages that were free
pub all_reclaimed_placed : (s t : Stored) (cs : List ℕ) (k : ℕ) → t.pools ≡ s.pools
    → IsSameBut (take k (free_pages s.arena cs)) s.arena t.arena → AllReclaimed s → AllReclaimed t
all_reclaimed_placed s t cs k pools same all =
    all_reclaimed_of s t pools (λ q free. elim (in_or_out (take k (free_pages s.arena cs)) q) [
      | inl i ↦
          and_left (kind_free (entry_at s.arena q).kind) _
          (in_passes (usable s.arena) (flat_map chunk_pages cs) q (in_take k (free_pages s.arena cs) q i))
      | inr out ↦
          sym
          (ap (λ (e : Entry). kind_free e.kind)
          (same.each q (λ h. out (in_contains (take k (free_pages s.arena cs)) q h))))
          ∙ free
    ]) all

-- a buffer was freed: the other pools are still reclaimed, since it is in one chunk, which has one pool
pub reclaimed_freed : (s : Stored) (b : BufId) (pool : ℕ) → HasRuns s.arena.entries → AreOwned s.arena s.pools
    → IsLive s.arena b → IsInPool s pool b → AllReclaimed s
    → AllReclaimedBut pool (with_arena s (with_freed s.arena b.page))
reclaimed_freed s b pool runs owned live home all = record {
  each =
      λ p ne. reclaimed_of s (with_arena s (with_freed s.arena b.page)) p refl
      (λ q here free. elim (page_after s.arena b.page runs live.head q) [
        | inl same ↦ sym (ap (λ (e : Entry). kind_free e.kind) same) ∙ free
        | inr gone ↦ (
            let run = runs.each b.page (kind_len (entry_at s.arena b.page).kind) live.head in
            let at : q / 16 ≡ b.page / 16 = omega (arith, gone.0, gone.1, run.chunk) in
            absurd
            (ne
            (owned.single p pool (q / 16) here (subst (λ c. Contains (pool_in s.pools pool).chunks c) (sym at) home))))
      ]) (all.each p);
}

-- then its own pool was reclaimed
pub reclaimed_then : (s t : Stored) (p : ℕ) → t.arena ≡ reclaimed_arena s.arena s.pools p
    → t.pools ≡ reclaimed s.arena s.pools p → IsReclaimed t p → AllReclaimedBut p s → AllReclaimed t
reclaimed_then s t p arena pools own others = record {
  each = λ q. elim (cases_eq q p) [
    | inl e ↦ subst (λ r. IsReclaimed t r) (sym e) own
    | inr ne ↦ (
        let entries : t.arena.entries ≡ s.arena.entries = ap (λ (a : State). a.entries) arena
        ∙ reclaimed_entries s.arena s.pools p in
        reclaimed_of s t q (ap (λ (ps : List Pool). pool_in ps q) pools ∙ pool_in-reclaimed s.arena s.pools p q ne)
        (λ r here free. sym (ap (λ (es : List Entry). kind_free (entry_in es r).kind) entries) ∙ free)
        (others.each q ne))
  ];
}

-- a pool is closed, and not yet reclaimed
pub reclaimed_closed : (s : Stored) (p : ℕ) → AllReclaimed s
    → AllReclaimedBut p (record { arena = s.arena; pools = with_closed s.pools p; counts = s.counts })
reclaimed_closed s p all = record {
  each = λ q ne. reclaimed_of s (record { arena = s.arena; pools = with_closed s.pools p; counts = s.counts }) q
      (pool_in-closed s.pools p q ne) (λ r here free. free) (all.each q);
}

-- there is no pool yet
pub reclaimed_none : (s : Stored) → s.pools ≡ [] → AllReclaimed s
reclaimed_none s none =
    record {
      each = λ p back. ap (λ (ps : List Pool). (pool_in ps p).chunks) none
          ∙ ap (λ (x : Pool). x.chunks) (pool_in-none p);
    }

-- a new pool is open, and the others keep their chunks
pub reclaimed_added : (s t : Stored) (x : Pool) → x.closed ≡ false → t.pools ≡ s.pools ++ x ∷ []
    → t.arena.entries ≡ s.arena.entries → AllReclaimed s → AllReclaimed t
reclaimed_added s t x is pools entries all = record {
  each = λ p. elim (cases_eq p (length s.pools + 1)) [
    | inl e ↦ λ back. (
        let new : pool_in t.pools p ≡ x = ap (λ (ps : List Pool). pool_in ps p) pools
        ∙ ap (λ q. pool_in (s.pools ++ x ∷ []) q) e ∙ pool_in-pushed s.pools x in
        let shut = first_of (pool_in t.pools p).closed _ back in
        let no : true ≡ false = sym shut ∙ ap (λ (y : Pool). y.closed) new ∙ is in
        absurd (cc no))
    | inr ne ↦ reclaimed_of s t p (ap (λ (ps : List Pool). pool_in ps p) pools ∙ pool_in-before s.pools x p ne)
        (λ q here free. sym (ap (λ (es : List Entry). kind_free (entry_in es q).kind) entries) ∙ free) (all.each p)
  ];
}
