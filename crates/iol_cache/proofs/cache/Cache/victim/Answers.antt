use Rattle.std.proofs.Common.{◌≡◌, ℕ, ◌<◌, ◌≤◌, List, [], length, get_or, MatchOption, Option, sym, ap, arith, subst}
use Rattle.iol_hold.specs.StoreState.{Stored}
use Rattle.iol_evict.specs.Order.{Ranking}
use Rattle.iol_evict.specs.Victims.{AreUsedBelow, IsVictim}
use Rattle.iol_evict.specs.declared.entry.Entry.{Entry}
use Rattle.iol_evict.specs.declared.entry.Rank.{Rank}
use Rattle.iol_cache.specs.declared.files.CachedFile.{CachedFile}
use Rattle.iol_cache.specs.CacheState.{Cached, order_in, entries_at}
use Rattle.iol_cache.specs.Cache.{cached_of}
use Rattle.iol_cache.specs.Evictions.{in_use, IsCleanAt}
use Rattle.iol_cache.specs.Sound.{IsSound, IsUsable}
use Rattle.iol_cache.proofs.Extents.FileEntries.{order_nowhere, order_at_number}
use Rattle.iol_cache.proofs.Evictions.RankedEntries.{entry_counts, ranked_clean}
use Rattle.iol_cache.proofs.Evictions.AfterEviction.{usable_of}
use Rattle.iol_cache.proofs.cache.Cache.victim.Goals as goal

pub returns-then-number-eq0 : goal.returns-then-number-eq0
returns-then-number-eq0 c =
    record {
      first =
          ap (λ (r : Ranking). r.entries)
          (order_nowhere c.args.self.now.orders.items c.args.pool
          (λ some. absurd (omega (arith, some, c.number-number.ensures, c.if-number-eq0.true))));
      below = c.requires.below;
    }

pub returns-then-number-len : goal.returns-then-number-len
returns-then-number-len c =
    record {
      first =
          ap (λ (r : Ranking). r.entries)
          (order_nowhere c.args.self.now.orders.items c.args.pool
          (λ some. omega (
            arith,
            c.number-number.ensures,
            c.if-number-len.true,
            c.len.ensures,
            c.args.self.now.orders.ok.0,
          )));
      below = c.requires.below;
    }

may_ask : (s : Stored) (c : Cached) (fs : List CachedFile) (p : ℕ) (r : Ranking) → IsSound s c → fs ≡ c.files
    → r ≡ order_in c.orders p → (k : ℕ) (d : Entry) → k < length r.entries
    → IsUsable s fs c.marks × IsCleanAt fs (get_or r.entries k d).file (get_or r.entries k d).at
may_ask s c fs p r sound files is k d within =
    let e = get_or r.entries k d in
    let counts = subst (λ (x : Ranking). 0 < entries_at e.file e.at x.entries) is (entry_counts r.entries k d within) in
    let clean = ranked_clean c.files c.orders p e.file e.at sound.ranked (sound.files e.file) counts in
    subst (λ gs. IsUsable s gs c.marks × IsCleanAt gs e.file e.at) (sym files) (usable_of sound, clean.1)

pub least-requires-clause-ask : goal.least-requires-clause-ask
least-requires-clause-ask c =
    let b : c.number-number.result ≤ length c.args.self.now.orders.items =
    omega (arith, c.if-number-len.false, c.len.ensures, c.args.self.now.orders.ok.0) in
    let o = order_at_number c.args.self.now.orders.items c.args.pool c.number-number.result c.index.result.now
    c.number-number.ensures (
      omega (arith, c.if-number-eq0.false, c.number-number.ensures),
      omega (arith, b, c.number-number.ensures),
    ) c.index.ensures in
    λ k d within. may_ask c.args.store.now (cached_of c.args.self.now) c.as_slice.result.now c.args.pool
    c.index.result.now c.requires.sound c.as_slice.ensures.value o k d within

-- the same files, and the same order
passed_in : (s : Stored) (fs gs : List CachedFile) (r q : Ranking) (rank : Rank) → fs ≡ gs → r ≡ q
    → AreUsedBelow (in_use s fs) rank r.entries → AreUsedBelow (in_use s gs) rank q.entries
passed_in s fs gs r q rank files is h =
    subst (λ (x : Ranking). AreUsedBelow (in_use s gs) rank x.entries) is
    (subst (λ xs. AreUsedBelow (in_use s xs) rank r.entries) files h)

found : (s : Stored) (fs gs : List CachedFile) (r q : Ranking) (o : Option (ℕ × ℕ)) → fs ≡ gs → r ≡ q
    → MatchOption o (r.entries ≡ []) (IsVictim (in_use s fs) r.entries)
    → MatchOption o (q.entries ≡ []) (IsVictim (in_use s gs) q.entries)
found s fs gs r q o files is h =
    subst (λ (x : Ranking). MatchOption o (x.entries ≡ []) (IsVictim (in_use s gs) x.entries)) is
    (subst (λ xs. MatchOption o (r.entries ≡ []) (IsVictim (in_use s xs) r.entries)) files h)

pub least-requires-clause-below : goal.least-requires-clause-below
least-requires-clause-below c =
    let b : c.number-number.result ≤ length c.args.self.now.orders.items =
    omega (arith, c.if-number-len.false, c.len.ensures, c.args.self.now.orders.ok.0) in
    let o = order_at_number c.args.self.now.orders.items c.args.pool c.number-number.result c.index.result.now
    c.number-number.ensures (
      omega (arith, c.if-number-eq0.false, c.number-number.ensures),
      omega (arith, b, c.number-number.ensures),
    ) c.index.ensures in
    passed_in c.args.store.now c.args.self.now.files.items c.as_slice.result.now
    (order_in c.args.self.now.orders.items c.args.pool) c.index.result.now c.args.passed.now
    (sym c.as_slice.ensures.value) (sym o) c.requires.below

pub returns : goal.returns
returns c =
    let fs = c.args.self.now.files.items in
    let os = c.args.self.now.orders.items in
    let b : c.number-number.result ≤ length os =
    omega (arith, c.if-number-len.false, c.len.ensures, c.args.self.now.orders.ok.0) in
    let o = order_at_number os c.args.pool c.number-number.result c.index.result.now c.number-number.ensures
    (omega (arith, c.if-number-eq0.false, c.number-number.ensures), omega (arith, b, c.number-number.ensures))
    c.index.ensures in
    record {
      first = found c.args.store.now c.as_slice.result.now fs c.index.result.now (order_in os c.args.pool)
          c.least.result c.as_slice.ensures.value o c.least.ensures.first;
      below = passed_in c.args.store.now c.as_slice.result.now fs c.index.result.now (order_in os c.args.pool)
          c.least.new.passed c.as_slice.ensures.value o c.least.ensures.below;
    }
