-- Stores and caches of the tests: what one call leaves is what the next one needs.
use Rattle.std.proofs.Common.{◌≡◌, ◌∙◌, ℕ, zero, suc, ◌+◌, List, [], ◌∷◌, ◌++◌, length, replicate, get_or, refl, ap}
use Rattle.std.specs.List.{AllByRecursion}
use Rattle.std.proofs.Common.{subst, arith, false, Result, Ok}
use Rattle.std.proofs.lemmas.List.{length-replicate}
use Rattle.iol_core.specs.NumberedLists.{is_numbered}
use Rattle.iol_core.specs.declared.refusals.Refusal.{Refusal}
use Rattle.iol_arena.specs.State.{no_entry}
use Rattle.iol_arena.specs.declared.pages.Entry.{Entry}
use Rattle.iol_pool.specs.Pools.{pool_in}
use Rattle.iol_hold.specs.Moves.{Moves, tally}
use Rattle.iol_hold.specs.Places.{byte_len}
use Rattle.iol_hold.specs.StoreAndPools.{MakesPool}
use Rattle.iol_hold.specs.StoreState.{Stored, IsTidy}
use Rattle.iol_hold.specs.Texts.{AllReadable, bufs_of}
use Rattle.iol_hold.specs.declared.slices.Slice.{Slice}
use Rattle.iol_agg.specs.KnownHolds.{IsHeldBy}
use Rattle.iol_agg.specs.Wholes.{FillsAgg}
use Rattle.iol_agg.proofs.KnownHolds.{held_moves, of_ok, on_ok, tally-few}
use Rattle.iol_cache.specs.Cache.{cached_of, holding}
use Rattle.iol_cache.specs.CacheState.{Cached, file_in, held, new_file, no_file}
use Rattle.iol_cache.specs.FileReads.{MayReadFile}
use Rattle.iol_cache.specs.Overwrites.{MayWrite, Writes}
use Rattle.iol_cache.specs.Sound as cache
use Rattle.iol_cache.specs.Sound.{AddsFile, HasNoFile}
use Rattle.iol_cache.specs.declared.cache.Cache.{Cache}
use Rattle.iol_cache.specs.declared.files.CachedFile.{CachedFile}
use Rattle.iol_cache.proofs.Evictions.Ready.{at_index}
use Rattle.iol_cache.proofs.Extents.FileEntries.{numbered_bounds, numbered_yes}
use Rattle.iol_kernel.specs.KernelState.{IsFile}
use Rattle.iol_kernel.proofs.FileCalls.FileWrites.{written_pools}
use Rattle.iol_kernel.proofs.State.Slots.{files_few}
use Rattle.test_iol_store.specs.Caching.{HasNewFile, IsReady}
use Rattle.test_iol_store.specs.Sharing.{IsAllThere}

every_entry : (n q : ℕ) → get_or (replicate n no_entry) q no_entry ≡ no_entry
every_entry zero q = refl
every_entry (suc n) zero = refl
every_entry (suc n) (suc q) = every_entry n q

pub new_ready : (s : Stored) → s.arena.entries ≡ replicate 32 no_entry → IsTidy s → IsReady s
new_ready s entries tidy = record {
  pages = ap length entries ∙ length-replicate 32 no_entry;
  tidy = tidy;
  still =
      record {
        each =
            λ q waits. (let free =
            ap (λ (x : Entry). x.kind) (ap (λ (es : List Entry). get_or es q no_entry) entries ∙ every_entry 32 q) in
            cc (free, waits));
      };
}

pub pool_ready : (s t : Stored) (count : ℕ) (list : List ℕ) (r : Result ℕ Refusal) (p : ℕ) → IsReady s
    → MakesPool s t count list r → r ≡ Ok p → IsReady t
pool_ready s t count list r p ready makes is =
    let moves : Moves s t [] [] = on_ok r p makes.moves is in
    record { pages = makes.pages.count ∙ ready.pages; tidy = moves.tidy ready.tidy; still = moves.still ready.still }

pub filled_ready : (s t : Stored) (p : ℕ) (bytes : List ℕ) (r : Result (List Slice) Refusal) (a : List Slice)
    → IsReady s → FillsAgg s t p bytes r → r ≡ Ok a → IsReady t
filled_ready s t p bytes r a ready fills is =
    let moves : Moves s t [] (bufs_of a) = of_ok (λ x. Moves s t [] (bufs_of x)) r a fills.moves is in
    record {
      pages = (on_ok r a fills.grows is).count ∙ ready.pages;
      tidy = moves.tidy ready.tidy;
      still =
          moves.still ready.still;
    }

pub filled_there : (s t : Stored) (p : ℕ) (bytes : List ℕ) (r : Result (List Slice) Refusal) (a : List Slice)
    → IsHeldBy s [] → FillsAgg s t p bytes r → r ≡ Ok a → byte_len a ≡ 2 → IsAllThere t a
filled_there s t p bytes r a none fills is two = record {
  held = held_moves none (of_ok (λ x. Moves s t [] (bufs_of x)) r a fills.moves is);
  readable = of_ok (AllReadable t) r a fills.readable is;
  few = omega (arith, two);
}

none_held : (pool : ℕ) → held (new_file pool ∷ []) ≡ []
unfolding held
none_held pool = refl

pub file_new : {E : Type 0} (s : Stored) (c d : Cached) (pool : ℕ) (r : Result ℕ E) (f : ℕ) → IsReady s
    → (pool_in s.pools pool).closed ≡ false → HasNoFile 32 c → AddsFile pool c d r → r ≡ Ok f → HasNewFile s d
file_new s c d pool r f ready opened none adds is =
    let files : d.files ≡ new_file pool ∷ [] = on_ok r f adds.added is
    ∙ ap (λ (fs : List CachedFile). fs ++ new_file pool ∷ []) none.files in
    record {
      sound = adds.sound s (none.sound s ready.pages ready.tidy ready.still) opened;
      file = ap (λ (fs : List CachedFile). is_numbered fs 1) files;
      none = ap held files ∙ none_held pool;
    }

pub may_write : (s : Stored) (c : Cache) (xs : List Slice) → HasNewFile s (cached_of c) → IsAllThere s xs
    → byte_len xs ≡ 2 → MayWrite 1 0 xs (holding s c)
may_write s c xs file there two = record {
  sound = file.sound;
  file = file.file;
  short = omega (arith, two);
  held = record { each = λ b. omega (arith, ap (λ l. tally b (l ++ bufs_of xs)) file.none, there.held.each b) };
  readable = there.readable;
  few = record { each = λ b. omega (arith, there.held.each b, tally-few b xs, two) };
}

each_file : (fs : List CachedFile) → ((i : ℕ) → IsFile (get_or fs i no_file)) → AllByRecursion IsFile fs
each_file [] h = tt
each_file (x ∷ fs) h = (h 0, each_file fs (λ i. h (suc i)))

all_short : (s : Stored) (fs : List CachedFile) → ((f : ℕ) → cache.IsFiled s (file_in fs f)) → AllByRecursion IsFile fs
all_short s fs filed =
    each_file fs (λ i. (let x = subst (cache.IsFiled s) (at_index fs i) (filed (i + 1)) in
    record { apart = x.apart; short = x.short }))

pub may_read : {A : Type 0} (s t : Stored) (c d : Cache) (xs : List Slice) (r : Result A Refusal) (x : A)
    → HasNewFile s (cached_of c) → IsAllThere s xs → byte_len xs ≡ 2 → Writes 1 0 xs s c t d r → r ≡ Ok x
    → MayReadFile 1 (holding t d)
may_read s t c d xs r x file there two writes is =
    let same =
    written_pools 1 0 xs (holding s c) (holding t d) file.file
    (on_ok r x (writes.writes (omega (arith, two))) is) in
    record {
      sound = writes.sound;
      file =
          numbered_yes d.files.items 1 (omega arith)
          (omega (arith, same.0, (numbered_bounds c.files.items 1 file.file).1));
      few = record {
        each = λ b. omega (
          arith,
          writes.moves.counts.each b,
          there.held.each b,
          tally-few b xs,
          two,
          files_few b d.files.items (all_short t d.files.items writes.sound.files),
          writes.sound.few_files,
        );
      };
    }
