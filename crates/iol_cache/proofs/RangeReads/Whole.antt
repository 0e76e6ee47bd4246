-- Consequences of a read of a file.
use Rattle.std.proofs.Common.{◌≡◌, ◌∙◌, ℕ, ◌+◌, ◌-◌, ◌≤◌, min, true, List, [], length, Result, IfErr, IfOk, OnErr, sym}
use Rattle.std.proofs.Common.{ap, arith, subst}
use Rattle.std.proofs.lemmas.Result.{IfOk-weaker}
use Rattle.iol_core.specs.NumberedLists.{is_numbered}
use Rattle.iol_core.specs.Text as text
use Rattle.iol_core.specs.declared.numbers.BufId.{BufId}
use Rattle.iol_core.specs.declared.refusals.Refusal.{Refusal}
use Rattle.iol_back.specs.Disk.{Disk, IfHonest, content}
use Rattle.iol_hold.specs.Places.{byte_len}
use Rattle.iol_hold.specs.Texts.{AllReadable, bufs_of, text_of}
use Rattle.iol_hold.specs.declared.slices.Slice.{Slice}
use Rattle.iol_cache.specs.CacheState.{Cached, file_in}
use Rattle.iol_cache.specs.Contents.{Mirrors}
use Rattle.iol_cache.specs.Evictions.{Holding}
use Rattle.iol_cache.specs.Gaps.{AreOf}
use Rattle.iol_cache.specs.ReadSteps.{Goes}
use Rattle.iol_cache.specs.PageChanges.{FillsLowest}
use Rattle.iol_cache.specs.ReadResults.{IsBacked, IsEnd, Range, ReadsFile, RefusesRead, bytes_read}
use Rattle.iol_cache.specs.Sound.{IsSound}
use Rattle.iol_cache.proofs.Extents.FileEntries.{numbered_bounds, numbered_yes}
use Rattle.iol_cache.proofs.RangeReads.PageChanges.{read_pages, refused_pages}
use Rattle.iol_cache.proofs.RangeReads.RangeHolds.{either_reported, either_way, ok_both}
use Rattle.iol_cache.proofs.RangeReads.Texts.{long_read, pooled_read, text_read}

-- the range that the code computes
abbrev pub range_of : (disk : Disk) (c : Cached) (f at n end from count : ℕ) → IsEnd disk c f end → from ≡ min at end
    → count ≡ min n (end - from) → Range disk c f at n
range_of disk c f at n end from count ends begins counts =
    record {
      end = end;
      ends = ends;
      from = from;
      begins = begins;
      to = from + count;
      stops =
          omega (arith, begins, counts);
    }

still_backed : (d e : Disk) (a c : Holding) {xs ys : List BufId} → Goes d xs ys a c → e.honest ≡ d.honest
    → IfHonest d (e.slots ≡ d.slots) → IsBacked d a → IsBacked e c
still_backed d e a c goes honest slots backed =
    let same = slots backed.honest in
    record {
      honest = honest ∙ backed.honest;
      short =
          λ f there. (let n = numbered_bounds c.cache.files f there in
          omega (
            arith,
            ap (λ l. length (content l f)) same,
            backed.short f (numbered_yes a.cache.files f n.0 (omega (arith, n.1, goes.count))),
          ));
      mirrors = subst (λ l. Mirrors c.store l c.cache.files) (sym same) (goes.mirrors backed.honest backed.mirrors);
    }

-- a store that was only read still backs the cache (`IsBacked`)
pub file_backed : (d e : Disk) (a c : Holding) (r : Result (List Slice) Refusal)
    → IfOk r (λ xs. Goes d [] (bufs_of xs) a c) → OnErr r (Goes d [] [] a c) → e.honest ≡ d.honest
    → IfHonest d (e.slots ≡ d.slots) → IsBacked d a → IsBacked e c
file_backed d e a c r goes gone honest slots backed =
    either_way (IsBacked e c) (Goes d [] [] a c) (λ xs. Goes d [] (bufs_of xs) a c) r goes gone
    (λ xs h. still_backed d e a c h honest slots backed) (λ h. still_backed d e a c h honest slots backed)

-- Consequences of a read of a file, if it succeeds.

module _ (f at n : ℕ) (d : Disk) (a c : Holding) (r : Result (List Slice) Refusal)
    (reads : IfOk r (ReadsFile f at n d a c)) where
  pub file_short : IfOk r (λ xs. byte_len xs ≤ n)
  file_short = IfOk-weaker r (ReadsFile f at n d a c) (λ xs. byte_len xs ≤ n) (λ xs h. long_read f at n d a c xs h)
      reads

  pub file_pages : IfErr r (RefusesRead f at n d a c) → FillsLowest (file_in a.cache.files f).pool a.store c.store
  file_pages refused =
      either_reported (ReadsFile f at n d a c) (RefusesRead f at n d a c) r reads refused
      (λ xs h. read_pages f at n d a c xs h) (λ y h. refused_pages f at n d a c y h)

  pub file_pool : IsSound a.store a.cache → IsSound c.store c.cache → IfOk r (λ xs. Goes d [] (bufs_of xs) a c)
      → IfOk r (AreOf (file_in a.cache.files f).pool)
  file_pool sound after goes =
      let went = λ (xs : List Slice). Goes d [] (bufs_of xs) a c in
      IfOk-weaker r (λ xs. ReadsFile f at n d a c xs × went xs) (AreOf (file_in a.cache.files f).pool)
      (λ xs h. pooled_read f at n d a c xs sound after h.1 h.0) (ok_both (ReadsFile f at n d a c) went r reads goes)

  pub file_text : IsSound a.store a.cache → IsSound c.store c.cache → is_numbered a.cache.files f ≡ true
      → IfOk r (λ xs. Goes d [] (bufs_of xs) a c) → IfOk r (AllReadable c.store) → IsBacked d a
      → IfOk r (λ xs. text_of c.store xs ≡ text.labelled (file_in a.cache.files f).pool
      (bytes_read a.store d.slots a.cache f at n))
  file_text sound after there goes readable backed =
      let went = λ (xs : List Slice). Goes d [] (bufs_of xs) a c in
      let both = λ (xs : List Slice). ReadsFile f at n d a c xs × went xs in
      IfOk-weaker r (λ xs. both xs × AllReadable c.store xs)
      (λ xs. text_of c.store xs ≡ text.labelled (file_in a.cache.files f).pool
      (bytes_read a.store d.slots a.cache f at n))
      (λ xs h. text_read f at n d a c xs sound after there h.0.1 h.1 h.0.0 backed)
      (ok_both both (AllReadable c.store) r (ok_both (ReadsFile f at n d a c) went r reads goes) readable)
