use Rattle.std.proofs.Common.{◌≡◌, ◌∙◌, ℕ, ◌+◌, ◌<◌, ◌≤◌, List, ◌++◌, length, length-append, take, get_or, sym, ap}
use Rattle.std.proofs.Common.{arith, subst}
use Rattle.std.proofs.lemmas.List.{length-map}
use Rattle.iol_back.specs.Disk.{Tears, Writes, content, raised}
use Rattle.iol_core.specs.Text as text
use Rattle.iol_hold.specs.Places.{byte_len}
use Rattle.iol_hold.specs.StoreState.{Stored}
use Rattle.iol_hold.specs.Texts.{AllReadable, slice_bytes, text_of}
use Rattle.iol_hold.specs.declared.slices.Slice.{Slice}
use Rattle.iol_hold.proofs.ReadSlices.{length-text_of}
use Rattle.iol_hold.proofs.SlicePlaces.{byte_len-take-le, byte_len-take_more}
use Rattle.iol_cache.specs.WriteBack.{Stores}
use Rattle.iol_cache.proofs.RangeWrites.Composition.{bytes_more, readable_at}
use Rattle.iol_cache.proofs.RangeWrites.StoredBytes.{stores_more, tears_more}
use Rattle.iol_cache.proofs.sync.write_back.Goals as goal

abbrev bytes_in : Stored → List Slice → List ℕ
bytes_in s xs = text.bytes_of (text_of s xs)

long : (s : Stored) (xs : List Slice) → length (bytes_in s xs) ≡ byte_len xs
long s xs = length-map (text_of s xs) (λ (b : ℕ × ℕ). b.0) ∙ length-text_of s xs

-- one slice more
module _ (s : Stored) (xs : List Slice) (i : ℕ) (x : Slice) (lt : i < length xs) (is : x ≡ get_or xs i x)
    (readable : AllReadable s xs) (w : List ℕ) (same : w ≡ slice_bytes s x) (at to : ℕ)
    (place : to ≡ at + byte_len (take i xs)) where
  more : bytes_in s (take (i + 1) xs) ≡ bytes_in s (take i xs) ++ w
  more = bytes_more s xs i x lt is (readable_at xs i x lt is readable)
      ∙ ap (λ l. bytes_in s (take i xs) ++ l) (sym same)

  count : byte_len (take (i + 1) xs) ≡ byte_len (take i xs) + x.len
  count = byte_len-take_more xs i x lt is

  w_long : length w ≡ x.len
  w_long =
      omega (
        arith,
        count,
        ap length more,
        length-append (bytes_in s (take i xs)) w,
        long s (take i xs),
        long s (take (i + 1) xs),
      )

  within : byte_len (take i xs) + x.len ≤ byte_len xs
  within = omega (arith, count, byte_len-take-le xs (i + 1))

  stored : (old mid new : List ℕ) → Stores at (bytes_in s (take i xs)) old mid → Writes to w mid new
      → Stores at (bytes_in s (take (i + 1) xs)) old new
  stored old mid new m y =
      subst (λ l. Stores at l old new) (sym more)
      (stores_more at to (bytes_in s (take i xs)) w old mid new (omega (arith, place, long s (take i xs))) m y)

  torn : (old mid new : List ℕ) → Stores at (bytes_in s (take i xs)) old mid → Tears to (length w) mid new
      → Tears at (length (bytes_in s xs)) old new
  torn old mid new m y =
      tears_more at to (length w) (bytes_in s (take i xs)) old mid new (omega (arith, place, long s (take i xs))) m y
      (length (bytes_in s xs)) (omega (arith, long s (take i xs), long s xs, w_long, within))

pub bytes-requires : goal.bytes-requires
bytes-requires g c = readable_at c.args.slices.now c.loop-slice.slice-index c.slice-item.result c.loop-slice-test.true
    c.slice-item.is c.requires.readable

pub returns-in-Err : goal.returns-in-Err
returns-in-Err g c =
    let v = c.loop-slice.invariant in
    let e = c.in-Err.ensures in
    record {
      honest = e.honest ∙ v.honest;
      counts = e.counts ∙ ap raised v.failures;
      others = λ h. record { each = λ k ne. (e.others (v.honest ∙ h)).each k ne ∙ (v.others h).each k ne };
      stored = λ h. tt;
      torn = λ h. torn c.args.store.now c.args.slices.now c.loop-slice.slice-index c.slice-item.result
          c.loop-slice-test.true c.slice-item.is c.requires.readable c.bytes.result.now c.bytes.ensures c.args.at
          c.loop-slice.to v.to (content (g.B.Backing.disk c.args.backing.now).slots c.args.file)
          (content (g.B.Backing.disk c.loop-slice.backing).slots c.args.file)
          (content (g.B.Backing.disk c.write_at.new.self).slots c.args.file) (v.stored h) (e.torn (v.honest ∙ h));
    }

pub overflow_add-to : goal.overflow_add-to
overflow_add-to g c =
    let k =
    within c.args.store.now c.args.slices.now c.loop-slice.slice-index c.slice-item.result c.loop-slice-test.true
    c.slice-item.is c.requires.readable c.bytes.result.now c.bytes.ensures c.args.at c.loop-slice.to
    c.loop-slice.invariant.to in
    omega (arith, k, c.loop-slice.invariant.to, c.requires.fits)

pub loop-slice-preserved : goal.loop-slice-preserved
loop-slice-preserved g c =
    let v = c.loop-slice.invariant in
    let e = c.in-Ok.ensures in
    let k = count c.args.store.now c.args.slices.now c.loop-slice.slice-index c.slice-item.result c.loop-slice-test.true
    c.slice-item.is c.requires.readable c.bytes.result.now c.bytes.ensures c.args.at c.loop-slice.to v.to in
    record {
      to = omega (arith, v.to, k);
      honest = e.honest ∙ v.honest;
      failures = e.counts.0 ∙ v.failures;
      works = λ h. omega (arith, e.counts.1, v.failures);
      others = λ h. record { each = λ q ne. (e.others (v.honest ∙ h)).each q ne ∙ (v.others h).each q ne };
      stored = λ h. stored c.args.store.now c.args.slices.now c.loop-slice.slice-index c.slice-item.result
          c.loop-slice-test.true c.slice-item.is c.requires.readable c.bytes.result.now c.bytes.ensures c.args.at
          c.loop-slice.to v.to (content (g.B.Backing.disk c.args.backing.now).slots c.args.file)
          (content (g.B.Backing.disk c.loop-slice.backing).slots c.args.file)
          (content (g.B.Backing.disk c.write_at.new.self).slots c.args.file) (v.stored h) (e.written (v.honest ∙ h));
    }
