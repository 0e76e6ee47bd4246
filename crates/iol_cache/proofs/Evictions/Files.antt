-- Files after evictions.
use Rattle.std.proofs.Common.{inl, inr, ◌≡◌, ℕ, ◌-◌, ◌<◌, ◌≤◌, Bool, true, false, cond, List, [], length, map, Option}
use Rattle.std.proofs.Common.{Some, None, refl, sym, ap, ◌∙◌, arith, subst}
use Rattle.std.specs.Prelude.{slice_index}
use Rattle.std.specs.List.{range_with_len, AllByRecursion}
use Rattle.std.proofs.lemmas.Bool.{cases_eq}
use Rattle.iol_core.specs.declared.numbers.BufId.{BufId}
use Rattle.iol_back.specs.Disk.{content}
use Rattle.iol_arena.specs.Firsts.{first_on}
use Rattle.iol_hold.specs.Places.{Place}
use Rattle.iol_arena.specs.declared.pages.PageKind as kind
use Rattle.iol_pool.specs.Pools.{Pool}
use Rattle.iol_hold.specs.Releases.{FreesOnly, buf_at}
use Rattle.iol_hold.specs.StoreState.{Stored, count_of}
use Rattle.iol_hold.specs.Moves.{tally, Moves, Covers, Stays}
use Rattle.iol_hold.specs.Texts.{bufs_of}
use Rattle.iol_hold.specs.declared.slices.Slice.{Slice}
use Rattle.iol_hold.proofs.Counts.{tally_none}
use Rattle.iol_hold.proofs.Moves.{stays_trans, moves_none}
use Rattle.iol_hold.proofs.Releases.{all_or_none, frees_trans, frees_none}
use Rattle.iol_extent.specs.Extents.{Extent, Cell, cover, cell_at, is_over, end_of, IsApart, begins_at, without_at}
use Rattle.iol_cache.specs.declared.files.CachedFile.{CachedFile}
use Rattle.iol_cache.specs.CacheState.{Cached, file_in, with_file, order_in, with_order, extents_in, parts_in, parts_at}
use Rattle.iol_cache.specs.CacheState.{all_parts, held, clean_held, lacking, without_extent}
use Rattle.iol_cache.specs.Contents.{file_byte, file_bytes, file_len, byte_in, read_or, IsStored, AreStored, Mirrors}
use Rattle.iol_cache.specs.Sound.{IsLaid, IsSound}
use Rattle.iol_cache.specs.Evictions.{Holding, IsCleanAt, Evicts, KeepsPlaces, GivesUp}
use Rattle.iol_cache.proofs.Extents.FileEntries.{file_same, file_other, order_same, order_other, length-with_file}
use Rattle.iol_cache.proofs.Extents.FileEntries.{numbered_bounds, numbered_yes, additive_tally, each-without_at}
use Rattle.iol_evict.specs.Order.{Ranking, evicted_at, left_at, entry_or, lowered, lowered_by}
use Rattle.iol_evict.specs.declared.entry.TheConstants.{MAX_LOW}
use Rattle.std.specs.Prelude.{nat_lt}
use Rattle.iol_cache.proofs.Extents.FewerExtents.{over_yes, begins_above, cover-without_at, cover-begins}
use Rattle.iol_cache.proofs.Extents.FewerExtents.{last_end-without_at, byte_stays}
use Rattle.iol_cache.proofs.Extents.HeldSlices.{clean_numbered, covers_file}
use Rattle.iol_cache.proofs.Evictions.AfterEviction.{held_less, clean_less, covers_evicted}

-- Two files with the same bytes.

pub bytes_same : (g h : Place → ℕ) (stored : List ℕ) (es fs : List Extent)
    → ((i : ℕ) → file_byte g stored es i ≡ file_byte h stored fs i) → file_len stored es ≡ file_len stored fs
    → file_bytes g stored es ≡ file_bytes h stored fs
bytes_same g h stored es fs each len = (λ i. map (λ (k : ℕ). each k i) (range_with_len 0 (file_len stored es)))
    ∙ ap (λ n. map (file_byte h stored fs) (range_with_len 0 n)) len

-- A step of the store after which all held buffers have their bytes: the bytes under extents are unchanged.

pub read_stays : {s t : Stored} (p : ℕ) (es : List Extent) (n i : ℕ) → Stays s t → Covers t (bufs_of (all_parts es))
    → AllByRecursion (IsLaid s p) es → read_or (byte_in t) n (cover es i) ≡ read_or (byte_in s) n (cover es i)
read_stays {s = s} {t = t} p es n i stays covers laid = pick (cover es i) refl where
  pick : (o : Option Cell) → cover es i ≡ o → read_or (byte_in t) n o ≡ read_or (byte_in s) n o
  pick None is = refl
  pick (Some c) is = byte_stays p es i c stays covers laid is

pub stored_stays : {s t : Stored} (p : ℕ) (es : List Extent) (stored : List ℕ) (i : ℕ) → Stays s t
    → Covers t (bufs_of (all_parts es)) → AllByRecursion (IsLaid s p) es → IsStored s stored i (cover es i)
    → IsStored t stored i (cover es i)
stored_stays {s = s} {t = t} p es stored i stays covers laid h = pick (cover es i) refl h where
  pick : (o : Option Cell) → cover es i ≡ o → IsStored s stored i o → IsStored t stored i o
  pick None is h = tt
  pick (Some c) is h = λ clean. (let was = h clean in (was.0, byte_stays p es i c stays covers laid is ∙ was.1))

-- Without a clean extent.

byte_of_clean : {s : Stored} (stored : List ℕ) (es : List Extent) (at : ℕ) (e : Extent) (i : ℕ) → IsApart 0 es
    → AreStored s stored es → begins_at es at ≡ Some e → e.dirty ≡ false → is_over e i ≡ true
    → (i < length stored) × (byte_in s (cell_at e i).place ≡ slice_index stored i)
byte_of_clean {s = s} stored es at e i apart all begins clean over =
    (subst (IsStored s stored i) (cover-begins 0 es at e i apart begins over) (all.each i)) clean

ends_within : {s : Stored} (stored : List ℕ) (es : List Extent) (at : ℕ) (e : Extent) → IsApart 0 es
    → AreStored s stored es → begins_at es at ≡ Some e → e.dirty ≡ false → end_of e ≤ length stored
ends_within stored es at e apart all begins clean =
    let some = (begins_above 0 es at e apart begins).2 in
    let last =
    byte_of_clean stored es at e (end_of e - 1) apart all begins clean
    (over_yes e (end_of e - 1) (omega (arith, some)) (omega (arith, some))) in
    omega (arith, last.0, some)

less_byte : {s : Stored} (stored : List ℕ) (es : List Extent) (at : ℕ) (e : Extent) (i : ℕ) → IsApart 0 es
    → AreStored s stored es → begins_at es at ≡ Some e → e.dirty ≡ false
    → file_byte (byte_in s) stored (without_at es at) i ≡ file_byte (byte_in s) stored es i
less_byte {s = s} stored es at e i apart all begins clean = pick (is_over e i) refl where
  pick : (b : Bool) → is_over e i ≡ b
      → file_byte (byte_in s) stored (without_at es at) i ≡ file_byte (byte_in s) stored es i
  pick true over =
      ap (read_or (byte_in s) (slice_index stored i)) (cover-without_at 0 es at e i apart begins
      ∙ ap (λ b. cond b None (cover es i)) over)
      ∙ sym (byte_of_clean stored es at e i apart all begins clean over).1
      ∙ ap (read_or (byte_in s) (slice_index stored i)) (sym (cover-begins 0 es at e i apart begins over))
  pick false beside = ap (read_or (byte_in s) (slice_index stored i)) (cover-without_at 0 es at e i apart begins
      ∙ ap (λ b. cond b None (cover es i)) beside)

less_stored : (s : Stored) (stored : List ℕ) (es : List Extent) (at : ℕ) (e : Extent) (i : ℕ) → IsApart 0 es
    → begins_at es at ≡ Some e → IsStored s stored i (cover es i) → IsStored s stored i (cover (without_at es at) i)
less_stored s stored es at e i apart begins h =
    subst (IsStored s stored i) (sym (cover-without_at 0 es at e i apart begins)) (pick (is_over e i)) where
      pick : (b : Bool) → IsStored s stored i (cond b None (cover es i))
      pick true = tt
      pick false = h

less_len : {s : Stored} (stored : List ℕ) (es : List Extent) (at : ℕ) (e : Extent) → IsApart 0 es
    → AreStored s stored es → begins_at es at ≡ Some e → e.dirty ≡ false
    → file_len stored (without_at es at) ≡ file_len stored es
less_len stored es at e apart all begins clean =
    omega (arith, ends_within stored es at e apart all begins clean, last_end-without_at es at e begins)

-- A file after an eviction.
pub record StaysFile (s t : Stored) (stored : List ℕ) (es fs : List Extent) : Type 0 where
  pub mirrors : AreStored t stored fs
  pub bytes : file_bytes (byte_in t) stored fs ≡ file_bytes (byte_in s) stored es

pub file_stays : {s t : Stored} (p : ℕ) (stored : List ℕ) (es : List Extent) → Stays s t
    → Covers t (bufs_of (all_parts es)) → AllByRecursion (IsLaid s p) es → AreStored s stored es
    → StaysFile s t stored es es
file_stays {s = s} {t = t} p stored es stays covers laid all = record {
  mirrors = record { each = λ i. stored_stays p es stored i stays covers laid (all.each i) };
  bytes =
      bytes_same (byte_in t) (byte_in s) stored es es (λ i. read_stays p es (slice_index stored i) i stays covers laid)
      refl;
}

pub file_evicted : {s t : Stored} (p : ℕ) (stored : List ℕ) (es : List Extent) (at : ℕ) (e : Extent) → Stays s t
    → Covers t (bufs_of (all_parts (without_at es at))) → IsApart 0 es → AllByRecursion (IsLaid s p) es
    → AreStored s stored es
    → begins_at es at ≡ Some e → e.dirty ≡ false → StaysFile s t stored es (without_at es at)
file_evicted {s = s} {t = t} p stored es at e stays covers apart laid all begins clean =
    let rest = without_at es at in
    let laid' = each-without_at (IsLaid s p) es at laid in
    record {
      mirrors =
          record {
            each =
                λ i. stored_stays p rest stored i stays covers laid'
                (less_stored s stored es at e i apart begins (all.each i));
          };
      bytes =
          bytes_same (byte_in t) (byte_in s) stored rest es
          (λ i. read_stays p rest (slice_index stored i) i stays covers laid'
          ∙ less_byte stored es at e i apart all begins clean) (less_len stored es at e apart all begins clean);
    }

pub slot_evicted : {s t : Stored} (c : Cached) (f at g : ℕ) (slots : List (List ℕ)) → IsSound s c
    → (there : IsCleanAt c.files f at) → Stays s t → Covers t (held (without_extent c.files f at))
    → AreStored s (content slots g) (extents_in c.files g)
    → StaysFile s t (content slots g) (extents_in c.files g) (extents_in (without_extent c.files f at) g)
slot_evicted {s = s} {t = t} c f at g slots sound there stays covers all =
    let fs = c.files in
    let x = lacking (file_in fs f) at in
    let numbered = clean_numbered there in
    let stored = content slots g in
    let cov = covers_file (without_extent fs f at) g covers in
    let filed = sound.files g in
    elim (cases_eq g f) [
      | inl same ↦ (
          let is : extents_in (without_extent fs f at) g ≡ without_at (extents_in fs g) at =
          ap (extents_in (without_extent fs f at)) same
          ∙ ap (λ (y : CachedFile). y.extents.extents) (file_same fs f x numbered.0 numbered.1)
          ∙ ap (λ n. without_at (extents_in fs n) at) (sym same) in
          let begins = ap (λ n. begins_at (extents_in fs n) at) same ∙ there.begins in
          subst (StaysFile s t stored (extents_in fs g)) (sym is)
          (file_evicted (file_in fs g).pool stored (extents_in fs g) at there.extent stays
          (subst (λ es. Covers t (bufs_of (all_parts es))) is cov) filed.apart filed.laid all begins there.clean))
      | inr ne ↦ (
          let is : extents_in (without_extent fs f at) g ≡ extents_in fs g =
          ap (λ (y : CachedFile). y.extents.extents) (file_other fs f g x ne) in
          subst (StaysFile s t stored (extents_in fs g)) (sym is)
          (file_stays (file_in fs g).pool stored (extents_in fs g) stays
          (subst (λ es. Covers t (bufs_of (all_parts es))) is cov) filed.laid all))
    ]

-- Two steps, of which the second takes no reference.
pub frees_then : {a b c : Stored} → FreesOnly a b → FreesOnly b c → ((x : BufId) → count_of c x ≤ count_of b x)
    → FreesOnly a c
frees_then {a = a} {b = b} {c = c} m n fewer = record {
  runs = λ h. n.runs (m.runs h);
  pools = λ p is. n.pools p (ap (λ (x : Pool). x.closed) (m.pools p is) ∙ is) ∙ m.pools p is;
  chunks = λ p. all_or_none a b c p (m.chunks p) (n.chunks p);
  count = n.count ∙ m.count;
  limit = n.limit ∙ m.limit;
  incremented = λ q. n.incremented q ∙ m.incremented q;
  each = λ q. elim (n.each q) [
    | inl same ↦ elim (m.each q) [ inl was ↦ inl (same ∙ was) | inr free ↦ inr (same ∙ free) ]
    | inr free ↦ inr free
  ];
  freed = λ q p free some. elim (m.each q) [
    | inl was ↦ (
        let there = ap (λ (k : kind.PageKind). first_on k q) was ∙ some in
        let buf : buf_at b.arena p ≡ buf_at a.arena p =
        λ i. (let x : BufId = record { page = p; generation = m.incremented p i } in x) in
        ap (count_of c) (sym buf) ∙ n.freed q p free there)
    | inr gone ↦ (let z = m.freed q p gone some in omega (arith, z, fewer (buf_at a.arena p)))
  ];
}

keeps_none : (c : Cached) → KeepsPlaces c c
keeps_none c = record {
  count = refl;
  pools = λ f. refl;
  gaps = λ f i h. h;
  rooms = λ f. omega arith;
  entries =
      λ p. omega arith;
}

keeps_trans : (a b c : Cached) → KeepsPlaces a b → KeepsPlaces b c → KeepsPlaces a c
keeps_trans a b c m n = record {
  count = n.count ∙ m.count;
  pools = λ f. n.pools f ∙ m.pools f;
  gaps = λ f i h. n.gaps f i (m.gaps f i h);
  rooms = λ f. omega (arith, m.rooms f, n.rooms f);
  entries = λ p. omega (arith, m.entries p, n.entries p);
}

lowered_room : (r : Ranking) → (lowered r).room ≡ r.room
lowered_room r = pick (nat_lt MAX_LOW r.low) where
  pick : (b : Bool)
      → (cond b (let x : Ranking = record r { low = 0; entries = map (lowered_by r.low) r.entries } in x) r).room
      ≡ r.room
  pick true = refl
  pick false = refl

evicted_room : (r : Ranking) (f at : ℕ) → r.room ≤ (evicted_at r f at).room
evicted_room r f at = omega (arith, lowered_room (record (left_at r f at) { low = (entry_or r.entries f at).height }))

keeps_evicted : (a b : Holding) (f at : ℕ) → IsSound a.store a.cache → Evicts f at a b → KeepsPlaces a.cache b.cache
keeps_evicted a b f at sound gone =
    let fs = a.cache.files in
    let x = lacking (file_in fs f) at in
    let numbered = clean_numbered gone.there in
    let p = (file_in fs f).pool in
    let r = evicted_at (order_in a.cache.orders p) f at in
    let ob = numbered_bounds a.cache.orders p (sound.opened f (numbered_yes fs f numbered.0 numbered.1)).ordered in
    record {
      count = ap length gone.files ∙ length-with_file fs f x;
      pools = λ g. ap (λ gs. (file_in gs g).pool) gone.files ∙ elim (cases_eq g f) [
        | inl same ↦ ap (λ n. (file_in (with_file fs f x) n).pool) same
            ∙ ap (λ (y : CachedFile). y.pool) (file_same fs f x numbered.0 numbered.1)
            ∙ ap (λ n. (file_in fs n).pool) (sym same)
        | inr ne ↦ ap (λ (y : CachedFile). y.pool) (file_other fs f g x ne)
      ];
      gaps = λ g i h. ap (λ gs. cover (extents_in gs g) i) gone.files ∙ elim (cases_eq g f) [
        | inl same ↦ (
            let is : extents_in (with_file fs f x) g ≡ without_at (extents_in fs f) at =
            ap (extents_in (with_file fs f x)) same
            ∙ ap (λ (y : CachedFile). y.extents.extents) (file_same fs f x numbered.0 numbered.1) in
            ap (λ es. cover es i) is ∙ cover-without_at 0 (extents_in fs f) at gone.there.extent i (sound.files f).apart
            gone.there.begins ∙ still (is_over gone.there.extent i) (cover (extents_in fs f) i)
            (ap (λ n. cover (extents_in fs n) i) (sym same) ∙ h))
        | inr ne ↦ ap (λ (y : CachedFile). cover y.extents.extents i) (file_other fs f g x ne) ∙ h
      ];
      rooms = λ g. elim (cases_eq g f) [
        | inl same ↦
            omega (
              arith,
              ap (λ gs. (file_in gs g).extents.room) gone.files,
              ap (λ n. (file_in (with_file fs f x) n).extents.room) same,
              ap (λ (y : CachedFile). y.extents.room) (file_same fs f x numbered.0 numbered.1),
              ap (λ n. (file_in fs n).extents.room) same,
            )
        | inr ne ↦
            omega (
              arith,
              ap (λ gs. (file_in gs g).extents.room) gone.files,
              ap (λ (y : CachedFile). y.extents.room) (file_other fs f g x ne),
            )
      ];
      entries = λ q. elim (cases_eq q p) [
        | inl same ↦
            omega (
              arith,
              ap (λ os. (order_in os q).room) gone.orders,
              ap (λ n. (order_in (with_order a.cache.orders p r) n).room) same,
              ap (λ (y : Ranking). y.room) (order_same a.cache.orders p r ob.0 ob.1),
              ap (λ n. (order_in a.cache.orders n).room) same,
              evicted_room (order_in a.cache.orders p) f at,
            )
        | inr ne ↦
            omega (
              arith,
              ap (λ os. (order_in os q).room) gone.orders,
              ap (λ (y : Ranking). y.room) (order_other a.cache.orders p q r ne),
            )
      ];
    }
  where
    still : (b : Bool) (o : Option Cell) → o ≡ None → cond b None o ≡ None
    still true o is = refl
    still false o is = is

pub gives_up_trans : (a b c : Holding) → GivesUp a b → GivesUp b c → GivesUp a c
gives_up_trans a b c m n = record {
  moves = record {
    counts = record { each = λ x. omega (arith, m.moves.counts.each x, n.moves.counts.each x) };
    stays = stays_trans m.moves.stays n.moves.stays;
    still = λ h. n.moves.still (m.moves.still h);
    tidy = λ h. n.moves.tidy (m.moves.tidy h);
  };
  clean = record { each = λ x. omega (arith, m.clean.each x, n.clean.each x) };
  fewer = λ x. omega (arith, m.fewer x, n.fewer x);
  frees = frees_then m.frees n.frees n.fewer;
  lists = n.lists ∙ m.lists;
  reclaims = λ h. n.reclaims (m.reclaims h);
  mirrors = λ slots h. n.mirrors slots (m.mirrors slots h);
  files = λ slots h. record { each = λ f. (n.files slots (m.mirrors slots h)).each f ∙ (m.files slots h).each f };
  keeps = keeps_trans a.cache b.cache c.cache m.keeps n.keeps;
}

-- Evictions one after another.

pub gives_up_none : (h : Holding) → GivesUp h h
gives_up_none h = record {
  moves = record {
    counts = record { each = λ b. refl };
    stays = (moves_none h.store).stays;
    still = λ x. x;
    tidy =
        λ x. x;
  };
  clean = record { each = λ b. refl };
  fewer = λ b. omega arith;
  frees = frees_none h.store h.store refl refl refl;
  lists = refl;
  reclaims = λ x. x;
  mirrors = λ slots m. m;
  files = λ slots m. record { each = λ f. refl };
  keeps = keeps_none h.cache;
}

pub gives_up_more : (a b c : Holding) (f at : ℕ) → GivesUp a b → IsSound b.store b.cache → Evicts f at b c → GivesUp a c
gives_up_more a b c f at m sound gone =
    let fs = b.cache.files in
    let there = gone.there in
    let numbered = clean_numbered there in
    let parts : parts_at fs f at ≡ there.extent.parts = ap parts_in there.begins in
    let moves = subst (λ (xs : List Slice). Moves b.store c.store (bufs_of xs) []) parts gone.moves in
    let covers = covers_evicted fs f at there.extent numbered there.begins sound.covered moves in
    let slot =
    λ (slots : List (List ℕ)) (h : Mirrors a.store slots a.cache.files) (g : ℕ). subst
    (λ gs. StaysFile b.store c.store (content slots g) (extents_in fs g) (extents_in gs g)) (sym gone.files)
    (slot_evicted b.cache f at g slots sound there moves.stays covers ((m.mirrors slots h).each g)) in
    record {
      moves = record {
        counts =
            record {
              each =
                  λ x. omega (
                    arith,
                    m.moves.counts.each x,
                    moves.counts.each x,
                    tally_none x,
                    held_less (tally x) (additive_tally x) fs f at there.extent numbered there.begins,
                    ap (λ gs. tally x (held gs)) gone.files,
                  );
            };
        stays = stays_trans m.moves.stays moves.stays;
        still = λ h. moves.still (m.moves.still h);
        tidy = λ h. moves.tidy (m.moves.tidy h);
      };
      clean =
          record {
            each =
                λ x. omega (
                  arith,
                  m.clean.each x,
                  moves.counts.each x,
                  tally_none x,
                  clean_less (tally x) (additive_tally x) fs f at there.extent numbered there.begins there.clean,
                  ap (λ gs. tally x (clean_held gs)) gone.files,
                );
          };
      fewer = λ x. omega (arith, m.fewer x, moves.counts.each x, tally_none x);
      frees = frees_trans m.frees gone.frees moves.counts;
      lists = gone.lists ∙ m.lists;
      reclaims = λ h. gone.reclaims (m.reclaims h);
      mirrors = λ slots h. record { each = λ g. (slot slots h g).mirrors };
      files = λ slots h. record { each = λ g. (slot slots h g).bytes ∙ (m.files slots h).each g };
      keeps = keeps_trans a.cache b.cache c.cache m.keeps (keeps_evicted b c f at sound gone);
    }
