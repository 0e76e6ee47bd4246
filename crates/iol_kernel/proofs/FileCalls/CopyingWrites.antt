-- A copying write to a file: the pages that it fills, and the bytes that keep their places.
use Rattle.std.proofs.Common.{inl, inr, ◌≡◌, ◌∙◌, ℕ, zero, suc, ◌+◌, ◌<◌, true, List, [], ◌∷◌, length, get_or, map, All}
use Rattle.std.proofs.Common.{Option, Some, None, refl, sym, ap, subst, arith}
use Rattle.std.specs.List.{Contains}
use Rattle.std.specs.Prelude.{◌==◌, ◌⊎◌, Result, Ok, Err, IfErr, OnOk, take}
use Rattle.std.proofs.lemmas.Bool.{cases_lt}
use Rattle.std.proofs.lemmas.Bool.Decides.{nat_tests}
use Rattle.std.proofs.lemmas.List.{append-nil, get_or-append-add, get_or-map, get_or_append_left, length-map}
use Rattle.std.proofs.lemmas.List.FromFn.{get_or-map-range_with_len, length-map-range_with_len}
use Rattle.iol_core.specs.NumberedLists.{is_numbered}
use Rattle.iol_core.specs.Calls.Writes as writing
use Rattle.iol_core.specs.Meaning.{WantOfRoom}
use Rattle.iol_core.specs.Text.{labelled}
use Rattle.iol_core.specs.declared.descriptors.Descriptor.{Descriptor}
use Rattle.iol_core.specs.declared.descriptors.Descriptor.TheVariants as on
use Rattle.iol_core.specs.declared.descriptors.Mode.{Mode}
use Rattle.iol_core.specs.declared.refusals.Refusal.{Refusal}
use Rattle.iol_core.specs.declared.refusals.Refusal.TheVariants.{NoRoom}
use Rattle.iol_arena.specs.State.{pages_for}
use Rattle.iol_arena.proofs.Members.{in_contains}
use Rattle.iol_hold.specs.Moves.{SameLists, pool_meant}
use Rattle.iol_hold.specs.Pages.{KeepsPages}
use Rattle.iol_hold.specs.Places.{Place, byte_len, place_in, places, slice_places}
use Rattle.iol_hold.specs.Room.{free_of, lowest_of}
use Rattle.iol_hold.specs.StoreState.{Stored}
use Rattle.iol_hold.specs.Texts.{byte_at, text_of}
use Rattle.iol_hold.specs.declared.slices.Slice.{Slice}
use Rattle.iol_hold.proofs.PageChanges.{keeps_pages_frees, keeps_pages_shares, keeps_pages_trans, returned_then}
use Rattle.iol_hold.proofs.PageChanges.{same_closed}
use Rattle.iol_hold.proofs.Rooms.{no_pages}
use Rattle.iol_hold.proofs.SlicePlaces.{byte_len-cons}
use Rattle.iol_cache.specs.CacheState.{Cached, file_in}
use Rattle.iol_cache.specs.Composition.{copied_pages}
use Rattle.iol_cache.specs.Evictions.{Holding}
use Rattle.iol_cache.specs.Overwrites.{OnlyMakesRoom, WritesFile}
use Rattle.iol_cache.proofs.RangeWrites.Composition.{own_run}
use Rattle.iol_cache.proofs.Extents.KeptCover.{AreApart, apart_of}
use Rattle.iol_kernel.specs.KeptCover.{KeepsBeside, LacksPages}
use Rattle.iol_kernel.specs.FileCalls.{holding_of}
use Rattle.iol_kernel.specs.KernelState.{KernelState, IsSound, read_of}
use Rattle.iol_kernel.specs.Readings.{bytes_over}
use Rattle.iol_kernel.specs.Room.{AfterRoom, MakesRoom, can_fit}
use Rattle.iol_kernel.specs.WritesByCopy.{MayPut}
use Rattle.iol_kernel.specs.FileWrites.{GivesUpNew, LaysInFile, LaysOn, LaysOver, PutsInFile, PutsOn, UnlaidRoomy}
use Rattle.iol_kernel.specs.FileWrites.{pool_of_file}
use Rattle.iol_kernel.proofs.State.AfterRoom.{memory_left}
use Rattle.iol_kernel.proofs.FileCalls.KeptCover.{beside_none, beside_same, room_keeps, unless_beside, unless_then}
use Rattle.iol_kernel.proofs.FileCalls.KeptCover.{unwritten_unless, write_unless}
use Rattle.iol_kernel.proofs.FileCalls.FileNames.{cache_sound}
use Rattle.iol_kernel.proofs.State.Stay.{pages_equal}
use Rattle.iol_kernel.proofs.FileCalls.Overwrites.{pool-file}

-- Bytes in the pool are not copied.

label_pools : (s : Stored) (p : ℕ) (xs : List Slice) (bytes : List ℕ) → text_of s xs ≡ labelled p bytes
    → All (λ (l : Place). l.pool ≡ p) (places xs)
label_pools s p xs bytes text i d h =
    let e : ℕ × ℕ = byte_at s d in
    let n : length (places xs) ≡ length bytes = sym (length-map (places xs) (byte_at s)) ∙ ap length text
    ∙ length-map bytes (λ b. (b, p)) in
    ap (λ (b : ℕ × ℕ). b.1) (sym (get_or-map (byte_at s) (places xs) i d e h) ∙ ap (λ t. get_or t i e) text
    ∙ get_or-map (λ b. (b, p)) bytes i 0 e (omega (arith, h, n)))

same_pool : (m n : ℕ) → m ≡ n → (m == n) ≡ true
same_pool m n e = grind (arith, nat_tests, e)

own_at : (p : ℕ) (xs : List Slice) → All (λ (l : Place). l.pool ≡ p) (places xs) → (k : ℕ) (d : Slice) → k < length xs
    → ((get_or xs k d).hold.pool == p) ≡ true
own_at p [] all k d h = absurd (omega (arith, h))
own_at p (x ∷ xs) all zero d h =
    let q : Place = place_in x x.from in
    let long : length (slice_places x) ≡ x.len = length-map-range_with_len (place_in x) x.from x.len in
    let first : get_or (places (x ∷ xs)) 0 q ≡ q =
    get_or_append_left (slice_places x) (places xs) q 0 (omega (arith, x.some, long))
    ∙ get_or-map-range_with_len (place_in x) x.from x.len 0 x.from q x.some (omega arith) in
    same_pool x.hold.pool p (ap (λ (l : Place). l.pool) (sym first)
    ∙ all 0 q (omega (arith, x.some, byte_len-cons x xs)))
own_at p (x ∷ xs) all (suc k) d h =
    own_at p xs (λ i e within.
    let long : length (slice_places x) ≡ x.len = length-map-range_with_len (place_in x) x.from x.len in
    ap (λ (l : Place). l.pool) (sym (get_or-append-add (slice_places x) (places xs) i e))
    ∙ all (length (slice_places x) + i) e (omega (arith, within, long, byte_len-cons x xs)))
    k d (omega (arith, h))

copied_none : (s : Stored) (p : ℕ) (xs : List Slice) (bytes : List ℕ) → text_of s xs ≡ labelled p bytes
    → copied_pages p xs ≡ 0
copied_none s p xs bytes text = ap (copied_pages p) (sym (append-nil xs))
    ∙ own_run p xs [] (own_at p xs (label_pools s p xs bytes text)) ∙ no_pages

-- Pages are filled, and then no others.

no_member : (q : ℕ) → Contains (let l : List ℕ = [] in l) q → ⊥
no_member q h = in_contains [] q h

filled_then : {a b c : Stored} {placed : List ℕ} → SameLists a b → KeepsPages a b placed → KeepsPages b c []
    → KeepsPages a c placed
filled_then {a = a} {b = b} {c = c} same m n = record {
  count = n.count ∙ m.count;
  limit = n.limit ∙ m.limit;
  raises = record {
    incremented = λ q h. n.raises.kept q (no_member q) ∙ m.raises.incremented q h;
    kept =
        λ q out. n.raises.kept q (no_member q) ∙ m.raises.kept q out;
  };
  others = λ q out. elim (n.others q (no_member q)) [
    | inl still ↦ elim (m.others q out) [ inl was ↦ inl (still ∙ was) | inr free ↦ inr (still ∙ free) ]
    | inr free ↦ inr free
  ];
  chunks = λ p was is. (let between = same_closed a b same p ∙ was in n.chunks p between is ∙ m.chunks p was between);
  returned = λ p is. returned_then a b c same m p (n.returned p is);
}

-- New bytes are in the file's pool, and are written to the file.

module _ (h : KernelState) (s t : Stored) (d : Cached) (f at pool : ℕ) (xs : List Slice) (bytes : List ℕ)
    (apart : AreApart h.cache) (own : pool_of_file h f ≡ pool) (long : byte_len xs ≡ length bytes)
    (text : text_of s xs ≡ labelled pool bytes) where
  abbrev filled : KernelState
  filled = record h { store = s }

  abbrev mid : Holding
  mid = record { store = s; cache = h.cache }

  abbrev put : Holding
  put = record { store = t; cache = d }

  none_copied : copied_pages (pool_of_file h f) xs ≡ 0
  none_copied = ap (λ p. copied_pages p xs) own ∙ copied_none s pool xs bytes text

  none_lacks : LacksPages filled (pool_of_file h f) (copied_pages (pool_of_file h f) xs) → ⊥
  none_lacks less = absurd (omega (arith, less, none_copied))

  written_pages : WritesFile f at xs mid put → KeepsPages s t []
  written_pages x =
      let a = x.over.prepares in
      let placed = a.composes.pages in
      let p = (file_in x.mid.cache.files f).pool in
      let same_pool' : p ≡ pool_of_file h f = x.room.gives_up.keeps.pools f ∙ x.room.rooms.pools f in
      let none : copied_pages p xs ≡ 0 = ap (λ q. copied_pages q xs) same_pool' ∙ none_copied in
      let composed : KeepsPages x.mid.store a.mid [] =
      subst (λ n. KeepsPages x.mid.store a.mid (take n (free_of x.mid.store p))) none placed.pages in
      keeps_pages_trans x.room.gives_up.lists (keeps_pages_frees x.room.gives_up.frees)
      (keeps_pages_trans (ap (map pool_meant) placed.pools) composed
      (keeps_pages_trans (ap (map pool_meant) a.shares.pools) (keeps_pages_shares a.shares)
      (keeps_pages_frees x.over.puts.frees)))

  pub put_pages : (0 < byte_len xs → WritesFile f at xs mid put) → (byte_len xs ≡ 0 → put ≡ mid) → KeepsPages s t []
  put_pages writes nothing = elim (cases_lt 0 (byte_len xs)) [
    | inl some ↦ written_pages (writes some)
    | inr none ↦ pages_equal s t (ap (λ (x : Holding). x.store) (nothing (omega (arith, none))))
  ]

  pub put_beside : is_numbered h.cache.files f ≡ true → (0 < byte_len xs → WritesFile f at xs mid put)
      → (byte_len xs ≡ 0 → put ≡ mid) → KeepsBeside f at (length bytes) pool ⊥ h.cache d
  put_beside there writes nothing = elim (cases_lt 0 (byte_len xs)) [
    | inl some ↦
        beside_none f at (byte_len xs) (length bytes) (pool_of_file h f) pool
        (LacksPages filled (pool_of_file h f) (copied_pages (pool_of_file h f) xs)) h.cache d long none_lacks
        (write_unless filled f at xs put apart there (writes some))
    | inr none ↦
        beside_same f at (length bytes) pool ⊥ h.cache d (ap (λ (x : Holding). x.cache) (nothing (omega (arith, none))))
  ]

  pub unput_beside : OnlyMakesRoom (pool_of_file h f) (copied_pages (pool_of_file h f) xs) mid put
      → KeepsBeside f at (length bytes) pool ⊥ h.cache d
  unput_beside room =
      beside_none f at (byte_len xs) (length bytes) (pool_of_file h f) pool
      (LacksPages filled (pool_of_file h f) (copied_pages (pool_of_file h f) xs)) h.cache d long none_lacks
      (unwritten_unless filled f at xs put apart room)

  pub room_alone : OnlyMakesRoom (pool_of_file h f) (copied_pages (pool_of_file h f) xs) mid put
      → OnlyMakesRoom pool 0 mid put
  room_alone room =
      subst (λ p. OnlyMakesRoom p 0 mid put) own
      (subst (λ n. OnlyMakesRoom (pool_of_file h f) n mid put) none_copied room)

pub put_released : {a b c d : Stored} {placed : List ℕ} → SameLists a b → SameLists b c → KeepsPages a b placed
    → KeepsPages b c [] → KeepsPages c d [] → KeepsPages a d placed
put_released first second m n o = filled_then first m (keeps_pages_trans second n o)

-- Room was made before.

module _ (f at pool count held : ℕ) (h k : KernelState) (same : count ≡ held)
    (room : MakesRoom pool (pages_for count) h k) where
  here : MakesRoom pool (pages_for held) h k
  here = subst (λ n. MakesRoom pool (pages_for n) h k) same room

  pub puts_none : {A : Type 0} (x : Refusal) → PutsInFile {A = A} f at pool held h (Err x) k
  puts_none x =
      record {
        fills = tt;
        beside =
            unless_beside f at held pool (LacksPages h pool (pages_for held)) h.cache k.cache
            (room_keeps pool (pages_for held) h k here);
      }

  pub puts_roomed : (l : KernelState) (r : Result ℕ Refusal)
      → OnOk r (KeepsPages k.store l.store (lowest_of k.store pool held)) → KeepsBeside f at held pool ⊥ k.cache l.cache
      → PutsInFile f at pool held h r l
  puts_roomed l r pages beside = record {
    fills = fills r pages;
    beside = unless_then f at held pool pool (LacksPages h pool (pages_for held)) h.cache k.cache l.cache
        (room_keeps pool (pages_for held) h k here) beside;
  }
    where
      fills : (r : Result ℕ Refusal) → OnOk r (KeepsPages k.store l.store (lowest_of k.store pool held))
          → OnOk r (AfterRoom pool held h (λ roomy. KeepsPages roomy.store l.store (lowest_of roomy.store pool held)))
      fills (Ok a) pages = record { roomy = k; room = here; then = pages }
      fills (Err x) pages = tt

-- The same of the steps of the write.

module _ (f at pool count : ℕ) (bytes : List ℕ) (h k : KernelState) (same : count ≡ length bytes)
    (room : MakesRoom pool (pages_for count) h k) where
  roomy : MakesRoom pool (pages_for (length bytes)) h k
  roomy = subst (λ n. MakesRoom pool (pages_for n) h k) same room

  pub laid_none : {A : Type 0} (x : Refusal) → k ≡ h → LaysInFile {A = A} f at pool bytes h (Err x) k
  laid_none x same = record { lays = tt; leaves = inl same }

  pub laid_roomed : (l : KernelState) (r : Result ℕ Refusal) → can_fit h pool count ≡ true
      → OnOk r (LaysOver f at pool bytes k l) → IfErr r (λ x. (l ≡ k) ⊎ GivesUpNew pool bytes k l)
      → IfErr r (WantOfRoom pool) → ((p : ℕ) → r ≡ Err (NoRoom p) → ⊥) → LaysInFile f at pool bytes h r l
  laid_roomed l (Ok n) fits lays leaves late roomy' =
      record { lays = record { roomy = k; room = roomy; then = lays }; leaves = tt }
  laid_roomed l (Err x) fits lays leaves late roomy' =
      let went : UnlaidRoomy pool bytes h l x = record {
        memory = memory_left pool x late (λ p e. roomy' p (ap (λ y. Err y) e));
        fits = ap (can_fit h pool) (sym same) ∙ fits;
        left = record { roomy = k; room = roomy; then = leaves };
      } in
      record { lays = tt; leaves = inr went }

-- the pool in which the bytes are placed is the file's
pub own_pool : (h : KernelState) (by fd f at pool : ℕ) (mode : Mode) (bytes : List ℕ)
    → MayPut by fd (on.File f at mode) pool bytes h → pool_of_file h f ≡ pool
own_pool h by fd f at pool mode bytes may = let r = bytes_over [] h.store in
    sym (may.passes.pool r ∙ ap (writing.pool_for (read_of r h) by) (may.to r) ∙ pool-file r h f may.sound)

pub files_apart : (h : KernelState) → IsSound h → AreApart h.cache
files_apart h sound = apart_of {h = holding_of h} (cache_sound h sound)

-- By the object of the descriptor.

pub puts_refused : (o : Option Descriptor) (pool count : ℕ) (h : KernelState) (x : Refusal)
    → PutsOn o pool count h (Err x) h
puts_refused None pool count h x = tt
puts_refused (Some (on.File f at mode)) pool count h x =
    record {
      fills = tt;
      beside =
          beside_same f at count pool (LacksPages h pool (pages_for count)) h.cache h.cache refl;
    }
puts_refused (Some (on.ReadEnd p)) pool count h x = tt
puts_refused (Some (on.WriteEnd p)) pool count h x = tt
puts_refused (Some (on.Connection c)) pool count h x = tt

pub puts_queue : (x : Descriptor) → ((f at : ℕ) (mode : Mode) → x ≡ on.File f at mode → ⊥)
    → (pool count : ℕ) (h k : KernelState) (r : Result ℕ Refusal) → PutsOn (Some x) pool count h r k
puts_queue (on.File f at mode) other pool count h k r = absurd (other f at mode refl)
puts_queue (on.ReadEnd p) other pool count h k r = tt
puts_queue (on.WriteEnd p) other pool count h k r = tt
puts_queue (on.Connection c) other pool count h k r = tt

pub laid_refused : (o : Option Descriptor) (pool : ℕ) (bytes : List ℕ) (h : KernelState) (x : Refusal)
    → LaysOn o pool bytes h (Err x) h
laid_refused None pool bytes h x = tt
laid_refused (Some (on.File f at mode)) pool bytes h x = record { lays = tt; leaves = inl refl }
laid_refused (Some (on.ReadEnd p)) pool bytes h x = tt
laid_refused (Some (on.WriteEnd p)) pool bytes h x = tt
laid_refused (Some (on.Connection c)) pool bytes h x = tt

pub laid_queue : (x : Descriptor) → ((f at : ℕ) (mode : Mode) → x ≡ on.File f at mode → ⊥)
    → (pool : ℕ) (bytes : List ℕ) (h k : KernelState) (r : Result ℕ Refusal) → LaysOn (Some x) pool bytes h r k
laid_queue (on.File f at mode) other pool bytes h k r = absurd (other f at mode refl)
laid_queue (on.ReadEnd p) other pool bytes h k r = tt
laid_queue (on.WriteEnd p) other pool bytes h k r = tt
laid_queue (on.Connection c) other pool bytes h k r = tt
