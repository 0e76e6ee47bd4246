-- Files by name, and a new one.
use Rattle.std.proofs.Common.{◌≡◌, ℕ, zero, suc, ◌+◌, ◌-◌, ◌<◌, ◌≤◌, ◌∙◌, Bool, true, false, cond, List, [], ◌∷◌, ◌++◌}
use Rattle.std.proofs.Common.{length, length-append, get_or, map, Option, Some, None, refl, sym, ap, subst, arith, inl}
use Rattle.std.proofs.Common.{inr}
use Rattle.std.specs.Prelude.{position, option_map, is_some, bytes_eq, flat_map, min, nat_lt, not, sum_by, ◌||◌}
use Rattle.std.specs.List.{list_any, position_or_len, range_with_len, AllByRecursion}
use Rattle.std.proofs.lemmas.Bool.{cases_eq, cases_lt}
use Rattle.std.proofs.lemmas.Bool.Decides.{nat_tests}
use Rattle.std.proofs.lemmas.List.{length-map, map-append, get_or_append_left, get_or_past}
use Rattle.std.proofs.lemmas.List.FromFn.{get_or-map-range_with_len, length-map-range_with_len}
use Rattle.std.proofs.lemmas.List.Sums.{sum_by_push}
use Rattle.iol_core.specs.NumberedLists.{is_numbered, numbered_or}
use Rattle.iol_core.specs.State as machine
use Rattle.iol_core.specs.State.{State}
use Rattle.iol_core.specs.Calls.Files as calls
use Rattle.iol_core.specs.Calls.Files.{file_called}
use Rattle.iol_core.specs.declared.descriptors.Descriptor.{Descriptor}
use Rattle.iol_core.specs.declared.descriptors.Descriptor.TheVariants as on
use Rattle.iol_core.specs.declared.limits.TheConstants.{MAX_FILES, MAX_FILE_BYTES}
use Rattle.iol_core.specs.declared.numbers.BufId.{BufId}
use Rattle.iol_back.specs.Disk.{Disk, IfHonest, content}
use Rattle.iol_hold.specs.Moves.{tally}
use Rattle.iol_hold.specs.Texts.{bufs_of}
use Rattle.iol_hold.proofs.Counts.{tally_none}
use Rattle.iol_cache.specs.CacheState.{Cached, file_in, no_file, new_file, extents_in, all_parts, held, order_in}
use Rattle.iol_cache.specs.Contents.{AreStored, file_bytes}
use Rattle.iol_extent.specs.Extents.{Extent, cover}
use Rattle.iol_cache.specs.Sound as cache
use Rattle.iol_cache.specs.declared.files.CachedFile.{CachedFile}
use Rattle.iol_cache.proofs.Extents.FileEntries.{numbered_bounds, numbered_yes, additive_tally, file_nowhere, sum-flat}
use Rattle.iol_kernel.specs.Calls.{AddsFile}
use Rattle.iol_kernel.specs.KernelState.{KernelState, objects_of, AreFiled, IsCached, IsFile, IsOpenEnd, IsSound}
use Rattle.iol_kernel.specs.KernelState.{read_of}
use Rattle.iol_kernel.specs.Readings.{Reading, slot_read, slots_read}
use Rattle.iol_kernel.specs.Views.{state_view}
use Rattle.iol_kernel.proofs.State.Slots.{file_bytes-none}
use Rattle.iol_kernel.proofs.State.FileLimits.{ends_weaker, with_files}
use Rattle.iol_kernel.proofs.State.Sound.{each-push}

pub files-read_of : (f : Reading) (h : KernelState) → (read_of f h).files ≡ h.files
unfolding read_of state_view
files-read_of f h = refl

-- an element passes exactly if the index of the first that passes is below the length
any-first : {A : Type 0} (p : A → Bool) (xs : List A) → list_any p xs ≡ nat_lt (position_or_len p xs) (length xs)
any-first p [] = refl
any-first p (x ∷ xs) = of (p x) (any-first p xs)
  where
    shifted : (n m : ℕ) → nat_lt n m ≡ nat_lt (1 + n) (suc m)
    shifted n m = elim (cases_lt n m) [ inl k ↦ grind (arith, nat_tests, k) | inr k ↦ grind (arith, nat_tests, k) ]

    of : (b : Bool) → list_any p xs ≡ nat_lt (position_or_len p xs) (length xs)
        → (b || list_any p xs) ≡ nat_lt (cond (not b) (1 + position_or_len p xs) 0) (suc (length xs))
    of true same = grind (arith, nat_tests)
    of false same = same ∙ shifted (position_or_len p xs) (length xs)

pub has-file_called : (f : Reading) (h : KernelState) (name : List ℕ)
    → list_any (λ x. bytes_eq x.name name) h.files ≡ is_some (file_called (read_of f h) name)
has-file_called f h name =
    any-first (λ (x : machine.File). bytes_eq x.name name) h.files
    ∙ numbered (nat_lt (position_or_len (λ (x : machine.File). bytes_eq x.name name) h.files) (length h.files))
    (position_or_len (λ (x : machine.File). bytes_eq x.name name) h.files)
    ∙ ap (λ (fs : List machine.File). is_some (option_map (λ i. i + 1) (position (λ x. bytes_eq x.name name) fs)))
    (sym (files-read_of f h))
  where
    numbered : (b : Bool) (n : ℕ) → b ≡ is_some (option_map (λ i. i + 1) (cond b (Some n) None))
    numbered true n = refl
    numbered false n = refl

pub ruleset file_rules = (files-read_of)

-- The bytes in the next slot.

abbrev Files : Type 0
Files = List CachedFile

no_extents : (fs : Files) (n : ℕ) → length fs < n → extents_in fs n ≡ []
no_extents fs n past = ap (λ (x : CachedFile). x.extents.extents) (file_nowhere fs n (grind (arith, nat_tests, past)))

slot-new : (f : Reading) (fs : Files) (n : ℕ) → length fs < n → slot_read f fs n ≡ content f.stored n
slot-new f fs n past =
    ap (file_bytes (λ p. (f.at p).0) (content f.stored n)) (no_extents fs n past)
    ∙ file_bytes-none (λ p. (f.at p).0) (content f.stored n)

pub numbered_more : {A : Type 0} (xs ys : List A) (n : ℕ) → is_numbered xs n ≡ true → is_numbered (xs ++ ys) n ≡ true
numbered_more xs ys n is = let bounds = numbered_bounds xs n is in
    numbered_yes (xs ++ ys) n bounds.0 (omega (arith, bounds.1, length-append xs ys))

pub as_many : (h : KernelState) → AreFiled h.files h.cache.files → length h.cache.files ≡ length h.files
as_many h filed = sym (length-map h.cache.files (λ (x : CachedFile). x.pool)) ∙ ap length filed
    ∙ length-map h.files (λ (x : machine.File). x.pool)

pub next-slot : (f : Reading) (h : KernelState) → AreFiled h.files h.cache.files → length h.files < MAX_FILES
    → machine.content (read_of f h) (length h.files + 1) ≡ content f.stored (length h.files + 1)
unfolding read_of state_view machine.content slots_read
next-slot f h filed few =
    let n : ℕ = length h.files in
    let slots : List (List ℕ) = map (slot_read f h.cache.files) (range_with_len 1 MAX_FILES) in
    let at : numbered_or slots (n + 1) [] ≡ get_or slots n [] = grind (arith, nat_tests) in
    at
    ∙ get_or-map-range_with_len (slot_read f h.cache.files) 1 MAX_FILES n (n + 1) [] few (omega arith)
    ∙ slot-new f h.cache.files (n + 1) (omega (arith, as_many h filed))

pub last-slot : (f : Reading) (h : KernelState) → MAX_FILES ≤ length h.files
    → machine.content (read_of f h) (length h.files + 1) ≡ []
unfolding read_of state_view machine.content slots_read
last-slot f h full =
    let n : ℕ = length h.files in
    let slots : List (List ℕ) = map (slot_read f h.cache.files) (range_with_len 1 MAX_FILES) in
    let at : numbered_or slots (n + 1) [] ≡ get_or slots n [] = grind (arith, nat_tests) in
    at ∙ get_or_past slots n [] (omega (arith, full, length-map-range_with_len (slot_read f h.cache.files) 1 MAX_FILES))

-- whether an honest store has more there than a file may have
pub next_too_long : (disk : Disk) (h : KernelState) (len : ℕ) → AreFiled h.files h.cache.files
    → length h.files < MAX_FILES
    → IfHonest disk (len ≡ min (length (content disk.slots (length h.files + 1))) 4294967295)
    → IfHonest disk ((f : Reading) → f.stored ≡ disk.slots
    → nat_lt MAX_FILE_BYTES len
    ≡ nat_lt MAX_FILE_BYTES (length (machine.content (read_of f h) (length (read_of f h).files + 1))))
next_too_long disk h len filed few is honest f stored =
    more len (length (content disk.slots (length h.files + 1))) (is honest)
    ∙ ap (λ (slots : List (List ℕ)). nat_lt MAX_FILE_BYTES (length (content slots (length h.files + 1)))) (sym stored)
    ∙ ap (λ (bytes : List ℕ). nat_lt MAX_FILE_BYTES (length bytes)) (sym (next-slot f h filed few))
    ∙ ap (λ (fs : List machine.File). nat_lt MAX_FILE_BYTES (length (machine.content (read_of f h) (length fs + 1))))
    (sym (files-read_of f h))
  where
    more : (n m : ℕ) → n ≡ min m 4294967295 → nat_lt MAX_FILE_BYTES n ≡ nat_lt MAX_FILE_BYTES m
    more n m is =
        elim (cases_lt MAX_FILE_BYTES m) [
          | inl k ↦ grind (arith, nat_tests, k, is)
          | inr k ↦
              grind (arith, nat_tests, k, is)
        ]

-- after the last slot there are no bytes
pub last_not_too_long : (h : KernelState) (f : Reading) → MAX_FILES ≤ length h.files
    → false ≡ nat_lt MAX_FILE_BYTES (length (machine.content (read_of f h) (length (read_of f h).files + 1)))
last_not_too_long h f full =
    ap (λ (bytes : List ℕ). nat_lt MAX_FILE_BYTES (length bytes)) (sym (last-slot f h full))
    ∙ ap (λ (fs : List machine.File). nat_lt MAX_FILE_BYTES (length (machine.content (read_of f h) (length fs + 1))))
    (sym (files-read_of f h))

-- A new file, without extents.

extents-push : (fs : Files) (p n : ℕ) → extents_in (fs ++ new_file p ∷ []) n ≡ extents_in fs n
unfolding file_in
extents-push fs p n = elim (cases_eq n 0) [
  | inl k ↦ grind (arith, nat_tests, k)
  | inr k ↦ elim (cases_lt (n - 1) (length fs)) [
    | inl l ↦ (let same = get_or_append_left fs (new_file p ∷ []) no_file (n - 1) l in
        let is : numbered_or (fs ++ new_file p ∷ []) n no_file ≡ numbered_or fs n no_file =
        grind (arith, nat_tests, k, same) in
        ap (λ (x : CachedFile). x.extents.extents) is)
    | inr l ↦ (let past = get_or_past fs (n - 1) no_file l in
        let old : numbered_or fs n no_file ≡ no_file = grind (arith, nat_tests, k, past) in
        let new : numbered_or (fs ++ new_file p ∷ []) n no_file ≡ get_or (fs ++ new_file p ∷ []) (n - 1) no_file =
        grind (arith, nat_tests, k) in
        ap (λ (x : CachedFile). x.extents.extents) new ∙ none_past (n - 1) fs l
        ∙ ap (λ (x : CachedFile). x.extents.extents) (sym old))
  ]
]
  where
    none_past : (i : ℕ) (xs : Files) → length xs ≤ i → (get_or (xs ++ new_file p ∷ []) i no_file).extents.extents ≡ []
    none_past zero [] past = refl
    none_past (suc i) [] past = refl
    none_past zero (x ∷ xs) past = absurd (omega (arith, past))
    none_past (suc i) (x ∷ xs) past = none_past i xs (omega (arith, past))

slots-push : (f : Reading) (fs : Files) (p : ℕ) → slots_read f (fs ++ new_file p ∷ []) ≡ slots_read f fs
unfolding slots_read
slots-push f fs p =
    λ i. map (λ n. file_bytes (λ q. (f.at q).0) (content f.stored n) (extents-push fs p n i))
    (range_with_len 1 MAX_FILES)

held-push : (b : BufId) (fs : Files) (p : ℕ) → tally b (held (fs ++ new_file p ∷ [])) ≡ tally b (held fs)
unfolding held
held-push b fs p =
    let w : CachedFile → ℕ = λ x. tally b (bufs_of (all_parts x.extents.extents)) in
    let one : (gs : Files) → tally b (flat_map (λ (x : CachedFile). bufs_of (all_parts x.extents.extents)) gs)
    ≡ sum_by w gs = λ gs. sum-flat (additive_tally b) (λ (x : CachedFile). bufs_of (all_parts x.extents.extents))
    gs in
    omega (arith, one (fs ++ new_file p ∷ []), one fs, sum_by_push w fs (new_file p), tally_none b)

module _ (h : KernelState) (name : List ℕ) (p : ℕ) (c : Cached) (sound : IsSound h) (added : c.files ≡ h.cache.files
    ++ new_file p ∷ []) (kept : cache.IsSound h.store c) where
  abbrev file : machine.File
  file = record { name = name; pool = p }

  abbrev pub named : KernelState
  named = record h { files = h.files ++ file ∷ []; cache = c }

  same_end : (e : Option Descriptor) → IsOpenEnd (objects_of h) e → IsOpenEnd (objects_of named) e
  same_end None is = tt
  same_end (Some (on.ReadEnd q)) is = is
  same_end (Some (on.WriteEnd q)) is = is
  same_end (Some (on.File f at mode)) is = (numbered_more h.files (file ∷ []) f is.0, is.1)
  same_end (Some (on.Connection n)) is = is

  filed : AreFiled named.files c.files
  filed =
      ap (λ (fs : Files). map (λ (x : CachedFile). x.pool) fs) added
      ∙ map-append (λ (x : CachedFile). x.pool) h.cache.files (new_file p ∷ [])
      ∙ ap (λ (ps : List ℕ). ps ++ p ∷ []) sound.filed
      ∙ sym (map-append (λ (x : machine.File). x.pool) h.files (file ∷ []))

  longer : length c.files ≡ length h.cache.files + 1
  longer = ap length added ∙ length-append h.cache.files (new_file p ∷ [])

  named-sound : IsSound named
  unfolding IsCached
  named-sound =
      record {
        domains = sound.domains;
        objects = record {
          pipes = sound.objects.pipes;
          conns = sound.objects.conns;
          files =
              λ n. record { laid = (kept.files n).laid };
        };
        fds = ends_weaker (objects_of h) (objects_of named) h.domains same_end sound.fds;
        once = sound.once;
        counted =
            record {
              each =
                  λ b. omega (
                    arith,
                    sound.counted.each b,
                    ap (λ (fs : Files). tally b (held fs)) added,
                    held-push b h.cache.files p,
                  );
            };
        tidy = sound.tidy;
        still = sound.still;
        reclaimed = sound.reclaimed;
        limits =
            record {
              aggs = sound.limits.aggs;
              few = sound.limits.few;
              objects =
                  with_files _ _ sound.limits.objects
                  (subst (λ (fs : Files). AllByRecursion IsFile fs) (sym added)
                  (each-push IsFile h.cache.files (new_file p) sound.limits.objects.cached
                  (record { apart = tt; short = omega arith }))) kept.few_files;
            };
        pooled = record {
          few = sound.pooled.few;
          opened = sound.pooled.opened;
          files_open =
              λ n there. (kept.opened n there).is_open;
        };
        sums = sound.sums;
        filed = filed;
        cached = kept;
      }

  named-read : (f : Reading) → read_of f named ≡ record (read_of f h) { files = (read_of f h).files ++ file ∷ [] }
  unfolding read_of state_view
  named-read f =
      ap (λ (xs : List (List ℕ)). record (read_of f h) { files = h.files ++ file ∷ []; slots = xs })
      (ap (slots_read f) added ∙ slots-push f h.cache.files p)

  pub named_answers : (d n : ℕ) → n ≡ length h.cache.files + 1
      → ((q : ℕ) → order_in c.orders q ≡ order_in h.cache.orders q)
      → AddsFile (λ s. calls.file_new s d name p) h n named
  named_answers d n number orders = record {
    answer = λ f keeps. number ∙ ap (λ k. k + 1) (as_many h sound.filed ∙ ap length (sym (files-read_of f h)));
    after = λ f keeps. named-read f;
    backed = λ disk short backed. record {
      honest = backed.honest;
      short = λ f there. elim (cases_lt f (length c.files)) [
        | inl l ↦ backed.short f (let bounds = numbered_bounds c.files f there in
            numbered_yes h.cache.files f bounds.0 (omega (arith, l, longer)))
        | inr l ↦ (let bounds = numbered_bounds c.files f there in
            let last : length h.files + 1 ≡ f = omega (arith, l, bounds.1, longer, as_many h sound.filed) in
            subst (λ k. length (content disk.slots k) ≤ MAX_FILE_BYTES) last short)
      ];
      mirrors = record {
        each =
            λ f. subst (λ (es : List Extent). AreStored h.store (content disk.slots f) es)
            (sym (ap (λ (fs : Files). extents_in fs f) added ∙ extents-push h.cache.files p f)) (backed.mirrors.each f);
      };
    };
    store = refl;
    sums = refl;
    keeps =
        record {
          each = λ f i c' is. ap (λ (es : List Extent). cover es i) (ap (λ (fs : Files). extents_in fs f) added
              ∙ extents-push h.cache.files p f) ∙ is;
        };
    same = refl;
    added = record { pool = p; files = added; orders = orders };
    sound = named-sound;
  }

-- the tables with the new name
pub named_as : (h : KernelState) (d n p : ℕ) (name : List ℕ) (files : List machine.File) (c : Cached) → IsSound h
    → n ≡ length h.cache.files + 1
    → (let x : machine.File = record { name = name; pool = p } in files ≡ h.files ++ x ∷ [])
    → c.files ≡ h.cache.files ++ new_file p ∷ [] → ((q : ℕ) → order_in c.orders q ≡ order_in h.cache.orders q)
    → cache.IsSound h.store c
    → AddsFile (λ s. calls.file_new s d name p) h n (record h { files = files; cache = c })
named_as h d n p name files c sound number listed added orders kept =
    subst (λ (fs : List machine.File). AddsFile (λ s. calls.file_new s d name p) h n
    (record h { files = fs; cache = c })) (sym listed) (named_answers h name p c sound added kept d n number orders)

-- the cache of a sound kernel is sound
pub cache_sound : (h : KernelState) → IsSound h → cache.IsSound h.store h.cache
unfolding IsCached
cache_sound h sound = sound.cached
