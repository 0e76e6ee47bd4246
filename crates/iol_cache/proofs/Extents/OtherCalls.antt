-- Steps of the store by other calls: a cache over it stays sound, and every file keeps its bytes.
use Rattle.std.proofs.Common.{inl, inr, ◌≡◌, ◌≢◌, ℕ, zero, suc, ◌-◌, Bool, true, false, List, [], ◌∷◌, ◌++◌, map}
use Rattle.std.proofs.Common.{length, get_or, refl, sym, ap, ◌∙◌, subst, arith}
use Rattle.std.proofs.lemmas.Bool.{cases_eq, cases_lt}
use Rattle.std.proofs.lemmas.Bool.Decides.{nat_tests}
use Rattle.std.proofs.lemmas.List.{get_or_append_left, get_or_past}
use Rattle.iol_core.specs.NumberedLists.{is_numbered, numbered_or}
use Rattle.iol_core.specs.State as machine
use Rattle.iol_core.specs.declared.numbers.BufId.{BufId}
use Rattle.iol_arena.specs.State.{page_count}
use Rattle.iol_back.specs.Disk.{content}
use Rattle.iol_pool.specs.Pools.{Pool, no_pool, pool_in, with_closed}
use Rattle.iol_pool.proofs.Owners.{pool_in-closed}
use Rattle.iol_hold.specs.StoreState.{Stored, IsTidy, IsStill}
use Rattle.iol_hold.specs.Moves.{Moves, Counts, Covers, SameLists, Stays, pool_meant}
use Rattle.iol_hold.proofs.Counts.{tally-append, tally_none}
use Rattle.iol_hold.proofs.PageChanges.{same_closed}
use Rattle.iol_cache.specs.declared.files.CachedFile.{CachedFile}
use Rattle.iol_cache.specs.CacheState.{Cached, file_in, extents_in, held}
use Rattle.iol_cache.specs.Contents.{Mirrors, SameFiles, bytes_in_slot}
use Rattle.iol_cache.specs.Sound.{IsFiled, IsSound}
use Rattle.iol_cache.proofs.Extents.HeldSlices.{covers_file}
use Rattle.iol_cache.proofs.Evictions.AfterEviction.{filed_stays}
use Rattle.iol_cache.proofs.Evictions.Files.{bytes_same, file_stays, read_stays}

-- The pools of files are open.

pub record AreOpen (ps : List Pool) (fs : List CachedFile) : Type 0 where
  pub each : (f : ℕ) → is_numbered fs f ≡ true → (pool_in ps (file_in fs f).pool).closed ≡ false

pub open_all : {s : Stored} {c : Cached} → IsSound s c → AreOpen s.pools c.files
open_all sound = record { each = λ f is. (sound.opened f is).is_open }

-- if each pool that was open is open
pub open_kept : (ps qs : List Pool) (fs : List CachedFile)
    → ((p : ℕ) → (pool_in ps p).closed ≡ false → (pool_in qs p).closed ≡ false) → AreOpen ps fs → AreOpen qs fs
open_kept ps qs fs keeps all = record { each = λ f is. keeps (file_in fs f).pool (all.each f is) }

pub open_same : (s t : Stored) (fs : List CachedFile) → SameLists s t → AreOpen s.pools fs → AreOpen t.pools fs
open_same s t fs lists = open_kept s.pools t.pools fs (λ p is. same_closed s t lists p ∙ is)

-- whether the machine's pool is closed
abbrev closed_in : List machine.Pool → (p : ℕ) → Bool
closed_in ps p = (numbered_or ps p machine.no_pool).closed

get_or-meant : (ps : List Pool) (i : ℕ)
    → get_or (map pool_meant ps) i machine.no_pool ≡ pool_meant (get_or ps i no_pool)
get_or-meant [] i = refl
get_or-meant (p ∷ ps) zero = refl
get_or-meant (p ∷ ps) (suc i) = get_or-meant ps i

closed-meant : (ps : List Pool) (p : ℕ) → closed_in (map pool_meant ps) p ≡ (pool_in ps p).closed
unfolding pool_in
closed-meant ps p =
    let e = get_or-meant ps (p - 1) in
    let is : numbered_or (map pool_meant ps) p machine.no_pool ≡ pool_meant (numbered_or ps p no_pool) =
    grind (arith, nat_tests, e) in
    ap (λ (x : machine.Pool). x.closed) is

not_both : ◌≡◌ {A = Bool} true false → ⊥
not_both e = cc

open_more : (ps : List machine.Pool) (x : machine.Pool) (p : ℕ) → closed_in ps p ≡ false
    → closed_in (ps ++ x ∷ []) p ≡ false
open_more ps x p is = elim (cases_eq p 0) [
  | inl none ↦ absurd (not_both (subst (λ n. closed_in ps n ≡ false) none is))
  | inr some ↦ elim (cases_lt (p - 1) (length ps)) [
    | inl there ↦ (
        let same = get_or_append_left ps (x ∷ []) machine.no_pool (p - 1) there in
        let e : numbered_or (ps ++ x ∷ []) p machine.no_pool ≡ numbered_or ps p machine.no_pool =
        grind (arith, nat_tests, some, same) in
        ap (λ (y : machine.Pool). y.closed) e ∙ is)
    | inr past ↦ (
        let none = get_or_past ps (p - 1) machine.no_pool past in
        let e : numbered_or ps p machine.no_pool ≡ machine.no_pool = grind (arith, nat_tests, some, none) in
        absurd (not_both (sym (ap (λ (y : machine.Pool). y.closed) e) ∙ is)))
  ]
]

-- with one more pool
pub open_added : (s t : Stored) (fs : List CachedFile) (x : machine.Pool)
    → map pool_meant t.pools ≡ map pool_meant s.pools ++ x ∷ [] → AreOpen s.pools fs → AreOpen t.pools fs
open_added s t fs x added = open_kept s.pools t.pools fs (λ p is.
    sym (closed-meant t.pools p) ∙ ap (λ ps. closed_in ps p) added
    ∙ open_more (map pool_meant s.pools) x p (closed-meant s.pools p ∙ is))

-- if a pool closed that no file is of
pub open_closed : (s t : Stored) (fs : List CachedFile) (p : ℕ)
    → ((f : ℕ) → is_numbered fs f ≡ true → (file_in fs f).pool ≢ p)
    → map pool_meant t.pools ≡ map pool_meant (with_closed s.pools p) → AreOpen s.pools fs → AreOpen t.pools fs
open_closed s t fs p none closed all = record {
  each = λ f is. (let q = (file_in fs f).pool in
      sym (closed-meant t.pools q) ∙ ap (λ ps. closed_in ps q) closed ∙ closed-meant (with_closed s.pools p) q
      ∙ ap (λ (x : Pool). x.closed) (pool_in-closed s.pools p q (none f is)) ∙ all.each f is);
}

-- The references of the extents remain.

pub covers_moved : {s t : Stored} (own taken given : List BufId) → Counts s t taken given → Covers s (own ++ taken)
    → Covers t (own ++ given)
covers_moved own taken given m covers =
    record { each = λ b. omega (arith, covers.each b, m.each b, tally-append b own taken, tally-append b own given) }

-- if the released references are in addition to those of the extents
pub held_beside : {s t : Stored} (own taken given : List BufId) → Counts s t taken given → Covers s (own ++ taken)
    → Covers t own
held_beside own taken given m covers =
    record { each = λ b. omega (arith, covers.each b, m.each b, tally-append b own taken) }

-- The cache stays sound.

pub sound_stays : {s t : Stored} (c : Cached) → IsSound s c → Stays s t → Covers t (held c.files)
    → AreOpen t.pools c.files → page_count t.arena ≡ page_count s.arena → IsTidy t → IsStill t.arena → IsSound t c
sound_stays c sound stays covers open_pools pages tidy still = record {
  files = λ f. filed_stays (file_in c.files f) (sound.files f) stays (covers_file c.files f covers);
  opened = λ f is. record { is_open = open_pools.each f is; ordered = (sound.opened f is).ordered };
  covered = covers;
  marked = sound.marked;
  pages = sound.pages ∙ sym pages;
  ranked = sound.ranked;
  ready = sound.ready;
  few_files = sound.few_files;
  few_orders = sound.few_orders;
  tidy = tidy;
  still = still;
}

-- references were taken and released, and those of the extents remain
pub sound_moved : {s t : Stored} {taken given : List BufId} (c : Cached) → IsSound s c → Moves s t taken given
    → Covers t (held c.files) → AreOpen t.pools c.files → page_count t.arena ≡ page_count s.arena → IsSound t c
sound_moved c sound moves covers open_pools pages =
    sound_stays c sound moves.stays covers open_pools pages (moves.tidy sound.tidy) (moves.still sound.still)

-- references in addition to those of the extents were exchanged
pub sound_beside : {s t : Stored} (taken given : List BufId) (c : Cached) → IsSound s c
    → Covers s (held c.files ++ taken) → Moves s t taken given → SameLists s t → page_count t.arena ≡ page_count s.arena
    → IsSound t c
sound_beside {s = s} {t = t} taken given c sound covers moves lists pages =
    sound_moved c sound moves (held_beside (held c.files) taken given moves.counts covers)
    (open_same s t c.files lists (open_all sound)) pages

pub held_still : {s t : Stored} (own : List BufId) → Counts s t [] [] → Covers s own → Covers t own
held_still own m covers = record { each = λ b. omega (arith, covers.each b, m.each b, tally_none b) }

-- Files keep their bytes.

pub slot_stays : {s t : Stored} (slots : List (List ℕ)) (fs : List CachedFile) (f : ℕ)
    → ((g : ℕ) → IsFiled s (file_in fs g)) → Stays s t → Covers t (held fs)
    → bytes_in_slot t slots fs f ≡ bytes_in_slot s slots fs f
slot_stays {s = s} {t = t} slots fs f filed stays covers =
    let es = extents_in fs f in
    bytes_same _ _ (content slots f) es es (λ i. read_stays (file_in fs f).pool es _ i stays (covers_file fs f covers)
    (filed f).laid) refl

pub files_stay : {s t : Stored} (slots : List (List ℕ)) (fs : List CachedFile) → ((g : ℕ) → IsFiled s (file_in fs g))
    → Stays s t → Covers t (held fs) → SameFiles s fs t fs slots
files_stay slots fs filed stays covers = record { each = λ f. slot_stays slots fs f filed stays covers }

-- under clean extents the store still has the same bytes
pub mirrors_stay : {s t : Stored} (slots : List (List ℕ)) (fs : List CachedFile) → ((g : ℕ) → IsFiled s (file_in fs g))
    → Stays s t → Covers t (held fs) → Mirrors s slots fs → Mirrors t slots fs
mirrors_stay slots fs filed stays covers all = record {
  each =
      λ f. (file_stays (file_in fs f).pool (content slots f) (extents_in fs f) stays (covers_file fs f covers)
      (filed f).laid (all.each f)).mirrors;
}
