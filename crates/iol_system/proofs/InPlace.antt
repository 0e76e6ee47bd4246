-- The bytes of files that keep their places in an event, from the kernel's contract for its call.
use Rattle.std.proofs.Common.{inl, inr, ◌≡◌, ◌⊎◌, ◌∙◌, ℕ, zero, suc, ◌+◌, ◌<◌, ◌≤◌, ◌==◌, Bool, true, false, cond, List}
use Rattle.std.proofs.Common.{[], ◌∷◌, Option, Some, refl, sym, ap, subst}
use Rattle.std.proofs.lemmas.Bool.{cases_eq, cases_lt, true≢false}
use Rattle.std.specs.Prelude.{Result, Ok, Err, IfErr, OnOk}
use Rattle.iol_back.specs.Disk.{Disk}
use Rattle.iol_core.specs.Meaning.{Meaning}
use Rattle.iol_core.specs.State.{State}
use Rattle.iol_core.specs.Text.{Text}
use Rattle.iol_core.specs.declared.events.Call.{Call}
use Rattle.iol_core.specs.declared.events.Call.TheVariants as call
use Rattle.iol_core.specs.declared.events.Event.{Event}
use Rattle.iol_core.specs.declared.events.Event.TheVariants as event
use Rattle.iol_core.specs.declared.events.Reply.{Reply}
use Rattle.iol_core.specs.declared.refusals.Refusal.{Refusal}
use Rattle.iol_core.specs.declared.refusals.Refusal.TheVariants.{NoDomain, BadFd, BadAgg, NoPool, NoFile, WrongMode}
use Rattle.iol_core.specs.declared.refusals.Refusal.TheVariants.{BadRange, TooLong, TooMany, Denied, PoolClosed}
use Rattle.iol_core.specs.declared.refusals.Refusal.TheVariants.{PoolBusy, BrokenPipe, WouldBlock, NoRoom, Fault}
use Rattle.iol_core.specs.declared.refusals.Refusal.TheVariants.{Memory}
use Rattle.iol_arena.specs.State.{pages_for}
use Rattle.iol_extent.specs.Extents.{Cell, Extent, cell_at, cover, is_over}
use Rattle.iol_cache.specs.CacheState.{Cached, extents_in, file_in}
use Rattle.iol_cache.specs.KeptCover.{KeepsCover, KeepsDirty}
use Rattle.iol_cache.specs.WriteBack.{Flushes, Syncs, first_cleaned}
use Rattle.iol_extent.specs.Extents.{as_clean, cleaned_at}
use Rattle.iol_cache.specs.declared.files.CachedFile.{CachedFile}
use Rattle.iol_cache.specs.declared.sync.Flushed.{Flushed}
use Rattle.iol_cache.specs.declared.sync.Flushed.TheVariants.{Nothing, Wrote}
use Rattle.iol_kernel.specs.Calls.{MakesBytes}
use Rattle.iol_kernel.specs.WriteBack.{FlushesOne}
use Rattle.iol_kernel.proofs.FileCalls.FileNames.{cache_sound}
use Rattle.iol_kernel.specs.KeptCover.{KeepsBeside, KeepsUnless, LacksPages}
use Rattle.iol_kernel.specs.KernelState.{KernelState, IsSound}
use Rattle.iol_kernel.specs.Room.{AfterRoom, MayHaveEvicted, Places}
use Rattle.iol_kernel.proofs.FileCalls.KeptCover.{keeps_same, room_keeps}
use Rattle.iol_system.specs.InPlace.{IsThereOrClean, IsWritten, KeepsInPlace, LiesStill, MayLetGo, SharesFile}
use Rattle.iol_system.specs.Machine.{SystemState, system_of}
use Rattle.iol_system.specs.WriteBack.{CleansFirst}
use Rattle.iol_system.proofs.WriteBack.{cleans_first}

-- For each event.

call_still : (by : ℕ) (k : Call) (c : Cell) (o : Option Cell) → o ≡ Some c → LiesStill (event.Call by k) c o
call_still by (call.Fsync fd) c o is = inl is
call_still by k c o is = is

lies_still : (e : Event) (c : Cell) (o : Option Cell) → o ≡ Some c → LiesStill e c o
lies_still (event.Call by k) c o is = call_still by k c o is
lies_still event.Flush c o is = inl is
lies_still e c o is = is

module _ (disk : Disk) (old new : KernelState) (e : Event) where
  abbrev here : SystemState
  here = system_of old disk

  pub cover_in_place : KeepsCover old.cache new.cache → KeepsInPlace here e new
  cover_in_place keeps =
      record { each = λ f i c is. inl (lies_still e c (cover (extents_in new.cache.files f) i) (keeps.each f i c is)) }

  pub cache_in_place : new.cache ≡ old.cache → KeepsInPlace here e new
  cache_in_place same =
      cover_in_place (record { each = λ f i c is. ap (λ (x : Cached). cover (extents_in x.files f) i) same ∙ is })

  pub unless_in_place : (pool : ℕ) (Lacks : Type 0) → KeepsUnless pool Lacks old.cache new.cache
      → ((p : ℕ) → p ≡ pool → Lacks → MayLetGo here e p) → KeepsInPlace here e new
  unless_in_place pool Lacks keeps goes = record {
    each = λ f i c is. elim (keeps.each f i c is) [
      | inl stays ↦ inl (lies_still e c (cover (extents_in new.cache.files f) i) stays)
      | inr gave ↦ inr (inr (gave.clean, goes (file_in old.cache.files f).pool gave.pooled gave.lacks))
    ];
  }

  module _ (f at n pool : ℕ) (Lacks : Type 0) (keeps : KeepsBeside f at n pool Lacks old.cache new.cache)
      (writes : (g i : ℕ) → g ≡ f → at ≤ i → i < at + n → IsWritten old e g i) (goes : (p : ℕ) → p ≡ pool → Lacks
      → MayLetGo here e p) where
    beside_cell : (g i : ℕ) (c : Cell) → cover (extents_in old.cache.files g) i ≡ Some c
        → (g ≡ f → (i < at) ⊎ (at + n ≤ i)) → LiesStill e c (cover (extents_in new.cache.files g) i)
        ⊎ (IsWritten old e g i ⊎ ((c.dirty ≡ false) × MayLetGo here e (file_in old.cache.files g).pool))
    beside_cell g i c is out = elim (keeps.each g i c out is) [
      | inl stays ↦ inl (lies_still e c (cover (extents_in new.cache.files g) i) stays)
      | inr gave ↦ inr (inr (gave.clean, goes (file_in old.cache.files g).pool gave.pooled gave.lacks))
    ]

    pub beside_in_place : KeepsInPlace here e new
    beside_in_place = record {
      each = λ g i c is. elim (cases_eq g f) [
        | inl same ↦ elim (cases_lt i at) [
          | inl before ↦ beside_cell g i c is (λ k. inl before)
          | inr from ↦ elim (cases_lt i (at + n)) [
            | inl within ↦ inr (inl (writes g i same from within))
            | inr past ↦ beside_cell g i c is (λ k. inr past)
          ]
        ]
        | inr ne ↦ beside_cell g i c is (λ k. absurd (ne k))
      ];
    }

  -- Bytes are placed after room is made, or the call is refused.
  module _ {A : Type 0} (m : State → Meaning A) (put : State → Text → State) (pool n : ℕ) (goes : (p : ℕ) → p ≡ pool
      → LacksPages old pool (pages_for n) → MayLetGo here e p) where
    filled_unless : (r : Result A Refusal) → OnOk r (AfterRoom pool n old (λ roomy. MakesBytes put pool n roomy new))
        → IfErr r (MayHaveEvicted pool n old new)
        → KeepsUnless pool (LacksPages old pool (pages_for n)) old.cache new.cache
    filled_unless (Ok a) made refused =
        subst (λ (c : Cached). KeepsUnless pool (LacksPages old pool (pages_for n)) old.cache c) (sym made.then.cache)
        (room_keeps pool (pages_for n) old made.roomy made.room)
    filled_unless (Err x) made (inl same) =
        keeps_same pool (LacksPages old pool (pages_for n)) old.cache new.cache (ap (λ (h : KernelState). h.cache) same)
    filled_unless (Err x) made (inr went) = room_keeps pool (pages_for n) old new went.room

    pub places_in_place : (r : Result A Refusal) → Places m put pool n old r new → KeepsInPlace here e new
    places_in_place r c = unless_in_place pool (LacksPages old pool (pages_for n)) (filled_unless r c.made c.refused)
        goes

-- Writing back.

first_there : (n : ℕ) (es : List Extent) (i : ℕ) (c : Cell) → cover es i ≡ Some c
    → IsThereOrClean c (cover (first_cleaned n es) i)
first_there zero es i c is = inl is
first_there (suc n) [] i c is = absurd (cc is)
first_there (suc n) (e ∷ es) i c is =
    pick e.dirty (is_over e i) refl is (λ k. first_there n es i c k) (λ k. first_there (suc n) es i c k)
  where
    pick : (d o : Bool) → is_over e i ≡ o → cond o (Some (cell_at e i)) (cover es i) ≡ Some c
        → (cover es i ≡ Some c → IsThereOrClean c (cover (first_cleaned n es) i))
        → (cover es i ≡ Some c → IsThereOrClean c (cover (first_cleaned (suc n) es) i))
        → IsThereOrClean c (cover (cond d (as_clean e ∷ first_cleaned n es) (e ∷ first_cleaned (suc n) es)) i)
    pick true true over here less more =
        let same : cell_at e i ≡ c = cc in
        inr (ap (λ b. cond b (Some (cell_at (as_clean e) i)) (cover (first_cleaned n es) i)) over
        ∙ ap (λ (x : Cell). (let y : Cell = record { place = x.place; dirty = false } in Some y)) same)
    pick true false over here less more =
        subst (λ (b : Bool). IsThereOrClean c (cond b (Some (cell_at (as_clean e) i)) (cover (first_cleaned n es) i)))
        (sym over) (less here)
    pick false true over here less more =
        inl (ap (λ b. cond b (Some (cell_at e i)) (cover (first_cleaned (suc n) es) i)) over ∙ here)
    pick false false over here less more =
        subst (λ (b : Bool). IsThereOrClean c (cond b (Some (cell_at e i)) (cover (first_cleaned (suc n) es) i)))
        (sym over) (more here)

cleaned_there : (es : List Extent) (at i : ℕ) (c : Cell) → cover es i ≡ Some c
    → IsThereOrClean c (cover (cleaned_at es at) i)
cleaned_there [] at i c is = absurd (cc is)
cleaned_there (e ∷ es) at i c is = pick (e.at == at) (is_over e i) refl is (λ k. cleaned_there es at i c k)
  where
    pick : (b o : Bool) → is_over e i ≡ o → cond o (Some (cell_at e i)) (cover es i) ≡ Some c
        → (cover es i ≡ Some c → IsThereOrClean c (cover (cleaned_at es at) i))
        → IsThereOrClean c (cover (cond b (as_clean e ∷ es) (e ∷ cleaned_at es at)) i)
    pick true true over here rest =
        let same : cell_at e i ≡ c = cc in
        inr (ap (λ b. cond b (Some (cell_at (as_clean e) i)) (cover es i)) over
        ∙ ap (λ (x : Cell). (let y : Cell = record { place = x.place; dirty = false } in Some y)) same)
    pick true false over here rest = inl (ap (λ b. cond b (Some (cell_at (as_clean e) i)) (cover es i)) over ∙ here)
    pick false true over here rest =
        inl (ap (λ b. cond b (Some (cell_at e i)) (cover (cleaned_at es at) i)) over ∙ here)
    pick false false over here rest =
        subst (λ (b : Bool). IsThereOrClean c (cond b (Some (cell_at e i)) (cover (cleaned_at es at) i))) (sym over)
        (rest here)

pub syncs_in_place : (by fd f : ℕ) (disk after : Disk) (old new : KernelState)
    → Syncs old.store f old.cache new.cache disk after
    → KeepsInPlace (system_of old disk) (event.Call by (call.Fsync fd)) new
syncs_in_place by fd f disk after old new x = record {
  each = λ g i c is. elim (cases_eq g f) [
    | inl same ↦
        inl
        (subst (λ (es : List Extent). IsThereOrClean c (cover es i))
        (sym (ap (extents_in new.cache.files) same ∙ x.extents
        ∙ ap (λ k. first_cleaned x.count (extents_in old.cache.files k)) (sym same)))
        (first_there x.count (extents_in old.cache.files g) i c is))
    | inr ne ↦ inl (inl (ap (λ (y : CachedFile). cover y.extents.extents i) (x.others g ne) ∙ is))
  ];
}

cleaned_in_place : (disk : Disk) (old new : KernelState) → CleansFirst old.cache new.cache
    → KeepsInPlace (system_of old disk) event.Flush new
cleaned_in_place disk old new x = record {
  each = λ g i c is. elim (cases_eq g x.file) [
    | inl same ↦
        inl
        (subst (λ (es : List Extent). IsThereOrClean c (cover es i))
        (sym (ap (extents_in new.cache.files) same ∙ x.cleaned
        ∙ ap (λ k. cleaned_at (extents_in old.cache.files k) x.extent.at) (sym same)))
        (cleaned_there (extents_in old.cache.files g) x.extent.at i c is))
    | inr ne ↦ inl (inl (ap (λ (es : List Extent). cover es i) (x.others g ne) ∙ is))
  ];
}

still_in_place : (disk : Disk) (old new : KernelState) → new.cache ≡ old.cache
    → KeepsInPlace (system_of old disk) event.Flush new
still_in_place disk old new same = cache_in_place disk old new event.Flush same

flushed_in_place : (disk after : Disk) (old new : KernelState) (x : Result Flushed Refusal) → IsSound old
    → Flushes old.store old.cache new.cache disk after x → KeepsInPlace (system_of old disk) event.Flush new
flushed_in_place disk after old new (Ok Nothing) sound m = still_in_place disk old new m.1
flushed_in_place disk after old new (Ok (Wrote f)) sound m =
    cleaned_in_place disk old new (cleans_first old.store f old.cache new.cache disk after (cache_sound old sound) m.0
    m.1)
flushed_in_place disk after old new (Err (Fault f)) sound m = still_in_place disk old new m.1.same
flushed_in_place disk after old new (Err NoDomain) sound m = absurd m
flushed_in_place disk after old new (Err BadFd) sound m = absurd m
flushed_in_place disk after old new (Err BadAgg) sound m = absurd m
flushed_in_place disk after old new (Err NoPool) sound m = absurd m
flushed_in_place disk after old new (Err NoFile) sound m = absurd m
flushed_in_place disk after old new (Err WrongMode) sound m = absurd m
flushed_in_place disk after old new (Err BadRange) sound m = absurd m
flushed_in_place disk after old new (Err TooLong) sound m = absurd m
flushed_in_place disk after old new (Err TooMany) sound m = absurd m
flushed_in_place disk after old new (Err (Denied p)) sound m = absurd m
flushed_in_place disk after old new (Err (PoolClosed p)) sound m = absurd m
flushed_in_place disk after old new (Err (PoolBusy p)) sound m = absurd m
flushed_in_place disk after old new (Err BrokenPipe) sound m = absurd m
flushed_in_place disk after old new (Err WouldBlock) sound m = absurd m
flushed_in_place disk after old new (Err (NoRoom p)) sound m = absurd m
flushed_in_place disk after old new (Err Memory) sound m = absurd m

pub flushes_in_place : (disk after : Disk) (old new : KernelState) (r : Result (Unit {0}) Refusal) → IsSound old
    → FlushesOne disk old r after new → KeepsInPlace (system_of old disk) event.Flush new
flushes_in_place disk after old new r sound m = flushed_in_place disk after old new m.flushed sound m.flushes

-- `drop_clean`
pub drops_in_place : (disk : Disk) (old new : KernelState) → KeepsDirty old.cache new.cache
    → KeepsInPlace (system_of old disk) event.DropClean new
drops_in_place disk old new keeps =
    record {
      each =
          λ f i c is. elim (keeps.each f i c is) [ inl stays ↦ inl stays | inr clean ↦ inr (inr (clean, tt)) ];
    }

-- Only these calls share bytes of files.

abbrev pub shares_file : Event → Bool
shares_file (event.Call by (call.IolRead fd n)) = true
shares_file (event.Call by (call.IolWrite fd a)) = true
shares_file (event.Call by (call.Read fd n)) = true
shares_file (event.Call by (call.Write fd bytes)) = true
shares_file e = false

module _ (old : SystemState) (r : Reply) (new : KernelState) where
  call_shares_none : (by : ℕ) (k : Call) → shares_file (event.Call by k) ≡ false
      → SharesFile old (event.Call by k) r new
  call_shares_none by (call.IolRead fd n) none = absurd (true≢false none)
  call_shares_none by (call.IolWrite fd a) none = absurd (true≢false none)
  call_shares_none by (call.Read fd n) none = absurd (true≢false none)
  call_shares_none by (call.Write fd bytes) none = absurd (true≢false none)
  call_shares_none by k none = tt

  pub shares_none : (e : Event) → shares_file e ≡ false → SharesFile old e r new
  shares_none (event.Call by k) none = call_shares_none by k none
  shares_none e none = tt
