-- The effect of events that place bytes, or read and write files.
use Rattle.std.proofs.Common.{◌≡◌, ◌∙◌, ℕ, Bool, List, length, true, false, refl, ap, sym, subst, Option, Some, None}
use Rattle.std.proofs.lemmas.Bool.{true≢false}
use Rattle.std.specs.Prelude.{◌⊎◌, Result, Ok, Err, IfErr, OnErr, OnOk, not, if◌then◌else◌}
use Rattle.iol_back.specs.Disk.{Disk}
use Rattle.iol_arena.specs.State.{pages_for}
use Rattle.iol_cache.specs.CacheState.{Cached}
use Rattle.iol_cache.specs.Composition.{copied_pages}
use Rattle.iol_cache.specs.ReadResults.{FaultCounts, RefusesRead}
use Rattle.iol_core.specs.State.{State, descriptor, is_live}
use Rattle.iol_core.specs.Text.{Text}
use Rattle.iol_core.specs.Meaning.{Meaning, WantOfRoom, WantOfRoomOrFault}
use Rattle.iol_core.specs.Run.{outcome}
use Rattle.iol_core.specs.SharingCalls.{is_sharing}
use Rattle.iol_core.specs.Calls.Reads as reading
use Rattle.iol_core.specs.Calls.Writes as writing
use Rattle.iol_core.specs.Calls.Writes.{is_file}
use Rattle.iol_core.specs.declared.descriptors.Descriptor.{Descriptor}
use Rattle.iol_core.specs.declared.descriptors.Mode.{Mode}
use Rattle.iol_core.specs.declared.descriptors.Descriptor.TheVariants as on
use Rattle.iol_core.specs.declared.events.Call.TheVariants as call
use Rattle.iol_core.specs.declared.events.Event.{Event}
use Rattle.iol_core.specs.declared.events.Event.TheVariants as event
use Rattle.iol_core.specs.declared.events.Reply.{Reply}
use Rattle.iol_core.specs.declared.events.Reply.TheVariants as reply
use Rattle.iol_core.specs.declared.refusals.Refusal.{Refusal}
use Rattle.iol_core.specs.declared.refusals.Refusal.TheVariants.{NoRoom, Memory}
use Rattle.iol_hold.specs.Places.{byte_len}
use Rattle.iol_hold.specs.StoreState.{Stored}
use Rattle.iol_hold.specs.declared.slices.Slice.{Slice}
use Rattle.iol_kernel.specs.FileCalls.{Serves, holding_of}
use Rattle.iol_kernel.specs.Calls.{CarriesOut}
use Rattle.iol_kernel.specs.ReadsByCopy.{Copies, CopiesOn}
use Rattle.iol_kernel.specs.FileReads.{CopiesFileAs, FileRead, LeavesAtRefusal, Reads, ReadsFileAs, ReadsOn, file_read}
use Rattle.iol_kernel.specs.FileReads.{held_by, pool_read}
use Rattle.iol_kernel.specs.KernelState.{KernelState, layout_of, slices_in}
use Rattle.iol_kernel.specs.QueueSlices.{QueuesAgg, QueuesFew, TakesSlices}
use Rattle.iol_kernel.specs.Room.{MayHaveEvicted, Places, RefusedRoomy}
use Rattle.iol_kernel.specs.FileWrites.{LaysOn, LeavesUnwritten, PutsOn, WritesOn, pool_of_file}
use Rattle.iol_kernel.specs.KeptCover.{KeepsUnless, LacksPages, LacksPagesToRead}
use Rattle.iol_kernel.proofs.State.AfterRoom.{memory_wanted}
use Rattle.iol_kernel.proofs.State.Refinement.{carried_layout}
use Rattle.iol_system.specs.StoreCalls.{asks_store, uses_cache}
use Rattle.iol_system.specs.Effects.{Does}
use Rattle.iol_system.specs.FileLengths.{ReportsEnd}
use Rattle.iol_system.specs.Late.{CopyLeaves, LeavesCopied, LeavesLate, MadeRoomFor, PutLeaves, ReadLeaves, SameTables}
use Rattle.iol_system.specs.Late.{WriteLeaves}
use Rattle.iol_system.specs.Machine.{system_of, tables_of}
use Rattle.iol_system.specs.InPlace.{IsInRange, IsWritten, KeepsInPlace, MayLetGo, ReadWantsMore, SharesCopy, SharesPut}
use Rattle.iol_system.specs.InPlace.{SharesRead, SharesWrite, WantsMore, WriteWantsMore, SharesFile}
use Rattle.iol_system.specs.PagesAndChunks.{Creates, FillsForFile, Makes, Publishes, Puts}
use Rattle.iol_system.specs.Sums.{Remembers}
use Rattle.iol_system.specs.Replies.{reported}
use Rattle.iol_system.specs.Room.{BytesFit, HasRoomFor, HasRoomToRead, HasRoomToWrite, LacksRoomFor, LacksRoomToRead}
use Rattle.iol_system.specs.Room.{LacksRoomToWrite, IsDone, IsEarly, IsFault, IsNoRoom, IsRefused}
use Rattle.iol_system.specs.Wants.{Fits, FitsNot, Wants}
use Rattle.iol_system.specs.Slices.{Divides}
use Rattle.iol_system.specs.Still.{is_still, keeps_store, takes_out}
use Rattle.iol_system.proofs.Effects.{Lies, answer_lies, asks_none, does_of, lies_apart, never, served, unlooking_of}
use Rattle.iol_system.proofs.ReplyAnswers.{Means, Reports, early_reported, no_room_reported, refused_reported}
use Rattle.iol_system.proofs.ReplyAnswers.{reported_step}
use Rattle.iol_core.proofs.Values.{KeepsValues, nothing}
use Rattle.iol_system.proofs.HeldPlaces.{Held, after_held, copied_held, given_held, laid_held, moved_held, placed_held}
use Rattle.iol_system.proofs.HeldPlaces.{step_held, values_read, values_written}
use Rattle.iol_system.proofs.InPlace.{beside_in_place, cache_in_place, places_in_place, shares_file, shares_none}
use Rattle.iol_system.proofs.InPlace.{unless_in_place}
use Rattle.iol_system.proofs.PagesAndChunks.{carried_pages, fills_then_frees}
use Rattle.iol_system.proofs.WriteBack.{none_back, writes_back}
use Rattle.iol_system.proofs.ResultReported.{ok_reported, lacks_reported, memory_reported, counts_reported}
use Rattle.iol_system.proofs.ResultReported.{has_reported, room_reported, fault_reported, early_room, early_room_fault}
use Rattle.iol_system.proofs.ResultReported.{early_of, err_more, late_reported, tables_kept, untimed, with_tables}

-- An event that places bytes in a pool once there is room.
pub record IsPlacing (e : Event) (put : State → Text → State) (w : Wants) (old : KernelState) : Type 0 where
  pub unwritten : writes_back e ≡ false
  pub unlent : shares_file e ≡ false
  pub goes : (disk : Disk) (p : ℕ) → WantsMore old w p → MayLetGo (system_of old disk) e p
  pub asks : (s : State) → asks_store s e ≡ false
  pub uses : (s : State) → uses_cache s e ≡ true
  pub unshared : (s : State) → is_sharing s e ≡ false
  pub moving : is_still e ≡ false
  pub inside : (s : State) → takes_out s e ≡ false
  pub changes : keeps_store e ≡ false
  pub keeps : (s : State) (t : Text) → KeepsValues s (put s t) nothing
  pub has : (disk : Disk) → Fits old w → HasRoomFor (system_of old disk) e
  pub lacks : (disk : Disk) → FitsNot old w → LacksRoomFor (system_of old disk) e
  pub fits : (disk : Disk) → Fits old w → BytesFit (system_of old disk) e
  pub publishes : (new : KernelState) → Makes put w old new → Publishes old e new
  pub creates : (x : Reply) (new : KernelState) → Creates old e x new
  pub late : (disk : Disk) (x : Reply) (new : KernelState) → MadeRoomFor w old x new
      → LeavesLate (system_of old disk) e x (system_of new disk)
  pub sums : (x : Reply) (new : KernelState) → new.sums ≡ old.sums → Remembers old e x new

module _ {A : Type 0} (f : A → Reply) (m : State → Meaning A) (put : State → Text → State) (w : Wants) (e : Event)
    (disk : Disk) (old new : KernelState) (r : Result A Refusal) (reports : Reports f) (placing : IsPlacing e put w old)
    (means : Means f m e) (ends : ReportsEnd (system_of old disk) e (reported f r)) where
  placed_early : IfErr r (MayHaveEvicted w.pool w.count old new) → IsEarly (reported f r) → new ≡ old
  placed_early left is =
      early_of f r (new ≡ old) (RefusedRoomy w.pool w.count old new) reports
      (λ x early late. early_room w.pool x early (memory_wanted w.pool x late.memory)) left is

  pub places_does : Places m put w.pool w.count old r new → OnOk r (Divides old e new)
      → Does disk old e (reported f r) disk new
  places_does c divides =
      let serves : Serves m disk old r disk new = c.serves disk in
      does_of ends (served f means serves) (asks_none (placing.asks (tables_of old)))
      (record {
        room = λ done. placing.has disk (ok_reported f r (Fits old w) c.room done);
        no_room = λ is. placing.lacks disk (lacks_reported f r (FitsNot old w) reports c.no_room is);
        memory = λ is. placing.fits disk (memory_reported f r (Fits old w) reports c.memory is);
        early = λ is. (placed_early c.refused is, refl);
        refused = λ unused is. never unused (placing.uses (tables_of old));
        late =
            placing.late disk (reported f r) new
            (late_reported f r (MayHaveEvicted w.pool w.count old new) reports c.refused);
      })
      (record {
        uncached = λ unused other. never unused (placing.uses (tables_of old));
        in_place =
            places_in_place disk old new e m put w.pool w.count
            (λ p same lacks. placing.goes disk p (
              same,
              subst (λ q. LacksPages old q (pages_for w.count)) (sym same)
                  lacks,
            )) r c;
        shares_file = λ done. shares_none (system_of old disk) (reported f r) new e placing.unlent;
        slices = λ done. ok_reported f r (Divides old e new) divides done;
        publishes = λ done. placing.publishes new (ok_reported f r (Makes put w old new) c.made done);
        creates = placing.creates (reported f r) new;
        sums = placing.sums (reported f r) new serves.sums;
        written_back = none_back disk old (reported f r) disk new e placing.unwritten;
      })
      (lies_apart (placing.unshared (tables_of old)) placing.moving (never (unlooking_of e placing.changes))
      (never (placing.inside (tables_of old))) (never placing.changes)
      (placed_held m put w.pool w.count old new r e placing.keeps c))

-- a descriptor that is not of a file is still not of one if its domain is not live
shared_held : (live : Bool) (o : Option Descriptor) → not (is_file o) ≡ true
    → not (is_file (if live then o else None)) ≡ true
shared_held true o none = none
shared_held false o none = refl

-- a late refusal of a read of a file, and the state that it leaves
abbrev LeftLate : FileRead → Disk → (old new : KernelState) → Refusal → Type 0
LeftLate x disk old new y = WantOfRoomOrFault (pool_read old x) x.file y
    × RefusesRead x.file x.at x.count disk (holding_of old) (holding_of new) y

-- A read by reference or by copying, over these pages. On a file it may ask the store; on anything else it changes
-- neither the store nor the cache.
module _ {A : Type 0} (by fd n : ℕ) (disk after : Disk) (old new : KernelState) (f : A → Reply) (r : Result A Refusal)
    (e : Event) where
  record ReadsElse : Type 0 where
    unasked : after ≡ disk
    roomy : (p : ℕ) → r ≡ Err (NoRoom p) → ⊥
    refused : OnErr r (new ≡ old)
    cache : new.cache ≡ old.cache

  abbrev ReadsAny : (over : KernelState) → Option Descriptor → Type 0
  ReadsAny over (Some (on.File g at mode)) = ReadsFileAs (file_read by fd g at mode n) disk old r after over
  ReadsAny over o = ReadsElse

  record HasRead (o : Option Descriptor) : Type 0 where
    unasked : is_file o ≡ false → after ≡ disk
    faults : is_file o ≡ true → FaultCounts disk after (outcome (reported f r))
    slots : disk.honest ≡ true → after.slots ≡ disk.slots
    asked : is_file o ≡ true → IsFault (reported f r) → HasRoomToRead (system_of old disk) o n
    room : IsDone (reported f r) → HasRoomToRead (system_of old disk) o n
    no_room : IsNoRoom (reported f r) → LacksRoomToRead (system_of old disk) o n
    refused : is_file o ≡ false → IsRefused (reported f r) → new ≡ old
    uncached : is_file o ≡ false → new.cache ≡ old.cache
    in_place : ((p : ℕ) → ReadWantsMore (system_of old disk) o n p → MayLetGo (system_of old disk) e p)
        → KeepsInPlace (system_of old disk) e new

  has_read : (over : KernelState) → over.cache ≡ new.cache → Reports f → (o : Option Descriptor) → ReadsAny over o
      → HasRead o
  has_read over same reports (Some (on.File g at mode)) c = record {
    unasked = λ none. never none refl;
    faults = λ asked. counts_reported f r disk after reports c.fault.counts;
    slots = λ honest. c.fault.slots honest;
    asked = λ asks is. fault_reported f r _ _ reports c.room is;
    room = λ is. has_reported f r _ _ c.room is;
    no_room = λ is. room_reported f r _ _ reports c.room is;
    refused = λ none is. never none refl;
    uncached = λ none. never none refl;
    in_place =
        λ goes. unless_in_place disk old new e (pool_of_file old g) (LacksPagesToRead g at n disk (holding_of old))
        (subst (λ (x : Cached). KeepsUnless (pool_of_file old g) (LacksPagesToRead g at n disk (holding_of old))
        old.cache x) same c.keeps) (λ p here lacks. goes p (here, lacks));
  }
  has_read over same reports o c = record {
    unasked = λ none. c.unasked;
    faults = never refl;
    slots = λ honest. ap (λ (d : Disk). d.slots) c.unasked;
    asked = λ asks is. tt;
    room = λ is. tt;
    no_room = λ is. no_room_reported f r reports c.roomy is;
    refused = λ none is. refused_reported f r (new ≡ old) reports c.refused is;
    uncached = λ none. c.cache;
    in_place = λ goes. cache_in_place disk old new e c.cache;
  }

  -- the effect of a read, from that on a file and that on anything else
  read_does : (m : State → Meaning A) (o : Option Descriptor) → HasRead o → asks_store (tables_of old) e ≡ is_file o
      → uses_cache (tables_of old) e ≡ is_file o → writes_back e ≡ false
      → (HasRoomToRead (system_of old disk) o n → HasRoomFor (system_of old disk) e)
      → (LacksRoomToRead (system_of old disk) o n → LacksRoomFor (system_of old disk) e)
      → BytesFit (system_of old disk) e
      → ((p : ℕ) → ReadWantsMore (system_of old disk) o n p → MayLetGo (system_of old disk) e p)
      → ReportsEnd (system_of old disk) e (reported f r) → Means f m e → Serves m disk old r after new
      → (IsEarly (reported f r) → (new ≡ old) × (after ≡ disk))
      → LeavesLate (system_of old disk) e (reported f r) (system_of new after)
      → (IsDone (reported f r) → SharesFile (system_of old disk) e (reported f r) new)
      → (IsDone (reported f r) → Publishes old e new) → (IsDone (reported f r) → Divides old e new)
      → Creates old e (reported f r) new
      → (new.sums ≡ old.sums → Remembers old e (reported f r) new) → Lies disk old e (reported f r) after new
      → Does disk old e (reported f r) after new
  read_does m o any asks uses unwritten room lacks fits goes ends means serves early late shares fills divides creates
      sums lies =
      does_of ends (served f means serves)
      (record {
        unasked = λ none. any.unasked (sym asks ∙ none);
        faults = λ is. any.faults (sym asks ∙ is);
        slots =
            λ honest back. any.slots honest;
        asked = λ is fault. room (any.asked (sym asks ∙ is) fault);
      })
      (record {
        room = λ is. room (any.room is);
        no_room = λ is. lacks (any.no_room is);
        memory = λ is. fits;
        early =
            early;
        refused = λ none is. any.refused (sym uses ∙ none) is;
        late = late;
      })
      (record {
        uncached = λ none other. any.uncached (sym uses ∙ none);
        in_place = any.in_place goes;
        shares_file = shares;
        slices = divides;
        publishes = fills;
        creates = creates;
        sums = sums serves.sums;
        written_back = none_back disk old (reported f r) after new e unwritten;
      }) lies

-- A read by reference.
module _ (by fd n : ℕ) (disk after : Disk) (old new : KernelState) (r : Result ℕ Refusal) where
  abbrev read_event : Event
  read_event = event.Call by (call.IolRead fd n)

  read_early : (o : Option Descriptor) → ReadsOn by fd n o disk old r after new → IsEarly (reported reply.Agg r)
      → (new ≡ old) × (after ≡ disk)
  read_early (Some (on.File g at mode)) c is =
      early_of reply.Agg r ((new ≡ old) × (after ≡ disk)) (LeftLate (file_read by fd g at mode n) disk old new)
      (λ a. refl) (λ x early late. early_room_fault _ g x early late.0)
      (untimed r (new ≡ old) (after ≡ disk) (LeftLate (file_read by fd g at mode n) disk old new) c.0.leaves) is
  read_early o c is = (early_reported reply.Agg r (new ≡ old) (λ a. refl) c.0.refused is, c.1)

  read_carried : (o : Option Descriptor) → ReadsOn by fd n o disk old r after new → not (is_file o) ≡ true
      → CarriesOut (λ s. reading.iol_read s by fd n) old r new
  read_carried (Some (on.File g at mode)) c none = absurd (true≢false (sym none))
  read_carried o c none = c.0

  read_fills : (o : Option Descriptor) → ReadsOn by fd n o disk old r after new → FillsForFile old o new
  read_fills (Some (on.File g at mode)) c = c.0.pages
  read_fills o c = carried_pages (λ s. reading.iol_read s by fd n) old new r c.0

  read_shares : (o : Option Descriptor) → ReadsOn by fd n o disk old r after new → IsDone (reported reply.Agg r)
      → SharesRead by fd n (system_of old disk) o new
  read_shares (Some (on.File g at mode)) c is = record { gives = ok_reported reply.Agg r _ c.1 is; rest = c.0.same }
  read_shares o c is = tt

  read_late : (o : Option Descriptor) → ReadsOn by fd n o disk old r after new
      → ReadLeaves by fd n (system_of old disk) o (reported reply.Agg r) (system_of new after)
  read_late (Some (on.File g at mode)) c =
      late_reported reply.Agg r _ (λ a. refl)
      (with_tables r (SameTables old new) (LeavesAtRefusal (file_read by fd g at mode n) disk old after new)
      (tables_kept r old new c.0.same c.0.refused) c.0.leaves)
  read_late o c = tt

  read_held : (o : Option Descriptor) → ReadsOn by fd n o disk old r after new → Held old new read_event
  read_held (Some (on.File g at mode)) c =
      given_held (file_read by fd g at mode n) disk old new r read_event c.1 c.0.refused
  read_held o c =
      let m = λ (s : State). reading.iol_read s by fd n in
      step_held old new read_event (reported reply.Agg r)
      (reported_step reply.Agg (λ a. refl) (m (layout_of old)) (layout_of old) (layout_of new) r
      (carried_layout m old new r c.0))

  read_any : (o : Option Descriptor) → ReadsOn by fd n o disk old r after new
      → ReadsAny by fd n disk after old new reply.Agg r read_event new o
  read_any (Some (on.File g at mode)) c = c.0
  read_any o c = record { unasked = c.1; roomy = c.0.roomy; refused = c.0.refused; cache = c.0.cache }

  pub reads_does : Serves (λ s. reading.iol_read s by fd n) disk old r after new → Reads by fd n disk old r after new
      → (is_file (descriptor (tables_of old) by fd) ≡ false
      → OnOk r (TakesSlices by (descriptor (tables_of old) by fd) old new))
      → Does disk old read_event (reported reply.Agg r) after new
  reads_does serves reads slices =
      let o : Option Descriptor = held_by (tables_of old) by fd in
      let any = has_read by fd n disk after old new reply.Agg r read_event new refl (λ a. refl) o (read_any o reads) in
      let queue : is_sharing (tables_of old) read_event ≡ true
      → CarriesOut (λ s. reading.iol_read s by fd n) old r new =
      (λ shared. read_carried o reads (shared_held (is_live (tables_of old) by) (descriptor (tables_of old) by fd)
      shared)) in
      let means : Means reply.Agg (λ s. reading.iol_read s by fd n) read_event =
      (λ s. reported_step reply.Agg (λ a. refl) (reading.iol_read s by fd n) s) in
      read_does by fd n disk after old new reply.Agg r read_event (λ s. reading.iol_read s by fd n) o any refl refl refl
      (λ k. k) (λ k. k) tt (λ p k. k) tt means serves (read_early o reads) (read_late o reads) (read_shares o reads)
      (λ is. read_fills o reads) (λ is no_file. ok_reported reply.Agg r _ (slices no_file) is) tt (λ k. k)
      (record {
        looks = never refl;
        shares =
            λ shared. means (layout_of old) (layout_of new) r
            (carried_layout (λ s. reading.iol_read s by fd n) old new r (queue shared));
        pages = λ shared. (let c = queue shared in record { arena = c.arena; pools = c.pools });
        still = never refl;
        places = never refl;
        held = read_held o reads;
        store = never refl;
      })

-- A write by reference.
module _ (by fd a : ℕ) (disk : Disk) (old new : KernelState) (r : Result ℕ Refusal) where
  abbrev write_event : Event
  write_event = event.Call by (call.IolWrite fd a)

  write_room : (o : Option Descriptor) → WritesOn by fd a o old r new → IsDone (reported reply.Count r)
      → HasRoomToWrite old o (slices_in old.domains by a)
  write_room (Some (on.File g at mode)) c is = ok_reported reply.Count r _ c.room is
  write_room o c is = tt

  write_lacks : (o : Option Descriptor) → WritesOn by fd a o old r new → IsNoRoom (reported reply.Count r)
      → LacksRoomToWrite old o (slices_in old.domains by a)
  write_lacks (Some (on.File g at mode)) c is = lacks_reported reply.Count r _ (λ a. refl) c.no_room is
  write_lacks o c is = no_room_reported reply.Count r (λ a. refl) c.roomy is

  write_refused : (o : Option Descriptor) → WritesOn by fd a o old r new → is_file o ≡ false
      → IsRefused (reported reply.Count r) → new ≡ old
  write_refused (Some (on.File g at mode)) c none is = absurd (true≢false none)
  write_refused o c none is = refused_reported reply.Count r (new ≡ old) (λ a. refl) c.refused is

  write_early : (o : Option Descriptor) → WritesOn by fd a o old r new → IsEarly (reported reply.Count r) → new ≡ old
  write_early (Some (on.File g at mode)) c is =
      early_of reply.Count r _ _ (λ a. refl) (λ x early late. early_room _ x early late.0) c.leaves is
  write_early o c is = early_reported reply.Count r (new ≡ old) (λ a. refl) c.refused is

  write_uncached : (o : Option Descriptor) → WritesOn by fd a o old r new → is_file o ≡ false → new.cache ≡ old.cache
  write_uncached (Some (on.File g at mode)) c none = absurd (true≢false none)
  write_uncached o c none = c.cache

  write_carried : (o : Option Descriptor) → WritesOn by fd a o old r new → not (is_file o) ≡ true
      → CarriesOut (λ s. writing.iol_write s by fd a) old r new
  write_carried (Some (on.File g at mode)) c none = absurd (true≢false (sym none))
  write_carried o c none = c

  write_fills : (o : Option Descriptor) → WritesOn by fd a o old r new → FillsForFile old o new
  write_fills (Some (on.File g at mode)) c = c.pages
  write_fills o c = carried_pages (λ s. writing.iol_write s by fd a) old new r c

  write_in_place : (o : Option Descriptor) → WritesOn by fd a o old r new
      → ((g i : ℕ) → IsInRange o (byte_len (slices_in old.domains by a)) g i → IsWritten old write_event g i)
      → ((p : ℕ) → WriteWantsMore old o (slices_in old.domains by a) p → MayLetGo (system_of old disk) write_event p)
      → KeepsInPlace (system_of old disk) write_event new
  write_in_place (Some (on.File f at mode)) c writes goes =
      let xs : List Slice = slices_in old.domains by a in
      let pool : ℕ = pool_of_file old f in
      beside_in_place disk old new write_event f at (byte_len xs) pool (LacksPages old pool (copied_pages pool xs))
      c.beside (λ g i same from to. writes g i (same, from, to))
      (λ p same lacks. goes p (same, subst (λ q. LacksPages old q (copied_pages q xs)) (sym same) lacks))
  write_in_place o c writes goes = cache_in_place disk old new write_event c.cache

  write_shares : (o : Option Descriptor) → WritesOn by fd a o old r new → IsDone (reported reply.Count r)
      → SharesWrite o (slices_in old.domains by a) old new
  write_shares (Some (on.File g at mode)) c is =
      record {
        lies = ok_reported reply.Count r _ c.lies is;
        over =
            λ some. ok_reported reply.Count r _ (c.over some) is;
        nothing =
            λ none. ok_reported reply.Count r _ (c.nothing none) is;
        moves = ok_reported reply.Count r _ c.moves is;
        rest =
            c.same;
      }
  write_shares o c is = tt

  write_held : (o : Option Descriptor) → WritesOn by fd a o old r new → Held old new write_event
  write_held (Some (on.File g at mode)) c =
      moved_held g at (byte_len (slices_in old.domains by a)) old new r write_event c.moves c.refused
  write_held o c =
      let m = λ (s : State). writing.iol_write s by fd a in
      step_held old new write_event (reported reply.Count r)
      (reported_step reply.Count (λ a. refl) (m (layout_of old)) (layout_of old) (layout_of new) r
      (carried_layout m old new r c))

  write_late : (o : Option Descriptor) → WritesOn by fd a o old r new
      → WriteLeaves old o (slices_in old.domains by a) (reported reply.Count r) new
  write_late (Some (on.File g at mode)) c =
      late_reported reply.Count r _ (λ a. refl)
      (with_tables r (SameTables old new) (LeavesUnwritten g (slices_in old.domains by a) old new)
      (tables_kept r old new c.same c.refused) c.leaves)
  write_late o c = tt

  pub writes_does : Serves (λ s. writing.iol_write s by fd a) disk old r disk new
      → WritesOn by fd a (descriptor (tables_of old) by fd) old r new
      → (is_file (descriptor (tables_of old) by fd) ≡ false
      → OnOk r (QueuesAgg by a (descriptor (tables_of old) by fd) old new))
      → Does disk old write_event (reported reply.Count r) disk new
  writes_does serves writes slices =
      let o : Option Descriptor = descriptor (tables_of old) by fd in
      let means : Means reply.Count (λ s. writing.iol_write s by fd a) write_event =
      (λ s. reported_step reply.Count (λ a. refl) (writing.iol_write s by fd a) s) in
      does_of tt (served reply.Count means serves) (asks_none refl)
      (record {
        room = write_room o writes;
        no_room = write_lacks o writes;
        memory = λ is. tt;
        early =
            λ is. (write_early o writes is, refl);
        refused = write_refused o writes;
        late = write_late o writes;
      })
      (record {
        uncached = λ unused other. write_uncached o writes unused;
        in_place = write_in_place o writes (λ g i k. k) (λ p k. k);
        shares_file = write_shares o writes;
        slices = λ done no_file. ok_reported reply.Count r _ (slices no_file) done;
        publishes = λ done. write_fills o writes;
        creates = tt;
        sums = serves.sums;
        written_back = none_back disk old (reported reply.Count r) disk new write_event refl;
      })
      (record {
        looks = never refl;
        shares =
            λ shared. means (layout_of old) (layout_of new) r
            (carried_layout (λ s. writing.iol_write s by fd a) old new r (write_carried o writes shared));
        pages = λ shared. (let c = write_carried o writes shared in record { arena = c.arena; pools = c.pools });
        still = never refl;
        places = never refl;
        held = write_held o writes;
        store = never refl;
      })

-- A read by copying.
module _ (by fd n : ℕ) (disk after : Disk) (old new : KernelState) (r : Result (List ℕ) Refusal) where
  abbrev copy_event : Event
  copy_event = event.Call by (call.Read fd n)

  copy_early : (o : Option Descriptor) → CopiesOn by fd n o disk old r after new → IsEarly (reported reply.Bytes r)
      → (new ≡ old) × (after ≡ disk)
  copy_early (Some (on.File g at mode)) c is = early_of reply.Bytes r _ _ (λ a. refl) (early_room_fault _ g) c.early is
  copy_early o c is = (early_reported reply.Bytes r (new ≡ old) (λ a. refl) c.0.refused is, c.1)

  copy_fills : (o : Option Descriptor) → CopiesOn by fd n o disk old r after new → FillsForFile old o new
  copy_fills (Some (on.File g at mode)) c = fills_then_frees c.lists c.reads.pages c.frees
  copy_fills o c = c.0.pages

  -- the bytes that are returned were copied from their places in memory
  copied_of : (g at : ℕ) (mode : Mode) (x : Result (List ℕ) Refusal)
      → CopiesFileAs (file_read by fd g at mode n) disk old x after new → IsDone (reported reply.Bytes x)
      → SharesCopy by fd n (system_of old disk) (Some (on.File g at mode)) (reported reply.Bytes x) new
  copied_of g at mode (Ok bytes) c is =
      record {
        mid = c.mid;
        gives = c.gives;
        frees = c.frees;
        rest =
            ap (λ (h : KernelState). let k : KernelState = record h { store = new.store } in k) c.reads.same;
      }
  copied_of g at mode (Err x) c is = absurd is

  copy_shares : (o : Option Descriptor) → CopiesOn by fd n o disk old r after new → IsDone (reported reply.Bytes r)
      → SharesCopy by fd n (system_of old disk) o (reported reply.Bytes r) new
  copy_shares (Some (on.File g at mode)) c is = copied_of g at mode r c is
  copy_shares o c is = tt

  copy_places : (o : Option Descriptor) → CopiesOn by fd n o disk old r after new → not (is_file o) ≡ true
      → IsDone (reported reply.Bytes r) → layout_of new ≡ (reading.read (layout_of old) by fd n).after
  copy_places (Some (on.File g at mode)) c none is = absurd (true≢false (sym none))
  copy_places o c none is =
      answer_lies reply.Bytes (λ s. reading.read s by fd n) copy_event old new r (λ s. refl) c.0.places is

  copy_held : (o : Option Descriptor) → CopiesOn by fd n o disk old r after new → Held old new copy_event
  copy_held (Some (on.File g at mode)) c =
      copied_held (file_read by fd g at mode n) disk old new c.mid r copy_event c.gives c.reads.refused
  copy_held o c =
      let m = λ (s : State). reading.read s by fd n in
      after_held m old new r copy_event (values_read by fd n) c.0.places c.0.refused

  copy_late : (o : Option Descriptor) → CopiesOn by fd n o disk old r after new
      → CopyLeaves by fd n (system_of old disk) o (reported reply.Bytes r) (system_of new after)
  copy_late (Some (on.File g at mode)) c =
      let over : KernelState = record new { store = c.mid } in
      let leaves : Refusal → Type 0 = LeavesAtRefusal (file_read by fd g at mode n) disk old after over in
      let here : OnErr r (SameTables old over) = tables_kept r old over c.reads.same c.reads.refused in
      late_reported reply.Bytes r (LeavesCopied by fd n g at mode (system_of old disk) (system_of new after))
      (λ a. refl)
      (err_more r (λ x. SameTables old over × leaves x)
      (LeavesCopied by fd n g at mode (system_of old disk) (system_of new after))
      (λ x left. record {
        mid = c.mid;
        leaves = left.1;
        frees = c.frees;
        lists = c.lists;
        same =
            ap (λ (h : KernelState). let k : KernelState = record h { store = new.store } in k) left.0;
      })
      (with_tables r (SameTables old over) leaves here c.reads.leaves))
  copy_late o c = tt

  -- the pages as they were filled, before the copies were released
  copy_over : (o : Option Descriptor) → CopiesOn by fd n o disk old r after new → Stored
  copy_over (Some (on.File g at mode)) c = c.mid
  copy_over o c = new.store

  copy_any : (o : Option Descriptor) (c : CopiesOn by fd n o disk old r after new)
      → ReadsAny by fd n disk after old new reply.Bytes r copy_event (record new { store = copy_over o c }) o
  unfolding copy_over
  copy_any (Some (on.File g at mode)) c = c.reads
  copy_any o c = record { unasked = c.1; roomy = c.0.roomy; refused = c.0.refused; cache = c.0.cache }

  pub copies_does : Serves (λ s. reading.read s by fd n) disk old r after new → Copies by fd n disk old r after new
      → Does disk old copy_event (reported reply.Bytes r) after new
  copies_does serves copies =
      let o : Option Descriptor = held_by (tables_of old) by fd in
      let any = has_read by fd n disk after old new reply.Bytes r copy_event (record new { store = copy_over o copies })
      refl (λ a. refl) o (copy_any o copies) in
      let means : Means reply.Bytes (λ s. reading.read s by fd n) copy_event =
      (λ s. reported_step reply.Bytes (λ a. refl) (reading.read s by fd n) s) in
      read_does by fd n disk after old new reply.Bytes r copy_event (λ s. reading.read s by fd n) o any refl refl refl
      (λ k. k) (λ k. k) tt (λ p k. k) tt means serves (copy_early o copies) (copy_late o copies)
      (copy_shares o copies) (λ is. copy_fills o copies) (λ is. tt) tt (λ k. k)
      (lies_apart refl refl (never refl) (copy_places o copies) (never refl) (copy_held o copies))

-- A write by copying.
module _ (by fd : ℕ) (bytes : List ℕ) (disk : Disk) (old new : KernelState) (r : Result ℕ Refusal) where
  abbrev put_event : Event
  put_event = event.Call by (call.Write fd bytes)

  -- the new bytes and their pool, for the object of the descriptor
  abbrev wants : Option Descriptor → Wants
  wants o =
      record { pool = writing.pool_for (tables_of old) by o; count = writing.fitting (tables_of old) o (length bytes) }

  -- the state after these bytes are written by the descriptor
  abbrev put : State → Text → State
  put s t = writing.written s by fd (descriptor s by fd) t

  abbrev IsPut : Option Descriptor → Type 0
  IsPut o = Places (λ s. writing.write s by fd bytes) put (wants o).pool (wants o).count old r new

  put_made : (o : Option Descriptor) → IsPut o → IsDone (reported reply.Count r) → Makes put (wants o) old new
  put_made o placed is = ok_reported reply.Count r _ placed.made is

  put_fills : (o : Option Descriptor) → (is_file o ≡ false → IsPut o) → PutsOn o (wants o).pool (length bytes) old r new
      → IsDone (reported reply.Count r) → Puts by fd (wants o) o old new
  put_fills (Some (on.File g at mode)) placed puts is = ok_reported reply.Count r _ puts.fills is
  put_fills o placed puts is = put_made o (placed refl) is

  abbrev PutGoes : Option Descriptor → Type 0
  PutGoes o = (p : ℕ) → WantsMore old (wants o) p → MayLetGo (system_of old disk) put_event p

  queue_in_place : (o : Option Descriptor) → IsPut o → PutGoes o → KeepsInPlace (system_of old disk) put_event new
  queue_in_place o placed goes =
      places_in_place disk old new put_event (λ s. writing.write s by fd bytes) put (wants o).pool (wants o).count
      (λ p same lacks. goes p (same, subst (λ q. LacksPages old q (pages_for (wants o).count)) (sym same) lacks)) r
      placed

  put_in_place : (o : Option Descriptor) → (is_file o ≡ false → IsPut o)
      → PutsOn o (wants o).pool (length bytes) old r new
      → ((g i : ℕ) → IsInRange o (length bytes) g i → IsWritten old put_event g i) → PutGoes o
      → KeepsInPlace (system_of old disk) put_event new
  put_in_place (Some (on.File f at mode)) placed puts writes goes =
      let pool : ℕ = (wants (Some (on.File f at mode))).pool in
      beside_in_place disk old new put_event f at (length bytes) pool (LacksPages old pool (pages_for (length bytes)))
      puts.beside (λ g i same from to. writes g i (same, from, to))
      (λ p same lacks. goes p (same, subst (λ q. LacksPages old q (pages_for (length bytes))) (sym same) lacks))
  put_in_place o placed puts writes goes = queue_in_place o (placed refl) goes

  put_late : (o : Option Descriptor) → (is_file o ≡ false → IsPut o) → LaysOn o (wants o).pool bytes old r new
      → PutLeaves (wants o) bytes old o (reported reply.Count r) new
  put_late (Some (on.File g at mode)) placed lays = late_reported reply.Count r _ (λ a. refl) lays.leaves
  put_late o placed lays = late_reported reply.Count r _ (λ a. refl) (placed refl).refused

  put_held : (o : Option Descriptor) → (is_file o ≡ false → IsPut o) → LaysOn o (wants o).pool bytes old r new
      → Held old new put_event
  put_held (Some (on.File g at mode)) placed lays =
      laid_held g at (wants (Some (on.File g at mode))).pool bytes old new r put_event lays
  put_held o placed lays = placed_held (λ s. writing.write s by fd bytes) put (wants o).pool (wants o).count old new r
      put_event (λ s t. values_written s by fd (descriptor s by fd) t) (placed refl)

  put_shares : (o : Option Descriptor) → LaysOn o (wants o).pool bytes old r new → IsDone (reported reply.Count r)
      → SharesPut (wants o).pool bytes o old new
  put_shares (Some (on.File g at mode)) lays is = ok_reported reply.Count r _ lays.lays is
  put_shares o lays is = tt

  -- the object of the descriptor
  abbrev here : Option Descriptor
  here = descriptor (tables_of old) by fd

  pub puts_does : Serves (λ s. writing.write s by fd bytes) disk old r disk new
      → (is_file here ≡ false → Places (λ s. writing.write s by fd bytes) put (wants here).pool (wants here).count old r
      new)
      → (is_file here ≡ false → OnOk r (QueuesFew (length bytes) here old new))
      → OnOk r (Fits old (wants here))
      → ((p : ℕ) → r ≡ Err (NoRoom p) → FitsNot old (wants here))
      → (r ≡ Err Memory → Fits old (wants here))
      → PutsOn here (wants here).pool (length bytes) old r new
      → LaysOn here (wants here).pool bytes old r new
      → IfErr r (λ x. (new ≡ old) ⊎ WantOfRoom (wants here).pool x)
      → Does disk old put_event (reported reply.Count r) disk new
  puts_does serves queue slices room lacks fits puts lays left =
      let o : Option Descriptor = here in
      let means : Means reply.Count (λ s. writing.write s by fd bytes) put_event =
      (λ s. reported_step reply.Count (λ a. refl) (writing.write s by fd bytes) s) in
      does_of tt (served reply.Count means serves) (asks_none refl)
      (record {
        room = λ done. ok_reported reply.Count r _ room done;
        no_room = λ is. lacks_reported reply.Count r _ (λ a. refl) lacks is;
        memory = λ is. memory_reported reply.Count r _ (λ a. refl) fits is;
        early = λ is. (early_of reply.Count r (new ≡ old) _ (λ a. refl) (early_room (wants o).pool) left is, refl);
        refused = λ unused is. never unused refl;
        late = put_late o queue lays;
      })
      (record {
        uncached = λ unused other. never unused refl;
        in_place = put_in_place o queue puts (λ g i k. k) (λ p k. k);
        shares_file = put_shares o lays;
        slices = λ done no_file. ok_reported reply.Count r _ (slices no_file) done;
        publishes = λ done. put_fills o queue puts done;
        creates = tt;
        sums = serves.sums;
        written_back = none_back disk old (reported reply.Count r) disk new put_event refl;
      })
      (lies_apart refl refl (never refl) (never refl) (never refl) (put_held o queue lays))
