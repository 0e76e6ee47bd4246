-- The effect of others on a worker with a job: they preserve its pending output, and reads take it from the front.
use Rattle.std.proofs.Common.{inl, inr, ◌≡◌, ℕ, ◌==◌, List, [], ◌∷◌, ◌++◌, ◌-◌, length, drop, arith, ap, ◌∙◌, refl, sym}
use Rattle.std.proofs.Common.{subst, Option, Some, None, true, false, Bool, if◌then◌else◌, append_assoc, ◌≤◌}
use Rattle.std.specs.Prelude.{unwrap_or, option_map, nat_le, ◌&&◌, ◌||◌}
use Rattle.std.specs.List.{AllByRecursion}
use Rattle.std.proofs.lemmas.Bool.Decides.{nat_tests}
use Rattle.std.proofs.lemmas.List.{append_cancel_right}
use Rattle.iol_core.specs.Text.{Text, bytes_of}
use Rattle.iol_core.specs.State.{State, Pipe, File, aggregate, content, descriptor, pipe_at, file, may_read}
use Rattle.iol_core.specs.declared.descriptors.Descriptor.TheVariants as on
use Rattle.iol_core.specs.declared.descriptors.Mode.TheVariants.{Read}
use Rattle.iol_core.specs.Positions.{ArePlaced}
use Rattle.iol_core.specs.Calls.Writes.{is_file}
use Rattle.iol_core.specs.Run.{StepsTo}
use Rattle.iol_core.specs.Values.{ValuesStay, gives_up}
use Rattle.iol_core.specs.declared.events.Call.TheVariants as call
use Rattle.iol_core.specs.declared.events.Event.{Event}
use Rattle.iol_core.specs.declared.events.Event.TheVariants as event
use Rattle.iol_core.specs.declared.events.Reply.{Reply}
use Rattle.iol_core.specs.declared.events.Reply.TheVariants as reply
use Rattle.iol_laws.specs.Frame.{EachStepLeavesTheRest, Leaves, touches_fd, ends, changes_files, admits_to}
use Rattle.iol_laws.specs.Caller.{readable_at, TakesFromPipe}
use Rattle.iol_laws.specs.Order.{IsOrderly}
use Rattle.iol_laws.specs.Others.{GoesFromFront, OthersLeavePipes, HasNotEnd}
use Rattle.iol_proc.specs.declared.process_slot.ProcessSlot.{ProcessSlot}
use Rattle.flash_cgi.specs.Collecting.{Collected, bytes_of_one, collected, collected_in, is_nothing, nothing, with_next}
use Rattle.flash_cgi.specs.Collecting.{without_last}
use Rattle.flash_cgi.specs.Job.{Task}
use Rattle.flash_cgi.specs.Output.{Outcome, Found, by_first, output}
use Rattle.flash_cgi.specs.Pieces.{DropsPart, Gathers, HasPiece, HoldsAt, IsRest, IsReadable, FilesAreReadable}
use Rattle.flash_cgi.specs.Outcomes.{AreFiles, outcomes_in, to_come, to_come_phase, ReadsNamed}
use Rattle.flash_cgi.specs.WorkerSteps.{bytes_at, file_collected, said_text, shut_by, after_phase}
use Rattle.flash_cgi.specs.Feeds.{output_for, rest_of, set_in, still, still_phase, then_rest, HasBytes, IsFileOpen}
use Rattle.flash_cgi.specs.Feeds.{Needs}
use Rattle.flash_cgi.specs.Feeds.{Feeds}
use Rattle.flash_cgi.specs.JobStart.{HasJob, Begins}
use Rattle.flash_cgi.specs.Turns.{IsFree, RunsJob, or_again, filed_step}
use Rattle.flash_cgi.specs.Beside.{LeavesWorker, LeavesFiles, LeavesJobs, Receives, is_call_of}
use Rattle.flash_cgi.specs.declared.line.Line.{Line}
use Rattle.flash_cgi.specs.declared.phase.Purpose.TheVariants as purpose
use Rattle.flash_cgi.specs.declared.phase.Phase.{Phase}
use Rattle.flash_cgi.specs.declared.phase.Phase.TheVariants as phase
use Rattle.flash_cgi.specs.declared.phase.Standing.{Standing}
use Rattle.flash_cgi.specs.declared.phase.Standing.TheVariants as standing
use Rattle.flash_cgi.specs.declared.phase.Step.{Step}
use Rattle.flash_cgi.specs.declared.piece.Place.{Place}
use Rattle.flash_cgi.specs.declared.worker.Worker.{Worker}
use Rattle.flash_cgi.proofs.Interleaving.{IsStillReadable, gathers_still, piece_kept, text_kept}
use Rattle.flash_cgi.proofs.StaysByCall.{bytes-append}
use Rattle.flash_cgi.proofs.JobStart.{awaits_still}
use Rattle.flash_cgi.proofs.Truly.{content-same, same_outcome, same_outcomes}

some-inj : {A : Type 0} (x y : A) → Some x ≡ Some y → x ≡ y
some-inj x y e = cc

module _ (m n : State) (d : ℕ) (left : LeavesWorker m d n) where
  same_at : (a : ℕ) (bytes : List ℕ) → readable_at m d a ≡ Some bytes
      → bytes_at (readable_at n d) a ≡ bytes_at (readable_at m d) a
  same_at a bytes is = ap (λ (l : Option (List ℕ)). unwrap_or l []) (left.bytes a bytes is ∙ sym is)

  open_stays : (file : ℕ) → IsFileOpen m d file → IsFileOpen n d file
  open_stays file h = (h.0, h.1, left.fds file (on.File h.0 h.1 Read) h.2)

  bytes_stay : (a : ℕ) → HasBytes m d a → HasBytes n d a
  bytes_stay a h = (h.0, left.bytes a h.0 h.1)

  needs_stay : (x : Phase) → Needs m d x → Needs n d x
  needs_stay (phase.DroppingWritten a) h = bytes_stay a h
  needs_stay (phase.Reading file u) h =
      record {
        number = h.number;
        place = h.place;
        open_on = left.fds file (on.File h.number h.place Read) h.open_on;
        may = left.may file h.number h.place Read h.open_on h.may;
      }
  needs_stay (phase.DroppingCounted file a s) h = (open_stays file h.0, bytes_stay a h.1)
  needs_stay (phase.ClosingCounted file s) h = open_stays file h
  needs_stay (phase.ClosingFile file a) h = (open_stays file h.0, bytes_stay a h.1)
  needs_stay (phase.Writing a) h = bytes_stay a h
  needs_stay (phase.CuttingRest a from to) h = (h.0, left.bytes a h.0 h.1, h.2)
  needs_stay (phase.DroppingTaken a b) h = (bytes_stay b h.0, h.1)
  needs_stay x h = h

  -- the buffered output is readable, with the same bytes
  readable_still : (x : Collected) → IsStillReadable (readable_at m d) (readable_at n d) x
  readable_still x a bytes one is = left.bytes a bytes is

  piece_stays : (len : ℕ) (x : Collected) → HasPiece (readable_at m d) len x → HasPiece (readable_at n d) len x
  piece_stays len x h = piece_kept (readable_at m d) (readable_at n d) len x (readable_still x) h

  gathers_stays : (x : Collected) → Gathers (readable_at m d) x → Gathers (readable_at n d) x
  gathers_stays x g = gathers_still (readable_at m d) (readable_at n d) x (readable_still x) g

  rest_stays : (x : Collected) → IsRest (readable_at m d) x → IsRest (readable_at n d) x
  rest_stays x h = record {
    piece = piece_stays (length x.text) x h.piece;
    no_text = h.no_text;
    no_places = h.no_places;
  }

  is_readable_stay : (a : ℕ) → IsReadable (readable_at m d) a → IsReadable (readable_at n d) a
  is_readable_stay a h = (h.0, left.bytes a h.0 h.1)

  made_stays : (x : Collected) (a : ℕ) → IsReadable (readable_at m d) a
      → HasPiece (readable_at m d) (length (bytes_at (readable_at m d) a)) x
      → HasPiece (readable_at n d) (length (bytes_at (readable_at n d) a)) x
  made_stays x a h piece = subst (λ (l : List ℕ). HasPiece (readable_at n d) (length l) x) (sym (same_at a h.0 h.1))
      (piece_stays (length (bytes_at (readable_at m d) a)) x piece)

  part_stays : (x : Collected) (part made : ℕ) → DropsPart (readable_at m d) x part made
      → DropsPart (readable_at n d) x part made
  part_stays x part made h = record {
    is_readable = is_readable_stay made h.is_readable;
    piece = made_stays x made h.is_readable h.piece;
    no_text = h.no_text;
    part_apart = h.part_apart;
    made_apart = h.made_apart;
    differ = h.differ;
  }

  files_same : (held : Option ℕ) (ps : List Place) → FilesAreReadable (readable_at m d) held ps
      → bytes_of_one (readable_at n d) held ≡ bytes_of_one (readable_at m d) held
  files_same None ps h = refl
  files_same (Some a) ps h = same_at a h.0 h.1

  holds_stay : (x : Collected) (y : Phase) → HoldsAt (readable_at m d) x y → HoldsAt (readable_at n d) x y
  holds_stay x phase.Waiting h = h
  holds_stay x (phase.DroppingOther a) h = h
  holds_stay x (phase.Aborting a) h = h
  holds_stay x phase.Interpreting h = piece_stays (length x.text) x h
  holds_stay x (phase.Reading file u) h = gathers_stays x h
  holds_stay x (phase.ClosingCounted file s) h = gathers_stays x h
  holds_stay x (phase.DroppingCounted file a s) h = (gathers_stays x h.0, h.1)
  holds_stay x (phase.ClosingFile file a) h = (gathers_stays x h.0, h.1)
  holds_stay x (phase.JoiningFile held a from len) h = record {
    gathers = gathers_stays x h.gathers;
    held_is = h.held_is;
    is_readable = is_readable_stay a h.is_readable;
    from_is = h.from_is ∙ ap (λ (l : List ℕ). length l) (sym (files_same x.held x.places h.gathers.piece.files));
  }
  holds_stay x (phase.CuttingPart held a from) h = record {
    place = h.place;
    is_readable = is_readable_stay a h.is_readable;
    piece = made_stays x a h.is_readable h.piece;
    no_text = h.no_text;
    held_is = h.held_is;
    places_are = h.places_are;
    from_is = h.from_is;
    apart = h.apart;
  }
  holds_stay x (phase.ReplacingPart a part at) h = record {
    is_readable = is_readable_stay a h.is_readable;
    parts = is_readable_stay part h.parts;
    piece = piece_stays at (without_last x) h.piece;
    within = subst (λ (l : List ℕ). at ≤ length l) (sym (same_at a h.is_readable.0 h.is_readable.1)) h.within;
    no_text = h.no_text;
    apart = h.apart;
    part_apart = h.part_apart;
    differ = h.differ;
  }
  holds_stay x (phase.DroppingText a part made) h =
      record { drops = part_stays x part made h.drops; apart = h.apart; differ = h.differ }
  holds_stay x (phase.DroppingPart part made) h = part_stays x part made h
  holds_stay x (phase.DroppingWritten a) h = (rest_stays x h.0, h.1)
  holds_stay x (phase.Writing a) h = (rest_stays x h.0, h.1)
  holds_stay x (phase.CuttingRest a from to) h = (rest_stays x h.0, h.1)
  holds_stay x (phase.DroppingTaken a b) h = (rest_stays x h.0, h.1, h.2)

  -- so its text is the same
  all_stays : (len : ℕ) (text : List ℕ) (x : Collected) → HasPiece (readable_at m d) len x
      → collected_in (readable_at n d) text x ≡ collected_in (readable_at m d) text x
  all_stays len text x h = text_kept (readable_at m d) (readable_at n d) len text x (readable_still x) h

  made_text : (x : Collected) (a : ℕ) (rest : List ℕ) → IsReadable (readable_at m d) a
      → HasPiece (readable_at m d) (length (bytes_at (readable_at m d) a)) x
      → collected_in (readable_at n d) (bytes_at (readable_at n d) a) x
      ++ rest ≡ collected_in (readable_at m d) (bytes_at (readable_at m d) a) x ++ rest
  made_text x a rest h piece = ap (λ (l : List ℕ). l ++ rest)
      (ap (λ (l : List ℕ). collected_in (readable_at n d) l x) (same_at a h.0 h.1)
      ∙ all_stays (length (bytes_at (readable_at m d) a)) (bytes_at (readable_at m d) a) x piece)

  then_stays : (job : Task) (begun : ℕ) (x : Collected) (os : List Outcome)
      → HasPiece (readable_at m d) (length x.text) x
      → then_rest job begun (readable_at n d) x os ≡ then_rest job begun (readable_at m d) x os
  then_stays job begun x os h = ap (λ (l : List ℕ). l ++ rest_of job begun os) (all_stays (length x.text) x.text x h)

  still_stays : (job : Task) (begun : ℕ) (x : Collected) (y : Phase) (os : List Outcome) → Needs m d y
      → HoldsAt (readable_at m d) x y
      → still_phase job begun (readable_at n d) x y os ≡ still_phase job begun (readable_at m d) x y os
  still_stays job begun x phase.Waiting os h k = refl
  still_stays job begun x (phase.DroppingOther a) os h k = refl
  still_stays job begun x (phase.Aborting a) os h k = refl
  still_stays job begun x phase.Interpreting os h k = then_stays job begun x os k
  still_stays job begun x (phase.DroppingWritten a) os h k = then_stays job begun x os k.0.piece
  still_stays job begun x (phase.Reading file u) os h k =
      ap (λ (l : List ℕ). l ++ by_first (output_for u) (rest_of job begun) os)
      (all_stays (length x.text) x.text x k.piece)
  still_stays job begun x (phase.DroppingCounted file a s) os h k =
      ap (λ (l : List ℕ). l ++ (said_text s ++ rest_of job begun os)) (all_stays (length x.text) x.text x k.0.piece)
  still_stays job begun x (phase.ClosingCounted file s) os h k =
      ap (λ (l : List ℕ). l ++ (said_text s ++ rest_of job begun os)) (all_stays (length x.text) x.text x k.piece)
  still_stays job begun x (phase.ClosingFile file a) os h k =
      ap (λ (l : List ℕ). l ++ (bytes_at (readable_at n d) a ++ rest_of job begun os))
      (all_stays (length x.text) x.text x k.0.piece)
      ∙ ap (λ (l : List ℕ). collected (readable_at m d) x ++ (l ++ rest_of job begun os)) (same_at a h.1.0 h.1.1)
  still_stays job begun x (phase.JoiningFile held a from len) os h k =
      ap (λ (l : List ℕ). l ++ (bytes_at (readable_at n d) a ++ rest_of job begun os))
      (all_stays (length x.text) x.text x k.gathers.piece)
      ∙ ap (λ (l : List ℕ). collected (readable_at m d) x ++ (l ++ rest_of job begun os))
      (same_at a k.is_readable.0 k.is_readable.1)
  still_stays job begun x (phase.CuttingPart held a from) os h k =
      made_text x a (rest_of job begun os) k.is_readable k.piece
  still_stays job begun x (phase.ReplacingPart a part at) os h k = ap (λ (l : List ℕ). l ++ rest_of job begun os)
      (ap (λ (l : List ℕ). collected_in (readable_at n d) (set_in l at (bytes_at (readable_at n d) part))
      (without_last x)) (same_at a k.is_readable.0 k.is_readable.1)
      ∙ (ap (λ (l : List ℕ). collected_in (readable_at n d) (set_in (bytes_at (readable_at m d) a) at l)
      (without_last x)) (same_at part k.parts.0 k.parts.1)
      ∙ all_stays at (set_in (bytes_at (readable_at m d) a) at (bytes_at (readable_at m d) part)) (without_last x)
      k.piece))
  still_stays job begun x (phase.DroppingText a part made) os h k =
      made_text x made (rest_of job begun os) k.drops.is_readable k.drops.piece
  still_stays job begun x (phase.DroppingPart part made) os h k =
      made_text x made (rest_of job begun os) k.is_readable k.piece
  still_stays job begun x (phase.Writing a) os h k =
      ap (λ (l : List ℕ). l ++ then_rest job begun (readable_at n d) x os) (same_at a h.0 h.1)
      ∙ ap (λ (l : List ℕ). bytes_at (readable_at m d) a ++ l) (then_stays job begun x os k.0.piece)
  still_stays job begun x (phase.CuttingRest a from to) os h k =
      ap (λ (l : List ℕ). drop from l ++ then_rest job begun (readable_at n d) x os) (same_at a h.0 h.1)
      ∙ ap (λ (l : List ℕ). drop from (bytes_at (readable_at m d) a) ++ l) (then_stays job begun x os k.0.piece)
  still_stays job begun x (phase.DroppingTaken a b) os h k =
      ap (λ (l : List ℕ). l ++ then_rest job begun (readable_at n d) x os) (same_at b h.0.0 h.0.1)
      ∙ ap (λ (l : List ℕ). bytes_at (readable_at m d) b ++ l) (then_stays job begun x os k.0.piece)

  -- the step after a reply is unchanged: it depends only on bytes that the worker has
  has_written : (a k len : ℕ) (t : Bool) → Needs m d (if t then phase.DroppingWritten a else phase.CuttingRest a k len)
      → HasBytes m d a
  has_written a k len true h = h
  has_written a k len false h = (h.0, h.1)

  -- the bytes of a closed file are still readable, and so is the buffered output
  abbrev At : Option Step → Type 0
  At None = Unit {0}
  At (Some v) = Needs m d v.phase × HoldsAt (readable_at m d) v.piece v.phase

  has_shut : (x : Collected) (from a len begun : ℕ) → At (shut_by x from a len begun) → IsReadable (readable_at m d) a
      × (bytes_of_one (readable_at n d) x.held ≡ bytes_of_one (readable_at m d) x.held)
  has_shut x from a len begun h = by (nat_le len 4096) (is_nothing x) h
    where
      small : (o : Option ℕ) → x.held ≡ o → At (file_collected x o from a len begun) → IsReadable (readable_at m d) a
          × (bytes_of_one (readable_at n d) x.held ≡ bytes_of_one (readable_at m d) x.held)
      small None is h = (
        h.1.files,
        ap (λ (o : Option ℕ). bytes_of_one (readable_at n d) o) is
            ∙ sym (ap (λ (o : Option ℕ). bytes_of_one (readable_at m d) o) is),
      )
      small (Some held) is h = (h.1.is_readable, files_same x.held x.places h.1.gathers.piece.files)

      by : (t u : Bool) → At (if t then file_collected x x.held from a len begun
          else (if u then Some (record { phase = phase.Writing a; begun = begun; piece = x }) else Some
          (record { phase = phase.Interpreting; begun = begun; piece = with_next x a })))
          → IsReadable (readable_at m d) a
          × (bytes_of_one (readable_at n d) x.held ≡ bytes_of_one (readable_at m d) x.held)
      by true u h = small x.held refl h
      by false true h = (h.0, files_same x.held x.places h.1.0.piece.files)
      by false false h = (h.1.next.0, files_same x.held x.places h.1.files)

  after_reply_stays : (job : Task) (step : Step) (x : Phase) (last : Reply)
      → Needs m d (or_again (after_phase (readable_at m d) job step.piece step.begun x last) step).phase
      → HoldsAt (readable_at m d) (or_again (after_phase (readable_at m d) job step.piece step.begun x last) step).piece
      (or_again (after_phase (readable_at m d) job step.piece step.begun x last) step).phase
      → after_phase (readable_at n d) job step.piece step.begun x last ≡ after_phase (readable_at m d) job step.piece
      step.begun x last
  after_reply_stays job step (phase.Reading file purpose.Wc) (reply.Agg a) h k =
      ap (λ (l : List ℕ). after_phase (λ k. Some l) job step.piece step.begun (phase.Reading file purpose.Wc)
      (reply.Agg a)) (same_at a h.1.0 h.1.1)
  after_reply_stays job step (phase.ClosingFile file a) last h k =
      let has =
      has_shut step.piece (length (bytes_of_one (readable_at m d) step.piece.held)) a
      (length (bytes_at (readable_at m d) a)) step.begun
      (at_both (shut_by step.piece (length (bytes_of_one (readable_at m d) step.piece.held)) a
      (length (bytes_at (readable_at m d) a)) step.begun) h k) in
      ap (λ (l : List ℕ). shut_by step.piece (length (bytes_of_one (readable_at n d) step.piece.held)) a (length l)
      step.begun) (same_at a has.0.0 has.0.1)
      ∙ ap (λ (l : List ℕ). shut_by step.piece (length l) a (length (bytes_at (readable_at m d) a)) step.begun) has.1
    where
      at_both : (o : Option Step) → Needs m d (or_again o step).phase
          → HoldsAt (readable_at m d) (or_again o step).piece (or_again o step).phase → At o
      at_both None h k = tt
      at_both (Some v) h k = (h, k)
  after_reply_stays job step (phase.Writing a) (reply.Count k) h held =
      let has = has_written a k (length (bytes_at (readable_at m d) a)) (k == length (bytes_at (readable_at m d) a))
      h in
      ap (λ (l : List ℕ). after_phase (λ k. Some l) job step.piece step.begun (phase.Writing a) (reply.Count k))
      (same_at a has.0 has.1)
  after_reply_stays job step x last h k = refl

  pub filed_stays : (s : Standing) (w : Worker) (last : Reply) → Needs m d (filed_step s w (readable_at m d) last).phase
      → HoldsAt (readable_at m d) (filed_step s w (readable_at m d) last).piece
      (filed_step s w (readable_at m d) last).phase
      → filed_step s w (readable_at n d) last ≡ filed_step s w (readable_at m d) last
  filed_stays standing.Asked w last h k =
      ap (λ (o : Option Step). or_again o w.step) (after_reply_stays w.job w.step w.step.phase last h k)
  filed_stays x w last h k = refl

  begins_stays : (p : ℕ) (job : Task) (a : ℕ) (unseen after : List Outcome → List ℕ) → (b : Begins m d p job a unseen)
      → Feeds n d p job (record { phase = phase.DroppingWritten a; begun = 0; piece = nothing }) after
      → Begins n d p job a after
  begins_stays p job a unseen after b f =
      record { bytes = b.bytes; is_readable = left.bytes a b.bytes b.is_readable; is_job = b.is_job; feeds = f }

  all_may : (t : Text) → AllByRecursion (λ b. may_read m d b.1 ≡ true) t
      → AllByRecursion (λ b. may_read n d b.1 ≡ true) t
  all_may [] h = h
  all_may (b ∷ t) h = (left.readers b.1 h.0, all_may t h.1)

  job_stays : (j p fd : ℕ) (query script : List ℕ) (lines : List Line) → pipe_at n j ≡ pipe_at m j
      → HasJob m d j p fd query script lines → HasJob n d j p fd query script lines
  job_stays j p fd query script lines jobs has =
      let same : (pipe_at n j).queue ≡ (pipe_at m j).queue = ap (λ (x : Pipe). x.queue) jobs in
      record {
        live = left.live has.live;
        jobs = left.fds 0 (on.ReadEnd j) has.jobs;
        text = ap (λ (t : Text). bytes_of t) same ∙ has.text;
        readable =
            subst (λ (t : Text). AllByRecursion (λ b. may_read n d b.1 ≡ true) t) (sym same)
            (all_may (pipe_at m j).queue has.readable);
        short = subst (λ (t : Text). length t ≤ 65536) (sym same) has.short;
        open_on = left.fds fd (on.WriteEnd p) has.open_on;
        apart = has.apart;
        is_script = has.is_script;
        fds = has.fds;
      }

  -- if files are unchanged, so are the outcomes to come
  come_still : LeavesFiles m d n → (job : Task) (begun : ℕ) (x : Phase)
      → to_come_phase n d job begun x ≡ to_come_phase m d job begun x
  come_still files job begun phase.Waiting = refl
  come_still files job begun (phase.Reading file u) =
      sym (same_outcomes m n d files.outcomes (drop (begun - 1) job.lines))
  come_still files job begun x = sym (same_outcomes m n d files.outcomes (drop begun job.lines))

  named_still : LeavesFiles m d n → (job : Task) (begun : ℕ) (x : Phase) → ReadsNamed m d job begun x
      → ReadsNamed n d job begun x
  named_still files job begun (phase.Reading file u) g = record {
    number = g.number;
    open_on = left.fds file (on.File g.number 0 Read) g.open_on;
    names = sym (same_outcomes m n d files.outcomes (drop (begun - 1) job.lines)) ∙ (g.names
        ∙ (ap (λ (l : List ℕ). Found l ∷ outcomes_in m d (drop begun job.lines)) (sym (files.contents g.number))
        ∙ ap (λ (os : List Outcome). Found (content n g.number) ∷ os)
        (same_outcomes m n d files.outcomes (drop begun job.lines))));
  }
  named_still files job begun x g = tt

-- ---- a free worker stays free

-- whether the next phase is Waiting does not depend on the readable bytes
waits_still : (lm ln : ℕ → Option (List ℕ)) (job : Task) (step : Step) (x : Phase) (last : Reply)
    → (or_again (after_phase lm job step.piece step.begun x last) step).phase ≡ phase.Waiting
    → (or_again (after_phase ln job step.piece step.begun x last) step).phase ≡ phase.Waiting
waits_still lm ln job step (phase.Reading file purpose.Wc) (reply.Agg a) h = absurd (cc (h))
waits_still lm ln job step (phase.ClosingFile file a) last h =
    absurd (shut_on step.piece.held (nat_le (length (bytes_at lm a)) 4096) (is_nothing step.piece) h)
  where
    collects_on : (o : Option ℕ) (from len : ℕ)
        → (or_again (file_collected step.piece o from a len step.begun) step).phase ≡ phase.Waiting → ⊥
    collects_on None from len e = cc (e)
    collects_on (Some held) from len e = cc (e)

    shut_on : (o : Option ℕ) (t u : Bool)
        → (or_again (if t then file_collected step.piece o (length (bytes_of_one lm step.piece.held)) a
        (length (bytes_at lm a)) step.begun
        else (if u then Some (record { phase = phase.Writing a; begun = step.begun; piece = step.piece }) else Some
        (record { phase = phase.Interpreting; begun = step.begun; piece = with_next step.piece a }))) step).phase
        ≡ phase.Waiting → ⊥
    shut_on o true u e = collects_on o (length (bytes_of_one lm step.piece.held)) (length (bytes_at lm a)) e
    shut_on o false true e = cc (e)
    shut_on o false false e = cc (e)
waits_still lm ln job step (phase.Writing a) (reply.Count k) h =
    absurd (writes_on (k == length (bytes_at lm a)) (length (bytes_at lm a)) h)
  where
    writes_on : (t : Bool) (len : ℕ) → (if t then phase.DroppingWritten a else phase.CuttingRest a k len)
        ≡ phase.Waiting → ⊥
    writes_on true len e = cc (e)
    writes_on false len e = cc (e)
waits_still lm ln job step x last h = h

pub free_still : (m n : State) (process_slot : ProcessSlot Worker) → IsFree m process_slot → IsFree n process_slot
free_still m n process_slot h =
    record { not_over = h.not_over; waits = by process_slot.process.standing h.waits; not_given = h.not_given }
  where
    by : (s : Standing) → (filed_step s process_slot.process (readable_at m process_slot.by) process_slot.last).phase
        ≡ phase.Waiting → (filed_step s process_slot.process (readable_at n process_slot.by) process_slot.last).phase
        ≡ phase.Waiting
    by standing.Asked is =
        waits_still (readable_at m process_slot.by) (readable_at n process_slot.by) process_slot.process.job
        process_slot.process.step process_slot.process.step.phase process_slot.last is
    by x is = is

-- ---- bytes removed from the front of its output pipe were the front of the pending output

module _ (m n : State) (p : ℕ) (process_slot : ProcessSlot Worker) (left : LeavesWorker m process_slot.by n)
    (jobs : LeavesJobs m process_slot n) (goes : GoesFromFront m p n) where
  front : (rest : List ℕ) → bytes_of (pipe_at m p).queue ++ rest ≡ bytes_of goes.gone
      ++ (bytes_of (pipe_at n p).queue ++ rest)
  front rest = ap (λ (t : Text). bytes_of t ++ rest) goes.queue
      ∙ (ap (λ (l : List ℕ). l ++ rest) (bytes-append goes.gone (pipe_at n p).queue)
      ∙ append_assoc (bytes_of goes.gone) (bytes_of (pipe_at n p).queue) rest)

  feeds_after : (job : Task) (step : Step) (unseen : List Outcome → List ℕ) → Feeds m process_slot.by p job step unseen
      → Feeds n process_slot.by p job step (λ os. bytes_of (pipe_at n p).queue
      ++ still job (readable_at m process_slot.by) step os)
  feeds_after job step unseen f = record {
    live = left.live f.live;
    open_on = left.fds job.fd (on.WriteEnd p) f.open_on;
    needs = needs_stay m n process_slot.by left step.phase f.needs;
    holds = holds_stay m n process_slot.by left step.piece step.phase f.holds;
    is =
        λ os. ap (λ (l : List ℕ). bytes_of (pipe_at n p).queue ++ l)
        (sym (still_stays m n process_slot.by left job step.begun step.piece step.phase os f.needs f.holds));
  }

  pub gone : (unseen : List Outcome → List ℕ) (was : RunsJob m p process_slot unseen)
      → Receives m n p process_slot unseen was (bytes_of goes.gone)
  gone unseen (inl h) = record {
    after = λ os. bytes_of (pipe_at n p).queue ++ output h.query h.lines os;
    splits = λ os. h.is os ∙ front (output h.query h.lines os);
    runs =
        inl (awaits_still m n p process_slot process_slot unseen _ h (free_still m n process_slot h.free)
        (job_stays m n process_slot.by left h.jobs p h.fd h.query h.script h.lines (jobs.same h.jobs h.free h.has.jobs)
        h.has) (λ os. refl));
    outcomes = λ files. sym (same_outcomes m n process_slot.by files.outcomes h.lines);
    reads = λ files right. tt;
  }
  gone unseen (inr (inl h)) =
      let step : Step = record { phase = phase.DroppingWritten h.agg; begun = 0; piece = nothing } in
      record {
        after = λ os. bytes_of (pipe_at n p).queue ++ still h.job (readable_at m process_slot.by) step os;
        splits = λ os. h.begins.feeds.is os ∙ front (still h.job (readable_at m process_slot.by) step os);
        runs = inr (inl (record {
          job = h.job;
          agg = h.agg;
          waits = h.waits;
          asked = h.asked;
          last = h.last;
          begins =
              begins_stays m n process_slot.by left p h.job h.agg unseen (λ os. bytes_of (pipe_at n p).queue
              ++ still h.job (readable_at m process_slot.by) step os) h.begins
              (feeds_after h.job step unseen h.begins.feeds);
        }));
        outcomes = λ files. sym (same_outcomes m n process_slot.by files.outcomes h.job.lines);
        reads = λ files right. tt;
      }
  gone unseen (inr (inr i)) =
      let step : Step = filed_step process_slot.process.standing process_slot.process (readable_at m process_slot.by)
      process_slot.last in
      let same : filed_step process_slot.process.standing process_slot.process (readable_at n process_slot.by)
      process_slot.last ≡ step =
      filed_stays m n process_slot.by left process_slot.process.standing process_slot.process process_slot.last
      i.feeds.needs i.feeds.holds in
      record {
        after = λ os. bytes_of (pipe_at n p).queue ++ still process_slot.process.job (readable_at m process_slot.by)
            step os;
        splits = λ os. i.feeds.is os ∙ front (still process_slot.process.job (readable_at m process_slot.by) step os);
        runs = inr (inr (record {
          not_over = i.not_over;
          feeds =
              subst (λ (s : Step). Feeds n process_slot.by p process_slot.process.job s
              (λ os. bytes_of (pipe_at n p).queue ++ still process_slot.process.job (readable_at m process_slot.by) step
              os)) (sym same)
              (feeds_after process_slot.process.job step unseen i.feeds);
        }));
        outcomes = λ files. ap (λ (s : Step). to_come n process_slot.by process_slot.process.job s) same
            ∙ come_still m n process_slot.by left files process_slot.process.job step.begun step.phase;
        reads =
            λ files right. subst (λ (s : Step). ReadsNamed n process_slot.by process_slot.process.job s.begun s.phase)
            (sym same)
            (named_still m n process_slot.by left files process_slot.process.job step.begun step.phase right);
      }

-- a read of the pipe returns the bytes removed
pub received : (m n : State) (p by count a : ℕ) (bytes : List ℕ) → TakesFromPipe m by p count a n
    → readable_at n by a ≡ Some bytes → (goes : GoesFromFront m p n) → bytes_of goes.gone ≡ bytes
received m n p by count a bytes takes names goes =
    let rest : (pipe_at n p).queue ≡ takes.rest = ap (λ (x : Pipe). x.queue) takes.pipe in
    let same : goes.gone ≡ takes.text =
    append_cancel_right goes.gone takes.text takes.rest (ap (λ (t : Text). goes.gone ++ t) (sym rest)
    ∙ (sym goes.queue ∙ takes.was)) in
    ap (λ (t : Text). bytes_of t) same ∙ some-inj (bytes_of takes.text) bytes (sym takes.is_readable ∙ names)

-- ---- calls of other domains, and external events

no_exit : (e : Event) (d : ℕ) → is_call_of e d ≡ false → ends e d ≡ false
no_exit (event.Call by call.Exit) d other = other
no_exit e d other = refl

pub no_touch : (m : State) (e : Event) (d fd : ℕ) → is_call_of e d ≡ false → touches_fd m e d fd ≡ false
no_touch m (event.Call by call.Exit) d fd other = other
no_touch m (event.Call by (call.Close f)) d fd other = ap (λ b. b && (f == fd)) other
no_touch m (event.Call by (call.GiveFd f to)) d fd other = ap (λ b. b && (f == fd)) other
no_touch m (event.Call by (call.Seek f at)) d fd other = ap (λ b. b && (f == fd)) other
no_touch m (event.Call by (call.IolRead f n)) d fd other = ap (λ b. b && (f == fd) && is_file (descriptor m by f)) other
no_touch m (event.Call by (call.IolWrite f a)) d fd other =
    ap (λ b. b && (f == fd) && is_file (descriptor m by f)) other
no_touch m (event.Call by (call.Read f n)) d fd other = ap (λ b. b && (f == fd) && is_file (descriptor m by f)) other
no_touch m (event.Call by (call.Write f bytes)) d fd other =
    ap (λ b. b && (f == fd) && is_file (descriptor m by f)) other
no_touch m e d fd other = refl

pub no_gift : (e : Event) (d a : ℕ) → is_call_of e d ≡ false → gives_up e d a ≡ false
no_gift (event.Call by call.Exit) d a other = other
no_gift (event.Call by (call.AggSplit b at)) d a other = ap (λ t. t && (b == a)) other
no_gift (event.Call by (call.AggJoin b c)) d a other = ap (λ t. t && ((b == a) || (c == a))) other
no_gift (event.Call by (call.AggDrop b)) d a other = ap (λ t. t && (b == a)) other
no_gift (event.Call by (call.AggGive b to)) d a other = ap (λ t. t && (b == a)) other
no_gift e d a other = refl

pub values_stay : (m n : State) (e : Event) (d a : ℕ) (bytes : List ℕ) → ValuesStay m e n
    → readable_at m d a ≡ Some bytes → gives_up e d a ≡ false → readable_at n d a ≡ Some bytes
values_stay m n e d a bytes stay is un = by (aggregate m d a) refl
  where
    by : (t : Option Text) → aggregate m d a ≡ t → readable_at n d a ≡ Some bytes
    by None none = (let e = ap (λ (t : Option Text). option_map bytes_of t) none in absurd (cc (is, e)))
    by (Some t) some =
        ap (λ (u : Option Text). option_map bytes_of u) (stay.each d a t some un)
        ∙ sym (ap (λ (u : Option Text). option_map bytes_of u) some) ∙ is

pub others_leave : EachStepLeavesTheRest → (m n : State) (d : ℕ) (e : Event) (r : Reply) → ArePlaced m → StepsTo m e r n
    → is_call_of e d ≡ false → LeavesWorker m d n
others_leave steps m n d e r placed step other = record {
  live = λ h. leaves.lives d h (no_exit e d other);
  fds = λ fd x is. leaves.fds d fd x is (no_touch m e d fd other);
  bytes = λ a bytes is. values_stay m n e d a bytes (steps.values m n e r step) is (no_gift e d a other);
  readers = λ q h. leaves.readers d q h;
  may =
      λ fd number place mode is h. ap (λ (x : File). may_read n d x.pool)
      (leaves.known number (placed.each d fd number place mode is).0) ∙ leaves.readers d (file m number).pool h;
}
  where
    leaves : Leaves m e n
    leaves = steps.leaves m n e r step

pub files_left : EachStepLeavesTheRest → (m n : State) (d : ℕ) (e : Event) (r : Reply) → AreFiles m → StepsTo m e r n
    → changes_files m e ≡ false
    → ((q : ℕ) → admits_to e q ≡ false) → LeavesFiles m d n
files_left steps m n d e r good step undisturbed shut = record {
  outcomes = same_outcome m n d e leaves good undisturbed shut;
  contents = λ f. content-same m n f (leaves.files undisturbed).1;
}
  where
    leaves : Leaves m e n
    leaves = steps.leaves m n e r step

-- ---- the pipe to which a worker writes: only the worker has its write end

module _ (steps : EachStepLeavesTheRest) (others : OthersLeavePipes) (m n : State) (d p fd : ℕ) (order : IsOrderly m)
    (opened : descriptor m d fd ≡ Some (on.WriteEnd p)) where
  untouched : pipe_at n p ≡ pipe_at m p → GoesFromFront m p n
  untouched same = record {
    gone = [];
    queue = sym (ap (λ (x : Pipe). x.queue) same);
    writing = ap (λ (x : Pipe). x.writing) same ∙ order.all_stand d fd (on.WriteEnd p) opened;
  }

  not_its_own : (by : ℕ) → (by == d) ≡ false → HasNotEnd m by (on.WriteEnd p)
  not_its_own by other f is =
      let same : by ≡ d = (order.one by d f fd (on.WriteEnd p) refl is opened).0 in
      grind (arith, nat_tests, other, same)

  pub from_front : (e : Event) (r : Reply) → StepsTo m e r n → is_call_of e d ≡ false → GoesFromFront m p n
  from_front (event.Call by c) r step other =
      others.written m n by c r p step (not_its_own by other) (order.all_stand d fd (on.WriteEnd p) opened)
  from_front e r step other = untouched ((steps.leaves m n e r step).pipes p refl)
