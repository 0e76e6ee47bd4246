-- A worker's call preserves its pending output: phase by phase.
use Rattle.std.proofs.Common.{inl, inr, ◌≡◌, ◌≢◌, ℕ, ◌+◌, ◌-◌, ◌==◌, ◌⊎◌, List, [], ◌∷◌, ◌++◌, length, take, drop, ap}
use Rattle.std.proofs.Common.{◌∙◌, refl, sym, subst, arith, Option, Some, None, true, false, Bool, if◌then◌else◌}
use Rattle.std.proofs.Common.{append_assoc, append-nil}
use Rattle.std.specs.Prelude.{◌||◌, ◌&&◌, not, is_some, nat_le, slice_range, slice_get}
use Rattle.std.proofs.lemmas.Bool.Decides.{nat_tests}
use Rattle.iol_core.specs.Text.{Text, bytes_of}
use Rattle.iol_core.specs.State.{State, Pipe, File, content, descriptor, pipe_at, file, may_read}
use Rattle.iol_core.specs.Calls.Writes.{is_file}
use Rattle.iol_core.specs.Run.{StepsTo}
use Rattle.iol_core.specs.declared.descriptors.Descriptor.{Descriptor}
use Rattle.iol_core.specs.declared.descriptors.Descriptor.TheVariants as on
use Rattle.iol_core.specs.declared.descriptors.Mode.TheVariants.{Read}
use Rattle.iol_core.specs.declared.refusals.Refusal.{Refusal}
use Rattle.iol_core.specs.declared.refusals.Refusal.TheVariants as not_so
use Rattle.iol_core.specs.declared.events.Call.{Call}
use Rattle.iol_core.specs.declared.events.Call.TheVariants as call
use Rattle.iol_core.specs.declared.events.Event.TheVariants as event
use Rattle.iol_core.specs.declared.events.Reply.{Reply}
use Rattle.iol_core.specs.declared.events.Reply.TheVariants as reply
use Rattle.iol_laws.specs.Caller as o
use Rattle.iol_laws.specs.Caller.{CallsServeTheirDomain, readable_at}
use Rattle.iol_laws.specs.CallerFiles as fl
use Rattle.iol_laws.specs.CallerFiles.{FileCallsServeTheirDomain}
use Rattle.iol_laws.specs.Frame.{EachStepLeavesTheRest, Leaves, touches_fd}
use Rattle.iol_laws.specs.Order.{IsOrderly}
use Rattle.iol_laws.specs.Reasons.{RefusalsTellWhy}
use Rattle.flash_cgi.specs.Collecting.{Collected, bytes_of_one, collected, is_expected, is_full, is_nothing, with_file}
use Rattle.flash_cgi.specs.Collecting.{with_next, with_text, without_next, interleaved}
use Rattle.flash_cgi.specs.Job.{Task}
use Rattle.flash_cgi.specs.Output.{Outcome, Found, Failed, output, by_first}
use Rattle.flash_cgi.specs.Pieces.{Gathers, HasPiece, HoldsAt, IsRest, Joins, IsReadable, FilesAreReadable}
use Rattle.flash_cgi.specs.Pieces.{NextIsReadable}
use Rattle.flash_cgi.specs.WorkerSteps.{said_text, line_text, counts_of, bytes_at, call_at, expected_now}
use Rattle.flash_cgi.specs.WorkerSteps.{file_collected, after_dropping, after_joining, after_next, after_making}
use Rattle.flash_cgi.specs.WorkerSteps.{after_opening, after_writing, after_reading, after_cutting, next_call}
use Rattle.flash_cgi.specs.Feeds.{output_for, rest_of, still, then_rest, IsFileOpen, Needs, Feeds, resolved}
use Rattle.flash_cgi.specs.Feeds.{resolved_begun, resolved_open, failed, Ends, ComesTo, Comes, FeedsOn}
use Rattle.flash_cgi.specs.declared.line.Line.{Line}
use Rattle.flash_cgi.specs.declared.line.Line.TheVariants as line
use Rattle.flash_cgi.specs.declared.counts.Said.{Said}
use Rattle.flash_cgi.specs.declared.counts.Said.TheVariants as said
use Rattle.flash_cgi.specs.declared.phase.Purpose.{Purpose}
use Rattle.flash_cgi.specs.declared.phase.Purpose.TheVariants as purpose
use Rattle.flash_cgi.specs.declared.phase.Phase.{Phase}
use Rattle.flash_cgi.specs.declared.phase.Phase.TheVariants as phase
use Rattle.flash_cgi.specs.declared.phase.Step.{Step}
use Rattle.flash_cgi.proofs.Interleaving.{IsStillReadable, file_added, file_in, gathers_still, new_apart}
use Rattle.flash_cgi.proofs.Interleaving.{nothing_collected, nothing_is, piece_kept, rest_text, said_behind, text_added}
pub use Rattle.flash_cgi.proofs.StaysByCall.{bytes-append}
use Rattle.flash_cgi.proofs.StaysByCall.{and_false, not-equal, rest-cons, rest-nil, at_step, range_to_end, drop_all}
use Rattle.flash_cgi.proofs.StaysByCall.{moved, and_before, failed_text, file_of, file-same, same_bytes, is_bytes}
use Rattle.flash_cgi.proofs.StaysByCall.{no_end, not_output, rest_still, all_same, readable-stays, still_readable}
use Rattle.flash_cgi.proofs.StaysByCall.{after_drop, goes}
use Rattle.flash_cgi.proofs.PiecesByCall.{makes, parts, replaces, drops_text, drops_part}

module _ (steps : EachStepLeavesTheRest) (own : CallsServeTheirDomain) (files : FileCallsServeTheirDomain)
    (why : RefusalsTellWhy) where
  -- ---- calls whose reply does not matter

  drops : (m n : State) (d p : ℕ) (job : Task) (begun a : ℕ) (x : Collected) (r : Reply) (unseen : List Outcome
      → List ℕ) → Feeds m d p job (at_step (phase.DroppingWritten a) begun x) unseen
      → StepsTo m (event.Call d (call.AggDrop a)) r n
      → Comes m d p job (at_step (phase.DroppingWritten a) begun x) unseen r n
  drops m n d p job begun a x r unseen f step = by x.next refl
    where
      stays : IsStillReadable (readable_at m d) (readable_at n d) x
      stays = after_drop steps m n d a r x step f.holds.1

      rest : IsRest (readable_at n d) x
      rest = rest_still m n d x stays f.holds.0

      all : collected (readable_at n d) x ≡ collected (readable_at m d) x
      all = all_same m n d x stays f.holds.0.piece

      by : (o : Option ℕ) → x.next ≡ o
          → ComesTo m d p job (at_step (phase.DroppingWritten a) begun x) unseen r n (after_dropping x o begun)
      by None is =
          inl (goes steps m n d p job (at_step (phase.DroppingWritten a) begun x) (at_step phase.Interpreting begun x)
          unseen []
          (call.AggDrop a) r f step refl refl refl tt rest.piece
          (λ os. ap (λ (l : List ℕ). l ++ rest_of job begun os) all))
      by (Some b) is =
          let next : NextIsReadable (readable_at n d) x.held (Some b) =
          subst (λ (o : Option ℕ). NextIsReadable (readable_at n d) x.held o) is rest.piece.next in
          let after = without_next x in
          inl
          (goes steps m n d p job (at_step (phase.DroppingWritten a) begun x)
          (at_step (phase.Writing b) begun after) unseen []
          (call.AggDrop a) r f step refl refl refl next.0 (
            record {
              piece = record { files = rest.piece.files; within = rest.piece.within; next = tt };
              no_text = rest.no_text;
              no_places = rest.no_places;
            },
            (next.1, λ e. absurd (cc (e))),
          )
          (λ os. ap (λ (l : List ℕ). bytes_at (readable_at n d) b ++ (l ++ rest_of job begun os))
          (rest_text (readable_at n d) after rest.no_text rest.no_places)
          ∙ ap (λ (l : List ℕ). l ++ rest_of job begun os)
          (ap (λ (o : Option ℕ). bytes_of_one (readable_at n d) o) (sym is)
          ∙ (sym (rest_text (readable_at n d) x rest.no_text rest.no_places) ∙ all))))

  counted : (m n : State) (d p : ℕ) (job : Task) (begun file a : ℕ) (t : Said) (x : Collected) (r : Reply)
      (unseen : List Outcome → List ℕ) → Feeds m d p job (at_step (phase.DroppingCounted file a t) begun x) unseen
      → StepsTo m (event.Call d (call.AggDrop a)) r n
      → Comes m d p job (at_step (phase.DroppingCounted file a t) begun x) unseen r n
  counted m n d p job begun file a t x r unseen f step =
      let leaves : Leaves m (event.Call d (call.AggDrop a)) n =
      steps.leaves m n (event.Call d (call.AggDrop a)) r step in
      let stays = after_drop steps m n d a r x step f.holds.1 in
      inl (goes steps m n d p job (at_step (phase.DroppingCounted file a t) begun x)
      (at_step (phase.ClosingCounted file t) begun x)
      unseen [] (call.AggDrop a) r f step refl refl refl
      (f.needs.0.0, f.needs.0.1, leaves.fds d file (on.File f.needs.0.0 f.needs.0.1 Read) f.needs.0.2 refl)
      (gathers_still (readable_at m d) (readable_at n d) x stays f.holds.0)
      (λ os. ap (λ (l : List ℕ). l ++ (said_text t ++ rest_of job begun os)) (all_same m n d x stays f.holds.0.piece)))

  swaps : (m n : State) (d p : ℕ) (job : Task) (begun a b : ℕ) (x : Collected) (r : Reply) (unseen : List Outcome
      → List ℕ) → Feeds m d p job (at_step (phase.DroppingTaken a b) begun x) unseen
      → StepsTo m (event.Call d (call.AggDrop a)) r n
      → Comes m d p job (at_step (phase.DroppingTaken a b) begun x) unseen r n
  swaps m n d p job begun a b x r unseen f step =
      let has = f.needs.0 in
      let stays = after_drop steps m n d a r x step f.holds.1 in
      let now =
      readable-stays steps m n (event.Call d (call.AggDrop a)) r step d b has.0 has.1
      (and_false (d == d) (a == b) (not-equal a b f.needs.1)) in
      inl (goes steps m n d p job (at_step (phase.DroppingTaken a b) begun x) (at_step (phase.Writing b) begun x) unseen
      []
      (call.AggDrop a) r f step refl refl refl
      (has.0, now) (rest_still m n d x stays f.holds.0, f.holds.2)
      (λ os. ap (λ (l : List ℕ). l ++ then_rest job begun (readable_at n d) x os) (same_bytes m n d b has.0 has.1 now)
      ∙ ap (λ (l : List ℕ). bytes_at (readable_at m d) b ++ (l ++ rest_of job begun os))
      (all_same m n d x stays f.holds.0.piece)))

  -- ---- a file is closed

  shuts : (m n : State) (d p : ℕ) (job : Task) (begun file a : ℕ) (x : Collected) (r : Reply) (unseen : List Outcome
      → List ℕ) → Feeds m d p job (at_step (phase.ClosingFile file a) begun x) unseen
      → StepsTo m (event.Call d (call.Close file)) r n
      → Comes m d p job (at_step (phase.ClosingFile file a) begun x) unseen r n
  shuts m n d p job begun file a x r unseen f step = by_len (nat_le (length (bytes_at (readable_at n d) a)) 4096)
    where
      s : Step
      s = at_step (phase.ClosingFile file a) begun x

      from : ℕ
      from = length (bytes_of_one (readable_at n d) x.held)

      has : IsReadable (readable_at m d) a
      has = f.needs.1

      now : readable_at n d a ≡ Some f.needs.1.0
      now = readable-stays steps m n (event.Call d (call.Close file)) r step d a f.needs.1.0 f.needs.1.1 refl

      same_a : bytes_at (readable_at n d) a ≡ bytes_at (readable_at m d) a
      same_a = same_bytes m n d a f.needs.1.0 f.needs.1.1 now

      stays : IsStillReadable (readable_at m d) (readable_at n d) x
      stays = still_readable steps m n d (call.Close file) r x step (λ b one. refl)

      gathers : Gathers (readable_at n d) x
      gathers = gathers_still (readable_at m d) (readable_at n d) x stays f.holds.0

      all : collected (readable_at n d) x ≡ collected (readable_at m d) x
      all = all_same m n d x stays f.holds.0.piece

      -- the buffered output and the file's bytes, in the state after the call
      was : (os : List Outcome)
          → collected (readable_at n d) x ++ (bytes_at (readable_at n d) a ++ rest_of job begun os)
          ≡ still job (readable_at m d) s os
      was os = ap (λ (l : List ℕ). l ++ (bytes_at (readable_at n d) a ++ rest_of job begun os)) all
          ∙ ap (λ (l : List ℕ). collected (readable_at m d) x ++ (l ++ rest_of job begun os)) same_a

      on_to : (v : Step) → Needs n d v.phase → HoldsAt (readable_at n d) v.piece v.phase
          → ((os : List Outcome) → still job (readable_at n d) v os ≡ collected (readable_at n d) x
          ++ (bytes_at (readable_at n d) a ++ rest_of job begun os)) → ComesTo m d p job s unseen r n (Some v)
      on_to v needs holds same = inl (goes steps m n d p job s v unseen [] (call.Close file) r f step refl
          (and_false (d == d) (file == job.fd)
          (not-equal file job.fd (not_output m d file job.fd p f.needs.0 f.open_on))) (no_end m d file p f.needs.0)
          needs holds (λ os. same os ∙ was os))

      small : (o : Option ℕ) → x.held ≡ o
          → ComesTo m d p job s unseen r n (file_collected x o from a (length (bytes_at (readable_at n d) a)) begun)
      small None is =
          on_to (at_step phase.Interpreting begun (with_file x a 0 (length (bytes_at (readable_at n d) a)))) tt
          (file_added (readable_at n d) x a 0 (length (bytes_at (readable_at n d) a)) gathers.piece.within
          gathers.none_next gathers.short (f.needs.1.0, now))
          (λ os. file_in (readable_at n d) (readable_at n d) x a 0 (length (bytes_at (readable_at n d) a)) []
          f.needs.1.0 (rest_of job begun os) gathers.none_next gathers.short
          (ap (λ (o : Option ℕ). bytes_of_one (readable_at n d) o) is) refl now
          ∙ ap (λ (l : List ℕ). collected (readable_at n d) x ++ (l ++ rest_of job begun os))
          (sym (is_bytes n d a f.needs.1.0 now)))
      small (Some held) is =
          on_to (at_step (phase.JoiningFile held a from (length (bytes_at (readable_at n d) a))) begun x) tt
          (record { gathers = gathers; held_is = is; is_readable = (f.needs.1.0, now); from_is = refl }) (λ os. refl)

      large : (t : Bool) → is_nothing x ≡ t
          → ComesTo m d p job s unseen r n
          (if t then Some (at_step (phase.Writing a) begun x) else Some
          (at_step phase.Interpreting begun (with_next x a)))
      large true is =
          let empty = nothing_is x is in
          let none = nothing_collected (readable_at n d) x empty in
          on_to (at_step (phase.Writing a) begun x) (f.needs.1.0, now)
          (record { piece = gathers.piece; no_text = empty.text; no_places = empty.places }, f.holds.1)
          (λ os. ap (λ (l : List ℕ). bytes_at (readable_at n d) a ++ (l ++ rest_of job begun os)) none
          ∙ ap (λ (l : List ℕ). l ++ (bytes_at (readable_at n d) a ++ rest_of job begun os)) (sym none))
      large false is =
          on_to (at_step phase.Interpreting begun (with_next x a)) tt
          (record {
            files = gathers.piece.files;
            within = gathers.piece.within;
            next = ((f.needs.1.0, now), f.holds.1.0);
          })
          (λ os. append_assoc (interleaved x.text x.places (bytes_of_one (readable_at n d) x.held))
          (bytes_at (readable_at n d) a) (rest_of job begun os)
          ∙ (ap (λ (l : List ℕ). l ++ (bytes_at (readable_at n d) a ++ rest_of job begun os))
          (sym (append-nil (interleaved x.text x.places (bytes_of_one (readable_at n d) x.held))))
          ∙ ap
          (λ (o : Option ℕ). (interleaved x.text x.places (bytes_of_one (readable_at n d) x.held)
          ++ bytes_of_one (readable_at n d) o) ++ (bytes_at (readable_at n d) a ++ rest_of job begun os))
          (sym gathers.none_next)))

      by_len : (t : Bool)
          → ComesTo m d p job s unseen r n
          (if t then file_collected x x.held from a (length (bytes_at (readable_at n d) a)) begun
          else (if is_nothing x then Some (at_step (phase.Writing a) begun x) else Some
          (at_step phase.Interpreting begun (with_next x a))))
      by_len true = small x.held refl
      by_len false = large (is_nothing x) refl

  shuts_to_say : (m n : State) (d p : ℕ) (job : Task) (begun file : ℕ) (t : Said) (x : Collected) (r : Reply)
      (unseen : List Outcome → List ℕ) → Feeds m d p job (at_step (phase.ClosingCounted file t) begun x) unseen
      → StepsTo m (event.Call d (call.Close file)) r n
      → Comes m d p job (at_step (phase.ClosingCounted file t) begun x) unseen r n
  shuts_to_say m n d p job begun file t x r unseen f step =
      let stays = still_readable steps m n d (call.Close file) r x step (λ b one. refl) in
      let gathers = gathers_still (readable_at m d) (readable_at n d) x stays f.holds in
      inl
      (goes steps m n d p job (at_step (phase.ClosingCounted file t) begun x)
      (at_step phase.Interpreting begun (with_text x (said_text t))) unseen [] (call.Close file) r f step refl
      (and_false (d == d) (file == job.fd) (not-equal file job.fd (not_output m d file job.fd p f.needs f.open_on)))
      (no_end m d file p f.needs)
      tt (text_added (readable_at n d) x (said_text t) gathers.piece)
      (λ os. said_behind (readable_at n d) x (said_text t) (rest_of job begun os) gathers
      ∙ ap (λ (l : List ℕ). l ++ (said_text t ++ rest_of job begun os)) (all_same m n d x stays f.holds.piece)))

  -- ---- files are joined

  joins : (m n : State) (d p : ℕ) (job : Task) (begun held a from len : ℕ) (x : Collected) (r : Reply)
      (unseen : List Outcome → List ℕ) → IsOrderly m
      → Feeds m d p job (at_step (phase.JoiningFile held a from len) begun x) unseen
      → StepsTo m (event.Call d (call.AggJoin held a)) r n
      → Comes m d p job (at_step (phase.JoiningFile held a from len) begun x) unseen r n
  joins m n d p job begun held a from len x r unseen order f step =
      by r step (own.join m n d held a there.0 h.is_readable.0 r order there.1 h.is_readable.1 step)
    where
      h : Joins (readable_at m d) x held a from
      h = f.holds

      there : IsReadable (readable_at m d) held
      there = subst (λ (o : Option ℕ). FilesAreReadable (readable_at m d) o x.places) f.holds.held_is
          f.holds.gathers.piece.files

      files_are : bytes_of_one (readable_at m d) x.held ≡ there.0
      files_are = ap (λ (o : Option ℕ). bytes_of_one (readable_at m d) o) h.held_is ∙ is_bytes m d held there.0 there.1

      by : (r : Reply) → StepsTo m (event.Call d (call.AggJoin held a)) r n
          → o.Makes m d (there.0 ++ h.is_readable.0) r n
          → ComesTo m d p job (at_step (phase.JoiningFile held a from len) begun x) unseen r n
          (after_joining x from len begun r)
      by (reply.Agg b) step did =
          inl (goes steps m n d p job (at_step (phase.JoiningFile held a from len) begun x)
          (at_step phase.Interpreting begun (with_file x b from len)) unseen [] (call.AggJoin held a) (reply.Agg b) f
          step refl
          refl refl
          tt (file_added (readable_at n d) x b from len h.gathers.piece.within h.gathers.none_next h.gathers.short
          (there.0 ++ h.is_readable.0, did.0))
          (λ os. file_in (readable_at m d) (readable_at n d) x b from len there.0 h.is_readable.0 (rest_of job begun os)
          h.gathers.none_next h.gathers.short files_are
          (h.from_is ∙ ap (λ (l : List ℕ). length l) files_are) did.0
          ∙ ap (λ (l : List ℕ). collected (readable_at m d) x ++ (l ++ rest_of job begun os))
          (sym (is_bytes m d a h.is_readable.0 h.is_readable.1))))
      by (reply.Refused y) step did = did
      by r step did = absurd did

  -- ---- bytes are cut off

  cuts : (m n : State) (d p : ℕ) (job : Task) (begun a from to : ℕ) (x : Collected) (r : Reply) (unseen : List Outcome
      → List ℕ) → IsOrderly m → Feeds m d p job (at_step (phase.CuttingRest a from to) begun x) unseen
      → StepsTo m (event.Call d (call.AggCut a from to)) r n
      → Comes m d p job (at_step (phase.CuttingRest a from to) begun x) unseen r n
  cuts m n d p job begun a from to x r unseen order f step =
      by r step (own.cut m n d a from to f.needs.0 r order f.needs.1 step)
    where
      by : (r : Reply) → StepsTo m (event.Call d (call.AggCut a from to)) r n
          → o.Makes m d (slice_range f.needs.0 from to) r n
          → ComesTo m d p job (at_step (phase.CuttingRest a from to) begun x) unseen r n (after_cutting x a begun r)
      by (reply.Agg b) step did =
          let differ : a ≢ b = λ same. (let e = ap (λ k. readable_at m d k) same in let had = f.needs.1 in let new =
          did.1 in absurd (cc (e, had, new))) in
          let text : slice_range f.needs.0 from to ≡ drop from f.needs.0 = range_to_end f.needs.0 from to f.needs.2 in
          let stays = still_readable steps m n d (call.AggCut a from to) (reply.Agg b) x step (λ c one. refl) in
          inl (goes steps m n d p job (at_step (phase.CuttingRest a from to) begun x)
          (at_step (phase.DroppingTaken a b) begun x)
          unseen [] (call.AggCut a from to) (reply.Agg b) f step refl refl refl
          ((slice_range f.needs.0 from to, did.0), differ) (
            rest_still m n d x stays f.holds.0,
            f.holds.1,
            new_apart (readable_at m d) (length x.text) x b f.holds.0.piece did.1,
          )
          (λ os. ap (λ (l : List ℕ). l ++ then_rest job begun (readable_at n d) x os)
          (is_bytes n d b (slice_range f.needs.0 from to) did.0
          ∙ (text ∙ ap (λ (l : List ℕ). drop from l) (sym (is_bytes m d a f.needs.0 f.needs.1))))
          ∙ ap (λ (l : List ℕ). drop from (bytes_at (readable_at m d) a) ++ (l ++ rest_of job begun os))
          (all_same m n d x stays f.holds.0.piece)))
      by (reply.Refused y) step did = did
      by r step did = absurd did

  -- ---- bytes are written

  writes : (m n : State) (d p : ℕ) (job : Task) (begun a : ℕ) (x : Collected) (r : Reply) (unseen : List Outcome
      → List ℕ) → IsOrderly m → Feeds m d p job (at_step (phase.Writing a) begun x) unseen
      → StepsTo m (event.Call d (call.IolWrite job.fd a)) r n
      → Comes m d p job (at_step (phase.Writing a) begun x) unseen r n
  writes m n d p job begun a x r unseen order f step =
      by r step (own.write_pipe m n d job.fd p a f.needs.0 r order f.open_on f.needs.1 step)
    where
      then_now : (os : List Outcome) → List ℕ
      then_now os = then_rest job begun (readable_at n d) x os

      put : (k : ℕ) → StepsTo m (event.Call d (call.IolWrite job.fd a)) (reply.Count k) n
          → o.PutsInPipe m p f.needs.0 k n → (v : Step) → Needs n d v.phase → HoldsAt (readable_at n d) v.piece v.phase
          → ((os : List Outcome) → still job (readable_at n d) v os ≡ drop k f.needs.0 ++ then_now os)
          → Feeds n d p job v unseen
      put k step did v needs holds same = record {
        live = leaves.lives d f.live refl;
        open_on =
            leaves.fds d job.fd (on.WriteEnd p) f.open_on
            (and_false ((d == d) && (job.fd == job.fd)) (is_file (descriptor m d job.fd))
            (ap (λ (x : Option Descriptor). is_file x) f.open_on));
        needs = needs;
        holds = holds;
        is = λ os. f.is os
            ∙ (ap (λ (l : List ℕ). bytes_of (pipe_at m p).queue
            ++ (bytes_at (readable_at m d) a ++ (l ++ rest_of job begun os))) (sym all)
            ∙ (ap (λ (l : List ℕ). bytes_of (pipe_at m p).queue ++ (l ++ then_now os))
            (is_bytes m d a f.needs.0 f.needs.1)
            ∙ (moved (bytes_of (pipe_at m p).queue) f.needs.0 (then_now os) k
            ∙ (ap (λ (l : List ℕ). (bytes_of (pipe_at m p).queue ++ l) ++ (drop k f.needs.0 ++ then_now os))
            (sym did.text_is)
            ∙ (ap (λ (l : List ℕ). l ++ (drop k f.needs.0 ++ then_now os))
            (sym (bytes-append (pipe_at m p).queue did.text))
            ∙ (ap (λ (x : Pipe). bytes_of x.queue ++ (drop k f.needs.0 ++ then_now os)) (sym did.pipe)
            ∙ ap (λ (l : List ℕ). bytes_of (pipe_at n p).queue ++ l) (sym (same os))))))));
      }
        where
          leaves : Leaves m (event.Call d (call.IolWrite job.fd a)) n
          leaves = steps.leaves m n (event.Call d (call.IolWrite job.fd a)) (reply.Count k) step

          all : collected (readable_at n d) x ≡ collected (readable_at m d) x
          all =
              all_same m n d x (still_readable steps m n d (call.IolWrite job.fd a) (reply.Count k) x step
              (λ c one. refl)) f.holds.0.piece

      counted_by : (k : ℕ) → StepsTo m (event.Call d (call.IolWrite job.fd a)) (reply.Count k) n
          → o.PutsInPipe m p f.needs.0 k n → (t : Bool) → (k == length (bytes_at (readable_at n d) a)) ≡ t
          → Feeds n d p job
          (at_step
          (if t then phase.DroppingWritten a else phase.CuttingRest a k (length (bytes_at (readable_at n d) a)))
          begun x)
          unseen
      counted_by k step did t test =
          by_test t test (readable-stays steps m n (event.Call d (call.IolWrite job.fd a)) (reply.Count k) step d a
          f.needs.0 f.needs.1 refl)
        where
          rest : IsRest (readable_at n d) x
          rest =
              rest_still m n d x (still_readable steps m n d (call.IolWrite job.fd a) (reply.Count k) x step
              (λ c one. refl)) f.holds.0

          by_test : (t : Bool) → (k == length (bytes_at (readable_at n d) a)) ≡ t → readable_at n d a ≡ Some f.needs.0
              → Feeds n d p job
              (at_step
              (if t then phase.DroppingWritten a else phase.CuttingRest a k (length (bytes_at (readable_at n d) a)))
              begun
              x) unseen
          by_test true test now =
              let len = ap (λ (l : List ℕ). length l) (is_bytes n d a f.needs.0 now) in
              let all : k ≡ length f.needs.0 = grind (arith, nat_tests, test, len) in
              put k step did (at_step (phase.DroppingWritten a) begun x) (f.needs.0, now) (rest, f.holds.1)
              (λ os. sym (ap (λ (l : List ℕ). l ++ then_now os) (drop_all f.needs.0 k all)))
          by_test false test now =
              put k step did (at_step (phase.CuttingRest a k (length (bytes_at (readable_at n d) a))) begun x) (
                f.needs.0,
                now,
                ap (λ (l : List ℕ). length l) (is_bytes n d a f.needs.0 now),
              ) (rest, f.holds.1)
              (λ os. ap (λ (l : List ℕ). drop k l ++ then_now os) (is_bytes n d a f.needs.0 now))

      by : (r : Reply) → StepsTo m (event.Call d (call.IolWrite job.fd a)) r n → o.WritesPipe m p f.needs.0 r n
          → ComesTo m d p job (at_step (phase.Writing a) begun x) unseen r n
          (after_writing x a (length (bytes_at (readable_at n d) a)) begun r)
      by (reply.Count k) step did = inl (counted_by k step did (k == length (bytes_at (readable_at n d) a)) refl)
      by (reply.Refused not_so.BrokenPipe) step did =
          inr (inr (ap (λ (s : State). (pipe_at s p).reading) did ∙ why.nobody_reads m n d job.fd p a f.open_on step))
      by (reply.Refused y) step did = did
      by r step did = absurd did

  -- ---- a file is read

  reads : (m n : State) (d p : ℕ) (job : Task) (begun file : ℕ) (u : Purpose) (x : Collected) (r : Reply)
      (unseen : List Outcome → List ℕ) → IsOrderly m → Feeds m d p job (at_step (phase.Reading file u) begun x) unseen
      → StepsTo m (event.Call d (call.IolRead file 16777216)) r n
      → Comes m d p job (at_step (phase.Reading file u) begun x) unseen r n
  reads m n d p job begun file u x r unseen order f step =
      by u r f step (files.reads_file m n d file f.needs.number f.needs.place 16777216 Read r order f.live f.needs.may
      refl f.needs.open_on step)
    where
      opened : IsFileOpen m d file
      opened = (f.needs.number, f.needs.place, f.needs.open_on)

      text : List ℕ
      text = take 16777216 (drop f.needs.place (content m f.needs.number))

      untouched : touches_fd m (event.Call d (call.IolRead file 16777216)) d job.fd ≡ false
      untouched =
          and_before ((d == d) && (file == job.fd)) (is_file (descriptor m d file))
          (and_false (d == d) (file == job.fd) (not-equal file job.fd (not_output m d file job.fd p opened f.open_on)))

      stays : (r : Reply) → StepsTo m (event.Call d (call.IolRead file 16777216)) r n
          → IsStillReadable (readable_at m d) (readable_at n d) x
      stays r step = still_readable steps m n d (call.IolRead file 16777216) r x step (λ c one. refl)

      by : (u : Purpose) (r : Reply) → Feeds m d p job (at_step (phase.Reading file u) begun x) unseen
          → StepsTo m (event.Call d (call.IolRead file 16777216)) r n
          → fl.ReadsFile m d file f.needs.number f.needs.place Read text r n
          → ComesTo m d p job (at_step (phase.Reading file u) begun x) unseen r n
          (after_reading (readable_at n d) x file u begun r)
      by purpose.Cat (reply.Agg a) g step did =
          inl (goes steps m n d p job (at_step (phase.Reading file purpose.Cat) begun x)
          (at_step (phase.ClosingFile file a) begun x) unseen (Found (bytes_at (readable_at n d) a) ∷ [])
          (call.IolRead file 16777216) (reply.Agg a) g step refl untouched (no_end m d file p opened)
          ((f.needs.number, f.needs.place + length text, did.moves), (text, did.is_readable)) (
            gathers_still (readable_at m d) (readable_at n d) x (stays (reply.Agg a) step) g.holds,
            new_apart (readable_at m d) (length x.text) x a g.holds.piece did.new,
          )
          (λ os. ap (λ (l : List ℕ). l ++ (bytes_at (readable_at n d) a ++ rest_of job begun os))
          (all_same m n d x (stays (reply.Agg a) step) g.holds.piece)))
      by purpose.Wc (reply.Agg a) g step did =
          inl (goes steps m n d p job (at_step (phase.Reading file purpose.Wc) begun x)
          (at_step (phase.DroppingCounted file a (said.Counted (counts_of (bytes_at (readable_at n d) a)))) begun x)
          unseen
          (Found (bytes_at (readable_at n d) a) ∷ []) (call.IolRead file 16777216) (reply.Agg a) g step refl untouched
          (no_end m d file p opened)
          ((f.needs.number, f.needs.place + length text, did.moves), (text, did.is_readable)) (
            gathers_still (readable_at m d) (readable_at n d) x (stays (reply.Agg a) step) g.holds,
            new_apart (readable_at m d) (length x.text) x a g.holds.piece did.new,
          )
          (λ os.
          ap
          (λ (l : List ℕ). l ++ (said_text (said.Counted (counts_of (bytes_at (readable_at n d) a)))
          ++ rest_of job begun os)) (all_same m n d x (stays (reply.Agg a) step) g.holds.piece)))
      by u (reply.Refused y) g step did =
          inl
          (goes steps m n d p job (at_step (phase.Reading file u) begun x)
          (at_step (phase.ClosingCounted file (said.Refused y)) begun x) unseen (Failed y ∷ [])
          (call.IolRead file 16777216)
          (reply.Refused y) g step refl untouched (no_end m d file p opened)
          (f.needs.number, f.needs.place, ap (λ (s : State). descriptor s d file) did.1 ∙ f.needs.open_on)
          (gathers_still (readable_at m d) (readable_at n d) x (stays (reply.Refused y) step) g.holds)
          (λ os. ap (λ (l : List ℕ). l ++ (said_text (said.Refused y) ++ rest_of job begun os))
          (all_same m n d x (stays (reply.Refused y) step) g.holds.piece)
          ∙ ap (λ (l : List ℕ). collected (readable_at m d) x ++ l) (failed_text u y (rest_of job begun) os)))
      by u r g step did = absurd did

  -- ---- a line begins

  -- if the buffered output is not written now, more may be buffered
  or_parts : (b c : Bool) → (b || c) ≡ false → (b ≡ false) × (c ≡ false)
  or_parts false false e = (refl, refl)
  or_parts true c e = absurd (cc (e))
  or_parts false true e = absurd (cc (e))

  no_next : (o : Option ℕ) → is_some o ≡ false → o ≡ None
  no_next None e = refl
  no_next (Some a) e = absurd (cc (e))

  gathers_now : (readable : ℕ → Option (List ℕ)) (x : Collected) (l : Line) → HasPiece readable (length x.text) x
      → is_expected x (Some l) ≡ false → Gathers readable x
  gathers_now readable x l h expected =
      let parts = or_parts (is_full x) (is_some x.next) expected in
      let full = parts.0 in
      record { piece = h; none_next = no_next x.next parts.1; short = grind (arith, nat_tests, full) }

  used_by : (job : Task) (x : Collected) (begun : ℕ) (readable : ℕ → Option (List ℕ)) (o : Option Line) (r : Reply)
      → slice_get job.lines begun ≡ o → is_expected x o ≡ false
      → resolved job (at_step phase.Interpreting begun x) readable r ≡ resolved_open o r
  used_by job x begun readable o r is expected = ap (λ (l : Option Line). resolved_begun (is_expected x l) l r) is
      ∙ ap (λ (t : Bool). resolved_begun t o r) expected

  opens : (m n : State) (d p : ℕ) (job : Task) (begun : ℕ) (u : Purpose) (name : List ℕ) (x : Collected) (r : Reply)
      (unseen : List Outcome → List ℕ) → Feeds m d p job (at_step phase.Interpreting begun x) unseen
      → Gathers (readable_at m d) x → StepsTo m (event.Call d (call.OpenFile name Read)) r n
      → ((os : List Outcome) → rest_of job begun os ≡ by_first (output_for u) (rest_of job (begun + 1)) os)
      → resolved job (at_step phase.Interpreting begun x) (readable_at n d) r ≡ failed r
      → ComesTo m d p job (at_step phase.Interpreting begun x) unseen r n (after_opening x u (begun + 1) r)
  opens m n d p job begun u name x r unseen f g step same used =
      by r step used (files.opens m n d name Read r f.live step)
    where
      stays : (r : Reply) → StepsTo m (event.Call d (call.OpenFile name Read)) r n
          → IsStillReadable (readable_at m d) (readable_at n d) x
      stays r step = still_readable steps m n d (call.OpenFile name Read) r x step (λ c one. refl)

      ComesUsing : Reply → Step → List Outcome → Type 0
      ComesUsing r v l = Feeds n d p job v (λ os. unseen (l ++ os))
          ⊎ (Ends m d p unseen r v n ⊎ ((pipe_at n p).reading ≡ false))

      by : (r : Reply) → StepsTo m (event.Call d (call.OpenFile name Read)) r n
          → resolved job (at_step phase.Interpreting begun x) (readable_at n d) r ≡ failed r
          → fl.Opening m d name Read r n
          → ComesTo m d p job (at_step phase.Interpreting begun x) unseen r n (after_opening x u (begun + 1) r)
      by (reply.Fd file) step used did =
          let leaves : Leaves m (event.Call d (call.OpenFile name Read)) n =
          steps.leaves m n (event.Call d (call.OpenFile name Read)) (reply.Fd file) step in
          let same_file : file_of n did.file_is ≡ file_of m did.file_is =
          file-same m n did.file_is (leaves.files refl).0 in
          subst (λ (l : List Outcome). ComesUsing (reply.Fd file) (at_step (phase.Reading file u) (begun + 1) x) l)
          (sym used)
          (inl
          (goes steps m n d p job (at_step phase.Interpreting begun x)
          (at_step (phase.Reading file u) (begun + 1) x) unseen
          [] (call.OpenFile name Read) (reply.Fd file) f step refl refl refl
          (record {
            number = did.file_is;
            place = 0;
            open_on = did.open_on;
            may =
                ap (λ (y : File). may_read n d y.pool) same_file
                ∙ leaves.readers d (file_of m did.file_is).pool did.may;
          })
          (gathers_still (readable_at m d) (readable_at n d) x (stays (reply.Fd file) step) g)
          (λ os. ap (λ (l : List ℕ). l ++ by_first (output_for u) (rest_of job (begun + 1)) os)
          (all_same m n d x (stays (reply.Fd file) step) g.piece)
          ∙ ap (λ (l : List ℕ). collected (readable_at m d) x ++ l) (sym (same os)))))
      by (reply.Refused y) step used did =
          let gathers = gathers_still (readable_at m d) (readable_at n d) x (stays (reply.Refused y) step) g in
          subst
          (λ (l : List Outcome). ComesUsing (reply.Refused y)
          (at_step phase.Interpreting (begun + 1) (with_text x (said_text (said.Refused y)))) l) (sym used)
          (inl
          (goes steps m n d p job (at_step phase.Interpreting begun x)
          (at_step phase.Interpreting (begun + 1) (with_text x (said_text (said.Refused y)))) unseen (Failed y ∷ [])
          (call.OpenFile name Read) (reply.Refused y) f step refl refl refl
          tt (text_added (readable_at n d) x (said_text (said.Refused y)) gathers.piece)
          (λ os. said_behind (readable_at n d) x (said_text (said.Refused y)) (rest_of job (begun + 1) os) gathers
          ∙ (ap (λ (l : List ℕ). l ++ (said_text (said.Refused y) ++ rest_of job (begun + 1) os))
          (all_same m n d x (stays (reply.Refused y) step) g.piece)
          ∙ ap (λ (l : List ℕ). collected (readable_at m d) x ++ l) (failed_text u y (rest_of job (begun + 1)) os
          ∙ sym (same (Failed y ∷ os)))))))
      by r step used did = absurd did

  -- a text is buffered: the call made then has no effect on the output
  collects : (m n : State) (d p : ℕ) (job : Task) (begun : ℕ) (said : List ℕ) (x : Collected) (r : Reply)
      (unseen : List Outcome → List ℕ) → Feeds m d p job (at_step phase.Interpreting begun x) unseen
      → Gathers (readable_at m d) x → StepsTo m (event.Call d (call.SetPool 3)) r n
      → ((os : List Outcome) → rest_of job begun os ≡ said ++ rest_of job (begun + 1) os)
      → resolved job (at_step phase.Interpreting begun x) (readable_at n d) r ≡ []
      → ComesTo m d p job (at_step phase.Interpreting begun x) unseen r n
      (Some (at_step phase.Interpreting (begun + 1) (with_text x said)))
  collects m n d p job begun said x r unseen f g step same used =
      let stays = still_readable steps m n d (call.SetPool 3) r x step (λ c one. refl) in
      let gathers = gathers_still (readable_at m d) (readable_at n d) x stays g in
      subst (λ (l : List Outcome). Feeds n d p job (at_step phase.Interpreting (begun + 1) (with_text x said))
      (λ os. unseen (l ++ os)) ⊎ (Ends m d p unseen r (at_step phase.Interpreting (begun + 1) (with_text x said)) n
      ⊎ ((pipe_at n p).reading ≡ false))) (sym used)
      (inl
      (goes steps m n d p job (at_step phase.Interpreting begun x)
      (at_step phase.Interpreting (begun + 1) (with_text x said))
      unseen [] (call.SetPool 3) r f step refl refl refl
      tt (text_added (readable_at n d) x said gathers.piece)
      (λ os. said_behind (readable_at n d) x said (rest_of job (begun + 1) os) gathers
      ∙ (ap (λ (l : List ℕ). l ++ (said ++ rest_of job (begun + 1) os)) (all_same m n d x stays g.piece)
      ∙ ap (λ (l : List ℕ). collected (readable_at m d) x ++ l) (sym (same os))))))

  begins : (m n : State) (d p : ℕ) (job : Task) (begun : ℕ) (x : Collected) (r : Reply) (unseen : List Outcome
      → List ℕ) (l : Option Line) → IsOrderly m → Feeds m d p job (at_step phase.Interpreting begun x) unseen
      → slice_get job.lines begun ≡ l → is_expected x l ≡ false → StepsTo m (event.Call d (next_call job l)) r n
      → ComesTo m d p job (at_step phase.Interpreting begun x) unseen r n (after_next job x l begun r)
  begins m n d p job begun x r unseen None order f is expected step = inr (inl (record {
    free = refl;
    all =
        λ os. f.is os
        ∙ (ap (λ (l : List ℕ). bytes_of (pipe_at m p).queue ++ (l ++ rest_of job begun os))
        (nothing_collected (readable_at m d) x (nothing_is x (not_not (is_nothing x) expected)))
        ∙ (ap (λ (ls : List Line). bytes_of (pipe_at m p).queue ++ output job.query ls os) (rest-nil job.lines begun is)
        ∙ append-nil (bytes_of (pipe_at m p).queue)));
    done = why.close_is_done m n d job.fd (on.WriteEnd p) r f.live f.open_on step;
    closes = own.closes_write_end m n d job.fd p r order f.open_on step;
  }))
    where
      not_not : (b : Bool) → not b ≡ false → b ≡ true
      not_not true e = refl
      not_not false e = absurd (cc (e))
  begins m n d p job begun x r unseen (Some (line.Emit text)) order f is expected step =
      collects m n d p job begun (line_text text) x r unseen f
      (gathers_now (readable_at m d) x (line.Emit text) f.holds expected) step
      (λ os. ap (λ (ls : List Line). output job.query ls os) (rest-cons job.lines begun (line.Emit text) is))
      (used_by job x begun (readable_at n d) (Some (line.Emit text)) r is expected)
  begins m n d p job begun x r unseen (Some line.Query) order f is expected step =
      collects m n d p job begun (line_text job.query) x r unseen f
      (gathers_now (readable_at m d) x line.Query f.holds expected) step
      (λ os. ap (λ (ls : List Line). output job.query ls os) (rest-cons job.lines begun line.Query is))
      (used_by job x begun (readable_at n d) (Some line.Query) r is expected)
  begins m n d p job begun x r unseen (Some (line.Cat name)) order f is expected step =
      opens m n d p job begun purpose.Cat name x r unseen f
      (gathers_now (readable_at m d) x (line.Cat name) f.holds expected) step
      (λ os. ap (λ (ls : List Line). output job.query ls os) (rest-cons job.lines begun (line.Cat name) is))
      (used_by job x begun (readable_at n d) (Some (line.Cat name)) r is expected)
  begins m n d p job begun x r unseen (Some (line.Wc name)) order f is expected step =
      opens m n d p job begun purpose.Wc name x r unseen f
      (gathers_now (readable_at m d) x (line.Wc name) f.holds expected) step
      (λ os. ap (λ (ls : List Line). output job.query ls os) (rest-cons job.lines begun (line.Wc name) is))
      (used_by job x begun (readable_at n d) (Some (line.Wc name)) r is expected)
  begins m n d p job begun x r unseen (Some line.Pause) order f is expected step =
      let stays = still_readable steps m n d (call.SetPool 3) r x step (λ c one. refl) in
      subst (λ (l : List Outcome). Feeds n d p job (at_step phase.Interpreting (begun + 1) x) (λ os. unseen (l ++ os))
      ⊎ (Ends m d p unseen r (at_step phase.Interpreting (begun + 1) x) n ⊎ ((pipe_at n p).reading ≡ false)))
      (sym (used_by job x begun (readable_at n d) (Some line.Pause) r is expected))
      (inl (goes steps m n d p job (at_step phase.Interpreting begun x) (at_step phase.Interpreting (begun + 1) x)
      unseen []
      (call.SetPool 3) r f step refl refl refl tt
      (piece_kept (readable_at m d) (readable_at n d) (length x.text) x stays f.holds)
      (λ os. ap (λ (l : List ℕ). l ++ rest_of job (begun + 1) os) (all_same m n d x stays f.holds)
      ∙ ap (λ (ls : List Line). collected (readable_at m d) x ++ output job.query ls os)
      (sym (rest-cons job.lines begun line.Pause is)))))

  -- the call makes the buffered output, if it is to be written now, or begins the next line
  runs : (m n : State) (d p : ℕ) (job : Task) (begun : ℕ) (x : Collected) (r : Reply) (unseen : List Outcome
      → List ℕ) (t : Bool) → IsOrderly m → Feeds m d p job (at_step phase.Interpreting begun x) unseen
      → expected_now job x begun ≡ t
      → StepsTo m (event.Call d (if t then call.AggMake x.text else next_call job (slice_get job.lines begun))) r n
      → ComesTo m d p job (at_step phase.Interpreting begun x) unseen r n
      (if t then after_making x begun r else after_next job x (slice_get job.lines begun) begun r)
  runs m n d p job begun x r unseen true order f expected step =
      makes steps own m n d p job begun x r unseen order f
      (ap (λ (t : Bool). resolved_begun t (slice_get job.lines begun) r) expected) step
  runs m n d p job begun x r unseen false order f expected step =
      begins m n d p job begun x r unseen (slice_get job.lines begun) order f refl expected step

  by_phase : (m n : State) (d p : ℕ) (job : Task) (begun : ℕ) (x : Collected) (y : Phase) (r : Reply)
      (unseen : List Outcome → List ℕ) → IsOrderly m → Feeds m d p job (at_step y begun x) unseen
      → StepsTo m (event.Call d (call_at job (at_step y begun x))) r n → Comes m d p job (at_step y begun x) unseen r n
  by_phase m n d p job begun x phase.Interpreting r unseen order f did =
      runs m n d p job begun x r unseen (expected_now job x begun) order f refl did
  by_phase m n d p job begun x (phase.Reading file u) r unseen order f did =
      reads m n d p job begun file u x r unseen order f did
  by_phase m n d p job begun x (phase.DroppingCounted file a t) r unseen order f did =
      counted m n d p job begun file a t x r unseen f did
  by_phase m n d p job begun x (phase.ClosingFile file a) r unseen order f did =
      shuts m n d p job begun file a x r unseen f did
  by_phase m n d p job begun x (phase.ClosingCounted file t) r unseen order f did =
      shuts_to_say m n d p job begun file t x r unseen f did
  by_phase m n d p job begun x (phase.JoiningFile held a from len) r unseen order f did =
      joins m n d p job begun held a from len x r unseen order f did
  by_phase m n d p job begun x (phase.CuttingPart held a from) r unseen order f did =
      parts steps own m n d p job begun held a from x r unseen order f did
  by_phase m n d p job begun x (phase.ReplacingPart a part at) r unseen order f did =
      replaces steps own m n d p job begun a part at x r unseen order f did
  by_phase m n d p job begun x (phase.DroppingText a part b) r unseen order f did =
      drops_text steps own m n d p job begun a part b x r unseen f did
  by_phase m n d p job begun x (phase.DroppingPart part b) r unseen order f did =
      drops_part steps own m n d p job begun part b x r unseen f did
  by_phase m n d p job begun x (phase.Writing a) r unseen order f did =
      writes m n d p job begun a x r unseen order f did
  by_phase m n d p job begun x (phase.CuttingRest a from to) r unseen order f did =
      cuts m n d p job begun a from to x r unseen order f did
  by_phase m n d p job begun x (phase.DroppingTaken a b) r unseen order f did =
      swaps m n d p job begun a b x r unseen f did
  by_phase m n d p job begun x (phase.DroppingWritten a) r unseen order f did =
      drops m n d p job begun a x r unseen f did
  by_phase m n d p job begun x y r unseen order f did = absurd f.needs

  pub feeds_on : FeedsOn
  feeds_on m n d p job step r unseen order f did =
      by_phase m n d p job step.begun step.piece step.phase r unseen order f did
