-- Invariants of a worker's call, and a call that does not change its output pipe.
use Rattle.std.proofs.Common.{inl, inr, ◌≡◌, ◌≢◌, ℕ, zero, suc, ◌+◌, ◌-◌, ◌==◌, ◌⊎◌, List, [], ◌∷◌, ◌++◌, length, take}
use Rattle.std.proofs.Common.{drop, ap, ◌∙◌, refl, sym, arith, Option, Some, None, true, false, Bool, append_assoc}
use Rattle.std.proofs.Common.{length-drop}
use Rattle.std.specs.Prelude.{unwrap_or, option_map, ◌||◌, ◌&&◌, not, slice_range, slice_get}
use Rattle.std.specs.List.{list_any}
use Rattle.std.proofs.lemmas.List.{take_all, take-append-drop}
use Rattle.std.proofs.lemmas.Bool.Decides.{nat_tests}
use Rattle.iol_core.specs.Text.{Text, bytes_of}
use Rattle.iol_core.specs.State.{State, Pipe, File, no_file, aggregate, descriptor, pipe_at, file}
use Rattle.iol_core.specs.NumberedLists.{numbered_or}
use Rattle.iol_core.specs.Calls.Aggregates.{next_agg}
use Rattle.iol_core.specs.Run.{StepsTo}
use Rattle.iol_core.specs.Values.{gives_up}
use Rattle.iol_core.specs.declared.descriptors.Descriptor.{Descriptor}
use Rattle.iol_core.specs.declared.descriptors.Descriptor.TheVariants as on
use Rattle.iol_core.specs.declared.refusals.Refusal.{Refusal}
use Rattle.iol_core.specs.declared.events.Call.{Call}
use Rattle.iol_core.specs.declared.events.Call.TheVariants as call
use Rattle.iol_core.specs.declared.events.Event.{Event}
use Rattle.iol_core.specs.declared.events.Event.TheVariants as event
use Rattle.iol_core.specs.declared.events.Reply.{Reply}
use Rattle.iol_core.specs.declared.events.Reply.TheVariants as reply
use Rattle.iol_laws.specs.Caller as o
use Rattle.iol_laws.specs.Caller.{readable_at}
use Rattle.iol_laws.specs.CallerFiles as fl
use Rattle.iol_laws.specs.Frame.{EachStepLeavesTheRest, Leaves, is_end, touches_fd, touches_pipe, ends}
use Rattle.flash_cgi.specs.Collecting.{Collected, collected}
use Rattle.flash_cgi.specs.Job.{Task}
use Rattle.flash_cgi.specs.Output.{Outcome, Failed, output, by_first}
use Rattle.flash_cgi.specs.Pieces.{HasPiece, HoldsAt, IsApart, IsRest, IsReadable}
use Rattle.flash_cgi.specs.WorkerSteps.{said_text, bytes_at}
use Rattle.flash_cgi.specs.Feeds.{output_for, still, IsFileOpen, Needs, Feeds, failed}
use Rattle.flash_cgi.specs.declared.line.Line.{Line}
use Rattle.flash_cgi.specs.declared.line.Line.TheVariants as line
use Rattle.flash_cgi.specs.declared.counts.Said.TheVariants as said
use Rattle.flash_cgi.specs.declared.phase.Purpose.{Purpose}
use Rattle.flash_cgi.specs.declared.phase.Purpose.TheVariants as purpose
use Rattle.flash_cgi.specs.declared.phase.Phase.{Phase}
use Rattle.flash_cgi.specs.declared.phase.Phase.TheVariants as phase
use Rattle.flash_cgi.specs.declared.phase.Step.{Step}
use Rattle.flash_cgi.proofs.Interleaving.{IsStillReadable, piece_kept, text_kept}

-- ---- plain facts

pub and_false : (b c : Bool) → c ≡ false → (b && c) ≡ false
and_false true c e = e
and_false false c e = refl

pub not-equal : (a b : ℕ) → a ≢ b → (a == b) ≡ false
not-equal a b differ = grind (arith, nat_tests, differ)

pub bytes-append : (s t : Text) → bytes_of (s ++ t) ≡ bytes_of s ++ bytes_of t
bytes-append [] t = refl
bytes-append (b ∷ s) t = ap (λ (l : List ℕ). b.0 ∷ l) (bytes-append s t)

-- the lines that are left, by the next one
pub rest-cons : (lines : List Line) (i : ℕ) (l : Line) → slice_get lines i ≡ Some l
    → drop i lines ≡ l ∷ drop (i + 1) lines
rest-cons [] i l e = absurd (cc)
rest-cons (x ∷ lines) zero l e = let h : x ≡ l = cc in ap (λ y. y ∷ lines) h
rest-cons (x ∷ lines) (suc i) l e = let s : suc i + 1 ≡ suc (i + 1) = omega arith in rest-cons lines i l e
    ∙ ap (λ k. l ∷ drop k (x ∷ lines)) (sym s)

pub rest-nil : (lines : List Line) (i : ℕ) → slice_get lines i ≡ None → drop i lines ≡ []
rest-nil [] zero e = refl
rest-nil [] (suc i) e = refl
rest-nil (x ∷ lines) zero e = absurd (cc)
rest-nil (x ∷ lines) (suc i) e = rest-nil lines i e

abbrev pub at_step : Phase → ℕ → Collected → Step
at_step d begun x = record { phase = d; begun = begun; piece = x }

pub range_to_end : (xs : List ℕ) (i j : ℕ) → j ≡ length xs → slice_range xs i j ≡ drop i xs
range_to_end xs i j e = take_all (j - i) (drop i xs) (omega (arith, length-drop i xs, e))

pub drop_all : (xs : List ℕ) (k : ℕ) → k ≡ length xs → drop k xs ≡ []
drop_all xs k e = ap (λ i. drop i xs) e ∙ at_end xs
  where
    at_end : (xs : List ℕ) → drop (length xs) xs ≡ []
    at_end [] = refl
    at_end (x ∷ xs) = at_end xs

-- the two parts of an aggregate have different numbers
pub two_numbers : (m n : State) (d a at b c : ℕ) → StepsTo m (event.Call d (call.AggSplit a at)) (reply.Aggs b c) n
    → b ≢ c
two_numbers m n d a at b c step same =
    let first : b ≡ next_agg m d = ap first_of step.1 in
    let second : c ≡ next_agg m d + 1 = ap second_of step.1 in
    omega (arith, first, second, same)
  where
    first_of : Reply → ℕ
    first_of (reply.Aggs b c) = b
    first_of r = 0

    second_of : Reply → ℕ
    second_of (reply.Aggs b c) = c
    second_of r = 0

-- written bytes move from the bytes to be written to the pipe
pub moved : (queue bytes rest : List ℕ) (k : ℕ) → queue ++ (bytes ++ rest) ≡ (queue ++ take k bytes)
    ++ (drop k bytes ++ rest)
moved queue bytes rest k =
    sym (append_assoc queue (take k bytes) (drop k bytes ++ rest)
    ∙ ap (λ (l : List ℕ). queue ++ l) (sym (append_assoc (take k bytes) (drop k bytes) rest)
    ∙ ap (λ (l : List ℕ). l ++ rest) (take-append-drop k bytes)))

pub and_before : (b c : Bool) → b ≡ false → (b && c) ≡ false
and_before true c e = absurd (cc)
and_before false c e = refl

pub failed_text : (u : Purpose) (x : Refusal) (rest : List Outcome → List ℕ) (os : List Outcome)
    → said_text (said.Refused x) ++ rest os ≡ by_first (output_for u) rest (Failed x ∷ os)
failed_text purpose.Cat x rest os = refl
failed_text purpose.Wc x rest os = refl

abbrev pub file_of : State → ℕ → File
file_of m k = file m k

pub file-same : (m n : State) (k : ℕ) → n.files ≡ m.files → file n k ≡ file m k
unfolding file
file-same m n k e = ap (λ (fs : List File). numbered_or fs k no_file) e

pub same_bytes : (m n : State) (d a : ℕ) (bytes : List ℕ) → readable_at m d a ≡ Some bytes
    → readable_at n d a ≡ Some bytes → bytes_at (readable_at n d) a ≡ bytes_at (readable_at m d) a
same_bytes m n d a bytes is now = ap (λ (l : Option (List ℕ)). unwrap_or l []) (now ∙ sym is)

pub is_bytes : (m : State) (d a : ℕ) (bytes : List ℕ) → readable_at m d a ≡ Some bytes
    → bytes_at (readable_at m d) a ≡ bytes
is_bytes m d a bytes is = ap (λ (l : Option (List ℕ)). unwrap_or l []) is

-- a file's descriptor is no end of a pipe
pub no_end : (m : State) (d fd p : ℕ) → IsFileOpen m d fd
    → (list_any (is_end p) (descriptor m d fd ∷ []) || false) ≡ false
no_end m d fd p is = ap (λ (x : Option Descriptor). list_any (is_end p) (x ∷ []) || false) is.2

pub not_output : (m : State) (d file fd p : ℕ) → IsFileOpen m d file → descriptor m d fd ≡ Some (on.WriteEnd p)
    → file ≢ fd
not_output m d file fd p is out same = (let e = ap (λ k. descriptor m d k) same in absurd (cc (e, is.2, out)))

-- a drop of another aggregate leaves it
pub apart_test : (d a b : ℕ) (x : Collected) → IsApart x a → (x.held ≡ Some b) ⊎ (x.next ≡ Some b)
    → ((d == d) && (a == b)) ≡ false
apart_test d a b x apart one = and_false (d == d) (a == b) (not-equal a b (λ same. by same one))
  where
    by : a ≡ b → (x.held ≡ Some b) ⊎ (x.next ≡ Some b) → ⊥
    by same (inl is) = apart.0 (is ∙ ap (λ k. Some k) (sym same))
    by same (inr is) = apart.1 (is ∙ ap (λ k. Some k) (sym same))

pub rest_still : (m n : State) (d : ℕ) (x : Collected) → IsStillReadable (readable_at m d) (readable_at n d) x
    → IsRest (readable_at m d) x → IsRest (readable_at n d) x
rest_still m n d x stays h =
    record {
      piece = piece_kept (readable_at m d) (readable_at n d) (length x.text) x stays h.piece;
      no_text = h.no_text;
      no_places = h.no_places;
    }

pub all_same : (m n : State) (d : ℕ) (x : Collected) → IsStillReadable (readable_at m d) (readable_at n d) x
    → HasPiece (readable_at m d) (length x.text) x → collected (readable_at n d) x ≡ collected (readable_at m d) x
all_same m n d x stays h = text_kept (readable_at m d) (readable_at n d) (length x.text) x.text x stays h

module _ (steps : EachStepLeavesTheRest) where
  pub readable-stays : (m n : State) (e : Event) (r : Reply) → StepsTo m e r n → (d a : ℕ) (bytes : List ℕ)
      → readable_at m d a ≡ Some bytes → gives_up e d a ≡ false → readable_at n d a ≡ Some bytes
  readable-stays m n e r step d a bytes is un = by (aggregate m d a) refl
    where
      by : (t : Option Text) → aggregate m d a ≡ t → readable_at n d a ≡ Some bytes
      by None none = (let e = ap (λ (t : Option Text). option_map bytes_of t) none in absurd (cc (is, e)))
      by (Some t) some =
          ap (λ (u : Option Text). option_map bytes_of u) ((steps.values m n e r step).each d a t some un)
          ∙ sym (ap (λ (u : Option Text). option_map bytes_of u) some) ∙ is

  pub still_readable : (m n : State) (d : ℕ) (k : Call) (r : Reply) (x : Collected) → StepsTo m (event.Call d k) r n
      → ((a : ℕ) → (x.held ≡ Some a) ⊎ (x.next ≡ Some a) → gives_up (event.Call d k) d a ≡ false)
      → IsStillReadable (readable_at m d) (readable_at n d) x
  still_readable m n d k r x step un a bytes one is = readable-stays m n (event.Call d k) r step d a bytes is (un a one)

  pub after_drop : (m n : State) (d a : ℕ) (r : Reply) (x : Collected) → StepsTo m (event.Call d (call.AggDrop a)) r n
      → IsApart x a → IsStillReadable (readable_at m d) (readable_at n d) x
  after_drop m n d a r x step apart =
      still_readable m n d (call.AggDrop a) r x step (λ b one. apart_test d a b x apart one)

  -- an aggregate that is not dropped is still readable
  abbrev pub beside_drop : (m n : State) (d a b : ℕ) (r : Reply) → StepsTo m (event.Call d (call.AggDrop a)) r n → a ≢ b
      → IsReadable (readable_at m d) b → IsReadable (readable_at n d) b
  beside_drop m n d a b r step differ h = (
    h.0,
    readable-stays m n (event.Call d (call.AggDrop a)) r step d b h.0 h.1
        (and_false (d == d) (a == b) (not-equal a b differ)),
  )

  -- ---- a call that leaves the output pipe and the bytes to be written unchanged
  pub goes : (m n : State) (d p : ℕ) (job : Task) (s v : Step) (unseen : List Outcome → List ℕ) (used : List Outcome)
      (c : Call) (r : Reply) → Feeds m d p job s unseen → StepsTo m (event.Call d c) r n
      → ends (event.Call d c) d ≡ false → touches_fd m (event.Call d c) d job.fd ≡ false
      → touches_pipe m (event.Call d c) p ≡ false
      → Needs n d v.phase → HoldsAt (readable_at n d) v.piece v.phase
      → ((os : List Outcome) → still job (readable_at n d) v os ≡ still job (readable_at m d) s (used ++ os))
      → Feeds n d p job v (λ os. unseen (used ++ os))
  goes m n d p job s v unseen used c r f step lives fd pipe needs holds same = record {
    live = leaves.lives d f.live lives;
    open_on = leaves.fds d job.fd (on.WriteEnd p) f.open_on fd;
    needs = needs;
    holds = holds;
    is = λ os. f.is (used ++ os) ∙ (ap (λ (l : List ℕ). bytes_of (pipe_at m p).queue ++ l) (sym (same os))
        ∙ ap (λ (x : Pipe). bytes_of x.queue ++ still job (readable_at n d) v os) (sym (leaves.pipes p pipe)));
  }
    where
      leaves : Leaves m (event.Call d c) n
      leaves = steps.leaves m n (event.Call d c) r step
