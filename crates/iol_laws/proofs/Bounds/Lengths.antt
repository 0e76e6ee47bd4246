-- No file, aggregate or queue exceeds its limit, in each reachable state.
use Rattle.std.proofs.Common.{inl, inr, ◌≡◌, ◌≤◌, ◌⊎◌, ℕ, ◌+◌, ◌-◌, List, [], ◌∷◌, ◌++◌, length, take, drop, ap, ◌∙◌}
use Rattle.std.proofs.Common.{refl, sym, subst, arith, Option, Some, None, true, false, length-append, length-drop}
use Rattle.std.specs.Prelude.{nat_lt}
use Rattle.std.proofs.lemmas.Bool.{cases_eq}
use Rattle.std.proofs.lemmas.Bool.Decides.{nat_tests}
use Rattle.std.proofs.lemmas.Grind.{common_steps}
use Rattle.std.proofs.lemmas.List.{length-take-le}
use Rattle.iol_core.specs.Text.{Text, bytes_of, labelled}
use Rattle.iol_core.specs.NumberedLists.{is_numbered, numbered_or}
use Rattle.iol_core.specs.State.{State, File, content, descriptor, text, pipe_at, conn_at, with_content, with_domain}
use Rattle.iol_core.specs.State.{new_state}
use Rattle.iol_core.specs.Positions.{ArePlaced}
use Rattle.iol_core.specs.Meaning.{first}
use Rattle.iol_core.specs.Run.{meaning, Run, StepsTo}
use Rattle.iol_core.specs.Calls.Files as files
use Rattle.iol_core.specs.Calls.Writes as writing
use Rattle.iol_core.specs.Calls.Writes.{is_too_long}
use Rattle.iol_core.specs.declared.limits.TheConstants.{MAX_AGGREGATE_BYTES, MAX_FILES, MAX_FILE_BYTES, MAX_QUEUE_BYTES}
use Rattle.iol_core.specs.declared.refusals.Refusal.TheVariants as refuse
use Rattle.iol_core.specs.declared.descriptors.Descriptor.{Descriptor}
use Rattle.iol_core.specs.declared.descriptors.Descriptor.TheVariants as on
use Rattle.iol_core.specs.declared.descriptors.Mode.{Mode}
use Rattle.iol_core.specs.declared.events.Call.TheVariants as call
use Rattle.iol_core.specs.declared.events.Event.{Event}
use Rattle.iol_core.specs.declared.events.Event.TheVariants as event
use Rattle.iol_core.specs.declared.events.Reply.{Reply}
use Rattle.iol_core.specs.declared.events.Reply.TheVariants as reply
use Rattle.iol_core.proofs.Lookups.{numbered_or-with}
use Rattle.iol_core.proofs.TestedLists.{passed, when-none}
use Rattle.iol_core.proofs.Positions.{placed_new, placed_step}
use Rattle.iol_laws.proofs.Runs.{run_keeps}
use Rattle.iol_laws.specs.Caller.{readable_at}
use Rattle.iol_laws.specs.Lengths.{AreShort}
use Rattle.iol_laws.proofs.Frame.Files.{files_written, store_meant, content-same}
use Rattle.iol_laws.proofs.Numbers.{text-of}
use Rattle.iol_laws.proofs.Bounds.ShortAggregates.{fit_meant, fit_new_state, is-short, taken-less, text-fits}
use Rattle.iol_laws.proofs.Bounds.ShortQueues.{conn-fits, linked_meant, piped_meant, piped_new_state, queue-short}
use Rattle.iol_laws.proofs.Texts.{length-bytes, length-labelled}

-- each file is within its limit
abbrev FilesShort : State → Type 0
FilesShort s = (f : ℕ) → is_numbered s.files f ≡ true → length (content s f) ≤ MAX_FILE_BYTES

-- files and slots are unchanged
short_same : (s t : State) → (t.files ≡ s.files) × (t.slots ≡ s.slots) → FilesShort s → FilesShort t
short_same s t same short f there =
    subst (λ (l : List ℕ). length l ≤ MAX_FILE_BYTES) (sym (content-same s t f same.1))
    (short f (ap (λ (l : List File). is_numbered l f) (sym same.0) ∙ there))

-- one file gets other bytes
short_content : (s t : State) (f : ℕ) (bytes : List ℕ) → t.files ≡ s.files → t.slots ≡ (with_content s f bytes).slots
    → length bytes ≤ MAX_FILE_BYTES → FilesShort s → FilesShort t
unfolding content with_content
short_content s t f bytes same slots fits short g there = elim (numbered_or-with s.slots f g bytes []) [
  | inl both ↦
      subst (λ (l : List ℕ). length l ≤ MAX_FILE_BYTES)
      (sym (ap (λ (l : List (List ℕ)). numbered_or l g []) slots ∙ both.1)) fits
  | inr kept ↦
      subst (λ (l : List ℕ). length l ≤ MAX_FILE_BYTES)
      (sym (ap (λ (l : List (List ℕ)). numbered_or l g []) slots ∙ kept))
      (short g (ap (λ (l : List File). is_numbered l g) (sym same) ∙ there))
]

-- the length of bytes that are laid over others, from an offset within them
three : (xs ys zs : List ℕ) → length (xs ++ ys ++ zs) ≡ (length xs + length ys) + length zs
three xs ys zs = length-append (xs ++ ys) zs ∙ ap (λ n. n + length zs) (length-append xs ys)

sums : (n xs ys zs at w was : ℕ) → n ≡ (xs + ys) + zs → xs ≡ at → ys ≡ w → zs ≡ was - (at + w) → at ≤ was
    → was ≤ MAX_FILE_BYTES → nat_lt MAX_FILE_BYTES (at + w) ≡ false → n ≤ MAX_FILE_BYTES
sums n xs ys zs at w was all a b c within short long =
    (let f : at + w ≤ MAX_FILE_BYTES = grind (arith, nat_tests, long) in omega (arith, all, a, b, c, f, within, short))

over : (was : List ℕ) (at : ℕ) (w : Text) → at ≤ length was → length was ≤ MAX_FILE_BYTES
    → nat_lt MAX_FILE_BYTES (at + length w) ≡ false
    → length (take at was ++ bytes_of w ++ drop (at + length w) was) ≤ MAX_FILE_BYTES
over was at w within short long =
    sums _ (length (take at was)) (length (bytes_of w)) (length (drop (at + length w) was)) at (length w) (length was)
    (three (take at was) (bytes_of w) (drop (at + length w) was)) (length-take-le at was within) (length-bytes w)
    (length-drop (at + length w) was) within short long

filled-files : (s : State) (by fd f at : ℕ) (mode : Mode) (w : Text)
    → ((writing.written s by fd (Some (on.File f at mode)) w).files ≡ s.files)
    × ((writing.written s by fd (Some (on.File f at mode)) w).slots
    ≡ (with_content s f (take at (content s f) ++ bytes_of w ++ drop (at + length w) (content s f))).slots)
unfolding with_domain with_content
filled-files s by fd f at mode w = (refl, refl)

short_written : (s : State) (by fd : ℕ) (o : Option Descriptor) (w : Text) → descriptor s by fd ≡ o
    → is_too_long o (length w) ≡ false → ArePlaced s → FilesShort s → FilesShort (writing.written s by fd o w)
short_written s by fd (Some (on.File f at mode)) w is fits placed short =
    let here = placed.each by fd f at mode is in
    let same = filled-files s by fd f at mode w in
    short_content s _ f _ same.0 same.1 (over (content s f) at w here.1 (short f here.0) fits) short
short_written s by fd (Some (on.WriteEnd p)) w is fits placed short =
    short_same s _ (files_written s by fd (Some (on.WriteEnd p)) w refl) short
short_written s by fd (Some (on.Connection c)) w is fits placed short =
    short_same s _ (files_written s by fd (Some (on.Connection c)) w refl) short
short_written s by fd o w is fits placed short = short

-- if some bytes are not too long for a descriptor, fewer bytes are not, either
shorter : (o : Option Descriptor) (n m : ℕ) → n ≤ m → is_too_long o m ≡ false → is_too_long o n ≡ false
shorter (Some (on.File f at mode)) n m less fits = grind (arith, nat_tests, less, fits)
shorter o n m less fits = refl

-- after a file is added, each file is an old one or the new one
pushed : (xs : List File) (x : File) (f : ℕ) → is_numbered (xs ++ x ∷ []) f ≡ true
    → (is_numbered xs f ≡ true) ⊎ (f ≡ length xs + 1)
pushed xs x f there = elim (cases_eq f (length xs + 1)) [
  | inl k ↦ inr k
  | inr k ↦ inl (grind (arith, nat_tests, common_steps, there, k))
]

short_file_new : (s : State) (by : ℕ) (name : List ℕ) (p : ℕ) → first (files.file_new s by name p).refusals ≡ None
    → FilesShort s → FilesShort (files.file_new s by name p).after
short_file_new s by name p passes short f there = elim (pushed s.files _ f there) [
  | inl old ↦
      subst (λ (l : List ℕ). length l ≤ MAX_FILE_BYTES) (sym (content-same s (files.file_new s by name p).after f refl))
      (short f old)
  | inr new ↦
      subst (λ (l : List ℕ). length l ≤ MAX_FILE_BYTES) (sym (content-same s (files.file_new s by name p).after f refl))
      (subst (λ n. length (content s n) ≤ MAX_FILE_BYTES) (sym new) fits)
]
  where
    within : (n : ℕ) → nat_lt MAX_FILE_BYTES n ≡ false → n ≤ MAX_FILE_BYTES
    within n is = grind (arith, nat_tests, is)

    fits : length (content s (length s.files + 1)) ≤ MAX_FILE_BYTES
    fits =
        within _ (when-none refuse.TooLong (nat_lt MAX_FILE_BYTES (length (content s (length s.files + 1))))
        (passed (files.file_new s by name p).refusals 4 passes))

short_iol_write : (s : State) (by fd a : ℕ) → first (writing.iol_write s by fd a).refusals ≡ None → ArePlaced s
    → FilesShort s → FilesShort (writing.iol_write s by fd a).after
short_iol_write s by fd a passes placed short =
    let o : Option Descriptor = descriptor s by fd in
    let w : Text = text s by a in
    let n : ℕ = writing.fitting s o (length w) in
    let long =
    when-none refuse.TooLong (is_too_long o (length w)) (passed (writing.iol_write s by fd a).refusals 4 passes) in
    short_written s by fd o (take n w) refl (shorter o (length (take n w)) (length w) (taken-less n w) long) placed
    short

short_write : (s : State) (by fd : ℕ) (bytes : List ℕ) → first (writing.write s by fd bytes).refusals ≡ None
    → ArePlaced s → FilesShort s → FilesShort (writing.write s by fd bytes).after
short_write s by fd bytes passes placed short =
    let o : Option Descriptor = descriptor s by fd in
    let p : ℕ = writing.pool_for s by o in
    let n : ℕ = writing.fitting s o (length bytes) in
    let w : Text = labelled p (take n bytes) in
    let long =
    when-none refuse.TooLong (is_too_long o (length bytes))
    (passed (writing.write s by fd bytes).refusals 4 passes) in
    let less : length w ≤ length bytes = (let e = length-labelled p (take n bytes) in let k = taken-less n bytes in
    omega (arith, e, k)) in
    short_written s by fd o w refl (shorter o (length w) (length bytes) less long) placed short

short_meant : (s : State) (e : Event) → first (meaning s e).refusals ≡ None → ArePlaced s → FilesShort s
    → FilesShort (meaning s e).after
short_meant s (event.Call by (call.FileNew name p)) passes placed short = short_file_new s by name p passes short
short_meant s (event.Call by (call.IolWrite fd a)) passes placed short = short_iol_write s by fd a passes placed short
short_meant s (event.Call by (call.Write fd bytes)) passes placed short = short_write s by fd bytes passes placed short
short_meant s e passes placed short = short_same s (meaning s e).after ((store_meant s e).files refl) short

-- All limits together.

all_meant : (s : State) (e : Event) → first (meaning s e).refusals ≡ None → ArePlaced s → AreShort s
    → AreShort (meaning s e).after
all_meant s e passes placed short = record {
  files = short_meant s e passes placed short.files;
  aggs = fit_meant s e passes placed short;
  pipes = piped_meant s e short.pipes;
  conns = linked_meant s e short.conns;
}

pub short_step : (s t : State) (e : Event) (r : Reply) → ArePlaced s → AreShort s → StepsTo s e r t → AreShort t
short_step s t e (reply.Refused x) placed short step = subst (λ (u : State). AreShort u) (sym step.1) short
short_step s t e r placed short step =
    subst (λ (u : State). AreShort u) (sym step.2) (all_meant s e step.0 placed short)

none-numbered : (f : ℕ) → is_numbered {A = File} [] f ≡ true → ⊥
none-numbered f is = (let e : is_numbered {A = File} [] f ≡ false = grind (arith, nat_tests, common_steps) in
    absurd (cc (e, is)))

pub short_new : (slots : List (List ℕ)) → AreShort (new_state slots)
short_new slots = record {
  files = λ f there. absurd (none-numbered f there);
  aggs = fit_new_state slots;
  pipes = piped_new_state slots;
  conns = refl;
}

pub short_reached : (slots : List (List ℕ)) (t : State) (es : List Event) (rs : List Reply) → MAX_FILES ≤ length slots
    → Run (new_state slots) es rs t → AreShort t
short_reached slots t es rs all run =
    (run_keeps (λ s. ArePlaced s × AreShort s)
    (λ s t e r has step. (placed_step s t e r has.0 step, short_step s t e r has.0 has.1 step)) (new_state slots) t es
    rs (placed_new slots all, short_new slots) run).1

pub short_readable : (s : State) (d a : ℕ) (bytes : List ℕ) → AreShort s → readable_at s d a ≡ Some bytes
    → length bytes ≤ MAX_AGGREGATE_BYTES
short_readable s d a bytes short has =
    let same = sym (length-bytes (text s d a)) ∙ ap (λ (l : List ℕ). length l) (text-of s d a bytes has) in
    let few = is-short (text s d a) (text-fits s d a short.aggs) in
    omega (arith, same, few)

pub short_pipe : (s : State) (p : ℕ) → AreShort s → length (pipe_at s p).queue ≤ MAX_QUEUE_BYTES
short_pipe s p short = queue-short (pipe_at s p).queue (short.pipes p)

pub short_incoming : (s : State) (c : ℕ) → AreShort s → length (conn_at s c).incoming ≤ MAX_QUEUE_BYTES
short_incoming s c short = queue-short (conn_at s c).incoming (conn-fits s c short.conns).0

pub short_outgoing : (s : State) (c : ℕ) → AreShort s → length (conn_at s c).outgoing ≤ MAX_QUEUE_BYTES
short_outgoing s c short = queue-short (conn_at s c).outgoing (conn-fits s c short.conns).1
