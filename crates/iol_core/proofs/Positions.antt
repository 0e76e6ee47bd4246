-- Every call keeps positions within files.
use Rattle.std.proofs.Common.{inl, inr, ◌≡◌, ℕ, ◌+◌, ◌≤◌, ◌<◌, ◌==◌, List, [], ◌∷◌, ◌++◌, length, take, drop, ap, ◌∙◌}
use Rattle.std.proofs.Common.{refl, sym, subst, arith, Option, Some, None, true, false, Bool}
use Rattle.std.specs.Prelude.{fold, slice_set, option_map, unwrap_or, if◌then◌else◌, nat_lt, nat_le, is_none, position}
use Rattle.std.specs.Prelude.{bytes_eq, Result, Ok, Err}
use Rattle.std.specs.Option.{option_map_or}
use Rattle.std.proofs.lemmas.List.Quantifiers.{position-Some}
use Rattle.std.proofs.lemmas.Bool.Decides.{nat_tests}
use Rattle.std.proofs.lemmas.Grind.{common_steps}
use Rattle.iol_core.specs.Text.{Text, labelled, bytes_of}
use Rattle.iol_core.specs.NumberedLists.{numbered_or, is_numbered, with_numbered, in_place, lowest, placed, without}
use Rattle.iol_core.specs.State.{State, Domain, File, Pipe, Connection, domain, descriptor, content, file, pipe_at}
use Rattle.iol_core.specs.State.{conn_at, new_domain, no_domain, no_file, with_domain, with_pipe, with_conn}
use Rattle.iol_core.specs.State.{with_content, text, new_state}
use Rattle.iol_core.specs.Meaning.{Meaning, Step, first}
use Rattle.iol_core.specs.Positions.{ArePlaced, IsPlace}
use Rattle.iol_core.specs.declared.limits.TheConstants.{MAX_FILES}
use Rattle.iol_core.specs.Calls.Domains.{domain_new, exit}
use Rattle.iol_core.specs.Calls.Pools.{pool_create, pool_close, pool_admit}
use Rattle.iol_core.specs.Calls.Aggregates as aggs
use Rattle.iol_core.specs.Calls.Descriptors as fds
use Rattle.iol_core.specs.Calls.Files as files
use Rattle.iol_core.specs.Calls.Outside.{conn_new, closed_by}
use Rattle.iol_core.specs.Calls.Reads as reading
use Rattle.iol_core.specs.Calls.Writes as writing
use Rattle.iol_core.specs.Run.{called, meaning, StepsTo, Run, outcome}
use Rattle.iol_core.specs.declared.refusals.Refusal.{Refusal}
use Rattle.iol_core.specs.declared.refusals.Refusal.TheVariants.{BadRange, NoFile, TooMany}
use Rattle.iol_core.specs.declared.descriptors.Descriptor.{Descriptor}
use Rattle.iol_core.specs.declared.descriptors.Descriptor.TheVariants as on
use Rattle.iol_core.specs.declared.descriptors.Mode.{Mode}
use Rattle.iol_core.specs.declared.events.Call.{Call}
use Rattle.iol_core.specs.declared.events.Call.TheVariants as call
use Rattle.iol_core.specs.declared.events.Event.{Event}
use Rattle.iol_core.specs.declared.events.Event.TheVariants as event
use Rattle.iol_core.specs.declared.events.Reply.{Reply}
use Rattle.iol_core.proofs.Lookups.{domain-with_domain, domain-same, domain-push, domain-new_state, numbered_or-with}
use Rattle.iol_core.proofs.Places.{place-set, place-freed, place-placed}
use Rattle.iol_core.proofs.TestedLists.{passed, when-none}

-- if the descriptor is on a file, its position is in the file
abbrev IsWithin : State → Descriptor → Type 0
IsWithin s x = (f at : ℕ) (mode : Mode) → x ≡ on.File f at mode → IsPlace s f at

abbrev AreWithin : State → List (Option Descriptor) → Type 0
AreWithin s xs = (fd f at : ℕ) (mode : Mode) → in_place xs fd ≡ Some (on.File f at mode) → IsPlace s f at

-- each file still exists, and is no shorter
record Grows (s t : State) : Type 0 where
  slots : length t.slots ≡ length s.slots
  few : length s.files ≤ MAX_FILES → length t.files ≤ MAX_FILES
  files : (f : ℕ) → is_numbered s.files f ≡ true → is_numbered t.files f ≡ true
  longer : (f : ℕ) → length (content s f) ≤ length (content t f)

within_of : (s : State) → ArePlaced s → (d : ℕ) → AreWithin s (domain s d).fds
within_of s h d fd f at mode is = h.each d fd f at mode is

longer : (s t : State) → Grows s t → (xs : List (Option Descriptor)) → AreWithin s xs → AreWithin t xs
longer s t grows xs within fd f at mode is =
    (let a = within fd f at mode is in let b = grows.longer f in (grows.files f a.0, omega (arith, a.1, b)))

placed_by : (s t : State) → ArePlaced s → Grows s t → ((d : ℕ) → AreWithin s (domain t d).fds) → ArePlaced t
placed_by s t h grows each = record {
  slots = omega (arith, h.slots, grows.slots);
  few = grows.few h.few;
  each = λ d fd f at mode is. longer s t grows (domain t d).fds (each d) fd f at mode is;
}

content-same : (s t : State) → t.slots ≡ s.slots → (f : ℕ) → content t f ≡ content s f
unfolding content
content-same s t same f = ap (λ (l : List (List ℕ)). numbered_or l f []) same

grows_same : (s t : State) → t.slots ≡ s.slots → t.files ≡ s.files → Grows s t
grows_same s t slots files = record {
  slots = ap (λ (l : List (List ℕ)). length l) slots;
  few = λ few. (let e = ap (λ (l : List File). length l) files in omega (arith, few, e));
  files = λ f there. ap (λ (l : List File). is_numbered l f) files ∙ there;
  longer = λ f. (let e = ap (λ (l : List ℕ). length l) (content-same s t slots f) in omega (arith, e));
}

-- After each kind of change.

placed_grown : (s t : State) → ArePlaced s → t.domains ≡ s.domains → Grows s t → ArePlaced t
placed_grown s t h same grows =
    placed_by s t h grows (λ d. subst (λ (x : Domain Text). AreWithin s x.fds) (sym (domain-same s t d same))
    (within_of s h d))

placed_same : (s t : State) → ArePlaced s → t.domains ≡ s.domains → t.slots ≡ s.slots → t.files ≡ s.files → ArePlaced t
placed_same s t h domains slots files = placed_grown s t h domains (grows_same s t slots files)

placed_domain : (s : State) (d : ℕ) (x : Domain Text) → ArePlaced s → AreWithin s x.fds → ArePlaced (with_domain s d x)
unfolding with_domain
placed_domain s d x h new = placed_by s (with_domain s d x) h (grows_same s (with_domain s d x) refl refl) each
  where
    each : (e : ℕ) → AreWithin s (domain (with_domain s d x) e).fds
    each e = elim (domain-with_domain s d e x) [
      | inl both ↦ subst (λ (y : Domain Text). AreWithin s y.fds) (sym both.1) new
      | inr same ↦ subst (λ (y : Domain Text). AreWithin s y.fds) (sym same) (within_of s h e)
    ]

-- the descriptors of the domain are unchanged
placed_kept : (s : State) (d : ℕ) (x : Domain Text) → x.fds ≡ (domain s d).fds → ArePlaced s
    → ArePlaced (with_domain s d x)
placed_kept s d x same h = placed_domain s d x h (subst (AreWithin s) (sym same) (within_of s h d))

placed_fds : (s : State) (d : ℕ) (xs : List (Option Descriptor)) → ArePlaced s → AreWithin s xs
    → ArePlaced (fds.with_fds s d xs)
placed_fds s d xs h within = placed_domain s d (record (domain s d) { fds = xs }) h within

placed_pipe : (s : State) (p : ℕ) (x : Pipe) → ArePlaced s → ArePlaced (with_pipe s p x)
unfolding with_pipe
placed_pipe s p x h = placed_same s (with_pipe s p x) h refl refl refl

placed_conn : (s : State) (c : ℕ) (x : Connection) → ArePlaced s → ArePlaced (with_conn s c x)
unfolding with_conn
placed_conn s c x h = placed_same s (with_conn s c x) h refl refl refl

-- Descriptors.

within-freed : (s : State) (xs : List (Option Descriptor)) (n : ℕ) → AreWithin s xs → AreWithin s (slice_set xs n None)
within-freed s xs n within fd f at mode is = within fd f at mode (place-freed xs n fd (on.File f at mode) is)

within-set : (s : State) (xs : List (Option Descriptor)) (n : ℕ) (x : Descriptor) → AreWithin s xs → IsWithin s x
    → AreWithin s (slice_set xs n (Some x))
within-set s xs n x within one fd f at mode is =
    elim (place-set xs n fd x (on.File f at mode) is) [
      | inl new ↦ one f at mode new
      | inr old ↦
          within fd f at mode old
    ]

within-placed : (s : State) (xs : List (Option Descriptor)) (n : ℕ) (x : Descriptor) → AreWithin s xs → IsWithin s x
    → AreWithin s (placed xs n x)
within-placed s xs n x within one fd f at mode is =
    elim (place-placed xs n fd x (on.File f at mode) is) [
      | inl new ↦ one f at mode new
      | inr old ↦
          within fd f at mode old
    ]

within-file : (s : State) (f at : ℕ) (mode : Mode) → IsPlace s f at → IsWithin s (on.File f at mode)
within-file s f at mode fits g p m is =
    let file_is : f ≡ g = cc in
    let place_is : at ≡ p = cc in
    subst (λ n. IsPlace s g n) place_is (subst (λ n. IsPlace s n at) file_is fits)

within-open : (s : State) (d fd : ℕ) (x : Descriptor) → ArePlaced s → descriptor s d fd ≡ Some x → IsWithin s x
within-open s d fd x h open_on f at mode is =
    h.each d fd f at mode (subst (λ (y : Descriptor). descriptor s d fd ≡ Some y) is open_on)

not_file : (s : State) (x : Descriptor) → ((f at : ℕ) (mode : Mode) → x ≡ on.File f at mode → ⊥) → IsWithin s x
not_file s x never f at mode is = absurd (never f at mode is)

placed_opened : (s : State) (d : ℕ) (x : Descriptor) → ArePlaced s → IsWithin s x → ArePlaced (fds.opened s d x)
placed_opened s d x h one =
    placed_fds s d (placed (domain s d).fds (fds.next_fd s d) x) h
    (within-placed s (domain s d).fds (fds.next_fd s d) x (within_of s h d) one)

placed_moved : (s : State) (d fd : ℕ) (x : Descriptor) → ArePlaced s → IsWithin s x
    → ArePlaced (fds.with_descriptor s d fd (Some x))
placed_moved s d fd x h one =
    placed_fds s d (slice_set (domain s d).fds fd (Some x)) h (within-set s (domain s d).fds fd x (within_of s h d) one)

placed_freed : (s : State) (d fd : ℕ) → ArePlaced s → ArePlaced (fds.with_fds s d (fds.freed s d fd))
placed_freed s d fd h = placed_fds s d (fds.freed s d fd) h (within-freed s (domain s d).fds fd (within_of s h d))

placed_closed_on : (s : State) (o : Option Descriptor) → ArePlaced s → ArePlaced (fds.closed_on s o)
placed_closed_on s None h = h
placed_closed_on s (Some (on.File f at mode)) h = h
placed_closed_on s (Some (on.ReadEnd p)) h = placed_pipe s p (record (pipe_at s p) { queue = []; reading = false }) h
placed_closed_on s (Some (on.WriteEnd p)) h = placed_pipe s p (record (pipe_at s p) { writing = false }) h
placed_closed_on s (Some (on.Connection c)) h =
    placed_conn s c (record (conn_at s c) { incoming = []; closed = true }) h

placed_all_closed : (s : State) (list : List (Option Descriptor)) → ArePlaced s → ArePlaced (fold fds.closed_on s list)
placed_all_closed s [] h = h
placed_all_closed s (o ∷ list) h = placed_all_closed (fds.closed_on s o) list (placed_closed_on s o h)

grows_closed_on : (s : State) (o : Option Descriptor) → Grows s (fds.closed_on s o)
unfolding with_pipe with_conn
grows_closed_on s None = grows_same s s refl refl
grows_closed_on s (Some (on.File f at mode)) = grows_same s s refl refl
grows_closed_on s (Some (on.ReadEnd p)) = grows_same s (fds.closed_on s (Some (on.ReadEnd p))) refl refl
grows_closed_on s (Some (on.WriteEnd p)) = grows_same s (fds.closed_on s (Some (on.WriteEnd p))) refl refl
grows_closed_on s (Some (on.Connection c)) = grows_same s (fds.closed_on s (Some (on.Connection c))) refl refl

domains-closed_on : (s : State) (o : Option Descriptor) → (fds.closed_on s o).domains ≡ s.domains
unfolding with_pipe with_conn
domains-closed_on s None = refl
domains-closed_on s (Some (on.File f at mode)) = refl
domains-closed_on s (Some (on.ReadEnd p)) = refl
domains-closed_on s (Some (on.WriteEnd p)) = refl
domains-closed_on s (Some (on.Connection c)) = refl

-- After each call.

placed_domain_new : (s : State) (by : ℕ) → ArePlaced s → ArePlaced (domain_new s by).after
placed_domain_new s by h = placed_by s (domain_new s by).after h (grows_same s (domain_new s by).after refl refl) each
  where
    each : (d : ℕ) → AreWithin s (domain (domain_new s by).after d).fds
    each d = elim (domain-push s new_domain d) [
      | inl same ↦ subst (λ (y : Domain Text). AreWithin s y.fds) (sym same) (within_of s h d)
      | inr both ↦ subst (λ (y : Domain Text). AreWithin s y.fds) (sym both.1) (λ fd f at mode is. absurd (cc))
    ]

placed_exit : (s : State) (by : ℕ) → ArePlaced s → ArePlaced (exit s by).after
placed_exit s by h =
    placed_domain (fold fds.closed_on s (domain s by).fds) by no_domain (placed_all_closed s (domain s by).fds h)
    (λ fd f at mode is. absurd (cc))

placed_given : (s : State) (by fd to : ℕ) (x : Descriptor) → ArePlaced s → descriptor s by fd ≡ Some x
    → ArePlaced (fds.given_to s by fd to x)
unfolding with_domain
placed_given s by fd to x h open_on = cases (by == to)
  where
    one : IsWithin s x
    one = within-open s by fd x h open_on

    freed : AreWithin s (fds.freed s by fd)
    freed = within-freed s (domain s by).fds fd (within_of s h by)

    opened : ArePlaced (fds.opened s to x)
    opened = placed_opened s to x h one

    cases : (b : Bool)
        → ArePlaced
        (if b then fds.with_fds s by (placed (fds.freed s by fd) (lowest (fds.freed s by fd)) x) else fds.with_fds
        (fds.opened s to x) by (fds.freed s by fd))
    cases true =
        placed_fds s by (placed (fds.freed s by fd) (lowest (fds.freed s by fd)) x) h
        (within-placed s (fds.freed s by fd) (lowest (fds.freed s by fd)) x freed one)
    cases false =
        placed_fds (fds.opened s to x) by (fds.freed s by fd) opened
        (longer s (fds.opened s to x) (grows_same s (fds.opened s to x) refl refl) (fds.freed s by fd) freed)

placed_give_fd : (s : State) (by fd to : ℕ) → ArePlaced s → ArePlaced (fds.give_fd s by fd to).after
placed_give_fd s by fd to h = cases (descriptor s by fd) refl
  where
    cases : (o : Option Descriptor) → descriptor s by fd ≡ o → ArePlaced (option_map_or (fds.given_to s by fd to) o s)
    cases None is = h
    cases (Some x) is = placed_given s by fd to x h is

placed_close : (s : State) (by fd : ℕ) → ArePlaced s → ArePlaced (fds.close s by fd).after
placed_close s by fd h =
    let closed : State = fds.closed_on s (descriptor s by fd) in
    placed_fds closed by (fds.freed s by fd) (placed_closed_on s (descriptor s by fd) h)
    (longer s closed (grows_closed_on s (descriptor s by fd)) (fds.freed s by fd)
    (within-freed s (domain s by).fds fd (within_of s h by)))

placed_new_pipe : (s : State) (by : ℕ) → ArePlaced s → ArePlaced (fds.pipe s by).after
unfolding with_domain
placed_new_pipe s by h =
    let ends = fds.with_read_end (domain s by).fds (lowest s.pipes) in
    let both = placed ends (lowest ends) (on.WriteEnd (lowest s.pipes)) in
    let reads = within-placed s (domain s by).fds (lowest (domain s by).fds) (on.ReadEnd (lowest s.pipes))
    (within_of s h by) (not_file s (on.ReadEnd (lowest s.pipes)) (λ f at mode is. cc)) in
    let writes =
    within-placed s ends (lowest ends) (on.WriteEnd (lowest s.pipes)) reads
    (not_file s (on.WriteEnd (lowest s.pipes)) (λ f at mode is. cc)) in
    placed_same (fds.with_fds s by both) (fds.pipe s by).after (placed_fds s by both h writes) refl refl refl

placed_accept : (s : State) (by : ℕ) → ArePlaced s → ArePlaced (fds.accept s by).after
placed_accept s by h =
    let c : ℕ = unwrap_or (fds.waiting s by) 0 in
    let taken : State = with_conn s c (record (conn_at s c) { accepted = true }) in
    placed_opened taken by (on.Connection c) (placed_conn s c _ h)
    (not_file taken (on.Connection c) (λ f at mode is. cc))

-- bytes taken from a position on end within the file
part_fits : (at n : ℕ) (bytes : List ℕ) → at ≤ length bytes → at + length (take n (drop at bytes)) ≤ length bytes
part_fits at n bytes fits = grind (arith, nat_tests, common_steps, fits)

placed_read_on : (s : State) (by fd n : ℕ) (o : Option Descriptor) → descriptor s by fd ≡ o → ArePlaced s
    → ArePlaced (reading.read_on s by fd o (length (reading.read_text s by o n)))
placed_read_on s by fd n None is h = h
placed_read_on s by fd n (Some (on.File f at mode)) is h =
    placed_moved s by fd (on.File f (at + length (reading.read_text s by (Some (on.File f at mode)) n)) mode) h
    (within-file s f (at + length (reading.read_text s by (Some (on.File f at mode)) n)) mode (place.0, fits))
  where
    place : IsPlace s f at
    place = h.each by fd f at mode is

    labelled-len : (p : ℕ) (bytes : List ℕ) → length (labelled p bytes) ≡ length bytes
    labelled-len p bytes = grind (arith, common_steps)

    fits : at + length (labelled (file s f).pool (take n (drop at (content s f)))) ≤ length (content s f)
    fits =
        let part = part_fits at n (content s f) place.1 in
        let len = labelled-len (file s f).pool (take n (drop at (content s f))) in
        omega (arith, part, len)
placed_read_on s by fd n (Some (on.ReadEnd p)) is h = placed_pipe s p _ h
placed_read_on s by fd n (Some (on.WriteEnd p)) is h = h
placed_read_on s by fd n (Some (on.Connection c)) is h = placed_conn s c _ h

placed_iol_read : (s : State) (by fd n : ℕ) → ArePlaced s → ArePlaced (reading.iol_read s by fd n).after
placed_iol_read s by fd n h =
    let from : Option Descriptor = descriptor s by fd in
    placed_kept (reading.read_on s by fd from (length (reading.read_text s by from n))) by _ refl
    (placed_read_on s by fd n from refl h)

-- The bytes of a file that has a slot are set, to no fewer.
with-numbered : {A : Type 0} (xs : List A) (n : ℕ) (x z : A) → is_numbered xs n ≡ true
    → numbered_or (with_numbered xs n x) n z ≡ x
with-numbered xs n x z there = grind (arith, nat_tests, common_steps, there)

length-with_numbered : {A : Type 0} (xs : List A) (n : ℕ) (x : A) → length (with_numbered xs n x) ≡ length xs
length-with_numbered xs n x = grind (arith, nat_tests, common_steps)

numbered-fewer : {A B : Type 0} (xs : List A) (ys : List B) (n : ℕ) → length xs ≤ length ys → is_numbered xs n ≡ true
    → is_numbered ys n ≡ true
numbered-fewer xs ys n fewer there = grind (arith, nat_tests, common_steps, fewer, there)

content-with : (s : State) (f : ℕ) (bytes : List ℕ) → is_numbered s.slots f ≡ true
    → content (with_content s f bytes) f ≡ bytes
unfolding content with_content
content-with s f bytes there = with-numbered s.slots f bytes [] there

grows_content : (s : State) (f : ℕ) (bytes : List ℕ) → length (content s f) ≤ length bytes
    → Grows s (with_content s f bytes)
unfolding content with_content
grows_content s f bytes more = record {
  slots = length-with_numbered s.slots f bytes;
  few = λ few. few;
  files = λ g there. there;
  longer = λ g. elim (numbered_or-with s.slots f g bytes []) [
    | inl both ↦
        (let e = ap (λ (l : List ℕ). length l) both.1 in let k = ap (λ n. length (numbered_or s.slots n [])) both.0 in
        omega (arith, more, e, k))
    | inr same ↦ (let e = ap (λ (l : List ℕ). length l) same in omega (arith, e))
  ];
}

placed_content : (s : State) (f : ℕ) (bytes : List ℕ) → length (content s f) ≤ length bytes → ArePlaced s
    → ArePlaced (with_content s f bytes)
unfolding with_content
placed_content s f bytes more h = placed_grown s (with_content s f bytes) h refl (grows_content s f bytes more)

numbered-filled : (s : State) (f : ℕ) (bytes : List ℕ) → is_numbered s.files f ≡ true
    → is_numbered (with_content s f bytes).files f ≡ true
unfolding with_content
numbered-filled s f bytes there = there

placed_filled : (s : State) (by fd f at : ℕ) (mode : Mode) (w : Text) → descriptor s by fd ≡ Some (on.File f at mode)
    → ArePlaced s → ArePlaced (writing.written s by fd (Some (on.File f at mode)) w)
placed_filled s by fd f at mode w is h =
    placed_moved filled by fd (on.File f (at + length w) mode) (placed_content s f bytes more h)
    (within-file filled f (at + length w) mode (numbered, fits))
  where
    place : IsPlace s f at
    place = h.each by fd f at mode is

    bytes : List ℕ
    bytes = take at (content s f) ++ bytes_of w ++ drop (at + length w) (content s f)

    filled : State
    filled = with_content s f (take at (content s f) ++ bytes_of w ++ drop (at + length w) (content s f))

    bytes_of-len : (t : Text) → length (bytes_of t) ≡ length t
    bytes_of-len t = grind (arith, common_steps)

    over-len : (at n : ℕ) (old new : List ℕ) → at ≤ length old → length new ≡ n
        → (length old ≤ length (take at old ++ new ++ drop (at + n) old))
        × (at + n ≤ length (take at old ++ new ++ drop (at + n) old))
    over-len at n old new fits len =
        (grind (arith, nat_tests, common_steps, fits, len), grind (arith, nat_tests, common_steps, fits, len))

    more : length (content s f) ≤ length bytes
    more = (over-len at (length w) (content s f) (bytes_of w) place.1 (bytes_of-len w)).0

    numbered : is_numbered filled.files f ≡ true
    numbered = numbered-filled s f bytes place.0

    fits : at + length w ≤ length (content filled f)
    fits =
        let slot = numbered-fewer s.files s.slots f (omega (arith, h.few, h.slots)) place.0 in
        let e = ap (λ (l : List ℕ). length l) (content-with s f bytes slot) in
        let k = (over-len at (length w) (content s f) (bytes_of w) place.1 (bytes_of-len w)).1 in
        omega (arith, e, k)

placed_written : (s : State) (by fd : ℕ) (o : Option Descriptor) (w : Text) → descriptor s by fd ≡ o → ArePlaced s
    → ArePlaced (writing.written s by fd o w)
placed_written s by fd None w is h = h
placed_written s by fd (Some (on.File f at mode)) w is h = placed_filled s by fd f at mode w is h
placed_written s by fd (Some (on.ReadEnd p)) w is h = h
placed_written s by fd (Some (on.WriteEnd p)) w is h = placed_pipe s p _ h
placed_written s by fd (Some (on.Connection c)) w is h = placed_conn s c _ h

-- Files.

numbered-push : {A : Type 0} (xs : List A) (x : A) (f : ℕ) → is_numbered xs f ≡ true
    → is_numbered (xs ++ x ∷ []) f ≡ true
numbered-push xs x f there = grind (arith, nat_tests, common_steps, there)

placed_file_new : (s : State) (by : ℕ) (name : List ℕ) (p : ℕ) → ArePlaced s
    → first (files.file_new s by name p).refusals ≡ None → ArePlaced (files.file_new s by name p).after
placed_file_new s by name p h unrefused = placed_grown s (files.file_new s by name p).after h refl (record {
  slots = refl;
  few = λ few. room;
  files = λ f there. numbered-push s.files (record { name = name; pool = p }) f there;
  longer = λ f. same_len f;
})
  where
    more : nat_le MAX_FILES (length s.files) ≡ false
    more =
        when-none TooMany (nat_le MAX_FILES (length s.files)) (passed (files.file_new s by name p).refusals 5 unrefused)

    pushed-len : {A : Type 0} (xs : List A) (x : A) → nat_le MAX_FILES (length xs) ≡ false
        → length (xs ++ x ∷ []) ≤ MAX_FILES
    pushed-len xs x fewer = grind (arith, nat_tests, common_steps, fewer)

    room : length (files.file_new s by name p).after.files ≤ MAX_FILES
    room = pushed-len s.files (record { name = name; pool = p }) more

    same_len : (f : ℕ) → length (content s f) ≤ length (content (files.file_new s by name p).after f)
    same_len f = (let e = ap (λ (l : List ℕ). length l) (content-same s (files.file_new s by name p).after refl f) in
        omega (arith, e))

-- the number found for a name is that of a file
called-there : (s : State) (name : List ℕ) → is_none (files.file_called s name) ≡ false
    → is_numbered s.files (unwrap_or (files.file_called s name) 0) ≡ true
called-there s name found = by (position (λ f. bytes_eq f.name name) s.files) refl found
  where
    by : (o : Option ℕ) → position (λ f. bytes_eq f.name name) s.files ≡ o → is_none (option_map (λ i. i + 1) o) ≡ false
        → is_numbered s.files (unwrap_or (option_map (λ i. i + 1) o) 0) ≡ true
    by None is some = absurd (cc)
    by (Some i) is some = numbered-at s.files i (position-Some (λ f. bytes_eq f.name name) s.files i no_file is).0
      where
        numbered-at : {A : Type 0} (xs : List A) (i : ℕ) → i < length xs → is_numbered xs (i + 1) ≡ true
        numbered-at xs i within = grind (arith, nat_tests, common_steps, within)

placed_open_file : (s : State) (by : ℕ) (name : List ℕ) (mode : Mode) → ArePlaced s
    → first (files.open_file s by name mode).refusals ≡ None → ArePlaced (files.open_file s by name mode).after
placed_open_file s by name mode h unrefused =
    let f : ℕ = unwrap_or (files.file_called s name) 0 in
    let there =
    called-there s name
    (when-none NoFile (is_none (files.file_called s name))
    (passed (files.open_file s by name mode).refusals 1 unrefused)) in
    placed_opened s by (on.File f 0 mode) h (within-file s f 0 mode (there, omega arith))

placed_seek : (s : State) (by fd at : ℕ) → ArePlaced s → first (files.seek s by fd at).refusals ≡ None
    → ArePlaced (files.seek s by fd at).after
placed_seek s by fd at h unrefused = cases (descriptor s by fd) refl within
  where
    within : nat_lt (length (content s (files.file_on s by fd))) at ≡ false
    within =
        when-none BadRange (nat_lt (length (content s (files.file_on s by fd))) at)
        (passed (files.seek s by fd at).refusals 3 unrefused)

    at-most : (n m : ℕ) → nat_lt n m ≡ false → m ≤ n
    at-most n m fits = grind (arith, nat_tests, fits)

    cases : (o : Option Descriptor) → descriptor s by fd ≡ o
        → nat_lt (length (content s (unwrap_or (option_map (λ x. x.0) (files.open_on o)) 0))) at ≡ false
        → ArePlaced (fds.with_descriptor s by fd (option_map (λ x. on.File x.0 at x.2) (files.open_on o)))
    cases None is fits = placed_freed s by fd h
    cases (Some (on.File f was mode)) is fits =
        placed_moved s by fd (on.File f at mode) h
        (within-file s f at mode ((h.each by fd f was mode is).0, at-most (length (content s f)) at fits))
    cases (Some (on.ReadEnd p)) is fits = placed_freed s by fd h
    cases (Some (on.WriteEnd p)) is fits = placed_freed s by fd h
    cases (Some (on.Connection c)) is fits = placed_freed s by fd h

-- Every call, every step.

placed_agg_give : (s : State) (by a to : ℕ) → ArePlaced s → ArePlaced (aggs.agg_give s by a to).after
placed_agg_give s by a to h = cases (by == to)
  where
    cases : (b : Bool)
        → ArePlaced (if b then aggs.with_new s by (without (domain s by).aggs a) (text s by a) else aggs.without_agg
        (aggs.with_agg s to (text s by a)) by a)
    cases true = placed_kept s by _ refl h
    cases false = placed_kept (aggs.with_agg s to (text s by a)) by _ refl (placed_kept s to _ refl h)

placed_called : (s : State) (by : ℕ) (c : Call) → ArePlaced s → first (called s by c).refusals ≡ None
    → ArePlaced (called s by c).after
placed_called s by call.DomainNew h un = placed_domain_new s by h
placed_called s by call.Exit h un = placed_exit s by h
placed_called s by (call.PoolCreate chunks list) h un =
    placed_same s (pool_create s by chunks list).after h refl refl refl
placed_called s by (call.PoolClose p) h un = placed_same s (pool_close s by p).after h refl refl refl
placed_called s by (call.PoolAdmit p d) h un = placed_same s (pool_admit s by p d).after h refl refl refl
placed_called s by (call.SetPool p) h un = placed_kept s by _ refl h
placed_called s by (call.AggMake bytes) h un = placed_kept s by _ refl h
placed_called s by (call.AggDup a) h un = placed_kept s by _ refl h
placed_called s by (call.AggCut a from to) h un = placed_kept s by _ refl h
placed_called s by (call.AggSplit a at) h un = placed_kept s by _ refl h
placed_called s by (call.AggJoin a b) h un = placed_kept s by _ refl h
placed_called s by (call.AggReplace a from to b) h un = placed_kept s by _ refl h
placed_called s by (call.AggDrop a) h un = placed_kept s by _ refl h
placed_called s by (call.AggGive a to) h un = placed_agg_give s by a to h
placed_called s by (call.Show a) h un = h
placed_called s by (call.FileNew name p) h un = placed_file_new s by name p h un
placed_called s by (call.OpenFile name mode) h un = placed_open_file s by name mode h un
placed_called s by call.Pipe h un = placed_new_pipe s by h
placed_called s by (call.GiveFd fd to) h un = placed_give_fd s by fd to h
placed_called s by (call.Close fd) h un = placed_close s by fd h
placed_called s by (call.Seek fd at) h un = placed_seek s by fd at h un
placed_called s by (call.Length fd) h un = h
placed_called s by (call.IolRead fd n) h un = placed_iol_read s by fd n h
placed_called s by (call.IolWrite fd a) h un = placed_written s by fd (descriptor s by fd) _ refl h
placed_called s by (call.Fsync fd) h un = h
placed_called s by (call.Read fd n) h un = placed_read_on s by fd n (descriptor s by fd) refl h
placed_called s by (call.Write fd bytes) h un = placed_written s by fd (descriptor s by fd) _ refl h
placed_called s by call.Accept h un = placed_accept s by h

placed_meant : (s : State) (e : Event) → ArePlaced s → first (meaning s e).refusals ≡ None
    → ArePlaced (meaning s e).after
placed_meant s (event.Call by c) h un = placed_called s by c h un
placed_meant s (event.ConnNew p) h un = placed_same s (conn_new s p).after h refl refl refl
placed_meant s (event.Arrive c bytes) h un = placed_conn s c _ h
placed_meant s (event.PeerClosed c how) h un = placed_conn s c (closed_by (conn_at s c) how) h
placed_meant s (event.Transmit c max) h un = placed_conn s c _ h
placed_meant s event.Flush h un = h
placed_meant s event.DropClean h un = h

placed_outcome : (m : Meaning Reply) (old new : State) (r : Result Reply Refusal)
    → (first m.refusals ≡ None → ArePlaced m.after) → ArePlaced old → Step m old r new → ArePlaced new
placed_outcome m old new (Ok a) after h step = subst ArePlaced (sym step.2) (after step.0)
placed_outcome m old new (Err x) after h step = subst ArePlaced (sym step.1) h

pub placed_step : (old new : State) (e : Event) (r : Reply) → ArePlaced old → StepsTo old e r new → ArePlaced new
placed_step old new e r h step = placed_outcome (meaning old e) old new (outcome r) (placed_meant old e h) h step

pub placed_new : (slots : List (List ℕ)) → MAX_FILES ≤ length slots → ArePlaced (new_state slots)
placed_new slots enough =
    record { slots = enough; few = omega arith; each = λ d fd f at mode is. absurd (nothing d fd f at mode is) }
  where
    nothing : (d fd f at : ℕ) (mode : Mode) → descriptor (new_state slots) d fd ≡ Some (on.File f at mode) → ⊥
    nothing d fd f at mode is = elim (domain-new_state slots d) [
      | inl new ↦ (let e = ap (λ (x : Domain Text). in_place x.fds fd) new in cc (e, is))
      | inr none ↦ (let e = ap (λ (x : Domain Text). in_place x.fds fd) none in cc (e, is))
    ]

pub placed_run : (old new : State) (es : List Event) (rs : List Reply) → ArePlaced old → Run old es rs new
    → ArePlaced new
placed_run old new [] [] h run = subst ArePlaced (sym run) h
placed_run old new (e ∷ es) (r ∷ rs) h run = placed_run run.0 new es rs (placed_step old run.0 e r h run.1) run.2
placed_run old new [] (r ∷ rs) h run = absurd run
placed_run old new (e ∷ es) [] h run = absurd run
