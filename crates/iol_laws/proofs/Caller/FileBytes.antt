-- The effect of reading and writing a file for the caller.
use Rattle.std.proofs.Common.{◌≡◌, ℕ, ◌+◌, List, [], ◌∷◌, ◌++◌, length, take, drop, ap, ◌∙◌, refl, sym, subst, arith}
use Rattle.std.proofs.Common.{Option, Some, None, true, false, Bool}
use Rattle.std.specs.Prelude.{option_map, slice_set, not, is_none, nat_lt, ◌&&◌, ◌==◌, MatchOption}
use Rattle.std.proofs.lemmas.Bool.Decides.{nat_tests}
use Rattle.std.proofs.lemmas.Grind.{common_steps}
use Rattle.std.proofs.lemmas.List.{take_all}
use Rattle.iol_core.specs.Text.{Text, bytes_of, labelled}
use Rattle.iol_core.specs.NumberedLists.{lookup, is_numbered, in_place}
use Rattle.iol_core.specs.State.{State, Domain, domain, text, aggregate, descriptor, content, file, may_read, is_live}
use Rattle.iol_core.specs.State.{with_domain, with_content}
use Rattle.iol_core.specs.Positions.{ArePlaced}
use Rattle.iol_core.specs.Meaning.{first, ◌when◌, WantOfRoom}
use Rattle.iol_core.specs.Run.{StepsTo}
use Rattle.iol_core.specs.Calls.Aggregates as aggs
use Rattle.iol_core.specs.Calls.Descriptors as fds
use Rattle.iol_core.specs.Calls.Reads as reading
use Rattle.iol_core.specs.Calls.Writes as writing
use Rattle.iol_core.specs.declared.limits.TheConstants.{MAX_FILE_BYTES}
use Rattle.iol_core.specs.declared.refusals.Refusal.{Refusal}
use Rattle.iol_core.specs.declared.refusals.Refusal.TheVariants as refuse
use Rattle.iol_core.specs.declared.descriptors.Mode.{Mode}
use Rattle.iol_core.specs.declared.descriptors.Descriptor.{Descriptor}
use Rattle.iol_core.specs.declared.descriptors.Descriptor.TheVariants as on
use Rattle.iol_core.specs.declared.events.Call.TheVariants as call
use Rattle.iol_core.specs.declared.events.Event.TheVariants as event
use Rattle.iol_core.specs.declared.events.Reply.{Reply}
use Rattle.iol_core.specs.declared.events.Reply.TheVariants as reply
use Rattle.iol_core.proofs.Lookups.{domain-same}
use Rattle.iol_laws.specs.Order.{IsOrderly}
use Rattle.iol_laws.specs.Caller.{readable_at, is_resource_failure}
use Rattle.iol_laws.specs.CallerFiles.{ReadsFile, WritesFile, laid_over}
use Rattle.iol_laws.proofs.Caller.Files.{moved-fd}
use Rattle.iol_laws.proofs.Domains.{domain-with_same}
use Rattle.iol_laws.proofs.Numbers.{agg-there, readable-made, number, text-of}
use Rattle.iol_laws.proofs.Refusals.Rest.{past, past-live}
use Rattle.iol_laws.proofs.Texts.{bytes-labelled, length-bytes, length-labelled}
use Rattle.iol_laws.proofs.Places.{numbered-set}

-- Reading.

-- a read of a file is never refused with WouldBlock
none_waits : (b : Bool) → first ((refuse.WouldBlock when (b && true && false)) ∷ []) ≡ None
none_waits true = refl
none_waits false = refl

-- if the domain may read the file, the remaining tests of a read refuse nothing
pub file-left : (s : State) (d f at n : ℕ) (mode : Mode) → may_read s d (file s f).pool ≡ true
    → reading.reads mode ≡ true → let o : Option Descriptor = Some (on.File f at mode) in
    first ((refuse.WrongMode when not (reading.can_read o)) ∷ reading.read_denied s d o n
    ∷ (refuse.WouldBlock when reading.must_wait s o n) ∷ []) ≡ None
file-left s d f at n mode may reads =
    past (refuse.WrongMode when not (reading.reads mode)) _ (ap (λ b. refuse.WrongMode when not b) reads)
    ∙ (past (refuse.Denied (file s f).pool when not (may_read s d (file s f).pool)) _
    (ap (λ b. refuse.Denied (file s f).pool when not b) may)
    ∙ none_waits (nat_lt 0 n))

read-left : (s : State) (d fd f at n : ℕ) (mode : Mode) → is_live s d ≡ true → may_read s d (file s f).pool ≡ true
    → reading.reads mode ≡ true → descriptor s d fd ≡ Some (on.File f at mode)
    → first (reading.iol_read s d fd n).refusals ≡ first ((refuse.TooMany when aggs.too_many_aggs s d 1 0) ∷ [])
read-left s d fd f at n mode live may reads is =
    past-live s d _ live
    ∙ (ap
    (λ o. first ((refuse.BadFd when is_none o) ∷ (refuse.WrongMode when not (reading.can_read o))
    ∷ (refuse.TooMany when many) ∷ reading.read_denied s d o n ∷ (refuse.WouldBlock when reading.must_wait s o n)
    ∷ [])) is
    ∙ by (refuse.WrongMode when not (reading.reads mode)) many (reading.read_denied s d (Some (on.File f at mode)) n)
    (refuse.WouldBlock when reading.must_wait s (Some (on.File f at mode)) n) (file-left s d f at n mode may reads))
  where
    many : Bool
    many = aggs.too_many_aggs s d 1 0

    by : (x : Option Refusal) (b : Bool) (y z : Option Refusal) → first (x ∷ y ∷ z ∷ []) ≡ None
        → first (x ∷ (refuse.TooMany when b) ∷ y ∷ z ∷ []) ≡ first ((refuse.TooMany when b) ∷ [])
    by None true y z none = refl
    by None false y z none = none
    by (Some x) b y z none = absurd (cc)

pub resource_failure-late : (s : State) (f at : ℕ) (mode : Mode) (x : Refusal)
    → reading.read_late s (Some (on.File f at mode)) x → is_resource_failure (reply.Refused x) ≡ true
resource_failure-late s f at mode (refuse.NoRoom p) is = refl
resource_failure-late s f at mode (refuse.Fault g) is = refl
resource_failure-late s f at mode refuse.Memory is = refl
resource_failure-late s f at mode x is = absurd is

late-resource_failure : (s : State) (f at : ℕ) (mode : Mode) (x : Refusal) (b : Bool)
    → MatchOption (first ((refuse.TooMany when b) ∷ [])) (reading.read_late s (Some (on.File f at mode)) x) (λ y. x ≡ y)
    → is_resource_failure (reply.Refused x) ≡ true
late-resource_failure s f at mode x true is = ap (λ z. is_resource_failure (reply.Refused z)) is
late-resource_failure s f at mode x false is = resource_failure-late s f at mode x is

pub does_read_file : (s t : State) (d fd f at n : ℕ) (mode : Mode) (r : Reply) → IsOrderly s → is_live s d ≡ true
    → may_read s d (file s f).pool ≡ true → reading.reads mode ≡ true → descriptor s d fd ≡ Some (on.File f at mode)
    → StepsTo s (event.Call d (call.IolRead fd n)) r t → ReadsFile s d fd f at mode (take n (drop at (content s f))) r t
does_read_file s t d fd f at n mode (reply.Agg a) order live may reads is step =
    let bytes : List ℕ = take n (drop at (content s f)) in
    let tx : Text = labelled (file s f).pool bytes in
    let y : Descriptor = on.File f (at + length tx) mode in
    let mid : State = fds.with_descriptor s d fd (Some y) in
    let same : t ≡ aggs.with_agg mid d tx =
    step.2
    ∙ ap (λ o. aggs.with_agg (reading.read_on s d fd o (length (reading.read_text s d o n))) d
    (reading.read_text s d o n)) is in
    let dom : domain mid d ≡ record (domain s d) { fds = slice_set (domain s d).fds fd (Some y) } =
    domain-with_same s d _ live in
    let next : aggs.next_agg mid d ≡ aggs.next_agg s d = ap (λ (z : Domain Text). z.next_agg) dom in
    let a_is : a ≡ aggs.next_agg mid d = ap number step.1 ∙ sym next in
    let none = order.aggs d (aggs.next_agg s d) (omega arith) in
    let none_mid : lookup (domain mid d).aggs (aggs.next_agg mid d) ≡ None =
    ap (λ (z : Domain Text). lookup z.aggs z.next_agg) dom ∙ none in
    let live_mid : is_live mid d ≡ true = ap (λ (z : Domain Text). z.live) dom ∙ live in
    let kept : Domain Text = record (domain mid d) {
      aggs = (domain mid d).aggs ++ ((domain mid d).next_agg, tx) ∷ [];
      next_agg = (domain mid d).next_agg + 1;
    } in
    record {
      is_readable = ap (λ k. readable_at t d k) a_is
          ∙ (readable-made mid t d (domain mid d).aggs tx live_mid none_mid same
          ∙ ap (λ (l : List ℕ). Some l) (bytes-labelled (file s f).pool bytes));
      new = ap (λ k. readable_at s d k) (a_is ∙ next) ∙ ap (λ (o : Option Text). option_map bytes_of o) none;
      moves = ap (λ u. descriptor u d fd) same
          ∙ (ap (λ (z : Domain Text). in_place z.fds fd) (domain-with_same mid d kept live_mid)
          ∙ (moved-fd s d fd (on.File f at mode) y live is
          ∙ ap (λ k. Some (on.File f (at + k) mode)) (length-labelled (file s f).pool bytes)));
    }
does_read_file s t d fd f at n mode (reply.Refused x) order live may reads is step = (
  late-resource_failure s f at mode x (aggs.too_many_aggs s d 1 0)
      (subst (λ o. MatchOption o (reading.read_late s (Some (on.File f at mode)) x) (λ y. x ≡ y))
      (read-left s d fd f at n mode live may reads is)
      (subst (λ o. MatchOption (first (reading.iol_read s d fd n).refusals) (reading.read_late s o x) (λ y. x ≡ y)) is
      step.0)),
  step.1,
)
does_read_file s t d fd f at n mode r order live may reads is step = (let e = step.1 in absurd (cc))

-- Writing.

content-set : (s : State) (f : ℕ) (bytes : List ℕ) → is_numbered s.slots f ≡ true
    → content (with_content s f bytes) f ≡ bytes
unfolding content with_content
content-set s f bytes is = numbered-set s.slots f bytes [] is

content-domain : (s : State) (d : ℕ) (x : Domain Text) (f : ℕ) → content (with_domain s d x) f ≡ content s f
unfolding content with_domain
content-domain s d x f = refl

same-domains : (s : State) (f : ℕ) (bytes : List ℕ) → (with_content s f bytes).domains ≡ s.domains
unfolding with_content
same-domains s f bytes = refl

-- each open file has a slot
has-slot : (s : State) (d fd f at : ℕ) (mode : Mode) → ArePlaced s → descriptor s d fd ≡ Some (on.File f at mode)
    → is_numbered s.slots f ≡ true
has-slot s d fd f at mode placed is =
    let there = (placed.each d fd f at mode is).0 in
    let few = placed.few in
    let slots = placed.slots in
    grind (arith, nat_tests, common_steps, there, few, slots)

-- the file and the position after all of these bytes are written
pub wrote : (s : State) (d fd f at : ℕ) (mode : Mode) (bytes : List ℕ) → ArePlaced s → is_live s d ≡ true
    → descriptor s d fd ≡ Some (on.File f at mode)
    → let u : State =
    fds.with_descriptor (with_content s f (laid_over (content s f) at bytes)) d fd
    (Some (on.File f (at + length bytes) mode)) in (content u f ≡ laid_over (content s f) at bytes)
    × (descriptor u d fd ≡ Some (on.File f (at + length bytes) mode))
wrote s d fd f at mode bytes placed live is =
    let filled : State = with_content s f (laid_over (content s f) at bytes) in
    let dom : domain filled d ≡ domain s d = domains-filled in (
      content-domain filled d _ f
          ∙ content-set s f (laid_over (content s f) at bytes) (has-slot s d fd f at mode placed is),
      moved-fd filled d fd (on.File f at mode) (on.File f (at + length bytes) mode)
          (ap (λ (z : Domain Text). z.live) dom ∙ live) (ap (λ (z : Domain Text). in_place z.fds fd) dom ∙ is),
    )
  where
    domains-filled : domain (with_content s f (laid_over (content s f) at bytes)) d ≡ domain s d
    domains-filled =
        domain-same s (with_content s f (laid_over (content s f) at bytes)) d
        (same-domains s f (laid_over (content s f) at bytes))

-- only TooLong is left among the remaining refusals of a write to a file
pub write-left : (s : State) (f at n : ℕ) (mode : Mode) → writing.writes mode ≡ true
    → first ((refuse.WrongMode when not (writing.writes mode)) ∷ (refuse.TooLong when nat_lt MAX_FILE_BYTES (at + n))
    ∷ (refuse.BrokenPipe when false) ∷ (refuse.WouldBlock when (nat_lt 0 n && (n == 0))) ∷ [])
    ≡ first ((refuse.TooLong when nat_lt MAX_FILE_BYTES (at + n)) ∷ [])
write-left s f at n mode writes =
    past (refuse.WrongMode when not (writing.writes mode)) _ (ap (λ b. refuse.WrongMode when not b) writes)
    ∙ by (nat_lt MAX_FILE_BYTES (at + n)) (nat_lt 0 n && (n == 0)) never
  where
    never : (nat_lt 0 n && (n == 0)) ≡ false
    never = grind (arith, nat_tests)

    by : (a b : Bool) → b ≡ false → first ((refuse.TooLong when a) ∷ None ∷ (refuse.WouldBlock when b) ∷ [])
        ≡ first ((refuse.TooLong when a) ∷ [])
    by true b is = refl
    by false b is = ap (λ c. first ((refuse.WouldBlock when c) ∷ [])) is

-- TooLong if the file would exceed its limit, and otherwise a late refusal
pub refused-write : (s t : State) (d fd f at p : ℕ) (mode : Mode) (bytes : List ℕ) (x : Refusal) → t ≡ s
    → MatchOption (first ((refuse.TooLong when nat_lt MAX_FILE_BYTES (at + length bytes)) ∷ [])) (WantOfRoom p x)
    (λ y. x ≡ y) → WritesFile s d fd f at mode bytes (reply.Refused x) t
refused-write s t d fd f at p mode bytes x same is = by (nat_lt MAX_FILE_BYTES (at + length bytes)) refl x is
  where
    by : (b : Bool) → nat_lt MAX_FILE_BYTES (at + length bytes) ≡ b → (x : Refusal)
        → MatchOption (first ((refuse.TooLong when b) ∷ [])) (WantOfRoom p x) (λ y. x ≡ y)
        → WritesFile s d fd f at mode bytes (reply.Refused x) t
    by true long refuse.TooLong is = (grind (arith, nat_tests, long), same)
    by true long x is = absurd (cc)
    by false fits (refuse.NoRoom q) is = (refl, same)
    by false fits refuse.Memory is = (refl, same)
    by false fits x is = absurd is

pub does_write_file : (s t : State) (d fd f at a : ℕ) (mode : Mode) (bytes : List ℕ) (r : Reply) → ArePlaced s
    → is_live s d ≡ true → writing.writes mode ≡ true → descriptor s d fd ≡ Some (on.File f at mode)
    → readable_at s d a ≡ Some bytes → StepsTo s (event.Call d (call.IolWrite fd a)) r t
    → WritesFile s d fd f at mode bytes r t
does_write_file s t d fd f at a mode bytes (reply.Count k) placed live writes is has step =
    let w : Text = text s d a in
    let text_is : bytes_of w ≡ bytes = text-of s d a bytes has in
    let long : length w ≡ length bytes = sym (length-bytes w) ∙ ap (λ (l : List ℕ). length l) text_is in
    let taken : take (length w) w ≡ w = take_all (length w) w (omega arith) in
    let to : t ≡ writing.written s d fd (Some (on.File f at mode)) w =
    step.2 ∙ (ap (λ o. writing.written s d fd o (take (writing.fitting s o (length w)) w)) is
    ∙ ap (λ v. writing.written s d fd (Some (on.File f at mode)) v) taken) in
    let same : t ≡ fds.with_descriptor (with_content s f (laid_over (content s f) at bytes)) d fd
    (Some (on.File f (at + length bytes) mode)) = to ∙ as_bytes w text_is long in
    let after = wrote s d fd f at mode bytes placed live is in
    record {
      all = ap number step.1 ∙ (ap (λ o. writing.fitting s o (length w)) is ∙ long);
      bytes_are = ap (λ u. content u f) same ∙ after.0;
      now_at = ap (λ u. descriptor u d fd) same ∙ after.1;
    }
  where
    as_bytes : (w : Text) → bytes_of w ≡ bytes → length w ≡ length bytes
        → writing.written s d fd (Some (on.File f at mode)) w
        ≡ fds.with_descriptor (with_content s f (laid_over (content s f) at bytes)) d fd
        (Some (on.File f (at + length bytes) mode))
    as_bytes w text_is long =
        ap
        (λ (l : List ℕ). fds.with_descriptor
        (with_content s f (take at (content s f) ++ l ++ drop (at + length w) (content s f))) d fd
        (Some (on.File f (at + length w) mode))) text_is
        ∙ ap
        (λ n. fds.with_descriptor (with_content s f (take at (content s f) ++ bytes ++ drop (at + n) (content s f)))
        d fd (Some (on.File f (at + n) mode))) long
does_write_file s t d fd f at a mode bytes (reply.Refused x) placed live writes is has step =
    refused-write s t d fd f at (file s f).pool mode bytes x step.1
    (subst (λ n. MatchOption (first ((refuse.TooLong when nat_lt MAX_FILE_BYTES (at + n)) ∷ []))
    (WantOfRoom (file s f).pool x) (λ y. x ≡ y)) long
    (subst (λ o. MatchOption o (WantOfRoom (file s f).pool x) (λ y. x ≡ y)) left
    (subst (λ o. MatchOption (first (writing.iol_write s d fd a).refusals) (writing.write_late s o x) (λ y. x ≡ y))
    is step.0)))
  where
    w : Text
    w = text s d a

    long : length w ≡ length bytes
    long = sym (length-bytes w) ∙ ap (λ (l : List ℕ). length l) (text-of s d a bytes has)

    left : first (writing.iol_write s d fd a).refusals
        ≡ first ((refuse.TooLong when nat_lt MAX_FILE_BYTES (at + length w)) ∷ [])
    left = past-live s d _ live
        ∙ (ap
        (λ o. first ((refuse.BadFd when is_none o) ∷ (refuse.BadAgg when is_none (aggregate s d a))
        ∷ (refuse.WrongMode when not (writing.can_write o)) ∷ (refuse.TooLong when writing.is_too_long o (length w))
        ∷ (refuse.BrokenPipe when writing.is_broken s o)
        ∷ (refuse.WouldBlock when writing.takes_none s o (length w)) ∷ [])) is
        ∙ (past (refuse.BadAgg when is_none (aggregate s d a)) _
        (ap (λ b. refuse.BadAgg when b) (agg-there s d a bytes has))
        ∙ write-left s f at (length w) mode writes))
does_write_file s t d fd f at a mode bytes r placed live writes is has step = (let e = step.1 in absurd (cc))
